use Rattle.std.proofs.Common.{◌-◌, List, length, get_or, ap, sym, ◌∙◌, arith}
use Rattle.run_rules.specs.Data.{Command}
use Rattle.run_trace.specs.Recorded.{past_of}
use Rattle.world.proofs.BeginLemmas.{command_read}
use Rattle.world_parts.proofs.BegunLemmas.{begins_inside}
use Rattle.world.proofs.world.World.begin.Goals as goal

pub overflow_sub-number : goal.overflow_sub-number
overflow_sub-number c = (begins_inside c.args.self.now.trace.asked (past_of c.args.self.now.trace) c.args.number c.requires.due).0

pub bounds-asked-number : goal.bounds-asked-number
bounds-asked-number c =
    let inside = begins_inside c.args.self.now.trace.asked (past_of c.args.self.now.trace) c.args.number c.requires.due in
    let asked = ap (λ (cs : List Command). length cs) c.asked.ensures in
    omega (arith, inside.0, inside.1, asked)

pub begin_with-begun-requires-clause-command : goal.begin_with-begun-requires-clause-command
begin_with-begun-requires-clause-command c =
    let inside = begins_inside c.args.self.now.trace.asked (past_of c.args.self.now.trace) c.args.number c.requires.due in
    let x = c.index-asked-number.result in
    c.in_ok-command.ensures
    ∙ sym (command_read c.args.self.now.trace.asked c.args.number x inside.0 inside.1 (c.index-asked-number.is ∙ ap (λ (cs : List Command). get_or cs (c.args.number - 1) x) c.asked.ensures))
