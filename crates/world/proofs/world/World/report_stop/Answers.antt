use Rattle.std.proofs.Common.{ℕ, ◌-◌, List, get_or, is_some, ap, sym, ◌∙◌}
use Rattle.tran_ids.specs.Texts.{name_of}
use Rattle.node_rules.specs.Data.{Place}
use Rattle.run_rules.specs.Data.{Command}
use Rattle.run_rules.specs.Facts.{command_at}
use Rattle.run_trace.specs.Recorded.{past_of}
use Rattle.run_rules.specs.RunReport.{RunReport}
use Rattle.run_rules.specs.Past.{acts, report_stopped}
use Rattle.world.proofs.SlotLemmas.{place_is}
use Rattle.world.proofs.TryLemmas.{on_ok}
use Rattle.world.proofs.world.World.report_stop.Goals as goal

pub returns-clause-tells : goal.returns-clause-tells
returns-clause-tells c =
    let x = c.index-places-from.result in
    let place = place_is c.args.self.now.trace.places c.args.node x c.requires.there.0 c.requires.there.1
    (c.index-places-from.is ∙ (ap (λ (ps : List Place). get_or ps (c.from.result - 1) x) c.places.ensures ∙ ap (λ (k : ℕ). get_or c.args.self.now.trace.places (k - 1) x) c.from.ensures)) in
    on_ok c.stop-told.result _ _ c.stop-told.ensures.tells (λ tells.
    tells c.args.self.now.trace.places c.args.self.now.trace.asked (past_of c.args.self.now.trace).facts
    (record { running = c.requires.held.parts.running; up = c.requires.up; owed = c.is_some.ensures ∙ ap is_some c.requires.held.parts.to_stop })
    (c.node_name-name.ensures ∙ ap (λ (names : List (List ℕ)). name_of names c.args.node) (c.as_slice.ensures ∙ sym (ap (λ (p : Place). p.names) place)))
    (c.command_at-command.ensures ∙ (ap (λ (cs : List Command). command_at cs c.args.self.now.running) c.asked.ensures ∙ ap (λ (n : ℕ). command_at c.args.self.now.trace.asked n) c.requires.held.parts.running))
    ∙ ap (λ (t : RunReport). acts (report_stopped c.args.self.now.trace.places c.args.self.now.trace.asked (past_of c.args.self.now.trace).facts t c.args.node)) c.requires.held.parts.run_report)
