use Rattle.std.proofs.Common.{Some, None, sym, ◌∙◌, arith}
use Rattle.script_read.proofs.PieceLemmas.{all_behind, stop_within, stop_on, stop_off, no_stop}
use Rattle.script_read.proofs.cut.cut.Goals as goal

pub loop-further-preserved : goal.loop-further-preserved
loop-further-preserved c =
    let found = all_behind c.args.bytes.now c.loop-further.part c.loop-further.place (Some c.in-Some.further) c.in-Some.ensures in
    record {
      within = omega (arith, stop_within c.args.bytes.now c.loop-further.part c.loop-further.place c.in-Some.further found c.loop-further.invariant.within);
      so_far = rw (c.part_behind-part.ensures, c.behind-after.ensures) (stop_on c.args.bytes.now c.loop-further.part c.loop-further.place c.in-Some.further found c.loop-further.invariant.within (sym c.ends_command.ensures ∙ c.if-ends_command.false) c.loop-further.invariant.so_far);
    }

pub returns-then-ends_command-clause-cut : goal.returns-then-ends_command-clause-cut
returns-then-ends_command-clause-cut c =
    rw c.behind-after.ensures (stop_off c.args.bytes.now c.loop-further.part c.loop-further.place c.in-Some.further (all_behind c.args.bytes.now c.loop-further.part c.loop-further.place (Some c.in-Some.further) c.in-Some.ensures) c.loop-further.invariant.within (sym c.ends_command.ensures ∙ c.if-ends_command.true) c.loop-further.invariant.so_far)

pub returns-clause-whole : goal.returns-clause-whole
returns-clause-whole c = no_stop c.args.bytes.now c.loop-further.part c.loop-further.place (all_behind c.args.bytes.now c.loop-further.part c.loop-further.place None c.in_default.ensures) c.loop-further.invariant.within c.loop-further.invariant.so_far
