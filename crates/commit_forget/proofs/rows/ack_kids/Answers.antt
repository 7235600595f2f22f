use Rattle.std.proofs.Common.{ap, ◌∙◌, sym}
use Rattle.std.proofs.Math.ListN.{set}
use Rattle.std.proofs.lemmas.List.Edits.{map_over_more}
use Rattle.commit_forget.specs.Next.{acks_kid}
use Rattle.commit_forget.proofs.rows.ack_kids.Goals as goal

pub loop-kid-preserved : goal.loop-kid-preserved
loop-kid-preserved c =
    ap (set c.loop-kid.kid-items c.loop-kid.kid-index) (c.ack_if_it_is.ensures ∙ ap (acks_kid c.args.from.now) (sym c.kid-item.is))
    ∙ map_over_more (acks_kid c.args.from.now) c.deref_mut-kid-items.result.now c.loop-kid.kid-items c.loop-kid.kid-index c.kid-item.result c.loop-kid-test.true c.loop-kid.invariant c.kid-item.is
