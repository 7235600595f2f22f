use Rattle.std.proofs.Common.{◌≡◌, sym, ap, subst, ◌∙◌}
use Rattle.node_memory.specs.Parts.{kept_in}
use Rattle.node_memory.specs.Acks.{with_ack}
use Rattle.node_memory.proofs.AckLaws.{acked_me, stays_kept, with_rows, acked_is}
use Rattle.node_memory.proofs.memory.Memory.hear_ack.Goals as goal

pub put-requires : goal.put-requires
put-requires c =
    stays_kept c.args.self.now.kept c.lend.new.self c.args.branch.now c.in_ok-row.row c.on_ack-next.new.row (sym c.in_ok-row.ensures.row) c.in_ok-row.ensures.kept
    (ap (λ x. x.me) c.on_ack-next.ensures.after ∙ acked_me c.in_ok-row.row c.args.from.now)

pub returns-clause-kept : goal.returns-clause-kept
returns-clause-kept c =
    let k = kept_in c.args.self.now in
    let found = sym c.in_ok-row.ensures.row in
    subst (λ o. with_rows k c.put.new.self ≡ with_ack k c.args.from.now o) (sym found)
    (acked_is k c.args.branch.now c.args.from.now c.in_ok-row.row c.on_ack-next.new.row c.lend.new.self c.put.new.self found c.on_ack-next.ensures.after c.in_ok-row.ensures.place c.put.ensures)
