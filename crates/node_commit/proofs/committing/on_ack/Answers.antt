use Rattle.std.proofs.Common.{sym, ap, subst, ◌∙◌}
use Rattle.std.specs.Prelude.{IfOk}
use Rattle.node_memory.specs.Parts.{kept_in}
use Rattle.node_rules.specs.Data.{KeptRow}
use Rattle.node_rules.specs.NodeState.{nothing, kept_row_at}
use Rattle.node_rules.specs.Commit.{on_ack}
use Rattle.node_drafts.specs.Gives.{GivesDraft}
use Rattle.node_memory.specs.Acks.{with_ack}
use Rattle.node_commit.specs.Branches.{where_kept}
use Rattle.node_commit.proofs.AckLemmas.{ack_by, unheard}
use Rattle.node_commit.proofs.committing.on_ack.Goals as goal

pub returns-in-None-clause-gives : goal.returns-in-None-clause-gives
returns-in-None-clause-gives c =
    let k = kept_in c.args.memory.now in
    let from = c.args.from in
    let none = unheard k from (kept_row_at k c.args.branch.now) (sym c.in-None.is ∙ c.hear_ack.ensures.next) in
    subst (λ d. GivesDraft d (kept_in c.hear_ack.new.self) c.nothing.result) (sym (ap (where_kept k (λ (s : KeptRow). on_ack k s from)) none))
    (subst (λ j. GivesDraft (nothing k) j c.nothing.result) (sym (c.hear_ack.ensures.kept ∙ ap (with_ack k from) none)) (c.nothing.ensures.gives k))

pub returns-in-Some-clause-gives : goal.returns-in-Some-clause-gives
returns-in-Some-clause-gives c =
    subst (λ d. IfOk c.next_turn.result (λ draft. GivesDraft d (kept_in c.next_turn.new.memory) draft))
    (ack_by (kept_in c.args.memory.now) (kept_in c.hear_ack.new.self) c.args.branch.now c.args.from c.in-Some.next c.hear_ack.ensures.kept (sym c.in-Some.is ∙ c.hear_ack.ensures.next))
    c.next_turn.ensures.gives
