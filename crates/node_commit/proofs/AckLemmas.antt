-- What a kept branch does about an Ack, once its row has the Ack.
use Rattle.std.proofs.Common.{◌≡◌, Bool, true, false, if◌then◌else◌, Option, None, Some, refl, sym, ap, subst, ◌∙◌}
use Rattle.std.specs.Option.{option_map}
use Rattle.tran_ids.specs.declared.branch.BranchId.{BranchId}
use Rattle.tran_ids.specs.Listed.{item_at, put_item}
use Rattle.tran_ids.proofs.ListedLemmas.{item_is, put_found}
use Rattle.redo_record.specs.declared.durable.KeptRow.{KeptRow}
use Rattle.commit_forget.specs.declared.next.Next.{Next}
use Rattle.commit_forget.specs.declared.next.Next.TheVariants as nexts
use Rattle.commit_forget.specs.Next.{acked_next, next_on_ack, ack_counts, acked_by}
use Rattle.node_rules.specs.NodeState.{NodeState, TurnDraft, nothing, kept_row_id, kept_row_at, with_kept_row}
use Rattle.node_rules.specs.Commit.{next_turn, on_ack}
use Rattle.node_memory.specs.Acks.{with_ack}
use Rattle.node_commit.specs.Branches.{where_kept, at_kept}

-- what is done by the row that stands then
abbrev done_at : NodeState → BranchId → BranchId → Next → TurnDraft
done_at k b from next = at_kept k b (λ s. next_turn k s from next)

acked_if : (k : NodeState) (b from : BranchId) (s acked : KeptRow) (next : Next) → Some s ≡ kept_row_at k b → acked.me ≡ b → (counts : Bool)
    → done_at (if counts then with_kept_row k acked else k) b from (if counts then next else nexts.Rest) ≡ (if counts then next_turn (with_kept_row k acked) acked from next else nothing k)
acked_if k b from s acked next found me true =
    let ks = k.stored.durable.kept in
    let there : item_at kept_row_id (put_item kept_row_id ks acked) b ≡ Some acked =
    subst (λ c. item_at kept_row_id (put_item kept_row_id ks acked) c ≡ Some acked) me (put_found kept_row_id ks acked) in
    ap (where_kept (with_kept_row k acked) (λ (x : KeptRow). next_turn (with_kept_row k acked) x from next)) there
acked_if k b from s acked next found me false = ap (where_kept k (λ (x : KeptRow). next_turn k x from nexts.Rest)) (sym found)

-- what a kept branch does about an Ack
ack_at : (k : NodeState) (b from : BranchId) (next : Next) (o : Option KeptRow) → o ≡ kept_row_at k b → Some next ≡ option_map (λ (s : KeptRow). acked_next s from) o
    → done_at (with_ack k from o) b from next ≡ where_kept k (λ (s : KeptRow). on_ack k s from) o
ack_at k b from next None found is = absurd cc
ack_at k b from next (Some s) found is =
    let some : Some next ≡ Some (acked_next s from) = is in
    let it : next ≡ acked_next s from = cc in
    ap (done_at (with_ack k from (Some s)) b from) it
    ∙ acked_if k b from s (acked_by s from) (next_on_ack (acked_by s from)) found (item_is kept_row_id k.stored.durable.kept b s (sym found)) (ack_counts s from)

pub ack_by : (k after : NodeState) (b from : BranchId) (next : Next) → after ≡ with_ack k from (kept_row_at k b) → Some next ≡ option_map (λ (s : KeptRow). acked_next s from) (kept_row_at k b)
    → at_kept after b (λ s. next_turn after s from next) ≡ at_kept k b (λ s. on_ack k s from)
ack_by k after b from next is acts = ap (λ (j : NodeState). done_at j b from next) is ∙ ack_at k b from next (kept_row_at k b) refl acts

-- nothing comes of an Ack where no row is
pub unheard : (k : NodeState) (from : BranchId) (o : Option KeptRow) → None ≡ option_map (λ (s : KeptRow). acked_next s from) o → o ≡ None
unheard k from None is = refl
unheard k from (Some s) is = absurd cc
