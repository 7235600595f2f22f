-- A row that is put back after an Ack.
use Rattle.std.proofs.Common.{◌≡◌, Bool, true, false, if◌then◌else◌, List, [], ◌∷◌, Some, refl, sym, ap, subst, ◌∙◌}
use Rattle.std.specs.Prelude.{find, is_some}
use Rattle.tran_ids.proofs.ListedLemmas.{item_is}
use Rattle.tran_ids.specs.declared.branch.BranchId.{BranchId}
use Rattle.tran_ids.specs.Branch.{same}
use Rattle.tran_ids.specs.Listed.{item_at, put_item}
use Rattle.redo_record.specs.declared.durable.KeptRow.{KeptRow}
use Rattle.redo_record.specs.Kept.{stands_at}
use Rattle.node_rules.specs.NodeState.{NodeState, kept_row_id, with_kept_row}
use Rattle.node_rules.specs.Commit.{ack_counts, acked_by}
use Rattle.commit_forget.specs.Next.{after_ack}
use Rattle.node_memory.specs.Acks.{with_ack}

acked_me_if : (s : KeptRow) (from : BranchId) (counts : Bool) → (if counts then acked_by s from else s).me ≡ s.me
acked_me_if s from true = refl
acked_me_if s from false = refl

-- the row is of the same branch
pub acked_me : (s : KeptRow) (from : BranchId) → (after_ack s from).me ≡ s.me
acked_me s from = acked_me_if s from (ack_counts s from)

put_same_if : (y x : KeptRow) (ys : List KeptRow) (here : Bool) → (if here then Some y else item_at kept_row_id ys x.me) ≡ Some x → (item_at kept_row_id ys x.me ≡ Some x → put_item kept_row_id ys x ≡ ys)
    → (if here then x ∷ ys else y ∷ put_item kept_row_id ys x) ≡ y ∷ ys
put_same_if y x ys true found later = let it : Some y ≡ Some x = found in cc
put_same_if y x ys false found later = ap (λ zs. y ∷ zs) (later found)

-- the row that stands there is put in its own place
pub put_same : (ks : List KeptRow) (x : KeptRow) → item_at kept_row_id ks x.me ≡ Some x → put_item kept_row_id ks x ≡ ks
put_same [] x found = absurd cc
put_same (y ∷ ys) x found = put_same_if y x ys (same y.me x.me) found (put_same ys x)

-- a row of the branch stands where its own was lent
pub stays_kept : (old lent : List KeptRow) (b : BranchId) (s row : KeptRow) → item_at kept_row_id old b ≡ Some s → is_some (find (stands_at b) lent) ≡ is_some (find (stands_at b) old) → row.me ≡ s.me
    → is_some (find (stands_at row.me) lent) ≡ true
stays_kept old lent b s row found kept me = ap (λ m. is_some (find (stands_at m) lent)) (me ∙ item_is kept_row_id old b s found) ∙ kept ∙ ap is_some found

-- with these rows of kept branches
abbrev pub with_rows : NodeState → List KeptRow → NodeState
with_rows k ks = record k { stored = record k.stored { durable = record k.stored.durable { kept = ks } } }

acked_if : (k : NodeState) (s : KeptRow) (from : BranchId) (counts : Bool) → item_at kept_row_id k.stored.durable.kept s.me ≡ Some s
    → with_rows k (put_item kept_row_id k.stored.durable.kept (if counts then acked_by s from else s)) ≡ (if counts then with_kept_row k (acked_by s from) else k)
acked_if k s from true there = refl
acked_if k s from false there = ap (with_rows k) (put_same k.stored.durable.kept s there)

-- the row that was lent is put back, with the Ack where it counts
pub acked_is : (k : NodeState) (b from : BranchId) (s row : KeptRow) (lent ks : List KeptRow) → item_at kept_row_id k.stored.durable.kept b ≡ Some s → row ≡ after_ack s from
    → ((x : KeptRow) → x.me ≡ b → put_item kept_row_id lent x ≡ put_item kept_row_id k.stored.durable.kept x) → ks ≡ put_item kept_row_id lent row → with_rows k ks ≡ with_ack k from (Some s)
acked_is k b from s row lent ks found is place now =
    let me : s.me ≡ b = item_is kept_row_id k.stored.durable.kept b s found in
    let row_me : row.me ≡ b = ap (λ x. x.me) is ∙ acked_me s from ∙ me in
    ap (with_rows k) (now ∙ place row row_me ∙ ap (put_item kept_row_id k.stored.durable.kept) is)
    ∙ acked_if k s from (ack_counts s from) (subst (λ m. item_at kept_row_id k.stored.durable.kept m ≡ Some s) (sym me) found)
