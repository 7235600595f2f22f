-- What a node keeps after the record by which a live branch leaves.
use Rattle.std.proofs.Common.{◌≡◌, ℕ, Bool, true, false, not, cond, max, List, [], ◌∷◌, refl, sym, ap, ◌∙◌}
use Rattle.std.specs.Prelude.{filter}
use Rattle.tran_ids.specs.declared.branch.BranchId.{BranchId}
use Rattle.tran_ids.specs.Branch.{same, put_by_branch}
use Rattle.tran_ids.specs.Listed.{drop_item}
use Rattle.row_locks.specs.Locks.{Lock, is_held_by, without}
use Rattle.row_store.specs.Store.{Contents, own_id, doubt_id, doubt_from, sealed, committed}
use Rattle.row_store.specs.Tables.{apply_all}
use Rattle.redo_record.specs.Durable.{durable_after, with_kept}
use Rattle.redo_record.specs.Kept.{kept_after}
use Rattle.node_rules.specs.Data.{Sealed, Decided, KeptRow, Owned}
use Rattle.node_rules.specs.Data.records
use Rattle.node_rules.specs.NodeState.{NodeState, without_branch}
use Rattle.node_rules.specs.Prepare.{own_changes}
use Rattle.read_only_tx.specs.Versions.{Versions, with_commit}
use Rattle.node_rules.specs.Records.{applied, with_doubt, with_record, raised_to, top_by, commit_of, versions_by}
use Rattle.node_memory.proofs.PartLaws.{contents_in}

module _ {A : Type 0} (p : A → Bool) where
  filter_twice_if : (x : A) (xs : List A) (here : Bool) → p x ≡ here → filter p (filter p xs) ≡ filter p xs → filter p (cond here (x ∷ filter p xs) (filter p xs)) ≡ cond here (x ∷ filter p xs) (filter p xs)
  filter_twice_if x xs true is rest = ap (λ here. cond here (x ∷ filter p (filter p xs)) (filter p (filter p xs))) is ∙ ap (λ ys. x ∷ ys) rest
  filter_twice_if x xs false is rest = rest

  -- what is taken out of a list is out of it
  filter_twice : (xs : List A) → filter p (filter p xs) ≡ filter p xs
  filter_twice [] = refl
  filter_twice (x ∷ xs) = filter_twice_if x xs (p x) refl (filter_twice xs)

-- a branch that holds no key gives back none
pub without_twice : (ls : List Lock) (b : BranchId) → without (without ls b) b ≡ without ls b
without_twice ls b = filter_twice (λ l. not (is_held_by b l)) ls

-- a branch that has no changes drops none
pub owns_dropped_twice : (os : List Owned) (b : BranchId) → drop_item own_id (drop_item own_id os b) b ≡ drop_item own_id os b
owns_dropped_twice os b = filter_twice (λ o. not (same (own_id o) b)) os

-- the parts of memory before the branch is dropped
abbrev pub with_parts : NodeState → Contents → List KeptRow → ℕ → NodeState
with_parts k s ks scn = record k { stored = record k.stored { durable = with_kept k.stored.durable ks; rows = s.rows; doubts = s.doubts; scn = scn; top = k.stored.top; generation = k.stored.generation }; owns = s.owns }

-- when a branch has become sealed, by the steps of the code
abbrev pub after_seal : NodeState → BranchId → Sealed → Contents → List KeptRow → ℕ → NodeState
after_seal k b r s ks scn = record (without_branch (with_parts k s ks scn) b) { locks = with_doubt (without k.locks b) b r.changes }

-- with these changes left of others
abbrev with_owns : NodeState → List Owned → NodeState
with_owns k os = record k { owns = os }

seal_is : (k : NodeState) (b : BranchId) (r : Sealed) (extents : ℕ) → r.me ≡ b → r.changes ≡ own_changes k b
    → after_seal k b r (sealed (contents_in k extents) b) (kept_after k.stored.durable.kept (records.Sealed r)) (max k.stored.scn r.scn) ≡ with_record (without_branch k b) (records.Sealed r)
unfolding applied durable_after
seal_is k b r extents is own =
    let done = with_record (without_branch k b) (records.Sealed r) in
    let doubt = ap (λ m. doubt_from k.stored.rows m r.changes) is ∙ ap (doubt_from k.stored.rows b) own in
    let keys = ap (λ m. with_doubt (without (without k.locks b) m) m r.changes) is ∙ ap (λ ls. with_doubt ls b r.changes) (without_twice k.locks b) in
    ap (with_owns (after_seal k b r (sealed (contents_in k extents) b) (kept_after k.stored.durable.kept (records.Sealed r)) (max k.stored.scn r.scn))) (owns_dropped_twice k.owns b)
    ∙ sym (ap (λ d. record done { stored = record done.stored { doubts = put_by_branch doubt_id k.stored.doubts d } }) doubt
    ∙ ap (λ ls. record done { stored = record done.stored { doubts = put_by_branch doubt_id k.stored.doubts (doubt_from k.stored.rows b (own_changes k b)) }; locks = ls }) keys)

-- a branch that becomes sealed
pub sealed_taken : (k m : NodeState) (b : BranchId) (r : Sealed) (s : Contents) (extents : ℕ) (ks : List KeptRow) (scn : ℕ) (locks : List Lock) → r.me ≡ b → r.changes ≡ own_changes k b
    → ks ≡ kept_after k.stored.durable.kept (records.Sealed r) → s ≡ sealed (contents_in k extents) b → scn ≡ max k.stored.scn r.scn
    → m ≡ without_branch (with_parts k s ks scn) b → locks ≡ with_doubt m.locks b r.changes → (record m { locks = locks }) ≡ with_record (without_branch k b) (records.Sealed r)
sealed_taken k m b r s extents ks scn locks me own kept store number is now =
    ap (λ ls. record m { locks = ls }) now
    ∙ ap (λ (j : NodeState). record j { locks = with_doubt j.locks b r.changes }) is
    ∙ ap (λ t. after_seal k b r t ks scn) store
    ∙ ap (λ x. after_seal k b r (sealed (contents_in k extents) b) x scn) kept
    ∙ ap (after_seal k b r (sealed (contents_in k extents) b) (kept_after k.stored.durable.kept (records.Sealed r))) number
    ∙ seal_is k b r extents me own

-- when a branch has decided, by the steps of the code
abbrev pub after_decision : NodeState → BranchId → Contents → List KeptRow → ℕ → ℕ → Versions → NodeState
after_decision k b s ks scn top vs = record (without_branch (with_parts k s ks scn) b) { stored = record (with_parts k s ks scn).stored { top = top }; versions = vs }

decision_is : (k : NodeState) (b : BranchId) (r : Decided) (extents : ℕ) → r.changes ≡ own_changes k b
    → after_decision k b (committed (contents_in k extents) b) (kept_after k.stored.durable.kept (records.Decided r)) (max k.stored.scn r.scn) (raised_to k.stored.top r.scn r.changes)
    (with_commit k.stored.rows k.versions r.scn r.changes) ≡ with_record (without_branch k b) (records.Decided r)
unfolding applied durable_after
decision_is k b r extents own =
    let done = with_record (without_branch k b) (records.Decided r) in
    ap
    (with_owns
    (after_decision k b (committed (contents_in k extents) b) (kept_after k.stored.durable.kept (records.Decided r)) (max k.stored.scn r.scn) (raised_to k.stored.top r.scn r.changes)
    (with_commit k.stored.rows k.versions r.scn r.changes))) (owns_dropped_twice k.owns b)
    ∙ sym (ap (λ cs. record done { stored = record done.stored { rows = apply_all k.stored.rows cs } }) own)

-- a branch that decides
pub decision_taken : (k m : NodeState) (b : BranchId) (r : Decided) (s : Contents) (extents : ℕ) (ks : List KeptRow) (scn top : ℕ) (vs : Versions) → r.changes ≡ own_changes k b
    → ks ≡ kept_after k.stored.durable.kept (records.Decided r) → s ≡ committed (contents_in k extents) b → scn ≡ max k.stored.scn r.scn
    → top ≡ top_by k.stored.top (commit_of k.stored.doubts (records.Decided r)) → vs ≡ versions_by k.stored.rows k.versions (commit_of k.stored.doubts (records.Decided r))
    → m ≡ after_decision k b s ks scn top vs → m ≡ with_record (without_branch k b) (records.Decided r)
decision_taken k m b r s extents ks scn top vs own kept store number highest newest is =
    let done = committed (contents_in k extents) b in
    let rows = kept_after k.stored.durable.kept (records.Decided r) in
    is
    ∙ ap (λ t. after_decision k b t ks scn top vs) store
    ∙ ap (λ x. after_decision k b done x scn top vs) kept
    ∙ ap (λ n. after_decision k b done rows n top vs) number
    ∙ ap (λ n. after_decision k b done rows (max k.stored.scn r.scn) n vs) highest
    ∙ ap (after_decision k b done rows (max k.stored.scn r.scn) (raised_to k.stored.top r.scn r.changes)) newest
    ∙ decision_is k b r extents own
