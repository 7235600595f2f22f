-- A sealed branch of which its node knows nothing learned a rollback or forgot.
use Rattle.std.proofs.Common.{◌≡◌, ◌||◌, Bool, true, false, if◌then◌else◌, List, [], ◌∷◌, Option, Some, None, refl, sym, ap, subst, ◌∙◌, inl, inr}
use Rattle.std.specs.List.{list_any}
use Rattle.redo_record.specs.Kept.{stands_at}
use Rattle.node_rules.specs.Data.{BranchId, KeptRow}
use Rattle.node_rules.specs.Words.{same, item_at}
use Rattle.node_rules.specs.NodeState.{NodeState, Branch, kept_row_id, branch_at, kept_row_at}
use Rattle.node_rules.specs.Turn.{Is_kept, Is_gone, kept_or_gone, live_or, status_of}
use Rattle.run_base_laws.specs.NodeLaws.{unacked_row}
use Rattle.run_base_laws.specs.EventRows.{IsKeptIn}
use Rattle.run_base_laws.specs.EventLaws.{GoneAreDone}
use Rattle.run_base_laws.proofs.StoredLemmas.{records_are_kept}
use Rattle.run_branch_laws.proofs.KeptRowLemmas.{any_map, sealed_are_kept}

-- a row that is there is found
found : (b : BranchId) (ks : List KeptRow) → IsKeptIn b ks → (s : KeptRow) × (item_at kept_row_id ks b ≡ Some s)
found b [] has = absurd cc
found b (x ∷ ks) has = by (same x.me b) refl (found b ks)
  where
    by : (here : Bool) → same x.me b ≡ here → (IsKeptIn b ks → (s : KeptRow) × (item_at kept_row_id ks b ≡ Some s)) → (s : KeptRow) × (item_at kept_row_id (x ∷ ks) b ≡ Some s)
    by true is later = (x, ap (λ q. if q then Some x else item_at kept_row_id ks b) is)
    by false is later =
        let rest : (s : KeptRow) × (item_at kept_row_id ks b ≡ Some s) = later (sym (ap (λ q. q || list_any (stands_at b) ks) is) ∙ has) in
        (rest.0, ap (λ q. if q then Some x else item_at kept_row_id ks b) is ∙ rest.1)

-- a branch with a row is live or kept
never_gone : (o : Option Branch) (row : Option KeptRow) (s : KeptRow) → row ≡ Some s → live_or o row ≡ Is_gone → ⊥
never_gone (Some x) row s is gone = absurd (cc (gone))
never_gone None row s is gone = let kept : Is_kept s ≡ Is_gone = sym (ap kept_or_gone is) ∙ gone in absurd cc

pub kept_not_gone : (k : NodeState) (b : BranchId) → IsKeptIn b k.stored.durable.kept → status_of k b ≡ Is_gone → ⊥
unfolding status_of
kept_not_gone k b has gone = let row = found b k.stored.durable.kept has in never_gone (branch_at k b) (kept_row_at k b) row.0 row.1 gone

pub gone_are_done : GoneAreDone
gone_are_done t lawful b k up gone n sealed = elim (sealed_are_kept t lawful b n sealed) [
  | inl row ↦ absurd (kept_not_gone k b
      (sym (any_map b unacked_row (λ x. refl) k.stored.durable.kept) ∙ subst (λ s. IsKeptIn b s.durable.kept) (sym (records_are_kept t lawful b.node k up)) row) gone)
  | inr done ↦ done
]
