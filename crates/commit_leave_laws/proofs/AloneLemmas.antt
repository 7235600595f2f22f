-- A site that is not alone has a row that names a neighbour.
use Rattle.std.proofs.Common.{◌≡◌, ℕ, ◌+◌, ◌||◌, Bool, true, false, if◌then◌else◌, List, [], ◌∷◌, ◌++◌, map, filter, slice_get, is_none, is_some, option_to_list, Option, Some, None, refl}
use Rattle.node_rules.specs.Data.{BranchId, Change, Edge, Live}
use Rattle.node_rules.specs.Prepare.{is_alone, is_place, is_prepared, peer_record, named_children, decided_of}
use Rattle.redo_record.specs.Rows.{kid_of, decided_as, has_neighbors}

neighbors_by : (o : Option BranchId) (es : List Edge) (i : ℕ) → is_none (slice_get (option_to_list o ++ map (λ (e : Edge). e.peer) (filter is_prepared es)) 0) ≡ false
    → (is_some o || is_some (slice_get (map kid_of (named_children None i es)) 0)) ≡ true
neighbors_by (Some b) es i is = refl
neighbors_by None [] i is = absurd cc
neighbors_by None (e ∷ es) i is = by (is_prepared e) is (neighbors_by None es (i + 1))
  where
    by : (q : Bool) → is_none (slice_get (map (λ (x : Edge). x.peer) (if q then e ∷ filter is_prepared es else filter is_prepared es)) 0) ≡ false
        → (is_none (slice_get (map (λ (x : Edge). x.peer) (filter is_prepared es)) 0) ≡ false → is_some (slice_get (map kid_of (named_children None (i + 1) es)) 0) ≡ true)
        → is_some (slice_get (map kid_of (if q || is_place i None then peer_record e ∷ named_children None (i + 1) es else named_children None (i + 1) es)) 0) ≡ true
    by true some rest = refl
    by false some rest = rest some

pub alone_or_kept : (scn : ℕ) (l : Live) (changes : List Change) → is_alone l ≡ false → has_neighbors (decided_as (decided_of scn l changes)) ≡ true
alone_or_kept scn l changes is = neighbors_by l.parent l.edges 1 is
