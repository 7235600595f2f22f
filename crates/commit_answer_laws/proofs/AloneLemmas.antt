-- The neighbours that the record of a site names are those of its edges: a site that is alone has none, and another has a row.
use Rattle.std.proofs.Common.{◌≡◌, ℕ, ◌+◌, ◌||◌, Bool, true, false, if◌then◌else◌, List, [], ◌∷◌, ◌++◌, map, filter, slice_get, is_none, is_some, option_to_list, Option, Some, None, refl, ap, ◌∙◌}
use Rattle.node_rules.specs.Data.{BranchId, Change, Edge, Live, Peer}
use Rattle.node_rules.specs.Prepare.{is_alone, is_place, is_prepared, peer_record, named_children, decided_of, site_neighbors}
use Rattle.redo_record.specs.Rows.{kid_of, decided_as, has_neighbors}
use Rattle.run_claims.specs.Knowledge.{neighbors_of}

named_are : (es : List Edge) (i : ℕ) → map (λ (c : Peer). c.branch) (named_children None i es) ≡ map (λ (e : Edge). e.peer) (filter is_prepared es)
named_are [] i = refl
named_are (e ∷ es) i = by (is_prepared e) (named_are es (i + 1))
  where
    by : (q : Bool) → map (λ (c : Peer). c.branch) (named_children None (i + 1) es) ≡ map (λ (x : Edge). x.peer) (filter is_prepared es)
        → map (λ (c : Peer). c.branch) (if q || is_place i None then peer_record e ∷ named_children None (i + 1) es else named_children None (i + 1) es) ≡ map (λ (x : Edge). x.peer) (if q then e ∷ filter is_prepared es else filter is_prepared es)
    by true rest = ap (λ bs. e.peer ∷ bs) rest
    by false rest = rest

neighbors_are : (scn : ℕ) (l : Live) (changes : List Change) → neighbors_of (decided_of scn l changes) ≡ site_neighbors l
neighbors_are scn l changes = ap (λ bs. option_to_list l.parent ++ bs) (named_are l.edges 1)

none_first : (bs : List BranchId) → is_none (slice_get bs 0) ≡ true → bs ≡ []
none_first [] is = refl
none_first (b ∷ bs) is = absurd cc

-- a site that is alone names nobody
pub alone_names_none : (scn : ℕ) (l : Live) (changes : List Change) → is_alone l ≡ true → neighbors_of (decided_of scn l changes) ≡ []
alone_names_none scn l changes is = neighbors_are scn l changes ∙ none_first (site_neighbors l) is

some_first : (o : Option BranchId) (ps : List Peer) → is_none (slice_get (option_to_list o ++ map (λ (c : Peer). c.branch) ps) 0) ≡ false → (is_some o || is_some (slice_get (map kid_of ps) 0)) ≡ true
some_first (Some b) ps is = refl
some_first None [] is = absurd cc
some_first None (p ∷ ps) is = refl

-- another has a row
pub others_are_kept : (scn : ℕ) (l : Live) (changes : List Change) → is_alone l ≡ false → has_neighbors (decided_as (decided_of scn l changes)) ≡ true
others_are_kept scn l changes is = some_first l.parent (named_children None 1 l.edges) (ap (λ bs. is_none (slice_get bs 0)) (neighbors_are scn l changes) ∙ is)
