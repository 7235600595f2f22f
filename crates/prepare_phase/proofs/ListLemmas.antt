-- A site has no neighbour where it has no parent and no child answered Prepared. How many children did.
use Rattle.std.proofs.Common.{◌≡◌, ◌&&◌, ◌||◌, not, Bool, true, false, if◌then◌else◌, List, [], ◌∷◌, ◌++◌, map, filter, Option, Some, None, ℕ, ◌-◌, ◌<◌, ◌≤◌, length, take, min, refl, sym, ap, ◌∙◌, arith}
use Rattle.std.specs.Prelude.{is_none, is_some, slice_get, option_to_list}
use Rattle.std.specs.List.{list_any, count_by}
use Rattle.std.proofs.lemmas.List.{length-take}
use Rattle.std.proofs.lemmas.List.Sums.{count_by-le-length, length-filter}
use Rattle.dtx_values.specs.Limits.{link_limit}
use Rattle.tran_ids.specs.declared.branch.BranchId.{BranchId}
use Rattle.session_tree.specs.declared.edge.Edge.{Edge}
use Rattle.session_tree.specs.declared.live.Live.{Live}
use Rattle.prepare_phase.specs.Records.{is_prepared, is_alone, prepared_before}

none_if : (prepared : Bool) (e : Edge) (es found : List Edge) → not (list_any is_prepared es) ≡ is_none (slice_get (map (λ x. x.peer) found) 0)
    → not (prepared || list_any is_prepared es) ≡ is_none (slice_get (map (λ x. x.peer) (if prepared then e ∷ found else found)) 0)
none_if true e es found is = refl
none_if false e es found is = is

none_prepared : (es : List Edge) → not (list_any is_prepared es) ≡ is_none (slice_get (map (λ x. x.peer) (filter is_prepared es)) 0)
none_prepared [] = refl
none_prepared (e ∷ es) = none_if (is_prepared e) e es (filter is_prepared es) (none_prepared es)

alone_by : (parent : Option BranchId) (es : List Edge) → (is_none parent && not (list_any is_prepared es)) ≡ is_none (slice_get (option_to_list parent ++ map (λ x. x.peer) (filter is_prepared es)) 0)
alone_by None es = none_prepared es
alone_by (Some b) es = refl

pub alone_is : (l : Live) → (is_none l.parent && not (list_any is_prepared l.edges)) ≡ is_alone l
alone_is l = alone_by l.parent l.edges

pub none_is : (o : Option BranchId) → is_none o ≡ not (is_some o)
none_is None = refl
none_is (Some b) = refl

-- where there is no parent, the children decide
pub alone_then : (l : Live) → is_none l.parent ≡ true → not (list_any is_prepared l.edges) ≡ is_alone l
alone_then l none = sym (ap (λ b. b && not (list_any is_prepared l.edges)) none) ∙ alone_is l

-- ---- how many children answered Prepared

-- those before a child that did, no more than a byte holds
pub prepared_fits : (path : ℕ) (es : List Edge) → length es ≤ link_limit → (count_by is_prepared (take (path - 1) es) ≡ prepared_before path es) × (count_by is_prepared (take (path - 1) es) < 256)
prepared_fits path es most =
    let within : count_by is_prepared (take (path - 1) es) ≤ length (take (path - 1) es) = count_by-le-length is_prepared (take (path - 1) es) in
    let taken : length (take (path - 1) es) ≡ min (path - 1) (length es) = length-take (path - 1) es in
    (sym (length-filter is_prepared (take (path - 1) es)), omega (arith, within, taken, most))
