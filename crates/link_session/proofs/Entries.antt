-- What the map of answered Opens does, told by the list of them.
use Rattle.std.proofs.Common.{◌≡◌, ℕ, Bool, true, false, ◌&&◌, cond, List, [], ◌∷◌, ◌++◌, map, find, Option, None, Some, refl, ap, sym, ◌∙◌, arith}
use Rattle.std.proofs.lemmas.Bool.{and_parts}
use Rattle.std.proofs.lemmas.Bool.Decides.{nat_tests}
use Rattle.std.specs.Prelude.{◌==◌}
use Rattle.std.specs.Map.{lookup, keys_of}
use Rattle.std.specs.List.{AllByRecursion, IsDistinct}
use Rattle.tran_ids.specs.declared.branch.BranchId.{BranchId}
use Rattle.tran_ids.specs.Branch.{same}
use Rattle.tran_ids.proofs.BranchLemmas.{equal_from_same}
use Rattle.indexmap.specs.IndexMap.{insert_entry}
use Rattle.link_session.specs.declared.open_key.OpenKey.{OpenKey}
use Rattle.link_session.specs.declared.open_key.Opened.{Opened}
use Rattle.link_session.specs.declared.opening.Opening.{Opening}
use Rattle.link_session.specs.contracts.open_key.OpenKeyPartialEq.TheImpl as of_key
use Rattle.link_session.specs.contracts.open_key.OpenKeyEq.TheImpl.Laws.{laws-law}
use Rattle.link_session.specs.Opens.{is_opening, opening_of, with_opening, are_of_one_edge, AreOfDistinctEdges}
use Rattle.link_session.specs.Keyed.{parent_of, told_as, opening_in, told_by}

-- the test by which the map finds a key
abbrev pub found_as : OpenKey → OpenKey → Bool
found_as = of_key.eq-value.it

-- the key of a parent and an edge
abbrev pub key_of : BranchId → ℕ → OpenKey
key_of b edge = record { node = b.node; boot = b.boot; session = b.session; seq = b.seq; edge = edge }

regroup : (a b c d e : Bool) → (a && (b && (c && (d && e)))) ≡ ((a && (b && (c && d))) && e)
regroup true true true true e = refl
regroup true true true false e = refl
regroup true true false d e = refl
regroup true false c d e = refl
regroup false b c d e = refl

key_is : (a : OpenKey) (o : Opened) (q : OpenKey) → found_as a q ≡ is_opening (parent_of q) q.edge (opening_in (a, o))
key_is a o q = regroup (a.node == q.node) (a.boot == q.boot) (a.session == q.session) (a.seq == q.seq) (a.edge == q.edge)

found_is : (q : OpenKey) (e : OpenKey × Opened) → found_as q e.0 ≡ is_opening (parent_of q) q.edge (opening_in e)
found_is q e = laws-law.symm q e.0 ∙ key_is e.0 e.1 q

apart : (k : OpenKey) (o : Opened) (es : List (OpenKey × Opened)) → AllByRecursion (λ x. found_as k x ≡ false) (keys_of es)
    → AllByRecursion (λ x. are_of_one_edge (opening_in (k, o)) x ≡ false) (map opening_in es)
apart k o [] h = tt
apart k o (e ∷ es) h = (sym (key_is k o e.0) ∙ h.0, apart k o es h.1)

-- no two are of one parent and edge
pub distinct_are : (es : List (OpenKey × Opened)) → IsDistinct found_as (keys_of es) → AreOfDistinctEdges (map opening_in es)
unfolding IsDistinct
distinct_are [] h = tt
distinct_are (e ∷ es) h = (apart e.0 e.1 es h.0, distinct_are es h.1)

found_step : (hit : Bool) (parent : BranchId) (edge : ℕ) (e : OpenKey × Opened) (more : Option Opened) (rest : Option Opening)
    → is_opening parent edge (opening_in e) ≡ hit → told_by parent edge more ≡ rest → told_by parent edge (cond hit (Some e.1) more) ≡ cond hit (Some (opening_in e)) rest
found_step true parent edge e more rest is later =
    let parts = and_parts (same (parent_of e.0) parent) (e.0.edge == edge) is in
    let parents : parent_of e.0 ≡ parent = equal_from_same (parent_of e.0) parent parts.0 in
    let edges : e.0.edge ≡ edge = grind (arith, nat_tests, parts.1) in
    λ i. Some (told_as (sym parents i) (sym edges i) e.1)
found_step false parent edge e more rest is later = later

-- what the map finds is the answer
pub opened_is : (parent : BranchId) (edge : ℕ) (es : List (OpenKey × Opened)) → told_by parent edge (lookup (found_as (key_of parent edge)) es) ≡ opening_of (map opening_in es) parent edge
opened_is parent edge [] = refl
opened_is parent edge (e ∷ es) =
    ap (λ b. told_by parent edge (cond b (Some e.1) (lookup (found_as (key_of parent edge)) es))) (found_is (key_of parent edge) e)
    ∙ found_step (is_opening parent edge (opening_in e)) parent edge e _ _ refl (opened_is parent edge es)

insert_step : (hit : Bool) (e f : OpenKey × Opened) (es more : List (OpenKey × Opened)) (o : Opening) (rest : Option Opening)
    → cond hit (Some (opening_in e)) rest ≡ None → (rest ≡ None → map opening_in more ≡ map opening_in es ++ o ∷ []) → map opening_in (cond hit (f ∷ es) (e ∷ more)) ≡ opening_in e ∷ (map opening_in es ++ o ∷ [])
insert_step true e f es more o rest none later = absurd cc
insert_step false e f es more o rest none later = ap (λ os. opening_in e ∷ os) (later none)

-- an answer that is put where there was none stands behind the others
pub insert_is : (es : List (OpenKey × Opened)) (parent : BranchId) (edge : ℕ) (o : Opened) → opening_of (map opening_in es) parent edge ≡ None
    → map opening_in (insert_entry found_as es (key_of parent edge) o) ≡ with_opening (map opening_in es) (told_as parent edge o)
insert_is [] parent edge o none = refl
insert_is (e ∷ es) parent edge o none =
    ap (λ b. map opening_in (cond b ((e.0, o) ∷ es) (e ∷ insert_entry found_as es (key_of parent edge) o))) (found_is (key_of parent edge) e)
    ∙ insert_step (is_opening parent edge (opening_in e)) e (e.0, o) es _ (told_as parent edge o) (opening_of (map opening_in es) parent edge) none (insert_is es parent edge o)
