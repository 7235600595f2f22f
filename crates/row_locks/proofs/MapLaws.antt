-- What the map by branches does, as the numbers of each branch say it.
use Rattle.std.proofs.Common.{◌≡◌, ℕ, zero, suc, Bool, true, false, cond, List, [], ◌∷◌, slice_get, get_or, position, None, Some, Option, unwrap_or, is_some, true≢false, refl, sym, ap, subst, ◌∙◌}
use Rattle.std.specs.Prelude.{Result, Ok, Err, OnOk, OnErr}
use Rattle.std.specs.Map.{lookup, keys_of, values_of}
use Rattle.indexmap.specs.IndexMap.{IndexMap, IsUnique}
use Rattle.indexmap.proofs.CallerLemmas.{updates-with_value_at}
use Rattle.row_locks.proofs.KeptLaws.{first_entry}
use Rattle.indexmap.specs.Layout.{set_value_at}
use Rattle.tran_ids.specs.declared.branch.BranchId.{BranchId}
use Rattle.tran_ids.specs.Branch.{same}
use Rattle.tran_ids.proofs.BranchLemmas.{equal_from_same}
use Rattle.tran_ids.specs.contracts.branch.BranchIdPartialEq.TheImpl as of_key
use Rattle.tran_ids.specs.contracts.branch.BranchIdEq.TheImpl.Laws.{laws-law}
use Rattle.row_locks.specs.ByBranch.{numbers_at}

-- the test by which the map finds a branch
abbrev pub found_as : BranchId → BranchId → Bool
found_as = of_key.eq-value.it

abbrev pub Entry : Type 0
Entry = BranchId × List ℕ

key_is : (b : BranchId) (k : BranchId) → found_as b k ≡ same k b
key_is b k = laws-law.symm b k

-- a look-up in the map
pub numbers_are : (b : BranchId) (es : List Entry) → unwrap_or (lookup (found_as b) es) [] ≡ numbers_at es b
numbers_are b es = λ i. unwrap_or (lookup (λ k. key_is b k i) es) []

-- the numbers of a branch that the map finds
pub numbers_there : (b : BranchId) (es : List Entry) (x : List ℕ) → lookup (found_as b) es ≡ Some x → numbers_at es b ≡ x
numbers_there b es x there = sym (numbers_are b es) ∙ ap (λ o. unwrap_or o []) there

put_step : (hit : Bool) (w old : Option (List ℕ)) → unwrap_or (cond hit w old) [] ≡ cond hit (unwrap_or w []) (unwrap_or old [])
put_step true w old = refl
put_step false w old = refl

-- what the map has after a call, at each branch
pub updated : (b : BranchId) (w : Option (List ℕ)) (es fs : List Entry)
    → ((q : BranchId) → lookup (found_as q) fs ≡ cond (found_as b q) w (lookup (found_as q) es))
    → (c : BranchId) → numbers_at fs c ≡ cond (same b c) (unwrap_or w []) (numbers_at es c)
updated b w es fs put c =
    sym (numbers_are c fs) ∙ ap (λ o. unwrap_or o []) (put c) ∙ put_step (same b c) w (lookup (found_as c) es)
    ∙ ap (cond (same b c) (unwrap_or w [])) (numbers_are c es)

at_branch : (b c : BranchId) (hit : Bool) (f : List ℕ → List ℕ) (es : List Entry) (rest : List ℕ) → same b c ≡ hit → cond hit (f (numbers_at es b)) rest ≡ cond hit (f (numbers_at es c)) rest
at_branch b c true f es rest is = ap (λ d. f (numbers_at es d)) (equal_from_same b c is)
at_branch b c false f es rest is = refl

-- and where the branch's own have changed
pub updated_by : (b : BranchId) (f : List ℕ → List ℕ) (x : List ℕ) (es fs : List Entry) → numbers_at es b ≡ x
    → ((q : BranchId) → lookup (found_as q) fs ≡ cond (found_as b q) (Some (f x)) (lookup (found_as q) es))
    → (c : BranchId) → numbers_at fs c ≡ cond (same b c) (f (numbers_at es c)) (numbers_at es c)
updated_by b f x es fs its put c =
    updated b (Some (f x)) es fs put c ∙ ap (λ ns. cond (same b c) (f ns) (numbers_at es c)) (sym its) ∙ at_branch b c (same b c) f es (numbers_at es c) refl

-- the same numbers put at their place
pub same_set : (es : List Entry) (i : ℕ) (x : List ℕ) → slice_get (values_of es) i ≡ Some x → set_value_at es i x ≡ es
same_set [] i x there = refl
same_set (e ∷ es) zero x there = ap (λ (y : List ℕ). (e.0, y) ∷ es) (sym (ap (λ o. unwrap_or o []) there))
same_set (e ∷ es) (suc i) x there = ap (λ (ds : List Entry). e ∷ ds) (same_set es i x there)

pub on_ok : {T E P Q : Type 0} (r : Result T E) → (P → Q) → OnOk r P → OnOk r Q
on_ok (Ok x) f p = f p
on_ok (Err e) f p = tt

pub on_err : {T E P Q : Type 0} (r : Result T E) → (P → Q) → OnErr r P → OnErr r Q
on_err (Ok x) f p = tt
on_err (Err e) f p = f p

none_so : (o : Option (List ℕ)) → false ≡ is_some o → unwrap_or o [] ≡ []
none_so None h = refl
none_so (Some x) h = absurd (true≢false (sym h))

-- a branch that the map does not find has none
pub numbers_none : (b : BranchId) (es : List Entry) → false ≡ is_some (lookup (found_as b) es) → numbers_at es b ≡ []
numbers_none b es h = sym (numbers_are b es) ∙ none_so (lookup (found_as b) es) h

-- numbers that are put at the place of a branch
pub placed : {S : Type 0} (b : BranchId) (m : IndexMap BranchId (List ℕ) S) (i : ℕ) (x y : List ℕ) {k : BranchId} → IsUnique found_as m → position (found_as k) (keys_of m.entries) ≡ Some i
    → k ≡ b → x ≡ y → (q : BranchId) → lookup (found_as q) (set_value_at m.entries i x) ≡ cond (found_as b q) (Some y) (lookup (found_as q) m.entries)
placed b m i x y unique at is value q =
    let found = subst (λ j. position (found_as j) (keys_of m.entries) ≡ Some i) is at in
    let first = first_entry (found_as b) m.entries i (b, []) found in
    let e = get_or m.entries i (b, []) in
    let put = updates-with_value_at m i x laws-law unique e.0 e.1 first.0 in
    put.0 q ∙ (λ j. cond (sym (laws-law.congr b e.0 q first.1) j) (Some (value j)) (lookup (found_as q) m.entries))
