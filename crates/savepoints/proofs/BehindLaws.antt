-- How many lists of changes were made behind a step, note by note.
use Rattle.std.proofs.Common.{◌≡◌, ℕ, ◌+◌, ◌<◌, ◌≤◌, suc, zero, Bool, true, false, cond, not, List, [], ◌∷◌, ◌++◌, length, take, slice_index_or, ap, ◌∙◌, arith}
use Rattle.std.proofs.lemmas.List.{take_more}
use Rattle.std.proofs.lemmas.List.Sums.{sum_by-cons}
use Rattle.std.proofs.lemmas.Bool.Decides.{nat_tests}
use Rattle.std.specs.Prelude.{filter, sum_by}
use Rattle.savepoints.specs.declared.marks.Note.{Note}
use Rattle.savepoints.specs.Marks.{is_until}

-- the lists of changes behind a step
abbrev pub behind : ℕ → List Note → ℕ
behind step ns = sum_by (λ n. n.sets) (filter (λ n. not (is_until step n)) ns)

-- those of one note
abbrev pub own : ℕ → Note → ℕ
own step n = cond (is_until step n) 0 n.sets

first_if : (step : ℕ) (n : Note) (ns : List Note) (until : Bool) → sum_by (λ x. x.sets) (cond (not until) (n ∷ filter (λ x. not (is_until step x)) ns) (filter (λ x. not (is_until step x)) ns)) ≡ cond until 0 n.sets + behind step ns
first_if step n ns true = omega arith
first_if step n ns false = sum_by-cons (λ (x : Note). x.sets) n (filter (λ x. not (is_until step x)) ns)

first : (step : ℕ) (n : Note) (ns : List Note) → behind step (n ∷ ns) ≡ own step n + behind step ns
first step n ns = first_if step n ns (is_until step n)

push : (step : ℕ) (ns : List Note) (n : Note) → behind step (ns ++ n ∷ []) ≡ behind step ns + own step n
push step [] n = let f = first step n [] in omega arith
push step (m ∷ ns) n =
    let f = first step m (ns ++ n ∷ []) in
    let g = first step m ns in
    let later = push step ns n in
    omega arith

-- with the note at the next place
pub behind_next : (step : ℕ) (ns : List Note) (i : ℕ) (n : Note) → i < length ns → slice_index_or ns i n ≡ n → behind step (take (i + 1) ns) ≡ behind step (take i ns) + own step n
behind_next step ns i n low is = ap (behind step) (take_more ns i n low ∙ ap (λ (x : Note). take i ns ++ x ∷ []) is) ∙ push step (take i ns) n

-- the first notes have no more than all
pub behind_low : (step i : ℕ) (ns : List Note) → behind step (take i ns) ≤ behind step ns
behind_low step zero ns = omega arith
behind_low step (suc i) [] = omega arith
behind_low step (suc i) (n ∷ ns) =
    let f = first step n (take i ns) in
    let g = first step n ns in
    let later = behind_low step i ns in
    omega arith

-- a note of this step or an earlier one has none behind it
pub own_none : (step : ℕ) (n : Note) → n.step ≤ step → own step n ≡ 0
own_none step n low = let is : is_until step n ≡ true = grind (arith, nat_tests, low) in ap (λ t. cond t 0 n.sets) is

-- one of a later step has its own
pub own_all : (step : ℕ) (n : Note) → step < n.step → own step n ≡ n.sets
own_all step n late = let is : is_until step n ≡ false = grind (arith, nat_tests, late) in ap (λ t. cond t 0 n.sets) is
