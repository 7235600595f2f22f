-- The call numbers that were noted last up to a step.
use Rattle.std.proofs.Common.{◌≡◌, ℕ, ◌+◌, ◌<◌, ◌≤◌, Bool, true, false, cond, List, [], ◌∷◌, ◌++◌, length, take, slice_index_or, refl, sym, ap, ◌∙◌, arith}
use Rattle.std.proofs.lemmas.List.{take_more}
use Rattle.std.proofs.lemmas.Bool.Decides.{nat_tests}
use Rattle.std.specs.Prelude.{filter}
use Rattle.savepoints.specs.declared.marks.Note.{Note}
use Rattle.savepoints.specs.Marks.{calls_in, is_until}

abbrev until : ℕ → List Note → List Note
until step ns = filter (is_until step) ns

last_if : (n : Note) (calls : List ℕ) (here : Bool) → calls_in calls (cond here (n ∷ []) []) ≡ cond here n.calls calls
last_if n calls true = refl
last_if n calls false = refl

push_if : (step : ℕ) (m n : Note) (ns : List Note) (calls : List ℕ) (here : Bool)
    → ((given : List ℕ) → calls_in given (until step (ns ++ n ∷ [])) ≡ cond (is_until step n) n.calls (calls_in given (until step ns)))
    → calls_in calls (cond here (m ∷ until step (ns ++ n ∷ [])) (until step (ns ++ n ∷ []))) ≡ cond (is_until step n) n.calls (calls_in calls (cond here (m ∷ until step ns) (until step ns)))
push_if step m n ns calls true later = later m.calls
push_if step m n ns calls false later = later calls

-- with one more note
pub calls_push : (step : ℕ) (ns : List Note) (n : Note) (calls : List ℕ) → calls_in calls (until step (ns ++ n ∷ [])) ≡ cond (is_until step n) n.calls (calls_in calls (until step ns))
calls_push step [] n calls = last_if n calls (is_until step n)
calls_push step (m ∷ ns) n calls = push_if step m n ns calls (is_until step m) (calls_push step ns n)

-- with the note at the next place, where it counts
pub calls_noted : (step : ℕ) (ns : List Note) (i : ℕ) (n : Note) → i < length ns → slice_index_or ns i n ≡ n → n.step ≤ step → n.calls ≡ calls_in [] (filter (is_until step) (take (i + 1) ns))
calls_noted step ns i n low is counts =
    let here : is_until step n ≡ true = grind (arith, nat_tests, counts) in
    let next : take (i + 1) ns ≡ take i ns ++ n ∷ [] = take_more ns i n low ∙ ap (λ (x : Note). take i ns ++ x ∷ []) is in
    sym (ap (λ xs. calls_in [] (until step xs)) next ∙ calls_push step (take i ns) n [] ∙ ap (λ t. cond t n.calls (calls_in [] (until step (take i ns)))) here)

-- and where it is of a later step
pub calls_passed : (step : ℕ) (ns : List Note) (i : ℕ) (n : Note) → i < length ns → slice_index_or ns i n ≡ n → step < n.step
    → calls_in [] (filter (is_until step) (take i ns)) ≡ calls_in [] (filter (is_until step) (take (i + 1) ns))
calls_passed step ns i n low is later =
    let here : is_until step n ≡ false = grind (arith, nat_tests, later) in
    let next : take (i + 1) ns ≡ take i ns ++ n ∷ [] = take_more ns i n low ∙ ap (λ (x : Note). take i ns ++ x ∷ []) is in
    sym (ap (λ xs. calls_in [] (until step xs)) next ∙ calls_push step (take i ns) n [] ∙ ap (λ t. cond t n.calls (calls_in [] (until step (take i ns)))) here)
