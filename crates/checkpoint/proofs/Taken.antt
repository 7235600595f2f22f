-- The bytes of two disks name the log that a load of them takes.
use Rattle.std.proofs.Common.{◌≡◌, ℕ, Bool, List, [], ◌∷◌, Option, Some, None, unwrap_or, refl, sym, ap, ◌∙◌}
use Rattle.checkpoint.specs.Active.{generation_of, second_leads, picked, active_of_two, side_of, active_side, side_of_lists}

-- where the list that leads is not empty, its log is the active one
side_found : (first second : List (List ℕ)) → (picked (second_leads first second) first second ≡ [] → ⊥) → active_side (generation_of first) (generation_of second) ≡ Some (side_of (second_leads first second))
side_found [] [] some = absurd (some refl)
side_found [] (b ∷ second) some = refl
side_found (a ∷ first) second some = refl

abbrev is_some_list : List (List ℕ) → Option (List (List ℕ))
is_some_list list = Some list

same_list : (a b : List (List ℕ)) → is_some_list a ≡ is_some_list b → a ≡ b
same_list a b e = cc

-- the two lists, what was taken of them, and which log leads
pub side_taken : (one two : Option (List (List ℕ))) (list : List (List ℕ)) (active : Bool) → active_of_two one two ≡ Some list → (list ≡ [] → ⊥)
    → second_leads (unwrap_or one []) (unwrap_or two []) ≡ active → side_of_lists one two ≡ Some (side_of active)
side_taken None two list active loaded some leads = absurd cc
side_taken (Some first) None list active loaded some leads = absurd cc
side_taken (Some first) (Some second) list active loaded some leads =
    let is : picked (second_leads first second) first second ≡ list = same_list _ _ loaded in
    side_found first second (λ none. some (sym is ∙ none)) ∙ ap (λ (b : Bool). Some (side_of b)) leads

-- none is named where one of the lists is not there, or both are empty
pub none_first : (one two : Option (List (List ℕ))) → one ≡ None → side_of_lists one two ≡ None
none_first None two e = refl
none_first (Some first) two e = absurd cc

pub none_second : (one two : Option (List (List ℕ))) → two ≡ None → side_of_lists one two ≡ None
none_second None two e = refl
none_second (Some first) None e = refl
none_second (Some first) (Some second) e = absurd cc

pub none_empty : (one two : Option (List (List ℕ))) → one ≡ Some [] → two ≡ Some [] → side_of_lists one two ≡ None
none_empty one two e f = rw (e, f) refl
