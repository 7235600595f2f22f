-- Which of two logs is the active one, by the bodies that they hold.
use Rattle.std.specs.Prelude.{◌==◌, ℕ, Bool, true, false, if◌then◌else◌, nat_le, nat_lt, List, [], ◌∷◌, length, take, Option, Some, None}
use Rattle.std.specs.Int.{from_be_bytes, w64}
use Rattle.redo_log.specs.Cells.{bodies}
use Rattle.checkpoint.specs.declared.active.Side.{Side}
use Rattle.checkpoint.specs.declared.active.Side.TheVariants.{First, Second}

-- the generation that the body of an image states in eight bytes behind its kind, which is 13; 0 in each other body
abbrev pub stated_generation : List ℕ → ℕ
stated_generation [] = 0
stated_generation (format ∷ []) = 0
stated_generation (format ∷ kind ∷ fields) = if kind == 13 then (if nat_le 8 (length fields) then from_be_bytes w64 (take 8 fields) else 0) else 0

-- the generation of a list is that of its first body
abbrev pub generation_of : List (List ℕ) → Option ℕ
generation_of [] = None
generation_of (body ∷ list) = Some (stated_generation body)

-- the second list is the active one where it is not empty, and the first is empty or of a lower generation
abbrev pub is_later : Option ℕ → Option ℕ → Bool
is_later first None = false
is_later None (Some second) = true
is_later (Some first) (Some second) = nat_lt first second

abbrev pub second_leads : List (List ℕ) → List (List ℕ) → Bool
second_leads first second = is_later (generation_of first) (generation_of second)

-- of two things, that of the first or of the second log
abbrev pub picked : {T : Type 0} → Bool → T → T → T
picked true first second = second
picked false first second = first

-- the active list of two that are there
abbrev pub active_of_two : Option (List (List ℕ)) → Option (List (List ℕ)) → Option (List (List ℕ))
active_of_two None second = None
active_of_two (Some first) None = None
active_of_two (Some first) (Some second) = Some (picked (second_leads first second) first second)

-- the active list of two disks; none where one of them holds no log
abbrev pub active_list : List ℕ → List ℕ → Option (List (List ℕ))
active_list first second = active_of_two (bodies first) (bodies second)

-- the active list where the disk of this log holds this image, and the other one these bytes
abbrev pub list_with : Bool → List ℕ → List ℕ → Option (List (List ℕ))
list_with true image other = active_list other image
list_with false image other = active_list image other

-- the log that this names
abbrev pub side_of : Bool → Side
side_of true = Second
side_of false = First

-- whether this names the second log
abbrev pub is_second : Side → Bool
is_second First = false
is_second Second = true

-- the active log of two lists of which one is not empty
abbrev pub active_side : Option ℕ → Option ℕ → Option Side
active_side None None = None
active_side None (Some second) = Some Second
active_side (Some first) second = Some (side_of (is_later (Some first) second))

-- the active log of two disks; none where one of them holds no log, or both lists are empty
abbrev pub side_of_lists : Option (List (List ℕ)) → Option (List (List ℕ)) → Option Side
side_of_lists None second = None
side_of_lists (Some first) None = None
side_of_lists (Some first) (Some second) = active_side (generation_of first) (generation_of second)
