-- Crash-test comments: the ten places of a turn at which such a comment stops a node. (Database Administrator's Guide,
-- "Managing Distributed Transactions": simulating distributed transaction failure.)
use Rattle.std.specs.Prelude.{ℕ, ◌==◌, Bool, true, false, List, [], ◌∷◌, ◌++◌, find, flat_map, option_to_list, codes, Option, Some, None}
use Rattle.std.specs.Str.{bytes_eq}
use Rattle.tran_ids.specs.Numbers.{decimal}
use Rattle.crash_points.specs.declared.place.TurnPlace.{TurnPlace}
use Rattle.crash_points.specs.declared.place.TurnPlace.TheVariants as places

-- what every such comment begins with
abbrev pub test_begins : List ℕ
test_begins = codes "ORA-2PC-CRASH-TEST-"

-- the comment of a test
abbrev pub test_text : ℕ → List ℕ
test_text n = test_begins ++ decimal n

-- whether a comment is the test of this number
abbrev pub is_test : List ℕ → ℕ → Bool
is_test comment n = bytes_eq comment (test_text n)

-- the numbers of the tests
abbrev pub test_numbers : List ℕ
test_numbers = 1 ∷ 2 ∷ 3 ∷ 4 ∷ 5 ∷ 6 ∷ 7 ∷ 8 ∷ 9 ∷ 10 ∷ []

-- the number of a crash-test comment
unfoldable pub point_of : List ℕ → Option ℕ
point_of comment = find (is_test comment) test_numbers

-- the number of a place, at the commit point site and at another branch
abbrev pub number_at : Bool → TurnPlace → Option ℕ
number_at true places.Collected = Some 1
number_at false places.Collected = Some 2
number_at false places.BeforeSealed = Some 3
number_at false places.AfterSealed = Some 4
number_at true places.BeforeDecided = Some 5
number_at true places.AfterDecided = Some 6
number_at false places.BeforeEnded = Some 7
number_at false places.AfterEnded = Some 8
number_at true places.BeforeForgot = Some 9
number_at false places.BeforeForgot = Some 10
number_at _ _ = None

-- whether this is the number
abbrev pub is_number : ℕ → Option ℕ → Bool
is_number n None = false
is_number n (Some m) = n == m

-- whether a turn reaches a test's place
abbrev pub reached : ℕ → Bool → TurnPlace → Bool
reached n at_site place = is_number n (number_at at_site place)

-- the tests that these places reach
abbrev pub numbers_at : Bool → List TurnPlace → List ℕ
numbers_at at_site ps = flat_map (λ place. option_to_list (number_at at_site place)) ps
