-- Which points a turn passes before its record and after.
use Rattle.std.proofs.Common.{◌≡◌, ℕ, ◌==◌, ◌||◌, ◌++◌, Bool, true, false, [], Option, Some, None, refl, arith}
use Rattle.std.specs.Prelude.{option_to_list}
use Rattle.std.specs.List.{list_any}
use Rattle.std.proofs.lemmas.Bool.Decides.{nat_tests}
use Rattle.crash_points.specs.declared.place.TurnPlace.{TurnPlace}
use Rattle.crash_points.specs.declared.place.TurnPlace.TheVariants as places
use Rattle.crash_points.specs.Points.{is_number, number_at, numbers_at}
use Rattle.node_points.specs.declared.places.Passes.{Passes}
use Rattle.node_points.specs.Passing.{passes_as}
use Rattle.node_points.specs.declared.point.Side.TheVariants as sides
use Rattle.node_points.specs.Points.{numbers_on, is_at_place, is_before_record}

-- a place that is reached, among none, one and two
one_place : (k : ℕ) (a : Option ℕ) → is_number k a ≡ list_any (λ n. n == k) (option_to_list a ++ [])
one_place k None = refl
one_place k (Some m) = grind (arith, nat_tests)

or_nothing : (k : ℕ) (a : Option ℕ) → (is_number k a || false) ≡ list_any (λ n. n == k) (option_to_list a ++ [])
or_nothing k None = refl
or_nothing k (Some m) = grind (arith, nat_tests)

two_places : (k : ℕ) (a b : Option ℕ) → (is_number k a || is_number k b) ≡ list_any (λ n. n == k) (option_to_list a ++ (option_to_list b ++ []))
two_places k None b = one_place k b
two_places k (Some m) None = grind (arith, nat_tests)
two_places k (Some m) (Some n) = grind (arith, nat_tests)

maybe_place : (at_site : Bool) (k : ℕ) (place : Option TurnPlace) → is_at_place at_site k place ≡ list_any (λ n. n == k) (numbers_at at_site (option_to_list place))
maybe_place at_site k None = refl
maybe_place at_site k (Some place) = one_place k (number_at at_site place)

before_is : (at_site collected : Bool) (k : ℕ) (before : Option TurnPlace) (p : Passes) → p.at_site ≡ at_site → p.collected ≡ collected → p.before ≡ before
    → is_before_record p k ≡ list_any (λ n. n == k) (passes_as p).before
before_is at_site false k before p s c b = rw (s, c, b) (maybe_place at_site k before)
before_is at_site true k None p s c b = rw (s, c, b) (or_nothing k (number_at at_site places.Collected))
before_is at_site true k (Some place) p s c b = rw (s, c, b) (two_places k (number_at at_site places.Collected) (number_at at_site place))

-- before the record
pub passed_before : (p : Passes) (k : ℕ) → is_before_record p k ≡ list_any (λ n. n == k) (numbers_on sides.Before (passes_as p))
passed_before p k = before_is p.at_site p.collected k p.before p refl refl refl

-- and after
pub passed_after : (p : Passes) (k : ℕ) → is_at_place p.at_site k p.after ≡ list_any (λ n. n == k) (numbers_on sides.After (passes_as p))
passed_after p k = maybe_place p.at_site k p.after
