-- The points of crash-test comments at the places of a turn before its record, and after it.
use Rattle.std.specs.Prelude.{ℕ, ◌&&◌, ◌||◌, Bool, false, List, Option, Some, None}
use Rattle.crash_points.specs.declared.place.TurnPlace.{TurnPlace}
use Rattle.crash_points.specs.declared.place.TurnPlace.TheVariants as places
use Rattle.crash_points.specs.Points.{reached}
use Rattle.node_rules.specs.Points.{Passes as PassesByRules}
use Rattle.node_points.specs.declared.places.Passes.{Passes}
use Rattle.node_points.specs.declared.point.Side.{Side}
use Rattle.node_points.specs.declared.point.Side.TheVariants as sides

-- the points at the places of a side
abbrev pub numbers_on : Side → PassesByRules → List ℕ
numbers_on sides.Before x = x.before
numbers_on sides.After x = x.after

-- whether a branch reaches a point at a place, where the turn has one
abbrev pub is_at_place : Bool → ℕ → Option TurnPlace → Bool
is_at_place at_site n None = false
is_at_place at_site n (Some place) = reached n at_site place

-- whether a turn reaches a point before its record
abbrev pub is_before_record : Passes → ℕ → Bool
is_before_record p n = (p.collected && reached n p.at_site places.Collected) || is_at_place p.at_site n p.before
