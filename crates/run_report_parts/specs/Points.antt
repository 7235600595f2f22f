-- The points of crash-test comments at the places of a turn before its record, and after it.
pub use Rattle.node_points.specs.Points.{numbers_on}
