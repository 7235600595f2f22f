use Rattle.std.proofs.Common.{◌≡◌, ◌≤◌, ◌++◌, length, take}
use Rattle.std.specs.Vec.Iter.{into_iter_items}
use Rattle.row_store.proofs.own_sets.add_some.Given as goal

abbrev pub invariant-loop-change : goal.invariant-loop-change
invariant-loop-change l = record {
  all : l.made ++ into_iter_items l.change-iterator ≡ l.fn.made ++ l.fn.set;
  front : take (length l.fn.made) l.made ≡ l.fn.made;
  long : length l.fn.made ≤ length l.made;
}
