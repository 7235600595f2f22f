use Rattle.std.proofs.Common.{◌≡◌}
use Rattle.row_store.specs.Store.{without_sets}
use Rattle.row_store.proofs.store.Store.undo_sets.Given as goal

-- so many of the last sets are taken back
abbrev pub invariant-loop : goal.invariant-loop
invariant-loop l = l.self ≡ record l.initial.self { owns = without_sets l.initial.self.owns l.branch l.counter }
