use Rattle.std.proofs.Common.{◌≡◌, ◌++◌, map, drop}
use Rattle.row_store.specs.Own.{before}
use Rattle.row_store.specs.Store.{seen_by}
use Rattle.row_store.proofs.store.Store.seen.Given as goal

abbrev pub invariant-loop-change : goal.invariant-loop-change
invariant-loop-change l =
    l.undo ++ map (λ c. before (seen_by l.self l.branch c.table) c) (drop l.change-index l.changes) ≡ map (λ c. before (seen_by l.self l.branch c.table) c) l.changes
