-- A start, tried on the run of two nodes: B seals its branch, stops and starts, and has no row, but the key locked by its
-- branch in doubt; after the commit it stops and starts again, and has the row of the book, and no lock.
use Rattle.std.specs.Prelude.{◌≡◌, List, [], ◌∷◌, ◌++◌, codes, find, map, take, Option, Some, None}
use Rattle.std.specs.Option.{option_map}
use Rattle.row_locks.specs.Locks.{Lock, is_lock_on}
use Rattle.node_rules.specs.Data.{BranchId, Row}
use Rattle.node_rules.specs.NodeState.{kept_row_id}
use Rattle.node_rules.specs.Rows.{get, rows_of_table}
use Rattle.run_rules.specs.Book.{rows_of}
use Rattle.run_rules.specs.Data.{Turn}
use Rattle.run_rules.specs.Data.happenings
use Rattle.run_rules.specs.Facts.{Facts, first_facts, node_at, facts_of}
use Rattle.run_branch_laws.specs.TriedRun.{places, played, coming, one, b}
use Rattle.start_laws.specs.StartLaws.{doubter_of, lock_in_doubt}

-- B stops and starts after these
abbrev pub started_after : List (Facts → Turn) → Facts
started_after comes = facts_of places [] (first_facts places) (played (first_facts places) comes ++ happenings.Stopped 2 ∷ happenings.Started 2 2 ∷ [])

-- B is sealed
abbrev pub in_doubt : Facts
in_doubt = started_after (take 11 coming)

-- B has ended and forgotten
abbrev pub done : Facts
done = started_after coming

-- what B has at the key
abbrev pub row_at_b : Facts → Option (Option Row)
row_at_b f = option_map (λ k. get (rows_of_table k.stored.rows (codes "T")) one) (node_at f 2)

abbrev pub lock_at_b : Facts → Option (Option Lock)
lock_at_b f = option_map (λ k. find (is_lock_on (codes "T") one) k.locks) (node_at f 2)

abbrev pub rows_kept_at_b : Facts → Option (List BranchId)
rows_kept_at_b f = option_map (λ k. map kept_row_id k.stored.durable.kept) (node_at f 2)

-- The key is in doubt and locked after the one start, and has its row after the other.
pub record TheTriedStart : Type 0 where
  pub doubter : doubter_of in_doubt.book 2 (codes "T") one ≡ Some b
  pub row_in_doubt : row_at_b in_doubt ≡ Some None
  pub lock : lock_at_b in_doubt ≡ Some (Some (lock_in_doubt (codes "T") one b))
  pub kept : rows_kept_at_b in_doubt ≡ Some (b ∷ [])
  pub settled : doubter_of done.book 2 (codes "T") one ≡ None
  pub book : get (rows_of done.book 2 (codes "T")) one ≡ Some (record { cells = one ∷ [] })
  pub row : row_at_b done ≡ Some (Some (record { cells = one ∷ [] }))
  pub free : lock_at_b done ≡ Some None
