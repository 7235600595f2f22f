-- Reads of a READ ONLY transaction, tried on a run of one node: session 2 reads the row 1 of a table, session 1 commits the row 2,
-- and session 2 reads the row 1 again. Where a branch is then forced to commit with an SCN that is not above that of session 2,
-- it would read both.
use Rattle.std.specs.Prelude.{◌≡◌, ℕ, false, List, [], ◌∷◌, ◌++◌, codes, pos, take, slice_get, Option, Some, None}
use Rattle.node_rules.specs.Data.{Value, Row, RowSet, Stmt, Answer, TableRef, Keyed, BranchId}
use Rattle.node_rules.specs.Data.answers
use Rattle.node_rules.specs.Data.decisions
use Rattle.node_rules.specs.Data.inputs
use Rattle.node_rules.specs.Data.picks
use Rattle.node_rules.specs.Data.stmts
use Rattle.node_rules.specs.Data.terms
use Rattle.node_rules.specs.Data.values
use Rattle.run_rules.specs.Book.{rows_of, rows_until}
use Rattle.run_rules.specs.Branches.{no_trail, read_at_at}
use Rattle.run_rules.specs.Data.{Turn, Happening, Entry}
use Rattle.run_rules.specs.Data.entries
use Rattle.run_rules.specs.Data.happenings
use Rattle.run_rules.specs.Facts.{Facts, first_facts, outcome_at, facts_of}
use Rattle.run_rules.specs.Runs.{answered_by, keys_in_doubt}
use Rattle.run_rules.specs.Trail.{trail_of}
use Rattle.run_branch_laws.specs.TriedRun.{places, turn_by, played, table_of_keys, one, insert}

-- a call of session 2
abbrev pub second_calls : Stmt → Facts → Turn
second_calls s f = turn_by f 1 (inputs.Call 2 (Some s)) None

-- a call of session 1
abbrev pub first_calls : Stmt → Facts → Turn
first_calls s f = turn_by f 1 (inputs.Call 1 (Some s)) None

-- the table
abbrev pub t : TableRef
t = record { name = codes "T"; link = None }

-- the other key
abbrev pub two : Value
two = values.Number (pos 2)

-- SELECT * FROM T
abbrev pub query : Stmt
query = stmts.Select picks.All t [] false

-- what comes to the node
abbrev pub coming : List (Facts → Turn)
coming =
    first_calls (stmts.CreateTable (table_of_keys (codes "T")))
    ∷ first_calls (insert t)
    ∷ first_calls (stmts.Commit None)
    ∷ second_calls stmts.SetReadOnly
    ∷ second_calls query
    ∷ first_calls (stmts.Insert t None ((record { first = terms.Literal two; rest = [] }) ∷ []))
    ∷ first_calls (stmts.Commit None)
    ∷ second_calls query
    ∷ []

-- what happens
abbrev pub trace : List Happening
trace = played (first_facts places) coming

-- the facts after so many happenings
abbrev pub after_so_many : ℕ → Facts
after_so_many i = facts_of places [] (first_facts places) (take i trace)

-- the answer in a turn
abbrev pub answer_of : Facts → Option Happening → Option Answer
answer_of f (Some (happenings.Turn u)) = answered_by (outcome_at places f u)
answer_of f _ = None

-- what a happening answers
abbrev pub answer_at : ℕ → Option Answer
answer_at i = answer_of (after_so_many i) (slice_get trace i)

-- the root of session 2
abbrev pub reader : BranchId
reader = record { node = 1; boot = 1; session = 2; seq = 1 }

-- a row of the table
abbrev pub row_of : Value → Row
row_of key = record { cells = key ∷ [] }

-- the row 1, as the query answers it
abbrev pub first_alone : RowSet
first_alone = record { heads = codes "K" ∷ []; rows = row_of one ∷ [] }

-- a row at its key
abbrev pub at : Value → Keyed
at key = record { key = key; row = row_of key }

-- a branch that is sealed later, with the row 2
abbrev pub other : BranchId
other = record { node = 1; boot = 1; session = 65; seq = 1 }

-- and is forced to commit with this SCN
abbrev pub forced_later : ℕ → List Entry
forced_later scn = entries.Sealed other other ((record { table = codes "T"; key = two; after = Some (row_of two) }) ∷ []) 3 ∷ entries.Forced other (decisions.Commit scn) ∷ []

-- Both times session 2 reads the row 1, though the table has both rows by then; with a forced commit at its own SCN it would not.
pub record TheTriedReads : Type 0 where
  pub reads_at : read_at_at (trail_of places [] (first_facts places) no_trail (take 4 trace)) reader ≡ Some 1
  pub reads : answer_at 4 ≡ Some (answers.Found first_alone)
  pub again : answer_at 7 ≡ Some (answers.Found first_alone)
  pub certain : keys_in_doubt (after_so_many 4).book 1 (codes "T") ≡ []
  pub until_then : rows_until (after_so_many 4).book 1 (codes "T") 1 ≡ at one ∷ []
  pub stays : rows_until (after_so_many 7).book 1 (codes "T") 1 ≡ at one ∷ []
  pub newest : rows_of (after_so_many 7).book 1 (codes "T") ≡ at one ∷ at two ∷ []
  pub above : rows_until (after_so_many 7).book 1 (codes "T") 2 ≡ at one ∷ at two ∷ []
  pub forced_above : rows_until ((after_so_many 4).book ++ forced_later 4) 1 (codes "T") 1 ≡ at one ∷ []
  pub forced_below : rows_until ((after_so_many 4).book ++ forced_later 1) 1 (codes "T") 1 ≡ at one ∷ at two ∷ []
