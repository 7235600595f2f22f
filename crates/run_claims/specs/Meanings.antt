-- What the answers of runs say: a query's rows are its meaning over the rows that the book's committed transactions leave
-- at its node, those up to its SCN where its transaction is READ ONLY, with the asker's own changes; and no key that it examines
-- is in doubt; a change counts the rows that it means. (SQL Language Reference.)
use Rattle.std.specs.Prelude.{◌≡◌, ℕ, List, slice_get, Some, true}
use Rattle.std.specs.List.{list_any}
use Rattle.node_rules.specs.Data.{Value, Change, RowSet, Answer, Place}
use Rattle.node_rules.specs.Data.answers
use Rattle.node_rules.specs.Rows.{same_value}
use Rattle.node_rules.specs.Meaning.{Gives, Changes, examined}
use Rattle.run_rules.specs.Data.{Happening}
use Rattle.run_rules.specs.Data.happenings
use Rattle.run_rules.specs.Facts.{Facts, outcome_at}
use Rattle.run_rules.specs.Branches.{Run, Trail, own_at, read_at_at}
use Rattle.run_rules.specs.Runs.{run_in, answered_by, meaning, view_by, locked_at, keys_in_doubt}
use Rattle.run_rules.specs.Trail.{with_begun}
use Rattle.run_rules.specs.Each.{AtEach}
use Rattle.run_rules.specs.Lawful.{History}

-- a key of a table is in doubt at a node
abbrev pub IsInDoubt : Facts → ℕ → List ℕ → Value → Type 0
IsInDoubt f n table key = list_any (same_value key) (keys_in_doubt f.book n table) ≡ true

-- the keys that a run examines
abbrev pub examined_by : Facts → Trail → Run → List Value
examined_by f tr r = examined r.statement r.table (view_by f.book r.branch (read_at_at tr r.branch) (own_at tr r.branch) r.table.name) (locked_at f.book tr r.branch.node r.table.name)

-- A query's rows are its meaning, and no key that it examines is in doubt.
pub record QueryIsMeant (f : Facts) (tr : Trail) (r : Run) (rows : RowSet) : Type 0 where
  pub gives : meaning f.book (read_at_at tr r.branch) (own_at tr r.branch) r ≡ Gives rows
  pub certain : (i : ℕ) (key : Value) → slice_get (examined_by f tr r) i ≡ Some key → IsInDoubt f r.branch.node r.table.name key → ⊥

-- what an answer of a run says of it
abbrev pub AnswerIsMeant : Facts → Trail → Run → Answer → Type 0
AnswerIsMeant f tr r (answers.Found rows) = QueryIsMeant f tr r rows
AnswerIsMeant f tr r (answers.Did d n) = (cs : List Change) × (meaning f.book (read_at_at tr r.branch) (own_at tr r.branch) r ≡ Changes d n cs)
AnswerIsMeant f tr r (answers.Refused why) = Unit {0}

-- the answer of a run in a turn
abbrev pub RunIsMeant : List Place → Facts → Trail → Happening → Type 0
RunIsMeant places f tr (happenings.Turn u) = (r : Run) (a : Answer) → run_in f (with_begun f tr u) u ≡ Some r → answered_by (outcome_at places f u) ≡ Some a → AnswerIsMeant f tr r a
RunIsMeant places f tr _ = Unit {0}

-- each answer of a run of a statement is meant
abbrev pub RunsAreMeant : History → Type 0
RunsAreMeant t = AtEach RunIsMeant t
