-- What a statement meets at its table, by the book and the branch history as they stand before its turn, and what it is answered: the
-- rows that the book leaves there, with its branch's own changes; the keys that live branches of the node hold, and those in doubt by the
-- book; and the space that is left to its branch. The order of the causes of a refusal is that of `ran_over`. (SQL Language
-- Reference; Database Administrator's Guide, "Distributed Transactions Concepts": locks of in-doubt transactions; "Managing Undo".)
use Rattle.std.specs.Prelude.{◌≡◌, ℕ, ◌+◌, ◌-◌, ◌==◌, ◌||◌, Bool, true, false, List, [], ◌∷◌, ◌++◌, filter, flat_map, map, sum_by, Option, Some, None}
use Rattle.sql_check.specs.Refusals.{dtx}
use Rattle.sql_eval.specs.Rows.{apply, change_length}
use Rattle.row_locks.specs.Locks.{Lock}
use Rattle.row_store.specs.Own.{before, changes_length, extents}
use Rattle.stmt_run.specs.Run.{StmtContext, ran_over, answer_of_run}
use Rattle.node_rules.specs.Data.{Answer, BranchId, Change, Place}
use Rattle.node_rules.specs.Data.answers
use Rattle.node_rules.specs.NodeState.{NodeState}
use Rattle.node_rules.specs.Statement.{reads_too_old}
use Rattle.run_rules.specs.Book.{changes_of, in_doubt, rows_by_book}
use Rattle.run_rules.specs.Branches.{Run, Trail, held_keys, is_live_at, own_at, own_changes, read_at_at}
use Rattle.run_rules.specs.Data.{Entry, Happening}
use Rattle.run_rules.specs.Data.happenings
use Rattle.run_rules.specs.Each.{AtEach}
use Rattle.run_rules.specs.Facts.{Facts, node_at, outcome_at, place_at}
use Rattle.run_rules.specs.Lawful.{History}
use Rattle.run_rules.specs.Runs.{run_in, answered_by, view_by}
use Rattle.run_rules.specs.Trail.{with_begun}

-- ---- keys that are held

-- the lock of a branch in doubt on the key of one of its changes
abbrev pub doubt_lock : BranchId → Change → Lock
doubt_lock b c = record { table = c.table; key = c.key; branch = b; writes = true; in_doubt = true }

-- the keys of a node that live branches have written and hold, and those that branches in doubt have changed
abbrev pub locks_by : List Entry → Trail → ℕ → List Lock
locks_by book tr n = flat_map held_keys (filter (is_live_at n) tr.seen) ++ flat_map (λ b. map (doubt_lock b) (changes_of book b)) (in_doubt book n)

-- ---- space

-- the bytes of the undo of changes at a node, after earlier ones: each with the row from before it
abbrev pub undo_by : List Entry → ℕ → List Change → List Change → ℕ
undo_by book n earlier [] = 0
undo_by book n earlier (c ∷ cs) = change_length (before (apply c.table (rows_by_book book n c.table) earlier) c) + undo_by book n (earlier ++ c ∷ []) cs

-- the undo extents that live branches of a node and those in doubt hold
abbrev pub used_by : List Entry → Trail → ℕ → ℕ
used_by book tr n =
    sum_by (λ s. extents (undo_by book n [] (own_changes s))) (filter (is_live_at n) tr.seen) + sum_by (λ b. extents (undo_by book n [] (changes_of book b))) (in_doubt book n)

-- ---- a run

-- whether the SCN of a READ ONLY transaction lies too far back for its node
abbrev pub too_old_at : Option NodeState → Option ℕ → Bool
too_old_at None read_at = false
too_old_at (Some k) read_at = reads_too_old k read_at

-- what a run meets
abbrev pub met_by : Place → Facts → Trail → Run → StmtContext
met_by p f tr r = record {
  me = r.branch;
  view = view_by f.book r.branch (read_at_at tr r.branch) (own_at tr r.branch) r.table.name;
  too_old = too_old_at (node_at f r.branch.node) (read_at_at tr r.branch);
  locks = locks_by f.book tr r.branch.node;
  bytes = changes_length (own_at tr r.branch);
  undo = undo_by f.book r.branch.node [] (own_at tr r.branch);
  free = p.undo - used_by f.book tr r.branch.node;
}

-- what it is answered: the first refusal for a cause that there is, or the rows, or the number of the changes
abbrev pub answer_by : Place → Facts → Trail → Run → Answer
answer_by p f tr r = answer_of_run (ran_over (met_by p f tr r) r.statement r.table)

-- whether a session refuses a statement before it comes to a table: a transaction that can only roll back, or a READ ONLY one that would write
abbrev pub is_of_session : Answer → Bool
is_of_session (answers.Refused r) = (r.code == 2067) || (r.code == (dtx 21 []).code)
is_of_session _ = false

-- the answer of a run in a turn
abbrev pub AnswersAsMet : List Place → Facts → Trail → Happening → Type 0
AnswersAsMet places f tr (happenings.Turn u) = (r : Run) (a : Answer) → run_in f (with_begun f tr u) u ≡ Some r → answered_by (outcome_at places f u) ≡ Some a → is_of_session a ≡ false → a ≡ answer_by (place_at places u.node) f tr r
AnswersAsMet places f tr _ = Unit {0}

-- that each run of a statement that comes to its table is answered so; parts of it are proved (`specs/AcceptedLaws.antt`,
-- `specs/RefusedLaws.antt`)
abbrev pub RunsAnswerAsMet : History → Type 0
RunsAnswerAsMet t = AtEach AnswersAsMet t
