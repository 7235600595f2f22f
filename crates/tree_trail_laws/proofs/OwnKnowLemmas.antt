-- What is told of a live branch, with its changes and the calls that it took, before a statement runs and after it.
use Rattle.std.proofs.Common.{◌≡◌, ℕ, ◌&&◌, Bool, true, false, List, [], Option, Some, None, refl, ap, ◌∙◌, ◌≢◌, map, Result, Ok, Err}
use Rattle.sql_eval.specs.Meaning.{meant, meant_over, picked}
use Rattle.node_rules.specs.Data.{Answer, Change, Table, Stmt, BranchId, Keyed, Place, Input, Picked, Refusal, Done, RowSet, Live, Row, Value}
use Rattle.node_rules.specs.Data.inputs
use Rattle.node_rules.specs.Words.{same}
use Rattle.node_rules.specs.Rows.{get}
use Rattle.node_rules.specs.NodeState.{NodeState, sets_at, work_at, live_at}
use Rattle.node_rules.specs.Prepare.{own_changes}
use Rattle.node_rules.specs.Turn.{heard}
use Rattle.run_rules.specs.Branches.{Run, Seen, Trail, seen_at, own_of}
use Rattle.run_rules.specs.Data.{Entry}
use Rattle.run_rules.specs.Runs.{is_accepted, changes_in, changes_rows}
use Rattle.run_rules.specs.Trail.{runs_for, runs_with}
use Rattle.tree_trail_laws.proofs.OwnCallLemmas.{last_of}
use Rattle.tree_trail_laws.proofs.OwnRunLemmas.{IsOfBook}
use Rattle.tree_trail_laws.proofs.OwnStepLemmas.{From, Itself, Begun, Counted}
use Rattle.tree_trail_laws.proofs.RunListLemmas.{own_is}
use Rattle.tree_trail_laws.specs.RunLaws.{RunsAre}
use Rattle.node_rules.specs.Meaning.{Meant, unless, checked, found, inserting, summed_set, cells_of, summed, inserted_cells, changing, updated}
use Rattle.node_rules.specs.Data.picks
use Rattle.node_rules.specs.Data.stmts
use Rattle.sql_eval.specs.declared.meant.Meant.TheVariants as meants
use Rattle.node_rules.specs.Data.values
use Rattle.node_rules.specs.Data.dones
use Rattle.node_rules.specs.Sessions.{session_at}
use Rattle.sql_check.specs.Columns.{cell, key_of_row}

-- A branch is told to be live, with the runs and the savepoints that a node keeps of it, and the greatest call number that it took;
-- at a root that is live the calls of its session are told, and one that begins with this turn has none.
pub record Knows (k : NodeState) (tr : Trail) (b : BranchId) : Type 0 where
  pub seen : Seen
  pub at : seen_at tr b ≡ Some seen
  pub live : seen.exit ≡ None
  pub runs : RunsAre seen.runs seen.taken (sets_at k.owns b) (work_at k b).marks.notes
  pub savepoints : seen.savepoints ≡ (work_at k b).marks.savepoints
  pub taken : seen.parent ≢ None → seen.taken ≡ last_of k b
  pub counts : seen.parent ≡ None → (l : Live) → live_at k b ≡ Some l → seen.taken ≡ (session_at k.sessions b.session).calls
  pub fresh : live_at k b ≡ None → seen.taken ≡ 0

-- so it is told with the changes that the node keeps
pub known_own : (k : NodeState) (tr : Trail) (b : BranchId) (it : Knows k tr b) → own_of (Some it.seen) ≡ own_changes k b
known_own k tr b it = own_is it.seen.runs it.seen.taken (sets_at k.owns b) (work_at k b).marks.notes it.runs

-- a transaction that begins, or a call that is counted, changes nothing of the runs
pub from_runs : (p : Place) (input : Input) {k j : NodeState} → From p input k j → (s : Seen) (b : BranchId) → RunsAre s.runs s.taken (sets_at k.owns b) (work_at k b).marks.notes → RunsAre s.runs s.taken (sets_at j.owns b) (work_at j b).marks.notes
from_runs p input (Itself k) s b it = it
from_runs p input (Begun n u read_at call begins new from) s b it = from_runs p input from s b it
from_runs p input (Counted n u call counts from) s b it = from_runs p input from s b it

pub from_calls : (p : Place) (input : Input) {k j : NodeState} → From p input k j → (b : BranchId) → last_of k b ≡ last_of j b
from_calls p input (Itself k) b = refl
from_calls p input (Begun n u read_at call begins new from) b = from_calls p input from b
from_calls p input (Counted n u call counts from) b = from_calls p input from b

pub from_marks : (p : Place) (input : Input) {k j : NodeState} → From p input k j → (b : BranchId) → (work_at k b).marks ≡ (work_at j b).marks
from_marks p input (Itself k) b = refl
from_marks p input (Begun n u read_at call begins new from) b = from_marks p input from b
from_marks p input (Counted n u call counts from) b = from_marks p input from b

pub from_book : (p : Place) (input : Input) {k j : NodeState} → From p input k j → (book : List Entry) (n : ℕ) → IsOfBook book n k → IsOfBook book n j
from_book p input (Itself k) book n it = it
from_book p input (Counted m s call counts from) book n it =
    from_book p input from book n (record { doubts = it.doubts; rows = it.rows; views = it.views; book_views = it.book_views; fits = (it.fits.0, it.fits.1); keys = it.keys })
from_book p input (Begun m s read_at call begins new from) book n it =
    from_book p input from book n (record { doubts = it.doubts; rows = it.rows; views = it.views; book_views = it.book_views; fits = (it.fits.0, it.fits.1); keys = it.keys })

pub from_stored : (p : Place) (input : Input) {k j : NodeState} → From p input k j → k.stored ≡ j.stored
from_stored p input (Itself k) = refl
from_stored p input (Begun n s read_at call begins new from) = from_stored p input from
from_stored p input (Counted n s call counts from) = from_stored p input from

pub from_owns : (p : Place) (input : Input) {k j : NodeState} → From p input k j → (b : BranchId) → own_changes k b ≡ own_changes j b
from_owns p input (Itself k) b = refl
from_owns p input (Begun n s read_at call begins new from) b = from_owns p input from b
from_owns p input (Counted n s call counts from) b = from_owns p input from b

-- nor does a clock that rises
module _ (k : NodeState) where
  pub heard_knows : (input : Input) (tr : Trail) (b : BranchId) → Knows k tr b → Knows (heard k input) tr b
  heard_knows (inputs.Message m) tr b it =
      record { seen = it.seen; at = it.at; live = it.live; runs = it.runs; savepoints = it.savepoints; taken = it.taken; counts = it.counts; fresh = it.fresh }
  heard_knows (inputs.Call n s) tr b it = it
  heard_knows (inputs.GiveUp n) tr b it = it
  heard_knows inputs.Reco tr b it = it
  heard_knows inputs.Checkpoint tr b it = it

  pub heard_book : (input : Input) (book : List Entry) (n : ℕ) → IsOfBook book n k → IsOfBook book n (heard k input)
  heard_book (inputs.Message m) book n it = record { doubts = it.doubts; rows = it.rows; views = it.views; book_views = it.book_views; fits = (it.fits.0, it.fits.1); keys = it.keys }
  heard_book (inputs.Call m s) book n it = it
  heard_book (inputs.GiveUp m) book n it = it
  heard_book inputs.Reco book n it = it
  heard_book inputs.Checkpoint book n it = it

-- ---- the runs that are told after a turn

module _ (book : List Entry) (step : ℕ) (s : Seen) where
  runs_false : (run : Option Run) → runs_with false book step s run ≡ s.runs
  runs_false None = refl
  runs_false (Some r) = refl

  -- without a run they are as before
  pub own_unrun : (run : Option Run) (a : Option Answer) → run ≡ None → runs_with (runs_for s run a) book step s run ≡ s.runs
  own_unrun run a none = ap (λ o. runs_with (runs_for s o a) book step s o) none

  -- with one that is refused too
  pub own_refused : (run : Option Run) (a : Option Answer) → is_accepted a ≡ false → runs_with (runs_for s run a) book step s run ≡ s.runs
  own_refused None a refused = refl
  own_refused (Some r) a refused = ap (λ q. runs_with (same r.branch s.me && q) book step s (Some r)) refused ∙ by (same r.branch s.me)
    where
      by : (q : Bool) → runs_with (q && false) book step s (Some r) ≡ s.runs
      by true = refl
      by false = refl

  -- and with one of another branch
  pub own_other : (r : Run) (a : Option Answer) → same r.branch s.me ≡ false → runs_with (runs_for s (Some r) a) book step s (Some r) ≡ s.runs
  own_other r a other = ap (λ q. runs_with (q && is_accepted a) book step s (Some r)) other

-- what gives rows is a query
pub gives_is_query : (s : Stmt) (t : Table) (rows : List Keyed) (found_rows : RowSet) → meant_over s t rows ≡ meants.Gives found_rows → changes_rows s ≡ false
unfolding meant_over
gives_is_query (stmts.Select list table cs for_update) t rows given is = refl
gives_is_query (stmts.Insert table columns given) t rows found_rows is = absurd (by (get rows (key_of_row t (cells_of (inserted_cells t columns given)))) is)
  where
    by : (o : Option Row) → inserting t (cells_of (inserted_cells t columns given)) o ≡ meants.Gives found_rows → ⊥
    by (Some old) is = absurd cc
    by None is = absurd cc
gives_is_query (stmts.Update table sets cs) t rows found_rows is = absurd (by (updated t sets (found (stmts.Update table sets cs) t rows)) is)
  where
    by : (o : Result (List Change) Refusal) → changing dones.Updated o ≡ meants.Gives found_rows → ⊥
    by (Ok cs) is = absurd cc
    by (Err r) is = absurd cc
gives_is_query (stmts.Delete table cs) t rows found_rows is = absurd cc
gives_is_query _ t rows found_rows is = absurd cc

-- and what changes rows is none
pub changes_is_none : (s : Stmt) (t : Table) (rows : List Keyed) (d : Done) (n : ℕ) (cs : List Change) → meant_over s t rows ≡ meants.Changes d n cs → changes_rows s ≡ true
unfolding meant_over
changes_is_none (stmts.Select list table cs for_update) t rows d n ds is = absurd (by list is)
  where
    sums : (name : List ℕ) (o : Option Value) → summed_set name o ≡ meants.Changes d n ds → ⊥
    sums name None is = absurd cc
    sums name (Some v) is = absurd cc

    by : (l : Picked) → picked l t (found (stmts.Select list table cs for_update) t rows) ≡ meants.Changes d n ds → ⊥
    by picks.All is = absurd cc
    by picks.Count is = absurd cc
    by (picks.Sum name) is = sums name (summed (map (λ r. cell t r.row name) (found (stmts.Select list table cs for_update) t rows)) (Some values.Null)) is
    by (picks.Columns names) is = absurd cc
changes_is_none _ t rows d n cs is = refl
