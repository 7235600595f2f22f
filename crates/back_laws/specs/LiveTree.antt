-- The part of a session tree that is live from its root down, and what a savepoint of the root keeps of each branch in it. (SQL Language
-- Reference: SAVEPOINT, ROLLBACK. That a savepoint is one of the whole session tree is dtx's own.)
use Rattle.std.specs.Prelude.{◌≡◌, ℕ, zero, suc, ◌+◌, true, false, if◌then◌else◌, List, slice_get, take, [], ◌∷◌, flat_map, length, Option, Some, None}
use Rattle.dtx_values.specs.Limits.{depth_limit}
use Rattle.session_tree.specs.Live.{children_of}
use Rattle.node_rules.specs.Data.{BranchId, Live, Note, Savepoint}
use Rattle.node_rules.specs.NodeState.{NodeState, work_at}
use Rattle.node_rules.specs.Words.{numbered}
use Rattle.savepoints.specs.Marks.{calls_in, notes_until}
use Rattle.run_rules.specs.Branches.{Seen, Trail, seen_at, is_among}
use Rattle.run_rules.specs.Data.{Turn}
use Rattle.run_rules.specs.Data.happenings
use Rattle.run_rules.specs.Each.{facts_upto, trail_upto}
use Rattle.run_rules.specs.Facts.{Facts, node_at}
use Rattle.run_rules.specs.Lawful.{History, IsLawfulRun, facts_at}
use Rattle.tree_laws.specs.DecideLaws.{live_in}
use Rattle.tree_trail_laws.specs.ChildLaws.{trail_at}
use Rattle.back_laws.specs.Returns.{HasAgain}
use Rattle.back_laws.specs.BackLaws.{call_in, goes_back_to, runs_until, StaysAbove, StandsSince}

-- a live branch with what is below it
abbrev pub with_below : (BranchId → List BranchId) → BranchId → Option Live → List BranchId
with_below further b None = []
with_below further b (Some l) = b ∷ flat_map further (children_of l)

-- a branch and those below it, through so many levels, as far as each is live and knows its children
abbrev pub live_down : ℕ → Facts → BranchId → List BranchId
live_down zero f b = []
live_down (suc levels) f b = with_below (live_down levels f) b (live_in f b)

-- the live session tree of a root: each branch that is live, with all those on its way to the root
unfoldable pub live_tree : Facts → BranchId → List BranchId
live_tree f root = live_down depth_limit f root

-- the calls that a branch took
abbrev pub taken_of : Option Seen → ℕ
taken_of None = 0
taken_of (Some s) = s.taken

-- the floors of a moment: each of these branches keeps what it had then, and no other branch has a floor
abbrev pub floor_among : List BranchId → Trail → BranchId → ℕ
floor_among bs tr b = if is_among b bs then taken_of (seen_at tr b) else 0

-- What a branch had at a moment it has still, up to the step that it had then; no turn since took it back to a lower one.
pub record HasStill (t : History) (moment : ℕ) (b : BranchId) : Type 0 where
  pub old : Seen
  pub its : seen_at (trail_upto t moment) b ≡ Some old
  pub above : StaysAbove t moment (length t.trace) b old.taken
  pub now : Seen
  pub at : seen_at (trail_at t) b ≡ Some now
  pub runs : runs_until old.taken now.runs ≡ old.runs

-- In every lawful run a savepoint that stands is one of the whole session tree: each branch of the tree that was live at the SAVEPOINT, with all
-- those on its way to the root, has still what it had then.
abbrev pub SavepointsHold : Type 0
SavepointsHold = (t : History) → IsLawfulRun t → (s : Seen) (v : Savepoint) → (since : StandsSince t s v) → (b : BranchId) → is_among b (live_tree (facts_upto t (since.last.moment + 1)) s.me) ≡ true → HasStill t (since.last.moment + 1) b

-- what a branch has noted up to a step
abbrev pub noted_by : Option NodeState → BranchId → ℕ → List Note
noted_by None b step = []
noted_by (Some k) b step = notes_until (work_at k b).marks step

-- at its node
abbrev pub noted_in : Facts → BranchId → ℕ → List Note
noted_in f b step = noted_by (node_at f b.node) b step

-- And what such a branch had noted of its calls at the SAVEPOINT it has noted still, and no more up to that step: so if it goes back to it, it calls
-- each child to go back to the last call that was made to that child then.
abbrev pub NotesHold : Type 0
NotesHold = (t : History) → IsLawfulRun t → (s : Seen) (v : Savepoint) → (since : StandsSince t s v) → (b : BranchId) → is_among b (live_tree (facts_upto t (since.last.moment + 1)) s.me) ≡ true
    → (old : Seen) → seen_at (trail_upto t (since.last.moment + 1)) b ≡ Some old → (l : Live) → live_in (facts_at t) b ≡ Some l
    → noted_in (facts_at t) b old.taken ≡ noted_in (facts_upto t (since.last.moment + 1)) b old.taken

-- At a SAVEPOINT each branch of the tree, the root too, had noted of each child in the tree the last call that the child took.
abbrev pub ChildrenNoted : Type 0
ChildrenNoted = (t : History) → IsLawfulRun t → (s : Seen) (v : Savepoint) → (since : StandsSince t s v) → (b c : BranchId) → is_among b (live_tree (facts_upto t (since.last.moment + 1)) s.me) ≡ true
    → is_among c (live_tree (facts_upto t (since.last.moment + 1)) s.me) ≡ true → (l : Live) → live_in (facts_upto t (since.last.moment + 1)) b ≡ Some l → (i : ℕ) → numbered (children_of l) i ≡ Some c
    → (old kid : Seen) → seen_at (trail_upto t (since.last.moment + 1)) b ≡ Some old → seen_at (trail_upto t (since.last.moment + 1)) c ≡ Some kid
    → call_in (calls_in [] (noted_in (facts_upto t (since.last.moment + 1)) b old.taken)) i ≡ kid.taken

-- the run up to a moment
abbrev pub run_upto : History → ℕ → History
run_upto t i = record { places = t.places; commands = t.commands; of_a_script = t.of_a_script; trace = take i t.trace }

-- So a branch of this tree that goes back to the step that it had at the SAVEPOINT, while the savepoint stands, has changed, and holds, what it had
-- changed and held then, unless its COMMIT or Prepare came.
abbrev pub TreeBranchesReturn : Type 0
TreeBranchesReturn = (t : History) → IsLawfulRun t → (i : ℕ) (u : Turn) → slice_get t.trace i ≡ Some (happenings.Turn u) → (s : Seen) (v : Savepoint) → (since : StandsSince (run_upto t i) s v)
    → (b : BranchId) → is_among b (live_tree (facts_upto t (since.last.moment + 1)) s.me) ≡ true → (old : Seen) → seen_at (trail_upto t (since.last.moment + 1)) b ≡ Some old → goes_back_to t i u b ≡ Some old.taken
    → (now : Seen) × (seen_at (trail_upto t (i + 1)) b ≡ Some now) × (now.collects ≡ false → HasAgain now (Some old))
