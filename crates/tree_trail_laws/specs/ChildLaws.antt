-- What the happenings tell of a branch below a root: it began, and its parent, its children, the SCN at which it reads and its
-- commit point strength are those that its node keeps. (Database Administrator's Guide, "Distributed Transactions Concepts": session trees.)
use Rattle.std.specs.Prelude.{◌≡◌, ◌≢◌, ℕ, List, unwrap_or, Some, None}
use Rattle.session_tree.specs.Live.{children_of}
use Rattle.node_rules.specs.Data.{Live, Place}
use Rattle.node_rules.specs.NodeState.{NodeState, live_at}
use Rattle.run_rules.specs.Branches.{Seen, Trail, no_trail, seen_at}
use Rattle.run_rules.specs.Facts.{first_facts, place_at, node_at}
use Rattle.run_rules.specs.Lawful.{History, IsLawfulRun, facts_at}
use Rattle.run_rules.specs.Trail.{trail_of}

-- what the happenings of a run tell
abbrev pub trail_at : History → Trail
trail_at t = trail_of t.places t.commands (first_facts t.places) no_trail t.trace

-- By the branch history a branch began, with the parent, the children, the SCN at which it reads and the strength that its node
-- keeps of it.
abbrev pub IsTracedOf : List Place → Trail → Live → Type 0
IsTracedOf places tr l =
    (s : Seen) × (seen_at tr l.me ≡ Some s) × (s.parent ≡ l.parent) × (s.children ≡ children_of l) × (s.read_at ≡ l.read_at)
    × (unwrap_or s.strength (place_at places l.me.node).strength ≡ l.strength)

-- In every lawful run it is so of each live branch below a root.
abbrev pub ChildrenAreTraced : Type 0
ChildrenAreTraced = (t : History) → IsLawfulRun t → (n : ℕ) (k : NodeState) → node_at (facts_at t) n ≡ Some k → (l : Live) → live_at k l.me ≡ Some l → l.parent ≢ None → IsTracedOf t.places (trail_at t) l
