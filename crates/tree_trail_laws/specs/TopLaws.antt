-- The branch history of the roots of sessions: each live root is in it as its node keeps it, and the transaction of a session
-- that waits for no answer is the same. The next root that a session begins has in it the id that its node gives. (Database Administrator's Guide, "Distributed Transactions Concepts": session trees.)
use Rattle.std.specs.Prelude.{◌≡◌, ℕ, List, Some, None}
use Rattle.node_rules.specs.Data.{Place}
use Rattle.node_rules.specs.Inputs.{IsSession}
use Rattle.node_rules.specs.NodeState.{NodeState}
use Rattle.node_rules.specs.Sessions.{session_at}
use Rattle.node_rules.specs.Client.{new_root}
use Rattle.run_rules.specs.Branches.{Trail, seen_at}
use Rattle.run_rules.specs.Each.{AtEach}
use Rattle.run_rules.specs.Facts.{Facts, place_at, node_at}
use Rattle.run_rules.specs.Lawful.{History, IsLawfulRun, facts_at}
use Rattle.run_rules.specs.Trail.{next_root}
use Rattle.tree_trail_laws.specs.ChildLaws.{trail_at}
use Rattle.tree_trail_laws.specs.SeenLaws.{TracesTops, TracesOwns, SeesRoots}

-- the next root of a session without a transaction is the one that its node begins next, and it is not in the history yet
abbrev pub NamesNext : List Place → Facts → Trail → Type 0
NamesNext places f tr = (n : ℕ) (k : NodeState) → node_at f n ≡ Some k → (session : ℕ) → IsSession session → (session_at k.sessions session).root ≡ None
    → (next_root f tr n session ≡ new_root (place_at places n) k session) × (seen_at tr (new_root (place_at places n) k session) ≡ None)

-- In a lawful run in which, before each happening, the changes of live branches are those that their nodes keep, the branch
-- history of roots agrees at the end.
abbrev pub TopsFollow : Type 0
TopsFollow = (t : History) → IsLawfulRun t → AtEach (λ places f tr h. TracesOwns f tr) t
    → TracesTops (facts_at t) (trail_at t) × SeesRoots (facts_at t) (trail_at t) × NamesNext t.places (facts_at t) (trail_at t)
