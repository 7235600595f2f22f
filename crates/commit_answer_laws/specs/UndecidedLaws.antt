-- What a client may rest on who is told that its COMMIT rolled back: no branch of the transaction has decided, nor ever does.
-- (Error Messages: ORA-02050; Database Administrator's Guide, "Distributed Transactions Concepts".)
use Rattle.std.specs.Prelude.{◌≡◌, ◌⊎◌, ℕ, false, List, ◌∷◌, ◌++◌, Some}
use Rattle.node_rules.specs.Data.{Answer, BranchId, Change}
use Rattle.node_rules.specs.NodeState.{NodeState}
use Rattle.node_rules.specs.Sessions.{commit_complete, tran_refusal}
use Rattle.node_rules.specs.Turn.{turn_of}
use Rattle.run_rules.specs.Book.{At}
use Rattle.run_rules.specs.Data.{Turn, Happening}
use Rattle.run_rules.specs.Data.entries
use Rattle.run_rules.specs.Data.happenings
use Rattle.run_rules.specs.Facts.{first_facts, facts_of, node_at, place_at}
use Rattle.run_rules.specs.Lawful.{History, IsLawfulRun, facts_at}
use Rattle.tree_trail_laws.specs.NoSite.{HadNoSite}
use Rattle.commit_answer_laws.specs.CommitEndLaws.{CommitPends, EndsCall, LeavesUnrecorded}

-- The COMMIT of g was pending, and ended in a whole turn of a run with this answer.
pub record EndedWith (t : History) (g : BranchId) (a : Answer) : Type 0 where
  pub before : List Happening
  pub turn : Turn
  pub later : List Happening
  pub is : before ++ happenings.Turn turn ∷ later ≡ t.trace
  pub uncut : turn.cut ≡ false
  pub kept : NodeState
  pub up : node_at (facts_of t.places t.commands (first_facts t.places) before) turn.node ≡ Some kept
  pub pends : CommitPends kept g
  pub ends : EndsCall (record { session = g.session; answer = a }) (turn_of (place_at t.places turn.node) kept turn.input).ended

-- its root left in that turn, and nothing was written
abbrev pub LeftAlone : History → BranchId → NodeState → Turn → Type 0
LeftAlone t g k u =
    LeavesUnrecorded k (turn_of (place_at t.places u.node) k u.input).after (turn_of (place_at t.places u.node) k u.input).wrote (turn_of (place_at t.places u.node) k u.input).sent g

-- a decision of the transaction stands in the book
abbrev pub IsDecided : History → BranchId → Type 0
IsDecided t g = (b : BranchId) × (cs : List Change) × (n i : ℕ) × At (facts_at t).book i (entries.Decided b g cs n)

-- none does, at whatever place
abbrev pub IsUndecided : History → BranchId → Type 0
IsUndecided t g = (i : ℕ) (b : BranchId) (cs : List Change) (n : ℕ) → At (facts_at t).book i (entries.Decided b g cs n) → ⊥

-- In every lawful run no decision of a transaction whose COMMIT was answered ORA-02050 stands in the book, up to its end.
abbrev pub RefusedAreUndecided : Type 0
RefusedAreUndecided = (t : History) → IsLawfulRun t → (g : BranchId) → EndedWith t g (tran_refusal 2050 g) → IsUndecided t g

-- Where it was answered ORA-02053 a decision does.
abbrev pub KnownAreDecided : Type 0
KnownAreDecided = (t : History) → IsLawfulRun t → (g : BranchId) → EndedWith t g (tran_refusal 2053 g) → IsDecided t g

-- Where it was complete a decision does; or there was no site: its root left without a record, and none ever does.
abbrev pub CompleteAreDecided : Type 0
CompleteAreDecided = (t : History) → IsLawfulRun t → (g : BranchId) → (it : EndedWith t g commit_complete)
    → IsDecided t g ⊎ (LeftAlone t g it.kept it.turn × HadNoSite t g × IsUndecided t g)
