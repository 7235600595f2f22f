-- A COMMIT that nothing disturbs, and what it leaves. (Database Administrator's Guide, "Distributed Transactions Concepts":
-- two-phase commit mechanism, prepare, commit and forget phases.)
use Rattle.std.specs.Prelude.{◌≡◌, ℕ, ◌==◌, ◌&&◌, ◌⊎◌, Bool, true, false, if◌then◌else◌, List, [], ◌∷◌, ◌++◌, map, filter, option_map, Option, Some, None}
use Rattle.std.specs.List.{AllByRecursion}
use Rattle.node_rules.specs.Data.{Answer, BranchId, Kind, Live, Place, Input}
use Rattle.node_rules.specs.Data.decisions
use Rattle.node_rules.specs.Data.inputs
use Rattle.node_rules.specs.Data.kinds
use Rattle.node_rules.specs.Data.stmts
use Rattle.node_rules.specs.Inputs.{IsCall}
use Rattle.node_rules.specs.NodeState.{NodeState, live_at}
use Rattle.node_rules.specs.Sessions.{session_at, commit_complete}
use Rattle.node_rules.specs.Turn.{BranchStatus, Is_gone, status_of}
use Rattle.node_rules.specs.Words.{same}
use Rattle.net_bag.specs.Net.{first_flying}
use Rattle.run_rules.specs.Births.{Born, born_id, births_from}
use Rattle.run_rules.specs.Book.{At, is_decision_on, stands}
use Rattle.run_rules.specs.Branches.{Trail, no_trail, is_among, plan_at}
use Rattle.run_rules.specs.Commands.{commits_first}
use Rattle.run_rules.specs.Data.{Command, Entry, Fate, Packet, Turn, Happening}
use Rattle.run_rules.specs.Data.entries
use Rattle.run_rules.specs.Data.fates
use Rattle.run_rules.specs.Data.happenings
use Rattle.run_rules.specs.Facts.{Facts, first_facts, node_at, outcome_at, facts_after, facts_of}
use Rattle.run_rules.specs.Lawful.{History, IsLawfulRun}
use Rattle.run_rules.specs.Trail.{ended_by, has_no_site, trail_of}

-- what these happenings leave
abbrev pub facts_by : List Place → List Command → List Happening → Facts
facts_by places asked hs = facts_of places asked (first_facts places) hs

-- and what they tell of branches
abbrev pub trail_by : List Place → List Command → List Happening → Trail
trail_by places asked hs = trail_of places asked (first_facts places) no_trail hs

-- A COMMIT of the transaction of a live root, which is not READ ONLY, and what has happened since the turn of its call.
pub record Commit (places : List Place) (asked : List Command) (trace : List Happening) : Type 0 where
  pub before : List Happening
  pub call : Turn
  pub during : List Happening
  pub is : before ++ happenings.Turn call ∷ during ≡ trace
  pub session : ℕ
  pub comment : Option (List ℕ)
  pub asks : IsCall call.input session (stmts.Commit comment)
  pub kept : NodeState
  pub up : node_at (facts_by places asked before) call.node ≡ Some kept
  pub root : BranchId
  pub of : (session_at kept.sessions session).root ≡ Some root
  pub live : Live
  pub there : live_at kept root ≡ Some live
  pub writer : live.read_at ≡ None

-- ---- what may disturb it

-- the branches of a transaction
abbrev pub branches_in : List Born → BranchId → List BranchId
branches_in bs root = map born_id (filter (λ x. same x.root root) bs)

-- those that began in these happenings
abbrev pub branches_by : List Place → List Command → List Happening → BranchId → List BranchId
branches_by places asked trace root = branches_in (births_from places asked (first_facts places) trace []) root

-- a message is delivered, for the first time, in a turn that is whole
abbrev pub IsFirstDelivery : Happening → Type 0
IsFirstDelivery (happenings.Turn u) = (u.cut ≡ false) × (number : ℕ) × (u.took ≡ Some (record { number = number; again = false }))
IsFirstDelivery _ = ⊥

-- whether a client's call is of a CREATE
abbrev pub is_create : Input → Bool
is_create (inputs.Call session (Some s)) = commits_first s
is_create _ = false

-- a CREATE itself comes in a turn that is whole
abbrev pub IsCreateTurn : Happening → Type 0
IsCreateTurn (happenings.Turn u) = (u.cut ≡ false) × (is_create u.input ≡ true)
IsCreateTurn _ = ⊥

-- what happens in the course of an undisturbed COMMIT: deliveries, and CREATEs themselves
abbrev pub IsInCourse : Happening → Type 0
IsInCourse h = IsFirstDelivery h ⊎ IsCreateTurn h

-- whether a message was lost
abbrev pub is_lost : Fate → Bool
is_lost fates.Lost = true
is_lost _ = false

-- none of these branches' messages was
abbrev pub LostNone : List BranchId → List Packet → Type 0
LostNone bs xs = AllByRecursion (λ x. (is_among x.msg.from bs && is_lost x.fate) ≡ false) xs

-- a branch's node is up, and has not stopped since the branch began
abbrev pub HasNotStopped : Facts → BranchId → Type 0
HasNotStopped f b = option_map (λ k. k.stored.durable.boot) (node_at f b.node) ≡ Some b.boot

-- whether a message asks for a rollback, or tells one
abbrev pub disturbs : Kind → Bool
disturbs kinds.Ask = true
disturbs kinds.Rollback = true
disturbs kinds.RolledBack = true
disturbs _ = false

-- whether such a message comes to one of these branches
abbrev pub is_disturbed : List BranchId → Input → Bool
is_disturbed bs (inputs.Message m) = is_among m.to bs && disturbs m.kind
is_disturbed bs _ = false

-- none comes in a turn
abbrev pub NoneComesIn : List BranchId → Happening → Type 0
NoneComesIn bs (happenings.Turn u) = is_disturbed bs u.input ≡ false
NoneComesIn bs _ = Unit {0}

-- A COMMIT is undisturbed: no statement of its transaction asks for a rollback; nothing is in flight when it is called;
-- from then on there are whole turns alone, of deliveries, as they come while HOLD is off, and of CREATEs themselves, as they
-- come after the COMMIT that they make first, until nothing is in flight; none
-- of the transaction's messages was lost; no node of its branches has stopped since they began; and neither a rollback nor
-- a question of the recoverer came to any of them.
pub record Undisturbed (places : List Place) (asked : List Command) (trace : List Happening) (c : Commit places asked trace) : Type 0 where
  pub goes_on : (session_at c.kept.sessions c.session).code ≡ None
  pub still : first_flying (facts_by places asked c.before).net ≡ None
  pub whole : c.call.cut ≡ false
  pub course : AllByRecursion IsInCourse c.during
  pub over : first_flying (facts_by places asked trace).net ≡ None
  pub lost : LostNone (branches_by places asked trace c.root) (facts_by places asked trace).net.packets
  pub stopped : AllByRecursion (HasNotStopped (facts_by places asked trace)) (branches_by places asked trace c.root)
  pub calm : AllByRecursion (NoneComesIn (branches_by places asked trace c.root)) trace

-- ---- what it leaves

-- the answers of a session's calls that a turn ends
abbrev pub answers_in : List Place → Facts → ℕ → ℕ → Happening → List Answer
answers_in places f node session (happenings.Turn u) =
    if u.cut then [] else (if u.node == node then map (λ x. x.answer) (filter (λ x. x.session == session) (ended_by (outcome_at places f u))) else [])
answers_in places f node session _ = []

-- those of its COMMIT: the answer of a CREATE itself is none of them
abbrev pub commit_answers_in : List Place → Facts → ℕ → ℕ → Happening → List Answer
commit_answers_in places f node session (happenings.Turn u) = if is_create u.input then [] else answers_in places f node session (happenings.Turn u)
commit_answers_in places f node session _ = []

-- all answers of the session in these happenings, after what they found
abbrev pub answers_from : List Place → List Command → Facts → ℕ → ℕ → List Happening → List Answer
answers_from places asked f node session [] = []
answers_from places asked f node session (h ∷ hs) = answers_in places f node session h ++ answers_from places asked (facts_after places asked f h) node session hs

-- and those of its COMMIT
abbrev pub commit_answers_from : List Place → List Command → Facts → ℕ → ℕ → List Happening → List Answer
commit_answers_from places asked f node session [] = []
commit_answers_from places asked f node session (h ∷ hs) = commit_answers_in places f node session h ++ commit_answers_from places asked (facts_after places asked f h) node session hs

-- a seal of the transaction has its Ended commit
abbrev pub SealIsEnded : List Entry → BranchId → Entry → Type 0
SealIsEnded book root (entries.Sealed b g cs scn) = same g root ≡ true → (n i : ℕ) × At book i (entries.Ended b (decisions.Commit n))
SealIsEnded book root _ = Unit {0}

-- what a branch is at its node, where that is up
abbrev pub stand_at : Facts → BranchId → Option BranchStatus
stand_at f b = option_map (λ k. status_of k b) (node_at f b.node)

-- the commit point site of a COMMIT has decided, as the book says; or the COMMIT was accepted and its session tree had no site,
-- since none of its branches had changes
abbrev pub SiteHasDecided : List Place → List Command → List Happening → BranchId → Type 0
SiteHasDecided places asked trace root = (stands (is_decision_on root) (facts_by places asked trace).book ≡ true) ⊎ (has_no_site (plan_at (trail_by places asked trace) root) ≡ true)

-- A COMMIT is complete: its call has one answer, Commit complete; a decision of the transaction stands, where there was anything
-- to decide; each sealed branch of the transaction has ended with commit; and of none of its branches a node knows anything any
-- more, so no view shows one.
pub record CommitIsComplete (places : List Place) (asked : List Command) (trace : List Happening) (c : Commit places asked trace) : Type 0 where
  pub answered : commit_answers_from places asked (facts_by places asked c.before) c.call.node c.session (happenings.Turn c.call ∷ c.during) ≡ commit_complete ∷ []
  pub decided : SiteHasDecided places asked trace c.root
  pub ended : AllByRecursion (SealIsEnded (facts_by places asked trace).book c.root) (facts_by places asked trace).book
  pub gone : AllByRecursion (λ b. stand_at (facts_by places asked trace) b ≡ Some Is_gone) (branches_by places asked trace c.root)

-- An undisturbed COMMIT of a lawful run is complete.
abbrev pub UndisturbedCommitsAreComplete : Type 0
UndisturbedCommitsAreComplete = (t : History) → IsLawfulRun t → (c : Commit t.places t.commands t.trace) → Undisturbed t.places t.commands t.trace c → CommitIsComplete t.places t.commands t.trace c
