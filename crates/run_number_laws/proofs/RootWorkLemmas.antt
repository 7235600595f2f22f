-- A session without a pending call has a root that works, so COMMIT finds it so.
use Rattle.std.proofs.Common.{◌≡◌, ℕ, List, [], ◌∷◌, IfSome, Option, Some, None, refl, sym, subst}
use Rattle.node_rules.specs.Data.{Stmt, Place, Input}
use Rattle.node_rules.specs.Data.inputs
use Rattle.node_rules.specs.Data.phases
use Rattle.node_rules.specs.Data.stmts
use Rattle.node_rules.specs.declared.session.PendingCall.TheVariants as pending
use Rattle.node_rules.specs.NodeState.{NodeState, Branch, branch_at}
use Rattle.node_rules.specs.Sessions.{session_at}
use Rattle.node_rules.specs.Client.{root_at}
use Rattle.node_rules.proofs.StandLemmas.{RootSo, root_so, live_so}
use Rattle.node_core.specs.Able.{EndsWork, BringsCommit}
use Rattle.run_rules.specs.Data.{Happening, Command}
use Rattle.run_rules.specs.Data.happenings
use Rattle.run_rules.specs.Facts.{Facts, first_facts, node_at, facts_after}
use Rattle.run_rules.specs.Lawful.{Comes, History, IsLawfulRun, facts_at}
use Rattle.run_base_laws.specs.NodeLaws.{EachFactFrom}
use Rattle.run_base_laws.specs.CallLaws.{ComesAtRest}
use Rattle.run_base_laws.proofs.RootLemmas.{root_alone}
use Rattle.run_base_laws.proofs.RestLemmas.{branch_root, free_waits}
use Rattle.run_base_laws.proofs.RestRunLemmas.{NodeRests, free_by, run_roots, calls_come_at_rest}
use Rattle.run_number_laws.specs.RootLaws.{RestingWork, RootsWork, CommitsFindWork, FindsWork, TurnsFindWork}

-- ---- nodes

-- the root of a session, where it is live
root_works : (k : NodeState) → NodeRests k → (n : ℕ) → (session_at k.sessions n).call ≡ pending.NoCall → (o : Option Branch) → RootSo k n o → IfSome o (λ x. x.live.phase ≡ phases.Working)
root_works k now n free None so = tt
root_works k now n free (Some x) so =
    let none : x.live.parent ≡ None = root_alone k now.0 n x.live.me so.0 x.live (live_so k x.live.me x so.1) in
    (free_waits (session_at k.sessions x.live.me.session).call x.live.phase x.work.going (branch_root k now.1 x so.1 none).waits
    (subst (λ m. (session_at k.sessions m).call ≡ pending.NoCall) (sym (now.0.roots.each n x.live.me so.0)) free)).0

resting_work : (k : NodeState) → NodeRests k → RestingWork k
resting_work k now n free = root_works k now n free (root_at k n) (root_so k n)

node_rests : (t : History) → IsLawfulRun t → (n : ℕ) (k : NodeState) → node_at (facts_at t) n ≡ Some k → NodeRests k
node_rests t lawful n k up = subst (λ o. IfSome o NodeRests) up (run_roots t lawful n)

pub roots_work : RootsWork
roots_work t lawful n k up = resting_work k (node_rests t lawful n k up)

-- ---- COMMIT

ends_work : (k : NodeState) (n : ℕ) (s : Stmt) → IfSome (root_at k n) (λ x. x.live.phase ≡ phases.Working) → EndsWork k n s
ends_work k n (stmts.Commit comment) works = works
ends_work k n _ works = tt

brings_commit : (k : NodeState) (input : Input) → ((n : ℕ) (s : Option Stmt) → input ≡ inputs.Call n s → IfSome (root_at k n) (λ x. x.live.phase ≡ phases.Working)) → BringsCommit k input
brings_commit k (inputs.Call n (Some s)) works = ends_work k n s (works n (Some s) refl)
brings_commit k (inputs.Call n None) works = tt
brings_commit k _ works = tt

pub commits_find_work : CommitsFindWork
commits_find_work t lawful n k up input took comes =
    brings_commit k input (λ m s call. resting_work k (node_rests t lawful n k up) m (free_by (facts_at t) k n m s took (subst (λ i. Comes (facts_at t) k n i took) call comes)))

-- ---- turns

finds : (k : NodeState) (n : ℕ) (o : Option Branch) → RootSo k n o
    → ((x : Branch) → (session_at k.sessions n).root ≡ Some x.live.me → branch_at k x.live.me ≡ Some x → x.live.phase ≡ phases.Working) → IfSome o (λ x. x.live.phase ≡ phases.Working)
finds k n None so works = tt
finds k n (Some x) so works = works x so.0 so.1

turn_finds : (places : List Place) (f : Facts) (h : Happening) → ComesAtRest places f h → FindsWork places f h
turn_finds places f (happenings.Turn u) rest = λ k up. brings_commit k u.input (λ n s call. finds k n (root_at k n) (root_so k n) (λ x has found. (rest k up n s call x has found).0))
turn_finds places f _ rest = tt

each_finds : (places : List Place) (asked : List Command) (f : Facts) (hs : List Happening) → EachFactFrom (ComesAtRest places) places asked f hs → EachFactFrom (FindsWork places) places asked f hs
each_finds places asked f [] rest = tt
each_finds places asked f (h ∷ hs) rest = (turn_finds places f h rest.0, each_finds places asked (facts_after places asked f h) hs rest.1)

pub turns_find_work : TurnsFindWork
turns_find_work t lawful = each_finds t.places t.commands (first_facts t.places) t.trace (calls_come_at_rest t lawful)
