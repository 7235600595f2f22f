-- What is so of each live branch of a node, through the steps of a turn: a proof says what is so of a branch that begins and of one
-- that changes. The others stay as they were, or leave.
use Rattle.std.proofs.Common.{◌≡◌, ℕ, Bool, List, find, Option, Some, None, refl}
use Rattle.std.specs.List.{AllByRecursion}
use Rattle.commit_forget.specs.declared.next.Next.TheVariants as nexts
use Rattle.session_tree.specs.Live.{fresh_live, new_edge}
use Rattle.node_rules.specs.Data.{Advice, Answer, BranchId, Stmt, Table, Edge, Live, Act, Place, Input, KeptRow, Vote}
use Rattle.node_rules.specs.Data.acts
use Rattle.node_rules.specs.Data.kinds
use Rattle.node_rules.specs.declared.session.PendingCall.TheVariants as pending
use Rattle.node_rules.specs.declared.work.Going.{Going}
use Rattle.node_rules.specs.Data.stmts
use Rattle.node_rules.specs.Inputs.{Came, IsCall}
use Rattle.node_rules.specs.NodeState.{NodeState, Branch, TurnDraft, live_id, live_at, branch_at, with_kept_row}
use Rattle.node_rules.specs.Sessions.{session_at, with_call}
use Rattle.node_rules.specs.Statement.{ran, after_run}
use Rattle.node_rules.specs.Calls.{with_edge, hears_reply, next_child, strength_of, is_opening}
use Rattle.node_rules.specs.Prepare.{act_turn, collecting, with_comment, voted, ready, without_read_keys}
use Rattle.node_rules.specs.Commit.{acked_by}
use Rattle.node_rules.specs.Client.{begun_by, fresh_root, new_root, counted}
use Rattle.node_rules.proofs.Steps as steps
use Rattle.node_rules.proofs.Steps.{Step, Asked, Acting, Answers, Collects, HasRoot, IsKept, Is_opened, Is_answered, IsCounted, BeginsBy, Goes_to, Calls_back}
use Rattle.node_rules.proofs.StandLemmas.{live_so}
use Rattle.node_rules.specs.Marks.{node_back}
use Rattle.node_rules.proofs.StepLemmas.{calling_back_so}
use Rattle.run_base_laws.proofs.OwnLemmas.{all_found, all_with, all_without, all_last}

-- What is known of a node at the start of a turn, through the changes before the draft.
pub record LastsInTurn (p : Place) (input : Input) (C : NodeState → Type 0) : Type 0 where
  pub begun : (k : NodeState) (n : ℕ) (s : Stmt) (read_at : Option ℕ) → IsCall input n s → BeginsBy k.clock s read_at → (session_at k.sessions n).root ≡ None → C k → C (begun_by p k n read_at None)
  pub counts : (k : NodeState) (n : ℕ) (s : Stmt) → IsCall input n s → IsCounted s → C k → C (counted k n)
  pub backs : (k : NodeState) (x : Branch) (step : ℕ) → Goes_to k input x step → C k → C (node_back k x step)
  pub pends : (k : NodeState) (n : ℕ) (l : Live) (given : Option (List ℕ)) → IsCall input n (stmts.Commit given) → HasRoot k n l.me → C k → C (record k { sessions = with_call k.sessions n pending.Commit })
  pub lets : (k : NodeState) (b : BranchId) → C k → C (without_read_keys k b)
  pub acked : (k : NodeState) (s : KeptRow) (from : BranchId) → IsKept k s → Came input from s.me kinds.Ack → C k → C (with_kept_row k (acked_by s from))

-- nothing is known
pub nothing_lasts : (p : Place) (input : Input) → LastsInTurn p input (λ k. Unit {0})
nothing_lasts p input = record { begun = λ k n s read_at call begins free c. tt; counts = λ k n s call is c. tt; backs = λ k x step goes c. tt; pends = λ k n l given call has c. tt; lets = λ k b c. tt; acked = λ k s from kept came c. tt }

-- both are
pub both_last : {p : Place} {input : Input} {C D : NodeState → Type 0} → LastsInTurn p input C → LastsInTurn p input D → LastsInTurn p input (λ k. C k × D k)
both_last one other = record {
  begun = λ k n s read_at call begins free c. (one.begun k n s read_at call begins free c.0, other.begun k n s read_at call begins free c.1);
  counts = λ k n s call is c. (one.counts k n s call is c.0, other.counts k n s call is c.1);
  backs = λ k x step goes c. (one.backs k x step goes c.0, other.backs k x step goes c.1);
  pends = λ k n l given call has c. (one.pends k n l given call has c.0, other.pends k n l given call has c.1);
  lets = λ k b c. (one.lets k b c.0, other.lets k b c.1);
  acked = λ k s from kept came c. (one.acked k s from kept came c.0, other.acked k s from kept came c.1);
}

-- What is so of the branch of an act, where it stays.
abbrev pub LeftBy : (Live → Type 0) → Live → Act → Type 0
LeftBy Q l acts.Rest = Q l
LeftBy Q l acts.AskDown = Q l
LeftBy Q l acts.SayReady = Q (ready l)
LeftBy Q l _ = Unit {0}

-- How each live branch is so: C is known of the node, D of the draft.
pub record LiveCases (p : Place) (input : Input) (C : NodeState → Type 0) (D : TurnDraft → Type 0) (Q : Live → Type 0) : Type 0 where
  pub lasts : LastsInTurn p input C
  -- a branch that begins
  pub root : (k : NodeState) (n : ℕ) (s : Stmt) (read_at : Option ℕ) → IsCall input n s → BeginsBy k.clock s read_at → (session_at k.sessions n).root ≡ None → C k → Q (fresh_root p k (new_root p k n) read_at)
  pub child : (k : NodeState) (to parent : BranchId) (edge : ℕ) (root : BranchId) (depth : ℕ) (read_at : Option ℕ) → Came input parent to (kinds.Open edge root depth read_at)
      → find (is_opening parent edge) k.opens ≡ None → C k → Q (fresh_live (next_child p k) root (Some parent) depth (strength_of p k) read_at)
  -- one to which a call comes, that runs its statement, goes back to a savepoint, has a child more, hears a Reply
  pub advised : (l : Live) (advice : Option Advice) → Q l → Q (record l { advice = advice })
  pub runs : (k : NodeState) (x : Branch) (s : Stmt) (t : Table) → Q x.live → Q (after_run x.live (ran p k x.live.me s t))
  pub backs : (l : Live) (changed : Bool) → Q l → Q (record l { changed = changed })
  pub opens : (k : NodeState) (x : Branch) (from : BranchId) (strength : ℕ) (g : Going) (link : List ℕ) → Is_opened k input x from strength g link → C k → Q x.live
      → Q (with_edge x (new_edge from link strength)).live
  pub replies : (k : NodeState) (x : Branch) (weight : Option ℕ) (count : ℕ) (a : Answer) (i : ℕ) (e : Edge) → Is_answered k input x weight count a i e → Q x.live → Q (hears_reply x i weight count e).live
  -- one that acts in its prepare phase
  pub acts : (k : NodeState) (l : Live) (below : Bool) (a : Act) → Acting k input l below a → C k → D (act_turn k l below a) → ((x : Live) → live_at k x.me ≡ Some x → Q x) → LeftBy Q l a

-- a branch acts as it collects, hears an answer, or stands at the commit point
pub acting_by : {k : NodeState} {input : Input} (Q : Live → Type 0)
    → ((l : Live) (comment : List ℕ) (below : Bool) → live_at k l.me ≡ Some l → Collects k input l comment below → Q l → Q (collecting (with_comment l comment) below))
    → ((l : Live) (from : BranchId) (v : Vote) (below : Bool) → Answers input l from v below → Q l → Q (voted l from v))
    → ((x : Live) → live_at k x.me ≡ Some x → Q x) → {l : Live} {below : Bool} {a : Act} → Acting k input l below a → Q l
acting_by Q collects votes each (steps.Asks_down l comment below e es live begins has) = collects l comment below live begins (each l live)
acting_by Q collects votes each (steps.Has_no_children l comment below a live begins none collected) = collects l comment below live begins (each l live)
acting_by Q collects votes each (steps.Hears_abort l from below live answers) = votes l from _ below answers (each l live)
acting_by Q collects votes each (steps.Waits_on l from v below live answers other some) = votes l from v below answers (each l live)
acting_by Q collects votes each (steps.Hears_last l from v below a live answers other all collected) = votes l from v below answers (each l live)
acting_by Q collects votes each (steps.At_point l from a live came ready pointed) = each l live

-- what is so of it stays so where it stays
pub left_by : (Q : Live → Type 0) (l : Live) (a : Act) → (a ≡ acts.SayReady → Q l → Q (ready l)) → Q l → LeftBy Q l a
left_by Q l acts.Rest says so = so
left_by Q l acts.AskDown says so = so
left_by Q l acts.SayReady says so = says refl so
left_by Q l _ says so = tt

module _ {p : Place} {input : Input} {C : NodeState → Type 0} {D : TurnDraft → Type 0} {Q : Live → Type 0} (each : LiveCases p input C D Q) where
  abbrev All : NodeState → Type 0
  All k = AllByRecursion Q k.lives

  module _ (k : NodeState) (now : All k) where
    live_is : (b : BranchId) (l : Live) → live_at k b ≡ Some l → Q l
    live_is b l live = all_found Q live_id k.lives b l now live

    branch_is : (x : Branch) → branch_at k x.live.me ≡ Some x → Q x.live
    branch_is x live = live_is x.live.me x.live (live_so k x.live.me x live)

    asked_is : {x : Branch} {s : Stmt} {given : ℕ} → Asked k input x s given → Q x.live
    asked_is (steps.By_call n x s call rows has code live may) = branch_is x live
    asked_is (steps.By_exec x from call given advice s came live runs) = each.advised x.live advice (branch_is x live)

    calling_is : {x : Branch} {step from : ℕ} → Calls_back k input x step from → Q x.live
    calling_is calls = calling_back_so Q (λ before x step so. each.backs x.live _ so) (λ x weight count a i e answered so. each.replies k x weight count a i e answered so) live_is calls

    acts_on : (l : Live) (below : Bool) (a : Act) → LeftBy Q l a → All (act_turn k l below a).after
    acts_on l below acts.Rest so = all_with Q live_id k.lives l now so
    acts_on l below acts.AskDown so = all_with Q live_id k.lives l now so
    acts_on l below acts.SayReady so = all_with Q live_id k.lives (ready l) now so
    acts_on l below _ so = all_without Q live_id k.lives l.me now

  pub lives_on : {k : NodeState} {d : TurnDraft} → Step p input k d → C k → D d → AllByRecursion Q k.lives → AllByRecursion Q d.after.lives
  lives_on (steps.Begins {k = k} n s read_at call begins range free step) c q now = lives_on step (each.lasts.begun k n s read_at call begins free c) q (all_last Q live_id k.lives _ now (each.root k n s read_at call begins free c))
  lives_on (steps.Counts_call {k = k} n s call is step) c q now = lives_on step (each.lasts.counts k n s call is c) q now
  lives_on (steps.Goes_back {k = k} x step goes next) c q now = lives_on next (each.lasts.backs k x step goes c) q now
  lives_on (steps.Pends {k = k} n l given call has live code writer step) c q now = lives_on step (each.lasts.pends k n l given call has c) q now
  lives_on (steps.Lets_reads_go {k = k} l comment below live begins step) c q now = lives_on step (each.lasts.lets k l.me c) q now
  lives_on (steps.Counts_ack {k = k} s from kept came counts step) c q now = lives_on step (each.lasts.acked k s from kept came c) q now
  lives_on (steps.Runs {k = k} x s given t asked way) c q now = all_with Q live_id k.lives (after_run x.live (ran p k x.live.me s t)) now (each.runs k x s t (asked_is k now asked))
  lives_on (steps.Goes_nowhere {k = k} x s given r asked way) c q now = all_with Q live_id k.lives x.live now (asked_is k now asked)
  lives_on (steps.Calls {k = k} x s given i table asked way) c q now = all_with Q live_id k.lives x.live now (asked_is k now asked)
  lives_on (steps.Opens {k = k} x s given node link table asked way) c q now = all_with Q live_id k.lives x.live now (asked_is k now asked)
  lives_on (steps.Goes_on {k = k} x from strength g link opened) c q now =
      all_with Q live_id k.lives (with_edge x (new_edge from link strength)).live now (each.opens k x from strength g link opened c (branch_is k now x opened.live))
  lives_on (steps.Hears_reply {k = k} x weight count a i e answered) c q now =
      all_with Q live_id k.lives (hears_reply x i weight count e).live now (each.replies k x weight count a i e answered (branch_is k now x answered.live))
  lives_on (steps.Backs {k = k} x step from i calls next) c q now = all_with Q live_id k.lives x.live now (calling_is k now calls)
  lives_on (steps.Is_back {k = k} x step from calls none) c q now = all_with Q live_id k.lives x.live now (calling_is k now calls)
  lives_on (steps.Opens_branch {k = k} to parent edge root depth read_at came new) c q now = all_last Q live_id k.lives _ now (each.child k to parent edge root depth read_at came new c)
  lives_on (steps.Acts {k = k} l below a why) c q now = acts_on k now l below a (each.acts k l below a why c q (λ x live. live_is k now x.me x live))
  lives_on (steps.Drops_told {k = k} l live drops) c q now = all_without Q live_id k.lives l.me now
  lives_on (steps.Drops_asked {k = k} l from live came parent) c q now = all_without Q live_id k.lives l.me now
  lives_on (steps.Does s from nexts.Rest kept why) c q now = now
  lives_on (steps.Leaves {k = k} n s d x call ends has live) c q now = all_without Q live_id k.lives x.live.me now
  lives_on (steps.Sets_savepoint {k = k} n x name call has code live) c q now = all_with Q live_id k.lives x.live now (branch_is k now x live)
  lives_on (steps.Gives_up {k = k} n x gives has calls live) c q now = all_with Q live_id k.lives x.live now (branch_is k now x live)
  lives_on (steps.Gives_up_commit {k = k} n b (Some l) gives has calls live) c q now = all_without Q live_id k.lives l.me now
  lives_on _ c q now = now
