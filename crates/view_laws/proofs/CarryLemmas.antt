-- Whose comment a Prepare carries, and whose advice an Exec: its sender is live after the turn, and has them.
use Rattle.std.proofs.Common.{◌≡◌, ◌≢◌, ℕ, ◌+◌, Bool, if◌then◌else◌, is_none, List, [], ◌∷◌, map, length, Option, Some, None, refl, sym, ap}
use Rattle.std.specs.List.{AllByRecursion}
use Rattle.tran_ids.proofs.ListedLemmas.{put_found}
use Rattle.session_tree.specs.Live.{new_edge, peer_of}
use Rattle.session_tree.specs.Tree.{step as step_from}
use Rattle.node_rules.specs.Data.{Act, Advice, Answer, BranchId, Edge, Input, Kind, Live, Place, Post}
use Rattle.node_rules.specs.Data.acts
use Rattle.node_rules.specs.Data.kinds
use Rattle.node_rules.specs.Data.nexts
use Rattle.node_rules.specs.Data.phases
use Rattle.node_rules.specs.Data.tasks
use Rattle.node_rules.specs.declared.work.Errand.{Errand}
use Rattle.node_rules.specs.declared.work.Errand.TheVariants as errands
use Rattle.node_rules.specs.Calls.{answer_says, branch_ran, calls_over, exec_to, hears_reply, less_room, with_edge}
use Rattle.node_rules.specs.Commit.{beyond}
use Rattle.node_rules.specs.NodeState.{Branch, NodeState, TurnDraft, live_id, live_at, to_each, to_one}
use Rattle.node_rules.specs.Prepare.{act_turn, path_of, prepares, site_neighbors}
use Rattle.node_rules.specs.Recovery.{kept_told}
use Rattle.node_rules.specs.Names.{passed_on}
use Rattle.node_rules.specs.Statement.{ran}
use Rattle.node_rules.proofs.Steps as steps
use Rattle.node_rules.proofs.Steps.{Acting, Says, Step}
use Rattle.run_base_laws.proofs.KindSayLemmas.{OfDecisions, AllSay, one_says, each_says, told_says, passes_say, askings_say}
use Rattle.run_rules.proofs.ListLemmas.{all_append, all_weaker}
use Rattle.view_laws.proofs.AdviceLemmas.{advice_at, pends_advice}

-- a message carries neither
abbrev CarriesNone : Kind → Type 0
CarriesNone (kinds.Prepare site_below comment) = ⊥
CarriesNone (kinds.Exec call (tasks.Run given advice s)) = ⊥
CarriesNone _ = Unit {0}

none_decisions : OfDecisions CarriesNone
none_decisions = record { committed = λ n. tt; rolled_back = tt; rollback = tt; in_doubt = tt; ack = tt; forgotten = tt; ask = tt }

-- The sender of a Prepare collects with its comment; that of an Exec has its advice, or its session has, at a root.
pub record PreparesWith (after : NodeState) (from : BranchId) (comment : List ℕ) : Type 0 where
  pub live : Live
  pub at : live_at after from ≡ Some live
  pub busy : live.phase ≢ phases.Working
  pub same : live.comment ≡ comment

pub record ExecsWith (after : NodeState) (from : BranchId) (advice : Option Advice) : Type 0 where
  pub live : Live
  pub at : live_at after from ≡ Some live
  pub same : advice ≡ (if is_none live.parent then advice_at after.sessions live.me.session else live.advice)

-- what each message carries
abbrev pub CarriesSo : NodeState → BranchId → Kind → Type 0
CarriesSo after from (kinds.Prepare site_below comment) = PreparesWith after from comment
CarriesSo after from (kinds.Exec call (tasks.Run given advice s)) = ExecsWith after from advice
CarriesSo after from _ = Unit {0}

abbrev pub CarrySo : TurnDraft → Type 0
CarrySo d = AllByRecursion (λ x. CarriesSo d.after x.from x.kind) d.says

module _ (after : NodeState) where
  none_so : (from : BranchId) (kind : Kind) → CarriesNone kind → CarriesSo after from kind
  none_so from (kinds.Prepare site_below comment) none = absurd none
  none_so from (kinds.Exec call (tasks.Run given advice s)) none = absurd none
  none_so from _ none = tt

  quiet : (posts : List Post) → AllSay CarriesNone posts → AllByRecursion (λ x. CarriesSo after x.from x.kind) posts
  quiet posts all = all_weaker (λ (x : Post). CarriesNone x.kind) (λ x. CarriesSo after x.from x.kind) (λ x none. none_so x.from x.kind none) posts all

  prepares_so : (me : BranchId) (comment : List ℕ) → PreparesWith after me comment → (path : Option ℕ) (i : ℕ) (es : List Edge) → AllByRecursion (λ x. CarriesSo after x.from x.kind) (prepares me comment path i es)
  prepares_so me comment with_it path i [] = tt
  prepares_so me comment with_it path i (e ∷ es) = (with_it, prepares_so me comment with_it path (i + 1) es)

answer_none : (x : Branch) (a : Answer) (o : Option BranchId) → AllSay CarriesNone (answer_says x a o)
answer_none x a None = tt
answer_none x a (Some parent) = (tt, tt)

-- an Exec to a child
execs_so : (k : NodeState) (x : Branch) (i : ℕ) (e : Errand) → CarrySo (calls_over k x i e)
execs_so k x i e = by (peer_of x.live i) e
  where
    by : (o : Option BranchId) (e : Errand) → AllByRecursion (λ y. CarriesSo (calls_over k x i e).after y.from y.kind) (exec_to k.sessions x i e o)
    by None e = tt
    by (Some peer) (errands.GoBack step) = (tt, tt)
    by (Some peer) (errands.Statement s given) = (
      record {
        live = x.live;
        at = put_found live_id k.lives x.live;
        same = ap (λ a. if is_none x.live.parent then a else x.live.advice) (sym (pends_advice k.sessions x.live x.live.me.session));
      },
      tt,
    )

-- a branch that acts collects, or has answered
acting_busy : {k : NodeState} {input : Input} {l : Live} {q : Bool} {a : Act} → Acting k input l q a → l.phase ≢ phases.Working
acting_busy (steps.Asks_down l comment q e es live begins has) = λ working. absurd cc
acting_busy (steps.Has_no_children l comment q a live begins none collected) = λ working. absurd cc
acting_busy (steps.Hears_abort l from q live answers) = λ working. (let collects = answers.collecting in absurd (cc (collects, working)))
acting_busy (steps.Waits_on l from v q live answers other some) = λ working. (let collects = answers.collecting in absurd (cc (collects, working)))
acting_busy (steps.Hears_last l from v q a live answers other all collected) = λ working. (let collects = answers.collecting in absurd (cc (collects, working)))
acting_busy (steps.At_point l from a live came ready pointed) = λ working. absurd (cc (ready, working))

rolls_none : (l : Live) (cs : List BranchId) → AllSay CarriesNone (to_each l.me kinds.Rollback cs)
rolls_none l cs = each_says CarriesNone l.me kinds.Rollback cs tt

acts_carry : (k : NodeState) (l : Live) (q : Bool) (a : Act) → l.phase ≢ phases.Working → CarrySo (act_turn k l q a)
acts_carry k l q acts.Rest busy = tt
acts_carry k l q acts.AskDown busy =
    prepares_so _ l.me l.comment (record { live = l; at = put_found live_id k.lives l; busy = busy; same = refl }) (path_of q (step_from l)) 1 l.edges
acts_carry k l q acts.SayReady busy = quiet _ _ (one_says CarriesNone l.me kinds.Ready l.parent tt)
acts_carry k l q acts.SayReadOnly busy = quiet _ _ (one_says CarriesNone l.me kinds.ReadOnly l.parent tt)
acts_carry k l q acts.Seal busy = quiet _ _ (one_says CarriesNone l.me kinds.Prepared l.parent tt)
acts_carry k l q (acts.SealAndPass i) busy = quiet _ _ (one_says CarriesNone l.me kinds.CommitPoint (peer_of l i) tt)
acts_carry k l q acts.Decide busy = quiet _ _ (each_says CarriesNone l.me (kinds.Committed (k.clock + 1)) (site_neighbors l) tt)
acts_carry k l q acts.Finish busy = tt
acts_carry k l q acts.Abandon busy = quiet _ _ (all_append (λ x. CarriesNone x.kind) (to_one l.me kinds.Abort l.parent) _ (one_says CarriesNone l.me kinds.Abort l.parent tt) (rolls_none l _))

says_none : {k : NodeState} {input : Input} {posts : List Post} → Says k input posts → AllSay CarriesNone posts
says_none (steps.Gone_replies to from call task came gone) = (tt, tt)
says_none (steps.Replies_again x to call task t came live last kept) = (tt, tt)
says_none (steps.Tells s from came kept) = (told_says CarriesNone none_decisions (kept_told s from), tt)
says_none {k = k} (steps.Recovers reco) = askings_say CarriesNone none_decisions k
says_none (steps.Gone_aborts to from b comment came gone) = (tt, tt)
says_none (steps.Gone_rolls_back to from came gone) = (tt, tt)
says_none (steps.Gone_acks to from n came gone) = (tt, tt)
says_none (steps.Gone_forgets to from came gone) = (tt, tt)
says_none (steps.Opened_again to parent edge root depth read_at o came found) = (tt, tt)
says_none (steps.Prepared_again s from b comment came kept again) = (tt, tt)
says_none (steps.Knows_commit s from n came kept knows) = (tt, tt)
says_none (steps.Knows_rollback s from came kept knows) = (tt, tt)
says_none (steps.Is_in_doubt l from came live other) = (tt, tt)

pub carry_on : (p : Place) (input : Input) → {k : NodeState} {d : TurnDraft} → Step p input k d → CarrySo d
carry_on p input (steps.Begins n s read_at call begins range none step) = carry_on p input step
carry_on p input (steps.Counts_call n s call counts step) = carry_on p input step
carry_on p input (steps.Goes_back x step goes next) = carry_on p input next
carry_on p input (steps.Pends n l given call has live code writer step) = carry_on p input step
carry_on p input (steps.Lets_reads_go l comment b live begins step) = carry_on p input step
carry_on p input (steps.Counts_ack s from kept came counts step) = carry_on p input step
carry_on p input (steps.Sends {k = k} posts why) = quiet k posts (says_none why)
carry_on p input (steps.Runs {k = k} x s given t ask way) = quiet _ _ (answer_none (branch_ran k.sessions x t (ran p k x.live.me s t)) _ x.live.parent)
carry_on p input (steps.Goes_nowhere {k = k} x s given r ask way) = quiet _ _ (answer_none x _ x.live.parent)
carry_on p input (steps.Calls {k = k} x s given i table ask way) = execs_so k x i (errands.Statement (passed_on s table) given)
carry_on p input (steps.Opens {k = k} x s given node link table ask way) = (tt, tt)
carry_on p input (steps.Goes_on {k = k} x from strength g link opened) = execs_so k (with_edge x (new_edge from link strength)) (length x.live.edges + 1) (less_room g.errand)
carry_on p input (steps.Hears_reply {k = k} x weight count a i e answered) = quiet _ _ (answer_none (hears_reply x i weight count e) _ x.live.parent)
carry_on p input (steps.Backs {k = k} x step from i calls next) = execs_so k x i (errands.GoBack step)
carry_on p input (steps.Is_back {k = k} x step from calls none) = quiet _ _ (answer_none x _ x.live.parent)
carry_on p input (steps.Opens_branch to parent edge root depth read_at came new) = (tt, tt)
carry_on p input (steps.Acts {k = k} l q a why) = acts_carry k l q a (acting_busy why)
carry_on p input (steps.Drops_told {k = k} l live drops) = quiet _ _ (rolls_none l _)
carry_on p input (steps.Drops_asked {k = k} l from live came parent) = (tt, quiet _ _ (rolls_none l _))
carry_on p input (steps.Does {k = k} s from (nexts.End d) kept why) = quiet _ _ (passes_say CarriesNone none_decisions s d)
carry_on p input (steps.Does {k = k} s from (nexts.Meet d mixed) kept why) = quiet _ _ (passes_say CarriesNone none_decisions s d)
carry_on p input (steps.Does {k = k} s from nexts.AckToward kept why) = quiet _ _ (one_says CarriesNone s.me kinds.Ack s.toward tt)
carry_on p input (steps.Does {k = k} s from nexts.Forget kept why) = quiet _ _ (each_says CarriesNone s.me kinds.Forgotten (map (λ b. b.branch) (beyond s)) tt)
carry_on p input (steps.Does s from nexts.SayForgotten kept why) = (tt, tt)
carry_on p input (steps.Does s from nexts.SayAck kept why) = (tt, tt)
carry_on p input (steps.Does s from nexts.Rest kept why) = tt
carry_on p input (steps.Leaves {k = k} n s d x call ends has live) = quiet _ _ (rolls_none x.live _)
carry_on p input (steps.Gives_up n x gives has calls live) = tt
carry_on p input (steps.Gives_up_commit {k = k} n b (Some l) gives has calls live) = quiet _ _ (rolls_none l _)
carry_on p input (steps.Gives_up_commit n b None gives has calls live) = tt
carry_on p input (steps.Rests) = tt
carry_on p input (steps.Refuses n s r is) = tt
carry_on p input (steps.Completes_at_once n s d call completes none) = tt
carry_on p input (steps.Makes_record n s r d call makes) = tt
carry_on p input (steps.Forces_given n id m b call named) = tt
carry_on p input (steps.Forces_commit n id b call named) = tt
carry_on p input (steps.Forces_rollback n id b call named) = tt
carry_on p input (steps.Hides n mixed id s call found) = tt
carry_on p input (steps.Advises n a call) = tt
carry_on p input (steps.Sets_read_only n call) = tt
carry_on p input (steps.Sets_savepoint n x name call has code live) = tt
carry_on p input (steps.Images checkpoint) = tt
