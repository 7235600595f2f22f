-- Why a turn seals, decides, and answers Ready or ReadOnly: an act of the prepare phase of a branch that was live.
use Rattle.std.proofs.Common.{◌≡◌, ◌≢◌, ℕ, ◌+◌, Bool, List, ◌++◌, length, Option, Some, None, refl, ap}
use Rattle.std.specs.Prelude.{IfSome}
use Rattle.std.specs.List.{AllByRecursion}
use Rattle.tran_ids.proofs.ListedLemmas.{put_found}
use Rattle.commit_forget.specs.declared.next.Next.TheVariants as nexts
use Rattle.prepare_phase.specs.Records.{sealed_of, decided_of}
use Rattle.session_tree.specs.Live.{children_of, peer_of, new_edge}
use Rattle.session_tree.specs.Tree.{step as step_from}
use Rattle.node_rules.specs.Data.{Answer, BranchId, Change, Kind, Live, Act, Post, RedoRecord, Place, Input}
use Rattle.node_rules.specs.Data.acts
use Rattle.node_rules.specs.Data.kinds
use Rattle.node_rules.specs.Data.phases
use Rattle.node_rules.specs.Data.records
use Rattle.node_rules.specs.declared.work.Errand.{Errand}
use Rattle.node_rules.specs.declared.work.Errand.TheVariants as errands
use Rattle.node_rules.specs.declared.session.Session.{Session}
use Rattle.node_rules.specs.Words.{item_at, drop_item}
use Rattle.node_rules.specs.NodeState.{NodeState, Branch, TurnDraft, live_id, post, to_one, to_each}
use Rattle.node_rules.specs.Calls.{answer_says, exec_to, with_edge, hears_reply, branch_ran, less_room}
use Rattle.node_rules.specs.Names.{passed_on}
use Rattle.node_rules.specs.Statement.{ran}
use Rattle.node_rules.specs.Prepare.{path_of, ready, own_changes, site_neighbors, act_turn}
use Rattle.node_rules.specs.Recovery.{kept_told}
use Rattle.node_rules.proofs.Steps as steps
use Rattle.node_rules.proofs.Steps.{Step, Acting, Says}
use Rattle.run_rules.proofs.ListLemmas.{all_weaker, all_append}
use Rattle.run_base_laws.proofs.KindSayLemmas.{OfDecisions, AllSay, one_says, each_says, prepares_say, told_says, passes_say, askings_say}
use Rattle.run_base_laws.proofs.BeginLemmas.{may_begin}
use Rattle.run_branch_laws.proofs.QuietLemmas.{NoRows, acting_apart}
use Rattle.run_branch_laws.proofs.FreezeLemmas.{IsPlain}

-- ---- messages that are neither Ready nor ReadOnly

abbrev IsMute : Kind → Type 0
IsMute kind = (kind ≢ kinds.Ready) × (kind ≢ kinds.ReadOnly)

mute_decisions : OfDecisions IsMute
mute_decisions = record {
  committed = λ n. ((λ e. absurd cc), (λ e. absurd cc));
  rolled_back = ((λ e. absurd cc), (λ e. absurd cc));
  rollback = ((λ e. absurd cc), (λ e. absurd cc));
  in_doubt = ((λ e. absurd cc), (λ e. absurd cc));
  ack = ((λ e. absurd cc), (λ e. absurd cc));
  forgotten = ((λ e. absurd cc), (λ e. absurd cc));
  ask = ((λ e. absurd cc), (λ e. absurd cc));
}

answer_mute : (x : Branch) (a : Answer) (o : Option BranchId) → AllSay IsMute (answer_says x a o)
answer_mute x a None = tt
answer_mute x a (Some parent) = (((λ e. absurd cc), (λ e. absurd cc)), tt)

exec_mute : (ss : List Session) (x : Branch) (i : ℕ) (e : Errand) (o : Option BranchId) → AllSay IsMute (exec_to ss x i e o)
exec_mute ss x i e None = tt
exec_mute ss x i e (Some c) = (((λ e. absurd cc), (λ e. absurd cc)), tt)

says_mute : {k : NodeState} {input : Input} {says : List Post} → Says k input says → AllSay IsMute says
says_mute (steps.Tells s from came kept) = (told_says IsMute mute_decisions (kept_told s from), tt)
says_mute {k = k} (steps.Recovers reco) = askings_say IsMute mute_decisions k
says_mute _ = (((λ e. absurd cc), (λ e. absurd cc)), tt)

-- ---- the act

-- the same live branches, and the same clock
pub record Near (k0 k : NodeState) : Type 0 where
  pub lives : k.lives ≡ k0.lives
  pub clock : k.clock ≡ k0.clock

-- A live branch acts so, at a node that is as it was but for its calls, its locks and its Acks.
pub record ActsIn (k0 : NodeState) (input : Input) (l : Live) (site_below : Bool) (a : Act) : Type 0 where
  pub here : NodeState
  pub near : Near k0 here
  pub acting : Acting here input l site_below a

-- how a branch becomes sealed
abbrev pub seal_act : Option ℕ → Act
seal_act None = acts.Seal
seal_act (Some i) = acts.SealAndPass i

module _ (k0 : NodeState) (input : Input) where
  -- Its record is that of an act, and its messages ask nobody.
  abbrev pub WroteWhy : List Post → RedoRecord → Type 0
  WroteWhy says (records.Sealed r) = AllSay IsPlain says × (l : Live) × (site_below : Bool) × (path : Option ℕ) × ActsIn k0 input l site_below (seal_act path) × (cs : List Change) × (r ≡ sealed_of k0.clock l cs path)
  WroteWhy says (records.Decided r) = AllSay IsPlain says × (l : Live) × (site_below : Bool) × ActsIn k0 input l site_below acts.Decide × (cs : List Change) × (r ≡ decided_of (k0.clock + 1) l cs)
  WroteWhy says _ = Unit {0}

  -- Who says Ready to its parent stays live, and is Ready. Who says ReadOnly acts so, and asks nobody.
  abbrev pub SaidWhy : List Post → List Live → BranchId → BranchId → Kind → Type 0
  SaidWhy says after from to kinds.Ready = (y : Live) × (item_at live_id after from ≡ Some y) × (y.phase ≡ phases.Ready) × (y.parent ≡ Some to) × (y.me ≡ from)
  SaidWhy says after from to kinds.ReadOnly = AllSay IsPlain says × (l : Live) × (site_below : Bool) × ActsIn k0 input l site_below acts.SayReadOnly × (l.me ≡ from) × (l.parent ≡ Some to)
  SaidWhy says after from to _ = Unit {0}

  -- each of these messages is so
  abbrev pub SaidSo : List Post → List Live → List Post → Type 0
  SaidSo says after xs = AllByRecursion (λ x. SaidWhy says after x.from x.to x.kind) xs

  -- what a step writes and says is so
  abbrev pub WhyOf : TurnDraft → Type 0
  WhyOf d = IfSome d.wrote (WroteWhy d.says) × SaidSo d.says d.after.lives d.says

  mute_why : (says : List Post) (after : List Live) (from to : BranchId) (kind : Kind) → IsMute kind → SaidWhy says after from to kind
  mute_why says after from to kinds.Ready is = absurd (is.0 refl)
  mute_why says after from to kinds.ReadOnly is = absurd (is.1 refl)
  mute_why says after from to _ is = tt

  mutely : (says : List Post) (after : List Live) (xs : List Post) → AllSay IsMute xs → SaidSo says after xs
  mutely says after xs all = all_weaker (λ x. IsMute x.kind) (λ x. SaidWhy says after x.from x.to x.kind) (λ x is. mute_why says after x.from x.to x.kind is) xs all

  one_why : (says : List Post) (after : List Live) (from : BranchId) (kind : Kind) (o : Option BranchId) → ((q : BranchId) → o ≡ Some q → SaidWhy says after from q kind) → SaidSo says after (to_one from kind o)
  one_why says after from kind None each = tt
  one_why says after from kind (Some q) each = (each q refl, tt)

  -- ---- acts

  mute_one : (says : List Post) (after : List Live) (from : BranchId) (kind : Kind) (o : Option BranchId) → IsMute kind → SaidSo says after (to_one from kind o)
  mute_one says after from kind o is = mutely says after (to_one from kind o) (one_says IsMute from kind o is)

  mute_each : (says : List Post) (after : List Live) (from : BranchId) (kind : Kind) (bs : List BranchId) → IsMute kind → SaidSo says after (to_each from kind bs)
  mute_each says after from kind bs is = mutely says after (to_each from kind bs) (each_says IsMute from kind bs is)

  module _ (k : NodeState) (near : Near k0 k) where
    acts_in : {l : Live} {site_below : Bool} {a : Act} → Acting k input l site_below a → ActsIn k0 input l site_below a
    acts_in why = record { here = k; near = near; acting = why }

    acts_why : {l : Live} {site_below : Bool} (a : Act) → Acting k input l site_below a → WhyOf (act_turn k l site_below a)
    acts_why acts.Rest why = (tt, tt)
    acts_why {l = l} {site_below = b} acts.AskDown why = (tt, mutely _ _ _ (prepares_say IsMute (λ q c. ((λ e. absurd cc), (λ e. absurd cc))) l.me l.comment (path_of b (step_from l)) 1 l.edges))
    acts_why {l = l} {site_below = b} acts.SayReadOnly why = (tt, one_why _ _ l.me kinds.ReadOnly l.parent (λ q above. (one_says IsPlain l.me kinds.ReadOnly l.parent refl, l, b, acts_in why, refl, above)))
    acts_why {l = l} {site_below = b} acts.SayReady why = (tt, one_why _ _ l.me kinds.Ready l.parent (λ q above. (ready l, put_found live_id k.lives (ready l), refl, above, refl)))
    acts_why {l = l} {site_below = b} acts.Seal why = (
      (one_says IsPlain l.me kinds.Prepared l.parent refl, l, b, None, acts_in why, own_changes k l.me, ap (λ c. sealed_of c l (own_changes k l.me) None) near.clock),
      mute_one _ _ l.me kinds.Prepared l.parent ((λ e. absurd cc), (λ e. absurd cc)),
    )
    acts_why {l = l} {site_below = b} (acts.SealAndPass i) why = (
      (one_says IsPlain l.me kinds.CommitPoint (peer_of l i) refl, l, b, Some i, acts_in why, own_changes k l.me, ap (λ c. sealed_of c l (own_changes k l.me) (Some i)) near.clock),
      mute_one _ _ l.me kinds.CommitPoint (peer_of l i) ((λ e. absurd cc), (λ e. absurd cc)),
    )
    acts_why {l = l} {site_below = b} acts.Decide why = (
      (each_says IsPlain l.me (kinds.Committed (k.clock + 1)) (site_neighbors l) refl, l, b, acts_in why, own_changes k l.me, ap (λ c. decided_of (c + 1) l (own_changes k l.me)) near.clock),
      mute_each _ _ l.me (kinds.Committed (k.clock + 1)) (site_neighbors l) ((λ e. absurd cc), (λ e. absurd cc)),
    )
    acts_why acts.Finish why = (tt, tt)
    acts_why {l = l} acts.Abandon why = (
      tt,
      mutely _ _ _ (all_append (λ x. IsMute x.kind) (to_one l.me kinds.Abort l.parent) _ (one_says IsMute l.me kinds.Abort l.parent ((λ e. absurd cc), (λ e. absurd cc))) (each_says IsMute l.me kinds.Rollback (children_of l) ((λ e. absurd cc), (λ e. absurd cc)))),
    )

  -- ---- every step

  rolled : (l : Live) → AllSay IsMute (to_each l.me kinds.Rollback (children_of l))
  rolled l = each_says IsMute l.me kinds.Rollback (children_of l) ((λ e. absurd cc), (λ e. absurd cc))

  module _ (p : Place) where
    -- the node is as it was, unless a statement that begins a transaction came
    pub why_on : {k : NodeState} {d : TurnDraft} → Step p input k d → (NoRows input → Near k0 k) → WhyOf d
    why_on (steps.Begins n s read_at call begins range none step) near = why_on step (λ no. absurd (no n s call (may_begin begins)))
    why_on (steps.Counts_call {k = k} n s call counts step) near = why_on step (λ no. (let is = near no in record { lives = is.lives; clock = is.clock }))
    why_on (steps.Goes_back {k = k} x step goes next) near = why_on next (λ no. (let is = near no in record { lives = is.lives; clock = is.clock }))
    why_on (steps.Pends {k = k} n l given call has live code writer step) near = why_on step (λ no. (let is = near no in record { lives = is.lives; clock = is.clock }))
    why_on (steps.Lets_reads_go {k = k} l comment b live begins step) near = why_on step (λ no. (let is = near no in record { lives = is.lives; clock = is.clock }))
    why_on (steps.Counts_ack {k = k} s from kept came counts step) near = why_on step (λ no. (let is = near no in record { lives = is.lives; clock = is.clock }))
    why_on (steps.Sends says why) near = (tt, mutely _ _ says (says_mute why))
    why_on (steps.Runs {k = k} x s given t asked way) near = (tt, mutely _ _ _ (answer_mute (branch_ran k.sessions x t (ran p k x.live.me s t)) _ x.live.parent))
    why_on (steps.Goes_nowhere x s given r asked way) near = (tt, mutely _ _ _ (answer_mute x _ x.live.parent))
    why_on (steps.Calls {k = k} x s given i table asked way) near = (tt, mutely _ _ _ (exec_mute k.sessions x i (errands.Statement (passed_on s table) given) (peer_of x.live i)))
    why_on (steps.Opens x s given node link table asked way) near = (tt, (tt, tt))
    why_on (steps.Goes_on {k = k} x from strength g link opened) near =
        (tt, mutely _ _ _ (exec_mute k.sessions (with_edge x (new_edge from link strength)) (length x.live.edges + 1) (less_room g.errand) (peer_of (with_edge x (new_edge from link strength)).live (length x.live.edges + 1))))
    why_on (steps.Hears_reply x weight count a i e answered) near = (tt, mutely _ _ _ (answer_mute (hears_reply x i weight count e) _ x.live.parent))
    why_on (steps.Backs {k = k} x step from i calls next) near = (tt, mutely _ _ _ (exec_mute k.sessions x i (errands.GoBack step) (peer_of x.live i)))
    why_on (steps.Is_back x step from calls none) near = (tt, mutely _ _ _ (answer_mute x _ x.live.parent))
    why_on (steps.Opens_branch to parent edge root depth read_at came new) near = (tt, (tt, tt))
    why_on (steps.Acts {k = k} l b a why) near = acts_why k (near (acting_apart why)) a why
    why_on (steps.Drops_told l live drops) near = (tt, mutely _ _ _ (rolled l))
    why_on (steps.Drops_asked {k = k} l from live came parent) near =
        let xs : List Post = post l.me from kinds.RolledBack ++ to_each l.me kinds.Rollback (children_of l) in
        let mute : AllSay IsMute xs = (((λ e. absurd cc), (λ e. absurd cc)), rolled l) in
        (tt, mutely xs (drop_item live_id k.lives l.me) xs mute)
    why_on (steps.Does s from (nexts.End d) kept why) near = (tt, mutely _ _ _ (passes_say IsMute mute_decisions s d))
    why_on (steps.Does s from (nexts.Meet d mixed) kept why) near = (tt, mutely _ _ _ (passes_say IsMute mute_decisions s d))
    why_on (steps.Does s from nexts.AckToward kept why) near = (tt, mute_one _ _ s.me kinds.Ack s.toward ((λ e. absurd cc), (λ e. absurd cc)))
    why_on (steps.Does s from nexts.Forget kept why) near = (tt, mute_each _ _ s.me kinds.Forgotten _ ((λ e. absurd cc), (λ e. absurd cc)))
    why_on (steps.Does s from nexts.SayForgotten kept why) near = (tt, (tt, tt))
    why_on (steps.Does s from nexts.SayAck kept why) near = (tt, (tt, tt))
    why_on (steps.Makes_record n s r d call (steps.Sets_recovery on)) near = (tt, tt)
    why_on (steps.Leaves n s d x call ends has live) near = (tt, mutely _ _ _ (rolled x.live))
    why_on (steps.Gives_up_commit n b (Some l) gives has calls live) near = (tt, mutely _ _ _ (rolled l))
    why_on _ near = (tt, tt)
