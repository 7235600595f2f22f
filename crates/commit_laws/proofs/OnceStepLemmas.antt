-- Which steps of a node say Prepare: those in which the collect of a working branch with children begins.
use Rattle.std.proofs.Common.{◌≡◌, ℕ, ◌+◌, Bool, List, map, length, Option, Some, inl, inr, refl, subst}
use Rattle.std.specs.Prelude.{◌⊎◌}
use Rattle.commit_forget.specs.declared.next.Next.TheVariants as nexts
use Rattle.session_tree.specs.Live.{children_of, peer_of, new_edge}
use Rattle.session_tree.specs.Tree.{step as step_from}
use Rattle.node_rules.specs.Data.{Live, Act, Post, Place, Input}
use Rattle.node_rules.specs.Data.acts
use Rattle.node_rules.specs.Data.kinds
use Rattle.node_rules.specs.Data.phases
use Rattle.node_rules.specs.NodeState.{NodeState, TurnDraft, live_at, to_one, to_each}
use Rattle.node_rules.specs.Calls.{with_edge, hears_reply, branch_ran, less_room}
use Rattle.node_rules.specs.Statement.{ran}
use Rattle.node_rules.specs.Prepare.{path_of, with_prepare_sent, collecting, with_comment, prepares, site_neighbors, act_turn}
use Rattle.node_rules.specs.Recovery.{kept_told}
use Rattle.node_rules.proofs.Steps as steps
use Rattle.node_rules.proofs.Steps.{Step, Acting, Collects, Collected, Pointed, Says}
use Rattle.run_branch_laws.proofs.FreezeLemmas.{IsPlain, plain_decisions, no_ask}
use Rattle.run_base_laws.proofs.KindSayLemmas.{AllSay, one_says, each_says, told_says, passes_say, askings_say}
use Rattle.run_rules.proofs.ListLemmas.{all_append}
use Rattle.run_branch_laws.proofs.QuietLemmas.{NoRows, acting_apart}
use Rattle.tree_laws.proofs.WhyLemmas.{Near}
use Rattle.commit_laws.proofs.CommitCallLemmas.{OfCommit, begun_commit, pends_commit, counted_commit}
use Rattle.tree_laws.proofs.AskStepLemmas.{answer_plain, exec_plain}
use Rattle.run_base_laws.proofs.BeginLemmas.{may_begin}
use Rattle.node_rules.specs.Names.{passed_on}
use Rattle.node_rules.specs.declared.work.Errand.TheVariants as errands

-- ---- messages that are no Prepare

says_plain : {k : NodeState} {input : Input} {says : List Post} → Says k input says → AllSay IsPlain says
says_plain (steps.Tells s from came kept) = (told_says IsPlain plain_decisions (kept_told s from), tt)
says_plain {k = k} (steps.Recovers reco) = askings_say IsPlain plain_decisions k
says_plain _ = (refl, tt)

rolled_plain : (l : Live) → AllSay IsPlain (to_each l.me kinds.Rollback (children_of l))
rolled_plain l = each_says IsPlain l.me kinds.Rollback (children_of l) refl

-- ---- the Prepares of a branch

never_points : {l : Live} → Pointed l acts.AskDown → ⊥
never_points pointed = elim pointed [ ]

-- A live branch that was working asks its children.
pub record AsksDown (k0 : NodeState) (says : List Post) : Type 0 where
  pub live : Live
  pub found : live_at k0 live.me ≡ Some live
  pub working : live.phase ≡ phases.Working
  pub comment : List ℕ
  pub path : Option ℕ
  pub is : says ≡ prepares live.me comment path 1 (map with_prepare_sent live.edges)

module _ (k0 : NodeState) (p : Place) (input : Input) where
  -- COMMIT finds its root working
  abbrev pub FindsWork : NodeState → Type 0
  FindsWork k = OfCommit (λ l. l.phase ≡ phases.Working) p input k

  abbrev pub Asks : List Post → Type 0
  Asks says = AllSay IsPlain says ⊎ AsksDown k0 says

  module _ (k : NodeState) (near : Near k0 k) (work : FindsWork k) where
    near_live : (l : Live) → live_at k l.me ≡ Some l → live_at k0 l.me ≡ Some l
    near_live l live = subst (λ ls. live_at (record k0 { lives = ls }) l.me ≡ Some l) near.lives live

    was_working : (l : Live) {comment : List ℕ} {below : Bool} → live_at k l.me ≡ Some l → Collects k input l comment below → l.phase ≡ phases.Working
    was_working l live (steps.By_commit n given call has code writer is) = work n given l call has live
    was_working l live (steps.By_prepare from below came working) = working

    asking : {l : Live} {below : Bool} {a : Act} → Acting k input l below a → a ≡ acts.AskDown → AsksDown k0 (act_turn k l below acts.AskDown).says
    asking (steps.Asks_down l comment below e es live begins some) is =
        record { live = l; found = near_live l live; working = was_working l live begins; comment = comment; path = path_of below (step_from (collecting (with_comment l comment) below)); is = refl }
    asking (steps.Has_no_children l comment below a live begins none collected) is = absurd (no_ask (subst (Collected (collecting (with_comment l comment) below) below) is collected))
    asking (steps.Hears_last l from v below a live answers other all collected) is = absurd (no_ask (subst (Collected _ below) is collected))
    asking (steps.At_point l from a live came ready pointed) is = absurd (never_points (subst (Pointed l) is pointed))
    asking (steps.Hears_abort l from below live answers) is = absurd cc
    asking (steps.Waits_on l from v below live answers other some) is = absurd cc

    acts_ask : {l : Live} {below : Bool} (a : Act) → Acting k input l below a → Asks (act_turn k l below a).says
    acts_ask acts.Rest why = inl tt
    acts_ask acts.AskDown why = inr (asking why refl)
    acts_ask {l = l} acts.SayReadOnly why = inl (one_says IsPlain l.me kinds.ReadOnly l.parent refl)
    acts_ask {l = l} acts.SayReady why = inl (one_says IsPlain l.me kinds.Ready l.parent refl)
    acts_ask {l = l} acts.Seal why = inl (one_says IsPlain l.me kinds.Prepared l.parent refl)
    acts_ask {l = l} (acts.SealAndPass i) why = inl (one_says IsPlain l.me kinds.CommitPoint (peer_of l i) refl)
    acts_ask {l = l} acts.Decide why = inl (each_says IsPlain l.me (kinds.Committed (k.clock + 1)) (site_neighbors l) refl)
    acts_ask acts.Finish why = inl tt
    acts_ask {l = l} acts.Abandon why = inl (all_append (λ x. IsPlain x.kind) (to_one l.me kinds.Abort l.parent) _ (one_says IsPlain l.me kinds.Abort l.parent refl) (rolled_plain l))

  pub asks_on : {k : NodeState} {d : TurnDraft} → Step p input k d → (NoRows input → Near k0 k) → FindsWork k → Asks d.says
  asks_on (steps.Begins {k = k} n s read_at call begins range none step) near work = asks_on step (λ apart. absurd (apart n s call (may_begin begins))) (begun_commit (λ l. l.phase ≡ phases.Working) p input k n s read_at call begins)
  asks_on (steps.Counts_call {k = k} n s call counts step) near work =
      asks_on step (λ apart. (let is = near apart in record { lives = is.lives; clock = is.clock })) (counted_commit (λ l. l.phase ≡ phases.Working) p input k n s call counts)
  asks_on (steps.Goes_back {k = k} x step goes next) near work = asks_on next (λ apart. (let is = near apart in record { lives = is.lives; clock = is.clock })) work
  asks_on (steps.Pends {k = k} n l given call has live code writer step) near work = asks_on step (λ apart. (let is = near apart in record { lives = is.lives; clock = is.clock })) (pends_commit (λ l. l.phase ≡ phases.Working) p input k n l given call has work)
  asks_on (steps.Lets_reads_go {k = k} l comment b live begins step) near work = asks_on step (λ apart. (let is = near apart in record { lives = is.lives; clock = is.clock })) work
  asks_on (steps.Counts_ack {k = k} s from kept came counts step) near work = asks_on step (λ apart. (let is = near apart in record { lives = is.lives; clock = is.clock })) work
  asks_on (steps.Sends says why) near work = inl (says_plain why)
  asks_on (steps.Runs {k = k} x s given t asked way) near work = inl (answer_plain (branch_ran k.sessions x t (ran p k x.live.me s t)) _ x.live.parent)
  asks_on (steps.Goes_nowhere x s given r asked way) near work = inl (answer_plain x _ x.live.parent)
  asks_on (steps.Calls {k = k} x s given i table asked way) near work = inl (exec_plain k.sessions x i (errands.Statement (passed_on s table) given) (peer_of x.live i))
  asks_on (steps.Opens x s given node link table asked way) near work = inl (refl, tt)
  asks_on (steps.Goes_on {k = k} x from strength g link opened) near work =
      inl (exec_plain k.sessions (with_edge x (new_edge from link strength)) (length x.live.edges + 1) (less_room g.errand) (peer_of (with_edge x (new_edge from link strength)).live (length x.live.edges + 1)))
  asks_on (steps.Hears_reply x weight count a i e answered) near work = inl (answer_plain (hears_reply x i weight count e) _ x.live.parent)
  asks_on (steps.Backs {k = k} x step from i calls next) near work = inl (exec_plain k.sessions x i (errands.GoBack step) (peer_of x.live i))
  asks_on (steps.Is_back x step from calls none) near work = inl (answer_plain x _ x.live.parent)
  asks_on (steps.Opens_branch to parent edge root depth read_at came new) near work = inl (refl, tt)
  asks_on (steps.Acts {k = k} l b a why) near work = acts_ask k (near (acting_apart why)) work a why
  asks_on (steps.Drops_told l live drops) near work = inl (rolled_plain l)
  asks_on (steps.Drops_asked l from live came parent) near work = inl (refl, rolled_plain l)
  asks_on (steps.Does s from (nexts.End d) kept why) near work = inl (passes_say IsPlain plain_decisions s d)
  asks_on (steps.Does s from (nexts.Meet d mixed) kept why) near work = inl (passes_say IsPlain plain_decisions s d)
  asks_on (steps.Does s from nexts.AckToward kept why) near work = inl (one_says IsPlain s.me kinds.Ack s.toward refl)
  asks_on (steps.Does s from nexts.Forget kept why) near work = inl (each_says IsPlain s.me kinds.Forgotten _ refl)
  asks_on (steps.Does s from nexts.SayForgotten kept why) near work = inl (refl, tt)
  asks_on (steps.Does s from nexts.SayAck kept why) near work = inl (refl, tt)
  asks_on (steps.Leaves n s d x call ends has live) near work = inl (rolled_plain x.live)
  asks_on (steps.Gives_up_commit n b (Some l) gives has calls live) near work = inl (rolled_plain l)
  asks_on _ near work = inl tt
