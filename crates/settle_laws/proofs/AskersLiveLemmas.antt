-- A branch that asks a child to prepare, in a turn in which a message comes, was live and is.
use Rattle.std.proofs.Common.{◌≡◌, ◌+◌, length, map, Bool, true, false, List, [], Some, None, refl, subst}
use Rattle.tran_ids.proofs.BranchLemmas.{equal_from_same}
use Rattle.tran_ids.proofs.ListedLemmas.{put_found}
use Rattle.commit_forget.specs.declared.next.Next.TheVariants as nexts
use Rattle.node_rules.specs.Data.{BranchId, KeptRow, Live, Act, Place, Input, Msg}
use Rattle.node_rules.specs.Data.acts
use Rattle.node_rules.specs.Data.inputs
use Rattle.node_rules.specs.Data.kinds
use Rattle.node_rules.specs.Words.{item_at, put_item}
use Rattle.node_rules.specs.NodeState.{NodeState, TurnDraft, live_id}
use Rattle.session_tree.specs.Live.{new_edge}
use Rattle.node_rules.specs.Statement.{ran}
use Rattle.node_rules.specs.Calls.{with_edge, hears_reply}
use Rattle.node_rules.specs.Prepare.{act_turn}
use Rattle.node_rules.proofs.Steps as steps
use Rattle.node_rules.proofs.Steps.{Step, Acting, Doing, IsKept, Drops}
use Rattle.node_rules.proofs.StepLemmas.{IsLive, acting_live}
use Rattle.session_tree.specs.Live.{children_of, peer_of}
use Rattle.session_tree.specs.Tree.{step as step_from}
use Rattle.node_rules.specs.Data.{Post, Next}
use Rattle.node_rules.specs.Data.answers
use Rattle.node_rules.specs.Data.dones
use Rattle.node_rules.specs.declared.work.Errand.TheVariants as errands
use Rattle.node_rules.specs.NodeState.{nothing, saying, post, to_each, to_one}
use Rattle.node_rules.specs.Names.{passed_on}
use Rattle.node_rules.specs.Statement.{answer_of_run}
use Rattle.node_rules.specs.Calls.{answered, branch_ran, runs_here, calls_over, opens_through, less_room, reply_heard, heard_answer, open_by}
use Rattle.node_rules.specs.Prepare.{path_of, site_neighbors, drops}
use Rattle.node_rules.specs.Commit.{next_turn, beyond}
use Rattle.node_rules.specs.Recovery.{kept_told}
use Rattle.node_rules.proofs.Steps.{Says}
use Rattle.run_rules.proofs.ListLemmas.{all_append}
use Rattle.run_base_laws.specs.FreezeLaws.{was_asked}
use Rattle.run_base_laws.proofs.KindSayLemmas.{AllSay, one_says, each_says, told_says, passes_say}
use Rattle.run_branch_laws.proofs.FreezeLemmas.{IsPlain, plain_asks, plain_decisions, prepares_ask}
use Rattle.tree_laws.proofs.AskStepLemmas.{answer_plain, exec_plain}

module _ (p : Place) (m : Msg) where
  abbrev input : Input
  input = inputs.Message m

  -- who asks a child to prepare was live and is
  abbrev pub AskersLive : NodeState → TurnDraft → Type 0
  AskersLive k d = (q z : BranchId) → was_asked d.says q z ≡ true → IsLive k q × IsLive d.after q

  plainly : (k : NodeState) (d : TurnDraft) → AllSay IsPlain d.says → AskersLive k d
  plainly k d plain q z asked = (let never : was_asked d.says q z ≡ false = plain_asks q z d.says plain in absurd (cc (never, asked)))

  rolled : (l : Live) → AllSay IsPlain (to_each l.me kinds.Rollback (children_of l))
  rolled l = each_says IsPlain l.me kinds.Rollback (children_of l) refl

  says_plain : {k : NodeState} {says : List Post} → Says k input says → AllSay IsPlain says
  says_plain (steps.Tells x from came kept) = (told_says IsPlain plain_decisions (kept_told x from), tt)
  says_plain (steps.Recovers reco) = absurd (cc (reco))
  says_plain _ = (refl, tt)

  acts_ask : (k : NodeState) (l : Live) (below : Bool) (a : Act) → IsLive k l.me → AskersLive k (act_turn k l below a)
  acts_ask k l below acts.Rest was = plainly k (act_turn k l below acts.Rest) tt
  acts_ask k l below acts.AskDown was = λ q z asked.
      (let me : l.me ≡ q = equal_from_same l.me q (prepares_ask l.me l.comment (path_of below (step_from l)) 1 l.edges q z asked).0 in
      (subst (IsLive k) me was, (l, subst (λ b. item_at live_id (put_item live_id k.lives l) b ≡ Some l) me (put_found live_id k.lives l))))
  acts_ask k l below acts.SayReady was = plainly k (act_turn k l below acts.SayReady) (one_says IsPlain l.me kinds.Ready l.parent refl)
  acts_ask k l below acts.SayReadOnly was = plainly k (act_turn k l below acts.SayReadOnly) (one_says IsPlain l.me kinds.ReadOnly l.parent refl)
  acts_ask k l below acts.Seal was = plainly k (act_turn k l below acts.Seal) (one_says IsPlain l.me kinds.Prepared l.parent refl)
  acts_ask k l below (acts.SealAndPass i) was = plainly k (act_turn k l below (acts.SealAndPass i)) (one_says IsPlain l.me kinds.CommitPoint (peer_of l i) refl)
  acts_ask k l below acts.Decide was = plainly k (act_turn k l below acts.Decide) (each_says IsPlain l.me (kinds.Committed (k.clock + 1)) (site_neighbors l) refl)
  acts_ask k l below acts.Finish was = plainly k (act_turn k l below acts.Finish) tt
  acts_ask k l below acts.Abandon was =
      plainly k (act_turn k l below acts.Abandon) (all_append (λ x. IsPlain x.kind) (to_one l.me kinds.Abort l.parent) (to_each l.me kinds.Rollback (children_of l)) (one_says IsPlain l.me kinds.Abort l.parent refl) (rolled l))

  does_ask : (k : NodeState) (x : KeptRow) (from : BranchId) (n : Next) → AskersLive k (next_turn k x from n)
  does_ask k x from nexts.Rest = plainly k (next_turn k x from nexts.Rest) tt
  does_ask k x from (nexts.End o) = plainly k (next_turn k x from (nexts.End o)) (passes_say IsPlain plain_decisions x o)
  does_ask k x from (nexts.Meet o mixed) = plainly k (next_turn k x from (nexts.Meet o mixed)) (passes_say IsPlain plain_decisions x o)
  does_ask k x from nexts.AckToward = plainly k (next_turn k x from nexts.AckToward) (one_says IsPlain x.me kinds.Ack x.toward refl)
  does_ask k x from nexts.Forget = plainly k (next_turn k x from nexts.Forget) (each_says IsPlain x.me kinds.Forgotten (map (λ b. b.branch) (beyond x)) refl)
  does_ask k x from nexts.SayForgotten = plainly k (next_turn k x from nexts.SayForgotten) (refl, tt)
  does_ask k x from nexts.SayAck = plainly k (next_turn k x from nexts.SayAck) (refl, tt)

  pub askers_live : {k : NodeState} {d : TurnDraft} → Step p input k d → AskersLive k d
  askers_live (steps.Begins n x read_at call begins range free step) = absurd (cc (call))
  askers_live (steps.Counts_call n x call counts step) = absurd (cc (call))
  askers_live (steps.Goes_back x step goes next) = askers_live next
  askers_live (steps.Pends n l given call has found code writer step) = absurd (cc (call))
  askers_live (steps.Lets_reads_go l comment below found begins step) = askers_live step
  askers_live (steps.Counts_ack x from kept came counts step) = askers_live step
  askers_live (steps.Rests {k = k}) = plainly k (nothing k) tt
  askers_live (steps.Sends {k = k} says why) = plainly k (saying k says) (says_plain why)
  askers_live (steps.Runs {k = k} x s given t asked way) =
      plainly k (runs_here p k x s t) (answer_plain (branch_ran k.sessions x t (ran p k x.live.me s t)) (answer_of_run (ran p k x.live.me s t)) x.live.parent)
  askers_live (steps.Goes_nowhere {k = k} x s given r asked way) = plainly k (answered k x (answers.Refused r)) (answer_plain x (answers.Refused r) x.live.parent)
  askers_live (steps.Calls {k = k} x s given i table asked way) =
      plainly k (calls_over k x i (errands.Statement (passed_on s table) given)) (exec_plain k.sessions x i (errands.Statement (passed_on s table) given) (peer_of x.live i))
  askers_live (steps.Opens {k = k} x s given node link table asked way) = plainly k (opens_through k x node link (passed_on s table) given) (refl, tt)
  askers_live (steps.Goes_on {k = k} x from strength g link opened) =
      plainly k (calls_over k (with_edge x (new_edge from link strength)) (length x.live.edges + 1) (less_room g.errand))
      (exec_plain k.sessions (with_edge x (new_edge from link strength)) (length x.live.edges + 1) (less_room g.errand) (peer_of (with_edge x (new_edge from link strength)).live (length x.live.edges + 1)))
  askers_live (steps.Hears_reply {k = k} x weight count a i e is) =
      plainly k (reply_heard k (hears_reply x i weight count e) e.link a) (answer_plain (hears_reply x i weight count e) (heard_answer (hears_reply x i weight count e).live e.link a) x.live.parent)
  askers_live (steps.Backs {k = k} x step from i calls next) = plainly k (calls_over k x i (errands.GoBack step)) (exec_plain k.sessions x i (errands.GoBack step) (peer_of x.live i))
  askers_live (steps.Is_back {k = k} x step from calls none) = plainly k (answered k x (answers.Did dones.RolledBack 0)) (answer_plain x (answers.Did dones.RolledBack 0) x.live.parent)
  askers_live (steps.Opens_branch {k = k} to parent edge root depth read_at came new) = plainly k (open_by p k parent edge root depth read_at None) (refl, tt)
  askers_live (steps.Acts {k = k} l below a why) = acts_ask k l below a (acting_live why)
  askers_live (steps.Drops_told {k = k} l found why) = plainly k (drops k l []) (rolled l)
  askers_live (steps.Drops_asked {k = k} l from found came parent) = plainly k (drops k l (post l.me from kinds.RolledBack)) (refl, rolled l)
  askers_live (steps.Does {k = k} x from n kept why) = does_ask k x from n
  askers_live (steps.Refuses n x r call) = absurd (cc (call))
  askers_live (steps.Completes_at_once n x r call completes none) = absurd (cc (call))
  askers_live (steps.Makes_record n x r done call makes) = absurd (cc (call))
  askers_live (steps.Forces_given n id scn c call named) = absurd (cc (call))
  askers_live (steps.Forces_commit n id c call named) = absurd (cc (call))
  askers_live (steps.Forces_rollback n id c call named) = absurd (cc (call))
  askers_live (steps.Hides n mixed id x call found) = absurd (cc (call))
  askers_live (steps.Advises n a call) = absurd (cc (call))
  askers_live (steps.Leaves n x r c call ends has found) = absurd (cc (call))
  askers_live (steps.Sets_read_only n call) = absurd (cc (call))
  askers_live (steps.Sets_savepoint n x name call has code found) = absurd (cc (call))
  askers_live (steps.Gives_up n x gives has calls found) = absurd (cc (gives))
  askers_live (steps.Gives_up_commit n c o gives has calls found) = absurd (cc (gives))
  askers_live (steps.Images checkpoint) = absurd (cc (checkpoint))
