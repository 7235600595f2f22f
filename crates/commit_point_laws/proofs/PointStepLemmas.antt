-- Who says CommitPoint: a branch that becomes sealed in the turn, to the child to which its step leads.
use Rattle.std.proofs.Common.{◌≡◌, ℕ, ◌+◌, Bool, false, List, length, Option, Some, None, refl}
use Rattle.commit_forget.specs.declared.next.Next.TheVariants as nexts
use Rattle.session_tree.specs.Live.{children_of, peer_of, new_edge}
use Rattle.session_tree.specs.Tree.{step as step_from}
use Rattle.node_rules.specs.Data.{Answer, BranchId, Kind, Live, Act, Post, RedoRecord, Place, Input}
use Rattle.node_rules.specs.declared.work.Errand.{Errand}
use Rattle.node_rules.specs.Data.acts
use Rattle.node_rules.specs.Data.kinds
use Rattle.node_rules.specs.Data.records
use Rattle.node_rules.specs.declared.session.Session.{Session}
use Rattle.node_rules.specs.NodeState.{NodeState, Branch, TurnDraft, to_one, to_each}
use Rattle.node_rules.specs.Statement.{ran}
use Rattle.node_rules.specs.Calls.{answer_says, exec_to, with_edge, hears_reply, branch_ran, less_room}
use Rattle.node_rules.specs.Prepare.{path_of, site_neighbors, act_turn}
use Rattle.node_rules.specs.Recovery.{kept_told}
use Rattle.node_rules.proofs.Steps as steps
use Rattle.node_rules.proofs.Steps.{Step, Acting, Says}
use Rattle.run_base_laws.proofs.KindSayLemmas.{OfDecisions, AllSay, one_says, each_says, prepares_say, told_says, passes_say, askings_say}
use Rattle.run_rules.proofs.ListLemmas.{all_append}
use Rattle.run_branch_laws.proofs.QuietLemmas.{NoRows, acting_apart}
use Rattle.tree_laws.proofs.WhyLemmas.{Near, ActsIn, seal_act}
use Rattle.commit_point_laws.specs.PointLaws.{is_point}
use Rattle.run_base_laws.proofs.BeginLemmas.{may_begin}
use Rattle.node_rules.specs.Names.{passed_on}
use Rattle.node_rules.specs.declared.work.Errand.TheVariants as errands

-- ---- messages that are no CommitPoint

abbrev pub IsOther : Kind → Type 0
IsOther kind = is_point kind ≡ false

other_decisions : OfDecisions IsOther
other_decisions = record { committed = λ n. refl; rolled_back = refl; rollback = refl; in_doubt = refl; ack = refl; forgotten = refl; ask = refl }

answer_other : (x : Branch) (a : Answer) (o : Option BranchId) → AllSay IsOther (answer_says x a o)
answer_other x a None = tt
answer_other x a (Some parent) = (refl, tt)

exec_other : (ss : List Session) (x : Branch) (i : ℕ) (errand : Errand) (o : Option BranchId) → AllSay IsOther (exec_to ss x i errand o)
exec_other ss x i errand None = tt
exec_other ss x i errand (Some c) = (refl, tt)

says_other : {k : NodeState} {input : Input} {says : List Post} → Says k input says → AllSay IsOther says
says_other (steps.Tells s from came kept) = (told_says IsOther other_decisions (kept_told s from), tt)
says_other {k = k} (steps.Recovers reco) = askings_say IsOther other_decisions k
says_other _ = (refl, tt)

-- ---- the turn of a seal

-- what a branch says that becomes sealed: Prepared to its parent, or CommitPoint to the child of this number
abbrev pub seal_says : Live → Option ℕ → List Post
seal_says l None = to_one l.me kinds.Prepared l.parent
seal_says l (Some i) = to_one l.me kinds.CommitPoint (peer_of l i)

module _ (k0 : NodeState) (input : Input) where
  -- A seal is an act of a live branch that says so.
  pub record SealsSo (says : List Post) (me : BranchId) : Type 0 where
    pub live : Live
    pub site_below : Bool
    pub path : Option ℕ
    pub acts_in : ActsIn k0 input live site_below (seal_act path)
    pub is_me : live.me ≡ me
    pub says_it : says ≡ seal_says live path

  -- no other turn says CommitPoint
  abbrev pub PointWhy : List Post → Option RedoRecord → Type 0
  PointWhy says (Some (records.Sealed r)) = SealsSo says r.me
  PointWhy says _ = AllSay IsOther says

  rolled : (l : Live) → AllSay IsOther (to_each l.me kinds.Rollback (children_of l))
  rolled l = each_says IsOther l.me kinds.Rollback (children_of l) refl

  module _ (k : NodeState) (near : Near k0 k) where
    acts_why : {l : Live} {site_below : Bool} (a : Act) → Acting k input l site_below a → PointWhy (act_turn k l site_below a).says (act_turn k l site_below a).wrote
    acts_why acts.Rest why = tt
    acts_why {l = l} {site_below = b} acts.AskDown why = prepares_say IsOther (λ q c. refl) l.me l.comment (path_of b (step_from l)) 1 l.edges
    acts_why {l = l} acts.SayReadOnly why = one_says IsOther l.me kinds.ReadOnly l.parent refl
    acts_why {l = l} acts.SayReady why = one_says IsOther l.me kinds.Ready l.parent refl
    acts_why {l = l} {site_below = b} acts.Seal why = record { live = l; site_below = b; path = None; acts_in = record { here = k; near = near; acting = why }; is_me = refl; says_it = refl }
    acts_why {l = l} {site_below = b} (acts.SealAndPass i) why = record { live = l; site_below = b; path = Some i; acts_in = record { here = k; near = near; acting = why }; is_me = refl; says_it = refl }
    acts_why {l = l} acts.Decide why = each_says IsOther l.me (kinds.Committed (k.clock + 1)) (site_neighbors l) refl
    acts_why acts.Finish why = tt
    acts_why {l = l} acts.Abandon why = all_append (λ x. IsOther x.kind) (to_one l.me kinds.Abort l.parent) _ (one_says IsOther l.me kinds.Abort l.parent refl) (rolled l)

  module _ (p : Place) where
    -- the node is as it was, unless a statement came that begins a transaction
    pub point_why : {k : NodeState} {d : TurnDraft} → Step p input k d → (NoRows input → Near k0 k) → PointWhy d.says d.wrote
    point_why (steps.Begins n s read_at call begins range none step) near = point_why step (λ no. absurd (no n s call (may_begin begins)))
    point_why (steps.Counts_call {k = k} n s call counts step) near = point_why step (λ no. (let is = near no in record { lives = is.lives; clock = is.clock }))
    point_why (steps.Goes_back {k = k} x step goes next) near = point_why next (λ no. (let is = near no in record { lives = is.lives; clock = is.clock }))
    point_why (steps.Pends {k = k} n l given call has live code writer step) near = point_why step (λ no. (let is = near no in record { lives = is.lives; clock = is.clock }))
    point_why (steps.Lets_reads_go {k = k} l comment b live begins step) near = point_why step (λ no. (let is = near no in record { lives = is.lives; clock = is.clock }))
    point_why (steps.Counts_ack {k = k} s from kept came counts step) near = point_why step (λ no. (let is = near no in record { lives = is.lives; clock = is.clock }))
    point_why (steps.Sends says why) near = says_other why
    point_why (steps.Runs {k = k} x s given t asked way) near = answer_other (branch_ran k.sessions x t (ran p k x.live.me s t)) _ x.live.parent
    point_why (steps.Goes_nowhere x s given r asked way) near = answer_other x _ x.live.parent
    point_why (steps.Calls {k = k} x s given i table asked way) near = exec_other k.sessions x i (errands.Statement (passed_on s table) given) (peer_of x.live i)
    point_why (steps.Opens x s given node link table asked way) near = (refl, tt)
    point_why (steps.Goes_on {k = k} x from strength g link opened) near =
        exec_other k.sessions (with_edge x (new_edge from link strength)) (length x.live.edges + 1) (less_room g.errand) (peer_of (with_edge x (new_edge from link strength)).live (length x.live.edges + 1))
    point_why (steps.Hears_reply x weight count a i e answered) near = answer_other (hears_reply x i weight count e) _ x.live.parent
    point_why (steps.Backs {k = k} x step from i calls next) near = exec_other k.sessions x i (errands.GoBack step) (peer_of x.live i)
    point_why (steps.Is_back x step from calls none) near = answer_other x _ x.live.parent
    point_why (steps.Opens_branch to parent edge root depth read_at came new) near = (refl, tt)
    point_why (steps.Acts {k = k} l b a why) near = acts_why k (near (acting_apart why)) a why
    point_why (steps.Drops_told l live drops) near = rolled l
    point_why (steps.Drops_asked l from live came parent) near = (refl, rolled l)
    point_why (steps.Does s from (nexts.End d) kept why) near = passes_say IsOther other_decisions s d
    point_why (steps.Does s from (nexts.Meet d mixed) kept why) near = passes_say IsOther other_decisions s d
    point_why (steps.Does s from nexts.AckToward kept why) near = one_says IsOther s.me kinds.Ack s.toward refl
    point_why (steps.Does s from nexts.Forget kept why) near = each_says IsOther s.me kinds.Forgotten _ refl
    point_why (steps.Does s from nexts.SayForgotten kept why) near = (refl, tt)
    point_why (steps.Does s from nexts.SayAck kept why) near = (refl, tt)
    point_why (steps.Makes_record n s r d call (steps.Sets_recovery on)) near = tt
    point_why (steps.Leaves n s d x call ends has live) near = rolled x.live
    point_why (steps.Gives_up_commit n b (Some l) gives has calls live) near = rolled l
    point_why _ near = tt
