-- Each Open goes to a node that there is; no other message of a step is an Open.
use Rattle.std.proofs.Common.{◌≡◌, ℕ, ◌+◌, ◌==◌, ◌||◌, List, [], map, length, position, Option, Some, None, refl, subst, arith}
use Rattle.std.specs.Prelude.{nat_le, option_map, find}
use Rattle.std.specs.List.{AllByRecursion}
use Rattle.std.proofs.lemmas.Bool.{cond_both}
use Rattle.std.proofs.lemmas.List.Quantifiers.{position-Some}
use Rattle.dtx_values.specs.Limits.{depth_limit}
use Rattle.session_tree.specs.Live.{children_of, peer_of, edge_by_link, new_edge}
use Rattle.session_tree.specs.Tree.{room, step as step_from}
use Rattle.commit_forget.specs.declared.next.Next.TheVariants as nexts
use Rattle.node_rules.specs.Data.{Answer, Link, Stmt, BranchId, Kind, Live, Post, Durable, Place, Input}
use Rattle.node_rules.specs.declared.work.Errand.{Errand}
use Rattle.node_rules.specs.Data.acts
use Rattle.node_rules.specs.Data.kinds
use Rattle.node_rules.specs.declared.session.Session.{Session}
use Rattle.node_rules.specs.Words.{same_text}
use Rattle.node_rules.specs.NodeState.{NodeState, Branch, TurnDraft, to_one, to_each}
use Rattle.node_rules.specs.Names.{Named, A_table, Behind, Unknown, Through, node_named, target_of, way_new, way_edge, way_target, way_named, way_of, named_by, ref_of, passed_on}
use Rattle.node_rules.specs.Calls.{answer_says, exec_to, with_edge, hears_reply, branch_ran, less_room}
use Rattle.node_rules.specs.Statement.{ran}
use Rattle.node_rules.specs.Prepare.{path_of, site_neighbors}
use Rattle.node_rules.specs.Commit.{beyond}
use Rattle.node_rules.specs.Recovery.{kept_told}
use Rattle.node_rules.proofs.Steps as steps
use Rattle.node_rules.proofs.Steps.{Step, Says}
use Rattle.run_rules.specs.Lawful.{IsNode}
use Rattle.run_rules.proofs.ListLemmas.{all_weaker, all_append}
use Rattle.run_base_laws.proofs.KindSayLemmas.{OfDecisions, AllSay, one_says, each_says, prepares_say, told_says, passes_say, askings_say}
use Rattle.node_rules.specs.declared.work.Errand.TheVariants as errands
use Rattle.node_rules.proofs.WayLemmas.{way_by_name}

-- ---- where links lead

node_there : (names : List (List ℕ)) (node : ℕ) (o : Option Link) → node_named names o ≡ Some node → IsNode (length names) node
node_there names node None is = absurd cc
node_there names node (Some l) is = by (position (same_text l.target) names) refl is
  where
    by : (o : Option ℕ) → position (same_text l.target) names ≡ o → option_map (λ i. i + 1) o ≡ Some node → IsNode (length names) node
    by None at is = absurd cc
    by (Some i) at is =
        let first = position-Some (same_text l.target) names i [] at in
        let here : i + 1 ≡ node = (let it : Some (i + 1) ≡ Some node = is in cc) in
        subst (IsNode (length names)) here (omega arith, omega (arith, first.0))

module _ (p : Place) (l : Live) (given node : ℕ) (link table : List ℕ) where
  -- a new link is the one that was named
  new_is : (m : ℕ) (ln tb : List ℕ) → way_new p l given m ln tb ≡ Through node link table → m ≡ node
  new_is m ln tb =
      cond_both (nat_le depth_limit l.depth || (room l given == 0)) _ _ (λ w. w ≡ Through node link table → m ≡ node) (λ deep is. absurd cc)
      (λ high. cond_both (nat_le p.links (length l.edges)) _ (Through m ln tb) (λ w. w ≡ Through node link table → m ≡ node) (λ wide is. absurd cc) (λ open_it is. cc))

  edge_is : (m : ℕ) (ln tb : List ℕ) (o : Option ℕ) → way_edge p l given m ln tb o ≡ Through node link table → m ≡ node
  edge_is m ln tb None is = new_is m ln tb is
  edge_is m ln tb (Some i) is = absurd cc

  target_is : (ln tb : List ℕ) (o : Option ℕ) → way_target p l given ln tb o ≡ Through node link table → o ≡ Some node
  target_is ln tb None is = absurd cc
  target_is ln tb (Some m) is = let same : m ≡ node = edge_is m ln tb (edge_by_link l ln) is in cc

  named_there : (d : Durable) (n : Named) → way_named p d l given n ≡ Through node link table → IsNode (length p.names) node
  named_there d Unknown is = absurd cc
  named_there d (A_table t) is = absurd cc
  named_there d (Behind ln tb) is = node_there p.names node (find (λ k. same_text k.name ln) d.links) (target_is ln tb (target_of p d ln) is)

  way_there : (d : Durable) (s : Stmt) → way_of p d l given s ≡ Through node link table → IsNode (length p.names) node
  way_there d s is = named_there d (named_by d (ref_of s)) (way_by_name p d l given s (Through node link table) tt is)

-- ---- the messages of a step

-- an Open goes to a node of this many
abbrev pub OpensThere : ℕ → BranchId → Kind → Type 0
OpensThere count to (kinds.Open edge root depth read_at) = IsNode count to.node
OpensThere count to _ = Unit {0}

-- no Open
abbrev IsNoOpen : Kind → Type 0
IsNoOpen (kinds.Open edge root depth read_at) = ⊥
IsNoOpen _ = Unit {0}

decisions_open_none : OfDecisions IsNoOpen
decisions_open_none = record { committed = λ n. tt; rolled_back = tt; rollback = tt; in_doubt = tt; ack = tt; forgotten = tt; ask = tt }

answer_opens : (x : Branch) (a : Answer) (o : Option BranchId) → AllSay IsNoOpen (answer_says x a o)
answer_opens x a None = tt
answer_opens x a (Some parent) = (tt, tt)

exec_opens : (ss : List Session) (x : Branch) (i : ℕ) (errand : Errand) (o : Option BranchId) → AllSay IsNoOpen (exec_to ss x i errand o)
exec_opens ss x i errand None = tt
exec_opens ss x i errand (Some c) = (tt, tt)

rolled : (l : Live) → AllSay IsNoOpen (to_each l.me kinds.Rollback (children_of l))
rolled l = each_says IsNoOpen l.me kinds.Rollback (children_of l) tt

says_open : (k : NodeState) (input : Input) {says : List Post} → Says k input says → AllSay IsNoOpen says
says_open k input (steps.Gone_replies to from call task came gone) = (tt, tt)
says_open k input (steps.Replies_again x to call task t came live last kept) = (tt, tt)
says_open k input (steps.Tells s from came kept) = (told_says IsNoOpen decisions_open_none (kept_told s from), tt)
says_open k input (steps.Recovers reco) = askings_say IsNoOpen decisions_open_none k
says_open k input (steps.Gone_aborts to from b comment came gone) = (tt, tt)
says_open k input (steps.Gone_rolls_back to from came gone) = (tt, tt)
says_open k input (steps.Gone_acks to from n came gone) = (tt, tt)
says_open k input (steps.Gone_forgets to from came gone) = (tt, tt)
says_open k input (steps.Opened_again to parent edge root depth read_at o came found) = (tt, tt)
says_open k input (steps.Prepared_again s from b comment came kept again) = (tt, tt)
says_open k input (steps.Knows_commit s from n came kept knows) = (tt, tt)
says_open k input (steps.Knows_rollback s from came kept knows) = (tt, tt)
says_open k input (steps.Is_in_doubt l from came live other) = (tt, tt)

module _ (p : Place) (input : Input) where
  abbrev There : TurnDraft → Type 0
  There d = AllByRecursion (λ x. OpensThere (length p.names) x.to x.kind) d.says

  there_so : (to : BranchId) (kind : Kind) → IsNoOpen kind → OpensThere (length p.names) to kind
  there_so to (kinds.Open edge root depth read_at) none = absurd none
  there_so to _ none = tt

  none_open : (says : List Post) → AllSay IsNoOpen says → AllByRecursion (λ x. OpensThere (length p.names) x.to x.kind) says
  none_open says none = all_weaker (λ x. IsNoOpen x.kind) (λ x. OpensThere (length p.names) x.to x.kind) (λ x free. there_so x.to x.kind free) says none

  -- each Open of a step goes to a node that there is
  pub step_opens : {k : NodeState} {d : TurnDraft} → Step p input k d → There d
  step_opens (steps.Begins n s read_at call begins range none step) = step_opens step
  step_opens (steps.Counts_call n s call counts step) = step_opens step
  step_opens (steps.Goes_back x step goes next) = step_opens next
  step_opens (steps.Pends n l given call has live code writer step) = step_opens step
  step_opens (steps.Lets_reads_go l comment b live begins step) = step_opens step
  step_opens (steps.Counts_ack s from kept came counts step) = step_opens step
  step_opens (steps.Sends {k = k} posts why) = none_open posts (says_open k input why)
  step_opens (steps.Runs {k = k} x s given t asked way) = let y : Branch = branch_ran k.sessions x t (ran p k x.live.me s t) in none_open _ (answer_opens y _ y.live.parent)
  step_opens (steps.Goes_nowhere x s given r asked way) = none_open _ (answer_opens x _ x.live.parent)
  step_opens (steps.Calls {k = k} x s given i table asked way) = none_open _ (exec_opens k.sessions x i (errands.Statement (passed_on s table) given) (peer_of x.live i))
  step_opens (steps.Opens {k = k} x s given node link table asked way) = (way_there p x.live given node link table k.stored.durable s way, tt)
  step_opens (steps.Goes_on {k = k} x from strength g link opened) =
      let y : Branch = with_edge x (new_edge from link strength) in none_open _ (exec_opens k.sessions y (length x.live.edges + 1) (less_room g.errand) (peer_of y.live (length x.live.edges + 1)))
  step_opens (steps.Hears_reply x weight count a i e answered) = let y : Branch = hears_reply x i weight count e in none_open _ (answer_opens y _ y.live.parent)
  step_opens (steps.Backs {k = k} x step from i calls next) = none_open _ (exec_opens k.sessions x i (errands.GoBack step) (peer_of x.live i))
  step_opens (steps.Is_back x step from calls none) = none_open _ (answer_opens x _ x.live.parent)
  step_opens (steps.Opens_branch to parent edge root depth read_at came new) = (tt, tt)
  step_opens (steps.Acts l b acts.Rest why) = tt
  step_opens (steps.Acts l b acts.AskDown why) = none_open _ (prepares_say IsNoOpen (λ q c. tt) l.me l.comment (path_of b (step_from l)) 1 l.edges)
  step_opens (steps.Acts l b acts.SayReadOnly why) = none_open _ (one_says IsNoOpen l.me kinds.ReadOnly l.parent tt)
  step_opens (steps.Acts l b acts.SayReady why) = none_open _ (one_says IsNoOpen l.me kinds.Ready l.parent tt)
  step_opens (steps.Acts l b acts.Seal why) = none_open _ (one_says IsNoOpen l.me kinds.Prepared l.parent tt)
  step_opens (steps.Acts l b (acts.SealAndPass i) why) = none_open _ (one_says IsNoOpen l.me kinds.CommitPoint (peer_of l i) tt)
  step_opens (steps.Acts {k = k} l b acts.Decide why) = none_open _ (each_says IsNoOpen l.me (kinds.Committed (k.clock + 1)) (site_neighbors l) tt)
  step_opens (steps.Acts l b acts.Finish why) = tt
  step_opens (steps.Acts l b acts.Abandon why) = none_open _ (all_append (λ x. IsNoOpen x.kind) (to_one l.me kinds.Abort l.parent) _ (one_says IsNoOpen l.me kinds.Abort l.parent tt) (rolled l))
  step_opens (steps.Drops_told l live drops) = none_open _ (rolled l)
  step_opens (steps.Drops_asked l from live came parent) = (tt, none_open (to_each l.me kinds.Rollback (children_of l)) (rolled l))
  step_opens (steps.Does s from (nexts.End d) kept why) = none_open _ (passes_say IsNoOpen decisions_open_none s d)
  step_opens (steps.Does s from (nexts.Meet d mixed) kept why) = none_open _ (passes_say IsNoOpen decisions_open_none s d)
  step_opens (steps.Does s from nexts.AckToward kept why) = none_open _ (one_says IsNoOpen s.me kinds.Ack s.toward tt)
  step_opens (steps.Does s from nexts.Forget kept why) = none_open _ (each_says IsNoOpen s.me kinds.Forgotten (map (λ b. b.branch) (beyond s)) tt)
  step_opens (steps.Does s from nexts.SayForgotten kept why) = (tt, tt)
  step_opens (steps.Does s from nexts.SayAck kept why) = (tt, tt)
  step_opens (steps.Does s from nexts.Rest kept why) = tt
  step_opens (steps.Leaves n s d x call ends has live) = none_open _ (rolled x.live)
  step_opens (steps.Gives_up n x gives has calls live) = tt
  step_opens (steps.Gives_up_commit n b (Some l) gives has calls live) = none_open _ (rolled l)
  step_opens (steps.Gives_up_commit n b None gives has calls live) = tt
  step_opens steps.Rests = tt
  step_opens (steps.Refuses n s r is) = tt
  step_opens (steps.Completes_at_once n s d call completes none) = tt
  step_opens (steps.Makes_record n s r d call makes) = tt
  step_opens (steps.Forces_given n id m b call named) = tt
  step_opens (steps.Forces_commit n id b call named) = tt
  step_opens (steps.Forces_rollback n id b call named) = tt
  step_opens (steps.Hides n mixed id s call found) = tt
  step_opens (steps.Advises n a call) = tt
  step_opens (steps.Sets_read_only n call) = tt
  step_opens (steps.Sets_savepoint n x name call has code live) = tt
  step_opens (steps.Images is) = tt
