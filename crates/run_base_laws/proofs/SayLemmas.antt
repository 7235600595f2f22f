-- Each message of a step may be said by the events with its record, where that hangs on no session tree: votes, decisions
-- to commit, and Forgotten.
use Rattle.std.proofs.Common.{◌≡◌, ℕ, ◌+◌, ◌≤◌, ◌&&◌, not, Bool, false, true≢false, List, [], ◌∷◌, ◌++◌, length, map, filter, fold, is_none, Option, Some, None, inl, inr, refl, sym, ap, subst, ◌∙◌, arith}
use Rattle.std.specs.Prelude.{flat_map}
use Rattle.std.specs.List.{AllByRecursion}
use Rattle.std.proofs.lemmas.Bool.{cond_both, and_parts}
use Rattle.agreement.specs.Events.{Sealed, Decided, Event, Seal, Decide, Learn, Forget, Send_ack, only_at, exit, learned, Has, Knows}
use Rattle.agreement.proofs.EventLemmas.{only_at_same}
use Rattle.node_rules.specs.Data.{Answer, BranchId, Decision, Edge, Kind, KeptRow, Live, Place, Input}
use Rattle.node_rules.specs.declared.work.Errand.{Errand}
use Rattle.node_rules.specs.Data.decisions
use Rattle.node_rules.specs.Data.kinds
use Rattle.node_rules.specs.Data.acts
use Rattle.session_tree.specs.Live.{children_of, peer_of, new_edge}
use Rattle.reco.specs.declared.post.Post.{Post}
use Rattle.node_rules.specs.declared.session.Session.{Session}
use Rattle.commit_forget.specs.declared.next.Beyond.{Beyond}
use Rattle.commit_forget.specs.declared.next.Next.TheVariants as nexts
use Rattle.node_rules.specs.Words.{put_by_branch}
use Rattle.node_rules.specs.NodeState.{NodeState, Branch, TurnDraft, post_one, to_each, to_one, kept_row_id}
use Rattle.session_tree.specs.Tree.{step as step_from}
use Rattle.node_rules.specs.Calls.{answer_says, exec_to, with_edge, hears_reply, branch_ran, less_room}
use Rattle.node_rules.specs.Statement.{ran}
use Rattle.node_rules.specs.Prepare.{path_of, prepares, site_neighbors, own_changes}
use Rattle.node_rules.specs.Commit.{acked_by, all_acked, beyond, is_neighbor, passes_commit, rollback_to, passes}
use Rattle.reco.specs.declared.told.Told.TheVariants as tolds
use Rattle.node_rules.specs.Recovery.{told_by, told_kind, Asking, asking_id, asks_live, asks_kept, acks_again, recovers, askings, tells, ask_answer}
use Rattle.node_rules.specs.Inputs.{Came}
use Rattle.node_rules.proofs.Steps as steps
use Rattle.node_rules.proofs.Steps.{Step, Says}
use Rattle.run_base_laws.specs.RunEvents.{with_event, wrote_event}
use Rattle.run_base_laws.specs.EventRows.{RowIs, RowsAre, IsKnown, MaySayByEvents}
use Rattle.run_rules.proofs.ListLemmas.{all_weaker, all_append, all_map, all_each, all_put}
use Rattle.node_rules.proofs.StepLemmas.{IsLive, acting_live}
use Rattle.node_rules.specs.declared.work.Errand.TheVariants as errands
use Rattle.node_rules.specs.Names.{passed_on}
use Rattle.run_base_laws.proofs.OwnLemmas.{all_found, all_with}
use Rattle.run_base_laws.proofs.RowEventLemmas.{first_new, learned_now}
use Rattle.run_base_laws.proofs.RowScnLemmas.{Below}
use Rattle.run_base_laws.proofs.MayStandLemmas.{IsUntaught, Fits, live_exit, row_is, begun_all, pends_all, lets_all, acked_all, next_may, counted_all, back_all}

-- ---- lists of messages

module _ (r : List Event) (scn : ℕ) where
  abbrev May : Post → Type 0
  May x = MaySayByEvents r x.from x.to scn x.kind

  -- each of these may be said
  abbrev pub Told : List Post → Type 0
  Told posts = AllByRecursion May posts

  one_told : (from : BranchId) (kind : Kind) (to : Option BranchId) → ((b : BranchId) → MaySayByEvents r from b scn kind) → Told (to_one from kind to)
  one_told from kind None may = tt
  one_told from kind (Some to) may = (may to, tt)

  each_told : (from : BranchId) (kind : Kind) (tos : List BranchId) → ((b : BranchId) → MaySayByEvents r from b scn kind) → Told (to_each from kind tos)
  each_told from kind tos may = all_each May (post_one from kind) tos may

  answer_told : (x : Branch) (a : Answer) (parent : Option BranchId) → Told (answer_says x a parent)
  answer_told x a None = tt
  answer_told x a (Some parent) = (tt, tt)

  exec_told : (ss : List Session) (x : Branch) (i : ℕ) (e : Errand) (to : Option BranchId) → Told (exec_to ss x i e to)
  exec_told ss x i e None = tt
  exec_told ss x i e (Some to) = (tt, tt)

  prepares_told : (me : BranchId) (comment : List ℕ) (path : Option ℕ) (i : ℕ) (es : List Edge) → Told (prepares me comment path i es)
  prepares_told me comment path i [] = tt
  prepares_told me comment path i (e ∷ es) = (tt, prepares_told me comment path (i + 1) es)

  commit_told : (s : KeptRow) (n : ℕ) (bs : List Beyond) → Knows r s.me n → Told (passes_commit s n bs)
  commit_told s n [] knows = one_told s.me kinds.Ack s.toward (λ b. tt)
  commit_told s n (b ∷ bs) knows = each_told s.me (kinds.Committed n) (map (λ c. c.branch) (b ∷ bs)) (λ c. knows)

  -- a decision goes on
  passes_told : (s : KeptRow) (d : Decision) → ((n : ℕ) → d ≡ decisions.Commit n → Knows r s.me n) → Told (passes s d)
  passes_told s (decisions.Commit n) knows = commit_told s n (beyond s) (knows n refl)
  passes_told s decisions.Rollback knows =
      all_each May (rollback_to s.me) (beyond s) (λ b. cond_both b.is_parent kinds.RolledBack kinds.Rollback (λ kind. MaySayByEvents r s.me b.branch scn kind) (λ up. tt) (λ down. tt))

  known_told : (s : KeptRow) (to : BranchId) (d : Option Decision) → IsKnown r s d → MaySayByEvents r s.me to scn (tells d)
  known_told s to None known = tt
  known_told s to (Some (decisions.Commit n)) known = known
  known_told s to (Some decisions.Rollback) known = tt

  asked_told : (s : KeptRow) (from : BranchId) → RowIs r s → MaySayByEvents r s.me from scn (ask_answer s from)
  asked_told s from row = cond_both (is_neighbor s from) (told_by s.decision) tolds.RolledBack (λ t. MaySayByEvents r s.me from scn (told_kind t)) (λ near. known_told s from s.decision row.known) (λ other. tt)

  -- ---- recovery

  again_told : (s : KeptRow) → Told (acks_again s)
  again_told s = cond_both (all_acked s && not s.forgot) (to_one s.me kinds.Ack s.toward) [] Told (λ all. one_told s.me kinds.Ack s.toward (λ b. tt)) (λ some. tt)

  recovers_told : (s : KeptRow) (d : Option Decision) → IsKnown r s d → Told (recovers s d)
  recovers_told s None known = one_told s.me kinds.Ask s.toward (λ b. tt)
  recovers_told s (Some (decisions.Commit n)) known =
      all_append May _ (acks_again s) (each_told s.me (kinds.Committed n) (map (λ b. b.branch) (filter (λ b. not b.acked) (beyond s))) (λ b. known)) (again_told s)
  recovers_told s (Some decisions.Rollback) known = tt

  abbrev AsksSo : Asking → Type 0
  AsksSo a = Told a.says

  sorted_told : (more asked : List Asking) → AllByRecursion AsksSo asked → AllByRecursion AsksSo more → AllByRecursion AsksSo (fold (put_by_branch asking_id) asked more)
  sorted_told [] asked all rest = all
  sorted_told (a ∷ more) asked all rest = sorted_told more (put_by_branch asking_id asked a) (all_put AsksSo asking_id asked a all rest.0) rest.1

  flat_told : (asked : List Asking) → AllByRecursion AsksSo asked → Told (flat_map (λ a. a.says) asked)
  flat_told [] all = tt
  flat_told (a ∷ asked) all = all_append May a.says _ all.0 (flat_told asked all.1)

  -- all that RECO asks and tells
  askings_told : (k : NodeState) → RowsAre r k.stored.durable.kept → Told (flat_map (λ a. a.says) (askings k))
  askings_told k rows =
      flat_told (askings k) (sorted_told (map asks_live k.lives ++ map asks_kept k.stored.durable.kept) [] tt
      (all_append AsksSo (map asks_live k.lives) (map asks_kept k.stored.durable.kept) (all_each AsksSo asks_live k.lives (λ l. one_told l.me kinds.Ask l.parent (λ b. tt)))
      (all_map AsksSo asks_kept k.stored.durable.kept (all_weaker (RowIs r) _ (λ s row. recovers_told s s.decision row.known) k.stored.durable.kept rows))))

-- ---- steps

-- an Ack that comes was sent
abbrev pub AcksWereSent : List Event → Input → Type 0
AcksWereSent t input = (from to : BranchId) → Came input from to kinds.Ack → Has (Send_ack from to) t

module _ (t : List Event) (n boot : ℕ) (untaught : IsUntaught t) (p : Place) (input : Input) (is : p.number ≡ n) (sent : AcksWereSent t input) where
  seal_told : (k : NodeState) (l : Live) (kind : Kind) → Fits t n boot k → IsLive k l.me → exit (Seal l.me l.root k.clock (own_changes k l.me) ∷ t) l.me ≡ Some (Sealed k.clock)
  seal_told k l kind fits live = first_new (exit t l.me) (only_at l.me l.me (Sealed k.clock)) (Sealed k.clock) (live_exit t n boot untaught k fits l.me live) (only_at_same l.me l.me (Sealed k.clock) refl)

  decide_told : (k : NodeState) (l : Live) → Fits t n boot k → IsLive k l.me → Knows (Decide l.me l.root (k.clock + 1) (own_changes k l.me) ∷ t) l.me (k.clock + 1)
  decide_told k l fits live =
      inl (first_new (exit t l.me) (only_at l.me l.me (Decided (k.clock + 1))) (Decided (k.clock + 1)) (live_exit t n boot untaught k fits l.me live) (only_at_same l.me l.me (Decided (k.clock + 1)) refl))

  learn_told : (s : KeptRow) (d : Decision) (mixed : Option Bool) → learned t s.me ≡ None → (m : ℕ) → d ≡ decisions.Commit m → Knows (Learn s.me d mixed ∷ t) s.me m
  learn_told s d mixed none m is_commit = inr (learned_now t s.me s.me d mixed none refl ∙ ap Some is_commit)

  -- messages alone
  says_told : (k : NodeState) {says : List Post} → Says k input says → RowsAre t k.stored.durable.kept → Below k.clock k.stored.durable.kept → Told t k.clock says
  says_told k (steps.Prepared_again s from site_below comment came kept again) rows below =
      let row : RowIs t s = all_found (RowIs t) kept_row_id k.stored.durable.kept s.me s rows kept in
      let scn : s.scn ≤ k.clock = all_found (λ x. x.scn ≤ k.clock) kept_row_id k.stored.durable.kept s.me s below kept in
      (by s.decision refl row scn, tt)
    where
      by : (d : Option Decision) → s.decision ≡ d → RowIs t s → s.scn ≤ k.clock → (m : ℕ) × (exit t s.me ≡ Some (Sealed m)) × (m ≤ k.clock)
      by None none row scn = (s.scn, (subst (IsKnown t s) none row.known).0, scn)
      by (Some d) some row scn = let no : is_none s.decision ≡ false = ap is_none some in absurd (true≢false (sym (and_parts (is_none s.decision) _ again).0 ∙ no))
  says_told k (steps.Knows_commit s from m came kept known) rows below =
      (subst (IsKnown t s) known (all_found (RowIs t) kept_row_id k.stored.durable.kept s.me s rows kept).known, tt)
  says_told k (steps.Tells s from came kept) rows below = (asked_told t k.clock s from (all_found (RowIs t) kept_row_id k.stored.durable.kept s.me s rows kept), tt)
  says_told k (steps.Recovers reco) rows below = askings_told t k.clock k rows
  says_told k (steps.Gone_forgets to from came gone) rows below = (inr (sent from to came), tt)
  says_told k _ rows below = (tt, tt)

  -- each step
  pub step_told : {k : NodeState} {d : TurnDraft} → Step p input k d → Fits t n boot k → Below k.clock k.stored.durable.kept → Told (with_event (wrote_event n d.wrote) t) d.after.clock d.says
  step_told (steps.Begins {k = k} m s read_at call begins fit none step) fits below = step_told step (begun_all t n boot untaught p k m read_at is fit fits) below
  step_told (steps.Counts_call {k = k} m s call counts step) fits below = step_told step (counted_all t n boot untaught k m fits) below
  step_told (steps.Goes_back {k = k} x step goes next) fits below = step_told next (back_all t n boot untaught k x step fits) below
  step_told (steps.Pends {k = k} m l given call has live code writer step) fits below = step_told step (pends_all t n boot untaught k m fits) below
  step_told (steps.Lets_reads_go {k = k} l comment site_below live begins step) fits below = step_told step (lets_all t n boot untaught k l.me fits) below
  step_told (steps.Counts_ack {k = k} s from kept came counts step) fits below =
      step_told step (acked_all t n boot untaught k s from kept fits)
      (all_with (λ x. x.scn ≤ k.clock) kept_row_id k.stored.durable.kept (acked_by s from) below (all_found (λ x. x.scn ≤ k.clock) kept_row_id k.stored.durable.kept s.me s below kept))
  step_told (steps.Sends {k = k} says why) fits below = says_told k why fits.rows below
  step_told (steps.Runs {k = k} x s given table asked way) fits below = answer_told t _ (branch_ran k.sessions x table (ran p k x.live.me s table)) _ x.live.parent
  step_told (steps.Goes_nowhere {k = k} x s given r asked way) fits below = answer_told t _ x _ x.live.parent
  step_told (steps.Calls {k = k} x s given i table asked way) fits below = exec_told t _ k.sessions x i (errands.Statement (passed_on s table) given) (peer_of x.live i)
  step_told (steps.Opens x s given node link table asked way) fits below = (tt, tt)
  step_told (steps.Goes_on {k = k} x from strength g link opened) fits below = exec_told t _ k.sessions (with_edge x (new_edge from link strength)) (length x.live.edges + 1) (less_room g.errand) _
  step_told (steps.Hears_reply {k = k} x weight count a i e answered) fits below = answer_told t _ (hears_reply x i weight count e) _ x.live.parent
  step_told (steps.Backs {k = k} x step from i calls next) fits below = exec_told t _ k.sessions x i (errands.GoBack step) (peer_of x.live i)
  step_told (steps.Is_back {k = k} x step from calls none) fits below = answer_told t _ x _ x.live.parent
  step_told (steps.Opens_branch to parent edge root depth read_at came new) fits below = (tt, tt)
  step_told (steps.Acts {k = k} l site_below acts.AskDown why) fits below = prepares_told t _ l.me l.comment (path_of site_below (step_from l)) 1 l.edges
  step_told (steps.Acts {k = k} l site_below acts.SayReadOnly why) fits below = one_told t _ l.me kinds.ReadOnly l.parent (λ b. tt)
  step_told (steps.Acts {k = k} l site_below acts.SayReady why) fits below = one_told t _ l.me kinds.Ready l.parent (λ b. tt)
  step_told (steps.Acts {k = k} l site_below acts.Seal why) fits below =
      one_told (Seal l.me l.root k.clock (own_changes k l.me) ∷ t) k.clock l.me kinds.Prepared l.parent (λ b. (k.clock, seal_told k l kinds.Prepared fits (acting_live why), omega arith))
  step_told (steps.Acts {k = k} l site_below (acts.SealAndPass i) why) fits below =
      one_told (Seal l.me l.root k.clock (own_changes k l.me) ∷ t) k.clock l.me kinds.CommitPoint (peer_of l i) (λ b. (k.clock, seal_told k l kinds.CommitPoint fits (acting_live why), omega arith))
  step_told (steps.Acts {k = k} l site_below acts.Decide why) fits below =
      each_told (Decide l.me l.root (k.clock + 1) (own_changes k l.me) ∷ t) (k.clock + 1) l.me (kinds.Committed (k.clock + 1)) (site_neighbors l) (λ b. decide_told k l fits (acting_live why))
  step_told (steps.Acts {k = k} l site_below acts.Abandon why) fits below =
      all_append (May t k.clock) (to_one l.me kinds.Abort l.parent) _ (one_told t k.clock l.me kinds.Abort l.parent (λ b. tt)) (each_told t k.clock l.me kinds.Rollback (children_of l) (λ b. tt))
  step_told (steps.Drops_told {k = k} l live drops) fits below = each_told t k.clock l.me kinds.Rollback (children_of l) (λ b. tt)
  step_told (steps.Drops_asked {k = k} l from live came parent) fits below = (tt, each_told t k.clock l.me kinds.Rollback (children_of l) (λ b. tt))
  step_told (steps.Does {k = k} s from (nexts.End d) kept why) fits below =
      passes_told (Learn s.me d None ∷ t) k.clock s d (learn_told s d None (next_may t s (row_is t n boot untaught k fits s kept) why).1)
  step_told (steps.Does {k = k} s from (nexts.Meet d mixed) kept why) fits below =
      passes_told (Learn s.me d (Some mixed) ∷ t) k.clock s d (learn_told s d (Some mixed) (next_may t s (row_is t n boot untaught k fits s kept) why).1)
  step_told (steps.Does {k = k} s from nexts.AckToward kept why) fits below = one_told t k.clock s.me kinds.Ack s.toward (λ b. tt)
  step_told (steps.Does {k = k} s from nexts.Forget kept why) fits below = each_told (Forget s.me ∷ t) k.clock s.me kinds.Forgotten (map (λ b. b.branch) (beyond s)) (λ b. inl (inl refl))
  step_told (steps.Does {k = k} s from nexts.SayForgotten kept (steps.Has_forgotten came knows forgot)) fits below = (inl ((row_is t n boot untaught k fits s kept).forgot forgot), tt)
  step_told (steps.Does s from nexts.SayAck kept why) fits below = (tt, tt)
  step_told (steps.Leaves {k = k} m s d x call ends has live) fits below = each_told t k.clock x.live.me kinds.Rollback (children_of x.live) (λ b. tt)
  step_told (steps.Gives_up_commit {k = k} m b (Some l) gives has pending live) fits below = each_told t k.clock l.me kinds.Rollback (children_of l) (λ c. tt)
  step_told _ fits below = tt
