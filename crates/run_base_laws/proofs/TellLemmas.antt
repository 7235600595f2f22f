-- A branch tells Committed only where its row knows the commit, or the record of this turn says it.
use Rattle.std.proofs.Common.{◌≡◌, ℕ, ◌+◌, ◌&&◌, not, Bool, true, false, if◌then◌else◌, List, [], ◌∷◌, ◌++◌, length, map, filter, fold, Option, Some, None, inl, inr, refl, ap, subst, ◌∙◌}
use Rattle.std.proofs.lemmas.Bool.{cond_both}
use Rattle.std.specs.Prelude.{flat_map}
use Rattle.std.specs.List.{AllByRecursion}
use Rattle.node_rules.specs.Data.{Answer, BranchId, Decision, Edge, Kind, Msg, RedoRecord, KeptRow, Place, Input}
use Rattle.node_rules.specs.declared.work.Errand.{Errand}
use Rattle.node_rules.specs.Data.decisions
use Rattle.node_rules.specs.Data.kinds
use Rattle.node_rules.specs.Data.records
use Rattle.node_rules.specs.Data.inputs
use Rattle.node_rules.specs.Data.acts
use Rattle.session_tree.specs.Live.{children_of, peer_of, new_edge}
use Rattle.reco.specs.declared.post.Post.{Post}
use Rattle.node_rules.specs.declared.session.Session.{Session}
use Rattle.commit_forget.specs.declared.next.Beyond.{Beyond}
use Rattle.commit_forget.specs.declared.next.Next.TheVariants as nexts
use Rattle.node_rules.specs.Words.{same, item_at, put_item, put_by_branch}
use Rattle.node_rules.specs.NodeState.{NodeState, Branch, TurnDraft, post_one, to_each, to_one, kept_row_id}
use Rattle.session_tree.specs.Tree.{step as step_from}
use Rattle.node_rules.specs.Calls.{answer_says, exec_to, with_edge, hears_reply, branch_ran, less_room}
use Rattle.node_rules.specs.Statement.{ran}
use Rattle.node_rules.specs.Prepare.{path_of, prepares, site_neighbors, sealed_record, decided_record}
use Rattle.node_rules.specs.Commit.{acked_by, all_acked, beyond, is_neighbor, passes_commit, rollback_to, passes}
use Rattle.reco.specs.declared.told.Told.TheVariants as tolds
use Rattle.node_rules.specs.Recovery.{Asking, asking_id, told_by, told_kind, asks_live, asks_kept, acks_again, recovers, askings, tells, ask_answer}
use Rattle.node_rules.specs.Turn.{turn_of, heard, draft_of, stamped}
use Rattle.node_rules.proofs.Steps as steps
use Rattle.node_rules.proofs.Steps.{Step, Says, IsKept}
use Rattle.node_rules.specs.declared.work.Errand.TheVariants as errands
use Rattle.node_rules.specs.Names.{passed_on}
use Rattle.run_rules.specs.Data.{Turn, Happening, Command}
use Rattle.run_rules.specs.Data.happenings
use Rattle.run_rules.specs.Facts.{Facts, place_at}
use Rattle.run_rules.specs.Lawful.{MayHappen}
use Rattle.run_base_laws.specs.NodeLaws.{KnowsAt, CommitsNow, MayTell, TellsItsOwn, CommitsAreKnown}
use Rattle.run_rules.proofs.ListLemmas.{all_weaker, all_append, all_map, all_each, all_put}
use Rattle.run_base_laws.proofs.AckLemmas.{unacked_rows, rows_acked}
use Rattle.run_base_laws.proofs.LawfulLemmas.{Serves, of_sent, turn_of_node, serves}
use Rattle.run_base_laws.proofs.NodeLemmas.{each_that_may}

-- ---- what rows know

-- Acks are no part of it
pub known_unacked : (ks : List KeptRow) (b : BranchId) (n : ℕ) → KnowsAt ks b n → KnowsAt (unacked_rows ks) b n
known_unacked [] b n knows = knows
known_unacked (x ∷ ks) b n (inl here) = inl here
known_unacked (x ∷ ks) b n (inr there) = inr (known_unacked ks b n there)

known_acked : (ks : List KeptRow) (b : BranchId) (n : ℕ) → KnowsAt (unacked_rows ks) b n → KnowsAt ks b n
known_acked [] b n knows = knows
known_acked (x ∷ ks) b n (inl here) = inl here
known_acked (x ∷ ks) b n (inr there) = inr (known_acked ks b n there)

found_if : (b : BranchId) (ks : List KeptRow) (x s : KeptRow) (n : ℕ) (here : Bool) → (if here then Some x else item_at kept_row_id ks b) ≡ Some s → s.decision ≡ Some (decisions.Commit n)
    → (item_at kept_row_id ks b ≡ Some s → KnowsAt ks s.me n) → KnowsAt (x ∷ ks) s.me n
found_if b ks x s n true found is rest = let it : x ≡ s = (let same_row : Some x ≡ Some s = found in cc) in inl (ap (λ y. y.me) it, ap (λ y. y.decision) it ∙ is)
found_if b ks x s n false found is rest = inr (rest found)

-- what a row that is found knows is known
found_knows : (b : BranchId) (ks : List KeptRow) (s : KeptRow) (n : ℕ) → item_at kept_row_id ks b ≡ Some s → s.decision ≡ Some (decisions.Commit n) → KnowsAt ks s.me n
found_knows b [] s n found is = absurd cc
found_knows b (x ∷ ks) s n found is = found_if b ks x s n (same x.me b) found is (λ later. found_knows b ks s n later is)

-- what each row knows is known
abbrev KnowsItsOwn : List KeptRow → KeptRow → Type 0
KnowsItsOwn ks s = (n : ℕ) → s.decision ≡ Some (decisions.Commit n) → KnowsAt ks s.me n

all_know : (ks : List KeptRow) → AllByRecursion (KnowsItsOwn ks) ks
all_know [] = tt
all_know (s ∷ ks) = ((λ n is. inl (refl, is)), all_weaker _ _ (λ x knows n is. inr (knows n is)) ks (all_know ks))

-- ---- messages

module _ (rows : List KeptRow) (w : Option RedoRecord) where
  abbrev May : Post → Type 0
  May x = MayTell rows w x.from x.kind

  -- each of these may be told
  abbrev Told : List Post → Type 0
  Told posts = AllByRecursion May posts

  one_told : (from : BranchId) (kind : Kind) (to : Option BranchId) → MayTell rows w from kind → Told (to_one from kind to)
  one_told from kind None may = tt
  one_told from kind (Some to) may = (may, tt)

  each_told : (from : BranchId) (kind : Kind) (tos : List BranchId) → MayTell rows w from kind → Told (to_each from kind tos)
  each_told from kind tos may = all_each May (post_one from kind) tos (λ to. may)

  answer_told : (x : Branch) (a : Answer) (parent : Option BranchId) → Told (answer_says x a parent)
  answer_told x a None = tt
  answer_told x a (Some parent) = (tt, tt)

  exec_told : (ss : List Session) (x : Branch) (i : ℕ) (e : Errand) (to : Option BranchId) → Told (exec_to ss x i e to)
  exec_told ss x i e None = tt
  exec_told ss x i e (Some to) = (tt, tt)

  prepares_told : (me : BranchId) (comment : List ℕ) (path : Option ℕ) (i : ℕ) (es : List Edge) → Told (prepares me comment path i es)
  prepares_told me comment path i [] = tt
  prepares_told me comment path i (e ∷ es) = (tt, prepares_told me comment path (i + 1) es)

  commit_told : (s : KeptRow) (n : ℕ) (bs : List Beyond) → CommitsNow w s.me n → Told (passes_commit s n bs)
  commit_told s n [] now = one_told s.me kinds.Ack s.toward tt
  commit_told s n (b ∷ bs) now = each_told s.me (kinds.Committed n) (map (λ c. c.branch) (b ∷ bs)) (inl now)

  -- a decision goes on by the record of this turn
  passes_told : (s : KeptRow) (d : Decision) → ((n : ℕ) → d ≡ decisions.Commit n → CommitsNow w s.me n) → Told (passes s d)
  passes_told s (decisions.Commit n) now = commit_told s n (beyond s) (now n refl)
  passes_told s decisions.Rollback now = all_each May (rollback_to s.me) (beyond s) (λ b. cond_both b.is_parent kinds.RolledBack kinds.Rollback (MayTell rows w s.me) (λ up. tt) (λ down. tt))

  known_told : (s : KeptRow) (d : Option Decision) → s.decision ≡ d → KnowsItsOwn rows s → MayTell rows w s.me (tells d)
  known_told s None is knows = tt
  known_told s (Some (decisions.Commit n)) is knows = inr (knows n is)
  known_told s (Some decisions.Rollback) is knows = tt

  asked_told : (s : KeptRow) (from : BranchId) → KnowsItsOwn rows s → MayTell rows w s.me (ask_answer s from)
  asked_told s from knows = cond_both (is_neighbor s from) (told_by s.decision) tolds.RolledBack (λ t. MayTell rows w s.me (told_kind t)) (λ near. known_told s s.decision refl knows) (λ other. tt)

  -- ---- recovery

  again_told : (s : KeptRow) → Told (acks_again s)
  again_told s = cond_both (all_acked s && not s.forgot) (to_one s.me kinds.Ack s.toward) [] Told (λ all. one_told s.me kinds.Ack s.toward tt) (λ some. tt)

  recovers_told : (s : KeptRow) (d : Option Decision) → s.decision ≡ d → KnowsItsOwn rows s → Told (recovers s d)
  recovers_told s None is knows = one_told s.me kinds.Ask s.toward tt
  recovers_told s (Some (decisions.Commit n)) is knows =
      all_append May _ (acks_again s) (each_told s.me (kinds.Committed n) (map (λ b. b.branch) (filter (λ b. not b.acked) (beyond s))) (inr (knows n is))) (again_told s)
  recovers_told s (Some decisions.Rollback) is knows = tt

  abbrev AsksSo : Asking → Type 0
  AsksSo a = Told a.says

  sorted_told : (more asked : List Asking) → AllByRecursion AsksSo asked → AllByRecursion AsksSo more → AllByRecursion AsksSo (fold (put_by_branch asking_id) asked more)
  sorted_told [] asked all rest = all
  sorted_told (a ∷ more) asked all rest = sorted_told more (put_by_branch asking_id asked a) (all_put AsksSo asking_id asked a all rest.0) rest.1

  flat_told : (asked : List Asking) → AllByRecursion AsksSo asked → Told (flat_map (λ a. a.says) asked)
  flat_told [] all = tt
  flat_told (a ∷ asked) all = all_append May a.says _ all.0 (flat_told asked all.1)

-- all that RECO asks and tells
askings_told : (k : NodeState) (w : Option RedoRecord) → Told k.stored.durable.kept w (flat_map (λ a. a.says) (askings k))
askings_told k w =
    let rows : List KeptRow = k.stored.durable.kept in
    flat_told rows w (askings k) (sorted_told rows w (map asks_live k.lives ++ map asks_kept rows) [] tt
    (all_append (AsksSo rows w) (map asks_live k.lives) (map asks_kept rows) (all_each (AsksSo rows w) asks_live k.lives (λ l. one_told rows w l.me kinds.Ask l.parent tt))
    (all_map (AsksSo rows w) asks_kept rows (all_weaker _ _ (λ s knows. recovers_told rows w s s.decision refl knows) rows (all_know rows)))))

-- the rows of a node
abbrev rows_at : NodeState → List KeptRow
rows_at k = k.stored.durable.kept

-- messages alone
said : (k : NodeState) (input : Input) {says : List Post} → Says k input says → Told (rows_at k) None says
said k input (steps.Knows_commit s from n came kept is) = (inr (found_knows s.me (rows_at k) s n kept is), tt)
said k input (steps.Tells s from came kept) = (asked_told (rows_at k) None s from (λ n is. found_knows s.me (rows_at k) s n kept is), tt)
said k input (steps.Recovers reco) = askings_told k None
said k input _ = (tt, tt)

-- ---- steps

-- an Ack teaches nothing
untaught : (k : NodeState) (s : KeptRow) (from : BranchId) (w : Option RedoRecord) → IsKept k s → (b : BranchId) (kind : Kind)
    → MayTell (put_item kept_row_id k.stored.durable.kept (acked_by s from)) w b kind → MayTell k.stored.durable.kept w b kind
untaught k s from w kept b (kinds.Committed n) (inl now) = inl now
untaught k s from w kept b (kinds.Committed n) (inr knows) = inr (known_acked k.stored.durable.kept b n (subst (λ ks. KnowsAt ks b n) (rows_acked k s from kept) (known_unacked _ b n knows)))
untaught k s from w kept b _ may = tt

module _ (p : Place) (input : Input) where
  pub step_tells : {k : NodeState} {d : TurnDraft} → Step p input k d → Told (rows_at k) d.wrote d.says
  step_tells (steps.Begins n s read_at call begins fit none step) = step_tells step
  step_tells (steps.Counts_call n s call counts step) = step_tells step
  step_tells (steps.Goes_back x step goes next) = step_tells next
  step_tells (steps.Pends n l given call has live code writer step) = step_tells step
  step_tells (steps.Lets_reads_go l comment site_below live begins step) = step_tells step
  step_tells (steps.Counts_ack {k = k} {d = d} s from kept came counts step) = all_weaker _ _ (λ x may. untaught k s from d.wrote kept x.from x.kind may) d.says (step_tells step)
  step_tells (steps.Sends {k = k} says why) = said k input why
  step_tells (steps.Runs {k = k} x s given t asked way) = answer_told (rows_at k) None (branch_ran k.sessions x t (ran p k x.live.me s t)) _ x.live.parent
  step_tells (steps.Goes_nowhere {k = k} x s given r asked way) = answer_told (rows_at k) None x _ x.live.parent
  step_tells (steps.Calls {k = k} x s given i table asked way) = exec_told (rows_at k) None k.sessions x i (errands.Statement (passed_on s table) given) (peer_of x.live i)
  step_tells (steps.Opens x s given node link table asked way) = (tt, tt)
  step_tells (steps.Goes_on {k = k} x from strength g link opened) = exec_told (rows_at k) None k.sessions (with_edge x (new_edge from link strength)) (length x.live.edges + 1) (less_room g.errand) _
  step_tells (steps.Backs {k = k} x step from i calls next) = exec_told (rows_at k) None k.sessions x i (errands.GoBack step) (peer_of x.live i)
  step_tells (steps.Is_back {k = k} x step from calls none) = answer_told (rows_at k) None x _ x.live.parent
  step_tells (steps.Hears_reply {k = k} x weight count a i e answered) = answer_told (rows_at k) None (hears_reply x i weight count e) _ x.live.parent
  step_tells (steps.Opens_branch to parent edge root depth read_at came new) = (tt, tt)
  step_tells (steps.Acts {k = k} l site_below acts.AskDown why) = prepares_told (rows_at k) None l.me l.comment (path_of site_below (step_from l)) 1 l.edges
  step_tells (steps.Acts {k = k} l site_below acts.SayReadOnly why) = one_told (rows_at k) None l.me kinds.ReadOnly l.parent tt
  step_tells (steps.Acts {k = k} l site_below acts.SayReady why) = one_told (rows_at k) None l.me kinds.Ready l.parent tt
  step_tells (steps.Acts {k = k} l site_below acts.Seal why) = one_told (rows_at k) (Some (sealed_record k l None)) l.me kinds.Prepared l.parent tt
  step_tells (steps.Acts {k = k} l site_below (acts.SealAndPass i) why) = one_told (rows_at k) (Some (sealed_record k l (Some i))) l.me kinds.CommitPoint (peer_of l i) tt
  step_tells (steps.Acts {k = k} l site_below acts.Decide why) = each_told (rows_at k) (Some (decided_record k l)) l.me (kinds.Committed (k.clock + 1)) (site_neighbors l) (inl (refl, refl))
  step_tells (steps.Acts {k = k} l site_below acts.Abandon why) =
      all_append (May (rows_at k) None) (to_one l.me kinds.Abort l.parent) _ (one_told (rows_at k) None l.me kinds.Abort l.parent tt) (each_told (rows_at k) None l.me kinds.Rollback (children_of l) tt)
  step_tells (steps.Drops_told {k = k} l live drops) = each_told (rows_at k) None l.me kinds.Rollback (children_of l) tt
  step_tells (steps.Drops_asked {k = k} l from live came parent) = (tt, each_told (rows_at k) None l.me kinds.Rollback (children_of l) tt)
  step_tells (steps.Does {k = k} s from (nexts.End d) kept why) = passes_told (rows_at k) (Some (records.Ended s.me d)) s d (λ n is. (refl, is))
  step_tells (steps.Does {k = k} s from (nexts.Meet d mixed) kept why) = passes_told (rows_at k) (Some (records.Met s.me d mixed)) s d (λ n is. (refl, is))
  step_tells (steps.Does {k = k} s from nexts.AckToward kept why) = one_told (rows_at k) None s.me kinds.Ack s.toward tt
  step_tells (steps.Does {k = k} s from nexts.Forget kept why) = each_told (rows_at k) (Some (records.Forgot s.me)) s.me kinds.Forgotten (map (λ b. b.branch) (beyond s)) tt
  step_tells (steps.Does s from nexts.SayForgotten kept why) = (tt, tt)
  step_tells (steps.Does s from nexts.SayAck kept why) = (tt, tt)
  step_tells (steps.Leaves {k = k} n s d x call ends has live) = each_told (rows_at k) None x.live.me kinds.Rollback (children_of x.live) tt
  step_tells (steps.Gives_up_commit {k = k} n b (Some l) gives has pending live) = each_told (rows_at k) None l.me kinds.Rollback (children_of l) tt
  step_tells _ = tt

-- ---- turns

heard_rows : (k : NodeState) (input : Input) → (heard k input).stored ≡ k.stored
heard_rows k (inputs.Message m) = refl
heard_rows k _ = refl

-- what a turn sends, by its record
pub turn_tells : (p : Place) (k : NodeState) (u : Turn) → Serves p k u
    → AllByRecursion (λ m. MayTell k.stored.durable.kept (draft_of p k u.input).wrote m.from m.kind) (map (stamped (draft_of p k u.input).after.clock) (draft_of p k u.input).says)
turn_tells p k u serving =
    let d : TurnDraft = draft_of p k u.input in
    all_map (λ (m : Msg). MayTell k.stored.durable.kept d.wrote m.from m.kind) (stamped d.after.clock) d.says
    (subst (λ s. Told s.durable.kept d.wrote d.says) (heard_rows k u.input) (step_tells p u.input serving.step))

sent_so : (p : Place) (k : NodeState) (u : Turn) → Serves p k u → AllByRecursion (λ m. MayTell k.stored.durable.kept (turn_of p k u.input).wrote m.from m.kind) u.sent
unfolding turn_of
sent_so p k u serving = of_sent p k u serving (λ w ms. AllByRecursion (λ m. MayTell k.stored.durable.kept (draft_of p k u.input).wrote m.from m.kind) ms) tt (turn_tells p k u serving)

tells_its_own : (places : List Place) (asked : List Command) (f : Facts) (h : Happening) → MayHappen places asked f h → TellsItsOwn places f h
tells_its_own places asked f (happenings.Turn u) may = λ k up. sent_so (place_at places u.node) k u (serves places f u k (turn_of_node places f u k asked may up))
tells_its_own places asked f _ may = tt

pub commits_are_known : CommitsAreKnown
commits_are_known = each_that_may TellsItsOwn tells_its_own
