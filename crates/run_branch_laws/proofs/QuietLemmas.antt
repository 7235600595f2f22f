-- A branch that says ReadOnly was live, and is gone without a record.
use Rattle.std.proofs.Common.{◌≡◌, ℕ, ◌+◌, ◌&&◌, ◌||◌, not, Bool, true, false, true≢false, if◌then◌else◌, List, [], ◌∷◌, map, length, is_none, Option, Some, None, refl, sym, ap, subst, ◌∙◌}
use Rattle.std.specs.List.{AllByRecursion, list_any}
use Rattle.std.proofs.lemmas.Bool.{cond_both, or_left, or_right}
use Rattle.tran_ids.proofs.BranchLemmas.{same_from_equal, equal_from_same}
use Rattle.agreement.specs.Events.{Exit, Quiet, Event, Answer_read_only, Drop, first, exit_by, exit}
use Rattle.agreement.proofs.EventLemmas.{only_at_same}
use Rattle.commit_forget.specs.declared.next.Next.TheVariants as nexts
use Rattle.reco.specs.declared.post.Post.{Post}
use Rattle.session_tree.specs.Live.{children_of, peer_of, new_edge}
use Rattle.session_tree.specs.Tree.{step as step_from}
use Rattle.node_rules.specs.Data.{Answer, Stmt, BranchId, Decision, Edge, Kind, Msg, Live, Act, KeptRow, Place, Input}
use Rattle.node_rules.specs.declared.work.Errand.{Errand}
use Rattle.node_rules.specs.Data.acts
use Rattle.node_rules.specs.Data.kinds
use Rattle.node_rules.specs.Data.stmts
use Rattle.node_rules.specs.Data.inputs
use Rattle.node_rules.specs.declared.session.Session.{Session}
use Rattle.node_rules.specs.Words.{same, drop_item}
use Rattle.node_rules.specs.Inputs.{Came, IsCall}
use Rattle.node_rules.specs.NodeState.{NodeState, Branch, TurnDraft, live_id, to_each, to_one}
use Rattle.node_rules.specs.Calls.{answer_says, exec_to, with_edge, hears_reply, branch_ran, less_room, goes_back}
use Rattle.node_rules.specs.Statement.{ran}
use Rattle.node_rules.specs.Prepare.{path_of, prepares, site_neighbors}
use Rattle.node_rules.specs.Commit.{beyond, passes}
use Rattle.node_rules.specs.Recovery.{kept_told}
use Rattle.node_rules.proofs.Steps as steps
use Rattle.node_rules.proofs.Steps.{Step, Says, Collects, Acting}
use Rattle.run_rules.specs.Branches.{is_among}
use Rattle.run_rules.specs.Trail.{is_read_only, is_quiet}
use Rattle.run_base_laws.specs.RunEvents.{leave_event, has_left, with_leaver, with_leavers}
use Rattle.run_base_laws.proofs.KindSayLemmas.{OfDecisions, one_says, each_says, prepares_say, told_says, passes_say, askings_say}
use Rattle.run_rules.proofs.ListLemmas.{all_weaker, all_append}
use Rattle.node_rules.proofs.StepLemmas.{IsLive, acting_live}
use Rattle.node_rules.specs.declared.work.Errand.TheVariants as errands
use Rattle.node_rules.specs.Names.{passed_on}
use Rattle.run_base_laws.proofs.RowEventLemmas.{only_none, first_new, same_turned}
use Rattle.run_base_laws.proofs.BeginLemmas.{MayBegin, may_begin}

-- ---- messages of other kinds

-- it is no ReadOnly
abbrev Plain : Post → Type 0
Plain x = is_read_only x.kind ≡ false

abbrev PlainAll : List Post → Type 0
PlainAll posts = AllByRecursion Plain posts

abbrev PlainKind : Kind → Type 0
PlainKind kind = is_read_only kind ≡ false

plain_decisions : OfDecisions PlainKind
plain_decisions = record { committed = λ n. refl; rolled_back = refl; rollback = refl; in_doubt = refl; ack = refl; forgotten = refl; ask = refl }

one_plain : (from : BranchId) (kind : Kind) (to : Option BranchId) → is_read_only kind ≡ false → PlainAll (to_one from kind to)
one_plain from kind to is = one_says PlainKind from kind to is

each_plain : (from : BranchId) (kind : Kind) (tos : List BranchId) → is_read_only kind ≡ false → PlainAll (to_each from kind tos)
each_plain from kind tos is = each_says PlainKind from kind tos is

answer_plain : (x : Branch) (a : Answer) (parent : Option BranchId) → PlainAll (answer_says x a parent)
answer_plain x a None = tt
answer_plain x a (Some parent) = (refl, tt)

exec_plain : (ss : List Session) (x : Branch) (i : ℕ) (e : Errand) (to : Option BranchId) → PlainAll (exec_to ss x i e to)
exec_plain ss x i e None = tt
exec_plain ss x i e (Some to) = (refl, tt)

prepares_plain : (me : BranchId) (comment : List ℕ) (path : Option ℕ) (i : ℕ) (es : List Edge) → PlainAll (prepares me comment path i es)
prepares_plain me comment path i es = prepares_say PlainKind (λ site_below c. refl) me comment path i es

passes_plain : (s : KeptRow) (d : Decision) → PlainAll (passes s d)
passes_plain s d = passes_say PlainKind plain_decisions s d

says_plain : {k : NodeState} {input : Input} {says : List Post} → Says k input says → PlainAll says
says_plain (steps.Tells s from came kept) = (told_says PlainKind plain_decisions (kept_told s from), tt)
says_plain {k = k} (steps.Recovers reco) = askings_say PlainKind plain_decisions k
says_plain _ = (refl, tt)

-- ---- a turn that says ReadOnly

-- the input is no call of a statement that begins a transaction
abbrev pub NoRows : Input → Type 0
NoRows input = (n : ℕ) (s : Stmt) → IsCall input n s → MayBegin s → ⊥

-- Its sender was live, and is gone without a record.
pub record Quits (input : Input) (k : NodeState) (d : TurnDraft) (b : BranchId) : Type 0 where
  pub was : IsLive k b
  pub unwritten : d.wrote ≡ None
  pub left : is_among b (map live_id d.after.lives) ≡ false
  pub no_rows : NoRows input

abbrev pub QuitsSo : Input → NodeState → TurnDraft → Post → Type 0
QuitsSo input k d x = is_read_only x.kind ≡ true → Quits input k d x.from

pub dropped_gone : (b : BranchId) (xs : List Live) → is_among b (map live_id (drop_item live_id xs b)) ≡ false
dropped_gone b [] = refl
dropped_gone b (x ∷ xs) = by (same x.me b) refl (dropped_gone b xs)
  where
    by : (here : Bool) → same x.me b ≡ here → is_among b (map live_id (drop_item live_id xs b)) ≡ false → is_among b (map live_id (if not here then x ∷ drop_item live_id xs b else drop_item live_id xs b)) ≡ false
    by true is later = later
    by false is later = ap (λ q. q || is_among b (map live_id (drop_item live_id xs b))) is ∙ later

pub call_apart : {input : Input} (n m : ℕ) (s t : Stmt) → IsCall input n s → IsCall input m t → s ≡ t
call_apart n m s t first second = let it : inputs.Call n (Some s) ≡ inputs.Call m (Some t) = sym first ∙ second in cc

pub came_apart : {input : Input} {from to : BranchId} {kind : Kind} (n : ℕ) (s : Stmt) → Came input from to kind → IsCall input n s → ⊥
came_apart n s came call = let it : inputs.Call n (Some s) ≡ inputs.Message (record { from = _; to = _; scn = came.scn; kind = _ }) = sym call ∙ came.is in absurd cc

collects_apart : {k : NodeState} {input : Input} {l : Live} {comment : List ℕ} {site_below : Bool} → Collects k input l comment site_below → NoRows input
collects_apart (steps.By_commit n given call has code writer is) m s other rows = subst MayBegin (call_apart m n s (stmts.Commit given) other call) rows
collects_apart (steps.By_prepare from site_below came working) m s other rows = came_apart m s came other

pub acting_apart : {k : NodeState} {input : Input} {l : Live} {site_below : Bool} {a : Act} → Acting k input l site_below a → NoRows input
acting_apart (steps.Asks_down l comment site_below e es live begins has) m s other rows = collects_apart begins m s other rows
acting_apart (steps.Has_no_children l comment site_below a live begins none collected) m s other rows = collects_apart begins m s other rows
acting_apart (steps.Hears_abort l from site_below live answers) m s other rows = came_apart m s answers.came other
acting_apart (steps.Waits_on l from v site_below live answers some more) m s other rows = came_apart m s answers.came other
acting_apart (steps.Hears_last l from v site_below a live answers some all collected) m s other rows = came_apart m s answers.came other
acting_apart (steps.At_point l from a live came is pointed) m s other rows = came_apart m s came other

module _ (p : Place) (input : Input) where
  -- none of these is ReadOnly
  plainly : (k : NodeState) (d : TurnDraft) (posts : List Post) → PlainAll posts → AllByRecursion (QuitsSo input k d) posts
  plainly k d posts all = all_weaker Plain (QuitsSo input k d) (λ x no yes. absurd (true≢false (sym yes ∙ no))) posts all

  pub quits_on : {k : NodeState} {d : TurnDraft} → Step p input k d → AllByRecursion (QuitsSo input k d) d.says
  quits_on (steps.Begins {k = k} {d = d} n s read_at call begins fit none step) =
      all_weaker (QuitsSo input _ d) (QuitsSo input k d) (λ x so yes. absurd ((so yes).no_rows n s call (may_begin begins))) d.says (quits_on step)
  quits_on (steps.Counts_call {k = k} {d = d} n s call counts step) =
      all_weaker (QuitsSo input _ d) (QuitsSo input k d) (λ x so yes. (let q = so yes in record { was = q.was; unwritten = q.unwritten; left = q.left; no_rows = q.no_rows })) d.says (quits_on step)
  quits_on (steps.Goes_back {k = k} y step goes next) =
      let d : TurnDraft = goes_back k y step in
      all_weaker (QuitsSo input _ d) (QuitsSo input k d) (λ x so yes. (let q = so yes in record { was = q.was; unwritten = q.unwritten; left = q.left; no_rows = q.no_rows })) d.says (quits_on next)
  quits_on (steps.Pends {k = k} {d = d} n l comment call has live code writer step) =
      all_weaker (QuitsSo input _ d) (QuitsSo input k d) (λ x so yes. (let q = so yes in record { was = q.was; unwritten = q.unwritten; left = q.left; no_rows = q.no_rows })) d.says (quits_on step)
  quits_on (steps.Lets_reads_go {k = k} {d = d} l comment site_below live begins step) =
      all_weaker (QuitsSo input _ d) (QuitsSo input k d) (λ x so yes. (let q = so yes in record { was = q.was; unwritten = q.unwritten; left = q.left; no_rows = q.no_rows })) d.says (quits_on step)
  quits_on (steps.Counts_ack {k = k} {d = d} s from kept came counts step) =
      all_weaker (QuitsSo input _ d) (QuitsSo input k d) (λ x so yes. (let q = so yes in record { was = q.was; unwritten = q.unwritten; left = q.left; no_rows = q.no_rows })) d.says (quits_on step)
  quits_on (steps.Sends says why) = plainly _ _ says (says_plain why)
  quits_on (steps.Runs {k = k} x s given t asked way) = plainly _ _ _ (answer_plain (branch_ran k.sessions x t (ran p k x.live.me s t)) _ x.live.parent)
  quits_on (steps.Goes_nowhere x s given r asked way) = plainly _ _ _ (answer_plain x _ x.live.parent)
  quits_on (steps.Calls {k = k} x s given i table asked way) = plainly _ _ _ (exec_plain k.sessions x i (errands.Statement (passed_on s table) given) (peer_of x.live i))
  quits_on (steps.Opens x s given node link table asked way) = ((λ yes. absurd cc), tt)
  quits_on (steps.Goes_on {k = k} x from strength g link opened) =
      plainly _ _ _ (exec_plain k.sessions (with_edge x (new_edge from link strength)) (length x.live.edges + 1) (less_room g.errand) (peer_of (with_edge x (new_edge from link strength)).live (length x.live.edges + 1)))
  quits_on (steps.Hears_reply x weight count a i e answered) = plainly _ _ _ (answer_plain (hears_reply x i weight count e) _ x.live.parent)
  quits_on (steps.Backs {k = k} x step from i calls next) = plainly _ _ _ (exec_plain k.sessions x i (errands.GoBack step) (peer_of x.live i))
  quits_on (steps.Is_back x step from calls none) = plainly _ _ _ (answer_plain x _ x.live.parent)
  quits_on (steps.Opens_branch to parent edge root depth read_at came new) = ((λ yes. absurd cc), tt)
  quits_on (steps.Acts {k = k} l site_below acts.SayReadOnly why) =
      all_weaker (λ x. x.from ≡ l.me) (QuitsSo input k _)
      (λ x is yes. record {
        was = subst (IsLive k) (sym is) (acting_live why);
        unwritten = refl;
        left = subst (λ b. is_among b (map live_id (drop_item live_id k.lives l.me)) ≡ false) (sym is) (dropped_gone l.me k.lives);
        no_rows = acting_apart why;
      })
      (to_one l.me kinds.ReadOnly l.parent) (mine l.parent)
    where
      mine : (o : Option BranchId) → AllByRecursion (λ x. x.from ≡ l.me) (to_one l.me kinds.ReadOnly o)
      mine None = tt
      mine (Some b) = (refl, tt)
  quits_on (steps.Acts l site_below acts.AskDown why) = plainly _ _ _ (prepares_plain l.me l.comment (path_of site_below (step_from l)) 1 l.edges)
  quits_on (steps.Acts l site_below acts.SayReady why) = plainly _ _ _ (one_plain l.me kinds.Ready l.parent refl)
  quits_on (steps.Acts l site_below acts.Seal why) = plainly _ _ _ (one_plain l.me kinds.Prepared l.parent refl)
  quits_on (steps.Acts l site_below (acts.SealAndPass i) why) = plainly _ _ _ (one_plain l.me kinds.CommitPoint (peer_of l i) refl)
  quits_on (steps.Acts {k = k} l site_below acts.Decide why) = plainly _ _ _ (each_plain l.me (kinds.Committed (k.clock + 1)) (site_neighbors l) refl)
  quits_on (steps.Acts l site_below acts.Abandon why) = plainly _ _ _ (all_append Plain (to_one l.me kinds.Abort l.parent) _ (one_plain l.me kinds.Abort l.parent refl) (each_plain l.me kinds.Rollback (children_of l) refl))
  quits_on (steps.Drops_told l live drops) = plainly _ _ _ (each_plain l.me kinds.Rollback (children_of l) refl)
  quits_on (steps.Drops_asked l from live came parent) = ((λ yes. absurd cc), plainly _ _ _ (each_plain l.me kinds.Rollback (children_of l) refl))
  quits_on (steps.Does s from (nexts.End d) kept why) = plainly _ _ _ (passes_plain s d)
  quits_on (steps.Does s from (nexts.Meet d mixed) kept why) = plainly _ _ _ (passes_plain s d)
  quits_on (steps.Does s from nexts.AckToward kept why) = plainly _ _ _ (one_plain s.me kinds.Ack s.toward refl)
  quits_on (steps.Does s from nexts.Forget kept why) = plainly _ _ _ (each_plain s.me kinds.Forgotten (map (λ b. b.branch) (beyond s)) refl)
  quits_on (steps.Does s from nexts.SayForgotten kept why) = ((λ yes. absurd cc), tt)
  quits_on (steps.Does s from nexts.SayAck kept why) = ((λ yes. absurd cc), tt)
  quits_on (steps.Leaves n s d x call ends has live) = plainly _ _ _ (each_plain x.live.me kinds.Rollback (children_of x.live) refl)
  quits_on (steps.Gives_up_commit n b (Some l) gives has calls live) = plainly _ _ _ (each_plain l.me kinds.Rollback (children_of l) refl)
  quits_on _ = tt

-- ---- the exit of such a branch

-- a ReadOnly of a turn is one of its messages
pub quiet_there : (ms : List Msg) → AllByRecursion (λ m. is_read_only m.kind ≡ true → list_any (is_quiet m.from) ms ≡ true) ms
quiet_there [] = tt
quiet_there (m ∷ ms) = (
  (λ yes. or_left (is_quiet m.from m) (list_any (is_quiet m.from) ms) (ap (λ q. q && is_read_only m.kind) (same_from_equal m.from m.from refl) ∙ yes)),
  all_weaker _ _ (λ x so yes. or_right (is_quiet x.from m) (list_any (is_quiet x.from) ms) (so yes)) ms (quiet_there ms),
)

module _ (b : BranchId) (after : List BranchId) (sent : List Msg) where
  stays_quiet : (bs : List BranchId) (t : List Event) → exit t b ≡ Some Quiet → exit (with_leavers after sent bs t) b ≡ Some Quiet
  stays_quiet [] t is = is
  stays_quiet (c ∷ bs) t is =
      stays_quiet bs _ (cond_both (has_left after t c) (leave_event sent c ∷ t) t (λ (r : List Event). exit r b ≡ Some Quiet) (λ gone. ap (λ o. first o (exit_by (leave_event sent c) b)) is) (λ stays. is))

  -- another branch that leaves
  leaves_other : (c : BranchId) (quiet : Bool) → same c b ≡ false → exit_by (if quiet then Answer_read_only c else Drop c) b ≡ None
  leaves_other c true other = only_none c b Quiet (same_turned c b other)
  leaves_other c false other = only_none c b Exit.Dropped (same_turned c b other)

  other_leaver : (c : BranchId) (t : List Event) → same c b ≡ false → exit t b ≡ None → exit (with_leaver after sent c t) b ≡ None
  other_leaver c t other none =
      cond_both (has_left after t c) (leave_event sent c ∷ t) t (λ (r : List Event). exit r b ≡ None) (λ gone. ap (λ o. first o (exit_by (leave_event sent c) b)) none ∙ leaves_other c (list_any (is_quiet c) sent) other) (λ stays. none)

  own_leaver : (t : List Event) → exit t b ≡ None → is_among b after ≡ false → list_any (is_quiet b) sent ≡ true → exit (with_leaver after sent b t) b ≡ Some Quiet
  own_leaver t none gone quiet =
      let left : has_left after t b ≡ true = ap (λ q. not q && is_none (exit t b)) gone ∙ ap is_none none in
      let event : leave_event sent b ≡ Answer_read_only b = ap (λ q. if q then Answer_read_only b else Drop b) quiet in
      let new : exit (leave_event sent b ∷ t) b ≡ Some Quiet = first_new (exit t b) (exit_by (leave_event sent b) b) Quiet none (ap (λ (e : Event). exit_by e b) event ∙ only_at_same b b Quiet refl) in
      subst (λ q. exit (if q then leave_event sent b ∷ t else t) b ≡ Some Quiet) (sym left) new

  pub quiet_leaves : (bs : List BranchId) (t : List Event) → exit t b ≡ None → is_among b bs ≡ true → is_among b after ≡ false → list_any (is_quiet b) sent ≡ true → exit (with_leavers after sent bs t) b ≡ Some Quiet
  quiet_leaves [] t none was gone quiet = absurd cc
  quiet_leaves (c ∷ bs) t none was gone quiet = by (same c b) refl was (λ other found. quiet_leaves bs (with_leaver after sent c t) (other_leaver c t other none) found gone quiet)
    where
      by : (here : Bool) → same c b ≡ here → (here || is_among b bs) ≡ true → (same c b ≡ false → is_among b bs ≡ true → exit (with_leavers after sent bs (with_leaver after sent c t)) b ≡ Some Quiet)
          → exit (with_leavers after sent bs (with_leaver after sent c t)) b ≡ Some Quiet
      by true is found later = stays_quiet bs _ (subst (λ x. exit (with_leaver after sent x t) b ≡ Some Quiet) (sym (equal_from_same c b is)) (own_leaver t none gone quiet))
      by false is found later = later is found
