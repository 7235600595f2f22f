-- A step says Abort for a branch that is gone, to which Prepare came, or for one that hears a child's Abort.
use Rattle.std.proofs.Common.{◌≡◌, ℕ, ◌+◌, Bool, false, List, map, length, Option, Some, None, refl, sym, ap, ◌∙◌}
use Rattle.std.specs.List.{AllByRecursion}
use Rattle.std.proofs.lemmas.Bool.{cond_both}
use Rattle.reco.specs.declared.post.Post.{Post}
use Rattle.reco.specs.declared.told.Told.TheVariants as tolds
use Rattle.commit_forget.specs.declared.next.Next.TheVariants as nexts
use Rattle.session_tree.specs.Live.{children_of, peer_of, new_edge}
use Rattle.session_tree.specs.Tree.{step as step_from}
use Rattle.node_rules.specs.Data.{Answer, BranchId, Kind, Live, Stmt, Place, Input}
use Rattle.node_rules.specs.declared.work.Errand.{Errand}
use Rattle.node_rules.specs.Data.acts
use Rattle.node_rules.specs.Data.inputs
use Rattle.node_rules.specs.Data.kinds
use Rattle.node_rules.specs.Data.votes
use Rattle.node_rules.specs.declared.session.Session.{Session}
use Rattle.node_rules.specs.Inputs.{Came, IsCall}
use Rattle.node_rules.specs.NodeState.{NodeState, TurnDraft, Branch, live_at, to_one}
use Rattle.node_rules.specs.Calls.{answer_says, exec_to, with_edge, hears_reply, branch_ran, less_room, goes_back}
use Rattle.node_rules.specs.Statement.{ran}
use Rattle.node_rules.specs.Prepare.{path_of, site_neighbors, without_read_keys}
use Rattle.node_rules.specs.Commit.{beyond, is_neighbor}
use Rattle.node_rules.specs.Recovery.{told_by, told_kind}
use Rattle.node_rules.specs.Turn.{Is_gone, status_of}
use Rattle.node_rules.proofs.Steps as steps
use Rattle.node_rules.proofs.Steps.{Step, Says, Acting, Answers, Collected}
use Rattle.node_rules.specs.declared.work.Errand.TheVariants as errands
use Rattle.node_rules.specs.Marks.{node_back}
use Rattle.node_rules.specs.Names.{passed_on}
use Rattle.run_rules.specs.Trail.{is_abort}
use Rattle.run_base_laws.proofs.KindSayLemmas.{OfDecisions, one_says, each_says, prepares_say, told_says, passes_say, askings_say}
use Rattle.run_rules.proofs.ListLemmas.{all_weaker, all_append}
use Rattle.run_branch_laws.proofs.QuietLemmas.{came_apart}

-- Why a branch says Abort.
pub data Aborts (k : NodeState) (input : Input) (b : BranchId) : Type 0 where
  Was_gone : (from : BranchId) (site_below : Bool) (comment : List ℕ) → Came input from b (kinds.Prepare site_below comment) → status_of k b ≡ Is_gone → Aborts k input b
  Hears_one : (z : Live) (from : BranchId) (site_below : Bool) → live_at k z.me ≡ Some z → z.me ≡ b → Answers input z from votes.Abort site_below → Aborts k input b

-- a message is Abort for such a reason, or another
abbrev pub AbortSo : NodeState → Input → BranchId → Kind → Type 0
AbortSo k input b kinds.Abort = Aborts k input b
AbortSo k input b _ = Unit {0}

abbrev SaidSo : NodeState → Input → List Post → Type 0
SaidSo k input posts = AllByRecursion (λ x. AbortSo k input x.from x.kind) posts

-- ---- messages of other kinds

abbrev Other : Kind → Type 0
Other kind = is_abort kind ≡ false

others : OfDecisions Other
others = record { committed = λ n. refl; rolled_back = refl; rollback = refl; in_doubt = refl; ack = refl; forgotten = refl; ask = refl }

other_so : (k : NodeState) (input : Input) (b : BranchId) (kind : Kind) → Other kind → AbortSo k input b kind
other_so k input b kinds.Abort is = absurd cc
other_so k input b _ is = tt

none_so : (k : NodeState) (input : Input) (posts : List Post) → AllByRecursion (λ x. Other x.kind) posts → SaidSo k input posts
none_so k input posts all = all_weaker (λ x. Other x.kind) (λ x. AbortSo k input x.from x.kind) (λ x is. other_so k input x.from x.kind is) posts all

answer_none : (x : Branch) (a : Answer) (parent : Option BranchId) → AllByRecursion (λ x. Other x.kind) (answer_says x a parent)
answer_none x a None = tt
answer_none x a (Some parent) = (refl, tt)

exec_none : (ss : List Session) (x : Branch) (i : ℕ) (e : Errand) (to : Option BranchId) → AllByRecursion (λ x. Other x.kind) (exec_to ss x i e to)
exec_none ss x i e None = tt
exec_none ss x i e (Some to) = (refl, tt)

says_so : {k : NodeState} {input : Input} {says : List Post} → Says k input says → SaidSo k input says
says_so (steps.Gone_aborts to from site_below comment came gone) = (Was_gone from site_below comment came gone, tt)
says_so {k = k} {input = input} (steps.Tells s from came kept) =
    (other_so k input s.me _ (cond_both (is_neighbor s from) (told_by s.decision) tolds.RolledBack (λ t. Other (told_kind t)) (λ near. told_says Other others (told_by s.decision)) (λ far. refl)), tt)
says_so {k = k} {input = input} (steps.Recovers reco) = none_so k input _ (askings_say Other others k)
says_so _ = (tt, tt)

-- ---- what a change before the draft leaves so

called : (n : ℕ) (s : Stmt) (input : Input) → IsCall input n s → (j k : NodeState) (b : BranchId) (kind : Kind) → AbortSo j input b kind → AbortSo k input b kind
called n s input call j k b kinds.Abort (Was_gone from site_below comment came gone) = absurd (came_apart n s came call)
called n s input call j k b kinds.Abort (Hears_one z from site_below found me answers) = absurd (came_apart n s answers.came call)
called n s input call j k b _ so = tt

keys_gone : (k : NodeState) (c : BranchId) (input : Input) (b : BranchId) (kind : Kind) → AbortSo (without_read_keys k c) input b kind → AbortSo k input b kind
unfolding status_of
keys_gone k c input b kinds.Abort (Was_gone from site_below comment came gone) = Was_gone from site_below comment came gone
keys_gone k c input b kinds.Abort (Hears_one z from site_below found me answers) = Hears_one z from site_below found me answers
keys_gone k c input b _ so = tt

gone_back : (k : NodeState) (y : Branch) (step : ℕ) (input : Input) (b : BranchId) (kind : Kind) → AbortSo (node_back k y step) input b kind → AbortSo k input b kind
unfolding status_of
gone_back k y step input b kinds.Abort (Was_gone from site_below comment came gone) = Was_gone from site_below comment came gone
gone_back k y step input b kinds.Abort (Hears_one z from site_below found me answers) = Hears_one z from site_below found me answers
gone_back k y step input b _ so = tt

-- the kind of a message that came
abbrev came_kind : Input → Option Kind
came_kind (inputs.Message m) = Some m.kind
came_kind _ = None

acked : (from to : BranchId) (input : Input) → Came input from to kinds.Ack → (j k : NodeState) (b : BranchId) (kind : Kind) → AbortSo j input b kind → AbortSo k input b kind
acked from to input ack j k b kinds.Abort (Was_gone c site_below comment came gone) =
    let both : Some kinds.Ack ≡ Some (kinds.Prepare site_below comment) = sym (ap came_kind ack.is) ∙ ap came_kind came.is in absurd (cc both)
acked from to input ack j k b kinds.Abort (Hears_one z c site_below found me answers) =
    let both : Some kinds.Ack ≡ Some answers.kind = sym (ap came_kind ack.is) ∙ ap came_kind answers.came.is in
    let abort : Some kinds.Abort ≡ Some answers.kind = answers.is_vote in
    absurd (cc (both, abort))
acked from to input ack j k b _ so = tt

-- ---- the branch that hears a child's Abort

never_abandons : {l : Live} {sb : Bool} → Collected l sb acts.Abandon → ⊥
never_abandons collected = elim collected [ ]

abandons_so : {k : NodeState} {input : Input} {l : Live} {sb : Bool} → Acting k input l sb acts.Abandon → Aborts k input l.me
abandons_so (steps.Has_no_children l comment sb _ found begins none collected) = absurd (never_abandons collected)
abandons_so (steps.Hears_abort l from sb found answers) = Hears_one l from sb found refl answers
abandons_so (steps.Hears_last l from v sb _ found answers other all collected) = absurd (never_abandons collected)
abandons_so (steps.At_point l from _ found came ready pointed) = elim pointed [ ]

one_so : (k : NodeState) (input : Input) (me : BranchId) (to : Option BranchId) → Aborts k input me → SaidSo k input (to_one me kinds.Abort to)
one_so k input me None why = tt
one_so k input me (Some q) why = (why, tt)

-- ---- every step

module _ (p : Place) (input : Input) where
  pub aborts_on : {k : NodeState} {d : TurnDraft} → Step p input k d → SaidSo k input d.says
  aborts_on (steps.Begins {k = k} {d = d} n s read_at call begins fit none step) = all_weaker _ _ (λ x so. called n s input call _ k x.from x.kind so) d.says (aborts_on step)
  aborts_on (steps.Counts_call {k = k} {d = d} n s call counts step) = all_weaker _ _ (λ x so. called n s input call _ k x.from x.kind so) d.says (aborts_on step)
  aborts_on (steps.Goes_back {k = k} y step goes next) = all_weaker _ _ (λ x so. gone_back k y step input x.from x.kind so) (goes_back k y step).says (aborts_on next)
  aborts_on (steps.Pends {k = k} {d = d} n l given call has live code writer step) = all_weaker _ _ (λ x so. called n _ input call _ k x.from x.kind so) d.says (aborts_on step)
  aborts_on (steps.Lets_reads_go {k = k} {d = d} l comment site_below live begins step) = all_weaker _ _ (λ x so. keys_gone k l.me input x.from x.kind so) d.says (aborts_on step)
  aborts_on (steps.Counts_ack {k = k} {d = d} s from kept came counts step) = all_weaker _ _ (λ x so. acked from s.me input came _ k x.from x.kind so) d.says (aborts_on step)
  aborts_on (steps.Sends says why) = says_so why
  aborts_on (steps.Runs {k = k} x s given t asked way) = none_so _ input _ (answer_none (branch_ran k.sessions x t (ran p k x.live.me s t)) _ x.live.parent)
  aborts_on (steps.Goes_nowhere x s given r asked way) = none_so _ input _ (answer_none x _ x.live.parent)
  aborts_on (steps.Calls {k = k} x s given i table asked way) = none_so _ input _ (exec_none k.sessions x i (errands.Statement (passed_on s table) given) (peer_of x.live i))
  aborts_on (steps.Opens x s given node link table asked way) = (tt, tt)
  aborts_on (steps.Goes_on {k = k} x from strength g link opened) =
      none_so _ input _ (exec_none k.sessions (with_edge x (new_edge from link strength)) (length x.live.edges + 1) (less_room g.errand) (peer_of (with_edge x (new_edge from link strength)).live (length x.live.edges + 1)))
  aborts_on (steps.Hears_reply x weight count a i e answered) = none_so _ input _ (answer_none (hears_reply x i weight count e) _ x.live.parent)
  aborts_on (steps.Backs {k = k} x step from i calls next) = none_so _ input _ (exec_none k.sessions x i (errands.GoBack step) (peer_of x.live i))
  aborts_on (steps.Is_back x step from calls none) = none_so _ input _ (answer_none x _ x.live.parent)
  aborts_on (steps.Opens_branch to parent edge root depth read_at came new) = (tt, tt)
  aborts_on (steps.Acts l site_below acts.AskDown why) = none_so _ input _ (prepares_say Other (λ sb comment. refl) l.me l.comment (path_of site_below (step_from l)) 1 l.edges)
  aborts_on (steps.Acts l site_below acts.SayReadOnly why) = none_so _ input _ (one_says Other l.me kinds.ReadOnly l.parent refl)
  aborts_on (steps.Acts l site_below acts.SayReady why) = none_so _ input _ (one_says Other l.me kinds.Ready l.parent refl)
  aborts_on (steps.Acts l site_below acts.Seal why) = none_so _ input _ (one_says Other l.me kinds.Prepared l.parent refl)
  aborts_on (steps.Acts l site_below (acts.SealAndPass i) why) = none_so _ input _ (one_says Other l.me kinds.CommitPoint (peer_of l i) refl)
  aborts_on (steps.Acts {k = k} l site_below acts.Decide why) = none_so _ input _ (each_says Other l.me (kinds.Committed (k.clock + 1)) (site_neighbors l) refl)
  aborts_on (steps.Acts {k = k} l site_below acts.Abandon why) =
      all_append (λ x. AbortSo k input x.from x.kind) (to_one l.me kinds.Abort l.parent) _ (one_so k input l.me l.parent (abandons_so why)) (none_so k input _ (each_says Other l.me kinds.Rollback (children_of l) refl))
  aborts_on (steps.Drops_told l live drops) = none_so _ input _ (each_says Other l.me kinds.Rollback (children_of l) refl)
  aborts_on (steps.Drops_asked l from live came parent) = (tt, none_so _ input _ (each_says Other l.me kinds.Rollback (children_of l) refl))
  aborts_on (steps.Does s from (nexts.End d) kept why) = none_so _ input _ (passes_say Other others s d)
  aborts_on (steps.Does s from (nexts.Meet d mixed) kept why) = none_so _ input _ (passes_say Other others s d)
  aborts_on (steps.Does s from nexts.AckToward kept why) = none_so _ input _ (one_says Other s.me kinds.Ack s.toward refl)
  aborts_on (steps.Does s from nexts.Forget kept why) = none_so _ input _ (each_says Other s.me kinds.Forgotten (map (λ b. b.branch) (beyond s)) refl)
  aborts_on (steps.Does s from nexts.SayForgotten kept why) = (tt, tt)
  aborts_on (steps.Does s from nexts.SayAck kept why) = (tt, tt)
  aborts_on (steps.Leaves n s d x call ends has live) = none_so _ input _ (each_says Other x.live.me kinds.Rollback (children_of x.live) refl)
  aborts_on (steps.Gives_up_commit n b (Some l) gives has calls live) = none_so _ input _ (each_says Other l.me kinds.Rollback (children_of l) refl)
  aborts_on _ = tt
