-- What a branch says in the course of a COMMIT is of the kinds of that course, and its turn makes no branch work.
use Rattle.std.proofs.Common.{◌≡◌, ◌≢◌, ℕ, ◌+◌, Bool, true, false, if◌then◌else◌, List, [], ◌∷◌, map, Option, Some, None, inl, inr, refl, sym, ap, subst, ◌∙◌}
use Rattle.std.specs.Prelude.{◌⊎◌}
use Rattle.std.specs.List.{AllByRecursion}
use Rattle.tran_ids.proofs.BranchLemmas.{equal_from_same}
use Rattle.tran_ids.proofs.ListedLemmas.{put_or_before, drop_gone, drop_leaves}
use Rattle.session_tree.specs.Live.{children_of, peer_of}
use Rattle.session_tree.specs.Tree.{step}
use Rattle.commit_forget.specs.Beyond.{beyond}
use Rattle.node_rules.specs.Data.{Act, Beyond, BranchId, Decision, Edge, Kind, Live, Next, Post, KeptRow}
use Rattle.node_rules.specs.Data.acts
use Rattle.node_rules.specs.Data.decisions
use Rattle.node_rules.specs.Data.kinds
use Rattle.node_rules.specs.Data.nexts
use Rattle.node_rules.specs.Data.phases
use Rattle.node_rules.specs.Words.{same, item_at, drop_item}
use Rattle.node_rules.specs.Commit.{next_turn, passes, passes_commit, rollback_to}
use Rattle.node_rules.specs.NodeState.{NodeState, live_id, live_at, to_each, to_one}
use Rattle.node_rules.specs.Prepare.{act_turn, path_of, prepares, ready, site_neighbors}
use Rattle.run_rules.proofs.ListLemmas.{all_append}

-- the kinds of messages from COMMIT on
abbrev pub in_course : Kind → Bool
in_course (kinds.Prepare below comment) = true
in_course kinds.Prepared = true
in_course kinds.ReadOnly = true
in_course kinds.Ready = true
in_course kinds.Abort = true
in_course kinds.CommitPoint = true
in_course (kinds.Committed n) = true
in_course kinds.Ack = true
in_course kinds.Forgotten = true
in_course kinds.Rollback = true
in_course kinds.RolledBack = true
in_course _ = false

-- such a message of a branch
abbrev pub SaidSo : BranchId → Post → Type 0
SaidSo me m = (m.from ≡ me) × (in_course m.kind ≡ true)

module _ (me : BranchId) where
  abbrev AllSaid : List Post → Type 0
  AllSaid ms = AllByRecursion (SaidSo me) ms

  pub one_said : (kind : Kind) (o : Option BranchId) → in_course kind ≡ true → AllSaid (to_one me kind o)
  one_said kind None so = tt
  one_said kind (Some q) so = ((refl, so), tt)

  pub each_said : (kind : Kind) (bs : List BranchId) → in_course kind ≡ true → AllSaid (to_each me kind bs)
  each_said kind [] so = tt
  each_said kind (b ∷ bs) so = ((refl, so), each_said kind bs so)

  asks_said : (comment : List ℕ) (path : Option ℕ) (i : ℕ) (es : List Edge) → AllSaid (prepares me comment path i es)
  asks_said comment path i [] = tt
  asks_said comment path i (e ∷ es) = ((refl, refl), asks_said comment path (i + 1) es)

  back_said : (bs : List Beyond) → AllSaid (map (rollback_to me) bs)
  back_said [] = tt
  back_said (b ∷ bs) = ((refl, by b.is_parent), back_said bs)
    where
      by : (q : Bool) → in_course (if q then kinds.RolledBack else kinds.Rollback) ≡ true
      by true = refl
      by false = refl

-- ---- acts

pub act_said : (k : NodeState) (l : Live) (b : Bool) (a : Act) → AllByRecursion (SaidSo l.me) (act_turn k l b a).says
act_said k l b acts.Rest = tt
act_said k l b acts.AskDown = asks_said l.me l.comment (path_of b (step l)) 1 l.edges
act_said k l b acts.SayReadOnly = one_said l.me kinds.ReadOnly l.parent refl
act_said k l b acts.SayReady = one_said l.me kinds.Ready l.parent refl
act_said k l b acts.Seal = one_said l.me kinds.Prepared l.parent refl
act_said k l b (acts.SealAndPass i) = one_said l.me kinds.CommitPoint (peer_of l i) refl
act_said k l b acts.Decide = each_said l.me (kinds.Committed (k.clock + 1)) (site_neighbors l) refl
act_said k l b acts.Finish = tt
act_said k l b acts.Abandon = all_append (SaidSo l.me) (to_one l.me kinds.Abort l.parent) (to_each l.me kinds.Rollback (children_of l)) (one_said l.me kinds.Abort l.parent refl) (each_said l.me kinds.Rollback (children_of l) refl)

-- who works was working
abbrev pub WorksOn : NodeState → NodeState → Type 0
WorksOn k j = (c : BranchId) (y : Live) → live_at j c ≡ Some y → y.phase ≡ phases.Working → live_at k c ≡ Some y

module _ (k : NodeState) (l : Live) (busy : l.phase ≢ phases.Working) where
  put_works : (x : Live) → x.phase ≢ phases.Working → (c : BranchId) (y : Live) (item : Option Live) → item ≡ Some y → y.phase ≡ phases.Working
      → ((item ≡ live_at k c) ⊎ ((x.me ≡ c) × (item ≡ Some x))) → live_at k c ≡ Some y
  put_works x other c y item at works (inl old) = sym old ∙ at
  put_works x other c y item at works (inr new) =
      let both : Some x ≡ Some y = sym new.1 ∙ at in
      let it : x ≡ y = cc in
      absurd (other (ap (λ (z : Live). z.phase) it ∙ works))

  drop_works : (c : BranchId) (y : Live) → item_at live_id (drop_item live_id k.lives l.me) c ≡ Some y → live_at k c ≡ Some y
  drop_works c y at = by (same l.me c) refl
    where
      by : (q : Bool) → same l.me c ≡ q → live_at k c ≡ Some y
      by true here =
          let none : item_at live_id (drop_item live_id k.lives l.me) c ≡ None = subst (λ b. item_at live_id (drop_item live_id k.lives l.me) b ≡ None) (equal_from_same l.me c here) (drop_gone live_id k.lives l.me) in
          absurd (cc (none, at))
      by false other = sym (drop_leaves live_id k.lives l.me c other) ∙ at

  pub act_works : (b : Bool) (a : Act) → WorksOn k (act_turn k l b a).after
  act_works b acts.Rest c y at works = put_works l busy c y _ at works (put_or_before live_id k.lives l c)
  act_works b acts.AskDown c y at works = put_works l busy c y _ at works (put_or_before live_id k.lives l c)
  act_works b acts.SayReady c y at works = put_works (ready l) (λ is. absurd cc) c y _ at works (put_or_before live_id k.lives (ready l) c)
  act_works b _ c y at works = drop_works c y at

-- ---- kept branches

commit_said : (s : KeptRow) (n : ℕ) (bs : List Beyond) → AllByRecursion (SaidSo s.me) (passes_commit s n bs)
commit_said s n [] = one_said s.me kinds.Ack s.toward refl
commit_said s n (b ∷ bs) = each_said s.me (kinds.Committed n) (map (λ c. c.branch) (b ∷ bs)) refl

passes_said : (s : KeptRow) (d : Decision) → AllByRecursion (SaidSo s.me) (passes s d)
passes_said s (decisions.Commit n) = commit_said s n (beyond s)
passes_said s decisions.Rollback = back_said s.me (beyond s)

pub next_said : (k : NodeState) (s : KeptRow) (from : BranchId) (next : Next) → AllByRecursion (SaidSo s.me) (next_turn k s from next).says
next_said k s from nexts.Rest = tt
next_said k s from (nexts.End d) = passes_said s d
next_said k s from (nexts.Meet d mixed) = passes_said s d
next_said k s from nexts.AckToward = one_said s.me kinds.Ack s.toward refl
next_said k s from nexts.Forget = each_said s.me kinds.Forgotten (map (λ b. b.branch) (beyond s)) refl
next_said k s from nexts.SayForgotten = ((refl, refl), tt)
next_said k s from nexts.SayAck = ((refl, refl), tt)

pub next_works : (k : NodeState) (s : KeptRow) (from : BranchId) (next : Next) → WorksOn k (next_turn k s from next).after
next_works k s from nexts.Rest c y at works = at
next_works k s from (nexts.End d) c y at works = at
next_works k s from (nexts.Meet d mixed) c y at works = at
next_works k s from nexts.AckToward c y at works = at
next_works k s from nexts.Forget c y at works = at
next_works k s from nexts.SayForgotten c y at works = at
next_works k s from nexts.SayAck c y at works = at
