-- What is told of live branches for their rows: the root, the advice of the last Exec that they took, and from their collect on the
-- comment of the COMMIT of their transaction. Each happening leaves a transaction the comment that it has.
use Rattle.std.proofs.Common.{◌≡◌, ◌≢◌, ℕ, Bool, true, false, if◌then◌else◌, List, [], ◌∷◌, ◌++◌, Option, Some, None, refl, sym, ap, subst, ◌∙◌}
use Rattle.std.specs.Prelude.{nat_lt}
use Rattle.std.specs.List.{AllByRecursion}
use Rattle.tran_ids.proofs.ListedLemmas.{put_found}
use Rattle.node_rules.specs.Data.{Advice, BranchId, Kind, Live, Place, Stmt}
use Rattle.node_rules.specs.Data.admits
use Rattle.node_rules.specs.Data.kinds
use Rattle.node_rules.specs.Data.phases
use Rattle.node_rules.specs.Data.tasks
use Rattle.node_rules.specs.Words.{item_at, same}
use Rattle.node_rules.specs.Calls.{admit, exec_by, goes, on_exec, takes_call}
use Rattle.node_rules.specs.Names.{Way, Runs_here, Over, Through, Nowhere_to, way_of}
use Rattle.node_rules.specs.NodeState.{Branch, NodeState, kept_row_at, live_at, live_id, branch_at}
use Rattle.node_rules.specs.Turn.{Is_live, live_or, status_of}
use Rattle.node_rules.proofs.StandLemmas.{live_so}
use Rattle.run_rules.specs.Births.{Born, births_of}
use Rattle.run_rules.specs.Branches.{CommitPlan, Seen, Trail, plan_at, seen_at, seen_id}
use Rattle.run_rules.specs.Data.{Happening}
use Rattle.run_rules.specs.Data.happenings
use Rattle.run_rules.specs.Each.{AtEach}
use Rattle.run_rules.specs.Facts.{Facts, facts_after, node_at}
use Rattle.run_rules.specs.Lawful.{History, IsLawfulRun}
use Rattle.run_rules.specs.Trail.{trail_after}
use Rattle.run_base_laws.specs.BirthLaws.{Began}
use Rattle.tree_laws.proofs.PrefixLemmas.{f_at, one_on, so_far}
use Rattle.tree_laws.proofs.TimeLemmas.{born_end, part_lawful, part_of, part_on}
use Rattle.tree_trail_laws.specs.OwnLaws.{TracesRoots}
use Rattle.tree_trail_laws.specs.SeenLaws as seen
use Rattle.tree_trail_laws.specs.SeenLaws.{TracesOwns}
use Rattle.tree_trail_laws.proofs.MomentLemmas.{at_moment, by_moment, tr_at, trail_one_on}
use Rattle.tree_trail_laws.proofs.PlanLemmas.{plan_stays}
use Rattle.tree_trail_laws.proofs.SeenRunLemmas.{all_is_seen}
use Rattle.tree_trail_laws.proofs.TopFollowLemmas.{tops_follow}
use Rattle.view_laws.specs.GivenColumns.{Given, given_after}
use Rattle.view_laws.proofs.GivenLemmas.{g_at, given_one_on, planned_keeps}

-- ---- an Exec at a live branch

module _ (p : Place) (k : NodeState) (x : Branch) (found : branch_at k x.live.me ≡ Some x) (from : BranchId) (call given : ℕ) (advice : Option Advice) (s : Stmt) (y : Live) where
  put_is : (l : Live) → l.advice ≡ advice → (o : Option Live) → o ≡ Some l → o ≡ Some y → y.advice ≡ advice
  put_is l same o is live = (let both : Some l ≡ Some y = sym is ∙ live in let one : l ≡ y = cc in ap (λ (z : Live). z.advice) (sym one) ∙ same)

  goes_advice : (way : Way) → live_at (goes p k (takes_call x call (tasks.Run given advice s)) s given way).after x.live.me ≡ Some y → y.advice ≡ advice
  goes_advice (Runs_here t) live = put_is _ refl _ (put_found live_id k.lives _) live
  goes_advice (Nowhere_to r) live = put_is _ refl _ (put_found live_id k.lives (takes_call x call (tasks.Run given advice s)).live) live
  goes_advice (Over i table) live = put_is _ refl _ (put_found live_id k.lives (takes_call x call (tasks.Run given advice s)).live) live
  goes_advice (Through node link table) live = put_is _ refl _ (put_found live_id k.lives (takes_call x call (tasks.Run given advice s)).live) live

  pub exec_advice : live_at (on_exec p k x from call (tasks.Run given advice s)).after x.live.me ≡ Some y → y.advice ≡ (if nat_lt x.work.came.last_call call then advice else x.live.advice)
  unfolding admit
  exec_advice live = by (nat_lt x.work.came.last_call call) _ live
    where
      same_one : live_at k x.live.me ≡ Some y → y.advice ≡ x.live.advice
      same_one live = (let both : Some x.live ≡ Some y = sym (live_so k x.live.me x found) ∙ live in let one : x.live ≡ y = cc in ap (λ (z : Live). z.advice) (sym one))

      by : (q r : Bool) → live_at (exec_by p k x from call (tasks.Run given advice s) (if q then admits.Run else (if r then admits.Again else admits.Ignore))).after x.live.me ≡ Some y → y.advice ≡ (if q then advice else x.live.advice)
      by true r live = goes_advice (way_of p k.stored.durable (takes_call x call (tasks.Run given advice s)).live given s) live
      by false true live = same_one live
      by false false live = same_one live

pub stands_live : (k : NodeState) (x : Branch) → branch_at k x.live.me ≡ Some x → status_of k x.live.me ≡ Is_live x
unfolding status_of
stands_live k x found = ap (λ o. live_or o (kept_row_at k x.live.me)) found

-- ---- lists

-- a branch that is told behind others
pub later_seen : (xs ys : List Seen) (b : BranchId) → item_at seen_id xs b ≡ None → item_at seen_id (xs ++ ys) b ≡ item_at seen_id ys b
later_seen [] ys b none = refl
later_seen (x ∷ xs) ys b none = by (same x.me b) none (later_seen xs ys b)
  where
    by : (q : Bool) → (if q then Some x else item_at seen_id xs b) ≡ None → (item_at seen_id xs b ≡ None → item_at seen_id (xs ++ ys) b ≡ item_at seen_id ys b) → (if q then Some x else item_at seen_id (xs ++ ys) b) ≡ item_at seen_id ys b
    by true is later = absurd cc
    by false is later = later is

pub only_one : (y : Seen) (b : BranchId) (s : Seen) → item_at seen_id (y ∷ []) b ≡ Some s → y ≡ s
only_one y b s is = by (same y.me b) is
  where
    by : (q : Bool) → (if q then Some y else item_at seen_id [] b) ≡ Some s → y ≡ s
    by true is = (let it : Some y ≡ Some s = is in cc)
    by false is = absurd cc

-- ---- what is so

-- the COMMIT of a transaction was accepted, with this comment
abbrev pub IsPlanned : Trail → Given → BranchId → List ℕ → Type 0
IsPlanned tr g root c = (plan_at tr root ≢ None) × (c ≡ g.comment root)

-- What is told of a live branch for its row.
pub record LiveGot (tr : Trail) (g : Given) (l : Live) : Type 0 where
  pub told : (s : Seen) × (seen_at tr l.me ≡ Some s) × (s.root ≡ l.root) × (s.parent ≡ l.parent)
  pub advice : l.advice ≡ g.advice l.me
  pub top : l.parent ≡ None → l.advice ≡ None
  pub comment : l.phase ≢ phases.Working → IsPlanned tr g l.root l.comment

-- a Prepare carries the comment of its branch's transaction
abbrev pub PrepareGot : List Born → Trail → Given → BranchId → Kind → Type 0
PrepareGot bs tr g to (kinds.Prepare site_below c) = (x : Born) × Began bs x × (x.me ≡ to) × IsPlanned tr g x.root c
PrepareGot bs tr g to _ = Unit {0}

-- What each happening keeps.
pub record Gives (bs : List Born) (f : Facts) (tr : Trail) (g : Given) : Type 0 where
  pub lives : (n : ℕ) (k : NodeState) → node_at f n ≡ Some k → (l : Live) → live_at k l.me ≡ Some l → LiveGot tr g l
  pub said : AllByRecursion (λ x. PrepareGot bs tr g x.msg.to x.msg.kind) f.net.packets
  pub unseen : (b : BranchId) → seen_at tr b ≡ None → g.advice b ≡ None

pub some_not : {A : Type 0} (o : Option A) (a : A) → o ≡ Some a → o ≢ None
some_not o a some none = cc (some, none)

pub planned_after : (places : List Place) (f : Facts) (tr : Trail) (g : Given) (h : Happening) (root : BranchId) (c : List ℕ) → IsPlanned tr g root c → IsPlanned (trail_after places f tr h) (given_after places f tr h g) root c
planned_after places f tr g h root c is = (by (plan_at tr root) refl, comment h)
  where
    by : (o : Option CommitPlan) → plan_at tr root ≡ o → plan_at (trail_after places f tr h) root ≢ None
    by None none = absurd (is.0 none)
    by (Some x) some = some_not (plan_at (trail_after places f tr h) root) x (plan_stays places f tr h root x some)

    comment : (h : Happening) → c ≡ (given_after places f tr h g).comment root
    comment (happenings.Turn u) = is.1 ∙ sym (planned_keeps tr (trail_after places f tr (happenings.Turn u)) root (g.comment root) u.input is.0)
    comment (happenings.Begun n) = is.1
    comment (happenings.Cut a b) = is.1
    comment (happenings.Join a b) = is.1
    comment (happenings.Lost n) = is.1
    comment (happenings.Stopped n) = is.1
    comment (happenings.Started n boot) = is.1

module _ (t : History) (whole : IsLawfulRun t) where
  pub owns_of : (s : History) → IsLawfulRun s → AtEach (λ places f tr h. TracesOwns f tr) s
  owns_of s lawful = by_moment s (λ places f tr h. TracesOwns f tr) (λ xs h more at. (at_moment s (λ places f tr x. seen.Sees f tr) (all_is_seen s lawful) xs h more at).owns)

  pub roots_of : AtEach (λ places f tr h. TracesRoots places f tr) t
  roots_of = by_moment t (λ places f tr h. TracesRoots places f tr) (λ hs h more is. (let lawful = part_lawful t whole hs (part_of t whole hs h more is) in
      let it = tops_follow (so_far t hs) lawful (owns_of (so_far t hs) lawful) in
      record { tops = it.0; roots = it.1; next = it.2 }))

  -- up to some happening
  abbrev pub GivesAt : List Happening → Type 0
  GivesAt hs = Gives (births_of (so_far t hs)) (f_at t hs) (tr_at t hs) (g_at t hs)

  -- one happening more
  pub gives_at : (hs : List Happening) (h : Happening)
      → Gives (births_of (so_far t (hs ++ h ∷ []))) (facts_after t.places t.commands (f_at t hs) h) (trail_after t.places (f_at t hs) (tr_at t hs) h) (given_after t.places (f_at t hs) (tr_at t hs) h (g_at t hs)) → GivesAt (hs ++ h ∷ [])
  gives_at hs h it =
      subst (λ f. Gives (births_of (so_far t (hs ++ h ∷ []))) f (tr_at t (hs ++ h ∷ [])) (g_at t (hs ++ h ∷ []))) (sym (one_on t hs h))
      (subst (λ tr. Gives (births_of (so_far t (hs ++ h ∷ []))) (facts_after t.places t.commands (f_at t hs) h) tr (g_at t (hs ++ h ∷ []))) (sym (trail_one_on t hs h))
      (subst (Gives (births_of (so_far t (hs ++ h ∷ []))) (facts_after t.places t.commands (f_at t hs) h) (trail_after t.places (f_at t hs) (tr_at t hs) h)) (sym (given_one_on t hs h)) it))

  module _ (hs : List Happening) (h : Happening) (rest : List Happening) (is : hs ++ h ∷ rest ≡ t.trace) where
    pub prepare_on : (to : BranchId) (kind : Kind) → PrepareGot (births_of (so_far t hs)) (tr_at t hs) (g_at t hs) to kind
        → PrepareGot (births_of (so_far t (hs ++ h ∷ []))) (trail_after t.places (f_at t hs) (tr_at t hs) h) (given_after t.places (f_at t hs) (tr_at t hs) h (g_at t hs)) to kind
    prepare_on to (kinds.Prepare site_below c) got = (
      got.0,
      born_end (so_far t (hs ++ h ∷ [])) (part_lawful t whole (hs ++ h ∷ []) (part_on t whole hs h rest is)) hs (record { rest = h ∷ []; is = refl }) got.0 got.1,
      got.2,
      planned_after t.places (f_at t hs) (tr_at t hs) (g_at t hs) h got.0.root c got.3,
    )
    prepare_on to _ got = tt
