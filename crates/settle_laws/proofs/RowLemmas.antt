-- What each row of a node tells, in every lawful run.
use Rattle.std.proofs.Common.{◌≡◌, ℕ, ◌⊎◌, ◌||◌, not, Bool, true, false, if◌then◌else◌, List, [], ◌∷◌, ◌++◌, map, filter, Option, Some, None, inl, inr, refl, ap, subst, ◌∙◌}
use Rattle.std.specs.List.{AllByRecursion, list_any}
use Rattle.tran_ids.proofs.BranchLemmas.{equal_from_same}
use Rattle.commit_forget.specs.declared.next.Beyond.{Beyond}
use Rattle.commit_forget.specs.Beyond.{beyond, parent_beyond, kid_beyond, all_acked, is_neighbor}
use Rattle.commit_forget.specs.Next.{knows_commit}
use Rattle.session_tree.specs.Live.{is_branch}
use Rattle.agreement.specs.Events.{Event, exit}
use Rattle.node_rules.specs.Data.{BranchId, Kid, Live, KeptRow}
use Rattle.node_rules.specs.Words.{same}
use Rattle.node_rules.specs.NodeState.{NodeState, live_at, live_id}
use Rattle.node_rules.proofs.StepLemmas.{branch_found}
use Rattle.tran_ids.proofs.ListedLemmas.{item_is}
use Rattle.run_base_laws.specs.EventRows.{RowIs}
use Rattle.run_rules.specs.Facts.{node_at}
use Rattle.run_rules.specs.Lawful.{History, IsLawfulRun, facts_at}
use Rattle.run_base_laws.specs.RunEvents.{events_of}
use Rattle.run_base_laws.proofs.EventsStandLemmas.{nodes_are_as_events}
use Rattle.run_rules.proofs.ListLemmas.{all_weaker}
use Rattle.run_base_laws.proofs.OwnLemmas.{all_found}
use Rattle.run_base_laws.proofs.TurnEventLemmas.{all_both}
use Rattle.commit_forget_laws.specs.RowLaws.{is_forced, IsSealed}
use Rattle.settle_laws.specs.RowLaws.{RowHolds, RowsHold, NamesSo, NamedOffAreSealed, NamedLiveAreToward}
use Rattle.settle_laws.proofs.HoldLemmas.{Holds}
use Rattle.settle_laws.proofs.HoldRunLemmas.{run_holds}

one_holds : (t : List Event) (s : KeptRow) → Holds t s → RowIs t s → RowHolds t s
one_holds t s so row = record {
  unheard = so.0.unheard;
  plain = so.0.whole;
  committed = λ is. (so.0.whole (ap is_forced is)).1;
  forgot = row.forgot;
  forgets = so.0.forgets;
  sealed = so.0.sealed;
  site = λ none knows fresh. by none knows fresh (all_acked s) refl;
}
  where
    by : s.toward ≡ None → knows_commit s.decision ≡ true → s.forgot ≡ false → (a : Bool) → all_acked s ≡ a → all_acked s ≡ false
    by none knows fresh false is = is
    by none knows fresh true is = (let q = so.1 knows fresh is in let some = q.1 in absurd (cc (none, some)))

pub rows_hold : RowsHold
rows_hold t whole n k up =
    all_weaker _ (RowHolds (events_of t)) (λ x so. one_holds (events_of t) x so.0 so.1) k.stored.durable.kept
    (all_both (Holds (events_of t)) (RowIs (events_of t)) k.stored.durable.kept ((run_holds t whole).0 n k up) (nodes_are_as_events t whole n k up).1)

-- ---- neighbours

module _ (P : BranchId → Type 0) (z : BranchId) where
  abbrev Of : Beyond → Type 0
  Of y = P y.branch

  first_part : (xs ys : List Beyond) → AllByRecursion Of (xs ++ ys) → AllByRecursion Of xs
  first_part [] ys all = tt
  first_part (x ∷ xs) ys all = (all.0, first_part xs ys all.1)

  second_part : (xs ys : List Beyond) → AllByRecursion Of (xs ++ ys) → AllByRecursion Of ys
  second_part [] ys all = all
  second_part (x ∷ xs) ys all = second_part xs ys all.1

  parent_off : (s : KeptRow) (o : Option BranchId) → is_branch z s.toward ≡ false → is_branch z o ≡ true → AllByRecursion Of (parent_beyond s o) → P z
  parent_off s None off is all = absurd cc
  parent_off s (Some b) off is all =
      let it : b ≡ z = equal_from_same b z is in
      let far : is_branch b s.toward ≡ false = ap (λ c. is_branch c s.toward) it ∙ off in
      subst P it (subst (λ (w : Bool). AllByRecursion Of (if w then [] else (record { branch = b; acked = s.parent_acked; is_parent = true }) ∷ [])) far all).0

  kid_off : (toward : Option BranchId) (cs : List Kid) → is_branch z toward ≡ false → list_any (λ c. same c.branch z) cs ≡ true → AllByRecursion Of (map kid_beyond (filter (λ c. not (is_branch c.branch toward)) cs)) → P z
  kid_off toward [] off is all = absurd cc
  kid_off toward (c ∷ cs) off is all = by (same c.branch z) refl is (is_branch c.branch toward) refl all (kid_off toward cs off)
    where
      by : (q : Bool) → same c.branch z ≡ q → (q || list_any (λ x. same x.branch z) cs) ≡ true → (w : Bool) → is_branch c.branch toward ≡ w
          → AllByRecursion Of (map kid_beyond (if not w then c ∷ filter (λ x. not (is_branch x.branch toward)) cs else filter (λ x. not (is_branch x.branch toward)) cs))
          → (list_any (λ x. same x.branch z) cs ≡ true → AllByRecursion Of (map kid_beyond (filter (λ x. not (is_branch x.branch toward)) cs)) → P z) → P z
      by true here any false far each rest = subst P (equal_from_same c.branch z here) each.0
      by true here any true on each rest = (let it : c.branch ≡ z = equal_from_same c.branch z here in let no : is_branch c.branch toward ≡ false = ap (λ b. is_branch b toward) it ∙ off in absurd (cc (on, no)))
      by false other any false far each rest = rest any each.1
      by false other any true on each rest = rest any each

  pub neighbor_off : (s : KeptRow) → is_branch z s.toward ≡ false → is_neighbor s z ≡ true → AllByRecursion Of (beyond s) → P z
  unfolding beyond
  neighbor_off s off is all = by (is_branch z s.parent) refl is
    where
      by : (q : Bool) → is_branch z s.parent ≡ q → (q || list_any (λ c. same c.branch z) s.children) ≡ true → P z
      by true up any = parent_off s s.parent off up (first_part (parent_beyond s s.parent) _ all)
      by false down any = kid_off s.toward s.children off any (second_part (parent_beyond s s.parent) _ all)

pub names_so : (t : List Event) (s : KeptRow) → AllByRecursion (λ y. IsSealed t y.branch) (beyond s) → NamesSo t s
names_so t s all z is = by (is_branch z s.toward) refl
  where
    by : (q : Bool) → is_branch z s.toward ≡ q → IsSealed t z ⊎ (s.toward ≡ Some z)
    by true on = inr (branch_found z s.toward on)
    by false off = inl (neighbor_off (IsSealed t) z s off is all)

pub named_off_are_sealed : NamedOffAreSealed
named_off_are_sealed t whole n k up = all_weaker _ (NamesSo (events_of t)) (λ x so. names_so (events_of t) x so.sealed) k.stored.durable.kept (rows_hold t whole n k up)

-- a live branch has not left
pub live_unleft : (t : History) → IsLawfulRun t → (m : ℕ) (j : NodeState) → node_at (facts_at t) m ≡ Some j → (z : BranchId) (l : Live) → live_at j z ≡ Some l → exit (events_of t) z ≡ None
live_unleft t whole m j up z l is =
    subst (λ b. exit (events_of t) b ≡ None) (item_is live_id j.lives z l is) (all_found (λ (x : Live). exit (events_of t) x.me ≡ None) live_id j.lives z l (nodes_are_as_events t whole m j up).0 is)

pub named_live_are_toward : NamedLiveAreToward
named_live_are_toward t whole n k up m j there z l is = all_weaker _ _ (λ x so. by x so) k.stored.durable.kept (named_off_are_sealed t whole n k up)
  where
    by : (x : KeptRow) → NamesSo (events_of t) x → is_neighbor x z ≡ true → x.toward ≡ Some z
    by x so named = elim (so z named) [
      | inl sealed ↦ (let none = live_unleft t whole m j there z l is in let left = sealed.1 in absurd (cc (none, left)))
      | inr on ↦ on
    ]
