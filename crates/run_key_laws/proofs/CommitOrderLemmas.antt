-- Where the turns of a lawful run go by its session trees, commit SCNs are in order at each key.
use Rattle.std.proofs.Common.{◌≡◌, ◌≢◌, ℕ, ◌<◌, ◌≤◌, ◌||◌, Bool, true, false, true≢false, List, [], ◌∷◌, ◌++◌, Option, Some, None, inl, inr, refl, sym, subst, append-nil, append_assoc, arith}
use Rattle.std.specs.Prelude.{IfSome}
use Rattle.std.specs.Option.{option_to_list}
use Rattle.std.specs.List.{AllByRecursion, list_any}
use Rattle.tran_ids.proofs.BranchLemmas.{equal_from_same}
use Rattle.agreement.specs.Events.{Forest, IsForest, Sealed, Decided, Event, Decide, Learn, Force, first, exit, learned_by, learned, forced_by, forced, Has, Allowed, Lawful, site_of}
use Rattle.agreement.proofs.EventLemmas.{only_at_same, learned_stays}
use Rattle.agreement.proofs.Invariant.{Inv}
use Rattle.agreement.proofs.InvariantKept.{inv}
use Rattle.agreement.proofs.WholeTree.{not_doomed}
use Rattle.agreement.proofs.AgreementLaws.{exit_decided, exit_sealed, later as sealed_below}
use Rattle.node_rules.specs.Data.{Change, BranchId, Decision, RedoRecord, Place}
use Rattle.node_rules.specs.Data.decisions
use Rattle.node_rules.specs.Data.records
use Rattle.node_rules.specs.Words.{numbered}
use Rattle.run_rules.specs.Data.{Turn, Happening, Command}
use Rattle.run_rules.specs.Data.happenings
use Rattle.run_rules.specs.Facts.{Facts, first_facts, records_at, facts_after}
use Rattle.run_rules.specs.Lawful.{IsPlace, MayHappen, History, IsLawfulRun, facts_at}
use Rattle.run_base_laws.specs.RunEvents.{with_event, wrote_event, record_event, with_record, events_after, events_of}
use Rattle.run_key_laws.specs.OrderLaws.{ends, commit_scn, have_a_key_in_common, IsDoneBefore, ComesInOrder, InOrderFrom}
use Rattle.run_key_laws.specs.CommitOrderLaws.{IsIn, SealsOrDecides, changes_by, CommitsComeInOrder}
use Rattle.run_rules.proofs.ListLemmas.{all_weaker, all_append}
use Rattle.run_base_laws.proofs.LaterLemmas.{Added, has_later, turn_added, stop_added, events_keep}
use Rattle.run_rules.proofs.AtNodeLemmas.{turn_elsewhere, turn_here, start_elsewhere, start_here}
use Rattle.run_base_laws.proofs.TurnEventLemmas.{cases_nat}
use Rattle.run_base_laws.proofs.EventsStandLemmas.{BranchStatus, stand_on, stand_first, first_disk}
use Rattle.run_branch_laws.proofs.JustLemmas.{just_runs_are_lawful}
use Rattle.run_branch_laws.proofs.TreeJustLemmas.{runs_by_trees_are_just}
use Rattle.run_key_laws.proofs.OrderLemmas.{keys_come_in_order}

-- ---- the records of a disk are events

-- the event of a record stands
abbrev pub IsEvent : List Event → ℕ → RedoRecord → Type 0
IsEvent t n r = IfSome (record_event n r) (λ e. Has e t)

abbrev pub AreEvents : List Event → ℕ → List RedoRecord → Type 0
AreEvents t n rs = AllByRecursion (IsEvent t n) rs

has_more : (o : Option Event) (t : List Event) (x : Event) → Has x t → Has x (with_event o t)
has_more None t x has = has
has_more (Some e) t x has = inr has

event_more : (o q : Option Event) (t : List Event) → IfSome q (λ e. Has e t) → IfSome q (λ e. Has e (with_event o t))
event_more o None t is = tt
event_more o (Some x) t is = has_more o t x is

event_now : (o : Option Event) (t : List Event) → IfSome o (λ e. Has e (with_event o t))
event_now None t = tt
event_now (Some e) t = inl refl

wrote_events : (t : List Event) (n : ℕ) (rs : List RedoRecord) (w : Option RedoRecord) → AreEvents t n rs → AreEvents (with_event (wrote_event n w) t) n (rs ++ option_to_list w)
wrote_events t n rs None all = all_append (IsEvent t n) rs [] all tt
wrote_events t n rs (Some r) all =
    all_append (IsEvent (with_event (record_event n r) t) n) rs (r ∷ []) (all_weaker _ _ (λ x is. event_more (record_event n r) (record_event n x) t is) rs all) (event_now (record_event n r) t, tt)

later_event : {Q : Event → Type 0} {t s : List Event} (q : Option Event) → Added Q t s → IfSome q (λ e. Has e t) → IfSome q (λ e. Has e s)
later_event None more is = tt
later_event (Some x) more is = has_later x more is

later_events : {Q : Event → Type 0} {t s : List Event} (n : ℕ) (rs : List RedoRecord) → Added Q t s → AreEvents t n rs → AreEvents s n rs
later_events n rs more all = all_weaker _ _ (λ x is. later_event (record_event n x) more is) rs all

-- at each node
abbrev pub DisksAreEvents : Facts → List Event → Type 0
DisksAreEvents f t = (n : ℕ) → AreEvents t n (records_at f n)

module _ (places : List Place) (asked : List Command) (each : (n : ℕ) (p : Place) → numbered places n ≡ Some p → IsPlace places n p) (f : Facts) (t : List Event) (stand : BranchStatus places asked each f t)
    (now : DisksAreEvents f t) where
  turn_events : (u : Turn) → MayHappen places asked f (happenings.Turn u) → DisksAreEvents (facts_after places asked f (happenings.Turn u)) (events_after places asked f (happenings.Turn u) t)
  turn_events u may n = later_events n _ (turn_added f (facts_after places asked f (happenings.Turn u)) u t) (elim (cases_nat n u.node) [
    | inl at ↦ subst (λ i. AreEvents (with_record u t) i (records_at (facts_after places asked f (happenings.Turn u)) i)) (sym at)
        (subst (AreEvents (with_record u t) u.node) (sym (turn_here places asked f stand.0.even u may.0 may.1.up).1) (wrote_events t u.node (records_at f u.node) u.wrote (now u.node)))
    | inr other ↦ subst (AreEvents (with_record u t) n) (sym (turn_elsewhere places asked f stand.0.even u n (λ e. other (sym e))).1)
        (all_weaker _ _ (λ x is. event_more (wrote_event u.node u.wrote) (record_event n x) t is) (records_at f n) (now n))
  ])

  start_events : (m boot : ℕ) → MayHappen places asked f (happenings.Started m boot) → DisksAreEvents (facts_after places asked f (happenings.Started m boot)) t
  start_events m boot may n = elim (cases_nat n m) [
    | inl at ↦ subst (λ i. AreEvents t i (records_at (facts_after places asked f (happenings.Started m boot)) i)) (sym at)
        (subst (AreEvents t m) (sym (start_here places asked f stand.0.even m boot may.there.0 (omega (arith, may.there.1, stand.1.many))).1)
        (all_append (IsEvent t m) (records_at f m) (records.Boot boot ∷ []) (now m) (tt, tt)))
    | inr other ↦ subst (AreEvents t n) (sym (start_elsewhere places asked f stand.0.even m boot n (λ e. other (sym e))).1) (now n)
  ]

  events_on : (h : Happening) → MayHappen places asked f h → DisksAreEvents (facts_after places asked f h) (events_after places asked f h t)
  unfolding facts_after
  events_on (happenings.Turn u) may = turn_events u may
  events_on (happenings.Stopped n) may = λ m. later_events m _ (stop_added f f n t) (now m)
  events_on (happenings.Started n boot) may = start_events n boot may
  events_on _ may = now

disks_are_events : (r : History) → IsLawfulRun r → DisksAreEvents (facts_at r) (events_of r)
disks_are_events r lawful =
    (events_keep r.places r.commands (λ f s. BranchStatus r.places r.commands r.of_a_script.each f s × DisksAreEvents f s)
    (λ f s h now may. (stand_on r.places r.commands r.of_a_script.each f s h now.0 may, events_on r.places r.commands r.of_a_script.each f s now.0 now.1 h may))
    (first_facts r.places) r.trace [] (stand_first r.places r.commands r.of_a_script.each, λ n. first_disk (AreEvents [] n) tt (tt, tt) r.places n) lawful).1

-- ---- what events tell

module _ (p : Forest) where
  learned_now : (s : Event) (t : List Event) (b : BranchId) (d : Decision) (m : Option Bool) → s ≡ Learn b d m → learned t b ≡ None → learned (s ∷ t) b ≡ Some d
  learned_now s t b d m is none = subst (λ z. learned (z ∷ t) b ≡ Some d) (sym is) (subst (λ o. first o (learned_by (Learn b d m) b) ≡ Some d) (sym none) (only_at_same b b d refl))

  -- a branch learns once
  unlearned : (t : List Event) (b : BranchId) (d : Decision) (m : Option Bool) → Allowed p t (Learn b d m) → learned t b ≡ None
  unlearned t b (decisions.Commit n) m allowed = allowed.1
  unlearned t b decisions.Rollback m allowed = allowed.1

  pub has_learned : (t : List Event) (b : BranchId) (d : Decision) (m : Option Bool) → Lawful p t → Has (Learn b d m) t → learned t b ≡ Some d
  has_learned [] b d m l has = absurd has
  has_learned (s ∷ t) b d m l (inl is) = learned_now s t b d m is (unlearned t b d m (subst (λ z. Allowed p t z) is l.0))
  has_learned (s ∷ t) b d m l (inr has) = learned_stays s t b d (has_learned t b d m l.1 has)

-- what was forced is forced
has_forced : (t : List Event) (b : BranchId) (d : Decision) → Has (Force b d) t → forced t b ≢ None
has_forced [] b d has none = absurd has
has_forced (s ∷ t) b d (inl is) none =
    let at : forced (Force b d ∷ t) b ≡ None = subst (λ z. forced (z ∷ t) b ≡ None) is none in
    let mine : forced_by (Force b d) b ≡ Some d = only_at_same b b d refl in
    by (forced t b) (forced_by (Force b d) b) mine at
  where
    by : (o q : Option Decision) → q ≡ Some d → first o q ≡ None → ⊥
    by None q some none = absurd (cc (some, none))
    by (Some x) q some none = absurd cc
has_forced (s ∷ t) b d (inr has) none = has_forced t b d has (before (forced t b) (forced_by s b) none)
  where
    before : (o q : Option Decision) → first o q ≡ None → o ≡ None
    before None q is = refl
    before (Some x) q is = absurd cc

-- ---- two branches on one disk

in_all : (P : RedoRecord → Type 0) (r : RedoRecord) (rs : List RedoRecord) → AllByRecursion P rs → IsIn r rs → P r
in_all P r [] all there = absurd there
in_all P r (s ∷ rs) all (inl is) = subst P is all.0
in_all P r (s ∷ rs) all (inr there) = in_all P r rs all.1 there

any_in : (q : RedoRecord → Bool) (rs : List RedoRecord) → list_any q rs ≡ true → (o : RedoRecord) × IsIn o rs × (q o ≡ true)
any_in q [] some = absurd (true≢false (sym some))
any_in q (r ∷ rs) some = by (q r) refl some (any_in q rs)
  where
    by : (here : Bool) → q r ≡ here → (here || list_any q rs) ≡ true → (list_any q rs ≡ true → (o : RedoRecord) × IsIn o rs × (q o ≡ true)) → (o : RedoRecord) × IsIn o (r ∷ rs) × (q o ≡ true)
    by true is some rest = (r, inl refl, is)
    by false is some rest = let there = rest some in (there.0, inr there.1, there.2)

pub at_split : (pre older : List RedoRecord) (s : RedoRecord) (newer : List RedoRecord) → InOrderFrom pre (older ++ s ∷ newer) → ComesInOrder (pre ++ older) s
at_split pre [] s newer all = subst (λ xs. ComesInOrder xs s) (sym (append-nil pre)) all.0
at_split pre (x ∷ older) s newer all = subst (λ xs. ComesInOrder xs s) (append_assoc pre (x ∷ []) older) (at_split (pre ++ x ∷ []) older s newer all.1)

front : (P : RedoRecord → Type 0) (older : List RedoRecord) (s : RedoRecord) (newer : List RedoRecord) → AllByRecursion P (older ++ s ∷ newer) → AllByRecursion P older × P s
front P [] s newer all = (tt, all.0)
front P (x ∷ older) s newer all = let rest = front P older s newer all.1 in ((all.0, rest.0), rest.1)

-- an SCN is not above a seal, or is below a decision
abbrev pub IsBelow : ℕ → RedoRecord → Type 0
IsBelow c (records.Sealed r) = c ≤ r.scn
IsBelow c (records.Decided r) = c < r.scn
IsBelow c _ = Unit {0}

module _ (p : Forest) (w : IsForest p) (t : List Event) (l : Lawful p t) (n : ℕ) where
  i : Inv p t
  i = inv p t w l

  -- the SCN of a transaction is above the seals of its branches, and is that of its decision
  above : (other : RedoRecord) (b : BranchId) (m : ℕ) → SealsOrDecides b other → IsEvent t n other → exit t (site_of p b) ≡ Some (Decided m) → (c : ℕ) → IsBelow c other → c < m
  above (records.Sealed s) b m is event decided c below =
      let left : exit t b ≡ Some (Sealed s.scn) = subst (λ z. exit t z ≡ Some (Sealed s.scn)) is (exit_sealed p t s.me s.root s.scn s.changes l event) in
      let less : s.scn < m = sealed_below p w t l b m s.scn decided left in
      omega (arith, below, less)
  above (records.Decided s) b m is event decided c below =
      let left : exit t b ≡ Some (Decided s.scn) = subst (λ z. exit t z ≡ Some (Decided s.scn)) is (exit_decided p t s.me s.root s.scn s.changes l event) in
      let at : exit t b ≡ Some (Decided m) = subst (λ z. exit t z ≡ Some (Decided m)) (sym (i.decided_at b s.scn left)) decided in
      let same_scn : s.scn ≡ m = cc (left, at) in
      omega (arith, below, same_scn)
  above _ b m is event decided c below = absurd is

  -- the end of a branch that was not forced is its transaction's commit
  known_end : (o : RedoRecord) (b : BranchId) (k : ℕ) → IsEvent t n o → ends b o ≡ true → forced t b ≡ None → exit t (site_of p b) ≡ Some (Decided k) → commit_scn o ≡ k
  known_end (records.Ended c (decisions.Commit q)) b k event over unforced decided =
      let me : c ≡ b = equal_from_same c b over in
      let at : exit t (site_of p b) ≡ Some (Decided q) = subst (λ z. exit t (site_of p z) ≡ Some (Decided q)) me (i.learned_commit c q (has_learned p t c (decisions.Commit q) None l event)) in
      (let same_scn : q ≡ k = cc (at, decided) in same_scn)
  known_end (records.Ended c decisions.Rollback) b k event over unforced decided =
      let me : c ≡ b = equal_from_same c b over in
      let told : learned t b ≡ Some decisions.Rollback = subst (λ z. learned t z ≡ Some decisions.Rollback) me (has_learned p t c decisions.Rollback None l event) in
      absurd (not_doomed p t k (p.root b) w i decided (i.learned_rollback b told))
  known_end (records.Forced c d given) b k event over unforced decided =
      let me : c ≡ b = equal_from_same c b over in
      absurd (has_forced t c d event (subst (λ z. forced t z ≡ None) (sym me) unforced))
  known_end _ b k event over unforced decided = absurd (true≢false (sym over))

  -- so a record before tells the commit of a branch that left before
  known : (older : List RedoRecord) (cs : List Change) (one : RedoRecord) (b : BranchId) (k : ℕ) → AreEvents t n older → IsIn one older → SealsOrDecides b one → IsDoneBefore older cs one → have_a_key_in_common (changes_by one) cs ≡ true
      → forced t b ≡ None → exit t (site_of p b) ≡ Some (Decided k) → (o : RedoRecord) × IsIn o older × (commit_scn o ≡ k)
  known older cs (records.Sealed f) b k events there is done common unforced decided =
      let over : list_any (ends b) older ≡ true = subst (λ z. list_any (ends z) older ≡ true) is (done common) in
      let found : (o : RedoRecord) × IsIn o older × (ends b o ≡ true) = any_in (ends b) older over in
      (found.0, found.1, known_end found.0 b k (in_all (IsEvent t n) found.0 older events found.1) found.2 unforced decided)
  known older cs (records.Decided f) b k events there is done common unforced decided =
      let event : Has (Decide f.me f.root f.scn f.changes) t = in_all (IsEvent t n) (records.Decided f) older events there in
      let left : exit t b ≡ Some (Decided f.scn) = subst (λ z. exit t z ≡ Some (Decided f.scn)) is (exit_decided p t f.me f.root f.scn f.changes l event) in
      let at : exit t b ≡ Some (Decided k) = subst (λ z. exit t z ≡ Some (Decided k)) (sym (i.decided_at b f.scn left)) decided in
      (records.Decided f, there, (let same_scn : f.scn ≡ k = cc (left, at) in same_scn))
  known older cs _ b k events there is done common unforced decided = absurd is

  ordered : (older : List RedoRecord) (one other : RedoRecord) (a b : BranchId) (k m : ℕ) → AreEvents t n older → IsEvent t n other → ComesInOrder older other → IsIn one older → SealsOrDecides a one → SealsOrDecides b other
      → have_a_key_in_common (changes_by one) (changes_by other) ≡ true → forced t a ≡ None → exit t (site_of p a) ≡ Some (Decided k) → exit t (site_of p b) ≡ Some (Decided m) → k < m
  ordered older one (records.Sealed s) a b k m events event order there is leaves common unforced first_decided decided =
      let o : (o : RedoRecord) × IsIn o older × (commit_scn o ≡ k) = known older s.changes one a k events there is (in_all (IsDoneBefore older s.changes) one older order.0 there) common unforced first_decided in
      above (records.Sealed s) b m leaves event decided k (subst (λ c. c ≤ s.scn) o.2 (in_all (λ q. commit_scn q ≤ s.scn) o.0 older order.1 o.1))
  ordered older one (records.Decided s) a b k m events event order there is leaves common unforced first_decided decided =
      let o : (o : RedoRecord) × IsIn o older × (commit_scn o ≡ k) = known older s.changes one a k events there is (in_all (IsDoneBefore older s.changes) one older order.0 there) common unforced first_decided in
      above (records.Decided s) b m leaves event decided k (subst (λ c. c < s.scn) o.2 (in_all (λ q. commit_scn q < s.scn) o.0 older order.1 o.1))
  ordered older one _ a b k m events event order there is leaves common unforced first_decided decided = absurd leaves

pub commits_come_in_order : CommitsComeInOrder
commits_come_in_order r lawful p w goes n a b k m after unforced first_decided decided =
    let l : Lawful p (events_of r) = just_runs_are_lawful r p (runs_by_trees_are_just r lawful p goes) in
    let events : AreEvents (events_of r) n (after.older ++ after.other ∷ after.newer) = subst (AreEvents (events_of r) n) after.split (disks_are_events r lawful n) in
    let order : ComesInOrder after.older after.other = at_split [] after.older after.other after.newer (subst (InOrderFrom []) after.split (keys_come_in_order r lawful n)) in
    let parts : AreEvents (events_of r) n after.older × IsEvent (events_of r) n after.other = front (IsEvent (events_of r) n) after.older after.other after.newer events in
    ordered p w (events_of r) l n after.older after.one after.other a b k m parts.0 parts.1 order after.before after.leaves after.leaves_after after.common unforced first_decided decided
