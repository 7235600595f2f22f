-- What the records on a disk say of a branch, the events of the run say too, so a record that may stand fits what is said.
use Rattle.std.proofs.Common.{◌≡◌, ℕ, ◌||◌, ◌&&◌, Bool, true, false, if◌then◌else◌, List, [], ◌∷◌, Option, Some, None, inl, inr, refl, ap, subst, ◌∙◌}
use Rattle.std.specs.Prelude.{◌⊎◌}
use Rattle.std.specs.List.{AllByRecursion, list_any}
use Rattle.tran_ids.proofs.BranchLemmas.{equal_from_same}
use Rattle.agreement.specs.Events as exits
use Rattle.agreement.specs.Events.{Event, Exit, first, only_at, exit, exit_by, forced, forced_by, learned, Knows}
use Rattle.agreement.proofs.EventLemmas.{only_at_same}
use Rattle.node_rules.specs.Data.{BranchId, Decision, RedoRecord}
use Rattle.node_rules.specs.Data.decisions
use Rattle.node_rules.specs.Data.records
use Rattle.node_rules.specs.Words.{same}
use Rattle.run_base_laws.specs.EventRows.{MayStand}
use Rattle.run_base_laws.specs.RunEvents.{record_event, with_event}
use Rattle.run_base_laws.proofs.LaterLemmas.{Added, Nothing_more, One_more, exit_later, learned_later}
use Rattle.view_laws.specs.BranchRows.{meets_back, forgets, forced_as, committed_at, is_mixed}
use Rattle.view_laws.proofs.OneMoreLemmas.{says, plus, learned_as, says_on}
use Rattle.view_laws.proofs.RowLemmas.{about, nothing_said, one, one_of_none, says_one, row_with, Fits}

-- a branch has stopped being live
abbrev pub HasLeft : List Event → BranchId → Type 0
HasLeft e b = (x : Exit) × (exit e b ≡ Some x)

-- a branch was sealed
abbrev pub WasSealed : List Event → BranchId → Type 0
WasSealed e b = (m : ℕ) × (exit e b ≡ Some (exits.Sealed m))

-- what a record says is so by the events
abbrev pub Stood : List Event → RedoRecord → Type 0
Stood e (records.Sealed r) = HasLeft e r.me
Stood e (records.Decided r) = exit e r.me ≡ Some (exits.Decided r.scn)
Stood e (records.Ended b d) = WasSealed e b × (learned e b ≡ Some d)
Stood e (records.Forced b d given) = WasSealed e b × (forced e b ≡ Some d)
Stood e (records.Met b d mixed) = WasSealed e b × (learned e b ≡ Some d)
Stood e (records.Forgot b) = HasLeft e b × ((n : ℕ) × Knows e b n)
Stood e (records.Hidden b) = HasLeft e b
Stood e _ = Unit {0}

-- ---- it stays so

module _ {Q : Event → Type 0} {t s : List Event} (more : Added Q t s) where
  left_later : (b : BranchId) → HasLeft t b → HasLeft s b
  left_later b left = (left.0, exit_later b left.0 more left.1)

  seal_later : (b : BranchId) → WasSealed t b → WasSealed s b
  seal_later b is = (is.0, exit_later b (exits.Sealed is.0) more is.1)

  knows_later : (b : BranchId) (n : ℕ) → Knows t b n → Knows s b n
  knows_later b n (inl is) = inl (exit_later b (exits.Decided n) more is)
  knows_later b n (inr is) = inr (learned_later b (decisions.Commit n) more is)

forced_later : {Q : Event → Type 0} {t s : List Event} (b : BranchId) (d : Decision) → Added Q t s → forced t b ≡ Some d → forced s b ≡ Some d
forced_later b d Nothing_more is = is
forced_later b d (One_more x so more) is = ap (λ o. first o (forced_by x b)) (forced_later b d more is)

pub stood_later : {Q : Event → Type 0} {t s : List Event} (more : Added Q t s) (r : RedoRecord) → Stood t r → Stood s r
stood_later more (records.Sealed r) so = left_later more r.me so
stood_later more (records.Decided r) so = exit_later r.me (exits.Decided r.scn) more so
stood_later more (records.Ended b d) so = (seal_later more b so.0, learned_later b d more so.1)
stood_later more (records.Forced b d given) so = (seal_later more b so.0, forced_later b d more so.1)
stood_later more (records.Met b d mixed) so = (seal_later more b so.0, learned_later b d more so.1)
stood_later more (records.Forgot b) so = (left_later more b so.0, (so.1.0, knows_later more b so.1.0 so.1.1))
stood_later more (records.Hidden b) so = left_later more b so
stood_later more _ so = tt

-- ---- a record that is written

first_new : {A : Type 0} (x z : Option A) → x ≡ None → first x z ≡ z
first_new None z is = refl
first_new (Some y) z is = absurd cc

still_sealed : (e : List Event) (b : BranchId) (x : Event) → WasSealed e b → WasSealed (x ∷ e) b
still_sealed e b x is = (is.0, ap (λ o. first o (exit_by x b)) is.1)

pub stood_now : (e : List Event) (n : ℕ) (r : RedoRecord) → MayStand e r → ((b : BranchId) → exit e b ≡ None → learned e b ≡ None) → ((b : BranchId) → r ≡ records.Hidden b → HasLeft e b) → Stood (with_event (record_event n r) e) r
stood_now e n (records.Sealed r) may untaught shown = (exits.Sealed r.scn, first_new (exit e r.me) (only_at r.me r.me (exits.Sealed r.scn)) may.0 ∙ only_at_same r.me r.me (exits.Sealed r.scn) refl)
stood_now e n (records.Decided r) may untaught shown = first_new (exit e r.me) (only_at r.me r.me (exits.Decided r.scn)) may ∙ only_at_same r.me r.me (exits.Decided r.scn) refl
stood_now e n (records.Ended b d) may untaught shown = (still_sealed e b (exits.Learn b d None) may.0, first_new (learned e b) (only_at b b d) may.1 ∙ only_at_same b b d refl)
stood_now e n (records.Forced b d given) may untaught shown = (still_sealed e b (exits.Force b d) may.0, first_new (forced e b) (only_at b b d) may.2 ∙ only_at_same b b d refl)
stood_now e n (records.Met b d mixed) may untaught shown = (still_sealed e b (exits.Learn b d (Some mixed)) may.0, first_new (learned e b) (only_at b b d) may.1 ∙ only_at_same b b d refl)
stood_now e n (records.Forgot b) may untaught shown = (by (exit e b) refl, (may.0, knows may.1))
  where
    by : (o : Option Exit) → exit e b ≡ o → HasLeft (exits.Forget b ∷ e) b
    by (Some x) is = (x, ap (λ o. first o None) is)
    by None is = absurd (elim may.1 [ inl decided ↦ cc (decided, is) | inr told ↦ (let none = untaught b is in cc (told, none)) ])

    knows : Knows e b may.0 → Knows (exits.Forget b ∷ e) b may.0
    knows (inl is) = inl (ap (λ o. first o None) is)
    knows (inr is) = inr (ap (λ o. first o None) is)
stood_now e n (records.Hidden b) may untaught shown = shown b refl
stood_now e n (records.Boot m) may untaught shown = tt
stood_now e n (records.Table t) may untaught shown = tt
stood_now e n (records.Link l) may untaught shown = tt
stood_now e n (records.Synonym y) may untaught shown = tt
stood_now e n (records.Param p) may untaught shown = tt
stood_now e n (records.Image i) may untaught shown = tt

-- ---- what is not said

module _ (e : List Event) (b : BranchId) where
  -- a record about a branch that is live is not there
  not_about : exit e b ≡ None → (r : RedoRecord) → Stood e r → about b r ≡ false
  not_about live r so = by (about b r) refl
    where
      gone : (c : BranchId) → same c b ≡ true → HasLeft e c → ⊥
      gone c is left = let out : exit e b ≡ Some left.0 = subst (λ z. exit e z ≡ Some left.0) (equal_from_same c b is) left.1 in cc (out, live)

      out : (x : RedoRecord) → Stood e x → about b x ≡ true → ⊥
      out (records.Sealed x) so is = gone x.me is so
      out (records.Decided x) so is = gone x.me is (exits.Decided x.scn, so)
      out (records.Ended c d) so is = gone c is (exits.Sealed so.0.0, so.0.1)
      out (records.Forced c d given) so is = gone c is (exits.Sealed so.0.0, so.0.1)
      out (records.Met c d mixed) so is = gone c is (exits.Sealed so.0.0, so.0.1)
      out (records.Forgot c) so is = gone c is so.0
      out (records.Hidden c) so is = gone c is so
      out (records.Boot m) so is = cc
      out (records.Table t) so is = cc
      out (records.Link l) so is = cc
      out (records.Synonym y) so is = cc
      out (records.Param p) so is = cc
      out (records.Image i) so is = cc

      by : (q : Bool) → about b r ≡ q → q ≡ false
      by true is = absurd (out r so is)
      by false is = refl

  pub unsaid : exit e b ≡ None → (rs : List RedoRecord) → AllByRecursion (Stood e) rs → says rs b ≡ nothing_said
  unsaid live [] all = refl
  unsaid live (r ∷ rs) all =
      says_on b rs (r ∷ []) ∙ (ap (λ s. plus s (says rs b)) (says_one b r ∙ (ap (λ q. one q r) (not_about live r all.0) ∙ one_of_none r)) ∙ ap (plus nothing_said) (unsaid live rs all.1))

  -- a row is of a branch that has left
  pub row_left : (rs : List RedoRecord) → AllByRecursion (Stood e) rs → (row_with (says rs b) ≡ None → ⊥) → HasLeft e b
  row_left rs all there = by (exit e b) refl
    where
      by : (o : Option Exit) → exit e b ≡ o → HasLeft e b
      by (Some x) is = (x, is)
      by None is = absurd (there (ap row_with (unsaid is rs all)))

  -- it is not sealed
  never_sealed : (n : ℕ) → exit e b ≡ Some (exits.Decided n) → (c : BranchId) → same c b ≡ true → WasSealed e c → ⊥
  never_sealed n decided c is sealed = let it : exit e b ≡ Some (exits.Sealed sealed.0) = subst (λ z. exit e z ≡ Some (exits.Sealed sealed.0)) (equal_from_same c b is) sealed.1 in cc (it, decided)

  -- one that learned nothing, or that decided
  module _ (unlearned : (learned e b ≡ None) ⊎ ((n : ℕ) × (exit e b ≡ Some (exits.Decided n)))) where
    not_learned : (c : BranchId) (d : Decision) → same c b ≡ true → WasSealed e c → learned e c ≡ Some d → ⊥
    not_learned c d is sealed told = elim unlearned [
      | inl none ↦ (let it : learned e b ≡ Some d = subst (λ z. learned e z ≡ Some d) (equal_from_same c b is) told in cc (it, none))
      | inr decided ↦ never_sealed decided.0 decided.1 c is sealed
    ]

    pub learned_none : (rs : List RedoRecord) → AllByRecursion (Stood e) rs → learned_as rs b ≡ None
    learned_none [] all = refl
    learned_none (records.Ended c d ∷ rs) all = by (same c b) refl (learned_none rs all.1)
      where
        by : (q : Bool) → same c b ≡ q → learned_as rs b ≡ None → (if q then Some d else learned_as rs b) ≡ None
        by true is later = absurd (not_learned c d is all.0.0 all.0.1)
        by false is later = later
    learned_none (records.Met c d mixed ∷ rs) all = by (same c b) refl (learned_none rs all.1)
      where
        by : (q : Bool) → same c b ≡ q → learned_as rs b ≡ None → (if q then Some d else learned_as rs b) ≡ None
        by true is later = absurd (not_learned c d is all.0.0 all.0.1)
        by false is later = later
    learned_none (_ ∷ rs) all = learned_none rs all.1

    pub committed_none : (rs : List RedoRecord) → AllByRecursion (Stood e) rs → committed_at rs b ≡ None
    committed_none [] all = refl
    committed_none (records.Ended c (decisions.Commit n) ∷ rs) all = by (same c b) refl (committed_none rs all.1)
      where
        by : (q : Bool) → same c b ≡ q → committed_at rs b ≡ None → (if q then Some n else committed_at rs b) ≡ None
        by true is later = absurd (not_learned c (decisions.Commit n) is all.0.0 all.0.1)
        by false is later = later
    committed_none (records.Ended c decisions.Rollback ∷ rs) all = committed_none rs all.1
    committed_none (_ ∷ rs) all = committed_none rs all.1

    pub mixed_none : (rs : List RedoRecord) → AllByRecursion (Stood e) rs → is_mixed rs b ≡ false
    mixed_none [] all = refl
    mixed_none (records.Met c d mixed ∷ rs) all = by (same c b) refl (mixed_none rs all.1)
      where
        by : (q : Bool) → same c b ≡ q → is_mixed rs b ≡ false → ((q && mixed) || is_mixed rs b) ≡ false
        by true is later = absurd (not_learned c d is all.0.0 all.0.1)
        by false is later = later
    mixed_none (_ ∷ rs) all = mixed_none rs all.1

    unmet : (rs : List RedoRecord) → AllByRecursion (Stood e) rs → list_any (meets_back b) rs ≡ false
    unmet [] all = refl
    unmet (records.Met c decisions.Rollback mixed ∷ rs) all = by (same c b) refl (unmet rs all.1)
      where
        by : (q : Bool) → same c b ≡ q → list_any (meets_back b) rs ≡ false → (q || list_any (meets_back b) rs) ≡ false
        by true is later = absurd (not_learned c decisions.Rollback is all.0.0 all.0.1)
        by false is later = later
    unmet (records.Met c (decisions.Commit n) mixed ∷ rs) all = unmet rs all.1
    unmet (_ ∷ rs) all = unmet rs all.1

  unforgot : learned e b ≡ None → (m : ℕ) → exit e b ≡ Some (exits.Sealed m) → (rs : List RedoRecord) → AllByRecursion (Stood e) rs → list_any (forgets b) rs ≡ false
  unforgot none m sealed [] all = refl
  unforgot none m sealed (records.Forgot c ∷ rs) all = by (same c b) refl (unforgot none m sealed rs all.1)
    where
      never : same c b ≡ true → ⊥
      never is = elim all.0.1.1 [
        | inl decided ↦ (let it : exit e b ≡ Some (exits.Decided all.0.1.0) = subst (λ z. exit e z ≡ Some (exits.Decided all.0.1.0)) (equal_from_same c b is) decided in cc (it, sealed))
        | inr told ↦ (let it : learned e b ≡ Some (decisions.Commit all.0.1.0) = subst (λ z. learned e z ≡ Some (decisions.Commit all.0.1.0)) (equal_from_same c b is) told in cc (it, none))
      ]

      by : (q : Bool) → same c b ≡ q → list_any (forgets b) rs ≡ false → (q || list_any (forgets b) rs) ≡ false
      by true is later = absurd (never is)
      by false is later = later
  unforgot none m sealed (_ ∷ rs) all = unforgot none m sealed rs all.1

  pub forced_none : (forced e b ≡ None) ⊎ ((n : ℕ) × (exit e b ≡ Some (exits.Decided n))) → (rs : List RedoRecord) → AllByRecursion (Stood e) rs → forced_as rs b ≡ None
  forced_none none [] all = refl
  forced_none none (records.Forced c d given ∷ rs) all = by (same c b) refl (forced_none none rs all.1)
    where
      by : (q : Bool) → same c b ≡ q → forced_as rs b ≡ None → (if q then Some d else forced_as rs b) ≡ None
      by true is later = elim none [
        | inl unforced ↦ (let it : forced e b ≡ Some d = subst (λ z. forced e z ≡ Some d) (equal_from_same c b is) all.0.1 in absurd (cc (it, unforced)))
        | inr decided ↦ absurd (never_sealed decided.0 decided.1 c is all.0.0)
      ]
      by false is later = later
  forced_none none (_ ∷ rs) all = forced_none none rs all.1

-- a record that may stand fits what those before it say of its branch
pub fits_so : (e : List Event) (rs : List RedoRecord) → AllByRecursion (Stood e) rs → (r : RedoRecord) → MayStand e r → (b : BranchId) → about b r ≡ true → Fits (says rs b) r
fits_so e rs all (records.Sealed r) may b here = unsaid e b (subst (λ z. exit e z ≡ None) (equal_from_same r.me b here) may.0) rs all
fits_so e rs all (records.Decided r) may b here = unsaid e b (subst (λ z. exit e z ≡ None) (equal_from_same r.me b here) may) rs all
fits_so e rs all (records.Ended c d) may b here =
    let me : c ≡ b = equal_from_same c b here in
    let unlearned : learned e b ≡ None = subst (λ z. learned e z ≡ None) me may.1 in
    (forced_none e b (inl (subst (λ z. forced e z ≡ None) me may.2)) rs all, committed_none e b (inl unlearned) rs all, learned_none e b (inl unlearned) rs all)
fits_so e rs all (records.Forced c d given) may b here = forced_none e b (inl (subst (λ z. forced e z ≡ None) (equal_from_same c b here) may.2)) rs all
fits_so e rs all (records.Met c d mixed) may b here =
    let me : c ≡ b = equal_from_same c b here in
    let unlearned : learned e b ≡ None = subst (λ z. learned e z ≡ None) me may.1 in
    (learned_none e b (inl unlearned) rs all, mixed_none e b (inl unlearned) rs all, unmet e b (inl unlearned) rs all, unforgot e b unlearned may.0.0 (subst (λ z. exit e z ≡ Some (exits.Sealed may.0.0)) me may.0.1) rs all)
fits_so e rs all (records.Forgot c) may b here = tt
fits_so e rs all (records.Hidden c) may b here = tt
fits_so e rs all (records.Boot n) may b here = tt
fits_so e rs all (records.Table t) may b here = tt
fits_so e rs all (records.Link l) may b here = tt
fits_so e rs all (records.Synonym y) may b here = tt
fits_so e rs all (records.Param p) may b here = tt
fits_so e rs all (records.Image i) may b here = tt

-- ---- what is said of a commit

module _ (e : List Event) (b : BranchId) where
  committed_is : (rs : List RedoRecord) → AllByRecursion (Stood e) rs → (n : ℕ) → committed_at rs b ≡ Some n → learned e b ≡ Some (decisions.Commit n)
  committed_is [] all n is = absurd cc
  committed_is (records.Ended c (decisions.Commit m) ∷ rs) all n is = by (same c b) refl is (λ later. committed_is rs all.1 n later)
    where
      by : (q : Bool) → same c b ≡ q → (if q then Some m else committed_at rs b) ≡ Some n → (committed_at rs b ≡ Some n → learned e b ≡ Some (decisions.Commit n)) → learned e b ≡ Some (decisions.Commit n)
      by true here is later = (let number : m ≡ n = cc is in subst (λ z. learned e z ≡ Some (decisions.Commit n)) (equal_from_same c b here) (all.0.1 ∙ ap (λ i. Some (decisions.Commit i)) number))
      by false here is later = later is
  committed_is (records.Ended c decisions.Rollback ∷ rs) all n is = committed_is rs all.1 n is
  committed_is (_ ∷ rs) all n is = committed_is rs all.1 n is

  learned_is : (rs : List RedoRecord) → AllByRecursion (Stood e) rs → (d : Decision) → learned_as rs b ≡ Some d → learned e b ≡ Some d
  learned_is [] all d is = absurd cc
  learned_is (records.Ended c x ∷ rs) all d is = by (same c b) refl is (λ later. learned_is rs all.1 d later)
    where
      by : (q : Bool) → same c b ≡ q → (if q then Some x else learned_as rs b) ≡ Some d → (learned_as rs b ≡ Some d → learned e b ≡ Some d) → learned e b ≡ Some d
      by true here is later = subst (λ z. learned e z ≡ Some d) (equal_from_same c b here) (all.0.1 ∙ is)
      by false here is later = later is
  learned_is (records.Met c x mixed ∷ rs) all d is = by (same c b) refl is (λ later. learned_is rs all.1 d later)
    where
      by : (q : Bool) → same c b ≡ q → (if q then Some x else learned_as rs b) ≡ Some d → (learned_as rs b ≡ Some d → learned e b ≡ Some d) → learned e b ≡ Some d
      by true here is later = subst (λ z. learned e z ≡ Some d) (equal_from_same c b here) (all.0.1 ∙ is)
      by false here is later = later is
  learned_is (_ ∷ rs) all d is = learned_is rs all.1 d is

uncommitted : (b : BranchId) (rs : List RedoRecord) → learned_as rs b ≡ None → committed_at rs b ≡ None
uncommitted b [] none = refl
uncommitted b (records.Ended c (decisions.Commit m) ∷ rs) none = by (same c b) none (λ later. uncommitted b rs later)
  where
    by : (q : Bool) → (if q then Some (decisions.Commit m) else learned_as rs b) ≡ None → (learned_as rs b ≡ None → committed_at rs b ≡ None) → (if q then Some m else committed_at rs b) ≡ None
    by true none later = absurd cc
    by false none later = later none
uncommitted b (records.Ended c decisions.Rollback ∷ rs) none = by (same c b) none (λ later. uncommitted b rs later)
  where
    by : (q : Bool) → (if q then Some decisions.Rollback else learned_as rs b) ≡ None → (learned_as rs b ≡ None → committed_at rs b ≡ None) → committed_at rs b ≡ None
    by true none later = absurd cc
    by false none later = later none
uncommitted b (records.Met c d mixed ∷ rs) none = by (same c b) none (λ later. uncommitted b rs later)
  where
    by : (q : Bool) → (if q then Some d else learned_as rs b) ≡ None → (learned_as rs b ≡ None → committed_at rs b ≡ None) → committed_at rs b ≡ None
    by true none later = absurd cc
    by false none later = later none
uncommitted b (_ ∷ rs) none = uncommitted b rs none

-- a branch that ended with a commit learned it
pub commit_learned : (e : List Event) (b : BranchId) (rs : List RedoRecord) → AllByRecursion (Stood e) rs → (n : ℕ) → committed_at rs b ≡ Some n → learned_as rs b ≡ Some (decisions.Commit n)
commit_learned e b rs all n is = by (learned_as rs b) refl
  where
    by : (o : Option Decision) → learned_as rs b ≡ o → o ≡ Some (decisions.Commit n)
    by None none = (let no = uncommitted b rs none in absurd (cc (is, no)))
    by (Some d) some = (let one = learned_is e b rs all d some in let two = committed_is e b rs all n is in cc (one, two))
