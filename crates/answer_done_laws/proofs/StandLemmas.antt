-- The records of a disk stay, and each comes from its turn: one that clients were told of stands at the end, and one of a statement was asked for.
use Rattle.std.proofs.Common.{◌≡◌, ℕ, zero, suc, true, true≢false, List, [], ◌∷◌, ◌++◌, map, length, slice_get, unwrap_or, IfSome, Option, Some, None, inl, inr, refl, sym, ap, subst, arith}
use Rattle.std.specs.Prelude.{◌⊎◌}
use Rattle.std.specs.Option.{option_to_list}
use Rattle.std.specs.List.{AllByRecursion}
use Rattle.tran_ids.proofs.NumberedLemmas.{set_or_before, set_found}
use Rattle.node_rules.specs.Data.{RedoRecord, Place}
use Rattle.node_rules.specs.Data.records
use Rattle.node_rules.specs.NodeState.{NodeState}
use Rattle.node_rules.specs.Words.{numbered, set_numbered}
use Rattle.run_rules.specs.Data.{Turn, Happening, Command}
use Rattle.run_rules.specs.Data.happenings
use Rattle.run_rules.specs.Facts.{Facts, first_facts, facts_after, facts_of, flat, node_at, records_at}
use Rattle.run_rules.specs.Lawful.{IsLawful, MayHappen}
use Rattle.run_base_laws.specs.NodeLaws.{EachFactFrom}
use Rattle.run_base_laws.proofs.LawfulLemmas.{turn_of_node}
use Rattle.run_rules.proofs.ListLemmas.{all_append}
use Rattle.run_base_laws.proofs.NodeLemmas.{Keeps, keeps_alone, AllStand, all_stand_on, first_all}
use Rattle.answer_done_laws.specs.DoneLaws.{IsAsked}
use Rattle.run_claims.specs.Recorded.{is_of_statement}
use Rattle.answer_done_laws.specs.StandLaws.{StaysIn, DoneStays, SomeFactFrom, IsWrittenBy, ComesFromItsCall, RecordsComeFromCalls}
use Rattle.run_claims.specs.Recorded.{IsOneOf}
use Rattle.answer_done_laws.proofs.DoneLemmas.{stands, asked}

-- ---- lists

one_left : (xs ys : List RedoRecord) (r : RedoRecord) → IsOneOf xs r → IsOneOf (xs ++ ys) r
one_left [] ys r there = absurd there
one_left (x ∷ xs) ys r (inl here) = inl here
one_left (x ∷ xs) ys r (inr there) = inr (one_left xs ys r there)

one_last : (xs : List RedoRecord) (r : RedoRecord) → IsOneOf (xs ++ r ∷ []) r
one_last [] r = inl refl
one_last (x ∷ xs) r = inr (one_last xs r)

-- two lists of one length have the same places
module _ {A B : Type 0} where
  place_too : (xs : List A) (ys : List B) (i : ℕ) (x : A) → length xs ≡ length ys → slice_get xs i ≡ Some x → (y : B) × (slice_get ys i ≡ Some y)
  place_too [] ys i x even is = absurd cc
  place_too (z ∷ xs) [] i x even is = absurd cc
  place_too (z ∷ xs) (y ∷ ys) zero x even is = (y, refl)
  place_too (z ∷ xs) (y ∷ ys) (suc i) x even is = place_too xs ys i x (omega (arith, even)) is

  number_too : (xs : List A) (ys : List B) (n : ℕ) (x : A) → length xs ≡ length ys → numbered xs n ≡ Some x → (y : B) × (numbered ys n ≡ Some y)
  number_too xs ys zero x even is = absurd cc
  number_too xs ys (suc i) x even is = place_too xs ys i x even is

-- a disk that is set, or another
set_so : (xs : List (List RedoRecord)) (m n : ℕ) (rs : List RedoRecord) (P : List RedoRecord → Type 0) → P (unwrap_or (numbered xs n) []) → (m ≡ n → P rs) → P (unwrap_or (numbered (set_numbered xs m rs) n) [])
set_so xs m n rs P same new = at (set_or_before xs m n rs)
  where
    at : (numbered (set_numbered xs m rs) n ≡ numbered xs n) ⊎ ((m ≡ n) × (numbered (set_numbered xs m rs) n ≡ Some rs)) → P (unwrap_or (numbered (set_numbered xs m rs) n) [])
    at (inl still) = subst (λ o. P (unwrap_or o [])) (sym still) same
    at (inr now) = subst (λ o. P (unwrap_or o [])) (sym now.1) (new now.0)

-- ---- disks

-- nothing is asked of nodes but that each has a disk
every : Keeps (λ p rs. Unit {0}) (λ p rs k. Unit {0})
every = keeps_alone (record { starts = λ s vs. tt; hears = λ k scn now. tt; steps = λ p input k d step now. tt })

abbrev Disks : List Place → Facts → Type 0
Disks places f = AllStand (λ p rs. Unit {0}) (λ p rs k. Unit {0}) every places f

up_node : (o : Option (Option NodeState)) (k : NodeState) → flat o ≡ Some k → o ≡ Some (Some k)
up_node None k is = absurd cc
up_node (Some x) k is = ap Some is

module _ (places : List Place) (asked_of : List Command) where
  -- a record on a disk stays there
  stays_after : (f : Facts) (h : Happening) (n : ℕ) (r : RedoRecord) → IsOneOf (records_at f n) r → IsOneOf (records_at (facts_after places asked_of f h) n) r
  unfolding facts_after
  stays_after f (happenings.Turn u) n r there =
      set_so f.records u.node n (records_at f u.node ++ option_to_list u.wrote) (λ rs. IsOneOf rs r) there
      (λ here. one_left (records_at f u.node) (option_to_list u.wrote) r (subst (λ i. IsOneOf (records_at f i) r) (sym here) there))
  stays_after f (happenings.Started m boot) n r there =
      set_so f.records m n (records_at f m ++ records.Boot boot ∷ []) (λ rs. IsOneOf rs r) there
      (λ here. one_left (records_at f m) (records.Boot boot ∷ []) r (subst (λ i. IsOneOf (records_at f i) r) (sym here) there))
  stays_after f _ n r there = there

  stays : (f : Facts) (hs : List Happening) (n : ℕ) (r : RedoRecord) → IsOneOf (records_at f n) r → IsOneOf (records_at (facts_of places asked_of f hs) n) r
  unfolding facts_of
  stays f [] n r there = there
  stays f (h ∷ hs) n r there = stays (facts_after places asked_of f h) hs n r (stays_after f h n r there)

  -- what a turn writes is there after it
  writes_there : (f : Facts) (u : Turn) (k : NodeState) (r : RedoRecord) → Disks places f → node_at f u.node ≡ Some k → u.wrote ≡ Some r → IsOneOf (records_at (facts_after places asked_of f (happenings.Turn u)) u.node) r
  unfolding facts_after
  writes_there f u k r disks up wrote =
      let disk = number_too f.nodes f.records u.node (Some k) disks.even (up_node (numbered f.nodes u.node) k up) in
      subst (λ o. IsOneOf (unwrap_or o []) r) (sym (set_found f.records u.node disk.0 (records_at f u.node ++ option_to_list u.wrote) disk.1))
      (subst (λ w. IsOneOf (records_at f u.node ++ option_to_list w) r) (sym wrote) (one_last (records_at f u.node) r))

  done_stays_from : (f : Facts) (hs : List Happening) → Disks places f → IsLawful places asked_of f hs
      → EachFactFrom (StaysIn (records_at (facts_of places asked_of f hs)) places) places asked_of f hs
  unfolding facts_of IsLawful
  done_stays_from f [] disks lawful = tt
  done_stays_from f (h ∷ hs) disks lawful =
      (at h lawful.0 refl, done_stays_from (facts_after places asked_of f h) hs (all_stand_on (λ p rs. Unit {0}) (λ p rs k. Unit {0}) every places asked_of f h disks lawful.0) lawful.1)
    where
      at : (g : Happening) → MayHappen places asked_of f g → h ≡ g → StaysIn (records_at (facts_of places asked_of f (h ∷ hs))) places f g
      at (happenings.Turn u) may is = λ k up n s call one done.
          (let x = stands places f u k (turn_of_node places f u k asked_of may up) n s call one done in
          (x.written, x.stands, stays (facts_after places asked_of f h) hs u.node x.written (subst (λ g. IsOneOf (records_at (facts_after places asked_of f g) u.node) x.written) (sym is) (writes_there f u k x.written disks up x.stands))))
      at _ may is = tt

  -- ---- where a record comes from

  module _ (n : ℕ) (Q : RedoRecord → Type 0) where
    abbrev Source : Facts → List Happening → RedoRecord → Type 0
    Source f hs r = is_of_statement r ≡ true → SomeFactFrom (IsWrittenBy places n r) places asked_of f hs

    -- what a turn writes
    more : (f : Facts) (u : Turn) (hs : List Happening) → MayHappen places asked_of f (happenings.Turn u) → u.node ≡ n → ((r : RedoRecord) → Source f (happenings.Turn u ∷ hs) r → Q r)
        → (o : Option RedoRecord) → u.wrote ≡ o → AllByRecursion Q (option_to_list o)
    more f u hs may here new None wrote = tt
    more f u hs may here new (Some r) wrote =
        (let asks : is_of_statement r ≡ true → IsAsked places f u may.0 r = subst (λ w. IfSome w (λ x. is_of_statement x ≡ true → IsAsked places f u may.0 x)) wrote (asked places f u may.0 may.1) in
        (new r (λ one. inl (here, wrote, may.0, may.1.up, asks one)), tt))

    grows : (f : Facts) (h : Happening) (hs : List Happening) → MayHappen places asked_of f h → AllByRecursion Q (records_at f n) → ((r : RedoRecord) → Source f (h ∷ hs) r → Q r)
        → AllByRecursion Q (records_at (facts_after places asked_of f h) n)
    unfolding facts_after
    grows f (happenings.Turn u) hs may now new =
        set_so f.records u.node n (records_at f u.node ++ option_to_list u.wrote) (AllByRecursion Q) now
        (λ here. all_append Q (records_at f u.node) (option_to_list u.wrote) (subst (λ i. AllByRecursion Q (records_at f i)) (sym here) now) (more f u hs may here new u.wrote refl))
    grows f (happenings.Started m boot) hs may now new =
        set_so f.records m n (records_at f m ++ records.Boot boot ∷ []) (AllByRecursion Q) now
        (λ here. all_append Q (records_at f m) (records.Boot boot ∷ []) (subst (λ i. AllByRecursion Q (records_at f i)) (sym here) now) (new (records.Boot boot) (λ one. absurd (true≢false (sym one))), tt))
    grows f _ hs may now new = now

    come_from : (f : Facts) (hs : List Happening) → IsLawful places asked_of f hs → AllByRecursion Q (records_at f n) → ((r : RedoRecord) → Source f hs r → Q r) → AllByRecursion Q (records_at (facts_of places asked_of f hs) n)
    unfolding facts_of IsLawful
    come_from f [] lawful now new = now
    come_from f (h ∷ hs) lawful now new = come_from (facts_after places asked_of f h) hs lawful.1 (grows f h hs lawful.0 now new) (λ r source. new r (λ one. inr (source one)))

-- a node that has just been made has its Boot alone
first_so : (ps : List Place) (n : ℕ) (Q : RedoRecord → Type 0) → Q (records.Boot 1) → AllByRecursion Q (unwrap_or (numbered (map (λ p. records.Boot 1 ∷ []) ps) n) [])
first_so ps zero Q boot = tt
first_so [] (suc i) Q boot = tt
first_so (p ∷ ps) (suc zero) Q boot = (boot, tt)
first_so (p ∷ ps) (suc (suc i)) Q boot = first_so ps (suc i) Q boot

-- ---- every run

pub done_stays : DoneStays
done_stays t lawful = done_stays_from t.places t.commands (first_facts t.places) t.trace (first_all (λ p rs. Unit {0}) (λ p rs k. Unit {0}) every t.places) lawful

pub records_come_from_calls : RecordsComeFromCalls
records_come_from_calls t lawful n =
    come_from t.places t.commands n (ComesFromItsCall t n) (first_facts t.places) t.trace lawful (first_so t.places n (ComesFromItsCall t n) (λ one. absurd (true≢false (sym one)))) (λ r source. source)
