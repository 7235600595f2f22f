-- One lock less: distinct keys, and how many locks are in doubt.
use Rattle.std.proofs.Common.{◌≡◌, ℕ, ◌+◌, ◌<◌, ◌≤◌, suc, Bool, true, false, cond, not, List, [], ◌∷◌, filter, find, length, None, Some, Option, refl, sym, ap, subst, ◌∙◌, arith, true≢false}
use Rattle.std.specs.List.{AllByRecursion, IsDistinct}
use Rattle.std.specs.Map.{lookup}
use Rattle.std.specs.Option.{option_map}
use Rattle.dtx_values.specs.declared.value.Value.{Value}
use Rattle.row_locks.specs.declared.held_key.HeldKey.{HeldKey}
use Rattle.row_locks.specs.Locks.{Lock, is_lock_on, are_on_one_key, AreOnDistinctKeys}
use Rattle.row_locks.specs.Numbered.{Numbered, lock_of, locks_in, is_on, is_number, number_on, without_numbers, HasNone, HaveOwnNumbers}
use Rattle.row_locks.proofs.NumberLaws.{number_is, none_dropped, among_one}
use Rattle.row_locks.proofs.FindLaws.{on_as}

-- one where a test holds
abbrev pub one_if : Bool → ℕ
one_if true = 1
one_if false = 0

module _ (test : Numbered → Bool) where
  apart_less : (l : Lock) (es : List Numbered) → AllByRecursion (λ x. are_on_one_key l x ≡ false) (locks_in es) → AllByRecursion (λ x. are_on_one_key l x ≡ false) (locks_in (filter test es))
  apart_less l [] all = tt
  apart_less l (e ∷ es) all = by (test e) (apart_less l es all.1)
    where
      by : (b : Bool) → AllByRecursion (λ x. are_on_one_key l x ≡ false) (locks_in (filter test es)) → AllByRecursion (λ x. are_on_one_key l x ≡ false) (locks_in (cond b (e ∷ filter test es) (filter test es)))
      by true rest = (all.0, rest)
      by false rest = rest

  distinct_step : (e : Numbered) (b : Bool) (es : List Numbered) → AllByRecursion (λ x. are_on_one_key (lock_of e.1) x ≡ false) (locks_in (filter test es)) → AreOnDistinctKeys (locks_in (filter test es))
      → AreOnDistinctKeys (locks_in (cond b (e ∷ filter test es) (filter test es)))
  unfolding IsDistinct
  distinct_step e true es first rest = (first, rest)
  distinct_step e false es first rest = rest

  pub distinct_less : (es : List Numbered) → AreOnDistinctKeys (locks_in es) → AreOnDistinctKeys (locks_in (filter test es))
  unfolding IsDistinct
  distinct_less [] apart = tt
  distinct_less (e ∷ es) apart = distinct_step e (test e) es (apart_less (lock_of e.1) es apart.0) (distinct_less es apart.1)

  pub below_less : (next : ℕ) (es : List Numbered) → AllByRecursion (λ e. e.0 < next) es → AllByRecursion (λ e. e.0 < next) (filter test es)
  below_less next [] all = tt
  below_less next (e ∷ es) all = by (test e) (below_less next es all.1)
    where
      by : (b : Bool) → AllByRecursion (λ x. x.0 < next) (filter test es) → AllByRecursion (λ x. x.0 < next) (cond b (e ∷ filter test es) (filter test es))
      by true rest = (all.0, rest)
      by false rest = rest

module _ (n : ℕ) (h : HeldKey) where
  abbrev pub left : List Numbered → List Numbered
  left es = without_numbers (n ∷ []) es

  -- where a look-up finds h at n, the first lock of that number is h
  pub at_first : (b : Bool) (e : Numbered) (more : Option HeldKey) → cond b (Some e.1) more ≡ Some h → b ≡ true → e.1 ≡ h
  at_first true e more there is = cc
  at_first false e more there is = absurd (true≢false (sym is))

  pub behind : (b : Bool) (e : Numbered) (more : Option HeldKey) → cond b (Some e.1) more ≡ Some h → b ≡ false → more ≡ Some h
  behind true e more there is = absurd (true≢false is)
  behind false e more there is = there

  there_off : (l : Lock) (es : List Numbered) → lookup (is_number n) es ≡ Some h → AllByRecursion (λ x. are_on_one_key l x ≡ false) (locks_in es) → are_on_one_key l (lock_of h) ≡ false
  there_off l [] there apart = absurd cc
  there_off l (e ∷ es) there apart = by (is_number n e.0) refl (λ more. there_off l es more apart.1)
    where
      by : (b : Bool) → is_number n e.0 ≡ b → (lookup (is_number n) es ≡ Some h → are_on_one_key l (lock_of h) ≡ false) → are_on_one_key l (lock_of h) ≡ false
      by true is rest = ap (λ (x : HeldKey). are_on_one_key l (lock_of x)) (sym (at_first (is_number n e.0) e (lookup (is_number n) es) there is)) ∙ apart.0
      by false is rest = rest (behind (is_number n e.0) e (lookup (is_number n) es) there is)

  module _ (table : List ℕ) (key : Value) where
    off_behind : (x : Lock) → is_lock_on table key (lock_of h) ≡ true → are_on_one_key (lock_of h) x ≡ false → is_lock_on table key x ≡ false
    off_behind x on apart = by (is_lock_on table key x) refl
      where
        by : (b : Bool) → is_lock_on table key x ≡ b → b ≡ false
        by true too = absurd (true≢false (sym on ∙ on_as x table key too (lock_of h) ∙ apart))
        by false too = refl

    none_behind : (es : List Numbered) → is_lock_on table key (lock_of h) ≡ true → AllByRecursion (λ x. are_on_one_key (lock_of h) x ≡ false) (locks_in es) → number_on es table key ≡ None
    none_behind [] on apart = refl
    none_behind (e ∷ es) on apart =
        ap (λ b. option_map (λ x. x.0) (cond b (Some e) (find (is_on table key) es))) (off_behind (lock_of e.1) on apart.0) ∙ none_behind es on apart.1

    number_step : (e : Numbered) (b : Bool) (xs es : List Numbered) → number_on xs table key ≡ number_on es table key
        → option_map (λ x. x.0) (cond b (Some e) (find (is_on table key) xs)) ≡ option_map (λ x. x.0) (cond b (Some e) (find (is_on table key) es))
    number_step e true xs es rest = refl
    number_step e false xs es rest = rest

    less_here : (e : Numbered) (es : List Numbered) (on : Bool) → is_lock_on table key (lock_of h) ≡ on → e.1 ≡ h → n ≡ e.0 → HasNone e.0 es
        → AllByRecursion (λ x. are_on_one_key (lock_of e.1) x ≡ false) (locks_in es) → number_on (left es) table key ≡ cond on None (number_on (e ∷ es) table key)
    less_here e es true is here number none apart =
        ap (λ (xs : List Numbered). number_on xs table key) (none_dropped n es (subst (λ k. HasNone k es) (sym number) none))
        ∙ none_behind es is (subst (λ (x : HeldKey). AllByRecursion (λ y. are_on_one_key (lock_of x) y ≡ false) (locks_in es)) here apart)
    less_here e es false is here number none apart =
        ap (λ (xs : List Numbered). number_on xs table key) (none_dropped n es (subst (λ k. HasNone k es) (sym number) none))
        ∙ ap (λ b. option_map (λ x. x.0) (cond b (Some e) (find (is_on table key) es))) (sym (ap (λ (x : HeldKey). is_lock_on table key (lock_of x)) here ∙ is))

    less_behind : (e : Numbered) (es : List Numbered) (on : Bool) → is_lock_on table key (lock_of h) ≡ on → are_on_one_key (lock_of e.1) (lock_of h) ≡ false
        → number_on (left es) table key ≡ cond on None (number_on es table key) → number_on (e ∷ left es) table key ≡ cond on None (number_on (e ∷ es) table key)
    less_behind e es true is off rest =
        ap (λ b. option_map (λ x. x.0) (cond b (Some e) (find (is_on table key) (left es)))) (on_as (lock_of h) table key is (lock_of e.1) ∙ off) ∙ rest
    less_behind e es false is off rest = number_step e (is_on table key e) (left es) es rest

    pub number_less : (es : List Numbered) → HaveOwnNumbers es → AreOnDistinctKeys (locks_in es) → lookup (is_number n) es ≡ Some h
        → number_on (left es) table key ≡ cond (is_lock_on table key (lock_of h)) None (number_on es table key)
    unfolding IsDistinct
    number_less [] own apart there = absurd cc
    number_less (e ∷ es) own apart there = by (is_number n e.0) refl own.0 apart.0 (number_less es own.1 apart.1)
      where
        by : (b : Bool) → is_number n e.0 ≡ b → HasNone e.0 es → AllByRecursion (λ x. are_on_one_key (lock_of e.1) x ≡ false) (locks_in es)
            → (lookup (is_number n) es ≡ Some h → number_on (left es) table key ≡ cond (is_lock_on table key (lock_of h)) None (number_on es table key))
            → number_on (left (e ∷ es)) table key ≡ cond (is_lock_on table key (lock_of h)) None (number_on (e ∷ es) table key)
        by true is none off rest =
            ap (λ b. number_on (cond (not b) (e ∷ left es) (left es)) table key) (among_one n e.0 ∙ is)
            ∙ less_here e es (is_lock_on table key (lock_of h)) refl (at_first (is_number n e.0) e (lookup (is_number n) es) there is) (number_is n e.0 is) none off
        by false is none off rest =
            let more = behind (is_number n e.0) e (lookup (is_number n) es) there is in
            ap (λ b. number_on (cond (not b) (e ∷ left es) (left es)) table key) (among_one n e.0 ∙ is)
            ∙ less_behind e es (is_lock_on table key (lock_of h)) refl (there_off (lock_of e.1) es more off) (rest more)

  -- ---- how many are in doubt

  abbrev pub doubts : List Numbered → ℕ
  doubts es = length (filter (λ e. e.1.in_doubt) es)

  pub doubts_first : (e : Numbered) (es : List Numbered) → doubts (e ∷ es) ≡ one_if e.1.in_doubt + doubts es
  doubts_first e es = by e.1.in_doubt
    where
      by : (b : Bool) → length (cond b (e ∷ filter (λ x. x.1.in_doubt) es) (filter (λ x. x.1.in_doubt) es)) ≡ one_if b + doubts es
      by true = omega arith
      by false = omega arith

  pub doubts_less : (es : List Numbered) → HaveOwnNumbers es → lookup (is_number n) es ≡ Some h → doubts (left es) + one_if h.in_doubt ≡ doubts es
  doubts_less [] own there = absurd cc
  doubts_less (e ∷ es) own there = by (is_number n e.0) refl (doubts_less es own.1)
    where
      by : (b : Bool) → is_number n e.0 ≡ b → (lookup (is_number n) es ≡ Some h → doubts (left es) + one_if h.in_doubt ≡ doubts es) → doubts (left (e ∷ es)) + one_if h.in_doubt ≡ doubts (e ∷ es)
      by true is less =
          let here = at_first (is_number n e.0) e (lookup (is_number n) es) there is in
          let gone : doubts (left (e ∷ es)) ≡ doubts es =
          ap (λ b. doubts (cond (not b) (e ∷ left es) (left es))) (among_one n e.0 ∙ is) ∙ ap doubts (none_dropped n es (subst (λ k. HasNone k es) (sym (number_is n e.0 is)) own.0)) in
          let this : one_if e.1.in_doubt ≡ one_if h.in_doubt = ap (λ (x : HeldKey). one_if x.in_doubt) here in
          let first = doubts_first e es in
          omega arith
      by false is less =
          let rest = less (behind (is_number n e.0) e (lookup (is_number n) es) there is) in
          let stays : doubts (left (e ∷ es)) ≡ doubts (e ∷ left es) = ap (λ b. doubts (cond (not b) (e ∷ left es) (left es))) (among_one n e.0 ∙ is) in
          let first = doubts_first e es in
          let now = doubts_first e (left es) in
          omega arith

  few_doubts : (es : List Numbered) → doubts es ≤ length es
  few_doubts [] = omega arith
  few_doubts (e ∷ es) = by e.1.in_doubt (few_doubts es)
    where
      by : (b : Bool) → doubts es ≤ length es → length (cond b (e ∷ filter (λ x. x.1.in_doubt) es) (filter (λ x. x.1.in_doubt) es)) ≤ suc (length es)
      by true rest = omega arith
      by false rest = omega arith

  one_at_most : (e : Numbered) (es : List Numbered) (b : Bool) → doubts (e ∷ es) ≡ one_if b + doubts es → doubts es < length es → doubts (e ∷ es) < suc (length es)
  one_at_most e es true first rest = omega arith
  one_at_most e es false first rest = omega arith

  -- where one is not in doubt, not all are
  pub some_live : (es : List Numbered) → lookup (is_number n) es ≡ Some h → h.in_doubt ≡ false → doubts es < length es
  some_live [] there live = absurd cc
  some_live (e ∷ es) there live = by (is_number n e.0) refl (λ more. some_live es more live)
    where
      by : (b : Bool) → is_number n e.0 ≡ b → (lookup (is_number n) es ≡ Some h → doubts es < length es) → doubts (e ∷ es) < suc (length es)
      by true is less =
          let here = at_first (is_number n e.0) e (lookup (is_number n) es) there is in
          let this : one_if e.1.in_doubt ≡ 0 = ap (λ (x : HeldKey). one_if x.in_doubt) here ∙ ap one_if live in
          let first = doubts_first e es in
          let few = few_doubts es in
          omega arith
      by false is less = one_at_most e es e.1.in_doubt (doubts_first e es) (less (behind (is_number n e.0) e (lookup (is_number n) es) there is))
