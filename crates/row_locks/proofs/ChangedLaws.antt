-- Locks that are changed, or in doubt from now on: they stay on their keys under their numbers.
use Rattle.std.proofs.Common.{◌≡◌, ℕ, ◌+◌, ◌<◌, suc, Bool, true, false, cond, not, List, [], ◌∷◌, filter, find, length, Some, Option, refl, sym, ap, subst, ◌∙◌, arith, true≢false}
use Rattle.std.specs.List.{AllByRecursion, IsDistinct}
use Rattle.std.specs.Map.{lookup}
use Rattle.std.specs.Option.{option_map}
use Rattle.dtx_values.specs.declared.value.Value.{Value}
use Rattle.row_locks.specs.declared.held_key.HeldKey.{HeldKey}
use Rattle.row_locks.specs.Locks.{Lock, is_lock_on, are_on_one_key, AreOnDistinctKeys}
use Rattle.row_locks.specs.Numbered.{Numbered, lock_of, locks_in, is_on, is_number, is_among, number_on, doubtful, is_live_one, changed_at, HasNone, HaveOwnNumbers}
use Rattle.row_locks.proofs.NumberLaws.{number_is, none_changed, among_one}
use Rattle.row_locks.proofs.LessLaws.{at_first, behind, doubts, doubts_first}

-- ---- locks that are in doubt from now on

module _ (n : ℕ) where
  not_false : (b : Bool) → not b ≡ false → b ≡ true
  not_false true h = refl
  not_false false h = absurd (true≢false h)

  doubt_here : (e : Numbered) → e.1.in_doubt ≡ true → (e.0, doubtful e.1) ≡ e
  doubt_here e is = λ i. (e.0, record e.1 { in_doubt = sym is i })

  -- a lock that is in doubt, or is not there
  pub doubted_before : (es : List Numbered) → HaveOwnNumbers es → is_live_one (lookup (is_number n) es) ≡ false → changed_at doubtful (n ∷ []) es ≡ es
  doubted_before [] own dead = refl
  doubted_before (e ∷ es) own dead = by (is_number n e.0) refl dead (doubted_before es own.1)
    where
      by : (b : Bool) → is_number n e.0 ≡ b → is_live_one (cond b (Some e.1) (lookup (is_number n) es)) ≡ false
          → (is_live_one (lookup (is_number n) es) ≡ false → changed_at doubtful (n ∷ []) es ≡ es) → changed_at doubtful (n ∷ []) (e ∷ es) ≡ e ∷ es
      by true is h rest =
          (λ i. cond ((among_one n e.0 ∙ is) i) (e.0, doubtful e.1) e ∷ changed_at doubtful (n ∷ []) es)
          ∙ (λ i. doubt_here e (not_false e.1.in_doubt h) i ∷ none_changed doubtful n es (subst (λ k. HasNone k es) (sym (number_is n e.0 is)) own.0) i)
      by false is h rest = (λ i. cond ((among_one n e.0 ∙ is) i) (e.0, doubtful e.1) e ∷ rest h i)

  pub doubts_more : (h : HeldKey) (es : List Numbered) → HaveOwnNumbers es → lookup (is_number n) es ≡ Some h → h.in_doubt ≡ false
      → length (filter (λ e. e.1.in_doubt) (changed_at doubtful (n ∷ []) es)) ≡ length (filter (λ e. e.1.in_doubt) es) + 1
  doubts_more h [] own there live = absurd cc
  doubts_more h (e ∷ es) own there live = by (is_number n e.0) refl (λ more. doubts_more h es own.1 more live)
    where
      by : (b : Bool) → is_number n e.0 ≡ b
          → (lookup (is_number n) es ≡ Some h → length (filter (λ x. x.1.in_doubt) (changed_at doubtful (n ∷ []) es)) ≡ length (filter (λ x. x.1.in_doubt) es) + 1)
          → length (filter (λ x. x.1.in_doubt) (changed_at doubtful (n ∷ []) (e ∷ es))) ≡ length (filter (λ x. x.1.in_doubt) (e ∷ es)) + 1
      by true is more =
          let here = at_first n h (is_number n e.0) e (lookup (is_number n) es) there is in
          let off : e.1.in_doubt ≡ false = ap (λ (x : HeldKey). x.in_doubt) here ∙ live in
          let one : doubts n h (changed_at doubtful (n ∷ []) (e ∷ es)) ≡ suc (doubts n h es) =
          (λ i. doubts n h (cond ((among_one n e.0 ∙ is) i) (e.0, doubtful e.1) e ∷ none_changed doubtful n es (subst (λ k. HasNone k es) (sym (number_is n e.0 is)) own.0) i)) in
          let none : doubts n h (e ∷ es) ≡ doubts n h es = ap (λ b. length (cond b (e ∷ filter (λ x. x.1.in_doubt) es) (filter (λ x. x.1.in_doubt) es))) off in
          omega arith
      by false is more =
          let rest = more (behind n h (is_number n e.0) e (lookup (is_number n) es) there is) in
          let now : doubts n h (changed_at doubtful (n ∷ []) (e ∷ es)) ≡ doubts n h (e ∷ changed_at doubtful (n ∷ []) es) =
          ap (λ b. doubts n h (cond b (e.0, doubtful e.1) e ∷ changed_at doubtful (n ∷ []) es)) (among_one n e.0 ∙ is) in
          let first = doubts_first n h e es in
          let then = doubts_first n h e (changed_at doubtful (n ∷ []) es) in
          omega arith

-- ---- locks that are changed

module _ (f : HeldKey → HeldKey) (ns : List ℕ) (stays : (h : HeldKey) (table : List ℕ) (key : Value) → is_lock_on table key (lock_of (f h)) ≡ is_lock_on table key (lock_of h))
    (alike : (h : HeldKey) (l : Lock) → are_on_one_key l (lock_of (f h)) ≡ are_on_one_key l (lock_of h)) where
  now : Numbered → Numbered
  now e = cond (is_among ns e.0) (e.0, f e.1) e

  on_now : (b : Bool) (e : Numbered) (table : List ℕ) (key : Value) → is_on table key (cond b (e.0, f e.1) e) ≡ is_on table key e
  on_now true e table key = stays e.1 table key
  on_now false e table key = refl

  number_now : (b : Bool) (e : Numbered) → (cond b (e.0, f e.1) e).0 ≡ e.0
  number_now true e = refl
  number_now false e = refl

  alike_now : (b : Bool) (e : Numbered) (l : Lock) → are_on_one_key l (lock_of (cond b (e.0, f e.1) e).1) ≡ are_on_one_key l (lock_of e.1)
  alike_now true e l = alike e.1 l
  alike_now false e l = refl

  same_step : (hit : Bool) (x e : Numbered) (more rest : Option Numbered) → x.0 ≡ e.0 → option_map (λ y. y.0) more ≡ option_map (λ y. y.0) rest
      → option_map (λ y. y.0) (cond hit (Some x) more) ≡ option_map (λ y. y.0) (cond hit (Some e) rest)
  same_step true x e more rest is later = ap Some is
  same_step false x e more rest is later = later

  pub number_changed : (es : List Numbered) (table : List ℕ) (key : Value) → number_on (changed_at f ns es) table key ≡ number_on es table key
  number_changed [] table key = refl
  number_changed (e ∷ es) table key =
      let b = is_among ns e.0 in
      let x : Numbered = cond b (e.0, f e.1) e in
      ap (λ hit. option_map (λ y. y.0) (cond hit (Some x) (find (is_on table key) (changed_at f ns es)))) (on_now b e table key)
      ∙ same_step (is_on table key e) x e (find (is_on table key) (changed_at f ns es)) (find (is_on table key) es) (number_now b e) (number_changed es table key)

  apart_now : (l m : Lock) (es : List Numbered) → ((x : Lock) → are_on_one_key l x ≡ are_on_one_key m x) → AllByRecursion (λ x. are_on_one_key m x ≡ false) (locks_in es)
      → AllByRecursion (λ x. are_on_one_key l x ≡ false) (locks_in (changed_at f ns es))
  apart_now l m [] same all = tt
  apart_now l m (e ∷ es) same all = (alike_now (is_among ns e.0) e l ∙ same (lock_of e.1) ∙ all.0, apart_now l m es same all.1)

  pub distinct_changed : (es : List Numbered) → AreOnDistinctKeys (locks_in es) → AreOnDistinctKeys (locks_in (changed_at f ns es))
  unfolding IsDistinct
  distinct_changed [] apart = tt
  distinct_changed (e ∷ es) apart =
      let b = is_among ns e.0 in
      (apart_now (lock_of (cond b (e.0, f e.1) e).1) (lock_of e.1) es (λ x. on_now b e x.table x.key) apart.0, distinct_changed es apart.1)

  pub below_changed : (next : ℕ) (es : List Numbered) → AllByRecursion (λ e. e.0 < next) es → AllByRecursion (λ e. e.0 < next) (changed_at f ns es)
  below_changed next [] all = tt
  below_changed next (e ∷ es) all = (subst (λ k. k < next) (sym (number_now (is_among ns e.0) e)) all.0, below_changed next es all.1)

-- a change that puts nobody in doubt
module _ (f : HeldKey → HeldKey) (ns : List ℕ) (keeps : (h : HeldKey) → (f h).in_doubt ≡ h.in_doubt) where
  doubt_now : (b : Bool) (e : Numbered) → (cond b (e.0, f e.1) e).1.in_doubt ≡ e.1.in_doubt
  doubt_now true e = keeps e.1
  doubt_now false e = refl

  pub doubts_changed : (es : List Numbered) → length (filter (λ e. e.1.in_doubt) (changed_at f ns es)) ≡ length (filter (λ e. e.1.in_doubt) es)
  doubts_changed [] = refl
  doubts_changed (e ∷ es) =
      let x : Numbered = cond (is_among ns e.0) (e.0, f e.1) e in
      ap (λ b. length (cond b (x ∷ filter (λ y. y.1.in_doubt) (changed_at f ns es)) (filter (λ y. y.1.in_doubt) (changed_at f ns es)))) (doubt_now (is_among ns e.0) e)
      ∙ by x e.1.in_doubt (doubts_changed es)
    where
      by : (x : Numbered) (b : Bool) → length (filter (λ y. y.1.in_doubt) (changed_at f ns es)) ≡ length (filter (λ y. y.1.in_doubt) es) → length (cond b (x ∷ filter (λ y. y.1.in_doubt) (changed_at f ns es)) (filter (λ y. y.1.in_doubt) (changed_at f ns es)))
          ≡ length (cond b (e ∷ filter (λ y. y.1.in_doubt) es) (filter (λ y. y.1.in_doubt) es))
      by x true rest = ap (λ m. suc m) rest
      by x false rest = rest
