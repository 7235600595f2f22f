-- What becomes of the calls of a branch: the last one is the greatest that came, and its Reply is kept.
use Rattle.std.proofs.Common.{◌≡◌, ℕ, zero, ◌+◌, ◌<◌, ◌≤◌, Bool, true, false, if◌then◌else◌, List, [], ◌∷◌, ◌++◌, fold, Option, Some, None, refl, ap, ◌∙◌, sym, subst, arith}
use Rattle.std.proofs.lemmas.Bool.Decides.{nat_tests}
use Rattle.std.proofs.lemmas.Bool.{cond_both}
use Rattle.std.specs.Prelude.{◌==◌, ◌&&◌, nat_lt, is_some}
use Rattle.std.specs.List.{AllByRecursion}
use Rattle.link_session.specs.declared.reply.ReplyFields.{ReplyFields}
use Rattle.link_session.specs.declared.calls.Calls.{Calls}
use Rattle.link_session.specs.declared.calls.Admit.{Admit}
use Rattle.link_session.specs.declared.calls.Admit.TheVariants as admits
use Rattle.link_session.specs.Calls.{no_calls, admit, taken, admitted_as, admitted, with_reply}
use Rattle.link_session.specs.Once.{Coming, Delivered, Answered, after_one, after, numbers, runs, IsRising, AllBelow, NoneAbove, IsDelivery, RunOnce, CallsRunOnce, IsAnswered, RepeatsAreAnswered}

-- ---- one call

module _ (c : Calls) (n : ℕ) where
  -- a number above the last one is run
  pub new_runs : c.last_call < n → admit c n ≡ admits.Run
  unfolding admit
  new_runs above = let lt : nat_lt c.last_call n ≡ true = grind (arith, nat_tests, above) in rw lt refl

  old_by : (again : Bool) → (if again then admits.Again else admits.Ignore) ≡ admits.Run → ⊥
  old_by true is = cc
  old_by false is = cc

  run_if : (new : Bool) → nat_lt c.last_call n ≡ new → (if new then admits.Run else (if (n == c.last_call) && is_some c.reply then admits.Again else admits.Ignore)) ≡ admits.Run → c.last_call < n
  run_if true new is = grind (arith, nat_tests, new)
  run_if false new is = absurd (old_by ((n == c.last_call) && is_some c.reply) is)

  -- and no other
  pub run_is_new : admit c n ≡ admits.Run → c.last_call < n
  unfolding admit
  run_is_new is = run_if (nat_lt c.last_call n) refl is

  pub lower_ignored : n < c.last_call → admit c n ≡ admits.Ignore
  unfolding admit
  lower_ignored below =
      let old : nat_lt c.last_call n ≡ false = grind (arith, nat_tests, below) in
      let other : (n == c.last_call) ≡ false = grind (arith, nat_tests, below) in
      rw (old, other) refl

  admitted_by : (new again : Bool) → admitted_as c n (if new then admits.Run else (if again then admits.Again else admits.Ignore)) ≡ (if new then taken n else c)
  admitted_by true again = refl
  admitted_by false true = refl
  admitted_by false false = refl

  -- a number above the last one is taken, any other changes nothing
  pub admitted_is : admitted c n ≡ (if nat_lt c.last_call n then taken n else c)
  unfolding admit
  admitted_is = admitted_by (nat_lt c.last_call n) ((n == c.last_call) && is_some c.reply)

  pub new_taken : c.last_call < n → admitted c n ≡ taken n
  new_taken above = let new : nat_lt c.last_call n ≡ true = grind (arith, nat_tests, above) in admitted_is ∙ ap (λ b. if b then taken n else c) new

  pub old_stays : n ≤ c.last_call → admitted c n ≡ c
  old_stays below = let old : nat_lt c.last_call n ≡ false = grind (arith, nat_tests, below) in admitted_is ∙ ap (λ b. if b then taken n else c) old

-- the last call, before it is answered and behind
pub last_waits : (n : ℕ) → admit (taken n) n ≡ admits.Ignore
unfolding admit
last_waits n = let old : nat_lt n n ≡ false = grind (arith, nat_tests) in let same : (n == n) ≡ true = grind (arith, nat_tests) in rw (old, same) refl

pub last_again : (n : ℕ) (r : ReplyFields) → admit (with_reply (taken n) r) n ≡ admits.Again
unfolding admit
last_again n r = let old : nat_lt n n ≡ false = grind (arith, nat_tests) in let same : (n == n) ≡ true = grind (arith, nat_tests) in rw (old, same) refl

-- ---- lists of calls

after_append : (c : Calls) (xs ys : List Coming) → after c (xs ++ ys) ≡ after (after c xs) ys
after_append c [] ys = refl
after_append c (x ∷ xs) ys = after_append (after_one c x) xs ys

-- ---- which calls are run

rising_if : (c : Calls) (n : ℕ) (xs : List Coming) (new : Bool) → nat_lt c.last_call n ≡ new → ((d : Calls) → IsRising d.last_call (runs d xs))
    → IsRising c.last_call (if new then n ∷ runs (if new then taken n else c) xs else runs (if new then taken n else c) xs)
rising_if c n xs true new rest = (grind (arith, nat_tests, new), rest (taken n))
rising_if c n xs false new rest = rest c

-- the numbers that are run rise
rising : (xs : List Coming) (c : Calls) → IsRising c.last_call (runs c xs)
rising [] c = tt
rising (Delivered n ∷ xs) c =
    subst (λ d. IsRising c.last_call (if nat_lt c.last_call n then n ∷ runs d xs else runs d xs)) (sym (admitted_is c n)) (rising_if c n xs (nat_lt c.last_call n) refl (rising xs))
rising (Answered r ∷ xs) c = rising xs (with_reply c r)

below_if : (c : Calls) (m n : ℕ) (new : Bool) → c.last_call < n → m < n → (if new then taken m else c).last_call < n
below_if c m n true low lt = lt
below_if c m n false low lt = low

-- where all that came is below a number, so is the last call
last_below : (xs : List Coming) (c : Calls) (n : ℕ) → c.last_call < n → AllBelow n (numbers xs) → (after c xs).last_call < n
last_below [] c n low all = low
last_below (Delivered m ∷ xs) c n low all =
    last_below xs (admitted c m) n (subst (λ d. d.last_call < n) (sym (admitted_is c m)) (below_if c m n (nat_lt c.last_call m) low all.0)) all.1
last_below (Answered r ∷ xs) c n low all = last_below xs (with_reply c r) n low all

grows_if : (c : Calls) (m : ℕ) (new : Bool) → nat_lt c.last_call m ≡ new → (c.last_call ≤ (if new then taken m else c).last_call) × (m ≤ (if new then taken m else c).last_call)
grows_if c m true new = (grind (arith, nat_tests, new), omega arith)
grows_if c m false new = (omega arith, grind (arith, nat_tests, new))

grows : (c : Calls) (m : ℕ) → (c.last_call ≤ (admitted c m).last_call) × (m ≤ (admitted c m).last_call)
grows c m = subst (λ d. (c.last_call ≤ d.last_call) × (m ≤ d.last_call)) (sym (admitted_is c m)) (grows_if c m (nat_lt c.last_call m) refl)

-- and the other way round
all_below : (xs : List Coming) (c : Calls) (n : ℕ) → (after c xs).last_call < n → (c.last_call < n) × AllBelow n (numbers xs)
all_below [] c n low = (low, tt)
all_below (Delivered m ∷ xs) c n low =
    let rest = all_below xs (admitted c m) n low in
    let step = grows c m in
    (omega (arith, rest.0, step.0), (omega (arith, rest.0, step.1), rest.1))
all_below (Answered r ∷ xs) c n low = all_below xs (with_reply c r) n low

-- however often calls are delivered, each is run once, and in order
pub run_once : CallsRunOnce
run_once xs = record {
  rising = rising xs no_calls;
  new = λ call above all. new_runs (after no_calls xs) call (last_below xs no_calls call above all);
  run = λ call is. (all_below xs no_calls call (run_is_new (after no_calls xs) call is)).1;
}

-- ---- calls that come again

-- calls that are not above the last one change nothing
stays : (xs : List Coming) (c : Calls) → AllByRecursion IsDelivery xs → NoneAbove c.last_call (numbers xs) → after c xs ≡ c
stays [] c calls low = refl
stays (Delivered m ∷ xs) c calls low = ap (λ d. after d xs) (old_stays c m low.0) ∙ stays xs c calls.1 low.1
stays (Answered r ∷ xs) c calls low = absurd calls.0

module _ (before between behind : List Coming) (call : ℕ) (reply : ReplyFields) (above : 0 < call) (first : AllBelow call (numbers before)) (calls : AllByRecursion IsDelivery between)
    (low : NoneAbove call (numbers between)) (more : AllByRecursion IsDelivery behind) (lower : NoneAbove call (numbers behind)) where
  is_run : admit (after no_calls before) call ≡ admits.Run
  is_run = new_runs (after no_calls before) call (last_below before no_calls call above first)

  -- the call is the last one, and waits
  waits_as : after no_calls (before ++ (Delivered call ∷ between)) ≡ taken call
  waits_as =
      after_append no_calls before (Delivered call ∷ between)
      ∙ ap (λ d. after d between) (new_taken (after no_calls before) call (last_below before no_calls call above first))
      ∙ stays between (taken call) calls low

  -- and stays so once it is answered
  answered_as : after no_calls (before ++ (Delivered call ∷ between) ++ (Answered reply ∷ behind)) ≡ with_reply (taken call) reply
  answered_as =
      after_append no_calls (before ++ (Delivered call ∷ between)) (Answered reply ∷ behind)
      ∙ ap (λ d. after (with_reply d reply) behind) waits_as
      ∙ stays behind (with_reply (taken call) reply) more lower

  answered : IsAnswered before between behind call reply
  answered = record {
    run = is_run;
    waits = ap (λ d. admit d call) waits_as ∙ last_waits call;
    again = ap (λ d. admit d call) answered_as ∙ last_again call reply;
    kept = ap (λ d. d.reply) answered_as;
    lower = λ m lt. ap (λ d. admit d m) answered_as ∙ lower_ignored (with_reply (taken call) reply) m lt;
  }

-- the last call gets the Reply that was kept of it, whatever comes again
pub are_answered : RepeatsAreAnswered
are_answered before between behind call reply above first calls low more lower = answered before between behind call reply above first calls low more lower
