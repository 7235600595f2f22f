-- What becomes of the calls that come to a branch, whatever comes again, and in whatever order.
use Rattle.std.specs.Prelude.{◌≡◌, ℕ, ◌<◌, ◌≤◌, if◌then◌else◌, nat_lt, List, [], ◌∷◌, ◌++◌, fold, flat_map, Some}
use Rattle.std.specs.List.{AllByRecursion}
use Rattle.link_session.specs.declared.reply.ReplyFields.{ReplyFields}
use Rattle.link_session.specs.declared.calls.Calls.{Calls}
use Rattle.link_session.specs.declared.calls.Admit.TheVariants as admits
use Rattle.link_session.specs.Calls.{no_calls, admit, admitted, with_reply}

-- What comes to the calls of a branch.
pub data Coming : Type 0 where
  Delivered : (call : ℕ) → Coming  -- an Exec of this number
  Answered : (reply : ReplyFields) → Coming  -- the statement that is under way is answered

-- after one more of these
abbrev pub after_one : Calls → Coming → Calls
after_one c (Delivered call) = admitted c call
after_one c (Answered r) = with_reply c r

-- after all of these, in order
abbrev pub after : Calls → List Coming → Calls
after c xs = fold after_one c xs

-- the number that was delivered
abbrev pub number_in : Coming → List ℕ
number_in (Delivered call) = call ∷ []
number_in (Answered r) = []

-- the numbers that were delivered
abbrev pub numbers : List Coming → List ℕ
numbers xs = flat_map number_in xs

-- the numbers that are run, in order
abbrev pub runs : Calls → List Coming → List ℕ
runs c [] = []
runs c (Delivered call ∷ xs) = if nat_lt c.last_call call then call ∷ runs (admitted c call) xs else runs (admitted c call) xs
runs c (Answered r ∷ xs) = runs (with_reply c r) xs

-- Each number is above the one before it, and the first above this one.
abbrev pub IsRising : ℕ → List ℕ → Type 0
IsRising low [] = Unit {0}
IsRising low (n ∷ ns) = (low < n) × IsRising n ns

-- Each number is below this one.
abbrev pub AllBelow : ℕ → List ℕ → Type 0
AllBelow n ms = AllByRecursion (λ m. m < n) ms

-- No number is above this one.
abbrev pub NoneAbove : ℕ → List ℕ → Type 0
NoneAbove n ms = AllByRecursion (λ m. m ≤ n) ms

-- Only calls are delivered.
abbrev pub IsDelivery : Coming → Type 0
IsDelivery (Delivered call) = Unit {0}
IsDelivery (Answered r) = ⊥

-- The numbers that are run rise, and a number that comes is run exactly where it is above all that came before.
pub record RunOnce (xs : List Coming) : Type 0 where
  pub rising : IsRising 0 (runs no_calls xs)
  pub new : (call : ℕ) → 0 < call → AllBelow call (numbers xs) → admit (after no_calls xs) call ≡ admits.Run
  pub run : (call : ℕ) → admit (after no_calls xs) call ≡ admits.Run → AllBelow call (numbers xs)

-- however often calls are delivered
abbrev pub CallsRunOnce : Type 0
CallsRunOnce = (xs : List Coming) → RunOnce xs

-- What a call is answered that came first behind some, was answered behind others, and then was delivered or not, with calls of
-- lower numbers.
pub record IsAnswered (before between behind : List Coming) (call : ℕ) (reply : ReplyFields) : Type 0 where
  pub run : admit (after no_calls before) call ≡ admits.Run
  pub waits : admit (after no_calls (before ++ (Delivered call ∷ between))) call ≡ admits.Ignore
  pub again : admit (after no_calls (before ++ (Delivered call ∷ between) ++ (Answered reply ∷ behind))) call ≡ admits.Again
  pub kept : (after no_calls (before ++ (Delivered call ∷ between) ++ (Answered reply ∷ behind))).reply ≡ Some reply
  pub lower : (m : ℕ) → m < call → admit (after no_calls (before ++ (Delivered call ∷ between) ++ (Answered reply ∷ behind))) m ≡ admits.Ignore

-- whatever comes again in the meantime
abbrev pub RepeatsAreAnswered : Type 0
RepeatsAreAnswered = (before between behind : List Coming) (call : ℕ) (reply : ReplyFields) → 0 < call → AllBelow call (numbers before)
    → AllByRecursion IsDelivery between → NoneAbove call (numbers between) → AllByRecursion IsDelivery behind → NoneAbove call (numbers behind)
    → IsAnswered before between behind call reply
