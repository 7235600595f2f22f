-- Messages that are sent one after the other.
use Rattle.std.proofs.Common.{◌≡◌, ◌+◌, List, [], ◌∷◌, ◌++◌, length, ℕ, if◌then◌else◌, Bool, true, false, refl, ap}
use Rattle.node_rules.specs.Data.{Msg}
use Rattle.net_bag.specs.Net.{Net, sent_on, sent_one, lost_at_once, is_lost_at_once}

-- those of two lists
pub sent_then : (net : Net) (xs ys : List Msg) → sent_on net (xs ++ ys) ≡ sent_on (sent_on net xs) ys
unfolding sent_on
sent_then net [] ys = refl
sent_then net (x ∷ xs) ys = sent_then (sent_one net x) xs ys

-- and the numbers of those that are lost at once
pub lost_then : (net : Net) (xs ys : List Msg) → lost_at_once net (xs ++ ys) ≡ lost_at_once net xs ++ lost_at_once (sent_on net xs) ys
unfolding sent_on
lost_then net [] ys = refl
lost_then net (x ∷ xs) ys = by_test (is_lost_at_once net x) (lost_then (sent_one net x) xs ys)
  where
    by_test : (b : Bool) → lost_at_once (sent_one net x) (xs ++ ys) ≡ lost_at_once (sent_one net x) xs ++ lost_at_once (sent_on (sent_one net x) xs) ys
        → (if b then (length net.packets + 1) ∷ lost_at_once (sent_one net x) (xs ++ ys) else lost_at_once (sent_one net x) (xs ++ ys))
        ≡ (if b then (length net.packets + 1) ∷ lost_at_once (sent_one net x) xs else lost_at_once (sent_one net x) xs) ++ lost_at_once (sent_on (sent_one net x) xs) ys
    by_test true rest = ap (λ (ns : List ℕ). (length net.packets + 1) ∷ ns) rest
    by_test false rest = rest

-- none and one more
pub sent_none : (net : Net) → net ≡ sent_on net []
unfolding sent_on
sent_none net = refl

pub sent_last : (net : Net) (ms : List Msg) (m : Msg) → sent_on net (ms ++ m ∷ []) ≡ sent_one (sent_on net ms) m
unfolding sent_on
sent_last net [] m = refl
sent_last net (x ∷ xs) m = sent_last (sent_one net x) xs m

pub ruleset mail_steps = (sent_then, lost_then)
