-- The earliest order that fits is the one at the first place that fits.
use Rattle.std.proofs.Common.{◌≡◌, ◌<◌, ◌≤◌, ◌+◌, ℕ, zero, suc, Bool, true, false, not, cond, List, [], ◌∷◌, length, refl, ap, arith}
use Rattle.std.specs.List.{position_or_len, remove}
use Rattle.wire_msg.specs.declared.msg.Msg.{Msg}
use Rattle.net_bag.specs.Net.{LoseOrder, is_order_for, use_order}

used_step : (b : Bool) (m : Msg) (o : LoseOrder) (os : List LoseOrder) (n : ℕ) → n ≡ cond (not b) (1 + position_or_len (is_order_for m) os) 0 → n < length (o ∷ os)
    → ((k : ℕ) → k ≡ position_or_len (is_order_for m) os → k < length os → remove os k ≡ use_order m os) → remove (o ∷ os) n ≡ cond b os (o ∷ use_order m os)
used_step true m o os n e lt h = ap (remove (o ∷ os)) e
used_step false m o os zero e lt h = absurd (omega arith)
used_step false m o os (suc k) e lt h = ap (λ l. o ∷ l) (h k (omega arith) (omega arith))

-- the order at the first place that fits is used up
pub used_at : (m : Msg) (os : List LoseOrder) (n : ℕ) → n ≡ position_or_len (is_order_for m) os → n < length os → remove os n ≡ use_order m os
used_at m [] n e lt = absurd (omega arith)
used_at m (o ∷ os) n e lt = used_step (is_order_for m o) m o os n e lt (used_at m os)

unused_step : (b : Bool) (m : Msg) (o : LoseOrder) (os : List LoseOrder) → length (o ∷ os) ≤ cond (not b) (1 + position_or_len (is_order_for m) os) 0
    → (length os ≤ position_or_len (is_order_for m) os → os ≡ use_order m os) → o ∷ os ≡ cond b os (o ∷ use_order m os)
unused_step true m o os le h = absurd (omega arith)
unused_step false m o os le h = ap (λ l. o ∷ l) (h (omega arith))

-- where none fits, none is used up
pub unused : (m : Msg) (os : List LoseOrder) → length os ≤ position_or_len (is_order_for m) os → os ≡ use_order m os
unused m [] le = refl
unused m (o ∷ os) le = unused_step (is_order_for m o) m o os le (unused m os)
