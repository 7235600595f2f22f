-- Messages that are sent in order, and one more.
use Rattle.std.proofs.Common.{◌≡◌, ◌+◌, ℕ, Bool, true, false, cond, if◌then◌else◌, List, [], ◌∷◌, ◌++◌, length, refl, ap}
use Rattle.wire_msg.specs.declared.msg.Msg.{Msg}
use Rattle.net_bag.specs.Net.{Net, is_lost_at_once, lost_at_once, sent_on, sent_one}

-- one more message
pub sent_more : (net : Net) (ms : List Msg) (m : Msg) → sent_on net (ms ++ m ∷ []) ≡ sent_one (sent_on net ms) m
unfolding sent_on
sent_more net [] m = refl
sent_more net (x ∷ ms) m = sent_more (sent_one net x) ms m

lost_step : (b : Bool) (k : ℕ) (us vs more : List ℕ) → us ≡ vs ++ more → cond b (k ∷ us) us ≡ cond b (k ∷ vs) vs ++ more
lost_step true k us vs more e = ap (λ l. k ∷ l) e
lost_step false k us vs more e = e

-- its number comes last, where it is lost at once
pub lost_more : (net : Net) (ms : List Msg) (m : Msg)
    → lost_at_once net (ms ++ m ∷ []) ≡ lost_at_once net ms ++ (if is_lost_at_once (sent_on net ms) m then (length (sent_on net ms).packets + 1) ∷ [] else [])
unfolding sent_on
lost_more net [] m = refl
lost_more net (x ∷ ms) m =
    lost_step (is_lost_at_once net x) (length net.packets + 1) (lost_at_once (sent_one net x) (ms ++ m ∷ [])) (lost_at_once (sent_one net x) ms)
    (if is_lost_at_once (sent_on (sent_one net x) ms) m then (length (sent_on (sent_one net x) ms).packets + 1) ∷ [] else [])
    (lost_more (sent_one net x) ms m)
