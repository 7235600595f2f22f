-- Ids that a node has given out stay so as its numbers rise.
use Rattle.std.proofs.Common.{◌≡◌, ℕ, zero, suc, ◌-◌, ◌≤◌, List, length, Some, inl, inr, sym, ap, subst, arith}
use Rattle.std.specs.Prelude.{◌⊎◌, unwrap_or, get_or, slice_get}
use Rattle.std.proofs.lemmas.Option.{slice_get-get_or}
use Rattle.tran_ids.proofs.NumberedLemmas.{set_found, set_or_before}
use Rattle.node_rules.specs.Data.{BranchId}
use Rattle.node_rules.specs.Words.{numbered, set_numbered}
use Rattle.node_rules.specs.Inputs.{IsSession}
use Rattle.node_ready_laws.specs.Ids.{last_seq, IsGiven, Before_start, In_session, Over_link}

-- no session's number falls where one rises
pub seqs_rise : (ms : List ℕ) (n q : ℕ) → last_seq ms n ≤ q → (m : ℕ) → last_seq ms m ≤ last_seq (set_numbered ms n q) m
seqs_rise ms n q up m = by (set_or_before ms n m q)
  where
    by : (numbered (set_numbered ms n q) m ≡ numbered ms m) ⊎ ((n ≡ m) × (numbered (set_numbered ms n q) m ≡ Some q)) → last_seq ms m ≤ last_seq (set_numbered ms n q) m
    by (inl still) = let is : last_seq (set_numbered ms n q) m ≡ last_seq ms m = ap (λ o. unwrap_or o 0) still in omega (arith, is)
    by (inr new) =
        let is : last_seq (set_numbered ms n q) m ≡ q = ap (λ o. unwrap_or o 0) new.1 in
        let was : last_seq ms m ≡ last_seq ms n = ap (last_seq ms) (sym new.0) in
        omega (arith, is, was, up)

-- each session has a number
there : (ms : List ℕ) (n : ℕ) → 1 ≤ n → n ≤ length ms → numbered ms n ≡ Some (get_or ms (n - 1) 0)
there ms zero low high = absurd (omega arith)
there ms (suc i) low high = let one : suc i - 1 ≡ i = omega arith in subst (λ j. slice_get ms i ≡ Some (get_or ms j 0)) (sym one) (slice_get-get_or ms i 0 (omega arith))

-- a session has the number that was set
pub seq_set : (ms : List ℕ) (n q : ℕ) → IsSession n → length ms ≡ 64 → last_seq (set_numbered ms n q) n ≡ q
seq_set ms n q fit many = ap (λ o. unwrap_or o 0) (set_found ms n (get_or ms (n - 1) 0) q (there ms n fit.0 (omega (arith, fit.1, many))))

module _ {boot : ℕ} {seqs : List ℕ} {opened : ℕ} {b : BranchId} where
  -- an id is of a start so far
  pub boot_given : IsGiven boot seqs opened b → b.boot ≤ boot
  boot_given (Before_start old) = omega (arith, old)
  boot_given (In_session now low seq) = omega (arith, now)
  boot_given (Over_link now high new) = omega (arith, now)

  -- and stays given out
  pub given_still : (more : List ℕ) (later : ℕ) → ((n : ℕ) → last_seq seqs n ≤ last_seq more n) → opened ≤ later → IsGiven boot seqs opened b → IsGiven boot more later b
  given_still more later rise links (Before_start old) = Before_start old
  given_still more later rise links (In_session now low seq) = In_session now low (omega (arith, seq, rise b.session))
  given_still more later rise links (Over_link now high new) = Over_link now high (omega (arith, new, links))
