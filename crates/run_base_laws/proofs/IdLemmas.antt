-- Which branch ids a node has given out: those of earlier starts, of the transactions of its sessions, of the branches that
-- were opened. Each has one row or one live branch at most.
use Rattle.std.proofs.Common.{◌≡◌, ℕ, zero, suc, ◌+◌, ◌-◌, ◌<◌, ◌≤◌, Bool, true, false, if◌then◌else◌, List, [], ◌∷◌, ◌++◌, length, Some, inl, inr, refl, sym, ap, subst, arith}
use Rattle.std.specs.Prelude.{◌⊎◌, unwrap_or, get_or, slice_get}
use Rattle.std.proofs.lemmas.Option.{slice_get-get_or}
use Rattle.tran_ids.proofs.BranchLemmas.{equal_from_same}
use Rattle.tran_ids.proofs.NumberedLemmas.{set_found, set_or_before}
use Rattle.node_rules.specs.Data.{BranchId, KeptRow, Live}
use Rattle.node_rules.specs.Words.{same, numbered, set_numbered}
use Rattle.node_rules.specs.NodeState.{live_id, kept_row_id}
use Rattle.node_rules.specs.Inputs.{IsSession}
use Rattle.run_base_laws.specs.NodeLaws.{count_of}
use Rattle.run_base_laws.proofs.CountingLemmas.{count_last}
use Rattle.node_rules.proofs.SessionLemmas.{seq_at}

-- ---- numbers of sessions

module _ (ms : List ℕ) (n q : ℕ) where
  -- no session's number falls
  pub seqs_rise : seq_at ms n ≤ q → (m : ℕ) → seq_at ms m ≤ seq_at (set_numbered ms n q) m
  seqs_rise up m = rise (set_or_before ms n m q)
    where
      rise : (numbered (set_numbered ms n q) m ≡ numbered ms m) ⊎ ((n ≡ m) × (numbered (set_numbered ms n q) m ≡ Some q)) → seq_at ms m ≤ seq_at (set_numbered ms n q) m
      rise (inl still) = let is : seq_at (set_numbered ms n q) m ≡ seq_at ms m = ap (λ o. unwrap_or o 0) still in omega (arith, is)
      rise (inr new) =
          let is : seq_at (set_numbered ms n q) m ≡ q = ap (λ o. unwrap_or o 0) new.1 in
          let was : seq_at ms m ≡ seq_at ms n = ap (seq_at ms) (sym new.0) in
          omega (arith, is, was, up)

-- each session has a number
there : (ms : List ℕ) (n : ℕ) → 1 ≤ n → n ≤ length ms → numbered ms n ≡ Some (get_or ms (n - 1) 0)
there ms zero low high = absurd (omega arith)
there ms (suc i) low high = let same : suc i - 1 ≡ i = omega arith in subst (λ j. slice_get ms i ≡ Some (get_or ms j 0)) (sym same) (slice_get-get_or ms i 0 (omega arith))

-- a session has the number that was set
pub seq_set : (ms : List ℕ) (n q : ℕ) → IsSession n → length ms ≡ 64 → seq_at (set_numbered ms n q) n ≡ q
seq_set ms n q fit many = ap (λ o. unwrap_or o 0) (set_found ms n (get_or ms (n - 1) 0) q (there ms n fit.0 (omega (arith, fit.1, many))))

-- ---- ids

-- An id that a node gave out: before it started last, to a transaction of a session, to a branch that was opened.
pub data Given (boot : ℕ) (ms : List ℕ) (opened : ℕ) (b : BranchId) : Type 0 where
  Before : b.boot < boot → Given boot ms opened b
  In_session : b.boot ≡ boot → b.session ≤ 64 → b.seq ≤ seq_at ms b.session → Given boot ms opened b
  Over_link : b.boot ≡ boot → 65 ≤ b.session → b.session < 65 + opened → Given boot ms opened b

-- by a start so far
pub given_before : {boot : ℕ} {ms : List ℕ} {opened : ℕ} {b : BranchId} → Given boot ms opened b → b.boot ≤ boot
given_before (Before old) = omega (arith, old)
given_before (In_session now low seq) = omega (arith, now)
given_before (Over_link now high new) = omega (arith, now)

-- and stays given out
pub given_still : {boot : ℕ} {ms : List ℕ} {opened : ℕ} {b : BranchId} (more : List ℕ) (later : ℕ) → ((n : ℕ) → seq_at ms n ≤ seq_at more n) → opened ≤ later → Given boot ms opened b
    → Given boot more later b
given_still more later rise links (Before old) = Before old
given_still {b = b} more later rise links (In_session now low seq) = In_session now low (omega (arith, seq, rise b.session))
given_still more later rise links (Over_link now high new) = Over_link now high (omega (arith, new, links))

-- how many rows and live branches have an id
abbrev pub in_use : List KeptRow → List Live → BranchId → ℕ
in_use rows lives b = count_of kept_row_id b rows + count_of live_id b lives

-- Each id in use is in use once, and was given out. There are 64 sessions.
pub record Ids (boot : ℕ) (ms : List ℕ) (opened : ℕ) (rows : List KeptRow) (lives : List Live) : Type 0 where
  pub many : length ms ≡ 64
  pub one : (b : BranchId) → in_use rows lives b ≤ 1
  pub told : (b : BranchId) → 1 ≤ in_use rows lives b → Given boot ms opened b

module _ (boot : ℕ) (ms : List ℕ) (opened : ℕ) (rows : List KeptRow) (lives : List Live) (ids : Ids boot ms opened rows lives) where
  -- no more rows and live branches than before
  pub fewer : (less : List KeptRow) (few : List Live) → ((b : BranchId) → in_use less few b ≤ in_use rows lives b) → Ids boot ms opened less few
  fewer less few fall = record { many = ids.many; one = λ b. omega (arith, fall b, ids.one b); told = λ b some. ids.told b (omega (arith, some, fall b)) }

  -- an id that was not given out is not in use
  unused : (b : BranchId) → (Given boot ms opened b → ⊥) → in_use rows lives b ≡ 0
  unused b new = none (in_use rows lives b) (λ some. new (ids.told b some))
    where
      none : (n : ℕ) → (1 ≤ n → ⊥) → n ≡ 0
      none zero no_more = refl
      none (suc n) no_more = absurd (no_more (omega arith))

  -- one more live branch, with a new id
  pub grown : (more : List ℕ) (later : ℕ) (x : Live) → length more ≡ 64 → ((n : ℕ) → seq_at ms n ≤ seq_at more n) → opened ≤ later → (Given boot ms opened x.me → ⊥)
      → Given boot more later x.me
      → Ids boot more later rows (lives ++ x ∷ [])
  grown more later x many rise links new given = record { many = many; one = λ b. one b (same x.me b) refl (now b); told = λ b some. told b (same x.me b) refl (now b) some }
    where
      now : (b : BranchId) → count_of live_id b (lives ++ x ∷ []) ≡ (if same x.me b then 1 + count_of live_id b lives else count_of live_id b lives)
      now b = count_last live_id b lives x

      one : (b : BranchId) (here : Bool) → same x.me b ≡ here → count_of live_id b (lives ++ x ∷ []) ≡ (if here then 1 + count_of live_id b lives else count_of live_id b lives)
          → in_use rows (lives ++ x ∷ []) b ≤ 1
      one b true is more_by = let none : in_use rows lives b ≡ 0 = subst (λ c. in_use rows lives c ≡ 0) (equal_from_same x.me b is) (unused x.me new) in omega (arith, none, more_by)
      one b false is more_by = omega (arith, more_by, ids.one b)

      told : (b : BranchId) (here : Bool) → same x.me b ≡ here → count_of live_id b (lives ++ x ∷ []) ≡ (if here then 1 + count_of live_id b lives else count_of live_id b lives)
          → 1 ≤ in_use rows (lives ++ x ∷ []) b → Given boot more later b
      told b true is more_by some = subst (Given boot more later) (equal_from_same x.me b is) given
      told b false is more_by some = given_still more later rise links (ids.told b (omega (arith, some, more_by)))
