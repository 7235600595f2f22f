-- Results of calls, where one of the two cases is known.
use Rattle.std.proofs.Common.{◌≡◌, ℕ, ◌≤◌, ◌<◌, refl, arith}
use Rattle.std.specs.Prelude.{Result, Ok, Err, OnOk, OnErr, MatchResult, IsOk}
use Rattle.undo_pool.specs.declared.full.Full.{Full}

pub by_result : {T E P Q R : Type 0} (r : Result T E) → OnOk r P → OnErr r Q → (P → R) → (Q → R) → R
by_result (Ok x) p q f g = f p
by_result (Err e) p q f g = g q

pub on_ok : {T E P Q : Type 0} (r : Result T E) → OnOk r P → (P → Q) → OnOk r Q
on_ok (Ok x) p f = f p
on_ok (Err e) p f = tt

pub on_err : {T E P : Type 0} (r : Result T E) → P → OnErr r P
on_err (Ok x) p = tt
on_err (Err e) p = p

-- what needs no more extents than are free comes into the pool
pub fits_ok : {T : Type 0} (r : Result T Full) (need free : ℕ) → MatchResult r (λ _. need ≤ free) (λ full. (full.need ≡ need) × (full.free ≡ free) × (free < need)) → need ≤ free → IsOk r
fits_ok (Ok x) need free said fits = refl
fits_ok (Err e) need free said fits = absurd (let less = said.2 in omega arith)
