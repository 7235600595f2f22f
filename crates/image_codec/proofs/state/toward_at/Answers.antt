use Rattle.std.proofs.Common.{◌≡◌, ℕ, zero, suc, ◌-◌, refl, ap, arith}
use Rattle.redo_record.specs.declared.record.Toward.TheVariants as towards
use Rattle.redo_codec.specs.Sealed.{toward_at}
use Rattle.image_codec.proofs.state.toward_at.Goals as goal

child_at : (n : ℕ) → (n ≡ 0 → ⊥) → towards.Child (n - 1) ≡ toward_at n
child_at zero h = absurd (h refl)
child_at (suc child) h = let same : suc child - 1 ≡ child = omega arith in ap (λ (k : ℕ). towards.Child k) same

pub returns-else-number-eq0 : goal.returns-else-number-eq0
returns-else-number-eq0 c = child_at c.args.number (λ e. omega arith)
