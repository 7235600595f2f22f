-- After each write a longer front of the bytes is written.
use Rattle.std.proofs.Common.{◌≡◌, ◌∙◌, ℕ, ◌-◌, List, length, take, drop, arith, length-drop}
use Rattle.std.proofs.lemmas.Grind.{common_steps}
use Rattle.std.proofs.Math.Seq.{take-add}
use Rattle.std.proofs.KnownBytes.{Appends-trans}
use Rattle.dtx_ports.proofs.sink.write_whole.Goals as goal

-- the first m of what a slice has from n on
front_of_rest : (n m : ℕ) (xs : List ℕ) → take m (take (length xs - n) (drop n xs)) ≡ take m (drop n xs)
front_of_rest n m xs = grind (arith, common_steps)

pub loop-done-preserved : goal.loop-done-preserved
loop-done-preserved g c =
    let n = c.loop-done.done in
    let m = c.in_ok-done.field-0 in
    let xs = c.args.bytes.now in
    record {
      within = omega (arith, c.in_ok-done.ensures.bound, length-drop n xs);
      front = rw take-add (rw (front_of_rest n m xs) at (Appends-trans _ _ _ _ _ c.loop-done.invariant.front c.in_ok-done.ensures.bytes));
      steady = c.in_ok-done.ensures.cause.stays ∙ c.loop-done.invariant.steady;
    }
