use Rattle.std.proofs.Common.{◌≡◌, length}
use Rattle.script_read.specs.declared.part.Part.TheVariants.{Plain}
use Rattle.script_read.specs.Parts as spec
use Rattle.script_read.proofs.cut.all_may_stand.Given as goal

-- what was seen so far may stand
abbrev pub invariant-loop-rest : goal.invariant-loop-rest
invariant-loop-rest l = spec.all_may_stand l.part l.rest ≡ spec.all_may_stand Plain l.piece

abbrev pub decreases-loop-rest : goal.decreases-loop-rest
decreases-loop-rest l = length l.rest
