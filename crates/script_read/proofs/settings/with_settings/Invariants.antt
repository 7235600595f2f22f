use Rattle.std.proofs.Common.{◌≡◌, length}
use Rattle.script_read.specs.Forms as spec
use Rattle.script_read.proofs.settings.with_settings.Given as goal

-- what is set so far, and by the options that are left
abbrev pub invariant-loop-rest : goal.invariant-loop-rest
invariant-loop-rest l = spec.with_settings l.set l.rest ≡ spec.with_settings spec.usual l.settings

abbrev pub decreases-loop-rest : goal.decreases-loop-rest
decreases-loop-rest l = length l.rest
