-- A node that is made has no records before its first start.
use Rattle.std.proofs.Common.{◌+◌, ℕ, ◌∙◌, ap, arith}
use Rattle.node_disk.proofs.MakeLaws.{none_booted, none_had, made_so}
use Rattle.node_disk.proofs.making.first.Goals as goal

pub started-requires-clause-had : goal.started-requires-clause-had
started-requires-clause-had c = none_had c.args.place.undo

pub started-requires-clause-boots : goal.started-requires-clause-boots
started-requires-clause-boots c = omega (arith, none_booted)

pub returns-clause-kept : goal.returns-clause-kept
returns-clause-kept c = c.in_ok-memory.ensures.kept ∙ made_so

pub returns-clause-boot : goal.returns-clause-boot
returns-clause-boot c = c.in_ok-memory.ensures.boot ∙ ap (λ (n : ℕ). n + 1) none_booted
