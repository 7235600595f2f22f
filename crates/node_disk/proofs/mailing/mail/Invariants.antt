-- The messages so far with their bytes, which are read as they are; each of the others can be mailed.
use Rattle.std.proofs.Common.{◌≡◌, map}
use Rattle.std.specs.List.{AllByRecursion}
use Rattle.node_disk.specs.Effects.{mailed, IsMailed}
use Rattle.node_disk.specs.Spellable.{MayBeMailed}
use Rattle.node_disk.proofs.mailing.mail.Given as goal

abbrev pub invariant-loop-msg : goal.invariant-loop-msg
invariant-loop-msg l = (l.sent.items ≡ map mailed l.yielded) × AllByRecursion IsMailed l.sent.items × AllByRecursion MayBeMailed l.msg-iterator.rest.items
