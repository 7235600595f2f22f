use Rattle.std.proofs.Common.{take}
use Rattle.record_log.proofs.Held.{Spell}
use Rattle.record_log.proofs.reading.records.Given as goal

-- the bodies so far are the spellings of the records that were read
abbrev pub invariant-loop-i : goal.invariant-loop-i
invariant-loop-i l = Spell l.found.items (take l.i l.bodies)
