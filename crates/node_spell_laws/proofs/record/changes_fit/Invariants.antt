use Rattle.std.proofs.Common.{take}
use Rattle.std.specs.List.{All}
use Rattle.field_codec.specs.Change.{change_format}
use Rattle.node_spell_laws.proofs.record.changes_fit.Given as goal

-- those so far have spellings
abbrev pub invariant-loop-change : goal.invariant-loop-change
invariant-loop-change l = All change_format.Fits (take l.change-index l.changes)
