use Rattle.std.proofs.Common.{sym, subst, ◌∙◌, List, ℕ, arith}
use Rattle.redo_record.specs.declared.record.RedoRecord.{RedoRecord}
use Rattle.byte_format.specs.Format.{IsSpelling}
use Rattle.redo_codec.specs.Record.{record_format}
use Rattle.record_log.proofs.Held.{body_at, are_read}
use Rattle.record_log.proofs.reading.records.Goals as goal

pub read-requires : goal.read-requires
read-requires c =
    subst (λ (text : List ℕ). (r : RedoRecord) × IsSpelling record_format text r) (sym c.at.ensures)
    (body_at c.requires.0 c.args.bodies.now c.loop-i.i c.requires.1 (omega (arith, c.loop-i-test.true, c.len-i-end.ensures)))

pub returns : goal.returns
returns c =
    λ rs are.
    c.of.ensures ∙ are_read c.records_are_exact.ensures.one c.loop-i.found.items rs c.args.bodies.now c.loop-i.i c.loop-i.invariant (omega (arith, c.loop-i-test.false, c.len-i-end.ensures)) are
