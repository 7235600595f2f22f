use Rattle.byte_format.proofs.FormatLaws.{has_one_reading}
use Rattle.redo_codec.specs.Record.{record_format}
use Rattle.redo_codec.proofs.RecordLaws.{record_exact}
use Rattle.redo_codec.proofs.laws.records_are_exact.Goals as goal

pub returns : goal.returns
returns c = record { exact = record_exact; one = has_one_reading record_format record_exact }
