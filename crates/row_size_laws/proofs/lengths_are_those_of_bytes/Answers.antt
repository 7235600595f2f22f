use Rattle.row_size_laws.proofs.LengthLaws.{value_length_is, row_length_is, change_length_is, changes_length_is}
use Rattle.row_size_laws.proofs.lengths_are_those_of_bytes.Goals as goal

pub returns : goal.returns
returns c = record { values = value_length_is; rows = row_length_is; changes = change_length_is; lists = changes_length_is }
