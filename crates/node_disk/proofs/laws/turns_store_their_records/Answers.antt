-- What a node stores after a turn is what its records say, but for Acks.
use Rattle.node_disk.proofs.StoreLaws.{turns_store_their_records}
use Rattle.node_disk.proofs.laws.turns_store_their_records.Goals as goal

pub returns : goal.returns
returns c = turns_store_their_records
