-- The branches in doubt as their records have them, while a start goes over the records.
use Rattle.std.specs.Prelude.{List, [], fold}
use Rattle.tran_ids.specs.declared.branch.BranchId.{BranchId}
use Rattle.tran_ids.specs.Branch.{put_by_branch}
use Rattle.tran_ids.specs.Listed.{drop_item}
use Rattle.row_locks.specs.Locks.{Lock}
use Rattle.node_rules.specs.Data.{RedoRecord, Sealed}
use Rattle.node_rules.specs.Data.records
use Rattle.node_rules.specs.Records.{with_doubt}

-- the branch of a record
abbrev pub sealed_id : Sealed → BranchId
sealed_id r = r.me

-- the records of branches in doubt after one more record, in the order of their ids
abbrev pub in_doubt_after : List Sealed → RedoRecord → List Sealed
in_doubt_after doubts (records.Sealed r) = put_by_branch sealed_id doubts r
in_doubt_after doubts (records.Ended b d) = drop_item sealed_id doubts b
in_doubt_after doubts (records.Forced b d given) = drop_item sealed_id doubts b
in_doubt_after doubts _ = doubts

-- and after these records
abbrev pub in_doubt_by : List RedoRecord → List Sealed
in_doubt_by rs = fold in_doubt_after [] rs

-- the locks of one more branch in doubt
abbrev pub with_keys_of : List Lock → Sealed → List Lock
with_keys_of locks r = with_doubt locks r.me r.changes
