use Rattle.std.proofs.Common.{◌≡◌, rules, true, false, not, get_or, ap, arith}
use Rattle.std.proofs.lemmas.List.Sorted.{IsPartitionPoint-from_clause}
use Rattle.std.specs.List.Sorted.{IsPartitionedBy}
use Rattle.tran_ids.specs.Branch.{branch_below}
use Rattle.redo_record.specs.declared.durable.KeptRow.{KeptRow}
use Rattle.redo_record.proofs.InOrder.{in_order_at, front_is_below}
use Rattle.redo_record.proofs.Searched.{point_is}
use Rattle.redo_record.proofs.search.start_of.Goals as goal

pub returns-clause-first : goal.returns-clause-first
returns-clause-first c =
    let me = c.args.me.now in
    let rows = c.args.rows.now in
    let parted : IsPartitionedBy (λ (row : KeptRow). branch_below row.me me) rows =
    λ i j d le lt up. front_is_below (get_or rows i d).me (get_or rows j d).me me (in_order_at rows c.requires i j d le lt) up in
    let point = IsPartitionPoint-from_clause (λ (row : KeptRow). branch_below row.me me) rows c.partition_point.result c.partition_point.ensures.partitioned parted (λ a r q k. search rules) in
    point_is (λ (row : KeptRow). not (branch_below row.me me)) rows c.partition_point.result c.partition_point.ensures.bound
    (λ k d lt. ap not (point.0 k d (omega arith) lt)) (λ k d ge lt. ap not (point.1 k d ge lt))
