-- So many nodes so far, each without an order.
use Rattle.std.proofs.Common.{◌≡◌, replicate}
use Rattle.run_rules.specs.Disks.{no_orders}
use Rattle.run_report.proofs.run_report.no_orders.Given as goal

abbrev pub invariant-loop : goal.invariant-loop
invariant-loop l = l.orders.items ≡ replicate l.counter no_orders
