use Rattle.std.proofs.Common.{◌≡◌, [], fold}
use Rattle.sql_eval.specs.Rows.{put_key as put_key_of}
use Rattle.sql_eval.proofs.rows.keys_in_order.Given as goal

abbrev pub invariant-loop-each : goal.invariant-loop-each
invariant-loop-each l = l.ordered.keys ≡ fold put_key_of [] l.yielded
