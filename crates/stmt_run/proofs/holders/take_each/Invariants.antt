use Rattle.std.proofs.Common.{◌≡◌, false, take}
use Rattle.std.specs.List.{All}
use Rattle.stmt_run.specs.Run.{take_keys}
use Rattle.stmt_run.specs.Keys.{IsFree}
use Rattle.stmt_run.proofs.holders.take_each.Given as goal

-- the keys so far are taken, and all are free or the branch's own
abbrev pub invariant-loop-key : goal.invariant-loop-key
invariant-loop-key l = record {
  taken : l.locks ≡ take_keys l.initial.locks l.me l.table false (take l.key-index l.keys);
  free : All (IsFree l.locks l.me l.table) l.keys;
}
