use Rattle.std.proofs.Common.{◌≡◌, true, take}
use Rattle.std.specs.List.{All}
use Rattle.stmt_run.specs.Run.{take_keys}
use Rattle.stmt_run.specs.Keys.{IsHeld}
use Rattle.stmt_run.proofs.holders.write_all.Given as goal

-- the keys so far are taken to write, and all are held
abbrev pub invariant-loop-key : goal.invariant-loop-key
invariant-loop-key l = record {
  taken : l.locks ≡ take_keys l.initial.locks l.me l.table true (take l.key-index l.keys);
  held : All (IsHeld l.locks l.table) l.keys;
}
