use Rattle.std.proofs.Common.{List, false, take, length, slice_index_or, sym, ap, subst, ◌∙◌, arith}
use Rattle.std.proofs.lemmas.List.Sums.{fold_more}
use Rattle.row_locks.specs.Locks.{Lock}
use Rattle.stmt_run.specs.Keys.{IsFree}
use Rattle.stmt_run.proofs.Free.{free_still}
use Rattle.stmt_run.proofs.Taken.{stay_first}
use Rattle.stmt_run.proofs.holders.take_each.Goals as goal

pub loop-key-preserved : goal.loop-key-preserved
loop-key-preserved c = record {
  taken = grind (arith, fold_more, c.in-Ok.ensures.taken);
  free = λ k d h.
      subst (λ (ls : List Lock). IsFree ls c.args.me.now c.args.table.now (slice_index_or c.args.keys.now k d)) (sym c.in-Ok.ensures.taken)
      (free_still c.loop-key.locks c.args.me.now c.args.table.now c.key-item.result (slice_index_or c.args.keys.now k d) false (c.loop-key.invariant.free k d h));
}

pub returns-in-Err-NoMemory-clause-err : goal.returns-in-Err-NoMemory-clause-err
returns-in-Err-NoMemory-clause-err c =
    let ls = c.args.locks.now in
    ap (take (length ls)) (c.in-Err-NoMemory.ensures.err ∙ c.loop-key.invariant.taken)
    ∙ stay_first c.args.me.now c.args.table.now (take c.loop-key.key-index c.args.keys.now) ls
