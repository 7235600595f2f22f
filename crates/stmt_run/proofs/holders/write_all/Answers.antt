use Rattle.std.proofs.Common.{◌≡◌, List, true, slice_index_or, sym, subst, arith}
use Rattle.std.specs.Prelude.{OnOk}
use Rattle.std.proofs.lemmas.List.Sums.{fold_more}
use Rattle.row_locks.specs.Locks.{Lock, taken}
use Rattle.stmt_run.specs.Keys.{IsHeld}
use Rattle.stmt_run.proofs.Taken.{held_still}
use Rattle.stmt_run.proofs.holders.write_all.Goals as goal

pub loop-key-preserved : goal.loop-key-preserved
loop-key-preserved c =
    let ls = c.loop-key.locks in
    let me = c.args.me.now in
    let table = c.args.table.now in
    let key = c.key-item.result in
    let now : c.hold.new.self ≡ taken ls me table key true = subst (λ r. OnOk r (c.hold.new.self ≡ taken ls me table key true)) c.unwrap.ensures c.hold.ensures.held in
    record {
      taken = grind (arith, fold_more, now);
      held = λ k d h.
          subst (λ (xs : List Lock). IsHeld xs table (slice_index_or c.args.keys.now k d)) (sym now)
          (held_still me table ls key (slice_index_or c.args.keys.now k d) true (c.loop-key.invariant.held k d h));
    }
