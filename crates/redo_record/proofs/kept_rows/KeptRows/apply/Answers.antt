use Rattle.std.proofs.Common.{◌≡◌, List, sym, subst}
use Rattle.std.specs.Prelude.{OnOk, OnErr, Result, Ok, Err}
use Rattle.redo_record.specs.Data.{RedoRecord, KeptRow}
use Rattle.redo_record.specs.Kept.{kept_after}
use Rattle.redo_record.specs.Order.{AreInOrder}
use Rattle.redo_record.proofs.OrderKept.{after_in_order}
use Rattle.redo_record.proofs.kept_rows.KeptRows.apply.Goals as goal

by_result : {T E : Type 0} (result : Result T E) (before after : List KeptRow) (item : RedoRecord) → OnOk result (after ≡ kept_after before item) → OnErr result (after ≡ before)
    → AreInOrder before → AreInOrder after
by_result (Ok x) before after item ok err order = subst AreInOrder (sym ok) (after_in_order before item order)
by_result (Err e) before after item ok err order = subst AreInOrder (sym err) order

pub invariant_of-self : goal.invariant_of-self
invariant_of-self c =
    by_result c.apply_record.result c.self.inside.rows.items c.apply_record.new.kept.items c.args.item.now c.apply_record.ensures.ok c.apply_record.ensures.err c.self.invariant
