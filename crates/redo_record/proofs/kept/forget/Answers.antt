use Rattle.std.proofs.Common.{◌≡◌, not, sym, subst, ◌∙◌}
use Rattle.redo_record.specs.Data.{KeptRow}
use Rattle.redo_record.specs.Kept.{is_done}
use Rattle.redo_record.specs.Order.{AreInOrder}
use Rattle.redo_record.proofs.InOrder.{filter_in_order}
use Rattle.redo_record.proofs.kept.forget.Goals as goal

pub tell_branch-requires : goal.tell_branch-requires
tell_branch-requires c =
    subst AreInOrder (sym (c.deref_mut.ensures.value ∙ c.drop_rows.ensures)) (filter_in_order (λ (s : KeptRow). not (is_done c.args.me.now s)) c.args.kept.now.items c.requires)
