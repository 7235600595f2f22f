use Rattle.std.proofs.Common.{ap, ◌∙◌, sym}
use Rattle.std.specs.List.{insert}
use Rattle.tran_ids.proofs.BranchLemmas.{put_is_insert}
use Rattle.redo_record.specs.Data.{KeptRow}
use Rattle.redo_record.proofs.kept.place_for.Goals as goal

pub returns-clause-added : goal.returns-clause-added
returns-clause-added c =
    ap (λ place. insert c.args.kept.now place c.args.row.now) c.place_of.ensures.first
    ∙ sym (put_is_insert (λ (y : KeptRow). y.me) c.args.kept.now c.args.row.now)
