use Rattle.std.proofs.Common.{ap, ◌∙◌, sym}
use Rattle.std.specs.List.{insert}
use Rattle.tran_ids.proofs.BranchLemmas.{put_is_insert}
use Rattle.reco.specs.Asks.{asking_id}
use Rattle.reco.proofs.recovery.place_for.Goals as goal

pub returns-clause-added : goal.returns-clause-added
returns-clause-added c =
    ap (λ place. insert c.args.askings.now place c.args.asking.now) c.place_of.ensures.first
    ∙ sym (put_is_insert asking_id c.args.askings.now c.args.asking.now)
