use Rattle.std.proofs.Common.{ap, map, ◌∙◌}
use Rattle.std.specs.List.{position_or_len}
use Rattle.tran_ids.specs.Branch.{branch_below}
use Rattle.node_memory.proofs.DoubtLaws.{entered}
use Rattle.node_memory.proofs.doubts.enter.Goals as goal

pub returns : goal.returns
returns c =
    let doubts = c.args.doubts.now.items in
    let place = c.place_among-place.result in
    let at = c.place_among-place.ensures.first ∙ ap (position_or_len (λ r. branch_below c.args.sealed.now.me r.now.me)) c.as_slice.ensures.value in
    ap (map (λ r. r.now)) c.in_ok-insert.ensures.items ∙ entered (λ r. r.now) doubts c.args.sealed place at
