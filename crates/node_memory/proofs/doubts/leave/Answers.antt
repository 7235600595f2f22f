use Rattle.std.proofs.Common.{not, map, ap, ◌∙◌, rules}
use Rattle.std.proofs.lemmas.Fn.{filter_same}
use Rattle.tran_ids.specs.Branch.{same}
use Rattle.node_memory.proofs.DoubtLaws.{map_filter}
use Rattle.node_memory.proofs.doubts.leave.Goals as goal

pub returns : goal.returns
returns c =
    let left = filter_same _ _ _ (λ x b f' k. search rules) _ _ c.retain.ensures.filtered in
    ap (map (λ r. r.now)) left ∙ map_filter (λ r. r.now) (λ r. not (same r.me c.args.branch.now)) _
