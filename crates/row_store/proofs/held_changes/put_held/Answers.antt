use Rattle.std.proofs.Common.{◌≡◌, ◌≤◌, length, ap, subst, ◌∙◌}
use Rattle.std.specs.List.{position_or_len}
use Rattle.std.specs.Map.{keys_of}
use Rattle.indexmap.specs.IndexMap.{insert_entry, move_index}
use Rattle.tran_ids.specs.Branch.{branch_below}
use Rattle.row_store.proofs.BranchLaws.{found_as}
use Rattle.row_store.proofs.OrderLaws.{absent_held, placed_entries}
use Rattle.row_store.proofs.held_changes.put_held.Goals as goal

pub returns-clause-ok : goal.returns-clause-ok
returns-clause-ok c =
    let b = c.args.branch.now in
    let ds = c.args.doubts.now.entries in
    let place = c.place_among-place.result in
    let is : place ≡ position_or_len (branch_below b) (keys_of ds) = c.place_among-place.ensures.first ∙ ap (position_or_len (branch_below b)) (c.as_slice.ensures ∙ c.keys.ensures.rest) in
    let within : place ≤ length ds = subst (λ n. place ≤ n) (ap length c.as_slice.ensures ∙ c.keys.ensures.len) c.place_among-place.ensures.within in
    c.in_ok-_place.ensures.entries
    ∙ ap (move_index (insert_entry found_as ds b c.args.held) (position_or_len (found_as b) (keys_of ds))) c.in_ok-_place.ensures.index
    ∙ placed_entries b c.args.held ds place (absent_held b ds c.requires) is within
