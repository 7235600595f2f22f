-- The rows of the table that are kept, taken back.
use Rattle.std.proofs.Common.{ap, sym, ◌∙◌}
use Rattle.node_memory.specs.Versions.{looked_back, versions_as}
use Rattle.node_calls.proofs.PastLaws.{rows_seen_past}
use Rattle.node_calls.proofs.looking_back.rows_past.Goals as goal

pub returns : goal.returns
returns c =
    let s = c.args.store.now in
    let vs = versions_as c.args.versions.now in
    c.in_ok-look_back.ensures ∙ (ap (λ rows. looked_back c.args.table.now rows vs c.args.scn) c.in_ok-rows.ensures
    ∙ rows_seen_past s vs c.args.branch.now c.args.table.now c.args.scn c.requires (sym c.has_changes.ensures ∙ c.if-has_changes.false))
