use Rattle.std.proofs.Common.{if◌then◌else◌, ◌∷◌, [], ◌++◌, filter, take, ap, ◌∙◌, sym}
use Rattle.std.proofs.lemmas.List.{take_more}
use Rattle.force_cmds.specs.Named.{is_named_by, named_among, one_more}
use Rattle.force_cmds.proofs.NamedLemmas.{named_next}
use Rattle.force_cmds.proofs.finding.find.Goals as goal

pub loop-row-preserved : goal.loop-row-preserved
loop-row-preserved c =
    let names = c.args.names.now in
    let id = c.args.id.now in
    let row = c.row-item.result in
    let before = take c.loop-row.row-index c.args.kept.now in
    c.with_row-found.ensures
    ∙ (λ i. if c.in_ok-named.ensures i then one_more (c.loop-row.invariant i) row.me else c.loop-row.invariant i)
    ∙ sym (named_next names id before row)
    ∙ sym
    (ap (λ rows. named_among (filter (is_named_by names id) rows))
    (take_more c.args.kept.now c.loop-row.row-index row c.loop-row-test.true ∙ ap (λ r. before ++ r ∷ []) (sym c.row-item.is)))
