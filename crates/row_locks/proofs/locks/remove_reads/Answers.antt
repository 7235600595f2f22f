use Rattle.std.proofs.Common.{[], ◌∷◌, take, sym, ap, ◌∙◌}
use Rattle.std.proofs.lemmas.List.{take_more}
use Rattle.row_locks.specs.Numbered.{without_read_numbers}
use Rattle.row_locks.proofs.NumberLaws.{reads_more, all_reads_left}
use Rattle.row_locks.proofs.locks.remove_reads.Goals as goal

pub loop-number-init : goal.loop-number-init
loop-number-init c = sym (all_reads_left c.args.locks.now)

pub loop-number-preserved : goal.loop-number-preserved
loop-number-preserved c =
    let es = c.args.locks.now in
    let ns = c.args.numbers.now in
    let i = c.loop-number.number-index in
    c.remove_read.ensures ∙ ap (without_read_numbers (_ ∷ [])) c.loop-number.invariant ∙ reads_more (take i ns) _ es
    ∙ ap (λ ms. without_read_numbers ms es) (sym (take_more ns i 0 c.loop-number-test.true))
