use Rattle.std.proofs.Common.{[], ◌∷◌, take, refl, sym, ap, ◌∙◌}
use Rattle.std.proofs.lemmas.List.{take_more}
use Rattle.row_locks.specs.Numbered.{doubtful, changed_at}
use Rattle.row_locks.proofs.NumberLaws.{changed_more, unchanged}
use Rattle.row_locks.proofs.locks.mark_in_doubt_all.Goals as goal

pub loop-number-init : goal.loop-number-init
loop-number-init c = sym (unchanged doubtful c.args.locks.now)

pub loop-number-preserved : goal.loop-number-preserved
loop-number-preserved c =
    let es = c.args.locks.now in
    let ns = c.args.numbers.now in
    let i = c.loop-number.number-index in
    c.mark_in_doubt.ensures ∙ ap (changed_at doubtful (_ ∷ [])) c.loop-number.invariant ∙ changed_more doubtful (λ h. refl) (take i ns) _ es
    ∙ ap (λ ms. changed_at doubtful ms es) (sym (take_more ns i 0 c.loop-number-test.true))
