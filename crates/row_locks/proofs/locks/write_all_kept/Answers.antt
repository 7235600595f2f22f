use Rattle.std.proofs.Common.{[], ◌∷◌, take, refl, sym, ap, ◌∙◌}
use Rattle.std.proofs.lemmas.List.{take_more}
use Rattle.row_locks.specs.Back.{kept_if}
use Rattle.row_locks.specs.Numbered.{changed_at}
use Rattle.row_locks.specs.declared.held_key.HeldKey.{HeldKey}
use Rattle.row_locks.proofs.NumberLaws.{changed_more, unchanged}
use Rattle.row_locks.proofs.locks.write_all_kept.Goals as goal

pub loop-number-init : goal.loop-number-init
loop-number-init c = sym (unchanged (kept_if c.args.notes.now c.args.changes.now) c.args.locks.now)

pub loop-number-preserved : goal.loop-number-preserved
loop-number-preserved c =
    let es = c.args.locks.now in
    let ns = c.args.numbers.now in
    let i = c.loop-number.number-index in
    let f : HeldKey → HeldKey = kept_if c.args.notes.now c.args.changes.now in
    c.write_if_kept.ensures ∙ ap (changed_at f (_ ∷ [])) c.loop-number.invariant ∙ changed_more f (λ h. refl) (take i ns) _ es
    ∙ ap (λ ms. changed_at f ms es) (sym (take_more ns i 0 c.loop-number-test.true))
