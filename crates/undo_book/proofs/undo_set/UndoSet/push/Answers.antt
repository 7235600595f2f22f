use Rattle.std.proofs.Common.{◌∷◌, [], ◌++◌, List, ap, ◌∙◌}
use Rattle.std.specs.Option.{option_copied}
use Rattle.dtx_values.specs.declared.row.Change.{Change}
use Rattle.undo_book.specs.Undo.{with_row, changes_in}
use Rattle.undo_book.proofs.UndoLaws.{pushed, say, is_undo}
use Rattle.undo_book.proofs.undo_set.UndoSet.push.Goals as goal

pub invariant_of-self : goal.invariant_of-self
invariant_of-self c =
    let xs = c.self.inside.bytes.items in
    let d = with_row c.args.change.now (option_copied c.args.before) in
    is_undo c.put_undo.new.out.items (changes_in xs ++ d ∷ []) (pushed xs c.put_undo.new.out.items d c.self.invariant c.undo_fits.ensures c.in-Ok.ensures.written)

pub returns-in-Ok-clause-ok : goal.returns-in-Ok-clause-ok
returns-in-Ok-clause-ok c =
    let xs = c.self.inside.bytes.items in
    let d = with_row c.args.change.now (option_copied c.args.before) in
    say c.put_undo.new.out.items (changes_in xs ++ d ∷ []) (pushed xs c.put_undo.new.out.items d c.self.invariant c.undo_fits.ensures c.in-Ok.ensures.written)
    ∙ ap (λ (cs : List Change). cs ++ d ∷ []) c.self.view_is
