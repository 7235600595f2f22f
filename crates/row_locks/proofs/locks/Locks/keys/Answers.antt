use Rattle.std.proofs.Common.{◌≡◌, ap, subst, ◌∙◌}
use Rattle.std.specs.Prelude.{IfOk}
use Rattle.row_locks.specs.Locks.{keys_held}
use Rattle.row_locks.proofs.KeyLaws.{keys_are}
use Rattle.row_locks.proofs.locks.Locks.keys.Goals as goal

pub returns : goal.returns
returns c =
    let table = c.args.table.now in
    subst (λ ks. IfOk c.keys.result (λ keys. keys ≡ ks)) (keys_are table c.self.inside.locks ∙ ap (λ ls. keys_held ls table) c.self.view_is) c.keys.ensures
