use Rattle.std.proofs.Common.{sym, ap, ◌∙◌}
use Rattle.std.specs.Option.{option_map}
use Rattle.row_locks.specs.Locks.{holder_of}
use Rattle.row_locks.proofs.KeyLaws.{who, holder_is}
use Rattle.row_locks.proofs.locks.Locks.holder.Goals as goal

pub returns-in_err-holder-clause-holder : goal.returns-in_err-holder-clause-holder
returns-in_err-holder-clause-holder c =
    let table = c.args.table.now in
    let key = c.args.key.now in
    c.from_residual.ensures ∙ ap (option_map who) (sym c.in_err-holder.was ∙ c.holder.ensures.holder) ∙ holder_is table key c.self.inside.locks
    ∙ ap (λ ls. holder_of ls table key) c.self.view_is

pub returns-clause-holder : goal.returns-clause-holder
returns-clause-holder c =
    let table = c.args.table.now in
    let key = c.args.key.now in
    ap (option_map who) (sym c.in_ok-holder.was ∙ c.holder.ensures.holder) ∙ holder_is table key c.self.inside.locks ∙ ap (λ ls. holder_of ls table key) c.self.view_is
