use Rattle.std.proofs.Common.{ℕ, sym, ap, ◌∙◌}
use Rattle.std.specs.BTreeMap.{BTreeMap}
use Rattle.std.specs.Option.{option_copied_mut}
use Rattle.row_locks.specs.declared.held_key.HeldKey.{HeldKey}
use Rattle.row_locks.specs.Numbered.{doubtful}
use Rattle.row_locks.proofs.NumberLaws.{own_from_order, set_is, none_there, none_changed}
use Rattle.row_locks.proofs.numbered_locks.doubt.Goals as goal

pub returns-in-Some : goal.returns-in-Some
returns-in-Some c =
    let es = c.args.locks.now.entries in
    (c.get_mut.follows.holds (doubtful c.in-Some.lock.now)).0
    ∙ set_is doubtful c.args.number c.in-Some.lock.now es (own_from_order es c.get_mut.ensures.ordered) (sym c.get_mut.ensures.value ∙ ap option_copied_mut c.in-Some.is)

pub returns-in_default : goal.returns-in_default
returns-in_default c =
    let es = c.args.locks.now.entries in
    ap (λ (m : BTreeMap ℕ HeldKey). m.entries) c.get_mut.follows.holds-at-none
    ∙ sym (none_changed doubtful c.args.number es (none_there c.args.number es (sym c.get_mut.ensures.value ∙ ap option_copied_mut c.in_default.is)))
