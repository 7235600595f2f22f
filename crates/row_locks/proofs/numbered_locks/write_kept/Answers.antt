use Rattle.std.proofs.Common.{ℕ, sym, ap, ◌∙◌}
use Rattle.std.specs.BTreeMap.{BTreeMap}
use Rattle.std.specs.Map.{set_value}
use Rattle.std.specs.Option.{option_copied_mut}
use Rattle.row_locks.specs.declared.held_key.HeldKey.{HeldKey}
use Rattle.row_locks.specs.Back.{kept_if}
use Rattle.row_locks.specs.Numbered.{is_number}
use Rattle.row_locks.proofs.NumberLaws.{own_from_order, set_is, none_there, none_changed}
use Rattle.row_locks.proofs.numbered_locks.write_kept.Goals as goal

pub returns-in-Some : goal.returns-in-Some
returns-in-Some c =
    let es = c.args.locks.now.entries in
    let f : HeldKey → HeldKey = kept_if c.args.notes.now c.args.changes.now in
    (c.get_mut.follows.holds c.write_if.new.lock).0
    ∙ ap (λ h. set_value (is_number c.args.number) es h) c.write_if.ensures
    ∙ set_is f c.args.number c.in-Some.lock.now es (own_from_order es c.get_mut.ensures.ordered) (sym c.get_mut.ensures.value ∙ ap option_copied_mut c.in-Some.is)

pub returns-in_default : goal.returns-in_default
returns-in_default c =
    let es = c.args.locks.now.entries in
    ap (λ (m : BTreeMap ℕ HeldKey). m.entries) c.get_mut.follows.holds-at-none
    ∙ sym (none_changed (kept_if c.args.notes.now c.args.changes.now) c.args.number es (none_there c.args.number es (sym c.get_mut.ensures.value ∙ ap option_copied_mut c.in_default.is)))
