use Rattle.std.proofs.Common.{sym, ap, subst, ◌∙◌}
use Rattle.row_store.specs.Tables.{apply_all}
use Rattle.row_store.specs.TablePlaces.{rows_in}
use Rattle.row_store.specs.AllPlaced.{ArePlaced}
use Rattle.row_store.specs.Store.{doubt_committed}
use Rattle.row_store.proofs.Named.{apply_none}
use Rattle.row_store.proofs.HeldLaws.{held_at, contents_of, still_for, settle_for}
use Rattle.row_store.proofs.store.Store.commit_doubt.Goals as goal

pub make_changes-requires : goal.make_changes-requires
make_changes-requires c = record {
  places = subst (ArePlaced c.self.inside.tables) (sym c.in-Some.ensures.changes) (held_at c.self.inside.tables c.self.inside.pending.doubts c.args.branch.now c.self.invariant.held);
}

pub invariant_of-self : goal.invariant_of-self
invariant_of-self c =
    still_for c.self.inside.tables c.make_changes.new.tables (λ name key has. c.make_changes.ensures.places name key ∙ has) c.settle.new.self
    (settle_for c.self.inside.tables c.self.inside.pending c.settle.new.self c.args.branch.now c.settle.ensures.dropped c.self.invariant)

pub invariant_of-self-in_default : goal.invariant_of-self-in_default
invariant_of-self-in_default c = settle_for c.self.inside.tables c.self.inside.pending c.settle.new.self c.args.branch.now c.settle.ensures.dropped c.self.invariant

pub returns-in_default : goal.returns-in_default
returns-in_default c =
    let rows = rows_in c.self.inside.tables in
    let none = sym (apply_none rows) ∙ ap (apply_all rows) (sym c.in_default.ensures.changes) in
    (λ i. contents_of (none i) (c.in_default.ensures.dropped i)) ∙ ap (λ s. doubt_committed s c.args.branch.now) c.self.view_is

pub returns-in-Some : goal.returns-in-Some
returns-in-Some c =
    let rows = rows_in c.self.inside.tables in
    let made = c.make_changes.ensures.rows ∙ ap (apply_all rows) c.in-Some.ensures.changes in
    (λ i. contents_of (made i) (c.in-Some.ensures.dropped i)) ∙ ap (λ s. doubt_committed s c.args.branch.now) c.self.view_is
