use Rattle.std.proofs.Common.{◌||◌, refl, ap, ◌∙◌}
use Rattle.dtx_values.proofs.ValueOrder.{same_from_equal}
use Rattle.row_store.specs.Places.{has_place}
use Rattle.row_store.specs.TablePlaces.{rows_in, has_place_in, is_table_in}
use Rattle.row_store.proofs.TableLaws.{rows_stay, tables_same, places_kept, place_made, or_true}
use Rattle.row_store.proofs.table_places.TablePlaces.make.Goals as goal

pub returns-in_err-make-clause-rows : goal.returns-in_err-make-clause-rows
returns-in_err-make-clause-rows c =
    rows_stay c.self.inside.tables.entries c.in-Some.place c.index_mut.result.now c.make.new.self c.index_mut.ensures.value c.in_err-make.ensures.rows
    ∙ ap rows_in c.self.view_is

pub returns-in_err-make-clause-tables : goal.returns-in_err-make-clause-tables
returns-in_err-make-clause-tables c =
    λ name. tables_same c.self.inside.tables c.args.change.now.table c.in-Some.place c.index_mut.result.now c.make.new.self c.get_index_of.ensures.unique c.in-Some.ensures.index c.index_mut.ensures.value c.in-Some.ensures.value name ∙ ap (λ s. is_table_in s name) c.self.view_is

pub returns-in_err-make-clause-places : goal.returns-in_err-make-clause-places
returns-in_err-make-clause-places c =
    λ name key has. places_kept c.self.inside.tables c.args.change.now.table c.in-Some.place c.index_mut.result.now c.make.new.self c.get_index_of.ensures.unique c.in-Some.ensures.index c.index_mut.ensures.value c.in-Some.ensures.value name key (λ h. ap (λ ps. has_place ps key) c.in_err-make.ensures.err ∙ h) (ap (λ s. has_place_in s name key) c.self.view_is ∙ has)

pub returns-in_ok-make-clause-rows : goal.returns-in_ok-make-clause-rows
returns-in_ok-make-clause-rows c =
    rows_stay c.self.inside.tables.entries c.in-Some.place c.index_mut.result.now c.make.new.self c.index_mut.ensures.value c.in_ok-make.ensures.rows
    ∙ ap rows_in c.self.view_is

pub returns-in_ok-make-clause-tables : goal.returns-in_ok-make-clause-tables
returns-in_ok-make-clause-tables c =
    λ name. tables_same c.self.inside.tables c.args.change.now.table c.in-Some.place c.index_mut.result.now c.make.new.self c.get_index_of.ensures.unique c.in-Some.ensures.index c.index_mut.ensures.value c.in-Some.ensures.value name ∙ ap (λ s. is_table_in s name) c.self.view_is

pub returns-in_ok-make-clause-places : goal.returns-in_ok-make-clause-places
returns-in_ok-make-clause-places c =
    λ name key has. places_kept c.self.inside.tables c.args.change.now.table c.in-Some.place c.index_mut.result.now c.make.new.self c.get_index_of.ensures.unique c.in-Some.ensures.index c.index_mut.ensures.value c.in-Some.ensures.value name key (λ h. c.in_ok-make.ensures.places key ∙ or_true _ _ h) (ap (λ s. has_place_in s name key) c.self.view_is ∙ has)

pub returns-in_ok-make-clause-made : goal.returns-in_ok-make-clause-made
returns-in_ok-make-clause-made c =
    let key = c.args.change.now.key in
    place_made c.self.inside.tables c.args.change.now.table c.in-Some.place c.index_mut.result.now c.make.new.self c.get_index_of.ensures.unique c.in-Some.ensures.index c.index_mut.ensures.value c.in-Some.ensures.value key
    (c.in_ok-make.ensures.places key ∙ ap (λ b. b || has_place c.index_mut.result.now key) (same_from_equal key key refl))
