use Rattle.std.proofs.Common.{[], ◌∷◌, refl, ap, ◌∙◌}
use Rattle.dtx_values.specs.declared.row.Change.{Change}
use Rattle.row_store.specs.Tables.{apply_all}
use Rattle.row_store.specs.TablePlaces.{rows_in, has_place_in}
use Rattle.row_store.proofs.TableLaws.{has_here, rows_changed, places_same}
use Rattle.row_store.proofs.table_places.TablePlaces.set.Goals as goal

pub set-requires : goal.set-requires
set-requires c =
    record { place = has_here c.self.inside.tables c.args.table.now c.in-Some.place c.index_mut.result.now c.index_mut.result.now c.get_index_of.ensures.unique c.in-Some.ensures.index c.index_mut.ensures.value c.in-Some.ensures.value c.args.key.now (ap (λ s. has_place_in s c.args.table.now c.args.key.now) c.self.view_is ∙ c.requires.place) }

pub returns-in-Some-clause-rows : goal.returns-in-Some-clause-rows
returns-in-Some-clause-rows c =
    let change : Change = record { table = c.args.table.now; key = c.args.key.now; after = c.args.after } in
    rows_changed c.self.inside.tables c.args.table.now c.in-Some.place c.index_mut.result.now c.set.new.self c.get_index_of.ensures.unique c.in-Some.ensures.index c.index_mut.ensures.value c.in-Some.ensures.value change refl c.set.ensures.rows ∙ ap (λ s. apply_all (rows_in s) (change ∷ [])) c.self.view_is

pub returns-in-Some-clause-places : goal.returns-in-Some-clause-places
returns-in-Some-clause-places c =
    λ name key. places_same c.self.inside.tables c.args.table.now c.in-Some.place c.index_mut.result.now c.set.new.self c.get_index_of.ensures.unique c.in-Some.ensures.index c.index_mut.ensures.value c.in-Some.ensures.value name key (c.set.ensures.places key) ∙ ap (λ s. has_place_in s name key) c.self.view_is
