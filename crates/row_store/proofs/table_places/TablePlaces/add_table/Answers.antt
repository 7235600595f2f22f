use Rattle.std.proofs.Common.{cond, Some, ap, ◌∙◌}
use Rattle.std.specs.List.{list_any}
use Rattle.std.specs.Map.{lookup}
use Rattle.std.specs.Str.{bytes_eq}
use Rattle.indexmap.specs.IndexMap.{insert_entry}
use Rattle.sql_check.specs.Words.{same_text}
use Rattle.row_store.specs.Tables.{with_table}
use Rattle.row_store.specs.TablePlaces.{rows_in, has_place_in}
use Rattle.row_store.proofs.TableLaws.{no_table, rows_added, places_added}
use Rattle.row_store.proofs.table_places.TablePlaces.add_table.Goals as goal

pub returns-clause-rows : goal.returns-clause-rows
returns-clause-rows c =
    let q = c.args.table in
    let es = c.self.inside.tables.entries in
    let none = no_table es q (ap (λ s. list_any (λ t. same_text t.table q) (rows_in s)) c.self.view_is ∙ c.requires.new) in
    ap rows_in (c.in_ok-insert.ensures.entries ∙ ap (insert_entry bytes_eq es q) c.new.ensures) ∙ rows_added c.self.inside.tables q none
    ∙ ap (λ s. with_table (rows_in s) q) c.self.view_is

pub returns-clause-places : goal.returns-clause-places
returns-clause-places c =
    let q = c.args.table in
    let es = c.self.inside.tables.entries in
    let none = no_table es q (ap (λ s. list_any (λ t. same_text t.table q) (rows_in s)) c.self.view_is ∙ c.requires.new) in
    λ name key has.
    places_added es c.insert.new.self.entries q name key
    (c.in_ok-insert.ensures.updates.0 name ∙ ap (λ v. cond (bytes_eq q name) (Some v) (lookup (bytes_eq name) es)) c.new.ensures)
    none (ap (λ s. has_place_in s name key) c.self.view_is ∙ has)
