-- A catalog: the items in the order in which they were made, and which names are taken. (SQL Language Reference:
-- CREATE TABLE, CREATE SYNONYM, CREATE DATABASE LINK; Database Administrator's Guide, "Managing Distributed
-- Transactions", on recovery.)
use Rattle.std.specs.Prelude.{ℕ, Bool, true, ◌||◌, List, [], ◌∷◌, ◌++◌, Option, find, map}
use Rattle.std.specs.List.{list_any, IsDistinct}
use Rattle.std.specs.Str.{bytes_eq}
use Rattle.dtx_values.specs.declared.table.Table.{Table}
use Rattle.dtx_values.specs.declared.table.Link.{Link}
use Rattle.dtx_values.specs.declared.table.Synonym.{Synonym}

-- The items of a node in the order in which they were made, and whether its recovery is enabled.
pub record Listed : Type 0 where
  pub recovery : Bool
  pub tables : List Table
  pub links : List Link
  pub synonyms : List Synonym

-- an empty catalog, with recovery enabled
abbrev pub nothing_listed : Listed
nothing_listed = record { recovery = true; tables = []; links = []; synonyms = [] }

-- with a table after the others
abbrev pub with_table : Listed → Table → Listed
with_table c t = record c { tables = c.tables ++ t ∷ [] }

-- with a link after the others
abbrev pub with_link : Listed → Link → Listed
with_link c l = record c { links = c.links ++ l ∷ [] }

-- with a synonym after the others
abbrev pub with_synonym : Listed → Synonym → Listed
with_synonym c y = record c { synonyms = c.synonyms ++ y ∷ [] }

-- with recovery enabled or disabled
abbrev pub with_recovery : Listed → Bool → Listed
with_recovery c on = record c { recovery = on }

-- the first table of a name
abbrev pub table_of : Listed → List ℕ → Option Table
table_of c name = find (λ t. bytes_eq t.name name) c.tables

-- the first link of a name
abbrev pub link_of : Listed → List ℕ → Option Link
link_of c name = find (λ l. bytes_eq l.name name) c.links

-- the first synonym of a name
abbrev pub synonym_of : Listed → List ℕ → Option Synonym
synonym_of c name = find (λ y. bytes_eq y.name name) c.synonyms

-- whether a table or a synonym has this name
abbrev pub is_used : Listed → List ℕ → Bool
is_used c name = list_any (λ t. bytes_eq t.name name) c.tables || list_any (λ y. bytes_eq y.name name) c.synonyms

-- whether a link has this name
abbrev pub is_link_used : Listed → List ℕ → Bool
is_link_used c name = list_any (λ l. bytes_eq l.name name) c.links

-- the names of tables and synonyms
abbrev pub shared_names : Listed → List (List ℕ)
shared_names c = map (λ t. t.name) c.tables ++ map (λ y. y.name) c.synonyms

-- the names of links
abbrev pub link_names : Listed → List (List ℕ)
link_names c = map (λ l. l.name) c.links

-- no two tables or synonyms have the same name, and no two links
abbrev pub HasOwnNames : Listed → Type 0
HasOwnNames c = IsDistinct bytes_eq (shared_names c) × IsDistinct bytes_eq (link_names c)
