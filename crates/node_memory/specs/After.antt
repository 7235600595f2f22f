-- What one more record makes of each part of memory.
use Rattle.std.specs.Prelude.{ℕ, Option, Some}
use Rattle.catalog.specs.Catalog.{Listed, with_table, with_link, with_synonym, with_recovery}
use Rattle.row_store.specs.Store.{Contents}
use Rattle.node_rules.specs.Data.{RedoRecord}
use Rattle.node_rules.specs.Data.records
use Rattle.redo_record.specs.declared.record.Param.{Param}
use Rattle.redo_record.specs.declared.record.Param.TheVariants as params
use Rattle.read_only_tx.specs.Versions.{Versions}
use Rattle.node_rules.specs.NodeState.{Stored, NodeState}
use Rattle.node_rules.specs.Records.{rows_after, doubts_after}

-- the number of the start
abbrev pub boot_after : ℕ → RedoRecord → ℕ
boot_after boot (records.Boot n) = n
boot_after boot _ = boot

-- whether recovery is enabled
abbrev pub catalog_set : Listed → Param → Listed
catalog_set c (params.Recovery on) = with_recovery c on
catalog_set c (params.Strength strength) = c

-- the commit point strength that was set
abbrev pub strength_set : Option ℕ → Param → Option ℕ
strength_set old (params.Recovery on) = old
strength_set old (params.Strength strength) = Some strength

-- the strength after one more record
abbrev pub strength_after : Option ℕ → RedoRecord → Option ℕ
strength_after old (records.Param setting) = strength_set old setting
strength_after old _ = old

-- the catalog
abbrev pub catalog_after : Listed → RedoRecord → Listed
catalog_after c (records.Table t) = with_table c t
catalog_after c (records.Link l) = with_link c l
catalog_after c (records.Synonym y) = with_synonym c y
catalog_after c (records.Param setting) = catalog_set c setting
catalog_after c _ = c

-- the rows
abbrev pub store_after : Contents → RedoRecord → Contents
store_after s r = record s { rows = rows_after s.rows s.doubts r; doubts = doubts_after s.rows s.doubts r }

-- what a node keeps with something else stored, and these commits
abbrev pub with_stored : NodeState → Stored → Versions → NodeState
with_stored k s vs = record k { stored = s; versions = vs }
