-- Which record may follow what is stored: its names are new, its changes are of tables that are there, and a branch that
-- becomes in doubt is not in doubt already.
use Rattle.std.specs.Prelude.{◌≡◌, false, List, [], ◌∷◌}
use Rattle.catalog.specs.Catalog.{Listed, is_used, is_link_used}
use Rattle.row_store.specs.Store.{AreOfTables, has_table, is_in_doubt}
use Rattle.node_rules.specs.Data.{RedoRecord, Durable}
use Rattle.node_rules.specs.Data.records
use Rattle.node_rules.specs.Rows.{TableRows}
use Rattle.node_rules.specs.NodeState.{Stored}
use Rattle.node_rules.specs.Records.{applied}
use Rattle.row_store.specs.declared.pending.Doubt.{Doubt}

-- the catalog that records leave
abbrev pub listed_in : Durable → Listed
listed_in d = record { recovery = d.recovery; tables = d.tables; links = d.links; synonyms = d.synonyms }

-- by the catalog
abbrev pub MayBeListed : Listed → RedoRecord → Type 0
MayBeListed c (records.Table t) = is_used c t.name ≡ false
MayBeListed c (records.Link l) = is_link_used c l.name ≡ false
MayBeListed c (records.Synonym y) = is_used c y.name ≡ false
MayBeListed c _ = Unit {0}

-- by the committed rows and the branches in doubt
abbrev pub MayBeStored : List TableRows → List Doubt → RedoRecord → Type 0
MayBeStored rows doubts (records.Table t) = has_table rows t.name ≡ false
MayBeStored rows doubts (records.Sealed r) = AreOfTables rows r.changes × (is_in_doubt doubts r.me ≡ false)
MayBeStored rows doubts (records.Decided r) = AreOfTables rows r.changes
MayBeStored rows doubts _ = Unit {0}

-- one record
pub record MayFollow (s : Stored) (r : RedoRecord) : Type 0 where
  pub listed : MayBeListed (listed_in s.durable) r
  pub stored : MayBeStored s.rows s.doubts r

-- records, one after the other
unfoldable pub MayAllFollow : Stored → List RedoRecord → Type 0
MayAllFollow s [] = Unit {0}
MayAllFollow s (r ∷ rs) = MayFollow s r × MayAllFollow (applied s r) rs
