-- What the records of a node say, but for its rows: a fold, which a start makes again from the disk.
use Rattle.std.specs.Prelude.{true, List, [], ◌∷◌, ◌++◌, fold, Some, None}
use Rattle.redo_record.specs.Data.{Param, RedoRecord, KeptRow, Durable}
use Rattle.redo_record.specs.Data.records
use Rattle.redo_record.specs.Data.params
use Rattle.redo_record.specs.Kept.{kept_after}

-- before any record
abbrev pub no_durable : Durable
no_durable = record { boot = 0; recovery = true; tables = []; links = []; synonyms = []; kept = []; strength = None }

-- with a setting changed
abbrev pub set_param : Durable → Param → Durable
set_param d (params.Recovery on) = record d { recovery = on }
set_param d (params.Strength strength) = record d { strength = Some strength }

-- with other kept branches
abbrev pub with_kept : Durable → List KeptRow → Durable
with_kept d ks = record d { kept = ks }

-- after one more record; an image says again what stands before it
unfoldable pub durable_after : Durable → RedoRecord → Durable
durable_after d (records.Boot n) = record d { boot = n }
durable_after d (records.Table t) = record d { tables = d.tables ++ t ∷ [] }
durable_after d (records.Link l) = record d { links = d.links ++ l ∷ [] }
durable_after d (records.Synonym y) = record d { synonyms = d.synonyms ++ y ∷ [] }
durable_after d (records.Param setting) = set_param d setting
durable_after d r = with_kept d (kept_after d.kept r)

-- after these records
abbrev pub durable : List RedoRecord → Durable
durable rs = fold durable_after no_durable rs
