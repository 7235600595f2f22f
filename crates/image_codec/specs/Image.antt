-- Images of checkpoints as bytes.
--
--   image = 1, 13, generation, clock, top, boot, recovery, strength, tables, links, synonyms, the rows of each table, kept branches
use Rattle.std.specs.Prelude.{ℕ, Bool, List, [], ◌∷◌, length, Option}
use Rattle.dtx_values.specs.declared.row.Row.{Row}
use Rattle.dtx_values.specs.declared.table.Table.{Table}
use Rattle.dtx_values.specs.declared.table.Link.{Link}
use Rattle.dtx_values.specs.declared.table.Synonym.{Synonym}
use Rattle.redo_record.specs.declared.image.Image.{Image}
use Rattle.byte_format.specs.Format.{Format}
use Rattle.byte_format.specs.Number.{number8, number32, number48, number64, flag, constant}
use Rattle.byte_format.specs.Part.{pair, optional, mapped, tested}
use Rattle.byte_format.specs.Several.{counted}
use Rattle.field_codec.specs.Table.{table_format, link_format, synonym_format}
use Rattle.field_codec.specs.Value.{row_format}
use Rattle.image_codec.specs.By.{times, pair_by}
use Rattle.image_codec.specs.Kept.{item_format}
use Rattle.image_codec.specs.Order.{are_rows_of, are_in_order}

-- the number of the start, whether recovery is enabled, and the commit point strength where one was set
abbrev pub settings_format : Format (ℕ × (Bool × Option ℕ))
settings_format = pair number32 (pair flag (optional number8))

-- the generation, the SCN, the greatest SCN of a commit that changed rows, and the settings
abbrev pub start_format : Format (ℕ × (ℕ × (ℕ × (ℕ × (Bool × Option ℕ)))))
start_format = pair number64 (pair number48 (pair number48 settings_format))

-- tables, links and synonyms
abbrev pub names_format : Format (List Table × (List Link × List Synonym))
names_format = pair (counted number32 table_format) (pair (counted number32 link_format) (counted number32 synonym_format))

-- rows after their count
abbrev pub rows_format : Format (List Row)
rows_format = counted number32 row_format

-- the rows of each table have a cell for each of its columns, and their keys rise
abbrev pub is_catalog : (List Table × (List Link × List Synonym)) × List (List Row) → Bool
is_catalog x = are_rows_of x.0.0 x.1

-- tables, links and synonyms, and then the rows of each table
abbrev pub catalog_format : Format ((List Table × (List Link × List Synonym)) × List (List Row))
catalog_format = tested is_catalog (pair_by names_format (λ x. times (length x.0) rows_format))

-- an image: its fields in order
abbrev pub image_format : Format Image
image_format = mapped
    (λ x. record { generation = x.0.0; clock = x.0.1.0; top = x.0.1.1.0; boot = x.0.1.1.1.0; recovery = x.0.1.1.1.1.0; strength = x.0.1.1.1.1.1; tables = x.1.0.0.0; links = x.1.0.0.1.0; synonyms = x.1.0.0.1.1; rows = x.1.0.1; kept = x.1.1 })
    (λ i. ((i.generation, (i.clock, (i.top, (i.boot, (i.recovery, i.strength))))), (((i.tables, (i.links, i.synonyms)), i.rows), i.kept)))
    (pair start_format (pair catalog_format (tested are_in_order (counted number32 item_format))))

-- the body of the record of an image: a byte 1, its kind, and its fields
abbrev pub body_format : Format Image
body_format = mapped (λ x. x.1) (λ i. (tt, i)) (pair (constant (1 ∷ 13 ∷ [])) image_format)
