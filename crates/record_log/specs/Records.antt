-- Records that can be written, and the bytes of a log of them.
use Rattle.std.specs.Prelude.{◌≡◌, ◌≤◌, ℕ, List, map, length}
use Rattle.std.specs.List.{AllByRecursion}
use Rattle.redo_record.specs.declared.record.RedoRecord.{RedoRecord}
use Rattle.redo_codec.specs.Record.{record_format}
use Rattle.redo_log.specs.Cells.{body_limit, log_of}

-- A record that can be written: it has a spelling, which is not too long for a log.
pub record IsSpelled (r : RedoRecord) : Type 0 where
  pub fits : record_format.Fits r
  pub short : length (record_format.text r) ≤ body_limit

-- the bodies of these records
abbrev pub bodies_of : List RedoRecord → List (List ℕ)
bodies_of rs = map record_format.text rs

-- the bytes of a disk that nothing but these records was written to
abbrev pub disk_bytes : List RedoRecord → List ℕ
disk_bytes rs = log_of (bodies_of rs)

-- Bodies are those of these records, each of which can be written.
pub record AreBodiesOf (rs : List RedoRecord) (list : List (List ℕ)) : Type 0 where
  pub spelled : AllByRecursion IsSpelled rs
  pub same : list ≡ bodies_of rs
