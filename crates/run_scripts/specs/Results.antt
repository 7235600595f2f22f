-- The result of a job, as bytes: a line with the exit status and the number of bytes that were printed, and then these bytes.
use Rattle.std.specs.Prelude.{ℕ, List, ◌++◌, length, codes}
use Rattle.tran_ids.specs.Numbers.{decimal}

-- a run that ended with this status and printed this
abbrev pub result_text : ℕ → List ℕ → List ℕ
result_text status output = decimal status ++ codes " " ++ decimal (length output) ++ codes "\n" ++ output
