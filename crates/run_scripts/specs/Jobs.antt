-- The list of jobs, as bytes. A job is the words of a command line and a script.
--
--   list  = how many jobs, four bytes, and each job
--   job   = words, script
--   words = how many words, one byte, and each word
--   word, script = how many bytes, four bytes, and these bytes
--
-- The highest byte of a number comes first.
use Rattle.std.specs.Prelude.{ℕ, List}
use Rattle.byte_format.specs.Format.{Format}
use Rattle.byte_format.specs.Number.{number8, number32}
use Rattle.byte_format.specs.Part.{pair, run}
use Rattle.byte_format.specs.Several.{counted}

-- bytes after their number
abbrev pub bytes_format : Format (List ℕ)
bytes_format = run number32

-- the words of a command line
abbrev pub words_format : Format (List (List ℕ))
words_format = counted number8 bytes_format

-- a job: its words and its script
abbrev pub job_format : Format (List (List ℕ) × List ℕ)
job_format = pair words_format bytes_format
