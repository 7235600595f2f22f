-- The command line at words that are written out.
use Rattle.std.specs.Prelude.{◌≡◌, Bool, true, false, List, [], ◌∷◌, Option, Some, None, codes}
use Rattle.clap.specs.Faults.{fault_of}
use Rattle.clap.specs.Walk.{Text}
use Rattle.clap.specs.declared.error.kind.ErrorKind.{ErrorKind}
use Rattle.clap.specs.declared.error.kind.ErrorKind.TheVariants as kind
use Rattle.words.specs.Options.{is_true}
use Rattle.chart_words.specs.CommandLine.{dtx_chart, from_text, text_text, to_text}

-- clap takes these words, with the flag or without, and with these texts of the two options
abbrev pub Takes : List Text → Bool → Option Text → Option Text → Type 0
Takes ws text from to = (fault_of dtx_chart ws ≡ []) × (is_true (text_text ws) ≡ text) × (from_text ws ≡ from) × (to_text ws ≡ to)

-- clap refuses these words, with an error of this kind
abbrev pub Refuses : List Text → ErrorKind → Type 0
Refuses ws why = fault_of dtx_chart ws ≡ why ∷ []

abbrev pub Table : Type 0
Table = Takes [] false None None
    × Takes (codes "--text" ∷ []) true None None
    × Takes (codes "--from" ∷ codes "14" ∷ codes "--to" ∷ codes "20" ∷ []) false (Some (codes "14")) (Some (codes "20"))
    × Takes (codes "--to" ∷ codes "20" ∷ codes "--text" ∷ codes "--from" ∷ codes "14" ∷ []) true (Some (codes "14")) (Some (codes "20"))
    × Takes (codes "--from=14" ∷ []) false (Some (codes "14")) None
    × Takes (codes "--to=20" ∷ []) false None (Some (codes "20"))
    × Takes (codes "--from" ∷ codes "+7" ∷ []) false (Some (codes "+7")) None
    × Takes (codes "--from" ∷ codes "007" ∷ []) false (Some (codes "007")) None
    × Takes (codes "--to" ∷ codes "4294967295" ∷ []) false None (Some (codes "4294967295"))
    × Takes (codes "--text" ∷ codes "--text" ∷ []) true None None
    × Takes (codes "--from" ∷ codes "3" ∷ codes "--from" ∷ codes "5" ∷ []) false (Some (codes "5")) None
    × Takes (codes "--to" ∷ codes "5" ∷ codes "--to" ∷ codes "3" ∷ []) false None (Some (codes "3"))
    × Takes (codes "--" ∷ []) false None None
    × Refuses (codes "--from" ∷ codes "0" ∷ []) kind.ValueValidation
    × Refuses (codes "--to" ∷ codes "0" ∷ []) kind.ValueValidation
    × Refuses (codes "--to" ∷ codes "4294967296" ∷ []) kind.ValueValidation
    × Refuses (codes "--from" ∷ codes "seven" ∷ []) kind.ValueValidation
    × Refuses (codes "--from" ∷ codes "" ∷ []) kind.ValueValidation
    × Refuses (codes "--from=" ∷ []) kind.ValueValidation
    × Refuses (codes "--from" ∷ codes "3" ∷ codes "--from" ∷ codes "0" ∷ []) kind.ValueValidation
    × Refuses (codes "--from" ∷ []) kind.InvalidValue
    × Refuses (codes "--from" ∷ codes "--text" ∷ []) kind.InvalidValue
    × Refuses (codes "--from" ∷ codes "-7" ∷ []) kind.UnknownArgument
    × Refuses (codes "--text=true" ∷ []) kind.TooManyValues
    × Refuses (codes "x" ∷ []) kind.UnknownArgument
    × Refuses (codes "" ∷ []) kind.UnknownArgument
    × Refuses (codes "--tex" ∷ []) kind.UnknownArgument
    × Refuses (codes "--" ∷ codes "--text" ∷ []) kind.UnknownArgument
    × Refuses (codes "--help" ∷ []) kind.UnknownArgument
    × Refuses (codes "-h" ∷ []) kind.UnknownArgument
    × Refuses (codes "--version" ∷ []) kind.UnknownArgument
    × Refuses (codes "--html" ∷ []) kind.UnknownArgument
