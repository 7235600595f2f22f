-- The program's command line, as clap's definitions say it, and what words mean by it.
use Rattle.std.specs.Prelude.{◌≡◌, ◌≤◌, ⊤, Bool, List, [], Option, Some, None, codes}
use Rattle.std.specs.Str.Parse.{digits_value, without_leading_plus}
use Rattle.clap.specs.Walk.{Text, first_of, one_of}
use Rattle.clap.specs.Simple.{App, matches_of, with_rule}
use Rattle.clap.specs.Faults.{fault_of}
use Rattle.words.specs.Options.{bare, flag_rule, is_true, number_rule}
use Rattle.words.specs.declared.Words.{Words}
use Rattle.words.specs.declared.Words.TheVariants as words

-- the command `dtx`: the flag `--book`, and the option `--make` with a whole number from 1 to 65,535
abbrev pub dtx : App
dtx = with_rule (with_rule (bare (codes "dtx")) (flag_rule (codes "book"))) (number_rule 65535 (codes "make"))

-- clap takes the words
abbrev pub IsTaken : List Text → Type 0
IsTaken ws = fault_of dtx ws ≡ []

-- what the matches hold of the flag and the option
abbrev pub book_text : List Text → Option Text
book_text ws = first_of (codes "book") (matches_of dtx ws)

abbrev pub make_text : List Text → Option Text
make_text ws = one_of (codes "make") (matches_of dtx ws)

-- whether the book is wanted
abbrev pub IsBook : Bool → List Text → Type 0
IsBook book ws = book ≡ is_true (book_text ws)

-- What the words mean. The number is the value of the digits behind `--make`, and one from 1 to 65,535. Memory may run out at any
-- words.
abbrev pub Means : List Text → Words → Type 0
Means ws (words.Run book) = IsTaken ws × (make_text ws ≡ None) × IsBook book ws
Means ws (words.Make number book) = IsTaken ws
    × ((t : Text) × (make_text ws ≡ Some t) × (number ≡ digits_value 10 (without_leading_plus t)) × (1 ≤ number) × (number ≤ 65535))
    × IsBook book ws
Means ws words.Usage = IsTaken ws → ⊥
Means ws words.NoMemory = ⊤
