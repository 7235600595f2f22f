-- The command line of dtx-chart, as clap's definitions say it, and what words mean by it.
use Rattle.std.specs.Prelude.{◌≡◌, ◌≤◌, ⊤, ℕ, true, List, [], Option, Some, None, codes}
use Rattle.std.specs.Str.Parse.{digits_value, without_leading_plus}
use Rattle.clap.specs.Walk.{Text, first_of, one_of}
use Rattle.clap.specs.Simple.{App, matches_of, with_rule}
use Rattle.clap.specs.Faults.{fault_of}
use Rattle.words.specs.Options.{bare, flag_rule, is_true, number_rule}
use Rattle.chart_words.specs.declared.Words.{Words}
use Rattle.chart_words.specs.declared.Words.TheVariants as words

-- the greatest number of a command
abbrev pub greatest : ℕ
greatest = 4294967295

-- the command without its words: of words that are there twice the last hold
abbrev pub overridden : App
overridden = let a = bare (codes "dtx_chart") in record a { top = record a.top { args_override_self = true } }

-- the command `dtx_chart`: the flag `--text`, and the options `--from` and `--to` with the number of a command
abbrev pub dtx_chart : App
dtx_chart = with_rule (with_rule (with_rule overridden (flag_rule (codes "text"))) (number_rule greatest (codes "from"))) (number_rule greatest (codes "to"))

-- clap takes the words
abbrev pub IsTaken : List Text → Type 0
IsTaken ws = fault_of dtx_chart ws ≡ []

-- what the matches hold of the flag and of each option
abbrev pub text_text : List Text → Option Text
text_text ws = first_of (codes "text") (matches_of dtx_chart ws)

abbrev pub from_text : List Text → Option Text
from_text ws = one_of (codes "from") (matches_of dtx_chart ws)

abbrev pub to_text : List Text → Option Text
to_text ws = one_of (codes "to") (matches_of dtx_chart ws)

-- The number of an option: the value of its digits, from 1 to the greatest; and another one where the option is not there.
abbrev pub IsChosen : ℕ → Option Text → ℕ → Type 0
IsChosen other None n = n ≡ other
IsChosen other (Some t) n = (n ≡ digits_value 10 (without_leading_plus t)) × (1 ≤ n) × (n ≤ greatest)

-- What the words mean: plain text with `--text`; the commands from the number of `--from`, or from the first, to that of `--to`,
-- or to the last. Memory may run out at any words.
abbrev pub Means : List Text → Words → Type 0
Means ws (words.Draw wanted) = IsTaken ws
    × (wanted.text ≡ is_true (text_text ws))
    × IsChosen 1 (from_text ws) wanted.first
    × IsChosen greatest (to_text ws) wanted.last
Means ws words.Usage = IsTaken ws → ⊥
Means ws words.NoMemory = ⊤
