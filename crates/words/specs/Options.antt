-- A command of flags and of options with a whole number, as clap's definitions say it, and what clap's matches hold of them.
use Rattle.std.specs.Prelude.{◌≡◌, ℕ, Bool, true, false, Option, Some, pos, codes}
use Rattle.std.specs.Option.{option_map_or}
use Rattle.std.specs.Str.{bytes_eq}
use Rattle.clap.specs.Lexer.{without_minus}
use Rattle.clap.specs.Matches.{found_of, one_text}
use Rattle.clap.specs.Simple.{App, new_app, new_rule}
use Rattle.clap.specs.Values.{IsSignedIn}
use Rattle.clap.specs.Walk.{Rule, Text}
use Rattle.clap.specs.declared.builder.action.ArgAction.TheVariants.{Set, SetTrue}
use Rattle.clap.specs.declared.builder.value_parser.ValueParser.TheVariants as vp
use Rattle.clap.specs.declared.parser.matches.ArgMatches.{ArgMatches}

-- the flag of this name
abbrev pub flag_rule : Text → Rule
flag_rule name = record (new_rule name) { long = Some name; action = Some SetTrue }

-- the option of this name, with a whole number from 1 to the greatest
abbrev pub number_rule : ℕ → Text → Rule
number_rule greatest name = record (new_rule name) {
  long = Some name;
  action = Some Set;
  parser = Some (vp.Signed (pos 1) (pos greatest));
}

-- a command of this name without its words: no help and no version, and its first word is the program's already
abbrev pub bare : Text → App
bare name = let a = new_app name in record a {
  top = record a.top { no_binary_name = true; disable_help_flag = true; disable_version_flag = true };
}

-- whether the flag is there, by its value
abbrev pub is_true : Option Text → Bool
is_true o = option_map_or (λ t. bytes_eq t (codes "true")) o false

-- a value of the option in the matches is what passed the range from 1 to the greatest
abbrev pub HoldsNumber : ℕ → Text → ArgMatches → Type 0
HoldsNumber greatest id m = (t : Text) → one_text (found_of m) id ≡ Some t
    → (u : Text) × (t ≡ without_minus u) × IsSignedIn (pos 1) (pos greatest) u
