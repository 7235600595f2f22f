-- The commands of a script are in their ranges, and ask for statements that their printed texts spell.
use Rattle.std.proofs.Common.{◌≡◌, ℕ, List, [], ◌∷◌, ◌+◌, Option, Some, None, refl, sym, subst}
use Rattle.std.specs.Prelude.{IfSome, drop, position, take}
use Rattle.std.specs.List.{AllByRecursion}
use Rattle.sql_statement.specs.declared.statement.Stmt.{Stmt}
use Rattle.sql_parse.specs.Statement.{statement_of}
use Rattle.sql_print.specs.Printing.{IsPrintable}
use Rattle.token_grammar.specs.declared.token.Token.{Token}
use Rattle.token_grammar.specs.Text.{IsTextOf}
use Rattle.script_read.specs.declared.before.Before.{Before}
use Rattle.script_read.specs.declared.command.Command.{Command}
use Rattle.script_read.specs.declared.command.Command.TheVariants as commands
use Rattle.script_read.specs.declared.words.Lost.{Lost}
use Rattle.script_read.specs.declared.words.Lost.TheVariants as lost
use Rattle.script_read.specs.declared.words.Verb.{Verb}
use Rattle.script_read.specs.declared.words.Verb.TheVariants as verbs
use Rattle.script_read.specs.declared.words.View.{View}
use Rattle.script_read.specs.declared.words.View.TheVariants as views
use Rattle.script_read.specs.Asked.{is_colon, with_command}
use Rattle.script_read.specs.Forms.{form, lost_form, other_command, view_form}
use Rattle.script_read.specs.Parts.{pieces_of, said}
use Rattle.script_read.specs.Sound.{IsInRange, IsOfAScript, IsProper}
use Rattle.script_read.specs.Spelled.{AreCommands, IsCommand, IsGood, IsScript, SpelledAt}
use Rattle.run_spell_laws.specs.ByteRuns.{AsksSpelled}
use Rattle.script_run.proofs.FewLemmas.{some_is}

-- ---- ranges

all_in_range : (count : ℕ) (cs : List Command) → AllByRecursion (IsProper count) cs → AllByRecursion IsInRange cs
all_in_range count [] all = tt
all_in_range count (c ∷ cs) all = (all.0.1, all_in_range count cs all.1)

pub in_range : (cs : List Command) → IsOfAScript cs → AllByRecursion IsInRange cs
in_range cs sound = all_in_range _ cs sound.proper

-- ---- statements

-- LOSE makes no call, SHOW makes none
lost_asks : (names : List (List ℕ)) (k : Lost) (c : Command) (ts : List Token) → (lost_form names k).Spells c ts → AsksSpelled c
lost_asks names (lost.Number n) c ts s = subst AsksSpelled (sym s.0) tt
lost_asks names lost.Next c ts s = subst AsksSpelled (some_is _ c s.2) tt

view_asks : (names : List (List ℕ)) (k : View) (c : Command) (ts : List Token) → (view_form names k).Spells c ts → AsksSpelled c
view_asks names views.Pending c ts s = subst AsksSpelled (some_is _ c s.2) tt
view_asks names views.Neighbors c ts s = subst AsksSpelled (some_is _ c s.2) tt
view_asks names views.Book c ts s = subst AsksSpelled (sym s.0) tt
view_asks names views.Net c ts s = subst AsksSpelled (sym s.0) tt
view_asks names views.Disk c ts s = subst AsksSpelled (some_is _ c s.2) tt
view_asks names views.Undo c ts s = subst AsksSpelled (some_is _ c s.2) tt

-- no command of another form than AT asks for a statement
form_asks : (names : List (List ℕ)) (k : Verb) (c : Command) (ts : List Token) → (form names k).Spells c ts → AsksSpelled c
unfolding form
form_asks names verbs.Node c ts s = subst AsksSpelled (some_is _ c s.2) tt
form_asks names verbs.Cut c ts s = subst AsksSpelled (some_is _ c s.2) tt
form_asks names verbs.Join c ts s = subst AsksSpelled (some_is _ c s.2) tt
form_asks names verbs.Lose c ts s = lost_asks names s.1 c s.2 s.5
form_asks names verbs.Stop c ts s = subst AsksSpelled (some_is _ c s.2) tt
form_asks names verbs.Start c ts s = subst AsksSpelled (some_is _ c s.2) tt
form_asks names verbs.Crash c ts s = subst AsksSpelled (some_is _ c s.2) tt
form_asks names verbs.Fault c ts s = subst AsksSpelled (some_is _ c s.2) tt
form_asks names verbs.Hold c ts s = subst AsksSpelled (some_is _ c s.2) tt
form_asks names verbs.Deliver c ts s = subst AsksSpelled (some_is _ c s.2) tt
form_asks names verbs.Again c ts s = subst AsksSpelled (some_is _ c s.2) tt
form_asks names verbs.Pump c ts s = subst AsksSpelled (some_is _ c s.2) tt
form_asks names verbs.GiveUp c ts s = subst AsksSpelled (some_is _ c s.2) tt
form_asks names verbs.Reco c ts s = subst AsksSpelled (some_is _ c s.2) tt
form_asks names verbs.Show c ts s = view_asks names s.1 c s.2 s.5

module _ (again : (text : List ℕ) (s : Stmt) → statement_of text ≡ Some s → IsPrintable s) where
  printable : (text : List ℕ) (o : Option Stmt) → statement_of text ≡ o → IfSome o IsPrintable
  printable text None is = tt
  printable text (Some s) is = again text s is

  spelled_asks : (place : Option ℕ) (names : List (List ℕ)) (c : Command) (text : List ℕ) → SpelledAt place names c text → AsksSpelled c
  spelled_asks None names c text s = form_asks names s.2.1 c s.2.2 s.2.5
  spelled_asks (Some i) names c text s = subst AsksSpelled (sym s.2) (printable (drop (i + 1) text) (statement_of (drop (i + 1) text)) refl)

  good_asks : (before : Before) (c : Command) (piece : List ℕ) → IsGood before c piece → AsksSpelled c
  unfolding IsCommand
  good_asks before c piece good = spelled_asks (position is_colon (said piece)) before.names c (said piece) good.spelled

  all_ask : (pieces : List (List ℕ)) (before : Before) (rest : List ℕ) (cs : List Command) → AreCommands before cs pieces rest → AllByRecursion AsksSpelled cs
  all_ask [] before rest [] s = tt
  all_ask [] before rest (c ∷ cs) s = absurd s
  all_ask (p ∷ ps) before rest [] s = absurd s
  all_ask (p ∷ ps) before rest (c ∷ cs) s = (good_asks before c p s.0, all_ask ps (with_command before c) rest cs s.1)

  pub script_asks : (bytes : List ℕ) (cs : List Command) → IsScript cs bytes → AllByRecursion AsksSpelled cs
  script_asks bytes cs s = all_ask (pieces_of bytes).0 _ _ cs s
