-- Which bytes are a script: a relation, that says nothing of how its commands are found.
use Rattle.std.specs.Prelude.{◌≡◌, ℕ, ◌+◌, ◌&&◌, true, false, List, [], ◌∷◌, Option, Some, None, position, take, drop, IsTrue, codes}
use Rattle.token_grammar.specs.FirstWord.{has_first_word}
use Rattle.token_grammar.specs.Text.{IsTextOf}
use Rattle.sql_parse.specs.Statement.{statement_of}
use Rattle.script_read.specs.declared.before.Before.{Before}
use Rattle.script_read.specs.declared.command.Command.{Command}
use Rattle.script_read.specs.declared.command.Command.TheVariants as commands
use Rattle.script_read.specs.Forms.{at_session, other_command}
use Rattle.script_read.specs.Parts.{pieces_of, said, is_clean, is_empty}
use Rattle.script_read.specs.Asked.{is_colon, trouble_of, nothing_before, with_command}

-- The tokens of the text spell the command. Where its first colon stands here, those before it spell a session, and
-- what stands behind it is the text of a call.
abbrev pub SpelledAt : Option ℕ → List (List ℕ) → Command → List ℕ → Type 0
SpelledAt None names command text = IsTextOf (other_command names) command text
SpelledAt (Some place) names command text =
    (at : ℕ × ℕ) × IsTextOf (at_session names) at (take place text) × (command ≡ commands.At at.0 at.1 (statement_of (drop (place + 1) text)))

-- the text spells the command, over nodes of these names
unfoldable pub IsCommand : List (List ℕ) → Command → List ℕ → Type 0
IsCommand names command text = SpelledAt (position is_colon text) names command text

-- the bytes before a `;` are a good command, behind those that have come
pub record IsGood (before : Before) (command : Command) (piece : List ℕ) : Type 0 where
  pub clean : is_clean piece ≡ true
  pub in_time : (before.others && has_first_word (codes "NODE") (said piece)) ≡ false
  pub spelled : IsCommand before.names command (said piece)
  pub sound : trouble_of before.names command ≡ None

-- the bytes before each `;` are these commands, in order, behind those that have come; blanks and comments follow
abbrev pub AreCommands : Before → List Command → List (List ℕ) → List ℕ → Type 0
AreCommands before [] [] rest = IsTrue (is_clean rest) × IsTrue (is_empty rest)
AreCommands before [] (piece ∷ pieces) rest = ⊥
AreCommands before (command ∷ others) [] rest = ⊥
AreCommands before (command ∷ others) (piece ∷ pieces) rest = IsGood before command piece × AreCommands (with_command before command) others pieces rest

-- the bytes are these commands
abbrev pub IsScript : List Command → List ℕ → Type 0
IsScript commands bytes = AreCommands nothing_before commands (pieces_of bytes).0 (pieces_of bytes).1
