-- The commands that are asked for are those that the bytes spell, and no others.
use Rattle.std.proofs.Common.{◌≡◌, ℕ, ◌+◌, Bool, true, false, cond, List, [], ◌∷◌, Option, Some, None, Result, Ok, Err, refl, sym, ap, subst, ◌∙◌, ◌⊎◌, inl, inr}
use Rattle.std.specs.Prelude.{not, ◌&&◌, position, take, drop, codes, IsTrue}
use Rattle.std.specs.Option.{option_map_or}
use Rattle.token_grammar.specs.FirstWord.{has_first_word}
use Rattle.token_grammar.specs.Steps.{◌>>=◌}
use Rattle.token_grammar.specs.Text.{IsTextOf, value_in}
use Rattle.token_grammar.proofs.Options.{bind_some, chosen, some_is}
use Rattle.token_grammar.proofs.WholeLaws.{text_takes, text_again}
use Rattle.sql_parse.specs.Statement.{statement_of}
use Rattle.script_read.specs.declared.before.Before.{Before}
use Rattle.script_read.specs.declared.command.Command.{Command}
use Rattle.script_read.specs.declared.command.Command.TheVariants as commands
use Rattle.script_read.specs.declared.why.Why.{Why}
use Rattle.script_read.specs.declared.why.Why.TheVariants as whys
use Rattle.script_read.specs.Forms.{at_session, other_command}
use Rattle.script_read.specs.Parts.{pieces_of, said, is_clean, is_empty, line_ends, begins, first_unclean}
use Rattle.script_read.specs.Asked.{is_colon, call_of, command_of, trouble_of, accepted, judged, Asked, asked_at_end, then_asked, judged_then, asked_from, asked, nothing_before, with_command}
use Rattle.script_read.specs.Spelled.{SpelledAt, IsCommand, IsGood, AreCommands, IsScript}
use Rattle.script_read.proofs.FormLaws.{at_session_exact, other_exact}

-- ---- One command.

call_takes : (names : List (List ℕ)) (head text : List ℕ) (c : Command) → call_of names head text ≡ Some c
    → (at : ℕ × ℕ) × IsTextOf (at_session names) at head × (c ≡ commands.At at.0 at.1 (statement_of text))
unfolding call_of
call_takes names head text c e =
    let u = bind_some (value_in (at_session names) head) (λ x. Some (commands.At x.0 x.1 (statement_of text))) c e in
    (u.0, text_takes (at_session names) (at_session_exact names) head u.0 u.1, sym (some_is _ _ u.2))

call_again : (names : List (List ℕ)) (head text : List ℕ) (at : ℕ × ℕ) → IsTextOf (at_session names) at head
    → call_of names head text ≡ Some (commands.At at.0 at.1 (statement_of text))
unfolding call_of
call_again names head text at s = rw (text_again (at_session names) (at_session_exact names) head at s) refl

-- the command that is said, where the first colon stands here
abbrev said_at : Option ℕ → List (List ℕ) → List ℕ → Option Command
said_at place names text = option_map_or (λ i. call_of names (take i text) (drop (i + 1) text)) place (value_in (other_command names) text)

at_takes : (place : Option ℕ) (names : List (List ℕ)) (text : List ℕ) (c : Command) → said_at place names text ≡ Some c → SpelledAt place names c text
at_takes None names text c e = text_takes (other_command names) (other_exact names) text c e
at_takes (Some i) names text c e = call_takes names (take i text) (drop (i + 1) text) c e

at_again : (place : Option ℕ) (names : List (List ℕ)) (text : List ℕ) (c : Command) → SpelledAt place names c text → said_at place names text ≡ Some c
at_again None names text c s = text_again (other_command names) (other_exact names) text c s
at_again (Some i) names text c s = call_again names (take i text) (drop (i + 1) text) s.0 s.1 ∙ ap (λ (d : Command). Some d) (sym s.2)

pub command_takes : (names : List (List ℕ)) (text : List ℕ) (c : Command) → command_of names text ≡ Some c → IsCommand names c text
unfolding command_of IsCommand
command_takes names text c e = at_takes (position is_colon text) names text c e

pub command_again : (names : List (List ℕ)) (text : List ℕ) (c : Command) → IsCommand names c text → command_of names text ≡ Some c
unfolding command_of IsCommand
command_again names text c s = at_again (position is_colon text) names text c s

-- ---- One command among others.

accepted_is : (names : List (List ℕ)) (c d : Command) (t : Option Why) → trouble_of names c ≡ t → option_map_or (λ why. Err why) t (Ok c) ≡ Ok d → (c ≡ d) × (trouble_of names c ≡ None)
accepted_is names c d None h e = (cc, h)
accepted_is names c d (Some why) h e = absurd cc

-- the command that is said, accepted, or that it is outside the grammar
abbrev taken : List (List ℕ) → Option Command → Result Command Why
taken names o = option_map_or (accepted names) o (Err whys.Form)

taken_is : (names : List (List ℕ)) (o : Option Command) (d : Command) → taken names o ≡ Ok d → (o ≡ Some d) × (trouble_of names d ≡ None)
taken_is names None d e = absurd cc
taken_is names (Some c) d e =
    let u = accepted_is names c d (trouble_of names c) refl e in
    (ap (λ (x : Command). Some x) u.0, subst (λ (x : Command). trouble_of names x ≡ None) u.0 u.1)

not_true : (b : Bool) → not b ≡ false → b ≡ true
not_true true h = refl
not_true false h = absurd cc

pub judged_takes : (before : Before) (piece : List ℕ) (c : Command) → judged before piece ≡ Ok c → IsGood before c piece
unfolding judged
judged_takes before piece c e =
    elim (chosen (not (is_clean piece)) (Err whys.Byte) (cond (before.others && has_first_word (codes "NODE") (said piece)) (Err whys.LateNode) (taken before.names (command_of before.names (said piece)))) (Ok c) e) [
      | inl h ↦ absurd cc
      | inr h ↦ elim (chosen (before.others && has_first_word (codes "NODE") (said piece)) (Err whys.LateNode) (taken before.names (command_of before.names (said piece))) (Ok c) h.1) [
        | inl k ↦ absurd cc
        | inr k ↦
            let t = taken_is before.names (command_of before.names (said piece)) c k.1 in
            record { clean = not_true (is_clean piece) h.0; in_time = k.0; spelled = command_takes before.names (said piece) c t.0; sound = t.1 }
      ]
    ]

pub judged_again : (before : Before) (piece : List ℕ) (c : Command) → IsGood before c piece → judged before piece ≡ Ok c
unfolding judged
judged_again before piece c g = rw (g.clean, g.in_time, command_again before.names (said piece) c g.spelled, g.sound) refl

-- ---- All of them.

end_takes : (line : ℕ) (rest : List ℕ) (cs : List Command) → asked_at_end line rest ≡ Ok cs → (cs ≡ []) × IsTrue (is_clean rest) × IsTrue (is_empty rest)
unfolding asked_at_end
end_takes line rest cs e =
    elim (chosen (is_clean rest) (cond (is_empty rest) (Ok []) (Err (begins line rest, whys.Unended))) (Err (cond (is_empty rest) (first_unclean line rest) (begins line rest), whys.Byte)) (Ok cs) e) [
      | inl h ↦ elim (chosen (is_empty rest) (Ok []) (Err (begins line rest, whys.Unended)) (Ok cs) h.1) [
        | inl k ↦ (cc, h.0, k.0)
        | inr k ↦ absurd cc
      ]
      | inr h ↦ absurd cc
    ]

end_again : (line : ℕ) (rest : List ℕ) → IsTrue (is_clean rest) → IsTrue (is_empty rest) → asked_at_end line rest ≡ Ok []
unfolding asked_at_end
end_again line rest clean empty = rw (clean, empty) refl

-- a command in front of others: those are asked for behind it
others_of : (c : Command) (behind : Command → Asked) (cs : List Command) (a : Asked) → behind c ≡ a → then_asked c a ≡ Ok cs
    → (others : List Command) × (behind c ≡ Ok others) × (cs ≡ c ∷ others)
others_of c behind cs (Ok others) is e = (others, is, cc)
others_of c behind cs (Err bad) is e = absurd cc

-- and it is good
first_of : (j : Result Command Why) (line : ℕ) (behind : Command → Asked) (cs : List Command) → judged_then j line behind ≡ Ok cs
    → (c : Command) × (others : List Command) × (j ≡ Ok c) × (behind c ≡ Ok others) × (cs ≡ c ∷ others)
first_of (Err why) line behind cs e = absurd cc
first_of (Ok c) line behind cs e = let u = others_of c behind cs (behind c) refl e in (c, u.0, refl, u.1, u.2)

from_takes : (pieces : List (List ℕ)) (line : ℕ) (before : Before) (rest : List ℕ) (cs : List Command) → asked_from line before pieces rest ≡ Ok cs → AreCommands before cs pieces rest
from_takes [] line before rest cs e =
    let u = end_takes line rest cs e in
    subst (λ (xs : List Command). AreCommands before xs [] rest) (sym u.0) (u.1, u.2)
from_takes (piece ∷ pieces) line before rest cs e =
    let u = first_of (judged before piece) (begins line piece) (λ c. asked_from (line + line_ends piece) (with_command before c) pieces rest) cs e in
    subst (λ (xs : List Command). AreCommands before xs (piece ∷ pieces) rest) (sym u.4) (judged_takes before piece u.0 u.2, from_takes pieces (line + line_ends piece) (with_command before u.0) rest u.1 u.3)

from_again : (pieces : List (List ℕ)) (line : ℕ) (before : Before) (rest : List ℕ) (cs : List Command) → AreCommands before cs pieces rest → asked_from line before pieces rest ≡ Ok cs
from_again [] line before rest [] s = end_again line rest s.0 s.1
from_again [] line before rest (c ∷ cs) s = absurd s
from_again (piece ∷ pieces) line before rest [] s = absurd s
from_again (piece ∷ pieces) line before rest (c ∷ cs) s =
    rw (judged_again before piece c s.0, from_again pieces (line + line_ends piece) (with_command before c) rest cs s.1) refl

pub script_takes : (bytes : List ℕ) (cs : List Command) → asked bytes ≡ Ok cs → IsScript cs bytes
script_takes bytes cs e = from_takes (pieces_of bytes).0 1 nothing_before (pieces_of bytes).1 cs e

pub script_again : (bytes : List ℕ) (cs : List Command) → IsScript cs bytes → asked bytes ≡ Ok cs
script_again bytes cs s = from_again (pieces_of bytes).0 1 nothing_before (pieces_of bytes).1 cs s

ok_is : (a b : List Command) (x : Asked) → x ≡ Ok a → x ≡ Ok b → a ≡ b
ok_is a b x h k = cc

-- no bytes are two scripts
pub one_script : (bytes : List ℕ) (a b : List Command) → IsScript a bytes → IsScript b bytes → a ≡ b
one_script bytes a b p q = ok_is a b (asked bytes) (script_again bytes a p) (script_again bytes b q)
