-- The commands of a script name nodes that there are, and their numbers are in their ranges.
use Rattle.std.proofs.Common.{◌≡◌, ℕ, ◌+◌, ◌≤◌, Bool, true, false, eqb, cond, List, [], ◌∷◌, ◌++◌, length, Option, Some, None, Result, Ok, Err, arith, refl, sym, ap, subst, append_assoc, append-nil}
use Rattle.std.specs.Prelude.{◌&&◌, not, IfSome, IfOk, IsErrOf, take, drop, position}
use Rattle.std.specs.List.{AllByRecursion, list_all}
use Rattle.std.proofs.lemmas.List.{length-append}
use Rattle.std.proofs.lemmas.Bool.Decides.{nat_tests}
use Rattle.dtx_values.specs.Limits.{node_limit}
use Rattle.token_grammar.proofs.Options.{chosen}
use Rattle.sql_statement.specs.declared.statement.Stmt.{Stmt}
use Rattle.sql_statement.specs.Whole.{IsWhole}
use Rattle.sql_parse.specs.Statement.{statement_of}
use Rattle.sql_parse.proofs.ParseLaws.{found_is_spelled}
use Rattle.sql_parse.proofs.WholeLaws.{statements_are_whole}
use Rattle.script_read.specs.declared.before.Before.{Before}
use Rattle.script_read.specs.declared.command.Command.{Command}
use Rattle.script_read.specs.declared.command.Command.TheVariants as commands
use Rattle.script_read.specs.declared.why.Why.{Why}
use Rattle.script_read.specs.declared.why.Why.TheVariants as whys
use Rattle.script_read.specs.declared.why.ScriptErr.{ScriptErr}
use Rattle.script_read.specs.declared.why.ScriptErr.TheVariants.{Bad, NoMemory}
use Rattle.script_read.specs.Parts.{pieces_of, said}
use Rattle.script_read.specs.Asked.{is_colon, nodes_in, is_known, trouble_of, names_made, nothing_before, with_command, Asked, asked, AsksFor}
use Rattle.script_read.specs.Spelled.{SpelledAt, IsCommand, IsGood, AreCommands, IsScript}
use Rattle.script_read.specs.Sound.{IsNode, IsProper, IsInRange, IsOfAScript, names_in}
use Rattle.script_read.proofs.RangeLaws.{IsAmong, Fits, at_session_is, other_is}
use Rattle.script_read.proofs.RoomLemmas.{room}
use Rattle.script_read.proofs.SpellLaws.{script_takes, script_again}

-- ---- A command is in its ranges.

whole_of : (text : List ℕ) (o : Option Stmt) → statement_of text ≡ o → IfSome o IsWhole
whole_of text None e = tt
whole_of text (Some s) e = statements_are_whole s text (found_is_spelled text s e)

spelled_fits : (place : Option ℕ) (names : List (List ℕ)) (c : Command) (text : List ℕ) → SpelledAt place names c text → Fits names c
spelled_fits None names c text s = other_is names c s.0 s.2
spelled_fits (Some i) names c text s =
    let at = at_session_is names s.0 s.1.0 s.1.2 in
    subst (Fits names) (sym s.2) ((at.0, tt), (at.1, whole_of (drop (i + 1) text) (statement_of (drop (i + 1) text)) refl))

command_fits : (names : List (List ℕ)) (c : Command) (text : List ℕ) → IsCommand names c text → Fits names c
unfolding IsCommand
command_fits names c text s = spelled_fits (position is_colon text) names c text s

-- ---- Its nodes are there.

is_there : (n count : ℕ) → is_known n ≡ true → n ≤ count → IsNode count n
is_there n count h le = (grind (arith, nat_tests), le)

both_are : (a b : Bool) → (a && b) ≡ true → (a ≡ true) × (b ≡ true)
both_are true true h = (refl, refl)
both_are true false h = absurd cc
both_are false b h = absurd cc

at_most : (n k count : ℕ) → n ≤ k → k ≤ count → n ≤ count
at_most n k count h le = omega arith

are_there : (names : List (List ℕ)) (count : ℕ) (ns : List ℕ) → length names ≤ count → list_all is_known ns ≡ true → AllByRecursion (IsAmong names) ns → AllByRecursion (IsNode count) ns
are_there names count [] le h a = tt
are_there names count (n ∷ ns) le h a =
    let u = both_are (is_known n) (list_all is_known ns) h in
    (is_there n count u.0 (at_most n (length names) count a.0 le), are_there names count ns le u.1 a.1)

-- a command that makes no node and is not bad knows its nodes
tested : (b : Bool) → cond b None (Some whys.Unknown) ≡ None → b ≡ true
tested true e = refl
tested false e = absurd cc

knows : (names : List (List ℕ)) (c : Command) → trouble_of names c ≡ None → list_all is_known (nodes_in c) ≡ true
knows names (commands.Node made strength links undo) e = refl
knows names (commands.At node session statement) e = tested _ e
knows names (commands.Cut a b) e = tested _ e
knows names (commands.Join a b) e = tested _ e
knows names (commands.Lose k) e = refl
knows names (commands.LoseNext kind from to) e = tested _ e
knows names (commands.Stop node) e = tested _ e
knows names (commands.Start node) e = tested _ e
knows names (commands.Crash node write how) e = tested _ e
knows names (commands.Fault node call) e = tested _ e
knows names (commands.Hold on) e = refl
knows names (commands.Deliver k) e = refl
knows names (commands.Again k) e = refl
knows names (commands.Pump most) e = refl
knows names (commands.GiveUp node session) e = tested _ e
knows names (commands.Reco node) e = tested _ e
knows names (commands.ShowPending node) e = tested _ e
knows names (commands.ShowNeighbors node) e = tested _ e
knows names commands.ShowBook e = refl
knows names commands.ShowNet e = refl
knows names (commands.ShowDisk node) e = tested _ e
knows names (commands.ShowUndo node) e = tested _ e

good_is_proper : (before : Before) (c : Command) (piece : List ℕ) (count : ℕ) → length before.names ≤ count → IsGood before c piece → IsProper count c
good_is_proper before c piece count le g =
    let fits = command_fits before.names c (said piece) g.spelled in
    (are_there before.names count (nodes_in c) le (knows before.names c g.sound) fits.0, fits.1)

-- ---- All of them.

names_later : (before made others : List (List ℕ)) → length before ≤ length ((before ++ made) ++ others)
names_later before made others = omega (arith, length-append (before ++ made) others, length-append before made)

-- the names before these commands and theirs
abbrev names_with : Before → List Command → List (List ℕ)
names_with before cs = before.names ++ names_in cs

all_proper : (pieces : List (List ℕ)) (before : Before) (rest : List ℕ) (cs : List Command) → AreCommands before cs pieces rest → AllByRecursion (IsProper (length (names_with before cs))) cs
all_proper [] before rest [] s = tt
all_proper [] before rest (c ∷ cs) s = absurd s
all_proper (piece ∷ pieces) before rest [] s = absurd s
all_proper (piece ∷ pieces) before rest (c ∷ cs) s =
    let same : (before.names ++ names_made c) ++ names_in cs ≡ before.names ++ (names_made c ++ names_in cs) = append_assoc before.names (names_made c) (names_in cs) in
    subst (λ (names : List (List ℕ)). AllByRecursion (IsProper (length names)) (c ∷ cs)) same
    (good_is_proper before c piece _ (names_later before.names (names_made c) (names_in cs)) s.0, all_proper pieces (with_command before c) rest cs s.1)

all_few : (pieces : List (List ℕ)) (before : Before) (rest : List ℕ) (cs : List Command) → length before.names ≤ node_limit → AreCommands before cs pieces rest → length (names_with before cs) ≤ node_limit
all_few [] before rest [] le s = subst (λ (names : List (List ℕ)). length names ≤ node_limit) (sym (append-nil before.names)) le
all_few [] before rest (c ∷ cs) le s = absurd s
all_few (piece ∷ pieces) before rest [] le s = absurd s
all_few (piece ∷ pieces) before rest (c ∷ cs) le s =
    subst (λ (names : List (List ℕ)). length names ≤ node_limit) (append_assoc before.names (names_made c) (names_in cs)) (all_few pieces (with_command before c) rest cs (room before.names c le s.0.sound) s.1)

pub script_is_sound : (bytes : List ℕ) (cs : List Command) → asked bytes ≡ Ok cs → IsOfAScript cs
script_is_sound bytes cs e =
    let s = script_takes bytes cs e in
    record { few = all_few (pieces_of bytes).0 nothing_before (pieces_of bytes).1 cs (omega arith) s; proper = all_proper (pieces_of bytes).0 nothing_before (pieces_of bytes).1 cs s }

-- ---- What the reader gives.

pub sound_of : (bytes : List ℕ) (r : Result (List Command) ScriptErr) → AsksFor (λ cs. cs) r (asked bytes) → IfOk r IsOfAScript
sound_of bytes (Ok cs) h = script_is_sound bytes cs h
sound_of bytes (Err e) h = tt

pub spelled_of : (bytes : List ℕ) (r : Result (List Command) ScriptErr) → AsksFor (λ cs. cs) r (asked bytes) → IfOk r (λ cs. IsScript cs bytes)
spelled_of bytes (Ok cs) h = script_takes bytes cs h
spelled_of bytes (Err e) h = tt

not_both : (a : Asked) (bad : ℕ × Why) (cs : List Command) → a ≡ Err bad → a ≡ Ok cs → ⊥
not_both a bad cs h k = absurd cc

pub bad_of : (bytes : List ℕ) (r : Result (List Command) ScriptErr) → AsksFor (λ cs. cs) r (asked bytes)
    → (line : ℕ) (why : Why) → IsErrOf r (Bad line why) → (cs : List Command) → IsScript cs bytes → ⊥
bad_of bytes (Ok cs) h line why is others s = absurd cc
bad_of bytes (Err NoMemory) h line why is cs s = absurd cc
bad_of bytes (Err (Bad l w)) h line why is cs s = not_both (asked bytes) (l, w) cs h (script_again bytes cs s)
