-- One more command is read, or refused, however the script goes on.
use Rattle.std.proofs.Common.{◌≡◌, ℕ, ◌+◌, ◌≤◌, List, [], ◌∷◌, ◌++◌, length, Result, Ok, Err, refl, sym, ap, ◌∙◌, append_assoc}
use Rattle.script_read.specs.declared.before.Before.{Before}
use Rattle.script_read.specs.declared.command.Command.{Command}
use Rattle.script_read.specs.declared.reading.Reading.{Reading}
use Rattle.script_read.specs.declared.why.Why.{Why}
use Rattle.script_read.specs.Parts.{line_ends, begins}
use Rattle.script_read.specs.Asked.{judged, Asked, then_asked, judged_then, asked_from, with_command}
use Rattle.script_read.specs.Reading.{then_all, goes_on, ReadsOn}

one_and_others : (commands : List Command) (c : Command) (others : Asked) → then_all commands (then_asked c others) ≡ then_all (commands ++ c ∷ []) others
one_and_others commands c (Ok others) = ap (λ (cs : List Command). Ok cs) (sym (append_assoc commands (c ∷ []) others))
one_and_others commands c (Err bad) = refl

-- a good command is read
pub reads_on : (old new : Reading) (piece : List ℕ) (c : Command) → judged old.before piece ≡ Ok c
    → new.commands ≡ old.commands ++ c ∷ [] → new.before ≡ with_command old.before c → new.line ≡ old.line + line_ends piece → ReadsOn old piece new
reads_on old new piece c good commands before line pieces rest =
    rw (good, commands, before, line) (one_and_others old.commands c (asked_from (old.line + line_ends piece) (with_command old.before c) pieces rest))

-- a bad one is where the script is bad
pub refused : (old : Reading) (piece : List ℕ) (why : Why) → judged old.before piece ≡ Err why
    → (pieces : List (List ℕ)) (rest : List ℕ) → goes_on old (piece ∷ pieces) rest ≡ Err (begins old.line piece, why)
refused old piece why e pieces rest = rw e refl
