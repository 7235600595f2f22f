-- How a run ends: its status and what is written, and that a good script, source and sink give the report.
use Rattle.std.proofs.Common.{◌≡◌, ◌⊎◌, ℕ, ◌+◌, ◌≤◌, Bool, true, false, List, ◌++◌, length, Option, None, Some, Ok, Err, refl, sym, ap, subst, ◌∙◌, inl, inr, arith, length-append}
use Rattle.std.specs.Prelude.{IsOk, IsErr}
use Rattle.std.specs.Io.KnownBytes.{Consumes, IsAtEnd, Appends}
use Rattle.std.proofs.lemmas.List.{append-nil}
use Rattle.dtx_ports.specs.Whole.{IsTooLong}
use Rattle.script_read.specs.Asked.{Asked, asked}
use Rattle.script_read.specs.declared.why.Why.{Why}
use Rattle.script_run.specs.declared.outcome.Run.{Run}
use Rattle.script_run.specs.declared.outcome.Status.{Status}
use Rattle.script_run.specs.declared.outcome.Status.TheVariants.{Done, BadScript, Usage, NoMemory, ReadFault, WriteFault, TooLong}
use Rattle.script_run.specs.Headline.{nothing_done}
use Rattle.script_run.specs.Report.{output_of}
use Rattle.dtx_values.specs.Limits.{script_limit}
use Rattle.script_run.specs.Ending.{Read, Written, TextIsCut, due_of, IsAskedBy, RunIsWhole, EndsRefused, EndsReported, EndsOn, EndsRead, IsComplete}

-- the report of a run of all the commands that the bytes ask for
pub reported : (bytes : List ℕ) (with_book : Bool) (w : Written) (run : Run) (status : Status) → IsAskedBy bytes run → RunIsWhole run → EndsReported w (output_of with_book run) status → EndsOn bytes with_book w run status
reported bytes with_book w run Done asks whole ends = (asks, whole, ends)
reported bytes with_book w run WriteFault asks whole ends = (inl (asks, whole), subst (λ (a : Asked). TextIsCut w (due_of a with_book run)) (sym asks) ends)
reported bytes with_book w run NoMemory asks whole ends = (inl asks, ends)
reported bytes with_book w run BadScript asks whole ends = absurd ends
reported bytes with_book w run Usage asks whole ends = absurd ends
reported bytes with_book w run ReadFault asks whole ends = absurd ends
reported bytes with_book w run TooLong asks whole ends = absurd ends

-- the refusal of a script that is bad on this line, for this reason
pub refused : (bytes : List ℕ) (with_book : Bool) (line : ℕ) (why : Why) (w : Written) (run : Run) (status : Status) → asked bytes ≡ Err (line, why) → run ≡ nothing_done → EndsRefused w line why status → EndsOn bytes with_book w run status
refused bytes with_book line why w run BadScript bad nothing ends =
    subst (λ (a : Asked). IsErr a × (run ≡ nothing_done) × Appends w.before w.now (due_of a with_book run)) (sym bad) (refl, nothing, ends)
refused bytes with_book line why w run WriteFault bad nothing ends =
    subst (λ (a : Asked). ((a ≡ Ok run.commands) × RunIsWhole run ⊎ (IsErr a × (run ≡ nothing_done))) × TextIsCut w (due_of a with_book run)) (sym bad) (inr (refl, nothing), ends)
refused bytes with_book line why w run NoMemory bad nothing ends = absurd ends
refused bytes with_book line why w run Done bad nothing ends = absurd ends
refused bytes with_book line why w run Usage bad nothing ends = absurd ends
refused bytes with_book line why w run ReadFault bad nothing ends = absurd ends
refused bytes with_book line why w run TooLong bad nothing ends = absurd ends

pub ruleset endings = (reported, refused)

-- ---- completeness

-- what was read up to the end is all that the source had
whole_read : (now : Option (List ℕ)) (bytes all : List ℕ) → Consumes (Some all) now bytes → IsAtEnd now → bytes ≡ all
whole_read None bytes all consumed ended = absurd consumed
whole_read (Some rest) bytes all consumed ended = sym (consumed ∙ ap (λ (r : List ℕ). bytes ++ r) ended ∙ append-nil bytes)

-- a source of no more than the limit is not too long
not_too_long : (limit : ℕ) (now : Option (List ℕ)) (all : List ℕ) → length all ≤ limit → IsTooLong limit (Some all) now → ⊥
not_too_long limit None all short long = absurd long.1
not_too_long limit (Some rest) all short long =
    let lengths : length all ≡ length long.0 + length rest = ap length long.1 ∙ length-append long.0 rest in
    omega (arith, long.2)

not_both : (a : Asked) → IsOk a → IsErr a → ⊥
not_both (Ok commands) ok err = let clash : false ≡ true = err in absurd cc
not_both (Err bad) ok err = let clash : false ≡ true = ok in absurd cc

pub is_complete : (with_book : Bool) (r : Read) (w : Written) (run : Run) (status : Status) → EndsRead with_book r w run status → IsComplete r w status
is_complete with_book r w run Done ends bytes before short reads source sink = inl refl
is_complete with_book r w run NoMemory ends bytes before short reads source sink = inr refl
is_complete with_book r w run Usage ends bytes before short reads source sink = absurd ends
is_complete with_book r w run ReadFault ends bytes before short reads source sink = absurd (source ends.3)
is_complete with_book r w run TooLong ends bytes before short reads source sink =
    absurd (not_too_long script_limit r.now bytes short (subst (λ (b : Option (List ℕ)). IsTooLong script_limit b r.now) before ends.2))
is_complete with_book r w run WriteFault ends bytes before short reads source sink = absurd (sink ends.3.1.failed)
is_complete with_book r w run BadScript ends bytes before short reads source sink =
    let same : ends.0 ≡ bytes = whole_read r.now ends.0 bytes (subst (λ (b : Option (List ℕ)). Consumes b r.now ends.0) before ends.1.consumed) ends.1.ended in
    absurd (not_both (asked bytes) reads (subst (λ (bs : List ℕ). IsErr (asked bs)) same ends.3.0))
