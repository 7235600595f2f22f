-- What work on a statement came to: a value, a refusal, or no memory.
use Rattle.std.specs.Prelude.{◌≡◌, Result, Ok, Err, ⊤}
use Rattle.sql_eval.specs.Data.{Refusal}
use Rattle.sql_eval.specs.declared.sql_err.SqlErr.{SqlErr}
use Rattle.sql_eval.specs.declared.sql_err.SqlErr.TheVariants.{Refused, NoMemory}

-- a refusal is the one that is due, and memory may run out on any statement
abbrev pub FailsOn : {Y : Type 0} → SqlErr → Result Y Refusal → Type 0
FailsOn (Refused refusal) due = due ≡ Err refusal
FailsOn NoMemory due = ⊤

-- what a function returned, seen by view, is what is due, unless memory ran out
abbrev pub Gives : {X Y : Type 0} → (X → Y) → Result X SqlErr → Result Y Refusal → Type 0
Gives view (Ok x) due = due ≡ Ok (view x)
Gives view (Err error) due = FailsOn error due
