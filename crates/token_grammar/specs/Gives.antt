-- What a reader returns, against what its grammar reads.
use Rattle.std.specs.Prelude.{◌≡◌, Option, Some, None, Result, Ok, Err}
use Rattle.token_grammar.specs.declared.read_err.ReadErr.{ReadErr}
use Rattle.token_grammar.specs.declared.read_err.ReadErr.TheVariants as errors

-- nothing is read, unless memory ran out
abbrev pub Fails : {Y : Type 0} → ReadErr → Option Y → Type 0
Fails errors.NoMemory read = Unit {0}
Fails errors.Bad read = read ≡ None

-- what was returned, as seen by `view`, is what is read, unless memory ran out
abbrev pub Gives : {X Y : Type 0} → (X → Y) → Result X ReadErr → Option Y → Type 0
Gives view (Ok x) read = read ≡ Some (view x)
Gives view (Err e) read = Fails e read
