-- What the functions that read answer.
use Rattle.std.specs.Prelude.{◌≡◌, Option, Some, None, Result, Ok, Err, ⊤}
use Rattle.byte_format.specs.declared.errors.NoSpelling.{NoSpelling}
use Rattle.byte_format.specs.declared.errors.TakeErr.{TakeErr}
use Rattle.byte_format.specs.declared.errors.TakeErr.TheVariants as errors

-- what was returned, seen as a value and the bytes after it, is what reading gives; or there is nothing to read
abbrev pub Reads : {R Y : Type 0} → (R → Y) → Result R NoSpelling → Option Y → Type 0
Reads seen (Ok r) read = read ≡ Some (seen r)
Reads seen (Err e) read = read ≡ None

-- the same, unless memory ran out
abbrev pub Fails : {Y : Type 0} → TakeErr → Option Y → Type 0
Fails errors.NoMemory read = ⊤
Fails errors.NoSpelling read = read ≡ None

-- what was returned by a call that takes memory
abbrev pub ReadsInMemory : {R Y : Type 0} → (R → Y) → Result R TakeErr → Option Y → Type 0
ReadsInMemory seen (Ok r) read = read ≡ Some (seen r)
ReadsInMemory seen (Err e) read = Fails e read
