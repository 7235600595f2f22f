-- What holds of the script of a number.
use Rattle.std.specs.Prelude.{◌≡◌, ◌≤◌, ℕ, Ok, length}
use Rattle.dtx_values.specs.Limits.{script_limit}
use Rattle.script_read.specs.Asked.{asked}
use Rattle.make_script.specs.Script.{commands_of, script_of}

-- the script of each number asks for its commands
abbrev pub IsRead : Type 0
IsRead = (number : ℕ) → asked (script_of number) ≡ Ok (commands_of number)

-- the script of each number is within the limit
abbrev pub ScriptsAreWithin : Type 0
ScriptsAreWithin = (number : ℕ) → length (script_of number) ≤ script_limit
