-- Names as bytes.
use Rattle.std.specs.Prelude.{ℕ, Bool, false, List}
use Rattle.std.specs.Option.{option_map_or}
use Rattle.std.specs.Str.{bytes_eq}
use Rattle.dtx_values.specs.Name.{name_of}
use Rattle.byte_format.specs.Format.{Format}
use Rattle.byte_format.specs.Number.{number8}
use Rattle.byte_format.specs.Part.{run, tested}

-- the bytes spell a name, and are that name: so they are in upper case
abbrev pub is_own_name : List ℕ → Bool
is_own_name bytes = option_map_or (λ name. bytes_eq name bytes) (name_of bytes) false

-- a name: how many bytes it has, and its bytes
abbrev pub name_format : Format (List ℕ)
name_format = tested is_own_name (run number8)
