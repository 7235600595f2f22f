-- What a text may hold.
use Rattle.std.specs.Prelude.{ℕ, Bool, ◌&&◌, nat_lt, nat_le, List, length}
use Rattle.std.specs.Str.{is_utf8}
use Rattle.dtx_values.specs.Limits.{text_limit}

-- at most so many bytes of UTF-8
abbrev pub is_text_to : ℕ → List ℕ → Bool
is_text_to most text = nat_le (length text) most && is_utf8 text

-- the bytes are UTF-8, at least one and no more than the limit
abbrev pub is_text : List ℕ → Bool
is_text bytes = nat_lt 0 (length bytes) && (nat_le (length bytes) text_limit && is_utf8 bytes)
