-- The label of a parcel as bytes: an example of a format.
--
--   label    = weight, optional insured, counted stops, contents
--   weight   = two bytes, 1 to 30,000
--   insured  = eight bytes
--   stops    = a byte of how many, and two bytes for each
--   contents = 1, and two bytes; or 2, a byte of how long, and so many bytes
use Rattle.std.specs.Prelude.{ℕ, Bool, ◌&&◌, nat_le, List, Option, Some, None}
use Rattle.byte_format.specs.declared.example.label.Contents.{Contents}
use Rattle.byte_format.specs.declared.example.label.Contents.TheVariants as holds
use Rattle.byte_format.specs.declared.example.label.Label.{Label}
use Rattle.byte_format.specs.Format.{Format}
use Rattle.byte_format.specs.Number.{number8, number16, number64}
use Rattle.byte_format.specs.Part.{pair, run, optional, mapped, tested}
use Rattle.byte_format.specs.Several.{counted}
use Rattle.byte_format.specs.Choice.{choice, kind, no_kind}

-- 1 to 30,000 grams
abbrev pub is_weight : ℕ → Bool
is_weight grams = nat_le 1 grams && nat_le grams 30000

-- which byte names the contents
abbrev pub kind_of : Contents → ℕ
kind_of (holds.Letters count) = 1
kind_of (holds.Thing name) = 2

-- how many letters, where the contents are letters
abbrev pub letters_of : Contents → Option ℕ
letters_of (holds.Letters count) = Some count
letters_of (holds.Thing name) = None

-- which thing, where the contents are one
abbrev pub thing_of : Contents → Option (List ℕ)
thing_of (holds.Letters count) = None
thing_of (holds.Thing name) = Some name

-- the fields of each kind of contents
abbrev pub contents_kinds : ℕ → Format Contents
contents_kinds = kind 1 holds.Letters letters_of number16 (kind 2 holds.Thing thing_of (run number8) no_kind)

-- contents, by their kind
abbrev pub contents_format : Format Contents
contents_format = choice kind_of contents_kinds

-- a label: its fields in order
abbrev pub label_format : Format Label
label_format = mapped
    (λ x. record { weight = x.0; insured = x.1.0; stops = x.1.1.0; contents = x.1.1.1 })
    (λ l. (l.weight, (l.insured, (l.stops, l.contents))))
    (pair (tested is_weight number16) (pair (optional number64) (pair (counted number8 number16) contents_format)))
