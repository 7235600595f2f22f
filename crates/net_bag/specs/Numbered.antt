-- The messages of a list, by their numbers.
use Rattle.std.specs.Prelude.{ℕ, Bool, false, List, [], ◌∷◌, Option, Some, None}
use Rattle.tran_ids.specs.Listed.{numbered}
use Rattle.net_bag.specs.declared.packet.Fate.{Fate}
use Rattle.net_bag.specs.declared.packet.Packet.{Packet}
use Rattle.net_bag.specs.Net.{flies, numbers_where, with_fate}
use Rattle.net_bag.specs.Texts.{packet_text}

-- the numbers of those in flight
unfoldable pub flying_numbers : List Packet → List ℕ
flying_numbers xs = numbers_where flies 1 xs

-- message k meets its fate, where it is in flight
unfoldable pub met_at : Fate → List Packet → ℕ → List Packet
met_at fate xs k = with_fate xs k fate (numbered xs k)

-- whether there is such a message and it passes a test
abbrev pub passes_at : (Packet → Bool) → Option Packet → Bool
passes_at test None = false
passes_at test (Some x) = test x

-- the line of a message, if there is one
abbrev pub lines_at : List (List ℕ) → ℕ → Option Packet → List (List ℕ)
lines_at names k None = []
lines_at names k (Some x) = packet_text names k x ∷ []
