-- The messages in flight, as SHOW NET prints them. The layout is dtx's own.
use Rattle.std.specs.Prelude.{ℕ, ◌+◌, if◌then◌else◌, List, [], ◌∷◌, ◌++◌, codes}
use Rattle.tran_ids.specs.Numbers.{decimal}
use Rattle.tran_ids.specs.Texts.{name_of}
use Rattle.wire_msg.specs.Names.{name_of_kind, kind_text}
use Rattle.net_bag.specs.declared.packet.Packet.{Packet}
use Rattle.net_bag.specs.Net.{flies}

-- a message: its number, its kind, the sender's node and the receiver's
abbrev pub packet_text : List (List ℕ) → ℕ → Packet → List ℕ
packet_text names k x = decimal k ++ codes " " ++ kind_text (name_of_kind x.msg.kind) ++ codes " " ++ name_of names x.msg.from.node ++ codes " " ++ name_of names x.msg.to.node

-- the messages in flight, by number, from this number on
abbrev pub flying_lines : List (List ℕ) → ℕ → List Packet → List (List ℕ)
flying_lines names k [] = []
flying_lines names k (x ∷ xs) = if flies x then packet_text names k x ∷ flying_lines names (k + 1) xs else flying_lines names (k + 1) xs

-- these lines, or one that says that there are none
abbrev pub some_lines : List (List ℕ) → List (List ℕ)
some_lines [] = codes "no messages in flight" ∷ []
some_lines (x ∷ xs) = x ∷ xs

-- all messages in flight
abbrev pub net_lines : List (List ℕ) → List Packet → List (List ℕ)
net_lines names packets = some_lines (flying_lines names 1 packets)
