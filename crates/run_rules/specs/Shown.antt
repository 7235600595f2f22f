-- What SHOW prints: the views, the undo of branches, the book, the messages in flight, and the bytes of a disk.
use Rattle.book.specs.Texts.{shown_book}
use Rattle.std.specs.Prelude.{ℕ, List, [], ◌∷◌, codes}
use Rattle.std.specs.Option.{option_map_or}
use Rattle.node_rules.specs.Data.{Place}
use Rattle.run_rules.specs.Data.{Command}
use Rattle.run_rules.specs.Data.commands
use Rattle.report.specs.Bytes.{byte_lines}
use Rattle.pending_view.specs.Views.{pending_view, neighbors_view}
use Rattle.undo_view.specs.Views.{undo_view}
use Rattle.net_bag.specs.Texts.{net_lines}
use Rattle.run_rules.specs.Facts.{Facts, names_in, node_at}

-- SHOW DISK of a disk with these bytes
abbrev pub shown_disk : List ℕ → List (List ℕ)
shown_disk [] = codes "empty" ∷ []
shown_disk (b ∷ bs) = byte_lines (b ∷ bs)

-- what SHOW prints; the bytes of a disk are said apart, by the records that they stand for
abbrev pub shown : List Place → Facts → Command → List (List ℕ)
shown places f (commands.ShowPending n) = option_map_or (λ k. pending_view (names_in places) k.stored.durable.kept k.lives) (node_at f n) []
shown places f (commands.ShowNeighbors n) = option_map_or (λ k. neighbors_view (names_in places) k.stored.durable.kept) (node_at f n) []
shown places f (commands.ShowUndo n) = option_map_or (λ k. undo_view k.owns k.stored.doubts) (node_at f n) []
shown places f commands.ShowBook = shown_book (names_in places) f.book
shown places f commands.ShowNet = net_lines (names_in places) f.net.packets
shown places f _ = []
