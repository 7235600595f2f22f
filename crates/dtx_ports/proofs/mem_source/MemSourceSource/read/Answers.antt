-- A read gives the front of what is left, and nothing only at the end or into an empty buffer.
use Rattle.std.proofs.Common.{◌≡◌, ◌+◌, ◌-◌, ◌≤◌, ◌++◌, ℕ, List, take, drop, length, length-append, length-drop, arith, ap, sym, ◌∙◌}
use Rattle.std.proofs.lemmas.Grind.{common_steps}
use Rattle.std.proofs.lemmas.List.{take_at, length-take, drop_all}
use Rattle.std.proofs.lemmas.Simd.{chunk-drop}
use Rattle.dtx_ports.proofs.mem_source.MemSourceSource.read.Goals as goal

-- what was given stands before what is left
given_before_left : (read n : ℕ) (xs given rest : List ℕ) → given ≡ take (read + n - read) (drop read xs) → read + n ≤ length xs → drop read xs ≡ take n (given ++ rest) ++ drop (read + n) xs
given_before_left read n xs given rest copied fits = grind (arith, common_steps, take_at, chunk-drop)

pub returns-clause-bytes : goal.returns-clause-bytes
returns-clause-bytes c =
    let read = c.self.inside.read in
    let count = c.min-count.result in
    let items = c.self.inside.bytes.items in
    let copied = rw c.deref.ensures.value at c.copy_from_slice.ensures.after in
    let fits : read + count ≤ length items = omega arith in (
      ap (λ source. source.left) (sym c.self.view_is) ∙ given_before_left read count items _ _ copied fits,
      λ none room.
          let ended : length items ≤ read + count = omega (arith, length-append {A = ℕ}, length-take {A = ℕ}, length-drop {A = ℕ}, c.copy_from_slice.ensures.len, none, room) in
          drop_all (read + count) items ended,
    )
