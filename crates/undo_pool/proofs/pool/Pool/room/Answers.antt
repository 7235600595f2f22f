use Rattle.std.proofs.Common.{rules, ◌≡◌, ◌-◌, ℕ, length, sym, ◌∙◌, ap}
use Rattle.undo_pool.specs.Extents.{IsLastOf, extent_size, room_of}
use Rattle.undo_pool.proofs.Rooms.{room_none}
use Rattle.undo_pool.proofs.Edits.{without_last}
use Rattle.undo_pool.proofs.pool.Pool.room.Goals as goal

pub returns-in-Some : goal.returns-in-Some
returns-in-Some c =
    let xs = c.args.self.now.used in
    let o = c.args.owner in
    let last : IsLastOf xs o c.in-Some.place = c.in-Some.ensures in
    let length_is : length c.bytes.result.now ≡ length last.here.it.bytes = search rules in
    ap (λ (n : ℕ). extent_size - n) length_is ∙ sym (without_last xs c.in-Some.place last.here).2 ∙ ap (λ (n : ℕ). room_of xs n) last.owned

pub returns-in-None : goal.returns-in-None
returns-in-None c = sym (room_none c.args.self.now.used c.args.owner c.in-None.ensures)
