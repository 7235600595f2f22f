use Rattle.std.proofs.Common.{◌≡◌, ◌-◌, length, ◌∙◌, ap, arith}
use Rattle.undo_pool.specs.Pool.{extents, needed}
use Rattle.undo_pool.specs.Extents.{room_of}
use Rattle.undo_pool.proofs.Packed.{counted, more_needed}
use Rattle.undo_pool.proofs.pool.Pool.put.Goals as goal

pub returns-then-free-need-clause-full : goal.returns-then-free-need-clause-full
returns-then-free-need-clause-full c =
    let o = c.args.owner in
    let used = c.args.self.now.used in
    let behind : length c.split_at.result.1.now ≡ length c.args.bytes.now - room_of used o = omega (arith, c.split_at.ensures.back_len, c.min.ensures, c.room-room.ensures) in
    let need : extents (length c.split_at.result.1.now) ≡ needed c.args.self.now o (length c.args.bytes.now) = ap extents behind ∙ more_needed used c.are_packed.ensures o (length c.args.bytes.now) in
    let is : c.div_ceil-need.result ≡ needed c.args.self.now o (length c.args.bytes.now) = c.div_ceil-need.ensures ∙ need in
    (is, c.from-free.ensures ∙ c.free.ensures, omega (arith, is, c.if-free-need.true, c.from-free.ensures, c.free.ensures))

pub returns-clause-full : goal.returns-clause-full
returns-clause-full c =
    let o = c.args.owner in
    let used = c.args.self.now.used in
    let behind : length c.split_at.result.1.now ≡ length c.args.bytes.now - room_of used o = omega (arith, c.split_at.ensures.back_len, c.min.ensures, c.room-room.ensures) in
    let need : extents (length c.split_at.result.1.now) ≡ needed c.args.self.now o (length c.args.bytes.now) = ap extents behind ∙ more_needed used c.are_packed.ensures o (length c.args.bytes.now) in
    omega (arith, c.div_ceil-need.ensures ∙ need, c.if-free-need.false, c.from-free.ensures, c.free.ensures)

pub returns-clause-free : goal.returns-clause-free
returns-clause-free c =
    omega (arith, c.add.ensures.count, c.fill.ensures.count, c.fill.ensures.free, counted c.args.self.now.used c.are_packed.ensures c.args.owner, counted c.add.new.self.used c.are_packed-2.ensures c.args.owner)

pub returns-clause-others : goal.returns-clause-others
returns-clause-others c other is_other = (c.add.ensures.others other is_other).0 ∙ (c.fill.ensures.others other is_other).0
