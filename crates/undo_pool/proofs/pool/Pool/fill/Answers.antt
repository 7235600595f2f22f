use Rattle.std.proofs.Common.{rules, ◌<◌, length, ap, arith}
use Rattle.undo_pool.specs.Extents.{Held, IsLastOf}
use Rattle.undo_pool.proofs.Rooms.{room_none}
use Rattle.undo_pool.proofs.Edits.{without_last_of, filled}
use Rattle.undo_pool.proofs.pool.Pool.fill.Goals as goal

pub lengthen-requires-clause-fits : goal.lengthen-requires-clause-fits
lengthen-requires-clause-fits c x =
    let last : IsLastOf c.args.self.now.used c.args.owner c.in-Some.place = c.in-Some.ensures in
    let some : 0 < length c.args.bytes.now = search rules in
    let at = ap (λ (h : Held). length h.bytes) (last.here.at x) in
    omega (arith, at, some, (without_last_of c.args.self.now.used c.args.owner c.in-Some.place last).2, c.requires)

pub returns-in-Some : goal.returns-in-Some
returns-in-Some c =
    let xs = c.args.self.now.used in
    let zs = c.lengthen.new.self.used in
    let some : 0 < length c.args.bytes.now = search rules in
    let all = filled xs zs c.args.owner c.in-Some.place c.in-Some.ensures c.args.bytes.now c.requires some c.lengthen.ensures.used in
    record { bytes = all.0; count = all.1; room = all.2; others = all.3; all = all.4; free = c.lengthen.ensures.free }

pub returns-in_default : goal.returns-in_default
returns-in_default c =
    let none = room_none c.args.self.now.used c.args.owner c.in_default.ensures in
    let some : 0 < length c.args.bytes.now = search rules in
    absurd (omega (arith, none, some, c.requires))
