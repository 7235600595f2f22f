use Rattle.std.proofs.Common.{◌<◌, length, length-set, refl, arith}
use Rattle.std.proofs.lemmas.Option.{slice_get_read}
use Rattle.world.proofs.ArmLemmas.{armed_at_place, armed_nowhere}
use Rattle.world.proofs.BeginLemmas.{order_stands}
use Rattle.world.proofs.world.World.arm.Goals as goal

pub returns-then-at-len-clause-stands : goal.returns-then-at-len-clause-stands
returns-then-at-len-clause-stands c =
    let slots = c.args.self.now.slots.items in
    let inside : c.from-at.result < length slots = omega arith in
    record {
      count = length-set slots c.from-at.result c.arm.new.self;
      each = order_stands slots c.from-at.result c.index_mut.result.now c.arm.new.self (slice_get_read slots (length slots) c.from-at.result c.index_mut.result.now refl inside c.index_mut.ensures.value)
          (record { kept = c.arm.ensures.kept; runs = c.arm.ensures.runs; bytes = c.arm.ensures.bytes; starts = c.arm.ensures.starts });
    }

pub returns-then-at-len-clause-armed : goal.returns-then-at-len-clause-armed
returns-then-at-len-clause-armed c =
    let slots = c.args.self.now.slots.items in
    let inside : c.from-at.result < length slots = omega arith in
    armed_at_place slots c.args.node c.from-at.result c.args.order c.index_mut.result.now c.arm.new.self (omega (arith, c.in-Some.ensures, c.from-at.ensures))
    (slice_get_read slots (length slots) c.from-at.result c.index_mut.result.now refl inside c.index_mut.ensures.value) c.arm.ensures.plan

pub returns-else-at-len-clause-armed : goal.returns-else-at-len-clause-armed
returns-else-at-len-clause-armed c =
    armed_nowhere c.args.self.now.slots.items c.args.node c.from-at.result c.args.order (omega (arith, c.in-Some.ensures, c.from-at.ensures)) (omega arith)
