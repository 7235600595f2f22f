use Rattle.std.proofs.Common.{◌≡◌, ◌+◌, drop, take, sym, ap, subst, ◌∙◌}
use Rattle.row_store.specs.Store.{Contents}
use Rattle.node_rules.specs.Data.{Place}
use Rattle.node_rules.specs.NodeState.{NodeState}
use Rattle.node_rules.specs.Records.{applied, stored_by, versions_read, versions_in}
use Rattle.node_ready_laws.specs.Following.{MayAllFollow}
use Rattle.node_memory.specs.Versions.{versions_as}
use Rattle.node_memory.specs.Parts.{stored_in, kept_in}
use Rattle.node_memory.specs.After.{with_stored}
use Rattle.node_memory.specs.Room.{HasRoomFor, AllHaveRoom}
use Rattle.node_memory.proofs.ReplayLaws.{stored_more, versions_read_is, versions_more, follows_now, follow_then, room_now, room_then}
use Rattle.node_memory.proofs.memory.Memory.replay.Goals as goal

pub apply-requires : goal.apply-requires
apply-requires c =
    let m = c.loop-item.self in
    let rs = c.args.records.now in
    let extents = m.own_undo ∙ ap (λ (p : Place). p.undo) c.loop-item.invariant.place in
    record {
      follow = follows_now (stored_in m) rs c.loop-item.item-index c.item-item.result c.loop-item-test.true (sym c.item-item.is) c.loop-item.invariant.follow;
      room =
          subst (λ (t : Contents). HasRoomFor t c.item-item.result)
          (λ i. let t : Contents = record { rows = m.store.rows; owns = sym c.loop-item.invariant.idle i; doubts = m.store.doubts; extents = sym extents i } in t)
          (room_now c.args.self.now.place.undo (stored_in m) rs c.loop-item.item-index c.item-item.result c.loop-item-test.true (sym c.item-item.is) c.loop-item.invariant.room);
    }

pub loop-item-preserved : goal.loop-item-preserved
loop-item-preserved c =
    let k = kept_in c.args.self.now in
    let m = c.loop-item.self in
    let rs = c.args.records.now in
    let i = c.loop-item.item-index in
    let r = c.item-item.result in
    let low = c.loop-item-test.true in
    let is = sym c.item-item.is in
    let new = kept_in c.apply.new.self in
    let read = c.in_ok-read_version.ensures ∙ versions_read_is (stored_in m) (versions_as m.versions) r in
    let step : new ≡ with_stored (kept_in m) (applied (stored_in m) r) (versions_read (stored_in m) (versions_as m.versions) r) =
    c.in_ok-apply.ensures.kept ∙ ap (with_stored (kept_in m) (applied (stored_in m) r)) read in
    let durable = sym (ap (λ (j : NodeState). j.stored) step) in
    record {
      stored =
          step
          ∙ ap (λ (j : NodeState). with_stored j (applied j.stored r) (versions_read j.stored j.versions r)) c.loop-item.invariant.stored
          ∙ ap (λ s. with_stored k s (versions_read (stored_by k.stored (take i rs)) (versions_in k.stored k.versions (take i rs)) r)) (sym (stored_more k.stored rs i r low is))
          ∙ ap (with_stored k (stored_by k.stored (take (i + 1) rs))) (sym (versions_more k.stored k.versions rs i r low is));
      idle = ap (λ (j : NodeState). j.owns) step ∙ c.loop-item.invariant.idle;
      follow = subst (λ s. MayAllFollow s (drop (i + 1) rs)) durable (follow_then (stored_in m) rs i r low is c.loop-item.invariant.follow);
      room = subst (λ s. AllHaveRoom c.args.self.now.place.undo s (drop (i + 1) rs)) durable (room_then c.args.self.now.place.undo (stored_in m) rs i r low is c.loop-item.invariant.room);
      place = c.in_ok-apply.ensures.place ∙ c.loop-item.invariant.place;
    }
