use Rattle.std.proofs.Common.{◌≡◌, [], take, drop}
use Rattle.node_rules.specs.Records.{stored_by, versions_in}
use Rattle.node_memory.specs.Versions.{versions_as}
use Rattle.node_memory.specs.Parts.{stored_in, kept_in}
use Rattle.node_memory.specs.After.{with_stored}
use Rattle.node_memory.specs.Room.{AllHaveRoom}
use Rattle.node_ready_laws.specs.Following.{MayAllFollow}
use Rattle.node_memory.proofs.memory.Memory.replay.Given as goal

abbrev pub invariant-loop-item : goal.invariant-loop-item
invariant-loop-item l = record {
  stored : kept_in l.self ≡ with_stored (kept_in l.initial.self) (stored_by (stored_in l.initial.self) (take l.item-index l.records)) (versions_in (stored_in l.initial.self) (versions_as l.initial.self.versions) (take l.item-index l.records));
  idle : l.self.store.owns ≡ [];
  follow : MayAllFollow (stored_in l.self) (drop l.item-index l.records);
  room : AllHaveRoom l.initial.self.place.undo (stored_in l.self) (drop l.item-index l.records);
  place : l.self.place ≡ l.initial.self.place;
}
