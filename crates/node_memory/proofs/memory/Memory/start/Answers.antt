use Rattle.std.proofs.Common.{◌≡◌, max, sym, ap, subst, ◌∙◌, rules}
use Rattle.std.specs.Prelude.{fold}
use Rattle.node_rules.specs.NodeState.{NodeState}
use Rattle.read_only_tx.specs.Versions.{versions_from}
use Rattle.node_rules.specs.Records.{nothing_stored, stored_by, versions_in}
use Rattle.node_rules.specs.Turn.{with_doubt_of, kept_by}
use Rattle.node_memory.specs.Parts.{kept_in}
use Rattle.node_memory.specs.After.{with_stored}
use Rattle.node_memory.specs.Room.{AllHaveRoom}
use Rattle.node_ready_laws.specs.Following.{MayAllFollow}
use Rattle.node_memory.specs.Doubts.{with_keys_of}
use Rattle.node_memory.proofs.DoubtLaws.{locks_at_start}
use Rattle.node_memory.proofs.StartLaws.{started}
use Rattle.node_memory.proofs.memory.Memory.start.Goals as goal

pub replay-requires-clause-idle : goal.replay-requires-clause-idle
replay-requires-clause-idle c = ap (λ (k : NodeState). k.owns) c.requires.none

pub replay-requires-clause-follow : goal.replay-requires-clause-follow
replay-requires-clause-follow c = subst (λ (k : NodeState). MayAllFollow k.stored c.args.records.now) (sym c.requires.none) c.requires.follow

pub replay-requires-clause-room : goal.replay-requires-clause-room
replay-requires-clause-room c = subst (λ (k : NodeState). AllHaveRoom c.args.self.now.place.undo k.stored c.args.records.now) (sym c.requires.none) c.requires.room

pub returns-clause-kept : goal.returns-clause-kept
returns-clause-kept c =
    let rs = c.args.records.now in
    let m = kept_in c.replay.new.self in
    let is : m ≡ with_stored (kept_by nothing_stored (versions_from 0)) (stored_by nothing_stored rs) (versions_in nothing_stored (versions_from 0) rs) =
    c.in_ok-replay.ensures.kept ∙ ap (λ (k : NodeState). with_stored k (stored_by k.stored rs) (versions_in k.stored k.versions rs)) c.requires.none in
    let doubts : c.as_slice.result.now ≡ c.in_ok-doubts.doubts.items = search rules in
    let keys = c.in_ok-hold_all.ensures
    ∙ ap (λ ds. fold (λ held r. with_keys_of held r.now) m.locks ds) doubts
    ∙ ap (λ ls. fold (λ held r. with_keys_of held r.now) ls c.in_ok-doubts.doubts.items) (ap (λ (k : NodeState). k.locks) is)
    ∙ locks_at_start (λ r. r.now) c.in_ok-doubts.doubts.items rs c.in_ok-doubts.ensures
    ∙ sym (ap (λ (k : NodeState). fold with_doubt_of k.locks k.stored.doubts) is) in
    started m rs c.meet.new.self c.hold_all.new.locks is (c.meet.ensures ∙ ap (max m.clock) c.now-scn.ensures) keys
