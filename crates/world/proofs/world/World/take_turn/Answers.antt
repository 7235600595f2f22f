use Rattle.std.proofs.Common.{◌-◌, ℕ, List, get_or, slice_set, refl, ap, subst, ◌∙◌}
use Rattle.std.proofs.lemmas.Result.{IfOk-weaker, IfErr-weaker}
use Rattle.node_rules.specs.Points.{Point}
use Rattle.node_disk.specs.declared.effects.DurableTurn.{DurableTurn}
use Rattle.node_disk.specs.declared.err.TurnErr.{TurnErr}
use Rattle.world.specs.Served.{HasFailed, HasServed}
use Rattle.world.proofs.SlotLemmas.{read_at, set_at}
use Rattle.world.proofs.TakeLemmas.{coming_served, failed_during, whole_during}
use Rattle.world.proofs.world.World.take_turn.Goals as goal

pub serve-requires : goal.serve-requires
serve-requires c =
    let w = c.args.self.now in
    let n = c.args.begun.node in
    let ready = c.requires.readied in
    let slot = c.index_mut-slot.result.now in
    let there = c.requires.there in
    coming_served w n c.args.incoming ready.linked ready.turns ready.coming slot
    (read_at w.slots.items n slot there.0 there.1 (c.index_mut-slot.ensures.value ∙ ap (λ (k : ℕ). get_or w.slots.items (k - 1) slot) c.from.ensures))

pub returns-clause-whole : goal.returns-clause-whole
returns-clause-whole c =
    let w = c.args.self.now in
    let n = c.args.begun.node in
    let ready = c.requires.readied in
    let slot = c.index_mut-slot.result.now in
    let there = c.requires.there in
    let found = read_at w.slots.items n slot there.0 there.1 (c.index_mut-slot.ensures.value ∙ ap (λ (k : ℕ). get_or w.slots.items (k - 1) slot) c.from.ensures) in
    let set = ap (λ (k : ℕ). slice_set w.slots.items (k - 1) c.serve.new.slot) c.from.ensures ∙ set_at w.slots.items n c.serve.new.slot there.0 in
    IfOk-weaker c.serve.result (HasServed slot c.serve.new.slot c.args.incoming c.points-points.result.now) _
    (λ (e : DurableTurn) (served : HasServed slot c.serve.new.slot c.args.incoming c.points-points.result.now e). whole_during w _ c.args.begun c.args.incoming ready slot c.serve.new.slot found refl set e (subst (λ (xs : List Point). HasServed slot c.serve.new.slot c.args.incoming xs e) c.points-points.ensures served)) c.serve.ensures.served

pub returns-clause-cut : goal.returns-clause-cut
returns-clause-cut c =
    let w = c.args.self.now in
    let n = c.args.begun.node in
    let ready = c.requires.readied in
    let slot = c.index_mut-slot.result.now in
    let there = c.requires.there in
    let found = read_at w.slots.items n slot there.0 there.1 (c.index_mut-slot.ensures.value ∙ ap (λ (k : ℕ). get_or w.slots.items (k - 1) slot) c.from.ensures) in
    let set = ap (λ (k : ℕ). slice_set w.slots.items (k - 1) c.serve.new.slot) c.from.ensures ∙ set_at w.slots.items n c.serve.new.slot there.0 in
    IfErr-weaker c.serve.result (HasFailed slot c.serve.new.slot c.args.incoming c.points-points.result.now) _
    (λ (e : TurnErr) (failed : HasFailed slot c.serve.new.slot c.args.incoming c.points-points.result.now e). failed_during w _ c.args.begun c.args.incoming ready slot c.serve.new.slot found refl set e (subst (λ (xs : List Point). HasFailed slot c.serve.new.slot c.args.incoming xs e) c.points-points.ensures failed)) c.serve.ensures.failed
