use Rattle.std.proofs.Common.{◌-◌, ℕ, get_or, slice_set, ap, ◌∙◌}
use Rattle.world.specs.Started.{TriedFrom}
use Rattle.world.proofs.SlotLemmas.{read_at, set_at}
use Rattle.world.proofs.TryLemmas.{on_ok, tries_set}
use Rattle.world.proofs.starting.try_at.Goals as goal

pub start-requires : goal.start-requires
start-requires c =
    let slot = c.index_mut.result.now in
    record { ready = c.requires.ready slot (read_at c.args.slots.now.items c.args.node slot c.requires.there.0 c.requires.there.1 (c.index_mut.ensures.value ∙ ap (λ (k : ℕ). get_or c.args.slots.now.items (k - 1) slot) c.from.ensures)) }

pub returns : goal.returns
returns c =
    let slots = c.args.slots.now.items in
    let n = c.args.node in
    let slot = c.index_mut.result.now in
    on_ok c.start.result (TriedFrom c.args.place slot c.start.new.self) _ c.start.ensures.tried (λ tried.
    tries_set c.args.place n slots slot c.start.new.self (read_at slots n slot c.requires.there.0 c.requires.there.1 (c.index_mut.ensures.value ∙ ap (λ (k : ℕ). get_or slots (k - 1) slot) c.from.ensures)) tried
    _ (ap (λ (k : ℕ). slice_set slots (k - 1) c.start.new.self) c.from.ensures ∙ set_at slots n c.start.new.self c.requires.there.0))
