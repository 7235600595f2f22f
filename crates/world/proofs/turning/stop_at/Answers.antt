use Rattle.std.proofs.Common.{◌-◌, ℕ, get_or, slice_set, ap, ◌∙◌}
use Rattle.world.proofs.CutLemmas.{stops_set}
use Rattle.world.proofs.SlotLemmas.{read_at, set_at}
use Rattle.world.proofs.turning.stop_at.Goals as goal

pub returns : goal.returns
returns c =
    let slots = c.args.slots.now.items in
    let n = c.args.node in
    let slot = c.index_mut.result.now in
    stops_set n slots slot c.stop.new.self (read_at slots n slot c.requires.0 c.requires.1 (c.index_mut.ensures.value ∙ ap (λ (k : ℕ). get_or slots (k - 1) slot) c.from.ensures))
    (record { kept = c.stop.ensures.kept; bytes = c.stop.ensures.bytes; starts = c.stop.ensures.starts })
    (record { orders = c.stop.ensures.power })
    _ (ap (λ (k : ℕ). slice_set slots (k - 1) c.stop.new.self) c.from.ensures ∙ set_at slots n c.stop.new.self c.requires.0)
