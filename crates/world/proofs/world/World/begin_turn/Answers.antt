use Rattle.std.proofs.Common.{◌-◌, ℕ, get_or, ap, sym, subst, ◌∙◌, Option}
use Rattle.node_rules.specs.NodeState.{NodeState}
use Rattle.world.specs.Slots.{kept_in_site}
use Rattle.world.specs.Turns.{CallerIs}
use Rattle.world.proofs.SlotLemmas.{read_at}
use Rattle.world.proofs.world.World.begin_turn.Goals as goal

pub returns : goal.returns
returns c =
    let slots = c.args.self.now.slots.items in
    let slot = c.index-slot.result.now in
    let found = read_at slots c.args.node slot c.requires.there.0 c.requires.there.1 (c.index-slot.ensures ∙ ap (λ (k : ℕ). get_or slots (k - 1) slot) c.from.ensures) in
    record {
      linked = c.requires.linked;
      orders = c.requires.orders;
      turns = c.requires.turns;
      deliveries = c.requires.deliveries;
      coming = c.requires.due;
      took = c.requires.took;
      caller = subst (λ (o : Option NodeState). CallerIs c.args.incoming.now o c.caller.result) (sym (ap kept_in_site found)) c.caller.ensures;
    }
