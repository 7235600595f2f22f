use Rattle.std.proofs.Common.{◌≡◌, ℕ, List, Some, length, replicate, refl, ap, subst, ◌∙◌, arith}
use Rattle.node_rules.specs.Data.{Place}
use Rattle.node_rules.specs.Words.{numbered}
use Rattle.world.specs.Slots.{AreMade}
use Rattle.world.proofs.NewLemmas.{new_linked, new_orders}
use Rattle.world.proofs.world.World.new.Goals as goal

pub made_all-requires : goal.made_all-requires
made_all-requires c = λ n p at. (c.requires.script.each n p (subst (λ (ps : List Place). numbered ps n ≡ Some p) c.as_slice.ensures at)).undo.1

pub returns-clause-linked : goal.returns-clause-linked
returns-clause-linked c =
    let slice = c.as_slice.ensures in
    let count : length c.in_ok-slots.slots.items ≡ length c.args.places = c.in_ok-slots.ensures.count ∙ ap (λ (ps : List Place). length ps) slice in
    let len : c.len.result ≡ length c.args.places = omega (arith, count) in
    let len2 : length c.args.places ≡ c.len-2.result = omega (arith, count) in
    new_linked c.args.places c.args.commands _ c.requires.script c.requires.few c.requires.in_range c.requires.spelled
    (record {
      trace = c.new-2.ensures;
      count = count;
      made = subst (λ (ps : List Place). AreMade ps c.in_ok-slots.slots.items) slice c.in_ok-slots.ensures.made;
      boots = c.in_ok-boots.ensures ∙ ap (λ (n : ℕ). replicate n 1) len;
      net = c.new-3.ensures;
      running = refl;
      losses = c.new-4.ensures.items;
      to_stop = refl;
      run_report = c.in_ok-run_report.ensures c.args.places len2;
      shown = c.new-5.ensures;
    })

pub returns-clause-orders : goal.returns-clause-orders
returns-clause-orders c =
    new_orders c.args.places c.args.commands _ _ c.new-2.ensures (subst (λ (ps : List Place). AreMade ps c.in_ok-slots.slots.items) c.as_slice.ensures c.in_ok-slots.ensures.made)
