use Rattle.std.proofs.Common.{◌≡◌, ◌<◌, ◌≤◌, ◌+◌, ℕ, suc, Some, List, [], ◌∷◌, ◌++◌, length, length-append, take, ap, sym, subst, ◌∙◌, arith}
use Rattle.std.proofs.lemmas.List.{take_more}
use Rattle.std.proofs.lemmas.Option.{slice_get-get_or}
use Rattle.std.specs.List.{slice_get}
use Rattle.node_rules.specs.Data.{Place}
use Rattle.world.specs.declared.slot.NodeSlot.{NodeSlot}
use Rattle.world.specs.Slots.{AreMade, IsMade}
use Rattle.world.proofs.BeginLemmas.{made_more}
use Rattle.world.proofs.slots.made_all.Goals as goal

pub made-requires : goal.made-requires
made-requires c =
    let i = c.loop-place.place-index in
    let places = c.args.places.now in
    let place = c.place-item.result in
    let inside : i < length places = omega arith in
    let there : slice_get places i ≡ Some place = slice_get-get_or places i place inside ∙ ap (λ (p : Place). Some p) (sym c.place-item.is) in
    subst (λ (p : Place). p.undo ≤ 1024) (sym c.in_ok-place.ensures) (c.requires (suc i) place there)

pub loop-place-preserved : goal.loop-place-preserved
loop-place-preserved c =
    let i = c.loop-place.place-index in
    let places = c.args.places.now in
    let place = c.place-item.result in
    let slot = c.in_ok-made.field-0 in
    let inside : i < length places = omega arith in
    let is_made : IsMade c.in_ok-place.place slot = record { kept = c.in_ok-made.ensures.kept; runs = c.in_ok-made.ensures.runs; holds = c.in_ok-made.ensures.holds; starts = c.in_ok-made.ensures.starts; orders = c.in_ok-made.ensures.orders } in
    let one : IsMade place slot = subst (λ (p : Place). IsMade p slot) c.in_ok-place.ensures is_made in
    let more : take (i + 1) places ≡ take i places ++ place ∷ [] = take_more places i place inside ∙ ap (λ (p : Place). take i places ++ p ∷ []) (sym c.place-item.is) in
    let count : length c.push.new.self.items ≡ length c.loop-place.slots.items + 1 = ap (λ (slots : List NodeSlot). length slots) c.in_ok-push.ensures.items ∙ length-append c.loop-place.slots.items (slot ∷ []) in (
      count ∙ ap (λ (n : ℕ). n + 1) c.loop-place.invariant.0,
      subst (λ (ps : List Place). AreMade ps c.push.new.self.items) (sym more)
          (subst (λ (slots : List NodeSlot). AreMade (take i places ++ place ∷ []) slots) (sym c.in_ok-push.ensures.items) (made_more (take i places) c.loop-place.slots.items place slot c.loop-place.invariant.1 one)),
    )
