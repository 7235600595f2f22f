use Rattle.std.proofs.Common.{◌≡◌, ℕ, ◌+◌, Option, Some, None, position, take, drop, sym, ap, subst, ◌∙◌}
use Rattle.std.specs.Option.{option_map}
use Rattle.redo_record.specs.declared.durable.KeptRow.{KeptRow}
use Rattle.redo_record.specs.Order.{AreInOrder}
use Rattle.redo_record.specs.Leaving.{leaves}
use Rattle.redo_record.proofs.InOrder.{take_in_order}
use Rattle.redo_record.proofs.Searched.{searched, leaves_only}
use Rattle.redo_record.proofs.search.position_of.Goals as goal

pub start_of-start-requires : goal.start_of-start-requires
start_of-start-requires c = subst AreInOrder (sym c.split_at.ensures.front) (take_in_order c.place_of.result c.args.rows.now c.requires)

pub returns-in-None : goal.returns-in-None
returns-in-None c =
    let b = c.args.me.now in
    let p = leaves c.args.leaving b in
    let n = c.start_of-start.result in
    let all = searched b p (leaves_only c.args.leaving b) c.split_at.result.0.now n c.args.rows.now c.requires
    (c.split_at.ensures.front ∙ ap (λ m. take m c.args.rows.now) c.place_of.ensures.first) c.start_of-start.ensures.first c.start_of-start.ensures.within in
    sym (all ∙ ap (λ ks. option_map (λ i. n + i) (position p ks)) (sym c.split_at-2.ensures.back) ∙ ap (option_map (λ i. n + i)) (sym c.position_in.ensures ∙ c.in-None.is))

pub returns-in-Some : goal.returns-in-Some
returns-in-Some c =
    let b = c.args.me.now in
    let p = leaves c.args.leaving b in
    let n = c.start_of-start.result in
    let all = searched b p (leaves_only c.args.leaving b) c.split_at.result.0.now n c.args.rows.now c.requires
    (c.split_at.ensures.front ∙ ap (λ m. take m c.args.rows.now) c.place_of.ensures.first) c.start_of-start.ensures.first c.start_of-start.ensures.within in
    sym (all ∙ ap (λ ks. option_map (λ i. n + i) (position p ks)) (sym c.split_at-2.ensures.back) ∙ ap (option_map (λ i. n + i)) (sym c.position_in.ensures ∙ c.in-Some.is))
