use Rattle.std.proofs.Common.{◌≡◌, List, [], ◌∷◌, ◌++◌, None, Some, ◌+◌, cond, length, is_ok, sym, ap, subst, ◌∙◌}
use Rattle.std.specs.Map.{lookup}
use Rattle.dtx_values.specs.declared.row.Change.{Change}
use Rattle.sql_eval.specs.Rows.{change_length}
use Rattle.row_store.specs.Own.{changes_length}
use Rattle.row_store.specs.Kept.{last_place, AreIndexed}
use Rattle.row_store.proofs.Places.{found_as, indexed_more}
use Rattle.row_store.proofs.MadeLaws.{made_more}
use Rattle.row_store.proofs.made.MadeChanges.push.Goals as goal

pub invariant_of-self-3 : goal.invariant_of-self-3
invariant_of-self-3 c =
    let made = c.self.inside.made.items in
    let change = c.args.change in
    let next = c.in_ok-next.next in
    let reserved : c.try_reserve.new.self.items ≡ made = c.in_ok-try_reserve.ensures.items in
    let room : c.try_reserve-2.new.self.items ≡ c.self.inside.earlier.items = c.in_ok-try_reserve-2.ensures.items in
    let place : c.len.result ≡ length made = c.len.ensures ∙ c.try_reserve.new.self.ok.0 ∙ ap length reserved in
    let pushed : c.push.new.self.items ≡ made ++ change ∷ [] =
    c.push.ensures.items ∙ (λ i. cond (is_ok (c.unwrap.ensures i)) (reserved i ++ change ∷ []) (reserved i)) in
    let linked : c.push-2.new.self.items ≡ c.self.inside.earlier.items ++ next.earlier ∷ [] =
    c.push-2.ensures.items ∙ (λ i. cond (is_ok (c.unwrap-2.ensures i)) (room i ++ next.earlier ∷ []) (room i)) in
    subst (λ (cs : List Change). AreIndexed c.insert.new.self.entries c.push-2.new.self.items cs next.bytes) (sym pushed)
    (made_more made change c.self.inside.places.entries c.insert.new.self.entries c.self.inside.earlier.items c.push-2.new.self.items next.earlier
    c.self.inside.bytes next.bytes c.self.invariant
    (indexed_more next.key change c.in_ok-next.ensures.table c.in_ok-next.ensures.key c.self.inside.places.entries c.insert.new.self.entries made
    (λ q. c.in_ok-insert.ensures.updates.0 q ∙ ap (λ n. cond (found_as next.key q) (Some n) (lookup (found_as q) c.self.inside.places.entries)) place)
    c.self.invariant.indexed)
    (c.in_ok-next.ensures.earlier ∙ ap (λ cs. last_place 0 cs change.table change.key None) reserved) linked
    (c.in_ok-next.ensures.bytes ∙ ap (λ cs. changes_length cs + change_length change) reserved))
