use Rattle.std.proofs.Common.{rules, ◌≡◌, remove, List, subst, sym, ap}
use Rattle.undo_pool.specs.Extents.{Held, IsLast, AllFit, ArePacked}
use Rattle.undo_pool.proofs.Packed.{packed_less, fit_less}
use Rattle.undo_pool.proofs.pool.Pool.let_go.Goals as goal

pub invariant_of-self : goal.invariant_of-self
invariant_of-self c =
    let xs = c.self.inside.used.items in
    let zs = c.remove-extent.new.self.items in
    let same : xs ≡ c.args.self.now.used = ap (λ p. p.used) c.self.view_is in
    let last : IsLast xs c.args.place = subst (λ (l : List Held). IsLast l c.args.place) (sym same) c.requires in
    let is : zs ≡ remove xs c.args.place = search rules in
    (search rules, search rules, search rules, subst AllFit (sym is) (fit_less xs c.args.place c.self.invariant.3), subst ArePacked (sym is) (packed_less xs c.args.place last c.self.invariant.4 c.self.invariant.3))
