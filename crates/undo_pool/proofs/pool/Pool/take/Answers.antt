use Rattle.std.proofs.Common.{rules, ◌≡◌, ◌∷◌, ◌++◌, [], ap, ◌∙◌}
use Rattle.undo_pool.specs.Extents.{room_of}
use Rattle.undo_pool.proofs.Packed.{packed_more, fit_more}
use Rattle.undo_pool.proofs.pool.Pool.take.Goals as goal

pub invariant_of-self : goal.invariant_of-self
invariant_of-self c =
    let o = c.args.owner in
    let more = c.args.bytes.now in
    let xs = c.self.inside.used.items in
    let zs = c.push-2.new.self.items in
    let is : zs ≡ xs ++ (record { owner = o; bytes = more }) ∷ [] = search rules in
    let full : room_of xs o ≡ 0 = ap (λ p. room_of p.used o) c.self.view_is ∙ c.requires.full in
    (search rules, search rules, search rules, fit_more xs zs o more c.self.invariant.3 c.requires.fits is, packed_more xs zs o more c.self.invariant.4 full c.requires.some c.requires.fits is)
