use Rattle.std.proofs.Common.{rules, ◌≡◌, ◌+◌, ◌<◌, ◌≤◌, ◌++◌, List, length, slice_set, slice_index_or, subst, sym, ap, ◌∙◌, arith, length-append}
use Rattle.undo_pool.specs.Extents.{Held, extent_size, IsLast}
use Rattle.undo_pool.proofs.Packed.{packed_last, fit_last}
use Rattle.undo_pool.proofs.pool.Pool.lengthen.Goals as goal

pub invariant_of-self : goal.invariant_of-self
invariant_of-self c =
    let place = c.args.place in
    let more = c.args.bytes.now in
    let xs = c.self.inside.used.items in
    let same : xs ≡ c.args.self.now.used = ap (λ p. p.used) c.self.view_is in
    let last : IsLast xs place = subst (λ (l : List Held). IsLast l place) (sym same) c.requires.last in
    let x = c.index_mut.result.now in
    let found : x ≡ last.it = c.index_mut.ensures.value ∙ last.at x in
    let filled : c.push.new.self ≡ record last.it { bytes = last.it.bytes ++ more } = c.push.ensures ∙ ap (λ (y : Held). record y { bytes = y.bytes ++ more }) found in
    let is : slice_set xs place c.push.new.self ≡ slice_set xs place (record last.it { bytes = last.it.bytes ++ more }) = ap (λ (y : Held). slice_set xs place y) filled in
    let long = length-append last.it.bytes more in
    let room : length last.it.bytes + length more ≤ extent_size = subst (λ (y : Held). length y.bytes + length more ≤ extent_size) (last.at x) (subst (λ (l : List Held). length (slice_index_or l place x).bytes + length more ≤ extent_size) (sym same) (c.requires.fits x)) in
    let fits : length (last.it.bytes ++ more) ≤ extent_size = omega (arith, long, room) in
    let some : 0 < length (last.it.bytes ++ more) = omega (arith, long, c.requires.some) in (
      search rules,
      search rules,
      search rules,
      fit_last xs _ place (record last.it { bytes = last.it.bytes ++ more }) c.self.invariant.3 fits is,
      packed_last xs _ place last (last.it.bytes ++ more) c.self.invariant.4 c.self.invariant.3 some fits is,
    )
