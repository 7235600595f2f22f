use Rattle.std.proofs.Common.{rules, ◌≡◌, ◌<◌, ◌≤◌, List, length, take, slice_set, slice_index_or, subst, sym, ap, ◌∙◌, arith}
use Rattle.std.proofs.lemmas.List.{length-take-le}
use Rattle.undo_pool.specs.Extents.{Held, extent_size, IsLast}
use Rattle.undo_pool.proofs.Packed.{last_fits, packed_last, fit_last}
use Rattle.undo_pool.proofs.pool.Pool.shorten.Goals as goal

pub invariant_of-self : goal.invariant_of-self
invariant_of-self c =
    let place = c.args.place in
    let keep = c.args.keep in
    let xs = c.self.inside.used.items in
    let same : xs ≡ c.args.self.now.used = ap (λ p. p.used) c.self.view_is in
    let last : IsLast xs place = subst (λ (l : List Held). IsLast l place) (sym same) c.requires.last in
    let x = c.index_mut.result.now in
    let found : x ≡ last.it = c.index_mut.ensures.value ∙ last.at x in
    let cut : c.truncate.new.self ≡ record last.it { bytes = take keep last.it.bytes } = c.truncate.ensures ∙ ap (λ (y : Held). record y { bytes = take keep y.bytes }) found in
    let is : slice_set xs place c.truncate.new.self ≡ slice_set xs place (record last.it { bytes = take keep last.it.bytes }) = ap (λ (y : Held). slice_set xs place y) cut in
    let within : keep ≤ length last.it.bytes = subst (λ (y : Held). keep ≤ length y.bytes) (last.at x) (subst (λ (l : List Held). keep ≤ length (slice_index_or l place x).bytes) (sym same) (c.requires.within x)) in
    let long : length (take keep last.it.bytes) ≡ keep = length-take-le keep last.it.bytes within in
    let fitted = last_fits xs place last c.self.invariant.3 in
    let fits : length (take keep last.it.bytes) ≤ extent_size = omega (arith, long, within, fitted) in
    let some : 0 < length (take keep last.it.bytes) = omega (arith, long, c.requires.some) in (
      search rules,
      search rules,
      search rules,
      fit_last xs _ place (record last.it { bytes = take keep last.it.bytes }) c.self.invariant.3 fits is,
      packed_last xs _ place last (take keep last.it.bytes) c.self.invariant.4 c.self.invariant.3 some fits is,
    )
