use Rattle.std.proofs.Common.{◌≡◌, ◌+◌, List, length, sym, ◌∙◌, ap, subst, arith, remove}
use Rattle.std.proofs.lemmas.List.Edits.{length-remove}
use Rattle.undo_pool.specs.Extents.{Held, count_of, OthersKeep}
use Rattle.undo_pool.proofs.Streams.{holds_nothing}
use Rattle.undo_pool.proofs.Edits.{without_last_of, keep_on}
use Rattle.undo_pool.proofs.Packed.{counted}
use Rattle.undo_pool.proofs.pool.Pool.release.Goals as goal

pub loop-place-preserved : goal.loop-place-preserved
loop-place-preserved c =
    let o = c.args.owner in
    let xs = c.loop-place.self.used in
    let place = c.in-Some.place in
    let gone = without_last_of xs o place c.in-Some.ensures in
    let used = c.let_go.ensures.used in
    let count : count_of c.let_go.new.self.used o + 1 ≡ count_of xs o = ap (λ (l : List Held). count_of l o + 1) used ∙ sym gone.1 in
    let fewer = length-remove xs place c.in-Some.ensures.here.within in
    record {
      free = omega (arith, c.let_go.ensures.free, count, c.loop-place.invariant.free);
      all = omega (arith, c.let_go.ensures.free, ap length used, fewer, c.loop-place.invariant.all);
      others = subst (λ (l : List Held). OthersKeep c.args.self.now.used l o) (sym used) (keep_on c.args.self.now.used xs (remove xs place) o c.loop-place.invariant.others gone.3);
    }

pub returns-clause-bytes : goal.returns-clause-bytes
returns-clause-bytes c = holds_nothing c.loop-place.self.used c.args.owner c.in_default.ensures

pub returns-clause-free : goal.returns-clause-free
returns-clause-free c = omega (arith, c.loop-place.invariant.free, c.in_default.ensures, counted c.args.self.now.used c.are_packed.ensures c.args.owner)

pub returns-clause-others : goal.returns-clause-others
returns-clause-others c other is_other = (c.loop-place.invariant.others other is_other).0
