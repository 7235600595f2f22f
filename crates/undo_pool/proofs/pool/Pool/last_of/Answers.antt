use Rattle.std.proofs.Common.{◌≡◌, ◌-◌, ◌<◌, ℕ, List, suc, sym, ◌∙◌, ap, subst, arith, drop, length}
use Rattle.undo_pool.specs.Extents.{Held, count_of}
use lib.ListN.{get_or}
use Rattle.std.proofs.lemmas.List.{get_or_default}
use Rattle.undo_pool.proofs.Edits.{splits}
use Rattle.undo_pool.proofs.pool.Pool.last_of.Goals as goal

pub returns-then-owner : goal.returns-then-owner
returns-then-owner c =
    let xs = c.args.self.now.used in
    let same : c.self.inside.used.items ≡ xs = ap (λ p. p.used) c.self.view_is in
    let place = c.loop-place.place - 1 in
    let within : place < length xs = omega (arith, c.loop-place.invariant.within, c.loop-place-test.true) in
    let next : c.loop-place.place ≡ suc place = omega (arith, c.loop-place-test.true) in
    let found : c.index.result.now ≡ get_or xs place c.index.result.now = c.index.ensures ∙ ap (λ (l : List Held). get_or l place c.index.result.now) same in
    let owned : c.index.result.now.owner ≡ c.args.owner = sym c.owner.ensures ∙ c.if-owner.true in
    record {
      here = record {
        it = c.index.result.now;
        within = within;
        at = λ x. get_or_default xs place x c.index.result.now within ∙ sym (found);
        stands = splits xs place c.index.result.now within found;
        last = subst (λ (n : ℕ). count_of (drop n xs) c.index.result.now.owner ≡ 0) next (subst (λ (o : ℕ). count_of (drop c.loop-place.place xs) o ≡ 0) (sym owned) c.loop-place.invariant.none);
      };
      owned = owned;
    }
