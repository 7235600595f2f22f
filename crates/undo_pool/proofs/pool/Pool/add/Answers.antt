use Rattle.std.proofs.Common.{rules, ◌≡◌, ◌<◌, ◌++◌, ◌∷◌, [], ℕ, List, length, sym, ◌∙◌, ap, arith, append_assoc, length-append}
use Rattle.undo_pool.specs.Extents.{extent_size, stream_of}
use Rattle.undo_pool.proofs.Edits.{with_more, keep_on}
use Rattle.undo_pool.proofs.pool.Pool.add.Goals as goal

pub take-requires-clause-full : goal.take-requires-clause-full
take-requires-clause-full c = c.loop-rest.invariant.full (search rules)

pub loop-rest-preserved : goal.loop-rest-preserved
loop-rest-preserved c =
    let o = c.args.owner in
    let xs = c.loop-rest.self.used in
    let zs = c.take.new.self.used in
    let some = c.split_at.result.0.now in
    let later = c.split_at.result.1.now in
    let with = with_more xs zs o some c.take.ensures.used in
    let whole : c.loop-rest.rest.now ≡ some ++ later = search rules in
    let long : 0 < length later → length some ≡ extent_size = λ more. search rules in
    let one_more = length-append xs ((record { owner = o; bytes = some }) ∷ []) in
    record {
      fits = search rules;
      full = λ more. omega (arith, with.2, long more);
      bytes = ap (λ (l : List ℕ). l ++ later) with.0 ∙ append_assoc (stream_of xs o) some later ∙ ap (λ (l : List ℕ). stream_of xs o ++ l) (sym whole) ∙ c.loop-rest.invariant.bytes;
      count = omega (arith, c.take.ensures.free, with.1, c.loop-rest.invariant.count);
      all = omega (arith, c.take.ensures.free, ap length c.take.ensures.used ∙ one_more, c.loop-rest.invariant.all);
      others = keep_on c.args.self.now.used xs zs o c.loop-rest.invariant.others with.3;
    }
