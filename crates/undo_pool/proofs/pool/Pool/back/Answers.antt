use Rattle.std.proofs.Common.{rules, ◌≡◌, ◌+◌, ◌-◌, ◌≤◌, ◌<◌, ◌++◌, ℕ, List, [], length, take, drop, sym, ◌∙◌, ap, arith, length-drop}
use Rattle.std.proofs.lemmas.List.{drop_all, take_all, length-take, length-take-le, append-nil}
use lib.ListN.{get_or}
use Rattle.undo_pool.specs.Extents.{Held, stream_of, part_of}
use Rattle.undo_pool.proofs.Windows.{stream_step, one_part_more}
use Rattle.undo_pool.proofs.pool.Pool.back.Goals as goal

pub loop-extent-preserved : goal.loop-extent-preserved
loop-extent-preserved c =
    let xs = c.args.self.now.used in
    let o = c.args.owner in
    let out = c.loop-extent.out in
    let i = c.loop-extent.extent-index in
    let x = c.extent-item.result in
    let within : i < length xs = search rules in
    let found : x ≡ get_or xs i x = search rules in
    let ys = stream_of (drop (i + 1) xs) o in
    let b = c.part_of-bytes.result.now in
    let own : b ≡ part_of x o = c.part_of-bytes.ensures in
    let step : stream_of (drop i xs) o ≡ b ++ ys = stream_step xs o i x within found ∙ ap (λ (l : List ℕ). l ++ ys) (sym own) in
    let new = c.write.new.out in
    let some = c.part-some.result.now in
    let f = c.loop-extent.filled in
    let skip = c.loop-extent.skip in
    let more = one_part_more out new b ys some f skip c.loop-extent.invariant.within c.part-some.ensures c.write.ensures in
    let end = f + length some in
    record {
      same = more.0 ∙ c.loop-extent.invariant.same;
      within = more.1;
      bytes = ap (λ (n : ℕ). take end new ++ take (length new - end) (drop n ys)) c.saturating_sub-skip.ensures ∙ more.2
          ∙ ap (λ (l : List ℕ). take f out ++ take (length out - f) (drop skip l)) (sym step) ∙ c.loop-extent.invariant.bytes
          ∙ ap (λ (n : ℕ). take n (drop c.args.at (stream_of xs o))) (sym more.0);
    }

pub returns : goal.returns
returns c =
    let xs = c.args.self.now.used in
    let o = c.args.owner in
    let out = c.loop-extent.out in
    let f = c.loop-extent.filled in
    let i = c.loop-extent.extent-index in
    let want = take (length out) (drop c.args.at (stream_of xs o)) in
    let no_more : stream_of (drop i xs) o ≡ [] = ap (λ (l : List Held). stream_of l o) (drop_all i xs (search rules)) in
    let rest : take (length out - f) (drop c.loop-extent.skip (stream_of (drop i xs) o)) ≡ [] =
    ap (λ (l : List ℕ). take (length out - f) (drop c.loop-extent.skip l)) no_more ∙ ap (λ (l : List ℕ). take (length out - f) l) (drop_all c.loop-extent.skip [] (omega arith)) ∙ take_all (length out - f) [] (omega arith) in
    let all : take f out ≡ want = sym (append-nil (take f out)) ∙ ap (λ (l : List ℕ). take f out ++ l) (sym rest) ∙ c.loop-extent.invariant.bytes in
    let long : length want ≡ length out = length-take-le (length out) (drop c.args.at (stream_of xs o)) (omega (arith, length-drop c.args.at (stream_of xs o), c.requires, c.loop-extent.invariant.same)) in
    let full : length out ≤ f = omega (arith, ap length all, long, length-take f out) in
    sym (take_all f out full) ∙ all ∙ ap (λ (n : ℕ). take n (drop c.args.at (stream_of xs o))) c.loop-extent.invariant.same
