use Rattle.std.proofs.Common.{rules, slice_set, ◌≡◌, ◌+◌, ◌-◌, ℕ, List, length, take, remove, sym, ◌∙◌, ap, subst, arith, length-append}
use Rattle.std.proofs.lemmas.List.{take-append-le, length-take-le, length-set}
use Rattle.std.proofs.lemmas.List.Edits.{length-remove}
use Rattle.undo_pool.specs.Extents.{Held, stream_of, count_of, IsLastOf, OthersKeep}
use Rattle.undo_pool.proofs.Streams.{holds_nothing}
use Rattle.undo_pool.proofs.Edits.{without_last_of, with_last_of, set_there, keep_on}
use Rattle.undo_pool.proofs.Windows.{shorter}
use Rattle.undo_pool.proofs.Packed.{counted}
use Rattle.undo_pool.proofs.pool.Pool.cut.Goals as goal

pub shorten-requires-clause-within : goal.shorten-requires-clause-within
shorten-requires-clause-within c x =
    let xs = c.loop-more.self.used in
    let last : IsLastOf xs c.args.owner c.in-Some.place = c.in-Some.ensures in
    let length_is : length c.bytes-len.result.now ≡ length last.here.it.bytes = search rules in
    omega (arith, length_is, ap (λ (h : Held). length h.bytes) (last.here.at x))

pub returns-in_default : goal.returns-in_default
returns-in_default c =
    let none : length (stream_of c.loop-more.self.used c.args.owner) ≡ 0 = ap length (holds_nothing c.loop-more.self.used c.args.owner c.in_default.ensures) in
    absurd (omega (arith, none, c.loop-more.invariant.many, c.loop-more-test.true))

pub returns-clause-free : goal.returns-clause-free
returns-clause-free c =
    omega (arith, c.loop-more.invariant.free, counted c.args.self.now.used c.are_packed.ensures c.args.owner, counted c.loop-more.self.used c.are_packed-2.ensures c.args.owner)

pub returns-clause-others : goal.returns-clause-others
returns-clause-others c other is_other = (c.loop-more.invariant.others other is_other).0

pub loop-more-preserved-then-more-len : goal.loop-more-preserved-then-more-len
loop-more-preserved-then-more-len c =
    let o = c.args.owner in
    let xs = c.loop-more.self.used in
    let zs = c.shorten.new.self.used in
    let place = c.in-Some.place in
    let last : IsLastOf xs o place = c.in-Some.ensures in
    let b = last.here.it.bytes in
    let rest = stream_of (remove xs place) o in
    let length_is : length c.bytes-len.result.now ≡ length b = search rules in
    let keep = length c.bytes-len.result.now - c.loop-more.more in
    let used : zs ≡ slice_set xs place (record last.here.it { bytes = take keep b }) = set_there xs zs o place last (take keep) c.shorten.ensures.used in
    let with = with_last_of xs zs o place last (take keep b) used in
    let gone = without_last_of xs o place last in
    let before : length (stream_of xs o) ≡ length rest + length b = ap length gone.0 ∙ length-append rest b in
    let kept : length (take keep b) ≡ keep = length-take-le keep b (omega (arith, length_is)) in
    let after : length (stream_of zs o) ≡ length rest + keep = ap length with.0 ∙ length-append rest (take keep b) ∙ ap (λ (n : ℕ). length rest + n) kept in
    let many : length zs ≡ length xs = ap length used ∙ length-set xs place (record last.here.it { bytes = take keep b }) in
    record {
      many = omega (arith, after, before, length_is, c.loop-more.invariant.many, c.if-more-len.true);
      bytes = ap (λ (l : List ℕ). take c.args.keep l) with.0 ∙ shorter rest b c.args.keep keep (omega (arith, before, length_is, c.loop-more.invariant.many, c.if-more-len.true)) ∙ ap (λ (l : List ℕ). take c.args.keep l) (sym gone.0) ∙ c.loop-more.invariant.bytes;
      free = omega (arith, c.shorten.ensures.free, with.1, c.loop-more.invariant.free);
      all = omega (arith, c.shorten.ensures.free, many, c.loop-more.invariant.all);
      others = keep_on c.args.self.now.used xs zs o c.loop-more.invariant.others with.3;
    }

pub loop-more-preserved : goal.loop-more-preserved
loop-more-preserved c =
    let o = c.args.owner in
    let xs = c.loop-more.self.used in
    let zs = c.let_go.new.self.used in
    let place = c.in-Some.place in
    let last : IsLastOf xs o place = c.in-Some.ensures in
    let b = last.here.it.bytes in
    let rest = stream_of (remove xs place) o in
    let length_is : length c.bytes-len.result.now ≡ length b = search rules in
    let gone = without_last_of xs o place last in
    let used = c.let_go.ensures.used in
    let before : length (stream_of xs o) ≡ length rest + length b = ap length gone.0 ∙ length-append rest b in
    let after : stream_of zs o ≡ rest = ap (λ (l : List Held). stream_of l o) used in
    let count : count_of zs o + 1 ≡ count_of xs o = ap (λ (l : List Held). count_of l o + 1) used ∙ sym gone.1 in
    let fewer = length-remove xs place last.here.within in
    record {
      many = omega (arith, ap length after, before, length_is, c.loop-more.invariant.many, c.if-more-len.false);
      bytes = ap (λ (l : List ℕ). take c.args.keep l) after ∙ sym (take-append-le c.args.keep rest b (omega (arith, before, length_is, c.loop-more.invariant.many, c.if-more-len.false))) ∙ ap (λ (l : List ℕ). take c.args.keep l) (sym gone.0) ∙ c.loop-more.invariant.bytes;
      free = omega (arith, c.let_go.ensures.free, count, c.loop-more.invariant.free);
      all = omega (arith, c.let_go.ensures.free, ap length used, fewer, c.loop-more.invariant.all);
      others = subst (λ (l : List Held). OthersKeep c.args.self.now.used l o) (sym used) (keep_on c.args.self.now.used xs (remove xs place) o c.loop-more.invariant.others gone.3);
    }
