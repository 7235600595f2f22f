use Rattle.std.proofs.Common.{◌≡◌, ◌-◌, ◌<◌, List, take, length, sym, ap, ◌∙◌, arith}
use Rattle.std.proofs.Math.Seq.{take-length}
use Rattle.row_locks.specs.Locks.{Lock}
use Rattle.row_locks.proofs.LastLaws.{one_less, first_kept}
use Rattle.row_locks.proofs.locks.Locks.keep_first.Goals as goal

pub loop-init : goal.loop-init
loop-init c =
    let ls = c.args.self.now in
    let whole : length ls - 0 ≡ length ls = omega arith in
    sym (take-length ls) ∙ ap (λ n. take n ls) (sym whole)

pub loop-preserved : goal.loop-preserved
loop-preserved c =
    let within : c.loop.counter < length c.args.self.now = omega arith in
    c.drop_last.ensures ∙ ap (λ (ls : List Lock). take (length ls - 1) ls) c.loop.invariant ∙ one_less c.args.self.now c.loop.counter within

pub returns : goal.returns
returns c =
    let ls = c.args.self.now in
    let all : c.loop.counter ≡ length ls - c.args.many = omega arith in
    c.loop.invariant ∙ ap (λ n. take (length ls - n) ls) all ∙ first_kept ls c.args.many
