use Rattle.std.proofs.Common.{◌≡◌, ◌++◌, ℕ, List, arith, subst}
use Rattle.std.specs.List.{flat_map}
use Rattle.make_script.specs.Draws.{transactions}
use Rattle.make_script.specs.Script.{lines_of, text_of}
use Rattle.make_script.proofs.LoopLemmas.{one_more, one_on}
use Rattle.make_script.proofs.script.put_transactions.Goals as goal

pub loop-count-preserved : goal.loop-count-preserved
loop-count-preserved c =
    let more = one_more c.args.number c.loop-count.count c.args.out.now.items c.loop-count.out.items c.put_transaction.new.out.items c.loop-count.draw c.next-first.result c.next-second.result c.next-third.result c.drawn.result
    c.loop-count.invariant.0 c.loop-count.invariant.1 c.next-first.ensures.is c.next-second.ensures.is c.next-third.ensures.is c.drawn.ensures.is c.in_ok-put_transaction.ensures in
    let on = one_on c.args.number c.loop-count.count c.args.out.now.items c.put_transaction.new.out.items c.next-third.result more in
    (on.0, on.1, c.next-third.ensures.below)

pub returns : goal.returns
returns c =
    let all : c.loop-count.count ≡ 500 = omega (arith, c.loop-count-test.false, c.loop-count.auto.count-end) in
    subst (λ (k : ℕ). c.loop-count.out.items ≡ c.args.out.now.items ++ text_of (flat_map lines_of (transactions c.args.number k))) all c.loop-count.invariant.0
