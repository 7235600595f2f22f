use Rattle.std.proofs.Common.{length, sym, ◌∙◌}
use Rattle.std.proofs.lemmas.Result.{err_from_is_err_and}
use Rattle.token_grammar.proofs.Loop.{at_first, goes_on, ends, stops, runs_out}
use Rattle.token_grammar.proofs.repeated.many.Goals as goal
use Rattle.token_grammar.proofs.repeated.many.Goals.{else-loop-test, then-loop-test+then-not-is_next}

pub loop-init : goal.loop-init
loop-init g c = at_first g.R.Repeated.starts g.R.Repeated.grammar.read _ (length c.args.tokens.now) c.args.tokens.now c.new-items.ensures.items

pub returns-in_err-item : goal.returns-in_err-item
returns-in_err-item g c =
    let p = err_from_is_err_and c.from_residual.result c.from_residual.ensures.1 in
    rw (p.1, p.2) (ends g.R.Repeated.starts g.R.Repeated.grammar.read c.in_err-item.field-0.0 c.loop.items.items (length c.args.tokens.now) c.loop.counter c.loop.rest.now _ c.loop-test.true (sym c.is_next.ensures ∙ c.if-not-is_next.false) c.in_err-item.ensures c.loop.invariant)

pub loop-preserved : goal.loop-preserved
loop-preserved g c =
    rw c.in_ok-push.ensures.items (goes_on g.R.Repeated.starts g.R.Repeated.grammar.read c.loop.items.items (length c.args.tokens.now) c.loop.counter c.loop.rest.now c.in_ok-item.item c.in_ok-item.after.now _ c.loop-test.true (sym c.is_next.ensures ∙ c.if-not-is_next.false) c.in_ok-item.ensures c.loop.invariant)

pub returns : goal.returns
returns g c = elim c.loop-test.branch [
  | else-loop-test w ↦ runs_out g.R.Repeated.starts g.R.Repeated.grammar.read c.loop.items.items (length c.args.tokens.now) c.loop.counter c.loop.rest.now _ w.loop-test.false c.loop.invariant
  | then-loop-test+then-not-is_next w ↦ stops g.R.Repeated.starts g.R.Repeated.grammar.read c.loop.items.items _ c.loop.rest.now _ (sym w.is_next.ensures ∙ w.if-not-is_next.true) c.loop.invariant
]
