use Rattle.std.proofs.Common.{◌∙◌, sym, ap, length, Some}
use Rattle.token_grammar.proofs.Quotes.{at_first, goes_on, closes, breaks, runs_out}
use Rattle.token_grammar.proofs.lexing.quoted.Goals as goal
use Rattle.token_grammar.proofs.lexing.quoted.Goals.{else-loop-test, then-loop-test+in_default}

pub loop-init : goal.loop-init
loop-init c = at_first _ c.args.bytes.now c.new-text.ensures.items

pub returns-in_default-piece : goal.returns-in_default-piece
returns-in_default-piece c = closes c.loop.text.items (length c.args.bytes.now) c.loop.counter c.loop.rest.now c.in-Some.after.now _ c.loop-test.true (sym c.in-Some.ensures ∙ ap (λ p. Some (p, c.in-Some.after.now)) c.in_default-piece.is) c.loop.invariant

pub loop-preserved : goal.loop-preserved
loop-preserved c = rw c.in_ok-push.ensures.items (goes_on c.loop.text.items (length c.args.bytes.now) c.loop.counter c.loop.rest.now c.in-Some-piece.byte c.in-Some.after.now _ c.loop-test.true (sym c.in-Some.ensures ∙ ap (λ p. Some (p, c.in-Some.after.now)) c.in-Some-piece.is) c.loop.invariant)

pub returns : goal.returns
returns c = elim c.loop-test.branch [
  | else-loop-test w ↦ runs_out c.loop.text.items (length c.args.bytes.now) c.loop.counter c.loop.rest.now _ w.loop-test.false c.loop.invariant
  | then-loop-test+in_default w ↦ breaks c.loop.text.items _ c.loop.rest.now _ (sym w.in_default.ensures) c.loop.invariant
]
