use Rattle.std.proofs.Common.{◌≡◌, ◌+◌, ◌-◌, ◌*◌, ◌≤◌, ◌^◌, ◌∙◌, sym, get_or, drop, arith}
use Rattle.std.proofs.lemmas.List.{at_drop_all}
use Rattle.token_grammar.specs.Bytes.{value_from}
use Rattle.token_grammar.proofs.Digits.{value_from-le, value_from-drop, small-none, small-some, small_is, small_is_none}
use Rattle.token_grammar.proofs.lexing.value.Goals as goal

pub returns-in_err-value : goal.returns-in_err-value
returns-in_err-value c =
    let ds = c.args.digits.now in
    let next = 10 * c.loop-digit.value + (get_or ds c.loop-digit.digit-index 0 - 48) in
    let big : 2 ^ 64 ≤ next = small_is_none next (sym c.in_err-value.ensures) in
    let more : next ≤ value_from next (drop (c.loop-digit.digit-index + 1) ds) = value_from-le next (drop (c.loop-digit.digit-index + 1) ds) in
    let step = value_from-drop c.loop-digit.value c.loop-digit.digit-index ds c.loop-digit-test.true in
    let whole : 2 ^ 64 ≤ value_from 0 ds = rw (← c.loop-digit.invariant.1, step) (omega (arith, big, more)) in
    c.from_residual.ensures ∙ sym (small-none (value_from 0 ds) whole)

pub loop-digit-preserved : goal.loop-digit-preserved
loop-digit-preserved c =
    let ds = c.args.digits.now in
    let next = 10 * c.loop-digit.value + (get_or ds c.loop-digit.digit-index 0 - 48) in
    let is = small_is next c.in_ok-value.value (sym c.in_ok-value.ensures) in
    let step = value_from-drop c.loop-digit.value c.loop-digit.digit-index ds c.loop-digit-test.true in
    (rw (← is.0) is.1, rw (← is.0) (sym step ∙ c.loop-digit.invariant.1))

pub returns : goal.returns
returns c =
    let ds = c.args.digits.now in
    let whole : c.loop-digit.value ≡ value_from 0 ds = sym (at_drop_all (value_from c.loop-digit.value) ds c.loop-digit.digit-index c.loop-digit-test.false) ∙ c.loop-digit.invariant.1 in
    rw (← whole) (sym (small-some c.loop-digit.value c.loop-digit.invariant.0))
