use Rattle.std.proofs.Common.{◌≡◌, ℕ, List, [], ◌∷◌, true, false, eqb, length, sym, ◌∙◌, refl}
use Rattle.std.proofs.lemmas.Result.{err_from_is_err_and}
use Rattle.std.proofs.lemmas.Bool.{eqb-true}
use Rattle.std.proofs.lemmas.List.{nil_from_length}
use Rattle.token_grammar.specs.Steps.{begins}
use Rattle.token_grammar.specs.Lexing.{any_byte, lexeme_at}
use Rattle.token_grammar.proofs.Loop.{goes_on, ends, stops, runs_out}
use Rattle.token_grammar.proofs.lexing.lexemes.Goals as goal
use Rattle.token_grammar.proofs.lexing.lexemes.Goals.{else-loop-test, then-loop-test+then-is_empty}

some_byte : (bytes : List ℕ) → eqb (length bytes) 0 ≡ false → begins any_byte bytes ≡ true
some_byte [] h = absurd cc
some_byte (b ∷ bytes) h = refl

no_byte : (bytes : List ℕ) → eqb (length bytes) 0 ≡ true → begins any_byte bytes ≡ false
no_byte bytes h = rw (nil_from_length bytes (eqb-true _ _ h)) refl

pub returns-in_err-token : goal.returns-in_err-token
returns-in_err-token c =
    let p = err_from_is_err_and c.from_residual-in_err-token.result c.from_residual-in_err-token.ensures.1 in
    rw (p.1, p.2) (ends any_byte lexeme_at c.in_err-token.field-0.0 c.loop.tokens.items (length c.args.bytes.now) c.loop.counter c.loop.rest.now _ c.loop-test.true (some_byte _ (sym c.is_empty.ensures ∙ c.if-is_empty.false)) c.in_err-token.ensures c.loop.invariant)

pub loop-preserved : goal.loop-preserved
loop-preserved c =
    rw c.in_ok-push.ensures.items (goes_on any_byte lexeme_at c.loop.tokens.items (length c.args.bytes.now) c.loop.counter c.loop.rest.now c.in_ok-token.token c.in_ok-token.after.now _ c.loop-test.true (some_byte _ (sym c.is_empty.ensures ∙ c.if-is_empty.false)) c.in_ok-token.ensures c.loop.invariant)

pub returns : goal.returns
returns c = elim c.loop-test.branch [
  | else-loop-test w ↦ runs_out any_byte lexeme_at c.loop.tokens.items (length c.args.bytes.now) c.loop.counter c.loop.rest.now _ w.loop-test.false c.loop.invariant
  | then-loop-test+then-is_empty w ↦ stops any_byte lexeme_at c.loop.tokens.items _ c.loop.rest.now _ (no_byte _ (sym w.is_empty.ensures ∙ w.if-is_empty.true)) c.loop.invariant
]
