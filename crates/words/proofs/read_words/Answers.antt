-- What the matches hold is what the words mean.
use Rattle.std.proofs.Common.{◌∙◌, rules, arith, sym, ap, codes}
use Rattle.std.specs.Str.Parse.{ParsesUnsigned, ExplainsUnsignedError, HasUnsignedDigitsIfOk}
use Rattle.clap.specs.Words.{first_of, found_of, one_of, one_text}
use Rattle.clap.proofs.WalkLemmas.{first_value-rows, one_text-rows}
use Rattle.words.specs.Options.{is_true}
use Rattle.words.proofs.ReadLemmas.{none_if, some_if}
use Rattle.words.proofs.read_words.Goals as goal

pub returns-in-Some : goal.returns-in-Some
returns-in-Some c =
    let f = found_of c.in-Ok.matches in
    let book_is = first_value-rows f (codes "book") ∙ ap (first_of (codes "book")) c.in-Ok.ensures.matches in
    let make_is = one_text-rows f (codes "make") ∙ ap (one_of (codes "make")) c.in-Ok.ensures.matches in
    let got = some_if _ (λ bs r. ParsesUnsigned 16 10 bs r × ExplainsUnsignedError 10 bs r × HasUnsignedDigitsIfOk bs r) 16 65535
    (one_text f (codes "make")) c.get_one.result c.in-Some.number c.get_one.ensures.none c.get_one.ensures.value (λ u x g. g.0) (omega arith) c.in-Ok.ensures.number (search rules) in (
      c.in-Ok.ensures.kinds,
      (got.0, sym make_is ∙ got.1, got.2, got.3, got.4),
      c.is_flagged-book.ensures ∙ ap is_true book_is,
    )

pub returns-in-Ok : goal.returns-in-Ok
returns-in-Ok c =
    let f = found_of c.in-Ok.matches in
    let book_is = first_value-rows f (codes "book") ∙ ap (first_of (codes "book")) c.in-Ok.ensures.matches in
    let make_is = one_text-rows f (codes "make") ∙ ap (one_of (codes "make")) c.in-Ok.ensures.matches in
    let got = none_if _ (λ bs r. ParsesUnsigned 16 10 bs r × ExplainsUnsignedError 10 bs r × HasUnsignedDigitsIfOk bs r) 16 65535
    (one_text f (codes "make")) c.get_one.result c.get_one.ensures.value (λ u x g. g.0) (omega arith) c.in-Ok.ensures.number (search rules) in (
      c.in-Ok.ensures.kinds,
      sym make_is ∙ got,
      c.is_flagged-book.ensures ∙ ap is_true book_is,
    )
