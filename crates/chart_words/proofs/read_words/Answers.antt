-- What the matches hold is what the words mean.
use Rattle.std.proofs.Common.{◌∙◌, List, Option, ap, codes, subst, ℕ}
use Rattle.clap.specs.Words.{Text, first_of, found_of, one_of}
use Rattle.clap.proofs.WalkLemmas.{first_value-rows, one_text-rows}
use Rattle.words.specs.Options.{is_true}
use Rattle.chart_words.specs.CommandLine.{IsChosen, greatest}
use Rattle.chart_words.proofs.read_words.Goals as goal

pub returns-in-Ok : goal.returns-in-Ok
returns-in-Ok c =
    let f = found_of c.in-Ok.matches in
    let text_is = first_value-rows f (codes "text") ∙ ap (first_of (codes "text")) c.in-Ok.ensures.matches in
    let from_is = one_text-rows f (codes "from") ∙ ap (one_of (codes "from")) c.in-Ok.ensures.matches in
    let to_is = one_text-rows f (codes "to") ∙ ap (one_of (codes "to")) c.in-Ok.ensures.matches in (
      c.in-Ok.ensures.kinds,
      c.is_flagged-text.ensures ∙ ap is_true text_is,
      subst (λ (o : Option Text). IsChosen 1 o c.number_or-first.result) from_is c.number_or-first.ensures,
      subst (λ (o : Option Text). IsChosen greatest o c.number_or-last.result) to_is c.number_or-last.ensures,
    )
