use Rattle.std.proofs.Common.{ℕ, List, ap, map, subst}
use Rattle.std.specs.String.{string_bytes}
use Rattle.chart_words.specs.CommandLine.{Means}
use Rattle.chart_run.proofs.WordLemmas.{drawn_completes, drawn_ends, other_ends}
use Rattle.chart_run.proofs.chart.draw_script.Goals as goal

pub returns-clause-words : goal.returns-clause-words
returns-clause-words g c =
    other_ends _ _ _ _ _ _ (subst (λ (ws : List (List ℕ)). Means ws c.read_words-asked.result) (ap (map string_bytes) c.as_slice.ensures.value) c.read_words-asked.ensures) c.draw_asked.ensures.ends

pub returns-clause-drawn : goal.returns-clause-drawn
returns-clause-drawn g c =
    drawn_ends _ _ _ _ _ _ (subst (λ (ws : List (List ℕ)). Means ws c.read_words-asked.result) (ap (map string_bytes) c.as_slice.ensures.value) c.read_words-asked.ensures) c.draw_asked.ensures.ends

pub returns-clause-complete : goal.returns-clause-complete
returns-clause-complete g c =
    drawn_completes _ _ _ _ _ _ (subst (λ (ws : List (List ℕ)). Means ws c.read_words-asked.result) (ap (map string_bytes) c.as_slice.ensures.value) c.read_words-asked.ensures) c.draw_asked.ensures.ends
