use Rattle.std.proofs.Common.{ℕ, List, ap, map, subst}
use Rattle.std.specs.String.{string_bytes}
use Rattle.words.specs.CommandLine.{Means}
use Rattle.script_run.proofs.WordLemmas.{made_ends, made_unread, other_ends, run_completes, run_ends}
use Rattle.script_run.proofs.run.run_script.Goals as goal

pub returns-clause-words : goal.returns-clause-words
returns-clause-words g c =
    other_ends _ _ _ _ _ _ (subst (λ (ws : List (List ℕ)). Means ws c.read_words-asked.result) (ap (map string_bytes) c.as_slice.ensures.value) c.read_words-asked.ensures) c.run_asked.ensures.ends

pub returns-clause-read : goal.returns-clause-read
returns-clause-read g c =
    run_ends _ _ _ _ _ _ (subst (λ (ws : List (List ℕ)). Means ws c.read_words-asked.result) (ap (map string_bytes) c.as_slice.ensures.value) c.read_words-asked.ensures) c.run_asked.ensures.ends

pub returns-clause-unread : goal.returns-clause-unread
returns-clause-unread g c =
    made_unread _ _ _ _ _ _ (subst (λ (ws : List (List ℕ)). Means ws c.read_words-asked.result) (ap (map string_bytes) c.as_slice.ensures.value) c.read_words-asked.ensures) c.run_asked.ensures.ends

pub returns-clause-made : goal.returns-clause-made
returns-clause-made g c =
    made_ends _ _ _ _ _ _ (subst (λ (ws : List (List ℕ)). Means ws c.read_words-asked.result) (ap (map string_bytes) c.as_slice.ensures.value) c.read_words-asked.ensures) c.run_asked.ensures.ends

pub returns-clause-complete : goal.returns-clause-complete
returns-clause-complete g c =
    run_completes _ _ _ _ _ _ (subst (λ (ws : List (List ℕ)). Means ws c.read_words-asked.result) (ap (map string_bytes) c.as_slice.ensures.value) c.read_words-asked.ensures) c.run_asked.ensures.ends
