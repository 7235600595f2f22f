-- What is played is the run of the script: one happening after the other, each the one that is due.
use Rattle.std.proofs.Common.{◌≡◌, ℕ, List, [], ◌∷◌, ◌++◌, Option, Some, None, refl, ◌∙◌}
use Rattle.std.specs.Option.{option_to_list}
use Rattle.node_rules.specs.Data.{Place}
use Rattle.run_rules.specs.Data.{Happening, Command}
use Rattle.run_rules.specs.RunReport.{Past}
use Rattle.run_rules.specs.Past.{past}
use Rattle.run_rules.specs.Due.{comes_next, one_on, step_on, runs_on, happened, IsTheRun}

module _ (places : List Place) (asked : List Command) where
  -- one happening, and then those after it
  run_by : (p : Past) (o : Option Happening) (hs : List Happening) → comes_next places asked p ≡ o → IsTheRun places asked (one_on places asked p o) hs → IsTheRun places asked p (option_to_list o ++ hs)
  unfolding IsTheRun
  run_by p None hs e run = run
  run_by p (Some h) hs e run = (e, run)

  past_by : (p : Past) (o : Option Happening) (hs : List Happening) → past places asked p (option_to_list o ++ hs) ≡ past places asked (one_on places asked p o) hs
  unfolding past
  past_by p None hs = refl
  past_by p (Some h) hs = refl

  pub is_the_run : (xs : List ℕ) (p : Past) → IsTheRun places asked p (happened places asked xs p)
  unfolding happened IsTheRun
  is_the_run [] p = tt
  is_the_run (x ∷ xs) p = run_by p (comes_next places asked p) (happened places asked xs (step_on places asked p)) refl (is_the_run xs (step_on places asked p))

  pub leaves_what_is_played : (xs : List ℕ) (p : Past) → past places asked p (happened places asked xs p) ≡ runs_on places asked xs p
  unfolding happened runs_on past
  leaves_what_is_played [] p = refl
  leaves_what_is_played (x ∷ xs) p = past_by p (comes_next places asked p) (happened places asked xs (step_on places asked p)) ∙ leaves_what_is_played xs (step_on places asked p)

  pub runs_are_played : (xs : List ℕ) (p : Past) → IsTheRun places asked p (happened places asked xs p) × (past places asked p (happened places asked xs p) ≡ runs_on places asked xs p)
  runs_are_played xs p = (is_the_run xs p, leaves_what_is_played xs p)
