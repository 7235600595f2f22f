-- The folds over a trace, and lawfulness, one happening further.
use Rattle.std.proofs.Common.{◌≡◌, List, [], ◌∷◌, ◌++◌, refl}
use Rattle.node_rules.specs.Data.{Place}
use Rattle.run_rules.specs.Data.{Happening, Command}
use Rattle.run_rules.specs.Facts.{Facts, facts_after, facts_of}
use Rattle.run_rules.specs.RunReport.{Past}
use Rattle.run_rules.specs.Past.{past, next}
use Rattle.run_rules.specs.Lawful.{IsLawful, MayHappen}

module _ (places : List Place) (asked : List Command) where
  pub past_on : (p : Past) (before hs : List Happening) → past places asked p (before ++ hs) ≡ past places asked (past places asked p before) hs
  unfolding past
  past_on p [] hs = refl
  past_on p (h ∷ before) hs = past_on (next places asked p h) before hs

  pub facts_on : (f : Facts) (before hs : List Happening) → facts_of places asked f (before ++ hs) ≡ facts_of places asked (facts_of places asked f before) hs
  unfolding facts_of
  facts_on f [] hs = refl
  facts_on f (h ∷ before) hs = facts_on (facts_after places asked f h) before hs

  pub lawful_on : (f : Facts) (hs : List Happening) (h : Happening) → IsLawful places asked f hs → MayHappen places asked (facts_of places asked f hs) h → IsLawful places asked f (hs ++ h ∷ [])
  unfolding facts_of IsLawful
  lawful_on f [] h lawful may = (may, tt)
  lawful_on f (g ∷ hs) h lawful may = (lawful.0, lawful_on (facts_after places asked f g) hs h lawful.1 may)
