-- What came before a happening of a lawful run is a lawful run too, so what every run has at its end it has there.
use Rattle.std.proofs.Common.{◌≡◌, List, [], ◌∷◌, ◌++◌, refl, sym, subst, subst₂, ◌∙◌, append-nil}
use Rattle.std.proofs.lemmas.List.{append_assoc}
use Rattle.node_rules.specs.Data.{Place}
use Rattle.agreement.specs.Events.{Event}
use Rattle.run_rules.specs.Data.{Happening, Command}
use Rattle.run_rules.specs.Facts.{Facts, first_facts, facts_after, facts_of}
use Rattle.run_rules.specs.Lawful.{MayHappen, IsLawful, History, IsLawfulRun, facts_at}
use Rattle.run_base_laws.specs.RunEvents.{events_after, events_from, events_of}
use Rattle.run_base_laws.specs.EventLaws.{EachEventFrom, AtEachEvent}
use Rattle.run_base_laws.specs.NodeLaws.{EachFactFrom}
use Rattle.run_rules.specs.Births.{Born, births_after, births_from}

module _ (places : List Place) (asked : List Command) where
  pub facts_on : (f : Facts) (hs : List Happening) (h : Happening) → facts_of places asked f (hs ++ h ∷ []) ≡ facts_after places asked (facts_of places asked f hs) h
  unfolding facts_of
  facts_on f [] h = refl
  facts_on f (x ∷ hs) h = facts_on (facts_after places asked f x) hs h

  pub events_on : (f : Facts) (hs : List Happening) (h : Happening) (t : List Event) → events_from places asked f (hs ++ h ∷ []) t ≡ events_after places asked (facts_of places asked f hs) h (events_from places asked f hs t)
  unfolding facts_of events_from
  events_on f [] h t = refl
  events_on f (x ∷ hs) h t = events_on (facts_after places asked f x) hs h (events_after places asked f x t)

  pub facts_join : (f : Facts) (hs rest : List Happening) → facts_of places asked f (hs ++ rest) ≡ facts_of places asked (facts_of places asked f hs) rest
  unfolding facts_of
  facts_join f [] rest = refl
  facts_join f (x ∷ hs) rest = facts_join (facts_after places asked f x) hs rest

  pub births_join : (f : Facts) (hs rest : List Happening) (bs : List Born) → births_from places asked f (hs ++ rest) bs ≡ births_from places asked (facts_of places asked f hs) rest (births_from places asked f hs bs)
  unfolding facts_of births_from
  births_join f [] rest bs = refl
  births_join f (x ∷ hs) rest bs = births_join (facts_after places asked f x) hs rest (births_after places f x bs)

  pub lawful_on : (f : Facts) (hs : List Happening) (h : Happening) → IsLawful places asked f hs → MayHappen places asked (facts_of places asked f hs) h → IsLawful places asked f (hs ++ h ∷ [])
  unfolding facts_of IsLawful
  lawful_on f [] h lawful may = (may, tt)
  lawful_on f (x ∷ hs) h lawful may = (lawful.0, lawful_on (facts_after places asked f x) hs h lawful.1 may)

  -- two laws of each happening are one
  pub both_each : (A B : Facts → List Event → Happening → Type 0) (f : Facts) (t : List Event) (hs : List Happening) → EachEventFrom A places asked f t hs → EachEventFrom B places asked f t hs → EachEventFrom (λ g e h. A g e h × B g e h) places asked f t hs
  both_each A B f t [] one two = tt
  both_each A B f t (h ∷ hs) one two = ((one.0, two.0), both_each A B (facts_after places asked f h) (events_after places asked f h t) hs one.1 two.1)

  -- a law that does not speak of events is one too
  pub fact_each : (A : Facts → Happening → Type 0) (f : Facts) (t : List Event) (hs : List Happening) → EachFactFrom A places asked f hs → EachEventFrom (λ g e h. A g h) places asked f t hs
  fact_each A f t [] each = tt
  fact_each A f t (h ∷ hs) each = (each.0, fact_each A (facts_after places asked f h) (events_after places asked f h t) hs each.1)

module _ (t : History) where
  -- the run that was made by these happenings
  abbrev pub so_far : List Happening → History
  so_far hs = record { places = t.places; commands = t.commands; of_a_script = t.of_a_script; trace = hs }

  abbrev pub f_at : List Happening → Facts
  f_at hs = facts_at (so_far hs)

  abbrev pub e_at : List Happening → List Event
  e_at hs = events_of (so_far hs)

  pub one_on : (before : List Happening) (h : Happening) → f_at (before ++ h ∷ []) ≡ facts_after t.places t.commands (f_at before) h
  one_on before h = facts_on t.places t.commands (first_facts t.places) before h

  pub more_on : (before : List Happening) (h : Happening) → e_at (before ++ h ∷ []) ≡ events_after t.places t.commands (f_at before) h (e_at before)
  more_on before h = events_on t.places t.commands (first_facts t.places) before h []

  -- each happening is so, by what came before it, and by a law of it and of all that come after
  module _ (Law So : Facts → List Event → Happening → Type 0)
      (so : (before : List Happening) (h : Happening) (rest : List Happening) → before ++ h ∷ rest ≡ t.trace → IsLawfulRun (so_far before) → MayHappen t.places t.commands (f_at before) h
      → EachEventFrom Law t.places t.commands (f_at before) (e_at before) (h ∷ rest) → So (f_at before) (e_at before) h) where
    each_from : (before rest : List Happening) → before ++ rest ≡ t.trace → IsLawfulRun (so_far before) → IsLawful t.places t.commands (f_at before) rest → EachEventFrom Law t.places t.commands (f_at before) (e_at before) rest
        → EachEventFrom So t.places t.commands (f_at before) (e_at before) rest
    unfolding IsLawful
    each_from before [] is lawful more law = tt
    each_from before (h ∷ rest) is lawful more law = (
      so before h rest is lawful more.0 law,
      subst₂ (λ f e. EachEventFrom So t.places t.commands f e rest) (one_on before h) (more_on before h)
          (each_from (before ++ h ∷ []) rest (append_assoc before (h ∷ []) rest ∙ is) (lawful_on t.places t.commands (first_facts t.places) before h lawful more.0)
          (subst (λ f. IsLawful t.places t.commands f rest) (sym (one_on before h)) more.1)
          (subst₂ (λ f e. EachEventFrom Law t.places t.commands f e rest) (sym (one_on before h)) (sym (more_on before h)) law.1)),
    )

    pub each_prefix : IsLawfulRun t → AtEachEvent Law t → AtEachEvent So t
    unfolding facts_of events_from IsLawful
    each_prefix lawful law = each_from [] t.trace refl tt lawful law

  -- what each happening keeps, a run has at its end
  module _ (K : List Happening → Type 0) (goes_on : (before : List Happening) (h : Happening) → IsLawfulRun (so_far before) → MayHappen t.places t.commands (f_at before) h → K before → K (before ++ h ∷ [])) where
    keep_from : (before rest : List Happening) → before ++ rest ≡ t.trace → IsLawfulRun (so_far before) → IsLawful t.places t.commands (f_at before) rest → K before → K t.trace
    unfolding IsLawful
    keep_from before [] is lawful more now = subst K (sym (append-nil before) ∙ is) now
    keep_from before (h ∷ rest) is lawful more now =
        keep_from (before ++ h ∷ []) rest (append_assoc before (h ∷ []) rest ∙ is) (lawful_on t.places t.commands (first_facts t.places) before h lawful more.0)
        (subst (λ f. IsLawful t.places t.commands f rest) (sym (one_on before h)) more.1) (goes_on before h lawful more.0 now)

    pub keep_prefix : IsLawfulRun t → K [] → K t.trace
    unfolding facts_of IsLawful
    keep_prefix lawful now = keep_from [] t.trace refl tt lawful now
