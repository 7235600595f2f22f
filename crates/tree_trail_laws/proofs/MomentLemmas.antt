-- A run up to one of its happenings: the facts and the trail there, and what a law of each happening says of it.
use Rattle.std.proofs.Common.{◌≡◌, List, [], ◌∷◌, ◌++◌, refl, sym, subst, subst₂, ◌∙◌}
use Rattle.std.proofs.lemmas.List.{append_assoc}
use Rattle.node_rules.specs.Data.{Place}
use Rattle.run_rules.specs.Data.{Happening, Command}
use Rattle.run_rules.specs.Branches.{Trail, no_trail}
use Rattle.run_rules.specs.Trail.{trail_after, trail_of}
use Rattle.run_rules.specs.Each.{EachFrom, AtEach}
use Rattle.run_rules.specs.Facts.{Facts, first_facts, facts_after, facts_of}
use Rattle.run_rules.specs.Lawful.{History}
use Rattle.tree_laws.proofs.PrefixLemmas.{f_at, one_on}

module _ (places : List Place) (asked : List Command) where
  pub trail_on : (f : Facts) (tr : Trail) (hs : List Happening) (h : Happening) → trail_of places asked f tr (hs ++ h ∷ []) ≡ trail_after places (facts_of places asked f hs) (trail_of places asked f tr hs) h
  unfolding facts_of trail_of
  trail_on f tr [] h = refl
  trail_on f tr (x ∷ hs) h = trail_on (facts_after places asked f x) (trail_after places f tr x) hs h

  pub trail_join : (f : Facts) (tr : Trail) (hs rest : List Happening) → trail_of places asked f tr (hs ++ rest) ≡ trail_of places asked (facts_of places asked f hs) (trail_of places asked f tr hs) rest
  unfolding facts_of trail_of
  trail_join f tr [] rest = refl
  trail_join f tr (x ∷ hs) rest = trail_join (facts_after places asked f x) (trail_after places f tr x) hs rest

  -- what each happening leaves of a trail stays
  pub trail_keeps : (P : Trail → Type 0) → ((f : Facts) (tr : Trail) (h : Happening) → P tr → P (trail_after places f tr h)) → (f : Facts) (tr : Trail) (hs : List Happening) → P tr → P (trail_of places asked f tr hs)
  unfolding trail_of
  trail_keeps P on f tr [] now = now
  trail_keeps P on f tr (h ∷ hs) now = trail_keeps P on (facts_after places asked f h) (trail_after places f tr h) hs (on f tr h now)

  each_at : (So : Facts → Trail → Happening → Type 0) (f : Facts) (tr : Trail) (hs : List Happening) (h : Happening) (rest : List Happening)
      → EachFrom So places asked f tr (hs ++ h ∷ rest) → So (facts_of places asked f hs) (trail_of places asked f tr hs) h
  unfolding facts_of trail_of
  each_at So f tr [] h rest each = each.0
  each_at So f tr (x ∷ hs) h rest each = each_at So (facts_after places asked f x) (trail_after places f tr x) hs h rest each.1

module _ (t : History) where
  -- the trail of these happenings
  abbrev pub tr_at : List Happening → Trail
  tr_at hs = trail_of t.places t.commands (first_facts t.places) no_trail hs

  pub trail_one_on : (hs : List Happening) (h : Happening) → tr_at (hs ++ h ∷ []) ≡ trail_after t.places (f_at t hs) (tr_at hs) h
  trail_one_on hs h = trail_on t.places t.commands (first_facts t.places) no_trail hs h

  -- a law of each happening, at one of them
  pub at_moment : (So : List Place → Facts → Trail → Happening → Type 0) → AtEach So t → (hs : List Happening) (h : Happening) (rest : List Happening) → hs ++ h ∷ rest ≡ t.trace → So t.places (f_at t hs) (tr_at hs) h
  at_moment So each hs h rest is =
      each_at t.places t.commands (So t.places) (first_facts t.places) no_trail hs h rest (subst (EachFrom (So t.places) t.places t.commands (first_facts t.places) no_trail) (sym is) each)

  -- what is so at each of them is a law
  module _ (So : List Place → Facts → Trail → Happening → Type 0) (so : (hs : List Happening) (h : Happening) (rest : List Happening) → hs ++ h ∷ rest ≡ t.trace → So t.places (f_at t hs) (tr_at hs) h) where
    each_from : (hs rest : List Happening) → hs ++ rest ≡ t.trace → EachFrom (So t.places) t.places t.commands (f_at t hs) (tr_at hs) rest
    each_from hs [] is = tt
    each_from hs (h ∷ rest) is = (
      so hs h rest is,
      subst₂ (λ f tr. EachFrom (So t.places) t.places t.commands f tr rest) (one_on t hs h) (trail_one_on hs h) (each_from (hs ++ h ∷ []) rest (append_assoc hs (h ∷ []) rest ∙ is)),
    )

    pub by_moment : AtEach So t
    unfolding facts_of trail_of
    by_moment = each_from [] t.trace refl
