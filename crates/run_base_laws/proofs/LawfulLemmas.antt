-- Laws of lawful runs by induction over the happenings, and what a turn that may come is: a step of its node.
use Rattle.std.proofs.Common.{◌≡◌, ℕ, Bool, true, false, List, [], ◌∷◌, map, Option, Some, None, inl, inr, sym, subst, subst₂, ◌∙◌}
use Rattle.std.specs.Prelude.{◌⊎◌}
use Rattle.node_rules.specs.Data.{RedoRecord, Msg, Place, Input}
use Rattle.node_rules.specs.Data.inputs
use Rattle.node_rules.specs.NodeState.{NodeState}
use Rattle.node_rules.specs.Inputs.{IsFit}
use Rattle.node_rules.specs.Turn.{turn_of, heard, draft_of, stamped}
use Rattle.node_rules.proofs.Steps.{Step}
use Rattle.node_rules.proofs.TurnLemmas.{step_of}
use Rattle.run_rules.specs.Data.{Took, Turn, Happening, Command}
use Rattle.run_rules.specs.Data.happenings
use Rattle.run_rules.specs.Facts.{Facts, place_at, node_at, facts_after, facts_of}
use Rattle.run_rules.specs.Branches.{Trail}
use Rattle.run_rules.specs.Trail.{trail_after, trail_of}
use Rattle.run_rules.specs.Each.{EachFrom}
use Rattle.run_rules.specs.Lawful.{MayHappen, MayTurn, Comes, IsOwed, IsLawful}
use Rattle.run_base_laws.specs.NodeLaws.{EachFactFrom}

-- ---- happening by happening

module _ (places : List Place) (asked : List Command) where
  module _ (I : Facts → Trail → Type 0) (goes_on : (f : Facts) (tr : Trail) (h : Happening) → I f tr → MayHappen places asked f h → I (facts_after places asked f h) (trail_after places f tr h)) where
    -- what each happening that may come keeps, a lawful trace keeps
    pub lawful_keeps : (f : Facts) (tr : Trail) (hs : List Happening) → I f tr → IsLawful places asked f hs → I (facts_of places asked f hs) (trail_of places asked f tr hs)
    unfolding facts_of trail_of IsLawful
    lawful_keeps f tr [] now lawful = now
    lawful_keeps f tr (h ∷ hs) now lawful = lawful_keeps (facts_after places asked f h) (trail_after places f tr h) hs (goes_on f tr h now lawful.0) lawful.1

    -- and each happening is so that is so wherever that holds before it
    pub lawful_each : (So : Facts → Trail → Happening → Type 0) → ((f : Facts) (tr : Trail) (h : Happening) → I f tr → MayHappen places asked f h → So f tr h)
        → (f : Facts) (tr : Trail) (hs : List Happening) → I f tr → IsLawful places asked f hs → EachFrom So places asked f tr hs
    unfolding IsLawful
    lawful_each So so f tr [] now lawful = tt
    lawful_each So so f tr (h ∷ hs) now lawful = (so f tr h now lawful.0, lawful_each So so (facts_after places asked f h) (trail_after places f tr h) hs (goes_on f tr h now lawful.0) lawful.1)

  -- the trail is left out where a law speaks of facts alone
  pub of_facts : (So : Facts → Happening → Type 0) (f : Facts) (tr : Trail) (hs : List Happening) → EachFrom (λ g s h. So g h) places asked f tr hs → EachFactFrom So places asked f hs
  of_facts So f tr [] each = tt
  of_facts So f tr (h ∷ hs) each = (each.0, of_facts So (facts_after places asked f h) (trail_after places f tr h) hs each.1)

-- ---- a turn

-- an input that may come to a node is fit for it
pub comes_fit : (f : Facts) (k : NodeState) (node : ℕ) (input : Input) (took : Option Took) → Comes f k node input took → IsFit input
comes_fit f k node (inputs.Call n s) None comes = comes.0
comes_fit f k node (inputs.Call n s) (Some t) comes = absurd comes
comes_fit f k node _ took comes = tt

-- What a turn of a node is: a step, and what stands and is sent is the step's. Of a cut turn the record stands or not, and
-- nothing is sent.
pub record Serves (p : Place) (k : NodeState) (u : Turn) : Type 0 where
  pub step : Step p u.input (heard k u.input) (draft_of p k u.input)
  pub wrote : (u.wrote ≡ None) ⊎ (u.wrote ≡ (draft_of p k u.input).wrote)
  pub sent : (u.sent ≡ []) ⊎ ((u.wrote ≡ (draft_of p k u.input).wrote) × (u.sent ≡ map (stamped (draft_of p k u.input).after.clock) (draft_of p k u.input).says))

serves_by : (p : Place) (k : NodeState) (u : Turn) (cut : Bool) → IsFit u.input → IsOwed p k u.input u.wrote u.sent cut → Serves p k u
unfolding turn_of
serves_by p k u true fit is = record { step = step_of p k u.input fit; wrote = is.0; sent = inl is.1 }
serves_by p k u false fit is = record { step = step_of p k u.input fit; wrote = inr is.0; sent = inr is }

module _ (p : Place) (k : NodeState) (u : Turn) (serving : Serves p k u) where
  -- what is so of no record and of the step's is so of the one that stands
  pub of_wrote : (P : Option RedoRecord → Type 0) → P None → P (draft_of p k u.input).wrote → P u.wrote
  of_wrote P none new = by serving.wrote
    where
      by : (u.wrote ≡ None) ⊎ (u.wrote ≡ (draft_of p k u.input).wrote) → P u.wrote
      by (inl is) = subst P (sym is) none
      by (inr is) = subst P (sym is) new

  -- what is so of no messages, and of the step's with its record, is so of those that are sent
  pub of_sent : (P : Option RedoRecord → List Msg → Type 0) → P u.wrote [] → P (draft_of p k u.input).wrote (map (stamped (draft_of p k u.input).after.clock) (draft_of p k u.input).says)
      → P u.wrote u.sent
  of_sent P none new = by serving.sent
    where
      by : (u.sent ≡ []) ⊎ ((u.wrote ≡ (draft_of p k u.input).wrote) × (u.sent ≡ map (stamped (draft_of p k u.input).after.clock) (draft_of p k u.input).says)) → P u.wrote u.sent
      by (inl is) = subst (P u.wrote) (sym is) none
      by (inr is) = subst₂ P (sym is.0) (sym is.1) new

module _ (places : List Place) (f : Facts) (u : Turn) (k : NodeState) where
  -- a turn that may come is such a turn
  pub serves : MayTurn places f u k → Serves (place_at places u.node) k u
  serves may = serves_by (place_at places u.node) k u u.cut (comes_fit f k u.node u.input u.took may.comes) may.owed

  -- and it is one of the node that is up there
  pub turn_of_node : (asked : List Command) → MayHappen places asked f (happenings.Turn u) → node_at f u.node ≡ Some k → MayTurn places f u k
  turn_of_node asked may up = let same : Some may.0 ≡ Some k = sym may.1.up ∙ up in subst (MayTurn places f u) (let it : may.0 ≡ k = cc in it) may.1
