-- In every lawful run seals and decisions are written as Prepares told.
use Rattle.std.proofs.Common.{◌≡◌, ℕ, Bool, true, false, List, [], ◌∷◌, Some, inl, inr, sym, subst}
use Rattle.std.specs.Prelude.{IfSome}
use Rattle.node_rules.specs.Data.{Place}
use Rattle.node_rules.specs.Words.{numbered}
use Rattle.node_rules.specs.NodeState.{NodeState, TurnDraft}
use Rattle.node_rules.specs.Turn.{turn_of, draft_of}
use Rattle.agreement.specs.Events.{Event}
use Rattle.run_rules.specs.Data.{Turn, Happening, Command}
use Rattle.run_rules.specs.Data.happenings
use Rattle.run_rules.specs.Facts.{Facts, first_facts, place_at, facts_after}
use Rattle.run_rules.specs.Lawful.{IsPlace, MayTurn, MayHappen, IsOwed, IsLawful}
use Rattle.run_base_laws.specs.RunEvents.{events_after}
use Rattle.run_base_laws.specs.NodeLaws.{EachFactFrom}
use Rattle.run_rules.specs.Births.{Born, births_after}
use Rattle.run_base_laws.specs.InTurnLaws.{said_in}
use Rattle.run_base_laws.proofs.BirthRunLemmas.{StandBorn, stand_born_on, stand_born_first}
use Rattle.run_base_laws.proofs.RestRunLemmas.{RootsStand, roots_stand_on, first_rests, heard_rests}
use Rattle.run_base_laws.proofs.InTurnRunLemmas as calls
use Rattle.run_base_laws.proofs.InTurnRunLemmas.{CallsStand, heard_calls, calls_stand_on, first_calls}
use Rattle.run_branch_laws.proofs.FreezeRunLemmas as frozen
use Rattle.run_branch_laws.proofs.FreezeRunLemmas.{FreezeStand, freeze_on, first_freeze}
use Rattle.tree_laws.specs.AskLaws.{AsTold}
use Rattle.tree_laws.specs.RecordLaws.{RecordLeads, WritesAsTold, RecordsAreAsTold}
use Rattle.tree_laws.proofs.AskRunLemmas as runs
use Rattle.tree_laws.proofs.AskRunLemmas.{AskStand, ask_on, first_ask}
use Rattle.tree_laws.proofs.RecordStepLemmas.{leads_on}

module _ (places : List Place) (asked : List Command) (each : (n : ℕ) (p : Place) → numbered places n ≡ Some p → IsPlace places n p) where
  module _ (f : Facts) (t : List Event) (bs : List Born) (stand : StandBorn places asked each f t bs) (roots : RootsStand places asked each f) (turned : CallsStand f) (ice : FreezeStand f) (now : AskStand f bs) where
    module _ (u : Turn) (k : NodeState) (may : MayTurn places f u k) where
      abbrev d : TurnDraft
      d = draft_of (place_at places u.node) k u.input

      leads : IfSome d.wrote (RecordLeads (said_in f))
      leads =
          leads_on _ _ (calls.May places asked each f t bs stand roots turned u k may) (calls.Here places asked each f t bs stand roots turned u k may) u.input (said_in f) (frozen.received places asked each f t bs stand roots turned ice u k may)
          (frozen.prepared places asked each f t bs stand roots turned ice u k may) (runs.sent places asked each f t bs stand roots turned ice now u k may) (place_at places u.node) (λ b is. is)
          (calls.step places asked each f t bs stand roots turned u k may) (heard_rests k u.input (calls.rests places asked each f t bs stand roots turned u k may)).0 (runs.news places asked each f t bs stand roots turned ice now u k may)
          (calls.begun places asked each f t bs stand roots turned u k may) (frozen.ice places asked each f t bs stand roots turned ice u k may)
          (heard_calls (λ l w. AsTold (said_in f) l) k u.input (runs.olds places asked each f t bs stand roots turned ice now u k may))

      turn_writes : (cut : Bool) → IsOwed (place_at places u.node) k u.input u.wrote u.sent cut → IfSome u.wrote (RecordLeads (said_in f))
      unfolding turn_of
      turn_writes false owed = subst (λ o. IfSome o (RecordLeads (said_in f))) (sym owed.0) leads
      turn_writes true owed = elim owed.0 [
        | inl none ↦ subst (λ o. IfSome o (RecordLeads (said_in f))) (sym none) tt
        | inr whole ↦ subst (λ o. IfSome o (RecordLeads (said_in f))) (sym whole) leads
      ]

    pub writes : (h : Happening) → MayHappen places asked f h → WritesAsTold places f h
    writes (happenings.Turn u) may = turn_writes u may.0 may.1 u.cut may.1.owed
    writes _ may = tt

  writes_each : (f : Facts) (hs : List Happening) (t : List Event) (bs : List Born) → StandBorn places asked each f t bs → RootsStand places asked each f → CallsStand f → FreezeStand f → AskStand f bs → IsLawful places asked f hs
      → EachFactFrom (WritesAsTold places) places asked f hs
  unfolding IsLawful
  writes_each f [] t bs stand roots turned ice now lawful = tt
  writes_each f (h ∷ hs) t bs stand roots turned ice now lawful = (
    writes f t bs stand roots turned ice now h lawful.0,
    writes_each (facts_after places asked f h) hs (events_after places asked f h t) (births_after places f h bs) (stand_born_on places asked each f t bs h stand lawful.0)
        (roots_stand_on places asked each f t bs stand roots h lawful.0) (calls_stand_on places asked each f t bs stand roots turned h lawful.0) (freeze_on places asked each f t bs stand roots turned ice h lawful.0)
        (ask_on places asked each f t bs stand roots turned ice now h lawful.0) lawful.1,
  )

pub records_are_as_told : RecordsAreAsTold
records_are_as_told t lawful =
    writes_each t.places t.commands t.of_a_script.each (first_facts t.places) t.trace [] [] (stand_born_first t.places t.commands t.of_a_script.each)
    (first_rests t.places t.commands t.of_a_script.each) (first_calls t.places t.commands t.of_a_script.each) (first_freeze t.places t.commands t.of_a_script.each) (first_ask t.places t.commands t.of_a_script.each) lawful
