-- What may come to a node at the end of a lawful run is what it is ready for: a Reply that was sent tells of few branches.
use Rattle.std.proofs.Common.{◌≡◌, ℕ, List, [], ◌∷◌, Option, Some, None, subst}
use Rattle.sql_statement.specs.Whole.{IsWhole}
use Rattle.node_rules.specs.Data.{BranchId, Kind, Stmt, Msg, Post, Place, Input}
use Rattle.node_rules.specs.Data.inputs
use Rattle.node_rules.specs.Data.kinds
use Rattle.node_rules.specs.Data.stmts
use Rattle.node_rules.specs.Words.{numbered}
use Rattle.node_rules.specs.NodeState.{NodeState}
use Rattle.agreement.specs.Events.{Event}
use Rattle.run_rules.specs.Data.{Took, Happening, Command}
use Rattle.run_rules.specs.Facts.{Facts, first_facts, facts_after, facts_of}
use Rattle.run_rules.specs.Lawful.{IsPlace, Comes, IsLawful, History, IsLawfulRun, facts_at}
use Rattle.run_base_laws.specs.RunEvents.{events_after}
use Rattle.run_rules.specs.Births.{Born, births_after}
use Rattle.run_rules.proofs.ListLemmas.{all_weaker}
use Rattle.run_base_laws.proofs.SaidLemmas.{numbered_so}
use Rattle.run_base_laws.proofs.BirthRunLemmas.{StandBorn, stand_born_on, stand_born_first}
use Rattle.run_base_laws.proofs.RestRunLemmas.{RootsStand, roots_stand_on, first_rests}
use Rattle.run_base_laws.proofs.InTurnRunLemmas.{CallsStand, calls_stand_on, first_calls}
use Rattle.run_base_laws.specs.InTurnLaws.{said_in}
use Rattle.node_ready_laws.specs.Rows.{MakesWhole}
use Rattle.node_ready_laws.specs.Names.{MakesNamed}
use Rattle.node_ready_laws.specs.Shapes.{TellsFew, BringsFew}
use Rattle.node_ready_laws.specs.Ready.{IsExpected}
use Rattle.run_ready_laws.specs.CountLaws.{ComersAreExpected}
use Rattle.run_ready_laws.proofs.SentLemmas.{FitsSo}
use Rattle.run_ready_laws.proofs.CountRunLemmas.{CountStand, packets_fit, few_kind, counts_on, first_counts}

-- ---- statements

whole_table : (s : Stmt) → IsWhole s → MakesWhole s
whole_table (stmts.CreateTable t) whole = whole
whole_table _ whole = tt

whole_names : (s : Stmt) → IsWhole s → MakesNamed s
whole_names (stmts.CreateLink l) whole = whole
whole_names (stmts.CreateSynonym y) whole = whole
whole_names _ whole = tt

-- ---- what comes

fits_few : (said : List Post) (from to : BranchId) (kind : Kind) → FitsSo said from to kind → TellsFew kind
fits_few said from to (kinds.Reply call weight count a) fits = few_kind (kinds.Reply call weight count a) fits.1
fits_few said from to _ fits = tt

few_come : (f : Facts) (k : NodeState) (node : ℕ) (input : Input) (took : Option Took) → CountStand f → Comes f k node input took → BringsFew input
few_come f k node (inputs.Message m) (Some x) now comes =
    subst (λ (y : Msg). TellsFew y.kind) comes.1.same
    (numbered_so (λ y. TellsFew y.kind) f.net.packets x.number comes.0 (all_weaker _ _ (λ y fits. fits_few (said_in f) y.msg.from y.msg.to y.msg.kind fits) f.net.packets (packets_fit (said_in f) f.net.packets now.all)) comes.1.sent)
few_come f k node (inputs.Message m) None now comes = absurd comes
few_come f k node (inputs.Call n s) took now comes = tt
few_come f k node (inputs.GiveUp n) took now comes = tt
few_come f k node inputs.Reco took now comes = tt
few_come f k node inputs.Checkpoint took now comes = tt

comes_expected : (f : Facts) (k : NodeState) (node : ℕ) (input : Input) (took : Option Took) → Comes f k node input took → BringsFew input → IsExpected input
comes_expected f k node (inputs.Call n (Some s)) None comes few = record { fit = comes.0; whole = whole_table s comes.2; named = whole_names s comes.2; few = few }
comes_expected f k node (inputs.Call n None) None comes few = record { fit = comes.0; whole = tt; named = tt; few = few }
comes_expected f k node (inputs.Call n s) (Some t) comes few = absurd comes
comes_expected f k node (inputs.GiveUp n) took comes few = record { fit = tt; whole = tt; named = tt; few = few }
comes_expected f k node (inputs.Message m) took comes few = record { fit = tt; whole = tt; named = tt; few = few }
comes_expected f k node inputs.Reco took comes few = record { fit = tt; whole = tt; named = tt; few = few }
comes_expected f k node inputs.Checkpoint took comes few = record { fit = tt; whole = tt; named = tt; few = few }

-- ---- runs

module _ (places : List Place) (asked : List Command) (each : (n : ℕ) (p : Place) → numbered places n ≡ Some p → IsPlace places n p) where
  counts_keep : (f : Facts) (hs : List Happening) (t : List Event) (bs : List Born) → StandBorn places asked each f t bs → RootsStand places asked each f → CallsStand f → CountStand f → IsLawful places asked f hs → CountStand (facts_of places asked f hs)
  unfolding facts_of IsLawful
  counts_keep f [] t bs stand roots turns now lawful = now
  counts_keep f (h ∷ hs) t bs stand roots turns now lawful =
      counts_keep (facts_after places asked f h) hs (events_after places asked f h t) (births_after places f h bs) (stand_born_on places asked each f t bs h stand lawful.0)
      (roots_stand_on places asked each f t bs stand roots h lawful.0) (calls_stand_on places asked each f t bs stand roots turns h lawful.0) (counts_on places asked each f t bs stand roots turns now h lawful.0).0 lawful.1

-- at the end of every run
run_counts : (t : History) → IsLawfulRun t → CountStand (facts_at t)
run_counts t lawful =
    counts_keep t.places t.commands t.of_a_script.each (first_facts t.places) t.trace [] [] (stand_born_first t.places t.commands t.of_a_script.each)
    (first_rests t.places t.commands t.of_a_script.each) (first_calls t.places t.commands t.of_a_script.each) (first_counts t.places t.commands t.of_a_script.each) lawful

pub comers_are_expected : ComersAreExpected
comers_are_expected t lawful n k up input took comes = comes_expected (facts_at t) k n input took comes (few_come (facts_at t) k n input took (run_counts t lawful) comes)
