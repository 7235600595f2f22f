-- In every lawful run tables are whole, so that each node's changes are of its tables.
use Rattle.std.proofs.Common.{◌≡◌, ℕ, List, [], ◌∷◌, ◌++◌, Option, Some, None, subst}
use Rattle.std.specs.Prelude.{IfSome}
use Rattle.std.specs.Option.{option_to_list}
use Rattle.sql_statement.specs.Whole.{IsWhole}
use Rattle.sql_eval.proofs.TableLaws.{whole_tables_have_one_key}
use Rattle.node_rules.specs.Data.{Stmt, Done, RedoRecord, Place, Input}
use Rattle.node_rules.specs.Data.acts
use Rattle.node_rules.specs.Data.records
use Rattle.node_rules.specs.Data.inputs
use Rattle.commit_forget.specs.declared.next.Next.TheVariants as nexts
use Rattle.node_rules.specs.NodeState.{NodeState, TurnDraft, Branch}
use Rattle.node_rules.specs.Inputs.{IsCall}
use Rattle.node_rules.specs.Turn.{turn_of, draft_of}
use Rattle.node_rules.proofs.Steps as steps
use Rattle.node_rules.proofs.Steps.{Step, Makes, Makes_table, Makes_link, Makes_synonym, Sets_recovery, Sets_strength}
use Rattle.node_rules.specs.Calls.{backs_to}
use Rattle.node_rules.specs.Marks.{node_back, branch_back, next_back}
use Rattle.run_rules.specs.Data.{Took, Turn, Happening, Command}
use Rattle.run_rules.specs.Facts.{Facts, first_facts, place_at, node_at, records_at, facts_after}
use Rattle.run_rules.specs.Branches.{no_trail}
use Rattle.run_rules.specs.Lawful.{MayHappen, MayTurn, Comes, History, IsLawfulRun, facts_at}
use Rattle.run_key_laws.specs.TableLaws.{ChangesAreOfTables}
use Rattle.run_rules.proofs.ListLemmas.{all_append}
use Rattle.run_base_laws.proofs.LawfulLemmas.{lawful_keeps, of_wrote, serves}
use Rattle.run_base_laws.proofs.NodeLemmas.{Keeps, keeps_both, keeps_alone, AllStand, all_stand_on, first_all, at_node, Goes, Stays, Turns, Is_cut, Stops, Starts, goes_so}
use Rattle.run_base_laws.proofs.EventsStandLemmas.{first_disk}
use Rattle.run_key_laws.proofs.ChangedLemmas.{Fits as Marked, changes_keep}
use Rattle.run_key_laws.proofs.TableStepLemmas.{Fits, MakesWhole, AreWhole, DiskFits, NodeFits, tables_keep}

-- ---- records of tables

-- a statement that is called is one that a text spells
abbrev pub IsSpelled : Input → Type 0
IsSpelled (inputs.Call n s) = IfSome s IsWhole
IsSpelled _ = Unit {0}

pub comes_spelled : (f : Facts) (k : NodeState) (node : ℕ) (input : Input) (took : Option Took) → Comes f k node input took → IsSpelled input
comes_spelled f k node (inputs.Call n s) None comes = comes.2
comes_spelled f k node (inputs.Call n s) (Some t) comes = absurd comes
comes_spelled f k node (inputs.GiveUp n) took comes = tt
comes_spelled f k node (inputs.Message m) took comes = tt
comes_spelled f k node inputs.Reco took comes = tt
comes_spelled f k node inputs.Checkpoint took comes = tt

made_whole : {input : Input} {k : NodeState} {n : ℕ} {s : Stmt} {r : RedoRecord} {d : Done} → IsSpelled input → IsCall input n s → Makes k s r d → MakesWhole r
made_whole spelled call (Makes_table t free) = whole_tables_have_one_key t (subst IsSpelled call spelled)
made_whole spelled call (Makes_link l free) = tt
made_whole spelled call (Makes_synonym y free) = tt
made_whole spelled call (Sets_recovery on) = tt
made_whole spelled call (Sets_strength strength) = tt

-- none is made in going back
back_whole : (k : NodeState) (x : Branch) (to : ℕ) (next : Option ℕ) → IfSome (backs_to (node_back k x to) (branch_back k x to) to next).wrote MakesWhole
back_whole k x to None = tt
back_whole k x to (Some i) = tt

-- a table is made by a statement that a text spells
pub step_whole : (p : Place) (input : Input) {k : NodeState} {d : TurnDraft} → IsSpelled input → Step p input k d → IfSome d.wrote MakesWhole
step_whole p input spelled (steps.Begins n s read_at call begins fit none step) = step_whole p input spelled step
step_whole p input spelled (steps.Counts_call n s call counts step) = step_whole p input spelled step
step_whole p input spelled (steps.Goes_back {k = k} x to goes next) = back_whole k x to (next_back (branch_back k x to).work to 1)
step_whole p input spelled (steps.Pends n l given call has live code writer step) = step_whole p input spelled step
step_whole p input spelled (steps.Lets_reads_go l comment site_below live begins step) = step_whole p input spelled step
step_whole p input spelled (steps.Counts_ack s from kept came counts step) = step_whole p input spelled step
step_whole p input spelled (steps.Acts l site_below acts.Rest why) = tt
step_whole p input spelled (steps.Does s from nexts.Rest kept why) = tt
step_whole p input spelled (steps.Makes_record n s r d call makes) = made_whole spelled call makes
step_whole p input spelled (steps.Gives_up_commit n b None gives has calls gone) = tt
step_whole p input spelled _ = tt

-- ---- runs

-- what each disk and each node keeps
abbrev pub J : Place → List RedoRecord → Type 0
J p rs = DiskFits rs × Unit {0}

abbrev pub I : Place → List RedoRecord → NodeState → Type 0
I p rs k = NodeFits rs k × Marked k

pub both : Keeps J I
both = keeps_both tables_keep (keeps_alone changes_keep)

-- the records of each node make whole tables
abbrev pub Whole : Facts → Type 0
Whole f = (n : ℕ) → AreWhole (records_at f n)

-- and what the nodes keep fits
abbrev pub TablesStand : List Place → Facts → Type 0
TablesStand places f = AllStand J I both places f × Whole f

module _ (places : List Place) (asked : List Command) (f : Facts) where
  turn_whole : (n : ℕ) (u : Turn) (k : NodeState) → MayTurn places f u k → u.node ≡ n → IfSome (turn_of (place_at places n) k u.input).wrote MakesWhole
  unfolding turn_of
  turn_whole n u k may here =
      subst (λ m. IfSome (draft_of (place_at places m) k u.input).wrote MakesWhole) here
      (step_whole (place_at places u.node) u.input (comes_spelled f k u.node u.input u.took may.comes) (serves places f u k may).step)

  wrote_whole : (u : Turn) (k : NodeState) → MayTurn places f u k → IfSome u.wrote MakesWhole
  wrote_whole u k may =
      of_wrote (place_at places u.node) k u (serves places f u k may) (λ w. IfSome w MakesWhole) tt
      (step_whole (place_at places u.node) u.input (comes_spelled f k u.node u.input u.took may.comes) (serves places f u k may).step)

  with_whole : (rs : List RedoRecord) (w : Option RedoRecord) → AreWhole rs → IfSome w MakesWhole → AreWhole (rs ++ option_to_list w)
  with_whole rs None all is = all_append MakesWhole rs [] all tt
  with_whole rs (Some r) all is = all_append MakesWhole rs (r ∷ []) all (is, tt)

  goes_whole : (n : ℕ) {o : Option NodeState} {rs : List RedoRecord} → Whole f → Goes places f n o rs → AreWhole rs
  goes_whole n now Stays = now n
  goes_whole n now (Turns u k may here) = with_whole (records_at f n) _ (now n) (turn_whole n u k may here)
  goes_whole n now (Is_cut u k may here) = with_whole (records_at f n) u.wrote (now n) (wrote_whole u k may)
  goes_whole n now Stops = now n
  goes_whole n now (Starts boot down next) = all_append MakesWhole (records_at f n) (records.Boot boot ∷ []) (now n) (tt, tt)

  pub tables_on : (h : Happening) → TablesStand places f → MayHappen places asked f h → TablesStand places (facts_after places asked f h)
  tables_on h now may = (all_stand_on J I both places asked f h now.0 may, λ n. goes_whole n now.1 (goes_so places f asked now.0.even h n may))

  -- of a node that is up
  pub fits_at : (n : ℕ) (k : NodeState) → TablesStand places f → node_at f n ≡ Some k → Fits k × Marked k
  fits_at n k now up = let node : NodeFits (records_at f n) k × Marked k = at_node J I both places f n (now.0.nodes n) k up in (node.0.1 (now.1 n), node.1)

pub tables_first : (places : List Place) → TablesStand places (first_facts places)
tables_first places = (first_all J I both places, λ n. first_disk AreWhole tt (tt, tt) places n)

-- at the end of every run
pub run_tables : (t : History) → IsLawfulRun t → TablesStand t.places (facts_at t)
run_tables t lawful =
    lawful_keeps t.places t.commands (λ f tr. TablesStand t.places f) (λ f tr h now may. tables_on t.places t.commands f h now may) (first_facts t.places) no_trail t.trace (tables_first t.places) lawful

pub changes_are_of_tables : ChangesAreOfTables
changes_are_of_tables t lawful n k up = (fits_at t.places t.commands (facts_at t) n k (run_tables t lawful) up).0
