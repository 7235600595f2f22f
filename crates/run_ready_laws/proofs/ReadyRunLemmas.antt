-- In a lawful run each node that is up is ready, and the records of each disk may stand one after the other: by induction
-- over the happenings.
use Rattle.std.proofs.Common.{◌≡◌, ℕ, zero, suc, ◌+◌, List, [], ◌∷◌, ◌++◌, IfSome, Option, Some, None, refl, sym, subst, arith, append-nil}
use Rattle.std.specs.Option.{option_to_list}
use Rattle.sql_statement.specs.Whole.{IsWhole}
use Rattle.node_rules.specs.Data.{RedoRecord, Stmt, Msg, Place, Input}
use Rattle.node_rules.specs.Data.inputs
use Rattle.node_rules.specs.Data.records
use Rattle.node_rules.specs.Data.stmts
use Rattle.node_rules.specs.NodeState.{NodeState, Stored}
use Rattle.node_rules.specs.Records.{nothing_stored, applied, stored_by}
use Rattle.node_rules.specs.Turn.{turn_of, made}
use Rattle.agreement.specs.Events.{Event}
use Rattle.tran_ids.specs.Listed.{numbered}
use Rattle.run_rules.specs.Data.{Took, Turn, Happening, Command}
use Rattle.run_rules.specs.Data.happenings
use Rattle.run_rules.specs.Births.{Born, births_after}
use Rattle.run_base_laws.specs.RunEvents.{events_after}
use Rattle.run_rules.specs.Facts.{Facts, first_facts, place_at, node_at, records_at, facts_after, facts_of}
use Rattle.run_rules.specs.Lawful.{IsPlace, MayTurn, MayHappen, Comes, boots, IsLawful}
use Rattle.run_base_laws.specs.NodeLaws.{EachFactFrom, unacked}
use Rattle.run_base_laws.proofs.LawfulLemmas.{of_wrote, serves}
use Rattle.run_base_laws.proofs.NodeLemmas.{Goes, Stays, Turns, Is_cut, Stops, Starts, goes_so}
use Rattle.run_base_laws.proofs.EventsStandLemmas.{node_so}
use Rattle.run_base_laws.proofs.BirthRunLemmas.{StandBorn, stand_born_on, stand_born_first}
use Rattle.node_ready_laws.specs.Rows.{MakesWhole}
use Rattle.node_ready_laws.specs.Names.{MakesNamed}
use Rattle.node_ready_laws.specs.Shapes.{TellsFew, BringsFew}
use Rattle.run_base_laws.proofs.SaidLemmas.{AllSent, numbered_so, sent_after}
use Rattle.node_ready_laws.specs.Following.{MayFollow, MayAllFollow}
use Rattle.node_ready_laws.specs.Sound.{IsSound, AreSound, IsNext, RowsDoNotMatter}
use Rattle.node_ready_laws.specs.Ready.{IsReady, IsExpected, TurnsStayReady, StartsAreReady}
use Rattle.run_ready_laws.specs.ReadyRuns.{RepliesTellFew, IsExpectedThere, NodesAreReady, InputsAreExpected}
use Rattle.run_base_laws.proofs.EventsStandLemmas.{first_node}

-- ---- what comes

whole_table : (s : Stmt) → IsWhole s → MakesWhole s
whole_table (stmts.CreateTable t) whole = whole
whole_table _ whole = tt

whole_names : (s : Stmt) → IsWhole s → MakesNamed s
whole_names (stmts.CreateLink l) whole = whole
whole_names (stmts.CreateSynonym y) whole = whole
whole_names _ whole = tt

-- what may come to a node is what it is ready for
comes_expected : (f : Facts) (k : NodeState) (node : ℕ) (input : Input) (took : Option Took) → Comes f k node input took → BringsFew input → IsExpected input
comes_expected f k node (inputs.Call n (Some s)) None comes few = record { fit = comes.0; whole = whole_table s comes.2; named = whole_names s comes.2; few = few }
comes_expected f k node (inputs.Call n None) None comes few = record { fit = comes.0; whole = tt; named = tt; few = few }
comes_expected f k node (inputs.Call n s) (Some t) comes few = absurd comes
comes_expected f k node (inputs.GiveUp n) took comes few = record { fit = tt; whole = tt; named = tt; few = few }
comes_expected f k node (inputs.Message m) took comes few = record { fit = tt; whole = tt; named = tt; few = few }
comes_expected f k node inputs.Reco took comes few = record { fit = tt; whole = tt; named = tt; few = few }
comes_expected f k node inputs.Checkpoint took comes few = record { fit = tt; whole = tt; named = tt; few = few }

-- no Reply that comes tells of many, where none was sent that does
few_come : (f : Facts) (k : NodeState) (node : ℕ) (input : Input) (took : Option Took) → AllSent (λ m. TellsFew m.kind) f.net.packets → Comes f k node input took → BringsFew input
few_come f k node (inputs.Message m) (Some x) sent comes = subst (λ (y : Msg). TellsFew y.kind) comes.1.same (numbered_so (λ y. TellsFew y.kind) f.net.packets x.number comes.0 sent comes.1.sent)
few_come f k node (inputs.Message m) None sent comes = absurd comes
few_come f k node (inputs.Call n s) took sent comes = tt
few_come f k node (inputs.GiveUp n) took sent comes = tt
few_come f k node inputs.Reco took sent comes = tt
few_come f k node inputs.Checkpoint took sent comes = tt

-- ---- records

follow_last : (s : Stored) (rs : List RedoRecord) (r : RedoRecord) → MayAllFollow s rs → MayFollow (stored_by s rs) r → MayAllFollow s (rs ++ r ∷ [])
unfolding MayAllFollow stored_by
follow_last s [] r all may = (may, tt)
follow_last s (x ∷ xs) r all may = (all.0, follow_last (applied s x) xs r all.1 may)

sound_last : (s : Stored) (rs : List RedoRecord) (r : RedoRecord) → AreSound s rs → IsSound (stored_by s rs) r → AreSound s (rs ++ r ∷ [])
unfolding AreSound stored_by
sound_last s [] r all sound = (sound, tt)
sound_last s (x ∷ xs) r all sound = (all.0, sound_last (applied s x) xs r all.1 sound)

-- Each record of a disk may stand after those before it.
pub record DiskStands (rs : List RedoRecord) : Type 0 where
  pub follow : MayAllFollow nothing_stored rs
  pub sound : AreSound nothing_stored rs

-- with a record that may stand next
disk_with : RowsDoNotMatter → (rs : List RedoRecord) (k : NodeState) → unacked k.stored ≡ stored_by nothing_stored rs → DiskStands rs → (w : Option RedoRecord) → IfSome w (IsNext k.stored) → DiskStands (rs ++ option_to_list w)
disk_with no_matter rs k stored now None next = subst DiskStands (sym (append-nil rs)) now
disk_with no_matter rs k stored now (Some r) next =
    let here : IsNext (stored_by nothing_stored rs) r = subst (λ s. IsNext s r) stored (no_matter k.stored (unacked k.stored).durable.kept r next) in
    record { follow = follow_last nothing_stored rs r now.follow here.0; sound = sound_last nothing_stored rs r now.sound here.1 }

-- one more start
disk_started : (rs : List RedoRecord) (boot : ℕ) → (stored_by nothing_stored rs).durable.boot ≡ boots rs → boot ≡ boots rs + 1 → DiskStands rs → DiskStands (rs ++ records.Boot boot ∷ [])
disk_started rs boot is next now = record {
  follow = follow_last nothing_stored rs (records.Boot boot) now.follow (record { listed = tt; stored = tt });
  sound = sound_last nothing_stored rs (records.Boot boot) now.sound (omega (arith, is, next));
}

empty_disk : DiskStands []
unfolding MayAllFollow AreSound
empty_disk = record { follow = tt; sound = tt }

first_sound : IsSound (stored_by nothing_stored []) (records.Boot 1)
unfolding stored_by
first_sound = omega arith

no_boot : (stored_by nothing_stored []).durable.boot ≡ boots []
unfolding stored_by
no_boot = refl

-- before anything happened each disk has its first start
disk_at : (ps : List Place) (n : ℕ) → DiskStands (records_at (first_facts ps) n)
disk_at ps zero = empty_disk
disk_at [] (suc i) = empty_disk
disk_at (p ∷ ps) (suc zero) = disk_started [] 1 no_boot refl empty_disk
disk_at (p ∷ ps) (suc (suc i)) = disk_at ps (suc i)

-- ---- nodes

module _ (turns : TurnsStayReady) (starts : StartsAreReady) (no_matter : RowsDoNotMatter) (places : List Place) (asked : List Command) (each : (n : ℕ) (p : Place) → numbered places n ≡ Some p → IsPlace places n p) where
  -- disks and nodes that are up, and no Reply that was sent tells of many
  abbrev pub AllReady : Facts → Type 0
  AllReady f = ((n : ℕ) → DiskStands (records_at f n) × IfSome (node_at f n) (IsReady (place_at places n))) × AllSent (λ m. TellsFew m.kind) f.net.packets

  module _ (f : Facts) (t : List Event) (bs : List Born) (stand : StandBorn places asked each f t bs) (ready : AllReady f) where
    abbrev now : (n : ℕ) → DiskStands (records_at f n) × IfSome (node_at f n) (IsReady (place_at places n))
    now = ready.0

    -- a turn of a node
    module _ (u : Turn) (k : NodeState) (may : MayTurn places f u k) where
      few : BringsFew u.input
      few = few_come f k u.node u.input u.took ready.1 may.comes

      expected : IsExpected u.input
      expected = comes_expected f k u.node u.input u.took may.comes few

      turned : IsReady (place_at places u.node) (turn_of (place_at places u.node) k u.input).after × IfSome (turn_of (place_at places u.node) k u.input).wrote (IsNext k.stored)
      turned = turns (place_at places u.node) k u.input expected (subst (λ o. IfSome o (IsReady (place_at places u.node))) may.up (now u.node).1)

      stored : unacked k.stored ≡ stored_by nothing_stored (records_at f u.node)
      stored = (node_so places asked each f t stand.0 u.node k may.up).stored

      whole_disk : DiskStands (records_at f u.node ++ option_to_list (turn_of (place_at places u.node) k u.input).wrote)
      whole_disk = disk_with no_matter (records_at f u.node) k stored (now u.node).0 (turn_of (place_at places u.node) k u.input).wrote turned.1

      next_of : IfSome u.wrote (IsNext k.stored)
      unfolding turn_of
      next_of = of_wrote (place_at places u.node) k u (serves places f u k may) (λ w. IfSome w (IsNext k.stored)) tt turned.1

      cut_disk : DiskStands (records_at f u.node ++ option_to_list u.wrote)
      cut_disk = disk_with no_matter (records_at f u.node) k stored (now u.node).0 u.wrote next_of

    -- what becomes of a node
    goes_ready : (n : ℕ) {o : Option NodeState} {rs : List RedoRecord} → Goes places f n o rs → DiskStands rs × IfSome o (IsReady (place_at places n))
    goes_ready n Stays = now n
    goes_ready n (Turns u k may here) =
        subst (λ m. DiskStands (records_at f m ++ option_to_list (turn_of (place_at places m) k u.input).wrote) × IsReady (place_at places m) (turn_of (place_at places m) k u.input).after) here
        (whole_disk u k may, (turned u k may).0)
    goes_ready n (Is_cut u k may here) = (subst (λ m. DiskStands (records_at f m ++ option_to_list u.wrote)) here (cut_disk u k may), tt)
    goes_ready n Stops = ((now n).0, tt)
    goes_ready n (Starts boot down next) =
        let is : (stored_by nothing_stored (records_at f n)).durable.boot ≡ boots (records_at f n) = (stand.0.0.nodes n).0.0.0.boot in
        let disk : DiskStands (records_at f n) = (now n).0 in
        (disk_started (records_at f n) boot is next disk, starts (place_at places n) (records_at f n) boot disk.follow disk.sound (omega (arith, is, next)))

    sends_few : (h : Happening) → RepliesTellFew places f h → AllSent (λ m. TellsFew m.kind) (facts_after places asked f h).net.packets
    sends_few (happenings.Turn u) tells = sent_after (λ m. TellsFew m.kind) places asked f (happenings.Turn u) tells ready.1
    sends_few (happenings.Begun c) tells = sent_after (λ m. TellsFew m.kind) places asked f (happenings.Begun c) tt ready.1
    sends_few (happenings.Cut a b) tells = sent_after (λ m. TellsFew m.kind) places asked f (happenings.Cut a b) tt ready.1
    sends_few (happenings.Join a b) tells = sent_after (λ m. TellsFew m.kind) places asked f (happenings.Join a b) tt ready.1
    sends_few (happenings.Lost k) tells = sent_after (λ m. TellsFew m.kind) places asked f (happenings.Lost k) tt ready.1
    sends_few (happenings.Stopped n) tells = sent_after (λ m. TellsFew m.kind) places asked f (happenings.Stopped n) tt ready.1
    sends_few (happenings.Started n boot) tells = sent_after (λ m. TellsFew m.kind) places asked f (happenings.Started n boot) tt ready.1

    -- each happening that may come leaves all so
    ready_on : (h : Happening) → MayHappen places asked f h → RepliesTellFew places f h → AllReady (facts_after places asked f h)
    ready_on h may tells = ((λ n. goes_ready n (goes_so places f asked stand.0.0.even h n may)), sends_few h tells)

    -- and what comes is expected
    expected_there : (h : Happening) → MayHappen places asked f h → IsExpectedThere places f h
    expected_there (happenings.Turn u) may = expected u may.0 may.1
    expected_there _ may = tt

  -- ---- runs

  ready_keep : (f : Facts) (hs : List Happening) (t : List Event) (bs : List Born) → StandBorn places asked each f t bs → AllReady f → IsLawful places asked f hs → EachFactFrom (RepliesTellFew places) places asked f hs
      → AllReady (facts_of places asked f hs)
  unfolding facts_of IsLawful
  ready_keep f [] t bs stand now lawful tells = now
  ready_keep f (h ∷ hs) t bs stand now lawful tells =
      ready_keep (facts_after places asked f h) hs (events_after places asked f h t) (births_after places f h bs) (stand_born_on places asked each f t bs h stand lawful.0) (ready_on f t bs stand now h lawful.0 tells.0) lawful.1 tells.1

  expected_each : (f : Facts) (hs : List Happening) (t : List Event) (bs : List Born) → StandBorn places asked each f t bs → AllReady f → IsLawful places asked f hs → EachFactFrom (RepliesTellFew places) places asked f hs
      → EachFactFrom (IsExpectedThere places) places asked f hs
  unfolding IsLawful
  expected_each f [] t bs stand now lawful tells = tt
  expected_each f (h ∷ hs) t bs stand now lawful tells = (
    expected_there f t bs stand now h lawful.0,
    expected_each (facts_after places asked f h) hs (events_after places asked f h t) (births_after places f h bs) (stand_born_on places asked each f t bs h stand lawful.0) (ready_on f t bs stand now h lawful.0 tells.0) lawful.1 tells.1,
  )

  ready_made : (p : Place) → IsReady p made
  ready_made p = starts p [] 1 empty_disk.follow empty_disk.sound first_sound

  first_ready : AllReady (first_facts places)
  first_ready = ((λ n. (disk_at places n, first_node (λ o. IfSome o (IsReady (place_at places n))) tt (ready_made (place_at places n)) places n)), tt)

module _ (turns : TurnsStayReady) (starts : StartsAreReady) (no_matter : RowsDoNotMatter) where
  pub nodes_are_ready : NodesAreReady
  nodes_are_ready t lawful tells n k up =
      let all = ready_keep turns starts no_matter t.places t.commands t.of_a_script.each (first_facts t.places) t.trace [] [] (stand_born_first t.places t.commands t.of_a_script.each)
      (first_ready turns starts no_matter t.places t.commands t.of_a_script.each) lawful tells in
      subst (λ o. IfSome o (IsReady (place_at t.places n))) up (all.0 n).1

  pub inputs_are_expected : InputsAreExpected
  inputs_are_expected t lawful tells =
      expected_each turns starts no_matter t.places t.commands t.of_a_script.each (first_facts t.places) t.trace [] [] (stand_born_first t.places t.commands t.of_a_script.each)
      (first_ready turns starts no_matter t.places t.commands t.of_a_script.each) lawful tells
