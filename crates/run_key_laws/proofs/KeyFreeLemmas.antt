-- On each disk of a lawful run a seal or a decision changes no key that a branch in doubt holds.
use Rattle.std.proofs.Common.{◌≡◌, ℕ, List, [], ◌++◌, Option, Some, subst}
use Rattle.std.specs.Prelude.{IfSome}
use Rattle.std.specs.Option.{option_to_list}
use Rattle.agreement.specs.Events.{Event}
use Rattle.node_rules.specs.Data.{RedoRecord, Place, Input}
use Rattle.node_rules.specs.Data.records
use Rattle.node_rules.specs.Data.inputs
use Rattle.node_rules.specs.Words.{numbered}
use Rattle.node_rules.specs.NodeState.{NodeState, TurnDraft}
use Rattle.node_rules.specs.Records.{nothing_stored, stored_by}
use Rattle.node_rules.specs.Turn.{turn_of, heard, draft_of}
use Rattle.run_rules.specs.Data.{Turn, Happening, Command}
use Rattle.run_rules.specs.Facts.{Facts, first_facts, place_at, node_at, records_at, facts_after}
use Rattle.run_rules.specs.Lawful.{IsPlace, MayHappen, MayTurn}
use Rattle.run_key_laws.specs.RiseLaws.{EachRecordFrom, ChangesFreeKeys, RecordsChangeFreeKeys}
use Rattle.run_base_laws.proofs.LawfulLemmas.{Serves, of_wrote, serves}
use Rattle.run_base_laws.proofs.LaterLemmas.{events_keep}
use Rattle.run_base_laws.proofs.NodeLemmas.{Goes, Stays, Turns, Is_cut, Stops, Starts, goes_so}
use Rattle.run_base_laws.proofs.EventsStandLemmas.{first_disk}
use Rattle.node_undo_laws.proofs.FreeLemmas.{step_free}
use Rattle.run_key_laws.proofs.RiseLemmas.{records_with}
use Rattle.run_key_laws.proofs.KeyRunLemmas.{doubts_same, stored_so, apart_so, keys_so, heard_apart, heard_keys, AllStands, all_on, all_first}

-- each record on these disks changes keys that are free
abbrev pub AreFreeFrom : List RedoRecord → Type 0
AreFreeFrom rs = EachRecordFrom (λ s r. ChangesFreeKeys s.doubts r) [] rs

abbrev pub FreeStand : Facts → Type 0
FreeStand f = (n : ℕ) → AreFreeFrom (records_at f n)

module _ (places : List Place) (asked : List Command) (each : (n : ℕ) (p : Place) → numbered places n ≡ Some p → IsPlace places n p) (f : Facts) (t : List Event) (all : AllStands places asked each f t) (now : FreeStand f) where
  module _ (n : ℕ) (k : NodeState) (up : node_at f n ≡ Some k) (u : Turn) (may : MayTurn places f u k) (here : u.node ≡ n) where
    abbrev draft : TurnDraft
    draft = draft_of (place_at places n) k u.input

    serving : Serves (place_at places n) k u
    serving = subst (λ m. Serves (place_at places m) k u) here (serves places f u k may)

    heard_doubts : (input : Input) → (heard k input).stored.doubts ≡ (stored_by nothing_stored (records_at f n)).doubts
    heard_doubts (inputs.Message m) = doubts_same (records_at f n) k (stored_so places asked each f t all.stand all.doubts all.tables all.keys n k up)
    heard_doubts (inputs.Call m s) = doubts_same (records_at f n) k (stored_so places asked each f t all.stand all.doubts all.tables all.keys n k up)
    heard_doubts (inputs.GiveUp m) = doubts_same (records_at f n) k (stored_so places asked each f t all.stand all.doubts all.tables all.keys n k up)
    heard_doubts inputs.Reco = doubts_same (records_at f n) k (stored_so places asked each f t all.stand all.doubts all.tables all.keys n k up)
    heard_doubts inputs.Checkpoint = doubts_same (records_at f n) k (stored_so places asked each f t all.stand all.doubts all.tables all.keys n k up)

    free_now : IfSome draft.wrote (ChangesFreeKeys (stored_by nothing_stored (records_at f n)).doubts)
    free_now =
        subst (λ ds. IfSome draft.wrote (ChangesFreeKeys ds)) (heard_doubts u.input)
        (step_free (place_at places n) u.input serving.step
        (heard_apart places asked each f t all.stand all.doubts all.tables all.keys n k up u.input (apart_so places asked each f t all.stand all.doubts all.tables all.keys n k up))
        (heard_keys places asked each f t all.stand all.doubts all.tables all.keys n k up u.input (keys_so places asked each f t all.stand all.doubts all.tables all.keys n k up)))

    turned : AreFreeFrom (records_at f n ++ option_to_list (turn_of (place_at places n) k u.input).wrote)
    unfolding turn_of
    turned = records_with (λ s r. ChangesFreeKeys s.doubts r) (records_at f n) draft.wrote (now n) free_now

    cut_off : AreFreeFrom (records_at f n ++ option_to_list u.wrote)
    cut_off =
        records_with (λ s r. ChangesFreeKeys s.doubts r) (records_at f n) u.wrote (now n)
        (of_wrote (place_at places n) k u serving (λ w. IfSome w (ChangesFreeKeys (stored_by nothing_stored (records_at f n)).doubts)) tt free_now)

  was_up : (n : ℕ) (u : Turn) (k : NodeState) → MayTurn places f u k → u.node ≡ n → node_at f n ≡ Some k
  was_up n u k may here = subst (λ m. node_at f m ≡ Some k) here may.up

  goes_free : (n : ℕ) {o : Option NodeState} {rs : List RedoRecord} → Goes places f n o rs → AreFreeFrom rs
  goes_free n Stays = now n
  goes_free n (Turns u k may here) = turned n k (was_up n u k may here) u may here
  goes_free n (Is_cut u k may here) = cut_off n k (was_up n u k may here) u may here
  goes_free n Stops = now n
  goes_free n (Starts boot down next) = records_with (λ s r. ChangesFreeKeys s.doubts r) (records_at f n) (Some (records.Boot boot)) (now n) tt

  free_on : (h : Happening) → MayHappen places asked f h → FreeStand (facts_after places asked f h)
  free_on h may n = goes_free n (goes_so places f asked all.stand.0.even h n may)

pub records_change_free_keys : RecordsChangeFreeKeys
records_change_free_keys t lawful =
    (events_keep t.places t.commands (λ f s. AllStands t.places t.commands t.of_a_script.each f s × FreeStand f)
    (λ f s h now may. (all_on t.places t.commands t.of_a_script.each f s h now.0 may, free_on t.places t.commands t.of_a_script.each f s now.0 now.1 h may))
    (first_facts t.places) t.trace [] (all_first t.places t.commands t.of_a_script.each, λ n. first_disk AreFreeFrom tt (tt, tt) t.places n) lawful).1
