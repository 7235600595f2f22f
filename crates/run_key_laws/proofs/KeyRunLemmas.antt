-- In every lawful run live branches hold the keys that they have changed, and branches in doubt those of their changes.
use Rattle.std.proofs.Common.{◌≡◌, ◌≢◌, ℕ, List, [], ◌∷◌, ◌++◌, Option, Some, None, refl, sym, ap, subst}
use Rattle.std.specs.Prelude.{IfSome}
use Rattle.std.specs.Option.{option_to_list}
use Rattle.std.specs.List.{AllByRecursion, IsDistinct}
use Rattle.tran_ids.proofs.ListedLemmas.{item_is}
use Rattle.agreement.specs.Events.{Event, exit}
use Rattle.node_rules.specs.Data.{BranchId, RedoRecord, Live, Place, Input, Doubt}
use Rattle.node_rules.specs.Data.records
use Rattle.node_rules.specs.Data.inputs
use Rattle.node_rules.specs.Words.{numbered}
use Rattle.node_rules.specs.NodeState.{NodeState, TurnDraft, live_id, live_at}
use Rattle.node_rules.specs.Records.{applied, nothing_stored, stored_by}
use Rattle.node_rules.specs.Turn.{turn_of, kept_by, start_of, made, heard, draft_of}
use Rattle.run_rules.specs.Data.{Turn, Happening, Command}
use Rattle.run_rules.specs.Facts.{Facts, first_facts, place_at, node_at, records_at, facts_after}
use Rattle.run_rules.specs.Lawful.{IsPlace, MayHappen, MayTurn, History, IsLawfulRun, facts_at}
use Rattle.run_base_laws.specs.RunEvents.{events_after, events_of}
use Rattle.run_base_laws.specs.EventRows.{RowIs, RowsAre}
use Rattle.run_key_laws.specs.ChangedLaws.{ChangesAreOfLives}
use Rattle.run_key_laws.specs.KeyLaws.{KeysAreHeld}
use Rattle.run_rules.proofs.ListLemmas.{all_weaker}
use Rattle.run_base_laws.proofs.OwnLemmas.{all_found}
use Rattle.run_base_laws.proofs.StoredLemmas.{StoresOf, step_stores_of, stored_with}
use Rattle.run_base_laws.proofs.LawfulLemmas.{Serves, of_wrote, serves}
use Rattle.run_base_laws.proofs.LaterLemmas.{events_keep}
use Rattle.run_base_laws.proofs.NodesStandLemmas.{acked_back}
use Rattle.run_base_laws.proofs.NodeLemmas.{Goes, Stays, Turns, Is_cut, Stops, Starts, goes_so}
use Rattle.run_base_laws.proofs.EventsStandLemmas.{BranchStatus, node_so, stand_on, stand_first, first_disk, first_node}
use Rattle.node_undo_laws.proofs.DistinctLemmas.{DoubtsApart, start_holds, start_distinct}
use Rattle.node_undo_laws.proofs.HolderLemmas.{doubts_apart, starts_free}
use Rattle.run_key_laws.proofs.TableStepLemmas.{Fits, one_key, sees_rows}
use Rattle.run_key_laws.proofs.TableRunLemmas.{TablesStand, tables_on, tables_first, fits_at}
use Rattle.run_key_laws.proofs.DoubtLemmas.{IsOpen, DoubtsAre, stored_doubts, DoubtsStand, doubts_on}
use Rattle.node_undo_laws.proofs.KeyStepLemmas.{SeesRows, Keys, Apart, keys_on}

-- ---- tables

-- a branch sees rows of a table that there is
sees_of : (k : NodeState) → Fits k → SeesRows k
sees_of k fits b name t found = (one_key k b t name found fits, sees_rows k b t name found fits)

-- ---- a start

start_keys : (rs : List RedoRecord) (boot : ℕ) → DoubtsApart (stored_by nothing_stored rs).doubts → Keys (start_of (rs ++ records.Boot boot ∷ []))
unfolding start_of applied IsDistinct
start_keys rs boot apart =
    subst (λ s. Keys (kept_by s (start_of (rs ++ records.Boot boot ∷ [])).versions)) (sym (stored_with rs (Some (records.Boot boot))))
    (record {
      apart = start_distinct (stored_by nothing_stored rs).doubts [] tt;
      own = λ b. tt;
      doubts = start_holds (stored_by nothing_stored rs).doubts [] apart (starts_free (stored_by nothing_stored rs).doubts);
    })

-- ---- happenings

-- of a node that is up, and of the disk of one that is not
abbrev pub NodeKeys : Option NodeState → List RedoRecord → Type 0
NodeKeys o rs = IfSome o Keys × DoubtsApart (stored_by nothing_stored rs).doubts

abbrev pub KeysStand : Facts → Type 0
KeysStand f = (n : ℕ) → NodeKeys (node_at f n) (records_at f n)

-- what is stored of branches in doubt is what the records say
pub doubts_same : (rs : List RedoRecord) (k : NodeState) → StoresOf rs k → k.stored.doubts ≡ (stored_by nothing_stored rs).doubts
doubts_same rs k stored = ap (λ s. s.doubts) stored

up_keys : (rs : List RedoRecord) (k : NodeState) → StoresOf rs k → Keys k → NodeKeys (Some k) rs
up_keys rs k stored keys = (keys, subst DoubtsApart (doubts_same rs k stored) (doubts_apart k.locks k.stored.doubts keys.doubts))

module _ (places : List Place) (asked : List Command) (each : (n : ℕ) (p : Place) → numbered places n ≡ Some p → IsPlace places n p) (f : Facts) (t : List Event) (stand : BranchStatus places asked each f t)
    (doubts : DoubtsStand f t) (tables : TablesStand places f) (now : KeysStand f) where
  module _ (n : ℕ) (k : NodeState) (up : node_at f n ≡ Some k) where
    pub stored_so : StoresOf (records_at f n) k
    stored_so = (node_so places asked each f t stand n k up).stored

    lives_so : AllByRecursion (λ l. exit t l.me ≡ None) k.lives
    lives_so = subst (λ o. IfSome o (λ x. AllByRecursion (λ l. exit t l.me ≡ None) x.lives)) up (stand.1.lives n)

    -- a branch with an exit is not live
    not_live : (b : BranchId) → exit t b ≢ None → live_at k b ≡ None
    not_live b left = by (live_at k b) refl
      where
        by : (o : Option Live) → live_at k b ≡ o → o ≡ None
        by None is = refl
        by (Some l) is = absurd (left (subst (λ m. exit t m ≡ None) (item_is live_id k.lives b l is) (all_found (λ x. exit t x.me ≡ None) live_id k.lives b l lives_so is)))

    rows_so : RowsAre t k.stored.durable.kept
    rows_so = acked_back t k.stored.durable.kept (subst (λ s. RowsAre t s.durable.kept) (sym stored_so) (stand.1.rows n))

    pub apart_so : Apart k
    apart_so = record {
      rows = all_weaker (RowIs t) (λ s. live_at k s.me ≡ None) (λ s is. not_live s.me is.left) k.stored.durable.kept rows_so;
      doubts = all_weaker (λ d. IsOpen t n d.branch) (λ d. live_at k d.branch ≡ None) (λ d is. not_live d.branch (λ none. (let sealed = is.is_sealed in absurd (cc (none, sealed))))) k.stored.doubts
          (subst (DoubtsAre t n) (sym (doubts_same (records_at f n) k stored_so)) (doubts n));
    }

    pub heard_apart : (input : Input) → Apart k → Apart (heard k input)
    heard_apart (inputs.Message m) apart = record { rows = apart.rows; doubts = apart.doubts }
    heard_apart (inputs.Call m s) apart = apart
    heard_apart (inputs.GiveUp m) apart = apart
    heard_apart inputs.Reco apart = apart
    heard_apart inputs.Checkpoint apart = apart

    heard_fits : (input : Input) → Fits k → Fits (heard k input)
    heard_fits (inputs.Message m) fits = fits
    heard_fits (inputs.Call m s) fits = fits
    heard_fits (inputs.GiveUp m) fits = fits
    heard_fits inputs.Reco fits = fits
    heard_fits inputs.Checkpoint fits = fits

    heard_own : (input : Input) → ChangesAreOfLives k.lives k.owns → ChangesAreOfLives (heard k input).lives (heard k input).owns
    heard_own (inputs.Message m) own = own
    heard_own (inputs.Call m s) own = own
    heard_own (inputs.GiveUp m) own = own
    heard_own inputs.Reco own = own
    heard_own inputs.Checkpoint own = own

    pub heard_keys : (input : Input) → Keys k → Keys (heard k input)
    heard_keys (inputs.Message m) keys = keys
    heard_keys (inputs.Call m s) keys = keys
    heard_keys (inputs.GiveUp m) keys = keys
    heard_keys inputs.Reco keys = keys
    heard_keys inputs.Checkpoint keys = keys

    heard_stored : (input : Input) → StoresOf (records_at f n) (heard k input)
    heard_stored (inputs.Message m) = stored_so
    heard_stored (inputs.Call m s) = stored_so
    heard_stored (inputs.GiveUp m) = stored_so
    heard_stored inputs.Reco = stored_so
    heard_stored inputs.Checkpoint = stored_so

    pub keys_so : Keys k
    keys_so = subst (λ o. IfSome o Keys) up (now n).0

    module _ (u : Turn) (may : MayTurn places f u k) (here : u.node ≡ n) where
      abbrev draft : TurnDraft
      draft = draft_of (place_at places n) k u.input

      turn_keys : NodeKeys (Some draft.after) (records_at f n ++ option_to_list draft.wrote)
      turn_keys =
          let step = (serves places f u k may).step in
          let fits = fits_at places asked f n k tables up in
          subst (λ m. NodeKeys (Some (draft_of (place_at places m) k u.input).after) (records_at f n ++ option_to_list (draft_of (place_at places m) k u.input).wrote)) here
          (up_keys (records_at f n ++ option_to_list (draft_of (place_at places u.node) k u.input).wrote) (draft_of (place_at places u.node) k u.input).after
          (step_stores_of (place_at places u.node) (records_at f n) u.input (heard k u.input) (draft_of (place_at places u.node) k u.input) step (heard_stored u.input))
          (keys_on (place_at places u.node) u.input step (sees_of (heard k u.input) (heard_fits u.input fits.0)) (heard_own u.input fits.1) (heard_apart u.input apart_so) (heard_keys u.input keys_so)))

      turned : NodeKeys (Some (turn_of (place_at places n) k u.input).after) (records_at f n ++ option_to_list (turn_of (place_at places n) k u.input).wrote)
      unfolding turn_of
      turned = turn_keys

      cut_off : DoubtsApart (stored_by nothing_stored (records_at f n ++ option_to_list u.wrote)).doubts
      cut_off =
          of_wrote (place_at places n) k u (subst (λ m. Serves (place_at places m) k u) here (serves places f u k may)) (λ w. DoubtsApart (stored_by nothing_stored (records_at f n ++ option_to_list w)).doubts)
          (subst (λ s. DoubtsApart s.doubts) (sym (stored_with (records_at f n) None)) (now n).1) turn_keys.1

  before_up : (n : ℕ) (u : Turn) (k : NodeState) → MayTurn places f u k → u.node ≡ n → node_at f n ≡ Some k
  before_up n u k may here = subst (λ m. node_at f m ≡ Some k) here may.up

  start_disk : (rs : List RedoRecord) (boot : ℕ) → DoubtsApart (stored_by nothing_stored rs).doubts → DoubtsApart (stored_by nothing_stored (rs ++ records.Boot boot ∷ [])).doubts
  unfolding applied
  start_disk rs boot apart = subst (λ s. DoubtsApart s.doubts) (sym (stored_with rs (Some (records.Boot boot)))) apart

  goes_keys : (n : ℕ) {o : Option NodeState} {rs : List RedoRecord} → Goes places f n o rs → NodeKeys o rs
  goes_keys n Stays = now n
  goes_keys n (Turns u k may here) = turned n k (before_up n u k may here) u may here
  goes_keys n (Is_cut u k may here) = (tt, cut_off n k (before_up n u k may here) u may here)
  goes_keys n Stops = (tt, (now n).1)
  goes_keys n (Starts boot down next) = (start_keys (records_at f n) boot (now n).1, start_disk (records_at f n) boot (now n).1)

  pub keys_stand_on : (h : Happening) → MayHappen places asked f h → KeysStand (facts_after places asked f h)
  keys_stand_on h may n = goes_keys n (goes_so places f asked stand.0.even h n may)

-- ---- every run

module _ (places : List Place) (asked : List Command) (each : (n : ℕ) (p : Place) → numbered places n ≡ Some p → IsPlace places n p) where
  -- all that is known of nodes and their keys
  pub record AllStands (f : Facts) (t : List Event) : Type 0 where
    pub stand : BranchStatus places asked each f t
    pub doubts : DoubtsStand f t
    pub tables : TablesStand places f
    pub keys : KeysStand f

  pub all_on : (f : Facts) (t : List Event) (h : Happening) → AllStands f t → MayHappen places asked f h → AllStands (facts_after places asked f h) (events_after places asked f h t)
  all_on f t h now may = record {
    stand = stand_on places asked each f t h now.stand may;
    doubts = doubts_on places asked each f t now.stand now.doubts h may;
    tables = tables_on places asked f h now.tables may;
    keys = keys_stand_on places asked each f t now.stand now.doubts now.tables now.keys h may;
  }

  no_doubts : (P : List Doubt → Type 0) → P [] → (n : ℕ) → P (stored_doubts (first_facts places) n)
  unfolding stored_by applied
  no_doubts P none n = first_disk (λ (xs : List RedoRecord). P (stored_by nothing_stored xs).doubts) none none places n

  made_keys : Keys made
  unfolding start_of stored_by applied IsDistinct
  made_keys = record { apart = tt; own = λ b. tt; doubts = tt }

  pub all_first : AllStands (first_facts places) []
  all_first = record {
    stand = stand_first places asked each;
    doubts = λ n. no_doubts (DoubtsAre [] n) tt n;
    tables = tables_first places;
    keys = λ n. (first_node (λ o. IfSome o Keys) tt made_keys places n, no_doubts DoubtsApart tt n);
  }

-- at the end of every run
pub run_all : (t : History) → IsLawfulRun t → AllStands t.places t.commands t.of_a_script.each (facts_at t) (events_of t)
run_all t lawful =
    events_keep t.places t.commands (AllStands t.places t.commands t.of_a_script.each) (all_on t.places t.commands t.of_a_script.each) (first_facts t.places) t.trace [] (all_first t.places t.commands t.of_a_script.each) lawful

pub keys_are_held : KeysAreHeld
keys_are_held t lawful n k up = subst (λ o. IfSome o Keys) up ((run_all t lawful).keys n).0
