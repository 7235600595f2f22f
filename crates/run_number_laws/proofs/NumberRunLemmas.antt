-- In a lawful run no number is greater than the happenings so far: by induction over the happenings.
use Rattle.std.proofs.Common.{◌≡◌, ℕ, zero, suc, ◌+◌, ◌≤◌, List, [], ◌∷◌, ◌++◌, length, map, max, replicate, IfSome, Option, Some, None, sym, ap, subst, arith, append-nil}
use Rattle.std.specs.Option.{option_to_list}
use Rattle.std.specs.List.{AllByRecursion}
use Rattle.node_rules.specs.Data.{BranchId, Kind, RedoRecord, Msg, Post, Place, Input}
use Rattle.node_rules.specs.Data.inputs
use Rattle.node_rules.specs.Data.kinds
use Rattle.node_rules.specs.Data.records
use Rattle.node_rules.specs.declared.session.Session.{Session}
use Rattle.node_rules.specs.NodeState.{NodeState}
use Rattle.node_rules.specs.Records.{nothing_stored, stored_by}
use Rattle.node_rules.specs.Sessions.{fresh_session}
use Rattle.node_rules.specs.Turn.{turn_of, start_of, made, kind_scn, stamped, heard, draft_of}
use Rattle.run_rules.specs.Data.{Took, Turn, Happening, Command}
use Rattle.run_rules.specs.Data.happenings
use Rattle.run_rules.specs.Facts.{Facts, first_facts, place_at, node_at, records_at, facts_after, facts_of}
use Rattle.run_rules.specs.Lawful.{MayTurn, MayHappen, Comes, boots, IsLawful, History, IsLawfulRun, facts_at}
use Rattle.run_base_laws.specs.NodeLaws.{EachFactFrom, TellsRecorded, TellsRecords, CommitsAreRecorded}
use Rattle.run_rules.proofs.ListLemmas.{all_weaker}
use Rattle.run_base_laws.proofs.LawfulLemmas.{comes_fit, Serves, of_wrote, of_sent, serves}
use Rattle.run_base_laws.proofs.SaidLemmas.{AllSent, numbered_so, sent_after}
use Rattle.run_rules.proofs.BootLemmas.{step_of_turn, boots_started, boots_with}
use Rattle.run_base_laws.proofs.NodeLemmas.{AllStand, all_stand_on, first_all, at_node, Goes, Stays, Turns, Is_cut, Stops, Starts, goes_so}
use Rattle.node_ready_laws.specs.Ready.{IsWithin, BringsWithin, NumbersStayWithin}
use Rattle.run_number_laws.specs.Numbers.{IsToldWithin, IsWrittenWithin, NumbersAreWithin, MessagesAreWithin, DisksAreWithin, StartsAreCounted}
use Rattle.run_number_laws.proofs.DiskLemmas.{recorded_below, boot_scn, J, I, both}

-- ---- more

within_more : (n : ℕ) (k : NodeState) → IsWithin n k → IsWithin (n + 1) k
within_more n k is = record {
  clock = omega (arith, is.clock);
  opens = omega (arith, is.opens);
  seqs = all_weaker (λ s. s.seq ≤ n) (λ s. s.seq ≤ n + 1) (λ s le. omega (arith, le)) k.sessions is.seqs;
  calls = all_weaker (λ w. AllByRecursion (λ c. c ≤ n) w.calls) (λ w. AllByRecursion (λ c. c ≤ n + 1) w.calls) (λ w all. all_weaker (λ c. c ≤ n) (λ c. c ≤ n + 1) (λ c le. omega (arith, le)) w.calls all) k.works is.calls;
}

written_more : (n : ℕ) (rs : List RedoRecord) → IsWrittenWithin n rs → IsWrittenWithin (n + 1) rs
written_more n rs is = record { scn = omega (arith, is.scn); starts = omega (arith, is.starts) }

-- ---- starts

fresh_within : (n m : ℕ) → AllByRecursion (λ (s : Session). s.seq ≤ n) (replicate m fresh_session)
fresh_within n zero = tt
fresh_within n (suc m) = (omega arith, fresh_within n m)

started_within : (n : ℕ) (rs : List RedoRecord) → (stored_by nothing_stored rs).scn ≤ n → IsWithin n (start_of rs)
unfolding start_of
started_within n rs le = record { clock = le; opens = omega arith; seqs = fresh_within n 64; calls = tt }

boot_written : (n : ℕ) (rs : List RedoRecord) (boot : ℕ) → IsWrittenWithin n rs → IsWrittenWithin (n + 1) (rs ++ records.Boot boot ∷ [])
boot_written n rs boot is =
    let scn = boot_scn rs boot in
    let starts = boots_started rs boot in
    record { scn = omega (arith, scn, is.scn); starts = omega (arith, starts, is.starts) }

-- ---- nodes, disks and messages

-- a disk, and its node where that is up
abbrev NodeWithin : ℕ → Option NodeState → List RedoRecord → Type 0
NodeWithin n o rs = IsWrittenWithin n rs × IfSome o (IsWithin n)

node_more : (n : ℕ) (o : Option NodeState) (rs : List RedoRecord) → NodeWithin n o rs → NodeWithin (n + 1) o rs
node_more n None rs now = (written_more n rs now.0, tt)
node_more n (Some k) rs now = (written_more n rs now.0, within_more n k now.1)

-- nodes, disks and messages
abbrev pub AllWithin : ℕ → Facts → Type 0
AllWithin n f = ((m : ℕ) → NodeWithin n (node_at f m) (records_at f m)) × AllSent (IsToldWithin n) f.net.packets

heard_so : (p : Place) (rs : List RedoRecord) (k : NodeState) (input : Input) → I p rs k → I p rs (heard k input)
heard_so p rs k (inputs.Message m) now = both.hears p rs k (max m.scn (kind_scn m.kind)) now
heard_so p rs k _ now = now

module _ (numbers : NumbersStayWithin) (places : List Place) (asked : List Command) where
  module _ (f : Facts) (stand : AllStand J I both places f) (n : ℕ) (now : AllWithin n f) where
    comes_within : (k : NodeState) (node : ℕ) (input : Input) (took : Option Took) → Comes f k node input took → BringsWithin n input
    comes_within k node (inputs.Message m) (Some x) comes = subst (λ (y : Msg). max y.scn (kind_scn y.kind) ≤ n) comes.1.same (numbered_so (IsToldWithin n) f.net.packets x.number comes.0 now.1 comes.1.sent)
    comes_within k node (inputs.Message m) None comes = absurd comes
    comes_within k node (inputs.Call c s) took comes = tt
    comes_within k node (inputs.GiveUp c) took comes = tt
    comes_within k node inputs.Reco took comes = tt
    comes_within k node inputs.Checkpoint took comes = tt

    -- a turn
    module _ (u : Turn) (k : NodeState) (may : MayTurn places f u k) where
      abbrev p : Place
      p = place_at places u.node

      abbrev rs : List RedoRecord
      rs = records_at f u.node

      serving : Serves p k u
      serving = serves places f u k may

      after_within : IsWithin (n + 1) (turn_of p k u.input).after
      after_within = numbers p k u.input n (comes_fit f k u.node u.input u.took may.comes) (comes_within k u.node u.input u.took may.comes) (subst (λ o. IfSome o (IsWithin n)) may.up (now.0 u.node).1)

      left : I p (rs ++ option_to_list (turn_of p k u.input).wrote) (turn_of p k u.input).after
      unfolding turn_of
      left = both.steps p rs u.input (heard k u.input) (draft_of p k u.input) serving.step (heard_so p rs k u.input (at_node J I both places f u.node (stand.nodes u.node) k may.up))

      starts_within : boots (rs ++ option_to_list (turn_of p k u.input).wrote) ≤ n + 1 + 1
      unfolding turn_of
      starts_within = let same = boots_with rs (draft_of p k u.input).wrote (step_of_turn p u.input serving.step) in let le = (now.0 u.node).0.starts in omega (arith, same, le)

      whole_written : IsWrittenWithin (n + 1) (rs ++ option_to_list (turn_of p k u.input).wrote)
      whole_written =
          let stored : (turn_of p k u.input).after.stored.scn ≡ (stored_by nothing_stored (rs ++ option_to_list (turn_of p k u.input).wrote)).scn = ap (λ s. s.scn) left.0.0 in
          let covers = left.1 in
          record { scn = omega (arith, stored, covers, after_within.clock); starts = starts_within }

      none_written : IsWrittenWithin (n + 1) (rs ++ [])
      none_written = subst (IsWrittenWithin (n + 1)) (sym (append-nil rs)) (written_more n rs (now.0 u.node).0)

      cut_written : IsWrittenWithin (n + 1) (rs ++ option_to_list u.wrote)
      unfolding turn_of
      cut_written = of_wrote p k u serving (λ w. IsWrittenWithin (n + 1) (rs ++ option_to_list w)) none_written whole_written

      -- what is told
      kind_within : (from : BranchId) (kind : Kind) → TellsRecorded (rs ++ option_to_list u.wrote) from kind → kind_scn kind ≤ n + 1
      kind_within from (kinds.Committed m) told = let below = recorded_below nothing_stored (rs ++ option_to_list u.wrote) from m told in omega (arith, below, cut_written.scn)
      kind_within from _ told = omega arith

      told_by : (ms : List Msg) → AllByRecursion (λ m. m.scn ≤ n + 1) ms → AllByRecursion (λ m. TellsRecorded (rs ++ option_to_list u.wrote) m.from m.kind) ms → AllByRecursion (IsToldWithin (n + 1)) ms
      told_by [] clocks told = tt
      told_by (m ∷ ms) clocks told = (let one = kind_within m.from m.kind told.0 in let clock = clocks.0 in omega (arith, one, clock), told_by ms clocks.1 told.1)

      clocks_of : (clock : ℕ) → clock ≤ n + 1 → (xs : List Post) → AllByRecursion (λ m. m.scn ≤ n + 1) (map (stamped clock) xs)
      clocks_of clock le [] = tt
      clocks_of clock le (x ∷ xs) = (le, clocks_of clock le xs)

      sent_clocks : AllByRecursion (λ m. m.scn ≤ n + 1) u.sent
      unfolding turn_of
      sent_clocks = of_sent p k u serving (λ w ms. AllByRecursion (λ m. m.scn ≤ n + 1) ms) tt (clocks_of (draft_of p k u.input).after.clock after_within.clock (draft_of p k u.input).says)

    -- what becomes of each node
    goes_within : (m : ℕ) {o : Option NodeState} {rs : List RedoRecord} → Goes places f m o rs → NodeWithin (n + 1) o rs
    goes_within m Stays = node_more n (node_at f m) (records_at f m) (now.0 m)
    goes_within m Stops = (written_more n (records_at f m) (now.0 m).0, tt)
    goes_within m (Starts boot down next) =
        let new : IsWrittenWithin (n + 1) (records_at f m ++ records.Boot boot ∷ []) = boot_written n (records_at f m) boot (now.0 m).0 in
        (new, started_within (n + 1) (records_at f m ++ records.Boot boot ∷ []) new.scn)
    goes_within m (Turns u k may at) =
        subst (λ i. NodeWithin (n + 1) (Some (turn_of (place_at places i) k u.input).after) (records_at f i ++ option_to_list (turn_of (place_at places i) k u.input).wrote)) at (whole_written u k may, after_within u k may)
    goes_within m (Is_cut u k may at) = (subst (λ i. IsWrittenWithin (n + 1) (records_at f i ++ option_to_list u.wrote)) at (cut_written u k may), tt)

    old_within : AllSent (IsToldWithin (n + 1)) f.net.packets
    old_within = all_weaker (λ x. IsToldWithin n x.msg) (λ x. IsToldWithin (n + 1) x.msg) (λ x le. omega (arith, le)) f.net.packets now.1

    -- each message that was sent
    sent_within : (h : Happening) → MayHappen places asked f h → TellsRecords places f h → AllSent (IsToldWithin (n + 1)) (facts_after places asked f h).net.packets
    sent_within (happenings.Turn u) may tells = sent_after (IsToldWithin (n + 1)) places asked f (happenings.Turn u) (told_by u may.0 may.1 u.sent (sent_clocks u may.0 may.1) tells) old_within
    sent_within (happenings.Begun c) may tells = sent_after (IsToldWithin (n + 1)) places asked f (happenings.Begun c) tt old_within
    sent_within (happenings.Cut a b) may tells = sent_after (IsToldWithin (n + 1)) places asked f (happenings.Cut a b) tt old_within
    sent_within (happenings.Join a b) may tells = sent_after (IsToldWithin (n + 1)) places asked f (happenings.Join a b) tt old_within
    sent_within (happenings.Lost k) may tells = sent_after (IsToldWithin (n + 1)) places asked f (happenings.Lost k) tt old_within
    sent_within (happenings.Stopped m) may tells = sent_after (IsToldWithin (n + 1)) places asked f (happenings.Stopped m) tt old_within
    sent_within (happenings.Started m boot) may tells = sent_after (IsToldWithin (n + 1)) places asked f (happenings.Started m boot) tt old_within

    -- one happening more
    within_on : (h : Happening) → MayHappen places asked f h → TellsRecords places f h → AllWithin (n + 1) (facts_after places asked f h)
    within_on h may tells = ((λ m. goes_within m (goes_so places f asked stand.even h m may)), sent_within h may tells)

  -- ---- runs

  within_keep : (f : Facts) (hs : List Happening) (n : ℕ) → AllStand J I both places f → AllWithin n f → IsLawful places asked f hs → EachFactFrom (TellsRecords places) places asked f hs
      → AllWithin (n + length hs) (facts_of places asked f hs)
  unfolding facts_of IsLawful
  within_keep f [] n stand now lawful tells = subst (λ m. AllWithin m f) (let it : n ≡ n + 0 = omega arith in it) now
  within_keep f (h ∷ hs) n stand now lawful tells =
      subst (λ m. AllWithin m (facts_of places asked (facts_after places asked f h) hs)) (let it : (n + 1) + length hs ≡ n + suc (length hs) = omega arith in it)
      (within_keep (facts_after places asked f h) hs (n + 1) (all_stand_on J I both places asked f h stand lawful.0) (within_on f stand n now h lawful.0 tells.0) lawful.1 tells.1)

-- before anything happened
no_scn : (stored_by nothing_stored []).scn ≤ 0
unfolding stored_by
no_scn = omega arith

first_scn : (stored_by nothing_stored (records.Boot 1 ∷ [])).scn ≤ 0
first_scn = let same : (stored_by nothing_stored (records.Boot 1 ∷ [])).scn ≡ (stored_by nothing_stored []).scn = boot_scn [] 1 in omega (arith, same, no_scn)

made_within : IsWithin 0 made
made_within = started_within 0 (records.Boot 1 ∷ []) first_scn

first_nodes : (ps : List Place) (m : ℕ) → NodeWithin 0 (node_at (first_facts ps) m) (records_at (first_facts ps) m)
first_nodes ps zero = (record { scn = no_scn; starts = omega arith }, tt)
first_nodes [] (suc i) = (record { scn = no_scn; starts = omega arith }, tt)
first_nodes (p ∷ ps) (suc zero) = (record { scn = first_scn; starts = omega arith }, made_within)
first_nodes (p ∷ ps) (suc (suc i)) = first_nodes ps (suc i)

module _ (numbers : NumbersStayWithin) (tells : CommitsAreRecorded) where
  pub all_within : (t : History) → IsLawfulRun t → AllWithin (length t.trace) (facts_at t)
  all_within t lawful =
      subst (λ m. AllWithin m (facts_at t)) (let it : 0 + length t.trace ≡ length t.trace = omega arith in it)
      (within_keep numbers t.places t.commands (first_facts t.places) t.trace 0 (first_all J I both t.places) (first_nodes t.places, tt) lawful (tells t lawful))

  pub numbers_are_within : NumbersAreWithin
  numbers_are_within t lawful n k up = subst (λ o. IfSome o (IsWithin (length t.trace))) up ((all_within t lawful).0 n).1

  pub messages_are_within : MessagesAreWithin
  messages_are_within t lawful = (all_within t lawful).1

  pub disks_are_within : DisksAreWithin
  disks_are_within t lawful n = ((all_within t lawful).0 n).0

-- how often a node started is stored, whatever happens
stand_keep : (places : List Place) (asked : List Command) (f : Facts) (hs : List Happening) → AllStand J I both places f → IsLawful places asked f hs → AllStand J I both places (facts_of places asked f hs)
unfolding facts_of IsLawful
stand_keep places asked f [] stand lawful = stand
stand_keep places asked f (h ∷ hs) stand lawful = stand_keep places asked (facts_after places asked f h) hs (all_stand_on J I both places asked f h stand lawful.0) lawful.1

pub starts_are_counted : StartsAreCounted
starts_are_counted t lawful n = ((stand_keep t.places t.commands (first_facts t.places) t.trace (first_all J I both t.places) lawful).nodes n).0.0.1
