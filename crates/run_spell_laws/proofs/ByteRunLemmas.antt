-- In a lawful run whose calls are of statements that texts spell each node keeps what has bytes, and each message has bytes: by
-- induction over the happenings.
use Rattle.std.proofs.Common.{◌≡◌, ◌≢◌, ◌≤◌, ℕ, zero, suc, ◌==◌, Bool, true, false, List, [], ◌∷◌, ◌++◌, length, Option, Some, None, refl, sym, ap, subst, ◌∙◌, arith, append-nil}
use Rattle.std.specs.Prelude.{is_some, IfSome, IsTrue, option_to_list}
use Rattle.std.specs.List.{AllByRecursion}
use Rattle.std.proofs.lemmas.Bool.Decides.{nat_tests}
use Rattle.tran_ids.proofs.ListedLemmas.{item_is}
use Rattle.node_rules.specs.Data.{RedoRecord, Msg, Place, Input}
use Rattle.node_rules.specs.Data.inputs
use Rattle.node_rules.specs.Data.kinds
use Rattle.node_rules.specs.Data.records
use Rattle.node_rules.specs.NodeState.{NodeState, live_id}
use Rattle.node_rules.specs.Inputs.{IsFit}
use Rattle.node_rules.specs.Turn.{turn_of}
use Rattle.node_spell_laws.specs.Bytes.{HasBytes, BringsBytes, AsksChild, KeepsBytes, NamesTable, TurnsKeepBytes, TurnsNameTables, StartsKeepBytes}
use Rattle.node_spell_laws.specs.Written.{RecordsHaveBytes}
use Rattle.run_rules.specs.Data.{Took, Turn, Happening, Command}
use Rattle.run_rules.specs.Data.happenings
use Rattle.run_rules.specs.Births.{Born, born_at, births_of}
use Rattle.run_base_laws.specs.BirthLaws.{Began, IsChild, LiveIs, GoesSo}
use Rattle.run_rules.specs.Facts.{Facts, first_facts, place_at, node_at, records_at, with_boot, kept_after, facts_after, facts_of}
use Rattle.run_rules.specs.Lawful.{AreOfAScript, History, IsOwed, MayTurn, MayHappen, Comes, IsLawful, IsLawfulRun, facts_at}
use Rattle.run_base_laws.specs.NodeLaws.{EachFactFrom, AtEachFact}
use Rattle.run_rules.proofs.AtNodeLemmas.{turn_here, turn_elsewhere, stop_here, stop_elsewhere, start_here, start_elsewhere}
use Rattle.run_base_laws.proofs.BirthRunLemmas.{run_births, nodes_name_the_born, messages_are_of_neighbors}
use Rattle.run_base_laws.proofs.EventsStandLemmas.{first_node}
use Rattle.run_base_laws.proofs.LawfulLemmas.{comes_fit, of_wrote, serves}
use Rattle.run_base_laws.proofs.OwnLemmas.{all_found}
use Rattle.run_base_laws.proofs.PastLemmas.{facts_on, lawful_on}
use Rattle.run_base_laws.proofs.SaidLemmas.{AllSent, numbered_so, sent_after}
use Rattle.node_ready_laws.proofs.ListLemmas.{all_last}
use Rattle.run_ready_laws.specs.ReadyRuns.{RepliesTellFew, NodesAreReady}
use Rattle.run_ready_laws.proofs.CallEndLemmas.{same_number}
use Rattle.run_spell_laws.specs.ByteRuns.{CallIsSpelled, CallsAreSpelled, IsSpelledRun, NodesKeepBytes, MessagesHaveBytes, TurnsHaveBytes}

-- ---- what comes

-- a message that may come was sent
message_so : (P : Msg → Type 0) (f : Facts) (k : NodeState) (node : ℕ) (m : Msg) (took : Option Took) → AllSent P f.net.packets → Comes f k node (inputs.Message m) took → P m
message_so P f k node m (Some x) sent comes = subst P comes.1.same (numbered_so P f.net.packets x.number comes.0 sent comes.1.sent)
message_so P f k node m None sent comes = absurd comes

abbrev AllHaveBytes : Facts → Type 0
AllHaveBytes f = AllSent (λ m. HasBytes m.kind) f.net.packets

brings_so : (f : Facts) (k : NodeState) (node : ℕ) (input : Input) (took : Option Took) → AllHaveBytes f → CallIsSpelled input → Comes f k node input took → BringsBytes input
brings_so f k node (inputs.Message m) took sent spelled comes = message_so (λ m. HasBytes m.kind) f k node m took sent comes
brings_so f k node (inputs.Call n (Some s)) took sent spelled comes = spelled
brings_so f k node (inputs.Call n None) took sent spelled comes = tt
brings_so f k node (inputs.GiveUp n) took sent spelled comes = tt
brings_so f k node inputs.Reco took sent spelled comes = tt
brings_so f k node inputs.Checkpoint took sent spelled comes = tt

-- an id began once
born_once : (bs : List Born) (x y : Born) → Began bs x → Began bs y → x.me ≡ y.me → x ≡ y
born_once bs x y first second same = let one : Some x ≡ Some y = sym first ∙ (ap (born_at bs) same ∙ second) in cc

-- Prepare comes from the parent
asks_so : (t : History) → IsLawfulRun t → (n : ℕ) (k : NodeState) (input : Input) (took : Option Took) → node_at (facts_at t) n ≡ Some k → Comes (facts_at t) k n input took → AsksChild k input
asks_so t lawful n k input took up comes from to site_below comment l came live =
    let m : Msg = record { from = from; to = to; scn = came.scn; kind = kinds.Prepare site_below comment } in
    let child : IsChild (Began (births_of t)) to from =
    message_so (λ x. GoesSo (Began (births_of t)) x.from x.to x.kind) (facts_at t) k n m took (messages_are_of_neighbors t lawful) (subst (λ i. Comes (facts_at t) k n i took) came.is comes) in
    let placed : LiveIs (Began (births_of t)) l = all_found (LiveIs (Began (births_of t))) live_id k.lives to l (nodes_name_the_born t lawful n k up).0 live in
    let me : l.me ≡ to = item_is live_id k.lives to l live in
    let one : child.0 ≡ placed.born = born_once (births_of t) child.0 placed.born child.1 placed.began (child.2 ∙ (sym me ∙ sym placed.is_me)) in
    let parent : l.parent ≡ Some from = sym placed.is_parent ∙ (ap (λ (x : Born). x.parent) (sym one) ∙ child.3) in
    subst (λ o. IsTrue (is_some o)) (sym parent) refl

-- ---- nodes and disks

-- what a node and its disk have
abbrev Stands : Option NodeState → List RedoRecord → Type 0
Stands o rs = AllByRecursion NamesTable rs × IfSome o KeepsBytes

-- and all of them, and the messages
abbrev AllStand : Facts → Type 0
AllStand f = ((n : ℕ) → Stands (node_at f n) (records_at f n)) × AllHaveBytes f

moved : {o p : Option NodeState} {rs qs : List RedoRecord} → (o ≡ p) × (rs ≡ qs) → Stands p qs → Stands o rs
moved is now = (subst (AllByRecursion NamesTable) (sym is.1) now.0, subst (λ x. IfSome x KeepsBytes) (sym is.0) now.1)

with_record : (rs : List RedoRecord) (w : Option RedoRecord) → AllByRecursion NamesTable rs → IfSome w NamesTable → AllByRecursion NamesTable (rs ++ option_to_list w)
with_record rs None all is = subst (AllByRecursion NamesTable) (sym (append-nil rs)) all
with_record rs (Some r) all is = all_last NamesTable rs r all is

-- at this number or at another
here_or : {A : Type 0} (m n : ℕ) → (m ≡ n → A) → (m ≢ n → A) → A
here_or {A = A} m n same other = by (m == n) refl
  where
    by : (b : Bool) → (m == n) ≡ b → A
    by true is = same (same_number m n is)
    by false is = other (λ e. absurd (let it : m ≡ n = e in grind (arith, nat_tests)))

module _ (ready : NodesAreReady) (turns : TurnsKeepBytes) (names : TurnsNameTables) (starts : StartsKeepBytes) where
  module _ (t : History) (lawful : IsLawfulRun t) (few : AtEachFact RepliesTellFew t) (now : AllStand (facts_at t)) where
    even : length (facts_at t).nodes ≡ length (facts_at t).records
    even = (run_births t lawful).0.0.even

    many : length (facts_at t).nodes ≡ length t.places
    many = (run_births t lawful).0.1.many

    -- a turn of a node
    module _ (u : Turn) (k : NodeState) (may : MayTurn t.places (facts_at t) u k) (spelled : CallIsSpelled u.input) where
      brings : BringsBytes u.input
      brings = brings_so (facts_at t) k u.node u.input u.took now.1 spelled may.comes

      fit : IsFit u.input
      fit = comes_fit (facts_at t) k u.node u.input u.took may.comes

      turned : KeepsBytes (turn_of (place_at t.places u.node) k u.input).after × AllByRecursion (λ m. HasBytes m.kind) (turn_of (place_at t.places u.node) k u.input).sent
      turned = turns (place_at t.places u.node) k u.input fit brings (asks_so t lawful u.node k u.input u.took may.up may.comes) (ready t lawful few u.node k may.up).rows
          (subst (λ o. IfSome o KeepsBytes) may.up (now.0 u.node).1)

      wrote_so : IfSome u.wrote NamesTable
      unfolding turn_of
      wrote_so = of_wrote (place_at t.places u.node) k u (serves t.places (facts_at t) u k may) (λ w. IfSome w NamesTable) tt (names (place_at t.places u.node) k u.input fit brings)

      sent_by : (cut : Bool) → IsOwed (place_at t.places u.node) k u.input u.wrote u.sent cut → AllByRecursion (λ m. HasBytes m.kind) u.sent
      sent_by true is = subst (AllByRecursion (λ m. HasBytes m.kind)) (sym is.1) tt
      sent_by false is = subst (AllByRecursion (λ m. HasBytes m.kind)) (sym is.1) turned.1

      kept_by : (cut : Bool) → IfSome (kept_after cut (Some (turn_of (place_at t.places u.node) k u.input))) KeepsBytes
      kept_by true = tt
      kept_by false = turned.0

      turn_stands : Stands (kept_after u.cut (Some (turn_of (place_at t.places u.node) k u.input))) (records_at (facts_at t) u.node ++ option_to_list u.wrote)
      turn_stands = (with_record (records_at (facts_at t) u.node) u.wrote (now.0 u.node).0 wrote_so, kept_by u.cut)

    abbrev after : Happening → Facts
    after h = facts_after t.places t.commands (facts_at t) h

    -- each node after a happening that may come
    turn_on : (u : Turn) → MayHappen t.places t.commands (facts_at t) (happenings.Turn u) → CallIsSpelled u.input → (n : ℕ) → Stands (node_at (after (happenings.Turn u)) n) (records_at (after (happenings.Turn u)) n)
    turn_on u may spelled n =
        here_or u.node n
        (λ here. subst (λ m. Stands (node_at (after (happenings.Turn u)) m) (records_at (after (happenings.Turn u)) m)) here (moved (turn_here t.places t.commands (facts_at t) even u may.0 may.1.up) (turn_stands u may.0 may.1 spelled)))
        (λ other. moved (turn_elsewhere t.places t.commands (facts_at t) even u n other) (now.0 n))

    stop_on : (m : ℕ) → MayHappen t.places t.commands (facts_at t) (happenings.Stopped m) → (n : ℕ) → Stands (node_at (after (happenings.Stopped m)) n) (records_at (after (happenings.Stopped m)) n)
    stop_on m may n =
        here_or m n
        (λ here. subst (λ i. Stands (node_at (after (happenings.Stopped m)) i) (records_at (after (happenings.Stopped m)) i)) here
        (moved (stop_here t.places t.commands (facts_at t) even m may.0.0 (subst (λ c. m ≤ c) (sym many) may.0.1)) ((now.0 m).0, tt)))
        (λ other. moved (stop_elsewhere t.places t.commands (facts_at t) even m n other) (now.0 n))

    start_on : (m boot : ℕ) → MayHappen t.places t.commands (facts_at t) (happenings.Started m boot) → (n : ℕ) → Stands (node_at (after (happenings.Started m boot)) n) (records_at (after (happenings.Started m boot)) n)
    start_on m boot may n =
        let disk : AllByRecursion NamesTable (with_boot (facts_at t) m boot) = all_last NamesTable (records_at (facts_at t) m) (records.Boot boot) (now.0 m).0 tt in
        here_or m n
        (λ here. subst (λ i. Stands (node_at (after (happenings.Started m boot)) i) (records_at (after (happenings.Started m boot)) i)) here
        (moved (start_here t.places t.commands (facts_at t) even m boot may.there.0 (subst (λ c. m ≤ c) (sym many) may.there.1)) (disk, starts (with_boot (facts_at t) m boot) disk)))
        (λ other. moved (start_elsewhere t.places t.commands (facts_at t) even m boot n other) (now.0 n))

    node_on : (h : Happening) → MayHappen t.places t.commands (facts_at t) h → CallsAreSpelled t.places (facts_at t) h → (n : ℕ) → Stands (node_at (after h) n) (records_at (after h) n)
    unfolding facts_after
    node_on (happenings.Turn u) may spelled n = turn_on u may spelled n
    node_on (happenings.Stopped m) may spelled n = stop_on m may n
    node_on (happenings.Started m boot) may spelled n = start_on m boot may n
    node_on _ may spelled n = now.0 n

    sent_on : (h : Happening) → MayHappen t.places t.commands (facts_at t) h → CallsAreSpelled t.places (facts_at t) h → AllHaveBytes (after h)
    sent_on (happenings.Turn u) may spelled = sent_after (λ m. HasBytes m.kind) t.places t.commands (facts_at t) (happenings.Turn u) (sent_by u may.0 may.1 spelled u.cut may.1.owed) now.1
    sent_on (happenings.Begun c) may spelled = sent_after (λ m. HasBytes m.kind) t.places t.commands (facts_at t) (happenings.Begun c) tt now.1
    sent_on (happenings.Cut a b) may spelled = sent_after (λ m. HasBytes m.kind) t.places t.commands (facts_at t) (happenings.Cut a b) tt now.1
    sent_on (happenings.Join a b) may spelled = sent_after (λ m. HasBytes m.kind) t.places t.commands (facts_at t) (happenings.Join a b) tt now.1
    sent_on (happenings.Lost k) may spelled = sent_after (λ m. HasBytes m.kind) t.places t.commands (facts_at t) (happenings.Lost k) tt now.1
    sent_on (happenings.Stopped n) may spelled = sent_after (λ m. HasBytes m.kind) t.places t.commands (facts_at t) (happenings.Stopped n) tt now.1
    sent_on (happenings.Started n boot) may spelled = sent_after (λ m. HasBytes m.kind) t.places t.commands (facts_at t) (happenings.Started n boot) tt now.1

  -- ---- runs

  module _ (places : List Place) (asked : List Command) (script : AreOfAScript places asked) where
    -- the run so far
    abbrev run_of : List Happening → History
    run_of hs = record { places = places; commands = asked; of_a_script = script; trace = hs }

    each_last : (So : Facts → Happening → Type 0) (f : Facts) (hs : List Happening) (h : Happening) → EachFactFrom So places asked f hs → So (facts_of places asked f hs) h → EachFactFrom So places asked f (hs ++ h ∷ [])
    unfolding facts_of
    each_last So f [] h all so = (so, tt)
    each_last So f (g ∷ hs) h all so = (all.0, each_last So (facts_after places asked f g) hs h all.1 so)

    stand_on : (hs rest : List Happening) → IsLawfulRun (run_of hs) → AtEachFact RepliesTellFew (run_of hs) → AllStand (facts_at (run_of hs)) → IsLawful places asked (facts_at (run_of hs)) rest
        → EachFactFrom (RepliesTellFew places) places asked (facts_at (run_of hs)) rest → EachFactFrom (CallsAreSpelled places) places asked (facts_at (run_of hs)) rest
        → AllStand (facts_of places asked (facts_at (run_of hs)) rest)
    unfolding facts_of IsLawful
    stand_on hs [] lawful few now on tells spelled = now
    stand_on hs (h ∷ rest) lawful few now on tells spelled =
        let next : facts_at (run_of (hs ++ h ∷ [])) ≡ facts_after places asked (facts_at (run_of hs)) h = facts_on places asked (first_facts places) hs (h ∷ []) in
        let here : AllStand (facts_after places asked (facts_at (run_of hs)) h) = (node_on (run_of hs) lawful few now h on.0 spelled.0, sent_on (run_of hs) lawful few now h on.0 spelled.0) in
        subst (λ f. AllStand (facts_of places asked f rest)) next
        (stand_on (hs ++ h ∷ []) rest (lawful_on places asked (first_facts places) hs h lawful on.0) (each_last (RepliesTellFew places) (first_facts places) hs h few tells.0) (subst AllStand (sym next) here)
        (subst (λ f. IsLawful places asked f rest) (sym next) on.1) (subst (λ f. EachFactFrom (RepliesTellFew places) places asked f rest) (sym next) tells.1)
        (subst (λ f. EachFactFrom (CallsAreSpelled places) places asked f rest) (sym next) spelled.1))

  first_disk : (ps : List Place) (n : ℕ) → AllByRecursion NamesTable (records_at (first_facts ps) n)
  first_disk ps zero = tt
  first_disk [] (suc i) = tt
  first_disk (p ∷ ps) (suc zero) = (tt, tt)
  first_disk (p ∷ ps) (suc (suc i)) = first_disk ps (suc i)

  first_stands : (ps : List Place) → AllStand (first_facts ps)
  first_stands ps = ((λ n. (first_disk ps n, first_node (λ o. IfSome o KeepsBytes) tt (starts (records.Boot 1 ∷ []) (tt, tt)) ps n)), tt)

  all_stand : (t : History) → IsSpelledRun t → AllStand (facts_at t)
  unfolding facts_of IsLawful
  all_stand t run = stand_on t.places t.commands t.of_a_script [] t.trace tt tt (first_stands t.places) run.lawful run.few run.spelled

  pub nodes_keep_bytes : NodesKeepBytes
  nodes_keep_bytes t run n k up = subst (λ o. IfSome o KeepsBytes) up ((all_stand t run).0 n).1

  pub messages_have_bytes : MessagesHaveBytes
  messages_have_bytes t run = (all_stand t run).1

  pub turns_have_bytes : RecordsHaveBytes → TurnsHaveBytes
  turns_have_bytes records_have t run n k input took up comes spelled expected links room =
      let is = ready t run.lawful run.few n k up in
      let brings = brings_so (facts_at t) k n input took (messages_have_bytes t run) spelled comes in
      let asks = asks_so t run.lawful n k input took up comes in
      let keeps = nodes_keep_bytes t run n k up in
      record {
        wrote = records_have (place_at t.places n) k input is expected links room brings asks keeps;
        sent = (turns (place_at t.places n) k input expected.fit brings asks is.rows keeps).1;
      }
