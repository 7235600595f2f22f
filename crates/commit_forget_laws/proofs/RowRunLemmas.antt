-- In every lawful run the rows of nodes tell of their neighbours, and of what their branches said, unless the node has
-- stopped since the branch began.
use Rattle.std.proofs.Common.{◌≡◌, ◌≢◌, ℕ, ◌+◌, ◌<◌, ◌≤◌, ◌⊎◌, Bool, true, false, List, [], ◌∷◌, ◌++◌, map, length, Option, Some, None, inl, inr, refl, sym, ap, subst, subst₂, ◌∙◌, arith, append-nil}
use Rattle.std.specs.Prelude.{IfSome}
use Rattle.std.specs.Option.{option_to_list}
use Rattle.std.specs.List.{AllByRecursion}
use Rattle.redo_record.specs.Durable.{durable_after}
use Rattle.agreement.specs.Events.{Event, Forget, exit, Has}
use Rattle.node_rules.specs.Data.{BranchId, Input, Kind, Msg, Place, Post, RedoRecord, KeptRow}
use Rattle.node_rules.specs.Data.inputs
use Rattle.node_rules.specs.Data.kinds
use Rattle.node_rules.specs.Data.records
use Rattle.node_rules.specs.Inputs.{Came}
use Rattle.node_rules.specs.NodeState.{NodeState, TurnDraft}
use Rattle.node_rules.specs.Records.{applied, nothing_stored, stored_by}
use Rattle.node_rules.specs.Turn.{turn_of, start_of, heard, draft_of, kind_turn, ack_turn, status_of}
use Rattle.run_rules.specs.Data.{Happening, Turn}
use Rattle.run_rules.specs.Data.happenings
use Rattle.run_base_laws.specs.EventRows.{MayStand}
use Rattle.run_rules.specs.Facts.{Facts, first_facts, place_at, node_at, records_at, kept_after, with_boot, facts_after, facts_of}
use Rattle.run_base_laws.specs.IdLaws.{IsRecordOf}
use Rattle.run_base_laws.specs.InTurnLaws.{post_of, said_in}
use Rattle.run_rules.specs.Lawful.{IsOwed, MayHappen, MayTurn, MayStart, History, IsLawfulRun, facts_at, boots}
use Rattle.run_base_laws.specs.NodeLaws.{EachFactFrom}
use Rattle.run_base_laws.specs.RunEvents.{with_event, wrote_event, with_record, events_after, events_from, events_of}
use Rattle.run_rules.proofs.AtNodeLemmas.{turn_elsewhere, turn_here, stop_elsewhere, stop_here, start_elsewhere, start_here}
use Rattle.run_rules.proofs.BootLemmas.{IsOfTurn, step_of_turn, boots_started, boots_with}
use Rattle.run_base_laws.proofs.EventsStandLemmas.{first_node, node_so, owned_so, run_stands, tells_so, ids_name_their_node}
use Rattle.run_base_laws.proofs.LaterLemmas.{exit_later, turn_added}
use Rattle.run_base_laws.proofs.LawfulLemmas.{serves, of_wrote}
use Rattle.run_rules.proofs.ListLemmas.{all_weaker}
use Rattle.run_base_laws.proofs.NodesStandLemmas.{stored_rows}
use Rattle.run_base_laws.proofs.OwnLemmas.{rows_stored}
use Rattle.run_base_laws.proofs.SaidPostLemmas.{posts_back, posts_of, said_after}
use Rattle.run_base_laws.proofs.StoredLemmas.{stored_with}
use Rattle.run_branch_laws.proofs.TowardLemmas.{heard_rows}
use Rattle.run_base_laws.proofs.TurnEventLemmas.{all_both, cases_nat, record_own}
use Rattle.tree_laws.specs.RecordLaws.{RecordLeads, WritesAsTold}
use Rattle.tree_laws.proofs.PrefixLemmas.{f_at, e_at, one_on, more_on}
use Rattle.tree_laws.proofs.RecordRunLemmas.{records_are_as_told}
use Rattle.tree_laws.proofs.TimeLemmas.{may_of, fact_at, exit_on, keep_on}
use Rattle.commit_laws.specs.WaitLaws.{NodeHasStopped}
use Rattle.commit_forget_laws.specs.RowLaws.{is_ack, RowTells, RowsTell}
use Rattle.commit_forget_laws.proofs.AckTurnLemmas.{ack_rows}
use Rattle.tree_laws.proofs.MoreLemmas.{inv_at}
use Rattle.commit_forget_laws.proofs.EventLemmas.{forgot_left, turn_back, stop_back, wrote_back}
use Rattle.commit_forget_laws.proofs.TellLemmas.{Tells, Stays, plain_stays, tells_stays}
use Rattle.commit_forget_laws.proofs.RowStepLemmas.{After, Found, rows_on}
use Rattle.commit_forget_laws.proofs.VotedLemmas.{draft_voted}
use Rattle.commit_forget_laws.proofs.FoundRowLemmas.{rows_found}
use Rattle.tree_laws.proofs.AtTurn.{at_happening}

pub ack_is : (kind : Kind) → is_ack kind ≡ true → kind ≡ kinds.Ack
ack_is kinds.Ack is = refl
ack_is _ is = absurd cc

-- an Ack came, or none did
pub ack_or_none : {P : Type 0} (i : Input) → (((from to : BranchId) → Came i from to kinds.Ack → ⊥) → P) → ((m : Msg) → i ≡ inputs.Message m → m.kind ≡ kinds.Ack → P) → P
ack_or_none {P = P} (inputs.Message m) never acks = by (is_ack m.kind) refl
  where
    by : (q : Bool) → is_ack m.kind ≡ q → P
    by true ack = acks m refl (ack_is m.kind ack)
    by false other = never (λ from to came. (let both : inputs.Message m ≡ inputs.Message (record { from = from; to = to; scn = came.scn; kind = kinds.Ack }) = came.is in
        let one : m ≡ record { from = from; to = to; scn = came.scn; kind = kinds.Ack } = cc in
        let yes : is_ack m.kind ≡ true = ap (λ (x : Msg). is_ack x.kind) one in absurd (cc (yes, other))))
ack_or_none (inputs.Call n c) never acks = never (λ from to came. (let no = came.is in absurd (cc no)))
ack_or_none (inputs.GiveUp n) never acks = never (λ from to came. (let no = came.is in absurd (cc no)))
ack_or_none inputs.Reco never acks = never (λ from to came. (let no = came.is in absurd (cc no)))
ack_or_none inputs.Checkpoint never acks = never (λ from to came. (let no = came.is in absurd (cc no)))

-- with more events alone
pub tells_later : (said : List Post) (t r : List Event) (bound : ℕ) (s : KeptRow) → Stays t r s.me → Tells said t bound s → Tells said r bound s
tells_later said t r bound s stays (inl is) = inl (plain_stays t r s stays is.0, is.1)
tells_later said t r bound s stays (inr old) = inr old

module _ (t : History) (whole : IsLawfulRun t) where
  -- the rows of each node tell so
  abbrev pub NodesTell : Facts → List Event → Type 0
  NodesTell f e = (n : ℕ) (k : NodeState) → node_at f n ≡ Some k → AllByRecursion (Tells (said_in f) e (boots (records_at f n))) k.stored.durable.kept

  module _ (hs : List Happening) (h : Happening) (rest : List Happening) (is : hs ++ h ∷ rest ≡ t.trace) (now : NodesTell (f_at t hs) (e_at t hs)) where
    open at_happening t whole hs h rest is use {f, e, s, lawful}

    abbrev after_h : Happening → Facts
    after_h y = facts_after t.places t.commands f y

    abbrev events_h : Happening → List Event
    events_h y = events_after t.places t.commands f y e

    known : (b : BranchId) → Has (Forget b) e → exit e b ≢ None
    known b has = forgot_left _ e (inv_at s lawful hs (record { rest = []; is = append-nil hs })) b has

    rows_here : (n : ℕ) (k : NodeState) → node_at f n ≡ Some k → AllByRecursion (λ x. Tells (said_in f) e (boots (records_at f n)) x × (x.me.node ≡ n)) k.stored.durable.kept
    rows_here n k up = all_both _ _ k.stored.durable.kept (now n k up) (ids_name_their_node s lawful n k up).rows

    -- at a node that nothing happens to
    module _ (y : Happening) where
      stays_so : (b : BranchId) → (Has (Forget b) (events_h y) → Has (Forget b) e) → Stays e (events_h y) b
      stays_so b back = record { seals = λ c so. (so.0, exit_on t.places t.commands f y e c _ so.1); forgets = back }

      untouched : (n : ℕ) (k : NodeState) → node_at f n ≡ Some k → records_at (after_h y) n ≡ records_at f n → ((b : BranchId) → b.node ≡ n → Has (Forget b) (events_h y) → Has (Forget b) e)
          → AllByRecursion (Tells (said_in (after_h y)) (events_h y) (boots (records_at (after_h y) n))) k.stored.durable.kept
      untouched n k up same_disk back =
          subst (λ (rs : List RedoRecord). AllByRecursion (Tells (said_in (after_h y)) (events_h y) (boots rs)) k.stored.durable.kept) (sym same_disk)
          (subst (λ said. AllByRecursion (Tells said (events_h y) (boots (records_at f n))) k.stored.durable.kept) (sym (said_after t.places t.commands f y))
          (all_weaker _ _ (λ x so. tells_stays (said_in f) (posts_of y) e (events_h y) (boots (records_at f n)) x (stays_so x.me (back x.me so.1)) so.0) k.stored.durable.kept (rows_here n k up)))

    -- ---- a turn

    module _ (u : Turn) (k : NodeState) (may : MayTurn t.places f u k) (turn : h ≡ happenings.Turn u) where
      abbrev p : Place
      p = place_at t.places u.node

      abbrev bound : ℕ
      bound = boots (records_at f u.node)

      abbrev d : TurnDraft
      d = draft_of p k u.input

      abbrev g : Facts
      g = after_h (happenings.Turn u)

      abbrev Left : TurnDraft → Type 0
      Left x = After (said_in f) e bound u.node known x

      found0 : (i : Input) → Found (heard k i).stored.durable.kept
      found0 i = subst Found (sym (heard_rows k i)) (rows_found s lawful u.node k may.up)

      rows0 : (i : Input) → AllByRecursion (Tells (said_in f) e bound) (heard k i).stored.durable.kept
      rows0 i = subst (λ (ks : List KeptRow). AllByRecursion (Tells (said_in f) e bound) ks) (sym (heard_rows k i)) (now u.node k may.up)

      leads : IfSome u.wrote (RecordLeads (said_in f))
      leads =
          subst (WritesAsTold t.places f) turn
          (fact_at t.places t.commands (WritesAsTold t.places) (first_facts t.places) hs h rest (subst (EachFactFrom (WritesAsTold t.places) t.places t.commands (first_facts t.places)) (sym is) (records_are_as_told t whole)))

      stands : IfSome u.wrote (MayStand e)
      stands = (tells_so t.places t.commands t.of_a_script.each f e (happenings.Turn u) (run_stands s lawful) (k, may)).0

      module _ (wrote : u.wrote ≡ d.wrote) where
        by_step : ((from to : BranchId) → Came u.input from to kinds.Ack → ⊥) → Left d
        by_step never =
            rows_on (said_in f) e bound u.node known p u.input never (serves t.places f u k may).step (subst (λ w. IfSome w (MayStand e)) wrote stands)
            (draft_voted t hs lawful u k may (subst (λ w. IfSome w (RecordLeads (said_in f))) wrote leads)) (found0 u.input) (rows0 u.input)

        by_ack : (m : Msg) → u.input ≡ inputs.Message m → m.kind ≡ kinds.Ack → Left d
        by_ack m it kind =
            let k0 : NodeState = heard k (inputs.Message m) in
            let left : Left (ack_turn k0 m.from m.to (status_of k0 m.to)) = ack_rows (said_in f) e bound u.node known k0 m.from m.to (rows0 (inputs.Message m)) in
            let same_turn : Left (kind_turn p k0 m.from m.to m.kind (status_of k0 m.to)) = subst (λ x. Left (kind_turn p k0 m.from m.to x (status_of k0 m.to))) (sym kind) left in
            subst (λ i. Left (draft_of p k i)) (sym it) same_turn

        left : Left d
        left = ack_or_none u.input by_step by_ack

      here : (node_at g u.node ≡ kept_after u.cut (Some (turn_of p k u.input))) × (records_at g u.node ≡ records_at f u.node ++ option_to_list u.wrote)
      here = turn_here t.places t.commands f (run_stands s lawful).0.even u k may.up

      bound_is : boots (records_at g u.node) ≡ bound
      bound_is = ap boots here.1 ∙ boots_with (records_at f u.node) u.wrote (of_wrote p k u (serves t.places f u k may) (λ w. IfSome w IsOfTurn) tt (step_of_turn p u.input (serves t.places f u k may).step))

      -- what the turn adds to its record
      rest_stays : (b : BranchId) → Stays (with_record u e) (events_h (happenings.Turn u)) b
      rest_stays b = record { seals = λ c so. (so.0, exit_later c _ (turn_added f g u e) so.1); forgets = λ has. turn_back b f g u e has }

      uncut : IsOwed p k u.input u.wrote u.sent false → AllByRecursion (Tells (said_in g) (events_h (happenings.Turn u)) (boots (records_at g u.node))) d.after.stored.durable.kept
      unfolding turn_of
      uncut owed =
          let said_is : said_in g ≡ said_in f ++ d.says = said_after t.places t.commands f (happenings.Turn u) ∙ ap (λ xs. said_in f ++ xs) (ap (λ xs. map post_of xs) owed.1 ∙ posts_back d.after.clock d.says) in
          let told : AllByRecursion (Tells (said_in f ++ d.says) (with_record u e) bound) d.after.stored.durable.kept
          = subst (λ w. AllByRecursion (Tells (said_in f ++ d.says) (with_event (wrote_event u.node w) e) bound) d.after.stored.durable.kept) (sym owed.0) (left owed.0) in
          subst (λ said. AllByRecursion (Tells said (events_h (happenings.Turn u)) (boots (records_at g u.node))) d.after.stored.durable.kept) (sym said_is)
          (subst (λ b. AllByRecursion (Tells (said_in f ++ d.says) (events_h (happenings.Turn u)) b) d.after.stored.durable.kept) (sym bound_is)
          (all_weaker _ _ (λ x so. tells_later (said_in f ++ d.says) (with_record u e) (events_h (happenings.Turn u)) bound x (rest_stays x.me) so) d.after.stored.durable.kept told))

      at_node : (cut : Bool) → u.cut ≡ cut → IsOwed p k u.input u.wrote u.sent cut → (j : NodeState) → node_at g u.node ≡ Some j → AllByRecursion (Tells (said_in g) (events_h (happenings.Turn u)) (boots (records_at g u.node))) j.stored.durable.kept
      unfolding turn_of
      at_node true cut owed j up = (let down : node_at g u.node ≡ None = here.0 ∙ ap (λ c. kept_after c (Some (turn_of p k u.input))) cut in absurd (cc (down, up)))
      at_node false cut owed j up =
          let there : node_at g u.node ≡ Some d.after = here.0 ∙ ap (λ c. kept_after c (Some (turn_of p k u.input))) cut in
          let both : Some d.after ≡ Some j = sym there ∙ up in
          let it : d.after ≡ j = cc in
          subst (λ (x : NodeState). AllByRecursion (Tells (said_in g) (events_h (happenings.Turn u)) (boots (records_at g u.node))) x.stored.durable.kept) it (uncut owed)

      own_record : IfSome u.wrote (IsRecordOf (λ b. b.node ≡ u.node))
      own_record = record_own t.places t.commands t.of_a_script.each f e u k (run_stands s lawful).1 (run_stands s lawful).0.even (node_so t.places t.commands t.of_a_script.each f e (run_stands s lawful))
          (owned_so t.places t.commands t.of_a_script.each f e (run_stands s lawful)) may

      elsewhere : (n : ℕ) → u.node ≢ n → (j : NodeState) → node_at g n ≡ Some j → AllByRecursion (Tells (said_in g) (events_h (happenings.Turn u)) (boots (records_at g n))) j.stored.durable.kept
      elsewhere n other j up =
          let same_there = turn_elsewhere t.places t.commands f (run_stands s lawful).0.even u n other in
          untouched (happenings.Turn u) n j (sym same_there.0 ∙ up) same_there.1
          (λ b node has. elim (wrote_back b u.node u.wrote e (turn_back b f g u e has)) [ inl old ↦ old | inr new ↦ absurd (other (sym (of_node u.wrote b own_record new) ∙ node)) ])
        where
          of_node : (w : Option RedoRecord) (b : BranchId) → IfSome w (IsRecordOf (λ c. c.node ≡ u.node)) → w ≡ Some (records.Forgot b) → b.node ≡ u.node
          of_node w b own it = subst (λ o. IfSome o (IsRecordOf (λ c. c.node ≡ u.node))) it own

      turn_tells : NodesTell g (events_h (happenings.Turn u))
      turn_tells n j up = elim (cases_nat u.node n) [
        | inl at ↦ subst (λ i. AllByRecursion (Tells (said_in g) (events_h (happenings.Turn u)) (boots (records_at g i))) j.stored.durable.kept) at (at_node u.cut refl may.owed j (subst (λ i. node_at g i ≡ Some j) (sym at) up))
        | inr other ↦ elsewhere n other j up
      ]

    -- ---- stops and starts

    even : length f.nodes ≡ length f.records
    even = (run_stands s lawful).0.even

    many : length f.nodes ≡ length t.places
    many = (run_stands s lawful).1.many

    stop_tells : (m : ℕ) → MayHappen t.places t.commands f (happenings.Stopped m) → NodesTell (after_h (happenings.Stopped m)) (events_h (happenings.Stopped m))
    stop_tells m may n j up = elim (cases_nat m n) [
      | inl at ↦ (let down : node_at (after_h (happenings.Stopped m)) m ≡ None = (stop_here t.places t.commands f even m may.0.0 (omega (arith, may.0.1, many))).0 in
          let none : node_at (after_h (happenings.Stopped m)) n ≡ None = subst (λ i. node_at (after_h (happenings.Stopped m)) i ≡ None) at down in absurd (cc (none, up)))
      | inr other ↦ (let same_there = stop_elsewhere t.places t.commands f even m n other in
          untouched (happenings.Stopped m) n j (sym same_there.0 ∙ up) same_there.1 (λ b node has. stop_back b f m e has))
    ]

    module _ (m boot : ℕ) (may : MayStart (length t.places) f m boot) where
      abbrev zs : List RedoRecord
      zs = with_boot f m boot

      booted : (stored_by nothing_stored zs).durable.kept ≡ stored_rows f m
      unfolding applied durable_after
      booted = ap (λ x. x.durable.kept) (stored_with (records_at f m) (Some (records.Boot boot)))

      low_one : (x : KeptRow) → exit e x.me ≢ None → x.me.node ≡ m → x.me.boot < boots zs
      low_one x left node =
          let given = ((run_stands s lawful).1.given x.me left).0 in
          let old : x.me.boot ≤ boots (records_at f m) = subst (λ i. x.me.boot ≤ boots (records_at f i)) node given in
          let one : boots zs ≡ boots (records_at f m) + 1 = boots_started (records_at f m) boot in
          omega (arith, old, one)

      low_rows : AllByRecursion (λ (x : KeptRow). x.me.boot < boots zs) (stored_rows f m)
      low_rows =
          all_weaker _ _ (λ x so. low_one x so.0 so.1) (stored_rows f m)
          (all_both (λ (x : KeptRow). exit e x.me ≢ None) (λ (x : KeptRow). x.me.node ≡ m) (stored_rows f m) (all_weaker _ _ (λ x so. so.left) (stored_rows f m) ((run_stands s lawful).1.rows m))
          (rows_stored (λ b. b.node ≡ m) nothing_stored (records_at f m) ((run_stands s lawful).1.own m) tt))

      started : (said : List Post) (r : List Event) → AllByRecursion (Tells said r (boots zs)) (start_of zs).stored.durable.kept
      unfolding start_of
      started said r = subst (λ (ks : List KeptRow). AllByRecursion (Tells said r (boots zs)) ks) (sym booted) (all_weaker _ _ (λ x low. inr low) (stored_rows f m) low_rows)

      start_tells : NodesTell (after_h (happenings.Started m boot)) (events_h (happenings.Started m boot))
      start_tells n j up = elim (cases_nat m n) [
        | inl at ↦ (let begun = start_here t.places t.commands f even m boot may.there.0 (omega (arith, may.there.1, many)) in
            let there : node_at (after_h (happenings.Started m boot)) n ≡ Some (start_of zs) = subst (λ i. node_at (after_h (happenings.Started m boot)) i ≡ Some (start_of zs)) at begun.0 in
            let disk : records_at (after_h (happenings.Started m boot)) n ≡ zs = subst (λ i. records_at (after_h (happenings.Started m boot)) i ≡ zs) at begun.1 in
            let both : Some (start_of zs) ≡ Some j = sym there ∙ up in
            let it : start_of zs ≡ j = cc in
            subst₂ (λ (x : NodeState) (rs : List RedoRecord). AllByRecursion (Tells (said_in (after_h (happenings.Started m boot))) e (boots rs)) x.stored.durable.kept) it (sym disk) (started (said_in (after_h (happenings.Started m boot))) e))
        | inr other ↦ (let same_there = start_elsewhere t.places t.commands f even m boot n other in untouched (happenings.Started m boot) n j (sym same_there.0 ∙ up) same_there.1 (λ b node has. has))
      ]

    tells_by : (y : Happening) → h ≡ y → MayHappen t.places t.commands f y → NodesTell (after_h y) (events_h y)
    unfolding facts_after
    tells_by (happenings.Turn u) turn may = turn_tells u may.0 may.1 turn
    tells_by (happenings.Stopped m) it may = stop_tells m may
    tells_by (happenings.Started m boot) it may = start_tells m boot may
    tells_by (happenings.Begun c) it may = λ n j up. untouched (happenings.Begun c) n j up refl (λ b node has. has)
    tells_by (happenings.Cut a b) it may = λ n j up. untouched (happenings.Cut a b) n j up refl (λ c node has. has)
    tells_by (happenings.Join a b) it may = λ n j up. untouched (happenings.Join a b) n j up refl (λ c node has. has)
    tells_by (happenings.Lost c) it may = λ n j up. untouched (happenings.Lost c) n j up refl (λ b node has. has)

    tells_on : NodesTell (f_at t (hs ++ h ∷ [])) (e_at t (hs ++ h ∷ []))
    tells_on = subst₂ NodesTell (sym (one_on t hs h)) (sym (more_on t hs h)) (tells_by h refl (may_of t whole hs h rest is))

  made_so : (said : List Post) (b : ℕ) → AllByRecursion (Tells said [] b) (start_of (records.Boot 1 ∷ [])).stored.durable.kept
  unfolding start_of stored_by applied durable_after
  made_so said b = tt

  first_so : (n : ℕ) → IfSome (node_at (first_facts t.places) n) (λ (x : NodeState). AllByRecursion (Tells (said_in (first_facts t.places)) [] (boots (records_at (first_facts t.places) n))) x.stored.durable.kept)
  first_so n = first_node (λ o. IfSome o (λ (x : NodeState). AllByRecursion (Tells (said_in (first_facts t.places)) [] (boots (records_at (first_facts t.places) n))) x.stored.durable.kept)) tt (made_so (said_in (first_facts t.places)) (boots (records_at (first_facts t.places) n))) t.places n

  first_tells : NodesTell (f_at t []) (e_at t [])
  unfolding facts_of events_from
  first_tells n k up = subst (λ o. IfSome o (λ (x : NodeState). AllByRecursion (Tells (said_in (first_facts t.places)) [] (boots (records_at (first_facts t.places) n))) x.stored.durable.kept)) up (first_so n)

  pub run_tells : NodesTell (facts_at t) (events_of t)
  run_tells = keep_on t whole (λ hs. NodesTell (f_at t hs) (e_at t hs)) tells_on [] t.trace (record { rest = []; is = append-nil t.trace }) first_tells

pub rows_tell : RowsTell
rows_tell t whole n k up =
    all_weaker _ _ (λ x so. by x so.0 so.1) k.stored.durable.kept (all_both _ _ k.stored.durable.kept (run_tells t whole n k up) (ids_name_their_node t whole n k up).rows)
  where
    by : (x : KeptRow) → Tells (said_in (facts_at t)) (events_of t) (boots (records_at (facts_at t) n)) x → x.me.node ≡ n → RowTells (said_in (facts_at t)) (events_of t) x ⊎ NodeHasStopped (facts_at t) x.me
    by x (inl so) node = inl (record { sealed = so.0.sealed; acks = so.1; plain = λ un. (so.0.whole un).1; forgets = so.0.forgets })
    by x (inr old) node = inr (λ j there. subst (λ i. x.me.boot < boots (records_at (facts_at t) i)) (sym node) old)
