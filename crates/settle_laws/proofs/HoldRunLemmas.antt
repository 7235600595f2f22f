-- In every lawful run the rows of nodes hold so, and those that their records make.
use Rattle.std.proofs.Common.{◌≡◌, ◌≢◌, ℕ, Bool, true, false, List, [], ◌∷◌, ◌++◌, map, length, Option, Some, None, inl, inr, refl, sym, ap, subst, subst₂, ◌∙◌, arith, append-nil}
use Rattle.std.specs.Prelude.{IfSome}
use Rattle.std.specs.Option.{option_to_list}
use Rattle.std.specs.List.{AllByRecursion}
use Rattle.redo_record.specs.Durable.{durable_after}
use Rattle.agreement.specs.Events.{Event, Forget, exit, Has}
use Rattle.node_rules.specs.Data.{BranchId, Input, Msg, Place, Post, RedoRecord, KeptRow}
use Rattle.node_rules.specs.Data.inputs
use Rattle.node_rules.specs.Data.kinds
use Rattle.node_rules.specs.Data.records
use Rattle.node_rules.specs.Inputs.{Came}
use Rattle.node_rules.specs.NodeState.{NodeState, Stored, TurnDraft}
use Rattle.node_rules.specs.Records.{applied, nothing_stored, stored_by}
use Rattle.node_rules.specs.Turn.{turn_of, start_of, heard, draft_of, kind_turn, ack_turn, status_of}
use Rattle.run_rules.specs.Data.{Happening, Turn}
use Rattle.run_rules.specs.Data.happenings
use Rattle.run_base_laws.specs.EventRows.{MayStand, RowIs}
use Rattle.run_rules.specs.Facts.{Facts, first_facts, place_at, node_at, records_at, kept_after, with_boot, facts_after, facts_of}
use Rattle.run_base_laws.specs.IdLaws.{IsRecordOf}
use Rattle.run_base_laws.specs.InTurnLaws.{said_in}
use Rattle.run_rules.specs.Lawful.{IsOwed, MayHappen, MayTurn, MayStart, History, IsLawfulRun, facts_at}
use Rattle.run_base_laws.specs.NodeLaws.{EachFactFrom, unacked, unacked_row}
use Rattle.run_base_laws.specs.RunEvents.{with_event, wrote_event, with_record, events_after, events_from, events_of}
use Rattle.run_rules.proofs.AtNodeLemmas.{turn_elsewhere, turn_here, stop_elsewhere, stop_here, start_elsewhere, start_here}
use Rattle.run_base_laws.proofs.EventsStandLemmas.{stand_first, first_node, node_so, owned_so, run_stands, tells_so, ids_name_their_node}
use Rattle.run_base_laws.proofs.LaterLemmas.{exit_later, turn_added}
use Rattle.run_base_laws.proofs.LawfulLemmas.{serves}
use Rattle.run_rules.proofs.ListLemmas.{all_weaker}
use Rattle.run_base_laws.proofs.NodesStandLemmas.{stored_rows}
use Rattle.run_base_laws.proofs.OwnLemmas.{rows_stored}
use Rattle.run_base_laws.proofs.StoredLemmas.{StoresOf, stored_with, step_stores_of, records_are_kept}
use Rattle.run_branch_laws.proofs.TowardLemmas.{heard_rows}
use Rattle.run_base_laws.proofs.TurnEventLemmas.{all_both, cases_nat, record_own}
use Rattle.tree_laws.specs.RecordLaws.{RecordLeads, WritesAsTold}
use Rattle.tree_laws.proofs.PrefixLemmas.{f_at, e_at, one_on, more_on}
use Rattle.tree_laws.proofs.RecordRunLemmas.{records_are_as_told}
use Rattle.tree_laws.proofs.TimeLemmas.{may_of, fact_at, exit_on, keep_on}
use Rattle.commit_forget_laws.proofs.AckTurnLemmas.{ack_rows}
use Rattle.tree_laws.proofs.MoreLemmas.{inv_at}
use Rattle.commit_forget_laws.proofs.EventLemmas.{forgot_left, turn_back, stop_back, wrote_back}
use Rattle.commit_forget_laws.proofs.TellLemmas.{Tells, Stays}
use Rattle.commit_forget_laws.proofs.RowStepLemmas.{After, Found, rows_on}
use Rattle.commit_forget_laws.proofs.VotedLemmas.{draft_voted}
use Rattle.commit_forget_laws.proofs.FoundRowLemmas.{rows_found}
use Rattle.settle_laws.proofs.HoldLemmas.{Holds, holds_stays, all_unacked, tells_for, from_tells}
use Rattle.tree_laws.proofs.AtTurn.{at_happening}
use Rattle.commit_forget_laws.proofs.RowRunLemmas.{ack_or_none}

heard_stored : (k : NodeState) (input : Input) → (heard k input).stored ≡ k.stored
heard_stored k (inputs.Message m) = refl
heard_stored k (inputs.Call n s) = refl
heard_stored k (inputs.GiveUp n) = refl
heard_stored k inputs.Reco = refl
heard_stored k inputs.Checkpoint = refl

module _ (t : History) (whole : IsLawfulRun t) where
  abbrev pub NodesHold : Facts → List Event → Type 0
  NodesHold f e = (n : ℕ) (k : NodeState) → node_at f n ≡ Some k → AllByRecursion (Holds e) k.stored.durable.kept

  -- the rows that the records of a node make, whether it is up or not
  abbrev pub DisksHold : Facts → List Event → Type 0
  DisksHold f e = (n : ℕ) → AllByRecursion (Holds e) (stored_rows f n)

  abbrev pub BothHold : Facts → List Event → Type 0
  BothHold f e = NodesHold f e × DisksHold f e

  module _ (hs : List Happening) (h : Happening) (rest : List Happening) (is : hs ++ h ∷ rest ≡ t.trace) (now : BothHold (f_at t hs) (e_at t hs)) where
    open at_happening t whole hs h rest is use {f, e, s, lawful}

    abbrev after_h : Happening → Facts
    after_h y = facts_after t.places t.commands f y

    abbrev events_h : Happening → List Event
    events_h y = events_after t.places t.commands f y e

    known : (b : BranchId) → Has (Forget b) e → exit e b ≢ None
    known b has = forgot_left _ e (inv_at s lawful hs (record { rest = []; is = append-nil hs })) b has

    rows_here : (n : ℕ) (k : NodeState) → node_at f n ≡ Some k → AllByRecursion (λ x. Holds e x × (x.me.node ≡ n)) k.stored.durable.kept
    rows_here n k up = all_both _ _ k.stored.durable.kept (now.0 n k up) (ids_name_their_node s lawful n k up).rows

    disk_here : (n : ℕ) → AllByRecursion (λ x. Holds e x × (x.me.node ≡ n)) (stored_rows f n)
    disk_here n = all_both _ _ (stored_rows f n) (now.1 n) (rows_stored (λ b. b.node ≡ n) nothing_stored (records_at f n) ((run_stands s lawful).1.own n) tt)

    -- at a node that nothing happens to
    module _ (y : Happening) where
      stays_so : (b : BranchId) → (Has (Forget b) (events_h y) → Has (Forget b) e) → Stays e (events_h y) b
      stays_so b back = record { seals = λ c so. (so.0, exit_on t.places t.commands f y e c _ so.1); forgets = back }

      rows_stay : (n : ℕ) (ks : List KeptRow) → AllByRecursion (λ x. Holds e x × (x.me.node ≡ n)) ks → ((b : BranchId) → b.node ≡ n → Has (Forget b) (events_h y) → Has (Forget b) e) → AllByRecursion (Holds (events_h y)) ks
      rows_stay n ks all back = all_weaker _ (Holds (events_h y)) (λ x so. holds_stays e (events_h y) x (stays_so x.me (back x.me so.1)) so.0) ks all

      disk_stays : (n : ℕ) → records_at (after_h y) n ≡ records_at f n → ((b : BranchId) → b.node ≡ n → Has (Forget b) (events_h y) → Has (Forget b) e) → AllByRecursion (Holds (events_h y)) (stored_rows (after_h y) n)
      disk_stays n same_disk back =
          subst (λ (rs : List RedoRecord). AllByRecursion (Holds (events_h y)) (stored_by nothing_stored rs).durable.kept) (sym same_disk) (rows_stay n (stored_rows f n) (disk_here n) back)

    -- ---- a turn

    module _ (u : Turn) (k : NodeState) (may : MayTurn t.places f u k) (turn : h ≡ happenings.Turn u) where
      abbrev p : Place
      p = place_at t.places u.node

      abbrev d : TurnDraft
      d = draft_of p k u.input

      abbrev g : Facts
      g = after_h (happenings.Turn u)

      found0 : Found (heard k u.input).stored.durable.kept
      found0 = subst Found (sym (heard_rows k u.input)) (rows_found s lawful u.node k may.up)

      -- messages that the rows could have told
      ghost_said : (said : List Post) × AllByRecursion (Tells said e 0) k.stored.durable.kept
      ghost_said = tells_for e k.stored.durable.kept (now.0 u.node k may.up)

      abbrev told : List Post
      told = ghost_said.0

      rows0 : (i : Input) → AllByRecursion (Tells told e 0) (heard k i).stored.durable.kept
      rows0 i = subst (λ (ks : List KeptRow). AllByRecursion (Tells told e 0) ks) (sym (heard_rows k i)) ghost_said.1

      abbrev Left : TurnDraft → Type 0
      Left x = After told e 0 u.node known x

      leads : IfSome u.wrote (RecordLeads (said_in f))
      leads =
          subst (WritesAsTold t.places f) turn
          (fact_at t.places t.commands (WritesAsTold t.places) (first_facts t.places) hs h rest (subst (EachFactFrom (WritesAsTold t.places) t.places t.commands (first_facts t.places)) (sym is) (records_are_as_told t whole)))

      stands : IfSome u.wrote (MayStand e)
      stands = (tells_so t.places t.commands t.of_a_script.each f e (happenings.Turn u) (run_stands s lawful) (k, may)).0

      here : (node_at g u.node ≡ kept_after u.cut (Some (turn_of p k u.input))) × (records_at g u.node ≡ records_at f u.node ++ option_to_list u.wrote)
      here = turn_here t.places t.commands f (run_stands s lawful).0.even u k may.up

      module _ (wrote : u.wrote ≡ d.wrote) where
        by_step : ((from to : BranchId) → Came u.input from to kinds.Ack → ⊥) → Left d
        by_step never =
            rows_on told e 0 u.node known p u.input never (serves t.places f u k may).step (subst (λ w. IfSome w (MayStand e)) wrote stands)
            (draft_voted t hs lawful u k may (subst (λ w. IfSome w (RecordLeads (said_in f))) wrote leads)) found0 (rows0 u.input)

        by_ack : (m : Msg) → u.input ≡ inputs.Message m → m.kind ≡ kinds.Ack → Left d
        by_ack m it kind =
            let k0 : NodeState = heard k (inputs.Message m) in
            let left : Left (ack_turn k0 m.from m.to (status_of k0 m.to)) = ack_rows told e 0 u.node known k0 m.from m.to (rows0 (inputs.Message m)) in
            let same_turn : Left (kind_turn p k0 m.from m.to m.kind (status_of k0 m.to)) = subst (λ x. Left (kind_turn p k0 m.from m.to x (status_of k0 m.to))) (sym kind) left in
            subst (λ i. Left (draft_of p k i)) (sym it) same_turn

        -- the rows after the turn, by its record
        left : AllByRecursion (Holds (with_record u e)) d.after.stored.durable.kept
        left =
            subst (λ w. AllByRecursion (Holds (with_event (wrote_event u.node w) e)) d.after.stored.durable.kept) (sym wrote)
            (all_weaker _ (Holds (with_event (wrote_event u.node d.wrote) e)) (λ x so. from_tells (told ++ d.says) (with_event (wrote_event u.node d.wrote) e) x so) d.after.stored.durable.kept (ack_or_none u.input by_step by_ack))

        -- and those that its records make
        stored0 : StoresOf (records_at f u.node) (heard k u.input)
        stored0 = ap unacked (heard_stored k u.input) ∙ records_are_kept s lawful u.node k may.up

        stored_now : stored_rows g u.node ≡ map unacked_row d.after.stored.durable.kept
        stored_now =
            ap (λ (rs : List RedoRecord). (stored_by nothing_stored rs).durable.kept) (here.1 ∙ ap (λ w. records_at f u.node ++ option_to_list w) wrote)
            ∙ sym (ap (λ (x : Stored). x.durable.kept) (step_stores_of p (records_at f u.node) u.input (heard k u.input) d (serves t.places f u k may).step stored0))

      -- what the turn adds to its record
      rest_stays : (b : BranchId) → Stays (with_record u e) (events_h (happenings.Turn u)) b
      rest_stays b = record { seals = λ c so. (so.0, exit_later c _ (turn_added f g u e) so.1); forgets = λ has. turn_back b f g u e has }

      rows_later : (ks : List KeptRow) → AllByRecursion (Holds (with_record u e)) ks → AllByRecursion (Holds (events_h (happenings.Turn u))) ks
      rows_later ks all = all_weaker _ (Holds (events_h (happenings.Turn u))) (λ x so. holds_stays (with_record u e) (events_h (happenings.Turn u)) x (rest_stays x.me) so) ks all

      disk_wrote : u.wrote ≡ d.wrote → AllByRecursion (Holds (events_h (happenings.Turn u))) (stored_rows g u.node)
      disk_wrote wrote =
          rows_later (stored_rows g u.node) (subst (λ (ks : List KeptRow). AllByRecursion (Holds (with_record u e)) ks) (sym (stored_now wrote)) (all_unacked (with_record u e) d.after.stored.durable.kept (left wrote)))

      -- a turn that is cut before its record stands
      disk_none : u.wrote ≡ None → AllByRecursion (Holds (events_h (happenings.Turn u))) (stored_rows g u.node)
      disk_none none =
          let same_disk : records_at g u.node ≡ records_at f u.node = here.1 ∙ (ap (λ w. records_at f u.node ++ option_to_list w) none ∙ append-nil (records_at f u.node)) in
          let same_events : with_record u e ≡ e = ap (λ w. with_event (wrote_event u.node w) e) none in
          rows_later (stored_rows g u.node)
          (subst₂ (λ (rs : List RedoRecord) (x : List Event). AllByRecursion (Holds x) (stored_by nothing_stored rs).durable.kept) (sym same_disk) (sym same_events) (now.1 u.node))

      disk_at : (cut : Bool) → IsOwed p k u.input u.wrote u.sent cut → AllByRecursion (Holds (events_h (happenings.Turn u))) (stored_rows g u.node)
      unfolding turn_of
      disk_at false owed = disk_wrote owed.0
      disk_at true owed = elim owed.0 [ inl none ↦ disk_none none | inr wrote ↦ disk_wrote wrote ]

      at_node : (cut : Bool) → u.cut ≡ cut → IsOwed p k u.input u.wrote u.sent cut → (j : NodeState) → node_at g u.node ≡ Some j → AllByRecursion (Holds (events_h (happenings.Turn u))) j.stored.durable.kept
      unfolding turn_of
      at_node true cut owed j up = (let down : node_at g u.node ≡ None = here.0 ∙ ap (λ c. kept_after c (Some (turn_of p k u.input))) cut in absurd (cc (down, up)))
      at_node false cut owed j up =
          let there : node_at g u.node ≡ Some d.after = here.0 ∙ ap (λ c. kept_after c (Some (turn_of p k u.input))) cut in
          let both : Some d.after ≡ Some j = sym there ∙ up in
          let it : d.after ≡ j = cc in
          subst (λ (x : NodeState). AllByRecursion (Holds (events_h (happenings.Turn u))) x.stored.durable.kept) it (rows_later d.after.stored.durable.kept (left owed.0))

      own_record : IfSome u.wrote (IsRecordOf (λ b. b.node ≡ u.node))
      own_record = record_own t.places t.commands t.of_a_script.each f e u k (run_stands s lawful).1 (run_stands s lawful).0.even (node_so t.places t.commands t.of_a_script.each f e (run_stands s lawful))
          (owned_so t.places t.commands t.of_a_script.each f e (run_stands s lawful)) may

      not_there : (n : ℕ) → u.node ≢ n → (b : BranchId) → b.node ≡ n → Has (Forget b) (events_h (happenings.Turn u)) → Has (Forget b) e
      not_there n other b node has =
          elim (wrote_back b u.node u.wrote e (turn_back b f g u e has)) [ inl old ↦ old | inr new ↦ absurd (other (sym (of_node u.wrote own_record new) ∙ node)) ]
        where
          of_node : (w : Option RedoRecord) → IfSome w (IsRecordOf (λ c. c.node ≡ u.node)) → w ≡ Some (records.Forgot b) → b.node ≡ u.node
          of_node w own it = subst (λ o. IfSome o (IsRecordOf (λ c. c.node ≡ u.node))) it own

      turn_holds : BothHold g (events_h (happenings.Turn u))
      turn_holds = (
        λ n j up. elim (cases_nat u.node n) [
          | inl at ↦ at_node u.cut refl may.owed j (subst (λ i. node_at g i ≡ Some j) (sym at) up)
          | inr other ↦ rows_stay (happenings.Turn u) n j.stored.durable.kept (rows_here n j (sym (turn_elsewhere t.places t.commands f (run_stands s lawful).0.even u n other).0 ∙ up)) (not_there n other)
        ],
        λ n. elim (cases_nat u.node n) [
          | inl at ↦ subst (λ i. AllByRecursion (Holds (events_h (happenings.Turn u))) (stored_rows g i)) at (disk_at u.cut may.owed)
          | inr other ↦ disk_stays (happenings.Turn u) n (turn_elsewhere t.places t.commands f (run_stands s lawful).0.even u n other).1 (not_there n other)
        ],
      )

    -- ---- stops and starts

    even : length f.nodes ≡ length f.records
    even = (run_stands s lawful).0.even

    many : length f.nodes ≡ length t.places
    many = (run_stands s lawful).1.many

    stop_holds : (m : ℕ) → MayHappen t.places t.commands f (happenings.Stopped m) → BothHold (after_h (happenings.Stopped m)) (events_h (happenings.Stopped m))
    stop_holds m may =
        let here = stop_here t.places t.commands f even m may.0.0 (omega (arith, may.0.1, many)) in (
          λ n j up. elim (cases_nat m n) [
            | inl at ↦ (let none : node_at (after_h (happenings.Stopped m)) n ≡ None = subst (λ i. node_at (after_h (happenings.Stopped m)) i ≡ None) at here.0 in absurd (cc (none, up)))
            | inr other ↦ rows_stay (happenings.Stopped m) n j.stored.durable.kept (rows_here n j (sym (stop_elsewhere t.places t.commands f even m n other).0 ∙ up)) (λ b node has. stop_back b f m e has)
          ],
          λ n. elim (cases_nat m n) [
            | inl at ↦ disk_stays (happenings.Stopped m) n (subst (λ i. records_at (after_h (happenings.Stopped m)) i ≡ records_at f i) at here.1) (λ b node has. stop_back b f m e has)
            | inr other ↦ disk_stays (happenings.Stopped m) n (stop_elsewhere t.places t.commands f even m n other).1 (λ b node has. stop_back b f m e has)
          ],
        )

    module _ (m boot : ℕ) (may : MayStart (length t.places) f m boot) where
      abbrev zs : List RedoRecord
      zs = with_boot f m boot

      booted : (stored_by nothing_stored zs).durable.kept ≡ stored_rows f m
      unfolding applied durable_after
      booted = ap (λ x. x.durable.kept) (stored_with (records_at f m) (Some (records.Boot boot)))

      disk_started : AllByRecursion (Holds e) (stored_by nothing_stored zs).durable.kept
      disk_started = subst (λ (ks : List KeptRow). AllByRecursion (Holds e) ks) (sym booted) (now.1 m)

      started : AllByRecursion (Holds e) (start_of zs).stored.durable.kept
      unfolding start_of
      started = disk_started

      begun : (node_at (after_h (happenings.Started m boot)) m ≡ Some (start_of zs)) × (records_at (after_h (happenings.Started m boot)) m ≡ zs)
      begun = start_here t.places t.commands f even m boot may.there.0 (omega (arith, may.there.1, many))

      start_holds : BothHold (after_h (happenings.Started m boot)) (events_h (happenings.Started m boot))
      start_holds = (
        λ n j up. elim (cases_nat m n) [
          | inl at ↦ (let there : node_at (after_h (happenings.Started m boot)) n ≡ Some (start_of zs) = subst (λ i. node_at (after_h (happenings.Started m boot)) i ≡ Some (start_of zs)) at begun.0 in
              let both : Some (start_of zs) ≡ Some j = sym there ∙ up in
              let it : start_of zs ≡ j = cc in
              subst (λ (x : NodeState). AllByRecursion (Holds e) x.stored.durable.kept) it started)
          | inr other ↦ rows_stay (happenings.Started m boot) n j.stored.durable.kept (rows_here n j (sym (start_elsewhere t.places t.commands f even m boot n other).0 ∙ up)) (λ b node has. has)
        ],
        λ n. elim (cases_nat m n) [
          | inl at ↦ subst (λ i. AllByRecursion (Holds e) (stored_rows (after_h (happenings.Started m boot)) i)) at
              (subst (λ (rs : List RedoRecord). AllByRecursion (Holds e) (stored_by nothing_stored rs).durable.kept) (sym begun.1) disk_started)
          | inr other ↦ disk_stays (happenings.Started m boot) n (start_elsewhere t.places t.commands f even m boot n other).1 (λ b node has. has)
        ],
      )

    same_nodes : (y : Happening) → ((n : ℕ) (k : NodeState) → node_at (after_h y) n ≡ Some k → node_at f n ≡ Some k) → ((n : ℕ) → records_at (after_h y) n ≡ records_at f n) → events_h y ≡ e → BothHold (after_h y) (events_h y)
    same_nodes y nodes disks events =
        let back : (b : BranchId) → Has (Forget b) (events_h y) → Has (Forget b) e = λ b has. subst (Has (Forget b)) events has in
        (λ n j up. rows_stay y n j.stored.durable.kept (rows_here n j (nodes n j up)) (λ b node has. back b has), λ n. disk_stays y n (disks n) (λ b node has. back b has))

    holds_by : (y : Happening) → h ≡ y → MayHappen t.places t.commands f y → BothHold (after_h y) (events_h y)
    unfolding facts_after
    holds_by (happenings.Turn u) turn may = turn_holds u may.0 may.1 turn
    holds_by (happenings.Stopped m) it may = stop_holds m may
    holds_by (happenings.Started m boot) it may = start_holds m boot may
    holds_by (happenings.Begun c) it may = same_nodes (happenings.Begun c) (λ n k up. up) (λ n. refl) refl
    holds_by (happenings.Cut a b) it may = same_nodes (happenings.Cut a b) (λ n k up. up) (λ n. refl) refl
    holds_by (happenings.Join a b) it may = same_nodes (happenings.Join a b) (λ n k up. up) (λ n. refl) refl
    holds_by (happenings.Lost c) it may = same_nodes (happenings.Lost c) (λ n k up. up) (λ n. refl) refl

    holds_on : BothHold (f_at t (hs ++ h ∷ [])) (e_at t (hs ++ h ∷ []))
    holds_on = subst₂ BothHold (sym (one_on t hs h)) (sym (more_on t hs h)) (holds_by h refl (may_of t whole hs h rest is))

  made_so : AllByRecursion (Holds []) (start_of (records.Boot 1 ∷ [])).stored.durable.kept
  unfolding start_of stored_by applied durable_after
  made_so = tt

  first_so : (n : ℕ) → IfSome (node_at (first_facts t.places) n) (λ (x : NodeState). AllByRecursion (Holds []) x.stored.durable.kept)
  first_so n = first_node (λ o. IfSome o (λ (x : NodeState). AllByRecursion (Holds []) x.stored.durable.kept)) tt made_so t.places n

  first_holds : BothHold (f_at t []) (e_at t [])
  unfolding facts_of events_from
  first_holds = (λ n k up. subst (λ o. IfSome o (λ (x : NodeState). AllByRecursion (Holds []) x.stored.durable.kept)) up (first_so n), λ n. all_weaker (RowIs []) (Holds []) (λ x so. absurd (so.left refl)) (stored_rows (first_facts t.places) n) ((stand_first t.places t.commands t.of_a_script.each).1.rows n))

  pub run_holds : BothHold (facts_at t) (events_of t)
  run_holds = keep_on t whole (λ hs. BothHold (f_at t hs) (e_at t hs)) holds_on [] t.trace (record { rest = []; is = append-nil t.trace }) first_holds
