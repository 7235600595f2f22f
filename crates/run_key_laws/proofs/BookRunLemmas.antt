-- In every lawful run the committed rows of a node are those that the book tells.
use Rattle.std.proofs.Common.{◌≡◌, ◌≢◌, ℕ, ◌==◌, Bool, true, false, if◌then◌else◌, List, [], ◌∷◌, ◌++◌, Option, Some, None, inl, inr, refl, sym, ap, subst, ◌∙◌, append-nil, arith}
use Rattle.std.specs.Prelude.{IfSome}
use Rattle.std.specs.Option.{option_to_list}
use Rattle.std.specs.List.{AllByRecursion}
use Rattle.std.proofs.lemmas.Bool.{eqb-true}
use Rattle.tran_ids.proofs.BranchLemmas.{equal_from_same}
use Rattle.tran_ids.proofs.ListedLemmas.{item_is}
use Rattle.agreement.specs.Events.{Sealed, Quiet, Dropped, Event, exit_by, exit, learned_by, learned, forced_by, forced}
use Rattle.agreement.proofs.EventLemmas.{only_at_is}
use Rattle.node_rules.specs.Data.{Change, Table, Stmt, Done, BranchId, RedoRecord, Place, Input, Doubt}
use Rattle.node_rules.specs.Data.decisions
use Rattle.node_rules.specs.Data.records
use Rattle.node_rules.specs.Data.acts
use Rattle.node_rules.specs.Data.inputs
use Rattle.commit_forget.specs.declared.next.Next.TheVariants as nexts
use Rattle.node_rules.specs.Turn.{heard, draft_of}
use Rattle.node_rules.proofs.Steps as steps
use Rattle.node_rules.proofs.Steps.{Step, Makes, Makes_table, Makes_link, Makes_synonym, Sets_recovery, Sets_strength}
use Rattle.run_base_laws.specs.NodeLaws.{unacked}
use Rattle.node_rules.specs.Words.{same, numbered, item_at}
use Rattle.node_rules.specs.Rows.{rows_of_table}
use Rattle.node_rules.specs.NodeState.{NodeState, TurnDraft, Stored, doubt_id, Branch}
use Rattle.node_rules.specs.Records.{applied, nothing_stored, stored_by}
use Rattle.node_rules.specs.Calls.{backs_to}
use Rattle.node_rules.specs.Marks.{node_back, branch_back, next_back}
use Rattle.book.specs.Entries.{entry_of, entries_of}
use Rattle.redo_record.specs.Durable.{durable_after}
use Rattle.run_rules.specs.Data.{Entry, Turn, Happening, Command}
use Rattle.run_rules.specs.Data.entries
use Rattle.run_rules.specs.Data.happenings
use Rattle.run_rules.specs.Facts.{Facts, first_facts, place_at, records_at, facts_after}
use Rattle.run_rules.specs.Lawful.{IsPlace, MayHappen, facts_at}
use Rattle.run_rules.specs.Book.{changes_in, changes_of, rows_by_book}
use Rattle.run_base_laws.specs.IdLaws.{IsRecordOf}
use Rattle.run_base_laws.specs.RunEvents.{with_event, wrote_event, record_event, with_record, events_after, events_of}
use Rattle.run_base_laws.specs.EventRows.{MayStand}
use Rattle.run_key_laws.specs.TableLaws.{StoredFits, LiveChangesFit}
use Rattle.run_key_laws.specs.ToldLaws.{RowsAreOfTheBook}
use Rattle.run_rules.proofs.FactLemmas.{book_is}
use Rattle.run_base_laws.proofs.OwnLemmas.{all_found}
use Rattle.run_base_laws.proofs.LawfulLemmas.{Serves, of_wrote, serves}
use Rattle.run_key_laws.proofs.TableStepLemmas.{Fits, MakesWhole}
use Rattle.run_key_laws.proofs.TableRunLemmas.{fits_at, comes_spelled, step_whole}
use Rattle.run_key_laws.proofs.ChangedLemmas.{Fits as Marked}
use Rattle.run_base_laws.proofs.StoredLemmas.{StoresOf, stored_with}
use Rattle.run_base_laws.proofs.LaterLemmas.{Added, Later, Was_said, Was_quiet, Was_dropped, exit_later, exit_made, learned_same, forced_same, later_learned, later_forced, turn_added, stop_added, events_keep}
use Rattle.run_base_laws.proofs.NodesStandLemmas.{LeavesAlone, wrote_elsewhere, exit_alone, some_or_none}
use Rattle.run_rules.proofs.AtNodeLemmas.{turn_elsewhere, turn_here, start_elsewhere, start_here}
use Rattle.run_base_laws.proofs.TurnEventLemmas.{cases_nat, record_may, record_own}
use Rattle.run_base_laws.proofs.EventsStandLemmas.{node_so, owned_so, first_disk}
use Rattle.run_key_laws.proofs.TableLemmas.{RecordFits}
use Rattle.run_key_laws.proofs.DoubtLemmas.{IsOpen, DoubtsAre}
use Rattle.run_key_laws.proofs.KeyRunLemmas.{AllStands, all_on, all_first}
use Rattle.run_key_laws.proofs.ToldLemmas.{changes_more, IsQuietAt, told_quietly, changes_quietly, first_left, first_right, not_only}
use Rattle.run_key_laws.proofs.BookRowLemmas.{StoredStands, IsUnseen, book_with}

-- ---- an entry of another node

other_branch : (n m : ℕ) (c b : BranchId) → c.node ≡ m → b.node ≡ n → n ≢ m → same c b ≡ false
other_branch n m c b there here other = by (same c b) refl
  where
    by : (q : Bool) → same c b ≡ q → q ≡ false
    by false is = refl
    by true is = absurd (other (sym here ∙ (sym (ap (λ x. x.node) (equal_from_same c b is)) ∙ there)))

other_node : (n m k : ℕ) (cs : List Change) → k ≡ m → n ≢ m → (if k == n then cs else []) ≡ []
other_node n m k cs there other = by (k == n) refl
  where
    by : (q : Bool) → (k == n) ≡ q → (if q then cs else []) ≡ []
    by false is = refl
    by true is = absurd (other (sym (eqb-true k n is) ∙ there))

-- commits nothing here, and has no changes of branches of this node
entry_elsewhere : (n m : ℕ) (r : RedoRecord) → IsRecordOf (λ b. b.node ≡ m) r → n ≢ m → AllByRecursion (IsQuietAt n) (entry_of m r)
entry_elsewhere n m (records.Boot k) own other = tt
entry_elsewhere n m (records.Table x) own other = ((λ older. refl, λ b here. refl), tt)
entry_elsewhere n m (records.Link l) own other = tt
entry_elsewhere n m (records.Synonym y) own other = tt
entry_elsewhere n m (records.Param x) own other = tt
entry_elsewhere n m (records.Sealed r) own other = ((λ older. refl, λ b here. ap (λ q. if q then r.changes else []) (other_branch n m r.me b own here other)), tt)
entry_elsewhere n m (records.Decided r) own other = ((λ older. other_node n m r.me.node r.changes own other, λ b here. ap (λ q. if q then r.changes else []) (other_branch n m r.me b own here other)), tt)
entry_elsewhere n m (records.Ended c (decisions.Commit k)) own other = ((λ older. other_node n m c.node (changes_of older c) own other, λ b here. refl), tt)
entry_elsewhere n m (records.Ended c decisions.Rollback) own other = ((λ older. refl, λ b here. refl), tt)
entry_elsewhere n m (records.Forced c (decisions.Commit k) given) own other = ((λ older. other_node n m c.node (changes_of older c) own other, λ b here. refl), tt)
entry_elsewhere n m (records.Forced c decisions.Rollback given) own other = ((λ older. refl, λ b here. refl), tt)
entry_elsewhere n m (records.Met c d mixed) own other = ((λ older. refl, λ b here. refl), tt)
entry_elsewhere n m (records.Forgot c) own other = tt
entry_elsewhere n m (records.Hidden c) own other = tt
entry_elsewhere n m (records.Image i) own other = tt

module _ (t : List Event) (book : List Entry) (n : ℕ) (s : Stored) (doubts : DoubtsAre t n s.doubts) (now : StoredStands t book n s) where
  -- a record of another node
  elsewhere : (m : ℕ) (r : RedoRecord) → IsRecordOf (λ b. b.node ≡ m) r → n ≢ m → StoredStands (with_event (record_event m r) t) (book ++ entry_of m r) n s
  elsewhere m r own other = record {
    tables = now.tables;
    told = λ name. now.told name ∙ sym (told_quietly n name book (entry_of m r) quiet);
    held = λ b d found. now.held b d found ∙ sym (changes_quietly n b book (entry_of m r) (is_here b d found) quiet);
    there = λ b k here sealed unlearned unforced. now.there b k here (sym (exit_alone (record_event m r) t b (alone b here)) ∙ sealed) (learned_before (record_event m r) b unlearned) (forced_before (record_event m r) b unforced);
  }
    where
      quiet : AllByRecursion (IsQuietAt n) (entry_of m r)
      quiet = entry_elsewhere n m r own other

      is_here : (b : BranchId) (d : Doubt) → item_at doubt_id s.doubts b ≡ Some d → b.node ≡ n
      is_here b d found = subst (λ c. c.node ≡ n) (item_is doubt_id s.doubts b d found) (all_found (λ x. IsOpen t n x.branch) doubt_id s.doubts b d doubts found).here

      alone : (b : BranchId) → b.node ≡ n → LeavesAlone (record_event m r) b
      alone b here = wrote_elsewhere m (Some r) b own (λ e. other (sym here ∙ e))

      learned_before : (o : Option Event) (b : BranchId) → learned (with_event o t) b ≡ None → learned t b ≡ None
      learned_before None b is = is
      learned_before (Some e) b is = first_left (learned t b) (learned_by e b) is

      forced_before : (o : Option Event) (b : BranchId) → forced (with_event o t) b ≡ None → forced t b ≡ None
      forced_before None b is = is
      forced_before (Some e) b is = first_left (forced t b) (forced_by e b) is

-- ---- branches that have no exit yet

module _ (t : List Event) (book : List Entry) (unseen : IsUnseen t book) where
  seen_more : (e : Entry) (b : BranchId) → changes_of book b ≡ [] → changes_in b e ≡ [] → changes_of (book ++ e ∷ []) b ≡ []
  seen_more e b before none = changes_more book e b ∙ (ap (λ cs. cs ++ changes_in b e) before ∙ none)

  same_unseen : IsUnseen t (book ++ [])
  same_unseen = subst (IsUnseen t) (sym (append-nil book)) unseen

  unseen_with : (n : ℕ) (r : RedoRecord) → IsUnseen (with_event (record_event n r) t) (book ++ entry_of n r)
  unseen_with n (records.Boot m) = same_unseen
  unseen_with n (records.Link l) = same_unseen
  unseen_with n (records.Synonym y) = same_unseen
  unseen_with n (records.Param x) = same_unseen
  unseen_with n (records.Hidden c) = same_unseen
  unseen_with n (records.Image i) = same_unseen
  unseen_with n (records.Table x) = λ b none. seen_more (entries.Made n x) b (unseen b (first_left (exit t b) None none)) refl
  unseen_with n (records.Sealed r) = λ b none. seen_more (entries.Sealed r.me r.root r.changes r.scn) b (unseen b (first_left (exit t b) _ none)) (ap (λ q. if q then r.changes else []) (not_only r.me b _ (first_right (exit t b) _ none)))
  unseen_with n (records.Decided r) = λ b none. seen_more (entries.Decided r.me r.root r.changes r.scn) b (unseen b (first_left (exit t b) _ none)) (ap (λ q. if q then r.changes else []) (not_only r.me b _ (first_right (exit t b) _ none)))
  unseen_with n (records.Ended c d) = λ b none. seen_more (entries.Ended c d) b (unseen b (first_left (exit t b) None none)) refl
  unseen_with n (records.Forced c d given) = λ b none. seen_more (entries.Forced c d) b (unseen b (first_left (exit t b) None none)) refl
  unseen_with n (records.Met c d mixed) = λ b none. seen_more (entries.Met c d mixed) b (unseen b (first_left (exit t b) None none)) refl
  unseen_with n (records.Forgot c) = λ b none. same_unseen b (first_left (exit t b) None none)

-- ---- later events

unsealed : {before after : List BranchId} (b : BranchId) (m : ℕ) (e : Event) → Later before after e → exit_by e b ≡ Some (Sealed m) → ⊥
unsealed b m e (Was_said x none) is = let no_exit : None ≡ Some (Sealed m) = sym (none b).0 ∙ is in absurd cc
unsealed b m e (Was_quiet c was gone) is = let at = only_at_is c b Quiet (Sealed m) is in absurd (cc at.1)
unsealed b m e (Was_dropped c was gone) is = let at = only_at_is c b Dropped (Sealed m) is in absurd (cc at.1)

module _ {bs cs : List BranchId} {t s : List Event} (more : Added (Later bs cs) t s) (book : List Entry) where
  unseen_later : IsUnseen t book → IsUnseen s book
  unseen_later unseen b none = elim (some_or_none (exit t b)) [
    | inr before ↦ unseen b before
    | inl some ↦ (let stays : exit s b ≡ Some some.0 = exit_later b some.0 more some.1 in absurd (cc (stays, none)))
  ]

  stands_later : (n : ℕ) (x : Stored) → StoredStands t book n x → StoredStands s book n x
  stands_later n x now = record { tables = now.tables; told = now.told; held = now.held; there = there }
    where
      there : (b : BranchId) (m : ℕ) → b.node ≡ n → exit s b ≡ Some (Sealed m) → learned s b ≡ None → forced s b ≡ None → item_at doubt_id x.doubts b ≢ None
      there b m here sealed unlearned unforced = elim (exit_made b (Sealed m) more sealed) [
        | inl old ↦ now.there b m here old (sym (learned_same b (λ e later. later_learned b e later) more) ∙ unlearned) (sym (forced_same b (λ e later. later_forced b e later) more) ∙ unforced)
        | inr made ↦ absurd (unsealed b m made.0 made.1 made.2)
      ]

-- ---- what a record needs of the tables that there are

record_made : (ts : List Table) {k : NodeState} {x : Stmt} {r : RedoRecord} {d : Done} → MakesWhole r → Makes k x r d → RecordFits ts r
record_made ts whole (Makes_table t free) = whole
record_made ts whole (Makes_link l free) = tt
record_made ts whole (Makes_synonym y free) = tt
record_made ts whole (Sets_recovery on) = tt
record_made ts whole (Sets_strength strength) = tt

-- going back writes none
back_fits : (k : NodeState) (x : Branch) (to : ℕ) (next : Option ℕ) → IfSome (backs_to (node_back k x to) (branch_back k x to) to next).wrote (RecordFits k.stored.durable.tables)
back_fits k x to None = tt
back_fits k x to (Some i) = tt

-- the record of a step changes tables of its node
record_fits : (p : Place) (input : Input) {k : NodeState} {d : TurnDraft} → Step p input k d → IfSome d.wrote MakesWhole → LiveChangesFit k.stored.durable.tables k.owns → IfSome d.wrote (RecordFits k.stored.durable.tables)
record_fits p input (steps.Begins n s read_at call begins fit none step) whole own = record_fits p input step whole own
record_fits p input (steps.Counts_call n s call counts step) whole own = record_fits p input step whole own
record_fits p input (steps.Goes_back {k = k} x to goes next) whole own = back_fits k x to (next_back (branch_back k x to).work to 1)
record_fits p input (steps.Pends n l given call has live code writer step) whole own = record_fits p input step whole own
record_fits p input (steps.Lets_reads_go l comment site_below live begins step) whole own = record_fits p input step whole own
record_fits p input (steps.Counts_ack s from kept came counts step) whole own = record_fits p input step whole own
record_fits p input (steps.Acts {k = k} l site_below acts.Seal why) whole own = own l.me
record_fits p input (steps.Acts {k = k} l site_below (acts.SealAndPass i) why) whole own = own l.me
record_fits p input (steps.Acts {k = k} l site_below acts.Decide why) whole own = own l.me
record_fits p input (steps.Acts l site_below acts.Rest why) whole own = tt
record_fits p input (steps.Does s from nexts.Rest kept why) whole own = tt
record_fits p input (steps.Makes_record {k = k} n s r d call makes) whole own = record_made k.stored.durable.tables whole makes
record_fits p input (steps.Gives_up_commit n b None gives has calls gone) whole own = tt
record_fits p input _ whole own = tt

-- ---- happenings

-- what the disk of a node stores
abbrev pub stored_at : Facts → ℕ → Stored
stored_at f n = stored_by nothing_stored (records_at f n)

-- the book tells what the disks store
abbrev pub BookTells : Facts → List Event → Type 0
BookTells f t = IsUnseen t f.book × ((n : ℕ) → StoredStands t f.book n (stored_at f n))

-- a message changes neither what is stored nor what live branches changed
heard_stores : (rs : List RedoRecord) (k : NodeState) (input : Input) → StoresOf rs k → unacked (heard k input).stored ≡ stored_by nothing_stored rs
heard_stores rs k (inputs.Message m) stored = stored
heard_stores rs k (inputs.Call n s) stored = stored
heard_stores rs k (inputs.GiveUp n) stored = stored
heard_stores rs k inputs.Reco stored = stored
heard_stores rs k inputs.Checkpoint stored = stored

heard_live : (k : NodeState) (input : Input) → LiveChangesFit k.stored.durable.tables k.owns → LiveChangesFit (heard k input).stored.durable.tables (heard k input).owns
heard_live k (inputs.Message m) own = own
heard_live k (inputs.Call n s) own = own
heard_live k (inputs.GiveUp n) own = own
heard_live k inputs.Reco own = own
heard_live k inputs.Checkpoint own = own

module _ (places : List Place) (asked : List Command) (each : (n : ℕ) (p : Place) → numbered places n ≡ Some p → IsPlace places n p) (f : Facts) (t : List Event) (all : AllStands places asked each f t) (now : BookTells f t) where
  -- the tables of a disk fit
  disk_fits : (n : ℕ) → StoredFits (stored_at f n)
  disk_fits n = (all.tables.0.nodes n).0.0 (all.tables.1 n)

  module _ (u : Turn) (may : MayHappen places asked f (happenings.Turn u)) where
    abbrev g : Facts
    g = facts_after places asked f (happenings.Turn u)

    may_stand : IfSome u.wrote (MayStand t)
    may_stand = record_may places asked each f t u may.0 all.stand.1 all.stand.0.even (node_so places asked each f t all.stand) (owned_so places asked each f t all.stand) may.1

    own_record : IfSome u.wrote (IsRecordOf (λ b. b.node ≡ u.node))
    own_record = record_own places asked each f t u may.0 all.stand.1 all.stand.0.even (node_so places asked each f t all.stand) (owned_so places asked each f t all.stand) may.1

    book_now : g.book ≡ f.book ++ entries_of u.node u.wrote
    unfolding facts_after
    book_now = refl

    here_with : (w : Option RedoRecord) → IfSome w (MayStand t) → IfSome w (IsRecordOf (λ b. b.node ≡ u.node)) → IfSome w (RecordFits (stored_at f u.node).durable.tables)
        → StoredStands (with_event (wrote_event u.node w) t) (f.book ++ entries_of u.node w) u.node (stored_by nothing_stored (records_at f u.node ++ option_to_list w))
    here_with None may own fit = subst (λ s. StoredStands t (f.book ++ []) u.node s) (sym (stored_with (records_at f u.node) None)) (subst (λ bk. StoredStands t bk u.node (stored_at f u.node)) (sym (append-nil f.book)) (now.1 u.node))
    here_with (Some r) may own fit =
        subst (λ s. StoredStands (with_event (record_event u.node r) t) (f.book ++ entries_of u.node (Some r)) u.node s) (sym (stored_with (records_at f u.node) (Some r)))
        (subst (λ es. StoredStands (with_event (record_event u.node r) t) (f.book ++ es) u.node (applied (stored_at f u.node) r)) (sym (append-nil (entry_of u.node r)))
        (book_with t f.book u.node (stored_at f u.node) (disk_fits u.node) (all.doubts u.node) now.0 (now.1 u.node) r may own fit))

    there_with : (n : ℕ) (w : Option RedoRecord) → IfSome w (IsRecordOf (λ b. b.node ≡ u.node)) → n ≢ u.node → StoredStands (with_event (wrote_event u.node w) t) (f.book ++ entries_of u.node w) n (stored_at f n)
    there_with n None own other = subst (λ bk. StoredStands t bk n (stored_at f n)) (sym (append-nil f.book)) (now.1 n)
    there_with n (Some r) own other =
        subst (λ es. StoredStands (with_event (record_event u.node r) t) (f.book ++ es) n (stored_at f n)) (sym (append-nil (entry_of u.node r)))
        (elsewhere t f.book n (stored_at f n) (all.doubts n) (now.1 n) u.node r own other)

    unseen_wrote : (w : Option RedoRecord) → IsUnseen (with_event (wrote_event u.node w) t) (f.book ++ entries_of u.node w)
    unseen_wrote None = same_unseen t f.book now.0
    unseen_wrote (Some r) = subst (λ es. IsUnseen (with_event (record_event u.node r) t) (f.book ++ es)) (sym (append-nil (entry_of u.node r))) (unseen_with t f.book now.0 u.node r)

    record_fit : IfSome u.wrote (RecordFits (stored_at f u.node).durable.tables)
    record_fit =
        let p : Place = place_at places u.node in
        let serving : Serves p may.0 u = serves places f u may.0 may.1 in
        let fits : Fits may.0 × Marked may.0 = fits_at places asked f u.node may.0 all.tables may.1.up in
        let stored : StoresOf (records_at f u.node) may.0 = (node_so places asked each f t all.stand u.node may.0 may.1.up).stored in
        of_wrote p may.0 u serving (λ w. IfSome w (RecordFits (stored_at f u.node).durable.tables)) tt
        (subst (λ s. IfSome (draft_of p may.0 u.input).wrote (RecordFits s.durable.tables)) (heard_stores (records_at f u.node) may.0 u.input stored)
        (record_fits p u.input serving.step (step_whole p u.input (comes_spelled f may.0 u.node u.input u.took may.1.comes) serving.step) (heard_live may.0 u.input fits.0.1)))

    stands_now : (n : ℕ) → StoredStands (with_record u t) g.book n (stored_at g n)
    stands_now n = subst (λ bk. StoredStands (with_record u t) bk n (stored_at g n)) (sym book_now) (elim (cases_nat n u.node) [
      | inl at ↦ subst (λ i. StoredStands (with_record u t) (f.book ++ entries_of u.node u.wrote) i (stored_at g i)) (sym at)
          (subst (λ (xs : List RedoRecord). StoredStands (with_record u t) (f.book ++ entries_of u.node u.wrote) u.node (stored_by nothing_stored xs)) (sym (turn_here places asked f all.stand.0.even u may.0 may.1.up).1)
          (here_with u.wrote may_stand own_record record_fit))
      | inr other ↦ subst (λ (xs : List RedoRecord). StoredStands (with_record u t) (f.book ++ entries_of u.node u.wrote) n (stored_by nothing_stored xs)) (sym (turn_elsewhere places asked f all.stand.0.even u n (λ e. other (sym e))).1)
          (there_with n u.wrote own_record other)
    ])

    turn_tells : BookTells g (events_after places asked f (happenings.Turn u) t)
    turn_tells = (
      unseen_later (turn_added f g u t) g.book (subst (IsUnseen (with_record u t)) (sym book_now) (unseen_wrote u.wrote)),
      λ n. stands_later (turn_added f g u t) g.book n (stored_at g n) (stands_now n),
    )

  booted : (n boot : ℕ) (rs : List RedoRecord) → StoredStands t f.book n (stored_by nothing_stored rs) → StoredStands t f.book n (stored_by nothing_stored (rs ++ records.Boot boot ∷ []))
  unfolding applied durable_after
  booted n boot rs stands = subst (λ s. StoredStands t f.book n s) (sym (stored_with rs (Some (records.Boot boot)))) stands

  start_tells : (m boot : ℕ) → MayHappen places asked f (happenings.Started m boot) → (n : ℕ) → StoredStands t f.book n (stored_at (facts_after places asked f (happenings.Started m boot)) n)
  start_tells m boot may n = elim (cases_nat n m) [
    | inl at ↦ subst (λ i. StoredStands t f.book i (stored_at (facts_after places asked f (happenings.Started m boot)) i)) (sym at)
        (subst (λ (xs : List RedoRecord). StoredStands t f.book m (stored_by nothing_stored xs)) (sym (start_here places asked f all.stand.0.even m boot may.there.0 (omega (arith, may.there.1, all.stand.1.many))).1)
        (booted m boot (records_at f m) (now.1 m)))
    | inr other ↦ subst (λ (xs : List RedoRecord). StoredStands t f.book n (stored_by nothing_stored xs)) (sym (start_elsewhere places asked f all.stand.0.even m boot n (λ e. other (sym e))).1) (now.1 n)
  ]

  tells_on : (h : Happening) → MayHappen places asked f h → BookTells (facts_after places asked f h) (events_after places asked f h t)
  unfolding facts_after
  tells_on (happenings.Turn u) may = turn_tells u may
  tells_on (happenings.Stopped n) may = (unseen_later (stop_added f f n t) f.book now.0, λ m. stands_later (stop_added f f n t) f.book m (stored_at f m) (now.1 m))
  tells_on (happenings.Started n boot) may = (now.0, start_tells n boot may)
  tells_on _ may = now

-- ---- every run

first_stands : (n : ℕ) → StoredStands [] [] n (stored_by nothing_stored [])
unfolding stored_by rows_by_book
first_stands n = record { tables = λ name x found. absurd cc; told = λ name. refl; held = λ b d found. absurd cc; there = λ b m here sealed. absurd cc }

booted_first : (n : ℕ) → StoredStands [] [] n (stored_by nothing_stored (records.Boot 1 ∷ []))
unfolding stored_by rows_by_book applied durable_after
booted_first n = record { tables = λ name x found. absurd cc; told = λ name. refl; held = λ b d found. absurd cc; there = λ b m here sealed. absurd cc }

first_losses : (places : List Place) → BookTells (first_facts places) []
first_losses places = (λ b none. refl, λ n. first_disk (λ (xs : List RedoRecord). StoredStands [] [] n (stored_by nothing_stored xs)) (first_stands n) (booted_first n) places n)

pub rows_are_told : RowsAreOfTheBook
rows_are_told t lawful n k up table =
    let last : AllStands t.places t.commands t.of_a_script.each (facts_at t) (events_of t) × BookTells (facts_at t) (events_of t) =
    events_keep t.places t.commands (λ f s. AllStands t.places t.commands t.of_a_script.each f s × BookTells f s)
    (λ f s h now may. (all_on t.places t.commands t.of_a_script.each f s h now.0 may, tells_on t.places t.commands t.of_a_script.each f s now.0 now.1 h may))
    (first_facts t.places) t.trace [] (all_first t.places t.commands t.of_a_script.each, first_losses t.places) lawful in
    let stored : StoresOf (records_at (facts_at t) n) k = (node_so t.places t.commands t.of_a_script.each (facts_at t) (events_of t) last.0.stand n k up).stored in
    ap (λ s. rows_of_table s.rows table) stored ∙ ((last.1.1 n).told table ∙ ap (λ bk. rows_by_book bk n table) (book_is t.places t.commands (first_facts t.places) t.trace))
