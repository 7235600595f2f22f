-- Each record leaves the rows of its node as the book tells them, and what branches in doubt hold back as the book has it.
use Rattle.std.proofs.Common.{◌≡◌, ◌≢◌, ℕ, ◌==◌, Bool, true, false, if◌then◌else◌, List, [], ◌∷◌, ◌++◌, Option, Some, None, inl, inr, refl, sym, ap, subst, ◌∙◌, append-nil, true≢false}
use Rattle.std.proofs.lemmas.Bool.{eq-eqb}
use Rattle.tran_ids.proofs.BranchLemmas.{equal_from_same, same_from_equal}
use Rattle.tran_ids.proofs.ListedLemmas.{item_is, drop_gone, drop_leaves}
use Rattle.tran_ids.specs.Branch.{put_by_branch}
use Rattle.agreement.specs.Events.{Sealed, Decided, Event, Decide, Learn, Force, Make, Forget, only_at, exit_by, exit, learned_by, learned, forced_by, forced}
use Rattle.agreement.proofs.EventLemmas.{first_is, only_at_is}
use Rattle.sql_eval.specs.Rows.{apply}
use Rattle.row_store.specs.Store.{has_table}
use Rattle.node_rules.specs.Data.{Change, Table, BranchId, Decision, RedoRecord, Doubt}
use Rattle.node_rules.specs.Data.decisions
use Rattle.node_rules.specs.Data.records
use Rattle.node_rules.specs.Data.params
use Rattle.node_rules.specs.Words.{same, item_at, drop_item}
use Rattle.node_rules.specs.Rows.{TableRows, rows_of_table, apply_all}
use Rattle.node_rules.specs.NodeState.{Stored, doubt_id}
use Rattle.node_rules.specs.Records.{applied, held_back, settled, doubt_over}
use Rattle.redo_record.specs.Durable.{durable_after}
use Rattle.book.specs.Entries.{entry_of}
use Rattle.run_rules.specs.Data.{Entry}
use Rattle.run_rules.specs.Data.entries
use Rattle.run_rules.specs.Book.{changes_in, changes_of, commits_now, rows_by_book}
use Rattle.run_base_laws.specs.IdLaws.{IsRecordOf}
use Rattle.run_base_laws.specs.RunEvents.{with_event, record_event}
use Rattle.run_base_laws.specs.EventRows.{MayStand}
use Rattle.run_key_laws.specs.TableLaws.{table_in, AreChangesIn, TablesFit, StoredFits}
use Rattle.run_base_laws.proofs.OwnLemmas.{all_found}
use Rattle.run_key_laws.proofs.ChangedLemmas.{found_placed, none_placed}
use Rattle.run_key_laws.proofs.TableLemmas.{RecordFits, rows_more, has_applied}
use Rattle.run_key_laws.proofs.DoubtLemmas.{IsOpen, DoubtsAre}
use Rattle.run_key_laws.proofs.ToldLemmas.{changes_more, told_more, first_left, first_right, not_only, rows_with, made_there}

-- ---- what is kept and what the book has

-- Each table has rows, its rows are told by the book, branches in doubt hold back what the book has of them, and each open
-- branch of the node is in doubt.
pub record BookStands (t : List Event) (book : List Entry) (n : ℕ) (ts : List Table) (rows : List TableRows) (ds : List Doubt) : Type 0 where
  pub tables : (name : List ℕ) (x : Table) → table_in ts name ≡ Some x → has_table rows name ≡ true
  pub told : (name : List ℕ) → rows_of_table rows name ≡ rows_by_book book n name
  pub held : (b : BranchId) (d : Doubt) → item_at doubt_id ds b ≡ Some d → d.changes ≡ changes_of book b
  pub there : (b : BranchId) (m : ℕ) → b.node ≡ n → exit t b ≡ Some (Sealed m) → learned t b ≡ None → forced t b ≡ None → item_at doubt_id ds b ≢ None

-- a branch without an exit has no changes in the book
abbrev pub IsUnseen : List Event → List Entry → Type 0
IsUnseen t book = (b : BranchId) → exit t b ≡ None → changes_of book b ≡ []

-- what the decision of a branch commits of it
abbrev pub decided_changes : List Entry → BranchId → Decision → List Change
decided_changes book c (decisions.Commit m) = changes_of book c
decided_changes book c decisions.Rollback = []

-- one more in doubt is there
placed_there : (ds : List Doubt) (x : Doubt) (b : BranchId) → x.branch ≡ b → item_at doubt_id (put_by_branch doubt_id ds x) b ≢ None
placed_there ds x b is none = true≢false (sym (same_from_equal x.branch b is) ∙ (none_placed doubt_id ds x b none).1)

module _ (t : List Event) (book : List Entry) (n : ℕ) (ts : List Table) (rows : List TableRows) (ds : List Doubt) (fits : TablesFit ts rows ds) (doubts : DoubtsAre t n ds) (unseen : IsUnseen t book)
    (now : BookStands t book n ts rows ds) where
  -- a branch in doubt is open
  is_open : (b : BranchId) (d : Doubt) → item_at doubt_id ds b ≡ Some d → IsOpen t n b
  is_open b d found = subst (IsOpen t n) (item_is doubt_id ds b d found) (all_found (λ x. IsOpen t n x.branch) doubt_id ds b d doubts found)

  -- so it is not a branch without an exit
  not_unseen : (c b : BranchId) (d : Doubt) → exit t c ≡ None → item_at doubt_id ds b ≡ Some d → same c b ≡ false
  not_unseen c b d none found = by (same c b) refl
    where
      by : (here : Bool) → same c b ≡ here → here ≡ false
      by false is = refl
      by true is = let left : exit t b ≡ None = subst (λ m. exit t m ≡ None) (equal_from_same c b is) none in let sealed = (is_open b d found).is_sealed in absurd (cc (left, sealed))

  -- the branches in doubt are as before
  held_on : (e : Entry) (b : BranchId) (d : Doubt) → changes_in b e ≡ [] → item_at doubt_id ds b ≡ Some d → d.changes ≡ changes_of (book ++ e ∷ []) b
  held_on e b d none found = now.held b d found ∙ sym (changes_more book e b ∙ (ap (λ cs. changes_of book b ++ cs) none ∙ append-nil (changes_of book b)))

  told_on : (e : Entry) → commits_now book n e ≡ [] → (name : List ℕ) → rows_of_table rows name ≡ rows_by_book (book ++ e ∷ []) n name
  told_on e none name = now.told name ∙ sym (told_more book e n name ∙ ap (apply name (rows_by_book book n name)) none)

  there_on : (e : Event) → ((b : BranchId) (m : ℕ) → exit_by e b ≡ Some (Sealed m) → ⊥) → (b : BranchId) (m : ℕ) → b.node ≡ n → exit (e ∷ t) b ≡ Some (Sealed m) → learned (e ∷ t) b ≡ None → forced (e ∷ t) b ≡ None
      → item_at doubt_id ds b ≢ None
  there_on e unsealed b m here sealed unlearned unforced = elim (first_is (exit t b) (exit_by e b) (Sealed m) sealed) [
    | inl old ↦ now.there b m here old (first_left (learned t b) (learned_by e b) unlearned) (first_left (forced t b) (forced_by e b) unforced)
    | inr new ↦ absurd (unsealed b m new.1)
  ]

  -- changes of a branch of this node are committed
  commits : (e : Entry) (cs : List Change) → AreChangesIn ts cs → commits_now book n e ≡ cs → (name : List ℕ) → rows_of_table (apply_all rows cs) name ≡ rows_by_book (book ++ e ∷ []) n name
  commits e cs all is name =
      rows_with ts rows ds fits now.tables cs all name ∙ (ap (λ rs. apply name rs cs) (now.told name) ∙ sym (told_more book e n name ∙ ap (apply name (rows_by_book book n name)) is))

  -- a branch that is in doubt no more
  module _ (c : BranchId) (e : Entry) (none : (b : BranchId) → changes_in b e ≡ []) where
    held_less : (b : BranchId) (d : Doubt) → item_at doubt_id (drop_item doubt_id ds c) b ≡ Some d → d.changes ≡ changes_of (book ++ e ∷ []) b
    held_less b d found = by (same c b) refl
      where
        by : (here : Bool) → same c b ≡ here → d.changes ≡ changes_of (book ++ e ∷ []) b
        by true is = let gone : item_at doubt_id (drop_item doubt_id ds c) b ≡ None = subst (λ m. item_at doubt_id (drop_item doubt_id ds c) m ≡ None) (equal_from_same c b is) (drop_gone doubt_id ds c) in absurd (cc (gone, found))
        by false is = held_on e b d (none b) (sym (drop_leaves doubt_id ds c b is) ∙ found)

    settled_tables : (o : Option Doubt) (d : Decision) (name : List ℕ) (x : Table) → table_in ts name ≡ Some x → has_table (settled rows o d) name ≡ true
    settled_tables o decisions.Rollback name x found = now.tables name x found
    settled_tables o (decisions.Commit m) name x found = has_applied rows (held_back o) name ∙ now.tables name x found

    -- its changes are committed where the entry says so
    settled_told : (d : Decision) → item_at doubt_id ds c ≢ None → commits_now book n e ≡ decided_changes book c d → (name : List ℕ) → rows_of_table (settled rows (item_at doubt_id ds c) d) name ≡ rows_by_book (book ++ e ∷ []) n name
    settled_told d some is name = by d (item_at doubt_id ds c) refl is
      where
        by : (d : Decision) (o : Option Doubt) → item_at doubt_id ds c ≡ o → commits_now book n e ≡ decided_changes book c d → rows_of_table (settled rows o d) name ≡ rows_by_book (book ++ e ∷ []) n name
        by decisions.Rollback o at is = told_on e is name
        by (decisions.Commit m) None at is = absurd (some at)
        by (decisions.Commit m) (Some x) at is = commits e x.changes (all_found (λ y. AreChangesIn ts y.changes) doubt_id ds c x fits.doubts at) (is ∙ sym (now.held c x at)) name

-- ---- a record of the node

-- what is stored, and the book
abbrev pub StoredStands : List Event → List Entry → ℕ → Stored → Type 0
StoredStands t book n s = BookStands t book n s.durable.tables s.rows s.doubts

-- a decision where the branch is of this node
own_now : (n m : ℕ) (cs : List Change) → m ≡ n → (if m == n then cs else []) ≡ cs
own_now n m cs is = ap (λ q. if q then cs else []) (eq-eqb m n is)

no_seal : (c b : BranchId) (k m : ℕ) → only_at c b (Decided k) ≡ Some (Sealed m) → ⊥
no_seal c b k m is = let at = only_at_is c b (Decided k) (Sealed m) is in absurd (cc at.1)

module _ (t : List Event) (book : List Entry) (n : ℕ) (s : Stored) (fits : StoredFits s) (doubts : DoubtsAre t n s.doubts) (unseen : IsUnseen t book) (now : StoredStands t book n s) where
  -- nothing of all this changes
  same_book : (u : List Event) {ts : List Table} {rows : List TableRows} {ds : List Doubt} → BookStands u book n ts rows ds → BookStands u (book ++ []) n ts rows ds
  same_book u {ts} {rows} {ds} stands = subst (λ bk. BookStands u bk n ts rows ds) (sym (append-nil book)) stands

  ended_with : (c : BranchId) (d : Decision) (e : Event) (x : Entry) → item_at doubt_id s.doubts c ≢ None → ((b : BranchId) → changes_in b x ≡ []) → commits_now book n x ≡ decided_changes book c d
      → ((b : BranchId) → exit_by e b ≡ None) → ((b : BranchId) → learned (e ∷ t) b ≡ None → forced (e ∷ t) b ≡ None → same c b ≡ false)
      → BookStands (e ∷ t) (book ++ x ∷ []) n s.durable.tables (settled s.rows (item_at doubt_id s.doubts c) d) (drop_item doubt_id s.doubts c)
  ended_with c d e x some none is stays other = record {
    tables = settled_tables t book n s.durable.tables s.rows s.doubts fits doubts unseen now c x none (item_at doubt_id s.doubts c) d;
    told = settled_told t book n s.durable.tables s.rows s.doubts fits doubts unseen now c x none d some is;
    held = held_less t book n s.durable.tables s.rows s.doubts fits doubts unseen now c x none;
    there = λ b m here sealed unlearned unforced gone. there_on t book n s.durable.tables s.rows s.doubts fits doubts unseen now e (λ b m at. (let none = stays b in absurd (cc (none, at)))) b m here sealed unlearned unforced
        (sym (drop_leaves doubt_id s.doubts c b (other b unlearned unforced)) ∙ gone);
  }

  quiet_with : (e : Event) (x : Entry) → commits_now book n x ≡ [] → ((b : BranchId) → changes_in b x ≡ []) → ((b : BranchId) (m : ℕ) → exit_by e b ≡ Some (Sealed m) → ⊥)
      → BookStands (e ∷ t) (book ++ x ∷ []) n s.durable.tables s.rows s.doubts
  quiet_with e x none nothing unsealed = record {
    tables = now.tables;
    told = told_on t book n s.durable.tables s.rows s.doubts fits doubts unseen now x none;
    held = λ b d found. held_on t book n s.durable.tables s.rows s.doubts fits doubts unseen now x b d (nothing b) found;
    there = there_on t book n s.durable.tables s.rows s.doubts fits doubts unseen now e unsealed;
  }

  -- each record leaves all so
  pub book_with : (r : RedoRecord) → MayStand t r → IsRecordOf (λ b. b.node ≡ n) r → RecordFits s.durable.tables r → StoredStands (with_event (record_event n r) t) (book ++ entry_of n r) n (applied s r)
  unfolding applied durable_after
  book_with (records.Boot m) may own fit = same_book t now
  book_with (records.Link l) may own fit = same_book t now
  book_with (records.Synonym y) may own fit = same_book t now
  book_with (records.Param (params.Recovery on)) may own fit = same_book t now
  book_with (records.Param (params.Strength strength)) may own fit = same_book t now
  book_with (records.Hidden c) may own fit = same_book t now
  book_with (records.Image i) may own fit = same_book t now
  book_with (records.Table x) may own fit =
      let quiet : BookStands (Make n x ∷ t) (book ++ entries.Made n x ∷ []) n s.durable.tables s.rows s.doubts = quiet_with (Make n x) (entries.Made n x) refl (λ b. refl) (λ b m is. absurd cc) in
      record { tables = made_there s.durable.tables s.rows x now.tables; told = λ name. rows_more s.rows x.name name ∙ quiet.told name; held = quiet.held; there = quiet.there }
  book_with (records.Sealed r) may own fit = record {
    tables = now.tables;
    told = told_on t book n s.durable.tables s.rows s.doubts fits doubts unseen now (entries.Sealed r.me r.root r.changes r.scn) refl;
    held = λ b d found. (elim (found_placed doubt_id s.doubts (doubt_over s.rows r) b d found) [
      | inl old ↦ held_on t book n s.durable.tables s.rows s.doubts fits doubts unseen now (entries.Sealed r.me r.root r.changes r.scn) b d
          (ap (λ q. if q then r.changes else []) (not_unseen t book n s.durable.tables s.rows s.doubts fits doubts unseen now r.me b d may.0 old)) old
      | inr new ↦ (
          let me : d.branch ≡ b = item_is doubt_id (put_by_branch doubt_id s.doubts (doubt_over s.rows r)) b d found in
          let at : r.me ≡ b = ap (λ (x : Doubt). x.branch) new ∙ me in
          let is : r.changes ≡ d.changes = ap (λ (x : Doubt). x.changes) new in
          sym is ∙ sym (changes_more book (entries.Sealed r.me r.root r.changes r.scn) b
          ∙ (ap (λ cs. cs ++ (if same r.me b then r.changes else [])) (unseen b (subst (λ m. exit t m ≡ None) at may.0)) ∙ ap (λ q. if q then r.changes else []) (same_from_equal r.me b at)))
          )
    ]);
    there = λ b m here sealed unlearned unforced. (elim (first_is (exit t b) (only_at r.me b (Sealed r.scn)) (Sealed m) sealed) [
      | inl old ↦ (λ none. now.there b m here old (first_left (learned t b) None unlearned) (first_left (forced t b) None unforced) (none_placed doubt_id s.doubts (doubt_over s.rows r) b none).0)
      | inr new ↦ placed_there s.doubts (doubt_over s.rows r) b (only_at_is r.me b (Sealed r.scn) (Sealed m) new.1).0
    ]);
  }
  book_with (records.Decided r) may own fit = record {
    tables = λ name x found. has_applied s.rows r.changes name ∙ now.tables name x found;
    told = commits t book n s.durable.tables s.rows s.doubts fits doubts unseen now (entries.Decided r.me r.root r.changes r.scn) r.changes fit (own_now n r.me.node r.changes own);
    held = λ b d found. held_on t book n s.durable.tables s.rows s.doubts fits doubts unseen now (entries.Decided r.me r.root r.changes r.scn) b d
        (ap (λ q. if q then r.changes else []) (not_unseen t book n s.durable.tables s.rows s.doubts fits doubts unseen now r.me b d may found)) found;
    there = there_on t book n s.durable.tables s.rows s.doubts fits doubts unseen now (Decide r.me r.root r.scn r.changes) (λ b m is. no_seal r.me b r.scn m is);
  }
  book_with (records.Ended c (decisions.Commit m)) may own fit =
      ended_with c (decisions.Commit m) (Learn c (decisions.Commit m) None) (entries.Ended c (decisions.Commit m)) (now.there c may.0.0 own may.0.1 may.1 may.2) (λ b. refl) (own_now n c.node (changes_of book c) own) (λ b. refl)
      (λ b unlearned unforced. not_only c b (decisions.Commit m) (first_right (learned t b) _ unlearned))
  book_with (records.Ended c decisions.Rollback) may own fit =
      ended_with c decisions.Rollback (Learn c decisions.Rollback None) (entries.Ended c decisions.Rollback) (now.there c may.0.0 own may.0.1 may.1 may.2) (λ b. refl) refl (λ b. refl)
      (λ b unlearned unforced. not_only c b decisions.Rollback (first_right (learned t b) _ unlearned))
  book_with (records.Forced c (decisions.Commit m) given) may own fit =
      ended_with c (decisions.Commit m) (Force c (decisions.Commit m)) (entries.Forced c (decisions.Commit m)) (now.there c may.0.0 own may.0.1 may.1 may.2) (λ b. refl) (own_now n c.node (changes_of book c) own) (λ b. refl)
      (λ b unlearned unforced. not_only c b (decisions.Commit m) (first_right (forced t b) _ unforced))
  book_with (records.Forced c decisions.Rollback given) may own fit =
      ended_with c decisions.Rollback (Force c decisions.Rollback) (entries.Forced c decisions.Rollback) (now.there c may.0.0 own may.0.1 may.1 may.2) (λ b. refl) refl (λ b. refl)
      (λ b unlearned unforced. not_only c b decisions.Rollback (first_right (forced t b) _ unforced))
  book_with (records.Met c d mixed) may own fit = quiet_with (Learn c d (Some mixed)) (entries.Met c d mixed) refl (λ b. refl) (λ b m is. absurd cc)
  book_with (records.Forgot c) may own fit =
      same_book (Forget c ∷ t) (record { tables = now.tables; told = now.told; held = now.held; there = there_on t book n s.durable.tables s.rows s.doubts fits doubts unseen now (Forget c) (λ b m is. absurd cc) })
