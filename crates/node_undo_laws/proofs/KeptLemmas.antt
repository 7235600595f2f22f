-- The undo of branches stands while one branch changes more, leaves, seals or is settled, and while rows of other keys change.
use Rattle.std.proofs.Common.{◌≡◌, ℕ, ◌+◌, ◌-◌, ◌≤◌, ◌||◌, Bool, true, false, List, [], ◌∷◌, ◌++◌, map, append-nil, inl, inr, None, refl, sym, ap, subst, ◌∙◌, arith}
use Rattle.std.specs.List.{AllByRecursion, list_any}
use Rattle.std.proofs.lemmas.Grind.{flat_map-append}
use Rattle.std.proofs.lemmas.List.Folds.{list_any-append}
use Rattle.std.proofs.lemmas.List.Sums.{sum_by-cons, sum_by-append}
use Rattle.tran_ids.proofs.BranchLemmas.{equal_from_same}
use Rattle.tran_ids.proofs.ListedLemmas.{put_or_before, drop_gone, drop_leaves}
use Rattle.tran_ids.specs.Branch.{put_by_branch}
use Rattle.sql_eval.specs.Rows.{change_length}
use Rattle.row_store.specs.Own.{before, undo_length}
use Rattle.row_store.specs.Store.{AreOfTables, has_table, used_extents, extents_of_sets}
use Rattle.row_store.specs.Undone.{RowsAreInOrder}
use Rattle.node_rules.specs.Data.{Change, ChangeSet, BranchId, Decision, Keyed, Sealed, Owned, Doubt}
use Rattle.node_rules.specs.Data.decisions
use Rattle.node_rules.specs.Words.{same, same_text, item_at, put_item, drop_item}
use Rattle.node_rules.specs.Rows.{TableRows, get, apply_all, with_table, view_of, changes_of, changes_length, extents, undo_of, undo_over, set_over}
use Rattle.node_rules.specs.NodeState.{own_id, doubt_id, sets_of, sets_at}
use Rattle.node_rules.specs.Records.{held_back, settled, doubt_over}
use Rattle.node_ready_laws.proofs.ListLemmas.{all_weaker, all_both, all_dropped, all_placed}
use Rattle.node_ready_laws.proofs.TableLemmas.{rows_changed, rows_added}
use Rattle.node_undo_laws.specs.Changed.{changes_at}
use Rattle.node_undo_laws.specs.Kept.{UndoIsOf, UndoIsHeld, UndoStands}
use Rattle.node_undo_laws.specs.Keys.{are_of_one_key}
use Rattle.node_undo_laws.proofs.HolderLemmas.{LeaveKeys}
use Rattle.node_undo_laws.proofs.OrderLemmas.{order_stays, order_with}
use Rattle.node_undo_laws.proofs.RoomLemmas.{room_put, room_drop, doubts_fewer, doubts_with}
use Rattle.node_undo_laws.proofs.UndoLemmas.{table_stays, untouched, StandAlike, undo_alike, undo_both, AreDifferent, undo_each}

-- ---- rows that are alike at the keys of changes

-- with changes of other keys
pub alike_beside : (cs : List Change) (rows : List TableRows) (ys : List Change) → AreOfTables rows ys → LeaveKeys cs ys → AllByRecursion (StandAlike rows (apply_all rows cs)) ys
alike_beside cs rows ys there apart =
    all_both (λ y. has_table rows y.table ≡ true) (λ y. AllByRecursion (λ x. are_of_one_key x y ≡ false) cs) (StandAlike rows (apply_all rows cs))
    (λ y is left. record { here = is; there = table_stays y.table cs rows ∙ is; same = sym (untouched cs rows y is left) }) ys there apart

-- a table is there with one more
pub still_there : (rows : List TableRows) (name table : List ℕ) → has_table rows table ≡ true → has_table (with_table rows name) table ≡ true
still_there rows name table there =
    list_any-append (λ (t : TableRows). same_text t.table table) rows (record { table = name; rows = [] } ∷ []) ∙ ap (λ here. here || list_any (λ (t : TableRows). same_text t.table table) (record { table = name; rows = [] } ∷ [])) there

-- with one more table
pub alike_with : (rows : List TableRows) (name : List ℕ) (ys : List Change) → AreOfTables rows ys → AllByRecursion (StandAlike rows (with_table rows name)) ys
alike_with rows name ys there =
    all_weaker (λ y. has_table rows y.table ≡ true) (StandAlike rows (with_table rows name))
    (λ y is. record { here = is; there = still_there rows name y.table is; same = ap (λ (rs : List Keyed). get rs y.key) (sym (rows_added rows name y.table is)) }) ys there

-- ---- one more set

undo_more : (sets : List ChangeSet) (s : ChangeSet) → undo_of (sets ++ s ∷ []) ≡ undo_of sets ++ s.undo
undo_more sets s = flat_map-append (λ (x : ChangeSet). x.undo) sets (s ∷ []) ∙ ap (λ us. undo_of sets ++ us) (append-nil s.undo)

changes_more : (sets : List ChangeSet) (s : ChangeSet) → changes_of (sets ++ s ∷ []) ≡ changes_of sets ++ s.changes
changes_more sets s = flat_map-append (λ (x : ChangeSet). x.changes) sets (s ∷ []) ∙ ap (λ cs. changes_of sets ++ cs) (append-nil s.changes)

-- the undo of changes is as long as the changes with the rows from before
undo_is : (view : List Keyed) (cs : List Change) → changes_length (map (before view) cs) ≡ undo_length view cs
undo_is view [] = refl
undo_is view (c ∷ cs) =
    sum_by-cons change_length (before view c) (map (before view) cs)
    ∙ ap (λ n. change_length (before view c) + n) (undo_is view cs) ∙ sym (sum_by-cons (λ d. change_length (before view d)) c cs)

more_length : (sets : List ChangeSet) (view : List Keyed) (cs : List Change) → changes_length (undo_of (sets ++ set_over view cs ∷ [])) ≡ changes_length (undo_of sets) + undo_length view cs
more_length sets view cs =
    ap changes_length (undo_more sets (set_over view cs)) ∙ sum_by-append change_length (undo_of sets) (map (before view) cs) ∙ ap (λ n. changes_length (undo_of sets) + n) (undo_is view cs)

-- the undo of a statement is that of its changes behind all before it
undo_with : (rows : List TableRows) (table : List ℕ) (sets : List ChangeSet) (cs : List Change) → has_table rows table ≡ true → AllByRecursion (λ c. c.table ≡ table) cs → AreDifferent (map (λ c. c.key) cs)
    → UndoIsOf rows sets → UndoIsOf rows (sets ++ set_over (view_of rows (changes_of sets) table) cs ∷ [])
undo_with rows table sets cs there of_table apart now =
    let own = changes_of sets in
    let view = view_of rows own table in
    let each : undo_over (apply_all rows own) cs ≡ map (before view) cs
    = undo_each table cs (apply_all rows own) (table_stays table own rows ∙ there) of_table apart ∙ ap (λ (rs : List Keyed). map (before rs) cs) (rows_changed rows own table there) in
    undo_more sets (set_over view cs)
    ∙ ap (λ us. us ++ map (before view) cs) now
    ∙ ap (λ us. undo_over rows own ++ us) (sym each)
    ∙ sym (undo_both own cs rows)
    ∙ ap (undo_over rows) (sym (changes_more sets (set_over view cs)))

-- ---- what a change makes of the undo

module _ (undo : ℕ) (rows : List TableRows) (owns : List Owned) (ds : List Doubt) (now : UndoStands undo rows owns ds) where
  -- other rows, which are alike at the keys of all changes
  pub moved : (more : List TableRows) → RowsAreInOrder more → ((b : BranchId) → AllByRecursion (StandAlike rows more) (changes_at owns b)) → AllByRecursion (λ d. AllByRecursion (StandAlike rows more) d.changes) ds
      → UndoStands undo more owns ds
  moved more ordered own doubts = record {
    ordered = ordered;
    own = λ b. now.own b ∙ undo_alike (changes_at owns b) rows more (own b);
    held_back = all_both (UndoIsHeld rows) (λ d. AllByRecursion (StandAlike rows more) d.changes) (UndoIsHeld more) (λ d is alike. is ∙ undo_alike d.changes rows more alike) ds now.held_back doubts;
    room = now.room;
  }

  -- a table more
  pub table_made : (name : List ℕ) → ((b : BranchId) → AreOfTables rows (changes_at owns b)) → AllByRecursion (λ d. AreOfTables rows d.changes) ds → UndoStands undo (with_table rows name) owns ds
  table_made name own doubts = moved (with_table rows name) (order_with rows name now.ordered) (λ b. alike_with rows name (changes_at owns b) (own b)) (all_weaker _ _ (λ d there. alike_with rows name d.changes there) ds doubts)

  -- changes of other keys
  pub rows_changed_beside : (cs : List Change) → ((b : BranchId) → AreOfTables rows (changes_at owns b)) → AllByRecursion (λ d. AreOfTables rows d.changes) ds
      → ((b : BranchId) → LeaveKeys cs (changes_at owns b)) → AllByRecursion (λ d. LeaveKeys cs d.changes) ds → UndoStands undo (apply_all rows cs) owns ds
  rows_changed_beside cs own doubts leaves leave =
      moved (apply_all rows cs) (order_stays cs rows now.ordered) (λ b. alike_beside cs rows (changes_at owns b) (own b) (leaves b))
      (all_both (λ d. AreOfTables rows d.changes) (λ d. LeaveKeys cs d.changes) (λ d. AllByRecursion (StandAlike rows (apply_all rows cs)) d.changes) (λ d there left. alike_beside cs rows d.changes there left) ds doubts leave)

  -- a branch leaves
  pub dropped : (b : BranchId) → UndoStands undo rows (drop_item own_id owns b) ds
  dropped b = record { ordered = now.ordered; own = own; held_back = now.held_back; room = let less = room_drop owns b in omega (arith, less, now.room) }
    where
      own : (c : BranchId) → UndoIsOf rows (sets_at (drop_item own_id owns b) c)
      own c = by (same b c) refl
        where
          by : (here : Bool) → same b c ≡ here → UndoIsOf rows (sets_at (drop_item own_id owns b) c)
          by true is = subst (λ o. UndoIsOf rows (sets_of o)) (sym (subst (λ m. item_at own_id (drop_item own_id owns b) m ≡ None) (equal_from_same b c is) (drop_gone own_id owns b))) refl
          by false is = subst (λ o. UndoIsOf rows (sets_of o)) (sym (drop_leaves own_id owns b c is)) (now.own c)

  -- a branch is in doubt no more
  pub forgotten : (b : BranchId) → UndoStands undo rows owns (drop_item doubt_id ds b)
  forgotten b = record { ordered = now.ordered; own = now.own; held_back = all_dropped (UndoIsHeld rows) doubt_id ds b now.held_back; room = let less = doubts_fewer ds b in omega (arith, less, now.room) }

  -- a branch seals: its undo is what was kept of it
  module _ (r : Sealed) (is : r.changes ≡ changes_at owns r.me) where
    same_undo : changes_length (undo_over rows r.changes) ≡ changes_length (undo_of (sets_at owns r.me))
    same_undo = ap (λ cs. changes_length (undo_over rows cs)) is ∙ ap changes_length (sym (now.own r.me))

    -- so it takes no more space
    pub sealed_room : used_extents (drop_item own_id owns r.me) (put_by_branch doubt_id ds (doubt_over rows r)) ≤ used_extents owns ds
    sealed_room =
        let less = room_drop owns r.me in
        let more = doubts_with ds (doubt_over rows r) in
        let even : extents (changes_length (undo_over rows r.changes)) ≡ extents_of_sets (sets_at owns r.me) = ap extents same_undo in
        omega (arith, less, more, even)

    pub sealed : UndoStands undo rows (drop_item own_id owns r.me) (put_by_branch doubt_id ds (doubt_over rows r))
    sealed = record {
      ordered = now.ordered;
      own = (dropped r.me).own;
      held_back = all_placed (UndoIsHeld rows) doubt_id ds (doubt_over rows r) now.held_back refl;
      room = let less = sealed_room in omega (arith, less, now.room);
    }

  -- a statement changes rows of a table
  module _ (b : BranchId) (table : List ℕ) (cs : List Change) (there : has_table rows table ≡ true) (of_table : AllByRecursion (λ c. c.table ≡ table) cs) (apart : AreDifferent (map (λ c. c.key) cs)) where
    abbrev view : List Keyed
    view = view_of rows (changes_at owns b) table

    abbrev sets : List ChangeSet
    sets = sets_at owns b ++ set_over view cs ∷ []

    abbrev held : ℕ
    held = changes_length (undo_of (sets_at owns b))

    pub ran : extents (held + undo_length view cs) - extents held ≤ undo - used_extents owns ds → UndoStands undo rows (put_item own_id owns (record { branch = b; sets = sets })) ds
    ran enough = record {
      ordered = now.ordered;
      own = own;
      held_back = now.held_back;
      room =
          let more = room_put owns b sets in
          let even : extents_of_sets sets ≡ extents (held + undo_length view cs) = ap extents (more_length (sets_at owns b) view cs) in
          omega (arith, more, even, enough, now.room);
    }
      where
        own : (c : BranchId) → UndoIsOf rows (sets_at (put_item own_id owns (record { branch = b; sets = sets })) c)
        own c = elim (put_or_before own_id owns (record { branch = b; sets = sets }) c) [
          | inl before ↦ subst (λ o. UndoIsOf rows (sets_of o)) (sym before) (now.own c)
          | inr new ↦ subst (λ o. UndoIsOf rows (sets_of o)) (sym new.1) (undo_with rows table (sets_at owns b) cs there of_table apart (now.own b))
        ]

-- a branch in doubt is settled
module _ (undo : ℕ) (rows : List TableRows) (owns : List Owned) (ds : List Doubt) (now : UndoStands undo rows owns ds) (own : (b : BranchId) → AreOfTables rows (changes_at owns b))
    (doubts : AllByRecursion (λ d. AreOfTables rows d.changes) ds) (b : BranchId) (leaves : (c : BranchId) → LeaveKeys (held_back (item_at doubt_id ds b)) (changes_at owns c))
    (leave : AllByRecursion (λ d. LeaveKeys (held_back (item_at doubt_id ds b)) d.changes) (drop_item doubt_id ds b)) where
  pub ended : (d : Decision) → UndoStands undo (settled rows (item_at doubt_id ds b) d) owns (drop_item doubt_id ds b)
  ended (decisions.Commit n) =
      rows_changed_beside undo rows owns (drop_item doubt_id ds b) (forgotten undo rows owns ds now b) (held_back (item_at doubt_id ds b)) own (all_dropped (λ d. AreOfTables rows d.changes) doubt_id ds b doubts) leaves leave
  ended decisions.Rollback = forgotten undo rows owns ds now b
