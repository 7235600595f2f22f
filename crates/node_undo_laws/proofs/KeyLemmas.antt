-- What each change of a node makes of the keys that are held: a run, a branch that leaves, seals or is ended.
use Rattle.std.proofs.Common.{◌≡◌, ℕ, ◌||◌, not, Bool, true, false, if◌then◌else◌, List, [], ◌∷◌, ◌++◌, find, filter, map, Some, None, inl, inr, refl, sym, ap, subst, ◌∙◌, true≢false}
use Rattle.std.specs.List.{AllByRecursion}
use Rattle.std.specs.Option.{option_map}
use Rattle.std.proofs.lemmas.Bool.{cond_both, not-true}
use Rattle.std.proofs.lemmas.List.Elements.{recursion_from_All}
use Rattle.sql_eval.specs.Laws.{has_one_key, AreRowsOf, IsChangeOf}
use Rattle.sql_eval.specs.Meaning.{written, meant_over}
use Rattle.sql_eval.specs.declared.meant.Meant.TheVariants as meants
use Rattle.sql_eval.proofs.MadeLemmas.{changes_are_of_written}
use Rattle.sql_eval.proofs.RowLaws.{rows_are_keyed, changes_are_of_table}
use Rattle.sql_eval.proofs.TableLaws.{tables_have_one_key}
use Rattle.sql_check.specs.Checks.{checked}
use Rattle.row_locks.specs.Locks.{Lock, is_lock_on, named, is_held_by, another, other_holder, without, without_reads}
use Rattle.stmt_run.specs.Run.{StmtContext, take_keys, locks_after}
use Rattle.tran_ids.proofs.BranchLemmas.{equal_from_same, same_from_equal}
use Rattle.tran_ids.proofs.ListedLemmas.{put_or_before, drop_gone, drop_leaves}
use Rattle.tran_ids.specs.Branch.{put_by_branch}
use Rattle.node_rules.specs.Data.{Value, Change, RowSet, Table, Stmt, Done, BranchId, Keyed, Sealed, Owned, Doubt}
use Rattle.node_rules.specs.Words.{same, item_at, put_item, drop_item}
use Rattle.node_rules.specs.Rows.{TableRows, changes_of, set_over}
use Rattle.node_rules.specs.NodeState.{own_id, doubt_id, sets_of, sets_at}
use Rattle.node_rules.specs.Records.{doubt_over, with_doubt}
use Rattle.node_rules.specs.Statement.{Reads, Writes, owns_after}
use Rattle.node_undo_laws.specs.Changed.{changes_at}
use Rattle.node_undo_laws.specs.Keys.{is_written_by, is_doubted_by, is_held, AreHeld, KeysHeld}
use Rattle.node_ready_laws.proofs.ListLemmas.{all_weaker, all_append, all_filtered, all_placed}
use Rattle.node_undo_laws.proofs.ChangedLemmas.{one_more_set, append_none}
use Rattle.node_undo_laws.proofs.RanLemmas.{Meets_nobody}
use Rattle.stmt_run.proofs.Free.{written_free}
use Rattle.node_undo_laws.proofs.HoldLemmas.{held_filtered, written_again, doubted_again, doubt_is_written, still_doubted, kept_by_other, kept_by_writer, keys_taken, keys_leave, doubt_holds, doubt_leaves}
use Rattle.node_undo_laws.proofs.DistinctLemmas.{distinct_keys, distinct_filter, distinct_doubt, let_go}

-- ---- branches

pub other_way : (b c : BranchId) → same b c ≡ false → same c b ≡ false
other_way b c is = by (same c b) refl
  where
    by : (here : Bool) → same c b ≡ here → here ≡ false
    by false is = refl
    by true here = let turned : same b c ≡ true = same_from_equal b c (sym (equal_from_same c b here)) in absurd (true≢false (sym turned ∙ is))

-- a branch that has no changes
none_changed : (owns : List Owned) (test : Lock → Bool) (locks : List Lock) (b : BranchId) → item_at own_id owns b ≡ None → AreHeld test locks (changes_at owns b)
none_changed owns test locks b none = subst (λ o. AreHeld test locks (changes_of (sets_of o))) (sym none) tt

none_filtered : (p keep : Lock → Bool) (ls : List Lock) → find p ls ≡ None → find p (filter keep ls) ≡ None
none_filtered p keep [] none = refl
none_filtered p keep (l ∷ ls) none = by (p l) refl none (none_filtered p keep ls)
  where
    by : (here : Bool) → p l ≡ here → (if here then Some l else find p ls) ≡ None → (find p ls ≡ None → find p (filter keep ls) ≡ None) → find p (if keep l then l ∷ filter keep ls else filter keep ls) ≡ None
    by true is none later = absurd cc
    by false is none later = cond_both (keep l) _ _ (λ ms. find p ms ≡ None) (λ kept. ap (λ q. if q then Some l else find p (filter keep ls)) is ∙ later none) (λ gone. later none)

-- ---- what a change makes of the keys

module _ (locks : List Lock) (owns : List Owned) (ds : List Doubt) (now : KeysHeld locks owns ds) where
  -- keys that are only read are let go
  pub reads_gone : (b : BranchId) → KeysHeld (without_reads locks b) owns ds
  reads_gone b = record {
    apart = distinct_filter (λ l. not (is_held_by b l) || l.writes) locks now.apart;
    own = λ c. all_weaker _ _ (λ x held. held_filtered (is_written_by c) x.table x.key (λ l. not (is_held_by b l) || l.writes) (λ l is. kept_by_writer c b l is) locks held) (changes_at owns c) (now.own c);
    doubts = all_weaker _ _ (λ d all. all_weaker _ _ (λ x held. held_filtered (is_doubted_by d.branch) x.table x.key (λ l. not (is_held_by b l) || l.writes) (λ l is. kept_by_writer d.branch b l (doubt_is_written d.branch l is)) locks held) d.changes all) ds now.doubts;
  }

  -- the locks of a branch that has no changes, and is not in doubt, are let go
  pub released : (b : BranchId) → item_at own_id owns b ≡ None → AllByRecursion (λ d. same d.branch b ≡ false) ds → KeysHeld (without locks b) owns ds
  released b none others = record { apart = distinct_filter (λ l. not (is_held_by b l)) locks now.apart; own = own; doubts = doubts ds others now.doubts }
    where
      own : (c : BranchId) → AreHeld (is_written_by c) (without locks b) (changes_at owns c)
      own c = by (same b c) refl
        where
          by : (here : Bool) → same b c ≡ here → AreHeld (is_written_by c) (without locks b) (changes_at owns c)
          by true is = none_changed owns (is_written_by c) (without locks b) c (subst (λ m. item_at own_id owns m ≡ None) (equal_from_same b c is) none)
          by false is = all_weaker _ _ (λ x held. held_filtered (is_written_by c) x.table x.key (λ l. not (is_held_by b l)) (λ l so. kept_by_other c b l (other_way b c is) so) locks held) (changes_at owns c) (now.own c)

      doubts : (es : List Doubt) → AllByRecursion (λ d. same d.branch b ≡ false) es → AllByRecursion (λ d. AreHeld (is_doubted_by d.branch) locks d.changes) es
          → AllByRecursion (λ d. AreHeld (is_doubted_by d.branch) (without locks b) d.changes) es
      doubts [] others all = tt
      doubts (d ∷ es) others all = (
        all_weaker _ _ (λ x held. held_filtered (is_doubted_by d.branch) x.table x.key (λ l. not (is_held_by b l)) (λ l so. kept_by_other d.branch b l others.0 (doubt_is_written d.branch l so)) locks held) d.changes all.0,
        doubts es others.1 all.1,
      )

  -- the changes of a branch are dropped
  fewer : (b : BranchId) → KeysHeld locks (drop_item own_id owns b) ds
  fewer b = record { apart = now.apart; own = own; doubts = now.doubts }
    where
      own : (c : BranchId) → AreHeld (is_written_by c) locks (changes_at (drop_item own_id owns b) c)
      own c = by (same b c) refl
        where
          by : (here : Bool) → same b c ≡ here → AreHeld (is_written_by c) locks (changes_at (drop_item own_id owns b) c)
          by true is = none_changed (drop_item own_id owns b) (is_written_by c) locks c (subst (λ m. item_at own_id (drop_item own_id owns b) m ≡ None) (equal_from_same b c is) (drop_gone own_id owns b))
          by false is = subst (λ o. AreHeld (is_written_by c) locks (changes_of (sets_of o))) (sym (drop_leaves own_id owns b c is)) (now.own c)

  -- a branch is in doubt no more
  fewer_doubts : (b : BranchId) → KeysHeld locks owns (drop_item doubt_id ds b)
  fewer_doubts b = record { apart = now.apart; own = now.own; doubts = all_filtered _ _ ds now.doubts }

-- one that leaves
pub dropped : (locks : List Lock) (owns : List Owned) (ds : List Doubt) (b : BranchId) → AllByRecursion (λ d. same d.branch b ≡ false) ds → KeysHeld locks owns ds → KeysHeld (without locks b) (drop_item own_id owns b) ds
dropped locks owns ds b others now = released locks (drop_item own_id owns b) ds (fewer locks owns ds now b) b (drop_gone own_id owns b) others

-- one that is ended or forced
pub settled : (locks : List Lock) (owns : List Owned) (ds : List Doubt) (b : BranchId) → item_at own_id owns b ≡ None → KeysHeld locks owns ds → KeysHeld (without locks b) owns (drop_item doubt_id ds b)
settled locks owns ds b none now = released locks owns (drop_item doubt_id ds b) (fewer_doubts locks owns ds now b) b none (others ds)
  where
    others : (es : List Doubt) → AllByRecursion (λ d. same d.branch b ≡ false) (drop_item doubt_id es b)
    others [] = tt
    others (d ∷ es) = cond_both (not (same d.branch b)) _ _ (AllByRecursion (λ e. same e.branch b ≡ false)) (λ kept. (not-true (same d.branch b) kept, others es)) (λ gone. others es)

-- one that seals
module _ (locks : List Lock) (owns : List Owned) (ds : List Doubt) (rows : List TableRows) (r : Sealed) (others : AllByRecursion (λ d. same d.branch r.me ≡ false) ds) (is : r.changes ≡ changes_at owns r.me)
    (now : KeysHeld locks owns ds) where
  abbrev once : List Lock
  once = without locks r.me

  abbrev after : List Lock
  after = without once r.me

  gone : KeysHeld after (drop_item own_id owns r.me) ds
  gone = released once (drop_item own_id owns r.me) ds (dropped locks owns ds r.me others now) r.me (drop_gone own_id owns r.me) others

  free_one : (c : Change) → is_held (is_written_by r.me) locks c.table c.key ≡ true → other_holder after r.me c.table c.key ≡ None
  free_one c held = ap (λ o. another r.me (option_map named o)) (none_filtered (is_lock_on c.table c.key) (λ l. not (is_held_by r.me l)) once (let_go r.me c.table c.key locks now.apart held))

  free : AllByRecursion (λ c. other_holder after r.me c.table c.key ≡ None) r.changes
  free = subst (AllByRecursion (λ c. other_holder after r.me c.table c.key ≡ None)) (sym is)
      (all_weaker (λ c. is_held (is_written_by r.me) locks c.table c.key ≡ true) (λ c. other_holder after r.me c.table c.key ≡ None) free_one (changes_at owns r.me) (now.own r.me))

  pub sealed : KeysHeld (with_doubt after r.me r.changes) (drop_item own_id owns r.me) (put_by_branch doubt_id ds (doubt_over rows r))
  sealed = record {
    apart = distinct_doubt after r.me r.changes gone.apart;
    own = λ c. doubt_leaves (is_written_by c) (λ l w so. written_again c l w so) (λ l x so. so) r.me r.changes after (changes_at (drop_item own_id owns r.me) c) (gone.own c);
    doubts = all_placed (λ d. AreHeld (is_doubted_by d.branch) (with_doubt after r.me r.changes) d.changes) doubt_id ds (doubt_over rows r)
        (all_weaker (λ d. AreHeld (is_doubted_by d.branch) after d.changes) (λ d. AreHeld (is_doubted_by d.branch) (with_doubt after r.me r.changes) d.changes)
        (λ d all. doubt_leaves (is_doubted_by d.branch) (λ l w so. doubted_again d.branch l w so) (λ l x so. still_doubted d.branch x l so) r.me r.changes after d.changes all) ds gone.doubts)
        (doubt_holds r.me r.changes after free);
  }

-- ---- a run

-- keys of the changes of one table
held_of : (test : Lock → Bool) (locks : List Lock) (table : List ℕ) (cs : List Change) → AllByRecursion (λ key. is_held test locks table key ≡ true) (map (λ c. c.key) cs) → AllByRecursion (λ c. c.table ≡ table) cs
    → AreHeld test locks cs
held_of test locks table [] held of_table = tt
held_of test locks table (c ∷ cs) held of_table = (subst (λ t. is_held test locks t c.key ≡ true) (sym of_table.0) held.0, held_of test locks table cs held.1 of_table.1)

module _ (locks : List Lock) (owns : List Owned) (ds : List Doubt) (now : KeysHeld locks owns ds) (me : BranchId) (t : Table) where
  own_left : (w : Bool) (keys : List Value) (c : BranchId) → AreHeld (is_written_by c) (take_keys locks me t.name w keys) (changes_at owns c)
  own_left w keys c = keys_leave (is_written_by c) (λ l w is. written_again c l w is) keys locks me t.name w (changes_at owns c) (now.own c)

  doubts_left : (w : Bool) (keys : List Value) → AllByRecursion (λ d. AreHeld (is_doubted_by d.branch) (take_keys locks me t.name w keys) d.changes) ds
  doubts_left w keys = all_weaker _ _ (λ d all. keys_leave (is_doubted_by d.branch) (λ l w is. doubted_again d.branch l w is) keys locks me t.name w d.changes all) ds now.doubts

  -- a run that reads
  pub read : (rows : List Keyed) (rs : RowSet) (keys : List Value) → KeysHeld (locks_after locks me t (Reads rs keys)) (owns_after owns me rows (Reads rs keys)) ds
  read rows rs keys = record { apart = distinct_keys keys locks me t.name false now.apart; own = own_left false keys; doubts = doubts_left false keys }

  -- a run that changes nothing
  pub wrote_none : (rows : List Keyed) → KeysHeld locks (put_item own_id owns (record { branch = me; sets = sets_at owns me ++ set_over rows [] ∷ [] })) ds
  wrote_none rows = record { apart = now.apart; own = own; doubts = now.doubts }
    where
      mine : AreHeld (is_written_by me) locks (changes_of (sets_at owns me ++ set_over rows [] ∷ []))
      mine = subst (AreHeld (is_written_by me) locks) (sym (one_more_set (sets_at owns me) rows [] ∙ append_none (changes_at owns me))) (now.own me)

      own : (c : BranchId) → AreHeld (is_written_by c) locks (changes_at (put_item own_id owns (record { branch = me; sets = sets_at owns me ++ set_over rows [] ∷ [] })) c)
      own c = elim (put_or_before own_id owns (record { branch = me; sets = sets_at owns me ++ set_over rows [] ∷ [] }) c) [
        | inl before ↦ subst (λ o. AreHeld (is_written_by c) locks (changes_of (sets_of o))) (sym before) (now.own c)
        | inr put ↦ subst (λ o. AreHeld (is_written_by c) locks (changes_of (sets_of o))) (sym put.1) (subst (λ m. AreHeld (is_written_by m) locks (changes_of (sets_at owns me ++ set_over rows [] ∷ []))) put.0 mine)
      ]

  -- a run that writes
  module _ (g : StmtContext) (s : Stmt) (rows : List Keyed) (d : Done) (n undo : ℕ) (cs : List Change) (lock : g.locks ≡ locks) (it : g.me ≡ me) (one : has_one_key t ≡ true) (are_rows : AreRowsOf t g.view)
      (none : checked s t ≡ None) (nobody : Meets_nobody g s t) (meant : meant_over s t g.view ≡ meants.Changes d n cs) where
    abbrev keys : List Value
    keys = written s t g.view

    abbrev taken_now : List Lock
    taken_now = take_keys locks me t.name true keys

    free_keys : AllByRecursion (λ key. other_holder locks me t.name key ≡ None) keys
    free_keys = subst (λ b. AllByRecursion (λ key. other_holder locks b t.name key ≡ None) keys) it
        (subst (λ ls. AllByRecursion (λ key. other_holder ls g.me t.name key ≡ None) keys) lock (written_free g t s (tables_have_one_key t one) (rows_are_keyed t g.view are_rows) nobody))

    new_held : AreHeld (is_written_by me) taken_now cs
    new_held = held_of (is_written_by me) taken_now t.name cs
        (subst (AllByRecursion (λ key. is_held (is_written_by me) taken_now t.name key ≡ true)) (sym (changes_are_of_written s t g.view d n cs meant)) (keys_taken me keys locks t.name free_keys))
        (all_weaker (IsChangeOf t) (λ c. c.table ≡ t.name) (λ c is. is.0) cs (recursion_from_All (IsChangeOf t) cs (changes_are_of_table s t g.view d n cs one are_rows none meant)))

    abbrev put_now : List Owned
    put_now = put_item own_id owns (record { branch = me; sets = sets_at owns me ++ set_over rows cs ∷ [] })

    mine : AreHeld (is_written_by me) taken_now (changes_of (sets_at owns me ++ set_over rows cs ∷ []))
    mine = subst (AreHeld (is_written_by me) taken_now) (sym (one_more_set (sets_at owns me) rows cs ∙ ap (λ xs. changes_of (sets_at owns me) ++ xs) (append_none cs)))
        (all_append (λ c. is_held (is_written_by me) taken_now c.table c.key ≡ true) (changes_at owns me) cs (own_left true keys me) new_held)

    own_now : (c : BranchId) → AreHeld (is_written_by c) taken_now (changes_at put_now c)
    own_now c = elim (put_or_before own_id owns (record { branch = me; sets = sets_at owns me ++ set_over rows cs ∷ [] }) c) [
      | inl before ↦ subst (λ o. AreHeld (is_written_by c) taken_now (changes_of (sets_of o))) (sym before) (own_left true keys c)
      | inr put ↦ subst (λ o. AreHeld (is_written_by c) taken_now (changes_of (sets_of o))) (sym put.1) (subst (λ m. AreHeld (is_written_by m) taken_now (changes_of (sets_at owns me ++ set_over rows cs ∷ []))) put.0 mine)
    ]

    pub wrote : KeysHeld (locks_after locks me t (Writes d cs keys undo)) (owns_after owns me rows (Writes d cs keys undo)) ds
    wrote = record { apart = distinct_keys keys locks me t.name true now.apart; own = own_now; doubts = doubts_left true keys }
