-- Two branches hold different keys: so the changes of one leave the keys of the other, and the changes of a live branch are free of branches
-- in doubt.
use Rattle.std.proofs.Common.{◌≡◌, not, Bool, true, false, true≢false, if◌then◌else◌, List, [], ◌∷◌, Option, Some, None, refl, sym, subst, ◌∙◌, arith}
use Rattle.std.specs.List.{AllByRecursion}
use Rattle.std.specs.Str.{bytes_eq}
use Rattle.std.specs.Cmp.Lexicographic.{bytes_decides}
use Rattle.std.proofs.lemmas.Bool.{and_parts}
use Rattle.dtx_values.specs.Order.{same_value}
use Rattle.dtx_values.proofs.ValueOrder.{equal_from_same, same_from_equal}
use Rattle.tran_ids.proofs.BranchLemmas as ids
use Rattle.tran_ids.proofs.ListedLemmas.{item_is}
use Rattle.tran_ids.specs.Branch.{branch_below, put_by_branch}
use Rattle.row_locks.specs.Locks.{Lock}
use Rattle.node_rules.specs.Data.{Change, BranchId, Doubt}
use Rattle.node_rules.specs.Words.{same, item_at, drop_item}
use Rattle.node_rules.specs.NodeState.{doubt_id}
use Rattle.node_rules.specs.Records.{held_back}
use Rattle.node_ready_laws.proofs.ListLemmas.{all_weaker, all_found, all_left, all_filtered, all_placed}
use Rattle.node_undo_laws.specs.Keys.{is_written_by, is_doubted_by, is_held, AreHeld, are_of_one_key, AreFree, HaveNoKeyInCommon}
use Rattle.node_undo_laws.proofs.HoldLemmas.{held_weaker, held_by_one, doubt_is_written}
use Rattle.node_undo_laws.proofs.DistinctLemmas.{IsFreeFor, AreApart, DoubtsApart}

-- the keys of these changes and of those are different
abbrev pub LeaveKeys : List Change → List Change → Type 0
LeaveKeys cs ds = AllByRecursion (λ d. AllByRecursion (λ c. are_of_one_key c d ≡ false) cs) ds

-- ---- one key

-- changes of one key are of one table, and at one value
one_place : (x y : Change) → are_of_one_key x y ≡ true → (x.table ≡ y.table) × (x.key ≡ y.key)
one_place x y one = let parts = and_parts (bytes_eq x.table y.table) (same_value x.key y.key) one in ((bytes_decides x.table y.table).0 parts.0, equal_from_same x.key y.key parts.1)

-- either way round
pub one_key_back : (x y : Change) → are_of_one_key x y ≡ true → are_of_one_key y x ≡ true
one_key_back x y one =
    let at = one_place x y one in
    let table : bytes_eq y.table x.table ≡ true = (bytes_decides y.table x.table).1 (sym at.0) in
    let key : same_value y.key x.key ≡ true = same_from_equal y.key x.key (sym at.1) in
    grind (arith, table, key)

pub other_key_back : (x y : Change) → are_of_one_key x y ≡ false → are_of_one_key y x ≡ false
other_key_back x y other = by (are_of_one_key y x) refl
  where
    by : (one : Bool) → are_of_one_key y x ≡ one → one ≡ false
    by false is = refl
    by true is = absurd (true≢false (sym (one_key_back y x is) ∙ other))

-- ---- holders

module _ (locks : List Lock) where
  -- two branches that hold one key for writing are one
  one_writer : (b c : BranchId) (x y : Change) → is_held (is_written_by b) locks x.table x.key ≡ true → is_held (is_written_by c) locks y.table y.key ≡ true → are_of_one_key x y ≡ true → b ≡ c
  one_writer b c x y held holds one =
      let at = one_place x y one in
      held_by_one b c locks y.table y.key
      (subst (λ k. is_held (is_written_by b) locks y.table k ≡ true) at.1 (subst (λ t. is_held (is_written_by b) locks t x.key ≡ true) at.0 held)) holds

  -- a branch in doubt writes what it holds
  pub doubted_written : (b : BranchId) (cs : List Change) → AreHeld (is_doubted_by b) locks cs → AreHeld (is_written_by b) locks cs
  doubted_written b cs held = all_weaker _ _ (λ x holds. held_weaker (is_doubted_by b) (is_written_by b) x.table x.key (λ l is. doubt_is_written b l is) locks holds) cs held

  pub one_holder : (b c : BranchId) (x y : Change) → is_held (is_doubted_by b) locks x.table x.key ≡ true → is_held (is_written_by c) locks y.table y.key ≡ true → are_of_one_key x y ≡ true → b ≡ c
  one_holder b c x y held holds one = one_writer b c x y (held_weaker (is_doubted_by b) (is_written_by b) x.table x.key (λ l is. doubt_is_written b l is) locks held) holds one

  -- so the keys of two branches are different
  pub keys_apart : (b c : BranchId) → same b c ≡ false → (xs ys : List Change) → AreHeld (is_written_by b) locks xs → AreHeld (is_written_by c) locks ys → LeaveKeys xs ys
  keys_apart b c other xs ys one two = all_weaker _ _ (λ y holds. all_weaker _ _ (λ x held. by x y held holds (are_of_one_key x y) refl) xs one) ys two
    where
      by : (x y : Change) → is_held (is_written_by b) locks x.table x.key ≡ true → is_held (is_written_by c) locks y.table y.key ≡ true → (here : Bool) → are_of_one_key x y ≡ here → here ≡ false
      by x y held holds false is = refl
      by x y held holds true is = absurd (true≢false (sym (ids.same_from_equal b c (one_writer b c x y held holds is)) ∙ other))

  -- the changes of a branch that is not in doubt are free of those in doubt
  pub changes_free : (b : BranchId) (cs : List Change) → AreHeld (is_written_by b) locks cs → (ds : List Doubt) → AllByRecursion (λ d. AreHeld (is_doubted_by d.branch) locks d.changes) ds
      → AllByRecursion (λ d. same d.branch b ≡ false) ds → AreFree ds cs
  changes_free b cs own [] held others = tt
  changes_free b cs own (d ∷ ds) held others = (
    all_weaker _ _ (λ x holds. all_weaker _ _ (λ y written. by x y holds written (are_of_one_key x y) refl) cs own) d.changes held.0,
    changes_free b cs own ds held.1 others.1,
  )
    where
      by : (x y : Change) → is_held (is_doubted_by d.branch) locks x.table x.key ≡ true → is_held (is_written_by b) locks y.table y.key ≡ true → (here : Bool) → are_of_one_key x y ≡ here → here ≡ false
      by x y holds written false is = refl
      by x y holds written true is = absurd (true≢false (sym (ids.same_from_equal d.branch b (one_holder d.branch b x y holds written is)) ∙ others.0))

  apart_two : (d e : Doubt) → AreHeld (is_doubted_by d.branch) locks d.changes → AreHeld (is_doubted_by e.branch) locks e.changes → AreApart d e
  apart_two d e one other = all_weaker _ _ (λ x held. all_weaker _ _ (λ y holds same. one_holder d.branch e.branch x y held holds same) e.changes (doubted_written e.branch e.changes other)) d.changes one

  -- branches in doubt have different keys
  pub doubts_apart : (ds : List Doubt) → AllByRecursion (λ d. AreHeld (is_doubted_by d.branch) locks d.changes) ds → DoubtsApart ds
  doubts_apart [] all = tt
  doubts_apart (d ∷ ds) all = (all_weaker _ _ (λ e other. apart_two d e all.0 other) ds all.1, doubts_apart ds all.1)

-- ---- branches in doubt

free_all : (P : Change → Type 0) → ((c : Change) → P c) → (cs : List Change) → AllByRecursion P cs
free_all P each [] = tt
free_all P each (c ∷ cs) = (each c, free_all P each cs)

-- before any is, their keys are free
pub starts_free : (ds : List Doubt) → AllByRecursion (λ d. AllByRecursion (IsFreeFor [] d.branch) d.changes) ds
starts_free [] = tt
starts_free (d ∷ ds) = (free_all (IsFreeFor [] d.branch) (λ c. refl) d.changes, starts_free ds)

-- two that are apart are so either way round
apart_itself : (d : Doubt) → AreApart d d
apart_itself d = free_all _ (λ x. free_all _ (λ y one. refl) d.changes) d.changes

swapped : (P : Change → Change → Type 0) (xs ys : List Change) → AllByRecursion (λ x. AllByRecursion (P x) ys) xs → AllByRecursion (λ y. AllByRecursion (λ x. P x y) xs) ys
swapped P xs [] all = tt
swapped P xs (y ∷ ys) all = (all_weaker _ _ (λ x is. is.0) xs all, swapped P xs ys (all_weaker _ _ (λ x is. is.1) xs all))

apart_back : (d e : Doubt) → AreApart d e → AreApart e d
apart_back d e apart =
    all_weaker _ _ (λ y all. all_weaker _ _ (λ x same one. sym (same (one_key_back y x one))) d.changes all) e.changes (swapped (λ x y. are_of_one_key x y ≡ true → d.branch ≡ e.branch) d.changes e.changes apart)

-- one of them is apart from all
apart_from_all : (ds : List Doubt) (b : BranchId) (d : Doubt) → DoubtsApart ds → item_at doubt_id ds b ≡ Some d → AllByRecursion (AreApart d) ds
apart_from_all [] b d apart found = absurd cc
apart_from_all (x ∷ ds) b d apart found = by (same x.branch b) found (apart_from_all ds b d apart.1)
  where
    by : (here : Bool) → (if here then Some x else item_at doubt_id ds b) ≡ Some d → (item_at doubt_id ds b ≡ Some d → AllByRecursion (AreApart d) ds) → AreApart d x × AllByRecursion (AreApart d) ds
    by true is later = let it : x ≡ d = (let both : Some x ≡ Some d = is in cc) in subst (λ e. AreApart e x × AllByRecursion (AreApart e) ds) it (apart_itself x, apart.0)
    by false is later = (apart_back x d (all_found (AreApart x) _ ds d apart.0 is), later is)

-- so its changes leave the keys of the others
pub leaves_others : (ds : List Doubt) (b : BranchId) (d : Doubt) → DoubtsApart ds → item_at doubt_id ds b ≡ Some d → AllByRecursion (λ e. LeaveKeys d.changes e.changes) (drop_item doubt_id ds b)
leaves_others ds b d apart found = all_weaker _ _ (λ e is. so e is.0 is.1) (drop_item doubt_id ds b) (all_left (AreApart d) doubt_id ds b (apart_from_all ds b d apart found))
  where
    so : (e : Doubt) → AreApart d e → same e.branch b ≡ false → LeaveKeys d.changes e.changes
    so e two other =
        all_weaker _ _ (λ y all. all_weaker _ _ (λ x one. by x y one (are_of_one_key x y) refl) d.changes all) e.changes (swapped (λ x y. are_of_one_key x y ≡ true → d.branch ≡ e.branch) d.changes e.changes two)
      where
        by : (x y : Change) → (are_of_one_key x y ≡ true → d.branch ≡ e.branch) → (here : Bool) → are_of_one_key x y ≡ here → here ≡ false
        by x y one false is = refl
        by x y one true is = absurd (true≢false (sym (ids.same_from_equal e.branch b (sym (one is) ∙ item_is doubt_id ds b d found)) ∙ other))

none_leave : (ys : List Change) → LeaveKeys [] ys
none_leave [] = tt
none_leave (y ∷ ys) = (tt, none_leave ys)

all_left_alone : (es : List Doubt) → AllByRecursion (λ e. LeaveKeys [] e.changes) es
all_left_alone [] = tt
all_left_alone (e ∷ es) = (none_leave e.changes, all_left_alone es)

-- and so do the changes that a branch holds back, where it is in doubt
pub held_leaves : (ds : List Doubt) (b : BranchId) → DoubtsApart ds → AllByRecursion (λ e. LeaveKeys (held_back (item_at doubt_id ds b)) e.changes) (drop_item doubt_id ds b)
held_leaves ds b apart = by (item_at doubt_id ds b) refl
  where
    by : (o : Option Doubt) → item_at doubt_id ds b ≡ o → AllByRecursion (λ e. LeaveKeys (held_back o) e.changes) (drop_item doubt_id ds b)
    by None is = all_left_alone (drop_item doubt_id ds b)
    by (Some d) is = leaves_others ds b d apart is

-- without one of them the others are apart
pub apart_without : (ds : List Doubt) (b : BranchId) → DoubtsApart ds → DoubtsApart (drop_item doubt_id ds b)
apart_without [] b apart = tt
apart_without (d ∷ ds) b apart = by (not (same d.branch b)) (apart_without ds b apart.1)
  where
    by : (stays : Bool) → DoubtsApart (drop_item doubt_id ds b) → DoubtsApart (if stays then d ∷ drop_item doubt_id ds b else drop_item doubt_id ds b)
    by true rest = (all_filtered (AreApart d) _ ds apart.0, rest)
    by false rest = rest

-- one more is apart from them where its changes are free of them
pub apart_with : (ds : List Doubt) (d : Doubt) → AreFree ds d.changes → DoubtsApart ds → DoubtsApart (put_by_branch doubt_id ds d)
apart_with [] d free apart = (tt, tt)
apart_with (e ∷ ds) d free apart = by (branch_below d.branch e.branch) (apart_with ds d free.1 apart.1)
  where
    each : (x : Doubt) → HaveNoKeyInCommon x.changes d.changes → AreApart x d
    each x off = all_weaker _ _ (λ y all. all_weaker _ _ (λ z other one. absurd (true≢false (sym one ∙ other))) d.changes all) x.changes off

    by : (here : Bool) → DoubtsApart (put_by_branch doubt_id ds d) → DoubtsApart (if here then d ∷ e ∷ ds else e ∷ put_by_branch doubt_id ds d)
    by true rest = ((apart_back e d (each e free.0), all_weaker _ _ (λ x off. apart_back x d (each x off)) ds free.1), apart)
    by false rest = (all_placed (AreApart e) doubt_id ds d apart.0 (each e free.0), rest)

-- changes that are free of them leave their keys
pub free_leaves : (cs : List Change) (ds : List Doubt) → AreFree ds cs → AllByRecursion (λ d. LeaveKeys cs d.changes) ds
free_leaves cs ds free = all_weaker _ _ (λ d all. all_weaker _ _ (λ y others. all_weaker _ _ (λ x other. other_key_back y x other) cs others) d.changes all) ds free
