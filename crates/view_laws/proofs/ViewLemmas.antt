-- In every lawful run the views of pending transactions show the rows of the branches.
use Rattle.std.proofs.Common.{◌≡◌, ◌≢◌, ℕ, ◌+◌, ◌≤◌, ◌==◌, ◌||◌, not, Bool, true, false, if◌then◌else◌, List, [], ◌∷◌, ◌++◌, map, filter, flat_map, Option, Some, None, refl, sym, ap, subst, ◌∙◌, arith}
use Rattle.std.specs.Prelude.{fold, is_some, slice_get, take}
use Rattle.std.specs.Option.{option_map_or}
use Rattle.std.specs.List.{AllByRecursion}
use Rattle.std.proofs.lemmas.Bool.{or_left, or_right, eq-eqb, eqb-true}
use Rattle.std.proofs.lemmas.List.Folds.{list_any-append}
use Rattle.std.proofs.lemmas.List.{map-append}
use Rattle.tran_ids.specs.Branch.{put_by_branch}
use Rattle.redo_record.specs.Durable.{durable_after, no_durable, durable}
use Rattle.redo_record.specs.Order.{AreInOrder}
use Rattle.redo_record.proofs.OrderKept.{after_in_order}
use Rattle.pending_view.specs.Views.{Pending, pending_kept, pending_live, has_sent_prepare, in_view, pending_rows, out_row, in_row, neighbors_of, neighbor_rows, pending_view, neighbors_view}
use Rattle.node_rules.specs.Data.{BranchId, RedoRecord, KeptRow, Kid, Durable, Live}
use Rattle.node_rules.specs.Words.{same, item_at}
use Rattle.node_rules.specs.NodeState.{NodeState, Stored, live_id, live_at, kept_row_id}
use Rattle.node_rules.specs.Records.{nothing_stored}
use Rattle.run_rules.specs.Branches.{is_among, seen_at}
use Rattle.run_rules.specs.BranchRecords.{sealed_in, decided_in}
use Rattle.run_rules.specs.Data.{Command, Happening}
use Rattle.run_rules.specs.Data.commands
use Rattle.run_rules.specs.Data.happenings
use Rattle.run_rules.specs.Each.{facts_upto}
use Rattle.run_rules.specs.Facts.{command_at, is_up, names_in, node_at, records_at}
use Rattle.run_rules.specs.Lawful.{History, IsLawfulRun}
use Rattle.run_rules.specs.RunReport.{start}
use Rattle.run_rules.specs.Scripts.{IsTheRunOf}
use Rattle.run_rules.specs.Shown.{shown}
use Rattle.run_rules.proofs.FactLemmas.{facts_are}
use Rattle.run_claims.specs.Places.{past_upto}
use Rattle.run_rules.proofs.ListLemmas.{all_append, all_map, all_filter}
use Rattle.run_base_laws.specs.IdLaws.{AreOwn}
use Rattle.run_base_laws.specs.NodeLaws.{count_of, unacked_kid, unacked_row}
use Rattle.run_base_laws.proofs.CountingLemmas.{count_filter}
use Rattle.run_base_laws.proofs.EventsStandLemmas.{ids_name_their_node}
use Rattle.run_base_laws.proofs.FreshLemmas.{ids_are_fresh}
use Rattle.run_base_laws.proofs.StoredLemmas.{records_are_kept}
use Rattle.book_laws.proofs.KeptLemmas.{durable_stored}
use Rattle.tree_laws.proofs.PrefixLemmas.{so_far, f_at, e_at}
use Rattle.tree_laws.proofs.TimeLemmas.{part_lawful, part_of}
use Rattle.tree_trail_laws.proofs.MomentLemmas.{tr_at}
use Rattle.view_laws.specs.GivenColumns.{Given}
use Rattle.view_laws.specs.BranchRows.{is_shown, pending_first, pending_seen, pending_recorded, pending_at, neighbors_at}
use Rattle.view_laws.specs.ViewLaws.{AreAscending, AreRowsOf, pending_lines, neighbor_lines, Prints, ShowsPending, ShowsNeighbors, ViewIsRight, ViewsAreOfBranches}
use Rattle.view_laws.proofs.OneMoreLemmas.{Says, says}
use Rattle.view_laws.proofs.RowLemmas.{nothing_said, row_with}
use Rattle.view_laws.proofs.SaidLemmas.{HasLeft, unsaid, row_left}
use Rattle.view_laws.proofs.DiskRunLemmas.{kept_of, Disk, disks_at}
use Rattle.view_laws.proofs.ShownLemmas.{HasRow, pending_is, neighbors_are, has_row, has_row_too}
use Rattle.view_laws.proofs.SortLemmas.{sorted_rows, rows_flat, strict, ascend_filter, apart_by, found_each, count_mapped, found_among, count_joined}
use Rattle.view_laws.proofs.AdvisedLemmas.{advice_goes_on}
use Rattle.view_laws.proofs.GivenLemmas.{g_at}
use Rattle.view_laws.proofs.PrintLemmas.{split_at, pending_printed, neighbors_printed}
use Rattle.view_laws.proofs.LiveLemmas.{live_rows, live_stays, seen_rows}

-- ---- Acks are not shown

pending_unacked : (ks : List KeptRow) → map pending_kept (in_view (map unacked_row ks)) ≡ map pending_kept (in_view ks)
pending_unacked [] = refl
pending_unacked (s ∷ ks) = by (not s.hidden) (pending_unacked ks)
  where
    by : (q : Bool) → map pending_kept (in_view (map unacked_row ks)) ≡ map pending_kept (in_view ks)
        → map pending_kept (if q then unacked_row s ∷ in_view (map unacked_row ks) else in_view (map unacked_row ks)) ≡ map pending_kept (if q then s ∷ in_view ks else in_view ks)
    by true later = ap (λ ps. pending_kept s ∷ ps) later
    by false later = later

kids_unacked : (s : KeptRow) (cs : List Kid) → map (out_row (unacked_row s)) (map unacked_kid cs) ≡ map (out_row s) cs
kids_unacked s [] = refl
kids_unacked s (c ∷ cs) = ap (λ zs. out_row s c ∷ zs) (kids_unacked s cs)

parent_unacked : (names : List (List ℕ)) (s : KeptRow) (o : Option BranchId) → in_row names (unacked_row s) o ≡ in_row names s o
parent_unacked names s None = refl
parent_unacked names s (Some b) = refl

neighbors_unacked : (names : List (List ℕ)) (ks : List KeptRow) → flat_map (neighbors_of names) (in_view (map unacked_row ks)) ≡ flat_map (neighbors_of names) (in_view ks)
neighbors_unacked names [] = refl
neighbors_unacked names (s ∷ ks) = by (not s.hidden) (neighbors_unacked names ks)
  where
    one : neighbors_of names (unacked_row s) ≡ neighbors_of names s
    one = λ i. parent_unacked names s s.parent i ++ kids_unacked s s.children i

    by : (q : Bool) → flat_map (neighbors_of names) (in_view (map unacked_row ks)) ≡ flat_map (neighbors_of names) (in_view ks)
        → flat_map (neighbors_of names) (if q then unacked_row s ∷ in_view (map unacked_row ks) else in_view (map unacked_row ks)) ≡ flat_map (neighbors_of names) (if q then s ∷ in_view ks else in_view ks)
    by true later = λ i. one i ++ later i
    by false later = later

-- the rows that records make are in order
rows_in_order : (d : Durable) → AreInOrder d.kept → (rs : List RedoRecord) → AreInOrder (fold durable_after d rs).kept
rows_in_order d now [] = now
rows_in_order d now (r ∷ rs) = rows_in_order (durable_after d r) (subst AreInOrder (sym (kept_of d r)) (after_in_order d.kept r now)) rs

unhidden : (q : Bool) → not q ≡ true → q ≡ false
unhidden true none = absurd cc
unhidden false none = refl

-- a branch of which nothing is said has no row
nothing_recorded : (rs : List RedoRecord) (b : BranchId) → sealed_in rs b ≡ None → decided_in rs b ≡ None → pending_recorded rs b ≡ []
nothing_recorded rs b unsealed undecided = by (is_shown rs b)
  where
    by : (q : Bool) → (if q then pending_first rs (sealed_in rs b) (decided_in rs b) else []) ≡ []
    by true = ap (λ o. pending_first rs o (decided_in rs b)) unsealed ∙ ap (pending_first rs None) undecided
    by false = refl

module _ (t : History) (whole : IsLawfulRun t) (hs : List Happening) (c : ℕ) (rest : List Happening) (is : hs ++ happenings.Begun c ∷ rest ≡ t.trace) (n : ℕ) (k : NodeState) (up : node_at (f_at t hs) n ≡ Some k) where
  s : History
  s = so_far t hs

  lawful : IsLawfulRun (so_far t hs)
  lawful = part_lawful t whole hs (part_of t whole hs (happenings.Begun c) rest is)

  abbrev rs : List RedoRecord
  rs = records_at (f_at t hs) n

  abbrev pub ks : List KeptRow
  ks = (durable rs).kept

  disk : Disk (e_at t hs) rs
  disk = disks_at t whole hs (part_of t whole hs (happenings.Begun c) rest is) n

  rows : map unacked_row k.stored.durable.kept ≡ ks
  rows = ap (λ (z : Stored). z.durable.kept) (records_are_kept (so_far t hs) lawful n k up) ∙ ap (λ d. d.kept) (durable_stored nothing_stored rs)

  own : AreOwn n rs k
  own = ids_name_their_node (so_far t hs) lawful n k up

  kept_own : AllByRecursion (λ x. x.me.node ≡ n) ks
  kept_own = subst (AllByRecursion (λ (x : KeptRow). x.me.node ≡ n)) rows (all_map (λ (x : KeptRow). x.me.node ≡ n) unacked_row k.stored.durable.kept own.rows)

  counts : (b : BranchId) → count_of kept_row_id b ks + count_of live_id b k.lives ≤ 1
  counts b =
      let same_count : count_of kept_row_id b ks ≡ count_of kept_row_id b k.stored.durable.kept = sym (ap (count_of kept_row_id b) rows) ∙ count_mapped kept_row_id kept_row_id unacked_row (λ x. refl) b k.stored.durable.kept in
      omega (arith, same_count, ids_are_fresh (so_far t hs) lawful n k up b)

  kept_found : AllByRecursion (λ x. item_at kept_row_id ks x.me ≡ Some x) ks
  kept_found = found_each kept_row_id ks (λ b. omega (arith, counts b))

  lives_found : AllByRecursion (λ x. item_at live_id k.lives x.me ≡ Some x) k.lives
  lives_found = found_each live_id k.lives (λ b. omega (arith, counts b))

  -- ---- the rows of one branch

  abbrev gave : Given
  gave = g_at t hs

  here_at : (b : BranchId) → b.node ≡ n → pending_at (f_at t hs) (tr_at t hs) gave n b ≡ live_rows (live_at k b) ++ pending_recorded rs b
  here_at b at = ap (λ q. if q then pending_seen gave (seen_at (tr_at t hs) b) ++ pending_recorded rs b else []) (eq-eqb b.node n at) ∙ ap (λ ps. ps ++ pending_recorded rs b) (seen_rows t whole hs c rest is n k up b at)

  of_live : (l : Live) → l.me.node ≡ n → live_at k l.me ≡ Some l → has_sent_prepare l ≡ true → pending_at (f_at t hs) (tr_at t hs) gave n l.me ≡ pending_live l ∷ []
  of_live l at live sent =
      let none : says rs l.me ≡ nothing_said = unsaid (e_at t hs) l.me (live_stays t whole hs c rest is n k up l.me l live) rs disk.0 in
      here_at l.me at
      ∙ (ap (λ o. live_rows o ++ pending_recorded rs l.me) live
      ∙ (ap (λ q. (if q then pending_live l ∷ [] else []) ++ pending_recorded rs l.me) sent
      ∙ ap (λ ps. pending_live l ∷ ps) (nothing_recorded rs l.me (ap (λ (x : Says). x.sealed) none) (ap (λ (x : Says). x.decided) none))))

  no_live : (b : BranchId) → HasLeft (e_at t hs) b → live_at k b ≡ None
  no_live b left = by (live_at k b) refl
    where
      by : (o : Option Live) → live_at k b ≡ o → o ≡ None
      by None gone = refl
      by (Some l) live = (let none = live_stays t whole hs c rest is n k up b l live in absurd (cc (none, left.1)))

  row_found : (x : KeptRow) → item_at kept_row_id ks x.me ≡ Some x → row_with (says rs x.me) ≡ Some x
  row_found x found = sym (disk.1 x.me) ∙ found

  of_kept : (x : KeptRow) → x.me.node ≡ n → item_at kept_row_id ks x.me ≡ Some x → not x.hidden ≡ true → pending_at (f_at t hs) (tr_at t hs) gave n x.me ≡ pending_kept x ∷ []
  of_kept x at found seen =
      let left : HasLeft (e_at t hs) x.me = row_left (e_at t hs) x.me rs disk.0 (λ none. (let some = row_found x found in cc (some, none))) in
      here_at x.me at ∙ (ap (λ o. live_rows o ++ pending_recorded rs x.me) (no_live x.me left) ∙ pending_is (e_at t hs) rs disk.0 x.me x (row_found x found) (unhidden x.hidden seen))

  -- ---- all rows

  abbrev all_rows : List Pending
  all_rows = map pending_live (filter has_sent_prepare k.lives) ++ map pending_kept (in_view ks)

  abbrev pending_id : Pending → BranchId
  pending_id r = r.me

  one_each : (b : BranchId) → count_of pending_id b all_rows ≤ 1
  one_each b =
      let joined : count_of pending_id b all_rows ≡ count_of pending_id b (map pending_live (filter has_sent_prepare k.lives)) + count_of pending_id b (map pending_kept (in_view ks)) = count_joined pending_id b _ _ in
      let lives : count_of pending_id b (map pending_live (filter has_sent_prepare k.lives)) ≡ count_of live_id b (filter has_sent_prepare k.lives) = count_mapped live_id pending_id pending_live (λ x. refl) b (filter has_sent_prepare k.lives) in
      let kept : count_of pending_id b (map pending_kept (in_view ks)) ≡ count_of kept_row_id b (in_view ks) = count_mapped kept_row_id pending_id pending_kept (λ x. refl) b (in_view ks) in
      omega (arith, joined, lives, kept, count_filter live_id b has_sent_prepare k.lives, count_filter kept_row_id b (λ x. not x.hidden) ks, counts b)

  all_own : AllByRecursion (λ r. (pending_id r).node ≡ n) all_rows
  all_own =
      all_append (λ (r : Pending). (pending_id r).node ≡ n) (map pending_live (filter has_sent_prepare k.lives)) (map pending_kept (in_view ks))
      (all_map (λ (r : Pending). (pending_id r).node ≡ n) pending_live (filter has_sent_prepare k.lives) (all_filter (λ (l : Live). l.me.node ≡ n) (λ (l : Live). l.me.node ≡ n) has_sent_prepare (λ l sent at. at) k.lives own.lives))
      (all_map (λ (r : Pending). (pending_id r).node ≡ n) pending_kept (in_view ks) (all_filter (λ (x : KeptRow). x.me.node ≡ n) (λ (x : KeptRow). x.me.node ≡ n) (λ x. not x.hidden) (λ x seen at. at) ks kept_own))

  both : {A : Type 0} (P Q : A → Type 0) (xs : List A) → AllByRecursion P xs → AllByRecursion Q xs → AllByRecursion (λ x. P x × Q x) xs
  both P Q [] one two = tt
  both P Q (x ∷ xs) one two = ((one.0, two.0), both P Q xs one.1 two.1)

  abbrev IsOwnRow : Pending → Type 0
  IsOwnRow r = pending_at (f_at t hs) (tr_at t hs) gave n (pending_id r) ≡ r ∷ []

  all_right : AllByRecursion IsOwnRow all_rows
  all_right =
      all_append IsOwnRow (map pending_live (filter has_sent_prepare k.lives)) (map pending_kept (in_view ks))
      (all_map IsOwnRow pending_live (filter has_sent_prepare k.lives)
      (all_filter (λ (l : Live). (l.me.node ≡ n) × (item_at live_id k.lives l.me ≡ Some l)) (λ l. IsOwnRow (pending_live l)) has_sent_prepare (λ l sent at. of_live l at.0 at.1 sent) k.lives (both (λ (l : Live). l.me.node ≡ n) (λ l. item_at live_id k.lives l.me ≡ Some l) k.lives own.lives lives_found)))
      (all_map IsOwnRow pending_kept (in_view ks)
      (all_filter (λ (x : KeptRow). (x.me.node ≡ n) × (item_at kept_row_id ks x.me ≡ Some x)) (λ x. IsOwnRow (pending_kept x)) (λ x. not x.hidden) (λ x seen at. of_kept x at.0 at.1 seen) ks (both (λ (x : KeptRow). x.me.node ≡ n) (λ x. item_at kept_row_id ks x.me ≡ Some x) ks kept_own kept_found)))

  among_all : (b : BranchId) → pending_at (f_at t hs) (tr_at t hs) gave n b ≢ [] → is_among b (map pending_id all_rows) ≡ true
  among_all b some = by (b.node == n) refl
    where
      joined : is_among b (map pending_id all_rows) ≡ (is_among b (map pending_id (map pending_live (filter has_sent_prepare k.lives))) || is_among b (map pending_id (map pending_kept (in_view ks))))
      joined = ap (is_among b) (map-append pending_id (map pending_live (filter has_sent_prepare k.lives)) (map pending_kept (in_view ks)))
          ∙ list_any-append (λ c. same c b) (map pending_id (map pending_live (filter has_sent_prepare k.lives))) (map pending_id (map pending_kept (in_view ks)))

      kept_there : (pending_recorded rs b ≡ [] → ⊥) → is_among b (map pending_id (map pending_kept (in_view ks))) ≡ true
      kept_there there =
          let it : HasRow (e_at t hs) rs disk.0 b = has_row (e_at t hs) rs disk.0 b there in
          found_among kept_row_id pending_id pending_kept (λ x. refl) (λ x. not x.hidden) b ks it.row (disk.1 b ∙ it.found) (ap not it.seen)

      from : (o : Option Live) → live_at k b ≡ o → (live_rows o ++ pending_recorded rs b ≡ [] → ⊥) → is_among b (map pending_id all_rows) ≡ true
      from None gone there = joined ∙ or_right (is_among b (map pending_id (map pending_live (filter has_sent_prepare k.lives)))) (is_among b (map pending_id (map pending_kept (in_view ks)))) (kept_there there)
      from (Some l) live there = sent (has_sent_prepare l) refl
        where
          sent : (q : Bool) → has_sent_prepare l ≡ q → is_among b (map pending_id all_rows) ≡ true
          sent true asked = joined ∙ or_left (is_among b (map pending_id (map pending_live (filter has_sent_prepare k.lives)))) (is_among b (map pending_id (map pending_kept (in_view ks)))) (found_among live_id pending_id pending_live (λ x. refl) has_sent_prepare b k.lives l live asked)
          sent false unasked = joined ∙ or_right (is_among b (map pending_id (map pending_live (filter has_sent_prepare k.lives)))) (is_among b (map pending_id (map pending_kept (in_view ks))))
              (kept_there (λ none. there (ap (λ q. (if q then pending_live l ∷ [] else []) ++ pending_recorded rs b) unasked ∙ none)))

      by : (q : Bool) → (b.node == n) ≡ q → is_among b (map pending_id all_rows) ≡ true
      by false other = absurd (some (ap (λ q. if q then pending_seen gave (seen_at (tr_at t hs) b) ++ pending_recorded rs b else []) other))
      by true at = from (live_at k b) refl (λ none. some (here_at b (eqb-true b.node n at) ∙ none))

  abbrev pub sorted : List Pending
  sorted = fold (put_by_branch pending_id) [] all_rows

  pub pending_are : AreRowsOf (pending_at (f_at t hs) (tr_at t hs) gave n) sorted
  pending_are = sorted_rows pending_id (pending_at (f_at t hs) (tr_at t hs) gave n) all_rows (apart_by pending_id n all_rows one_each all_own) all_right among_all

  pub pending_shown : shown t.places (f_at t hs) (commands.ShowPending n) ≡ pending_lines (names_in t.places) sorted
  unfolding pending_rows
  pending_shown =
      ap (λ o. option_map_or (λ (j : NodeState). pending_view (names_in t.places) j.stored.durable.kept j.lives) o []) up
      ∙ ap (λ xs. pending_lines (names_in t.places) (fold (put_by_branch pending_id) [] (map pending_live (filter has_sent_prepare k.lives) ++ xs))) (sym (pending_unacked k.stored.durable.kept) ∙ ap (λ xs. map pending_kept (in_view xs)) rows)

  -- ---- neighbours

  abbrev names : List (List ℕ)
  names = names_in t.places

  ascending : AreAscending (map kept_row_id ks)
  ascending = strict ks (rows_in_order no_durable tt rs) (apart_by kept_row_id n ks (λ b. omega (arith, counts b)) kept_own)

  pub neighbors_are_of : AreRowsOf (neighbors_at names (f_at t hs) n) (flat_map (neighbors_of names) (in_view ks))
  neighbors_are_of = record {
    branches = map kept_row_id (in_view ks);
    order = ascend_filter (λ x. not x.hidden) ks ascending;
    all = λ b some. (let it : HasRow (e_at t hs) rs disk.0 b = has_row_too (e_at t hs) rs disk.0 b names some in
        subst (λ zs. is_among b zs ≡ true) (map_ids (in_view ks)) (found_among kept_row_id kept_row_id (λ x. x) (λ x. refl) (λ x. not x.hidden) b ks it.row (disk.1 b ∙ it.found) (ap not it.seen)));
    are = rows_flat kept_row_id (neighbors_at names (f_at t hs) n) (neighbors_of names) (in_view ks)
        (all_filter (λ (x : KeptRow). item_at kept_row_id ks x.me ≡ Some x) (λ x. neighbors_at names (f_at t hs) n x.me ≡ neighbors_of names x) (λ x. not x.hidden)
        (λ x seen found. neighbors_are (e_at t hs) rs disk.0 x.me names x (row_found x found) (unhidden x.hidden seen)) ks kept_found);
  }
    where
      map_ids : (xs : List KeptRow) → map kept_row_id (map (λ x. x) xs) ≡ map kept_row_id xs
      map_ids [] = refl
      map_ids (x ∷ xs) = ap (λ zs. x.me ∷ zs) (map_ids xs)

  pub neighbors_shown : shown t.places (f_at t hs) (commands.ShowNeighbors n) ≡ neighbor_lines (flat_map (neighbors_of names) (in_view ks))
  unfolding neighbor_rows
  neighbors_shown =
      ap (λ o. option_map_or (λ (j : NodeState). neighbors_view (names_in t.places) j.stored.durable.kept) o []) up
      ∙ ap neighbor_lines (sym (neighbors_unacked names k.stored.durable.kept) ∙ ap (λ xs. flat_map (neighbors_of names) (in_view xs)) rows)

-- ---- in the run of a script

module _ (t : History) (due : IsTheRunOf t) (whole : IsLawfulRun t) (i c : ℕ) (begins : slice_get t.trace i ≡ Some (happenings.Begun c)) (n : ℕ) where
  abbrev hs : List Happening
  hs = take i t.trace

  at : (rest : List Happening) × (take i t.trace ++ happenings.Begun c ∷ rest ≡ t.trace)
  at = split_at t.trace i (happenings.Begun c) begins

  same_facts : (past_upto t i).facts ≡ facts_upto t i
  same_facts = facts_are t.places t.commands (start t.places) (take i t.trace)

  node_up : (o : Option NodeState) → is_some o ≡ true → (k : NodeState) × (o ≡ Some k)
  node_up None up = absurd cc
  node_up (Some k) up = (k, refl)

  pub shows_pending : command_at t.commands c ≡ commands.ShowPending n → is_up (facts_upto t i) n ≡ true → ShowsPending t i c n
  shows_pending command up =
      let k = node_up (node_at (facts_upto t i) n) up in
      record {
        rows = sorted t whole hs c at.0 at.1 n k.0 k.1;
        are = pending_are t whole hs c at.0 at.1 n k.0 k.1;
        prints = subst (Prints t i c) (ap (λ f. shown t.places f (commands.ShowPending n)) same_facts ∙ pending_shown t whole hs c at.0 at.1 n k.0 k.1)
            (pending_printed t due whole i c begins n command (ap (λ f. is_up f n) same_facts ∙ up));
      }

  pub shows_neighbors : command_at t.commands c ≡ commands.ShowNeighbors n → is_up (facts_upto t i) n ≡ true → ShowsNeighbors t i c n
  shows_neighbors command up =
      let k = node_up (node_at (facts_upto t i) n) up in
      record {
        rows = flat_map (neighbors_of (names_in t.places)) (in_view (ks t whole hs c at.0 at.1 n k.0 k.1));
        are = neighbors_are_of t whole hs c at.0 at.1 n k.0 k.1;
        prints = subst (Prints t i c) (ap (λ f. shown t.places f (commands.ShowNeighbors n)) same_facts ∙ neighbors_shown t whole hs c at.0 at.1 n k.0 k.1)
            (neighbors_printed t due whole i c begins n command (ap (λ f. is_up f n) same_facts ∙ up));
      }

view_right : (t : History) → IsTheRunOf t → IsLawfulRun t → (i c : ℕ) → slice_get t.trace i ≡ Some (happenings.Begun c) → (x : Command) → command_at t.commands c ≡ x → ViewIsRight t i c x
view_right t due whole i c begins (commands.ShowPending n) command = shows_pending t due whole i c begins n command
view_right t due whole i c begins (commands.ShowNeighbors n) command = shows_neighbors t due whole i c begins n command
view_right t due whole i c begins _ command = tt

pub views_are_of_branches : ViewsAreOfBranches
views_are_of_branches t due whole = record { shown = λ i c begins. view_right t due whole i c begins (command_at t.commands c) refl; advised = advice_goes_on t whole }
