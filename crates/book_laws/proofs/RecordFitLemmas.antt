-- On each disk of a lawful run seals and decisions have changes of the tables that the node has, so the rows of its book are
-- rows of their tables.
use Rattle.std.proofs.Common.{◌≡◌, ℕ, ◌==◌, ◌&&◌, not, Bool, true, false, if◌then◌else◌, List, [], ◌∷◌, ◌++◌, filter, flat_map, Option, Some, None, inl, inr, refl, sym, ap, subst, ◌∙◌, append-nil}
use Rattle.std.specs.Prelude.{IfSome}
use Rattle.std.specs.Option.{option_to_list}
use Rattle.std.specs.List.{AllByRecursion}
use Rattle.std.proofs.lemmas.Bool.{and_parts, eqb-true, eq-eqb}
use Rattle.tran_ids.proofs.BranchLemmas.{equal_from_same}
use Rattle.sql_eval.specs.Laws.{AreRowsOf}
use Rattle.node_rules.specs.Data.{Change, Table, BranchId, RedoRecord, Place, Input}
use Rattle.node_rules.specs.Data.acts
use Rattle.node_rules.specs.Data.decisions
use Rattle.node_rules.specs.Data.params
use Rattle.node_rules.specs.Data.records
use Rattle.commit_forget.specs.declared.next.Next.TheVariants as nexts
use Rattle.node_rules.specs.NodeState.{NodeState, TurnDraft, Branch, Stored}
use Rattle.node_rules.specs.Calls.{backs_to, goes_back}
use Rattle.node_rules.specs.Marks.{node_back, branch_back, next_back}
use Rattle.node_rules.specs.Records.{applied, nothing_stored, stored_by}
use Rattle.node_rules.specs.Rows.{apply}
use Rattle.node_rules.specs.Words.{same}
use Rattle.node_rules.proofs.StepLemmas.{made_so}
use Rattle.node_rules.proofs.Steps as steps
use Rattle.node_rules.proofs.Steps.{Step}
use Rattle.redo_record.specs.Durable.{durable_after}
use Rattle.run_rules.specs.Data.{Entry}
use Rattle.run_rules.specs.Data.entries
use Rattle.run_rules.specs.Book.{is_forced_of, stands, changes_in, changes_of, unforced_at, transaction_in, transaction_at, commits_at, rows_of}
use Rattle.run_rules.specs.Branches.{no_trail}
use Rattle.run_key_laws.specs.CommitOrderLaws.{changes_by}
use Rattle.run_rules.specs.Entries.{entry_of, book_of}
use Rattle.run_rules.specs.Facts.{first_facts, records_at}
use Rattle.run_rules.specs.Lawful.{History, IsLawfulRun, facts_at}
use Rattle.run_key_laws.specs.TableLaws.{table_in, IsChangeIn, AreChangesIn, LiveChangesFit}
use Rattle.run_base_laws.proofs.LawfulLemmas.{lawful_keeps}
use Rattle.run_rules.proofs.ListLemmas.{all_weaker, all_append}
use Rattle.run_base_laws.proofs.NodeLemmas.{Keeps, AllStand, all_stand_on, first_all}
use Rattle.run_base_laws.proofs.StoredLemmas.{stored_with, records_are_kept}
use Rattle.run_key_laws.proofs.TableLemmas.{table_is, changes_stay, apply_rows}
use Rattle.run_key_laws.proofs.TableRunLemmas.{run_tables}
use Rattle.run_key_laws.proofs.TableStepLemmas.{AreWhole, DiskFits, NodeFits, tables_keep}
use Rattle.book_laws.specs.DiskLaws.{node_of, is_of_node}
use Rattle.book_laws.proofs.DiskLemmas.{books_are_of_disks}
use Rattle.book_laws.proofs.PlaceLemmas.{IsOne, one_kept, one_of_flat}
use Rattle.book_laws.specs.RowLaws.{BookRowsFit}
use Rattle.book_laws.proofs.RowLemmas.{run_book}

-- ---- records

-- a record's changes are of these tables
abbrev pub HasChangesIn : List Table → RedoRecord → Type 0
HasChangesIn ts r = AreChangesIn ts (changes_by r)

-- a record leaves the tables, or makes one more
pub stay : (s : Stored) (r : RedoRecord) (cs : List Change) → AreChangesIn s.durable.tables cs → AreChangesIn (applied s r).durable.tables cs
unfolding applied durable_after
stay s (records.Table t) cs all = changes_stay s.durable.tables t cs all
stay s (records.Param (params.Recovery on)) cs all = all
stay s (records.Param (params.Strength strength)) cs all = all
stay s (records.Boot n) cs all = all
stay s (records.Link l) cs all = all
stay s (records.Synonym y) cs all = all
stay s (records.Sealed x) cs all = all
stay s (records.Decided x) cs all = all
stay s (records.Ended b d) cs all = all
stay s (records.Forced b d given) cs all = all
stay s (records.Met b d mixed) cs all = all
stay s (records.Forgot b) cs all = all
stay s (records.Hidden b) cs all = all
stay s (records.Image i) cs all = all

-- a branch that goes back writes nothing
backs_unwritten : (P : RedoRecord → Type 0) (k : NodeState) (x : Branch) (step : ℕ) (o : Option ℕ) → IfSome (backs_to k x step o).wrote P
backs_unwritten P k x step None = tt
backs_unwritten P k x step (Some i) = tt

back_unwritten : (P : RedoRecord → Type 0) (k : NodeState) (x : Branch) (step : ℕ) → IfSome (goes_back k x step).wrote P
back_unwritten P k x step = backs_unwritten P (node_back k x step) (branch_back k x step) step (next_back (branch_back k x step).work step 1)

-- the record of a step has changes of tables of its node
pub step_changes : (p : Place) (input : Input) {k : NodeState} {d : TurnDraft} → Step p input k d → LiveChangesFit k.stored.durable.tables k.owns → IfSome d.wrote (HasChangesIn k.stored.durable.tables)
step_changes p input (steps.Begins n s read_at call begins fit none step) own = step_changes p input step own
step_changes p input (steps.Counts_call n s call counts step) own = step_changes p input step own
step_changes p input (steps.Goes_back {k = k} x step goes next) own = back_unwritten (HasChangesIn k.stored.durable.tables) k x step
step_changes p input (steps.Pends n l given call has live code writer step) own = step_changes p input step own
step_changes p input (steps.Lets_reads_go l comment site_below live begins step) own = step_changes p input step own
step_changes p input (steps.Counts_ack s from kept came counts step) own = step_changes p input step own
step_changes p input (steps.Acts {k = k} l site_below acts.Seal why) own = own l.me
step_changes p input (steps.Acts {k = k} l site_below (acts.SealAndPass i) why) own = own l.me
step_changes p input (steps.Acts {k = k} l site_below acts.Decide why) own = own l.me
step_changes p input (steps.Does s from nexts.Rest kept why) own = tt
step_changes p input (steps.Makes_record {k = k} n s r d call makes) own = made_so (HasChangesIn k.stored.durable.tables) (λ t. tt) (λ l. tt) (λ y. tt) (λ setting. tt) makes
step_changes p input (steps.Gives_up_commit n b None gives has calls gone) own = tt
step_changes p input _ own = tt

-- ---- disks and nodes

-- all records of a disk whose tables are whole have changes of the tables that they make
abbrev pub ChangesFit : List RedoRecord → Type 0
ChangesFit rs = AreWhole rs → AllByRecursion (HasChangesIn (stored_by nothing_stored rs).durable.tables) rs

pub before : (rs : List RedoRecord) (w : Option RedoRecord) → AreWhole (rs ++ option_to_list w) → AreWhole rs
before [] w all = tt
before (x ∷ rs) w all = (all.0, before rs w all.1)

-- with the record of a turn
fit_with : (rs : List RedoRecord) (w : Option RedoRecord) → ChangesFit rs → (AreWhole rs → IfSome w (HasChangesIn (stored_by nothing_stored rs).durable.tables)) → ChangesFit (rs ++ option_to_list w)
fit_with rs None now new whole = subst (λ xs. AllByRecursion (HasChangesIn (stored_by nothing_stored xs).durable.tables) xs) (sym (append-nil rs)) (now (before rs None whole))
fit_with rs (Some r) now new whole =
    let was : AreWhole rs = before rs (Some r) whole in
    let s : Stored = stored_by nothing_stored rs in
    subst (λ (x : Stored). AllByRecursion (HasChangesIn x.durable.tables) (rs ++ r ∷ [])) (sym (stored_with rs (Some r)))
    (all_append (HasChangesIn (applied s r).durable.tables) rs (r ∷ [])
    (all_weaker (HasChangesIn s.durable.tables) (HasChangesIn (applied s r).durable.tables) (λ x all. stay s r (changes_by x) all) rs (now was))
    (stay s r (changes_by r) (new was), tt))

abbrev pub J : Place → List RedoRecord → Type 0
J p rs = DiskFits rs × ChangesFit rs

abbrev pub I : Place → List RedoRecord → NodeState → Type 0
I p rs k = NodeFits rs k × ChangesFit rs

steps_fit : (p : Place) (rs : List RedoRecord) (input : Input) (k : NodeState) (d : TurnDraft) → Step p input k d → I p rs k → I p (rs ++ option_to_list d.wrote) d.after
steps_fit p rs input k d step now = (
  tables_keep.steps p rs input k d step now.0,
  fit_with rs d.wrote now.1 (λ whole. subst (λ (x : Stored). IfSome d.wrote (HasChangesIn x.durable.tables)) now.0.0 (step_changes p input step (now.0.1 whole).1)),
)

fits_keep : Keeps J I
fits_keep = record {
  empty = λ p. (tables_keep.empty p, λ whole. tt);
  starts = λ p rs boot disk next. (tables_keep.starts p rs boot disk.0 next, fit_with rs (Some (records.Boot boot)) disk.1 (λ whole. tt));
  hears = λ p rs k scn now. (tables_keep.hears p rs k scn now.0, now.1);
  steps = λ p rs input k d step now. steps_fit p rs input k d step now;
  rests = λ p rs k now. (tables_keep.rests p rs k now.0, now.1);
}

-- on each disk of a lawful run
pub disk_changes : (t : History) → IsLawfulRun t → (n : ℕ) → AllByRecursion (HasChangesIn (stored_by nothing_stored (records_at (facts_at t) n)).durable.tables) (records_at (facts_at t) n)
disk_changes t lawful n =
    ((lawful_keeps t.places t.commands (λ f tr. AllStand J I fits_keep t.places f) (λ f tr h now may. all_stand_on J I fits_keep t.places t.commands f h now may) (first_facts t.places) no_trail t.trace
    (first_all J I fits_keep t.places) lawful).nodes n).0.1 ((run_tables t lawful).1 n)

-- ---- the book

-- the changes in an entry
abbrev pub changes_with : Entry → List Change
changes_with (entries.Sealed b g cs scn) = cs
changes_with (entries.Decided b g cs scn) = cs
changes_with _ = []

all_flat : {A B : Type 0} (P : B → Type 0) (f : A → List B) (xs : List A) → ((x : A) → IsOne x xs → AllByRecursion P (f x)) → AllByRecursion P (flat_map f xs)
all_flat P f [] all = tt
all_flat P f (x ∷ xs) all = all_append P (f x) (flat_map f xs) (all x (inl refl)) (all_flat P f xs (λ y there. all y (inr there)))

module _ (ts : List Table) (n : ℕ) (rs : List RedoRecord) (fit : AllByRecursion (HasChangesIn ts) rs) where
  one_fits : (xs : List RedoRecord) → AllByRecursion (HasChangesIn ts) xs → (r : RedoRecord) → IsOne r xs → HasChangesIn ts r
  one_fits [] all r there = absurd there
  one_fits (x ∷ xs) all r (inl here) = subst (HasChangesIn ts) here all.0
  one_fits (x ∷ xs) all r (inr there) = one_fits xs all.1 r there

  of_record : (e : Entry) (r : RedoRecord) → IsOne e (entry_of n r) → HasChangesIn ts r → AreChangesIn ts (changes_with e)
  of_record e (records.Sealed x) (inl here) all = subst (λ z. AreChangesIn ts (changes_with z)) here all
  of_record e (records.Decided x) (inl here) all = subst (λ z. AreChangesIn ts (changes_with z)) here all
  of_record e (records.Table t) (inl here) all = subst (λ z. AreChangesIn ts (changes_with z)) here tt
  of_record e (records.Ended b d) (inl here) all = subst (λ z. AreChangesIn ts (changes_with z)) here tt
  of_record e (records.Forced b d given) (inl here) all = subst (λ z. AreChangesIn ts (changes_with z)) here tt
  of_record e (records.Met b d mixed) (inl here) all = subst (λ z. AreChangesIn ts (changes_with z)) here tt
  of_record e (records.Sealed x) (inr none) all = absurd none
  of_record e (records.Decided x) (inr none) all = absurd none
  of_record e (records.Table t) (inr none) all = absurd none
  of_record e (records.Ended b d) (inr none) all = absurd none
  of_record e (records.Forced b d given) (inr none) all = absurd none
  of_record e (records.Met b d mixed) (inr none) all = absurd none
  of_record e _ there all = absurd there

  module _ (book : List Entry) (disk : filter (is_of_node n) book ≡ flat_map (entry_of n) rs) where
    -- an entry of the node
    entry_fits : (e : Entry) → IsOne e book → node_of e ≡ n → AreChangesIn ts (changes_with e)
    entry_fits e there here =
        let r = one_of_flat (entry_of n) e rs (subst (IsOne e) disk (one_kept (is_of_node n) e book there (eq-eqb (node_of e) n here))) in
        of_record e r.0 r.2 (one_fits rs fit r.0 r.1)

    part_fits : (b g h : BranchId) (cs : List Change) → (b.node ≡ n → AreChangesIn ts cs) → AreChangesIn ts (unforced_at book n g b h cs)
    part_fits b g h cs all = by (same h g && ((b.node == n) && not (stands (is_forced_of b) book))) refl
      where
        by : (q : Bool) → (same h g && ((b.node == n) && not (stands (is_forced_of b) book))) ≡ q → AreChangesIn ts (if q then cs else [])
        by false is = tt
        by true is = all (eqb-true b.node n (and_parts (b.node == n) (not (stands (is_forced_of b) book)) (and_parts (same h g) ((b.node == n) && not (stands (is_forced_of b) book)) is).1).0)

    transaction_fits : (g : BranchId) → AreChangesIn ts (transaction_at book n g)
    transaction_fits g = all_flat (IsChangeIn ts) (transaction_in book n g) book by
      where
        by : (e : Entry) → IsOne e book → AreChangesIn ts (transaction_in book n g e)
        by (entries.Sealed b h cs scn) there = part_fits b g h cs (entry_fits (entries.Sealed b h cs scn) there)
        by (entries.Decided b h cs scn) there = part_fits b g h cs (entry_fits (entries.Decided b h cs scn) there)
        by (entries.Made m x) there = tt
        by (entries.Ended b d) there = tt
        by (entries.Forced b d) there = tt
        by (entries.Met b d mixed) there = tt

    branch_fits : (b : BranchId) → b.node ≡ n → AreChangesIn ts (changes_of book b)
    branch_fits b here = all_flat (IsChangeIn ts) (changes_in b) book by
      where
        own : (c : BranchId) (cs : List Change) → (c.node ≡ n → AreChangesIn ts cs) → AreChangesIn ts (if same c b then cs else [])
        own c cs all = mine (same c b) refl
          where
            mine : (q : Bool) → same c b ≡ q → AreChangesIn ts (if q then cs else [])
            mine true is = all (ap (λ (z : BranchId). z.node) (equal_from_same c b is) ∙ here)
            mine false is = tt

        by : (e : Entry) → IsOne e book → AreChangesIn ts (changes_in b e)
        by (entries.Sealed c g cs scn) there = own c cs (entry_fits (entries.Sealed c g cs scn) there)
        by (entries.Decided c g cs scn) there = own c cs (entry_fits (entries.Decided c g cs scn) there)
        by (entries.Made m x) there = tt
        by (entries.Ended c d) there = tt
        by (entries.Forced c d) there = tt
        by (entries.Met c d mixed) there = tt

    forced_fits : (b : BranchId) → AreChangesIn ts (if b.node == n then changes_of book b else [])
    forced_fits b = by (b.node == n) refl
      where
        by : (q : Bool) → (b.node == n) ≡ q → AreChangesIn ts (if q then changes_of book b else [])
        by true is = branch_fits b (eqb-true b.node n is)
        by false is = tt

    -- what the book commits at the node is of its tables
    pub book_fits : AreChangesIn ts (flat_map (commits_at book n) book)
    book_fits = all_flat (IsChangeIn ts) (commits_at book n) book by
      where
        by : (e : Entry) → IsOne e book → AreChangesIn ts (commits_at book n e)
        by (entries.Decided b g cs scn) there = transaction_fits g
        by (entries.Forced b (decisions.Commit scn)) there = forced_fits b
        by (entries.Forced b decisions.Rollback) there = tt
        by (entries.Made m x) there = tt
        by (entries.Sealed b g cs scn) there = tt
        by (entries.Ended b d) there = tt
        by (entries.Met b d mixed) there = tt

-- so its rows are
rows_fit : (ts : List Table) (book : List Entry) (n : ℕ) (name : List ℕ) (x : Table) → table_in ts name ≡ Some x → AreChangesIn ts (flat_map (commits_at book n) book) → AreRowsOf x (rows_of book n name)
unfolding rows_of
rows_fit ts book n name x found all =
    let me : x.name ≡ name = table_is ts name x found in
    subst (λ m. AreRowsOf x (apply m [] (flat_map (commits_at book n) book))) me
    (apply_rows ts (flat_map (commits_at book n) book) all x [] (subst (λ m. table_in ts m ≡ Some x) (sym me) found) tt)

pub book_rows_fit : BookRowsFit
book_rows_fit t lawful n k up name x found =
    let rs : List RedoRecord = records_at (facts_at t) n in
    let fit : AllByRecursion (HasChangesIn k.stored.durable.tables) rs = subst (λ (s : Stored). AllByRecursion (HasChangesIn s.durable.tables) rs) (sym (records_are_kept t lawful n k up)) (disk_changes t lawful n) in
    subst (λ (book : List Entry). AreRowsOf x (rows_of book n name)) (sym (run_book t))
    (rows_fit k.stored.durable.tables (book_of t.trace) n name x found (book_fits k.stored.durable.tables n rs fit (book_of t.trace) (books_are_of_disks t lawful n)))
