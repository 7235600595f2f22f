-- The live branches, the rows, the opened branches and the records of a node are of its own branches.
use Rattle.std.proofs.Common.{◌≡◌, ℕ, ◌+◌, find, filter, Ok, not, Bool, true, false, if◌then◌else◌, List, [], ◌∷◌, ◌++◌, Option, Some, None, refl, subst}
use Rattle.std.specs.Prelude.{IfSome}
use Rattle.std.specs.Option.{option_to_list}
use Rattle.std.specs.List.{AllByRecursion}
use Rattle.std.proofs.lemmas.Bool.{cond_both}
use Rattle.node_rules.specs.Data.{BranchId, KeptRow, RedoRecord, Live, Place, Input}
use Rattle.node_rules.specs.Data.decisions
use Rattle.node_rules.specs.Data.records
use Rattle.node_rules.specs.Data.acts
use Rattle.commit_forget.specs.declared.next.Next.TheVariants as nexts
use Rattle.node_rules.specs.Words.{same, item_at, put_item, drop_item}
use Rattle.node_rules.specs.NodeState.{NodeState, TurnDraft, Stored, live_id, kept_row_id}
use Rattle.node_rules.specs.Records.{applied, nothing_stored, stored_by}
use Rattle.node_rules.specs.Turn.{start_of}
use Rattle.node_rules.specs.Prepare.{sealed_record, decided_record, ready}
use Rattle.node_rules.specs.Commit.{acked_by}
use Rattle.node_rules.specs.Statement.{ran, after_run}
use Rattle.session_tree.specs.Live.{new_edge}
use Rattle.node_rules.specs.Calls.{with_edge, hears_reply}
use Rattle.node_rules.specs.Force.{is_named_by, only_one, may_purge, branch_to_force}
use Rattle.node_rules.proofs.Steps as steps
use Rattle.node_rules.proofs.Steps.{Step, IsKept}
use Rattle.tran_ids.proofs.ListedLemmas.{item_is}
use Rattle.node_rules.proofs.StandLemmas.{live_so}
use Rattle.run_base_laws.specs.IdLaws.{IsRecordOf}
use Rattle.run_rules.proofs.ListLemmas.{all_filter, all_append}
use Rattle.node_rules.proofs.StepLemmas.{IsLive, asked_live, acting_live, made_so, calling_back_live}
use Rattle.node_rules.specs.Images.{image_at}
use Rattle.run_base_laws.proofs.NodeLemmas.{Keeps}
use Rattle.run_base_laws.proofs.RowRecordLemmas.{RowCases, rows_applied as applied_so, rows_stored as stored_so}

-- ---- lists

module _ {A : Type 0} (P : A → Type 0) (id : A → BranchId) where
  found_if : (x y : A) (xs : List A) (b : BranchId) (here : Bool) → P x → (if here then Some x else item_at id xs b) ≡ Some y → (item_at id xs b ≡ Some y → P y) → P y
  found_if x y xs b true so found later = subst P (let it : Some x ≡ Some y = found in cc) so
  found_if x y xs b false so found later = later found

  -- what holds of each item holds of the one that is found
  pub all_found : (xs : List A) (b : BranchId) (y : A) → AllByRecursion P xs → item_at id xs b ≡ Some y → P y
  all_found [] b y all found = absurd cc
  all_found (x ∷ xs) b y all found = found_if x y xs b (same (id x) b) all.0 found (all_found xs b y all.1)

  -- and of a list with an item that is so
  pub all_with : (xs : List A) (x : A) → AllByRecursion P xs → P x → AllByRecursion P (put_item id xs x)
  all_with [] x all so = (so, tt)
  all_with (y ∷ ys) x all so = cond_both (same (id y) (id x)) _ _ (AllByRecursion P) (λ here. (so, all.1)) (λ later. (all.0, all_with ys x all.1 so))

  pub all_without : (xs : List A) (b : BranchId) → AllByRecursion P xs → AllByRecursion P (drop_item id xs b)
  all_without xs b all = all_filter P P (λ x. not (same (id x) b)) (λ x passes so. so) xs all

  pub all_last : (xs : List A) (x : A) → AllByRecursion P xs → P x → AllByRecursion P (xs ++ x ∷ [])
  all_last xs x all so = all_append P xs (x ∷ []) all (so, tt)

-- ---- rows by records

module _ (P : BranchId → Type 0) where
  abbrev pub RowsOf : List KeptRow → Type 0
  RowsOf ks = AllByRecursion (λ s. P s.me) ks

  each_row : RowCases (IsRecordOf P) (λ s. P s.me)
  each_row = record { seals = λ r is. is; decides = λ r is. is; ends = λ n x so. so; forces = λ d x so. so; meets = λ d mixed x so. so; forgets = λ x so. so; hides = λ x so. so }

  -- the rows after a record of a branch that is so
  rows_applied : (s : Stored) (r : RedoRecord) → IsRecordOf P r → RowsOf s.durable.kept → RowsOf (applied s r).durable.kept
  rows_applied s r is all = applied_so each_row s r is all

  pub rows_stored : (s : Stored) (rs : List RedoRecord) → AllByRecursion (IsRecordOf P) rs → RowsOf s.durable.kept → RowsOf (stored_by s rs).durable.kept
  rows_stored s rs is all = stored_so each_row s rs is all

-- ---- steps

-- what is found with a test is so
sought : (P : KeptRow → Type 0) (test : KeptRow → Bool) (ks : List KeptRow) (s : KeptRow) → AllByRecursion P ks → find test ks ≡ Some s → P s
sought P test [] s all found = absurd cc
sought P test (x ∷ ks) s all found = by (test x) found (sought P test ks s all.1)
  where
    by : (here : Bool) → (if here then Some x else find test ks) ≡ Some s → (find test ks ≡ Some s → P s) → P s
    by true found later = subst P (let it : Some x ≡ Some s = found in cc) all.0
    by false found later = later found

-- a branch that is forced is one of these
pub forced_one : (P : BranchId → Type 0) (id : List ℕ) (ks : List KeptRow) (b : BranchId) → AllByRecursion (λ s. P s.me) ks → only_one id ks ≡ Ok b → P b
forced_one P id [] b all is = absurd cc
forced_one P id (s ∷ []) b all is = subst P (let it : Ok s.me ≡ Ok b = is in cc) all.0
forced_one P id (s ∷ t ∷ ks) b all is = absurd cc

module _ (n : ℕ) where
  -- a branch of this node
  abbrev Here : BranchId → Type 0
  Here b = b.node ≡ n

  -- what a node keeps is of its own branches
  abbrev pub Own : NodeState → Type 0
  Own k = AllByRecursion (λ l. Here l.me) k.lives × AllByRecursion (λ s. Here s.me) k.stored.durable.kept × AllByRecursion (λ o. Here o.child) k.opens

  abbrev pub Writes : Option RedoRecord → Type 0
  Writes w = IfSome w (IsRecordOf Here)

  -- a live branch is of this node
  live_here : (k : NodeState) (b : BranchId) → Own k → IsLive k b → Here b
  live_here k b own live = subst Here (item_is live_id k.lives b live.0 live.1) (all_found (λ l. Here l.me) live_id k.lives b live.0 own.0 live.1)

  -- and so is a kept one
  kept_here : (k : NodeState) (s : KeptRow) → Own k → IsKept k s → Here s.me
  kept_here k s own kept = all_found (λ x. Here x.me) kept_row_id k.stored.durable.kept s.me s own.1 kept

  forced_here : (p : Place) (k : NodeState) (id : List ℕ) (b : BranchId) → Own k → branch_to_force p.names k.stored.durable.kept id ≡ Ok b → Here b
  unfolding branch_to_force
  forced_here p k id b own is =
      forced_one Here id (filter (is_named_by p.names id) k.stored.durable.kept) b
      (all_filter (λ s. Here s.me) (λ s. Here s.me) (is_named_by p.names id) (λ s passes so. so) k.stored.durable.kept own.1) is

  module _ (k : NodeState) (own : Own k) where
    changed : (l : Live) → IsLive k l.me → AllByRecursion (λ x. Here x.me) (put_item live_id k.lives l)
    changed l live = all_with (λ x. Here x.me) live_id k.lives l own.0 (live_here k l.me own live)

    gone : (b : BranchId) → AllByRecursion (λ x. Here x.me) (drop_item live_id k.lives b)
    gone b = all_without (λ x. Here x.me) live_id k.lives b own.0

    recorded : (r : RedoRecord) → IsRecordOf Here r → AllByRecursion (λ s. Here s.me) (applied k.stored r).durable.kept
    recorded r is = rows_applied Here k.stored r is own.1

  module _ (p : Place) (input : Input) (is : p.number ≡ n) where
    -- each step is of the node's own branches
    pub own_on : {k : NodeState} {d : TurnDraft} → Step p input k d → Own k → Own d.after × Writes d.wrote
    own_on (steps.Begins {k = k} m s read_at call begins fit none step) own = own_on step (all_last (λ l. Here l.me) live_id k.lives _ own.0 is, own.1, own.2)
    own_on (steps.Counts_call m s call counts step) own = own_on step own
    own_on (steps.Goes_back x step goes next) own = own_on next own
    own_on (steps.Pends m l given call has live code writer step) own = own_on step own
    own_on (steps.Lets_reads_go l comment site_below live begins step) own = own_on step own
    own_on (steps.Counts_ack {k = k} s from kept came counts step) own =
        own_on step (own.0, all_with (λ x. Here x.me) kept_row_id k.stored.durable.kept (acked_by s from) own.1 (kept_here k s own kept), own.2)
    own_on (steps.Runs {k = k} x s given t asked way) own = ((changed k own (after_run x.live (ran p k x.live.me s t)) (asked_live asked), own.1, own.2), tt)
    own_on (steps.Goes_nowhere {k = k} x s given r asked way) own = ((changed k own x.live (asked_live asked), own.1, own.2), tt)
    own_on (steps.Calls {k = k} x s given i table asked way) own = ((changed k own x.live (asked_live asked), own.1, own.2), tt)
    own_on (steps.Opens {k = k} x s given node link table asked way) own = ((changed k own x.live (asked_live asked), own.1, own.2), tt)
    own_on (steps.Goes_on {k = k} x from strength g link opened) own =
        ((changed k own (with_edge x (new_edge from link strength)).live (x.live, live_so k x.live.me x opened.live), own.1, own.2), tt)
    own_on (steps.Hears_reply {k = k} x weight count a i e answered) own = ((changed k own (hears_reply x i weight count e).live (x.live, live_so k x.live.me x answered.live), own.1, own.2), tt)
    own_on (steps.Backs {k = k} x step from i calls next) own = ((changed k own x.live (calling_back_live calls), own.1, own.2), tt)
    own_on (steps.Is_back {k = k} x step from calls none) own = ((changed k own x.live (calling_back_live calls), own.1, own.2), tt)
    own_on (steps.Opens_branch {k = k} to parent edge root depth read_at came new) own =
        ((all_last (λ l. Here l.me) live_id k.lives _ own.0 is, own.1, all_append (λ o. Here o.child) k.opens _ own.2 (is, tt)), tt)
    own_on (steps.Acts {k = k} l site_below acts.Rest why) own = ((changed k own l (acting_live why), own.1, own.2), tt)
    own_on (steps.Acts {k = k} l site_below acts.AskDown why) own = ((changed k own l (acting_live why), own.1, own.2), tt)
    own_on (steps.Acts {k = k} l site_below acts.SayReady why) own = ((changed k own (ready l) (acting_live why), own.1, own.2), tt)
    own_on (steps.Acts {k = k} l site_below acts.SayReadOnly why) own = ((gone k own l.me, own.1, own.2), tt)
    own_on (steps.Acts {k = k} l site_below acts.Seal why) own =
        ((gone k own l.me, recorded k own (sealed_record k l None) (live_here k l.me own (acting_live why)), own.2), live_here k l.me own (acting_live why))
    own_on (steps.Acts {k = k} l site_below (acts.SealAndPass i) why) own =
        ((gone k own l.me, recorded k own (sealed_record k l (Some i)) (live_here k l.me own (acting_live why)), own.2), live_here k l.me own (acting_live why))
    own_on (steps.Acts {k = k} l site_below acts.Decide why) own =
        ((gone k own l.me, recorded k own (decided_record k l) (live_here k l.me own (acting_live why)), own.2), live_here k l.me own (acting_live why))
    own_on (steps.Acts {k = k} l site_below acts.Finish why) own = ((gone k own l.me, own.1, own.2), tt)
    own_on (steps.Acts {k = k} l site_below acts.Abandon why) own = ((gone k own l.me, own.1, own.2), tt)
    own_on (steps.Drops_told {k = k} l live drops) own = ((gone k own l.me, own.1, own.2), tt)
    own_on (steps.Drops_asked {k = k} l from live came parent) own = ((gone k own l.me, own.1, own.2), tt)
    own_on (steps.Does {k = k} s from (nexts.End d) kept why) own = ((own.0, recorded k own (records.Ended s.me d) (kept_here k s own kept), own.2), kept_here k s own kept)
    own_on (steps.Does {k = k} s from (nexts.Meet d mixed) kept why) own = ((own.0, recorded k own (records.Met s.me d mixed) (kept_here k s own kept), own.2), kept_here k s own kept)
    own_on (steps.Does {k = k} s from nexts.Forget kept why) own = ((own.0, recorded k own (records.Forgot s.me) (kept_here k s own kept), own.2), kept_here k s own kept)
    own_on (steps.Makes_record {k = k} m s r d call makes) own =
        made_so (λ x. Own (record k { stored = applied k.stored x }) × Writes (Some x)) (λ t. ((own.0, recorded k own (records.Table t) tt, own.2), tt))
        (λ l. ((own.0, recorded k own (records.Link l) tt, own.2), tt)) (λ y. ((own.0, recorded k own (records.Synonym y) tt, own.2), tt))
        (λ setting. ((own.0, recorded k own (records.Param setting) tt, own.2), tt)) makes
    own_on (steps.Forces_given {k = k} m id scn b call named) own =
        let at : Here b = forced_here p k id b own named in ((own.0, recorded k own (records.Forced b (decisions.Commit scn) true) at, own.2), at)
    own_on (steps.Forces_commit {k = k} m id b call named) own =
        let at : Here b = forced_here p k id b own named in ((own.0, recorded k own (records.Forced b (decisions.Commit (k.clock + 1)) false) at, own.2), at)
    own_on (steps.Forces_rollback {k = k} m id b call named) own =
        let at : Here b = forced_here p k id b own named in ((own.0, recorded k own (records.Forced b decisions.Rollback false) at, own.2), at)
    own_on (steps.Hides {k = k} m mixed id s call found) own =
        let at : Here s.me = sought (λ x. Here x.me) (may_purge mixed id) k.stored.durable.kept s own.1 found in ((own.0, recorded k own (records.Hidden s.me) at, own.2), at)
    own_on (steps.Leaves {k = k} m s d x call ends has live) own = ((gone k own x.live.me, own.1, own.2), tt)
    own_on (steps.Sets_savepoint {k = k} m x name call has code live) own = ((changed k own x.live (x.live, live_so k x.live.me x live), own.1, own.2), tt)
    own_on (steps.Images {k = k} checkpoint) own = ((own.0, recorded k own (records.Image (image_at k.stored k.clock)) tt, own.2), tt)
    own_on (steps.Gives_up {k = k} m x gives has calls live) own = ((changed k own x.live (x.live, live_so k x.live.me x live), own.1, own.2), tt)
    own_on (steps.Gives_up_commit {k = k} m b (Some l) gives has calls live) own = ((gone k own l.me, own.1, own.2), tt)
    own_on _ own = (own, tt)

-- ---- nodes

abbrev pub OwnRecords : ℕ → List RedoRecord → Type 0
OwnRecords n rs = AllByRecursion (IsRecordOf (λ b. b.node ≡ n)) rs

-- a record that a turn wrote
pub recorded_too : (P : BranchId → Type 0) (rs : List RedoRecord) (w : Option RedoRecord) → AllByRecursion (IsRecordOf P) rs → IfSome w (IsRecordOf P) → AllByRecursion (IsRecordOf P) (rs ++ option_to_list w)
recorded_too P rs None all is = all_append (IsRecordOf P) rs [] all tt
recorded_too P rs (Some r) all is = all_append (IsRecordOf P) rs (r ∷ []) all (is, tt)

abbrev pub OwnAt : Place → List RedoRecord → NodeState → Type 0
OwnAt p rs k = OwnRecords p.number rs × Own p.number k

starts_own : (p : Place) (rs : List RedoRecord) (boot : ℕ) → OwnRecords p.number rs → OwnAt p (rs ++ records.Boot boot ∷ []) (start_of (rs ++ records.Boot boot ∷ []))
unfolding start_of
starts_own p rs boot all =
    let more : OwnRecords p.number (rs ++ records.Boot boot ∷ []) = all_append (IsRecordOf (λ b. b.node ≡ p.number)) rs (records.Boot boot ∷ []) all (tt, tt) in
    (more, (tt, rows_stored (λ b. b.node ≡ p.number) nothing_stored (rs ++ records.Boot boot ∷ []) more tt, tt))

pub owns : Keeps (λ p rs. OwnRecords p.number rs) OwnAt
owns = record {
  empty = λ p. tt;
  starts = λ p rs boot disk next. starts_own p rs boot disk;
  hears = λ p rs k scn now. now;
  steps = λ p rs input k d step now. (let on : Own p.number d.after × Writes p.number d.wrote = own_on p.number p input refl step now.1 in (recorded_too (λ b. b.node ≡ p.number) rs d.wrote now.0 on.1, on.0));
  rests = λ p rs k now. now.0;
}
