-- Each lock in doubt of a node is of a branch in doubt, on a key that it has changed; each other lock is of a live branch.
use Rattle.std.proofs.Common.{◌≡◌, ℕ, ◌||◌, ◌&&◌, not, Bool, true, false, if◌then◌else◌, List, [], ◌∷◌, ◌++◌, filter, fold, Some, None, refl, sym, ap, ◌∙◌, true≢false, Option}
use Rattle.std.specs.List.{AllByRecursion, list_any}
use Rattle.std.specs.Cmp.Lexicographic.{bytes_decides}
use Rattle.std.proofs.lemmas.Bool.{or_left, or_right}
use Rattle.dtx_values.proofs.ValueOrder as values
use Rattle.row_locks.specs.Back.{is_change_at, is_changed_in}
use Rattle.row_locks.specs.Locks.{Lock, is_held_by, is_lock_on, new_lock, taken, doubted, without, locks_back}
use Rattle.stmt_run.specs.Run.{locks_after, take_keys}
use Rattle.node_rules.specs.Data.{Value, Change, Table, BranchId, Sealed, Place, Input, Doubt, Live}
use Rattle.node_rules.specs.Data.records
use Rattle.node_rules.specs.Data.acts
use Rattle.commit_forget.specs.declared.next.Next.TheVariants as nexts
use Rattle.node_rules.specs.Words.{same, same_text, is_item_of, put_item, drop_item}
use Rattle.node_rules.specs.Rows.{same_value}
use Rattle.node_rules.specs.NodeState.{NodeState, TurnDraft, live_id, doubt_id, without_branch, Branch}
use Rattle.node_rules.specs.Records.{applied, with_record, with_doubt, take_changed, doubt_over}
use Rattle.node_rules.specs.Prepare.{sealed_of, own_changes, ready}
use Rattle.node_rules.specs.Statement.{StmtOutcome, Refuses, Reads, Writes, ran}
use Rattle.node_rules.specs.Turn.{with_doubt_of}
use Rattle.node_rules.proofs.Steps as steps
use Rattle.node_rules.proofs.Steps.{Step}
use Rattle.node_rules.proofs.StandLemmas.{live_so}
use Rattle.run_rules.proofs.ListLemmas.{all_weaker, all_filter, all_map, any_found, any_more, any_dropped, any_put}
use Rattle.node_rules.proofs.StepLemmas.{IsLive, asked_live, acting_live, made_so, gone_back_live, calling_back_live}
use Rattle.node_rules.specs.Calls.{backs_to}
use Rattle.node_rules.specs.Marks as marks
use Rattle.node_rules.specs.Marks.{changes_left, stays_held, node_back, branch_back, next_back}
use Rattle.run_base_laws.proofs.NodeLemmas.{KeepsAlone, kept_alone}
use Rattle.tran_ids.specs.Branch.{branch_below, put_by_branch}
use Rattle.tran_ids.proofs.BranchLemmas.{equal_from_same, same_from_equal}
use Rattle.refusal_laws.specs.Holders.{is_of_doubt, is_of_branch, LocksAreOfBranches}

-- ---- locks, each of which is so whether it writes or not

module _ (P : Lock → Type 0) (writing : (l : Lock) (writes : Bool) → P l → P (record l { writes = writes })) where
  taken_if : (here : Bool) (l m : Lock) (ls ms : List Lock) → P m → P l → AllByRecursion P ls → AllByRecursion P ms → AllByRecursion P (if here then m ∷ ls else l ∷ ms)
  taken_if true l m ls ms new first rest more = (new, rest)
  taken_if false l m ls ms new first rest more = (first, more)

  all_taken : (ls : List Lock) (b : BranchId) (table : List ℕ) (key : Value) (writes : Bool) → AllByRecursion P ls → P (new_lock b table key writes) → AllByRecursion P (taken ls b table key writes)
  all_taken [] b table key writes all own = (own, tt)
  all_taken (l ∷ ls) b table key writes all own =
      taken_if (is_lock_on table key l) l (record l { writes = l.writes || writes }) ls (taken ls b table key writes) (writing l (l.writes || writes) all.0) all.0 all.1 (all_taken ls b table key writes all.1 own)

  -- with the keys of a statement
  all_keys : (keys : List Value) (ls : List Lock) (b : BranchId) (table : List ℕ) (writes : Bool) → AllByRecursion P ls → ((key : Value) → P (new_lock b table key writes)) → AllByRecursion P (take_keys ls b table writes keys)
  all_keys [] ls b table writes all own = all
  all_keys (key ∷ keys) ls b table writes all own = all_keys keys (taken ls b table key writes) b table writes (all_taken ls b table key writes all (own key)) own

  all_run : (ls : List Lock) (b : BranchId) (t : Table) (r : StmtOutcome) → AllByRecursion P ls → ((key : Value) (writes : Bool) → P (new_lock b t.name key writes)) → AllByRecursion P (locks_after ls b t r)
  all_run ls b t (Refuses r) all own = all
  all_run ls b t (Reads rows keys) all own = all_keys keys ls b t.name false all (λ key. own key false)
  all_run ls b t (Writes d cs keys undo) all own = all_keys keys ls b t.name true all (λ key. own key true)

  -- with the keys of changes
  all_changed : (cs : List Change) (ls : List Lock) (b : BranchId) → AllByRecursion P ls → AllByRecursion (λ c. P (new_lock b c.table c.key true)) cs → AllByRecursion P (fold (take_changed b) ls cs)
  all_changed [] ls b all own = all
  all_changed (c ∷ cs) ls b all own = all_changed cs (take_changed b ls c) b (all_taken ls b c.table c.key true all own.0) own.1

  -- once a branch has gone back
  all_back : (b : BranchId) (stays writes : Lock → Bool) (ls : List Lock) → AllByRecursion P ls → AllByRecursion P (locks_back b stays writes ls)
  all_back b stays writes [] all = tt
  all_back b stays writes (l ∷ ls) all = by (is_held_by b l) (stays l) (all_back b stays writes ls all.1)
    where
      by : (own kept : Bool) → AllByRecursion P (locks_back b stays writes ls)
          → AllByRecursion P ((if own then (if kept then (record l { writes = writes l }) ∷ [] else []) else l ∷ []) ++ locks_back b stays writes ls)
      by true true rest = (writing l (writes l) all.0, rest)
      by true false rest = rest
      by false kept rest = (all.0, rest)

-- ---- lists of branches

-- one that passes is still there beside another, or without those that fail
module _ {A : Type 0} (id : A → BranchId) (p : A → Bool) where
  any_beside : (xs : List A) (x : A) → list_any p xs ≡ true → list_any p (put_by_branch id xs x) ≡ true
  any_beside [] x there = absurd (true≢false (sym there))
  any_beside (y ∷ ys) x there = by (branch_below (id x) (id y)) (p y) refl there (any_beside ys x)
    where
      by : (above here : Bool) → p y ≡ here → (here || list_any p ys) ≡ true → (list_any p ys ≡ true → list_any p (put_by_branch id ys x) ≡ true)
          → list_any p (if above then x ∷ y ∷ ys else y ∷ put_by_branch id ys x) ≡ true
      by true here is there later = or_right (p x) (p y || list_any p ys) (ap (λ q. q || list_any p ys) is ∙ there)
      by false true is there later = or_left (p y) (list_any p (put_by_branch id ys x)) is
      by false false is there later = or_right (p y) (list_any p (put_by_branch id ys x)) (later there)

  any_placed : (xs : List A) (x : A) → p x ≡ true → list_any p (put_by_branch id xs x) ≡ true
  any_placed [] x is = or_left (p x) false is
  any_placed (y ∷ ys) x is = by (branch_below (id x) (id y)) (any_placed ys x is)
    where
      by : (above : Bool) → list_any p (put_by_branch id ys x) ≡ true → list_any p (if above then x ∷ y ∷ ys else y ∷ put_by_branch id ys x) ≡ true
      by true rest = or_left (p x) (list_any p (y ∷ ys)) is
      by false rest = or_right (p y) (list_any p (put_by_branch id ys x)) rest

  any_left : (q : A → Bool) → ((x : A) → p x ≡ true → q x ≡ true) → (xs : List A) → list_any p xs ≡ true → list_any p (filter q xs) ≡ true
  any_left q so [] there = absurd (true≢false (sym there))
  any_left q so (x ∷ xs) there = by (p x) (q x) refl refl there (any_left q so xs)
    where
      by : (here stays : Bool) → p x ≡ here → q x ≡ stays → (here || list_any p xs) ≡ true → (list_any p xs ≡ true → list_any p (filter q xs) ≡ true) → list_any p (if stays then x ∷ filter q xs else filter q xs) ≡ true
      by true true is keeps there later = or_left (p x) (list_any p (filter q xs)) is
      by true false is keeps there later = absurd (true≢false (sym (so x is) ∙ keeps))
      by false true is keeps there later = or_right (p x) (list_any p (filter q xs)) (later there)
      by false false is keeps there later = later there

-- a change is at its own key
own_key : (c : Change) → is_change_at c.table c.key c ≡ true
own_key c =
    let table : same_text c.table c.table ≡ true = (bytes_decides c.table c.table).1 refl in
    let key : same_value c.key c.key ≡ true = values.same_from_equal c.key c.key refl in
    ap (λ q. q && same_value c.key c.key) table ∙ key

-- so each change is among these
each_changed : (cs : List Change) → AllByRecursion (λ c. is_changed_in cs c.table c.key ≡ true) cs
each_changed [] = tt
each_changed (c ∷ cs) = (
  or_left (is_change_at c.table c.key c) (is_changed_in cs c.table c.key) (own_key c),
  all_weaker (λ d. is_changed_in cs d.table d.key ≡ true) (λ d. is_changed_in (c ∷ cs) d.table d.key ≡ true) (λ d is. or_right (is_change_at d.table d.key c) (is_changed_in cs d.table d.key) is) cs (each_changed cs),
)

-- ---- whose a lock is

abbrev IsOf : List Live → List Doubt → Lock → Type 0
IsOf lives ds l = is_of_branch lives ds l ≡ true

writing_so : (lives : List Live) (ds : List Doubt) (l : Lock) (writes : Bool) → IsOf lives ds l → IsOf lives ds (record l { writes = writes })
writing_so lives ds l writes is = is

-- by what it is
of_so : (lives more : List Live) (ds further : List Doubt) (l : Lock) → (list_any (is_item_of live_id l.branch) lives ≡ true → list_any (is_item_of live_id l.branch) more ≡ true)
    → (is_of_doubt ds l ≡ true → is_of_doubt further l ≡ true) → IsOf lives ds l → IsOf more further l
of_so lives more ds further l live doubt is = by l.in_doubt is
  where
    by : (q : Bool) → (if q then is_of_doubt ds l else list_any (is_item_of live_id l.branch) lives) ≡ true → (if q then is_of_doubt further l else list_any (is_item_of live_id l.branch) more) ≡ true
    by true is = doubt is
    by false is = live is

-- a branch in doubt has the locks of its changes
abbrev Doubts : List Doubt → BranchId → List Change → Type 0
Doubts ds b cs = (l : Lock) → same b l.branch ≡ true → is_changed_in cs l.table l.key ≡ true → is_of_doubt ds l ≡ true

module _ (lives : List Live) (ds : List Doubt) (b : BranchId) (cs : List Change) (doubts : Doubts ds b cs) where
  -- while its keys are taken, and before they are in doubt
  abbrev is_taken : Lock → Bool
  is_taken l = if is_held_by b l then is_changed_in cs l.table l.key else is_of_branch lives ds l

  new_taken : (c : Change) → is_changed_in cs c.table c.key ≡ true → is_taken (new_lock b c.table c.key true) ≡ true
  new_taken c is = ap (λ q. if q then is_changed_in cs c.table c.key else is_of_branch lives ds (new_lock b c.table c.key true)) (same_from_equal b b refl) ∙ is

  in_doubt_so : (l : Lock) → is_taken l ≡ true → IsOf lives ds (doubted b l)
  in_doubt_so l is = by (is_held_by b l) l.in_doubt refl refl is
    where
      by : (own doubt : Bool) → is_held_by b l ≡ own → l.in_doubt ≡ doubt → (if own then is_changed_in cs l.table l.key else (if l.in_doubt then is_of_doubt ds l else list_any (is_item_of live_id l.branch) lives)) ≡ true
          → (if (doubt || own) then is_of_doubt ds l else list_any (is_item_of live_id l.branch) lives) ≡ true
      by true true own was is = doubts l (same_from_equal b l.branch (sym (equal_from_same l.branch b own))) is
      by true false own was is = doubts l (same_from_equal b l.branch (sym (equal_from_same l.branch b own))) is
      by false true own was is = ap (λ q. if q then is_of_doubt ds l else list_any (is_item_of live_id l.branch) lives) (sym was) ∙ is
      by false false own was is = ap (λ q. if q then is_of_doubt ds l else list_any (is_item_of live_id l.branch) lives) (sym was) ∙ is

  pub all_in_doubt : (ls : List Lock) → AllByRecursion (λ l. is_taken l ≡ true) ls → AllByRecursion (IsOf lives ds) (with_doubt ls b cs)
  all_in_doubt ls all =
      let now : AllByRecursion (λ l. is_taken l ≡ true) (fold (take_changed b) ls cs) = all_changed (λ l. is_taken l ≡ true) (λ l writes is. is) cs ls b all
      (all_weaker (λ c. is_changed_in cs c.table c.key ≡ true) (λ c. is_taken (new_lock b c.table c.key true) ≡ true) (λ c is. new_taken c is) cs (each_changed cs)) in
      all_map (IsOf lives ds) (doubted b) (fold (take_changed b) ls cs) (all_weaker (λ l. is_taken l ≡ true) (λ l. IsOf lives ds (doubted b l)) (λ l is. in_doubt_so l is) (fold (take_changed b) ls cs) now)

  -- one that is another's
  other_taken : (l : Lock) → is_held_by b l ≡ false → IsOf lives ds l → is_taken l ≡ true
  other_taken l other is = ap (λ q. if q then is_changed_in cs l.table l.key else is_of_branch lives ds l) other ∙ is

-- ---- a start

-- no branch is live then
module _ (ds : List Doubt) where
  -- in doubt before, or taken now
  abbrev is_started : BranchId → List Change → Lock → Bool
  is_started b cs l = if l.in_doubt then is_of_doubt ds l else (is_held_by b l && is_changed_in cs l.table l.key)

  started_so : (b : BranchId) (cs : List Change) → Doubts ds b cs → (l : Lock) → is_started b cs l ≡ true → IsOf [] ds (doubted b l)
  started_so b cs doubts l is = by l.in_doubt (is_held_by b l) refl is
    where
      by : (doubt own : Bool) → is_held_by b l ≡ own → (if doubt then is_of_doubt ds l else (own && is_changed_in cs l.table l.key)) ≡ true → (if (doubt || own) then is_of_doubt ds l else false) ≡ true
      by true own its is = is
      by false true its is = doubts l (same_from_equal b l.branch (sym (equal_from_same l.branch b its))) is
      by false false its is = is

  one_started : (b : BranchId) (cs : List Change) → Doubts ds b cs → (ls : List Lock) → AllByRecursion (IsOf [] ds) ls → AllByRecursion (IsOf [] ds) (with_doubt ls b cs)
  one_started b cs doubts ls all =
      let was : AllByRecursion (λ l. is_started b cs l ≡ true) ls = all_weaker (IsOf [] ds) (λ l. is_started b cs l ≡ true) (λ l is. before l is) ls all in
      let now : AllByRecursion (λ l. is_started b cs l ≡ true) (fold (take_changed b) ls cs) = all_changed (λ l. is_started b cs l ≡ true) (λ l writes is. is) cs ls b was
      (all_weaker (λ c. is_changed_in cs c.table c.key ≡ true) (λ c. is_started b cs (new_lock b c.table c.key true) ≡ true) (λ c is. ap (λ q. q && is_changed_in cs c.table c.key) (same_from_equal b b refl) ∙ is) cs (each_changed cs)) in
      all_map (IsOf [] ds) (doubted b) (fold (take_changed b) ls cs) (all_weaker (λ l. is_started b cs l ≡ true) (λ l. IsOf [] ds (doubted b l)) (started_so b cs doubts) (fold (take_changed b) ls cs) now)
    where
      before : (l : Lock) → IsOf [] ds l → is_started b cs l ≡ true
      before l is = by l.in_doubt is
        where
          by : (q : Bool) → (if q then is_of_doubt ds l else false) ≡ true → (if q then is_of_doubt ds l else (is_held_by b l && is_changed_in cs l.table l.key)) ≡ true
          by true is = is
          by false is = absurd (true≢false (sym is))

  all_started : (xs : List Doubt) (ls : List Lock) → AllByRecursion (λ d. Doubts ds d.branch d.changes) xs → AllByRecursion (IsOf [] ds) ls → AllByRecursion (IsOf [] ds) (fold with_doubt_of ls xs)
  all_started [] ls doubts all = all
  all_started (d ∷ xs) ls doubts all = all_started xs (with_doubt_of ls d) doubts.1 (one_started d.branch d.changes doubts.0 ls all)

-- each of these branches has the locks of its changes
each_doubts : (ds : List Doubt) → AllByRecursion (λ d. Doubts ds d.branch d.changes) ds
each_doubts [] = tt
each_doubts (d ∷ ds) = (
  λ l own changed. or_left (same d.branch l.branch && is_changed_in d.changes l.table l.key) (is_of_doubt ds l) (ap (λ q. q && is_changed_in d.changes l.table l.key) own ∙ changed),
  all_weaker (λ e. Doubts ds e.branch e.changes) (λ e. Doubts (d ∷ ds) e.branch e.changes)
      (λ e so l own changed. or_right (same d.branch l.branch && is_changed_in d.changes l.table l.key) (is_of_doubt ds l) (so l own changed)) ds (each_doubts ds),
)

-- ---- what a node keeps

abbrev HeldAt : NodeState → Type 0
HeldAt k = AllByRecursion (IsOf k.lives k.stored.doubts) k.locks

-- more are live
wider : (lives more : List Live) (ds : List Doubt) (ls : List Lock) → ((c : BranchId) → list_any (is_item_of live_id c) lives ≡ true → list_any (is_item_of live_id c) more ≡ true)
    → AllByRecursion (IsOf lives ds) ls → AllByRecursion (IsOf more ds) ls
wider lives more ds ls live now = all_weaker (IsOf lives ds) (IsOf more ds) (λ l is. of_so lives more ds ds l (live l.branch) (λ q. q) is) ls now

-- without those of one branch
apart : (lives fewer : List Live) (ds less : List Doubt) (ls : List Lock) (b : BranchId) → ((c : BranchId) → same c b ≡ false → list_any (is_item_of live_id c) lives ≡ true → list_any (is_item_of live_id c) fewer ≡ true)
    → ((l : Lock) → same l.branch b ≡ false → is_of_doubt ds l ≡ true → is_of_doubt less l ≡ true) → AllByRecursion (IsOf lives ds) ls → AllByRecursion (IsOf fewer less) (without ls b)
apart lives fewer ds less ls b live doubt now = all_filter (IsOf lives ds) (IsOf fewer less) (λ l. not (is_held_by b l)) (λ l passes is. so l (same l.branch b) refl passes is) ls now
  where
    so : (l : Lock) (own : Bool) → same l.branch b ≡ own → not (same l.branch b) ≡ true → IsOf lives ds l → IsOf fewer less l
    so l true its passes is = (let no : not true ≡ true = ap not (sym its) ∙ passes in absurd (true≢false (sym no)))
    so l false its passes is = of_so lives fewer ds less l (live l.branch its) (doubt l its) is

module _ (k : NodeState) where
  -- one more live branch
  begun : (x : Live) → HeldAt k → AllByRecursion (IsOf (k.lives ++ x ∷ []) k.stored.doubts) k.locks
  begun x = wider k.lives (k.lives ++ x ∷ []) k.stored.doubts k.locks (λ c is. any_more live_id k.lives c x is)

  -- a live branch that has changed
  changed : (l : Live) → IsLive k l.me → HeldAt k → AllByRecursion (IsOf (put_item live_id k.lives l) k.stored.doubts) k.locks
  changed l live = wider k.lives (put_item live_id k.lives l) k.stored.doubts k.locks (λ c is. any_put live_id c k.lives l live.0 live.1 ∙ is)

  -- one that is live no more has no locks
  dropped : (b : BranchId) → HeldAt k → AllByRecursion (IsOf (drop_item live_id k.lives b) k.stored.doubts) (without k.locks b)
  dropped b = apart k.lives (drop_item live_id k.lives b) k.stored.doubts k.stored.doubts k.locks b (λ c other is. any_dropped live_id k.lives c b other ∙ is) (λ l other is. is)

  -- nor has one that is in doubt no more
  settled : (b : BranchId) → HeldAt k → AllByRecursion (IsOf k.lives (drop_item doubt_id k.stored.doubts b)) (without k.locks b)
  settled b = apart k.lives k.lives k.stored.doubts (drop_item doubt_id k.stored.doubts b) k.locks b (λ c other is. is)
      (λ l other is. any_left doubt_id (λ d. same d.branch l.branch && is_changed_in d.changes l.table l.key) (λ d. not (same d.branch b)) (λ d here. stays l other d here) k.stored.doubts is)
    where
      stays : (l : Lock) → same l.branch b ≡ false → (d : Doubt) → (same d.branch l.branch && is_changed_in d.changes l.table l.key) ≡ true → not (same d.branch b) ≡ true
      stays l other d here = by (same d.branch l.branch) refl here
        where
          by : (q : Bool) → same d.branch l.branch ≡ q → (q && is_changed_in d.changes l.table l.key) ≡ true → not (same d.branch b) ≡ true
          by true one here = ap (λ c. not (same c b)) (equal_from_same d.branch l.branch one) ∙ ap not other
          by false one here = absurd (true≢false (sym here))

  -- a sealed branch holds the keys of its changes
  sealed : (r : Sealed) → HeldAt k → HeldAt (with_record (without_branch k r.me) (records.Sealed r))
  unfolding applied
  sealed r now =
      let d : Doubt = doubt_over k.stored.rows r in
      let more : List Doubt = put_by_branch doubt_id k.stored.doubts d in
      let fewer : List Live = drop_item live_id k.lives r.me in
      let its : Doubts more r.me r.changes = (λ l own changes. any_placed doubt_id (λ e. same e.branch l.branch && is_changed_in e.changes l.table l.key) k.stored.doubts d (ap (λ q. q && is_changed_in r.changes l.table l.key) own ∙ changes)) in
      let others : AllByRecursion (IsOf fewer more) (without k.locks r.me) = all_weaker (IsOf fewer k.stored.doubts) (IsOf fewer more)
      (λ l is. of_so fewer fewer k.stored.doubts more l (λ q. q) (λ here. any_beside doubt_id (λ e. same e.branch l.branch && is_changed_in e.changes l.table l.key) k.stored.doubts d here) is) (without k.locks r.me) (dropped r.me now) in
      all_in_doubt fewer more r.me r.changes its (without (without k.locks r.me) r.me)
      (all_filter (IsOf fewer more) (λ l. is_taken fewer more r.me r.changes its l ≡ true) (λ l. not (is_held_by r.me l)) (λ l passes is. other_taken fewer more r.me r.changes its l (off l passes) is) (without k.locks r.me) others)
    where
      off : (l : Lock) → not (is_held_by r.me l) ≡ true → is_held_by r.me l ≡ false
      off l passes = by (is_held_by r.me l) passes
        where
          by : (q : Bool) → not q ≡ true → q ≡ false
          by true passes = absurd (true≢false (sym passes))
          by false passes = refl

-- a branch goes back, whichever child it calls first
went_back : (k : NodeState) (x : Branch) (step : ℕ) → IsLive k x.live.me → HeldAt k → (next : Option ℕ) → HeldAt (backs_to (node_back k x step) (branch_back k x step) step next).after
went_back k x step live now next = by next
  where
    kept : AllByRecursion (IsOf (put_item live_id k.lives (branch_back k x step).live) k.stored.doubts) (node_back k x step).locks
    kept = changed (node_back k x step) _ live
        (all_back (IsOf k.lives k.stored.doubts) (writing_so k.lives k.stored.doubts) x.live.me (stays_held k x step) (marks.is_changed_in (changes_left k x step)) k.locks now)

    by : (next : Option ℕ) → HeldAt (backs_to (node_back k x step) (branch_back k x step) step next).after
    by None = kept
    by (Some i) = kept

-- ---- steps

module _ (p : Place) (input : Input) where
  -- each step leaves them so
  held_on : {k : NodeState} {d : TurnDraft} → Step p input k d → HeldAt k → HeldAt d.after
  unfolding applied
  held_on (steps.Begins {k = k} n s read_at call begins fit none step) now = held_on step (begun k _ now)
  held_on (steps.Counts_call n s call counts step) now = held_on step now
  held_on (steps.Goes_back {k = k} x to goes next) now = went_back k x to (x.live, gone_back_live goes) now (next_back (branch_back k x to).work to 1)
  held_on (steps.Pends n l given call has live code writer step) now = held_on step now
  held_on (steps.Lets_reads_go {k = k} l comment site_below live begins step) now = held_on step (all_filter _ _ _ (λ m passes held. held) k.locks now)
  held_on (steps.Counts_ack s from kept came counts step) now = held_on step now
  held_on (steps.Runs {k = k} x s given t asked way) now =
      let ls : List Lock = locks_after k.locks x.live.me t (ran p k x.live.me s t) in
      changed (record k { locks = ls }) _ (asked_live asked)
      (all_run (IsOf k.lives k.stored.doubts) (writing_so k.lives k.stored.doubts) k.locks x.live.me t (ran p k x.live.me s t) now
      (λ key writes. any_found (is_item_of live_id x.live.me) k.lives (asked_live asked).0 (asked_live asked).1))
  held_on (steps.Goes_nowhere {k = k} x s given r asked way) now = changed k _ (asked_live asked) now
  held_on (steps.Calls {k = k} x s given i table asked way) now = changed k _ (asked_live asked) now
  held_on (steps.Opens {k = k} x s given node link table asked way) now = changed k _ (asked_live asked) now
  held_on (steps.Goes_on {k = k} x from strength g link opened) now = changed k _ (x.live, live_so k x.live.me x opened.live) now
  held_on (steps.Hears_reply {k = k} x weight count a i e answered) now = changed k _ (x.live, live_so k x.live.me x answered.live) now
  held_on (steps.Backs {k = k} x to from i calls next) now = changed k _ (calling_back_live calls) now
  held_on (steps.Is_back {k = k} x to from calls none) now = changed k _ (calling_back_live calls) now
  held_on (steps.Opens_branch {k = k} to parent edge root depth read_at came new) now = begun k _ now
  held_on (steps.Acts {k = k} l site_below acts.Rest why) now = changed k l (acting_live why) now
  held_on (steps.Acts {k = k} l site_below acts.AskDown why) now = changed k l (acting_live why) now
  held_on (steps.Acts {k = k} l site_below acts.SayReady why) now = changed k (ready l) (acting_live why) now
  held_on (steps.Acts {k = k} l site_below acts.Seal why) now = sealed k (sealed_of k.clock l (own_changes k l.me) None) now
  held_on (steps.Acts {k = k} l site_below (acts.SealAndPass i) why) now = sealed k (sealed_of k.clock l (own_changes k l.me) (Some i)) now
  held_on (steps.Acts {k = k} l site_below _ why) now = dropped k l.me now
  held_on (steps.Drops_told {k = k} l live drops) now = dropped k l.me now
  held_on (steps.Drops_asked {k = k} l from live came parent) now = dropped k l.me now
  held_on (steps.Does {k = k} s from (nexts.End d) kept why) now = settled k s.me now
  held_on (steps.Makes_record {k = k} n s r d call makes) now = made_so (λ x. HeldAt (with_record k x)) (λ t. now) (λ l. now) (λ y. now) (λ on. now) makes
  held_on (steps.Forces_given {k = k} n id m b call is) now = settled k b now
  held_on (steps.Forces_commit {k = k} n id b call is) now = settled k b now
  held_on (steps.Forces_rollback {k = k} n id b call is) now = settled k b now
  held_on (steps.Leaves {k = k} n s d x call ends has live) now = dropped k x.live.me now
  held_on (steps.Sets_savepoint {k = k} n x name call has code live) now = changed k _ (x.live, live_so k x.live.me x live) now
  held_on (steps.Gives_up {k = k} n x gives has pending live) now = changed k _ (x.live, live_so k x.live.me x live) now
  held_on (steps.Gives_up_commit {k = k} n b (Some l) gives has pending live) now = dropped k l.me now
  held_on _ now = now

held : KeepsAlone HeldAt
held = record {
  starts = λ s vs. all_started s.doubts s.doubts [] (each_doubts s.doubts) tt;
  hears = λ k scn now. now;
  steps = λ p input k d step now. held_on p input step now;
}

pub locks_are_of_branches : LocksAreOfBranches
locks_are_of_branches = kept_alone HeldAt held
