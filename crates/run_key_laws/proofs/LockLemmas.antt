-- Each lock of a node is held by a branch that is live there, or in doubt.
use Rattle.std.proofs.Common.{◌≡◌, ℕ, ◌||◌, not, Bool, true, false, if◌then◌else◌, List, [], ◌∷◌, ◌++◌, fold, Some, None, refl, sym, ap, subst, ◌∙◌, true≢false, Option}
use Rattle.std.specs.List.{AllByRecursion, list_any}
use Rattle.std.proofs.lemmas.Bool.{or_right}
use Rattle.row_locks.specs.Locks.{Lock, is_held_by, is_lock_on, taken, doubted, without}
use Rattle.stmt_run.specs.Run.{locks_after, take_keys}
use Rattle.node_rules.specs.Data.{Value, Change, Table, BranchId, Sealed, Place, Input, Doubt, Live}
use Rattle.node_rules.specs.Data.records
use Rattle.node_rules.specs.Data.acts
use Rattle.commit_forget.specs.declared.next.Next.TheVariants as nexts
use Rattle.node_rules.specs.Words.{same, is_item_of, put_item, drop_item}
use Rattle.node_rules.specs.NodeState.{NodeState, TurnDraft, live_id, doubt_id, without_branch, Branch}
use Rattle.node_rules.specs.Records.{applied, with_record, with_doubt, take_changed, doubt_over}
use Rattle.node_rules.specs.Prepare.{sealed_of, own_changes, ready}
use Rattle.node_rules.specs.Statement.{StmtOutcome, Refuses, Reads, Writes, ran}
use Rattle.node_rules.specs.Turn.{with_doubt_of}
use Rattle.node_rules.proofs.Steps as steps
use Rattle.node_rules.proofs.Steps.{Step}
use Rattle.node_rules.proofs.StandLemmas.{live_so}
use Rattle.run_base_laws.specs.NodeLaws.{HoldersAreThere}
use Rattle.run_rules.proofs.ListLemmas.{all_weaker, all_filter, all_map, all_there, any_found, any_more, any_dropped, any_put}
use Rattle.node_rules.proofs.StepLemmas.{IsLive, asked_live, acting_live, made_so, gone_back_live, calling_back_live}
use Rattle.node_rules.specs.Calls.{backs_to}
use Rattle.node_rules.specs.Marks.{is_changed_in, changes_left, stays_held, node_back, branch_back, next_back}
use Rattle.run_base_laws.proofs.NodeLemmas.{KeepsAlone, kept_alone}
use Rattle.tran_ids.specs.Branch.{branch_below, put_by_branch}
use Rattle.tran_ids.proofs.BranchLemmas.{same_from_equal}
use Rattle.node_undo_laws.proofs.BackLemmas.{all_back}

-- ---- locks, each of a branch that is so

module _ (P : BranchId → Type 0) where
  abbrev pub AllOf : List Lock → Type 0
  AllOf ls = AllByRecursion (λ l. P l.branch) ls

  -- a lock that is taken again stays the branch's
  taken_if : (here : Bool) (l m : Lock) (ls ms : List Lock) → m.branch ≡ l.branch → P l.branch → AllOf ls → AllOf ms → AllOf (if here then m ∷ ls else l ∷ ms)
  taken_if true l m ls ms same first rest more = (subst P (sym same) first, rest)
  taken_if false l m ls ms same first rest more = (first, more)

  all_taken : (ls : List Lock) (b : BranchId) (table : List ℕ) (key : Value) (writes : Bool) → AllOf ls → P b → AllOf (taken ls b table key writes)
  all_taken [] b table key writes all own = (own, tt)
  all_taken (l ∷ ls) b table key writes all own =
      taken_if (is_lock_on table key l) l (record l { writes = l.writes || writes }) ls (taken ls b table key writes) refl all.0 all.1 (all_taken ls b table key writes all.1 own)

  -- with the keys of a statement
  all_keys : (keys : List Value) (ls : List Lock) (b : BranchId) (table : List ℕ) (writes : Bool) → AllOf ls → P b → AllOf (take_keys ls b table writes keys)
  all_keys [] ls b table writes all own = all
  all_keys (key ∷ keys) ls b table writes all own = all_keys keys (taken ls b table key writes) b table writes (all_taken ls b table key writes all own) own

  all_run : (ls : List Lock) (b : BranchId) (t : Table) (r : StmtOutcome) → AllOf ls → P b → AllOf (locks_after ls b t r)
  all_run ls b t (Refuses r) all own = all
  all_run ls b t (Reads rows keys) all own = all_keys keys ls b t.name false all own
  all_run ls b t (Writes d cs keys undo) all own = all_keys keys ls b t.name true all own

  -- with the keys of a branch in doubt
  all_changed : (cs : List Change) (ls : List Lock) (b : BranchId) → AllOf ls → P b → AllOf (fold (take_changed b) ls cs)
  all_changed [] ls b all own = all
  all_changed (c ∷ cs) ls b all own = all_changed cs (take_changed b ls c) b (all_taken ls b c.table c.key true all own) own

  all_in_doubt : (ls : List Lock) (b : BranchId) (cs : List Change) → AllOf ls → P b → AllOf (with_doubt ls b cs)
  all_in_doubt ls b cs all own = all_map (λ l. P l.branch) (doubted b) (fold (take_changed b) ls cs) (all_changed cs ls b all own)

  -- of all branches in doubt, at a start
  all_doubts : (ds : List Doubt) (ls : List Lock) → AllOf ls → AllByRecursion (λ d. P d.branch) ds → AllOf (fold with_doubt_of ls ds)
  all_doubts [] ls all owns = all
  all_doubts (d ∷ ds) ls all owns = all_doubts ds (with_doubt_of ls d) (all_in_doubt ls d.branch d.changes all owns.0) owns.1

-- ---- who may hold one

-- whether a branch is among the live ones
abbrev pub is_live : List Live → BranchId → Bool
is_live lives c = list_any (is_item_of live_id c) lives

-- whether it is among those in doubt
abbrev pub is_doubted : List Doubt → BranchId → Bool
is_doubted doubts c = list_any (is_item_of doubt_id c) doubts

-- it may hold a lock
abbrev pub May : List Live → List Doubt → BranchId → Type 0
May lives doubts c = (is_live lives c || is_doubted doubts c) ≡ true

-- all holders are there
abbrev pub Held : List Live → List Doubt → List Lock → Type 0
Held lives doubts ls = AllOf (May lives doubts) ls

or_so : (a b c d : Bool) → (a ≡ true → c ≡ true) → (b ≡ true → d ≡ true) → (a || b) ≡ true → (c || d) ≡ true
or_so true b c d f g is = ap (λ x. x || d) (f refl)
or_so false b c d f g is = or_right c d (g is)

-- an item at the place of its branch is there, and so are the others
module _ {A : Type 0} (id : A → BranchId) (c : BranchId) where
  any_beside : (xs : List A) (x : A) → list_any (is_item_of id c) xs ≡ true → list_any (is_item_of id c) (put_by_branch id xs x) ≡ true
  any_beside [] x there = absurd (true≢false (sym there))
  any_beside (y ∷ ys) x there = by (branch_below (id x) (id y)) there (any_beside ys x)
    where
      behind : (here : Bool) → (here || list_any (is_item_of id c) ys) ≡ true → (list_any (is_item_of id c) ys ≡ true → list_any (is_item_of id c) (put_by_branch id ys x) ≡ true)
          → (here || list_any (is_item_of id c) (put_by_branch id ys x)) ≡ true
      behind true there later = refl
      behind false there later = later there

      by : (above : Bool) → list_any (is_item_of id c) (y ∷ ys) ≡ true → (list_any (is_item_of id c) ys ≡ true → list_any (is_item_of id c) (put_by_branch id ys x) ≡ true)
          → list_any (is_item_of id c) (if above then x ∷ y ∷ ys else y ∷ put_by_branch id ys x) ≡ true
      by true there later = or_right (is_item_of id c x) (list_any (is_item_of id c) (y ∷ ys)) there
      by false there later = behind (is_item_of id c y) there later

  any_placed : (xs : List A) (x : A) → is_item_of id c x ≡ true → list_any (is_item_of id c) (put_by_branch id xs x) ≡ true
  any_placed [] x is = ap (λ here. here || false) is
  any_placed (y ∷ ys) x is = by (branch_below (id x) (id y)) (any_placed ys x is)
    where
      by : (above : Bool) → list_any (is_item_of id c) (put_by_branch id ys x) ≡ true → list_any (is_item_of id c) (if above then x ∷ y ∷ ys else y ∷ put_by_branch id ys x) ≡ true
      by true rest = ap (λ here. here || list_any (is_item_of id c) (y ∷ ys)) is
      by false rest = or_right (is_item_of id c y) (list_any (is_item_of id c) (put_by_branch id ys x)) rest

-- ---- what a node keeps

-- more may hold these locks
wider : (lives more : List Live) (doubts further : List Doubt) (ls : List Lock) → ((c : BranchId) → is_live lives c ≡ true → is_live more c ≡ true)
    → ((c : BranchId) → is_doubted doubts c ≡ true → is_doubted further c ≡ true) → Held lives doubts ls → Held more further ls
wider lives more doubts further ls live doubt now = all_weaker _ _ (λ l held. or_so _ _ (is_live more l.branch) (is_doubted further l.branch) (live l.branch) (doubt l.branch) held) ls now

-- without those of one branch, all others may
apart : (lives fewer : List Live) (doubts less : List Doubt) (ls : List Lock) (b : BranchId) → ((c : BranchId) → same c b ≡ false → is_live lives c ≡ true → is_live fewer c ≡ true)
    → ((c : BranchId) → same c b ≡ false → is_doubted doubts c ≡ true → is_doubted less c ≡ true) → Held lives doubts ls → Held fewer less (without ls b)
apart lives fewer doubts less ls b live doubt now =
    all_filter (λ l. May lives doubts l.branch) (λ l. May fewer less l.branch) (λ l. not (is_held_by b l)) (λ l passes held. so l (same l.branch b) refl passes held) ls now
  where
    so : (l : Lock) (own : Bool) → same l.branch b ≡ own → not (same l.branch b) ≡ true → May lives doubts l.branch → May fewer less l.branch
    so l true is passes held = let no : not true ≡ true = ap not (sym is) ∙ passes in absurd (true≢false (sym no))
    so l false is passes held = or_so _ _ (is_live fewer l.branch) (is_doubted less l.branch) (live l.branch is) (doubt l.branch is) held

-- the holders at a node are there
abbrev pub HeldAt : NodeState → Type 0
HeldAt k = Held k.lives k.stored.doubts k.locks

module _ (k : NodeState) where
  -- one more live branch
  begun : (x : Live) → HeldAt k → Held (k.lives ++ x ∷ []) k.stored.doubts k.locks
  begun x = wider k.lives (k.lives ++ x ∷ []) k.stored.doubts k.stored.doubts k.locks (λ c is. any_more live_id k.lives c x is) (λ c is. is)

  -- a live branch that has changed
  changed : (l : Live) → IsLive k l.me → HeldAt k → Held (put_item live_id k.lives l) k.stored.doubts k.locks
  changed l live = wider k.lives (put_item live_id k.lives l) k.stored.doubts k.stored.doubts k.locks (λ c is. any_put live_id c k.lives l live.0 live.1 ∙ is) (λ c is. is)

  -- one that is live no more has no locks
  dropped : (b : BranchId) → HeldAt k → Held (drop_item live_id k.lives b) k.stored.doubts (without k.locks b)
  dropped b = apart k.lives (drop_item live_id k.lives b) k.stored.doubts k.stored.doubts k.locks b (λ c other is. any_dropped live_id k.lives c b other ∙ is) (λ c other is. is)

  -- nor has one that is in doubt no more
  settled : (b : BranchId) → HeldAt k → Held k.lives (drop_item doubt_id k.stored.doubts b) (without k.locks b)
  settled b = apart k.lives k.lives k.stored.doubts (drop_item doubt_id k.stored.doubts b) k.locks b (λ c other is. is) (λ c other is. any_dropped doubt_id k.stored.doubts c b other ∙ is)

  -- a sealed branch holds the keys of its changes
  sealed : (r : Sealed) → HeldAt k → HeldAt (with_record (without_branch k r.me) (records.Sealed r))
  unfolding applied
  sealed r now =
      let more : List Doubt = put_by_branch doubt_id k.stored.doubts (doubt_over k.stored.rows r) in
      let fewer : List Live = drop_item live_id k.lives r.me in
      all_in_doubt (May fewer more) (without (without k.locks r.me) r.me) r.me r.changes
      (all_filter _ _ _ (λ l passes held. held) (without k.locks r.me)
      (wider fewer fewer k.stored.doubts more (without k.locks r.me) (λ c is. is) (λ c is. any_beside doubt_id c k.stored.doubts (doubt_over k.stored.rows r) is) (dropped r.me now)))
      (or_right (is_live fewer r.me) (is_doubted more r.me) (any_placed doubt_id r.me k.stored.doubts (doubt_over k.stored.rows r) (same_from_equal r.me r.me refl)))

  -- a live branch may hold locks
  live_may : (b : BranchId) → IsLive k b → May k.lives k.stored.doubts b
  live_may b live = ap (λ there. there || is_doubted k.stored.doubts b) (any_found (is_item_of live_id b) k.lives live.0 live.1)

-- a branch goes back, whichever child it calls first
went_back : (k : NodeState) (x : Branch) (step : ℕ) → IsLive k x.live.me → HeldAt k → (next : Option ℕ) → HeldAt (backs_to (node_back k x step) (branch_back k x step) step next).after
went_back k x step live now next = by next
  where
    kept : Held (put_item live_id k.lives (branch_back k x step).live) k.stored.doubts (node_back k x step).locks
    kept = changed (node_back k x step) _ live
        (all_back x.live.me (stays_held k x step) (is_changed_in (changes_left k x step)) (λ l. May k.lives k.stored.doubts l.branch) (λ l held. held) k.locks now)

    by : (next : Option ℕ) → HeldAt (backs_to (node_back k x step) (branch_back k x step) step next).after
    by None = kept
    by (Some i) = kept

-- ---- steps

module _ (p : Place) (input : Input) where
  -- each step leaves them there
  held_on : {k : NodeState} {d : TurnDraft} → Step p input k d → HeldAt k → HeldAt d.after
  unfolding applied
  held_on (steps.Begins {k = k} n s read_at call begins fit none step) now = held_on step (begun k _ now)
  held_on (steps.Counts_call n s call counts step) now = held_on step now
  held_on (steps.Goes_back {k = k} x to goes next) now = went_back k x to (x.live, gone_back_live goes) now (next_back (branch_back k x to).work to 1)
  held_on (steps.Pends n l given call has live code writer step) now = held_on step now
  held_on (steps.Lets_reads_go {k = k} l comment site_below live begins step) now = held_on step (all_filter _ _ _ (λ m passes held. held) k.locks now)
  held_on (steps.Counts_ack s from kept came counts step) now = held_on step now
  held_on (steps.Runs {k = k} x s given t asked way) now =
      let ls : List Lock = locks_after k.locks x.live.me t (ran p k x.live.me s t) in
      changed (record k { locks = ls }) _ (asked_live asked) (all_run (May k.lives k.stored.doubts) k.locks x.live.me t (ran p k x.live.me s t) now (live_may k x.live.me (asked_live asked)))
  held_on (steps.Goes_nowhere {k = k} x s given r asked way) now = changed k _ (asked_live asked) now
  held_on (steps.Calls {k = k} x s given i table asked way) now = changed k _ (asked_live asked) now
  held_on (steps.Opens {k = k} x s given node link table asked way) now = changed k _ (asked_live asked) now
  held_on (steps.Goes_on {k = k} x from strength g link opened) now = changed k _ (x.live, live_so k x.live.me x opened.live) now
  held_on (steps.Hears_reply {k = k} x weight count a i e answered) now = changed k _ (x.live, live_so k x.live.me x answered.live) now
  held_on (steps.Backs {k = k} x to from i calls next) now = changed k _ (calling_back_live calls) now
  held_on (steps.Is_back {k = k} x to from calls none) now = changed k _ (calling_back_live calls) now
  held_on (steps.Opens_branch {k = k} to parent edge root depth read_at came new) now = begun k _ now
  held_on (steps.Acts {k = k} l site_below acts.Rest why) now = changed k l (acting_live why) now
  held_on (steps.Acts {k = k} l site_below acts.AskDown why) now = changed k l (acting_live why) now
  held_on (steps.Acts {k = k} l site_below acts.SayReady why) now = changed k (ready l) (acting_live why) now
  held_on (steps.Acts {k = k} l site_below acts.Seal why) now = sealed k (sealed_of k.clock l (own_changes k l.me) None) now
  held_on (steps.Acts {k = k} l site_below (acts.SealAndPass i) why) now = sealed k (sealed_of k.clock l (own_changes k l.me) (Some i)) now
  held_on (steps.Acts {k = k} l site_below _ why) now = dropped k l.me now
  held_on (steps.Drops_told {k = k} l live drops) now = dropped k l.me now
  held_on (steps.Drops_asked {k = k} l from live came parent) now = dropped k l.me now
  held_on (steps.Does {k = k} s from (nexts.End d) kept why) now = settled k s.me now
  held_on (steps.Makes_record {k = k} n s r d call makes) now = made_so (λ x. HeldAt (with_record k x)) (λ t. now) (λ l. now) (λ y. now) (λ on. now) makes
  held_on (steps.Forces_given {k = k} n id m b call is) now = settled k b now
  held_on (steps.Forces_commit {k = k} n id b call is) now = settled k b now
  held_on (steps.Forces_rollback {k = k} n id b call is) now = settled k b now
  held_on (steps.Leaves {k = k} n s d x call ends has live) now = dropped k x.live.me now
  held_on (steps.Sets_savepoint {k = k} n x name call has code live) now = changed k _ (x.live, live_so k x.live.me x live) now
  held_on (steps.Gives_up {k = k} n x gives has pending live) now = changed k _ (x.live, live_so k x.live.me x live) now
  held_on (steps.Gives_up_commit {k = k} n b (Some l) gives has pending live) now = dropped k l.me now
  held_on _ now = now

pub held : KeepsAlone HeldAt
held = record {
  starts = λ s vs. all_doubts (May [] s.doubts) s.doubts [] tt (all_there doubt_id s.doubts);
  hears = λ k scn now. now;
  steps = λ p input k d step now. held_on p input step now;
}

pub holders_are_there : HoldersAreThere
holders_are_there = kept_alone HeldAt held
