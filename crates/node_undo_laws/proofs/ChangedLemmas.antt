-- Changes that are not committed are kept of live branches alone, and a live branch is marked as changed where it has some.
use Rattle.std.proofs.Common.{◌≡◌, ℕ, ◌||◌, Bool, true, false, if◌then◌else◌, List, [], ◌∷◌, ◌++◌, Option, Some, None, inl, inr, refl, sym, ap, subst, ◌∙◌, arith}
use Rattle.std.specs.Prelude.{◌⊎◌}
use Rattle.std.proofs.lemmas.Bool.Decides.{nat_tests}
use Rattle.std.proofs.lemmas.Grind.{flat_map-append}
use Rattle.std.proofs.lemmas.List.Folds.{find-append}
use Rattle.std.specs.Option.{option_or}
use Rattle.tran_ids.proofs.ListedLemmas.{item_is, put_found, put_leaves, put_or_before, drop_gone, drop_leaves}
use Rattle.tran_ids.proofs.BranchLemmas.{equal_from_same}
use Rattle.tran_ids.specs.Branch.{branch_below, put_by_branch}
use Rattle.node_rules.specs.Data.{Change, ChangeSet, BranchId, Stmt, Keyed, Place, Input, Live, Owned}
use Rattle.node_rules.specs.Data.acts
use Rattle.commit_forget.specs.declared.next.Next.TheVariants as nexts
use Rattle.node_rules.specs.Words.{same, item_at, put_item, drop_item}
use Rattle.node_rules.specs.Rows.{changes_of, set_over}
use Rattle.node_rules.specs.NodeState.{NodeState, TurnDraft, Branch, live_id, own_id, sets_of, sets_at, live_at}
use Rattle.session_tree.specs.Live.{new_edge}
use Rattle.node_rules.specs.Calls.{with_edge, hears_reply, backs_to}
use Rattle.node_rules.specs.Prepare.{ready}
use Rattle.node_rules.specs.Statement.{StmtOutcome, Refuses, Reads, Writes, ran, after_run, owns_after, view}
use Rattle.node_rules.proofs.Steps as steps
use Rattle.node_rules.proofs.Steps.{Step, Asked, By_call, By_exec, Acting, Calls_back, Has_gone, Has_heard}
use Rattle.node_rules.proofs.StandLemmas.{live_so}
use Rattle.node_undo_laws.specs.Changed.{changes_at, has_changes, IsMarked, ChangesAreOfLives}
use Rattle.node_undo_laws.proofs.BackSetLemmas.{back_leaves}
use Rattle.node_rules.proofs.StepLemmas.{acting_so}
use Rattle.node_rules.specs.Marks.{sets_behind, node_back, branch_back, next_back}
use Rattle.row_store.specs.Store.{without_sets}

-- ---- changes of a branch

-- there is a change among two lists where there is one in one of them
pub some_of : (cs ds : List Change) → has_changes (cs ++ ds) ≡ (has_changes cs || has_changes ds)
some_of [] ds = grind (arith, nat_tests)
some_of (c ∷ cs) ds = grind (arith, nat_tests)

or_false : (a : Bool) → (a || false) ≡ a
or_false true = refl
or_false false = refl

-- the changes of a branch with one more set
pub one_more_set : (sets : List ChangeSet) (rows : List Keyed) (cs : List Change) → changes_of (sets ++ set_over rows cs ∷ []) ≡ changes_of sets ++ (cs ++ [])
one_more_set sets rows cs = flat_map-append (λ (s : ChangeSet). s.changes) sets (set_over rows cs ∷ [])

pub append_none : (cs : List Change) → cs ++ [] ≡ cs
append_none [] = refl
append_none (c ∷ cs) = ap (λ ds. c ∷ ds) (append_none cs)

-- ---- one more item

-- what is found with one more item behind the others was there, or is that one
pub found_last : {A : Type 0} (id : A → BranchId) (xs : List A) (y : A) (b : BranchId) (x : A) → item_at id (xs ++ y ∷ []) b ≡ Some x → (item_at id xs b ≡ Some x) ⊎ ((item_at id xs b ≡ None) × (y ≡ x))
found_last {A = A} id xs y b x found = by (item_at id xs b) (same (id y) b) refl (sym (find-append (λ z. same (id z) b) xs (y ∷ [])) ∙ found)
  where
    by : (o : Option A) (here : Bool) → item_at id xs b ≡ o → option_or o (if here then Some y else None) ≡ Some x → (item_at id xs b ≡ Some x) ⊎ ((item_at id xs b ≡ None) × (y ≡ x))
    by (Some z) here is found = inl (is ∙ found)
    by None true is found = inr (is, (let it : Some y ≡ Some x = found in cc))
    by None false is found = absurd cc

-- and none was there where none is found
pub none_last : {A : Type 0} (id : A → BranchId) (xs : List A) (y : A) (b : BranchId) → item_at id (xs ++ y ∷ []) b ≡ None → item_at id xs b ≡ None
none_last {A = A} id xs y b none = by (item_at id xs b) refl (sym (find-append (λ z. same (id z) b) xs (y ∷ [])) ∙ none)
  where
    by : (o : Option A) → item_at id xs b ≡ o → option_or o (item_at id (y ∷ []) b) ≡ None → item_at id xs b ≡ None
    by None is none = is
    by (Some z) is none = absurd cc

-- ---- one more item at the place of its branch

module _ {A : Type 0} (id : A → BranchId) where
  -- what is found was there, or is the new one
  pub found_placed : (xs : List A) (y : A) (b : BranchId) (x : A) → item_at id (put_by_branch id xs y) b ≡ Some x → (item_at id xs b ≡ Some x) ⊎ (y ≡ x)
  found_placed [] y b x found = by (same (id y) b) found
    where
      by : (here : Bool) → (if here then Some y else None) ≡ Some x → (item_at id [] b ≡ Some x) ⊎ (y ≡ x)
      by true found = inr (let it : Some y ≡ Some x = found in cc)
      by false found = absurd cc
  found_placed (z ∷ xs) y b x found = by (branch_below (id y) (id z)) found (found_placed xs y b x)
    where
      first : (here : Bool) → (if here then Some y else item_at id (z ∷ xs) b) ≡ Some x → (item_at id (z ∷ xs) b ≡ Some x) ⊎ (y ≡ x)
      first true found = inr (let it : Some y ≡ Some x = found in cc)
      first false found = inl found

      behind : (here : Bool) → (if here then Some z else item_at id (put_by_branch id xs y) b) ≡ Some x → (item_at id (put_by_branch id xs y) b ≡ Some x → (item_at id xs b ≡ Some x) ⊎ (y ≡ x))
          → ((if here then Some z else item_at id xs b) ≡ Some x) ⊎ (y ≡ x)
      behind true found later = inl found
      behind false found later = later found

      by : (above : Bool) → item_at id (if above then y ∷ z ∷ xs else z ∷ put_by_branch id xs y) b ≡ Some x → (item_at id (put_by_branch id xs y) b ≡ Some x → (item_at id xs b ≡ Some x) ⊎ (y ≡ x))
          → (item_at id (z ∷ xs) b ≡ Some x) ⊎ (y ≡ x)
      by true found later = first (same (id y) b) found
      by false found later = behind (same (id z) b) found later

  -- where none is found none was there, and the new one is of another branch
  pub none_placed : (xs : List A) (y : A) (b : BranchId) → item_at id (put_by_branch id xs y) b ≡ None → (item_at id xs b ≡ None) × (same (id y) b ≡ false)
  none_placed [] y b none = by (same (id y) b) refl none
    where
      by : (here : Bool) → same (id y) b ≡ here → (if here then Some y else None) ≡ None → (item_at id [] b ≡ None) × (same (id y) b ≡ false)
      by true is none = absurd cc
      by false is none = (refl, is)
  none_placed (z ∷ xs) y b none = by (branch_below (id y) (id z)) none (none_placed xs y b)
    where
      first : (here : Bool) → same (id y) b ≡ here → (if here then Some y else item_at id (z ∷ xs) b) ≡ None → (item_at id (z ∷ xs) b ≡ None) × (same (id y) b ≡ false)
      first true is none = absurd cc
      first false is none = (none, is)

      behind : (here : Bool) → (if here then Some z else item_at id (put_by_branch id xs y) b) ≡ None → (item_at id (put_by_branch id xs y) b ≡ None → (item_at id xs b ≡ None) × (same (id y) b ≡ false))
          → ((if here then Some z else item_at id xs b) ≡ None) × (same (id y) b ≡ false)
      behind true none later = absurd cc
      behind false none later = later none

      by : (above : Bool) → item_at id (if above then y ∷ z ∷ xs else z ∷ put_by_branch id xs y) b ≡ None → (item_at id (put_by_branch id xs y) b ≡ None → (item_at id xs b ≡ None) × (same (id y) b ≡ false))
          → (item_at id (z ∷ xs) b ≡ None) × (same (id y) b ≡ false)
      by true none later = first (same (id y) b) refl none
      by false none later = behind (same (id z) b) none later

-- ---- one branch begins, changes or leaves

module _ (ls : List Live) (os : List Owned) (now : ChangesAreOfLives ls os) where
  -- a branch that begins has no changes
  pub begun_fits : (l : Live) → l.changed ≡ false → ChangesAreOfLives (ls ++ l ∷ []) os
  begun_fits l fresh = record { live = λ b none. now.live b (none_last live_id ls l b none); marked = marked }
    where
      marked : (b : BranchId) (x : Live) → item_at live_id (ls ++ l ∷ []) b ≡ Some x → IsMarked os x
      marked b x found = elim (found_last live_id ls l b x found) [
        | inl before ↦ now.marked b x before
        | inr new ↦ (
            let me : x.me ≡ b = item_is live_id (ls ++ l ∷ []) b x found in
            let none : item_at own_id os x.me ≡ None = subst (λ m. item_at own_id os m ≡ None) (sym me) (now.live b new.0) in
            let no : x.changed ≡ false = subst (λ (y : Live). y.changed ≡ false) new.1 fresh in
            no ∙ sym (ap (λ o. has_changes (changes_of (sets_of o))) none)
            )
      ]

  -- a live branch that is changed, and marked as before
  put_fits : (l : Live) → IsMarked os l → ChangesAreOfLives (put_item live_id ls l) os
  put_fits l so = record { live = live; marked = marked }
    where
      live : (b : BranchId) → item_at live_id (put_item live_id ls l) b ≡ None → item_at own_id os b ≡ None
      live b none = elim (put_or_before live_id ls l b) [ inl before ↦ now.live b (sym before ∙ none) | inr new ↦ absurd (let found = new.1 in cc (found, none)) ]

      marked : (b : BranchId) (x : Live) → item_at live_id (put_item live_id ls l) b ≡ Some x → IsMarked os x
      marked b x found = elim (put_or_before live_id ls l b) [
        | inl before ↦ now.marked b x (sym before ∙ found)
        | inr new ↦ (let it : Some l ≡ Some x = sym new.1 ∙ found in let here : l ≡ x = cc in subst (IsMarked os) here so)
      ]

  -- one that leaves, with its changes
  drop_fits : (c : BranchId) → ChangesAreOfLives (drop_item live_id ls c) (drop_item own_id os c)
  drop_fits c = record { live = λ b none. live b (same c b) refl none; marked = λ b x found. marked b x (same c b) refl found }
    where
      live : (b : BranchId) (here : Bool) → same c b ≡ here → item_at live_id (drop_item live_id ls c) b ≡ None → item_at own_id (drop_item own_id os c) b ≡ None
      live b true is none = subst (λ m. item_at own_id (drop_item own_id os c) m ≡ None) (equal_from_same c b is) (drop_gone own_id os c)
      live b false is none = drop_leaves own_id os c b is ∙ now.live b (sym (drop_leaves live_id ls c b is) ∙ none)

      marked : (b : BranchId) (x : Live) (here : Bool) → same c b ≡ here → item_at live_id (drop_item live_id ls c) b ≡ Some x → IsMarked (drop_item own_id os c) x
      marked b x true is found =
          let gone : item_at live_id (drop_item live_id ls c) b ≡ None = subst (λ m. item_at live_id (drop_item live_id ls c) m ≡ None) (equal_from_same c b is) (drop_gone live_id ls c) in
          absurd (cc (gone, found))
      marked b x false is found =
          let was : item_at live_id ls b ≡ Some x = sym (drop_leaves live_id ls c b is) ∙ found in
          let other : same c x.me ≡ false = subst (λ m. same c m ≡ false) (sym (item_is live_id ls b x was)) is in
          subst (λ o. x.changed ≡ has_changes (changes_of (sets_of o))) (sym (drop_leaves own_id os c x.me other)) (now.marked b x was)

  -- one more set of changes of a live branch, which is marked
  module _ (l : Live) (rows : List Keyed) (cs : List Change) (so : IsMarked os l) where
    abbrev more : List Owned
    more = put_item own_id os (record { branch = l.me; sets = sets_at os l.me ++ set_over rows cs ∷ [] })

    abbrev after : Live
    after = record l { changed = l.changed || has_changes cs }

    own_now : sets_at more l.me ≡ sets_at os l.me ++ set_over rows cs ∷ []
    own_now = ap sets_of (put_found own_id os (record { branch = l.me; sets = sets_at os l.me ++ set_over rows cs ∷ [] }))

    marked_now : IsMarked more after
    marked_now =
        let all : changes_at more l.me ≡ changes_at os l.me ++ cs = ap changes_of own_now ∙ (one_more_set (sets_at os l.me) rows cs ∙ ap (λ ds. changes_at os l.me ++ ds) (append_none cs)) in
        ap (λ m. m || has_changes cs) so ∙ (sym (some_of (changes_at os l.me) cs) ∙ sym (ap has_changes all))

    write_fits : ChangesAreOfLives (put_item live_id ls after) more
    write_fits = record { live = λ b none. live b (same l.me b) refl none; marked = λ b x found. marked b x (same l.me b) refl found }
      where
        live : (b : BranchId) (here : Bool) → same l.me b ≡ here → item_at live_id (put_item live_id ls after) b ≡ None → item_at own_id more b ≡ None
        live b true is none =
            let found : item_at live_id (put_item live_id ls after) b ≡ Some after = subst (λ m. item_at live_id (put_item live_id ls after) m ≡ Some after) (equal_from_same l.me b is) (put_found live_id ls after) in
            absurd (cc (found, none))
        live b false is none = put_leaves own_id os _ b is ∙ now.live b (sym (put_leaves live_id ls after b is) ∙ none)

        marked : (b : BranchId) (x : Live) (here : Bool) → same l.me b ≡ here → item_at live_id (put_item live_id ls after) b ≡ Some x → IsMarked more x
        marked b x true is found =
            let me : l.me ≡ b = equal_from_same l.me b is in
            let it : Some after ≡ Some x = sym (put_found live_id ls after) ∙ (ap (λ m. item_at live_id (put_item live_id ls after) m) me ∙ found) in
            let here : after ≡ x = cc in
            subst (IsMarked more) here marked_now
        marked b x false is found =
            let was : item_at live_id ls b ≡ Some x = sym (put_leaves live_id ls after b is) ∙ found in
            let other : same l.me x.me ≡ false = subst (λ m. same l.me m ≡ false) (sym (item_is live_id ls b x was)) is in
            subst (λ o. x.changed ≡ has_changes (changes_of (sets_of o))) (sym (put_leaves own_id os _ x.me other)) (now.marked b x was)

  -- a branch goes back
  module _ (l : Live) (n : ℕ) where
    abbrev fewer : List Owned
    fewer = without_sets os l.me n

    abbrev gone : Live
    gone = record l { changed = has_changes (changes_at fewer l.me) }

    pub back_fits : ChangesAreOfLives (put_item live_id ls gone) fewer
    back_fits = record { live = λ b none. live b (same l.me b) refl none; marked = λ b x found. marked b x (same l.me b) refl found }
      where
        live : (b : BranchId) (here : Bool) → same l.me b ≡ here → item_at live_id (put_item live_id ls gone) b ≡ None → item_at own_id fewer b ≡ None
        live b true is none =
            let found : item_at live_id (put_item live_id ls gone) b ≡ Some gone = subst (λ m. item_at live_id (put_item live_id ls gone) m ≡ Some gone) (equal_from_same l.me b is) (put_found live_id ls gone) in
            absurd (cc (found, none))
        live b false is none = back_leaves os l.me n b is ∙ now.live b (sym (put_leaves live_id ls gone b is) ∙ none)

        marked : (b : BranchId) (x : Live) (here : Bool) → same l.me b ≡ here → item_at live_id (put_item live_id ls gone) b ≡ Some x → IsMarked fewer x
        marked b x true is found =
            let it : Some gone ≡ Some x = sym (put_found live_id ls gone) ∙ (ap (λ m. item_at live_id (put_item live_id ls gone) m) (equal_from_same l.me b is) ∙ found) in
            let here : gone ≡ x = cc in
            subst (IsMarked fewer) here refl
        marked b x false is found =
            let was : item_at live_id ls b ≡ Some x = sym (put_leaves live_id ls gone b is) ∙ found in
            let other : same l.me x.me ≡ false = subst (λ m. same l.me m ≡ false) (sym (item_is live_id ls b x was)) is in
            subst (λ o. x.changed ≡ has_changes (changes_of (sets_of o))) (sym (back_leaves os l.me n x.me other)) (now.marked b x was)

  -- a run
  run_fits : (l : Live) (rows : List Keyed) (r : StmtOutcome) → IsMarked os l → ChangesAreOfLives (put_item live_id ls (after_run l r)) (owns_after os l.me rows r)
  run_fits l rows (Refuses e) so = put_fits (after_run l (Refuses e)) (or_false l.changed ∙ so)
  run_fits l rows (Reads rs keys) so = put_fits (after_run l (Reads rs keys)) (or_false l.changed ∙ so)
  run_fits l rows (Writes d cs keys undo) so = write_fits l rows cs so

-- ---- steps

-- what a node keeps of changes fits its live branches
abbrev pub Fits : NodeState → Type 0
Fits k = ChangesAreOfLives k.lives k.owns

-- the live branches are marked
marks : (k : NodeState) → Fits k → (b : BranchId) (l : Live) → live_at k b ≡ Some l → IsMarked k.owns l
marks k now b l found = now.marked b l found

asked_marked : (k : NodeState) (input : Input) (x : Branch) (s : Stmt) (given : ℕ) → Fits k → Asked k input x s given → IsMarked k.owns x.live
asked_marked k input x s given now (By_call n y t call rows has code live may) = now.marked x.live.me x.live (live_so k x.live.me x live)
asked_marked k input x s given now (By_exec y from call room advice t came live runs) = now.marked y.live.me y.live (live_so k y.live.me y live)

acting_marked : (k : NodeState) (input : Input) {l : Live} {site_below : Bool} {a : _} → Fits k → Acting k input l site_below a → IsMarked k.owns l
acting_marked k input now why = acting_so (IsMarked k.owns) (λ l comment site_below so. so) (λ l from v so. so) (marks k now) why

-- a branch that has gone back is marked so
calling_marked : (k : NodeState) (input : Input) (x : Branch) (step from : ℕ) → Fits k → Calls_back k input x step from → IsMarked k.owns x.live
calling_marked k input y step from now (Has_gone before x to goes is) = subst (λ (j : NodeState). IsMarked j.owns (branch_back before x to).live) (sym is) refl
calling_marked k input y step from now (Has_heard x weight count a i e g to answered going errand done) = now.marked x.live.me x.live (live_so k x.live.me x answered.live)

-- whichever child it calls first
went_back : (k : NodeState) (x : Branch) (step : ℕ) → Fits k → (next : Option ℕ) → Fits (backs_to (node_back k x step) (branch_back k x step) step next).after
went_back k x step now None = back_fits k.lives k.owns now x.live (sets_behind x.work.marks step)
went_back k x step now (Some i) = back_fits k.lives k.owns now x.live (sets_behind x.work.marks step)

module _ (p : Place) (input : Input) where
  -- each step leaves them so
  pub changes_on : {k : NodeState} {d : TurnDraft} → Step p input k d → Fits k → Fits d.after
  changes_on (steps.Begins {k = k} n s read_at call begins fit none step) now = changes_on step (begun_fits k.lives k.owns now _ refl)
  changes_on (steps.Counts_call n s call counts step) now = changes_on step now
  changes_on (steps.Goes_back {k = k} x to goes next) now = went_back k x to now (next_back (branch_back k x to).work to 1)
  changes_on (steps.Pends n l given call has live code writer step) now = changes_on step now
  changes_on (steps.Lets_reads_go l comment site_below live begins step) now = changes_on step now
  changes_on (steps.Counts_ack s from kept came counts step) now = changes_on step now
  changes_on (steps.Runs {k = k} x s given t asked way) now =
      run_fits k.lives k.owns now x.live (view k x.live.me t.name) (ran p k x.live.me s t) (asked_marked k input x s given now asked)
  changes_on (steps.Goes_nowhere {k = k} x s given r asked way) now = put_fits k.lives k.owns now x.live (asked_marked k input x s given now asked)
  changes_on (steps.Calls {k = k} x s given i table asked way) now = put_fits k.lives k.owns now x.live (asked_marked k input x s given now asked)
  changes_on (steps.Opens {k = k} x s given node link table asked way) now = put_fits k.lives k.owns now x.live (asked_marked k input x s given now asked)
  changes_on (steps.Goes_on {k = k} x from strength g link opened) now =
      put_fits k.lives k.owns now (with_edge x (new_edge from link strength)).live (now.marked x.live.me x.live (live_so k x.live.me x opened.live))
  changes_on (steps.Hears_reply {k = k} x weight count a i e answered) now =
      put_fits k.lives k.owns now (hears_reply x i weight count e).live (now.marked x.live.me x.live (live_so k x.live.me x answered.live))
  changes_on (steps.Backs {k = k} x to from i calls next) now = put_fits k.lives k.owns now x.live (calling_marked k input x to from now calls)
  changes_on (steps.Is_back {k = k} x to from calls none) now = put_fits k.lives k.owns now x.live (calling_marked k input x to from now calls)
  changes_on (steps.Opens_branch {k = k} to parent edge root depth read_at came new) now = begun_fits k.lives k.owns now _ refl
  changes_on (steps.Acts {k = k} l site_below acts.Rest why) now = put_fits k.lives k.owns now l (acting_marked k input now why)
  changes_on (steps.Acts {k = k} l site_below acts.AskDown why) now = put_fits k.lives k.owns now l (acting_marked k input now why)
  changes_on (steps.Acts {k = k} l site_below acts.SayReady why) now = put_fits k.lives k.owns now (ready l) (acting_marked k input now why)
  changes_on (steps.Acts {k = k} l site_below _ why) now = drop_fits k.lives k.owns now l.me
  changes_on (steps.Drops_told {k = k} l live drops) now = drop_fits k.lives k.owns now l.me
  changes_on (steps.Drops_asked {k = k} l from live came parent) now = drop_fits k.lives k.owns now l.me
  changes_on (steps.Does {k = k} s from nexts.Rest kept why) now = now
  changes_on (steps.Leaves {k = k} n s d x call ends has live) now = drop_fits k.lives k.owns now x.live.me
  changes_on (steps.Sets_savepoint {k = k} n x name call has code live) now = put_fits k.lives k.owns now x.live (now.marked x.live.me x.live (live_so k x.live.me x live))
  changes_on (steps.Gives_up {k = k} n x gives has pending live) now = put_fits k.lives k.owns now x.live (now.marked x.live.me x.live (live_so k x.live.me x live))
  changes_on (steps.Gives_up_commit {k = k} n b (Some l) gives has pending live) now = drop_fits k.lives k.owns now l.me
  changes_on _ now = now

-- a node that starts has neither
pub started_fits : ChangesAreOfLives [] []
started_fits = record { live = λ b none. refl; marked = λ b l found. absurd cc }
