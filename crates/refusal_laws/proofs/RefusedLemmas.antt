-- In every lawful run a node refuses a statement of a live branch at one of its tables for a cause by the book and the branch history.
use Rattle.std.proofs.Common.{◌≡◌, ℕ, ◌+◌, ◌&&◌, ◌||◌, Bool, true, false, true≢false, if◌then◌else◌, List, [], ◌∷◌, ◌++◌, filter, find, flat_map, map, option_map, Option, Some, None, inl, inr, refl, sym, ap, subst, ◌∙◌, append-nil}
use Rattle.std.specs.Prelude.{is_some, nat_lt}
use Rattle.std.specs.List.{list_any}
use Rattle.std.proofs.lemmas.Bool.{or_cases, or_left, or_right}
use Rattle.dtx_values.specs.Limits.{changes_limit}
use Rattle.dtx_values.proofs.ValueOrder as values
use Rattle.sql_check.specs.Refusals.{ora}
use Rattle.sql_check.specs.Words.{first_some, one}
use Rattle.sql_eval.specs.declared.meant.Meant.{Meant}
use Rattle.tran_ids.specs.Texts.{local_text}
use Rattle.tran_ids.proofs.BranchLemmas.{same_from_equal}
use Rattle.tran_ids.proofs.ListedLemmas.{item_is}
use Rattle.row_locks.specs.Back.{is_changed_in}
use Rattle.row_locks.specs.Held.{doubt_on, hold_on, live_one}
use Rattle.row_locks.specs.Locks.{Lock, another, is_lock_on, keys_held, named}
use Rattle.row_store.specs.Own.{changes_length}
use Rattle.node_rules.specs.Data.{Value, Change, Table, Stmt, Refusal, BranchId, Live, Place, Keyed}
use Rattle.node_rules.specs.Words.{same, same_text, is_item_of, item_at}
use Rattle.node_rules.specs.Rows.{same_value}
use Rattle.node_rules.specs.Meaning.{examined, meant}
use Rattle.node_rules.specs.Names.{table_of}
use Rattle.node_rules.specs.NodeState.{NodeState, live_at, live_id}
use Rattle.node_rules.specs.Prepare.{own_changes}
use Rattle.node_rules.specs.Statement.{ground_of, ran, read_by, reads_at, reads_too_old}
use Rattle.run_rules.specs.Book.{changes_of, in_doubt}
use Rattle.run_rules.specs.Branches.{Run, Seen, Trail, held_at, own_at, read_at_at, read_at_of, seen_at, seen_id}
use Rattle.run_rules.specs.Data.{Entry}
use Rattle.run_rules.specs.Facts.{Facts, node_at, place_at}
use Rattle.run_rules.specs.Lawful.{History, IsLawfulRun, facts_at}
use Rattle.run_rules.specs.Runs.{keys_in_doubt, locked_at, meaning, view_by}
use Rattle.run_base_laws.proofs.EventsStandLemmas.{ids_name_their_node}
use Rattle.run_base_laws.proofs.OwnLemmas.{all_found}
use Rattle.stmt_run.specs.Run.{too_many_changes}
use Rattle.sql_check.specs.Checks.{checked}
use Rattle.book_laws.proofs.PlaceLemmas.{IsOne}
use Rattle.tree_laws.proofs.TimeLemmas.{Part}
use Rattle.tree_trail_laws.specs.ChildLaws.{trail_at}
use Rattle.tree_trail_laws.specs.LowerLaws.{IsTracedLive}
use Rattle.tree_trail_laws.proofs.LowerRunLemmas.{lower_at}
use Rattle.tree_trail_laws.proofs.OwnFollowLemmas.{owns_follow}
use Rattle.tree_trail_laws.proofs.OwnRunLemmas.{IsOfBook, of_book}
use Rattle.tree_trail_laws.proofs.TopFollowLemmas.{tops_follow}
use Rattle.refusal_laws.specs.Holders.{doubt_at, is_of_branch, is_of_doubt}
use Rattle.refusal_laws.specs.Met.{too_old_at}
use Rattle.refusal_laws.specs.RefusedLaws.{HasCause, IsSound, first_doubt, For_its_text, For_an_old_scn, For_a_key_in_doubt, For_a_held_key, For_what_it_means, For_its_size, For_undo, run_of, RefusalsHaveCauses}
use Rattle.refusal_laws.proofs.AcceptedLemmas.{owns_each, roots_each}
use Rattle.refusal_laws.proofs.CauseLemmas.{NodeCause, By_text, By_scn, By_doubt, By_lock, By_meaning, By_size, By_undo, any_behind, locked_one, meant_beside, node_causes}
use Rattle.refusal_laws.proofs.DoubtLemmas.{doubts_are_of_the_book, found_passes, found_so}
use Rattle.refusal_laws.proofs.FirstLemmas.{first_examined}
use Rattle.refusal_laws.proofs.LockLemmas.{locks_are_of_branches}
use Rattle.refusal_laws.proofs.ViewLemmas.{beside, told_view}

-- ---- lists

first_alike : (g h : Value → Option BranchId) → ((v : Value) → g v ≡ h v) → (keys : List Value) → first_some (map g keys) ≡ first_some (map h keys)
first_alike g h alike [] = refl
first_alike g h alike (key ∷ keys) = ap (λ o. first_some (o ∷ map g keys)) (alike key) ∙ by (h key) (first_alike g h alike keys)
  where
    by : (o : Option BranchId) → first_some (map g keys) ≡ first_some (map h keys) → first_some (o ∷ map g keys) ≡ first_some (o ∷ map h keys)
    by (Some b) rest = refl
    by None rest = rest

any_live : (b : BranchId) (ls : List Live) → list_any (is_item_of live_id b) ls ≡ true → (l : Live) × (item_at live_id ls b ≡ Some l)
any_live b [] is = absurd cc
any_live b (l ∷ ls) is = by (is_item_of live_id b l) refl is (any_live b ls)
  where
    by : (q : Bool) → is_item_of live_id b l ≡ q → (q || list_any (is_item_of live_id b) ls) ≡ true → (list_any (is_item_of live_id b) ls ≡ true → (y : Live) × (item_at live_id ls b ≡ Some y))
        → (y : Live) × ((if q then Some l else item_at live_id ls b) ≡ Some y)
    by true here is later = (l, refl)
    by false here is later = later is

module _ (test : Value → Bool) (table : List ℕ) (key : Value) (passes : test key ≡ true) where
  -- a key that is changed is among the keys of the changes
  changed_key : (cs : List Change) → is_changed_in cs table key ≡ true → list_any test (map (λ c. c.key) (filter (λ c. same_text c.table table) cs)) ≡ true
  changed_key [] is = absurd cc
  changed_key (c ∷ cs) is = by (same_text c.table table) (same_value c.key key) refl is (changed_key cs)
    where
      by : (here alike : Bool) → same_value c.key key ≡ alike → ((here && alike) || is_changed_in cs table key) ≡ true → (is_changed_in cs table key ≡ true → list_any test (map (λ x. x.key) (filter (λ x. same_text x.table table) cs)) ≡ true)
          → list_any test (map (λ x. x.key) (if here then c ∷ filter (λ x. same_text x.table table) cs else filter (λ x. same_text x.table table) cs)) ≡ true
      by true true one is later = or_left (test c.key) _ (ap test (values.equal_from_same c.key key one) ∙ passes)
      by true false one is later = or_right (test c.key) _ (later is)
      by false alike one is later = later is

  any_joined : (xs ys : List Value) → list_any test xs ≡ true → list_any test (xs ++ ys) ≡ true
  any_joined [] ys is = absurd cc
  any_joined (x ∷ xs) ys is = elim (or_cases (test x) (list_any test xs) is) [ inl here ↦ or_left (test x) (list_any test (xs ++ ys)) here | inr later ↦ or_right (test x) (list_any test (xs ++ ys)) (any_joined xs ys later) ]

  flat_any : (g : BranchId → List Value) (bs : List BranchId) (b : BranchId) → IsOne b bs → list_any test (g b) ≡ true → list_any test (flat_map g bs) ≡ true
  flat_any g [] b there is = absurd there
  flat_any g (c ∷ bs) b (inl here) is = any_joined (g c) (flat_map g bs) (ap (λ z. list_any test (g z)) here ∙ is)
  flat_any g (c ∷ bs) b (inr there) is = any_behind test (g c) (flat_map g bs) (flat_any g bs b there is)

  -- a key that a branch in doubt has changed is among the keys in doubt
  in_doubt_key : (book : List Entry) (n : ℕ) (b : BranchId) → doubt_at book n table key ≡ Some b → list_any test (keys_in_doubt book n table) ≡ true
  in_doubt_key book n b is =
      let found = found_passes (λ c. is_changed_in (changes_of book c) table key) (in_doubt book n) b is in
      flat_any (λ c. map (λ x. x.key) (filter (λ x. same_text x.table table) (changes_of book c))) (in_doubt book n) b found.1 (changed_key (changes_of book b) found.0)

-- ---- a lock of another live branch

-- the lock that a refusal names
pub held_lock : (locks : List Lock) (me : BranchId) (table : List ℕ) (key : Value) (b : BranchId) → hold_on locks me table key ≡ Some b
    → (l : Lock) × (find (is_lock_on table key) locks ≡ Some l) × (l.branch ≡ b) × (l.in_doubt ≡ false) × (same l.branch me ≡ false)
held_lock locks me table key b is = by (find (is_lock_on table key) locks) refl is
  where
    by : (o : Option Lock) → find (is_lock_on table key) locks ≡ o → live_one (another me (option_map named o)) ≡ Some b
        → (l : Lock) × (find (is_lock_on table key) locks ≡ Some l) × (l.branch ≡ b) × (l.in_doubt ≡ false) × (same l.branch me ≡ false)
    by None at is = absurd cc
    by (Some l) at is = other (same l.branch me) l.in_doubt refl refl is
      where
        other : (own doubt : Bool) → same l.branch me ≡ own → l.in_doubt ≡ doubt → live_one (if own then None else Some (l.branch, doubt)) ≡ Some b
            → (l : Lock) × (find (is_lock_on table key) locks ≡ Some l) × (l.branch ≡ b) × (l.in_doubt ≡ false) × (same l.branch me ≡ false)
        other true doubt its was is = absurd cc
        other false true its was is = absurd cc
        other false false its was is = (l, at, (let both : Some l.branch ≡ Some b = is in cc), was, its)

-- ---- every run

module _ (t : History) (lawful : IsLawfulRun t) (n : ℕ) (k : NodeState) (up : node_at (facts_at t) n ≡ Some k) where
  abbrev f : Facts
  f = facts_at t

  abbrev tr : Trail
  tr = trail_at t

  part : Part t lawful t.trace
  part = record { rest = []; is = append-nil t.trace }

  -- a live branch is seen
  seen_so : (l : Live) → live_at k l.me ≡ Some l → (s : Seen) × (seen_at tr l.me ≡ Some s) × IsTracedLive l s
  seen_so l live = by l.parent refl
    where
      by : (o : Option BranchId) → l.parent ≡ o → (s : Seen) × (seen_at tr l.me ≡ Some s) × IsTracedLive l s
      by None top = (let it = (tops_follow t lawful (owns_each t lawful)).0 n k up l live top in (it.0, it.1, it.2))
      by (Some q) above = lower_at t lawful t.trace part n k up l live (λ none. absurd (cc (above, none)))

  module _ (l : Live) (live : live_at k l.me ≡ Some l) (s : Stmt) (name : List ℕ) (x : Table) (found : table_of k.stored.durable name ≡ Some x) where
    abbrev p : Place
    p = place_at t.places n

    abbrev run : Run
    run = run_of tr l.me s x

    here : l.me.node ≡ n
    here = all_found (λ y. y.me.node ≡ n) live_id k.lives l.me l (ids_name_their_node t lawful n k up).lives live

    own_told : own_at tr l.me ≡ own_changes k l.me
    own_told = owns_follow t lawful (roots_each t lawful) n k up l live

    reads_told : read_at_at tr l.me ≡ reads_at k l.me
    reads_told = (let it = seen_so l live in ap read_at_of it.1 ∙ (it.2.read_at ∙ sym (ap read_by live)))

    of_it : IsOfBook f.book n k
    of_it = of_book t lawful n k up

    abbrev view_now : List Keyed
    view_now = told_view f.book n k of_it p l.me here s x name found

    view_told : view_by f.book l.me (read_at_at tr l.me) (own_at tr l.me) x.name ≡ view_now
    view_told = ap (λ o. view_by f.book l.me o (own_at tr l.me) x.name) reads_told ∙ ap (λ own. view_by f.book l.me (reads_at k l.me) own x.name) own_told

    -- what it means by the book
    meaning_told : reads_too_old k (reads_at k l.me) ≡ false → first_some (map (doubt_on k.locks x.name) (examined s x (ground_of p k l.me x).view (keys_held k.locks x.name))) ≡ None
        → (m : Meant) → meant s x (ground_of p k l.me x).view ≡ m → meaning f.book (read_at_at tr l.me) (own_at tr l.me) run ≡ m
    meaning_told young none m is =
        ap (meant s x) view_told ∙ (sym (meant_beside (ground_of p k l.me x) s x _ view_now (beside f.book n k of_it p l.me here s x name found young) none) ∙ is)

    -- by the book at the node of the branch
    doubt_told : (key : Value) → doubt_on k.locks x.name key ≡ doubt_at f.book l.me.node x.name key
    doubt_told key = doubts_are_of_the_book t lawful n k up x.name key ∙ ap (λ m. doubt_at f.book m x.name key) (sym here)

    -- its SCN is as far back by the branch history as at its node
    old_told : too_old_at (node_at f l.me.node) (read_at_at tr l.me) ≡ reads_too_old k (reads_at k l.me)
    old_told = ap (λ m. too_old_at (node_at f m) (read_at_at tr l.me)) here ∙ (ap (λ o. too_old_at o (read_at_at tr l.me)) up ∙ ap (reads_too_old k) reads_told)

    sound : checked s x ≡ None → reads_too_old k (reads_at k l.me) ≡ false → IsSound f tr run
    sound right young = record { right = right; young = old_told ∙ young }

    abbrev node_first : Option BranchId
    node_first = first_some (map (doubt_on k.locks x.name) (examined s x (ground_of p k l.me x).view (keys_held k.locks x.name)))

    -- the first key in doubt that it examines is the same by the book
    first_told : first_doubt f tr run ≡ node_first
    first_told =
        let others : List Value = locked_at f.book tr l.me.node x.name in
        let more : List Keyed = view_by f.book l.me (read_at_at tr l.me) (own_at tr l.me) x.name in
        sym (first_examined (doubt_at f.book l.me.node x.name) s x (ground_of p k l.me x).view more (keys_held k.locks x.name) others
        (λ w c held. locked_one k.locks x.name w (ap is_some (doubt_told w ∙ held)))
        (λ w c held. any_behind (same_value w) (held_at tr l.me.node x.name) (keys_in_doubt f.book l.me.node x.name) (in_doubt_key (same_value w) x.name w (values.same_from_equal w w refl) f.book l.me.node c held)))
        ∙ sym (first_alike (doubt_on k.locks x.name) (doubt_at f.book l.me.node x.name) doubt_told (examined s x (ground_of p k l.me x).view (keys_held k.locks x.name)))

    -- the bytes of the changes of its branch with these
    size_told : (cs : List Change) (q : Bool) → too_many_changes (ground_of p k l.me x) cs ≡ q → nat_lt changes_limit (changes_length (own_at tr l.me) + changes_length cs) ≡ q
    size_told cs q is = ap (λ own. nat_lt changes_limit (changes_length own + changes_length cs)) own_told ∙ is

    by_lock : IsSound f tr run → first_doubt f tr run ≡ None → (key : Value) (b : BranchId) → hold_on k.locks l.me x.name key ≡ Some b → HasCause f tr run (ora 2049 (one (local_text b)))
    by_lock sound certain key b is =
        let lock = held_lock k.locks l.me x.name key b is in
        let whose : is_of_branch k.lives k.stored.doubts lock.0 ≡ true = found_so (λ y. is_of_branch k.lives k.stored.doubts y ≡ true) (is_lock_on x.name key) k.locks lock.0 (locks_are_of_branches t lawful n k up) lock.1 in
        let alive : list_any (is_item_of live_id lock.0.branch) k.lives ≡ true = ap (λ q. if q then is_of_doubt k.stored.doubts lock.0 else list_any (is_item_of live_id lock.0.branch) k.lives) (sym lock.3) ∙ whose in
        let it = any_live lock.0.branch k.lives alive in
        let me : it.0.me ≡ lock.0.branch = item_is live_id k.lives lock.0.branch it.0 it.1 in
        let there = seen_so it.0 (subst (λ c. live_at k c ≡ Some it.0) (sym me) it.1) in
        let its : there.0.me ≡ it.0.me = item_is seen_id tr.seen it.0.me there.0 there.1 in
        let is_b : there.0.me ≡ b = its ∙ (me ∙ lock.2) in
        subst (λ c. HasCause f tr run (ora 2049 (one (local_text c)))) is_b
        (For_a_held_key sound certain there.0 (subst (λ c. seen_at tr c ≡ Some there.0) (sym its) there.1) there.2.live
        (λ own. true≢false (sym (same_from_equal lock.0.branch l.me (sym (its ∙ me) ∙ own)) ∙ lock.4)))

    has_cause : (why : Refusal) → NodeCause (ground_of p k l.me x) s x why → HasCause f tr run why
    has_cause _ (By_text why is) = For_its_text why is
    has_cause _ (By_scn right old) = For_an_old_scn right (old_told ∙ old)
    has_cause _ (By_doubt b right young is) = For_a_key_in_doubt (sound right young) b (first_told ∙ is)
    has_cause _ (By_lock key b right young none is) = by_lock (sound right young) (first_told ∙ none) key b is
    has_cause _ (By_meaning why right young none is) = For_what_it_means (sound right young) (first_told ∙ none) why (meaning_told young none _ is)
    has_cause _ (By_size d m cs right young none is many) = For_its_size (sound right young) (first_told ∙ none) d m cs (meaning_told young none _ is) (size_told cs true many)
    has_cause _ (By_undo d m cs right young none is few need over) = For_undo (sound right young) (first_told ∙ none) d m cs (meaning_told young none _ is) (size_told cs false few) need _ over

pub refusals_have_causes : RefusalsHaveCauses
unfolding ran
refusals_have_causes t lawful n k up l live s name x found why is = has_cause t lawful n k up l live s name x found why (node_causes (ground_of (place_at t.places n) k l.me x) s x why is)
