-- In every lawful run an undisturbed COMMIT is complete.
use Rattle.std.proofs.Common.{◌≡◌, ℕ, ◌+◌, ◌≤◌, ◌||◌, Bool, true, false, if◌then◌else◌, List, [], ◌∷◌, map, filter, slice_get, suc, option_map, Option, Some, None, refl, sym, ap, subst, ◌∙◌, arith}
use Rattle.std.specs.List.{AllByRecursion, list_any}
use Rattle.tran_ids.proofs.BranchLemmas.{equal_from_same, same_from_equal}
use Rattle.tran_ids.proofs.ListedLemmas.{item_is}
use Rattle.node_rules.specs.Data.{BranchId, Live, KeptRow}
use Rattle.node_rules.specs.NodeState.{NodeState, live_id, live_at, branch_at, kept_row_at}
use Rattle.node_rules.specs.Turn.{Is_gone, status_of, live_or}
use Rattle.node_rules.specs.Words.{same}
use Rattle.run_rules.specs.Births.{Born, births_of, born_id, born_at}
use Rattle.run_base_laws.specs.BirthLaws.{Began, LiveIs, StandsBelow}
use Rattle.run_rules.specs.Book.{At, is_decision_on}
use Rattle.run_rules.specs.Data.{Entry}
use Rattle.run_rules.specs.Data.entries
use Rattle.run_rules.specs.Facts.{node_at}
use Rattle.run_rules.specs.Lawful.{History, IsLawfulRun, facts_at}
use Rattle.run_base_laws.specs.NodeLaws.{count_of}
use Rattle.run_base_laws.proofs.BirthRunLemmas.{births_are_trees, no_id_begins_twice, nodes_name_the_born}
use Rattle.run_rules.proofs.ListLemmas.{all_weaker}
use Rattle.run_base_laws.proofs.OwnLemmas.{all_found}
use Rattle.tree_laws.proofs.PrefixLemmas.{so_far}
use Rattle.tree_laws.proofs.TimeLemmas.{born_end, part_lawful}
use Rattle.commit_laws.specs.StillLaws.{DroppedNone}
use Rattle.run_claims.specs.Undisturbed.{Commit, Undisturbed, CommitIsComplete, UndisturbedCommitsAreComplete, SealIsEnded, branches_in, stand_at}
use Rattle.commit_laws.proofs.StillLemmas.{stays_up}
use Rattle.commit_spread_laws.proofs.StayLemmas.{undisturbed_commits_drop_none, undisturbed_commits_abort_none}
use Rattle.commit_point_laws.proofs.BookEndLemmas.{undisturbed_seals_are_decided}
use Rattle.commit_point_laws.proofs.ReadyEndLemmas.{undisturbed_leave_ready}
use Rattle.commit_spread_laws.specs.SealLaws.{SealsAreDecided, is_seal_on}
use Rattle.commit_spread_laws.proofs.SealLemmas.{undisturbed_seals_end}
use Rattle.commit_forget_laws.specs.GoneLaws.{RowsAreGone}
use Rattle.commit_forget_laws.proofs.RowsGoLemmas.{undisturbed_rows_go}
use Rattle.commit_leave_laws.proofs.AnswerLemmas.{undisturbed_calls_end}
use Rattle.commit_leave_laws.proofs.CallLemmas as call
use Rattle.commit_leave_laws.proofs.RootAskLemmas.{undisturbed_branches_leave}
use Rattle.commit_course_laws.specs.CompleteLaws.{LawfulCommitsAreComplete}
use Rattle.commit_course_laws.proofs.SiteLemmas.{place_any, is_decided}

-- ---- lists

-- where a test passes, there is one that passes it
any_place : {A : Type 0} (p : A → Bool) (xs : List A) → list_any p xs ≡ true → (i : ℕ) × (x : A) × (slice_get xs i ≡ Some x) × (p x ≡ true)
any_place p [] is = absurd cc
any_place p (x ∷ xs) is = by (p x) refl is (any_place p xs)
  where
    by : (q : Bool) → p x ≡ q → (q || list_any p xs) ≡ true → (list_any p xs ≡ true → (i : ℕ) × (y : _) × (slice_get xs i ≡ Some y) × (p y ≡ true)) → (i : ℕ) × (y : _) × (slice_get (x ∷ xs) i ≡ Some y) × (p y ≡ true)
    by true here found rest = (0, x, refl, here)
    by false here found rest = let one = rest found in (suc one.0, one.1, one.2, one.3)

-- what is so of each branch that began in a transaction is so of its branches
each_branch : (P : BranchId → Type 0) (root : BranchId) (bs : List Born) → AllByRecursion (λ x. x.root ≡ root → P x.me) bs → AllByRecursion P (branches_in bs root)
each_branch P root [] all = tt
each_branch P root (x ∷ bs) all = by (same x.root root) refl (each_branch P root bs all.1)
  where
    by : (q : Bool) → same x.root root ≡ q → AllByRecursion P (branches_in bs root) → AllByRecursion P (map born_id (if q then x ∷ filter (λ (y : Born). same y.root root) bs else filter (λ (y : Born). same y.root root) bs))
    by true of rest = (all.0 (equal_from_same x.root root of), rest)
    by false other rest = rest

-- one that is found counts
found_counts : (bs : List Born) (b : BranchId) (y : Born) → born_at bs b ≡ Some y → 1 ≤ count_of born_id b bs
found_counts [] b y found = absurd cc
found_counts (x ∷ bs) b y found = by (same x.me b) found (found_counts bs b y)
  where
    by : (q : Bool) → (if q then Some x else born_at bs b) ≡ Some y → (born_at bs b ≡ Some y → 1 ≤ count_of born_id b bs) → 1 ≤ (if q then 1 + count_of born_id b bs else count_of born_id b bs)
    by true here rest = omega arith
    by false later rest = rest later

-- where no id begins twice each branch began as it stands there
each_began : (bs : List Born) → ((b : BranchId) → count_of born_id b bs ≤ 1) → AllByRecursion (λ x. born_at bs x.me ≡ Some x) bs
each_began [] once = tt
each_began (x ∷ bs) once = (
  ap (λ q. if q then Some x else born_at bs x.me) (same_from_equal x.me x.me refl),
  all_weaker (λ y. born_at bs y.me ≡ Some y) (λ y. born_at (x ∷ bs) y.me ≡ Some y) (λ y found. later y.me y (once y.me) found) bs (each_began bs (λ b. fewer b (once b))),
)
  where
    later : (b : BranchId) (y : Born) → count_of born_id b (x ∷ bs) ≤ 1 → born_at bs b ≡ Some y → born_at (x ∷ bs) b ≡ Some y
    later b y one found = by (same x.me b) one
      where
        by : (q : Bool) → (if q then 1 + count_of born_id b bs else count_of born_id b bs) ≤ 1 → (if q then Some x else born_at bs b) ≡ Some y
        by true low = (let some : 1 ≤ count_of born_id b bs = found_counts bs b y found in absurd (omega (arith, low, some)))
        by false low = found

    fewer : (b : BranchId) → count_of born_id b (x ∷ bs) ≤ 1 → count_of born_id b bs ≤ 1
    fewer b one = by (same x.me b) one
      where
        by : (q : Bool) → (if q then 1 + count_of born_id b bs else count_of born_id b bs) ≤ 1 → count_of born_id b bs ≤ 1
        by true low = omega (arith, low)
        by false low = low

-- a gone branch has no row
gone_row : (k : NodeState) (b : BranchId) → status_of k b ≡ Is_gone → kept_row_at k b ≡ None
unfolding status_of
gone_row k b is = by (branch_at k b) (kept_row_at k b) is
  where
    by : (o : _) (s : Option KeptRow) → live_or o s ≡ Is_gone → s ≡ None
    by (Some x) s at = absurd cc
    by None None at = refl
    by None (Some s) at = absurd cc

-- a seal of a transaction
seal_is : (root : BranchId) (e : Entry) → is_seal_on root e ≡ true → (b : BranchId) × (cs : _) × (scn : ℕ) × (e ≡ entries.Sealed b root cs scn)
seal_is root (entries.Sealed b g cs scn) is = (b, cs, scn, ap (λ h. entries.Sealed b h cs scn) (equal_from_same g root is))
seal_is root _ is = absurd cc

module _ (t : History) (whole : IsLawfulRun t) (c : Commit t.places t.commands t.trace) (u : Undisturbed t.places t.commands t.trace c) where
  abbrev bs : List Born
  bs = births_of t

  dropped : DroppedNone t c.root
  dropped = undisturbed_commits_drop_none t whole c u

  -- where a branch is sealed, one has decided
  decided : SealsAreDecided (facts_at t).book c.root
  decided some =
      let at = any_place (is_seal_on c.root) (facts_at t).book some in
      let seal = seal_is c.root at.1 at.3 in
      let there : At (facts_at t).book at.0 (entries.Sealed seal.0 c.root seal.1 seal.2) = at.2 ∙ ap Some seal.3 in
      let one = undisturbed_seals_are_decided t whole c u dropped seal.0 seal.1 seal.2 at.0 there in
      place_any (is_decision_on c.root) (facts_at t).book one.3 (entries.Decided one.0 c.root one.1 one.2) one.4 (same_from_equal c.root c.root refl)

  ended : AllByRecursion (SealIsEnded (facts_at t).book c.root) (facts_at t).book
  ended = undisturbed_seals_end t whole c u decided

  rows : RowsAreGone t c.root
  rows = undisturbed_rows_go t whole c u dropped ended

  -- no branch of the transaction is live
  none_live : (b : Born) → Began bs b → b.root ≡ c.root → (k : NodeState) → node_at (facts_at t) b.me.node ≡ Some k → live_at k b.me ≡ None
  none_live b began of k up = by (live_at k b.me) refl
    where
      by : (o : Option Live) → live_at k b.me ≡ o → live_at k b.me ≡ None
      by None is = is
      by (Some l) live =
          let me : l.me ≡ b.me = item_is live_id k.lives b.me l live in
          let mine : live_at k l.me ≡ Some l = subst (λ i. live_at k i ≡ Some l) (sym me) live in
          let its : LiveIs (Began bs) l = all_found (LiveIs (Began bs)) live_id k.lives l.me l (nodes_name_the_born t whole b.me.node k up).0 mine in
          let one : born_at bs b.me ≡ Some its.born = subst (λ i. born_at bs i ≡ Some its.born) (its.is_me ∙ me) its.began in
          let both : Some its.born ≡ Some b = sym one ∙ began in
          let same_born : its.born ≡ b = cc in
          let root : l.root ≡ c.root = sym its.is_root ∙ (ap (λ (x : Born). x.root) same_born ∙ of) in
          absurd (undisturbed_branches_leave t whole c u dropped (undisturbed_leave_ready t whole c u dropped) b.me.node k up l mine root)

  stand_gone : (b : Born) → Began bs b → b.root ≡ c.root → (k : NodeState) → node_at (facts_at t) b.me.node ≡ Some k → status_of k b.me ≡ Is_gone
  stand_gone b began of k up = rows.gone b began of k up (none_live b began of k up)

  -- and its node is up
  gone : (b : Born) → Began bs b → b.root ≡ c.root → stand_at (facts_at t) b.me ≡ Some Is_gone
  gone b began of = by (node_at (facts_at t) b.me.node) refl (stays_up t whole c u b began of)
    where
      by : (o : Option NodeState) → node_at (facts_at t) b.me.node ≡ o → option_map (λ (k : NodeState). k.stored.durable.boot) o ≡ Some b.me.boot → option_map (λ (k : NodeState). status_of k b.me) (node_at (facts_at t) b.me.node) ≡ Some Is_gone
      by None up is = absurd cc
      by (Some k) up is = ap (option_map (λ (k : NodeState). status_of k b.me)) up ∙ ap Some (stand_gone b began of k up)

  pub complete : CommitIsComplete t.places t.commands t.trace c
  complete = record {
    decided = is_decided t whole c u dropped (undisturbed_commits_abort_none t whole c u);
    answered = undisturbed_calls_end t whole c u dropped (undisturbed_commits_abort_none t whole c u) (λ k up. root_row k up);
    ended = ended;
    gone = each_branch (λ b. stand_at (facts_at t) b ≡ Some Is_gone) c.root bs (all_weaker (λ x. born_at bs x.me ≡ Some x) _ (λ x began of. gone x began of) bs (each_began bs (no_id_begins_twice t whole)));
  }
    where
      root_row : (k : NodeState) → node_at (facts_at t) c.root.node ≡ Some k → kept_row_at k c.root ≡ None
      root_row k up =
          let top : Born = (call.placed t whole c).born in
          let me : top.me ≡ c.root = call.top_me t whole c in
          let began : Began bs top = born_end t whole c.before (call.part0 t whole c) top (call.placed t whole c).began in
          let stands : StandsBelow (Began bs) top None = subst (StandsBelow (Began bs) top) (call.top_parent t whole c) (all_found (λ z. StandsBelow (Began bs) z z.parent) born_id bs top.me top (births_are_trees t whole) began) in
          let is_gone : status_of k top.me ≡ Is_gone = stand_gone top began (stands.0 ∙ me) k (subst (λ b. node_at (facts_at t) b.node ≡ Some k) (sym me) up) in
          gone_row k c.root (subst (λ b. status_of k b ≡ Is_gone) me is_gone)

pub every_undisturbed_commit_is_complete : UndisturbedCommitsAreComplete
every_undisturbed_commit_is_complete t whole c u = complete t whole c u

pub lawful_commits_are_complete : LawfulCommitsAreComplete
lawful_commits_are_complete t whole front later is c u = complete (so_far t front) (part_lawful t whole front (record { rest = later; is = is })) c u
