-- Branches whose ids are their own, where a live one is changed, leaves or begins, and where rows and doubts come and go.
use Rattle.std.proofs.Common.{◌≡◌, ℕ, ◌≤◌, Bool, true, false, List, [], ◌∷◌, ◌++◌, length, None, Some, refl, sym, subst}
use Rattle.std.specs.List.{AllByRecursion}
use Rattle.std.proofs.lemmas.Bool.{cond_both}
use Rattle.tran_ids.proofs.ListedLemmas.{item_is}
use Rattle.tran_ids.proofs.BranchLemmas.{equal_from_same, same_from_equal}
use Rattle.redo_record.specs.Kept.{add_kept, keep_decided}
use Rattle.redo_record.specs.Rows.{has_neighbors}
use Rattle.node_rules.specs.Data.{BranchId, KeptRow, Live, Doubt}
use Rattle.node_rules.specs.Words.{same, is_item_of, item_at, put_item, drop_item, put_by_branch}
use Rattle.node_rules.specs.NodeState.{live_id, kept_row_id, doubt_id}
use Rattle.node_ready_laws.specs.Ids.{last_seq, IsGiven, IsUnkept, IdsAreApart}
use Rattle.node_ready_laws.proofs.ListLemmas.{all_last, all_weaker, all_found, all_put, all_dropped, all_left, all_placed, none_of, not_found, new_id}
use Rattle.node_ready_laws.proofs.GivenLemmas.{given_still}

-- a list whose items are of branches that the other has items of
abbrev pub AreAmong : {A : Type 0} → (A → BranchId) → List A → List A → Type 1
AreAmong id old new = (P : BranchId → Type 0) → AllByRecursion (λ x. P (id x)) old → AllByRecursion (λ x. P (id x)) new

-- two branches differ, either way round
other_way : (a b : BranchId) → same a b ≡ false → same b a ≡ false
other_way a b other = by (same b a) refl
  where
    by : (is : Bool) → same b a ≡ is → is ≡ false
    by true is = let one : same a b ≡ true = same_from_equal a b (sym (equal_from_same b a is)) in absurd cc
    by false is = refl

module _ (boot : ℕ) (seqs : List ℕ) (opened : ℕ) (lives : List Live) (kept : List KeptRow) (doubts : List Doubt) (now : IdsAreApart boot seqs opened lives kept doubts) where
  -- a branch that is live
  pub live_given : (b : BranchId) (l : Live) → item_at live_id lives b ≡ Some l → IsGiven boot seqs opened b
  live_given b l found = subst (IsGiven boot seqs opened) (item_is live_id lives b l found) (all_found (λ x. IsGiven boot seqs opened x.me) (is_item_of live_id b) lives l now.live_given found)

  pub live_free : (b : BranchId) (l : Live) → item_at live_id lives b ≡ Some l → IsUnkept kept doubts b
  live_free b l found = subst (IsUnkept kept doubts) (item_is live_id lives b l found) (all_found (λ x. IsUnkept kept doubts x.me) (is_item_of live_id b) lives l now.free found)

  -- an id that was not given out is of no branch
  pub unused : (b : BranchId) → (IsGiven boot seqs opened b → ⊥) → IsUnkept kept doubts b
  unused b new = (new_id kept_row_id b (IsGiven boot seqs opened) kept now.kept_given new, new_id doubt_id b (IsGiven boot seqs opened) doubts now.doubts_given new)

  -- a live branch is changed
  pub changed : (l : Live) → IsGiven boot seqs opened l.me → IsUnkept kept doubts l.me → IdsAreApart boot seqs opened (put_item live_id lives l) kept doubts
  changed l given free = record {
    sessions = now.sessions;
    live_given = all_put (λ x. IsGiven boot seqs opened x.me) live_id lives l now.live_given given;
    kept_given = now.kept_given;
    doubts_given = now.doubts_given;
    free = all_put (λ x. IsUnkept kept doubts x.me) live_id lives l now.free free;
  }

  -- it leaves
  pub left : (b : BranchId) → IdsAreApart boot seqs opened (drop_item live_id lives b) kept doubts
  left b = record {
    sessions = now.sessions;
    live_given = all_dropped (λ x. IsGiven boot seqs opened x.me) live_id lives b now.live_given;
    kept_given = now.kept_given;
    doubts_given = now.doubts_given;
    free = all_dropped (λ x. IsUnkept kept doubts x.me) live_id lives b now.free;
  }

  -- one begins, with an id that is new
  pub grown : (more : List ℕ) (later : ℕ) (x : Live) → length more ≡ 64 → ((n : ℕ) → last_seq seqs n ≤ last_seq more n) → opened ≤ later → (IsGiven boot seqs opened x.me → ⊥) → IsGiven boot more later x.me
      → IdsAreApart boot more later (lives ++ x ∷ []) kept doubts
  grown more later x many rise links new given = record {
    sessions = many;
    live_given = all_last (λ l. IsGiven boot more later l.me) lives x (all_weaker (λ l. IsGiven boot seqs opened l.me) (λ l. IsGiven boot more later l.me) (λ l is. given_still more later rise links is) lives now.live_given) given;
    kept_given = all_weaker (λ s. IsGiven boot seqs opened s.me) (λ s. IsGiven boot more later s.me) (λ s is. given_still more later rise links is) kept now.kept_given;
    doubts_given = all_weaker (λ d. IsGiven boot seqs opened d.branch) (λ d. IsGiven boot more later d.branch) (λ d is. given_still more later rise links is) doubts now.doubts_given;
    free = all_last (λ l. IsUnkept kept doubts l.me) lives x now.free (unused x.me new);
  }

  -- rows and doubts are of branches that had such before
  pub fewer : (less : List KeptRow) (few : List Doubt) → AreAmong kept_row_id kept less → AreAmong doubt_id doubts few → IdsAreApart boot seqs opened lives less few
  fewer less few rows held = record {
    sessions = now.sessions;
    live_given = now.live_given;
    kept_given = rows (IsGiven boot seqs opened) now.kept_given;
    doubts_given = held (IsGiven boot seqs opened) now.doubts_given;
    free = all_weaker (λ l. IsUnkept kept doubts l.me) (λ l. IsUnkept less few l.me)
        (λ l is. (not_found kept_row_id l.me less (rows (λ b. same b l.me ≡ false) (none_of kept_row_id l.me kept is.0)), not_found doubt_id l.me few (held (λ b. same b l.me ≡ false) (none_of doubt_id l.me doubts is.1))))
        lives now.free;
  }

  module _ (s : KeptRow) (given : IsGiven boot seqs opened s.me) where
    -- a row of one branch is of no other
    row_free : (b : BranchId) → item_at kept_row_id kept b ≡ None → same b s.me ≡ false → item_at kept_row_id (add_kept kept s) b ≡ None
    row_free b none other = not_found kept_row_id b (add_kept kept s) (all_placed (λ x. same x.me b ≡ false) kept_row_id kept s (none_of kept_row_id b kept none) (other_way b s.me other))

    -- a live branch leaves, and is kept from now on
    gets_row : IdsAreApart boot seqs opened (drop_item live_id lives s.me) (add_kept kept s) doubts
    gets_row = record {
      sessions = now.sessions;
      live_given = all_dropped (λ x. IsGiven boot seqs opened x.me) live_id lives s.me now.live_given;
      kept_given = all_placed (λ x. IsGiven boot seqs opened x.me) kept_row_id kept s now.kept_given given;
      doubts_given = now.doubts_given;
      free = all_weaker (λ l. IsUnkept kept doubts l.me × (same l.me s.me ≡ false)) (λ l. IsUnkept (add_kept kept s) doubts l.me) (λ l is. (row_free l.me is.0.0 is.1, is.0.1)) (drop_item live_id lives s.me)
          (all_left (λ l. IsUnkept kept doubts l.me) live_id lives s.me now.free);
    }

    -- so does one that has decided, if it has neighbours
    pub decided : IdsAreApart boot seqs opened (drop_item live_id lives s.me) (keep_decided kept s) doubts
    decided = cond_both (has_neighbors s) (add_kept kept s) kept (λ ks. IdsAreApart boot seqs opened (drop_item live_id lives s.me) ks doubts) (λ some. gets_row) (λ none. left s.me)

    -- a sealed one is in doubt too
    pub sealed : (d : Doubt) → d.branch ≡ s.me → IdsAreApart boot seqs opened (drop_item live_id lives s.me) (add_kept kept s) (put_by_branch doubt_id doubts d)
    sealed d one = record {
      sessions = gets_row.sessions;
      live_given = gets_row.live_given;
      kept_given = gets_row.kept_given;
      doubts_given = all_placed (λ x. IsGiven boot seqs opened x.branch) doubt_id doubts d now.doubts_given (subst (IsGiven boot seqs opened) (sym one) given);
      free = all_weaker (λ l. IsUnkept kept doubts l.me × (same l.me s.me ≡ false)) (λ l. IsUnkept (add_kept kept s) (put_by_branch doubt_id doubts d) l.me)
          (λ l is. (
            row_free l.me is.0.0 is.1,
            not_found doubt_id l.me (put_by_branch doubt_id doubts d)
                (all_placed (λ x. same x.branch l.me ≡ false) doubt_id doubts d (none_of doubt_id l.me doubts is.0.1) (subst (λ b. same b l.me ≡ false) (sym one) (other_way l.me s.me is.1))),
          ))
          (drop_item live_id lives s.me) (all_left (λ l. IsUnkept kept doubts l.me) live_id lives s.me now.free);
    }
