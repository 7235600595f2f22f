-- What the book tells of a key, one entry after the other, is what it commits there by decisions of the branches that are
-- counted; and an open branch, counted too, adds its changes behind all others, where its transaction was decided.
use Rattle.std.proofs.Common.{◌≡◌, ℕ, ◌||◌, Bool, true, false, if◌then◌else◌, List, [], ◌∷◌, ◌++◌, inl, inr, sym, ap, ◌∙◌, append-nil, append_assoc}
use Rattle.std.specs.Prelude.{◌⊎◌}
use Rattle.std.proofs.lemmas.List.Elements.{filter-append}
use Rattle.node_rules.specs.Data.{Value, Change, BranchId}
use Rattle.node_rules.specs.Rows.{is_change_of}
use Rattle.node_rules.specs.Words.{same}
use Rattle.run_rules.specs.Data.{Entry}
use Rattle.run_rules.specs.Data.entries
use Rattle.run_rules.specs.Book.{is_sealed_of, is_forced_of, is_end_of, stands, is_decision_on, changes_in, changes_of, commits_now, committed_at}
use Rattle.book_laws.proofs.PlaceLemmas.{IsOne}
use Rattle.book_laws.proofs.FlatLemmas.{one_of_more, any_same}
use Rattle.book_laws.proofs.CountLemmas.{picked, part, gives, committed_by, alike_commits, picked_same, commits_more, quiet_stays}
use Rattle.book_laws.proofs.OpenLemmas.{is_open, counted, counted_or, same_open, same_counted}

committed_more : (older : List Entry) (n : ℕ) (es : List Entry) (e : Entry) → committed_at older n (es ++ e ∷ []) ≡ committed_at older n es ++ commits_now (older ++ es) n e
committed_more older n [] e = append-nil (commits_now older n e) ∙ ap (λ os. commits_now os n e) (sym (append-nil older))
committed_more older n (x ∷ es) e =
    ap (λ cs. commits_now older n x ++ cs) (committed_more (older ++ x ∷ []) n es e)
    ∙ (sym (append_assoc (commits_now older n x) (committed_at (older ++ x ∷ []) n es) (commits_now ((older ++ x ∷ []) ++ es) n e))
    ∙ ap (λ os. (commits_now older n x ++ committed_at (older ++ x ∷ []) n es) ++ commits_now os n e) (append_assoc older (x ∷ []) es))

-- of two lists behind another the order does not matter, where one is empty
pub either_order : (xs ys zs : List Change) → (ys ≡ []) ⊎ (zs ≡ []) → (xs ++ ys) ++ zs ≡ (xs ++ zs) ++ ys
either_order xs ys zs (inl none) = ap (λ w. (xs ++ w) ++ zs) none ∙ (ap (λ w. w ++ zs) (append-nil xs) ∙ (sym (append-nil (xs ++ zs)) ∙ ap (λ w. (xs ++ zs) ++ w) (sym none)))
either_order xs ys zs (inr none) = ap (λ w. (xs ++ ys) ++ w) none ∙ (append-nil (xs ++ ys) ∙ (ap (λ w. w ++ ys) (sym (append-nil xs)) ∙ ap (λ w. (xs ++ w) ++ ys) (sym none)))

-- One more entry of a book, with what is at a key of a node. A proof opens the parts that it speaks of.
pub record AtEntry : Type 0 where
  pub e : Entry
  pub more : List Entry
  pub at_key : List Change → List Change
  pub commits : (BranchId → Bool) → List Entry → List Change

abbrev pub at_entry : ℕ → List ℕ → Value → List Entry → Entry → AtEntry
at_entry n table key book e = record { e = e; more = book ++ e ∷ []; at_key = λ cs. picked n table key cs; commits = λ counts bk. committed_by n table key counts bk }

module _ (n : ℕ) (table : List ℕ) (key : Value) where
  abbrev at_key : List Change → List Change
  at_key cs = picked n table key cs

  abbrev commits : (BranchId → Bool) → List Entry → List Change
  commits counts book = committed_by n table key counts book

  -- what an open branch has at the key, where its transaction was decided
  abbrev pub waiting : List Entry → BranchId → BranchId → List Change
  waiting book b g = if stands (is_decision_on g) book then at_key (changes_of book b) else []

  abbrev pub Waits : List Entry → Type 0
  Waits book = (b g : BranchId) (cs : List Change) (scn : ℕ) → IsOne (entries.Sealed b g cs scn) book → b.node ≡ n → is_open book b ≡ true
      → commits (counted_or b book) book ≡ commits (counted book) book ++ waiting book b g

  pub record Tells (book : List Entry) : Type 0 where
    pub told : commits (counted book) book ≡ at_key (committed_at [] n book)
    pub waits : Waits book

  -- an entry that has no changes, seals nothing and decides nothing
  pub record IsQuiet (e : Entry) : Type 0 where
    pub none : (b : BranchId) → changes_in b e ≡ []
    pub parts : (counts : BranchId → Bool) (g : BranchId) → part n table key counts g e ≡ []
    pub undecided : (g : BranchId) → is_decision_on g e ≡ false
    pub unsealed : (b g : BranchId) (cs : List Change) (scn : ℕ) → e ≡ entries.Sealed b g cs scn → ⊥

  module _ (book : List Entry) (e : Entry) where
    abbrev more : List Entry
    more = book ++ e ∷ []

    -- what is told with one more entry
    pub told_next : commits (counted more) more ≡ at_key (committed_at [] n book) ++ at_key (commits_now book n e) → commits (counted more) more ≡ at_key (committed_at [] n more)
    told_next is = is ∙ (sym (filter-append (is_change_of table key) (committed_at [] n book) (commits_now book n e)) ∙ ap at_key (sym (committed_more [] n book e)))

    pub told_on : commits (counted more) more ≡ commits (counted book) book → commits_now book n e ≡ [] → Tells book → commits (counted more) more ≡ at_key (committed_at [] n more)
    told_on is none now = told_next (is ∙ (now.told ∙ (sym (append-nil (at_key (committed_at [] n book))) ∙ ap (λ cs. at_key (committed_at [] n book) ++ at_key cs) (sym none))))

    -- tests that count the same branches commit the same
    pub same_commits : (counts others : BranchId → Bool) (bk : List Entry) → ((b : BranchId) → b.node ≡ n → counts b ≡ others b) → commits counts bk ≡ commits others bk
    same_commits counts others bk same_tests = alike_commits n table key counts others bk (λ b here. inl (same_tests b here))

    module _ (quiet : IsQuiet e) where
      pub quiet_commits : (counts : BranchId → Bool) → commits counts more ≡ commits counts book ++ gives n table key counts more e
      quiet_commits counts = commits_more n table key counts book e (λ x there. quiet_stays n table key counts book e (λ b. ap at_key (quiet.none b)) (quiet.parts counts) x)

      pub quiet_waiting : (b g : BranchId) → waiting more b g ≡ waiting book b g
      quiet_waiting b g =
          ap (λ q. if q then at_key (changes_of more b) else []) (any_same (is_decision_on g) book e (quiet.undecided g))
          ∙ ap (λ cs. if stands (is_decision_on g) book then cs else []) (picked_same n table key (λ z. true) book e b (ap at_key (quiet.none b)))

      pub quiet_old : (b g : BranchId) (cs : List Change) (scn : ℕ) → IsOne (entries.Sealed b g cs scn) more → IsOne (entries.Sealed b g cs scn) book
      quiet_old b g cs scn there = elim (one_of_more (entries.Sealed b g cs scn) book e there) [ inl old ↦ old | inr new ↦ absurd (quiet.unsealed b g cs scn new) ]

  -- ---- an entry that changes nothing: a table, or a decision that a forced branch met

  module _ (book : List Entry) (e : Entry) (quiet : IsQuiet e) (silent : (counts : BranchId → Bool) (bk : List Entry) → gives n table key counts bk e ≡ []) (commits_none : commits_now book n e ≡ [])
      (still : (b : BranchId) → (is_forced_of b e ≡ false) × (is_sealed_of b e ≡ false) × (is_end_of b e ≡ false)) (now : Tells book) where
    silent_commits : (counts : BranchId → Bool) → commits counts (book ++ e ∷ []) ≡ commits counts book
    silent_commits counts = quiet_commits book e quiet counts ∙ (ap (λ cs. commits counts book ++ cs) (silent counts (book ++ e ∷ [])) ∙ append-nil (commits counts book))

    counts_on : (b : BranchId) → counted (book ++ e ∷ []) b ≡ counted book b
    counts_on b = same_counted book e b (still b).0 (still b).1 (still b).2

    counted_commits : commits (counted (book ++ e ∷ [])) (book ++ e ∷ []) ≡ commits (counted book) book
    counted_commits = same_commits book e (counted (book ++ e ∷ [])) (counted book) (book ++ e ∷ []) (λ b here. counts_on b) ∙ silent_commits (counted book)

    pub silent_tells : Tells (book ++ e ∷ [])
    silent_tells = record { told = told_on book e counted_commits commits_none now; waits = waits }
      where
        waits : Waits (book ++ e ∷ [])
        waits b g cs scn there here opened =
            same_commits book e (counted_or b (book ++ e ∷ [])) (counted_or b book) (book ++ e ∷ []) (λ c at. ap (λ q. q || same b c) (counts_on c))
            ∙ (silent_commits (counted_or b book)
            ∙ (now.waits b g cs scn (quiet_old book e quiet b g cs scn there) here (sym (same_open book e b (still b).1 (still b).2) ∙ opened)
            ∙ (ap (λ xs. xs ++ waiting book b g) (sym counted_commits) ∙ ap (λ xs. commits (counted (book ++ e ∷ [])) (book ++ e ∷ []) ++ xs) (sym (quiet_waiting book e quiet b g)))))
