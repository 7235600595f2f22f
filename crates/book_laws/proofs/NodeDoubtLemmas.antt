-- The branches in doubt of a node, with what they hold back, are those of its book.
use Rattle.std.proofs.Common.{◌≡◌, ℕ, ◌==◌, ◌||◌, ◌&&◌, not, Bool, true, false, true≢false, if◌then◌else◌, List, [], ◌∷◌, ◌++◌, filter, flat_map, map, inl, inr, refl, sym, ap, subst, ◌∙◌, append-nil, append_assoc}
use Rattle.std.specs.List.{AllByRecursion, list_any}
use Rattle.std.proofs.lemmas.Bool.{eq-eqb}
use Rattle.tran_ids.proofs.BranchLemmas.{equal_from_same, same_from_equal}
use Rattle.agreement.proofs.BookTests.{not_true}
use Rattle.node_rules.specs.Data.{Value, Change, BranchId, RedoRecord, Doubt}
use Rattle.node_rules.specs.Data.records
use Rattle.node_rules.specs.NodeState.{Stored, doubt_id}
use Rattle.node_rules.specs.Records.{applied, nothing_stored, stored_by, doubt_over}
use Rattle.node_rules.specs.Words.{same, same_text, drop_item, put_by_branch}
use Rattle.run_rules.specs.Data.{Entry}
use Rattle.run_rules.specs.Data.entries
use Rattle.run_rules.specs.Book.{is_sealed_of, is_end_of, stands, EachAgainst, changes_in, changes_of, doubt_in, in_doubt}
use Rattle.run_rules.specs.Entries.{entry_of, book_of}
use Rattle.run_rules.specs.Facts.{records_at}
use Rattle.run_rules.specs.Lawful.{facts_at}
use Rattle.run_rules.specs.Runs.{keys_in_doubt}
use Rattle.tran_ids.specs.Branch.{branch_below}
use Rattle.run_rules.proofs.ListLemmas.{all_put}
use Rattle.run_key_laws.proofs.KeyRunLemmas.{doubts_same}
use Rattle.run_base_laws.proofs.StoredLemmas.{records_are_kept}
use Rattle.run_key_laws.proofs.ToldLemmas.{changes_more}
use Rattle.tree_laws.proofs.AgreeLemmas.{runs_agree}
use Rattle.book_laws.proofs.PlaceLemmas.{IsOne}
use Rattle.book_laws.proofs.DiskLemmas.{books_are_of_disks}
use Rattle.book_laws.proofs.DoubtLemmas.{IsOpenIn, open_of}
use Rattle.book_laws.specs.RowLaws.{doubtful_keys, DoubtsAgree}
use Rattle.book_laws.proofs.FlatLemmas.{same_flat, filter_flat, flat_last, any_same, any_more}
use Rattle.book_laws.proofs.NodeBookLemmas.{own_entries, own_in_doubt, own_changes_of, SealsAlone, ComesHere, all_here}
use Rattle.book_laws.proofs.OpenLemmas.{seal_found, no_changes}
use Rattle.book_laws.proofs.RowLemmas.{run_book}

-- ---- lists

all_of_one : {A : Type 0} (P Q : A → Type 0) (xs : List A) → ((x : A) → IsOne x xs → P x → Q x) → AllByRecursion P xs → AllByRecursion Q xs
all_of_one P Q [] each all = tt
all_of_one P Q (x ∷ xs) each all = (each x (inl refl) all.0, all_of_one P Q xs (λ y there is. each y (inr there) is) all.1)

all_filtered : {A : Type 0} (P : A → Type 0) (p : A → Bool) (xs : List A) → AllByRecursion P xs → AllByRecursion P (filter p xs)
all_filtered P p [] all = tt
all_filtered P p (x ∷ xs) all = by (p x) (all_filtered P p xs all.1)
  where
    by : (q : Bool) → AllByRecursion P (filter p xs) → AllByRecursion P (if q then x ∷ filter p xs else filter p xs)
    by true rest = (all.0, rest)
    by false rest = rest

-- one that passes a test
one_passes : (p : BranchId → Bool) (d : Doubt) (ds : List Doubt) → IsOne d ds → p d.branch ≡ true → list_any p (map doubt_id ds) ≡ true
one_passes p d [] there is = absurd there
one_passes p d (x ∷ xs) (inl here) is = (let passes : p x.branch ≡ true = ap (λ (y : Doubt). p y.branch) here ∙ is in ap (λ q. q || list_any p (map doubt_id xs)) passes)
one_passes p d (x ∷ xs) (inr there) is = by (p x.branch) (one_passes p d xs there is)
  where
    by : (q : Bool) → list_any p (map doubt_id xs) ≡ true → (q || list_any p (map doubt_id xs)) ≡ true
    by true rest = refl
    by false rest = rest

passing_one : (b : BranchId) (bs : List BranchId) → list_any (λ c. same c b) bs ≡ true → IsOne b bs
passing_one b [] is = absurd cc
passing_one b (c ∷ bs) is = by (same c b) refl is (passing_one b bs)
  where
    by : (q : Bool) → same c b ≡ q → (q || list_any (λ d. same d b) bs) ≡ true → (list_any (λ d. same d b) bs ≡ true → IsOne b bs) → IsOne b (c ∷ bs)
    by true here is rest = inl (equal_from_same c b here)
    by false here is rest = inr (rest is)

-- by any test one is so, or none
any_behind : {A : Type 0} (p : A → Bool) (xs ys : List A) → list_any p (xs ++ ys) ≡ (list_any p xs || list_any p ys)
any_behind p [] ys = refl
any_behind p (x ∷ xs) ys = by (p x) (any_behind p xs ys)
  where
    by : (q : Bool) → list_any p (xs ++ ys) ≡ (list_any p xs || list_any p ys) → (q || list_any p (xs ++ ys)) ≡ ((q || list_any p xs) || list_any p ys)
    by true rest = refl
    by false rest = rest

any_flat : {A B : Type 0} (p : B → Bool) (g : A → List B) (xs : List A) → list_any p (flat_map g xs) ≡ list_any (λ x. list_any p (g x)) xs
any_flat p g [] = refl
any_flat p g (x ∷ xs) = any_behind p (g x) (flat_map g xs) ∙ ap (λ q. list_any p (g x) || q) (any_flat p g xs)

any_filtered : {A : Type 0} (p q : A → Bool) (xs : List A) → list_any p (filter q xs) ≡ list_any (λ x. q x && p x) xs
any_filtered p q [] = refl
any_filtered p q (x ∷ xs) = by (q x) (any_filtered p q xs)
  where
    by : (here : Bool) → list_any p (filter q xs) ≡ list_any (λ y. q y && p y) xs → list_any p (if here then x ∷ filter q xs else filter q xs) ≡ ((here && p x) || list_any (λ y. q y && p y) xs)
    by true rest = ap (λ r. p x || r) rest
    by false rest = rest

-- one placed by its id
any_placed : (p : BranchId → Bool) (ds : List Doubt) (d : Doubt) → list_any p (map doubt_id (put_by_branch doubt_id ds d)) ≡ (list_any p (map doubt_id ds) || p d.branch)
any_placed p [] d = by (p d.branch)
  where
    by : (q : Bool) → (q || false) ≡ q
    by true = refl
    by false = refl
any_placed p (x ∷ xs) d = by (branch_below d.branch x.branch) (any_placed p xs d)
  where
    or_last : (a b c : Bool) → (a || (b || c)) ≡ ((b || c) || a)
    or_last true true c = refl
    or_last true false true = refl
    or_last true false false = refl
    or_last false true c = refl
    or_last false false true = refl
    or_last false false false = refl

    or_next : (b c a : Bool) → (b || (c || a)) ≡ ((b || c) || a)
    or_next true c a = refl
    or_next false c a = refl

    by : (above : Bool) → list_any p (map doubt_id (put_by_branch doubt_id xs d)) ≡ (list_any p (map doubt_id xs) || p d.branch)
        → list_any p (map doubt_id (if above then d ∷ x ∷ xs else x ∷ put_by_branch doubt_id xs d)) ≡ ((p x.branch || list_any p (map doubt_id xs)) || p d.branch)
    by true rest = or_last (p d.branch) (p x.branch) (list_any p (map doubt_id xs))
    by false rest = ap (λ q. p x.branch || q) rest ∙ or_next (p x.branch) (list_any p (map doubt_id xs)) (p d.branch)

map_filtered : {A B : Type 0} (f : A → B) (p : B → Bool) (xs : List A) → map f (filter (λ x. p (f x)) xs) ≡ filter p (map f xs)
map_filtered f p [] = refl
map_filtered f p (x ∷ xs) = by (p (f x)) (map_filtered f p xs)
  where
    by : (q : Bool) → map f (filter (λ x. p (f x)) xs) ≡ filter p (map f xs) → map f (if q then x ∷ filter (λ x. p (f x)) xs else filter (λ x. p (f x)) xs) ≡ (if q then f x ∷ filter p (map f xs) else filter p (map f xs))
    by true rest = ap (λ ys. f x ∷ ys) rest
    by false rest = rest

-- ---- one entry more

module _ (n : ℕ) (es : List Entry) (e : Entry) where
  abbrev pub more : List Entry
  more = es ++ e ∷ []

  -- an entry that ends nobody
  doubt_same : ((b : BranchId) → is_end_of b e ≡ false) → (x : Entry) → doubt_in more n x ≡ doubt_in es n x
  doubt_same endless (entries.Sealed b g cs scn) = ap (λ q. if (b.node == n) && not q then b ∷ [] else []) (any_same (is_end_of b) es e (endless b))
  doubt_same endless (entries.Made m x) = refl
  doubt_same endless (entries.Decided b g cs scn) = refl
  doubt_same endless (entries.Ended b d) = refl
  doubt_same endless (entries.Forced b d) = refl
  doubt_same endless (entries.Met b d mixed) = refl

  pub doubts_more : ((b : BranchId) → is_end_of b e ≡ false) → in_doubt more n ≡ in_doubt es n ++ doubt_in more n e
  unfolding in_doubt
  doubts_more endless = flat_last (doubt_in more n) es e ∙ ap (λ bs. bs ++ doubt_in more n e) (same_flat (doubt_in more n) (doubt_in es n) es (λ x there. doubt_same endless x))

  -- one that ends this branch
  module _ (c : BranchId) (ends : (b : BranchId) → is_end_of b e ≡ same c b) (seals_none : doubt_in more n e ≡ []) where
    abbrev pub others : BranchId → Bool
    others b = not (same b c)

    doubt_less : (x : Entry) → doubt_in more n x ≡ filter others (doubt_in es n x)
    doubt_less (entries.Sealed b g cs scn) = ap (λ q. if (b.node == n) && not q then b ∷ [] else []) (any_more (is_end_of b) es e ∙ ap (λ q. stands (is_end_of b) es || q) (ends b)) ∙ by (b.node == n) (stands (is_end_of b) es) (same c b) refl
      where
        by : (here ended q : Bool) → same c b ≡ q → (if here && not (ended || q) then b ∷ [] else []) ≡ filter others (if here && not ended then b ∷ [] else [])
        by false ended q is = refl
        by true true q is = refl
        by true false true is = ap (λ k. if not k then b ∷ [] else []) (sym (same_from_equal b c (sym (equal_from_same c b is))))
        by true false false is = ap (λ k. if not k then b ∷ [] else []) (sym (not_true (same b c) (λ at. true≢false (sym (same_from_equal c b (sym (equal_from_same b c at))) ∙ is))))
    doubt_less (entries.Made m x) = refl
    doubt_less (entries.Decided b g cs scn) = refl
    doubt_less (entries.Ended b d) = refl
    doubt_less (entries.Forced b d) = refl
    doubt_less (entries.Met b d mixed) = refl

    pub doubts_less : in_doubt more n ≡ filter others (in_doubt es n)
    unfolding in_doubt
    doubts_less =
        flat_last (doubt_in more n) es e
        ∙ (ap (λ bs. flat_map (doubt_in more n) es ++ bs) seals_none
        ∙ (append-nil (flat_map (doubt_in more n) es)
        ∙ (same_flat (doubt_in more n) (λ x. filter others (doubt_in es n x)) es (λ x there. doubt_less x) ∙ sym (filter_flat others (doubt_in es n) es))))

-- ---- the doubts of a node

-- They are the branches in doubt by these entries, and hold back what the entries have of them.
pub record DoubtsStand (n : ℕ) (es : List Entry) (ds : List Doubt) : Type 0 where
  pub branches : (p : BranchId → Bool) → list_any p (map doubt_id ds) ≡ list_any p (in_doubt es n)
  pub changes : AllByRecursion (λ d. d.changes ≡ changes_of es d.branch) ds

module _ (n : ℕ) (es : List Entry) (ds : List Doubt) (now : DoubtsStand n es ds) where
  -- a branch in doubt is sealed by an entry
  in_doubt_sealed : (d : Doubt) → IsOne d ds → stands (is_sealed_of d.branch) es ≡ true
  in_doubt_sealed d there =
      let opened : IsOpenIn es n d.branch = open_of es n d.branch (passing_one d.branch (in_doubt es n) (sym (now.branches (λ c. same c d.branch)) ∙ one_passes (λ c. same c d.branch) d ds there (same_from_equal d.branch d.branch refl))) in
      seal_found es d.branch opened.global opened.changes opened.scn opened.sealed

  module _ (e : Entry) (alone : SealsAlone es e) where
    abbrev longer : List Entry
    longer = es ++ e ∷ []

    none_later : (b : BranchId) → stands (is_sealed_of b) es ≡ true → (x : Entry) → SealsAlone es x → changes_in b x ≡ []
    none_later b sealed (entries.Sealed c g cs scn) alone = ap (λ q. if q then cs else []) (not_true (same c b) (λ is. true≢false (sym sealed ∙ subst (λ z. stands (is_sealed_of z) es ≡ false) (equal_from_same c b is) alone.0)))
    none_later b sealed (entries.Decided c g cs scn) alone = ap (λ q. if q then cs else []) (not_true (same c b) (λ is. true≢false (sym sealed ∙ subst (λ z. stands (is_sealed_of z) es ≡ false) (equal_from_same c b is) alone)))
    none_later b sealed (entries.Made m x) alone = refl
    none_later b sealed (entries.Ended c d) alone = refl
    none_later b sealed (entries.Forced c d) alone = refl
    none_later b sealed (entries.Met c d mixed) alone = refl

    same_changes : (b : BranchId) → changes_in b e ≡ [] → changes_of longer b ≡ changes_of es b
    same_changes b none = changes_more es e b ∙ (ap (λ cs. changes_of es b ++ cs) none ∙ append-nil (changes_of es b))

    changes_on : AllByRecursion (λ d. d.changes ≡ changes_of longer d.branch) ds
    changes_on = all_of_one (λ d. d.changes ≡ changes_of es d.branch) (λ d. d.changes ≡ changes_of longer d.branch) ds
        (λ d there is. is ∙ sym (same_changes d.branch (none_later d.branch (in_doubt_sealed d there) e alone))) now.changes

    -- an entry that seals and ends nobody
    stands_on : ((b : BranchId) → is_end_of b e ≡ false) → doubt_in longer n e ≡ [] → DoubtsStand n longer ds
    stands_on endless none = record {
      branches = λ p. now.branches p ∙ ap (list_any p) (sym (append-nil (in_doubt es n)) ∙ (ap (λ bs. in_doubt es n ++ bs) (sym none) ∙ sym (doubts_more n es e endless)));
      changes = changes_on;
    }

    -- one that ends a branch
    stands_less : (c : BranchId) → ((b : BranchId) → is_end_of b e ≡ same c b) → doubt_in longer n e ≡ [] → DoubtsStand n longer (drop_item doubt_id ds c)
    stands_less c ends none = record {
      branches = λ p. ap (list_any p) (map_filtered doubt_id (λ b. not (same b c)) ds)
          ∙ (any_filtered p (λ b. not (same b c)) (map doubt_id ds)
          ∙ (now.branches (λ b. not (same b c) && p b) ∙ (sym (any_filtered p (λ b. not (same b c)) (in_doubt es n)) ∙ ap (list_any p) (sym (doubts_less n es e c ends none)))));
      changes = all_filtered (λ d. d.changes ≡ changes_of longer d.branch) (λ d. not (same d.branch c)) ds changes_on;
    }

  -- one that seals a branch
  stands_sealed : (b g : BranchId) (cs : List Change) (scn : ℕ) (d : Doubt) → SealsAlone es (entries.Sealed b g cs scn) → b.node ≡ n → d.branch ≡ b → d.changes ≡ cs → DoubtsStand n (es ++ entries.Sealed b g cs scn ∷ []) (put_by_branch doubt_id ds d)
  stands_sealed b g cs scn d alone here me changed = record {
    branches = λ p. any_placed p ds d
        ∙ (ap (λ q. q || p d.branch) (now.branches p)
        ∙ (ap (λ z. list_any p (in_doubt es n) || p z) me
        ∙ (ap (λ q. list_any p (in_doubt es n) || q) (or_none (p b))
        ∙ (sym (any_behind p (in_doubt es n) (b ∷ []))
        ∙ ap (list_any p) (ap (λ bs. in_doubt es n ++ bs) (sym own) ∙ sym (doubts_more n es (entries.Sealed b g cs scn) (λ z. refl)))))));
    changes = all_put (λ d. d.changes ≡ changes_of (es ++ entries.Sealed b g cs scn ∷ []) d.branch) doubt_id ds d (changes_on (entries.Sealed b g cs scn) alone)
        (changed ∙ (sym given ∙ ap (changes_of (es ++ entries.Sealed b g cs scn ∷ [])) (sym me)));
  }
    where
      or_none : (q : Bool) → q ≡ (q || false)
      or_none true = refl
      or_none false = refl

      own : doubt_in (es ++ entries.Sealed b g cs scn ∷ []) n (entries.Sealed b g cs scn) ≡ b ∷ []
      own =
          ap (λ q. if q && not (stands (is_end_of b) (es ++ entries.Sealed b g cs scn ∷ [])) then b ∷ [] else []) (eq-eqb b.node n here)
          ∙ ap (λ q. if not q then b ∷ [] else []) (any_same (is_end_of b) es (entries.Sealed b g cs scn) refl ∙ alone.2)

      given : changes_of (es ++ entries.Sealed b g cs scn ∷ []) b ≡ cs
      given = changes_more es (entries.Sealed b g cs scn) b ∙ (ap (λ xs. xs ++ (if same b b then cs else [])) (no_changes es b alone.0 alone.1) ∙ ap (λ q. if q then cs else []) (same_from_equal b b refl))

-- ---- records

module _ (n : ℕ) where
  abbrev told : List RedoRecord → List Entry
  told rs = flat_map (entry_of n) rs

  -- what a record needs of the entries before it
  abbrev pub RecordComes : List Entry → RedoRecord → Type 0
  RecordComes es (records.Sealed r) = ComesHere n es (entries.Sealed r.me r.root r.changes r.scn)
  RecordComes es (records.Decided r) = ComesHere n es (entries.Decided r.me r.root r.changes r.scn)
  RecordComes es _ = Unit {0}

  same_stands : {es : List Entry} {ds : List Doubt} → DoubtsStand n es ds → DoubtsStand n (es ++ []) ds
  same_stands {es} {ds} now = subst (λ xs. DoubtsStand n xs ds) (sym (append-nil es)) now

  pub record_stands : (es : List Entry) (s : Stored) (r : RedoRecord) → RecordComes es r → DoubtsStand n es s.doubts → DoubtsStand n (es ++ entry_of n r) (applied s r).doubts
  unfolding applied
  record_stands es s (records.Table t) comes now = stands_on n es s.doubts now (entries.Made n t) tt (λ b. refl) refl
  record_stands es s (records.Sealed r) comes now = stands_sealed n es s.doubts now r.me r.root r.changes r.scn (doubt_over s.rows r) comes.0 comes.1 refl refl
  record_stands es s (records.Decided r) comes now = stands_on n es s.doubts now (entries.Decided r.me r.root r.changes r.scn) comes.0 (λ b. refl) refl
  record_stands es s (records.Ended c d) comes now = stands_less n es s.doubts now (entries.Ended c d) tt c (λ b. refl) refl
  record_stands es s (records.Forced c d given) comes now = stands_less n es s.doubts now (entries.Forced c d) tt c (λ b. refl) refl
  record_stands es s (records.Met c d mixed) comes now = stands_on n es s.doubts now (entries.Met c d mixed) tt (λ b. refl) refl
  record_stands es s _ comes now = same_stands now

  one_comes : (es : List Entry) (r : RedoRecord) (rs : List RedoRecord) → EachAgainst (ComesHere n) es (entry_of n r ++ told rs) → RecordComes es r
  one_comes es (records.Sealed r) rs all = all.0
  one_comes es (records.Decided r) rs all = all.0
  one_comes es _ rs all = tt

  rest_comes : (es : List Entry) (r : RedoRecord) (rs : List RedoRecord) → EachAgainst (ComesHere n) es (entry_of n r ++ told rs) → EachAgainst (ComesHere n) (es ++ entry_of n r) (told rs)
  rest_comes es (records.Table t) rs all = all.1
  rest_comes es (records.Sealed r) rs all = all.1
  rest_comes es (records.Decided r) rs all = all.1
  rest_comes es (records.Ended b d) rs all = all.1
  rest_comes es (records.Forced b d given) rs all = all.1
  rest_comes es (records.Met b d mixed) rs all = all.1
  rest_comes es _ rs all = subst (λ xs. EachAgainst (ComesHere n) xs (told rs)) (sym (append-nil es)) all

  stands_by : (es : List Entry) (s : Stored) (rs : List RedoRecord) → EachAgainst (ComesHere n) es (told rs) → DoubtsStand n es s.doubts → DoubtsStand n (es ++ told rs) (stored_by s rs).doubts
  unfolding stored_by
  stands_by es s [] all now = same_stands now
  stands_by es s (r ∷ rs) all now =
      subst (λ xs. DoubtsStand n xs (stored_by (applied s r) rs).doubts) (append_assoc es (entry_of n r) (told rs))
      (stands_by (es ++ entry_of n r) (applied s r) rs (rest_comes es r rs all) (record_stands es s r (one_comes es r rs all) now))

  none_stand : DoubtsStand n [] []
  unfolding in_doubt
  none_stand = record { branches = λ p. refl; changes = tt }

  pub disk_stands : (rs : List RedoRecord) → EachAgainst (ComesHere n) [] (told rs) → DoubtsStand n (told rs) (stored_by nothing_stored rs).doubts
  disk_stands rs all = stands_by [] nothing_stored rs all none_stand

-- ---- every run

keys_of_branches : (es : List Entry) (table : List ℕ) (ds : List Doubt) → AllByRecursion (λ d. d.changes ≡ changes_of es d.branch) ds
    → flat_map (λ b. map (λ c. c.key) (filter (λ c. same_text c.table table) (changes_of es b))) (map doubt_id ds) ≡ doubtful_keys ds table
keys_of_branches es table [] all = refl
keys_of_branches es table (d ∷ ds) all =
    ap (λ cs. map (λ c. c.key) (filter (λ c. same_text c.table table) cs) ++ flat_map (λ b. map (λ c. c.key) (filter (λ c. same_text c.table table) (changes_of es b))) (map doubt_id ds)) (sym all.0)
    ∙ ap (λ ks. map (λ c. c.key) (filter (λ c. same_text c.table table) d.changes) ++ ks) (keys_of_branches es table ds all.1)

-- by the entries of a node
keys_by : (n : ℕ) (es : List Entry) (ds : List Doubt) (table : List ℕ) (test : Value → Bool) → DoubtsStand n es ds → list_any test (keys_in_doubt es n table) ≡ list_any test (doubtful_keys ds table)
keys_by n es ds table test stands =
    any_flat test keys (in_doubt es n)
    ∙ (sym (stands.branches (λ b. list_any test (keys b)))
    ∙ (sym (any_flat test keys (map doubt_id ds)) ∙ ap (list_any test) (keys_of_branches es table ds stands.changes)))
  where
    keys : BranchId → List Value
    keys b = map (λ c. c.key) (filter (λ c. same_text c.table table) (changes_of es b))

-- and by all of the book
own_keys : (n : ℕ) (book : List Entry) (table : List ℕ) → keys_in_doubt (own_entries n book) n table ≡ keys_in_doubt book n table
own_keys n book table =
    ap (λ bs. flat_map (λ b. map (λ c. c.key) (filter (λ c. same_text c.table table) (changes_of (own_entries n book) b))) bs) (own_in_doubt n book)
    ∙ same_flat (λ b. map (λ c. c.key) (filter (λ c. same_text c.table table) (changes_of (own_entries n book) b))) (λ b. map (λ c. c.key) (filter (λ c. same_text c.table table) (changes_of book b))) (in_doubt book n)
    (λ b there. ap (λ cs. map (λ c. c.key) (filter (λ c. same_text c.table table) cs)) (own_changes_of n book b (open_of book n b there).here))

pub doubts_agree : DoubtsAgree
doubts_agree t lawful n k up table test =
    let rs : List RedoRecord = records_at (facts_at t) n in
    let disk : own_entries n (book_of t.trace) ≡ flat_map (entry_of n) rs = books_are_of_disks t lawful n in
    let comes : EachAgainst (ComesHere n) [] (flat_map (entry_of n) rs) = subst (EachAgainst (ComesHere n) []) disk (all_here n (book_of t.trace) (runs_agree t lawful).0) in
    ap (λ book. list_any test (keys_in_doubt book n table)) (run_book t)
    ∙ (ap (list_any test) (sym (own_keys n (book_of t.trace) table))
    ∙ (ap (λ es. list_any test (keys_in_doubt es n table)) disk
    ∙ (keys_by n (flat_map (entry_of n) rs) (stored_by nothing_stored rs).doubts table test (disk_stands n rs comes)
    ∙ ap (λ ds. list_any test (doubtful_keys ds table)) (sym (doubts_same rs k (records_are_kept t lawful n k up))))))
