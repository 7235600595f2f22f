-- The rows of one branch among those that a node keeps, each told by its mark as mixed: what a change of rows leaves of them.
use Rattle.std.proofs.Common.{◌≡◌, ◌&&◌, ◌||◌, not, Bool, true, false, if◌then◌else◌, List, [], ◌∷◌, filter, map, refl, sym, ap, ◌∙◌}
use Rattle.std.specs.List.{list_any}
use Rattle.std.proofs.lemmas.Bool.{cond_both}
use Rattle.tran_ids.specs.Branch.{branch_below}
use Rattle.tran_ids.proofs.BranchLemmas.{equal_from_same, same_from_equal}
use Rattle.redo_record.specs.Kept.{stands_at, add_kept, is_done}
use Rattle.node_rules.specs.Data.{BranchId, KeptRow}
use Rattle.node_rules.specs.Words.{same, change_where, drop_where}
use Rattle.run_base_laws.proofs.RowEventLemmas.{same_turned}

-- whether there is a mark
abbrev pub some_mark : List Bool → Bool
some_mark [] = false
some_mark (m ∷ ms) = true

module _ (b : BranchId) where
  -- the marks of the branch's rows
  abbrev pub marks : List KeptRow → List Bool
  marks [] = []
  marks (x ∷ ks) = if same x.me b then x.mixed ∷ marks ks else marks ks

  pub has_marks : (ks : List KeptRow) → list_any (stands_at b) ks ≡ some_mark (marks ks)
  has_marks [] = refl
  has_marks (x ∷ ks) = by (same x.me b) (has_marks ks)
    where
      by : (q : Bool) → list_any (stands_at b) ks ≡ some_mark (marks ks) → (q || list_any (stands_at b) ks) ≡ some_mark (if q then x.mixed ∷ marks ks else marks ks)
      by true rest = refl
      by false rest = rest

  -- a row of the branch is another branch's, or this one's
  other_row : (c : BranchId) → same c b ≡ false → (x : KeptRow) → same x.me b ≡ true → same x.me c ≡ false
  other_row c other x here = ap (λ m. same m c) (equal_from_same x.me b here) ∙ same_turned c b other

  own_row : (c : BranchId) → same c b ≡ true → (x : KeptRow) → same x.me b ≡ true → same x.me c ≡ true
  own_row c own x here = same_from_equal x.me c (equal_from_same x.me b here ∙ sym (equal_from_same c b own))

  -- ---- one row more

  pub marks_put : (x : KeptRow) → same x.me b ≡ false → (ks : List KeptRow) → marks (add_kept ks x) ≡ marks ks
  marks_put x other [] = ap (λ q. if q then x.mixed ∷ [] else []) other
  marks_put x other (y ∷ ys) =
      cond_both (branch_below x.me y.me) _ _ (λ zs. marks zs ≡ marks (y ∷ ys)) (λ below. ap (λ q. if q then x.mixed ∷ marks (y ∷ ys) else marks (y ∷ ys)) other)
      (λ later. ap (λ ms. if same y.me b then y.mixed ∷ ms else ms) (marks_put x other ys))

  pub marks_new : (x : KeptRow) → same x.me b ≡ true → (ks : List KeptRow) → marks ks ≡ [] → marks (add_kept ks x) ≡ x.mixed ∷ []
  marks_new x own [] none = ap (λ q. if q then x.mixed ∷ [] else []) own
  marks_new x own (y ∷ ys) none =
      cond_both (branch_below x.me y.me) _ _ (λ zs. marks zs ≡ x.mixed ∷ []) (λ below. ap (λ q. if q then x.mixed ∷ marks (y ∷ ys) else marks (y ∷ ys)) own ∙ ap (λ ms. x.mixed ∷ ms) none)
      (λ later. by (same y.me b) refl none (marks_new x own ys))
    where
      by : (q : Bool) → same y.me b ≡ q → (if q then y.mixed ∷ marks ys else marks ys) ≡ [] → (marks ys ≡ [] → marks (add_kept ys x) ≡ x.mixed ∷ []) → marks (y ∷ add_kept ys x) ≡ x.mixed ∷ []
      by true is none rest = absurd cc
      by false is none rest = ap (λ q. if q then y.mixed ∷ marks (add_kept ys x) else marks (add_kept ys x)) is ∙ rest none

  -- ---- rows that are changed

  pub marks_map : (h : KeptRow → KeptRow) (f : Bool → Bool) → ((x : KeptRow) → (h x).me ≡ x.me) → ((x : KeptRow) → same x.me b ≡ true → (h x).mixed ≡ f x.mixed) → (ks : List KeptRow) → marks (map h ks) ≡ map f (marks ks)
  marks_map h f me mark [] = refl
  marks_map h f me mark (x ∷ ks) = ap (λ m. if same m b then (h x).mixed ∷ marks (map h ks) else marks (map h ks)) (me x) ∙ by (same x.me b) refl (marks_map h f me mark ks)
    where
      by : (q : Bool) → same x.me b ≡ q → marks (map h ks) ≡ map f (marks ks) → (if q then (h x).mixed ∷ marks (map h ks) else marks (map h ks)) ≡ map f (if q then x.mixed ∷ marks ks else marks ks)
      by true is rest = ap (λ m. m ∷ marks (map h ks)) (mark x is) ∙ ap (λ ms. f x.mixed ∷ ms) rest
      by false is rest = rest

  map_same : (ms : List Bool) → map (λ m. m) ms ≡ ms
  map_same [] = refl
  map_same (m ∷ ms) = ap (λ xs. m ∷ xs) (map_same ms)

  module _ (c : BranchId) (g : KeptRow → KeptRow) (me : (x : KeptRow) → (g x).me ≡ x.me) where
    abbrev changed : KeptRow → KeptRow
    changed x = if stands_at c x then g x else x

    changed_me : (x : KeptRow) → (changed x).me ≡ x.me
    changed_me x = cond_both (stands_at c x) (g x) x (λ y. y.me ≡ x.me) (λ here. me x) (λ other. refl)

    -- a change that leaves the mark
    pub marks_kept : ((x : KeptRow) → (g x).mixed ≡ x.mixed) → (ks : List KeptRow) → marks (change_where (stands_at c) g ks) ≡ marks ks
    marks_kept mark ks =
        marks_map changed (λ m. m) changed_me (λ x here. cond_both (stands_at c x) (g x) x (λ y. y.mixed ≡ x.mixed) (λ is. mark x) (λ other. refl)) ks ∙ map_same (marks ks)

    -- one of another branch's rows
    pub marks_other : same c b ≡ false → (ks : List KeptRow) → marks (change_where (stands_at c) g ks) ≡ marks ks
    marks_other other ks =
        marks_map changed (λ m. m) changed_me (λ x here. ap (λ q. (if q then g x else x).mixed) (other_row c other x here)) ks ∙ map_same (marks ks)

    -- and one that sets it
    pub marks_set : same c b ≡ true → (m : Bool) → ((x : KeptRow) → (g x).mixed ≡ m) → (ks : List KeptRow) → marks (change_where (stands_at c) g ks) ≡ map (λ q. m) (marks ks)
    marks_set own m mark ks = marks_map changed (λ q. m) changed_me (λ x here. ap (λ q. (if q then g x else x).mixed) (own_row c own x here) ∙ mark x) ks

  -- ---- rows that are left out

  pub marks_drop : (p : KeptRow → Bool) (f : Bool → Bool) → ((x : KeptRow) → same x.me b ≡ true → not (p x) ≡ f x.mixed) → (ks : List KeptRow) → marks (drop_where p ks) ≡ filter f (marks ks)
  marks_drop p f stays [] = refl
  marks_drop p f stays (x ∷ ks) = by (same x.me b) refl (marks_drop p f stays ks)
    where
      rest_of : (q : Bool) → not (p x) ≡ q → same x.me b ≡ false → marks (drop_where p ks) ≡ filter f (marks ks) → marks (if q then x ∷ drop_where p ks else drop_where p ks) ≡ filter f (marks ks)
      rest_of true at other rest = ap (λ q. if q then x.mixed ∷ marks (drop_where p ks) else marks (drop_where p ks)) other ∙ rest
      rest_of false at other rest = rest

      own_of : (q : Bool) → same x.me b ≡ true → marks (drop_where p ks) ≡ filter f (marks ks) → marks (if q then x ∷ drop_where p ks else drop_where p ks) ≡ (if q then x.mixed ∷ filter f (marks ks) else filter f (marks ks))
      own_of true own rest = ap (λ q. if q then x.mixed ∷ marks (drop_where p ks) else marks (drop_where p ks)) own ∙ ap (λ ms. x.mixed ∷ ms) rest
      own_of false own rest = rest

      by : (q : Bool) → same x.me b ≡ q → marks (drop_where p ks) ≡ filter f (marks ks) → marks (if not (p x) then x ∷ drop_where p ks else drop_where p ks) ≡ filter f (if q then x.mixed ∷ marks ks else marks ks)
      by true own rest = own_of (not (p x)) own rest ∙ ap (λ q. if q then x.mixed ∷ filter f (marks ks) else filter f (marks ks)) (stays x own)
      by false other rest = rest_of (not (p x)) refl other rest

  all_stay : (ms : List Bool) → filter (λ m. true) ms ≡ ms
  all_stay [] = refl
  all_stay (m ∷ ms) = ap (λ xs. m ∷ xs) (all_stay ms)

  none_stay : (ms : List Bool) → filter (λ m. false) ms ≡ []
  none_stay [] = refl
  none_stay (m ∷ ms) = none_stay ms

  -- all of another branch
  pub drop_other : (c : BranchId) → same c b ≡ false → (ks : List KeptRow) → marks (drop_where (stands_at c) ks) ≡ marks ks
  drop_other c other ks = marks_drop (stands_at c) (λ m. true) (λ x here. ap not (other_row c other x here)) ks ∙ all_stay (marks ks)

  -- and all of its own
  pub drop_own : (c : BranchId) → same c b ≡ true → (ks : List KeptRow) → marks (drop_where (stands_at c) ks) ≡ []
  drop_own c own ks = marks_drop (stands_at c) (λ m. false) (λ x here. ap not (own_row c own x here)) ks ∙ none_stay (marks ks)

  -- those of another branch that forgets
  pub done_other : (c : BranchId) → same c b ≡ false → (ks : List KeptRow) → marks (drop_where (is_done c) ks) ≡ marks ks
  done_other c other ks = marks_drop (is_done c) (λ m. true) (λ x here. ap (λ q. not (q && not x.mixed)) (other_row c other x here)) ks ∙ all_stay (marks ks)

  not_not : (q : Bool) → not (not q) ≡ q
  not_not true = refl
  not_not false = refl

  -- and its own but for mixed ones
  pub done_own : (c : BranchId) → same c b ≡ true → (ks : List KeptRow) → marks (drop_where (is_done c) ks) ≡ filter (λ m. m) (marks ks)
  done_own c own ks = marks_drop (is_done c) (λ m. m) (λ x here. ap (λ q. not (q && not x.mixed)) (own_row c own x here) ∙ not_not x.mixed) ks
