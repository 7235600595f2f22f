-- The row of a branch in a list of rows, after the changes that a record makes of them.
use Rattle.std.proofs.Common.{◌≡◌, ◌+◌, ◌≤◌, ◌&&◌, not, Bool, true, false, if◌then◌else◌, List, [], ◌∷◌, option_map, Option, Some, None, refl, sym, ap, ◌∙◌, arith}
use Rattle.tran_ids.specs.Branch.{branch_below}
use Rattle.tran_ids.proofs.BranchLemmas.{equal_from_same}
use Rattle.redo_record.specs.Kept.{stands_at, add_kept, is_done}
use Rattle.redo_record.specs.Lists.{change_where, drop_where}
use Rattle.node_rules.specs.Data.{BranchId, KeptRow}
use Rattle.node_rules.specs.Words.{same, item_at}
use Rattle.node_rules.specs.NodeState.{kept_row_id}
use Rattle.run_base_laws.specs.NodeLaws.{count_of}

-- a row that is mixed
abbrev pub if_mixed : Option KeptRow → Option KeptRow
if_mixed None = None
if_mixed (Some s) = if s.mixed then Some s else None

module _ (b : BranchId) where
  abbrev row_in : List KeptRow → Option KeptRow
  row_in ks = item_at kept_row_id ks b

  pub changed_other : (c : BranchId) (g : KeptRow → KeptRow) → ((x : KeptRow) → (g x).me ≡ x.me) → same c b ≡ false → (ks : List KeptRow) → row_in (change_where (stands_at c) g ks) ≡ row_in ks
  changed_other c g me other [] = refl
  changed_other c g me other (x ∷ ks) = by (same x.me c) refl (changed_other c g me other ks)
    where
      by : (q : Bool) → same x.me c ≡ q → row_in (change_where (stands_at c) g ks) ≡ row_in ks
          → (if same (if q then g x else x).me b then Some (if q then g x else x) else row_in (change_where (stands_at c) g ks)) ≡ (if same x.me b then Some x else row_in ks)
      by true is later =
          let not_it : same x.me b ≡ false = ap (λ m. same m b) (equal_from_same x.me c is) ∙ other in
          ap (λ q. if q then Some (g x) else row_in (change_where (stands_at c) g ks)) (ap (λ m. same m b) (me x) ∙ not_it) ∙ (later ∙ sym (ap (λ q. if q then Some x else row_in ks) not_it))
      by false is later = ap (λ o. if same x.me b then Some x else o) later

  pub changed_same : (g : KeptRow → KeptRow) → ((x : KeptRow) → (g x).me ≡ x.me) → (ks : List KeptRow) → row_in (change_where (stands_at b) g ks) ≡ option_map g (row_in ks)
  changed_same g me [] = refl
  changed_same g me (x ∷ ks) = by (same x.me b) refl (changed_same g me ks)
    where
      by : (q : Bool) → same x.me b ≡ q → row_in (change_where (stands_at b) g ks) ≡ option_map g (row_in ks)
          → (if same (if q then g x else x).me b then Some (if q then g x else x) else row_in (change_where (stands_at b) g ks)) ≡ option_map g (if q then Some x else row_in ks)
      by true is later = ap (λ q. if q then Some (g x) else row_in (change_where (stands_at b) g ks)) (ap (λ m. same m b) (me x) ∙ is)
      by false is later = ap (λ q. if q then Some x else row_in (change_where (stands_at b) g ks)) is ∙ later

  pub dropped_other : (p : KeptRow → Bool) → ((x : KeptRow) → same x.me b ≡ true → p x ≡ false) → (ks : List KeptRow) → row_in (drop_where p ks) ≡ row_in ks
  dropped_other p own [] = refl
  dropped_other p own (x ∷ ks) = by (p x) refl (same x.me b) refl (dropped_other p own ks)
    where
      by : (q : Bool) → p x ≡ q → (here : Bool) → same x.me b ≡ here → row_in (drop_where p ks) ≡ row_in ks
          → row_in (if not q then x ∷ drop_where p ks else drop_where p ks) ≡ (if here then Some x else row_in ks)
      by false goes here is later = ap (λ o. if same x.me b then Some x else o) later ∙ ap (λ q. if q then Some x else row_in ks) is
      by true goes true is later = (let stays = own x is in absurd (cc (goes, stays)))
      by true goes false is later = later

  pub dropped_all : (ks : List KeptRow) → row_in (drop_where (stands_at b) ks) ≡ None
  dropped_all [] = refl
  dropped_all (x ∷ ks) = by (same x.me b) refl (dropped_all ks)
    where
      by : (q : Bool) → same x.me b ≡ q → row_in (drop_where (stands_at b) ks) ≡ None → row_in (if not q then x ∷ drop_where (stands_at b) ks else drop_where (stands_at b) ks) ≡ None
      by true is later = later
      by false is later = ap (λ q. if q then Some x else row_in (drop_where (stands_at b) ks)) is ∙ later

  none_counted : (ks : List KeptRow) → count_of kept_row_id b ks ≤ 0 → row_in ks ≡ None
  none_counted [] none = refl
  none_counted (x ∷ ks) none = by (same x.me b) none (λ less. none_counted ks less)
    where
      by : (q : Bool) → (if q then 1 + count_of kept_row_id b ks else count_of kept_row_id b ks) ≤ 0 → (count_of kept_row_id b ks ≤ 0 → row_in ks ≡ None) → (if q then Some x else row_in ks) ≡ None
      by true some later = absurd (omega (arith, some))
      by false less later = later less

  none_dropped : (p : KeptRow → Bool) (ks : List KeptRow) → row_in ks ≡ None → row_in (drop_where p ks) ≡ None
  none_dropped p [] none = refl
  none_dropped p (x ∷ ks) none = by (same x.me b) refl none (p x) (λ less. none_dropped p ks less)
    where
      by : (here : Bool) → same x.me b ≡ here → (if here then Some x else row_in ks) ≡ None → (q : Bool) → (row_in ks ≡ None → row_in (drop_where p ks) ≡ None)
          → row_in (if not q then x ∷ drop_where p ks else drop_where p ks) ≡ None
      by true is none q later = absurd cc
      by false is none true later = later none
      by false is none false later = ap (λ q. if q then Some x else row_in (drop_where p ks)) is ∙ later none

  pub dropped_done : (ks : List KeptRow) → count_of kept_row_id b ks ≤ 1 → row_in (drop_where (is_done b) ks) ≡ if_mixed (row_in ks)
  dropped_done [] one = refl
  dropped_done (x ∷ ks) one = by (same x.me b) refl x.mixed refl one (λ less. dropped_done ks less)
    where
      by : (here : Bool) → same x.me b ≡ here → (mixed : Bool) → x.mixed ≡ mixed → (if here then 1 + count_of kept_row_id b ks else count_of kept_row_id b ks) ≤ 1
          → (count_of kept_row_id b ks ≤ 1 → row_in (drop_where (is_done b) ks) ≡ if_mixed (row_in ks))
          → row_in (if not (here && not mixed) then x ∷ drop_where (is_done b) ks else drop_where (is_done b) ks) ≡ if_mixed (if here then Some x else row_in ks)
      by true is true mixed one later =
          ap (λ q. if q then Some x else row_in (drop_where (is_done b) ks)) is ∙ sym (ap (λ q. if q then Some x else None) mixed)
      by true is false mixed one later = none_dropped (is_done b) ks (none_counted ks (omega (arith, one))) ∙ sym (ap (λ q. if q then Some x else None) mixed)
      by false is true mixed one later = ap (λ q. if q then Some x else row_in (drop_where (is_done b) ks)) is ∙ later one
      by false is false mixed one later = ap (λ q. if q then Some x else row_in (drop_where (is_done b) ks)) is ∙ later one

  pub put_other : (ks : List KeptRow) (x : KeptRow) → same x.me b ≡ false → row_in (add_kept ks x) ≡ row_in ks
  put_other [] x other = ap (λ q. if q then Some x else None) other
  put_other (y ∷ ys) x other = by (branch_below x.me y.me) (put_other ys x other)
    where
      by : (q : Bool) → row_in (add_kept ys x) ≡ row_in ys → row_in (if q then x ∷ y ∷ ys else y ∷ add_kept ys x) ≡ row_in (y ∷ ys)
      by true later = ap (λ q. if q then Some x else row_in (y ∷ ys)) other
      by false later = ap (λ o. if same y.me b then Some y else o) later

  pub put_same : (ks : List KeptRow) (x : KeptRow) → same x.me b ≡ true → row_in ks ≡ None → row_in (add_kept ks x) ≡ Some x
  put_same [] x here none = ap (λ q. if q then Some x else None) here
  put_same (y ∷ ys) x here none = by (branch_below x.me y.me) (same y.me b) refl none (λ less. put_same ys x here less)
    where
      by : (q : Bool) (own : Bool) → same y.me b ≡ own → (if own then Some y else row_in ys) ≡ None → (row_in ys ≡ None → row_in (add_kept ys x) ≡ Some x)
          → row_in (if q then x ∷ y ∷ ys else y ∷ add_kept ys x) ≡ Some x
      by true own is none later = ap (λ q. if q then Some x else row_in (y ∷ ys)) here
      by false true is none later = absurd cc
      by false false is none later = ap (λ q. if q then Some y else row_in (add_kept ys x)) is ∙ later none
