-- The rows of DBA_2PC_PENDING are as many as the branches that have one.
use Rattle.std.proofs.Common.{◌≡◌, ◌∙◌, suc, ◌+◌, Bool, true, false, List, [], ◌∷◌, ◌++◌, length, map, refl, ap, arith}
use Rattle.std.specs.Prelude.{cond, count_by, filter, fold, not}
use Rattle.std.proofs.lemmas.List.{length-append, length-map}
use Rattle.std.proofs.lemmas.List.Sums.{length-filter}
use Rattle.tran_ids.specs.declared.branch.BranchId.{BranchId}
use Rattle.tran_ids.specs.Branch.{branch_below, put_by_branch}
use Rattle.redo_record.specs.declared.durable.KeptRow.{KeptRow}
use Rattle.session_tree.specs.declared.live.Live.{Live}
use Rattle.pending_view.specs.Views.{Pending, has_sent_prepare, in_view, pending_kept, pending_live, pending_rows}

put_longer : {A : Type 0} (id : A → BranchId) (ys : List A) (x : A) → length (put_by_branch id ys x) ≡ suc (length ys)
put_longer id [] x = refl
put_longer id (y ∷ ys) x = by (branch_below (id x) (id y)) (put_longer id ys x)
  where
    by : (b : Bool) → length (put_by_branch id ys x) ≡ suc (length ys) → length (cond b (x ∷ y ∷ ys) (y ∷ put_by_branch id ys x)) ≡ suc (suc (length ys))
    by true longer = refl
    by false longer = ap suc longer

sorted_long : {A : Type 0} (id : A → BranchId) (xs acc : List A) → length (fold (put_by_branch id) acc xs) ≡ length acc + length xs
sorted_long id [] acc = omega arith
sorted_long id (x ∷ xs) acc = let more = sorted_long id xs (put_by_branch id acc x) in omega (arith, more, put_longer id acc x)

pub rows_counted : (kept : List KeptRow) (lives : List Live) → count_by has_sent_prepare lives + count_by (λ s. not s.hidden) kept ≡ length (pending_rows kept lives)
unfolding pending_rows
rows_counted kept lives =
    let collecting = map pending_live (filter has_sent_prepare lives) in
    let all = sorted_long (λ (r : Pending). r.me) (collecting ++ map pending_kept (in_view kept)) [] in
    let first = length-map (filter has_sent_prepare lives) pending_live ∙ length-filter has_sent_prepare lives in
    let second = length-map (in_view kept) pending_kept ∙ length-filter (λ (s : KeptRow). not s.hidden) kept in
    omega (arith, all, first, second, length-append collecting (map pending_kept (in_view kept)))
