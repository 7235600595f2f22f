-- The branches that may hold undo are those of the two maps.
use Rattle.std.proofs.Common.{◌≡◌, List, [], ◌∷◌, ◌++◌, map, refl, ap, ◌∙◌}
use Rattle.std.specs.Map.{keys_of}
use Rattle.tran_ids.specs.declared.branch.BranchId.{BranchId}
use Rattle.undo_pool.specs.Pool.{PoolState}
use Rattle.row_store.specs.ByBranch.{KeptSets, KeptDoubt, owns_in, doubts_in}
use Rattle.row_store.specs.Store.{own_id, doubt_id, holders}

own_ids : (p : PoolState) (es : List (BranchId × KeptSets)) → map own_id (owns_in p es) ≡ keys_of es
own_ids p [] = refl
own_ids p (e ∷ es) = ap (λ bs. e.0 ∷ bs) (own_ids p es)

doubt_ids : (p : PoolState) (ds : List (BranchId × KeptDoubt)) → map doubt_id (doubts_in p ds) ≡ keys_of ds
doubt_ids p [] = refl
doubt_ids p (d ∷ ds) = ap (λ bs. d.0 ∷ bs) (doubt_ids p ds)

pub holders_are : (p : PoolState) (es : List (BranchId × KeptSets)) (ds : List (BranchId × KeptDoubt)) → holders (owns_in p es) (doubts_in p ds) ≡ keys_of es ++ keys_of ds
holders_are p es ds = ap (λ bs. bs ++ map doubt_id (doubts_in p ds)) (own_ids p es) ∙ ap (λ bs. keys_of es ++ bs) (doubt_ids p ds)
