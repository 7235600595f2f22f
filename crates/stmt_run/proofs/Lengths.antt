-- The bytes of changes are no fewer than the changes, and of two lists those of the first and of the second.
use Rattle.std.proofs.Common.{◌≡◌, ◌+◌, ◌≤◌, List, [], ◌∷◌, ◌++◌, length, arith}
use Rattle.std.proofs.lemmas.List.Sums.{sum_by-cons, sum_by-append}
use Rattle.dtx_values.specs.declared.row.Change.{Change}
use Rattle.dtx_values.specs.Limits.{changes_limit}
use Rattle.sql_eval.specs.Rows.{change_length}
use Rattle.row_store.specs.Own.{changes_length}

pub joined_length : (cs ds : List Change) → changes_length (cs ++ ds) ≡ changes_length cs + changes_length ds
joined_length cs ds = sum_by-append change_length cs ds

pub length_bound : (cs : List Change) → length cs ≤ changes_length cs
length_bound [] = omega arith
length_bound (c ∷ cs) = let rest = length_bound cs in let more = sum_by-cons change_length c cs in omega arith

pub count_bound : (own cs : List Change) → changes_length (own ++ cs) ≤ changes_limit → length cs ≤ changes_limit
count_bound own cs few = let each = length_bound cs in let both = joined_length own cs in omega arith
