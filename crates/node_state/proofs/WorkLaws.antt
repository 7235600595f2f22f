-- The calls of a branch, and none where none came and it made none.
use Rattle.std.proofs.Common.{◌≡◌, List, Option, None, Some, refl}
use Rattle.std.specs.Prelude.{OnErr, Result, Ok, Err}
use Rattle.tran_ids.specs.declared.branch.BranchId.{BranchId}
use Rattle.tran_ids.specs.Listed.{item_at}
use Rattle.tran_ids.proofs.ListedLemmas.{item_is}
use Rattle.node_rules.specs.declared.work.Work.{Work}
use Rattle.node_rules.specs.NodeState.{work_id, work_or}
use Rattle.node_state.specs.Works.{work_of}

pub on_err : {T E P : Type 0} (r : Result T E) → P → OnErr r P
on_err (Ok x) p = tt
on_err (Err e) p = p

of_found : (b : BranchId) (o : Option Work) → ((w : Work) → o ≡ Some w → w.branch ≡ b) → (work_or b o).branch ≡ b
of_found b None is = refl
of_found b (Some w) is = is w refl

-- they are of the branch
pub work_branch : (ws : List Work) (b : BranchId) → (work_of ws b).branch ≡ b
work_branch ws b = of_found b (item_at work_id ws b) (item_is work_id ws b)
