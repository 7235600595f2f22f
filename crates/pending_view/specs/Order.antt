-- What the rows of a view are ordered by.
use Rattle.std.specs.Prelude.{ℕ}
use Rattle.tran_ids.specs.declared.branch.BranchId.{BranchId}

-- boot, session and seq of a branch
abbrev pub place_of : BranchId → ℕ × ℕ × ℕ
place_of b = (b.boot, b.session, b.seq)
