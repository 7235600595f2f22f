-- Branches as bytes.
use Rattle.tran_ids.specs.declared.branch.BranchId.{BranchId}
use Rattle.byte_format.specs.Format.{Format}
use Rattle.byte_format.specs.Number.{number8, number32}
use Rattle.byte_format.specs.Part.{pair, mapped}

-- a branch: its node, boot, session and number
abbrev pub branch_format : Format BranchId
branch_format = mapped
    (λ x. record { node = x.0; boot = x.1.0; session = x.1.1.0; seq = x.1.1.1 })
    (λ b. (b.node, (b.boot, (b.session, b.seq))))
    (pair number8 (pair number32 (pair number32 number32)))
