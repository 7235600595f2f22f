-- Records of prepared and decided branches as bytes.
use Rattle.std.specs.Prelude.{ℕ, zero, suc, Bool, nat_lt, is_some, List, length, Option}
use Rattle.dtx_values.specs.declared.advice.Advice.{Advice}
use Rattle.dtx_values.specs.declared.row.Change.{Change}
use Rattle.redo_record.specs.declared.record.Peer.{Peer}
use Rattle.redo_record.specs.declared.record.Toward.{Toward}
use Rattle.redo_record.specs.declared.record.Toward.TheVariants as towards
use Rattle.redo_record.specs.declared.record.Sealed.{Sealed}
use Rattle.redo_record.specs.declared.record.Decided.{Decided}
use Rattle.tran_ids.specs.declared.branch.BranchId.{BranchId}
use Rattle.byte_format.specs.Format.{Format}
use Rattle.byte_format.specs.Number.{number8, number32, number48}
use Rattle.byte_format.specs.Part.{pair, optional, mapped, tested}
use Rattle.byte_format.specs.Several.{counted}
use Rattle.field_codec.specs.Branch.{branch_format}
use Rattle.field_codec.specs.Text.{comment_format}
use Rattle.field_codec.specs.Change.{change_format}
use Rattle.field_codec.specs.Advice.{advice_format}
use Rattle.redo_codec.specs.Decision.{peer_format}

-- 0 is the parent, and i the i-th child, counted from 1
abbrev pub toward_at : ℕ → Toward
toward_at zero = towards.Parent
toward_at (suc child) = towards.Child child

-- the number that says so
abbrev pub toward_number : Toward → ℕ
toward_number towards.Parent = zero
toward_number (towards.Child child) = suc child

-- the neighbour on the way to the commit point site
abbrev pub toward_format : Format Toward
toward_format = mapped toward_at toward_number number8

-- the way leads to a parent or a child that there is
abbrev pub leads : Toward → Option BranchId → ℕ → Bool
leads towards.Parent parent children = is_some parent
leads (towards.Child child) parent children = nat_lt child children

-- the way of a prepared branch leads somewhere
abbrev pub is_sealed : Sealed → Bool
is_sealed s = leads s.toward s.parent (length s.children)

-- the branch, the root of its transaction, and an SCN
abbrev pub head_format : Format (BranchId × (BranchId × ℕ))
head_format = pair branch_format (pair branch_format number48)

-- the parent, if there is one, and the children
abbrev pub tree_format : Format (Option BranchId × List Peer)
tree_format = pair (optional branch_format) (counted number32 peer_format)

-- the advice, the comment, and the changes
abbrev pub end_format : Format (Option Advice × (List ℕ × List Change))
end_format = pair advice_format (pair comment_format (counted number32 change_format))

-- a prepared branch: its fields in order
abbrev pub sealed_format : Format Sealed
sealed_format = tested is_sealed (mapped
    (λ x. record { me = x.0.0; root = x.0.1.0; scn = x.0.1.1; toward = x.1.0; parent = x.1.1.0.0; children = x.1.1.0.1; advice = x.1.1.1.0; comment = x.1.1.1.1.0; changes = x.1.1.1.1.1 })
    (λ s. ((s.me, (s.root, s.scn)), (s.toward, ((s.parent, s.children), (s.advice, (s.comment, s.changes))))))
    (pair head_format (pair toward_format (pair tree_format end_format))))

-- a decided branch: its fields in order
abbrev pub decided_format : Format Decided
decided_format = mapped
    (λ x. record { me = x.0.0; root = x.0.1.0; scn = x.0.1.1; parent = x.1.0.0; children = x.1.0.1; advice = x.1.1.0; comment = x.1.1.1.0; changes = x.1.1.1.1 })
    (λ d. ((d.me, (d.root, d.scn)), ((d.parent, d.children), (d.advice, (d.comment, d.changes)))))
    (pair head_format (pair tree_format end_format))
