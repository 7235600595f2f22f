-- What messages say as bytes: the fields of each kind.
use Rattle.std.specs.Prelude.{ℕ, Bool, List, Option, Some, None, ⊤, if◌then◌else◌}
use Rattle.dtx_values.specs.declared.advice.Advice.{Advice}
use Rattle.dtx_values.specs.declared.answer.Answer.{Answer}
use Rattle.tran_ids.specs.declared.branch.BranchId.{BranchId}
use Rattle.sql_statement.specs.declared.statement.Stmt.{Stmt}
use Rattle.wire_msg.specs.declared.task.Task.TheVariants as tasks
use Rattle.wire_msg.specs.declared.kind.Kind.{Kind}
use Rattle.wire_msg.specs.declared.kind.Kind.TheVariants as kinds
use Rattle.wire_msg.specs.Names.{name_of_kind, place_of_kind, same_kind}
use Rattle.byte_format.specs.Format.{Format}
use Rattle.byte_format.specs.Number.{empty, number8, number16, number32, number64, flag}
use Rattle.byte_format.specs.Part.{pair, optional}
use Rattle.byte_format.specs.Choice.{kind, no_kind}
use Rattle.field_codec.specs.Advice.{advice_format}
use Rattle.field_codec.specs.Branch.{branch_format}
use Rattle.field_codec.specs.Text.{comment_format}
use Rattle.msg_codec.specs.Statement.{statement_as}
use Rattle.msg_codec.specs.Answer.{answer_format}

-- the byte that names the kind: its place among the kinds
abbrev pub kind_byte : Kind → ℕ
kind_byte k = place_of_kind (name_of_kind k)

-- Open: the parent's number for the edge, the root, and the depth of the new branch
abbrev pub open_format : Format (ℕ × (BranchId × ℕ))
open_format = pair number8 (pair branch_format number8)

-- OpenAt: an Open, and the SCN at which its READ ONLY transaction reads
abbrev pub open_at_format : Format (ℕ × (BranchId × (ℕ × ℕ)))
open_at_format = pair number8 (pair branch_format (pair number8 number64))

-- Back: the call, and the last call that stays
abbrev pub back_format : Format (ℕ × ℕ)
back_format = pair number32 number32

-- Opened: the number of the edge, and the strength of the child's node
abbrev pub opened_format : Format (ℕ × ℕ)
opened_format = pair number8 number8

-- Exec before its statement: the call, the room for branches, and the advice
abbrev pub call_format : Format (ℕ × (ℕ × Option Advice))
call_format = pair number32 (pair number16 advice_format)

-- Exec: the call, and a text of the statement
abbrev pub exec_as : (Stmt → List ℕ) → Format ((ℕ × (ℕ × Option Advice)) × Stmt)
exec_as text_of = pair call_format (statement_as text_of)

-- Reply: the call, the weight if there is one, the branches of the subtree, and the answer
abbrev pub reply_format : Format (ℕ × (Option ℕ × (ℕ × Answer)))
reply_format = pair number32 (pair (optional number8) (pair number16 answer_format))

-- Prepare: whether the site is below, and the comment
abbrev pub prepare_format : Format (Bool × List ℕ)
prepare_format = pair flag comment_format

-- what an Open says that tells no SCN
abbrev pub open_of : Kind → Option (ℕ × (BranchId × ℕ))
open_of (kinds.Open edge root depth None) = Some (edge, (root, depth))
open_of _ = None

-- what an Open says that tells one
abbrev pub open_at_of : Kind → Option (ℕ × (BranchId × (ℕ × ℕ)))
open_at_of (kinds.Open edge root depth (Some scn)) = Some (edge, (root, (depth, scn)))
open_at_of _ = None

-- what an Opened says
abbrev pub opened_of : Kind → Option (ℕ × ℕ)
opened_of (kinds.Opened edge strength) = Some (edge, strength)
opened_of _ = None

-- what an Exec says that runs a statement
abbrev pub exec_of : Kind → Option ((ℕ × (ℕ × Option Advice)) × Stmt)
exec_of (kinds.Exec call (tasks.Run room advice s)) = Some ((call, (room, advice)), s)
exec_of _ = None

-- what an Exec says that goes back
abbrev pub back_of : Kind → Option (ℕ × ℕ)
back_of (kinds.Exec call (tasks.GoBack keep)) = Some (call, keep)
back_of _ = None

-- what a Reply says
abbrev pub reply_of : Kind → Option (ℕ × (Option ℕ × (ℕ × Answer)))
reply_of (kinds.Reply call weight count result) = Some (call, (weight, (count, result)))
reply_of _ = None

-- what a Prepare says
abbrev pub prepare_of : Kind → Option (Bool × List ℕ)
prepare_of (kinds.Prepare site_below comment) = Some (site_below, comment)
prepare_of _ = None

-- the commit SCN of a Committed
abbrev pub committed_of : Kind → Option ℕ
committed_of (kinds.Committed scn) = Some scn
committed_of _ = None

-- whether a kind is this one, which says no more than its name
abbrev pub bare_of : Kind → Kind → Option ⊤
bare_of bare k = if same_kind (name_of_kind k) (name_of_kind bare) then Some tt else None

-- a kind without fields, beside other kinds
abbrev pub bare_kind : ℕ → Kind → (ℕ → Format Kind) → ℕ → Format Kind
bare_kind n bare others = kind n (λ u. bare) (bare_of bare) empty others

-- the fields of each kind but Exec
abbrev pub kinds_but_exec : ℕ → Format Kind
kinds_but_exec =
    kind 1 (λ x. kinds.Open x.0 x.1.0 x.1.1 None) open_of open_format
    (kind 2 (λ x. kinds.Opened x.0 x.1) opened_of opened_format
    (kind 4 (λ x. kinds.Reply x.0 x.1.0 x.1.1.0 x.1.1.1) reply_of reply_format
    (kind 5 (λ x. kinds.Prepare x.0 x.1) prepare_of prepare_format
    (bare_kind 6 kinds.Prepared
    (bare_kind 7 kinds.ReadOnly
    (bare_kind 8 kinds.Ready
    (bare_kind 9 kinds.Abort
    (bare_kind 10 kinds.CommitPoint
    (kind 11 kinds.Committed committed_of number64
    (bare_kind 12 kinds.RolledBack
    (bare_kind 13 kinds.InDoubt
    (bare_kind 14 kinds.Ack
    (bare_kind 15 kinds.Forgotten
    (bare_kind 16 kinds.Rollback
    (bare_kind 17 kinds.Ask
    (kind 18 (λ x. kinds.Open x.0 x.1.0 x.1.1.0 (Some x.1.1.1)) open_at_of open_at_format
    (kind 19 (λ x. kinds.Exec x.0 (tasks.GoBack x.1)) back_of back_format no_kind)))))))))))))))))

-- the fields of each kind: Exec, the one kind that has several spellings, and the others
abbrev pub kinds_as : (Stmt → List ℕ) → ℕ → Format Kind
kinds_as text_of = kind 3 (λ x. kinds.Exec x.0.0 (tasks.Run x.0.1.0 x.0.1.1 x.1)) exec_of (exec_as text_of) kinds_but_exec
