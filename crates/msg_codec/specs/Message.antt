-- Messages as bytes.
--
--   message = a byte that names the kind, branch from, branch to, a clock of eight bytes, and the fields of that kind
--
-- An Exec has a text of its statement. Each text of it is read; the one that is written is the printed one.
use Rattle.std.specs.Prelude.{ℕ, List, [], ◌∷◌, Option, Some, None, option_and_then}
use Rattle.tran_ids.specs.declared.branch.BranchId.{BranchId}
use Rattle.sql_statement.specs.declared.statement.Stmt.{Stmt}
use Rattle.sql_print.specs.Printing.{printed}
use Rattle.wire_msg.specs.declared.kind.Kind.{Kind}
use Rattle.wire_msg.specs.declared.msg.Msg.{Msg}
use Rattle.byte_format.specs.Format.{Format, IsSpelling}
use Rattle.byte_format.specs.Number.{number64}
use Rattle.byte_format.specs.Part.{pair, mapped}
use Rattle.byte_format.specs.Choice.{choice}
use Rattle.field_codec.specs.Branch.{branch_format}
use Rattle.msg_codec.specs.Kind.{kind_byte, kinds_as}

-- what each message has: who sends it, who it is for, and the sender's clock
abbrev pub head_format : Format (BranchId × (BranchId × ℕ))
head_format = pair branch_format (pair branch_format number64)

-- after the byte of the kind: the head, and the fields of the kind
abbrev pub body_as : (Stmt → List ℕ) → ℕ → Format ((BranchId × (BranchId × ℕ)) × Kind)
body_as text_of k = pair head_format (kinds_as text_of k)

-- the message with this head that says this
abbrev pub message : (BranchId × (BranchId × ℕ)) × Kind → Msg
message x = record { from = x.0.0; to = x.0.1.0; scn = x.0.1.1; kind = x.1 }

-- a message whose statement, if it has one, is written as the text that `text_of` gives
abbrev pub msg_as : (Stmt → List ℕ) → Format Msg
msg_as text_of = mapped message
    (λ m. ((m.from, (m.to, m.scn)), m.kind))
    (choice (λ x. kind_byte x.1) (body_as text_of))

-- a message, its statement as printed: how it is written, and how it is read
unfoldable pub msg_format : Format Msg
msg_format = msg_as printed

-- the message has a spelling: its statement is one that texts spell, its answer one that nodes send each other, its comment
-- of at most 255 bytes of UTF-8, and no list or text too long for its count
abbrev pub HasSpelling : Msg → Type 0
HasSpelling m = msg_format.Fits m

-- these bytes spell the message, with some text of its statement
abbrev pub IsMessage : Msg → List ℕ → Type 0
IsMessage m bytes = (text : List ℕ) × IsSpelling (msg_as (λ s. text)) bytes m

-- what was read, where no byte is left
abbrev pub alone : {V : Type 0} → V → List ℕ → Option V
alone v [] = Some v
alone v (b ∷ rest) = None

-- the message that these bytes spell, if they spell one
abbrev pub message_of : List ℕ → Option Msg
message_of bytes = option_and_then (λ x. alone x.0 x.1) (msg_format.read bytes)
