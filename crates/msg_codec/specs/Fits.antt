-- What messages need beside their type to have a spelling.
use Rattle.std.specs.Prelude.{ℕ, ◌==◌, ◌<◌, ◌^◌, IsTrue, Bool, true, false, length, ⊤}
use Rattle.std.specs.List.{All}
use Rattle.dtx_values.specs.declared.answer.Done.{Done}
use Rattle.dtx_values.specs.declared.answer.Done.TheVariants as dones
use Rattle.dtx_values.specs.declared.answer.Answer.{Answer}
use Rattle.dtx_values.specs.declared.answer.Answer.TheVariants as answers
use Rattle.sql_print.specs.Printing.{printed}
use Rattle.wire_msg.specs.declared.task.Task.TheVariants as tasks
use Rattle.wire_msg.specs.declared.kind.Kind.{Kind}
use Rattle.wire_msg.specs.declared.kind.Kind.TheVariants as kinds
use Rattle.field_codec.specs.Fits.{HasCount}
use Rattle.field_codec.specs.Text.{comment_format}
use Rattle.msg_codec.specs.Statement.{statement_as}
use Rattle.msg_codec.specs.Answer.{texts_format}

-- what is done at another node: rows were created, updated or deleted, or a branch went back
abbrev pub is_change : Done → ℕ → Bool
is_change dones.Created n = true
is_change dones.Updated n = true
is_change dones.Deleted n = true
is_change dones.RolledBack n = n == 0
is_change _ n = false

-- an answer that nodes send each other: its texts are UTF-8, and none of its lists is too long for its count
abbrev pub AnswerFits : Answer → Type 0
AnswerFits (answers.Did done count) = IsTrue (is_change done count)
AnswerFits (answers.Found found) = texts_format.Fits found.heads × (length found.rows < 2 ^ 32) × All HasCount found.rows
AnswerFits (answers.Refused refusal) = texts_format.Fits refusal.args

-- a statement that texts spell, an answer that is sent, a comment of at most 255 bytes of UTF-8; and what has none of these
abbrev pub KindFits : Kind → Type 0
KindFits (kinds.Exec call (tasks.Run room advice s)) = (statement_as printed).Fits s
KindFits (kinds.Reply call weight count result) = AnswerFits result
KindFits (kinds.Prepare site_below comment) = comment_format.Fits comment
KindFits _ = ⊤

-- if there is a statement, four bytes are enough to count the bytes of its printed text
abbrev pub IsShort : Kind → Type 0
IsShort (kinds.Exec call (tasks.Run room advice s)) = length (printed s) < 2 ^ 32
IsShort _ = ⊤
