-- What a turn says and writes has a spelling, but for lengths and images: where a count has too few bytes for them, and at an
-- image, which has no spelling yet, the turn ends for lack of memory.
use Rattle.std.specs.Prelude.{ℕ, List, IsTrue, IfSome, ⊤}
use Rattle.std.specs.List.{AllByRecursion}
use Rattle.std.specs.Str.{is_utf8}
use Rattle.dtx_values.specs.declared.answer.Answer.{Answer}
use Rattle.dtx_values.specs.declared.answer.Answer.TheVariants as answers
use Rattle.field_codec.specs.Text.{comment_format}
use Rattle.node_spell_laws.specs.Record.{RecordHasBytes}
use Rattle.sql_print.specs.Printing.{IsPrintable}
use Rattle.msg_codec.specs.Fits.{is_change}
use Rattle.node_rules.specs.Data.{Kind, Msg}
use Rattle.node_rules.specs.Data.kinds
use Rattle.node_rules.specs.Data.tasks
use Rattle.node_rules.specs.NodeState.{TurnOutput}

-- bytes that are UTF-8
abbrev pub IsUtf8 : List ℕ → Type 0
IsUtf8 text = IsTrue (is_utf8 text)

-- an answer that nodes send each other: its texts are UTF-8
abbrev pub AnswerMayBeMailed : Answer → Type 0
AnswerMayBeMailed (answers.Did done count) = IsTrue (is_change done count)
AnswerMayBeMailed (answers.Found found) = AllByRecursion IsUtf8 found.heads
AnswerMayBeMailed (answers.Refused refusal) = AllByRecursion IsUtf8 refusal.args

-- a statement that its printed text spells, an answer that is sent, a comment of at most 255 bytes of UTF-8; and what has none of
-- these
abbrev pub KindMayBeMailed : Kind → Type 0
KindMayBeMailed (kinds.Exec call (tasks.Run room advice s)) = IsPrintable s
KindMayBeMailed (kinds.Reply call weight count result) = AnswerMayBeMailed result
KindMayBeMailed (kinds.Prepare site_below comment) = comment_format.Fits comment
KindMayBeMailed _ = ⊤

-- the statement, the answer or the comment of a message has a spelling
abbrev pub MayBeMailed : Msg → Type 0
MayBeMailed m = KindMayBeMailed m.kind

-- A turn whose record can be written, unless it is an image, and whose messages can be sent, however long they are.
pub record IsSpellable (o : TurnOutput) : Type 0 where
  pub wrote : IfSome o.wrote RecordHasBytes
  pub sent : AllByRecursion MayBeMailed o.sent
