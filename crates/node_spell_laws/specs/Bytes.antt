-- What a node keeps and says has bytes: comments, statements and answers.
use Rattle.std.specs.Prelude.{◌≡◌, ℕ, ◌<◌, ◌^◌, Bool, false, List, length, Option, Some, IfSome, IsTrue, is_some}
use Rattle.std.specs.List.{All, AllByRecursion}
use Rattle.std.specs.Str.{is_utf8}
use Rattle.token_grammar.specs.Grammar.{identifier_of}
use Rattle.sql_print.specs.Printing.{IsPrintable}
use Rattle.field_codec.specs.Fits.{HasCount}
use Rattle.field_codec.specs.Text.{comment_format}
use Rattle.msg_codec.specs.Fits.{is_change, IsShort, KindFits}
use Rattle.node_rules.specs.Data.{Table, Stmt, Answer, BranchId, RedoRecord, Phase, Live, Kind, Place, Input}
use Rattle.node_rules.specs.declared.work.Errand.{Errand}
use Rattle.node_rules.specs.Data.stmts
use Rattle.node_rules.specs.Data.answers
use Rattle.node_rules.specs.Data.kinds
use Rattle.node_rules.specs.Data.inputs
use Rattle.node_rules.specs.Data.phases
use Rattle.node_rules.specs.Data.records
use Rattle.node_rules.specs.declared.work.Work.{Work}
use Rattle.node_rules.specs.Names.{passed_on}
use Rattle.node_rules.specs.NodeState.{NodeState, live_at}
use Rattle.node_rules.specs.LiveBranches.{EachLive}
use Rattle.node_rules.specs.Statement.{ran, answer_of_run}
use Rattle.node_rules.specs.Inputs.{IsFit, Came}
use Rattle.node_rules.specs.Turn.{turn_of, start_of}
use Rattle.node_rules.specs.Data.tasks
use Rattle.node_rules.specs.declared.work.Errand.TheVariants as errands
use Rattle.node_ready_laws.specs.Rows.{table_named, HasRows}

-- ---- what is said

-- a text of UTF-8
abbrev pub IsUtf8Text : List ℕ → Type 0
IsUtf8Text text = IsTrue (is_utf8 text)

-- an answer that nodes send each other: rows were changed or a branch went back, or the heads of what was found are texts, or the arguments of a refusal
abbrev pub AnswerHasBytes : Answer → Type 0
AnswerHasBytes (answers.Did done count) = IsTrue (is_change done count)
AnswerHasBytes (answers.Found found) = AllByRecursion IsUtf8Text found.heads
AnswerHasBytes (answers.Refused refusal) = AllByRecursion IsUtf8Text refusal.args

-- a statement over the rows of a table
abbrev pub IsOfTable : Stmt → Type 0
IsOfTable (stmts.Insert table columns given) = Unit {0}
IsOfTable (stmts.Update table sets cs) = Unit {0}
IsOfTable (stmts.Delete table cs) = Unit {0}
IsOfTable (stmts.Select list table cs for_update) = Unit {0}
IsOfTable _ = ⊥

-- a statement that nodes send each other: it is over the rows of a table, and its printed text spells it
abbrev pub StatementHasBytes : Stmt → Type 0
StatementHasBytes s = IsPrintable s × IsOfTable s

-- what nodes say to each other: an Exec of a statement has such a one, a Reply such an answer, and a Prepare a comment
abbrev pub HasBytes : Kind → Type 0
HasBytes (kinds.Exec call (tasks.Run room advice s)) = StatementHasBytes s
HasBytes (kinds.Reply call weight count result) = AnswerHasBytes result
HasBytes (kinds.Prepare site_below comment) = comment_format.Fits comment
HasBytes _ = Unit {0}

-- four bytes are enough to count the texts, and two to count the bytes of each
abbrev pub AreCounted : List (List ℕ) → Type 0
AreCounted texts = (length texts < 2 ^ 32) × AllByRecursion (λ text. length text < 2 ^ 16) texts

-- so are those of an answer, its rows and their cells
abbrev pub AnswerIsCounted : Answer → Type 0
AnswerIsCounted (answers.Did done count) = Unit {0}
AnswerIsCounted (answers.Found found) = AreCounted found.heads × (length found.rows < 2 ^ 32) × All HasCount found.rows
AnswerIsCounted (answers.Refused refusal) = AreCounted refusal.args

-- no list and no text of a message is too long for its count
abbrev pub IsCounted : Kind → Type 0
IsCounted (kinds.Reply call weight count result) = AnswerIsCounted result
IsCounted kind = IsShort kind

-- such a kind of message has a spelling, where nothing in it is too long for its count
abbrev pub SentFits : Type 0
SentFits = (kind : Kind) → HasBytes kind → IsCounted kind → KindFits kind

-- what comes to a node: such a message, or a call of a statement that its printed text spells
abbrev pub BringsBytes : Input → Type 0
BringsBytes (inputs.Message m) = HasBytes m.kind
BringsBytes (inputs.Call session (Some s)) = IsPrintable s
BringsBytes _ = Unit {0}

-- Prepare comes to a branch that has a parent, where it is live
abbrev pub AsksChild : NodeState → Input → Type 0
AsksChild k input = (from to : BranchId) (site_below : Bool) (comment : List ℕ) (l : Live) → Came input from to (kinds.Prepare site_below comment) → live_at k to ≡ Some l → IsTrue (is_some l.parent)

-- ---- what is kept

-- a name that a table may have in a statement
abbrev pub IsTableName : List ℕ → Type 0
IsTableName name = identifier_of name ≡ Some name

-- a branch that collects without the site below it was asked by a parent
abbrev pub HasAsker : Option BranchId → Phase → Type 0
HasAsker parent (phases.Collecting false) = IsTrue (is_some parent)
HasAsker parent _ = Unit {0}

-- what a branch has under way
abbrev pub ErrandHasBytes : Errand → Type 0
ErrandHasBytes (errands.Statement s given) = StatementHasBytes s
ErrandHasBytes (errands.GoBack step) = Unit {0}

-- A live branch whose comment, whose statement under way and whose last answer have bytes, and which has a parent where its
-- record will name one.
pub record LiveHasBytes (l : Live) (w : Work) : Type 0 where
  pub comment : comment_format.Fits l.comment
  pub going : IfSome w.going (λ g. ErrandHasBytes g.errand)
  pub reply : IfSome w.came.reply (λ t. AnswerHasBytes t.result)
  pub asker : HasAsker l.parent l.phase

-- Live branches that are so, and synonyms whose tables a statement may name.
pub record KeepsBytes (k : NodeState) : Type 0 where
  pub lives : EachLive LiveHasBytes k.lives k.works
  pub synonyms : AllByRecursion (λ y. IsTableName y.table) k.stored.durable.synonyms

-- the table of a synonym that a record makes has such a name
abbrev pub NamesTable : RedoRecord → Type 0
NamesTable (records.Synonym y) = IsTableName y.table
NamesTable _ = Unit {0}

-- ---- statements and answers

-- a statement that its printed text spells is spelled by it with another table too, as where a node passes it on
abbrev pub StatementsAreRenamed : Type 0
StatementsAreRenamed = (s : Stmt) (name : List ℕ) → IsPrintable s → IsTableName name → IsPrintable (passed_on s name)

-- a node whose rows are of its tables answers such a statement so that the answer can be sent
abbrev pub AnswersHaveBytes : Type 0
AnswersHaveBytes = (p : Place) (k : NodeState) (b : BranchId) (s : Stmt) (t : Table) → HasRows k → IsPrintable s → table_named k.stored.durable.tables t.name ≡ Some t
    → AnswerHasBytes (answer_of_run (ran p k b s t))

-- ---- turns

-- each turn of such a node keeps and says what has bytes, where what comes has
abbrev pub TurnsKeepBytes : Type 0
TurnsKeepBytes = (p : Place) (k : NodeState) (input : Input) → IsFit input → BringsBytes input → AsksChild k input → HasRows k → KeepsBytes k
    → KeepsBytes (turn_of p k input).after × AllByRecursion (λ m. HasBytes m.kind) (turn_of p k input).sent

-- the record of each turn names such a table, where it names one
abbrev pub TurnsNameTables : Type 0
TurnsNameTables = (p : Place) (k : NodeState) (input : Input) → IsFit input → BringsBytes input → IfSome (turn_of p k input).wrote NamesTable

-- a node that starts from such records keeps what has bytes
abbrev pub StartsKeepBytes : Type 0
StartsKeepBytes = (rs : List RedoRecord) → AllByRecursion NamesTable rs → KeepsBytes (start_of rs)
