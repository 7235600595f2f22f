-- What has bytes has a spelling, and what is passed on has bytes.
use Rattle.std.proofs.Common.{◌<◌, ◌≤◌, ◌^◌, ℕ, List, [], length, Option, Some, None, subst, arith}
use Rattle.std.specs.Prelude.{nat_le, unwrap_or, IsTrue}
use Rattle.std.specs.List.{AllByRecursion}
use Rattle.std.specs.Str.{is_utf8}
use Rattle.std.proofs.lemmas.Bool.{leb-true, and_parts}
use Rattle.std.proofs.lemmas.Str.{IsUtf8-nil, is_utf8-from_IsUtf8}
use Rattle.dtx_values.specs.Limits.{comment_limit}
use Rattle.dtx_values.specs.Str.{is_text_to}
use Rattle.sql_parse.proofs.WholeLaws.{statements_are_whole}
use Rattle.sql_print.specs.Printing.{printed, IsPrintable}
use Rattle.field_codec.specs.Text.{utf8_format, comment_format}
use Rattle.msg_codec.specs.Answer.{texts_format}
use Rattle.msg_codec.specs.Fits.{AnswerFits}
use Rattle.node_rules.specs.Data.{Stmt, Answer, Kind, BranchId, Post, Input}
use Rattle.node_rules.specs.Data.answers
use Rattle.node_rules.specs.Data.stmts
use Rattle.node_rules.specs.Data.kinds
use Rattle.node_rules.specs.Names.{ref_of, passed_on}
use Rattle.node_rules.specs.Inputs.{Came, IsCall}
use Rattle.node_rules.proofs.Steps.{IsOfRows}
use Rattle.node_rules.specs.Data.tasks
use Rattle.node_ready_laws.proofs.ListLemmas.{all_both}
use Rattle.node_spell_laws.specs.Bytes.{IsUtf8Text, IsTableName, AnswerHasBytes, IsOfTable, StatementHasBytes, HasBytes, AreCounted, AnswerIsCounted, SentFits, BringsBytes, StatementsAreRenamed}
use Rattle.node_spell_laws.proofs.NamedLemmas.{IsNamed, printable_named}
use Rattle.node_spell_laws.proofs.RenamedLemmas.{other_is_printable}

texts_fit : (texts : List (List ℕ)) → AllByRecursion IsUtf8Text texts → AreCounted texts → texts_format.Fits texts
texts_fit texts all few =
    (omega (arith, few.0), all_both IsUtf8Text (λ (text : List ℕ). length text < 2 ^ 16) utf8_format.Fits (λ text is short. (omega (arith, short), is)) texts all few.1)

answer_fits : (a : Answer) → AnswerHasBytes a → AnswerIsCounted a → AnswerFits a
answer_fits (answers.Did done count) is few = is
answer_fits (answers.Found found) is few = (texts_fit found.heads is few.0, few.1, few.2)
answer_fits (answers.Refused refusal) is few = texts_fit refusal.args is few

pub sent_fits : SentFits
sent_fits (kinds.Exec call (tasks.Run room advice s)) is few = (omega (arith, few), is.0)
sent_fits (kinds.Reply call weight count result) is few = answer_fits result is few
sent_fits (kinds.Prepare site_below comment) is few = is
sent_fits _ is few = tt

-- a COMMIT without a comment
pub no_comment : comment_format.Fits []
no_comment = (omega arith, is_utf8-from_IsUtf8 [] IsUtf8-nil)

-- a comment that a text spells
comment_fits : (comment : List ℕ) → IsTrue (is_text_to comment_limit comment) → comment_format.Fits comment
comment_fits comment is =
    let short : length comment ≤ comment_limit = leb-true (length comment) comment_limit (and_parts (nat_le (length comment) comment_limit) (is_utf8 comment) is).0 in
    (omega (arith, short), is)

pub comment_or : (given : Option (List ℕ)) → IsPrintable (stmts.Commit given) → comment_format.Fits (unwrap_or given [])
comment_or None is = no_comment
comment_or (Some comment) is = comment_fits comment (statements_are_whole (stmts.Commit (Some comment)) (printed (stmts.Commit (Some comment))) is)

-- ---- statements

pub renamed : StatementsAreRenamed
renamed s name is named = other_is_printable name named s is

of_table_again : (s : Stmt) (name : List ℕ) → IsOfTable s → IsOfTable (passed_on s name)
of_table_again (stmts.Insert table columns given) name is = tt
of_table_again (stmts.Update table sets cs) name is = tt
of_table_again (stmts.Delete table cs) name is = tt
of_table_again (stmts.Select list table cs for_update) name is = tt
of_table_again _ name is = absurd is

-- a statement under another name can be passed on again
pub passed_again : (s : Stmt) (name : List ℕ) → IsTableName name → StatementHasBytes s → StatementHasBytes (passed_on s name)
passed_again s name named is = (renamed s name is.0 named, of_table_again s name is.1)

ref_is_named : (s : Stmt) → IsOfTable s → IsNamed s → IsTableName (ref_of s).name
ref_is_named (stmts.Insert table columns given) of named = named.0
ref_is_named (stmts.Update table sets cs) of named = named.0
ref_is_named (stmts.Delete table cs) of named = named.0
ref_is_named (stmts.Select list table cs for_update) of named = named.0
ref_is_named _ of named = absurd of

-- its table has a name
pub ref_named : (s : Stmt) → StatementHasBytes s → IsTableName (ref_of s).name
ref_named s is = ref_is_named s is.1 (printable_named s is.0)

of_rows : (s : Stmt) → IsOfRows s → IsOfTable s
of_rows (stmts.Insert table columns given) rows = tt
of_rows (stmts.Update table sets cs) rows = tt
of_rows (stmts.Delete table cs) rows = tt
of_rows (stmts.Select list table cs for_update) rows = tt
of_rows _ rows = absurd rows

module _ {input : Input} (brings : BringsBytes input) where
  -- what came in a message
  pub came_so : {from to : BranchId} {kind : Kind} → Came input from to kind → HasBytes kind
  came_so came = subst BringsBytes came.is brings

  -- what a client asked for
  pub call_so : {n : ℕ} {s : Stmt} → IsCall input n s → IsPrintable s
  call_so call = subst BringsBytes call brings

  pub rows_so : {n : ℕ} {s : Stmt} → IsCall input n s → IsOfRows s → StatementHasBytes s
  rows_so {s = s} call rows = (call_so call, of_rows s rows)

-- ---- messages

abbrev pub HaveBytes : List Post → Type 0
HaveBytes says = AllByRecursion (λ x. HasBytes x.kind) says
