-- The changes of sound records have keys and rows that one byte counts, and the comments of records are comments.
use Rattle.std.proofs.Common.{◌≡◌, ◌≤◌, false, List, length, Option, Some, None, refl, arith}
use Rattle.std.specs.Prelude.{IsTrue, IfSome}
use Rattle.std.specs.List.{AllByRecursion}
use Rattle.dtx_values.specs.Limits.{column_limit}
use Rattle.dtx_values.specs.Order.{is_null}
use Rattle.sql_statement.specs.Whole.{IsWholeTable}
use Rattle.sql_eval.specs.Laws.{IsRowAt, IsChangeOf}
use Rattle.field_codec.specs.Change.{is_key}
use Rattle.field_codec.specs.Fits.{HasCount}
use Rattle.field_codec.specs.Text.{comment_format}
use Rattle.node_rules.specs.Data.{Value, Row, Table, Change, RedoRecord, Place, Input}
use Rattle.dtx_values.specs.declared.value.Value.TheVariants as values
use Rattle.node_rules.specs.Data.records
use Rattle.node_rules.specs.Data.acts
use Rattle.commit_forget.specs.declared.next.Next.TheVariants as nexts
use Rattle.node_rules.specs.Words.{same_text}
use Rattle.node_rules.specs.NodeState.{NodeState, TurnDraft}
use Rattle.node_rules.specs.Client.{begun_by}
use Rattle.node_rules.specs.Turn.{turn_of}
use Rattle.node_rules.proofs.Steps as steps
use Rattle.node_rules.proofs.Steps.{Step}
use Rattle.node_rules.proofs.StepLemmas.{made_so}
use Rattle.node_rules.proofs.TurnLemmas.{step_of}
use Rattle.node_ready_laws.specs.Rows.{IsChangeAt, AreChangesAt}
use Rattle.node_ready_laws.proofs.ListLemmas.{all_weaker, all_found}
use Rattle.node_spell_laws.specs.Bytes.{BringsBytes, AsksChild, KeepsBytes}
use Rattle.node_spell_laws.specs.Record.{ChangeFits}
use Rattle.node_spell_laws.specs.Written.{comment_in, ChangesFit, CommentsFit}
use Rattle.node_spell_laws.proofs.SayLemmas.{no_comment}
use Rattle.node_spell_laws.proofs.SayStepLemmas.{begins, acts_so, none_asked, heard_asks, heard_texts}

-- ---- changes

key_fits : (v : Value) → is_null v ≡ false → IsTrue (is_key v)
key_fits values.Null is = absurd cc
key_fits (values.Number n) is = refl
key_fits (values.Text t) is = refl

row_fits : (t : Table) (key : Value) (after : Option Row) → length t.columns ≤ column_limit → IfSome after (IsRowAt t key) → IfSome after HasCount
row_fits t key None few at = tt
row_fits t key (Some row) few at = let same = at.0 in omega (arith, few, same)

module _ (tables : List Table) (whole : AllByRecursion IsWholeTable tables) where
  change_fits : (c : Change) → IsChangeAt tables c → ChangeFits c
  change_fits c at =
      let table : IsWholeTable at.0 = all_found IsWholeTable (λ t. same_text t.name c.table) tables at.0 whole at.1 in
      let is : IsChangeOf at.0 c = at.2 in
      (key_fits c.key is.1, row_fits at.0 c.key c.after table.few is.2)

  pub changes_fit_at : (cs : List Change) → AreChangesAt tables cs → AllByRecursion ChangeFits cs
  changes_fit_at cs at = all_weaker (IsChangeAt tables) ChangeFits change_fits cs at

pub changes_fit : ChangesFit
changes_fit s (records.Sealed r) whole sound = changes_fit_at s.durable.tables whole r.changes sound.0
changes_fit s (records.Decided r) whole sound = changes_fit_at s.durable.tables whole r.changes sound.0
changes_fit s _ whole sound = tt

-- ---- comments

-- a record's comment is one
abbrev HasComment : Option RedoRecord → Type 0
HasComment w = IfSome w (λ r. comment_format.Fits (comment_in r))

comments_on : (p : Place) (input : Input) → BringsBytes input → {k : NodeState} {d : TurnDraft} → Step p input k d → AsksChild k input → KeepsBytes k → HasComment d.wrote
comments_on p input brings (steps.Begins {k = k} n s read_at call starts fit none step) asks now = comments_on p input brings step (none_asked (begun_by p k n read_at None) call) (record { lives = begins k now _ no_comment tt; synonyms = now.synonyms })
comments_on p input brings (steps.Counts_call n s call counts step) asks now = comments_on p input brings step asks (record { lives = now.lives; synonyms = now.synonyms })
comments_on p input brings (steps.Goes_back x to goes next) asks now = comments_on p input brings next asks (record { lives = now.lives; synonyms = now.synonyms })
comments_on p input brings (steps.Pends n l given call has live code writer step) asks now = comments_on p input brings step asks (record { lives = now.lives; synonyms = now.synonyms })
comments_on p input brings (steps.Lets_reads_go l comment site_below live begun step) asks now = comments_on p input brings step asks (record { lives = now.lives; synonyms = now.synonyms })
comments_on p input brings (steps.Counts_ack s from kept came counts step) asks now = comments_on p input brings step asks (record { lives = now.lives; synonyms = now.synonyms })
comments_on p input brings (steps.Acts {k = k} l site_below acts.Seal why) asks now = (acts_so k now brings asks why).comment
comments_on p input brings (steps.Acts {k = k} l site_below (acts.SealAndPass i) why) asks now = (acts_so k now brings asks why).comment
comments_on p input brings (steps.Acts {k = k} l site_below acts.Decide why) asks now = (acts_so k now brings asks why).comment
comments_on p input brings (steps.Acts l site_below acts.Rest why) asks now = tt
comments_on p input brings (steps.Acts l site_below acts.AskDown why) asks now = tt
comments_on p input brings (steps.Acts l site_below acts.SayReadOnly why) asks now = tt
comments_on p input brings (steps.Acts l site_below acts.SayReady why) asks now = tt
comments_on p input brings (steps.Acts l site_below acts.Finish why) asks now = tt
comments_on p input brings (steps.Acts l site_below acts.Abandon why) asks now = tt
comments_on p input brings (steps.Does s from (nexts.End d) kept why) asks now = no_comment
comments_on p input brings (steps.Does s from (nexts.Meet d mixed) kept why) asks now = no_comment
comments_on p input brings (steps.Does s from nexts.Forget kept why) asks now = no_comment
comments_on p input brings (steps.Does s from nexts.Rest kept why) asks now = tt
comments_on p input brings (steps.Does s from nexts.AckToward kept why) asks now = tt
comments_on p input brings (steps.Does s from nexts.SayForgotten kept why) asks now = tt
comments_on p input brings (steps.Does s from nexts.SayAck kept why) asks now = tt
comments_on p input brings (steps.Makes_record n s r d call makes) asks now = made_so (λ x. comment_format.Fits (comment_in x)) (λ t. no_comment) (λ l. no_comment) (λ y. no_comment) (λ on. no_comment) makes
comments_on p input brings (steps.Forces_given n id m b call named) asks now = no_comment
comments_on p input brings (steps.Forces_commit n id b call named) asks now = no_comment
comments_on p input brings (steps.Forces_rollback n id b call named) asks now = no_comment
comments_on p input brings (steps.Hides n mixed id s call found) asks now = no_comment
comments_on p input brings (steps.Images checkpoint) asks now = no_comment
comments_on p input brings (steps.Gives_up_commit n b (Some l) gives has waits live) asks now = tt
comments_on p input brings (steps.Gives_up_commit n b None gives has waits none) asks now = tt
comments_on p input brings _ asks now = tt

pub comments_fit : CommentsFit
unfolding turn_of
comments_fit p k input fit brings asks now = comments_on p input brings (step_of p k input fit) (heard_asks k input asks) (heard_texts k input now)
