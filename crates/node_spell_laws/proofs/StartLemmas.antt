-- The synonyms that records make are of tables that a statement may name, so a node starts with what has bytes.
use Rattle.std.proofs.Common.{ℕ, List, [], ◌∷◌, Some, None, refl}
use Rattle.std.specs.Prelude.{IfSome}
use Rattle.std.specs.List.{AllByRecursion}
use Rattle.redo_record.specs.Durable.{durable_after}
use Rattle.node_rules.specs.Data.{Stmt, Synonym, Done, RedoRecord, Durable, Place, Input}
use Rattle.node_rules.specs.Data.acts
use Rattle.node_rules.specs.Data.params
use Rattle.node_rules.specs.Data.records
use Rattle.node_rules.specs.Data.stmts
use Rattle.commit_forget.specs.declared.next.Next.TheVariants as nexts
use Rattle.node_rules.specs.NodeState.{NodeState, Stored, TurnDraft}
use Rattle.node_rules.specs.Records.{nothing_stored, applied, stored_by}
use Rattle.node_rules.specs.Inputs.{IsCall}
use Rattle.node_rules.specs.Turn.{turn_of, start_of}
use Rattle.node_rules.proofs.Steps as steps
use Rattle.node_rules.proofs.Steps.{Step}
use Rattle.node_rules.proofs.TurnLemmas.{step_of}
use Rattle.node_ready_laws.proofs.ListLemmas.{all_last}
use Rattle.node_spell_laws.specs.Bytes.{BringsBytes, IsTableName, NamesTable, TurnsNameTables, StartsKeepBytes}
use Rattle.node_spell_laws.proofs.NamedLemmas.{printable_named}
use Rattle.node_spell_laws.proofs.SayLemmas.{call_so}

-- synonyms of tables that a statement may name
abbrev AreNamed : List Synonym → Type 0
AreNamed ys = AllByRecursion (λ y. IsTableName y.table) ys

named_after : (d : Durable) (r : RedoRecord) → NamesTable r → AreNamed d.synonyms → AreNamed (durable_after d r).synonyms
unfolding durable_after
named_after d (records.Synonym y) is now = all_last (λ x. IsTableName x.table) d.synonyms y now is
named_after d (records.Link l) is now = now
named_after d (records.Boot n) is now = now
named_after d (records.Table t) is now = now
named_after d (records.Param (params.Recovery on)) is now = now
named_after d (records.Param (params.Strength strength)) is now = now
named_after d (records.Sealed r) is now = now
named_after d (records.Decided r) is now = now
named_after d (records.Ended b e) is now = now
named_after d (records.Forced b e given) is now = now
named_after d (records.Met b e mixed) is now = now
named_after d (records.Forgot b) is now = now
named_after d (records.Hidden b) is now = now
named_after d (records.Image i) is now = now

named_by : (s : Stored) (rs : List RedoRecord) → AllByRecursion NamesTable rs → AreNamed s.durable.synonyms → AreNamed (stored_by s rs).durable.synonyms
unfolding stored_by applied
named_by s [] all now = now
named_by s (r ∷ rs) all now = named_by (applied s r) rs all.1 (named_after s.durable r all.0 now)

pub starts_keep_bytes : StartsKeepBytes
unfolding start_of
starts_keep_bytes rs all = record { lives = record { there = λ b none. refl; each = λ b l found. absurd cc }; synonyms = named_by nothing_stored rs all tt }

-- ---- turns

made_named : {k : NodeState} {input : Input} {n : ℕ} {s : Stmt} {r : RedoRecord} {d : Done} → BringsBytes input → IsCall input n s → steps.Makes k s r d → NamesTable r
made_named brings call (steps.Makes_table t free) = tt
made_named brings call (steps.Makes_link l free) = tt
made_named brings call (steps.Makes_synonym y free) = printable_named (stmts.CreateSynonym y) (call_so brings call)
made_named brings call (steps.Sets_recovery on) = tt
made_named brings call (steps.Sets_strength strength) = tt

names_on : (p : Place) (input : Input) → BringsBytes input → {k : NodeState} {d : TurnDraft} → Step p input k d → IfSome d.wrote NamesTable
names_on p input brings (steps.Begins n s read_at call begins fit none step) = names_on p input brings step
names_on p input brings (steps.Counts_call n s call counts step) = names_on p input brings step
names_on p input brings (steps.Goes_back x to goes next) = names_on p input brings next
names_on p input brings (steps.Pends n l given call has live code writer step) = names_on p input brings step
names_on p input brings (steps.Lets_reads_go l comment site_below live begun step) = names_on p input brings step
names_on p input brings (steps.Counts_ack s from kept came counts step) = names_on p input brings step
names_on p input brings (steps.Acts l site_below acts.Seal why) = tt
names_on p input brings (steps.Acts l site_below (acts.SealAndPass i) why) = tt
names_on p input brings (steps.Acts l site_below acts.Decide why) = tt
names_on p input brings (steps.Acts l site_below acts.Rest why) = tt
names_on p input brings (steps.Acts l site_below acts.AskDown why) = tt
names_on p input brings (steps.Acts l site_below acts.SayReadOnly why) = tt
names_on p input brings (steps.Acts l site_below acts.SayReady why) = tt
names_on p input brings (steps.Acts l site_below acts.Finish why) = tt
names_on p input brings (steps.Acts l site_below acts.Abandon why) = tt
names_on p input brings (steps.Does s from (nexts.End d) kept why) = tt
names_on p input brings (steps.Does s from (nexts.Meet d mixed) kept why) = tt
names_on p input brings (steps.Does s from nexts.Forget kept why) = tt
names_on p input brings (steps.Does s from nexts.Rest kept why) = tt
names_on p input brings (steps.Does s from nexts.AckToward kept why) = tt
names_on p input brings (steps.Does s from nexts.SayForgotten kept why) = tt
names_on p input brings (steps.Does s from nexts.SayAck kept why) = tt
names_on p input brings (steps.Makes_record n s r d call makes) = made_named brings call makes
names_on p input brings (steps.Gives_up_commit n b (Some l) gives has waits live) = tt
names_on p input brings (steps.Gives_up_commit n b None gives has waits none) = tt
names_on p input brings _ = tt

pub turns_name_tables : TurnsNameTables
unfolding turn_of
turns_name_tables p k input fit brings = names_on p input brings (step_of p k input fit)
