-- Each step of a turn leaves links and synonyms that have names, and so does each turn.
use Rattle.std.proofs.Common.{◌≡◌, ◌||◌, ℕ, false, List, [], ◌∷◌, Some, None, refl, subst}
use Rattle.std.specs.List.{AllByRecursion, list_any}
use Rattle.std.specs.Str.{bytes_eq}
use Rattle.std.proofs.Math.Path.{ap₂}
use Rattle.redo_record.specs.Durable.{durable_after}
use Rattle.sql_statement.specs.Whole.{IsName, IsWholeTable}
use Rattle.node_rules.specs.Data.{Table, Synonym, RedoRecord, Durable, Stmt, Done, Place, Input}
use Rattle.node_rules.specs.Data.records
use Rattle.node_rules.specs.Data.params
use Rattle.node_rules.specs.Data.inputs
use Rattle.node_rules.specs.Data.acts
use Rattle.commit_forget.specs.declared.next.Next.TheVariants as nexts
use Rattle.node_rules.specs.NodeState.{NodeState, TurnDraft}
use Rattle.node_rules.specs.Records.{applied}
use Rattle.node_rules.specs.Inputs.{IsCall}
use Rattle.node_rules.specs.Turn.{heard, turn_of}
use Rattle.node_rules.proofs.Steps as steps
use Rattle.node_rules.proofs.Steps.{Step, Makes}
use Rattle.node_rules.proofs.TurnLemmas.{step_of}
use Rattle.node_ready_laws.specs.Names.{IsNamedLink, IsNamedSynonym, AreNamed, HasNames, BringsNamed, NamesStay, EmptyNameIsFree}
use Rattle.node_ready_laws.proofs.ListLemmas.{all_last}

-- ---- no empty name

empty_is_none : (name : List ℕ) → IsName name → bytes_eq name [] ≡ false
empty_is_none [] is = absurd cc
empty_is_none (b ∷ bs) is = refl

none_empty : {A : Type 0} (name : A → List ℕ) (xs : List A) → AllByRecursion (λ x. IsName (name x)) xs → list_any (λ x. bytes_eq (name x) []) xs ≡ false
none_empty name [] all = refl
none_empty name (x ∷ xs) all = ap₂ (λ a b. a || b) (empty_is_none (name x) all.0) (none_empty name xs all.1)

tables_named : (ts : List Table) → AllByRecursion IsWholeTable ts → AllByRecursion (λ t. IsName t.name) ts
tables_named [] all = tt
tables_named (t ∷ ts) all = (all.0.named, tables_named ts all.1)

synonyms_named : (ys : List Synonym) → AllByRecursion IsNamedSynonym ys → AllByRecursion (λ y. IsName y.name) ys
synonyms_named [] all = tt
synonyms_named (y ∷ ys) all = (all.0.0, synonyms_named ys all.1)

pub empty_name_is_free : EmptyNameIsFree
empty_name_is_free k rows names =
    ap₂ (λ a b. a || b) (none_empty (λ t. t.name) k.stored.durable.tables (tables_named k.stored.durable.tables rows.whole))
    (none_empty (λ y. y.name) k.stored.durable.synonyms (synonyms_named k.stored.durable.synonyms names.synonyms))

-- ---- records

-- a record of a link or a synonym has one that is so
abbrev pub KeepsNames : RedoRecord → Type 0
KeepsNames (records.Link l) = IsNamedLink l
KeepsNames (records.Synonym y) = IsNamedSynonym y
KeepsNames _ = Unit {0}

-- links and synonyms after one more record
pub names_after : (d : Durable) (r : RedoRecord) → KeepsNames r → AreNamed d.links d.synonyms → AreNamed (durable_after d r).links (durable_after d r).synonyms
unfolding durable_after
names_after d (records.Link l) is now = record { links = all_last IsNamedLink d.links l now.links is; synonyms = now.synonyms }
names_after d (records.Synonym y) is now = record { links = now.links; synonyms = all_last IsNamedSynonym d.synonyms y now.synonyms is }
names_after d (records.Boot n) is now = now
names_after d (records.Table t) is now = now
names_after d (records.Param (params.Recovery on)) is now = now
names_after d (records.Param (params.Strength strength)) is now = now
names_after d (records.Sealed r) is now = now
names_after d (records.Decided r) is now = now
names_after d (records.Ended b o) is now = now
names_after d (records.Forced b o given) is now = now
names_after d (records.Met b o mixed) is now = now
names_after d (records.Forgot b) is now = now
names_after d (records.Hidden b) is now = now
names_after d (records.Image i) is now = now

-- a record that a client's statement makes
pub makes_names : {input : Input} {k : NodeState} {n : ℕ} {s : Stmt} {r : RedoRecord} {d : Done} → BringsNamed input → IsCall input n s → Makes k s r d → KeepsNames r
makes_names named call (steps.Makes_table t free) = tt
makes_names named call (steps.Makes_link l free) = subst BringsNamed call named
makes_names named call (steps.Makes_synonym y free) = subst BringsNamed call named
makes_names named call (steps.Sets_recovery on) = tt
makes_names named call (steps.Sets_strength strength) = tt

-- ---- steps

names_on : (p : Place) (input : Input) → BringsNamed input → {k : NodeState} {d : TurnDraft} → Step p input k d → HasNames k → HasNames d.after
unfolding applied durable_after
names_on p input named (steps.Begins n s read_at call begins fit none step) now = names_on p input named step now
names_on p input named (steps.Counts_call n s call counts step) now = names_on p input named step now
names_on p input named (steps.Goes_back x step goes next) now = names_on p input named next now
names_on p input named (steps.Pends n l given call has live code writer step) now = names_on p input named step now
names_on p input named (steps.Lets_reads_go l comment site_below live begins step) now = names_on p input named step now
names_on p input named (steps.Counts_ack s from kept came counts step) now = names_on p input named step now
names_on p input named (steps.Makes_record {k = k} n s r d call makes) now = names_after k.stored.durable r (makes_names named call makes) now
names_on p input named (steps.Acts l site_below acts.Rest why) now = now
names_on p input named (steps.Acts l site_below acts.AskDown why) now = now
names_on p input named (steps.Acts l site_below acts.SayReadOnly why) now = now
names_on p input named (steps.Acts l site_below acts.SayReady why) now = now
names_on p input named (steps.Acts l site_below acts.Seal why) now = now
names_on p input named (steps.Acts l site_below (acts.SealAndPass i) why) now = now
names_on p input named (steps.Acts l site_below acts.Decide why) now = now
names_on p input named (steps.Acts l site_below acts.Finish why) now = now
names_on p input named (steps.Acts l site_below acts.Abandon why) now = now
names_on p input named (steps.Does s from nexts.Rest kept why) now = now
names_on p input named (steps.Does s from nexts.AckToward kept why) now = now
names_on p input named (steps.Does s from nexts.SayForgotten kept why) now = now
names_on p input named (steps.Does s from nexts.SayAck kept why) now = now
names_on p input named (steps.Does s from (nexts.End d) kept why) now = now
names_on p input named (steps.Does s from (nexts.Meet d mixed) kept why) now = now
names_on p input named (steps.Does s from nexts.Forget kept why) now = now
names_on p input named (steps.Gives_up_commit n b (Some l) gives has calls live) now = now
names_on p input named (steps.Gives_up_commit n b None gives has calls live) now = now
names_on p input named _ now = now

names_heard : (k : NodeState) (input : Input) → HasNames k → HasNames (heard k input)
names_heard k (inputs.Message m) now = now
names_heard k _ now = now

pub names_stay : NamesStay
unfolding turn_of
names_stay p k input fit named now = names_on p input named (step_of p k input fit) (names_heard k input now)
