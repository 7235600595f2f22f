-- Each step of a turn keeps rows that are of their tables, and so does each turn.
use Rattle.std.proofs.Common.{◌≡◌, ℕ, ◌+◌, Bool, true, false, if◌then◌else◌, List, [], Option, Some, None, refl, sym, ap, subst, ◌∙◌, zero, suc, ◌-◌, ◌∷◌, ◌++◌, length, take}
use Rattle.std.specs.List.{AllByRecursion}
use Rattle.node_rules.specs.Data.{Table, Synonym, TableRef, Stmt, Done, BranchId, RedoRecord, Durable, Live, Place, Input, Change, ChangeSet, Owned}
use Rattle.node_rules.specs.Data.records
use Rattle.node_rules.specs.Data.inputs
use Rattle.node_rules.specs.Data.acts
use Rattle.commit_forget.specs.declared.next.Next.TheVariants as nexts
use Rattle.node_rules.specs.Words.{same_text, drop_item, item_at}
use Rattle.node_rules.specs.Rows.{changes_of}
use Rattle.node_rules.specs.Names.{Runs_here, Through, Nowhere_to, synonym_named, table_named as named_as, table_of, ref_named, ref_of, target_of, way_edge, way_target, way_named, way_of}
use Rattle.node_rules.specs.NodeState.{NodeState, TurnDraft, own_id, Branch}
use Rattle.node_rules.specs.Prepare.{sealed_record, decided_record}
use Rattle.node_rules.specs.Statement.{view, ran, owns_after}
use Rattle.node_rules.specs.Records.{applied, stored_by, versions_after}
use Rattle.node_rules.specs.Refusals.{ora, dtx}
use Rattle.redo_record.specs.Durable.{durable_after}
use Rattle.node_rules.specs.Data.decisions
use Rattle.node_rules.specs.Turn.{heard, turn_of, made, start_of}
use Rattle.node_rules.specs.Inputs.{IsCall}
use Rattle.node_rules.proofs.Steps as steps
use Rattle.node_rules.proofs.Steps.{Step, Makes}
use Rattle.node_rules.proofs.TurnLemmas.{step_of}
use Rattle.node_rules.specs.Marks.{sets_behind, node_back}
use Rattle.node_rules.specs.Images.{image_at}
use Rattle.session_tree.specs.Live.{edge_by_link}
use Rattle.node_ready_laws.specs.Rows.{table_named, AreChangesAt, AreRows, HasRows, BringsWhole, RowsStayOfTables, IsChangeAt}
use Rattle.node_ready_laws.proofs.ListLemmas.{all_dropped, found_passes, all_put, all_found, all_append}
use Rattle.node_ready_laws.proofs.TableLemmas.{one_text}
use Rattle.node_ready_laws.proofs.RecordLemmas.{KeepsRows}
use Rattle.node_ready_laws.proofs.RanLemmas.{own_there, own_ran}
use Rattle.node_ready_laws.proofs.VersionLemmas.{rows_recorded}
use Rattle.row_store.specs.Store.{less_sets}
use Rattle.node_rules.proofs.WayLemmas.{way_by_name}

-- ---- the table at which a statement runs

module _ (p : Place) (d : Durable) (l : Live) (given : ℕ) (t : Table) where
  new_elsewhere : (node : ℕ) (link table : List ℕ) (deep many : Bool) → (if deep then Nowhere_to (dtx 2 []) else (if many then Nowhere_to (ora 2020 []) else Through node link table)) ≡ Runs_here t → table_named d.tables t.name ≡ Some t
  new_elsewhere node link table true many is = absurd cc
  new_elsewhere node link table false true is = absurd cc
  new_elsewhere node link table false false is = absurd cc

  edge_elsewhere : (node : ℕ) (link table : List ℕ) (o : Option ℕ) → way_edge p l given node link table o ≡ Runs_here t → table_named d.tables t.name ≡ Some t
  edge_elsewhere node link table (Some i) is = absurd cc
  edge_elsewhere node link table None is = new_elsewhere node link table _ _ is

  target_elsewhere : (link table : List ℕ) (o : Option ℕ) → way_target p l given link table o ≡ Runs_here t → table_named d.tables t.name ≡ Some t
  target_elsewhere link table None is = absurd cc
  target_elsewhere link table (Some node) is = edge_elsewhere node link table (edge_by_link l link) is

  found_here : (name : List ℕ) (u : Table) → table_of d name ≡ Some u → Runs_here u ≡ Runs_here t → table_named d.tables t.name ≡ Some t
  found_here name u found is =
      let one : u ≡ t = cc in
      let there : table_of d name ≡ Some t = found ∙ ap Some one in
      subst (λ q. table_named d.tables q ≡ Some t) (sym (one_text t.name name (found_passes (λ x. same_text x.name name) d.tables t there))) there

  synonym_elsewhere : (o : Option Synonym) → way_named p d l given (synonym_named o) ≡ Runs_here t → table_named d.tables t.name ≡ Some t
  synonym_elsewhere None is = absurd cc
  synonym_elsewhere (Some y) is = target_elsewhere y.link y.table (target_of p d y.link) is

  bare_here : (name : List ℕ) (o : Option Table) → table_of d name ≡ o → way_named p d l given (named_as d name o) ≡ Runs_here t → table_named d.tables t.name ≡ Some t
  bare_here name (Some u) found is = found_here name u found is
  bare_here name None found is = synonym_elsewhere _ is

  ref_here : (ref : TableRef) (o : Option (List ℕ)) → way_named p d l given (ref_named d ref o) ≡ Runs_here t → table_named d.tables t.name ≡ Some t
  ref_here ref (Some link) is = target_elsewhere link ref.name (target_of p d link) is
  ref_here ref None is = bare_here ref.name (table_of d ref.name) refl is

  -- a table at which a statement runs is there, under its name
  pub way_there : (s : Stmt) → way_of p d l given s ≡ Runs_here t → table_named d.tables t.name ≡ Some t
  way_there s is = ref_here (ref_of s) (ref_of s).link (way_by_name p d l given s (Runs_here t) tt is)

-- ---- steps

-- a record that a client's statement makes keeps rows
makes_keeps : {input : Input} {k : NodeState} {n : ℕ} {s : Stmt} {r : RedoRecord} {d : Done} → BringsWhole input → IsCall input n s → Makes k s r d → KeepsRows k.stored r
makes_keeps whole call (steps.Makes_table t free) = (subst BringsWhole call whole, free)
makes_keeps whole call (steps.Makes_link l free) = tt
makes_keeps whole call (steps.Makes_synonym y free) = tt
makes_keeps whole call (steps.Sets_recovery on) = tt
makes_keeps whole call (steps.Sets_strength strength) = tt

-- ---- going back

front : (P : Change → Type 0) (cs ds : List Change) → AllByRecursion P (cs ++ ds) → AllByRecursion P cs × AllByRecursion P ds
front P [] ds all = (tt, all)
front P (c ∷ cs) ds all = let rest = front P cs ds all.1 in ((all.0, rest.0), rest.1)

-- what is so of all changes is so of those of the first sets
pub first_changes : (P : Change → Type 0) (n : ℕ) (sets : List ChangeSet) → AllByRecursion P (changes_of sets) → AllByRecursion P (changes_of (take n sets))
first_changes P zero sets all = tt
first_changes P (suc n) [] all = tt
first_changes P (suc n) (s ∷ sets) all =
    let parts = front P s.changes (changes_of sets) all in all_append P s.changes (changes_of (take n sets)) parts.0 (first_changes P n sets parts.1)

module _ (k : NodeState) (now : HasRows k) where
  -- a branch leaves
  dropped : (b : BranchId) → AreRows k.stored.durable.tables k.stored.rows (drop_item own_id k.owns b) k.stored.doubts k.versions.kept
  dropped b = record {
    whole = now.whole;
    own_names = now.own_names;
    fit = now.fit;
    names = now.names;
    held_back = now.held_back;
    own = all_dropped (λ o. AreChangesAt k.stored.durable.tables (changes_of o.sets)) own_id k.owns b now.own;
    behind = now.behind;
  }

  -- it goes back
  less_sets_own : (n : ℕ) (b : BranchId) (o : Option Owned) → item_at own_id k.owns b ≡ o → AllByRecursion (λ x. AreChangesAt k.stored.durable.tables (changes_of x.sets)) (less_sets n k.owns o)
  less_sets_own n b None is = now.own
  less_sets_own n b (Some o) is =
      all_put (λ x. AreChangesAt k.stored.durable.tables (changes_of x.sets)) own_id k.owns (record o { sets = take (length o.sets - n) o.sets }) now.own
      (first_changes (IsChangeAt k.stored.durable.tables) (length o.sets - n) o.sets (all_found (λ x. AreChangesAt k.stored.durable.tables (changes_of x.sets)) _ k.owns o now.own is))

  pub back : (x : Branch) (step : ℕ) → HasRows (node_back k x step)
  back x step = record {
    whole = now.whole;
    own_names = now.own_names;
    fit = now.fit;
    names = now.names;
    own = less_sets_own (sets_behind x.work.marks step) x.live.me (item_at own_id k.owns x.live.me) refl;
    held_back = now.held_back;
    behind = now.behind;
  }

  -- it becomes sealed
  sealed : (l : Live) (path : Option ℕ) → AreRows (applied k.stored (sealed_record k l path)).durable.tables (applied k.stored (sealed_record k l path)).rows (drop_item own_id k.owns l.me) (applied k.stored (sealed_record k l path)).doubts
      (versions_after k.stored k.versions (sealed_record k l path)).kept
  sealed l path = rows_recorded k.stored (drop_item own_id k.owns l.me) k.versions (sealed_record k l path) (dropped l.me) (own_there k now l.me)

  -- it decides
  decided : (l : Live) → AreRows (applied k.stored (decided_record k l)).durable.tables (applied k.stored (decided_record k l)).rows (drop_item own_id k.owns l.me) (applied k.stored (decided_record k l)).doubts
      (versions_after k.stored k.versions (decided_record k l)).kept
  decided l = rows_recorded k.stored (drop_item own_id k.owns l.me) k.versions (decided_record k l) (dropped l.me) (own_there k now l.me)

  -- a statement runs
  run : (p : Place) (b : BranchId) (s : Stmt) (t : Table) → table_named k.stored.durable.tables t.name ≡ Some t
      → AreRows k.stored.durable.tables k.stored.rows (owns_after k.owns b (view k b t.name) (ran p k b s t)) k.stored.doubts k.versions.kept
  run p b s t there = record { whole = now.whole; own_names = now.own_names; fit = now.fit; names = now.names; own = own_ran k now b t there p s; held_back = now.held_back; behind = now.behind }

rows_on : (p : Place) (input : Input) → BringsWhole input → {k : NodeState} {d : TurnDraft} → Step p input k d → HasRows k → HasRows d.after
rows_on p input whole (steps.Begins n s read_at call begins fit none step) now = rows_on p input whole step now
rows_on p input whole (steps.Counts_call n s call counts step) now = rows_on p input whole step now
rows_on p input whole (steps.Goes_back {k = k} x step goes next) now = rows_on p input whole next (back k now x step)
rows_on p input whole (steps.Pends n l given call has live code writer step) now = rows_on p input whole step now
rows_on p input whole (steps.Lets_reads_go l comment site_below live begins step) now = rows_on p input whole step now
rows_on p input whole (steps.Counts_ack s from kept came counts step) now = rows_on p input whole step now
rows_on p input whole (steps.Runs {k = k} x s given t asked way) now = run k now p x.live.me s t (way_there p k.stored.durable x.live given t s way)
rows_on p input whole (steps.Acts {k = k} l site_below acts.SayReadOnly why) now = dropped k now l.me
rows_on p input whole (steps.Acts {k = k} l site_below acts.Seal why) now = sealed k now l None
rows_on p input whole (steps.Acts {k = k} l site_below (acts.SealAndPass i) why) now = sealed k now l (Some i)
rows_on p input whole (steps.Acts {k = k} l site_below acts.Decide why) now = decided k now l
rows_on p input whole (steps.Acts {k = k} l site_below acts.Finish why) now = dropped k now l.me
rows_on p input whole (steps.Acts {k = k} l site_below acts.Abandon why) now = dropped k now l.me
rows_on p input whole (steps.Acts {k = k} l site_below acts.Rest why) now = now
rows_on p input whole (steps.Acts {k = k} l site_below acts.AskDown why) now = now
rows_on p input whole (steps.Acts {k = k} l site_below acts.SayReady why) now = now
rows_on p input whole (steps.Drops_told {k = k} l live drops) now = dropped k now l.me
rows_on p input whole (steps.Drops_asked {k = k} l from live came parent) now = dropped k now l.me
rows_on p input whole (steps.Does {k = k} s from (nexts.End d) kept why) now = rows_recorded k.stored k.owns k.versions (records.Ended s.me d) now tt
rows_on p input whole (steps.Does {k = k} s from (nexts.Meet d mixed) kept why) now = rows_recorded k.stored k.owns k.versions (records.Met s.me d mixed) now tt
rows_on p input whole (steps.Does {k = k} s from nexts.Forget kept why) now = rows_recorded k.stored k.owns k.versions (records.Forgot s.me) now tt
rows_on p input whole (steps.Does s from nexts.Rest kept why) now = now
rows_on p input whole (steps.Does s from nexts.AckToward kept why) now = now
rows_on p input whole (steps.Does s from nexts.SayForgotten kept why) now = now
rows_on p input whole (steps.Does s from nexts.SayAck kept why) now = now
rows_on p input whole (steps.Makes_record {k = k} n s r d call makes) now = rows_recorded k.stored k.owns k.versions r now (makes_keeps whole call makes)
rows_on p input whole (steps.Forces_given {k = k} n id m b call named) now = rows_recorded k.stored k.owns k.versions (records.Forced b (decisions.Commit m) true) now tt
rows_on p input whole (steps.Forces_commit {k = k} n id b call named) now = rows_recorded k.stored k.owns k.versions (records.Forced b (decisions.Commit (k.clock + 1)) false) now tt
rows_on p input whole (steps.Forces_rollback {k = k} n id b call named) now = rows_recorded k.stored k.owns k.versions (records.Forced b decisions.Rollback false) now tt
rows_on p input whole (steps.Hides {k = k} n mixed id s call found) now = rows_recorded k.stored k.owns k.versions (records.Hidden s.me) now tt
rows_on p input whole (steps.Leaves {k = k} n s d x call ends has live) now = dropped k now x.live.me
rows_on p input whole (steps.Images {k = k} checkpoint) now = rows_recorded k.stored k.owns k.versions (records.Image (image_at k.stored k.clock)) now tt
rows_on p input whole (steps.Gives_up_commit {k = k} n b (Some l) gives has calls live) now = dropped k now l.me
rows_on p input whole (steps.Gives_up_commit n b None gives has calls live) now = now
rows_on p input whole _ now = now

rows_heard : (k : NodeState) (input : Input) → HasRows k → HasRows (heard k input)
rows_heard k (inputs.Message m) now = now
rows_heard k _ now = now

pub rows_stay_of_tables : RowsStayOfTables
unfolding turn_of
rows_stay_of_tables p k input fit whole now = rows_on p input whole (step_of p k input fit) (rows_heard k input now)

pub no_rows_at_first : HasRows made
unfolding start_of applied durable_after stored_by
no_rows_at_first = record { whole = tt; own_names = tt; fit = tt; names = refl; own = tt; held_back = tt; behind = tt }
