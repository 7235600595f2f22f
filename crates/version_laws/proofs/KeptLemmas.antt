-- In every lawful run the commits that a node keeps are in step with those that its records make.
use Rattle.std.proofs.Common.{◌≡◌, ℕ, ◌≤◌, List, [], ◌∷◌, ◌++◌, Option, Some, None, refl, sym, ap, subst, subst₂, ◌∙◌, append-nil}
use Rattle.std.specs.Prelude.{IfSome}
use Rattle.std.specs.Option.{option_to_list}
use Rattle.commit_forget.specs.declared.next.Next.TheVariants as nexts
use Rattle.read_only_tx.specs.Versions.{Versions, versions_from}
use Rattle.node_rules.specs.Data.{Value, RedoRecord, Place, Input}
use Rattle.node_rules.specs.Data.acts
use Rattle.node_rules.specs.Data.records
use Rattle.node_rules.specs.Commit.{acked_by}
use Rattle.node_rules.specs.Calls.{backs_to}
use Rattle.node_rules.specs.Marks.{node_back, branch_back, next_back}
use Rattle.node_rules.specs.NodeState.{NodeState, TurnDraft, Stored, Branch, with_kept_row}
use Rattle.node_rules.specs.Records.{commit_of, nothing_stored, stored_by, versions_by, versions_after, versions_read, versions_in}
use Rattle.node_rules.specs.Rows.{get, rows_of_table}
use Rattle.node_rules.specs.Turn.{start_of}
use Rattle.node_rules.proofs.StepLemmas.{made_so}
use Rattle.node_rules.proofs.Steps as steps
use Rattle.node_rules.proofs.Steps.{Step}
use Rattle.run_rules.specs.Branches.{no_trail}
use Rattle.run_rules.specs.Facts.{first_facts, node_at, records_at}
use Rattle.run_rules.specs.Lawful.{History, IsLawfulRun, facts_at}
use Rattle.run_base_laws.proofs.LawfulLemmas.{lawful_keeps}
use Rattle.run_base_laws.proofs.NodeLemmas.{Keeps, AllStand, all_stand_on, first_all, at_node}
use Rattle.run_base_laws.proofs.StoredLemmas.{StoresOf, stored_with}
use Rattle.run_key_laws.specs.TableLaws.{AreChangesIn, StoredFits}
use Rattle.run_key_laws.proofs.TableRunLemmas.{run_tables}
use Rattle.run_key_laws.proofs.TableStepLemmas.{Fits, AreWhole, DiskFits, NodeFits, tables_keep}
use Rattle.book_laws.proofs.RecordFitLemmas.{HasChangesIn, step_changes, before}
use Rattle.version_laws.proofs.ChainLemmas.{left, InStep}
use Rattle.version_laws.proofs.CommitLemmas.{until_by, until_more, versions_more, SaysTop, HasRows, there_after, kept_after, whole_after, kept_read, until_in}

-- ---- a step

-- the commits that a node keeps, after the record of a turn
abbrev pub with_wrote : Stored → Versions → Option RedoRecord → Versions
with_wrote s vs None = vs
with_wrote s vs (Some r) = versions_after s vs r

same_wrote : (s t : Stored) (vs : Versions) (w : Option RedoRecord) → s.rows ≡ t.rows → s.doubts ≡ t.doubts → with_wrote s vs w ≡ with_wrote t vs w
same_wrote s t vs None rows doubts = refl
same_wrote s t vs (Some r) rows doubts = ap (λ rs. versions_by rs vs (commit_of s.doubts r)) rows ∙ ap (λ ds. versions_by t.rows vs (commit_of ds r)) doubts

same_top : (s t : Stored) → s.top ≡ t.top → (w : Option RedoRecord) → IfSome w (SaysTop s) → IfSome w (SaysTop t)
same_top s t same None is = tt
same_top s t same (Some (records.Image i)) is = is ∙ same
same_top s t same (Some _) is = tt

-- a step keeps those of its record
pub step_keeps : (p : Place) (input : Input) {k : NodeState} {d : TurnDraft} → Step p input k d → d.after.versions ≡ with_wrote k.stored k.versions d.wrote
step_keeps p input (steps.Begins n s read_at call begins fit none step) = step_keeps p input step
step_keeps p input (steps.Counts_call n s call counts step) = step_keeps p input step
step_keeps p input (steps.Goes_back x step goes next) = step_keeps p input next
step_keeps p input (steps.Pends n l given call has live code writer step) = step_keeps p input step
step_keeps p input (steps.Lets_reads_go l comment site_below live begins step) = step_keeps p input step
step_keeps p input (steps.Counts_ack {k = k} {d = d} s from kept came counts step) = step_keeps p input step ∙ same_wrote (with_kept_row k (acked_by s from)).stored k.stored k.versions d.wrote refl refl
step_keeps p input (steps.Acts l site_below acts.Rest why) = refl
step_keeps p input (steps.Does s from nexts.Rest kept why) = refl
step_keeps p input (steps.Gives_up_commit n b None gives has pending is) = refl
step_keeps p input _ = refl

-- a branch that goes back writes no image
backs_silent : (k at : NodeState) (x : Branch) (step : ℕ) (o : Option ℕ) → IfSome (backs_to k x step o).wrote (SaysTop at.stored)
backs_silent k at x step None = tt
backs_silent k at x step (Some i) = tt

-- the image of a step says the greatest SCN of those that were committed
step_says : (p : Place) (input : Input) {k : NodeState} {d : TurnDraft} → Step p input k d → IfSome d.wrote (SaysTop k.stored)
step_says p input (steps.Begins n s read_at call begins fit none step) = step_says p input step
step_says p input (steps.Counts_call n s call counts step) = step_says p input step
step_says p input (steps.Goes_back {k = k} x step goes next) = backs_silent (node_back k x step) k (branch_back k x step) step (next_back (branch_back k x step).work step 1)
step_says p input (steps.Pends n l given call has live code writer step) = step_says p input step
step_says p input (steps.Lets_reads_go l comment site_below live begins step) = step_says p input step
step_says p input (steps.Counts_ack {k = k} {d = d} s from kept came counts step) = same_top (with_kept_row k (acked_by s from)).stored k.stored refl d.wrote (step_says p input step)
step_says p input (steps.Acts l site_below acts.Rest why) = tt
step_says p input (steps.Does s from nexts.Rest kept why) = tt
step_says p input (steps.Makes_record {k = k} n s r d call makes) = made_so (SaysTop k.stored) (λ t. tt) (λ l. tt) (λ y. tt) (λ setting. tt) makes
step_says p input (steps.Gives_up_commit n b None gives has calls gone) = tt
step_says p input (steps.Images is) = refl
step_says p input _ = tt

-- ---- disks and nodes

-- What the records of a disk make: each table has rows; at each key and each SCN the row is the one that the commits up to the SCN
-- leave, where none is above it; and a start keeps commits in step.
pub record DiskStands (rs : List RedoRecord) : Type 0 where
  pub there : HasRows (stored_by nothing_stored rs)
  pub changes : (scn : ℕ) → AreChangesIn (stored_by nothing_stored rs).durable.tables (until_by scn nothing_stored rs)
  pub whole : (scn : ℕ) (table : List ℕ) (key : Value) → (stored_by nothing_stored rs).top ≤ scn → get (rows_of_table (stored_by nothing_stored rs).rows table) key ≡ left scn table key None (until_by scn nothing_stored rs)
  pub starts : (scn : ℕ) (table : List ℕ) (key : Value) → InStep scn table key (until_by scn nothing_stored rs) (get (rows_of_table (stored_by nothing_stored rs).rows table) key) (versions_in nothing_stored (versions_from 0) rs)

-- the commits that a node keeps are in step
abbrev pub KeptStands : List RedoRecord → Versions → Type 0
KeptStands rs vs = (scn : ℕ) (table : List ℕ) (key : Value) → InStep scn table key (until_by scn nothing_stored rs) (get (rows_of_table (stored_by nothing_stored rs).rows table) key) vs

module _ (rs : List RedoRecord) (r : RedoRecord) where
  abbrev s : Stored
  s = stored_by nothing_stored rs

  disk_with : StoredFits s → HasChangesIn s.durable.tables r → SaysTop s r → DiskStands rs → DiskStands (rs ++ r ∷ [])
  disk_with fits has says now = record {
    there = subst HasRows (sym (stored_with rs (Some r))) (there_after s fits now.there r);
    changes = λ scn. subst₂ (λ (x : Stored) cs. AreChangesIn x.durable.tables cs) (sym (stored_with rs (Some r))) (sym (until_more scn nothing_stored rs r)) (until_in scn s r fits now.there has (until_by scn nothing_stored rs) (now.changes scn));
    whole = λ scn table key. subst₂ (λ (x : Stored) cs. x.top ≤ scn → get (rows_of_table x.rows table) key ≡ left scn table key None cs) (sym (stored_with rs (Some r))) (sym (until_more scn nothing_stored rs r))
        (whole_after s fits now.there scn table key r has (until_by scn nothing_stored rs) (now.whole scn table key));
    starts = λ scn table key. subst (λ vs. InStep scn table key (until_by scn nothing_stored (rs ++ r ∷ [])) (get (rows_of_table (stored_by nothing_stored (rs ++ r ∷ [])).rows table) key) vs) (sym (versions_more nothing_stored (versions_from 0) rs r))
        (subst₂ (λ (x : Stored) cs. InStep scn table key cs (get (rows_of_table x.rows table) key) (versions_read s (versions_in nothing_stored (versions_from 0) rs) r)) (sym (stored_with rs (Some r))) (sym (until_more scn nothing_stored rs r))
        (kept_read s fits now.there scn table key r has says (until_by scn nothing_stored rs) (versions_in nothing_stored (versions_from 0) rs) (now.whole scn table key) (now.starts scn table key)));
  }

  kept_with : StoredFits s → HasRows s → HasChangesIn s.durable.tables r → (vs : Versions) → KeptStands rs vs → KeptStands (rs ++ r ∷ []) (versions_after s vs r)
  kept_with fits there has vs now scn table key =
      subst₂ (λ (x : Stored) cs. InStep scn table key cs (get (rows_of_table x.rows table) key) (versions_after s vs r)) (sym (stored_with rs (Some r))) (sym (until_more scn nothing_stored rs r))
      (kept_after s fits there scn table key r has (until_by scn nothing_stored rs) vs (now scn table key))

empty_stands : DiskStands []
unfolding stored_by
empty_stands = record {
  there = λ name x found. absurd cc;
  changes = λ scn. tt;
  whole = λ scn table key low. refl;
  starts = λ scn table key. record { row = None; chain = refl; sees = λ low. refl };
}

-- where tables are whole
abbrev pub J : Place → List RedoRecord → Type 0
J p rs = DiskFits rs × (AreWhole rs → DiskStands rs)

abbrev pub I : Place → List RedoRecord → NodeState → Type 0
I p rs k = NodeFits rs k × (AreWhole rs → DiskStands rs × KeptStands rs k.versions)

module _ (rs : List RedoRecord) (k : NodeState) (after : NodeState) (stored : StoresOf rs k) (fits : AreWhole rs → Fits k) (now : AreWhole rs → DiskStands rs × KeptStands rs k.versions) where
  stands_with : (w : Option RedoRecord) → IfSome w (SaysTop k.stored) → (AreWhole rs → IfSome w (HasChangesIn k.stored.durable.tables)) → after.versions ≡ with_wrote k.stored k.versions w
      → AreWhole (rs ++ option_to_list w) → DiskStands (rs ++ option_to_list w) × KeptStands (rs ++ option_to_list w) after.versions
  stands_with None says has kept whole =
      subst₂ (λ xs vs. DiskStands xs × KeptStands xs vs) (sym (append-nil rs)) (sym kept) (now (before rs None whole))
  stands_with (Some r) says has kept whole =
      let was : AreWhole rs = before rs (Some r) whole in
      let s : Stored = stored_by nothing_stored rs in
      let fit : StoredFits s = subst StoredFits stored (fits was).0 in
      let changes : HasChangesIn s.durable.tables r = subst (λ (x : Stored). HasChangesIn x.durable.tables r) stored (has was) in
      let both = now was in (
        disk_with rs r fit changes (same_top k.stored s (ap (λ (x : Stored). x.top) stored) (Some r) says) both.0,
        subst (λ vs. KeptStands (rs ++ r ∷ []) vs) (sym (kept ∙ ap (λ (x : Stored). versions_after x k.versions r) stored)) (kept_with rs r fit both.0.there changes k.versions both.1),
      )

pub versions_keep : Keeps J I
unfolding start_of
versions_keep = record {
  empty = λ p. (tables_keep.empty p, λ whole. empty_stands);
  starts = λ p rs boot disk next. (
    tables_keep.starts p rs boot disk.0 next,
    λ whole. (
        let was : AreWhole rs = before rs (Some (records.Boot boot)) whole in
        let more : DiskStands (rs ++ records.Boot boot ∷ []) = disk_with rs (records.Boot boot) (disk.0 was) tt tt (disk.1 was) in
        (more, more.starts)
        ),
  );
  hears = λ p rs k scn now. (tables_keep.hears p rs k scn now.0, now.1);
  steps = λ p rs input k d step now. (
    tables_keep.steps p rs input k d step now.0,
    stands_with rs k d.after now.0.0 now.0.1 now.1 d.wrote (step_says p input step) (λ whole. step_changes p input step (now.0.1 whole).1) (step_keeps p input step),
  );
  rests = λ p rs k now. (tables_keep.rests p rs k now.0, λ whole. (now.1 whole).0);
}

-- at each node of a lawful run that is up
pub kept_stands : (t : History) → IsLawfulRun t → (n : ℕ) (k : NodeState) → node_at (facts_at t) n ≡ Some k → DiskStands (records_at (facts_at t) n) × KeptStands (records_at (facts_at t) n) k.versions
kept_stands t lawful n k up =
    let all : AllStand J I versions_keep t.places (facts_at t)
    = lawful_keeps t.places t.commands (λ f tr. AllStand J I versions_keep t.places f) (λ f tr h now may. all_stand_on J I versions_keep t.places t.commands f h now may) (first_facts t.places) no_trail t.trace
    (first_all J I versions_keep t.places) lawful in
    (at_node J I versions_keep t.places (facts_at t) n (all.nodes n) k up).1 ((run_tables t lawful).1 n)
