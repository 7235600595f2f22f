-- In every lawful run the forest allows each record.
use Rattle.std.proofs.Common.{◌≡◌, ◌≢◌, ℕ, ◌⊎◌, Bool, List, [], ◌∷◌, ◌++◌, map, Option, Some, None, inl, inr, sym, ap, subst, ◌∙◌}
use Rattle.std.specs.Prelude.{IfSome}
use Rattle.std.specs.List.{AllByRecursion}
use Rattle.tran_ids.proofs.ListedLemmas.{item_is}
use Rattle.session_tree.specs.Live.{is_branch}
use Rattle.node_rules.specs.Data.{BranchId, Decision, RedoRecord, KeptRow}
use Rattle.node_rules.specs.Data.decisions
use Rattle.node_rules.specs.Data.records
use Rattle.node_rules.specs.NodeState.{NodeState, kept_row_id}
use Rattle.agreement.specs.Events.{Forest, Event, Learn, Send_forgotten, Has, Heard, Cleared, site_of}
use Rattle.run_rules.specs.Data.{Happening}
use Rattle.run_rules.specs.Data.happenings
use Rattle.run_rules.specs.Facts.{Facts, first_facts, node_at, records_at}
use Rattle.run_rules.specs.Lawful.{MayHappen, History, IsLawfulRun}
use Rattle.run_base_laws.specs.RunEvents.{wrote_event, record_event}
use Rattle.run_base_laws.specs.EventLaws.{EachEventFrom}
use Rattle.run_rules.specs.Births.{Born, births_of}
use Rattle.run_base_laws.specs.BirthLaws.{Began, KeptIs}
use Rattle.run_branch_laws.specs.TowardLaws.{IsRowLike, WasTold, AllAcked, GoesByRow, WritesByRow}
use Rattle.run_branch_laws.specs.TreeJust.{TreeAllows, IsTreeAllowed}
use Rattle.run_base_laws.proofs.OwnLemmas.{all_found}
use Rattle.run_base_laws.proofs.BirthRunLemmas.{nodes_name_the_born}
use Rattle.run_base_laws.proofs.EventsStandLemmas.{node_so, run_stands}
use Rattle.run_branch_laws.proofs.TowardLemmas.{turns_go_by_rows}
use Rattle.tree_laws.specs.BeyondLaws.{BeyondHeard, RecordHeard, WritesHeard}
use Rattle.tree_laws.specs.FitLaws.{FitsForest, WritesInForest}
use Rattle.tree_laws.specs.Forests.{forest_of}
use Rattle.tree_laws.specs.LearnLaws.{LearnsOfToward, LearnsInForest}
use Rattle.tree_laws.specs.NameLaws.{RowNames, NodesName, WritesByForest, RecordsGoByForest}
use Rattle.tree_laws.specs.RecordLaws.{LeadsToward}
use Rattle.tree_laws.proofs.ClearLemmas.{row_cleared}
use Rattle.tree_laws.proofs.FitLemmas.{records_fit_forest}
use Rattle.tree_laws.proofs.ForestRunLemmas.{runs_have_forests}
use Rattle.tree_laws.proofs.LeadLemmas.{Leads, leads_so}
use Rattle.tree_laws.proofs.LearnLemmas.{DisksLead, learned_of_toward, run_leads}
use Rattle.tree_laws.proofs.NameLemmas.{rows_name_beyond}
use Rattle.tree_laws.proofs.PrefixLemmas.{so_far, f_at, e_at, both_each, fact_each, each_prefix}
use Rattle.tree_laws.proofs.RowLemmas.{RowLeads, rows_lead}
use Rattle.tree_laws.proofs.SettleRunLemmas.{known, all, ends, wider, records_heard}

module _ (p : Forest) (t : List Event) where
  -- what is beyond a settled branch was heard of
  heard_so : (me : BranchId) (parent : Option BranchId) (kids : List BranchId) (n : ℕ) → BeyondHeard p t me parent kids n → Heard p t me n
  heard_so me parent kids n heard x edge = elim (heard x edge) [ inl voted ↦ inl voted.1 | inr quiet ↦ inr quiet ]

  learn_allowed : (b : BranchId) (d : Decision) (mixed : Option Bool) → WasTold t (p.toward b) b d → TreeAllows p t (Learn b d mixed)
  learn_allowed b (decisions.Commit n) mixed told = told
  learn_allowed b decisions.Rollback mixed told = told

  -- a branch forgets so
  abbrev Forgets : RedoRecord → Type 0
  Forgets (records.Forgot b) = Cleared p t b ⊎ ((b ≢ site_of p b) × Has (Send_forgotten (p.toward b) b) t)
  Forgets _ = Unit {0}

  record_allowed : (n : ℕ) (r : RedoRecord) → FitsForest p r → RecordHeard p t r → LearnsOfToward p t r → Forgets r → IsTreeAllowed p t (record_event n r)
  record_allowed n (records.Sealed r) fits heard learns forgets = (fits.0, fits.1, heard_so r.me r.parent (map (λ c. c.branch) r.children) r.scn heard, fits.2)
  record_allowed n (records.Decided r) fits heard learns forgets = (fits.0, (heard.0, heard.1, heard_so r.me r.parent (map (λ c. c.branch) r.children) heard.0 heard.2), fits.1)
  record_allowed n (records.Ended b d) fits heard learns forgets = learn_allowed b d None learns
  record_allowed n (records.Met b d mixed) fits heard learns forgets = learn_allowed b d (Some mixed) learns
  record_allowed n (records.Forced b d given) fits heard learns forgets = tt
  record_allowed n (records.Forgot b) fits heard learns forgets = forgets
  record_allowed n (records.Table table) fits heard learns forgets = tt
  record_allowed n _ fits heard learns forgets = tt

  wrote_allowed : (n : ℕ) (w : Option RedoRecord) → IfSome w (FitsForest p) → IfSome w (RecordHeard p t) → IfSome w (LearnsOfToward p t) → IfSome w Forgets → IsTreeAllowed p t (wrote_event n w)
  wrote_allowed n None fits heard learns forgets = tt
  wrote_allowed n (Some r) fits heard learns forgets = record_allowed n r fits heard learns forgets

-- ---- a branch that forgets

module _ (t : History) (whole : IsLawfulRun t) where
  -- the row of a branch has as toward its neighbour by the forest
  pub row_toward : (bs : List Born) → ((x : Born) → Began bs x → Began (ends t whole) x) → (ks : List KeptRow) → AllByRecursion (KeptIs (Began bs)) ks → AllByRecursion (RowLeads (all t whole)) ks → (b : BranchId) (s : KeptRow) → IsRowLike ks b s
      → (q : BranchId) → s.toward ≡ Some q → Leads (ends t whole) (all t whole) (known t whole) b q
  row_toward bs wide ks names leads b s is q at =
      let row : KeptRow = is.row in
      let me : row.me ≡ b = item_is kept_row_id ks b row is.stands in
      let named : KeptIs (Began bs) row = all_found (KeptIs (Began bs)) kept_row_id ks b row names is.stands in
      let toward : row.toward ≡ Some q = sym (ap (λ (y : KeptRow). y.toward) is.like) ∙ at in
      let lead : LeadsToward (all t whole) row.me row.parent row.toward = all_found (RowLeads (all t whole)) kept_row_id ks b row leads is.stands in
      let told : LeadsToward (all t whole) row.me named.born.parent (Some q) = subst (λ o. LeadsToward (all t whole) row.me o (Some q)) (sym named.is_parent) (subst (LeadsToward (all t whole) row.me row.parent) toward lead) in
      subst (λ c. Leads (ends t whole) (all t whole) (known t whole) c q) me (leads_so (ends t whole) (all t whole) (known t whole) named.born row.me q (wide named.born named.began) named.is_me told)

  abbrev p : Forest
  p = forest_of t

  forgets_so : (e : List Event) (bs : List Born) → ((x : Born) → Began bs x → Began (ends t whole) x) → (ks : List KeptRow) → AllByRecursion (KeptIs (Began bs)) ks → AllByRecursion (RowLeads (all t whole)) ks → AllByRecursion (RowNames p e) ks → (r : RedoRecord) → GoesByRow e ks r
      → Forgets p e r
  forgets_so e bs wide ks names leads beyond_named (records.Forgot b) goes = by goes.2
    where
      by : ((goes.0.toward ≡ None) × AllAcked e goes.0) ⊎ ((x : BranchId) × (goes.0.toward ≡ Some x) × Has (Send_forgotten x b) e) → Forgets p e (records.Forgot b)
      by (inl site) = inl (row_cleared p (runs_have_forests t whole) e ks b goes.0 goes.1 beyond_named (λ x edge. ap (is_branch x) site.0) site.1)
      by (inr after) =
          let lead = row_toward bs wide ks names leads b goes.0 goes.1 after.0 after.1 in
          inr (lead.not_site, subst (λ q. Has (Send_forgotten q b) e) (sym lead.toward) after.2)
  forgets_so e bs wide ks names leads beyond_named _ goes = tt

  wrote_forgets : (e : List Event) (bs : List Born) → ((x : Born) → Began bs x → Began (ends t whole) x) → (ks : List KeptRow) → AllByRecursion (KeptIs (Began bs)) ks → AllByRecursion (RowLeads (all t whole)) ks → AllByRecursion (RowNames p e) ks → (w : Option RedoRecord)
      → IfSome w (GoesByRow e ks) → IfSome w (Forgets p e)
  wrote_forgets e bs wide ks names leads beyond_named None goes = tt
  wrote_forgets e bs wide ks names leads beyond_named (Some r) goes = forgets_so e bs wide ks names leads beyond_named r goes

  -- ---- every happening

  -- what is known of each
  abbrev Known : Facts → List Event → Happening → Type 0
  Known f e h = ((WritesInForest p t.places f h × WritesHeard p f e h) × (LearnsInForest p f e h × WritesByRow f e h)) × (NodesName p f e h × DisksLead (all t whole) f)

  allowed_so : (before : List Happening) (h : Happening) (rest : List Happening) → before ++ h ∷ rest ≡ t.trace → IsLawfulRun (so_far t before) → MayHappen t.places t.commands (f_at t before) h
      → EachEventFrom Known t.places t.commands (f_at t before) (e_at t before) (h ∷ rest) → WritesByForest p (f_at t before) (e_at t before) h
  allowed_so before (happenings.Turn u) rest is lawful may laws =
      let k : NodeState = may.0 in
      let up : node_at (f_at t before) u.node ≡ Some k = may.1.up in
      let it = laws.0 in
      let leads : AllByRecursion (RowLeads (all t whole)) k.stored.durable.kept
      = rows_lead (all t whole) k (records_at (f_at t before) u.node) (node_so t.places t.commands t.of_a_script.each (f_at t before) (e_at t before) (run_stands (so_far t before) lawful) u.node k up).stored (it.1.1 u.node) in
      wrote_allowed p (e_at t before) u.node u.wrote it.0.0.0 it.0.0.1 it.0.1.0
      (wrote_forgets (e_at t before) (births_of (so_far t before)) (wider t whole before u rest is) k.stored.durable.kept (nodes_name_the_born (so_far t before) lawful u.node k up).1 leads (it.1.0 u.node k up) u.wrote (it.0.1.1 k up))
  allowed_so before _ rest is lawful may laws = tt

  laws_each : EachEventFrom Known t.places t.commands (first_facts t.places) [] t.trace
  laws_each =
      both_each t.places t.commands _ _ (first_facts t.places) [] t.trace
      (both_each t.places t.commands _ _ (first_facts t.places) [] t.trace
      (both_each t.places t.commands _ _ (first_facts t.places) [] t.trace (fact_each t.places t.commands (WritesInForest p t.places) (first_facts t.places) [] t.trace (records_fit_forest t whole)) (records_heard t whole))
      (both_each t.places t.commands _ _ (first_facts t.places) [] t.trace (learned_of_toward t whole) (turns_go_by_rows t whole)))
      (both_each t.places t.commands _ _ (first_facts t.places) [] t.trace (rows_name_beyond t whole) (run_leads t whole))

pub records_go_by_forest : RecordsGoByForest
records_go_by_forest t lawful = each_prefix t (Known t lawful) (WritesByForest (forest_of t)) (allowed_so t lawful) lawful (laws_each t lawful)
