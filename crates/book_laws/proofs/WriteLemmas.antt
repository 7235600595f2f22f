-- A node writes catalog records for the statement that came, and learns decisions of the neighbour that the row of the branch has as
-- toward, which is the one that its Sealed record names.
use Rattle.std.proofs.Common.{◌≡◌, ◌≢◌, ℕ, ◌+◌, ◌&&◌, not, Bool, true, false, true≢false, List, [], ◌∷◌, is_none, Option, Some, None, Ok, inl, inr, refl, sym, ap, subst, ◌∙◌, arith}
use Rattle.std.specs.Prelude.{◌⊎◌, IfSome}
use Rattle.std.specs.Str.{bytes_eq}
use Rattle.std.specs.Cmp.Lexicographic.{bytes_decides}
use Rattle.std.proofs.lemmas.Bool.{and_parts}
use Rattle.std.specs.List.{AllByRecursion}
use Rattle.session_tree.specs.Live.{is_branch}
use Rattle.redo_record.specs.Rows.{toward_of}
use Rattle.agreement.specs.Events.{Event}
use Rattle.node_rules.specs.Data.{BranchId, Decision, RedoRecord, KeptRow, Input, Place, Post, Done, Stmt}
use Rattle.node_rules.specs.Data.records
use Rattle.node_rules.specs.Data.nexts
use Rattle.node_rules.specs.Data.acts
use Rattle.node_rules.specs.Data.stmts
use Rattle.node_rules.specs.Data.inputs
use Rattle.node_rules.specs.Words.{item_at}
use Rattle.node_rules.specs.Ids.{local_text}
use Rattle.node_rules.specs.Images.{image_at}
use Rattle.node_rules.specs.Force.{is_sealed, may_purge, branch_to_force}
use Rattle.redo_record.specs.Durable.{durable}
use Rattle.node_rules.specs.NodeState.{NodeState, TurnDraft, kept_row_id}
use Rattle.node_rules.specs.Commit.{acked_by}
use Rattle.node_rules.specs.Inputs.{IsCall}
use Rattle.node_rules.specs.Turn.{heard}
use Rattle.node_rules.proofs.StepLemmas.{branch_found}
use Rattle.node_rules.proofs.Steps as steps
use Rattle.node_rules.proofs.Steps.{Step, Doing, Makes}
use Rattle.run_rules.specs.Data.{Happening, Turn}
use Rattle.run_rules.specs.Data.happenings
use Rattle.run_base_laws.specs.EventLaws.{EachEventFrom}
use Rattle.run_rules.specs.Facts.{Facts, first_facts, place_at, records_at, facts_after}
use Rattle.run_base_laws.specs.IdLaws.{IsRecordOf}
use Rattle.run_base_laws.specs.InTurnLaws.{said_in}
use Rattle.run_claims.specs.Knowledge.{IsCallOf, IsPurge, named_in_doubt, HeardFromToward, ForgottenByToward}
use Rattle.run_rules.specs.BranchRecords.{sealed_in, decided_in, toward_in, toward_at}
use Rattle.run_rules.specs.Lawful.{MayHappen, MayTurn, History, IsLawfulRun, facts_at}
use Rattle.run_base_laws.specs.NodeLaws.{EachFactFrom}
use Rattle.run_base_laws.specs.RunEvents.{events_after}
use Rattle.run_base_laws.proofs.EventsStandLemmas.{BranchStatus, run_stands, node_so, ids_name_their_node}
use Rattle.run_base_laws.proofs.LawfulLemmas.{of_wrote, serves, turn_of_node}
use Rattle.run_base_laws.proofs.OwnLemmas.{all_found, all_with}
use Rattle.run_branch_laws.proofs.QuietLemmas.{came_apart}
use Rattle.run_branch_laws.proofs.TowardLemmas.{heard_rows}
use Rattle.run_base_laws.proofs.TurnEventLemmas.{all_both, number_is}
use Rattle.tree_laws.specs.RecordLaws.{RecordLeads}
use Rattle.tree_laws.proofs.LearnLemmas.{DisksLead, run_leads}
use Rattle.tree_laws.proofs.PrefixLemmas.{so_far, f_at, e_at, each_prefix}
use Rattle.tree_laws.proofs.RowLemmas.{rows_so}
use Rattle.book_laws.specs.WriteLaws.{IsToBeWritten, WritesDue, RecordsAreDue}
use Rattle.book_laws.proofs.KeptLemmas.{find_so, IsKnownRow, rows_known}
use Rattle.book_laws.proofs.ForceLemmas.{named_one}
use Rattle.book_laws.proofs.AloneLemmas.{IsTheRecord, records_are_alone}

not_false : (q : Bool) → not q ≡ true → q ≡ false
not_false false is = refl
not_false true is = absurd (true≢false (sym is))

pub none_there : (o : Option BranchId) → is_none o ≡ true → o ≡ None
none_there None is = refl
none_there (Some b) is = absurd cc

-- ---- rows and records

module _ (f : Facts) where
  -- toward is what the branch's Sealed record names; a branch without one decided
  abbrev pub TowardSo : BranchId → Option BranchId → Type 0
  TowardSo b None = decided_in (records_at f b.node) b ≢ None
  TowardSo b (Some x) = toward_at f b ≡ Some x

  abbrev pub RowSo : KeptRow → Type 0
  RowSo s = TowardSo s.me s.toward

  abbrev RecordSo : RedoRecord → Type 0
  RecordSo (records.Sealed r) = TowardSo r.me (toward_of r r.toward)
  RecordSo (records.Decided r) = TowardSo r.me None
  RecordSo _ = Unit {0}

  record_so : (said : List Post) (n : ℕ) (r : RedoRecord) → IsTheRecord (records_at f n) r → RecordLeads said r → IsRecordOf (λ b. b.node ≡ n) r → RecordSo r
  record_so said n (records.Sealed r) there lead own =
      let found : sealed_in (records_at f r.me.node) r.me ≡ Some r = subst (λ i. sealed_in (records_at f i) r.me ≡ Some r) (sym own) there in
      subst (TowardSo r.me) (sym lead.1) (ap toward_in found ∙ lead.1)
  record_so said n (records.Decided r) there lead own = subst (λ i. decided_in (records_at f i) r.me ≢ None) (sym own) there
  record_so said n _ there lead own = tt

  records_so : (said : List Post) (n : ℕ) (rs : List RedoRecord) → AllByRecursion (IsTheRecord (records_at f n)) rs → AllByRecursion (RecordLeads said) rs → AllByRecursion (IsRecordOf (λ b. b.node ≡ n)) rs → AllByRecursion RecordSo rs
  records_so said n [] there lead own = tt
  records_so said n (r ∷ rs) there lead own = (record_so said n r there.0 lead.0 own.0, records_so said n rs there.1 lead.1 own.1)

-- ---- steps

module _ (p : Place) (f : Facts) (held : NodeState) (n : ℕ) (input : Input) where
  toward_said : (s : KeptRow) (from : BranchId) → RowSo f s → is_branch from s.toward ≡ true → toward_at f s.me ≡ Some from
  toward_said s from so on = subst (TowardSo f s.me) (branch_found from s.toward on) so

  module _ (s : KeptRow) (so : RowSo f s) where
    ends_so : {clock : ℕ} {from : BranchId} {d : Decision} → Doing clock input s from (nexts.End d) → HeardFromToward f s.me d input
    ends_so {from = from} (steps.Ends_so d brings toward none sealed met) = (from, toward_said s from so toward, brings)

    meets_so : {clock : ℕ} {from : BranchId} {d : Decision} {mixed : Bool} → Doing clock input s from (nexts.Meet d mixed) → HeardFromToward f s.me d input
    meets_so {from = from} (steps.Meets_so d brings toward none unsealed uncommitted met) = (from, toward_said s from so toward, brings)

    forgets_so : {clock : ℕ} {from : BranchId} → Doing clock input s from nexts.Forget → decided_in (records_at f s.me.node) s.me ≡ None → ForgottenByToward f s.me input
    forgets_so (steps.Forgets_first came knows new all site) undecided = absurd (subst (TowardSo f s.me) (none_there s.toward site) so undecided)
    forgets_so {from = from} (steps.Forgets_after came knows toward new) undecided = (from, toward_said s from so toward, came)

  module _ (s : KeptRow) (known : IsKnownRow (durable (records_at f n)).kept s) where
    hides_by : (row : Option KeptRow) → row ≡ Some known.0 → s.hidden ≡ false
        → (IsCallOf (stmts.PurgeMixed (local_text s.me)) input × (s.mixed ≡ true)) ⊎ (IsCallOf (stmts.PurgeLost (local_text s.me)) input × (is_sealed s.state ≡ false)) → IsPurge row s.me input
    hides_by row is shown (inl (call, mixed)) = subst (λ o. IsPurge o s.me input) (sym is) (known.2 ∙ shown, inl (call, known.3 ∙ mixed))
    hides_by row is shown (inr (call, lost)) = subst (λ o. IsPurge o s.me input) (sym is) (known.2 ∙ shown, inr (call, ap is_sealed known.4 ∙ lost))

    hides_so : (m : ℕ) (mixed : Bool) (id : List ℕ) → IsCall input m (steps.purge_of mixed id) → may_purge mixed id s ≡ true → IsPurge (item_at kept_row_id (durable (records_at f n)).kept s.me) s.me input
    hides_so m true id call may =
        let one = and_parts (not s.hidden) (bytes_eq (local_text s.me) id && s.mixed) may in
        let two = and_parts (bytes_eq (local_text s.me) id) s.mixed one.1 in
        let text : id ≡ local_text s.me = sym ((bytes_decides (local_text s.me) id).0 two.0) in
        hides_by (item_at kept_row_id (durable (records_at f n)).kept s.me) known.1 (not_false s.hidden one.0) (inl ((m, subst (λ x. IsCall input m (stmts.PurgeMixed x)) text call), two.1))
    hides_so m false id call may =
        let one = and_parts (not s.hidden) (bytes_eq (local_text s.me) id && not (is_sealed s.state)) may in
        let two = and_parts (bytes_eq (local_text s.me) id) (not (is_sealed s.state)) one.1 in
        let text : id ≡ local_text s.me = sym ((bytes_decides (local_text s.me) id).0 two.0) in
        hides_by (item_at kept_row_id (durable (records_at f n)).kept s.me) known.1 (not_false s.hidden one.0) (inr ((m, subst (λ x. IsCall input m (stmts.PurgeLost x)) text call), not_false (is_sealed s.state) two.1))

  -- an outcome that is forced, where a call came
  abbrev pub ForcedSo : NodeState → Type 0
  ForcedSo k = (m : ℕ) (x : Stmt) → IsCall input m x → (k.clock ≡ held.clock) × ((id : List ℕ) (b : BranchId) → branch_to_force p.names k.stored.durable.kept id ≡ Ok b → named_in_doubt p.names f p.number id ≡ b ∷ [])

  made_so : {k : NodeState} {s : Stmt} {r : RedoRecord} {d : Done} (m : ℕ) → IsCall input m s → Makes k s r d → IsToBeWritten p f held n input r
  made_so m call (steps.Makes_table t free) = λ before after. (m, call)
  made_so m call (steps.Makes_link l free) = λ before after. (m, call)
  made_so m call (steps.Makes_synonym y free) = λ before after. (m, call)
  made_so m call (steps.Sets_recovery on) = λ before after. (m, call)
  made_so m call (steps.Sets_strength strength) = λ before after. (m, call)

  -- what is known of a row
  abbrev pub RowDue : KeptRow → Type 0
  RowDue s = RowSo f s × IsKnownRow (durable (records_at f n)).kept s

  row_found : (k : NodeState) (s : KeptRow) → AllByRecursion RowDue k.stored.durable.kept → steps.IsKept k s → RowDue s
  row_found k s now kept = all_found RowDue kept_row_id k.stored.durable.kept s.me s now kept

  -- an image, where a checkpoint came
  abbrev pub ImagedSo : NodeState → Type 0
  ImagedSo k = input ≡ inputs.Checkpoint → image_at k.stored k.clock ≡ image_at held.stored held.clock

  step_due : {k : NodeState} {d : TurnDraft} → Step p input k d → AllByRecursion RowDue k.stored.durable.kept → ForcedSo k → ImagedSo k → IfSome d.wrote (IsToBeWritten p f held n input)
  step_due (steps.Begins m s read_at call begins fit none step) now forced imaged = step_due step now forced imaged
  step_due (steps.Counts_call m s call counts step) now forced imaged = step_due step now forced imaged
  step_due (steps.Goes_back x step goes next) now forced imaged = step_due next now forced imaged
  step_due (steps.Pends m l comment call has live code writer step) now forced imaged = step_due step now forced imaged
  step_due (steps.Lets_reads_go l comment site_below live begins step) now forced imaged = step_due step now forced imaged
  step_due (steps.Counts_ack {k = k} s from kept came counts step) now forced imaged = step_due step (all_with RowDue kept_row_id k.stored.durable.kept (acked_by s from) now (row_found k s now kept)) (λ m x call. absurd (came_apart m x came call)) (λ is. absurd (cc (came.is, is)))
  step_due (steps.Acts l site_below acts.Rest why) now forced imaged = tt
  step_due (steps.Does {k = k} s from (nexts.End d) kept why) now forced imaged = λ before after. ends_so s (row_found k s now kept).0 why
  step_due (steps.Does {k = k} s from (nexts.Meet d mixed) kept why) now forced imaged = λ before after. meets_so s (row_found k s now kept).0 why
  step_due (steps.Does {k = k} s from nexts.Forget kept why) now forced imaged = forgets_so s (row_found k s now kept).0 why
  step_due (steps.Makes_record m s r d call makes) now forced imaged = made_so m call makes
  step_due (steps.Forces_given m id c b call named) now forced imaged = λ before after. (id, (forced m (stmts.CommitForce id (Some c)) call).1 id b named, (m, call))
  step_due (steps.Forces_commit {k = k} m id b call named) now forced imaged =
      (let of = forced m (stmts.CommitForce id None) call in λ before after. (id, of.1 id b named, ((m, call), ap (λ c. c + 1) of.0)))
  step_due (steps.Forces_rollback m id b call named) now forced imaged = λ before after. (id, (forced m (stmts.RollbackForce id) call).1 id b named, ((m, call), refl))
  step_due (steps.Hides {k = k} m mixed id s call found) now forced imaged = (let shown = find_so RowDue (may_purge mixed id) k.stored.durable.kept s now found in λ before after. hides_so s shown.0.1 m mixed id call shown.1)
  step_due (steps.Images {k = k} is) now forced imaged = λ before after. (is, imaged is)
  step_due (steps.Gives_up_commit m b None gives has calls live) now forced imaged = tt
  step_due _ now forced imaged = tt

-- a node hears nothing in a client's call
heard_call : (k : NodeState) (input : Input) (m : ℕ) (x : Stmt) → IsCall input m x → heard k input ≡ k
heard_call k (inputs.Call n s) m x call = refl
heard_call k (inputs.Message y) m x call = absurd cc
heard_call k (inputs.GiveUp n) m x call = absurd cc
heard_call k inputs.Reco m x call = absurd cc
heard_call k inputs.Checkpoint m x call = absurd cc

-- nor where a checkpoint came
heard_checkpoint : (k : NodeState) (input : Input) → input ≡ inputs.Checkpoint → heard k input ≡ k
heard_checkpoint k input is = ap (heard k) is

-- ---- every run

module _ (t : History) (before : List Happening) (lawful : IsLawfulRun (so_far t before)) where
  abbrev f : Facts
  f = f_at t before

  stands : BranchStatus t.places t.commands t.of_a_script.each (f_at t before) (e_at t before)
  stands = run_stands (so_far t before) lawful

  turn_due : (said : List Post) → DisksLead said (f_at t before) → (u : Turn) (k : NodeState) → MayTurn t.places (f_at t before) u k → IfSome u.wrote (IsToBeWritten (place_at t.places u.node) (f_at t before) k u.node u.input)
  turn_due said leads u k may =
      let rs : List RedoRecord = records_at (f_at t before) u.node in
      let named : AllByRecursion (RecordSo (f_at t before)) rs = records_so (f_at t before) said u.node rs (records_are_alone (so_far t before) lawful u.node) (leads u.node) (stands.1.own u.node) in
      let rows : AllByRecursion (RowSo (f_at t before)) k.stored.durable.kept
      = rows_so (λ me parent kids toward. TowardSo (f_at t before) me toward) (RecordSo (f_at t before)) (λ r so. so) (λ r so. so) k rs
      (node_so t.places t.commands t.of_a_script.each (f_at t before) (e_at t before) stands u.node k may.up).stored named in
      let node = node_so t.places t.commands t.of_a_script.each (f_at t before) (e_at t before) stands u.node k may.up in
      let known : AllByRecursion (IsKnownRow (durable rs).kept) k.stored.durable.kept = rows_known k rs node.stored (λ b. (let one = node.ids.one b in omega (arith, one))) in
      let due : AllByRecursion (λ s. RowSo (f_at t before) s × IsKnownRow (durable rs).kept s) k.stored.durable.kept = all_both (RowSo (f_at t before)) (IsKnownRow (durable rs).kept) k.stored.durable.kept rows known in
      let number : (place_at t.places u.node).number ≡ u.node = number_is t.places t.commands t.of_a_script.each (f_at t before) u.node k stands.1.many may.up in
      let own : AllByRecursion (λ s. s.me.node ≡ u.node) k.stored.durable.kept = (ids_name_their_node (so_far t before) lawful u.node k may.up).rows in
      of_wrote (place_at t.places u.node) k u (serves t.places (f_at t before) u k may) (λ w. IfSome w (IsToBeWritten (place_at t.places u.node) (f_at t before) k u.node u.input)) tt
      (step_due (place_at t.places u.node) (f_at t before) k u.node u.input (serves t.places (f_at t before) u k may).step
      (subst (λ (ks : List KeptRow). AllByRecursion (λ s. RowSo (f_at t before) s × IsKnownRow (durable rs).kept s) ks) (sym (heard_rows k u.input)) due)
      (λ m x call. subst (λ z. (z.clock ≡ k.clock) × ((id : List ℕ) (b : BranchId) → branch_to_force (place_at t.places u.node).names z.stored.durable.kept id ≡ Ok b → named_in_doubt (place_at t.places u.node).names (f_at t before) (place_at t.places u.node).number id ≡ b ∷ []))
      (sym (heard_call k u.input m x call)) (refl, λ id b named. subst (λ i. named_in_doubt (place_at t.places u.node).names (f_at t before) i id ≡ b ∷ []) (sym number) (named_one (so_far t before) lawful u.node k may.up node.stored own (place_at t.places u.node).names id b named)))
      (λ is. ap (λ (z : NodeState). image_at z.stored z.clock) (heard_checkpoint k u.input is)))

  due_on : (said : List Post) → DisksLead said (f_at t before) → (h : Happening) → MayHappen t.places t.commands (f_at t before) h → WritesDue t.places (f_at t before) h
  due_on said leads (happenings.Turn u) may = λ k up. turn_due said leads u k (turn_of_node t.places (f_at t before) u k t.commands may up)
  due_on said leads _ may = tt

module _ (t : History) where
  -- events are left out where a law speaks of facts alone
  pub of_events : (So : Facts → Happening → Type 0) (f : Facts) (e : List Event) (hs : List Happening) → EachEventFrom (λ g s h. So g h) t.places t.commands f e hs → EachFactFrom So t.places t.commands f hs
  of_events So f e [] each = tt
  of_events So f e (h ∷ hs) each = (each.0, of_events So (facts_after t.places t.commands f h) (events_after t.places t.commands f h e) hs each.1)

pub records_are_due : RecordsAreDue
records_are_due t lawful =
    of_events t (WritesDue t.places) (first_facts t.places) [] t.trace
    (each_prefix t (λ f e h. DisksLead (said_in (facts_at t)) f) (λ f e h. WritesDue t.places f h) (λ before h rest is lawful_before may law. due_on t before lawful_before (said_in (facts_at t)) law.0 h may) lawful (run_leads t lawful))
