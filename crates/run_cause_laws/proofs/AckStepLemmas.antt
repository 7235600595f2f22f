-- Each step leaves it true that the Acks that rows hold came, whatever it is that an Ack tells.
use Rattle.std.proofs.Common.{◌≡◌, ℕ, ◌+◌, not, true, if◌then◌else◌, List, [], ◌∷◌, ◌++◌, map, filter, Option, Some, None, refl, sym, ap, subst, subst₂, ◌∙◌}
use Rattle.std.specs.Prelude.{IfSome}
use Rattle.std.specs.Option.{option_to_list}
use Rattle.std.specs.List.{AllByRecursion, list_all}
use Rattle.std.proofs.lemmas.Bool.{and_parts, cond_both}
use Rattle.commit_forget.specs.declared.next.Beyond.{Beyond}
use Rattle.commit_forget.specs.Beyond.{beyond, parent_beyond, kid_beyond, all_acked}
use Rattle.commit_forget.specs.declared.next.Next.TheVariants as nexts
use Rattle.session_tree.specs.Live.{is_branch}
use Rattle.node_rules.specs.Data.{BranchId, Kid, RedoRecord, Decided, KeptRow, Place, Input}
use Rattle.node_rules.specs.Data.acts
use Rattle.node_rules.specs.Data.inputs
use Rattle.node_rules.specs.Data.kinds
use Rattle.node_rules.specs.Data.records
use Rattle.node_rules.specs.Words.{same}
use Rattle.node_rules.specs.Inputs.{Came}
use Rattle.node_rules.specs.NodeState.{NodeState, TurnDraft, kept_row_id, with_kept_row}
use Rattle.node_rules.specs.Commit.{acks_kid, acked_by}
use Rattle.node_rules.proofs.Steps as steps
use Rattle.node_rules.proofs.Steps.{Step, IsKept, Doing}
use Rattle.node_rules.proofs.StepLemmas.{branch_found}
use Rattle.run_claims.specs.Knowledge.{neighbors_of}
use Rattle.run_rules.specs.BranchRecords.{decided_in}
use Rattle.run_rules.proofs.ListLemmas.{map_after}
use Rattle.run_base_laws.proofs.RowRecordLemmas.{any_record}
use Rattle.run_base_laws.proofs.KeptStepLemmas.{counted, rows_on}
use Rattle.run_base_laws.proofs.LiveStepLemmas.{LastsInTurn}
use Rattle.run_base_laws.proofs.OwnLemmas.{all_found, all_with}
use Rattle.run_branch_laws.specs.HeardLaws.{RowHasAcks}
use Rattle.run_branch_laws.proofs.HeldAckLemmas.{each_row, acked_so}

-- the Acks of these neighbours tell this of the branch
module _ (Q : BranchId → BranchId → Type 0) where
  module _ (p : Place) (input : Input) where
    abbrev pub RowsSo : NodeState → Type 0
    RowsSo k = AllByRecursion (RowHasAcks Q) k.stored.durable.kept

    -- an Ack to a branch of these rows tells it
    abbrev pub Heard : NodeState → Type 0
    Heard k = (s : KeptRow) (from : BranchId) → IsKept k s → Came input from s.me kinds.Ack → Q from s.me

    abbrev acker : Input → Option BranchId
    acker (inputs.Message m) = Some m.from
    acker _ = None

    abbrev receiver : Input → Option BranchId
    receiver (inputs.Message m) = Some m.to
    receiver _ = None

    -- another Ack of the turn is the same one
    told_again : (from to c b : BranchId) → Came input from to kinds.Ack → Came input c b kinds.Ack → Q from to → Q c b
    told_again from to c b one two is =
        let froms : Some from ≡ Some c = sym (ap acker one.is) ∙ ap acker two.is in
        let tos : Some to ≡ Some b = sym (ap receiver one.is) ∙ ap receiver two.is in
        let from_is : from ≡ c = cc in
        let to_is : to ≡ b = cc in
        subst₂ Q from_is to_is is

    heard_on : (k : NodeState) (s : KeptRow) (from : BranchId) → IsKept k s → Came input from s.me kinds.Ack → Heard k → Heard (with_kept_row k (acked_by s from))
    heard_on k s from kept came heard x c at ack = told_again from s.me c x.me came ack (heard s from kept came)

    heard_lasts : LastsInTurn p input Heard
    heard_lasts = record { begun = λ k n s read_at call begins free heard. heard; counts = λ k n s call is heard. heard; backs = λ k x step goes heard. heard; pends = λ k n l given call has heard. heard; lets = λ k b heard. heard; acked = heard_on }

    -- with one Ack more
    more_held : (k : NodeState) (s : KeptRow) (from : BranchId) → IsKept k s → Came input from s.me kinds.Ack → Heard k → RowHasAcks Q s → RowHasAcks Q (acked_by s from)
    more_held k s from kept came heard so = acked_so Q s from (heard s from kept came) so

    pub acks_on : {k : NodeState} {d : TurnDraft} → Step p input k d → Heard k → RowsSo k → RowsSo d.after
    acks_on {d = d} step heard all = rows_on (each_row Q) heard_lasts more_held step heard (any_record d.wrote) all

    -- ---- what a site forgets on

    module _ (rs : List RedoRecord) where
      -- the row of a branch that decided is of its decision: it is the site, and has the neighbours of the record
      abbrev pub IsOfDecision : BranchId → Option BranchId → List BranchId → Option BranchId → Type 0
      IsOfDecision me parent kids toward = (r : Decided) → decided_in rs me ≡ Some r → (toward ≡ None) × (parent ≡ r.parent) × (kids ≡ map (λ c. c.branch) r.children)

      abbrev pub RowDecided : KeptRow → Type 0
      RowDecided s = IsOfDecision s.me s.parent (map (λ (c : Kid). c.branch) s.children) s.toward

      abbrev pub RowsDecided : NodeState → Type 0
      RowsDecided k = AllByRecursion RowDecided k.stored.durable.kept

      -- a site that forgets has all Acks
      abbrev pub ForgetsSo : RedoRecord → Type 0
      ForgetsSo (records.Forgot b) = (r : Decided) → decided_in rs b ≡ Some r → AllByRecursion (λ c. Q c b) (neighbors_of r)
      ForgetsSo _ = Unit {0}

      module _ (s : KeptRow) (acks : RowHasAcks Q s) where
        -- the parent and the children, where nobody is toward
        kids_all : (cs : List Kid) → list_all (λ (b : Beyond). b.acked) (map kid_beyond (filter (λ c. not (is_branch c.branch None)) cs)) ≡ true → AllByRecursion (λ c. c.acked ≡ true → Q c.branch s.me) cs → AllByRecursion (λ c. Q c s.me) (map (λ (c : Kid). c.branch) cs)
        kids_all [] all held = tt
        kids_all (c ∷ cs) all held = (let parts = and_parts c.acked (list_all (λ (b : Beyond). b.acked) (map kid_beyond (filter (λ c. not (is_branch c.branch None)) cs))) all in (held.0 parts.0, kids_all cs parts.1 held.1))

        parent_all : (o : Option BranchId) → s.parent ≡ o → s.toward ≡ None → list_all (λ (b : Beyond). b.acked) (parent_beyond s o ++ map kid_beyond (filter (λ c. not (is_branch c.branch s.toward)) s.children)) ≡ true
            → AllByRecursion (λ c. Q c s.me) (option_to_list o ++ map (λ (c : Kid). c.branch) s.children)
        parent_all None at site all = kids_all s.children (subst (λ w. list_all (λ (b : Beyond). b.acked) (map kid_beyond (filter (λ c. not (is_branch c.branch w)) s.children)) ≡ true) site all) acks.below
        parent_all (Some b) at site all =
            let here : list_all (λ (x : Beyond). x.acked) ((if is_branch b None then [] else (record { branch = b; acked = s.parent_acked; is_parent = true }) ∷ []) ++ map kid_beyond (filter (λ c. not (is_branch c.branch None)) s.children)) ≡ true
            = subst (λ w. list_all (λ (x : Beyond). x.acked) ((if is_branch b w then [] else (record { branch = b; acked = s.parent_acked; is_parent = true }) ∷ []) ++ map kid_beyond (filter (λ c. not (is_branch c.branch w)) s.children)) ≡ true) site all in
            let parts = and_parts s.parent_acked (list_all (λ (x : Beyond). x.acked) (map kid_beyond (filter (λ c. not (is_branch c.branch None)) s.children))) here in
            (acks.above parts.0 b at, kids_all s.children parts.1 acks.below)

        all_held : s.toward ≡ None → all_acked s ≡ true → AllByRecursion (λ c. Q c s.me) (option_to_list s.parent ++ map (λ (c : Kid). c.branch) s.children)
        unfolding beyond
        all_held site all = parent_all s.parent refl site all

        forgets : RowDecided s → {clock : ℕ} {from : BranchId} → Doing clock input s from nexts.Forget → ForgetsSo (records.Forgot s.me)
        forgets decided (steps.Forgets_first came knows new all site) r is =
            let so = decided r is in
            subst₂ (λ o cs. AllByRecursion (λ c. Q c s.me) (option_to_list o ++ cs)) so.1 so.2 (all_held so.0 all)
        forgets decided {from = from} (steps.Forgets_after came knows toward new) r is =
            let so = decided r is in
            let some : s.toward ≡ Some from = branch_found from s.toward toward in
            absurd (let none = so.0 in cc (none, some))

      pub forgets_on : {k : NodeState} {d : TurnDraft} → Step p input k d → Heard k → RowsSo k → RowsDecided k → IfSome d.wrote ForgetsSo
      forgets_on (steps.Begins n s read_at call begins fit none step) heard all decided = forgets_on step heard all decided
      forgets_on (steps.Counts_call n s call counts step) heard all decided = forgets_on step heard all decided
      forgets_on (steps.Goes_back x step goes next) heard all decided = forgets_on next heard all decided
      forgets_on (steps.Pends n l comment call has live code writer step) heard all decided = forgets_on step heard all decided
      forgets_on (steps.Lets_reads_go l comment site_below live begins step) heard all decided = forgets_on step heard all decided
      forgets_on (steps.Counts_ack {k = k} s from kept came counts step) heard all decided =
          forgets_on step (heard_on k s from kept came heard) (counted (each_row Q) heard_lasts more_held k s from kept came heard all)
          (all_with RowDecided kept_row_id k.stored.durable.kept (acked_by s from) decided (acked_decided s from (all_found RowDecided kept_row_id k.stored.durable.kept s.me s decided kept)))
        where
          acked_decided : (s : KeptRow) (from : BranchId) → RowDecided s → RowDecided (acked_by s from)
          acked_decided s from so r is =
              let old = so r is in
              (old.0, old.1, map_after (λ (c : Kid). c.branch) (acks_kid from) (λ (c : Kid). c.branch) (λ c. cond_both (same c.branch from) (record c { acked = true }) c (λ (x : Kid). x.branch ≡ c.branch) (λ here. refl) (λ other. refl)) s.children ∙ old.2)
      forgets_on (steps.Acts l site_below acts.Rest why) heard all decided = tt
      forgets_on (steps.Does {k = k} s from nexts.Forget kept why) heard all decided =
          forgets s (all_found (RowHasAcks Q) kept_row_id k.stored.durable.kept s.me s all kept) (all_found RowDecided kept_row_id k.stored.durable.kept s.me s decided kept) why
      forgets_on (steps.Makes_record n s r d call (steps.Sets_recovery on)) heard all decided = tt
      forgets_on (steps.Gives_up_commit n b None gives has calls live) heard all decided = tt
      forgets_on _ heard all decided = tt
