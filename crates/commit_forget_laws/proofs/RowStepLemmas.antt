-- Each step of a node to which no Ack comes leaves its rows so that they tell of their neighbours, and of what was said.
use Rattle.std.proofs.Common.{◌≡◌, ◌≢◌, ℕ, ◌+◌, Bool, true, false, List, [], ◌∷◌, ◌++◌, Some, None, inl, inr, refl, sym, subst, ◌∙◌}
use Rattle.std.specs.Prelude.{IfSome}
use Rattle.std.specs.List.{AllByRecursion}
use Rattle.std.proofs.lemmas.Bool.{cond_both}
use Rattle.commit_forget.specs.declared.next.Next.TheVariants as nexts
use Rattle.commit_forget.specs.Beyond.{beyond}
use Rattle.redo_record.specs.Durable.{durable_after}
use Rattle.redo_record.specs.Kept.{stands_at, ended_commit, forced_state, in_state, met_as, hidden_as, kept_after}
use Rattle.redo_record.specs.Rows.{sealed_as, decided_as, has_neighbors}
use Rattle.agreement.specs.Events.{Event, Seal, Decide, Force, Learn, Forget, Make, exit, Has}
use Rattle.node_rules.specs.Data.{BranchId, Decision, Input, Place, Post, RedoRecord, KeptRow, State, Sealed as SealedRecord, Decided as DecidedRecord, Image}
use Rattle.node_rules.specs.Data.acts
use Rattle.node_rules.specs.Data.decisions
use Rattle.node_rules.specs.Data.kinds
use Rattle.node_rules.specs.Data.params
use Rattle.node_rules.specs.Data.records
use Rattle.node_rules.specs.Data.states
use Rattle.node_rules.specs.Inputs.{Came}
use Rattle.node_rules.specs.Words.{item_at, change_where, drop_where}
use Rattle.node_rules.specs.NodeState.{NodeState, Stored, TurnDraft, kept_row_id}
use Rattle.node_rules.specs.Records.{applied}
use Rattle.node_rules.specs.Prepare.{sealed_of, decided_of, own_changes}
use Rattle.node_rules.specs.Commit.{passes, to_beyond}
use Rattle.node_rules.proofs.Steps as steps
use Rattle.node_rules.proofs.Steps.{Step, Doing}
use Rattle.node_rules.proofs.StepLemmas.{branch_found}
use Rattle.run_base_laws.specs.EventRows.{MayStand}
use Rattle.run_base_laws.specs.RunEvents.{with_event, wrote_event}
use Rattle.run_rules.proofs.ListLemmas.{all_weaker, all_put}
use Rattle.run_base_laws.proofs.TurnEventLemmas.{all_both}
use Rattle.commit_forget_laws.specs.RowLaws.{is_forced, IsSealed}
use Rattle.commit_forget_laws.proofs.TellLemmas.{Tells, TellsBut, rows_changed, rows_left, stays_with, stays_same, tells_stays}
use Rattle.commit_forget_laws.proofs.RowLemmas.{sealed_tells, decided_tells, ended_tells, met_tells, met_rollback_tells, forced_tells, hidden_tells, forgot_tells}
use Rattle.node_rules.specs.Images.{image_at}

-- the neighbours beyond a branch that becomes sealed, or decides, are sealed
abbrev pub RecordVoted : List Event → RedoRecord → Type 0
RecordVoted t (records.Sealed r) = AllByRecursion (λ y. IsSealed t y.branch) (beyond (sealed_as r))
RecordVoted t (records.Decided r) = AllByRecursion (λ y. IsSealed t y.branch) (beyond (decided_as r))
RecordVoted t _ = Unit {0}

-- each row is found by its branch
abbrev pub Found : List KeptRow → Type 0
Found ks = AllByRecursion (λ s. item_at kept_row_id ks s.me ≡ Some s) ks

forced_if : (state : State) → state ≢ states.Sealed → state ≢ states.Committed → is_forced state ≡ true
forced_if states.Sealed one two = absurd (one refl)
forced_if states.Committed one two = absurd (two refl)
forced_if (states.ForcedCommit n) one two = refl
forced_if states.ForcedRollback one two = refl

module _ (said : List Post) (t : List Event) (bound node : ℕ) (known : (b : BranchId) → Has (Forget b) t → exit t b ≢ None) where
  abbrev pub AllTell : List KeptRow → Type 0
  AllTell ks = AllByRecursion (Tells said t bound) ks

  -- what a draft leaves
  abbrev pub After : TurnDraft → Type 0
  After d = AllByRecursion (Tells (said ++ d.says) (with_event (wrote_event node d.wrote) t) bound) d.after.stored.durable.kept

  -- with more messages
  pub more : (says : List Post) (ks : List KeptRow) → AllTell ks → AllByRecursion (Tells (said ++ says) t bound) ks
  more says ks all = all_weaker (Tells said t bound) _ (λ x is. tells_stays said says t t bound x (stays_same t x.me) is) ks all

  -- and one event that is no Forget
  later : (says : List Post) (e : Event) → ((b : BranchId) → e ≡ Forget b → ⊥) → (ks : List KeptRow) → AllTell ks → AllByRecursion (Tells (said ++ says) (e ∷ t) bound) ks
  later says e other ks all = all_weaker (Tells said t bound) _ (λ x is. tells_stays said says t (e ∷ t) bound x (stays_with t e x.me (other x.me)) is) ks all

  unforgotten : (b : BranchId) → exit t b ≡ None → Has (Forget b) t → ⊥
  unforgotten b none has = known b has none

  -- ---- records

  seal_rows : (s : Stored) (says : List Post) (r : SealedRecord) → MayStand t (records.Sealed r) → RecordVoted t (records.Sealed r) → AllTell s.durable.kept
      → AllByRecursion (Tells (said ++ says) (Seal r.me r.root r.scn r.changes ∷ t) bound) (applied s (records.Sealed r)).durable.kept
  unfolding applied durable_after kept_after
  seal_rows s says r may voted all =
      let e : Event = Seal r.me r.root r.scn r.changes in
      all_put (Tells (said ++ says) (e ∷ t) bound) (λ y. y.me) s.durable.kept (sealed_as r) (later says e (λ b no. absurd cc) s.durable.kept all) (sealed_tells said t bound says r (unforgotten r.me may.0) voted)

  decide_rows : (s : Stored) (says : List Post) (r : DecidedRecord) → MayStand t (records.Decided r) → RecordVoted t (records.Decided r) → AllTell s.durable.kept
      → AllByRecursion (Tells (said ++ says) (Decide r.me r.root r.scn r.changes ∷ t) bound) (applied s (records.Decided r)).durable.kept
  unfolding applied durable_after kept_after
  decide_rows s says r may voted all =
      let e : Event = Decide r.me r.root r.scn r.changes in
      let old : AllByRecursion (Tells (said ++ says) (e ∷ t) bound) s.durable.kept = later says e (λ b no. absurd cc) s.durable.kept all in
      cond_both (has_neighbors (decided_as r)) _ _ (AllByRecursion (Tells (said ++ says) (e ∷ t) bound))
      (λ some. all_put (Tells (said ++ says) (e ∷ t) bound) (λ y. y.me) s.durable.kept (decided_as r) old (decided_tells said t bound says r (unforgotten r.me may) voted some)) (λ alone. old)

  -- a row, and that it is found
  abbrev Here : List KeptRow → KeptRow → Type 0
  Here ks x = Tells said t bound x × (item_at kept_row_id ks x.me ≡ Some x)

  module _ (ks : List KeptRow) (s : KeptRow) (kept : item_at kept_row_id ks s.me ≡ Some s) where
    its_row : (x : KeptRow) → x.me ≡ s.me → item_at kept_row_id ks x.me ≡ Some x → x ≡ s
    its_row x me found = let here : item_at kept_row_id ks s.me ≡ Some x = subst (λ b. item_at kept_row_id ks b ≡ Some x) me found in let both : Some x ≡ Some s = sym here ∙ kept in cc

    -- its row is changed, with an event
    changed : (says : List Post) (e : Event) → ((b : BranchId) → e ≡ Forget b → ⊥) → (g : KeptRow → KeptRow) → (Tells said t bound s → Tells (said ++ says) (e ∷ t) bound (g s)) → Found ks → AllTell ks
        → AllByRecursion (Tells (said ++ says) (e ∷ t) bound) (change_where (stands_at s.me) g ks)
    changed says e other g own found all =
        rows_changed (Here ks) (Tells (said ++ says) (e ∷ t) bound) s.me g
        (λ x me is. (let it : x ≡ s = its_row x me is.1 in subst (λ y. Tells (said ++ says) (e ∷ t) bound (g y)) (sym it) (own (subst (Tells said t bound) it is.0))))
        (λ x apart is. tells_stays said says t (e ∷ t) bound x (stays_with t e x.me (other x.me)) is.0) ks (all_both (Tells said t bound) _ ks all found)

    -- or it is left out
    left : (says : List Post) (e : Event) → ((b : BranchId) → e ≡ Forget b → ⊥) → AllTell ks → AllByRecursion (Tells (said ++ says) (e ∷ t) bound) (drop_where (stands_at s.me) ks)
    left says e other all =
        rows_left (Tells said t bound) (Tells (said ++ says) (e ∷ t) bound) (stands_at s.me) (λ x apart is. tells_stays said says t (e ∷ t) bound x (stays_with t e x.me (other x.me)) is) ks all

  -- why a sealed branch learns, and a forced one
  ends_why : {clock : ℕ} {input : Input} {s : KeptRow} {from : BranchId} {d : Decision} → Doing clock input s from (nexts.End d) → (s.toward ≡ Some from) × (s.decision ≡ None) × (s.state ≡ states.Sealed)
  ends_why {s = s} {from = from} (steps.Ends_so d brings toward none sealed met) = (branch_found from s.toward toward, none, sealed)

  meets_why : {clock : ℕ} {input : Input} {s : KeptRow} {from : BranchId} {d : Decision} {mixed : Bool} → Doing clock input s from (nexts.Meet d mixed) → (s.toward ≡ Some from) × (s.decision ≡ None) × (is_forced s.state ≡ true)
  meets_why {s = s} {from = from} (steps.Meets_so d brings toward none unsealed uncommitted met) = (branch_found from s.toward toward, none, forced_if s.state unsealed uncommitted)

  module _ (st : Stored) (s : KeptRow) (kept : item_at kept_row_id st.durable.kept s.me ≡ Some s) (found : Found st.durable.kept) (all : AllTell st.durable.kept) where
    ended_rows : (d : Decision) (from : BranchId) → (s.toward ≡ Some from) × (s.decision ≡ None) × (s.state ≡ states.Sealed)
        → AllByRecursion (Tells (said ++ passes s d) (Learn s.me d None ∷ t) bound) (applied st (records.Ended s.me d)).durable.kept
    unfolding applied durable_after kept_after
    ended_rows (decisions.Commit n) from why =
        changed st.durable.kept s kept (passes s (decisions.Commit n)) (Learn s.me (decisions.Commit n) None) (λ b no. absurd cc) (ended_commit n) (λ is. ended_tells said t bound n s why.1 why.2 from why.0 is) found all
    ended_rows decisions.Rollback from why = left st.durable.kept s kept (passes s decisions.Rollback) (Learn s.me decisions.Rollback None) (λ b no. absurd cc) all

    met_rows : (d : Decision) (mixed : Bool) (from : BranchId) → (s.toward ≡ Some from) × (s.decision ≡ None) × (is_forced s.state ≡ true)
        → AllByRecursion (Tells (said ++ passes s d) (Learn s.me d (Some mixed) ∷ t) bound) (applied st (records.Met s.me d mixed)).durable.kept
    unfolding applied durable_after kept_after
    met_rows (decisions.Commit n) true from why =
        changed st.durable.kept s kept (passes s (decisions.Commit n)) (Learn s.me (decisions.Commit n) (Some true)) (λ b no. absurd cc) (met_as (decisions.Commit n) true) (λ is. met_tells said t bound n true s why.1 why.2 from why.0 is) found all
    met_rows (decisions.Commit n) false from why =
        changed st.durable.kept s kept (passes s (decisions.Commit n)) (Learn s.me (decisions.Commit n) (Some false)) (λ b no. absurd cc) (met_as (decisions.Commit n) false) (λ is. met_tells said t bound n false s why.1 why.2 from why.0 is) found all
    met_rows decisions.Rollback true from why =
        changed st.durable.kept s kept (passes s decisions.Rollback) (Learn s.me decisions.Rollback (Some true)) (λ b no. absurd cc) (met_as decisions.Rollback true)
        (λ is. met_rollback_tells said t bound (passes s decisions.Rollback) true s why.2 is) found all
    met_rows decisions.Rollback false from why = left st.durable.kept s kept (passes s decisions.Rollback) (Learn s.me decisions.Rollback (Some false)) (λ b no. absurd cc) all

  -- the rows of a branch that forgets go, but for mixed ones
  pub forgot_rows : (st : Stored) (says : List Post) (b : BranchId) → AllByRecursion (TellsBut said t bound b) st.durable.kept → AllByRecursion (Tells (said ++ says) (Forget b ∷ t) bound) (applied st (records.Forgot b)).durable.kept
  unfolding applied durable_after kept_after
  forgot_rows st says b all = forgot_tells said t bound says b st.durable.kept all

  pub but : (b : BranchId) (ks : List KeptRow) → AllTell ks → AllByRecursion (TellsBut said t bound b) ks
  but b ks all = all_weaker (Tells said t bound) (TellsBut said t bound b) (λ x is. elim is [ inl so ↦ inl (so.0, λ apart. so.1) | inr old ↦ inr old ]) ks all

  forced_rows : (st : Stored) (says : List Post) (b : BranchId) (d : Decision) (given : Bool) → AllTell st.durable.kept → AllByRecursion (Tells (said ++ says) (Force b d ∷ t) bound) (applied st (records.Forced b d given)).durable.kept
  unfolding applied durable_after kept_after
  forced_rows st says b d given all =
      rows_changed (Tells said t bound) (Tells (said ++ says) (Force b d ∷ t) bound) b (in_state (forced_state d))
      (λ x me is. subst (λ c. Tells (said ++ says) (Force c d ∷ t) bound (in_state (forced_state d) x)) me (forced_tells said t bound says d x is))
      (λ x apart is. tells_stays said says t (Force b d ∷ t) bound x (stays_with t (Force b d) x.me (λ no. absurd cc)) is) st.durable.kept all

  hidden_rows : (st : Stored) (says : List Post) (b : BranchId) → AllTell st.durable.kept → AllByRecursion (Tells (said ++ says) t bound) (applied st (records.Hidden b)).durable.kept
  unfolding applied durable_after kept_after
  hidden_rows st says b all =
      rows_changed (Tells said t bound) (Tells (said ++ says) t bound) b hidden_as (λ x me is. hidden_tells said t bound says x is)
      (λ x apart is. tells_stays said says t t bound x (stays_same t x.me) is) st.durable.kept all

  -- the catalog
  table_rows : (st : Stored) (says : List Post) (x : _) → AllTell st.durable.kept → AllByRecursion (Tells (said ++ says) (Make node x ∷ t) bound) (applied st (records.Table x)).durable.kept
  unfolding applied durable_after
  table_rows st says x all = later says (Make node x) (λ b no. absurd cc) st.durable.kept all

  link_rows : (st : Stored) (says : List Post) (x : _) → AllTell st.durable.kept → AllByRecursion (Tells (said ++ says) t bound) (applied st (records.Link x)).durable.kept
  unfolding applied durable_after
  link_rows st says x all = more says st.durable.kept all

  synonym_rows : (st : Stored) (says : List Post) (x : _) → AllTell st.durable.kept → AllByRecursion (Tells (said ++ says) t bound) (applied st (records.Synonym x)).durable.kept
  unfolding applied durable_after
  synonym_rows st says x all = more says st.durable.kept all

  param_rows : (st : Stored) (says : List Post) (on : Bool) → AllTell st.durable.kept → AllByRecursion (Tells (said ++ says) t bound) (applied st (records.Param (params.Recovery on))).durable.kept
  unfolding applied durable_after
  param_rows st says on all = more says st.durable.kept all

  strength_rows : (st : Stored) (says : List Post) (strength : ℕ) → AllTell st.durable.kept → AllByRecursion (Tells (said ++ says) t bound) (applied st (records.Param (params.Strength strength))).durable.kept
  unfolding applied durable_after
  strength_rows st says strength all = more says st.durable.kept all

  -- an image leaves the rows as they are
  image_rows : (st : Stored) (says : List Post) (i : Image) → AllTell st.durable.kept → AllByRecursion (Tells (said ++ says) t bound) (applied st (records.Image i)).durable.kept
  unfolding applied durable_after kept_after
  image_rows st says i all = more says st.durable.kept all

  -- ---- steps

  module _ (p : Place) (input : Input) (no : (from to : BranchId) → Came input from to kinds.Ack → ⊥) where
    pub rows_on : {k : NodeState} {d : TurnDraft} → Step p input k d → IfSome d.wrote (MayStand t) → IfSome d.wrote (RecordVoted t) → Found k.stored.durable.kept → AllTell k.stored.durable.kept → After d
    rows_on (steps.Begins n s read_at call begins range none step) may voted found all = rows_on step may voted found all
    rows_on (steps.Counts_call n s call counts step) may voted found all = rows_on step may voted found all
    rows_on (steps.Goes_back x step goes next) may voted found all = rows_on next may voted found all
    rows_on (steps.Pends n l given call has live code writer step) may voted found all = rows_on step may voted found all
    rows_on (steps.Lets_reads_go l comment below live begins step) may voted found all = rows_on step may voted found all
    rows_on (steps.Counts_ack s from kept came counts step) may voted found all = absurd (no from s.me came)
    rows_on (steps.Acts {k = k} l below acts.Seal why) may voted found all = seal_rows k.stored _ (sealed_of k.clock l (own_changes k l.me) None) may voted all
    rows_on (steps.Acts {k = k} l below (acts.SealAndPass i) why) may voted found all = seal_rows k.stored _ (sealed_of k.clock l (own_changes k l.me) (Some i)) may voted all
    rows_on (steps.Acts {k = k} l below acts.Decide why) may voted found all = decide_rows k.stored _ (decided_of (k.clock + 1) l (own_changes k l.me)) may voted all
    rows_on (steps.Does {k = k} s from (nexts.End d) kept why) may voted found all = ended_rows k.stored s kept found all d from (ends_why why)
    rows_on (steps.Does {k = k} s from (nexts.Meet d mixed) kept why) may voted found all = met_rows k.stored s kept found all d mixed from (meets_why why)
    rows_on (steps.Does {k = k} s from nexts.Forget kept why) may voted found all = forgot_rows k.stored (to_beyond s kinds.Forgotten) s.me (but s.me k.stored.durable.kept all)
    rows_on (steps.Makes_record {k = k} n s r d call (steps.Makes_table x free)) may voted found all = table_rows k.stored _ x all
    rows_on (steps.Makes_record {k = k} n s r d call (steps.Makes_link x free)) may voted found all = link_rows k.stored _ x all
    rows_on (steps.Makes_record {k = k} n s r d call (steps.Makes_synonym x free)) may voted found all = synonym_rows k.stored _ x all
    rows_on (steps.Makes_record {k = k} n s r d call (steps.Sets_recovery on)) may voted found all = param_rows k.stored _ on all
    rows_on (steps.Makes_record {k = k} n s r d call (steps.Sets_strength strength)) may voted found all = strength_rows k.stored _ strength all
    rows_on (steps.Forces_given {k = k} n id m b call named) may voted found all = forced_rows k.stored [] b (decisions.Commit m) true all
    rows_on (steps.Forces_commit {k = k} n id b call named) may voted found all = forced_rows k.stored [] b (decisions.Commit (k.clock + 1)) false all
    rows_on (steps.Forces_rollback {k = k} n id b call named) may voted found all = forced_rows k.stored [] b decisions.Rollback false all
    rows_on (steps.Hides {k = k} n mixed id s call is) may voted found all = hidden_rows k.stored [] s.me all
    rows_on (steps.Images {k = k} is) may voted found all = image_rows k.stored [] (image_at k.stored k.clock) all
    rows_on (steps.Gives_up_commit n b None gives has calls live) may voted found all = more _ _ all
    rows_on _ may voted found all = more _ _ all
