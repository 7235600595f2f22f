-- In every lawful run a branch learns its decision of toward, and forgets once all beyond acknowledged, or after toward.
use Rattle.std.proofs.Common.{◌≡◌, ℕ, not, Bool, true, List, [], ◌∷◌, filter, is_none, Option, Some, None, inl, inr, refl, sym, ap, subst, ◌∙◌}
use Rattle.std.specs.Prelude.{IfSome}
use Rattle.std.specs.List.{AllByRecursion, list_all}
use Rattle.std.proofs.lemmas.Bool.{cond_both, and_parts}
use Rattle.tran_ids.proofs.ListedLemmas.{put_or_before}
use Rattle.agreement.specs.Events.{Event, Send_commit, Send_rollback, Send_ack, Send_forgotten, Has}
use Rattle.commit_forget.specs.declared.next.Beyond.{Beyond}
use Rattle.commit_forget.specs.declared.next.Next.TheVariants as nexts
use Rattle.commit_forget.specs.Beyond.{beyond, parent_beyond, kid_beyond, all_acked}
use Rattle.session_tree.specs.Live.{is_branch}
use Rattle.node_rules.specs.Data.{BranchId, Decision, Kind, KeptRow, RedoRecord, Place, Input}
use Rattle.node_rules.specs.Data.acts
use Rattle.node_rules.specs.Data.inputs
use Rattle.node_rules.specs.Data.kinds
use Rattle.node_rules.specs.Data.records
use Rattle.node_rules.specs.Words.{numbered, item_at, put_item}
use Rattle.node_rules.specs.Inputs.{Came, Brings, Commit_came, Rollback_came, Rolled_back_came}
use Rattle.node_rules.specs.NodeState.{NodeState, TurnDraft, kept_row_id}
use Rattle.node_rules.specs.Commit.{acked_by}
use Rattle.node_rules.specs.Turn.{heard, draft_of}
use Rattle.node_rules.proofs.Steps as steps
use Rattle.node_rules.proofs.Steps.{Step, Doing}
use Rattle.run_rules.specs.Data.{Turn, Happening, Command}
use Rattle.run_rules.specs.Data.happenings
use Rattle.run_rules.specs.Facts.{Facts, first_facts, place_at}
use Rattle.run_rules.specs.Lawful.{IsPlace, MayHappen, MayTurn}
use Rattle.run_base_laws.specs.NodeLaws.{unacked_row}
use Rattle.run_branch_laws.specs.HeardLaws.{AcksAre}
use Rattle.run_branch_laws.specs.TowardLaws.{IsRowLike, WasTold, LearnsSo, AllAcked, ForgetsSo, GoesByRow, WritesByRow, TurnsGoByRows}
use Rattle.run_rules.proofs.ListLemmas.{all_filter, all_append, all_map}
use Rattle.run_base_laws.proofs.LawfulLemmas.{of_wrote, serves, turn_of_node}
use Rattle.node_rules.proofs.StepLemmas.{branch_found}
use Rattle.run_base_laws.proofs.AckLemmas.{row_acked}
use Rattle.run_base_laws.proofs.LaterLemmas.{events_each}
use Rattle.run_base_laws.proofs.OwnLemmas.{all_found, all_with}
use Rattle.run_base_laws.proofs.SaidLemmas.{came_said}
use Rattle.run_branch_laws.proofs.HeardLemmas.{acked_so}
use Rattle.run_branch_laws.proofs.HeardStandLemmas.{NodeHeard, StandHeard, stand_heard_on, stand_heard_first}

none_found : (o : Option BranchId) → is_none o ≡ true → o ≡ None
none_found None is = refl
none_found (Some b) is = absurd cc

-- a row is like itself
pub itself : (ks : List KeptRow) (s : KeptRow) → item_at kept_row_id ks s.me ≡ Some s → IsRowLike ks s.me s
itself ks s stands = record { row = s; stands = stands; like = refl }

-- and like the row before an Ack was counted
pub like_acked : (ks : List KeptRow) (s : KeptRow) (from : BranchId) → item_at kept_row_id ks s.me ≡ Some s → (b : BranchId) (x : KeptRow) → IsRowLike (put_item kept_row_id ks (acked_by s from)) b x → IsRowLike ks b x
like_acked ks s from stands b x is = elim (put_or_before kept_row_id ks (acked_by s from) b) [
  | inl same ↦ record { row = is.row; stands = sym same ∙ is.stands; like = is.like }
  | inr new ↦ (let it : Some (acked_by s from) ≡ Some is.row = sym new.1 ∙ is.stands in
      let here : acked_by s from ≡ is.row = cc in
      record { row = s; stands = subst (λ c. item_at kept_row_id ks c ≡ Some s) new.0 stands; like = is.like ∙ (ap unacked_row (sym here) ∙ row_acked s from) })
]

goes_acked : (t : List Event) (ks : List KeptRow) (s : KeptRow) (from : BranchId) → item_at kept_row_id ks s.me ≡ Some s → (r : RedoRecord) → GoesByRow t (put_item kept_row_id ks (acked_by s from)) r → GoesByRow t ks r
goes_acked t ks s from stands (records.Ended b d) is = (is.0, like_acked ks s from stands b is.0 is.1, is.2)
goes_acked t ks s from stands (records.Met b d mixed) is = (is.0, like_acked ks s from stands b is.0 is.1, is.2)
goes_acked t ks s from stands (records.Forgot b) is = (is.0, like_acked ks s from stands b is.0 is.1, is.2)
goes_acked t ks s from stands _ is = tt

wrote_acked : (t : List Event) (ks : List KeptRow) (s : KeptRow) (from : BranchId) → item_at kept_row_id ks s.me ≡ Some s → (w : Option RedoRecord) → IfSome w (GoesByRow t (put_item kept_row_id ks (acked_by s from))) → IfSome w (GoesByRow t ks)
wrote_acked t ks s from stands None is = tt
wrote_acked t ks s from stands (Some r) is = goes_acked t ks s from stands r is

-- ---- all beyond acknowledged

module _ (t : List Event) (s : KeptRow) (acks : AcksAre t s) where
  abbrev HeldAck : Beyond → Type 0
  HeldAck x = x.acked ≡ true → Has (Send_ack x.branch s.me) t

  parent_held : (parent : Option BranchId) → (s.parent_acked ≡ true → (b : BranchId) → parent ≡ Some b → Has (Send_ack b s.me) t) → AllByRecursion HeldAck (parent_beyond s parent)
  parent_held None above = tt
  parent_held (Some b) above = cond_both (is_branch b s.toward) _ _ (AllByRecursion HeldAck) (λ on. tt) (λ off. ((λ acked. above acked b refl), tt))

  beyond_held : AllByRecursion HeldAck (beyond s)
  unfolding beyond
  beyond_held =
      all_append HeldAck (parent_beyond s s.parent) _ (parent_held s.parent acks.above)
      (all_map HeldAck kid_beyond (filter (λ c. not (is_branch c.branch s.toward)) s.children)
      (all_filter (λ c. c.acked ≡ true → Has (Send_ack c.branch s.me) t) (λ c. HeldAck (kid_beyond c)) (λ c. not (is_branch c.branch s.toward)) (λ c off so. so) s.children acks.below))

  each_acked : (bs : List Beyond) → list_all (λ b. b.acked) bs ≡ true → AllByRecursion HeldAck bs → AllByRecursion (λ x. Has (Send_ack x.branch s.me) t) bs
  each_acked [] all held = tt
  each_acked (b ∷ bs) all held = (let parts = and_parts b.acked (list_all (λ x. x.acked) bs) all in (held.0 parts.0, each_acked bs parts.1 held.1))

  pub acked_all : all_acked s ≡ true → AllAcked t s
  acked_all all = each_acked (beyond s) all beyond_held

-- ---- steps

-- what came was told
abbrev pub ToldSo : List Event → BranchId → BranchId → Kind → Type 0
ToldSo t from to (kinds.Committed n) = Has (Send_commit from to n) t
ToldSo t from to kinds.Rollback = Has (Send_rollback from to) t
ToldSo t from to kinds.RolledBack = Has (Send_rollback from to) t
ToldSo t from to kinds.Forgotten = Has (Send_forgotten from to) t
ToldSo t from to kinds.Ack = Has (Send_ack from to) t
ToldSo t from to _ = Unit {0}

module _ (t : List Event) (p : Place) (input : Input) (told : (from to : BranchId) (kind : Kind) → Came input from to kind → ToldSo t from to kind) where
  brings_told : {from to : BranchId} {d : Decision} → Brings input from to d → WasTold t from to d
  brings_told {from = from} {to = to} (Commit_came n came) = told from to (kinds.Committed n) came
  brings_told {from = from} {to = to} (Rollback_came came) = told from to kinds.Rollback came
  brings_told {from = from} {to = to} (Rolled_back_came came) = told from to kinds.RolledBack came

  module _ (ks : List KeptRow) (s : KeptRow) (stands : item_at kept_row_id ks s.me ≡ Some s) where
    ends_so : {clock : ℕ} {from : BranchId} {d : Decision} → Doing clock input s from (nexts.End d) → LearnsSo t ks s.me d
    ends_so {from = from} (steps.Ends_so d brings toward none sealed met) = (s, itself ks s stands, (from, branch_found from s.toward toward, brings_told brings))

    meets_so : {clock : ℕ} {from : BranchId} {d : Decision} {mixed : Bool} → Doing clock input s from (nexts.Meet d mixed) → LearnsSo t ks s.me d
    meets_so {from = from} (steps.Meets_so d brings toward none unsealed uncommitted met) = (s, itself ks s stands, (from, branch_found from s.toward toward, brings_told brings))

    forgets_so : {clock : ℕ} {from : BranchId} → AcksAre t s → Doing clock input s from nexts.Forget → ForgetsSo t ks s.me
    forgets_so acks (steps.Forgets_first came knows new all site) = (s, itself ks s stands, inl (none_found s.toward site, acked_all t s acks all))
    forgets_so {from = from} acks (steps.Forgets_after came knows toward new) = (s, itself ks s stands, inr (from, branch_found from s.toward toward, told from s.me kinds.Forgotten came))

  pub goes_on : {k : NodeState} {d : TurnDraft} → Step p input k d → AllByRecursion (AcksAre t) k.stored.durable.kept → IfSome d.wrote (GoesByRow t k.stored.durable.kept)
  goes_on (steps.Begins n s read_at call begins fit none step) acks = goes_on step acks
  goes_on (steps.Counts_call n s call counts step) acks = goes_on step acks
  goes_on (steps.Goes_back x step goes next) acks = goes_on next acks
  goes_on (steps.Pends n l comment call has live code writer step) acks = goes_on step acks
  goes_on (steps.Lets_reads_go l comment site_below live begins step) acks = goes_on step acks
  goes_on (steps.Counts_ack {k = k} {d = d} s from kept came counts step) acks =
      wrote_acked t k.stored.durable.kept s from kept d.wrote
      (goes_on step (all_with (AcksAre t) kept_row_id k.stored.durable.kept (acked_by s from) acks (acked_so t s from (told from s.me kinds.Ack came) (all_found (AcksAre t) kept_row_id k.stored.durable.kept s.me s acks kept))))
  goes_on (steps.Acts l site_below acts.Rest why) acks = tt
  goes_on (steps.Does {k = k} s from (nexts.End d) kept why) acks = ends_so k.stored.durable.kept s kept why
  goes_on (steps.Does {k = k} s from (nexts.Meet d mixed) kept why) acks = meets_so k.stored.durable.kept s kept why
  goes_on (steps.Does {k = k} s from nexts.Forget kept why) acks = forgets_so k.stored.durable.kept s kept (all_found (AcksAre t) kept_row_id k.stored.durable.kept s.me s acks kept) why
  goes_on (steps.Makes_record n s r d call (steps.Sets_recovery on)) acks = tt
  goes_on (steps.Gives_up_commit n b None gives has calls live) acks = tt
  goes_on _ acks = tt

-- ---- every run

-- a node that hears has the same rows
pub heard_rows : (k : NodeState) (input : Input) → (heard k input).stored.durable.kept ≡ k.stored.durable.kept
heard_rows k (inputs.Message m) = refl
heard_rows k (inputs.Call n s) = refl
heard_rows k (inputs.GiveUp n) = refl
heard_rows k inputs.Reco = refl
heard_rows k inputs.Checkpoint = refl

module _ (places : List Place) (asked : List Command) (each : (n : ℕ) (q : Place) → numbered places n ≡ Some q → IsPlace places n q) where
  module _ (f : Facts) (t : List Event) (now : StandHeard places asked each f t) (u : Turn) (k : NodeState) (may : MayTurn places f u k) where
    told_so : (from to : BranchId) (kind : Kind) → Came u.input from to kind → ToldSo t from to kind
    told_so from to (kinds.Committed n) came = came_said f t now.0.2 k u.node u.input u.took may.comes from to (kinds.Committed n) came
    told_so from to kinds.Rollback came = came_said f t now.0.2 k u.node u.input u.took may.comes from to kinds.Rollback came
    told_so from to kinds.RolledBack came = came_said f t now.0.2 k u.node u.input u.took may.comes from to kinds.RolledBack came
    told_so from to kinds.Forgotten came = came_said f t now.0.2 k u.node u.input u.took may.comes from to kinds.Forgotten came
    told_so from to kinds.Ack came = came_said f t now.0.2 k u.node u.input u.took may.comes from to kinds.Ack came
    told_so from to _ came = tt

    acks : AllByRecursion (AcksAre t) k.stored.durable.kept
    acks = (subst (λ o. IfSome o (NodeHeard t)) may.up (now.1.nodes u.node)).1

    -- the record of a turn goes by the rows before it
    turn_goes : IfSome u.wrote (GoesByRow t k.stored.durable.kept)
    turn_goes =
        of_wrote (place_at places u.node) k u (serves places f u k may) (λ w. IfSome w (GoesByRow t k.stored.durable.kept)) tt
        (subst (λ (ks : List KeptRow). IfSome (draft_of (place_at places u.node) k u.input).wrote (GoesByRow t ks)) (heard_rows k u.input)
        (goes_on t (place_at places u.node) u.input told_so (serves places f u k may).step (subst (λ (ks : List KeptRow). AllByRecursion (AcksAre t) ks) (sym (heard_rows k u.input)) acks)))

  writes_so : (f : Facts) (t : List Event) (h : Happening) → StandHeard places asked each f t → MayHappen places asked f h → WritesByRow f t h
  writes_so f t (happenings.Turn u) now may = λ k up. turn_goes f t now u k (turn_of_node places f u k asked may up)
  writes_so f t _ now may = tt

pub turns_go_by_rows : TurnsGoByRows
turns_go_by_rows t lawful =
    events_each t.places t.commands (StandHeard t.places t.commands t.of_a_script.each) (stand_heard_on t.places t.commands t.of_a_script.each) WritesByRow (writes_so t.places t.commands t.of_a_script.each)
    (first_facts t.places) t.trace [] (stand_heard_first t.places t.commands t.of_a_script.each) lawful
