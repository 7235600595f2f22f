-- What a node stores is changed by its records alone, apart from the Acks that it heard.
use Rattle.std.proofs.Common.{◌≡◌, List, [], ◌∷◌, ◌++◌, Option, Some, None, refl, sym, ap, ◌∙◌, append-nil}
use Rattle.std.specs.Option.{option_to_list}
use Rattle.node_rules.specs.Data.{RedoRecord, Place, Input}
use Rattle.node_rules.specs.Data.acts
use Rattle.node_rules.specs.Data.records
use Rattle.commit_forget.specs.declared.next.Next.TheVariants as nexts
use Rattle.node_rules.specs.NodeState.{NodeState, Stored, TurnDraft}
use Rattle.node_rules.specs.Records.{applied, nothing_stored, stored_by}
use Rattle.node_rules.specs.Turn.{start_of}
use Rattle.node_rules.proofs.Steps as steps
use Rattle.node_rules.proofs.Steps.{Step}
use Rattle.run_base_laws.specs.NodeLaws.{unacked, RecordsAreKept}
use Rattle.run_base_laws.proofs.AckLemmas.{unacked_applied, unacked_stored, rows_acked}
use Rattle.run_base_laws.proofs.NodeLemmas.{Keeps, node_keeps}

-- with the record of a turn, if there is one
abbrev pub with_wrote : Stored → Option RedoRecord → Stored
with_wrote s None = s
with_wrote s (Some r) = applied s r

wrote_same : (s t : Stored) (w : Option RedoRecord) → unacked s ≡ unacked t → unacked (with_wrote s w) ≡ unacked (with_wrote t w)
wrote_same s t None same = same
wrote_same s t (Some r) same = unacked_applied s r ∙ (ap (λ x. applied x r) same ∙ sym (unacked_applied t r))

module _ (p : Place) (input : Input) where
  -- a step stores its record
  pub step_stores : {k : NodeState} {d : TurnDraft} → Step p input k d → unacked d.after.stored ≡ unacked (with_wrote k.stored d.wrote)
  step_stores (steps.Begins n s read_at call begins fit none step) = step_stores step
  step_stores (steps.Counts_call n s call counts step) = step_stores step
  step_stores (steps.Goes_back x step goes next) = step_stores next
  step_stores (steps.Pends n l given call has live code writer step) = step_stores step
  step_stores (steps.Lets_reads_go l comment site_below live begins step) = step_stores step
  step_stores (steps.Counts_ack {k = k} {d = d} s from kept came counts step) =
      step_stores step ∙ wrote_same _ k.stored d.wrote (ap (λ ks. record k.stored { durable = record k.stored.durable { kept = ks } }) (rows_acked k s from kept))
  step_stores (steps.Acts l site_below acts.Rest why) = refl
  step_stores (steps.Does s from nexts.Rest kept why) = refl
  step_stores (steps.Gives_up_commit n b None gives has pending is) = refl
  step_stores _ = refl

last_stored : (s : Stored) (rs : List RedoRecord) (r : RedoRecord) → stored_by s (rs ++ r ∷ []) ≡ applied (stored_by s rs) r
unfolding stored_by
last_stored s [] r = refl
last_stored s (x ∷ rs) r = last_stored (applied s x) rs r

-- what these records and this one make
pub stored_with : (rs : List RedoRecord) (w : Option RedoRecord) → stored_by nothing_stored (rs ++ option_to_list w) ≡ with_wrote (stored_by nothing_stored rs) w
stored_with rs None = ap (stored_by nothing_stored) (append-nil rs)
stored_with rs (Some r) = last_stored nothing_stored rs r

-- what is stored is what these records make of nothing, apart from Acks
abbrev pub StoresOf : List RedoRecord → NodeState → Type 0
StoresOf rs k = unacked k.stored ≡ stored_by nothing_stored rs

wrote_of : (rs : List RedoRecord) (k : NodeState) (w : Option RedoRecord) → StoresOf rs k → unacked (with_wrote k.stored w) ≡ stored_by nothing_stored (rs ++ option_to_list w)
wrote_of rs k None now = now ∙ sym (stored_with rs None)
wrote_of rs k (Some r) now = unacked_applied k.stored r ∙ (ap (λ s. applied s r) now ∙ sym (stored_with rs (Some r)))

pub start_stores : (rs : List RedoRecord) → StoresOf rs (start_of rs)
unfolding start_of
start_stores rs = unacked_stored nothing_stored rs

pub step_stores_of : (p : Place) (rs : List RedoRecord) (input : Input) (k : NodeState) (d : TurnDraft) → Step p input k d → StoresOf rs k → StoresOf (rs ++ option_to_list d.wrote) d.after
step_stores_of p rs input k d step now = step_stores p input step ∙ wrote_of rs k d.wrote now

pub stores : Keeps (λ p rs. Unit {0}) (λ p rs k. StoresOf rs k)
stores = record {
  empty = λ p. tt;
  starts = λ p rs boot disk next. start_stores (rs ++ records.Boot boot ∷ []);
  hears = λ p rs k scn now. now;
  steps = λ p rs input k d step now. step_stores_of p rs input k d step now;
  rests = λ p rs k now. tt;
}

pub records_are_kept : RecordsAreKept
records_are_kept = node_keeps (λ p rs. Unit {0}) (λ p rs k. StoresOf rs k) stores
