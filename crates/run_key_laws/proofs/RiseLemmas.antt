-- On each disk of a lawful run the SCNs of seals and decisions rise.
use Rattle.std.proofs.Common.{ℕ, ◌≤◌, List, [], ◌∷◌, ◌++◌, Option, Some, None, sym, subst, arith, append-nil, append_assoc}
use Rattle.std.specs.Prelude.{IfSome}
use Rattle.std.specs.Option.{option_to_list}
use Rattle.node_rules.specs.Data.{RedoRecord, Place, Input}
use Rattle.node_rules.specs.Data.acts
use Rattle.node_rules.specs.Data.records
use Rattle.commit_forget.specs.declared.next.Next.TheVariants as nexts
use Rattle.node_rules.specs.NodeState.{NodeState, TurnDraft, Stored, Branch}
use Rattle.node_rules.specs.Records.{nothing_stored, stored_by}
use Rattle.node_rules.specs.Turn.{start_of}
use Rattle.node_rules.proofs.Steps as steps
use Rattle.node_rules.proofs.Steps.{Step}
use Rattle.run_rules.specs.Facts.{first_facts}
use Rattle.run_rules.specs.Branches.{no_trail}
use Rattle.run_base_laws.specs.NodeLaws.{IsLater}
use Rattle.run_key_laws.specs.RiseLaws.{EachRecordFrom, ScnsRise}
use Rattle.node_rules.proofs.StepLemmas.{made_so}
use Rattle.node_rules.specs.Calls.{backs_to}
use Rattle.node_rules.specs.Marks.{node_back, branch_back, next_back}
use Rattle.run_base_laws.proofs.StoredLemmas.{StoresOf, step_stores_of, start_stores}
use Rattle.run_base_laws.proofs.ClockLemmas.{Covers, covers}
use Rattle.run_base_laws.proofs.LawfulLemmas.{lawful_keeps}
use Rattle.run_base_laws.proofs.NodeLemmas.{Keeps, AllStand, all_stand_on, first_all}

-- ---- records one after the other

module _ (So : Stored → RedoRecord → Type 0) where
  record_last : (older rs : List RedoRecord) (r : RedoRecord) → EachRecordFrom So older rs → So (stored_by nothing_stored (older ++ rs)) r → EachRecordFrom So older (rs ++ r ∷ [])
  record_last older [] r all is = (subst (λ xs. So (stored_by nothing_stored xs) r) (append-nil older) is, tt)
  record_last older (x ∷ rs) r all is = (all.0, record_last (older ++ x ∷ []) rs r all.1 (subst (λ xs. So (stored_by nothing_stored xs) r) (sym (append_assoc older (x ∷ []) rs)) is))

  -- with the record of a turn, where there is one
  pub records_with : (rs : List RedoRecord) (w : Option RedoRecord) → EachRecordFrom So [] rs → IfSome w (So (stored_by nothing_stored rs)) → EachRecordFrom So [] (rs ++ option_to_list w)
  records_with rs None all is = subst (EachRecordFrom So []) (sym (append-nil rs)) all
  records_with rs (Some r) all is = record_last [] rs r all is

-- ---- steps

module _ (p : Place) (input : Input) (scn : ℕ) where
  back_later : (k : NodeState) (x : Branch) (to : ℕ) (next : Option ℕ) → IfSome (backs_to (node_back k x to) (branch_back k x to) to next).wrote (IsLater scn)
  back_later k x to None = tt
  back_later k x to (Some i) = tt

  -- a step's record comes later than all that the clock has met
  comes_later : {k : NodeState} {d : TurnDraft} → Step p input k d → scn ≤ k.clock → IfSome d.wrote (IsLater scn)
  comes_later (steps.Begins n s read_at call begins fit none step) now = comes_later step now
  comes_later (steps.Counts_call n s call counts step) now = comes_later step now
  comes_later (steps.Goes_back {k = k} x to goes next) now = back_later k x to (next_back (branch_back k x to).work to 1)
  comes_later (steps.Pends n l given call has live code writer step) now = comes_later step now
  comes_later (steps.Lets_reads_go l comment site_below live begins step) now = comes_later step now
  comes_later (steps.Counts_ack s from kept came counts step) now = comes_later step now
  comes_later (steps.Acts l site_below acts.Seal why) now = now
  comes_later (steps.Acts l site_below (acts.SealAndPass i) why) now = now
  comes_later (steps.Acts l site_below acts.Decide why) now = omega (arith, now)
  comes_later (steps.Acts l site_below acts.Rest why) now = tt
  comes_later (steps.Does s from nexts.Rest kept why) now = tt
  comes_later (steps.Makes_record n s r d call makes) now = made_so (IsLater scn) (λ t. tt) (λ l. tt) (λ y. tt) (λ on. tt) makes
  comes_later (steps.Gives_up_commit n b None gives has pending gone) now = tt
  comes_later _ now = tt

-- ---- nodes

-- the SCNs of these records rise
abbrev pub Rise : List RedoRecord → Type 0
Rise rs = EachRecordFrom (λ s r. IsLater s.scn r) [] rs

abbrev pub J : Place → List RedoRecord → Type 0
J p rs = Rise rs

abbrev pub I : Place → List RedoRecord → NodeState → Type 0
I p rs k = StoresOf rs k × Covers k × Rise rs

steps_rise : (p : Place) (rs : List RedoRecord) (input : Input) (k : NodeState) (d : TurnDraft) → Step p input k d → I p rs k → I p (rs ++ option_to_list d.wrote) d.after
steps_rise p rs input k d step now =
    let met : (stored_by nothing_stored rs).scn ≤ k.clock = subst (λ s. s.scn ≤ k.clock) now.0 now.1 in (
      step_stores_of p rs input k d step now.0,
      covers.steps p input k d step now.1,
      records_with (λ s r. IsLater s.scn r) rs d.wrote now.2 (comes_later p input (stored_by nothing_stored rs).scn step met),
    )

starts_rise : (rs : List RedoRecord) (boot : ℕ) → Rise rs → Rise (rs ++ records.Boot boot ∷ [])
starts_rise rs boot all = records_with (λ s r. IsLater s.scn r) rs (Some (records.Boot boot)) all tt

start_covers : (rs : List RedoRecord) → Covers (start_of rs)
unfolding start_of
start_covers rs = covers.starts (stored_by nothing_stored rs) (start_of rs).versions

pub rises : Keeps J I
rises = record {
  empty = λ p. tt;
  starts = λ p rs boot disk next. (start_stores (rs ++ records.Boot boot ∷ []), start_covers _, starts_rise rs boot disk);
  hears = λ p rs k scn now. (now.0, covers.hears k scn now.1, now.2);
  steps = λ p rs input k d step now. steps_rise p rs input k d step now;
  rests = λ p rs k now. now.2;
}

pub scns_rise : ScnsRise
scns_rise t lawful n =
    ((lawful_keeps t.places t.commands (λ f tr. AllStand J I rises t.places f) (λ f tr h now may. all_stand_on J I rises t.places t.commands f h now may) (first_facts t.places) no_trail t.trace
    (first_all J I rises t.places) lawful).nodes n).0
