-- A turn on a disk: at each moment the disk holds records that a node can start from, and after the turn they say what the node
-- stores.
use Rattle.std.proofs.Common.{◌≡◌, ℕ, List, [], ◌∷◌, ◌++◌, map, Option, None, Some, inl, inr, refl, sym, subst, ap, ◌∙◌}
use Rattle.std.specs.Prelude.{◌↔◌, IfSome, OnOk, Result, Ok, Err}
use Rattle.std.specs.List.{AllByRecursion}
use Rattle.block_disk.specs.declared.disk.Disk.{Ghosts}
use Rattle.block_disk.specs.Images.{AtEachMoment, AddsNone}
use Rattle.node_spell_laws.specs.Record.{RecordHasBytes}
use Rattle.record_log.specs.Calls.{IsReadyLog}
use Rattle.record_log.specs.Held.{HoldRecords}
use Rattle.record_log.specs.Log.{disk_of, IsIntact, IsUsable}
use Rattle.record_log.specs.declared.log.RecordLog.{RecordLog}
use Rattle.node_rules.specs.Data.{RedoRecord, Place, Input, Msg}
use Rattle.node_rules.specs.NodeState.{Stored, NodeState, TurnOutput}
use Rattle.node_rules.specs.Records.{nothing_stored, applied, stored_by}
use Rattle.node_rules.specs.Turn.{turn_of}
use Rattle.node_ready_laws.specs.Following.{MayFollow, MayAllFollow}
use Rattle.node_ready_laws.specs.Sound.{IsSound, AreSound, IsNext, with_rows, RowsDoNotMatter}
use Rattle.node_undo_laws.specs.Fits.{FitsDoubts}
use Rattle.node_undo_laws.specs.Laws.{AcksDoNotMatter}
use Rattle.node_undo_laws.proofs.StartLemmas.{fits_last}
use Rattle.node_memory.specs.declared.memory.Memory.{Memory}
use Rattle.node_memory.specs.Parts.{stored_in, kept_in}
use Rattle.node_core.specs.declared.served.StampedTurn.{StampedTurn}
use Rattle.node_core.specs.Able.{MayTake}
use Rattle.node_core.specs.Serves.{Serves}
use Rattle.node_disk.specs.declared.effects.DurableTurn.{DurableTurn}
use Rattle.node_disk.specs.declared.incoming.Incoming.{Incoming}
use Rattle.node_disk.specs.Incoming.{read_as, IsReadAs, record_of}
use Rattle.node_disk.specs.Effects.{mailed, call_of, Tells}
use Rattle.node_disk.specs.Spellable.{MayBeMailed, IsSpellable}
use Rattle.node_disk.specs.Starts.{MayBeHad, MayBeNext, IsStartable, IsButForAcks, stored_next}
use Rattle.node_disk.specs.Laws.{TurnsStoreTheirRecords}
use Rattle.node_disk.specs.OnDisk.{StandsOn, IsOpenFor, HoldsNext, ImageHolds}
use Rattle.node_disk.proofs.StoreLaws.{but_for_both, next_but_for}
use Rattle.node_disk.proofs.MomentLaws.{weaker}

-- ---- one turn in memory

pub stores_so : TurnsStoreTheirRecords → (m n : Memory) (input : Input) (served : StampedTurn) → MayTake m.place (kept_in m) input → Serves (turn_of m.place (kept_in m) input) (kept_in n) served
    → IsButForAcks (stored_next (stored_in m) served.wrote) (stored_in n)
stores_so law m n input served may serves =
    subst (λ (w : Option RedoRecord). IsButForAcks (stored_next (stored_in m) w) (stored_in n)) (sym serves.wrote)
    (subst (λ (k : NodeState). IsButForAcks (stored_next (stored_in m) (turn_of m.place (kept_in m) input).wrote) k.stored) (sym serves.after) (law m.place (kept_in m) input may.expected.fit))

-- its record may stand next, and fits
both_so : (undo : ℕ) (s : Stored) (w : Option RedoRecord) → IfSome w (IsNext s) → IfSome w (FitsDoubts undo s) → IfSome w (MayBeNext undo s)
both_so undo s None next fits = tt
both_so undo s (Some r) next fits = (next, fits)

pub next_so : (undo : ℕ) (s : Stored) (served : StampedTurn) → IfSome served.wrote (IsNext s) → IfSome served.wrote (FitsDoubts undo s) → IfSome served.wrote (MayBeNext undo s)
next_so undo s served next fits = both_so undo s served.wrote next fits

pub sent_spelled : (o : TurnOutput) (k : NodeState) (served : StampedTurn) → Serves o k served → AllByRecursion MayBeMailed o.sent → AllByRecursion MayBeMailed served.sent
sent_spelled o k served serves all = subst (λ (msgs : List Msg). AllByRecursion MayBeMailed msgs) (sym serves.sent) all

pub tells_so : (o : TurnOutput) (k : NodeState) (served : StampedTurn) (e : DurableTurn) → Serves o k served → e.wrote ≡ served.wrote → e.sent ≡ map mailed served.sent → map call_of e.ended ≡ served.ended → Tells o k e
tells_so o k served e serves wrote sent ended = record {
  after = serves.after;
  wrote = wrote ∙ serves.wrote;
  sent = sent ∙ ap (λ (msgs : List Msg). map mailed msgs) serves.sent;
  ended = ended ∙ serves.ended;
}

pub wrote_so : (o : TurnOutput) (k : NodeState) (served : StampedTurn) (e : DurableTurn) → Serves o k served → e.wrote ≡ served.wrote → IsSpellable o → IfSome e.wrote RecordHasBytes
wrote_so o k served e serves wrote spellable = subst (λ (w : Option RedoRecord). IfSome w RecordHasBytes) (sym (wrote ∙ serves.wrote)) spellable.wrote

pub follows_so : (undo : ℕ) (s : Stored) (served : StampedTurn) (e : DurableTurn) → e.wrote ≡ served.wrote → IfSome served.wrote (MayBeNext undo s) → IfSome e.wrote (MayBeNext undo s)
follows_so undo s served e wrote next = subst (λ (w : Option RedoRecord). IfSome w (MayBeNext undo s)) (sym wrote) next

pub stored_so : (s t : Stored) (served : StampedTurn) (e : DurableTurn) → e.wrote ≡ served.wrote → IsButForAcks (stored_next s served.wrote) t → IsButForAcks (stored_next s e.wrote) t
stored_so s t served e wrote stores = subst (λ (w : Option RedoRecord). IsButForAcks (stored_next s w) t) (sym wrote) stores

-- what was read is what the turn is over
pub tells_as : (p : Place) (k new : NodeState) (i : Input) (e : DurableTurn) → e.input ≡ i → Tells (turn_of p k i) new e → Tells (turn_of p k e.input) new e
tells_as p k new i e is tells = subst (λ (j : Input). Tells (turn_of p k j) new e) (sym is) tells

pub wrote_as : (p : Place) (k new : NodeState) (incoming : Incoming) (i : Input) (e : DurableTurn) → IsReadAs incoming i → Tells (turn_of p k i) new e → e.wrote ≡ record_of p k (read_as incoming)
wrote_as p k new incoming i e read tells = tells.wrote ∙ ap (record_of p k) (sym read)

-- ---- records

pub stored_last : (s : Stored) (rs : List RedoRecord) (r : RedoRecord) → stored_by s (rs ++ r ∷ []) ≡ applied (stored_by s rs) r
unfolding stored_by
stored_last s [] r = refl
stored_last s (x ∷ xs) r = stored_last (applied s x) xs r

follow_last : (s : Stored) (rs : List RedoRecord) (r : RedoRecord) → MayAllFollow s rs → MayFollow (stored_by s rs) r → MayAllFollow s (rs ++ r ∷ [])
unfolding stored_by MayAllFollow
follow_last s [] r all next = (next, tt)
follow_last s (x ∷ xs) r all next = (all.0, follow_last (applied s x) xs r all.1 next)

sound_last : (s : Stored) (rs : List RedoRecord) (r : RedoRecord) → AreSound s rs → IsSound (stored_by s rs) r → AreSound s (rs ++ r ∷ [])
unfolding stored_by AreSound
sound_last s [] r all next = (next, tt)
sound_last s (x ∷ xs) r all next = (all.0, sound_last (applied s x) xs r all.1 next)

-- one more record that may stand next
pub had_next : (undo : ℕ) (rs : List RedoRecord) (r : RedoRecord) → MayBeHad undo rs → MayBeNext undo (stored_by nothing_stored rs) r → MayBeHad undo (rs ++ r ∷ [])
had_next undo rs r had next = record {
  follow = follow_last nothing_stored rs r had.follow next.0.0;
  sound = sound_last nothing_stored rs r had.sound next.0.1;
  fit = fits_last undo nothing_stored rs r had.fit next.1;
}

-- a record that may stand next where Acks were noted may do so without them
next_unnoted : RowsDoNotMatter → AcksDoNotMatter → (undo : ℕ) (s t : Stored) (r : RedoRecord) → IsButForAcks s t → MayBeNext undo t r → MayBeNext undo s r
next_unnoted law acks undo s t r is next = (
  law (with_rows s t.durable.kept) s.durable.kept r (subst (λ (x : Stored). IsNext x r) is next.0),
  acks undo (with_rows s t.durable.kept) s.durable.kept r (subst (λ (x : Stored). FitsDoubts undo x r) is next.1),
)

-- ---- at each moment

module _ {D : Type 0} (moment : D → ℕ) (images_since : D → ℕ → List ℕ → Type 0) where
  startable_by : RowsDoNotMatter → AcksDoNotMatter → (undo : ℕ) (s : Stored) (rs : List RedoRecord) (w : Option RedoRecord) → MayBeHad undo rs → IsButForAcks (stored_by nothing_stored rs) s → IfSome w (MayBeNext undo s)
      → (image : List ℕ) → ImageHolds rs w image → IsStartable undo image
  startable_by law acks undo s rs None had is next image hold = (rs, hold, had)
  startable_by law acks undo s rs (Some r) had is next image may = elim may [
    | inl hold ↦ (rs, hold, had)
    | inr hold ↦ (rs ++ r ∷ [], hold, had_next undo rs r had (next_unnoted law acks undo (stored_by nothing_stored rs) s r is next))
  ]

  -- while the record of a turn is written, the disk holds records that a node can start from
  pub startable_while : RowsDoNotMatter → AcksDoNotMatter → (undo : ℕ) (old now : D) (before : List ℕ) (s : Stored) (w : Option RedoRecord) → StandsOn undo before s → IfSome w (MayBeNext undo s)
      → ((rs : List RedoRecord) → HoldRecords rs before → AtEachMoment moment images_since old now (ImageHolds rs w)) → AtEachMoment moment images_since old now (IsStartable undo)
  startable_while law acks undo old now before s w stands next moments =
      weaker moment images_since old now (ImageHolds stands.0 w) (IsStartable undo) (moments stands.0 stands.1) (startable_by law acks undo s stands.0 w stands.2 stands.3 next)

-- ---- after the turn

holds_by : (rs : List RedoRecord) (w : Option RedoRecord) (before now : List ℕ) → HoldsNext w before now → HoldRecords rs before → ImageHolds rs w now
holds_by rs None before now grows hold = subst (λ (bytes : List ℕ). HoldRecords rs bytes) (sym grows) hold
holds_by rs (Some r) before now grows hold = inr (grows rs hold)

-- the records of the disk say what the node stores
pub stands_next : RowsDoNotMatter → AcksDoNotMatter → (undo : ℕ) (before now : List ℕ) (s t : Stored) (w : Option RedoRecord) → StandsOn undo before s → IfSome w (MayBeNext undo s) → IsButForAcks (stored_next s w) t
    → HoldsNext w before now → StandsOn undo now t
stands_next law acks undo before now s t None stands next stores grows =
    (stands.0, holds_by stands.0 None before now grows stands.1, stands.2, but_for_both (stored_by nothing_stored stands.0) s t stands.3 stores)
stands_next law acks undo before now s t (Some r) stands next stores grows =
    let rs = stands.0 in
    let under = stored_by nothing_stored rs in
    let next_stored : IsButForAcks (applied under r) t = but_for_both (applied under r) (applied s r) t (next_but_for under s (Some r) stands.3) stores in (
      rs ++ r ∷ [],
      grows rs stands.1,
      had_next undo rs r stands.2 (next_unnoted law acks undo under s r stands.3 next),
      subst (λ (x : Stored). IsButForAcks x t) (sym (stored_last nothing_stored rs r)) next_stored,
    )

-- records that an image holds without the one of the turn
may_stand : (rs : List RedoRecord) (w : Option RedoRecord) (image : List ℕ) → HoldRecords rs image → ImageHolds rs w image
may_stand rs None image hold = hold
may_stand rs (Some r) image hold = inl hold

module _ {D : Type 0} (moment : D → ℕ) (images_since : D → ℕ → List ℕ → Type 0) where
  -- a turn that wrote nothing
  pub stand_still : (disk : D) (rs : List RedoRecord) (w : Option RedoRecord) → AtEachMoment moment images_since disk disk (HoldRecords rs) → AtEachMoment moment images_since disk disk (ImageHolds rs w)
  stand_still disk rs w own = weaker moment images_since disk disk (HoldRecords rs) (ImageHolds rs w) own (may_stand rs w)

  pub startable_still : (disk : D) (bytes : List ℕ) (undo : ℕ) (s : Stored) → StandsOn undo bytes s → ((rs : List RedoRecord) → HoldRecords rs bytes → AtEachMoment moment images_since disk disk (HoldRecords rs))
      → AtEachMoment moment images_since disk disk (IsStartable undo)
  startable_still disk bytes undo s stands own =
      weaker moment images_since disk disk (HoldRecords stands.0) (IsStartable undo) (own stands.0 stands.1) (λ image hold. (stands.0, hold, stands.2))

-- ---- the next turn

-- at Ok the node is running again
pub opens_on : {T E D : Type 0} (d : Ghosts D) (undo : ℕ) (log : RecordLog D) (s : Stored) (r : Result T E) → OnOk r (IsReadyLog d log) → OnOk r (StandsOn undo (d.content (disk_of log)) s)
    → OnOk r (IsOpenFor undo d.content d.images log s)
opens_on d undo log s (Ok v) ready stands = record { usable = ready.usable; intact = ready.intact; durable = ready.durable; stands = stands }
opens_on d undo log s (Err e) ready stands = tt

-- a disk that takes an order has no new image, and the node goes on as it was
pub still_open : {D : Type 0} (undo : ℕ) (content : D → List ℕ) (images : D → List ℕ → Type 0) (old new : RecordLog D) (s : Stored) → (IsUsable content images old → IsUsable content images new) → (IsIntact old ↔ IsIntact new)
    → content (disk_of new) ≡ content (disk_of old) → AddsNone (images (disk_of old)) (images (disk_of new)) → IsOpenFor undo content images old s → IsOpenFor undo content images new s
still_open undo content images old new s usable intact same adds runs = record {
  usable = usable runs.usable;
  intact = intact.0 runs.intact;
  durable = λ image is. runs.durable image (adds image is) ∙ sym same;
  stands = subst (λ (bytes : List ℕ). StandsOn undo bytes s) (sym same) runs.stands;
}
