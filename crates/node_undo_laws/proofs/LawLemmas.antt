-- Each turn of a ready node keeps its undo, and its record fits beside the branches in doubt.
use Rattle.std.proofs.Common.{Option, Some, None, arith}
use Rattle.std.specs.Prelude.{IfSome}
use Rattle.node_rules.specs.Data.{RedoRecord, Input}
use Rattle.node_rules.specs.Data.inputs
use Rattle.node_rules.specs.Data.records
use Rattle.node_rules.specs.Records.{doubt_over}
use Rattle.node_rules.specs.NodeState.{NodeState}
use Rattle.node_rules.specs.Turn.{heard, turn_of}
use Rattle.node_rules.specs.Data.{Place}
use Rattle.node_rules.proofs.TurnLemmas.{step_of}
use Rattle.node_ready_laws.specs.Rows.{HasRows}
use Rattle.node_ready_laws.proofs.IdStepLemmas.{ids_heard}
use Rattle.node_undo_laws.specs.Keys.{ChangesFreeKeys}
use Rattle.node_undo_laws.specs.Kept.{HasUndo}
use Rattle.node_undo_laws.specs.Fits.{FitsDoubts}
use Rattle.node_undo_laws.specs.Laws.{TurnsKeepUndo, RecordsFitDoubts, NeedsNoMore, RecordsNeedNoMore, SealsWithItsUndo, SealsKeepUndo, SealsHaveRoom, AcksDoNotMatter}
use Rattle.node_undo_laws.proofs.ChangedLemmas.{changes_on}
use Rattle.node_undo_laws.proofs.FreeLemmas.{step_free}
use Rattle.node_undo_laws.proofs.KeyStepLemmas.{keys_on}
use Rattle.node_undo_laws.proofs.SeeLemmas.{apart_of, sees_rows}
use Rattle.node_undo_laws.proofs.UndoStepLemmas.{undo_on, space_on, seal_on, even_on}
use Rattle.node_undo_laws.proofs.RoomLemmas.{doubts_with}

-- ---- what a node hears changes none of this

rows_heard : (k : NodeState) (input : Input) → HasRows k → HasRows (heard k input)
rows_heard k (inputs.Message m) now = now
rows_heard k _ now = now

undo_heard : (p : Place) (k : NodeState) (input : Input) → HasUndo p k → HasUndo p (heard k input)
undo_heard p k (inputs.Message m) now = record { lives = now.lives; keys = now.keys; stands = now.stands; even = now.even }
undo_heard p k (inputs.Call n s) now = now
undo_heard p k (inputs.GiveUp n) now = now
undo_heard p k inputs.Reco now = now
undo_heard p k inputs.Checkpoint now = now

free_heard : (k : NodeState) (input : Input) (w : Option RedoRecord) → IfSome w (ChangesFreeKeys (heard k input).stored.doubts) → IfSome w (ChangesFreeKeys k.stored.doubts)
free_heard k (inputs.Message m) w is = is
free_heard k (inputs.Call n s) w is = is
free_heard k (inputs.GiveUp n) w is = is
free_heard k inputs.Reco w is = is
free_heard k inputs.Checkpoint w is = is

space_heard : (k : NodeState) (input : Input) (w : Option RedoRecord) → IfSome w (NeedsNoMore (heard k input)) → IfSome w (NeedsNoMore k)
space_heard k (inputs.Message m) w is = is
space_heard k (inputs.Call n s) w is = is
space_heard k (inputs.GiveUp n) w is = is
space_heard k inputs.Reco w is = is
space_heard k inputs.Checkpoint w is = is

seal_heard : (k : NodeState) (input : Input) (w : Option RedoRecord) → IfSome w (SealsWithItsUndo (heard k input)) → IfSome w (SealsWithItsUndo k)
seal_heard k input None is = tt
seal_heard k (inputs.Message m) (Some (records.Sealed r)) is = is
seal_heard k (inputs.Call n s) (Some (records.Sealed r)) is = is
seal_heard k (inputs.GiveUp n) (Some (records.Sealed r)) is = is
seal_heard k inputs.Reco (Some (records.Sealed r)) is = is
seal_heard k inputs.Checkpoint (Some (records.Sealed r)) is = is
seal_heard k input (Some _) is = tt

-- ---- turns

pub turns_keep_undo : TurnsKeepUndo
unfolding turn_of
turns_keep_undo p k input fit rows ids now =
    let step = step_of p k input fit in
    let there = rows_heard k input rows in
    let own = ids_heard k input ids in
    let here = undo_heard p k input now in
    record {
      lives = changes_on p input step here.lives;
      keys = keys_on p input step (sees_rows (heard k input) there) here.lives (apart_of (heard k input) own) here.keys;
      stands = undo_on p input step there own here.lives here.keys here.stands here.even;
      even = even_on p input step here.even;
    }

pub records_need_no_more : RecordsNeedNoMore
unfolding turn_of
records_need_no_more p k input fit now = space_heard k input _ (space_on p input (step_of p k input fit) (undo_heard p k input now).stands)

pub seals_keep_undo : SealsKeepUndo
unfolding turn_of
seals_keep_undo p k input fit now = seal_heard k input _ (seal_on p input (step_of p k input fit) (undo_heard p k input now).stands)

pub seals_have_room : SealsHaveRoom
seals_have_room undo s r fits = let more = doubts_with s.doubts (doubt_over s.rows r) in let room = fits.room in omega (arith, more, room)

fits_by : (p : Place) (k : NodeState) (w : Option RedoRecord) → HasUndo p k → IfSome w (ChangesFreeKeys k.stored.doubts) → IfSome w (NeedsNoMore k) → IfSome w (FitsDoubts p.undo k.stored)
fits_by p k None now free less = tt
fits_by p k (Some r) now free less = record { free = free; room = omega (arith, less, now.stands.room) }

pub records_fit_doubts : RecordsFitDoubts
unfolding turn_of
records_fit_doubts p k input fit ids now =
    fits_by p k _ now
    (free_heard k input _ (step_free p input (step_of p k input fit) (apart_of (heard k input) (ids_heard k input ids)) (undo_heard p k input now).keys))
    (records_need_no_more p k input fit now)

pub acks_do_not_matter : AcksDoNotMatter
acks_do_not_matter undo s kept r fits = record { free = fits.free; room = fits.room }
