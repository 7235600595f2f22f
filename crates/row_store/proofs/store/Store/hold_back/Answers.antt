use Rattle.std.proofs.Common.{◌-◌, ◌≤◌, List, sym, ap, subst, ◌∙◌}
use Rattle.dtx_values.specs.declared.row.Change.{Change}
use Rattle.row_store.specs.declared.pending.Doubt.{Doubt}
use Rattle.row_store.specs.Own.{changes_length, extents}
use Rattle.row_store.specs.Pending.{undo_over}
use Rattle.row_store.specs.AllPlaced.{ArePlaced}
use Rattle.row_store.specs.TablePlaces.{rows_in}
use Rattle.tran_ids.specs.Branch.{put_by_branch}
use Rattle.row_store.specs.Store.{Contents, doubt_id, extents_free, used_extents, held_from}
use Rattle.row_store.proofs.ResultLaws.{by_result, on_ok}
use Rattle.row_store.proofs.HeldLaws.{HaveFor, contents_of, still_for, doubt_for}
use Rattle.row_store.proofs.store.Store.hold_back.Goals as goal

pub invariant_of-self : goal.invariant_of-self
invariant_of-self c = still_for c.self.inside.tables c.make_places.new.tables c.make_places.ensures.places c.self.inside.pending c.self.invariant

pub hold_back-requires-clause-room : goal.hold_back-requires-clause-room
hold_back-requires-clause-room c =
    let s = c.self.inside.pending in
    let room = subst (λ (t : Contents). extents (changes_length (undo_over t.rows c.args.changes)) ≤ extents_free t) (sym c.self.view_is) c.requires.room in
    subst (λ (us : List Change). extents (changes_length us) ≤ s.extents - used_extents s.owns s.doubts) (sym c.in_ok-made.ensures.undo) room

pub invariant_of-self-2 : goal.invariant_of-self-2
invariant_of-self-2 c =
    let tables = c.make_places.new.tables in
    let s = c.self.inside.pending in
    let have = still_for c.self.inside.tables tables c.make_places.ensures.places s c.self.invariant in
    let placed = subst (ArePlaced tables) (c.as_slice.ensures ∙ sym c.into_vec.ensures) c.in_ok-make_places.ensures.made in
    let d : Doubt = record { branch = c.args.branch.now; changes = c.into_vec.result.items; undo = c.in_ok-made.field-0.undo } in
    by_result c.hold_back.result c.hold_back.ensures.ok c.hold_back.ensures.err
    (λ now. subst (HaveFor tables) (sym now) (doubt_for tables s d have placed))
    (λ now. subst (HaveFor tables) (sym now) have)

pub returns-clause-ok : goal.returns-clause-ok
returns-clause-ok c =
    let b = c.args.branch.now in
    let s = c.self.inside.pending in
    let old = contents_of (rows_in c.self.inside.tables) s in
    let changes = c.into_vec.ensures ∙ c.in_ok-made.ensures.changes in
    on_ok c.hold_back.result c.hold_back.ensures.ok
    (λ now.
    (λ i. contents_of (c.in_ok-make_places.ensures.rows i) (now i))
    ∙ (λ i. let d : Doubt = record { branch = b; changes = changes i; undo = c.in_ok-made.ensures.undo i } in
    let t : Contents = record old { doubts = put_by_branch doubt_id s.doubts d } in t)
    ∙ ap (λ (t : Contents). held_from t b c.args.changes) c.self.view_is)
