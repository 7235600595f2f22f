use Rattle.std.proofs.Common.{◌-◌, ◌≤◌, List, [], ◌∷◌, ◌++◌, length, sym, ap, subst, ◌∙◌}
use Rattle.std.proofs.lemmas.List.{length-map}
use Rattle.dtx_values.specs.declared.row.Change.{Change}
use Rattle.row_store.specs.declared.pending.ChangeSet.{ChangeSet}
use Rattle.row_store.specs.Own.{before}
use Rattle.row_store.specs.AllPlaced.{ArePlaced}
use Rattle.row_store.specs.Store.{Contents, sets_at, seen_by, extents_of_sets, extents_free, with_set}
use Rattle.row_store.proofs.ResultLaws.{by_result, on_ok}
use Rattle.row_store.proofs.HeldLaws.{HaveFor, contents_of, still_for, more_for}
use Rattle.row_store.proofs.store.Store.take.Goals as goal

pub invariant_of-self : goal.invariant_of-self
invariant_of-self c = still_for c.self.inside.tables c.make_places.new.tables c.make_places.ensures.places c.self.inside.pending c.self.invariant

pub push-requires-clause-even : goal.push-requires-clause-even
push-requires-clause-even c =
    let b = c.args.branch.now in
    ap length c.requires.undo ∙ length-map c.args.changes (λ (d : Change). before (seen_by c.args.self.now b d.table) d)

pub push-requires-clause-room : goal.push-requires-clause-room
push-requires-clause-room c =
    let b = c.args.branch.now in
    let s = c.args.self.now in
    let sets = sets_at s.owns b in
    let cs = c.args.changes in
    let set : ChangeSet = record { changes = cs; undo = c.args.undo.now } in
    let room =
    subst (λ (us : List Change). extents_of_sets (sets ++ (record { changes = cs; undo = us }) ∷ []) - extents_of_sets sets ≤ extents_free s) (sym c.requires.undo) c.requires.room in
    subst (λ (t : Contents). extents_of_sets (sets_at t.owns b ++ set ∷ []) - extents_of_sets (sets_at t.owns b) ≤ extents_free t) (sym c.self.view_is) room

pub invariant_of-self-2 : goal.invariant_of-self-2
invariant_of-self-2 c =
    let tables = c.make_places.new.tables in
    let s = c.self.inside.pending in
    let set : ChangeSet = record { changes = c.args.changes; undo = c.args.undo.now } in
    let have = still_for c.self.inside.tables tables c.make_places.ensures.places s c.self.invariant in
    let placed = subst (ArePlaced tables) c.as_slice.ensures c.in_ok-make_places.ensures.made in
    by_result c.push.result c.push.ensures.ok c.push.ensures.err
    (λ now. subst (HaveFor tables) (sym now) (more_for tables s c.args.branch.now set have placed))
    (λ now. subst (HaveFor tables) (sym now) have)

pub returns-clause-ok : goal.returns-clause-ok
returns-clause-ok c =
    let b = c.args.branch.now in
    let s = c.args.self.now in
    let cs = c.args.changes in
    let set : ChangeSet = record { changes = cs; undo = c.args.undo.now } in
    on_ok c.push.result c.push.ensures.ok
    (λ now.
    (λ i. contents_of (c.in_ok-make_places.ensures.rows i) (now i))
    ∙ ap (λ (t : Contents). record t { owns = with_set t.owns b set }) c.self.view_is
    ∙ ap (λ (us : List Change). record s { owns = with_set s.owns b (record { changes = cs; undo = us }) }) c.requires.undo)
