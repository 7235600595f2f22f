use Rattle.std.proofs.Common.{◌≡◌, List, sym, ap, subst, ◌∙◌}
use Rattle.tran_ids.specs.Branch.{put_by_branch}
use Rattle.tran_ids.specs.Listed.{drop_item}
use Rattle.dtx_values.specs.declared.row.Change.{Change}
use Rattle.row_store.specs.Pending.{undo_of, undo_over}
use Rattle.row_store.specs.TablePlaces.{rows_in}
use Rattle.row_store.specs.Store.{Contents, own_id, doubt_id, own_changes, sets_at, sealed_doubt}
use Rattle.row_store.proofs.ResultLaws.{by_result, on_ok}
use Rattle.row_store.proofs.HeldLaws.{HaveFor, contents_of, seal_for}
use Rattle.row_store.proofs.store.Store.seal.Goals as goal

pub invariant_of-self : goal.invariant_of-self
invariant_of-self c =
    let tables = c.self.inside.tables in
    by_result c.seal.result c.seal.ensures.ok c.seal.ensures.err
    (λ now. subst (HaveFor tables) (sym now) (seal_for tables c.self.inside.pending c.args.branch.now c.self.invariant))
    (λ now. subst (HaveFor tables) (sym now) c.self.invariant)

pub returns-clause-ok : goal.returns-clause-ok
returns-clause-ok c =
    let b = c.args.branch.now in
    let s = c.args.self.now in
    let rows = rows_in c.self.inside.tables in
    let undo : undo_of (sets_at s.owns b) ≡ undo_over s.rows (own_changes s b) = c.requires.undo in
    on_ok c.seal.result c.seal.ensures.ok
    (λ now.
    ap (contents_of rows) now
    ∙ ap (λ (t : Contents). record t { owns = drop_item own_id t.owns b; doubts = put_by_branch doubt_id t.doubts (sealed_doubt t.owns b) }) c.self.view_is
    ∙ ap (λ (us : List Change). record s { owns = drop_item own_id s.owns b; doubts = put_by_branch doubt_id s.doubts (record { branch = b; changes = own_changes s b; undo = us }) }) undo)
