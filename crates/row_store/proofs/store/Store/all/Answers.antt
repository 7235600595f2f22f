use Rattle.std.proofs.Common.{◌≡◌, [], sym, ap, subst, ◌∙◌, rules}
use Rattle.std.specs.Prelude.{IfOk}
use Rattle.row_store.specs.Pending.{changes_of}
use Rattle.row_store.specs.Places.{rows_at}
use Rattle.row_store.specs.TablePlaces.{left_by}
use Rattle.row_store.specs.Store.{sets_at, seen_by}
use Rattle.row_store.proofs.StoreLaws.{placed_at}
use Rattle.row_store.proofs.ScanLaws.{seen_left, none_seen}
use Rattle.row_store.proofs.store.Store.all.Goals as goal

pub returns-in-Some : goal.returns-in-Some
returns-in-Some c =
    let b = c.args.branch.now in
    let table = c.args.table.now in
    let owns = c.self.inside.pending.owns in
    let tables = c.self.inside.tables in
    let ps = c.in-Some.places.now in
    let cs = changes_of (sets_at owns b) in
    subst (λ all. IfOk c.refs_seen.result (λ rows. rows.items ≡ all))
    (ap (λ own. rows_at (left_by table own ps)) c.sets.ensures
    ∙ seen_left tables table cs ps (sym c.in-Some.ensures) c.refs_seen.ensures.rising (placed_at tables owns b c.self.invariant.own)
    ∙ ap (λ s. seen_by s b table) c.self.view_is)
    c.refs_seen.ensures.rows

pub returns-in-None : goal.returns-in-None
returns-in-None c =
    let b = c.args.branch.now in
    let table = c.args.table.now in
    let owns = c.self.inside.pending.owns in
    let tables = c.self.inside.tables in
    let cs = changes_of (sets_at owns b) in
    let none : c.new.result.items ≡ [] = search rules in
    none ∙ none_seen tables table cs (sym c.in-None.ensures) (placed_at tables owns b c.self.invariant.own) ∙ ap (λ s. seen_by s b table) c.self.view_is
