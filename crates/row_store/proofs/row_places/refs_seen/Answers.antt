use Rattle.std.proofs.Common.{◌≡◌, sym, ap, subst, ◌∙◌}
use Rattle.std.specs.Prelude.{IfOk}
use Rattle.std.specs.Option.{option_copied}
use Rattle.row_store.specs.ByBranch.{changes_kept}
use Rattle.row_store.specs.Places.{rows_at}
use Rattle.row_store.specs.TablePlaces.{left_by}
use Rattle.row_store.proofs.ScanLaws.{same_left}
use Rattle.row_store.proofs.row_places.refs_seen.Goals as goal

pub returns-in-None-clause-rows : goal.returns-in-None-clause-rows
returns-in-None-clause-rows c =
    let table = c.args.table.now in
    let ps = c.args.places.now in
    subst (λ all. IfOk c.refs.result (λ rows. rows.items ≡ all))
    (ap rows_at (same_left table ps) ∙ ap (λ own. rows_at (left_by table (changes_kept (option_copied own)) ps)) (sym c.in-None.is))
    c.refs.ensures.rows
