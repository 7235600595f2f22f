use Rattle.std.proofs.Common.{subst}
use Rattle.row_store.specs.Pending.{changes_of}
use Rattle.row_store.specs.Store.{sets_at, own_changes, AreOfTables}
use Rattle.row_store.proofs.StoreLaws.{placed_at}
use Rattle.row_store.proofs.HeldLaws.{of_tables}
use Rattle.row_store.proofs.store.Store.own.Goals as goal

pub returns-in-Some-clause-tables : goal.returns-in-Some-clause-tables
returns-in-Some-clause-tables c =
    let b = c.args.branch.now in
    let owns = c.self.inside.pending.owns in
    let tables = c.self.inside.tables in
    subst (λ s. AreOfTables s.rows (own_changes s b)) c.self.view_is (of_tables tables (changes_of (sets_at owns b)) (placed_at tables owns b c.self.invariant.own))

pub returns-in-None-clause-tables : goal.returns-in-None-clause-tables
returns-in-None-clause-tables c =
    let b = c.args.branch.now in
    let owns = c.self.inside.pending.owns in
    let tables = c.self.inside.tables in
    subst (λ s. AreOfTables s.rows (own_changes s b)) c.self.view_is (of_tables tables (changes_of (sets_at owns b)) (placed_at tables owns b c.self.invariant.own))
