use Rattle.stmt_view_laws.proofs.AgreeLemmas.{changes_keep_agreement}
use Rattle.stmt_view_laws.proofs.OrderLemmas.{changes_keep_order}
use Rattle.stmt_view_laws.proofs.changes_keep_views.Goals as goal

pub returns-clause-agreement : goal.returns-clause-agreement
returns-clause-agreement c = changes_keep_agreement

pub returns-clause-order : goal.returns-clause-order
returns-clause-order c = changes_keep_order
