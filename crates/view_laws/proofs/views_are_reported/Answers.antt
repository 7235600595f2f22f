use Rattle.view_laws.proofs.ReportLemmas.{views_are_reported}
use Rattle.view_laws.proofs.views_are_reported.Goals as goal

pub returns : goal.returns
returns c = views_are_reported
