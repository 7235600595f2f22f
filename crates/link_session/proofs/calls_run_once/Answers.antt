use Rattle.link_session.proofs.OnceLemmas.{run_once}
use Rattle.link_session.proofs.calls_run_once.Goals as goal

pub returns : goal.returns
returns c = run_once
