use Rattle.commit_obey_laws.proofs.RowStayLemmas.{every_sealed_row_stays}
use Rattle.commit_obey_laws.proofs.every_sealed_row_stays.Goals as goal

pub returns : goal.returns
returns c = every_sealed_row_stays
