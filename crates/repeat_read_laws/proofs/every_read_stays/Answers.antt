use Rattle.repeat_read_laws.proofs.BetweenLemmas.{every_read_stays}
use Rattle.repeat_read_laws.proofs.every_read_stays.Goals as goal

pub returns : goal.returns
returns c = every_read_stays
