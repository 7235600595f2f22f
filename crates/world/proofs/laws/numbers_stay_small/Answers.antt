use Rattle.world.proofs.NeedLemmas.{starts_few}
use Rattle.world.proofs.laws.numbers_stay_small.Goals as goal

pub returns-clause-starts : goal.returns-clause-starts
returns-clause-starts c = starts_few c.each_starts_seldom.ensures
