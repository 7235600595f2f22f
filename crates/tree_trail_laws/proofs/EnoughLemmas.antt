-- What is told of live branches is enough for the laws of decisions and of records.
use Rattle.tree_trail_laws.specs.SeenLaws.{SeenIsEnough}
use Rattle.tree_trail_laws.proofs.FullLemmas.{full}
use Rattle.tree_trail_laws.proofs.OwnLemmas.{records_have_own}
use Rattle.tree_trail_laws.proofs.SiteLemmas.{site_decides, decisions_cover}

pub seen_is_enough : SeenIsEnough
seen_is_enough t lawful sees = (site_decides t lawful (full t lawful sees), decisions_cover t lawful (full t lawful sees), records_have_own t lawful (full t lawful sees))
