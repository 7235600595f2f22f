use Rattle.run_number_laws.proofs.LimitLemmas.{each_starts_seldom}
use Rattle.run_number_laws.proofs.each_starts_seldom.Goals as goal

pub returns : goal.returns
returns c = each_starts_seldom c.the_run_is_lawful.ensures c.starts_are_counted.ensures c.numbers_are_within.ensures.disks
