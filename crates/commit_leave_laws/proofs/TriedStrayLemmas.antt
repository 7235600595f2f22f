-- The tried runs, by computation.
use Rattle.std.proofs.Common.{refl}
use Rattle.net_bag.specs.Net.{stopped, started}
use Rattle.run_rules.specs.Births.{births_from}
use Rattle.commit_leave_laws.specs.TriedStray.{TheTriedStray}
use Rattle.tree_laws.proofs.Trying.{trying}

pub the_tried_stray : TheTriedStray
unfolding trying stopped started births_from
the_tried_stray = record { once = refl; no_other = refl; asked = refl; waits = refl; live = refl; still_waits = refl; kept = refl; ends = refl; gone = refl; two = refl; one_open = refl }
