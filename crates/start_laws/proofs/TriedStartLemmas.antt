-- The two starts of the tried run, by computation.
use Rattle.std.proofs.Common.{refl}
use Rattle.net_bag.specs.Net.{stopped, started}
use Rattle.start_laws.specs.TriedStart.{TheTriedStart}
use Rattle.tree_laws.proofs.Trying.{trying}

pub the_tried_start : TheTriedStart
unfolding trying stopped started
the_tried_start = record { doubter = refl; row_in_doubt = refl; lock = refl; kept = refl; settled = refl; book = refl; row = refl; free = refl }
