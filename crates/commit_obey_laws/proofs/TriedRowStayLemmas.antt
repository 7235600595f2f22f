-- The rows of the tried runs, by computation.
use Rattle.std.proofs.Common.{refl}
use Rattle.node_rules.specs.Force.{branch_to_force, purge}
use Rattle.net_bag.specs.Net.{lost}
use Rattle.commit_obey_laws.specs.TriedRowStay.{TheTriedRowStay}
use Rattle.tree_laws.proofs.Trying.{trying}

pub the_tried_row_stay : TheTriedRowStay
unfolding trying branch_to_force purge lost
the_tried_row_stay = record { sealed = refl; stays = refl; forgot = refl; goes = refl; hidden = refl; kept = refl; stays_kept = refl }
