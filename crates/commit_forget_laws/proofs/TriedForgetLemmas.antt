-- The forget phase of the tried run, by computation.
use Rattle.std.proofs.Common.{refl}
use Rattle.commit_forget_laws.specs.TriedForget.{TheTriedForget}
use Rattle.tree_laws.proofs.Trying.{trying}

pub the_tried_forget : TheTriedForget
unfolding trying
the_tried_forget = record { beyond_a = refl; beyond_b = refl; acked = refl; forgot = refl; told = refl; waits = refl; gone = refl }
