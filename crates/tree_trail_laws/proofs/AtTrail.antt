-- The trail at a turn of a run: as it comes, with its branch begun, and after it. A proof opens the parts that it speaks of.
use Rattle.std.proofs.Common.{List}
use Rattle.run_rules.specs.Branches.{Trail}
use Rattle.run_rules.specs.Data.{Happening, Turn}
use Rattle.run_rules.specs.Data.happenings
use Rattle.run_rules.specs.Lawful.{History}
use Rattle.run_rules.specs.Trail.{trail_after}
use Rattle.tree_laws.proofs.PrefixLemmas.{f_at}
use Rattle.tree_trail_laws.proofs.MomentLemmas.{tr_at}
use Rattle.tree_trail_laws.proofs.SeenLemmas.{begun}

pub record AtTrail : Type 0 where
  pub tr : Trail
  pub begun_tr : Trail
  pub tr_on : Trail

abbrev pub at_trail : History → List Happening → Turn → AtTrail
at_trail t hs u = record { tr = tr_at t hs; begun_tr = begun t.places (f_at t hs) (tr_at t hs) u; tr_on = trail_after t.places (f_at t hs) (tr_at t hs) (happenings.Turn u) }
