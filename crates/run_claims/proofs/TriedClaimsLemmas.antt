-- What the tried claims are, by computation.
use Rattle.std.proofs.Common.{refl}
use Rattle.run_claims.specs.Recorded.{A_commit}
use Rattle.run_claims.specs.TriedClaims.{TheTriedClaims}

pub the_tried_claims : TheTriedClaims
the_tried_claims = record {
  commit = λ comment. refl;
  force = λ id scn. refl;
  learned = λ b d. refl;
  forced = λ b d given. refl;
  later = λ p k id b is. A_commit id b is;
  lost = λ k well. well;
  stopped = λ n well. well;
  delivered = refl;
}
