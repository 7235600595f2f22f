use Rattle.run_claims.proofs.TriedClaimsLemmas.{the_tried_claims}
use Rattle.run_claims.proofs.the_tried_claims.Goals as goal

pub returns : goal.returns
returns c = the_tried_claims
