use Rattle.commit_forget_laws.proofs.TriedForgetLemmas.{the_tried_forget}
use Rattle.commit_forget_laws.proofs.the_tried_forget.Goals as goal

pub returns : goal.returns
returns c = the_tried_forget
