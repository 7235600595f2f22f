use Rattle.std.proofs.Common.{sym, subst}
use Rattle.node_drafts.specs.Gives.{GivesDraft}
use Rattle.node_commit.proofs.PrepareLemmas.{rest_is}
use Rattle.node_commit.proofs.preparing.rests.Goals as goal

pub returns : goal.returns
returns c = λ k b site_below. subst (λ d. GivesDraft d k c.nothing.result) (sym (rest_is k b site_below)) (c.nothing.ensures.gives k)
