use Rattle.std.proofs.Common.{sym, ap, ◌∙◌}
use Rattle.std.specs.Option.{option_copied}
use Rattle.node_commit.proofs.LiveLemmas.{is_its, stays}
use Rattle.node_commit.proofs.looking.live_of.Goals as goal

pub returns-in-Some-clause-me : goal.returns-in-Some-clause-me
returns-in-Some-clause-me c = is_its c.args.memory.now.lives c.args.branch.now c.in-Some.live.now (sym (ap option_copied c.in-Some.is) ∙ c.live_at.ensures.live)

pub returns-in-Some-clause-stays : goal.returns-in-Some-clause-stays
returns-in-Some-clause-stays c = stays c.args.memory.now.lives c.args.branch.now c.in-Some.live.now (sym (ap option_copied c.in-Some.is) ∙ c.live_at.ensures.live)
