use Rattle.std.proofs.Common.{sym, subst, ◌∙◌}
use Rattle.std.specs.Prelude.{IfOk}
use Rattle.node_memory.specs.Parts.{kept_in}
use Rattle.node_rules.specs.NodeState.{live_at}
use Rattle.node_drafts.specs.Gives.{GivesDraft}
use Rattle.node_commit.proofs.PrepareLemmas.{answer_by, is_there}
use Rattle.node_commit.proofs.preparing.hears.Goals as goal

pub returns-in-None-clause-gives : goal.returns-in-None-clause-gives
returns-in-None-clause-gives c = absurd (is_there _ _ (live_at (kept_in c.args.memory.now) c.args.branch.now) _ c.requires.collecting (sym c.in-None.is ∙ c.counts.ensures.act))

pub returns-in-Some-clause-gives : goal.returns-in-Some-clause-gives
returns-in-Some-clause-gives c =
    subst (λ d. IfOk c.act_turn.result (λ draft. GivesDraft d (kept_in c.act_turn.new.memory) draft))
    (answer_by (kept_in c.args.memory.now) (kept_in c.counts.new.memory) c.args.branch.now c.args.site_below c.args.from.now c.args.vote c.in-Some.act c.counts.ensures.kept c.requires.collecting (sym c.in-Some.is ∙ c.counts.ensures.act))
    c.act_turn.ensures.gives
