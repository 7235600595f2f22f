use Rattle.std.proofs.Common.{sym, subst}
use Rattle.std.specs.Prelude.{IfOk}
use Rattle.session_tree.specs.declared.act.Act.{Act}
use Rattle.node_memory.specs.Parts.{kept_in}
use Rattle.node_rules.specs.Prepare.{act_turn}
use Rattle.node_drafts.specs.Gives.{GivesDraft}
use Rattle.node_commit.specs.Branches.{at_live}
use Rattle.node_commit.proofs.PrepareLemmas.{for_each}
use Rattle.node_commit.proofs.preparing.act_turn.Goals as goal

pub returns-in-Rest-clause-gives : goal.returns-in-Rest-clause-gives
returns-in-Rest-clause-gives c =
    let k = kept_in c.args.memory.now in
    subst (λ (a : Act). GivesDraft (at_live k c.args.branch.now (λ l. act_turn k l c.args.site_below a)) k c.rests.result) (sym c.in-Rest.is) (c.rests.ensures k c.args.branch.now c.args.site_below)

pub returns-in-SayReady-clause-gives : goal.returns-in-SayReady-clause-gives
returns-in-SayReady-clause-gives c =
    let k = kept_in c.args.memory.now in
    subst (λ (a : Act). IfOk c.says_ready.result (λ draft. GivesDraft (at_live k c.args.branch.now (λ l. act_turn k l c.args.site_below a)) (kept_in c.says_ready.new.memory) draft)) (sym c.in-SayReady.is)
    (for_each c.says_ready.result _ c.args.site_below c.says_ready.ensures.gives)
