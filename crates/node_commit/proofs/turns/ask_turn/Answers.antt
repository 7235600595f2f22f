use Rattle.std.proofs.Common.{ap, subst}
use Rattle.std.specs.Prelude.{IfOk}
use Rattle.node_rules.specs.Turn.{ask_turn}
use Rattle.node_rules.specs.Recovery.{on_ask_kept}
use Rattle.node_memory.specs.Parts.{kept_in}
use Rattle.node_drafts.specs.Gives.{GivesDraft}
use Rattle.node_commit.proofs.PrepareLemmas.{for_each}
use Rattle.node_commit.proofs.turns.ask_turn.Goals as goal

pub returns-in-Kept-clause-gives : goal.returns-in-Kept-clause-gives
returns-in-Kept-clause-gives c =
    let k = kept_in c.args.memory.now in
    let row = c.in-Kept.row.now in
    subst (λ d. IfOk c.on_ask_kept.result (λ draft. GivesDraft d k draft)) (ap (ask_turn k c.args.from c.args.to) c.in-Kept.ensures.stand)
    (for_each c.on_ask_kept.result (λ draft j. GivesDraft (on_ask_kept j row c.args.from) j draft) k c.on_ask_kept.ensures)
