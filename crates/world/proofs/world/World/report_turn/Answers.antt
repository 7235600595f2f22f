use Rattle.std.proofs.Common.{refl}
use Rattle.std.proofs.lemmas.Result.{on_ok_weaker}
use Rattle.run_report.specs.Facts.{ReportsTurn}
use Rattle.world.proofs.TurnLeftLemmas.{turn_still}
use Rattle.world.proofs.world.World.report_turn.Goals as goal

pub returns-clause-told : goal.returns-clause-told
returns-clause-told c =
    on_ok_weaker c.turn-told.result
    (λ (tells : ReportsTurn c.args.facts c.args.self.now.running c.args.self.now.run_report c.args.turn c.turn-told.new.self).
    record { tells = tells; trace = c.in_ok-push.ensures.ok; past = c.in_ok-push.ensures.past; few = c.in_ok-push.ensures.few }) c.turn-told.ensures.tells

pub returns-clause-left : goal.returns-clause-left
returns-clause-left c =
    λ still. turn_still c.args.self.now _ c.turn-told.ensures.before refl still c.args.turn c.in_ok-push.ensures.ok c.in_ok-push.ensures.past
