use Rattle.std.proofs.Common.{map, ap, ◌∙◌}
use Rattle.world_parts.specs.Shown.{disk_reported}
use Rattle.world.proofs.RanLemmas.{is_ran}
use Rattle.world.proofs.world.World.into_ran.Goals as goal

pub returns-clause-ran : goal.returns-clause-ran
returns-clause-ran c =
    let told = c.into_recorded.ensures in
    is_ran c.args.self (record { recorded = c.into_recorded.result; answers = c.with_disks-answers.result; ended = c.args.ended; pending = c.args.pending })
    told.places told.asked told.happenings told.book told.run
    (c.with_disks-answers.ensures ∙ ap (map (disk_reported c.args.self.shown)) c.into_lines.ensures) c.requires.left c.requires.pending
