use Rattle.script_run.proofs.Headlines.{nothing_is_run}
use Rattle.script_run.proofs.outcome.Run.empty.Goals as goal

pub returns-clause-run : goal.returns-clause-run
returns-clause-run c = nothing_is_run c.laws_of_runs.ensures.lawful c.laws_of_runs.ensures.once c.laws_of_runs.ensures.views c.laws_of_runs.ensures.reported c.laws_of_runs.ensures.starts c.laws_of_runs.ensures.undoes c.laws_of_runs.ensures.knows c.laws_of_runs.ensures.meant c.laws_of_runs.ensures.reads c.laws_of_runs.ensures.comes c.laws_of_runs.ensures.tells c.laws_of_runs.ensures.ended c.laws_of_runs.ensures.caused c.laws_of_runs.ensures.commits c.laws_of_runs.ensures.completes c.laws_of_runs.ensures.obeys c.laws_of_runs.ensures.purged c.laws_of_runs.ensures.sites c.laws_of_runs.ensures.covers c.laws_of_runs.ensures.agrees c.laws_of_runs.ensures.marked c.laws_of_runs.ensures.later c.nothing.result c.nothing.ensures
