use Rattle.node_memory.specs.Parts.{kept_in}
use Rattle.node_memory.specs.Versions.{versions_as}
use Rattle.node_memory.proofs.StartLaws.{record_taken}
use Rattle.node_memory.proofs.memory.Memory.take_in.Goals as goal

pub returns-clause-kept : goal.returns-clause-kept
returns-clause-kept c =
    record_taken (kept_in c.args.self.now) (kept_in c.apply.new.self) c.args.redo.now (versions_as c.add_version.new.versions) c.change_locks.new.locks c.in_ok-add_version.ensures
    c.in_ok-apply.ensures.kept c.in_ok-change_locks.ensures
