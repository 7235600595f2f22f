-- A turn passes the places that were ahead of the branch that its input is about.
use Rattle.node_disk.proofs.PassLaws.{passed_so}
use Rattle.node_disk.proofs.deciding.passed_by.Goals as goal

pub returns : goal.returns
returns c = λ p k new fit foresees serves.
    passed_so c.turns_are_of_their_branch.ensures p k new c.args.input.now c.args.served.now c.args.ahead.now c.passed.result c.as_slice.result.now c.as_slice.ensures fit foresees serves (c.passed.ensures k)
