-- A statement may come to the root of a transaction that has just begun.
use Rattle.node_calls.proofs.RootLaws.{takes_begun}
use Rattle.node_calls.proofs.beginning.statement_call.Goals as goal

pub statement_in-requires : goal.statement_in-requires
statement_in-requires c =
    takes_begun c.args.memory.now c.begin.new.memory c.args.session c.in-Some.root c.args.statement.now c.in_ok-begin.ensures.kept c.in_ok-begin.ensures.place (c.requires.takes c.in-Some.root)
