use Rattle.link_session.proofs.Entries.{distinct_are}
use Rattle.link_session.proofs.opens.Opens.new.Goals as goal

pub invariant_of-result : goal.invariant_of-result
invariant_of-result c = distinct_are c.new.result.entries c.new.ensures.unique
