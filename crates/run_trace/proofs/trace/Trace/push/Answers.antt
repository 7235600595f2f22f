use Rattle.run_trace.proofs.RecordedLemmas.{recorded_push}
use Rattle.run_trace.proofs.trace.Trace.push.Goals as goal

pub invariant_of-self-in-Ok : goal.invariant_of-self-in-Ok
invariant_of-self-in-Ok c =
    rw (c.add.ensures, c.make_room.ensures.kept, c.in-Ok.ensures.entered)
    (recorded_push c.self.inside.places c.self.inside.asked c.self.inside.happenings.items c.self.inside.book.items c.args.happening c.self.invariant c.in-Ok.ensures.few (rw (← c.self.view_is) at c.requires))
