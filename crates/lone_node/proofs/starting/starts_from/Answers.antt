-- A node that started from low records can take turns in a test.
use Rattle.std.proofs.Common.{ℕ, sym, subst, arith}
use Rattle.node_disk.specs.Starts.{CanBeStarted}
use Rattle.lone_node.specs.Played.{bytes_of, images_of}
use Rattle.lone_node.proofs.StartLemmas.{started_alone}
use Rattle.lone_node.proofs.starting.starts_from.Goals as goal

pub start-requires-clause-undo : goal.start-requires-clause-undo
start-requires-clause-undo c = let extents = c.requires.small.extents in omega (arith, extents)

pub start-requires-clause-startable : goal.start-requires-clause-startable
start-requires-clause-startable c = subst (λ (n : ℕ). CanBeStarted n bytes_of images_of c.args.disk) (sym c.requires.small.extents) c.requires.starts

pub returns-in-Ok : goal.returns-in-Ok
returns-in-Ok c =
    let started = c.in-Ok.ensures.started c.args.records.now c.requires.held in
    started_alone c.messages_fit.ensures.starts c.args.place c.args.records.now c.in-Ok.node c.requires.low c.requires.small started.kept started.place_is
    started.next.running started.next.ready started.next.undo c.in-Ok.ensures.startable
