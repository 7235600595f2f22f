-- What a turn tells is what was decided and written, and after it the node can take the next one.
use Rattle.std.proofs.Common.{refl, sym, subst}
use Rattle.std.specs.Prelude.{OnOk}
use Rattle.std.proofs.lemmas.Result.{on_ok_weaker}
use Rattle.record_log.specs.Log.{disk_of}
use Rattle.node_rules.specs.Data.{Place}
use Rattle.node_memory.specs.Parts.{stored_in}
use Rattle.node_disk.specs.OnDisk.{IsOpenFor}
use Rattle.node_disk.proofs.TurnLaws.{opens_on}
use Rattle.node_disk.proofs.CutLaws.{tells_if, written_if, ends_if, ends_undecided, takes_next, can_start}
use Rattle.node_disk.proofs.node.Node.turn.Goals as goal

pub returns-in-Ok-clause-told : goal.returns-in-Ok-clause-told
returns-in-Ok-clause-told g c =
    let turn = c.in-Ok.ensures in
    tells_if g.D.Disk c.write.result c.args.self.now _ c.args.incoming c.args.points.now c.in-Ok.effects c.write.ensures.same c.write.ensures.uncut turn.input turn.tells turn.passes turn.read

pub returns-in-Ok-clause-written : goal.returns-in-Ok-clause-written
returns-in-Ok-clause-written g c = written_if g.D.Disk c.write.result (disk_of c.args.self.now.log) (disk_of c.write.new.log) c.in-Ok.effects c.write.ensures.same c.write.ensures.written

pub returns-in-Ok-clause-next : goal.returns-in-Ok-clause-next
returns-in-Ok-clause-next g c =
    let d = g.D.Disk in
    let wrote = c.write.ensures in
    let undo = c.args.self.now.memory.place.undo in
    let before = stored_in c.args.self.now.memory in
    let after = stored_in c.decide.new.memory in
    takes_next d c.write.result _
    (subst (λ (p : Place). OnOk c.write.result (IsOpenFor p.undo d.content d.images c.write.new.log after)) (sym c.decide.ensures.place)
    (opens_on d undo c.write.new.log after c.write.result wrote.ready
    (on_ok_weaker c.write.result (λ all. all undo before after c.requires.running.stands c.in-Ok.ensures.follows c.in-Ok.ensures.stored) wrote.stands)))
    c.in-Ok.ensures.ready c.in-Ok.ensures.undo

pub returns-in-Ok-clause-ends_early : goal.returns-in-Ok-clause-ends_early
returns-in-Ok-clause-ends_early g c =
    let turn = c.in-Ok.ensures in
    let wrote = c.write.ensures in
    ends_if g.D.Disk c.write.result c.args.self.now _ _ c.args.incoming c.args.points.now c.in-Ok.effects turn.input turn.tells turn.passes wrote.cut wrote.stops wrote.leaves wrote.refused

pub returns-in-Err-clause-ends_early : goal.returns-in-Err-clause-ends_early
returns-in-Err-clause-ends_early g c = ends_undecided g.D.Disk c.args.self.now _ c.args.incoming c.args.points.now c.unserved.result c.unserved.ensures.why refl

-- and whatever it answers, a node can start from its disk
pub returns-in-Ok-clause-startable : goal.returns-in-Ok-clause-startable
returns-in-Ok-clause-startable g c =
    let d = g.D.Disk in
    can_start c.args.self.now.memory.place.undo d.content d.images d.moment d.images_since g.met.D.Disk.reads_an_image g.met.D.Disk.now_counts (disk_of c.args.self.now.log) (disk_of c.write.new.log)
    (c.write.ensures.any_start c.args.self.now.memory.place.undo (stored_in c.args.self.now.memory) c.requires.running.stands c.in-Ok.ensures.follows)

pub returns-in-Err-clause-startable : goal.returns-in-Err-clause-startable
returns-in-Err-clause-startable g c =
    let d = g.D.Disk in
    let disk = disk_of c.args.self.now.log in
    can_start c.args.self.now.memory.place.undo d.content d.images d.moment d.images_since g.met.D.Disk.reads_an_image g.met.D.Disk.now_counts disk disk (c.unserved.ensures.any_start c.args.self.now.memory.place.undo (stored_in c.args.self.now.memory) c.requires.running.stands)
