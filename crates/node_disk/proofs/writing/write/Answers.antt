-- While the record of a turn is written a node can start from the disk, and after the turn the disk's records say what the node
-- stores.
use Rattle.record_log.specs.Log.{disk_of}
use Rattle.node_disk.proofs.TurnLaws.{startable_while, stands_next}
use Rattle.node_disk.proofs.writing.write.Goals as goal

pub returns-in-Ok-clause-any_start : goal.returns-in-Ok-clause-any_start
returns-in-Ok-clause-any_start g c undo s stands next =
    let d = g.D.Disk in
    let old = disk_of c.args.log.now in
    startable_while d.moment d.images_since c.records_follow.ensures.acks c.records_fit_doubts.ensures.acks undo old (disk_of c.put.new.log) (d.content old) s c.args.effects.wrote stands next c.put.ensures.any_moment

pub returns-in-Ok-clause-stands : goal.returns-in-Ok-clause-stands
returns-in-Ok-clause-stands g c undo s t stands next stores =
    let d = g.D.Disk in
    stands_next c.records_follow.ensures.acks c.records_fit_doubts.ensures.acks undo (d.content (disk_of c.args.log.now)) (d.content (disk_of c.put.new.log)) s t c.args.effects.wrote stands next stores c.in-Ok.ensures.written.stored

pub returns-in-Err-Cut-clause-any_start : goal.returns-in-Err-Cut-clause-any_start
returns-in-Err-Cut-clause-any_start g c undo s stands next =
    let d = g.D.Disk in
    let old = disk_of c.args.log.now in
    startable_while d.moment d.images_since c.records_follow.ensures.acks c.records_fit_doubts.ensures.acks undo old (disk_of c.put.new.log) (d.content old) s c.args.effects.wrote stands next c.put.ensures.any_moment

pub returns-in-Err-NoMemory-clause-any_start : goal.returns-in-Err-NoMemory-clause-any_start
returns-in-Err-NoMemory-clause-any_start g c undo s stands next =
    let d = g.D.Disk in
    let old = disk_of c.args.log.now in
    startable_while d.moment d.images_since c.records_follow.ensures.acks c.records_fit_doubts.ensures.acks undo old (disk_of c.put.new.log) (d.content old) s c.args.effects.wrote stands next c.put.ensures.any_moment
