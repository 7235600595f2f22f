-- A disk that is left alone has the images of now.
use Rattle.redo_log.proofs.Moments.{started}
use Rattle.node_disk.proofs.writing.stands_still.Goals as goal

pub returns : goal.returns
returns g c =
    let d = g.D.Disk in
    started d.moment d.images_since c.args.disk.now (d.images c.args.disk.now) (g.met.D.Disk.only_now c.args.disk.now)
