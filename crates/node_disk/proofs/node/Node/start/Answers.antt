-- While a node starts, a crash at any moment leaves a disk to start from, and so does the start; a fault leaves what the plan says.
use Rattle.std.proofs.Common.{List, inr, sym, subst, ◌∙◌}
use Rattle.redo_log.specs.Plans.{append_calls, load_calls}
use Rattle.record_log.specs.Calls.{NotLoaded}
use Rattle.record_log.specs.declared.err.LoadWhy.{LoadWhy}
use Rattle.record_log.specs.Held.{GrowsByPlan}
use Rattle.record_log.specs.Log.{disk_of as disk_of_log}
use Rattle.node_rules.specs.Data.{RedoRecord, Place}
use Rattle.node_disk.specs.Starts.{MayBeHad, CanBeStarted, next_boot}
use Rattle.node_disk.specs.OnDisk.{disk_of}
use Rattle.node_disk.specs.Calls.{HasRestarted}
use Rattle.node_disk.proofs.StartLaws.{had_of, startable_loaded, startable_again, left_loading, left_writing}
use Rattle.node_disk.proofs.CutLaws.{can_start, starts_running}
use Rattle.redo_log.proofs.PlanLaws.{run_untouched, run_over, fault_over, fault_early}
use Rattle.node_disk.proofs.node.Node.start.Goals as goal

pub begin_again-requires-clause-had : goal.begin_again-requires-clause-had
begin_again-requires-clause-had g c =
    let d = g.D.Disk in
    subst (MayBeHad c.args.place.undo) (sym c.as_slice.ensures) (had_of c.args.place.undo d.content d.images c.args.disk c.in-Ok.records c.requires.startable c.in-Ok.ensures.loaded.only)

pub returns-in-Ok-begin_again-clause-any_moment : goal.returns-in-Ok-begin_again-clause-any_moment
returns-in-Ok-begin_again-clause-any_moment g c =
    let d = g.D.Disk in
    startable_again c.args.place.undo d.moment d.images_since c.args.disk (disk_of_log c.in-Ok.log) (disk_of c.in-Ok-begin_again.node) (d.images c.args.disk) c.requires.startable.crashed c.in-Ok.ensures.read.any_moment
    c.in-Ok-begin_again.ensures.startable

pub returns-in-Err-begin_again-clause-any_moment : goal.returns-in-Err-begin_again-clause-any_moment
returns-in-Err-begin_again-clause-any_moment g c =
    let d = g.D.Disk in
    startable_again c.args.place.undo d.moment d.images_since c.args.disk (disk_of_log c.in-Ok.log) c.in-Err-begin_again.err.disk (d.images c.args.disk) c.requires.startable.crashed c.in-Ok.ensures.read.any_moment
    c.in-Err-begin_again.ensures.startable

pub returns-in-Err-clause-any_moment : goal.returns-in-Err-clause-any_moment
returns-in-Err-clause-any_moment g c =
    let d = g.D.Disk in
    startable_loaded c.args.place.undo d.moment d.images_since c.args.disk c.in-Err.field-0.disk (d.images c.args.disk) c.requires.startable.crashed c.in-Err.ensures.read.any_moment

pub returns-in-Ok-begin_again-clause-startable : goal.returns-in-Ok-begin_again-clause-startable
returns-in-Ok-begin_again-clause-startable g c =
    let d = g.D.Disk in
    subst (λ (p : Place). CanBeStarted p.undo d.content d.images (disk_of c.in-Ok-begin_again.node)) c.in-Ok-begin_again.ensures.place (starts_running d.content d.images c.in-Ok-begin_again.node c.in-Ok-begin_again.ensures.next.running)

pub returns-in-Err-begin_again-clause-startable : goal.returns-in-Err-begin_again-clause-startable
returns-in-Err-begin_again-clause-startable g c =
    let d = g.D.Disk in
    can_start c.args.place.undo d.content d.images d.moment d.images_since g.met.D.Disk.reads_an_image g.met.D.Disk.now_counts (disk_of_log c.in-Ok.log) c.in-Err-begin_again.err.disk c.in-Err-begin_again.ensures.startable

pub returns-in-Err-clause-startable : goal.returns-in-Err-clause-startable
returns-in-Err-clause-startable g c =
    let d = g.D.Disk in
    let disk = c.in-Err.field-0.disk in
    can_start c.args.place.undo d.content d.images d.moment d.images_since g.met.D.Disk.reads_an_image g.met.D.Disk.now_counts c.args.disk disk
    (startable_loaded c.args.place.undo d.moment d.images_since c.args.disk disk (d.images c.args.disk) c.requires.startable.crashed c.in-Err.ensures.read.any_moment)

pub returns-in-Ok-begin_again-clause-started : goal.returns-in-Ok-begin_again-clause-started
returns-in-Ok-begin_again-clause-started g c =
    let d = g.D.Disk in
    let disk = c.args.disk in
    let log = c.in-Ok.log in
    let node = c.in-Ok-begin_again.node in
    let loaded = c.in-Ok.ensures.loaded in
    let again = c.in-Ok-begin_again.ensures in
    λ rs hold. subst (λ (xs : List RedoRecord). HasRestarted d c.args.place xs disk node) (c.as_slice.ensures ∙ loaded.only rs hold)
    (record {
      kept = again.kept;
      place_is = again.place;
      stored = again.stored;
      next = again.next;
      run = run_over d (load_calls (d.content disk)) append_calls disk (disk_of_log log) (disk_of node) loaded.run again.run;
    })

pub returns-in-Err-begin_again-clause-failed : goal.returns-in-Err-begin_again-clause-failed
returns-in-Err-begin_again-clause-failed g c is =
    let d = g.D.Disk in
    let disk = c.args.disk in
    let log = c.in-Ok.log in
    let now = c.in-Err-begin_again.err.disk in
    let loaded = c.in-Ok.ensures.loaded in
    let failed = c.in-Err-begin_again.ensures.failed is in
    record {
      run = fault_over d (load_calls (d.content disk)) append_calls disk (disk_of_log log) now loaded.run failed.run;
      left = left_writing (d.plan disk) (d.plan (disk_of_log log)) (d.content disk) (d.content (disk_of_log log)) (d.content now) c.in-Ok.records loaded.only c.in-Ok.ensures.read.content loaded.run.plan
          (subst (λ (rs : List RedoRecord). GrowsByPlan (d.plan (disk_of_log log)) (next_boot rs) (d.content (disk_of_log log)) (d.content now)) c.as_slice.ensures failed.left);
    }

pub returns-in-Err-clause-failed : goal.returns-in-Err-clause-failed
returns-in-Err-clause-failed g c is =
    let d = g.D.Disk in
    let disk = c.args.disk in
    let now = c.in-Err.field-0.disk in
    let met = subst (λ (why : LoadWhy). NotLoaded d why disk now) (c.load_why.ensures.fault is) c.in-Err.ensures.failed in
    record {
      run = fault_early d (load_calls (d.content disk)) append_calls disk now met;
      left = left_loading (d.plan disk) (d.plan now) (d.content disk) (d.content now) c.in-Err.ensures.read.content met.plan;
    }

pub returns-in-Err-begin_again-clause-unwritten : goal.returns-in-Err-begin_again-clause-unwritten
returns-in-Err-begin_again-clause-unwritten g c is =
    let d = g.D.Disk in
    let disk = c.args.disk in
    let same = c.in-Err-begin_again.ensures.refused is in
    record {
      content = same.content ∙ c.in-Ok.ensures.read.content;
      run = inr (run_untouched d (load_calls (d.content disk)) disk (disk_of_log c.in-Ok.log) c.in-Err-begin_again.err.disk c.in-Ok.ensures.loaded.run same);
    }

pub returns-in-Err-clause-unwritten : goal.returns-in-Err-clause-unwritten
returns-in-Err-clause-unwritten g c is = record {
  content = c.in-Err.ensures.read.content;
  run = subst (λ (why : LoadWhy). NotLoaded g.D.Disk why c.args.disk c.in-Err.field-0.disk) (c.load_why.ensures.memory is) c.in-Err.ensures.failed;
}
