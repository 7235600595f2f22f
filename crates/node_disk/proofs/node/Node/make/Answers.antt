-- A node that was made is ready and can take its next turn, and a crash at any moment leaves no record or that of the first start.
use Rattle.std.proofs.Common.{List, ℕ, [], ◌∙◌, inl, inr, refl, sym, subst}
use Rattle.redo_log.specs.Plans.{append_calls, begin_calls}
use Rattle.record_log.specs.Held.{HoldRecords}
use Rattle.record_log.specs.Log.{disk_of as disk_of_log}
use Rattle.node_disk.specs.OnDisk.{place_of, kept_of, disk_of}
use Rattle.node_disk.proofs.MakeLaws.{holds_first, ready_made, undo_made, stands_made, may_be_begun, may_be_made, may_be_empty}
use Rattle.node_disk.proofs.CutLaws.{starts_if_only}
use Rattle.redo_log.proofs.PlanLaws.{untouched_same, run_untouched, run_over, fault_over, fault_early}
use Rattle.node_disk.proofs.node.Node.make.Goals as goal

pub returns-in-Ok-begin-clause-made : goal.returns-in-Ok-begin-clause-made
returns-in-Ok-begin-clause-made g c =
    let d = g.D.Disk in
    let node = c.in-Ok-begin.node in
    let began = c.in-Ok-begin.ensures in
    let new = c.in-Ok-create.ensures.made in
    let bytes = d.content (disk_of node) in
    let hold = holds_first c.in-Ok.memory.boot bytes c.in-Ok.ensures.boot (began.written.stored [] new.made) in
    let kept = began.kept ∙ c.in-Ok.ensures.kept in
    let stands = stands_made (place_of node).undo node.memory bytes hold kept in
    record {
      kept = kept;
      place_is = began.place ∙ c.in-Ok.ensures.place;
      stored = hold;
      next = record {
        running = record { usable = began.ready.usable; intact = began.ready.intact; durable = began.ready.durable; stands = stands };
        ready = ready_made c.starts_are_ready.ensures (place_of node) (kept_of node) kept;
        undo = undo_made c.starts_have_undo.ensures (place_of node) (kept_of node) kept;
      };
      startable = let made = stands_made c.args.place.undo node.memory bytes hold kept in starts_if_only c.args.place.undo d.content d.images (disk_of node) began.ready.durable (made.0, made.1, made.2);
      run = run_over d begin_calls append_calls c.args.disk (disk_of_log c.in-Ok-create.log) (disk_of node) new.run began.written.run;
    }

pub returns-in-Ok-begin-clause-any_moment : goal.returns-in-Ok-begin-clause-any_moment
returns-in-Ok-begin-clause-any_moment g c only =
    let d = g.D.Disk in
    let log = c.in-Ok-create.ensures in
    may_be_made d.moment d.images_since c.args.disk (disk_of_log c.in-Ok-create.log) (disk_of c.in-Ok-begin.node) c.in-Ok.memory.boot (log.any_moment only) c.in-Ok.ensures.boot
    (c.in-Ok-begin.ensures.any_moment [] log.made.made)

pub returns-in-Err-begin-clause-any_moment : goal.returns-in-Err-begin-clause-any_moment
returns-in-Err-begin-clause-any_moment g c only =
    let d = g.D.Disk in
    let log = c.in-Ok-create.ensures in
    may_be_made d.moment d.images_since c.args.disk (disk_of_log c.in-Ok-create.log) c.in-Err-begin.err.disk c.in-Ok.memory.boot (log.any_moment only) c.in-Ok.ensures.boot
    (c.in-Err-begin.ensures.any_moment [] log.made.made)

pub returns-in-Err-create-clause-any_moment : goal.returns-in-Err-create-clause-any_moment
returns-in-Err-create-clause-any_moment g c only =
    let d = g.D.Disk in
    may_be_begun d.moment d.images_since c.args.disk c.in-Err-create.field-0.disk (c.in-Err-create.ensures.any_moment only)

pub returns-in-Err-clause-any_moment : goal.returns-in-Err-clause-any_moment
returns-in-Err-clause-any_moment g c only =
    let d = g.D.Disk in
    may_be_empty d.moment d.images_since c.args.disk (d.images c.args.disk) only c.stands_still.ensures

pub returns-in-Err-begin-clause-failed : goal.returns-in-Err-begin-clause-failed
returns-in-Err-begin-clause-failed g c is =
    fault_over g.D.Disk begin_calls append_calls c.args.disk (disk_of_log c.in-Ok-create.log) c.in-Err-begin.err.disk c.in-Ok-create.ensures.made.run (c.in-Err-begin.ensures.failed is).run

pub returns-in-Err-create-clause-failed : goal.returns-in-Err-create-clause-failed
returns-in-Err-create-clause-failed g c is =
    fault_early g.D.Disk begin_calls append_calls c.args.disk c.in-Err-create.field-0.disk (c.in-Err-create.ensures.failed (c.create_why.ensures.fault is))

pub returns-in-Err-begin-clause-unwritten : goal.returns-in-Err-begin-clause-unwritten
returns-in-Err-begin-clause-unwritten g c is =
    let d = g.D.Disk in
    let log = c.in-Ok-create.ensures.made in
    let same = c.in-Err-begin.ensures.refused is in
    inr (subst (λ (bytes : List ℕ). HoldRecords [] bytes) (sym same.content) log.made, run_untouched d begin_calls c.args.disk (disk_of_log c.in-Ok-create.log) c.in-Err-begin.err.disk log.run same)

pub returns-in-Err-create-clause-unwritten : goal.returns-in-Err-create-clause-unwritten
returns-in-Err-create-clause-unwritten g c is = inl (c.in-Err-create.ensures.refused (c.create_why.ensures.memory is))

pub returns-in-Err-clause-unwritten : goal.returns-in-Err-clause-unwritten
returns-in-Err-clause-unwritten g c is = inl (untouched_same g.D.Disk c.args.disk c.args.disk refl)
