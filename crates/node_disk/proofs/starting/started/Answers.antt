-- The number of a start is one more than the last one.
use Rattle.std.proofs.Common.{◌+◌, ◌∙◌, arith}
use Rattle.node_rules.specs.Records.{nothing_stored}
use Rattle.node_memory.specs.Parts.{stored_in}
use Rattle.node_disk.proofs.StartLaws.{all_have_room, boot_may_follow, boot_so, boot_started, started_so}
use Rattle.node_disk.proofs.starting.started.Goals as goal

pub rebuild-requires-clause-room : goal.rebuild-requires-clause-room
rebuild-requires-clause-room c = all_have_room c.seals_keep_undo.ensures.starts c.args.place.undo nothing_stored c.args.records.now c.requires.had.fit

pub overflow_add-redo : goal.overflow_add-redo
overflow_add-redo c = omega (arith, boot_so c.args.records.now c.in_ok-memory.memory c.in_ok-memory.ensures.kept, c.requires.boots)

pub take_in-taken-requires-clause-follow : goal.take_in-taken-requires-clause-follow
take_in-taken-requires-clause-follow c = boot_may_follow (stored_in c.in_ok-memory.memory) (c.in_ok-memory.memory.boot + 1)

pub returns-in-Ok-clause-kept : goal.returns-in-Ok-clause-kept
returns-in-Ok-clause-kept c = c.in-Ok.ensures.kept ∙ started_so c.args.records.now c.in_ok-memory.memory c.in_ok-memory.ensures.kept

pub returns-in-Ok-clause-boot : goal.returns-in-Ok-clause-boot
returns-in-Ok-clause-boot c =
    let rs = c.args.records.now in
    let before = c.in_ok-memory.memory in
    boot_started rs c.take_in-taken.new.self (c.in-Ok.ensures.kept ∙ started_so rs before c.in_ok-memory.ensures.kept)
