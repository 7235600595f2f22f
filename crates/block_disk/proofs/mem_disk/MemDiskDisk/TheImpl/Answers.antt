-- A write in memory, struck or not, leaves as images only what a write of any disk may.
use Rattle.std.proofs.Common.{rules, sym, subst, length}
use Rattle.block_disk.specs.Images.{TearsOnly, GoesOn}
use Rattle.block_disk.specs.Happenings.{IsImage, IsImageSince}
use Rattle.block_disk.specs.MemDisk.{DiskState}
use Rattle.block_disk.specs.Orders.{strike_of, left_by}
use Rattle.block_disk.proofs.Struck.{left_fits, part_tears_only, part_goes_on}
use Rattle.block_disk.proofs.Planned.{left_struck}
use Rattle.block_disk.proofs.mem_disk.MemDiskDisk.TheImpl.Goals as goal

pub write_at-tells : goal.write_at-tells
write_at-tells c =
    let disk = c.args.self.now in
    let at = c.args.at in
    let bytes = c.args.bytes.now in
    let strike = strike_of disk.orders in
    let part = left_by strike bytes in
    record {
      written = search rules;
      images = subst (λ (now : DiskState). TearsOnly at (length bytes) (IsImage disk.happenings) (IsImage now.happenings)) (sym c.ensures.state) (part_tears_only disk.happenings at (length bytes) part c.requires.within (left_fits strike bytes));
      time = subst (λ (now : DiskState). GoesOn (length disk.happenings) (length now.happenings) (IsImageSince disk.happenings) (IsImageSince now.happenings) (IsImage now.happenings)) (sym c.ensures.state) (part_goes_on disk.happenings at part);
      spare = search rules;
      cause = search rules;
      calls = search rules;
      writes = search rules;
      plan = search rules;
      left = left_struck c.result disk _ at bytes c.ensures.state c.ensures.plan;
    }
