use Rattle.std.proofs.Common.{◌++◌}
use Rattle.byte_format.specs.Number.{number48, number64}
use Rattle.byte_format.proofs.Appends.{written_before}
use Rattle.image_codec.specs.Image.{settings_format}
use Rattle.image_codec.proofs.image.put_start.Goals as goal

pub returns-clause-written : goal.returns-clause-written
returns-clause-written c =
    let i = c.args.image.now in
    let r = c.put_settings.result in
    let last = c.put_settings.new.out.items in
    let set = settings_format.text (i.boot, (i.recovery, i.strength)) in
    written_before r c.args.out.now.items c.put_u64.new.out.items last (number64.text i.generation) (number48.text i.clock ++ (number48.text i.top ++ set)) c.in_ok-put_u64.ensures.written
    (written_before r c.put_u64.new.out.items c.put_u48.new.out.items last (number48.text i.clock) (number48.text i.top ++ set) c.in_ok-put_u48.ensures.written
    (written_before r c.put_u48.new.out.items c.put_u48-2.new.out.items last (number48.text i.top) set c.in_ok-put_u48-2.ensures.written
    c.put_settings.ensures.written))
