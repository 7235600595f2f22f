use Rattle.std.proofs.Common.{◌++◌}
use Rattle.byte_format.specs.Number.{number8, number32}
use Rattle.byte_format.proofs.Appends.{written_before}
use Rattle.field_codec.proofs.branch.put_branch.Goals as goal

pub returns-clause-written : goal.returns-clause-written
returns-clause-written c =
    let b = c.args.branch.now in
    let r = c.put_u32-3.result in
    let last = c.put_u32-3.new.out.items in
    written_before r c.args.out.now.items c.put_u8.new.out.items last (number8.text b.node) (number32.text b.boot ++ (number32.text b.session ++ number32.text b.seq)) c.in_ok-put_u8.ensures.written
    (written_before r c.put_u8.new.out.items c.put_u32.new.out.items last (number32.text b.boot) (number32.text b.session ++ number32.text b.seq) c.in_ok-put_u32.ensures.written
    (written_before r c.put_u32.new.out.items c.put_u32-2.new.out.items last (number32.text b.session) (number32.text b.seq) c.in_ok-put_u32-2.ensures.written
    c.put_u32-3.ensures.written))
