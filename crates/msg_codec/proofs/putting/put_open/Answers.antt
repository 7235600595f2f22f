use Rattle.std.proofs.Common.{◌++◌}
use Rattle.byte_format.specs.Number.{number8}
use Rattle.byte_format.proofs.Appends.{written_before}
use Rattle.field_codec.specs.Branch.{branch_format}
use Rattle.msg_codec.proofs.putting.put_open.Goals as goal

pub returns-clause-written : goal.returns-clause-written
returns-clause-written c =
    let r = c.put_u8-2.result in
    let last = c.put_u8-2.new.out.items in
    written_before r c.args.out.now.items c.put_u8.new.out.items last (number8.text c.args.edge) (branch_format.text c.args.root.now ++ number8.text c.args.depth) c.in_ok-put_u8.ensures.written
    (written_before r c.put_u8.new.out.items c.put_branch.new.out.items last (branch_format.text c.args.root.now) (number8.text c.args.depth) c.in_ok-put_branch.ensures.written
    c.put_u8-2.ensures.written)
