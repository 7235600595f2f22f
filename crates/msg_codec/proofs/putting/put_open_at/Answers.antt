use Rattle.std.proofs.Common.{◌++◌}
use Rattle.byte_format.specs.Number.{number8, number64}
use Rattle.byte_format.proofs.Appends.{written_before}
use Rattle.field_codec.specs.Branch.{branch_format}
use Rattle.msg_codec.proofs.putting.put_open_at.Goals as goal

pub returns-clause-written : goal.returns-clause-written
returns-clause-written c =
    let r = c.put_u64.result in
    let last = c.put_u64.new.out.items in
    let depth = number8.text c.args.depth in
    let scn = number64.text c.args.scn in
    written_before r c.args.out.now.items c.put_u8.new.out.items last (number8.text c.args.edge) (branch_format.text c.args.root.now ++ (depth ++ scn)) c.in_ok-put_u8.ensures.written
    (written_before r c.put_u8.new.out.items c.put_branch.new.out.items last (branch_format.text c.args.root.now) (depth ++ scn) c.in_ok-put_branch.ensures.written
    (written_before r c.put_branch.new.out.items c.put_u8-2.new.out.items last depth scn c.in_ok-put_u8-2.ensures.written
    c.put_u64.ensures.written))
