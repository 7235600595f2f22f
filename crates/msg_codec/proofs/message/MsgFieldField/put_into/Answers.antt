use Rattle.std.proofs.Common.{◌++◌}
use Rattle.sql_print.specs.Printing.{printed}
use Rattle.byte_format.specs.Number.{number8}
use Rattle.byte_format.proofs.Appends.{written_before}
use Rattle.msg_codec.specs.Kind.{kind_byte, kinds_as}
use Rattle.msg_codec.specs.Message.{head_format}
use Rattle.msg_codec.proofs.message.MsgFieldField.put_into.Goals as goal

pub returns-clause-written : goal.returns-clause-written
returns-clause-written c =
    let m = c.args.msg.now in
    let r = c.put_fields.result in
    let last = c.put_fields.new.out.items in
    let head = head_format.text (m.from, (m.to, m.scn)) in
    let fields = (kinds_as printed (kind_byte m.kind)).text m.kind in
    let first = rw c.kind_byte.ensures at c.in_ok-put_u8.ensures.written in
    written_before r c.args.out.now.items c.put_u8.new.out.items last (number8.text (kind_byte m.kind)) (head ++ fields) first
    (written_before r c.put_u8.new.out.items c.put_head.new.out.items last head fields c.in_ok-put_head.ensures.written
    c.put_fields.ensures.written)
