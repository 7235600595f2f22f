use Rattle.std.proofs.Common.{codes}
use Rattle.std.proofs.Transfers.{starts_with_of_append, starts_with_trans}
use Rattle.tran_ids.proofs.texts.put_global.Goals as goal

pub returns-clause-kept : goal.returns-clause-kept
returns-clause-kept c =
    let start = c.args.out.now.items in
    let name = c.extend_from_slice.new.self.items in
    let dot = c.push.new.self.items in
    let digits = c.extend_from_slice-2.new.self.items in
    let dot2 = c.push-2.new.self.items in
    let last = c.put_local.new.out.items in
    starts_with_trans last dot2 start c.put_local.ensures.kept
    (starts_with_trans dot2 digits start (starts_with_of_append dot2 digits (codes ".") c.in_ok-push-2.ensures.items)
    (starts_with_trans digits dot start (starts_with_of_append digits dot c.node_digits.result c.in_ok-extend_from_slice-2.ensures.items)
    (starts_with_trans dot name start (starts_with_of_append dot name (codes ".") c.in_ok-push.ensures.items)
    (starts_with_of_append name start c.node_name.result.now c.in_ok-extend_from_slice.ensures.items))))
