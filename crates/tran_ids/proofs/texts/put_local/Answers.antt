use Rattle.std.proofs.Common.{codes}
use Rattle.std.proofs.Transfers.{starts_with_of_append, starts_with_trans}
use Rattle.tran_ids.proofs.texts.put_local.Goals as goal

pub returns-clause-kept : goal.returns-clause-kept
returns-clause-kept c =
    let start = c.args.out.now.items in
    let boot = c.put_decimal.new.out.items in
    let dot = c.push.new.self.items in
    let session = c.put_decimal-2.new.out.items in
    let dot2 = c.push-2.new.self.items in
    let last = c.put_decimal-3.new.out.items in
    starts_with_trans last dot2 start c.put_decimal-3.ensures.kept
    (starts_with_trans dot2 session start (starts_with_of_append dot2 session (codes ".") c.in_ok-push-2.ensures.items)
    (starts_with_trans session dot start c.put_decimal-2.ensures.kept
    (starts_with_trans dot boot start (starts_with_of_append dot boot (codes ".") c.in_ok-push.ensures.items)
    c.put_decimal.ensures.kept)))
