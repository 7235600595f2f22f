use Rattle.byte_format.proofs.Appends.{kept_before}
use Rattle.byte_format.proofs.lists.put_each.Goals as goal

-- the bytes from before are in front of what was written, and that is in front of the rest
pub returns-in_err-put_into-clause-kept : goal.returns-in_err-put_into-clause-kept
returns-in_err-put_into-clause-kept g c =
    kept_before c.args.out.now.items c.loop-item.out.items c.put_into.new.out.items _ c.loop-item.invariant.0 c.in_err-put_into.ensures.kept
