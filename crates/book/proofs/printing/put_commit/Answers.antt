use Rattle.std.proofs.Common.{◌++◌, codes, append_assoc, ap, ◌∙◌}
use Rattle.tran_ids.specs.Numbers.{decimal}
use Rattle.book.proofs.printing.put_commit.Goals as goal

pub returns : goal.returns
returns c =
    c.in_ok-put_decimal.ensures.added
    ∙ ap (λ out. out ++ decimal c.args.scn) c.in_ok-extend_from_slice.ensures.items
    ∙ append_assoc c.args.out.now.items (codes " commit scn ") (decimal c.args.scn)
