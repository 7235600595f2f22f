use Rattle.std.proofs.Common.{ℕ, List, [], ◌∷◌, ◌++◌, ◌*◌, map, ap, sym, ◌∙◌}
use Rattle.std.specs.List.{range_with_len}
use Rattle.report.specs.Bytes.{byte_line}
use Rattle.report.proofs.ByteLines.{one_more}
use Rattle.report.proofs.bytes.byte_lines.Goals as goal

pub loop-i-preserved : goal.loop-i-preserved
loop-i-preserved c =
    c.in_ok-push.ensures.items
    ∙ (ap (λ (front : List (List ℕ)). front ++ c.in_ok-byte_line.field-0 ∷ []) c.loop-i.invariant
    ∙ (ap (λ (line : List ℕ). map (λ i. byte_line c.args.bytes.now (32 * i)) (range_with_len 0 c.loop-i.i) ++ line ∷ []) c.in_ok-byte_line.ensures
    ∙ sym (one_more c.args.bytes.now c.loop-i.i)))
