use Rattle.std.proofs.Common.{◌≡◌, ◌∙◌, ◌++◌, ℕ, List, sym, ap}
use Rattle.std.specs.List.{flat_map}
use Rattle.make_script.specs.Draws.{transactions}
use Rattle.make_script.specs.Script.{first_lines, last_lines, lines_of, text_of, transaction_count}
use Rattle.make_script.proofs.Appends.{three}
use Rattle.make_script.proofs.LoopLemmas.{script_parts}
use Rattle.make_script.proofs.script.make_script.Goals as goal

pub returns : goal.returns
returns c =
    let middle : List ℕ = text_of (flat_map lines_of (transactions c.args.number transaction_count)) in
    three c.new-out.result.items _ _ _ (text_of first_lines) middle (text_of last_lines) c.in_ok-put_first_lines.ensures c.in_ok-put_transactions.ensures c.in_ok-put_last_lines.ensures
    ∙ (ap (λ (a : List ℕ). a ++ (text_of first_lines ++ (middle ++ text_of last_lines))) c.new-out.ensures.items ∙ sym (script_parts c.args.number))
