use Rattle.std.proofs.Common.{◌≡◌, ◌++◌, ◌<◌}
use Rattle.std.specs.List.{flat_map}
use Rattle.make_script.specs.Draws.{last_draw, transactions}
use Rattle.make_script.specs.Script.{lines_of, text_of}
use Rattle.make_script.proofs.script.put_transactions.Given as goal

-- the lines of the transactions so far were added, and their last draw is known
abbrev pub invariant-loop-count : goal.invariant-loop-count
invariant-loop-count l =
    (l.out.items ≡ l.fn.out.items ++ text_of (flat_map lines_of (transactions l.number l.count))) × (l.draw ≡ last_draw l.number l.count) × (l.draw < 65537)
