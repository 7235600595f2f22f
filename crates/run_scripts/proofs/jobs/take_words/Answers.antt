use Rattle.std.proofs.Common.{map, [], ◌∷◌}
use Rattle.std.proofs.lemmas.List.{map-append}
use Rattle.std.specs.String.{string_bytes}
use Rattle.byte_format.specs.Several.{times_at}
use Rattle.byte_format.proofs.Loop.{goes_on}
use Rattle.run_scripts.specs.Jobs.{bytes_format}
use Rattle.run_scripts.proofs.jobs.take_words.Goals as goal

pub loop-preserved : goal.loop-preserved
loop-preserved c =
    rw (c.in_ok-push.ensures.items, map-append string_bytes c.loop.words.items (c.in_ok-word.word ∷ []))
    (goes_on bytes_format.read (map string_bytes c.loop.words.items) c.args.count c.loop.counter c.loop.rest.now (string_bytes c.in_ok-word.word) c.in_ok-word.after.now
    (times_at c.args.count bytes_format.read c.args.list.now) c.loop-test.true c.in_ok-word.ensures c.loop.invariant)
