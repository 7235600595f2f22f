-- The tried calls, by computation.
use Rattle.std.proofs.Common.{refl}
use Rattle.node_rules.specs.Points.{passes, point_of}
use Rattle.run_rules.specs.Disks.{struck, after_append}
use Rattle.run_rules.specs.Cuts.{cut_by}
use Rattle.run_rules.specs.Past.{next}
use Rattle.run_rules.specs.Due.{due_of, runs_on}
use Rattle.answer_origin_laws.specs.TriedCalls.{TheTriedCalls}
use Rattle.tree_laws.proofs.Trying.{trying}

pub the_tried_calls : TheTriedCalls
unfolding trying passes point_of struck after_append cut_by next due_of runs_on
the_tried_calls = record { begun = refl; waits = refl; answered = refl; commits = refl; next = refl; last = refl }
