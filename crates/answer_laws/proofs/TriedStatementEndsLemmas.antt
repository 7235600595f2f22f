-- What ends the count of the tried script, by computation.
use Rattle.std.proofs.Common.{refl}
use Rattle.node_rules.specs.Points.{passes, point_of}
use Rattle.node_rules.specs.Turn.{turn_of}
use Rattle.run_rules.specs.Cuts.{cut_by}
use Rattle.run_rules.specs.Disks.{struck, after_append}
use Rattle.run_rules.specs.Due.{due_of, runs_on}
use Rattle.run_rules.specs.Past.{next}
use Rattle.answer_laws.specs.TriedStatementEnds.{TheTriedStatementEnds}
use Rattle.tree_laws.proofs.Trying.{trying}

pub the_tried_statement_ends : TheTriedStatementEnds
unfolding trying turn_of passes point_of cut_by struck after_append due_of runs_on next
the_tried_statement_ends = record { waits = refl; sent = refl; still = refl; old = refl; answered = refl; gone = refl; given_up = refl; over = refl; command = refl; no_more = refl }
