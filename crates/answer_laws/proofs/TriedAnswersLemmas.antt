-- Where the answers of the tried script come from, by computation.
use Rattle.std.proofs.Common.{refl}
use Rattle.node_rules.specs.Points.{passes, point_of}
use Rattle.run_rules.specs.Cuts.{cut_by}
use Rattle.run_rules.specs.Disks.{struck, after_append}
use Rattle.run_rules.specs.Due.{due_of, runs_on, happened}
use Rattle.run_rules.specs.Past.{next}
use Rattle.answer_laws.specs.TriedAnswers.{TheTriedAnswers}
use Rattle.tree_laws.proofs.Trying.{trying, trying_trails}

pub the_tried_answers : TheTriedAnswers
unfolding trying trying_trails passes point_of cut_by struck after_append due_of runs_on happened next
the_tried_answers = record { inserted = refl; count_is = refl; from = refl }
