-- The tried course, by computation.
use Rattle.std.proofs.Common.{refl}
use Rattle.node_rules.specs.Points.{passes, point_of}
use Rattle.net_bag.specs.Net.{lost}
use Rattle.run_rules.specs.Disks.{struck, after_append}
use Rattle.run_rules.specs.Cuts.{cut_by}
use Rattle.run_rules.specs.Past.{next}
use Rattle.run_rules.specs.Due.{due_of, runs_on}
use Rattle.commit_course_laws.specs.TriedCourse.{TheTriedCourse}
use Rattle.tree_laws.proofs.Trying.{trying}

pub the_tried_course : TheTriedCourse
unfolding trying passes point_of lost struck after_append cut_by next due_of runs_on
the_tried_course = record { off = refl; still = refl; prepare = refl; prepared = refl; committed = refl; ack = refl; forgotten = refl; done = refl; few = refl; calls = refl; complete = refl; lossy_tells = refl; lossy_gives_up = refl }
