use Rattle.commit_course_laws.proofs.TriedCourseLemmas.{the_tried_course}
use Rattle.commit_course_laws.proofs.the_tried_course.Goals as goal

pub returns : goal.returns
returns c = the_tried_course
