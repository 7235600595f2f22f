-- The causes of COMMIT's answers, tried on the run of two nodes, whose site is the root at A: before A decides it is neither sealed
-- nor decided; while A's commit is on the way A knows the commit, and B is in doubt; once it has come B knows it too.
use Rattle.std.specs.Prelude.{◌≡◌, true, false}
use Rattle.run_rules.specs.Book.{in_doubt, stands}
use Rattle.run_rules.specs.Branches.{is_among}
use Rattle.run_branch_laws.specs.TriedRun.{a, b}
use Rattle.commit_answer_laws.specs.CommitCauses.{is_outcome_of, is_commit_of, is_prepared_of}
use Rattle.commit_answer_laws.specs.TriedEnds.{facts_when}

pub record TheTriedCauses : Type 0 where
  pub early : stands (is_prepared_of a) (facts_when 10).book ≡ false
  pub known : stands (is_commit_of a) (facts_when 12).book ≡ true
  pub doubted : is_among b (in_doubt (facts_when 12).book 2) ≡ true
  pub unknown : stands (is_outcome_of b) (facts_when 12).book ≡ false
  pub learned : stands (is_commit_of b) (facts_when 13).book ≡ true
  pub settled : is_among b (in_doubt (facts_when 13).book 2) ≡ false
