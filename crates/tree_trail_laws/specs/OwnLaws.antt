-- The changes of a live branch are the same by the branch history and at its node, and answers of runs are meant. The branch
-- history computes changes over the rows that the book leaves, a node over the rows that it stores. These rows agree at each
-- key that is not in doubt, and no key in doubt is examined; so the changes are the same, where the two agree on the branches.
-- With the laws on roots that is all that the branch history has. (SQL Language Reference; Database Administrator's Guide,
-- "Distributed Transactions Concepts": locks of in-doubt transactions.)
use Rattle.std.specs.Prelude.{List}
use Rattle.node_rules.specs.Data.{Place}
use Rattle.run_rules.specs.Branches.{Trail}
use Rattle.run_rules.specs.Each.{AtEach}
use Rattle.run_rules.specs.Facts.{Facts}
use Rattle.run_rules.specs.Lawful.{History, IsLawfulRun}
use Rattle.run_claims.specs.Site.{RecordIsSo, DecisionCovers, HasOwn}
use Rattle.tree_trail_laws.specs.SeenLaws.{TracesTops, SeesRoots, SeesAll, LeavesKnowing}
use Rattle.tree_trail_laws.specs.TopLaws.{NamesNext}

-- The branch history of roots agrees with what their nodes keep.
pub record TracesRoots (places : List Place) (f : Facts) (tr : Trail) : Type 0 where
  pub tops : TracesTops f tr
  pub roots : SeesRoots f tr
  pub next : NamesNext places f tr

-- In every lawful run, before each happening, the branch history of live branches agrees with what their nodes keep.
abbrev pub AllIsSeen : Type 0
AllIsSeen = (t : History) → IsLawfulRun t → SeesAll t

-- So each decision covers its tree, and seals and decisions have their branches' own changes,
abbrev pub DecisionsCover : Type 0
DecisionsCover = (t : History) → IsLawfulRun t → AtEach (RecordIsSo DecisionCovers) t × AtEach (RecordIsSo HasOwn) t

-- and they are written on what came.
abbrev pub LeavesAreDue : Type 0
LeavesAreDue = (t : History) → IsLawfulRun t → AtEach LeavesKnowing t
