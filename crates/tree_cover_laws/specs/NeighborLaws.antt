-- Whom seals name: the parent of their branch, and its neighbour on the way to the commit point site, as the plan of the
-- COMMIT has them. It is so of every seal, whether its transaction is decided or not, and whether branches of its tree had
-- been dropped when the COMMIT came. (Database Administrator's Guide, "Distributed Transactions Concepts": commit point
-- site.)
use Rattle.run_rules.specs.Each.{AtEach}
use Rattle.run_rules.specs.Lawful.{History, IsLawfulRun}
use Rattle.run_claims.specs.Site.{RecordIsSo, NamesToward}

-- In every lawful run each seal is of a branch of the tree of the COMMIT, and names its parent and its neighbour on the way to
-- the site.
abbrev pub SealsNameToward : Type 0
SealsNameToward = (t : History) → IsLawfulRun t → AtEach (RecordIsSo NamesToward) t
