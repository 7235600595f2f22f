-- Forgotten goes from the site outwards: who told it to a neighbour beyond has forgotten, and so has the neighbour toward the
-- site of a branch that has. (Database Administrator's Guide, "Distributed Transactions Concepts": forget phase.)
use Rattle.std.specs.Prelude.{◌≡◌, ◌⊎◌, Some}
use Rattle.agreement.specs.Events.{Quiet, Forget, Send_forgotten, Beyond, exit, Has}
use Rattle.node_rules.specs.Data.{BranchId}
use Rattle.run_rules.specs.Lawful.{History, IsLawfulRun}
use Rattle.run_base_laws.specs.RunEvents.{events_of}
use Rattle.tree_laws.specs.Forests.{forest_of}
use Rattle.commit_forget_laws.specs.RowLaws.{IsSealed}

-- In every lawful run a branch that told Forgotten to one beyond it, which is not gone without changes, has forgotten.
abbrev pub TellersHaveForgotten : Type 0
TellersHaveForgotten = (t : History) → IsLawfulRun t → (f y : BranchId) → Has (Send_forgotten f y) (events_of t) → Beyond (forest_of t) y f → (exit (events_of t) y ≡ Some Quiet) ⊎ Has (Forget f) (events_of t)

-- So where a sealed branch has forgotten its neighbour on the way to the site has.
abbrev pub TowardHasForgotten : Type 0
TowardHasForgotten = (t : History) → IsLawfulRun t → (y : BranchId) → Has (Forget y) (events_of t) → IsSealed (events_of t) y → Has (Forget ((forest_of t).toward y)) (events_of t)
