-- Where the advice in an Exec comes from: a root passes on that of its session, any other branch that of the last statement that
-- it took. So the advice of a branch is the one that its client's session had. (SQL Language Reference, ALTER SESSION; Database
-- Administrator's Guide, "Distributed Transactions Concepts": local coordinators.)
use Rattle.std.specs.Prelude.{◌≡◌, ℕ, ◌+◌, if◌then◌else◌, slice_get, is_none, Option, Some, None}
use Rattle.std.specs.List.{AllByRecursion}
use Rattle.node_rules.specs.Data.{Advice, BranchId, Kind}
use Rattle.node_rules.specs.Data.kinds
use Rattle.node_rules.specs.Data.tasks
use Rattle.run_rules.specs.Branches.{Seen, Trail, seen_at}
use Rattle.run_rules.specs.Data.{Turn}
use Rattle.run_rules.specs.Data.happenings
use Rattle.run_rules.specs.Each.{trail_upto}
use Rattle.run_rules.specs.Lawful.{History}
use Rattle.view_laws.specs.GivenColumns.{Given, given_upto}

-- the advice that a branch passes on
abbrev pub passed_advice : Given → BranchId → Option Seen → Option Advice
passed_advice g b None = None
passed_advice g b (Some s) = if is_none s.parent then g.advised b.node b.session else g.advice b

-- an Exec that runs a statement brings the advice of its sender
abbrev pub BringsAdvice : Trail → Given → BranchId → Kind → Type 0
BringsAdvice tr g from (kinds.Exec call (tasks.Run given advice s)) = advice ≡ passed_advice g from (seen_at tr from)
BringsAdvice tr g from _ = Unit {0}

-- each Exec of a turn does, by what stands after it
abbrev pub AdviceGoesOn : History → Type 0
AdviceGoesOn t = (i : ℕ) (u : Turn) → slice_get t.trace i ≡ Some (happenings.Turn u) → AllByRecursion (λ m. BringsAdvice (trail_upto t (i + 1)) (given_upto t (i + 1)) m.from m.kind) u.sent
