-- How far live branches are in their transactions, against the answers of their children: before its COMMIT or Prepare came
-- a branch has asked none, and from then on it holds no Abort.
use Rattle.std.specs.Prelude.{◌≡◌, ◌≢◌, true, false, List, Option, None}
use Rattle.std.specs.List.{AllByRecursion, list_any}
use Rattle.node_rules.specs.Data.{BranchId, Edge, Phase}
use Rattle.node_rules.specs.Data.votes
use Rattle.node_rules.specs.Data.phases
use Rattle.node_rules.specs.Prepare.{is_awaited}
use Rattle.run_base_laws.specs.NodeLaws.{OfEachNode}

-- a child was sent no Prepare
abbrev pub IsUnasked : Edge → Type 0
IsUnasked e = e.vote ≡ votes.Unasked

-- no Abort came from it
abbrev pub IsNoAbort : Edge → Type 0
IsNoAbort e = e.vote ≢ votes.Abort

-- A working branch has asked no child. A collecting one waits for an answer, and one that said Ready for none; the latter is
-- no root.
abbrev pub PhaseFits : Option BranchId → List Edge → Phase → Type 0
PhaseFits parent es phases.Working = AllByRecursion IsUnasked es
PhaseFits parent es (phases.Collecting site_below) = AllByRecursion IsNoAbort es × (list_any (λ e. is_awaited e.vote) es ≡ true)
PhaseFits parent es phases.Ready = AllByRecursion IsNoAbort es × (list_any (λ e. is_awaited e.vote) es ≡ false) × (parent ≢ None)

-- In every lawful run the phases of live branches fit the answers of their children.
abbrev pub PhasesFit : Type 0
PhasesFit = OfEachNode (λ p rs k. AllByRecursion (λ l. PhaseFits l.parent l.edges l.phase) k.lives)
