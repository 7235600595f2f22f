-- Where it is so of all nodes, nothing flies any more, and each live root works, nothing is in doubt.
use Rattle.std.specs.Prelude.{◌≡◌, ◌≢◌, ℕ, false, List, ◌++◌, Some, None}
use Rattle.std.specs.List.{AllByRecursion}
use Rattle.node_rules.specs.Data.{BranchId}
use Rattle.node_rules.specs.Data.phases
use Rattle.node_rules.specs.NodeState.{NodeState}
use Rattle.run_rules.specs.Data.fates
use Rattle.run_rules.specs.Data.{Happening, Turn}
use Rattle.run_rules.specs.Facts.{Facts, first_facts, facts_of, node_at}
use Rattle.run_base_laws.specs.FreezeLaws.{was_asked}
use Rattle.run_base_laws.specs.InTurnLaws.{said_in}
use Rattle.run_rules.specs.Lawful.{MayTurn, History, IsLawfulRun, facts_at}
use Rattle.settle_laws.specs.Interval.{IsCalm, CalmStretch, Obliged}
use Rattle.settle_laws.specs.ObligeLaws.{after_turn}

-- nothing flies
abbrev pub NothingFlies : Facts → Type 0
NothingFlies f = AllByRecursion (λ x. x.fate ≢ fates.InFlight) f.net.packets

-- each live root works
abbrev pub EachRootWorks : Facts → Type 0
EachRootWorks f = (n : ℕ) (k : NodeState) → node_at f n ≡ Some k → AllByRecursion (λ l. l.parent ≡ None → l.phase ≡ phases.Working) k.lives

-- no live branch was asked to prepare, and each row knows its decision
abbrev pub NothingInDoubt : Facts → Type 0
NothingInDoubt f = (n : ℕ) (k : NodeState) → node_at f n ≡ Some k
    → AllByRecursion (λ l. (q : BranchId) → l.parent ≡ Some q → was_asked (said_in f) q l.me ≡ false) k.lives × AllByRecursion (λ s. s.decision ≢ None) k.stored.durable.kept

-- After a lawful run at whose end it is so.
abbrev pub ObligedAreSettled : Type 0
ObligedAreSettled = (t : History) → IsLawfulRun t → Obliged (λ n. Unit {0}) (facts_at t) → NothingFlies (facts_at t) → EachRootWorks (facts_at t) → NothingInDoubt (facts_at t)

-- After a calm turn each live root works, where each did before.
abbrev pub RootsGoOnWorking : Type 0
RootsGoOnWorking = (t : History) → IsLawfulRun t → (u : Turn) (k : NodeState) → MayTurn t.places (facts_at t) u k → IsCalm (facts_at t) u → EachRootWorks (facts_at t) → EachRootWorks (after_turn t u)

-- So it is at the end of a calm stretch, where it is so at its beginning.
abbrev pub RootsWorkThrough : Type 0
RootsWorkThrough = (t : History) → IsLawfulRun t → (hs mid : List Happening) → CalmStretch t hs mid → EachRootWorks (facts_of t.places t.commands (first_facts t.places) hs) → EachRootWorks (facts_of t.places t.commands (first_facts t.places) (hs ++ mid))
