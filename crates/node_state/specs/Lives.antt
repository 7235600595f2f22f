-- What the rules make of a live branch.
use Rattle.std.specs.Prelude.{ℕ, ◌≤◌, ◌||◌, Bool, List, length, Option, None, Some}
use Rattle.dtx_values.specs.Limits.{link_limit}
use Rattle.tran_ids.specs.Listed.{numbered, set_numbered}
use Rattle.session_tree.specs.declared.edge.Edge.{Edge}
use Rattle.session_tree.specs.declared.live.Live.{Live}
use Rattle.session_tree.specs.declared.live.Phase.{Phase}
use Rattle.session_tree.specs.declared.live.Phase.TheVariants as phases
use Rattle.dtx_values.specs.declared.advice.Advice.{Advice}
use Rattle.prepare_phase.specs.Acts.{after_prepare}
use Rattle.node_rules.specs.Prepare.{with_comment}

-- a branch has no more children than a tree has branches
abbrev pub HasRoom : Live → Type 0
HasRoom l = length l.edges ≤ link_limit

-- only a working branch hears COMMIT or Prepare, with its comment
abbrev pub prepared_in : Live → Bool → List ℕ → Phase → Live
prepared_in l site_below comment phases.Working = after_prepare (with_comment l comment) site_below
prepared_in l site_below comment _ = l

-- a branch after COMMIT or Prepare
abbrev pub prepared : Bool → List ℕ → Live → Live
prepared site_below comment l = prepared_in l site_below comment l.phase

-- a branch after a run that made changes, or none
abbrev pub changed_by : Bool → Live → Live
changed_by changes l = record l { changed = l.changed || changes }

-- a branch that has made changes from now on, or has not
abbrev pub with_changes : Bool → Live → Live
with_changes changed l = record l { changed = changed }

-- a branch that takes a call with this advice
abbrev pub advised : Option Advice → Live → Live
advised advice l = record l { advice = advice }

-- a child with its weight and branches
abbrev pub as_told : Option ℕ → ℕ → Edge → Edge
as_told weight count e = record e { weight = weight; count = count }

-- children of whom the one of this number, which this is, is told so
abbrev pub told : ℕ → Option ℕ → ℕ → List Edge → Option Edge → List Edge
told i weight count es None = es
told i weight count es (Some e) = set_numbered es i (as_told weight count e)

-- a branch that hears the Reply of the child of this number
abbrev pub heard : ℕ → Option ℕ → ℕ → Live → Live
heard i weight count l = record l { edges = told i weight count l.edges (numbered l.edges i) }
