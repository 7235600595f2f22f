-- The places that a turn passes are those ahead of its branch.
use Rattle.std.proofs.Common.{◌≡◌, List, Option, Some, sym, ap, subst, ◌∙◌}
use Rattle.std.specs.Prelude.{option_map}
use Rattle.node_rules.specs.Data.{BranchId, RedoRecord, Msg, Live, KeptRow, Place, Input}
use Rattle.node_rules.specs.Inputs.{IsFit}
use Rattle.node_rules.specs.NodeState.{NodeState, live_at, kept_row_at}
use Rattle.node_rules.specs.Points.{passes, points_of}
use Rattle.node_rules.specs.Turn.{turn_of}
use Rattle.node_core.specs.declared.served.StampedTurn.{StampedTurn}
use Rattle.node_core.specs.Serves.{Serves}
use Rattle.node_points.specs.declared.looking.Ahead.{Ahead}
use Rattle.node_points.specs.declared.places.Passes.{Passes}
use Rattle.node_points.specs.Passing.{passes_as, turns, concerned, IsAhead, Foresees, TurnsAreOfTheirBranch}
use Rattle.node_disk.specs.declared.effects.DurableTurn.{DurableTurn}
use Rattle.node_disk.specs.Effects.{TellsPasses}

-- what is ahead of one branch, by its live branch and its row
pub ahead_so : (k : NodeState) (b : BranchId) (live : Option Live) (row : Option KeptRow) (a : Ahead) → live ≡ live_at k b → row ≡ kept_row_at k b → IsAhead live row a → Foresees k (Some b) a
ahead_so k b live row a is_live is_row is c same =
    let me : b ≡ c = cc in
    subst (λ (x : BranchId). IsAhead (live_at k x) (kept_row_at k x) a) me (subst (λ (o : Option Live). IsAhead o (kept_row_at k b) a) is_live (subst (λ (o : Option KeptRow). IsAhead live o a) is_row is))

-- a turn is of the branch that its input is about
pub passed_so : TurnsAreOfTheirBranch → (p : Place) (k new : NodeState) (input : Input) (served : StampedTurn) (a : Ahead) (found : Option Passes) (sent : List Msg) → sent ≡ served.sent → IsFit input → Foresees k (concerned k input) a
    → Serves (turn_of p k input) new served → (Foresees k (turns sent served.wrote) a → option_map passes_as found ≡ points_of k input sent served.wrote) → option_map passes_as found ≡ passes k input (turn_of p k input)
unfolding passes
passed_so law p k new input served a found sent is fit foresees serves gives =
    let o = turn_of p k input in
    let all_sent : sent ≡ o.sent = is ∙ serves.sent in
    let ahead : Foresees k (turns o.sent o.wrote) a = λ c here. foresees c (law p k input fit c here) in
    let before : Foresees k (turns sent served.wrote) a =
    subst (λ (msgs : List Msg). Foresees k (turns msgs served.wrote) a) (sym all_sent) (subst (λ (w : Option RedoRecord). Foresees k (turns o.sent w) a) (sym serves.wrote) ahead) in
    gives before ∙ (ap (λ (msgs : List Msg). points_of k input msgs served.wrote) all_sent ∙ ap (λ (w : Option RedoRecord). points_of k input o.sent w) serves.wrote)

-- what was read is what the turn is over
pub passes_for : (p : Place) (k : NodeState) (i : Input) (e : DurableTurn) → e.input ≡ i → option_map passes_as e.passes ≡ passes k i (turn_of p k i) → TellsPasses k (turn_of p k e.input) e
passes_for p k i e is told = subst (λ (j : Input). option_map passes_as e.passes ≡ passes k j (turn_of p k j)) (sym is) told
