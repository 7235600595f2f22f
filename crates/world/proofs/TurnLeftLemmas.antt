-- A turn leaves the lines of the commands before and what was shown, whatever becomes of it.
use Rattle.std.proofs.Common.{◌≡◌, ◌++◌, List, [], ◌∷◌, ap, sym, subst, ◌∙◌}
use Rattle.node_rules.specs.Data.{Place}
use Rattle.run_rules.specs.Data.{Command, Turn}
use Rattle.run_rules.specs.Data.happenings
use Rattle.run_rules.specs.Facts.{node_at, outcome_at}
use Rattle.run_rules.specs.Past.{next}
use Rattle.run_rules.specs.RunReport.{Past, RunReport}
use Rattle.run_trace.specs.Recorded.{RunSoFar, past_of}
use Rattle.world.specs.declared.world.World.{World}
use Rattle.world.specs.Left.{StillReports}
use Rattle.world.specs.Linked.{IsLinked}
use Rattle.world_parts.specs.Shown.{ShowDisks, Shown}
use Rattle.world.proofs.StepLemmas.{all_on}
use Rattle.world_parts.proofs.ToStopLemmas.{turn_lines}

next_lines : (places : List Place) (asked : List Command) (p : Past) (u : Turn) → (next places asked p (happenings.Turn u)).run_report.lines ≡ p.run_report.lines
unfolding next
next_lines places asked p u = turn_lines p.facts.command (node_at p.facts u.node) p.run_report u (outcome_at places p.facts u)

module _ (w v : World) (lines : v.run_report.lines ≡ w.run_report.lines) (shown : v.shown ≡ w.shown) (still : StillReports w) where
  -- where the trace has the turn
  pub turn_still : (u : Turn) → v.trace ≡ record w.trace { happenings = w.trace.happenings ++ happenings.Turn u ∷ [] } → past_of v.trace ≡ next w.trace.places w.trace.asked (past_of w.trace) (happenings.Turn u) → StillReports v
  turn_still u trace past = record {
    lines = lines ∙ (still.lines ∙ sym (ap (λ (q : Past). q.run_report.lines) past ∙ next_lines w.trace.places w.trace.asked (past_of w.trace) u));
    shown = subst (λ (r : RunSoFar). ShowDisks r v.shown) (sym trace)
        (subst (λ (s : Shown). ShowDisks (record w.trace { happenings = w.trace.happenings ++ happenings.Turn u ∷ [] }) s) (sym shown) (all_on w.trace (happenings.Turn u) (λ c same. absurd cc) w.shown still.shown));
  }

  -- and where it has not
  pub same_still : v.trace ≡ w.trace → StillReports v
  same_still trace = record {
    lines = lines ∙ (still.lines ∙ ap (λ (r : RunSoFar). (past_of r).run_report.lines) (sym trace));
    shown = subst (λ (r : RunSoFar). ShowDisks r v.shown) (sym trace) (subst (λ (s : Shown). ShowDisks w.trace s) (sym shown) still.shown);
  }

-- so it is before a step
pub tells_linked : (w : World) → IsLinked w → StillReports w
tells_linked w linked = record { lines = ap (λ (t : RunReport). t.lines) linked.held.parts.run_report; shown = linked.held.shown }
