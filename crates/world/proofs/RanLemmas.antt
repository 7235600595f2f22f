-- What a world that is left tells is what is to be all_lines of its run.
use Rattle.std.proofs.Common.{◌≡◌, inl, inr, List, map, ap, sym, subst, ◌∙◌}
use Rattle.node_rules.specs.Data.{Place}
use Rattle.run_rules.specs.Data.{AnswerLine, Command, Happening}
use Rattle.run_rules.specs.Due.{Due, Ends}
use Rattle.run_rules.specs.Entries.{book_of}
use Rattle.run_rules.specs.Reported.{IsBetweenCommands, IsReported, LinesAre}
use Rattle.run_rules.specs.Lawful.{AreOfAScript}
use Rattle.run_rules.specs.Lines.{all_lines}
use Rattle.run_trace.specs.Recorded.{RunSoFar, IsRunOfScript, past_of}
use Rattle.world.specs.declared.ran.Ended.{Ended}
use Rattle.world.specs.declared.ran.Ended.TheVariants.{AllRun, OutOfMemory}
use Rattle.world.specs.declared.ran.EndedRun.{EndedRun}
use Rattle.world.specs.declared.world.World.{World}
use Rattle.world.specs.Left.{StillReports, ReportsBetween}
use Rattle.world.specs.Linked.{IsLinked}
use Rattle.world.specs.Needs.{due_in}
use Rattle.world.specs.Pending.{pending_in}
use Rattle.world.specs.Ran.{IsLeftBy, IsRan, as_ending, run_of}
use Rattle.world_parts.specs.Shown.{IsOnce, ShowDisks, Shown, disk_reported, history_of, places_in}
use Rattle.world_parts.proofs.PlaceLemmas.{numbered_told, run_numbered}
use Rattle.world_parts.proofs.ToldLemmas.{before_are, told_are}

-- ---- each command has one line at most that stands for a disk

still_once : (w : World) → IsRunOfScript w.trace → StillReports w → IsOnce (places_in w.run_report.lines)
still_once w run still = subst (λ (ls : List AnswerLine). IsOnce (places_in ls)) (sym still.lines) (run_numbered w.trace run).once

between_once : (w : World) → IsRunOfScript w.trace → ReportsBetween w → IsOnce (places_in w.run_report.lines)
between_once w run between = subst (λ (ls : List AnswerLine). IsOnce (places_in ls)) (sym between.lines) (numbered_told (past_of w.trace) (run_numbered w.trace run))

pub once_of : (ended : Ended) (w : World) → IsRunOfScript w.trace → IsLeftBy ended w → IsOnce (places_in w.run_report.lines)
once_of AllRun w run left = between_once w run left.1
once_of OutOfMemory w run (inl still) = still_once w run still
once_of OutOfMemory w run (inr between) = between_once w run between

-- ---- what is all_lines

module _ (w : World) (script : AreOfAScript w.trace.places w.trace.asked) where
  still_told : StillReports w → LinesAre (history_of w.trace script) (past_of w.trace).run_report.lines (map (disk_reported w.shown) w.run_report.lines)
  still_told still =
      subst (λ (ls : List AnswerLine). LinesAre (history_of w.trace script) (past_of w.trace).run_report.lines (map (disk_reported w.shown) ls)) (sym still.lines)
      (before_are w.trace script w.shown still.shown)

  between_told : ReportsBetween w → LinesAre (history_of w.trace script) (all_lines (past_of w.trace).facts (past_of w.trace).run_report) (map (disk_reported w.shown) w.run_report.lines)
  between_told between =
      subst (λ (ls : List AnswerLine). LinesAre (history_of w.trace script) (all_lines (past_of w.trace).facts (past_of w.trace).run_report) ls) (sym between.alike)
      (subst (λ (ls : List AnswerLine). LinesAre (history_of w.trace script) (all_lines (past_of w.trace).facts (past_of w.trace).run_report) (map (disk_reported between.before) ls)) (sym between.lines)
      (told_are w.trace script between.before between.shown))

  left_told : (ended : Ended) → IsLeftBy ended w → IsReported (history_of w.trace script) (map (disk_reported w.shown) w.run_report.lines) (as_ending ended)
  left_told AllRun left = (left.0, between_told left.1)
  left_told OutOfMemory (inl still) = inl (still_told still)
  left_told OutOfMemory (inr between) = inr (between.between, between_told between)

-- ---- the run

same_run : (r : RunSoFar) (places : List Place) (asked : List Command) (hs : List Happening) → places ≡ r.places → asked ≡ r.asked → hs ≡ r.happenings → r ≡ record { places = places; asked = asked; happenings = hs }
same_run r places asked hs p a h =
    ap (λ (ps : List Place). record { places = ps; asked = r.asked; happenings = r.happenings }) (sym p)
    ∙ (ap (λ (cs : List Command). record { places = places; asked = cs; happenings = r.happenings }) (sym a)
    ∙ ap (λ (gs : List Happening). record { places = places; asked = asked; happenings = gs }) (sym h))

pub is_ran : (w : World) (ran : EndedRun) → ran.recorded.places ≡ w.trace.places → ran.recorded.asked ≡ w.trace.asked → ran.recorded.happenings ≡ w.trace.happenings → ran.recorded.book ≡ book_of w.trace.happenings
    → IsRunOfScript w.trace → ran.answers ≡ map (disk_reported w.shown) w.run_report.lines → IsLeftBy ran.ended w
    → (ran.ended ≡ AllRun → ran.pending ≡ pending_in (past_of w.trace).facts) → IsRan ran
is_ran w ran places asked happenings book run answers left pending =
    let same : w.trace ≡ run_of ran.recorded = same_run w.trace ran.recorded.places ran.recorded.asked ran.recorded.happenings places asked happenings in
    record {
      due = subst (λ (r : RunSoFar). IsRunOfScript r) same run;
      booked = book ∙ ap book_of (sym happenings);
      told = subst (λ (r : RunSoFar). (script : AreOfAScript r.places r.asked) → IsReported (history_of r script) ran.answers (as_ending ran.ended)) same
          (λ script. subst (λ (ls : List AnswerLine). IsReported (history_of w.trace script) ls (as_ending ran.ended)) (sym answers) (left_told w script ran.ended left));
      pending = subst (λ (r : RunSoFar). ran.ended ≡ AllRun → ran.pending ≡ pending_in (past_of r).facts) same pending;
    }

-- ---- the end of a script

pub ends_between : (w v : World) → IsLinked w → due_in w.trace ≡ Ends → v.trace ≡ w.trace → v.shown ≡ w.shown → v.run_report.lines ≡ all_lines (past_of w.trace).facts w.run_report → IsLeftBy AllRun v
ends_between w v linked ends trace shown lines = (
  ap due_in trace ∙ ends,
  record {
    between = subst (λ (d : Due). IsBetweenCommands d) (sym (ap due_in trace ∙ ends)) tt;
    lines = lines ∙ (ap (λ t. all_lines (past_of w.trace).facts t) linked.held.parts.run_report ∙ ap (λ (r : RunSoFar). all_lines (past_of r).facts (past_of r).run_report) (sym trace));
    before = w.shown;
    shown = subst (λ (r : RunSoFar). ShowDisks r w.shown) (sym trace) linked.held.shown;
    alike = ap (λ (s : Shown). map (disk_reported s) v.run_report.lines) shown;
  },
)

pub ruleset ran_steps = (ends_between)

pub ruleset ran_ends = (once_of, is_ran)
