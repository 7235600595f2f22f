-- What is left of a world where memory ran out can be all_lines, also in the midst of the begin of a command.
use Rattle.std.proofs.Common.{◌≡◌, inl, inr, ◌==◌, ◌+◌, ◌≤◌, ℕ, Bool, true, false, if◌then◌else◌, List, [], ◌∷◌, ◌++◌, map, Option, Some, None, Result, Ok, Err, OnErr, refl, ap, sym, subst, ◌∙◌, arith}
use Rattle.std.specs.List.{AllByRecursion}
use Rattle.std.proofs.lemmas.Bool.{eqb-true}
use Rattle.run_rules.specs.Data.{AnswerLine, Command, Happening}
use Rattle.run_rules.specs.Data.happenings
use Rattle.run_rules.specs.Commands.{begins}
use Rattle.run_rules.specs.Due.{Begins, Due}
use Rattle.run_rules.specs.Reported.{IsBetweenCommands}
use Rattle.run_rules.specs.Lines.{all_lines}
use Rattle.run_rules.specs.Past.{next}
use Rattle.run_rules.specs.Shown.{shown_disk}
use Rattle.run_rules.specs.RunReport.{Past, RunReport}
use Rattle.run_rules.proofs.ListLemmas.{all_weaker}
use Rattle.run_trace.specs.Recorded.{RunSoFar, IsRunOfScript, past_of}
use Rattle.world.specs.declared.world.World.{World}
use Rattle.world.specs.Needs.{due_in}
use Rattle.world.specs.Left.{IsLeft, LinesStay, StillReports}
use Rattle.world.specs.Linked.{HoldsRun, IsLinked}
use Rattle.world_parts.specs.Shown.{ShowDisks, Shown, disk_reported, is_place, shown_at, showing}
use Rattle.world.specs.Slots.{MayShow, ShowsAfter, shows_of}
use Rattle.world_parts.proofs.BegunLemmas.{begins_next_command}
use Rattle.world_parts.proofs.LineLemmas.{same_reports, reported_of}
use Rattle.world_parts.proofs.PlaceLemmas.{IsNumbered, run_numbered}
use Rattle.world.proofs.StepLemmas.{all_on}

-- ---- the lines of the commands before

pub held_still : (w : World) → HoldsRun w → StillReports w
held_still w held = record { lines = ap (λ (t : RunReport). t.lines) held.parts.run_report; shown = held.shown }

pub linked_still : (w : World) → IsLinked w → StillReports w
linked_still w linked = held_still w linked.held

pub stays_still : (w v : World) → StillReports w → LinesStay w v → StillReports v
stays_still w v still stays = record {
  lines = stays.lines ∙ (still.lines ∙ ap (λ (r : RunSoFar). (past_of r).run_report.lines) (sym stays.trace));
  shown = subst (λ (r : RunSoFar). ShowDisks r v.shown) (sym stays.trace) (subst (λ (s : Shown). ShowDisks w.trace s) (sym stays.shown) still.shown);
}

-- one happening more, of which no command begins
pub pushed_still : (w v : World) (h : Happening) → ((c : ℕ) → h ≡ happenings.Begun c → ⊥) → IsRunOfScript w.trace → StillReports w
    → v.trace ≡ record w.trace { happenings = w.trace.happenings ++ h ∷ [] } → past_of v.trace ≡ next w.trace.places w.trace.asked (past_of w.trace) h
    → v.run_report.lines ≡ w.run_report.lines → v.shown ≡ w.shown → StillReports v
pushed_still w v h none run still trace past lines shown =
    let numbered : IsNumbered (past_of w.trace) = run_numbered w.trace run in
    let same : (next w.trace.places w.trace.asked (past_of w.trace) h).run_report.lines ≡ (past_of w.trace).run_report.lines =
    (same_reports (λ c. c ≤ (past_of w.trace).facts.command) w.trace.places w.trace.asked (past_of w.trace) h numbered.is none).lines in
    record {
      lines = lines ∙ (still.lines ∙ (sym same ∙ ap (λ (p : Past). p.run_report.lines) (sym past)));
      shown = subst (λ (r : RunSoFar). ShowDisks r v.shown) (sym trace)
          (subst (λ (s : Shown). ShowDisks (record w.trace { happenings = w.trace.happenings ++ h ∷ [] }) s) (sym shown) (all_on w.trace h none w.shown still.shown));
    }

pub still_left : (w : World) → StillReports w → IsLeft w
still_left w still = inl still

-- ---- in the midst of the begin of a command

-- the lines of other commands are all_lines alike
alike_but : (n : ℕ) (before now : Shown) → ((c : ℕ) → n == c ≡ false → shown_at now c ≡ shown_at before c)
    → (lines : List AnswerLine) → AllByRecursion (λ (l : AnswerLine). n == l.command ≡ false) lines → map (disk_reported now) lines ≡ map (disk_reported before) lines
alike_but n before now others [] all = refl
alike_but n before now others (l ∷ ls) all =
    let one : disk_reported now l ≡ disk_reported before l = ap (λ (o : Option (List (List ℕ))). if is_place l.said then showing l o else l) (others l.command all.0) in
    rw (one, alike_but n before now others ls all.1) refl

-- only what this command shows is new
shows_but : (bytes : ℕ → List ℕ) (n : ℕ) (shows : Option ℕ) (before now : Shown) → ShowsAfter bytes n shows before now → (c : ℕ) → n == c ≡ false → shown_at now c ≡ shown_at before c
shows_but bytes n None before now is c other = ap (λ (s : Shown). shown_at s c) is
shows_but bytes n (Some node) before now is c other = is c ∙ ap (λ (b : Bool). if b then Some (shown_disk (bytes node)) else shown_at before c) other

pub may_show_but : (bytes : ℕ → List ℕ) (n : ℕ) (x : Command) (before now : Shown) → MayShow bytes n x before now → (c : ℕ) → n == c ≡ false → shown_at now c ≡ shown_at before c
may_show_but bytes n x before now is c other = shows_but bytes n (shows_of x) before now is c other

differs : (n c running : ℕ) → c ≤ running → n ≡ running + 1 → n == c ≡ false
differs n c running less next_is = by (n == c) refl
  where
    by : (b : Bool) → n == c ≡ b → n == c ≡ false
    by true is = let same = eqb-true n c is in absurd (omega (arith, same, less, next_is))
    by false is = is

pub begin_left : (w v : World) (n : ℕ) (x : Command) → IsLinked w → due_in w.trace ≡ Begins n → v.trace ≡ w.trace
    → v.run_report ≡ begins w.trace.places (past_of w.trace).facts (past_of w.trace).run_report n x → ((c : ℕ) → n == c ≡ false → shown_at v.shown c ≡ shown_at w.shown c) → IsLeft v
begin_left w v n x linked due trace run_report others =
    let p : Past = past_of w.trace in
    let lines : v.run_report.lines ≡ all_lines p.facts p.run_report = ap (λ (t : RunReport). t.lines) run_report in
    let below = reported_of (λ c. c ≤ p.facts.command) p (run_numbered w.trace linked.held.script.run).is in
    let next_is : n ≡ p.facts.command + 1 = begins_next_command w.trace.asked p n due in
    let apart = all_weaker (λ (l : AnswerLine). l.command ≤ p.facts.command) (λ (l : AnswerLine). n == l.command ≡ false) (λ l less. differs n l.command p.facts.command less next_is) (all_lines p.facts p.run_report) below in
    inr (record {
      between = subst (λ (r : RunSoFar). IsBetweenCommands (due_in r)) (sym trace) (subst (λ (d : Due). IsBetweenCommands d) (sym due) tt);
      lines = lines ∙ ap (λ (r : RunSoFar). all_lines (past_of r).facts (past_of r).run_report) (sym trace);
      before = w.shown;
      shown = subst (λ (r : RunSoFar). ShowDisks r w.shown) (sym trace) linked.held.shown;
      alike = subst (λ (ls : List AnswerLine). map (disk_reported v.shown) ls ≡ map (disk_reported w.shown) ls) (sym lines) (alike_but n w.shown v.shown others (all_lines p.facts p.run_report) apart);
    })

-- what holds in any case holds of an error
pub on_err : {T E P : Type 0} (r : Result T E) → P → OnErr r P
on_err (Ok x) p = tt
on_err (Err e) p = p

pub ruleset left_steps = (linked_still, held_still, stays_still)

pub ruleset begin_left_steps = (linked_still, stays_still, still_left)
