-- How a call ends, from how dtx ends on a report in memory.
use Rattle.std.proofs.Common.{◌≡◌, ℕ, ◌+◌, false, List, [], ◌++◌, Option, None, Some, refl, sym, ap, subst, ◌∙◌, inl, inr, arith}
use Rattle.std.specs.Io.KnownBytes.{Keeps, Appends, Consumes}
use Rattle.script_read.specs.Asked.{asked}
use Rattle.script_run.specs.declared.outcome.Run.{Run}
use Rattle.script_run.specs.declared.outcome.Status.{Status}
use Rattle.script_run.specs.declared.outcome.Status.TheVariants.{Done, BadScript, Usage, NoMemory, ReadFault, WriteFault, TooLong}
use Rattle.script_run.specs.Headline.{IsRun, nothing_done}
use Rattle.script_run.specs.Ending.{Read, Written, TextIsCut, EndsRead, IsComplete, ending_of, due_of}
use Rattle.script_run.proofs.Headlines.{with_status}
use Rattle.script_run.proofs.Endings.{is_complete}
use Rattle.chart_words.specs.declared.Choices.{Choices}
use Rattle.chart_run.specs.Ending.{EndsLined, EndsShown, EndsDrawn}

-- ---- what dtx wrote to a sink in memory

-- a sink in memory that held nothing, and now holds this report
abbrev kept : List ℕ → List ℕ → ℕ → ℕ → Written
kept before report faults now = record { before = Some before; now = Some report; faults_before = faults; faults_now = now }

-- ---- the line of a bad script

refused : (wanted : Choices) (r : Read) (w : Written) (run : Run) (before report : List ℕ) (f g : ℕ) (status : Status)
    → before ≡ [] → EndsRead false r (kept before report f g) run BadScript → EndsLined BadScript w report status → EndsDrawn wanted r w run status
refused wanted r w run before report f g BadScript empty ends written =
    let is : report ≡ due_of (asked ends.0) false run = ends.3.2 ∙ ap (λ (b : List ℕ). b ++ due_of (asked ends.0) false run) empty in
    (ends.0, ends.1, ends.2, (ends.3.0, ends.3.1, subst (λ (l : List ℕ). Appends w.before w.now l) is written.1))
refused wanted r w run before report f g WriteFault empty ends written =
    let is : report ≡ due_of (asked ends.0) false run = ends.3.2 ∙ ap (λ (b : List ℕ). b ++ due_of (asked ends.0) false run) empty in
    (ends.0, inr (record { all = ends.1; unfailed = ends.2; bad = ends.3.0; nothing = ends.3.1 }, subst (λ (l : List ℕ). TextIsCut w l) is written))
refused wanted r w run before report f g Done empty ends written = let clash : Done ≡ BadScript = written.0 in absurd cc
refused wanted r w run before report f g Usage empty ends written = let clash : Usage ≡ BadScript = written.0 in absurd cc
refused wanted r w run before report f g NoMemory empty ends written = let clash : NoMemory ≡ BadScript = written.0 in absurd cc
refused wanted r w run before report f g ReadFault empty ends written = let clash : ReadFault ≡ BadScript = written.0 in absurd cc
refused wanted r w run before report f g TooLong empty ends written = let clash : TooLong ≡ BadScript = written.0 in absurd cc

-- ---- the picture of a run

pictured : (wanted : Choices) (r : Read) (w m : Written) (run : Run) (report : List ℕ) (status : Status)
    → EndsRead false r m run Done → EndsShown wanted run report Done w status → EndsDrawn wanted r w run status
pictured wanted r w m run report Done ends shown = (ends.0, record { all = ends.1; unfailed = ends.2; asked = ends.3.0; whole = ends.3.1 }, shown)
pictured wanted r w m run report WriteFault ends shown = (ends.0, inl (record { all = ends.1; unfailed = ends.2; asked = ends.3.0; whole = ends.3.1 }, shown))
pictured wanted r w m run report NoMemory ends shown = inr (ends.0, ends.1, ends.2, (inl ends.3.0, shown))
pictured wanted r w m run report BadScript ends shown = absurd shown
pictured wanted r w m run report Usage ends shown = absurd shown
pictured wanted r w m run report ReadFault ends shown = absurd shown
pictured wanted r w m run report TooLong ends shown = absurd shown

-- ---- no room for the report

crowded : (wanted : Choices) (r : Read) (w m : Written) (run : Run)
    → EndsRead false r m run WriteFault → Keeps w.before w.now → EndsDrawn wanted r w run NoMemory
crowded wanted r w m run (bytes, all, unfailed, (inl whole, cut)) keeps = inr (bytes, all, unfailed, (inl whole.0, keeps))
crowded wanted r w m run (bytes, all, unfailed, (inr bad, cut)) keeps = inr (bytes, all, unfailed, (inr bad.1, keeps))

-- ---- nothing was run, or memory ran out

starved : (r : Read) (w m : Written) (run : Run) → EndsRead false r m run NoMemory → Keeps w.before w.now → EndsRead false r w run NoMemory
starved r w m run (inl (nothing, kept, within, unfailed)) keeps = inl (nothing, keeps, within, unfailed)
starved r w m run (inr (bytes, all, unfailed, (done, kept))) keeps = inr (bytes, all, unfailed, (done, keeps))

-- ---- all of them

pub ends_drawn : (wanted : Choices) (r : Read) (w : Written) (run : Run) (before report : List ℕ) (f g : ℕ) (ended status : Status)
    → before ≡ [] → EndsRead false r (kept before report f g) run ended → EndsShown wanted run report ended w status → EndsDrawn wanted r w run status
ends_drawn wanted r w run before report f g Done status empty ends shown = pictured wanted r w (kept before report f g) run report status ends shown
ends_drawn wanted r w run before report f g BadScript status empty ends shown = refused wanted r w run before report f g status empty ends shown
ends_drawn wanted r w run before report f g WriteFault status empty ends shown =
    subst (λ (s : Status). EndsDrawn wanted r w run s) (sym shown.0) (crowded wanted r w (kept before report f g) run ends shown.1)
ends_drawn wanted r w run before report f g NoMemory status empty ends shown =
    subst (λ (s : Status). EndsDrawn wanted r w run s) (sym shown.0) (starved r w (kept before report f g) run ends shown.1)
ends_drawn wanted r w run before report f g ReadFault status empty ends shown =
    subst (λ (s : Status). EndsDrawn wanted r w run s) (sym shown.0) (ends.0, shown.1, ends.2, ends.3)
ends_drawn wanted r w run before report f g TooLong status empty ends shown =
    subst (λ (s : Status). EndsDrawn wanted r w run s) (sym shown.0) (ends.0, shown.1, ends.2, ends.3)
ends_drawn wanted r w run before report f g Usage status empty ends shown = absurd ends

-- what was run stands, whatever is written of it
pub runs_too : (wanted : Choices) (w : Written) (run : Run) (report : List ℕ) (ended status : Status) → EndsShown wanted run report ended w status → IsRun run (ending_of ended) → IsRun run (ending_of status)
runs_too wanted w run report Done status shown is = with_status run status is
runs_too wanted w run report BadScript status shown is = with_status run status is
runs_too wanted w run report WriteFault status shown is = with_status run status is
runs_too wanted w run report NoMemory status shown is = subst (λ (s : Status). IsRun run (ending_of s)) (sym shown.0) is
runs_too wanted w run report ReadFault status shown is = with_status run status is
runs_too wanted w run report TooLong status shown is = with_status run status is
runs_too wanted w run report Usage status shown is = with_status run status is

-- ---- no memory at all

nothing_read : (before : Option (List ℕ)) → Consumes before before []
nothing_read None = tt
nothing_read (Some bytes) = refl

nothing_written : (before : Option (List ℕ)) → Keeps before before
nothing_written None = tt
nothing_written (Some bytes) = refl

pub ends_at_once : (wanted : Choices) (left written : Option (List ℕ)) (f g : ℕ) (run : Run) → run ≡ nothing_done
    → EndsDrawn wanted (record { before = left; now = left; faults_before = f; faults_now = f }) (record { before = written; now = written; faults_before = g; faults_now = g }) run NoMemory
ends_at_once wanted left written f g run nothing = inl (nothing, nothing_written written, ([], nothing_read left, omega arith), refl)

pub ruleset endings = (ends_drawn, runs_too, ends_at_once, with_status)

-- ---- completeness

pub completed : (wanted : Choices) (r : Read) (w : Written) (run : Run) (status : Status) → EndsDrawn wanted r w run status → IsComplete r w status
completed wanted r w run Done ends bytes before short reads source sink = inl refl
completed wanted r w run WriteFault (bytes, inl ends) all before short reads source sink = absurd (sink ends.1.failed)
completed wanted r w run WriteFault (bytes, inr ends) all before short reads source sink = absurd (sink ends.1.failed)
completed wanted r w run BadScript ends bytes before short reads source sink = is_complete false r w run BadScript ends bytes before short reads source sink
completed wanted r w run NoMemory ends bytes before short reads source sink = inr refl
completed wanted r w run Usage ends bytes before short reads source sink = absurd ends
completed wanted r w run ReadFault ends bytes before short reads source sink = is_complete false r w run ReadFault ends bytes before short reads source sink
completed wanted r w run TooLong ends bytes before short reads source sink = is_complete false r w run TooLong ends bytes before short reads source sink
