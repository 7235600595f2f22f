-- What words mean, they mean alone; so a call ends as it has to for what they mean.
use Rattle.std.proofs.Common.{◌≡◌, ◌∙◌, ℕ, Bool, List, [], Option, Some, None, inl, inr, refl, sym, ap, subst, arith}
use Rattle.dtx_values.specs.Limits.{script_limit}
use Rattle.dtx_ports.specs.Whole.{ReadsWithin}
use Rattle.script_run.specs.declared.outcome.Run.{Run}
use Rattle.script_run.specs.declared.outcome.Status.{Status}
use Rattle.script_run.specs.declared.outcome.Status.TheVariants.{NoMemory}
use Rattle.script_run.specs.Ending.{Read, Written, IsComplete}
use Rattle.script_run.specs.Words.{EndsAtOnce}
use Rattle.chart_words.specs.CommandLine.{IsChosen, Means}
use Rattle.chart_words.specs.declared.Choices.{Choices}
use Rattle.chart_words.specs.declared.Words.{Words}
use Rattle.chart_words.specs.declared.Words.TheVariants as words
use Rattle.chart_run.specs.Ending.{EndsDrawn, EndsUnread}
use Rattle.chart_run.specs.Words.{AreOther, AskDraw, EndsAsked}
use Rattle.chart_run.proofs.EndingLemmas.{completed}

-- ---- what words mean

one_number : (other : ℕ) (o : Option (List ℕ)) (m n : ℕ) → IsChosen other o m → IsChosen other o n → m ≡ n
one_number other None m n p q = p ∙ sym q
one_number other (Some t) m n p q = p.0 ∙ sym q.0

same_choices : (v w : Choices) → v.text ≡ w.text → v.first ≡ w.first → v.last ≡ w.last → v ≡ w
same_choices v w text first last =
    ap (λ (b : Bool). record { text = b; first = v.first; last = v.last }) text
    ∙ (ap (λ (n : ℕ). record { text = w.text; first = n; last = v.last }) first
    ∙ ap (λ (n : ℕ). record { text = w.text; first = w.first; last = n }) last)

one_choice : (ws : List (List ℕ)) (v w : Choices) → AskDraw v ws → AskDraw w ws → v ≡ w
one_choice ws v w p q = same_choices v w (p.1 ∙ sym q.1) (one_number _ _ v.first w.first p.2 q.2) (one_number _ _ v.last w.last p.3 q.3)

-- ---- memory ran out over the words

-- nothing was read
nothing_read : (left : Option (List ℕ)) → ReadsWithin script_limit left left
nothing_read None = ([], tt, omega arith)
nothing_read (Some bytes) = ([], refl, omega arith)

at_once : (wanted : Choices) (r : Read) (w : Written) (run : Run) (status : Status) → EndsAtOnce r w run status → EndsDrawn wanted r w run status
at_once wanted r w run status ends =
    subst (λ (s : Status). EndsDrawn wanted r w run s) (sym ends.spent)
    (inl (ends.nothing, ends.kept, subst (λ (now : Option (List ℕ)). ReadsWithin script_limit r.before now) (sym ends.unread.0) (nothing_read r.before), ends.unread.1))

-- ---- how a call ends

pub other_ends : (ws : List (List ℕ)) (asked : Words) (r : Read) (w : Written) (run : Run) (status : Status) → Means ws asked → EndsAsked asked r w run status → AreOther ws → EndsUnread r w run status
other_ends ws (words.Draw wanted) r w run status means ends other = absurd (other means.0)
other_ends ws words.Usage r w run status means ends other = ends
other_ends ws words.NoMemory r w run status means ends other = record { unread = ends.unread; nothing = ends.nothing; explained = inr (ends.spent, ends.kept) }

pub drawn_ends : (ws : List (List ℕ)) (asked : Words) (r : Read) (w : Written) (run : Run) (status : Status) → Means ws asked → EndsAsked asked r w run status
    → (wanted : Choices) → AskDraw wanted ws → EndsDrawn wanted r w run status
drawn_ends ws (words.Draw asked) r w run status means ends wanted asks = subst (λ (v : Choices). EndsDrawn v r w run status) (one_choice ws asked wanted means asks) ends
drawn_ends ws words.Usage r w run status means ends wanted asks = absurd (means asks.0)
drawn_ends ws words.NoMemory r w run status means ends wanted asks = at_once wanted r w run status ends

pub drawn_completes : (ws : List (List ℕ)) (asked : Words) (r : Read) (w : Written) (run : Run) (status : Status) → Means ws asked → EndsAsked asked r w run status
    → (wanted : Choices) → AskDraw wanted ws → IsComplete r w status
drawn_completes ws asked r w run status means ends wanted asks = completed wanted r w run status (drawn_ends ws asked r w run status means ends wanted asks)
