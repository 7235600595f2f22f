-- What words mean, they mean alone; so a call ends as it has to for what they mean.
use Rattle.std.proofs.Common.{◌≡◌, ◌∙◌, ◌⊎◌, ℕ, Bool, List, [], Option, Some, None, inl, inr, refl, sym, ap, subst, arith}
use Rattle.std.specs.Str.Parse.{digits_value, without_leading_plus}
use Rattle.dtx_values.specs.Limits.{script_limit}
use Rattle.dtx_ports.specs.Whole.{ReadsWithin}
use Rattle.words.specs.CommandLine.{Means, make_text}
use Rattle.words.specs.declared.Words.{Words}
use Rattle.words.specs.declared.Words.TheVariants as words
use Rattle.script_run.specs.declared.outcome.Run.{Run}
use Rattle.script_run.specs.declared.outcome.Status.{Status}
use Rattle.script_run.specs.declared.outcome.Status.TheVariants.{NoMemory}
use Rattle.script_run.specs.Ending.{Read, Written, EndsRead, EndsUnread, IsComplete, IsUnread}
use Rattle.script_run.specs.Making.{EndsMade}
use Rattle.script_run.specs.Words.{AreOther, AskMake, AskRun, EndsAsked, EndsAtOnce}
use Rattle.script_run.proofs.Endings.{is_complete}

-- ---- what words mean

one_book : (ws : List (List ℕ)) (b c : Bool) → AskRun b ws → AskRun c ws → b ≡ c
one_book ws b c p q = p.2 ∙ sym q.2

none_is_some : (t : List ℕ) → None ≡ Some t → ⊥
none_is_some t e = cc

-- a script from the source and one from a number are not asked for at once
not_both : (ws : List (List ℕ)) (b c : Bool) (n : ℕ) → AskRun b ws → AskMake n c ws → ⊥
not_both ws b c n p q = none_is_some q.1.0 (sym p.1 ∙ q.1.1)

one_made_book : (ws : List (List ℕ)) (m n : ℕ) (b c : Bool) → AskMake m b ws → AskMake n c ws → b ≡ c
one_made_book ws m n b c p q = p.2 ∙ sym q.2

some_is : (x y : List ℕ) → Some x ≡ Some y → x ≡ y
some_is x y e = cc

one_number : (ws : List (List ℕ)) (m n : ℕ) (b c : Bool) → AskMake m b ws → AskMake n c ws → m ≡ n
one_number ws m n b c p q =
    p.1.2 ∙ (ap (λ (t : List ℕ). digits_value 10 (without_leading_plus t)) (some_is p.1.0 q.1.0 (sym p.1.1 ∙ q.1.1)) ∙ sym q.1.2)

-- ---- memory ran out over the words

-- nothing was read
nothing_read : (left : Option (List ℕ)) → ReadsWithin script_limit left left
nothing_read None = ([], tt, omega arith)
nothing_read (Some bytes) = ([], refl, omega arith)

at_once : (r : Read) (w : Written) (run : Run) (status : Status) (b : Bool) → EndsAtOnce r w run status → EndsRead b r w run status
at_once r w run status b ends =
    subst (λ (s : Status). EndsRead b r w run s) (sym ends.spent)
    (inl (ends.nothing, ends.kept, subst (λ (now : Option (List ℕ)). ReadsWithin script_limit r.before now) (sym ends.unread.0) (nothing_read r.before), ends.unread.1))

-- ---- how a call ends

pub other_ends : (ws : List (List ℕ)) (asked : Words) (r : Read) (w : Written) (run : Run) (status : Status) → Means ws asked → EndsAsked asked r w run status → AreOther ws → EndsUnread r w run status
other_ends ws (words.Run book) r w run status means ends other = absurd (other means.0)
other_ends ws (words.Make number book) r w run status means ends other = absurd (other means.0)
other_ends ws words.Usage r w run status means ends other = ends
other_ends ws words.NoMemory r w run status means ends other = record { unread = ends.unread; nothing = ends.nothing; explained = inr (ends.spent, ends.kept) }

pub run_ends : (ws : List (List ℕ)) (asked : Words) (r : Read) (w : Written) (run : Run) (status : Status) → Means ws asked → EndsAsked asked r w run status
    → (b : Bool) → AskRun b ws → EndsRead b r w run status
run_ends ws (words.Run book) r w run status means ends b asks = subst (λ (x : Bool). EndsRead x r w run status) (one_book ws book b means asks) ends
run_ends ws (words.Make number book) r w run status means ends b asks = absurd (not_both ws b book number asks means)
run_ends ws words.Usage r w run status means ends b asks = absurd (means asks.0)
run_ends ws words.NoMemory r w run status means ends b asks = at_once r w run status b ends

pub run_completes : (ws : List (List ℕ)) (asked : Words) (r : Read) (w : Written) (run : Run) (status : Status) → Means ws asked → EndsAsked asked r w run status
    → (b : Bool) → AskRun b ws → IsComplete r w status
run_completes ws asked r w run status means ends b asks = is_complete b r w run status (run_ends ws asked r w run status means ends b asks)

pub made_unread : (ws : List (List ℕ)) (asked : Words) (r : Read) (w : Written) (run : Run) (status : Status) → Means ws asked → EndsAsked asked r w run status
    → (n : ℕ) (b : Bool) → AskMake n b ws → IsUnread r
made_unread ws (words.Run book) r w run status means ends n b asks = absurd (not_both ws book b n means asks)
made_unread ws (words.Make number book) r w run status means ends n b asks = ends.0
made_unread ws words.Usage r w run status means ends n b asks = absurd (means asks.0)
made_unread ws words.NoMemory r w run status means ends n b asks = ends.unread

-- nothing was made
nothing_made : (r : Read) (w : Written) (run : Run) (status : Status) (n : ℕ) (b : Bool) → EndsAtOnce r w run status → EndsMade n b w run status
nothing_made r w run status n b ends = subst (λ (s : Status). EndsMade n b w run s) (sym ends.spent) (inr ends.nothing, ends.kept)

pub made_ends : (ws : List (List ℕ)) (asked : Words) (r : Read) (w : Written) (run : Run) (status : Status) → Means ws asked → EndsAsked asked r w run status
    → (n : ℕ) (b : Bool) → AskMake n b ws → EndsMade n b w run status
made_ends ws (words.Run book) r w run status means ends n b asks = absurd (not_both ws book b n means asks)
made_ends ws (words.Make number book) r w run status means ends n b asks =
    subst (λ (x : Bool). EndsMade n x w run status) (one_made_book ws number n book b means asks)
    (subst (λ (k : ℕ). EndsMade k book w run status) (one_number ws number n book b means asks) ends.1)
made_ends ws words.Usage r w run status means ends n b asks = absurd (means asks.0)
made_ends ws words.NoMemory r w run status means ends n b asks = nothing_made r w run status n b ends
