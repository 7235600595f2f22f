-- A run that is not refused has passed the checks and the test of the keys in doubt; so what it does is what the statement means,
-- over the view that it saw and over each other view that agrees with this one but at keys in doubt.
use Rattle.std.proofs.Common.{◌≡◌, ◌&&◌, ◌||◌, ℕ, Bool, true, false, cond, List, [], ◌∷◌, Option, None, Some, map, filter, find, length, is_some, refl, sym, ap, subst, ◌∙◌, true≢false}
use Rattle.std.specs.List.{list_any, AllByRecursion}
use Rattle.std.specs.Option.{option_map}
use Rattle.std.specs.Str.{bytes_eq}
use Rattle.tran_ids.specs.declared.branch.BranchId.{BranchId}
use Rattle.dtx_values.specs.declared.value.Value.{Value}
use Rattle.dtx_values.specs.declared.table.Table.{Table}
use Rattle.dtx_values.specs.declared.row.Change.{Change}
use Rattle.dtx_values.specs.declared.answer.Refusal.{Refusal}
use Rattle.dtx_values.specs.declared.answer.Done.{Done}
use Rattle.dtx_values.specs.Order.{same_value}
use Rattle.dtx_values.proofs.ValueOrder.{same_is, equal_from_same}
use Rattle.sql_statement.specs.declared.statement.Stmt.{Stmt}
use Rattle.sql_check.specs.Words.{first_some}
use Rattle.sql_check.specs.Refusals.{else_refuse}
use Rattle.sql_check.specs.Checks.{checked}
use Rattle.sql_eval.specs.declared.keyed.Keyed.{Keyed}
use Rattle.sql_eval.specs.declared.meant.Meant.{Meant}
use Rattle.sql_eval.specs.declared.meant.Meant.TheVariants.{Gives, Changes, Refused}
use Rattle.sql_eval.specs.Meaning.{examined, written, meant, meant_over, unless}
use Rattle.sql_eval.proofs.MadeLemmas.{count_is_length}
use Rattle.row_locks.specs.Locks.{Lock, is_lock_on, keys_held, named}
use Rattle.row_locks.specs.Held.{in_doubt_one, doubt_on}
use Rattle.stmt_run.specs.declared.ran.StmtOutcome.{StmtOutcome}
use Rattle.stmt_run.specs.declared.ran.StmtOutcome.TheVariants.{Refuses, Reads, Writes}
use Rattle.stmt_run.specs.Run.{StmtContext, too_old_refusal, held_refusal, in_doubt_refusal, locked_refusal, space_refusal, ran_within, ran_meant, ran_locked, ran_checked, ran_over}
use Rattle.stmt_view_laws.specs.Views.{AreCertain, AreLocked, SeesAlike}
use Rattle.stmt_view_laws.specs.RunLaws.{ExaminesNoDoubt, RunsAsMeant, RunDoesAsMeant, RunsDoAsMeant, IsViewBeside, IsMeantOver, RunIsMeantOver, RunsMeanAlike}
use Rattle.stmt_view_laws.proofs.MeantLemmas.{meant_alike, writes_alike, avoids_alike}

-- ---- no refusal, no key in doubt

none_of : (f : Value → Option BranchId) (keys : List Value) → first_some (map f keys) ≡ None → AllByRecursion (λ key. f key ≡ None) keys
none_of f [] none = tt
none_of f (k ∷ ks) none = by (f k) refl (none_of f ks) none
  where
    by : (o : Option BranchId) → f k ≡ o → (first_some (map f ks) ≡ None → AllByRecursion (λ key. f key ≡ None) ks) → first_some (o ∷ map f ks) ≡ None → AllByRecursion (λ key. f key ≡ None) (k ∷ ks)
    by (Some b) is rest none = absurd cc
    by None is rest none = (is, rest none)

nobody : (code : ℕ) (holder : Option BranchId) → held_refusal code holder ≡ None → holder ≡ None
nobody code None none = refl
nobody code (Some b) none = absurd cc

first_none : (a b : Option Refusal) → else_refuse a b ≡ None → a ≡ None
first_none (Some r) b none = absurd cc
first_none None b none = refl

-- ---- what a run does

module _ (g : StmtContext) (s : Stmt) (t : Table) where
  abbrev Says : StmtOutcome → Type 0
  Says r = RunDoesAsMeant g s t r

  within_says : (o : Option Refusal) (d : Done) (n : ℕ) (cs : List Change) → checked s t ≡ None → ExaminesNoDoubt g s t → meant_over s t g.view ≡ Changes d n cs
      → Says (ran_within g o d cs (written s t g.view))
  unfolding meant
  within_says (Some x) d n cs passed certain is = tt
  within_says None d n cs passed certain is = record {
    means = ap (λ (o : Option Refusal). unless o (meant_over s t g.view)) passed ∙ is ∙ ap (λ (m : ℕ). Changes d m cs) (count_is_length s t g.view d n cs is);
    writes = refl;
    certain = certain;
  }

  meant_says : (m : Meant) → checked s t ≡ None → ExaminesNoDoubt g s t → meant_over s t g.view ≡ m → Says (ran_meant g (written s t g.view) m)
  unfolding meant
  meant_says (Refused x) passed certain is = tt
  meant_says (Gives rows) passed certain is =
      record { means = ap (λ (o : Option Refusal). unless o (meant_over s t g.view)) passed ∙ is; writes = refl; certain = certain }
  meant_says (Changes d n cs) passed certain is = within_says (space_refusal g cs) d n cs passed certain is

  abbrev keys : List Value
  keys = examined s t g.view (keys_held g.locks t.name)

  locked_says : (o : Option Refusal) → checked s t ≡ None → else_refuse (in_doubt_refusal g t keys) (locked_refusal g t (written s t g.view)) ≡ o → Says (ran_locked g s t o)
  locked_says (Some x) passed is = tt
  locked_says None passed is =
      meant_says (meant_over s t g.view) passed (none_of (doubt_on g.locks t.name) keys (nobody 1591 _ (first_none _ _ is))) refl

  -- where what the branch sees is kept
  kept_says : (old : Option Refusal) → checked s t ≡ None → Says (ran_locked g s t (else_refuse old (else_refuse (in_doubt_refusal g t keys) (locked_refusal g t (written s t g.view)))))
  kept_says (Some x) passed = tt
  kept_says None passed = locked_says (else_refuse (in_doubt_refusal g t keys) (locked_refusal g t (written s t g.view))) passed refl

  checked_says : (o : Option Refusal) → checked s t ≡ o → Says (ran_checked g s t o)
  checked_says (Some x) is = tt
  checked_says None is = kept_says (too_old_refusal g) is

pub runs_do_as_meant : RunsDoAsMeant
unfolding ran_over
runs_do_as_meant g s t r is = subst (RunDoesAsMeant g s t) is (checked_says g s t (checked s t) refl)

-- ---- keys in doubt are locked

-- the keys of locks on a table, of which this key is one
module _ (table : List ℕ) (key : Value) where
  held_among : (ls : List Lock) → is_some (find (is_lock_on table key) ls) ≡ true → list_any (same_value key) (keys_held ls table) ≡ true
  held_among [] is = absurd cc
  held_among (l ∷ ls) is = by (bytes_eq l.table table) (same_value l.key key) refl (held_among ls) is
    where
      by : (here same : Bool) → same_value l.key key ≡ same → (is_some (find (is_lock_on table key) ls) ≡ true → list_any (same_value key) (keys_held ls table) ≡ true)
          → is_some (cond (here && same) (Some l) (find (is_lock_on table key) ls)) ≡ true
          → list_any (same_value key) (map (λ x. x.key) (cond here (l ∷ filter (λ x. bytes_eq x.table table) ls) (filter (λ x. bytes_eq x.table table) ls))) ≡ true
      by true true same rest is = ap (λ (b : Bool). b || list_any (same_value key) (keys_held ls table)) (same_is l.key key ∙ same)
      by true false same rest is = ap (λ (b : Bool). b || list_any (same_value key) (keys_held ls table)) (same_is l.key key ∙ same) ∙ rest is
      by false same_ same rest is = rest is

  some_holder : (o : Option Lock) → is_some (in_doubt_one (option_map named o)) ≡ true → is_some o ≡ true
  some_holder None is = absurd cc
  some_holder (Some l) is = refl

  doubt_among : (ls : List Lock) → is_some (doubt_on ls table key) ≡ true → list_any (same_value key) (keys_held ls table) ≡ true
  doubt_among ls is = held_among ls (some_holder (find (is_lock_on table key) ls) is)

module _ (ls : List Lock) (table : List ℕ) where
  abbrev IsHeld : Value → Type 0
  IsHeld key = is_some (doubt_on ls table key) ≡ true

  doubts_are_locked : (doubtful : List Value) → AllByRecursion IsHeld doubtful → AreLocked (keys_held ls table) doubtful
  doubts_are_locked [] held = tt
  doubts_are_locked (k ∷ ks) held = (doubt_among table k ls held.0, doubts_are_locked ks held.1)

  -- a key that no branch in doubt holds is none of these
  not_doubtful : (key : Value) (doubtful : List Value) → AllByRecursion IsHeld doubtful → doubt_on ls table key ≡ None → list_any (same_value key) doubtful ≡ false
  not_doubtful key [] held none = refl
  not_doubtful key (k ∷ ks) held none = by (same_value key k) refl (not_doubtful key ks held.1 none)
    where
      by : (b : Bool) → same_value key k ≡ b → list_any (same_value key) ks ≡ false → (b || list_any (same_value key) ks) ≡ false
      by true same rest =
          absurd (true≢false (sym held.0 ∙ ap (λ (q : Value). is_some (doubt_on ls table q)) (sym (equal_from_same key k same)) ∙ ap is_some none))
      by false same rest = rest

  are_certain : (doubtful : List Value) → AllByRecursion IsHeld doubtful → (keys : List Value) → AllByRecursion (λ key. doubt_on ls table key ≡ None) keys → AreCertain doubtful keys
  are_certain doubtful held [] none = tt
  are_certain doubtful held (k ∷ ks) none = (not_doubtful k doubtful held none.0, are_certain doubtful held ks none.1)

-- ---- over the other view

module _ (g : StmtContext) (s : Stmt) (t : Table) (doubtful : List Value) (more : List Keyed) (beside : IsViewBeside g t doubtful more) where
  sees : ExaminesNoDoubt g s t → SeesAlike s t doubtful (keys_held g.locks t.name) g.view more
  sees certain = record {
    one_key = beside.one_key;
    first = beside.first;
    second = beside.second;
    agree = beside.agree;
    locks = doubts_are_locked g.locks t.name doubtful beside.held;
    avoids = are_certain g.locks t.name doubtful beside.held (examined s t g.view (keys_held g.locks t.name)) certain;
  }

  meant_beside : (m : Meant) (ks : List Value) → RunsAsMeant g s t m ks → IsMeantOver s t doubtful more m ks
  meant_beside m ks run =
      let alike = sees run.certain in
      record {
        means = sym (meant_alike s t doubtful (keys_held g.locks t.name) g.view more alike) ∙ run.means;
        writes = run.writes ∙ writes_alike s t doubtful (keys_held g.locks t.name) g.view more alike;
        certain = λ locked. avoids_alike s t doubtful (keys_held g.locks t.name) locked g.view more alike;
      }

  run_beside : (r : StmtOutcome) → RunDoesAsMeant g s t r → RunIsMeantOver s t doubtful more r
  run_beside (Refuses x) run = tt
  run_beside (Reads rows ks) run = meant_beside (Gives rows) ks run
  run_beside (Writes d cs ks undo) run = meant_beside (Changes d (length cs) cs) ks run

pub runs_mean_alike : RunsMeanAlike
runs_mean_alike g s t doubtful more r beside is = run_beside g s t doubtful more beside r (runs_do_as_meant g s t r is)
