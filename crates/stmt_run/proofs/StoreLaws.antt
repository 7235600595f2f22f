-- A store refuses the changes of a statement exactly where the rules of space do, and takes them as one set.
use Rattle.std.proofs.Common.{◌≡◌, ℕ, ◌+◌, ◌-◌, Bool, true, false, cond, List, [], ◌∷◌, ◌++◌, Option, None, Some, map, nat_lt, refl, sym, ap, ◌∙◌}
use Rattle.std.proofs.lemmas.List.Sums.{sum_by-cons, sum_by-append}
use Rattle.std.proofs.lemmas.Grind.{flat_map-append}
use Rattle.dtx_values.specs.declared.row.Change.{Change}
use Rattle.dtx_values.specs.Limits.{changes_limit}
use Rattle.tran_ids.specs.Numbers.{decimal}
use Rattle.sql_eval.specs.declared.keyed.Keyed.{Keyed}
use Rattle.sql_eval.specs.Rows.{change_length}
use Rattle.sql_check.specs.Refusals.{ora, dtx, else_refuse, refuse_if}
use Rattle.row_store.specs.declared.pending.ChangeSet.{ChangeSet}
use Rattle.row_store.specs.declared.store_err.StoreErr.{StoreErr}
use Rattle.row_store.specs.declared.store_err.StoreErr.TheVariants.{Full, TooLarge}
use Rattle.row_store.specs.Own.{before, changes_length, extents, undo_length}
use Rattle.row_store.specs.Pending.{undo_of}
use Rattle.row_store.specs.Store.{sets_at, set_seen, seen_by, own_changes, extents_free, with_set}
use Rattle.row_store.proofs.SetOver.{set_seen_over}
use Rattle.stmt_run.specs.Stored.{refusal_told, StoreRefusesAlike, StoreTakesOneSet}
use Rattle.stmt_run.proofs.Lengths.{joined_length}

-- the undo of changes is as long as the changes with the rows from before
undo_is : (view : List Keyed) (cs : List Change) → changes_length (map (before view) cs) ≡ undo_length view cs
undo_is view [] = refl
undo_is view (c ∷ cs) =
    let f = λ (d : Change). change_length (before view d) in
    sum_by-cons change_length (before view c) (map (before view) cs)
    ∙ ap (λ (n : ℕ). change_length (before view c) + n) (undo_is view cs) ∙ sym (sum_by-cons f c cs)

join_none : (cs : List Change) → cs ++ [] ≡ cs
join_none [] = refl
join_none (c ∷ cs) = ap (λ (ds : List Change). c ∷ ds) (join_none cs)

-- the undo of one set more
undo_with : (sets : List ChangeSet) (s : ChangeSet) → changes_length (undo_of (sets ++ s ∷ [])) ≡ changes_length (undo_of sets) + changes_length s.undo
undo_with sets s =
    ap changes_length (flat_map-append (λ (x : ChangeSet). x.undo) sets (s ∷ []))
    ∙ sum_by-append change_length (undo_of sets) (undo_of (s ∷ []))
    ∙ ap (λ (n : ℕ). changes_length (undo_of sets) + n) (ap changes_length (join_none s.undo))

-- both tests in one order
alike : (many few : Bool) (bytes need free : ℕ)
    → else_refuse (refuse_if many (dtx 16 [])) (refuse_if few (ora 30036 (decimal need ∷ decimal free ∷ [])))
    ≡ refusal_told (cond many (Some (TooLarge bytes)) (cond few (Some (Full need free)) None))
alike true few bytes need free = refl
alike false true bytes need free = refl
alike false false bytes need free = refl

-- the refusal of so many bytes and extents
abbrev refused : ℕ → ℕ → ℕ → Option StoreErr
refused free bytes need = cond (nat_lt changes_limit bytes) (Some (TooLarge bytes)) (cond (nat_lt free need) (Some (Full need free)) None)

pub store_refuses_alike : StoreRefusesAlike
store_refuses_alike s locks b t cs of_table =
    let sets = sets_at s.owns b in
    let view = seen_by s b t.name in
    let held = changes_length (undo_of sets) in
    let bytes = changes_length (own_changes s b) + changes_length cs in
    let need = extents (held + undo_length view cs) - extents held in
    let more : changes_length (undo_of (sets ++ set_seen s b cs ∷ [])) ≡ held + undo_length view cs =
    undo_with sets (set_seen s b cs)
    ∙ ap (λ (n : ℕ). held + n) (ap (λ (x : ChangeSet). changes_length x.undo) (set_seen_over s b t.name cs of_table) ∙ undo_is view cs) in
    alike (nat_lt changes_limit bytes) (nat_lt (extents_free s) need) bytes need (extents_free s)
    ∙ ap (λ (n : ℕ). refusal_told (refused (extents_free s) n need)) (sym (joined_length (own_changes s b) cs))
    ∙ ap (λ (n : ℕ). refusal_told (refused (extents_free s) (changes_length (own_changes s b ++ cs)) (extents n - extents held))) (sym more)

pub store_takes_one_set : StoreTakesOneSet
store_takes_one_set s b t cs of_table = ap (λ (x : ChangeSet). record s { owns = with_set s.owns b x }) (set_seen_over s b t.name cs of_table)
