-- Keys that are taken to read: the locks from before stand first, each key is held, and to write them all then is to take them
-- to write.
use Rattle.std.proofs.Common.{◌≡◌, ℕ, ◌≤◌, Bool, true, false, List, [], ◌∷◌, ◌++◌, take, drop, length, refl, sym, ap, ◌∙◌, arith}
use Rattle.std.specs.List.{AllByRecursion, All}
use Rattle.std.specs.Str.{bytes_eq}
use Rattle.std.specs.Cmp.Lexicographic.{bytes_decides}
use Rattle.std.proofs.Math.Seq.{take-length}
use Rattle.std.proofs.lemmas.List.{take-append-le, take-append-drop}
use Rattle.std.proofs.lemmas.List.Elements.{All-from_recursion}
use Rattle.dtx_values.specs.declared.value.Value.{Value}
use Rattle.dtx_values.specs.Order.{same_value}
use Rattle.dtx_values.proofs.ValueOrder.{same_from_equal}
use Rattle.tran_ids.specs.declared.branch.BranchId.{BranchId}
use Rattle.row_locks.specs.Locks.{Lock, taken}
use Rattle.stmt_run.specs.Run.{take_keys}
use Rattle.stmt_run.specs.Keys.{IsHeld}

module _ (me : BranchId) (table : List ℕ) where
  -- ---- the locks from before stand first

  taken_behind : (ls : List Lock) (key : Value) → length ls ≤ length (taken ls me table key false)
  taken_behind [] key = omega arith
  taken_behind (l ∷ ls) key = grind (arith, taken_behind ls key)

  first_stay : (ls : List Lock) (key : Value) → take (length ls) (taken ls me table key false) ≡ ls
  first_stay [] key = refl
  first_stay (l ∷ ls) key = grind (arith, first_stay ls key, take-length ls)

  -- whatever keys are taken to read
  pub stay_first : (keys : List Value) (ls : List Lock) → take (length ls) (take_keys ls me table false keys) ≡ ls
  stay_first [] ls = take-length ls
  stay_first (k ∷ keys) ls =
      let ms = taken ls me table k false in
      let all = take_keys ms me table false keys in
      ap (take (length ls)) (sym (take-append-drop (length ms) all) ∙ ap (λ (xs : List Lock). xs ++ drop (length ms) all) (stay_first keys ms))
      ∙ take-append-le (length ls) ms (drop (length ms) all) (taken_behind ls k)
      ∙ first_stay ls k

  -- ---- a key that is taken is held, and those that are held stay held

  itself : (key : Value) → (bytes_eq table table ≡ true) × (same_value key key ≡ true)
  itself key = ((bytes_decides table table).1 refl, same_from_equal key key refl)

  held_now : (ls : List Lock) (key : Value) (writes : Bool) → IsHeld (taken ls me table key writes) table key
  held_now [] key writes = grind (arith, (itself key).0, (itself key).1)
  held_now (l ∷ ls) key writes = grind (arith, held_now ls key writes)

  pub held_still : (ls : List Lock) (key other : Value) (writes : Bool) → IsHeld ls table other → IsHeld (taken ls me table key writes) table other
  held_still [] key other writes held = absurd cc
  held_still (l ∷ ls) key other writes held = grind (arith, held_still ls key other writes, held)

  held_through : (keys : List Value) (ls : List Lock) (other : Value) (writes : Bool) → IsHeld ls table other → IsHeld (take_keys ls me table writes keys) table other
  held_through [] ls other writes held = held
  held_through (k ∷ keys) ls other writes held = held_through keys (taken ls me table k writes) other writes (held_still ls k other writes held)

  held_each : (keys : List Value) (ls : List Lock) (writes : Bool) → AllByRecursion (IsHeld (take_keys ls me table writes keys) table) keys
  held_each [] ls writes = tt
  held_each (k ∷ keys) ls writes = (held_through keys (taken ls me table k writes) k writes (held_now ls k writes), held_each keys (taken ls me table k writes) writes)

  -- keys that are taken are held
  pub all_held : (ls : List Lock) (keys : List Value) (writes : Bool) → All (IsHeld (take_keys ls me table writes keys) table) keys
  all_held ls keys writes = All-from_recursion (IsHeld (take_keys ls me table writes keys) table) keys (held_each keys ls writes)

  -- ---- taken to read, and then written

  twice : (ls : List Lock) (key : Value) → taken (taken ls me table key false) me table key true ≡ taken ls me table key true
  twice [] key = grind (arith, (itself key).0, (itself key).1)
  twice (l ∷ ls) key = grind (arith, twice ls key)

  swapped : (ls : List Lock) (key other : Value) → IsHeld ls table key
      → taken (taken ls me table other false) me table key true ≡ taken (taken ls me table key true) me table other false
  swapped [] key other held = absurd cc
  swapped (l ∷ ls) key other held = grind (arith, swapped ls key other, held)

  swapped_all : (keys : List Value) (ls : List Lock) (key : Value) → IsHeld ls table key
      → taken (take_keys ls me table false keys) me table key true ≡ take_keys (taken ls me table key true) me table false keys
  swapped_all [] ls key held = refl
  swapped_all (k ∷ keys) ls key held =
      swapped_all keys (taken ls me table k false) key (held_still ls k key false held)
      ∙ ap (λ (xs : List Lock). take_keys xs me table false keys) (swapped ls key k held)

  -- keys that are taken to read, and then written, are taken to write
  pub written_then : (keys : List Value) (ls : List Lock) → take_keys (take_keys ls me table false keys) me table true keys ≡ take_keys ls me table true keys
  written_then [] ls = refl
  written_then (k ∷ keys) ls =
      ap (λ (xs : List Lock). take_keys xs me table true keys)
      (swapped_all keys (taken ls me table k false) k (held_now ls k false) ∙ ap (λ (xs : List Lock). take_keys xs me table false keys) (twice ls k))
      ∙ written_then keys (taken ls me table k true)
