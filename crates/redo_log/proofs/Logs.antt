-- The log of bodies and nothing behind it: what it holds, and how it grows.
use Rattle.std.proofs.Common.{◌≡◌, ℕ, ◌+◌, ◌<◌, ◌^◌, List, [], ◌∷◌, ◌++◌, length, drop, Option, sym, ◌∙◌, ap, arith, length-append}
use Rattle.std.specs.Option.{unwrap_or}
use Rattle.std.proofs.lemmas.List.{drop_all, length-take-le}
use Rattle.redo_log.specs.Cells.{cells_of, log_of, bodies, held, IsLogTo, GrowsBy, LogsAreRead, FitsOneMore}
use Rattle.redo_log.specs.Log.{staged, with_gate}
use Rattle.redo_log.proofs.Cells.{bodies-closed}
use Rattle.redo_log.proofs.Settled.{fits_push, is_open}

pub log_is_read : LogsAreRead
log_is_read list fit = bodies-closed list (0 ∷ []) fit (omega arith)

pub fits_one_more : FitsOneMore
fits_one_more list body fit fits = fits_push list body fit fits

-- the bytes behind the gate of a log go where one more body is stored: there are none
pub grows : (end : ℕ) (before : List ℕ) → IsLogTo end (held before) before → (body : List ℕ) → length body < 2 ^ 32 → GrowsBy body before (with_gate 1 end (staged body) before)
grows end before is body fits list fit exact =
    let held_is : held before ≡ list = ap (λ (o : Option (List (List ℕ))). unwrap_or o []) (ap bodies exact ∙ log_is_read list fit) in
    let gate_is : end ≡ length (cells_of list) = sym (length-take-le end before (omega (arith, is.within))) ∙ ap (λ (l : List ℕ). length l) is.cells ∙ ap (λ (l : List (List ℕ)). length (cells_of l)) held_is in
    let one_more : length before ≡ length (cells_of list) + 1 = ap (λ (l : List ℕ). length l) exact ∙ length-append (cells_of list) (0 ∷ []) in
    let nothing : drop (end + 1 + length (staged body)) before ≡ [] = drop_all (end + 1 + length (staged body)) before (omega (arith, gate_is, one_more)) in
    is_open end (held before) before is body fits
    ∙ ap (λ (l : List ℕ). cells_of (held before ++ body ∷ []) ++ (0 ∷ l)) nothing
    ∙ ap (λ (l : List (List ℕ)). log_of (l ++ body ∷ [])) held_is
