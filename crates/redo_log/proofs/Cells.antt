-- What bytes that begin with cells hold.
use Rattle.std.proofs.Common.{◌≡◌, ℕ, zero, suc, ◌+◌, ◌<◌, ◌≤◌, ◌^◌, List, [], ◌∷◌, ◌++◌, length, take, drop, Option, Some, None, refl, ◌∙◌, ap, arith, append_assoc, length-append, length-drop}
use Rattle.std.specs.Int.{from_be_bytes, to_be_bytes, w32}
use Rattle.std.specs.Option.{option_map}
use Rattle.std.proofs.lemmas.Bool.Decides.{nat_tests}
use Rattle.std.proofs.lemmas.List.{append-nil, take_at, drop_at}
use Rattle.std.proofs.lemmas.Nat.{from_be_bytes-to_be_bytes_4}
use Rattle.redo_log.specs.Cells.{cell_of, cells_of, stated_length, stated_body, bodies_within, bodies, IsClosed, AllFit}

-- a gate is counted past the end of the bytes as well as not at all
pub enough : (n m : ℕ) (bytes : List ℕ) → length bytes ≤ n → length bytes ≤ m → bodies_within n bytes ≡ bodies_within m bytes
unfolding bodies_within
enough zero zero bytes a b = refl
enough zero (suc m) [] a b = refl
enough zero (suc m) (gate ∷ behind) a b = absurd (omega arith)
enough (suc n) zero [] a b = refl
enough (suc n) zero (gate ∷ behind) a b = absurd (omega arith)
enough (suc n) (suc m) [] a b = refl
enough (suc n) (suc m) (gate ∷ behind) a b =
    let rest = drop (4 + stated_length behind) behind in
    let short : length rest ≤ n = omega (arith, length-drop (4 + stated_length behind) behind) in
    let short' : length rest ≤ m = omega (arith, length-drop (4 + stated_length behind) behind) in
    let same : bodies_within n rest ≡ bodies_within m rest = enough n m rest short short' in
    rw same

-- a gate that is not open ends the log
pub closed : (bytes : List ℕ) → IsClosed bytes → bodies bytes ≡ Some []
unfolding bodies bodies_within
closed [] is = absurd is
closed (gate ∷ behind) is = grind (arith, nat_tests)

pub none_of_nothing : bodies [] ≡ None
unfolding bodies bodies_within
none_of_nothing = refl

-- an open gate whose cell is cut short
pub cut_off : (behind : List ℕ) → length behind < 4 + stated_length behind → bodies (1 ∷ behind) ≡ None
unfolding bodies bodies_within
cut_off behind short = grind (arith, nat_tests)

pub is_stated : (n : ℕ) (front behind : List ℕ) → n ≡ from_be_bytes w32 front → front ≡ take 4 behind → n ≡ stated_length behind
unfolding stated_length
is_stated n front behind is at_front = is ∙ ap (λ (l : List ℕ). from_be_bytes w32 l) at_front

pub cut_off_at : (bytes : List ℕ) (gate : ℕ) (behind : List ℕ) → bytes ≡ gate ∷ behind → gate ≡ 1 → length behind < 4 + stated_length behind → bodies bytes ≡ None
cut_off_at bytes gate behind is is_open short = ap bodies (is ∙ ap (λ (g : ℕ). g ∷ behind) is_open) ∙ cut_off behind short

-- an open gate and its whole cell
pub opened : (behind : List ℕ) → 4 + stated_length behind ≤ length behind
    → bodies (1 ∷ behind) ≡ option_map (λ others. stated_body behind ∷ others) (bodies (drop (4 + stated_length behind) behind))
unfolding bodies bodies_within
opened behind whole =
    let rest = drop (4 + stated_length behind) behind in
    let short : length rest ≤ length behind = omega (arith, length-drop (4 + stated_length behind) behind) in
    let same : bodies_within (length behind) rest ≡ bodies_within (length rest) rest = enough (length behind) (length rest) rest short (omega arith) in
    rw (← same) (grind (arith, nat_tests))

stated : (body rest : List ℕ) → length body < 2 ^ 32 → stated_length (to_be_bytes w32 (length body) ++ body ++ rest) ≡ length body
unfolding stated_length
stated body rest fits = from_be_bytes-to_be_bytes_4 (length body) fits

-- a cell and what follows it
pub bodies-cell : (body rest : List ℕ) → length body < 2 ^ 32 → bodies (cell_of body ++ rest) ≡ option_map (λ others. body ∷ others) (bodies rest)
bodies-cell body rest fits =
    let behind = to_be_bytes w32 (length body) ++ body ++ rest in
    let says : stated_length behind ≡ length body = stated body rest fits in
    let whole : 4 + stated_length behind ≤ length behind = omega (arith, says, length-append body rest) in
    let its_body : stated_body behind ≡ body = rw says (take_at body rest (length body) refl) in
    let its_rest : drop (4 + stated_length behind) behind ≡ rest = ap (λ (n : ℕ). drop (4 + n) behind) says ∙ drop_at (to_be_bytes w32 (length body) ++ body) rest (4 + length body) (omega arith) in
    opened behind whole ∙ ap (λ (b : List ℕ). option_map (λ (others : List (List ℕ)). b ∷ others) (bodies (drop (4 + stated_length behind) behind))) its_body
    ∙ ap (λ (l : List ℕ). option_map (λ (others : List (List ℕ)). body ∷ others) (bodies l)) its_rest

nothing_before : (o : Option (List (List ℕ))) → o ≡ option_map (λ others. [] ++ others) o
nothing_before None = refl
nothing_before (Some list) = refl

one_more_before : (body : List ℕ) (list : List (List ℕ)) (o : Option (List (List ℕ)))
    → option_map (λ others. body ∷ others) (option_map (λ others. list ++ others) o) ≡ option_map (λ others. (body ∷ list) ++ others) o
one_more_before body list None = refl
one_more_before body list (Some others) = refl

-- cells and what follows them
pub bodies-cells : (list : List (List ℕ)) (rest : List ℕ) → AllFit list → bodies (cells_of list ++ rest) ≡ option_map (λ others. list ++ others) (bodies rest)
bodies-cells [] rest fit = nothing_before (bodies rest)
bodies-cells (body ∷ list) rest fit =
    let whole : cells_of (body ∷ list) ++ rest ≡ cell_of body ++ (cells_of list ++ rest) = append_assoc (cell_of body) (cells_of list) rest in
    ap bodies whole ∙ bodies-cell body (cells_of list ++ rest) fit.0
    ∙ ap (λ (o : Option (List (List ℕ))). option_map (λ (others : List (List ℕ)). body ∷ others) o) (bodies-cells list rest fit.1)
    ∙ one_more_before body list (bodies rest)

-- cells and a gate that ends them, whatever follows
pub bodies-closed : (list : List (List ℕ)) (rest : List ℕ) → AllFit list → IsClosed rest → bodies (cells_of list ++ rest) ≡ Some list
bodies-closed list rest fit is = bodies-cells list rest fit ∙ ap (λ (o : Option (List (List ℕ))). option_map (λ (others : List (List ℕ)). list ++ others) o) (closed rest is) ∙ ap (λ (l : List (List ℕ)). Some l) (append-nil list)
