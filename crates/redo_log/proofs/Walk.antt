-- How bytes are gone through cell by cell.
use Rattle.std.proofs.Common.{◌≡◌, ◌⊎◌, inl, inr, ℕ, zero, suc, ◌+◌, ◌-◌, ◌<◌, ◌^◌, List, ◌∷◌, ◌++◌, length, Option, Some, None, true, refl, sym, ◌∙◌, ap, arith, length-append}
use Rattle.std.specs.Option.{option_map, is_some}
use Rattle.redo_log.specs.Cells.{cell_of, cells_of, bodies, numbered_in, IsClosed, AllFit}
use Rattle.redo_log.specs.Gates.{IsGateOf}
use Rattle.redo_log.specs.declared.gate.Gate.{Gate}
use Rattle.redo_log.specs.declared.gate.Gate.TheVariants.{Open, Closed, CutOff}
use Rattle.redo_log.proofs.Cells.{closed, bodies-cell, bodies-cells}

-- behind whole cells the bytes are no log
pub none_behind : (bytes : List ℕ) (list : List (List ℕ)) (rest : List ℕ) → bytes ≡ cells_of list ++ rest → AllFit list → bodies rest ≡ None → bodies bytes ≡ None
none_behind bytes list rest is fit none = ap bodies is ∙ bodies-cells list rest fit ∙ ap (λ (o : Option (List (List ℕ))). option_map (λ (others : List (List ℕ)). list ++ others) o) none

one_counted : (found : ℕ) (body : List ℕ) (o : Option (List (List ℕ)))
    → option_map (λ (list : List (List ℕ)). found + length list) (option_map (λ (others : List (List ℕ)). body ∷ others) o) ≡ option_map (λ (list : List (List ℕ)). found + 1 + length list) o
one_counted found body None = refl
one_counted found body (Some list) = let e : found + suc (length list) ≡ found + 1 + length list = omega arith in ap (λ (n : ℕ). Some n) e

pub count_more : (found : ℕ) (rest body behind : List ℕ) → rest ≡ cell_of body ++ behind → length body < 2 ^ 32
    → option_map (λ (list : List (List ℕ)). found + length list) (bodies rest) ≡ option_map (λ (list : List (List ℕ)). found + 1 + length list) (bodies behind)
count_more found rest body behind cell fits =
    ap (λ (o : Option (List (List ℕ))). option_map (λ (list : List (List ℕ)). found + length list) o) (ap bodies cell ∙ bodies-cell body behind fits) ∙ one_counted found body (bodies behind)

pub count_all : (found : ℕ) (rest : List ℕ) → IsClosed rest → option_map (λ (list : List (List ℕ)). found + length list) (bodies rest) ≡ Some found
count_all found rest is =
    ap (λ (o : Option (List (List ℕ))). option_map (λ (list : List (List ℕ)). found + length list) o) (closed rest is)
    ∙ (let e : found + 0 ≡ found = omega arith in ap (λ (n : ℕ). Some n) e)

pub length-cell : (rest body behind : List ℕ) → rest ≡ cell_of body ++ behind → length rest ≡ length body + 5 + length behind
length-cell rest body behind cell = omega (arith, ap (λ (l : List ℕ). length l) cell, length-append (cell_of body) behind)

-- at a gate that ends the log there is no body of any number
none_at_end : (rest : List ℕ) (n : ℕ) → IsClosed rest → numbered_in (bodies rest) n ≡ None
none_at_end rest zero is = ap (λ (o : Option (List (List ℕ))). numbered_in o zero) (closed rest is)
none_at_end rest (suc n) is = ap (λ (o : Option (List (List ℕ))). numbered_in o (suc n)) (closed rest is)

-- nor is there where no whole cell stands first
pub none_found : (gate : Gate) (bytes : List ℕ) (n : ℕ) → IsGateOf bytes gate → (gate ≡ Closed) ⊎ (gate ≡ CutOff) → numbered_in (bodies bytes) n ≡ None
none_found (Open body behind) bytes n is (inl e) = absurd (cc)
none_found (Open body behind) bytes n is (inr e) = absurd (cc)
none_found Closed bytes n is e = none_at_end bytes n is
none_found CutOff bytes n is e = ap (λ (o : Option (List (List ℕ))). numbered_in o n) is

first_numbered : (body : List ℕ) (o : Option (List (List ℕ))) → is_some (option_map (λ (others : List (List ℕ)). body ∷ others) o) ≡ true
    → numbered_in (option_map (λ (others : List (List ℕ)). body ∷ others) o) 1 ≡ Some body
first_numbered body None is = absurd (cc)
first_numbered body (Some list) is = refl

later_numbered : (body : List ℕ) (n : ℕ) (o : Option (List (List ℕ))) → numbered_in (option_map (λ (others : List (List ℕ)). body ∷ others) o) (suc (suc n)) ≡ numbered_in o (suc n)
later_numbered body n None = refl
later_numbered body n (Some list) = refl

still_some : (body : List ℕ) (o : Option (List (List ℕ))) → is_some (option_map (λ (others : List (List ℕ)). body ∷ others) o) ≡ true → is_some o ≡ true
still_some body None is = is
still_some body (Some list) is = refl

module _ (rest body behind : List ℕ) (cell : rest ≡ cell_of body ++ behind) (fits : length body < 2 ^ 32) where
  opens : bodies rest ≡ option_map (λ (others : List (List ℕ)). body ∷ others) (bodies behind)
  opens = ap bodies cell ∙ bodies-cell body behind fits

  -- the first number is that of the first cell's body
  pub first_body : is_some (bodies rest) ≡ true → numbered_in (bodies rest) 1 ≡ Some body
  first_body is = ap (λ (o : Option (List (List ℕ))). numbered_in o 1) opens ∙ first_numbered body (bodies behind) (ap (λ (o : Option (List (List ℕ))). is_some o) (sym opens) ∙ is)

  -- each later one is one less behind it
  pub later_body : (n : ℕ) → 1 < n → numbered_in (bodies rest) n ≡ numbered_in (bodies behind) (n - 1)
  later_body zero more = absurd (omega arith)
  later_body (suc zero) more = absurd (omega arith)
  later_body (suc (suc n)) more = ap (λ (o : Option (List (List ℕ))). numbered_in o (suc (suc n))) opens ∙ later_numbered body n (bodies behind)
      ∙ (let less : suc n ≡ suc (suc n) - 1 = omega arith in ap (λ (k : ℕ). numbered_in (bodies behind) k) less)

  pub log_behind : is_some (bodies rest) ≡ true → is_some (bodies behind) ≡ true
  log_behind is = still_some body (bodies behind) (ap (λ (o : Option (List (List ℕ))). is_some o) (sym opens) ∙ is)
