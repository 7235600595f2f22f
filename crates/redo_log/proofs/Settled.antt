-- What a settled log holds, and what it holds while one body more is stored.
use Rattle.std.proofs.Common.{◌≡◌, ◌≢◌, inl, inr, Bool, true, false, ℕ, ◌+◌, ◌<◌, ◌^◌, List, [], ◌∷◌, ◌++◌, length, take, drop, Option, Some, sym, ◌∙◌, ap, subst, arith, append_assoc, length-append, take-append-drop}
use Rattle.std.specs.Int.{to_be_bytes, w32}
use Rattle.std.specs.Option.{unwrap_or}
use Rattle.std.proofs.lemmas.Bool.{cases_eq}
use Rattle.std.proofs.lemmas.List.{append-nil, take_at, drop_at, take-take, drop-take, length-take-le}
use Rattle.std.proofs.lemmas.List.Concat.{flat_map-append}
use Rattle.block_disk.specs.Images.{IsOnly}
use Rattle.redo_log.specs.Cells.{cell_of, cells_of, bodies, held, IsClosed, AllFit, IsLogTo}
use Rattle.redo_log.specs.Log.{IsSettled, HoldsWithOrWithout, staged, with_gate, MayBeImage}
use Rattle.redo_log.specs.Stands.{IsStoredIf, with_body_if}
use Rattle.redo_log.specs.declared.log.Log.{Log}
use Rattle.redo_log.proofs.Cells.{bodies-closed}

-- a log is not broken and intact
pub not_both : (broken : Bool) → broken ≡ true → broken ≡ false → ⊥
not_both true is is_not = cc
not_both false is is_not = cc

closed_first : (bytes : List ℕ) → IsClosed bytes → IsClosed (take 1 bytes)
closed_first [] is = is
closed_first (gate ∷ behind) is = is

first_closed : (bytes : List ℕ) → IsClosed (take 1 bytes) → IsClosed bytes
first_closed [] is = is
first_closed (gate ∷ behind) is = is

not_empty : (bytes : List ℕ) → IsClosed bytes → 0 < length bytes
not_empty [] is = absurd is
not_empty (gate ∷ behind) is = omega arith

pub fits_push : (list : List (List ℕ)) (body : List ℕ) → AllFit list → length body < 2 ^ 32 → AllFit (list ++ body ∷ [])
fits_push [] body fit fits = (fits, tt)
fits_push (first ∷ list) body fit fits = (fit.0, fits_push list body fit.1 fits)

pub cells-push : (list : List (List ℕ)) (body : List ℕ) → cells_of (list ++ body ∷ []) ≡ cells_of list ++ cell_of body
cells-push list body = flat_map-append cell_of list (body ∷ []) ∙ ap (λ (l : List ℕ). cells_of list ++ l) (append-nil (cell_of body))

-- cells and a closed gate
pub is_log : (end : ℕ) (list : List (List ℕ)) (rest bytes : List ℕ) → bytes ≡ cells_of list ++ rest → IsClosed rest → AllFit list → end ≡ length (cells_of list) → IsLogTo end list bytes
is_log end list rest bytes is shut fit ends =
    let front : take end bytes ≡ cells_of list = ap (λ (l : List ℕ). take end l) is ∙ take_at (cells_of list) rest end (sym ends) in
    let back : drop end bytes ≡ rest = ap (λ (l : List ℕ). drop end l) is ∙ drop_at (cells_of list) rest end (sym ends) in
    record {
      cells = front;
      within = omega (arith, ap (λ (l : List ℕ). length l) is, length-append (cells_of list) rest, not_empty rest shut, ends);
      closed = subst IsClosed (sym back) shut;
      fit = fit;
    }

pub log_holds : (end : ℕ) (list : List (List ℕ)) (bytes : List ℕ) → IsLogTo end list bytes → bodies bytes ≡ Some list
log_holds end list bytes is =
    ap bodies (sym (take-append-drop end bytes) ∙ ap (λ (l : List ℕ). l ++ drop end bytes) is.cells) ∙ bodies-closed list (drop end bytes) is.fit is.closed

-- a log whose disk holds that
pub settled : {D : Type 0} (content : D → List ℕ) (images : D → List ℕ → Type 0) (log : Log D) (list : List (List ℕ))
    → IsLogTo log.end list (content log.disk) → IsOnly (content log.disk) (images log.disk) → IsSettled content images log
settled content images log list is only =
    let holds : held (content log.disk) ≡ list = ap (λ (o : Option (List (List ℕ))). unwrap_or o []) (log_holds log.end list (content log.disk) is) in
    record { cells = subst (λ (l : List (List ℕ)). IsLogTo log.end l (content log.disk)) (sym holds) is; durable = only }

-- before: what the disk of a settled log holds
module _ (end : ℕ) (list : List (List ℕ)) (before : List ℕ) (is : IsLogTo end list before) where
  -- as long as the first closed gate stands, the bodies are those of before
  unchanged : (image : List ℕ) → take (end + 1) image ≡ take (end + 1) before → bodies image ≡ Some list
  unchanged image same =
      let front : take end image ≡ cells_of list =
      sym (take-take end (end + 1) image (omega arith)) ∙ ap (λ (l : List ℕ). take end l) same ∙ take-take end (end + 1) before (omega arith) ∙ is.cells in
      let first : take 1 (drop end image) ≡ take 1 (drop end before) =
      sym (drop-take end 1 image) ∙ ap (λ (l : List ℕ). drop end l) same ∙ drop-take end 1 before in
      let still_shut : IsClosed (drop end image) = first_closed (drop end image) (subst IsClosed (sym first) (closed_first (drop end before) is.closed)) in
      ap bodies (sym (take-append-drop end image) ∙ ap (λ (l : List ℕ). l ++ drop end image) front) ∙ bodies-closed list (drop end image) is.fit still_shut

  module _ (body : List ℕ) (fits : length body < 2 ^ 32) where
    pub is_open : with_gate 1 end (staged body) before ≡ cells_of (list ++ body ∷ []) ++ (0 ∷ drop (end + 1 + length (staged body)) before)
    is_open =
        let tail = drop (end + 1 + length (staged body)) before in
        let cell : (1 ∷ staged body) ++ tail ≡ cell_of body ++ (0 ∷ tail) = ap (λ (l : List ℕ). 1 ∷ (to_be_bytes w32 (length body) ++ l)) (append_assoc body (0 ∷ []) tail) in
        append_assoc (take end before) (1 ∷ staged body) tail ∙ ap (λ (l : List ℕ). l ++ ((1 ∷ staged body) ++ tail)) is.cells
        ∙ ap (λ (l : List ℕ). cells_of list ++ l) cell ∙ sym (append_assoc (cells_of list) (cell_of body) (0 ∷ tail))
        ∙ ap (λ (l : List ℕ). l ++ (0 ∷ tail)) (sym (cells-push list body))

    pub length-open : length (cells_of (list ++ body ∷ [])) ≡ end + (length body + 5)
    length-open = omega (arith, ap (λ (l : List ℕ). length l) (cells-push list body), length-append (cells_of list) (cell_of body), ap (λ (l : List ℕ). length l) is.cells, length-take-le end before (omega (arith, is.within)))

    pub opened_holds : bodies (with_gate 1 end (staged body) before) ≡ Some (list ++ body ∷ [])
    opened_holds = ap bodies is_open ∙ bodies-closed (list ++ body ∷ []) (0 ∷ drop (end + 1 + length (staged body)) before) (fits_push list body is.fit fits) (omega arith)

    shut_holds : (byte : ℕ) → byte ≢ 1 → bodies (with_gate byte end (staged body) before) ≡ Some list
    shut_holds byte shut_byte =
        let tail = drop (end + 1 + length (staged body)) before in
        ap bodies (append_assoc (take end before) (byte ∷ staged body) tail ∙ ap (λ (l : List ℕ). l ++ (byte ∷ staged body ++ tail)) is.cells) ∙ bodies-closed list (byte ∷ staged body ++ tail) is.fit shut_byte

    pub with_or_without : (image : List ℕ) → MayBeImage end (staged body) before image → HoldsWithOrWithout list body image
    with_or_without image may = elim may [
      | inl same ↦ inl (unchanged image same)
      | inr stands ↦ elim (cases_eq stands.0 1) [
        | inl is_one ↦ inr (ap bodies (stands.1 ∙ ap (λ (b : ℕ). with_gate b end (staged body) before) is_one) ∙ opened_holds)
        | inr not_one ↦ inl (ap bodies stands.1 ∙ shut_holds stands.0 not_one)
      ]
    ]

    -- and by whether the bytes count
    pub stored_if : (stands : Bool) (image : List ℕ) → IsStoredIf stands end (staged body) before image → bodies image ≡ Some (with_body_if stands list body)
    stored_if true image is = ap bodies is ∙ opened_holds
    stored_if false image is = elim is [ inl same ↦ unchanged image same | inr shut ↦ ap bodies shut.2 ∙ shut_holds shut.0 shut.1 ]
