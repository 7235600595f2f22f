-- How many lines end, counted by the places at which they end.
use Rattle.std.proofs.Common.{◌≡◌, ℕ, zero, suc, ◌+◌, ◌-◌, Bool, List, length, get_or, take, inl, inr, sym, ◌∙◌, zero-add, arith}
use Rattle.std.specs.List.{count_by}
use Rattle.std.proofs.lemmas.Bool.{cases_Bool}
use Rattle.std.proofs.lemmas.List.{take_all}
use Rattle.std.proofs.lemmas.List.Sums.{count_by_more_yes, count_by_more_no}
use Rattle.memchr.specs.Find.{is_byte, places, places_from}
use Rattle.script_read.specs.Parts.{line_ends}

-- the places from here to the end are as many as the bytes that pass
count_from : (test : ℕ → Bool) (bs : List ℕ) (i n : ℕ) → i + n ≡ length bs → count_by test (take i bs) + length (places_from test bs i n) ≡ count_by test bs
unfolding places_from
count_from test bs i zero h = rw (take_all i bs (omega arith)) (omega arith)
count_from test bs i (suc n) h =
    let rest = count_from test bs (i + 1) n (omega arith) in
    elim (cases_Bool (test (get_or bs i 0))) [
      | inl passes ↦ rw passes (omega (arith, rest, count_by_more_yes test bs i 0 (omega arith) passes))
      | inr fails ↦ rw fails (omega (arith, rest, count_by_more_no test bs i 0 (omega arith) fails))
    ]

pub count_places : (bs : List ℕ) → length (places (is_byte 10) bs) ≡ line_ends bs
count_places bs =
    let all : length bs - 0 ≡ length bs = omega arith in
    rw all (sym (zero-add (length (places_from (is_byte 10) bs 0 (length bs)))) ∙ count_from (is_byte 10) bs 0 (length bs) (omega arith))
