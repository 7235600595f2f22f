-- A line is put in front of the first line of a later command.
use Rattle.std.proofs.Common.{◌≡◌, ℕ, ◌+◌, suc, Bool, true, false, not, if◌then◌else◌, List, [], ◌∷◌, nat_lt, refl, ap, arith}
use Rattle.std.specs.List.{insert, position_or_len}
use Rattle.run_rules.specs.Data.{AnswerLine}
use Rattle.run_rules.specs.Lines.{put_line}

put_step : (before : Bool) (l x : AnswerLine) (xs put : List AnswerLine) (n : ℕ) → put ≡ insert xs n l → (if before then l ∷ x ∷ xs else x ∷ put) ≡ insert (x ∷ xs) (if not before then 1 + n else 0) l
put_step true l x xs put n e = refl
put_step false l x xs put n e = let one_more : 1 + n ≡ suc n = omega arith in rw one_more (ap (λ ys. x ∷ ys) e)

-- the place of a line
pub put_is_insert : (xs : List AnswerLine) (l : AnswerLine) → put_line xs l ≡ insert xs (position_or_len (λ x. nat_lt l.command x.command) xs) l
put_is_insert [] l = refl
put_is_insert (x ∷ xs) l = put_step (nat_lt l.command x.command) l x xs (put_line xs l) (position_or_len (λ y. nat_lt l.command y.command) xs) (put_is_insert xs l)
