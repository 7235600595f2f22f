-- What an INSERT gives a column, by the first pair.
use Rattle.std.proofs.Common.{◌≡◌, ℕ, true, false, List, ◌∷◌, refl}
use Rattle.sql_check.specs.Data.{Table, Sum}
use Rattle.sql_check.specs.Words.{same_text}
use Rattle.sql_check.specs.Sums.{sum_value}
use Rattle.sql_check.specs.Inserted.{given_value, no_row}

-- a pair of the column's name gives its sum
pub given_here : (t : Table) (name column : List ℕ) (sum : Sum) (ps : List (List ℕ × Sum)) → same_text name column ≡ true → given_value t ((name, sum) ∷ ps) column ≡ sum_value t no_row sum
given_here t name column sum ps e = rw e refl

-- another pair is passed over
pub given_later : (t : Table) (name column : List ℕ) (sum : Sum) (ps : List (List ℕ × Sum)) → same_text name column ≡ false → given_value t ((name, sum) ∷ ps) column ≡ given_value t ps column
given_later t name column sum ps e = rw e refl
