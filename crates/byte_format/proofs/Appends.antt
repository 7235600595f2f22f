-- What several parts make that are written one after the other, and what then stands in front.
use Rattle.std.proofs.Common.{◌≡◌, ℕ, List, ◌++◌, Result, IfOk, append_assoc}
use Rattle.std.proofs.lemmas.Result.{IfOk-equal}
use Rattle.std.specs.Io.{StartsWith}
use Rattle.std.proofs.Transfers.{starts_with_of_append, starts_with_trans}

-- one part was written before the others
pub written_before : {T E : Type 0} (r : Result T E) (a b c s t : List ℕ) → b ≡ a ++ s → IfOk r (λ _. c ≡ b ++ t) → IfOk r (λ _. c ≡ a ++ (s ++ t))
written_before r a b c s t e h = IfOk-equal r c (b ++ t) (a ++ (s ++ t)) h (rw e (append_assoc a s t))

-- what was there before a part was written is still in front, whatever follows it
pub kept_before : (a b c s : List ℕ) → b ≡ a ++ s → StartsWith c b → StartsWith c a
kept_before a b c s e h = starts_with_trans c b a h (starts_with_of_append b a s e)
