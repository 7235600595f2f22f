-- Changes of the rows so far, in front of those of the rows that are left.
use Rattle.std.proofs.Common.{◌≡◌, List, [], ◌∷◌, ◌++◌, Result, Ok, Err, refl, sym, ap, append_assoc}
use Rattle.sql_eval.specs.Data.{Change, Refusal}
use Rattle.sql_eval.specs.Meaning.{and_updated}

-- changes in front of others, unless those are refused
abbrev pub behind : List Change → Result (List Change) Refusal → Result (List Change) Refusal
behind cs (Err r) = Err r
behind cs (Ok ds) = Ok (cs ++ ds)

pub behind-nothing : (rest : Result (List Change) Refusal) → behind [] rest ≡ rest
behind-nothing (Ok ds) = refl
behind-nothing (Err r) = refl

pub behind-one : (cs : List Change) (c : Change) (rest : Result (List Change) Refusal) → behind cs (and_updated (Ok c) rest) ≡ behind (cs ++ c ∷ []) rest
behind-one cs c (Ok ds) = ap (λ (es : List Change). Ok es) (sym (append_assoc cs (c ∷ []) ds))
behind-one cs c (Err r) = refl

pub ruleset changes = (behind-nothing, behind-one)
