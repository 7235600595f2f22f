-- What `get_one` gives of a value that passed the range.
use Rattle.std.proofs.Common.{◌≡◌, ◌≤◌, ◌<◌, ◌^◌, ◌∙◌, ℕ, List, Option, Some, None, refl, sym, subst, arith}
use Rattle.std.specs.Prelude.{pos, Ok, Result}
use Rattle.std.specs.Str.Parse.{ParsesUnsigned, digits_value, without_leading_plus}
use Rattle.clap.specs.Lexer.{without_minus}
use Rattle.clap.specs.Matches.{ReadsOne}
use Rattle.clap.specs.Values.{IsSignedIn}
use Rattle.clap.specs.Walk.{Text}
use Rattle.clap.proofs.CallerReads.{signed_reads}

same_number : (m n : ℕ) → Some m ≡ Some n → m ≡ n
same_number m n e = cc

-- no number was read, so there is no value
pub none_if : (E : Type 0) (G : List ℕ → Result ℕ E → Type 0) (k greatest : ℕ) (o : Option Text) (r : Option ℕ) → ((t : Text) → o ≡ Some t → ReadsOne G t r)
    → ((u : List ℕ) (x : Result ℕ E) → G u x → ParsesUnsigned k 10 u x) → greatest < 2 ^ k
    → ((t : Text) → o ≡ Some t → (u : Text) × (t ≡ without_minus u) × IsSignedIn (pos 1) (pos greatest) u)
    → r ≡ None → o ≡ None
none_if E G k greatest None r value only fits number none = refl
none_if E G k greatest (Some t) r value only fits number none =
    let h = number t refl in
    let got = signed_reads E G k 1 greatest h.0 r (subst (λ (w : List ℕ). ReadsOne G w r) h.1 (value t refl)) only fits h.2 in
    let bad : None ≡ Some got.0 = sym none ∙ got.1 in
    cc

-- the number that was read, which has come within the range
pub some_if : (E : Type 0) (G : List ℕ → Result ℕ E → Type 0) (k greatest : ℕ) (o : Option Text) (r : Option ℕ) (n : ℕ) → (o ≡ None → r ≡ None)
    → ((t : Text) → o ≡ Some t → ReadsOne G t r)
    → ((u : List ℕ) (x : Result ℕ E) → G u x → ParsesUnsigned k 10 u x) → greatest < 2 ^ k
    → ((t : Text) → o ≡ Some t → (u : Text) × (t ≡ without_minus u) × IsSignedIn (pos 1) (pos greatest) u)
    → r ≡ Some n → (t : Text) × (o ≡ Some t) × (n ≡ digits_value 10 (without_leading_plus t)) × (1 ≤ n) × (n ≤ greatest)
some_if E G k greatest None r n none value only fits number some =
    let bad : None ≡ Some n = sym (none refl) ∙ some in
    cc
some_if E G k greatest (Some t) r n none value only fits number some =
    let at : ReadsOne G t (Some n) = subst (λ (o : Option ℕ). ReadsOne G t o) some (value t refl) in
    let h = number t refl in
    let got = signed_reads E G k 1 greatest h.0 r (subst (λ (w : List ℕ). ReadsOne G w r) h.1 (value t refl)) only fits h.2 in
    let same : n ≡ got.0 = same_number n got.0 (sym some ∙ got.1) in
    (t, refl, (only t (Ok n) at).1, omega (arith, same, got.2), omega (arith, same, got.3))
