use Rattle.std.proofs.Common.{◌≡◌, List, ℕ, Result, Ok, Err, MatchResult, sym, inl, inr, ◌∙◌}
use Rattle.std.specs.Str.{IsUtf8, is_utf8}
use Rattle.std.specs.Result.{is_ok}
use Rattle.std.proofs.lemmas.Bool.{cases_Bool}
use Rattle.std.proofs.lemmas.Str.{IsUtf8-from_is_utf8, is_utf8-from_IsUtf8}
use Rattle.field_codec.proofs.text.is_utf8.Goals as goal

-- what is accepted is UTF-8, and nothing else is
accepted : {T E : Type 0} (r : Result T E) (bytes : List ℕ) (P : T → Type 0) (Q : E → Type 0) → MatchResult r (λ s. P s × IsUtf8 bytes) (λ e. ¬ (IsUtf8 bytes) × Q e) → is_ok r ≡ is_utf8 bytes
accepted (Ok s) bytes P Q h = sym (is_utf8-from_IsUtf8 bytes h.1)
accepted (Err e) bytes P Q h = elim (cases_Bool (is_utf8 bytes)) [ inl p ↦ absurd (h.0 (IsUtf8-from_is_utf8 bytes p)) | inr p ↦ sym p ]

pub returns : goal.returns
returns c = c.is_ok.ensures.value ∙ accepted c.from_utf8.result c.args.bytes.now _ _ c.from_utf8.ensures.cases
