-- What is printed is read as the same tokens.
use Rattle.std.proofs.Common.{List, [], ◌∷◌, map, refl, ◌∙◌, inl, inr}
use Rattle.std.proofs.lemmas.Bool.{cases_Bool}
use Rattle.std.proofs.lemmas.List.Concat.{flat_map-cons}
use Rattle.token_grammar.specs.Tokens.{Tokens}
use Rattle.token_grammar.specs.Printing.{token_text, Printed, piece, shown, token_of, IsReadable}

pub printed_tokens : (ps : List Printed) → IsReadable ps → Tokens (map token_of ps) (shown ps)
printed_tokens [] h = refl
printed_tokens (p ∷ ps) h =
    elim (cases_Bool p.spaced) [
      | inl k ↦ (32 ∷ [], token_text p.token, shown ps, refl, h.0, h.1, printed_tokens ps h.2, flat_map-cons piece p ps ∙ rw k refl)
      | inr k ↦ ([], token_text p.token, shown ps, refl, h.0, h.1, printed_tokens ps h.2, flat_map-cons piece p ps ∙ rw k refl)
    ]
