-- A name in upper case is a name, and spells itself.
use Rattle.std.proofs.Common.{◌≡◌, ℕ, Bool, true, false, cond, List, [], ◌∷◌, map, Some, refl, ap, sym, arith}
use Rattle.std.proofs.Math.Path.{ap₂}
use Rattle.std.proofs.lemmas.Bool.Decides.{nat_tests}
use Rattle.std.proofs.lemmas.List.{length-map}
use Rattle.std.specs.Prelude.{◌&&◌}
use Rattle.std.specs.Char.{is_ascii_alphabetic, to_ascii_uppercase, to_ascii_lowercase}
use Rattle.std.specs.List.{list_all, list_any, slice_split, onto_first}
use Rattle.std.specs.Str.{bytes_eq}
use Rattle.dtx_values.specs.Name.{reserved_words, is_reserved, is_name_byte, is_word, is_identifier, is_dot, is_name, name_of}

upper_upper : (b : ℕ) → to_ascii_uppercase (to_ascii_uppercase b) ≡ to_ascii_uppercase b
upper_upper b = grind (arith, nat_tests)

lower_upper : (b : ℕ) → to_ascii_lowercase (to_ascii_uppercase b) ≡ to_ascii_lowercase b
lower_upper b = grind (arith, nat_tests)

letter_upper : (b : ℕ) → is_ascii_alphabetic (to_ascii_uppercase b) ≡ is_ascii_alphabetic b
letter_upper b = grind (arith, nat_tests)

name_byte_upper : (b : ℕ) → is_name_byte (to_ascii_uppercase b) ≡ is_name_byte b
name_byte_upper b = grind (arith, nat_tests)

dot_upper : (b : ℕ) → is_dot (to_ascii_uppercase b) ≡ is_dot b
dot_upper b = grind (arith, nat_tests)

lowers : (word : List ℕ) → map to_ascii_lowercase (map to_ascii_uppercase word) ≡ map to_ascii_lowercase word
lowers [] = refl
lowers (b ∷ bs) = ap₂ (λ x xs. x ∷ xs) (lower_upper b) (lowers bs)

-- bytes in upper case are in upper case already
pub uppers : (word : List ℕ) → map to_ascii_uppercase (map to_ascii_uppercase word) ≡ map to_ascii_uppercase word
uppers [] = refl
uppers (b ∷ bs) = ap₂ (λ x xs. x ∷ xs) (upper_upper b) (uppers bs)

reserved_upper : (word : List ℕ) → is_reserved (map to_ascii_uppercase word) ≡ is_reserved word
reserved_upper word = ap (λ lower. list_any (λ reserved. bytes_eq (map to_ascii_lowercase reserved) lower) reserved_words) (lowers word)

name_bytes_upper : (bs : List ℕ) → list_all is_name_byte (map to_ascii_uppercase bs) ≡ list_all is_name_byte bs
name_bytes_upper [] = refl
name_bytes_upper (b ∷ bs) = ap₂ (λ x y. x && y) (name_byte_upper b) (name_bytes_upper bs)

word_upper : (bs : List ℕ) → is_word (map to_ascii_uppercase bs) ≡ is_word bs
word_upper [] = refl
word_upper (b ∷ bs) = ap₂ (λ x y. x && y) (letter_upper b) (name_bytes_upper bs)

identifier_upper : (bs : List ℕ) → is_identifier (map to_ascii_uppercase bs) ≡ is_identifier bs
identifier_upper bs = rw (word_upper bs, length-map bs to_ascii_uppercase, reserved_upper bs) refl

identifiers_upper : (parts : List (List ℕ)) → list_all is_identifier (map (map to_ascii_uppercase) parts) ≡ list_all is_identifier parts
identifiers_upper [] = refl
identifiers_upper (part ∷ parts) = ap₂ (λ x y. x && y) (identifier_upper part) (identifiers_upper parts)

onto_first_upper : (b : ℕ) (parts : List (List ℕ)) → onto_first (to_ascii_uppercase b) (map (map to_ascii_uppercase) parts) ≡ map (map to_ascii_uppercase) (onto_first b parts)
onto_first_upper b [] = refl
onto_first_upper b (part ∷ parts) = refl

cond_map : (t : Bool) (x y : List (List ℕ)) → map (map to_ascii_uppercase) (cond t x y) ≡ cond t (map (map to_ascii_uppercase) x) (map (map to_ascii_uppercase) y)
cond_map true x y = refl
cond_map false x y = refl

-- the parts of the bytes in upper case are the parts in upper case
split_upper : (bs : List ℕ) → slice_split is_dot (map to_ascii_uppercase bs) ≡ map (map to_ascii_uppercase) (slice_split is_dot bs)
split_upper [] = refl
split_upper (b ∷ bs) =
    rw (dot_upper b, split_upper bs, onto_first_upper b (slice_split is_dot bs)) (sym (cond_map (is_dot b) _ _))

is_name_upper : (bs : List ℕ) → is_name (map to_ascii_uppercase bs) ≡ is_name bs
is_name_upper bs = rw (length-map bs to_ascii_uppercase, split_upper bs, identifiers_upper (slice_split is_dot bs)) refl

-- a name in upper case spells itself
pub name_of_upper : (bs : List ℕ) → is_name bs ≡ true → name_of (map to_ascii_uppercase bs) ≡ Some (map to_ascii_uppercase bs)
name_of_upper bs h = rw (is_name_upper bs, h, uppers bs) refl
