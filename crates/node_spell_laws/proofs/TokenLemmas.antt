-- Tokens with blanks between them are a text, and a word of a text that is an identifier is the name of a table.
use Rattle.std.proofs.Common.{◌≡◌, ℕ, Bool, true, false, cond, List, [], ◌∷◌, ◌++◌, map, Option, Some, None, refl, sym, ap, subst, ◌∙◌, arith}
use Rattle.std.specs.Char.{is_ascii_alphabetic, to_ascii_uppercase}
use Rattle.std.specs.List.{AllByRecursion, list_all}
use Rattle.std.proofs.lemmas.Bool.{and_parts, and_from}
use Rattle.std.proofs.lemmas.Bool.Decides.{nat_tests}
use Rattle.dtx_values.specs.Name.{is_name_byte, is_identifier, is_name, name_of}
use Rattle.dtx_values.proofs.NameLemmas.{uppers}
use Rattle.token_grammar.proofs.Options.{test_some}
use Rattle.token_grammar.specs.Bytes.{is_letter, is_word_byte, two_marks}
use Rattle.token_grammar.specs.declared.token.Token.{Token}
use Rattle.token_grammar.specs.declared.token.Token.TheVariants as token
use Rattle.token_grammar.specs.Tokens.{TokenText, MarkEnds, Ends, Tokens}
use Rattle.token_grammar.specs.Grammar.{identifier_of}
use Rattle.node_spell_laws.specs.Bytes.{IsTableName}

-- ---- Tokens that some text is.

-- some bytes are the token
abbrev pub IsMade : Token → Type 0
IsMade t = (text : List ℕ) × TokenText t text

-- so are all of these
abbrev pub AreMade : List Token → Type 0
AreMade ts = AllByRecursion IsMade ts

pub tokens_made : (ts : List Token) (text : List ℕ) → Tokens ts text → AreMade ts
tokens_made [] text is = tt
tokens_made (t ∷ ts) text is = ((is.1, is.4), tokens_made ts is.2 is.6)

pub made_front : (xs ys : List Token) → AreMade (xs ++ ys) → AreMade xs
made_front [] ys all = tt
made_front (x ∷ xs) ys all = (all.0, made_front xs ys all.1)

pub made_rest : (xs ys : List Token) → AreMade (xs ++ ys) → AreMade ys
made_rest [] ys all = all
made_rest (x ∷ xs) ys all = made_rest xs ys all.1

pub made_both : (xs ys : List Token) → AreMade xs → AreMade ys → AreMade (xs ++ ys)
made_both [] ys first second = second
made_both (x ∷ xs) ys first second = (first.0, made_both xs ys first.1 second)

-- a blank ends each token
mark_ends : (text rest : List ℕ) → MarkEnds text (32 ∷ rest)
mark_ends [] rest = tt
mark_ends (b ∷ []) rest = let it : two_marks b 32 ≡ None = grind (arith, nat_tests) in it
mark_ends (b ∷ c ∷ more) rest = tt

blank_ends : (t : Token) (text rest : List ℕ) → Ends t text (32 ∷ rest)
blank_ends (token.Word w) text rest = refl
blank_ends (token.Number n) text rest = refl
blank_ends (token.Quoted s) text rest = refl
blank_ends (token.Mark m) text rest = mark_ends text rest

blank_before : (ts : List Token) (text : List ℕ) → Tokens ts text → Tokens ts (32 ∷ text)
blank_before [] text is = is
blank_before (t ∷ ts) text is = (32 ∷ is.0, is.1, is.2, is.3, is.4, is.5, is.6, ap (λ (r : List ℕ). 32 ∷ r) is.7)

-- tokens with blanks between them are a text
pub text_of_made : (ts : List Token) → AreMade ts → (text : List ℕ) × Tokens ts text
text_of_made [] all = ([], refl)
text_of_made (t ∷ ts) all =
    let behind = text_of_made ts all.1 in
    (all.0.0 ++ 32 ∷ behind.0, ([], all.0.0, 32 ∷ behind.0, refl, all.0.1, blank_ends t all.0.0 behind.0, blank_before ts behind.0 behind.1, refl))

-- ---- Names of tables.

guarded : {A : Type 0} (b : Bool) (o : Option A) (v : A) → cond b o None ≡ Some v → (b ≡ true) × (o ≡ Some v)
guarded true o v e = (refl, e)
guarded false o v e = absurd cc

-- a word of a text that is an identifier is that identifier
pub word_names : (w text v : List ℕ) → TokenText (token.Word w) text → identifier_of w ≡ Some v → w ≡ v
word_names w text v spelled e =
    let upper : w ≡ map to_ascii_uppercase text = spelled.2 in
    let named = (test_some (is_name w) (map to_ascii_uppercase w) v (guarded (is_identifier w) (name_of w) v e).1).1 in
    upper ∙ (sym (uppers text) ∙ (ap (map to_ascii_uppercase) (sym upper) ∙ named))

pub word_is_table : (w text v : List ℕ) → TokenText (token.Word w) text → identifier_of w ≡ Some v → IsTableName v
word_is_table w text v spelled e = subst (λ x. identifier_of x ≡ Some v) (word_names w text v spelled e) e

letter : (b : ℕ) → is_ascii_alphabetic b ≡ true → is_letter b ≡ true
letter b is = grind (arith, nat_tests)

name_byte : (b : ℕ) → is_name_byte b ≡ true → is_word_byte b ≡ true
name_byte b is = grind (arith, nat_tests)

letter_byte : (b : ℕ) → is_letter b ≡ true → is_word_byte b ≡ true
letter_byte b is = grind (arith, nat_tests)

name_bytes : (bytes : List ℕ) → list_all is_name_byte bytes ≡ true → list_all is_word_byte bytes ≡ true
name_bytes [] all = refl
name_bytes (b ∷ bytes) all = let both = and_parts (is_name_byte b) (list_all is_name_byte bytes) all in and_from (is_word_byte b) (list_all is_word_byte bytes) (name_byte b both.0) (name_bytes bytes both.1)

table_word : (bytes : List ℕ) → is_identifier bytes ≡ true → bytes ≡ map to_ascii_uppercase bytes → TokenText (token.Word bytes) bytes
table_word [] is upper = absurd cc
table_word (b ∷ bytes) is upper =
    let word = and_parts (is_ascii_alphabetic b) (list_all is_name_byte bytes) (and_parts _ _ is).0 in
    let first = letter b word.0 in
    (first, and_from (is_word_byte b) (list_all is_word_byte bytes) (letter_byte b first) (name_bytes bytes word.1), upper)

-- the name of a table is a word
pub table_made : (name : List ℕ) → IsTableName name → IsMade (token.Word name)
table_made name is =
    let parts = guarded (is_identifier name) (name_of name) name is in
    (name, table_word name parts.0 (sym (test_some (is_name name) (map to_ascii_uppercase name) name parts.1).1))

-- and a name
pub table_named : (name : List ℕ) → IsTableName name → name_of name ≡ Some name
table_named name is = (guarded (is_identifier name) (name_of name) name is).1

-- ---- Parts of a text.

pub front_made : (ts xs ys : List Token) → ts ≡ xs ++ ys → AreMade ts → AreMade xs
front_made ts xs ys e all = made_front xs ys (subst AreMade e all)

pub rest_made : (ts xs ys : List Token) → ts ≡ xs ++ ys → AreMade ts → AreMade ys
rest_made ts xs ys e all = made_rest xs ys (subst AreMade e all)
