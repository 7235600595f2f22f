-- The parts that several forms share are exact: a reader finds just the value that the tokens spell.
use Rattle.std.proofs.Common.{◌≡◌, ℕ, Bool, true, false, cond, List, [], ◌∷◌, ◌++◌, Option, Some, None, refl, ap, ◌∙◌, ◌⊎◌, inl, inr}
use Rattle.std.specs.Prelude.{is_some}
use Rattle.std.specs.List.{list_any}
use Rattle.std.specs.Str.{bytes_eq}
use Rattle.std.proofs.lemmas.Bool.{cases_Bool, or_right}
use Rattle.token_grammar.specs.declared.mark.Mark.TheVariants as marks
use Rattle.token_grammar.specs.declared.token.Token.{Token}
use Rattle.token_grammar.specs.declared.token.Token.TheVariants as token
use Rattle.token_grammar.specs.Steps.{begins}
use Rattle.token_grammar.specs.Grammar.{Grammar, is_word, is_mark, nothing, anything, either, mark, meant, quoted, quoted_in, identifier_of, identifier_in, ◌▹◌, maybe, Optional, optional, commas}
use Rattle.token_grammar.specs.Exact.{Takes, IsExact, Leads, Apart, Shows}
use Rattle.token_grammar.proofs.Options.{chosen, some_of}
use Rattle.token_grammar.proofs.Beginnings.{begins-append, begins-apart, is_word_is, leads_mark, at_end}
use Rattle.token_grammar.proofs.OneToken.{mark_exact, meant_exact}
use Rattle.token_grammar.proofs.Parts.{after, before_led, optional_exact, separated_exact}
use Rattle.token_grammar.proofs.Values.{mapped_exact, made_exact, tested_exact}
use Rattle.dtx_values.specs.Str.{is_text_to}
use Rattle.sql_parse.specs.Parts.{or_else, built, is_word_of, mark_of, stands, in_brackets, text_to}

-- ---- One of several.

module _ {V : Type 0} (looks : List Token → Bool) (a b : Grammar V) (p : Token → Bool) (ax : IsExact a p) (bx : IsExact b p) (first : Shows a looks p true) (second : Shows b looks p false) where
  or_else_takes : (ts : List Token) (y : V × List Token) → cond (looks ts) (a.read ts) (b.read ts) ≡ Some y → Takes (or_else looks a b) ts y
  or_else_takes ts y e =
      elim (chosen (looks ts) (a.read ts) (b.read ts) (some_of y) e) [
        | inl h ↦ let one = ax.takes ts y h.1 in record { front = one.front; spelled = inl one.spelled; whole = one.whole }
        | inr h ↦ let one = bx.takes ts y h.1 in record { front = one.front; spelled = inr one.spelled; whole = one.whole }
      ]

  or_else_again : (v : V) (front rest : List Token) → a.Spells v front ⊎ b.Spells v front → begins p rest ≡ false → cond (looks (front ++ rest)) (a.read (front ++ rest)) (b.read (front ++ rest)) ≡ Some (v, rest)
  or_else_again v front rest (inl s) ends = rw (first v front rest s ends) (ax.again v front rest s ends)
  or_else_again v front rest (inr s) ends = rw (second v front rest s ends) (bx.again v front rest s ends)

  -- one of two parts is exact, where the look tells them apart
  pub or_else_exact : IsExact (or_else looks a b) p
  or_else_exact = record { takes = or_else_takes; again = or_else_again }

-- a look at the first token alone tells the two
pub led_exact : {V : Type 0} (a b : Grammar V) (starts others p : Token → Bool) → IsExact a p → IsExact b p → Leads a starts → Leads b others → Apart starts others → IsExact (or_else (begins starts) a b) p
led_exact a b starts others p ax bx first second apart = or_else_exact (begins starts) a b p ax bx
    (λ v ts rest s ends. begins-append starts ts rest (first v ts s)) (λ v ts rest s ends. begins-apart starts others apart ts rest (second v ts s))

-- one of two parts begins with such a token, where both do
pub leads_or_else : {V : Type 0} (looks : List Token → Bool) (a b : Grammar V) (starts : Token → Bool) → Leads a starts → Leads b starts → Leads (or_else looks a b) starts
leads_or_else looks a b starts h k v ts (inl s) = h v ts s
leads_or_else looks a b starts h k v ts (inr s) = k v ts s

-- a value that is built of another is exact, where that is
pub built_exact : {A V : Type 0} (to : A → V) (g : Grammar A) (p : Token → Bool) → IsExact g p → IsExact (built to g) p
built_exact to g p x = made_exact (λ a. Some (to a)) g p x

-- and it begins with the same tokens
pub leads_built : {A V : Type 0} (to : A → V) (g : Grammar A) (starts : Token → Bool) → Leads g starts → Leads (built to g) starts
leads_built to g starts h v ts s = h s.0 ts s.1

-- exact where fewer tokens may follow
pub widened : {V : Type 0} (g : Grammar V) (p q : Token → Bool) → IsExact g p → ((ts : List Token) → begins q ts ≡ false → begins p ts ≡ false) → IsExact g q
widened g p q x fewer = record { takes = x.takes; again = λ v front rest s ends. x.again v front rest s (fewer rest ends) }

-- ---- Tokens that fail a test.

-- a token that fails a test
abbrev pub fails : (Token → Bool) → Token → Bool
fails p t = cond (p t) false true

-- no token passes a test and fails it
pub fails_apart : (p : Token → Bool) → Apart p (fails p)
fails_apart p t h = elim (cases_Bool (p t)) [ inl k ↦ (let no : false ≡ true = rw k at h in absurd cc) | inr k ↦ k ]

-- a token that does not pass a test fails it
pub fails_so : (p : Token → Bool) (t : Token) → p t ≡ false → fails p t ≡ true
fails_so p t h = rw h refl

-- ---- Words.

is_one_of : (w : List ℕ) (ws : List (List ℕ)) (t : Token) → is_word w t ≡ true → is_word_of ws t ≡ list_any (λ v. bytes_eq w v) ws
is_one_of w ws t h = rw (is_word_is w t h) refl

-- a word of a list is one of its words
pub word_is_one : (w : List ℕ) (ws : List (List ℕ)) → list_any (λ v. bytes_eq w v) ws ≡ true → (ts : List Token) → begins (is_word w) ts ≡ true → begins (is_word_of ws) ts ≡ true
word_is_one w ws among [] h = absurd cc
word_is_one w ws among (t ∷ ts) h = rw (is_one_of w ws t h) among

-- a word of a list is one of a longer list
pub later_word : (w : List ℕ) (ws : List (List ℕ)) (ts : List Token) → begins (is_word_of ws) ts ≡ true → begins (is_word_of (w ∷ ws)) ts ≡ true
later_word w ws [] h = absurd cc
later_word w ws (token.Word s ∷ ts) h = or_right (bytes_eq s w) (list_any (λ v. bytes_eq s v) ws) h
later_word w ws (token.Number n ∷ ts) h = absurd cc
later_word w ws (token.Quoted s ∷ ts) h = absurd cc
later_word w ws (token.Mark m ∷ ts) h = absurd cc

-- a word that is not in a list is none of its words
pub apart_word_of : (w : List ℕ) (ws : List (List ℕ)) → list_any (λ v. bytes_eq w v) ws ≡ false → Apart (is_word w) (is_word_of ws)
apart_word_of w ws none t h = elim (cases_Bool (is_word w t)) [
  | inl k ↦ (let same = is_one_of w ws t k in absurd cc)
  | inr k ↦ k
]

-- a reserved word is no identifier
pub reserved_is_no_name : (w : List ℕ) → identifier_of w ≡ None → (t : Token) (v : List ℕ) → identifier_in t ≡ Some v → is_word w t ≡ false
reserved_is_no_name w none t v e = elim (cases_Bool (is_word w t)) [
  | inl k ↦ (let no : identifier_in t ≡ None = ap identifier_in (is_word_is w t k) ∙ none in absurd cc)
  | inr k ↦ k
]

-- ---- One token.

-- a look at the token that means a value
pub meant_leads : {V : Type 0} (meaning : Token → Option V) (starts : Token → Bool) → ((t : Token) (v : V) → meaning t ≡ Some v → starts t ≡ true) → Leads (meant meaning) starts
meant_leads meaning starts h v ts s = rw s.1 (h s.0 v s.2)

-- ---- What may stand or not.

stands_back : (o : Option (Unit {0})) → mark_of (is_some o) ≡ o
stands_back None = refl
stands_back (Some x) = refl

stands_forth : (b : Bool) → is_some (mark_of b) ≡ b
stands_forth true = refl
stands_forth false = refl

-- whether an optional part stands is exact, where the part is and does not follow
pub stands_exact : (starts p : Token → Bool) (g : Grammar (Unit {0})) → IsExact g p → Leads g starts → IsExact (stands starts g) (either starts p)
stands_exact starts p g x leads = mapped_exact is_some mark_of (optional starts g) _ (optional_exact g starts p x leads) (λ o ts s. stands_back o) stands_forth

-- after an optional part at the end, no such token is next
pub optional_misses : {V : Type 0} (p starts : Token → Bool) (g : Grammar V) → Leads g starts → Apart p starts → (o : Option V) (ts rest : List Token) → Optional g.Spells o ts → begins anything rest ≡ false → begins p (ts ++ rest) ≡ false
optional_misses p starts g leads apart None ts rest s ends = rw s (at_end p rest ends)
optional_misses p starts g leads apart (Some v) ts rest s ends = begins-apart p starts apart ts rest (leads v ts s)

-- an optional word and a part after it begin with that word or as the part does
pub leads_maybe : {B : Type 0} (w : List ℕ) (b : Grammar B) (starts : Token → Bool) → starts (token.Word w) ≡ true → Leads b starts → Leads (maybe w ▹ b) starts
leads_maybe w b starts h leads v ts s = elim s.2 [ inl e ↦ rw (s.4, e) (leads v s.1 s.3) | inr e ↦ rw (s.4, e) h ]

-- ---- Brackets, quotes and lists.

-- a part in brackets is exact, whatever follows
pub brackets_exact : {V : Type 0} (g : Grammar V) (p : Token → Bool) → IsExact g p → Apart p (is_mark marks.Close) → IsExact (in_brackets g) nothing
brackets_exact g p x apart = after (mark_exact marks.Open) (before_led (is_mark marks.Close) x (mark_exact marks.Close) (leads_mark marks.Close) apart)

-- a text in quotes is exact, whatever follows
pub text_exact : (most : ℕ) → IsExact (text_to most) nothing
text_exact most = tested_exact (is_text_to most) quoted nothing (meant_exact quoted_in)

-- a list with commas is exact, where no comma follows
pub commas_exact : {V : Type 0} (g : Grammar V) (p : Token → Bool) → IsExact g p → Apart p (is_mark marks.Comma) → IsExact (commas g) (either (is_mark marks.Comma) p)
commas_exact g p x apart = separated_exact g (mark marks.Comma) _ p x (mark_exact marks.Comma) (leads_mark marks.Comma) apart
