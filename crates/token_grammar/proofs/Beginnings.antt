-- What tokens begin with, and what may therefore follow what.
use Rattle.std.proofs.Common.{◌≡◌, ℕ, Bool, true, false, List, [], ◌∷◌, ◌++◌, get_or, Some, None, refl, sym, ap, ◌∙◌, inl, inr}
use Rattle.std.specs.Str.{bytes_eq}
use Rattle.std.proofs.lemmas.Bool.{cases_Bool, eqb-true}
use Rattle.std.proofs.lemmas.Slice.Eq.{bytes_eq-Decides}
use Rattle.token_grammar.specs.declared.mark.Mark.{Mark}
use Rattle.token_grammar.specs.declared.mark.Mark.TheVariants as marks
use Rattle.token_grammar.specs.declared.token.Token.{Token}
use Rattle.token_grammar.specs.declared.token.Token.TheVariants as token
use Rattle.token_grammar.specs.Marks.{rank, is_same}
use Rattle.token_grammar.specs.Steps.{begins}
use Rattle.token_grammar.specs.Grammar.{Grammar, is_word, is_mark, nothing, anything, either, word, mark, ◌·◌, ◌▹◌, optional}
use Rattle.token_grammar.specs.Exact.{Leads, Apart, Meets, IsExact}
use Rattle.token_grammar.proofs.Options.{chosen}

pub begins_nothing : (ts : List Token) → begins nothing ts ≡ false
begins_nothing [] = refl
begins_nothing (t ∷ ts) = refl

pub begins-append : (p : Token → Bool) (ts rest : List Token) → begins p ts ≡ true → begins p (ts ++ rest) ≡ true
begins-append p [] rest h = absurd cc
begins-append p (t ∷ ts) rest h = h

pub begins-apart : (p q : Token → Bool) → Apart p q → (ts rest : List Token) → begins q ts ≡ true → begins p (ts ++ rest) ≡ false
begins-apart p q apart [] rest h = absurd cc
begins-apart p q apart (t ∷ ts) rest h = apart t h

pub is_word_is : (w : List ℕ) (t : Token) → is_word w t ≡ true → t ≡ token.Word w
is_word_is w (token.Word s) h = ap token.Word ((bytes_eq-Decides s w).0 h)
is_word_is w (token.Number n) h = absurd cc
is_word_is w (token.Quoted s) h = absurd cc
is_word_is w (token.Mark m) h = absurd cc

pub is_word-same : (w : List ℕ) → is_word w (token.Word w) ≡ true
is_word-same w = (bytes_eq-Decides w w).1 refl

-- a mark by its number
abbrev mark_from : ℕ → Mark
mark_from n = get_or (marks.Open ∷ marks.Close ∷ marks.Comma ∷ marks.Star ∷ marks.At ∷ marks.Plus ∷ marks.Minus ∷ marks.Equal ∷ marks.Unequal ∷ marks.Below ∷ marks.AtMost ∷ marks.Above ∷ marks.AtLeast ∷ marks.Colon ∷ []) n marks.Open

mark_from-rank : (m : Mark) → mark_from (rank m) ≡ m
mark_from-rank marks.Open = refl
mark_from-rank marks.Close = refl
mark_from-rank marks.Comma = refl
mark_from-rank marks.Star = refl
mark_from-rank marks.At = refl
mark_from-rank marks.Plus = refl
mark_from-rank marks.Minus = refl
mark_from-rank marks.Equal = refl
mark_from-rank marks.Unequal = refl
mark_from-rank marks.Below = refl
mark_from-rank marks.AtMost = refl
mark_from-rank marks.Above = refl
mark_from-rank marks.AtLeast = refl
mark_from-rank marks.Colon = refl

pub is_mark_is : (m : Mark) (t : Token) → is_mark m t ≡ true → t ≡ token.Mark m
is_mark_is m (token.Mark k) h = ap token.Mark (sym (mark_from-rank k) ∙ ap mark_from (eqb-true (rank k) (rank m) h) ∙ mark_from-rank m)
is_mark_is m (token.Word s) h = absurd cc
is_mark_is m (token.Number n) h = absurd cc
is_mark_is m (token.Quoted s) h = absurd cc

pub is_mark-same : (m : Mark) → is_mark m (token.Mark m) ≡ true
is_mark-same marks.Open = refl
is_mark-same marks.Close = refl
is_mark-same marks.Comma = refl
is_mark-same marks.Star = refl
is_mark-same marks.At = refl
is_mark-same marks.Plus = refl
is_mark-same marks.Minus = refl
is_mark-same marks.Equal = refl
is_mark-same marks.Unequal = refl
is_mark-same marks.Below = refl
is_mark-same marks.AtMost = refl
is_mark-same marks.Above = refl
is_mark-same marks.AtLeast = refl
is_mark-same marks.Colon = refl

-- ---- tokens that pass one of two tests

pub either_left : (p q : Token → Bool) (ts : List Token) → begins (either p q) ts ≡ false → begins p ts ≡ false
either_left p q [] h = refl
either_left p q (t ∷ ts) h = elim (chosen (p t) true (q t) false h) [ inl k ↦ absurd cc | inr k ↦ k.0 ]

pub either_right : (p q : Token → Bool) (ts : List Token) → begins (either p q) ts ≡ false → begins q ts ≡ false
either_right p q [] h = refl
either_right p q (t ∷ ts) h = elim (chosen (p t) true (q t) false h) [ inl k ↦ absurd cc | inr k ↦ k.1 ]

passes_left : (p q : Token → Bool) (ts : List Token) → begins p ts ≡ true → begins (either p q) ts ≡ true
passes_left p q [] h = absurd cc
passes_left p q (t ∷ ts) h = rw h refl

passes_right : (p q : Token → Bool) (ts : List Token) → begins q ts ≡ true → begins (either p q) ts ≡ true
passes_right p q [] h = absurd cc
passes_right p q (t ∷ ts) h = elim (cases_Bool (p t)) [ inl k ↦ rw k refl | inr k ↦ rw k h ]

-- ---- beginnings

pub leads_word : (w : List ℕ) → Leads (word w) (is_word w)
leads_word w v ts s = rw s (is_word-same w)

pub leads_mark : (m : Mark) → Leads (mark m) (is_mark m)
leads_mark m v ts s = rw s (is_mark-same m)

pub leads_after : {B : Type 0} (a : Grammar (Unit {0})) (b : Grammar B) (starts : Token → Bool) → Leads a starts → Leads (a ▹ b) starts
leads_after a b starts h v ts s = rw s.4 (begins-append starts s.0 s.1 (h tt s.0 s.2))

pub leads_pair : {A B : Type 0} (a : Grammar A) (b : Grammar B) (starts : Token → Bool) → Leads a starts → Leads (a · b) starts
leads_pair a b starts h v ts s = rw s.4 (begins-append starts s.0 s.1 (h v.0 s.0 s.2))

pub apart_words : (a b : List ℕ) → bytes_eq b a ≡ false → Apart (is_word a) (is_word b)
apart_words a b differ t h = rw (is_word_is b t h) differ

pub apart_mark_word : (m : Mark) (w : List ℕ) → Apart (is_mark m) (is_word w)
apart_mark_word m w t h = rw (is_word_is w t h) refl

pub apart_word_mark : (w : List ℕ) (m : Mark) → Apart (is_word w) (is_mark m)
apart_word_mark w m t h = rw (is_mark_is m t h) refl

pub apart_marks : (a b : Mark) → is_same b a ≡ false → Apart (is_mark a) (is_mark b)
apart_marks a b differ t h = rw (is_mark_is b t h) differ

pub apart_nothing : (q : Token → Bool) → Apart nothing q
apart_nothing q t h = refl

pub apart_either : (p q s : Token → Bool) → Apart p s → Apart q s → Apart (either p q) s
apart_either p q s a b t h = rw (a t h, b t h) refl

pub apart_from_either : (p q s : Token → Bool) → Apart p q → Apart p s → Apart p (either q s)
apart_from_either p q s a b t h = elim (chosen (q t) true (s t) true h) [ inl k ↦ a t k.0 | inr k ↦ b t k.1 ]

-- ---- what may follow two parts

-- the first part ends by itself
pub ended : {B : Type 0} (b : Grammar B) (q : Token → Bool) → Meets nothing b q q
ended b q v ts rest spelled ends = (begins_nothing (ts ++ rest), ends)

-- the second part begins with a token that doesn't go on
pub led : {B : Type 0} (p : Token → Bool) (b : Grammar B) (q starts : Token → Bool) → Leads b starts → Apart p starts → Meets p b q q
led p b q starts leads apart v ts rest spelled ends = (begins-apart p starts apart ts rest (leads v ts spelled), ends)

-- what may be left out doesn't go on either
pub optional_meets : {V : Type 0} (p starts q : Token → Bool) (g : Grammar V) → Leads g starts → Apart p starts → Meets p (optional starts g) (either starts q) (either p (either starts q))
optional_meets p starts q g leads apart None ts rest s ends = (rw s (either_left p (either starts q) rest ends), either_right p (either starts q) rest ends)
optional_meets p starts q g leads apart (Some v) ts rest s ends = (begins-apart p starts apart ts rest (leads v ts s), either_right p (either starts q) rest ends)

pub leads_optional : {V B : Type 0} (g : Grammar V) (b : Grammar B) (starts next : Token → Bool) → Leads g starts → Leads b next → Leads (optional starts g · b) (either starts next)
leads_optional g b starts next h k (None, v) ts s = rw (s.4, s.2) (passes_right starts next s.1 (k v s.1 s.3))
leads_optional g b starts next h k (Some u, v) ts s = rw s.4 (passes_left starts next (s.0 ++ s.1) (begins-append starts s.0 s.1 (h u s.0 s.2)))

-- ---- at the end of the tokens
pub at_end : (p : Token → Bool) (rest : List Token) → begins anything rest ≡ false → begins p rest ≡ false
at_end p [] h = refl
at_end p (t ∷ rest) h = absurd cc

pub ends_all : {V : Type 0} (g : Grammar V) (p : Token → Bool) → IsExact g p → IsExact g anything
ends_all g p x = record { takes = x.takes; again = λ v front rest s ends. x.again v front rest s (at_end p rest ends) }
