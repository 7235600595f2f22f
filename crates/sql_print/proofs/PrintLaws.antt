-- Grammars whose values are printed: the printed text of each value is tokens that spell it again.
use Rattle.std.proofs.Common.{◌≡◌, ℕ, Bool, false, List, [], ◌∷◌, ◌++◌, Option, Some, None, refl, ap, subst, ◌∙◌, append_assoc, inl, inr}
use Rattle.std.specs.Prelude.{codes}
use Rattle.std.proofs.lemmas.List.Concat.{flat_map-cons}
use Rattle.token_grammar.specs.declared.mark.Mark.{Mark}
use Rattle.token_grammar.specs.declared.mark.Mark.TheVariants as marks
use Rattle.token_grammar.specs.declared.token.Token.{Token}
use Rattle.token_grammar.specs.declared.token.Token.TheVariants as token
use Rattle.token_grammar.specs.Steps.{begins}
use Rattle.token_grammar.specs.Tokens.{TokenText}
use Rattle.token_grammar.specs.Grammar.{Grammar, is_mark, word, mark, meant, commas, ◌·◌, ◌▹◌, ◌◃◌, optional, Each, many, separated, tested}
use Rattle.token_grammar.proofs.Options.{some_is}
use Rattle.sql_parse.specs.Parts.{or_else, built, in_brackets}
use Rattle.sql_print.specs.Printing.{each_text, separated_text}
use Rattle.sql_print.proofs.WriteLaws.{goes_on, no_byte, Writes, word_written, open_written, close_written, comma_written, blank_written, nothing_written, then_written, joined_written, ended, spaced, IsMade, AreMade, front_made, rest_made}

-- ---- What is printed is spelled.

-- whatever tokens spell a value, its printed text is tokens that spell it too
abbrev pub Prints : {V : Type 0} → Grammar V → (V → List ℕ) → Type 0
Prints g text = (v : _) (ts : List Token) → AreMade ts → g.Spells v ts → (us : List Token) × g.Spells v us × Writes goes_on us (text v)

-- the text keeps what stands before it from going on, where what follows does
abbrev pub Quiet : {V : Type 0} → (V → List ℕ) → Type 0
Quiet text = (v : _) (rest : List ℕ) → begins goes_on rest ≡ false → begins goes_on (text v ++ rest) ≡ false

-- one part and then another, whose text keeps the first from going on
pub prints_pair : {A B : Type 0} (a : Grammar A) (b : Grammar B) (f : A → List ℕ) (h : B → List ℕ) → Prints a f → Prints b h → Quiet h → Prints (a · b) (λ v. f v.0 ++ h v.1)
prints_pair a b f h pa pb quiet v ts m s =
    let x = pa v.0 s.0 (front_made ts s.0 s.1 s.4 m) s.2 in
    let y = pb v.1 s.1 (rest_made ts s.0 s.1 s.4 m) s.3 in
    (x.0 ++ y.0, (x.0, y.0, x.1, y.1, refl), then_written goes_on goes_on x.0 y.0 (f v.0) (h v.1) x.2 y.2 (λ rest e. quiet v.1 rest e))

-- a part after something that is always printed alike
pub prints_after : {B : Type 0} (a : Grammar (Unit {0})) (b : Grammar B) (us : List Token) (x : List ℕ) (h : B → List ℕ) → a.Spells tt us → Writes no_byte us x
    → Prints b h → Prints (a ▹ b) (λ v. x ++ h v)
prints_after a b us x h spelled w pb v ts m s =
    let y = pb v s.1 (rest_made ts s.0 s.1 s.4 m) s.3 in
    (us ++ y.0, (us, y.0, spelled, y.1, refl), joined_written goes_on us y.0 x (h v) w y.2)

-- a part before something that is always printed alike
pub prints_before : {A : Type 0} (a : Grammar A) (b : Grammar (Unit {0})) (us : List Token) (x : List ℕ) (f : A → List ℕ) → b.Spells tt us → Writes goes_on us x
    → ((rest : List ℕ) → begins goes_on rest ≡ false → begins goes_on (x ++ rest) ≡ false) → Prints a f → Prints (a ◃ b) (λ v. f v ++ x)
prints_before a b us x f spelled w quiet pa v ts m s =
    let y = pa v s.0 (front_made ts s.0 s.1 s.4 m) s.2 in
    (y.0 ++ us, (y.0, us, y.1, spelled, refl), then_written goes_on goes_on y.0 us (f v) x y.2 w quiet)

-- a value that is built of another
pub prints_built : {A V : Type 0} (to : A → V) (g : Grammar A) (f : A → List ℕ) (text : V → List ℕ) → ((a : A) → f a ≡ text (to a)) → Prints g f → Prints (built to g) text
prints_built to g f text same pg v ts m s =
    let x = pg s.0 ts m s.1 in
    (x.0, (s.0, x.1, s.2), subst (Writes goes_on x.0) (same s.0 ∙ ap text (some_is (to s.0) v s.2)) x.2)

-- a value that passes a test
pub prints_tested : {V : Type 0} (test : V → Bool) (g : Grammar V) (f : V → List ℕ) → Prints g f → Prints (tested test g) f
prints_tested test g f pg v ts m s = let x = pg v ts m s.0 in (x.0, (x.1, s.1), x.2)

-- one of two parts
pub prints_or_else : {V : Type 0} (looks : List Token → Bool) (a b : Grammar V) (f : V → List ℕ) → Prints a f → Prints b f → Prints (or_else looks a b) f
prints_or_else looks a b f pa pb v ts m (inl s) = let x = pa v ts m s in (x.0, inl x.1, x.2)
prints_or_else looks a b f pa pb v ts m (inr s) = let x = pb v ts m s in (x.0, inr x.1, x.2)

-- an optional part; nothing is printed where it does not stand
pub prints_optional : {V : Type 0} (starts : Token → Bool) (g : Grammar V) (text : Option V → List ℕ) → text None ≡ [] → Prints g (λ v. text (Some v)) → Prints (optional starts g) text
prints_optional starts g text none pg None ts m s = ([], refl, rw none (nothing_written goes_on))
prints_optional starts g text none pg (Some v) ts m s = pg v ts m s

-- a value that one token means
pub prints_meant : {V : Type 0} (meaning : Token → Option V) (text : V → List ℕ)
    → ((t : Token) (v : V) → IsMade t → meaning t ≡ Some v → (u : Token) × (meaning u ≡ Some v) × Writes goes_on (u ∷ []) (text v)) → Prints (meant meaning) text
prints_meant meaning text h v ts m s = let x = h s.0 v (subst AreMade s.1 m).0 s.2 in (x.0 ∷ [], (x.0, refl, x.1), x.2)

module _ {V : Type 0} (g : Grammar V) (separator : List ℕ) (text : V → List ℕ) (pg : Prints g (λ v. separator ++ text v)) (starts : Token → Bool) (quiet : (v : V) (rest : List ℕ) → begins goes_on ((separator ++ text v) ++ rest) ≡ false) where
  each_quiet : (vs : List V) (rest : List ℕ) → begins goes_on rest ≡ false → begins goes_on (each_text separator text vs ++ rest) ≡ false
  each_quiet [] rest h = h
  each_quiet (v ∷ vs) rest h = rw (flat_map-cons (λ w. separator ++ text w) v vs, append_assoc (separator ++ text v) (each_text separator text vs) rest) (quiet v (each_text separator text vs ++ rest))

  each_printed : (vs : List V) (ts : List Token) → AreMade ts → Each g.Spells vs ts → (us : List Token) × Each g.Spells vs us × Writes goes_on us (each_text separator text vs)
  each_printed [] ts m s = ([], refl, nothing_written goes_on)
  each_printed (v ∷ vs) ts m s =
      let x = pg v s.0 (front_made ts s.0 s.1 s.4 m) s.2 in
      let y = each_printed vs s.1 (rest_made ts s.0 s.1 s.4 m) s.3 in
      let both = then_written goes_on goes_on x.0 y.0 (separator ++ text v) (each_text separator text vs) x.2 y.2 (λ rest e. each_quiet vs rest e) in
      (x.0 ++ y.0, (x.0, y.0, x.1, y.1, refl), rw (flat_map-cons (λ w. separator ++ text w) v vs) both)

  -- any number of parts, each after a separator
  pub prints_many : Prints (many starts g) (each_text separator text)
  prints_many = each_printed

  -- where such a part is printed, what stands before does not go on
  pub many_quiet : Quiet (each_text separator text)
  many_quiet = each_quiet

module _ {V : Type 0} (g : Grammar V) (between : Grammar (Unit {0})) (starts : Token → Bool) (separator : List ℕ) (text : V → List ℕ) (pg : Prints g text) (pn : Prints (between ▹ g) (λ v. separator ++ text v))
    (quiet : (v : V) (rest : List ℕ) → begins goes_on ((separator ++ text v) ++ rest) ≡ false) where
  -- one or more, with a separator between them
  pub prints_separated : Prints (separated starts between g) (separated_text separator text)
  prints_separated [] ts m s = absurd s
  prints_separated (v ∷ vs) ts m s =
      let x = pg v s.0 (front_made ts s.0 s.1 s.4 m) s.2 in
      let y = each_printed (between ▹ g) separator text pn starts quiet vs s.1 (rest_made ts s.0 s.1 s.4 m) s.3 in
      let quiet_rest = each_quiet (between ▹ g) separator text pn starts quiet vs in
      (x.0 ++ y.0, (x.0, y.0, x.1, y.1, refl), then_written goes_on goes_on x.0 y.0 (text v) (each_text separator text vs) x.2 y.2 (λ rest e. quiet_rest rest e))

-- ---- More ways to put them together.

-- the same, with what ends by itself
abbrev pub PrintsEnded : {V : Type 0} → Grammar V → (V → List ℕ) → Type 0
PrintsEnded g text = (v : _) (ts : List Token) → AreMade ts → g.Spells v ts → (us : List Token) × g.Spells v us × Writes no_byte us (text v)

-- one part that ends by itself, and then another
pub prints_ended_pair : {A B : Type 0} (a : Grammar A) (b : Grammar B) (f : A → List ℕ) (h : B → List ℕ) → PrintsEnded a f → Prints b h → Prints (a · b) (λ v. f v.0 ++ h v.1)
prints_ended_pair a b f h pa pb v ts m s =
    let x = pa v.0 s.0 (front_made ts s.0 s.1 s.4 m) s.2 in
    let y = pb v.1 s.1 (rest_made ts s.0 s.1 s.4 m) s.3 in
    (x.0 ++ y.0, (x.0, y.0, x.1, y.1, refl), joined_written goes_on x.0 y.0 (f v.0) (h v.1) x.2 y.2)

-- a part with a blank in front
pub prints_blank : {V : Type 0} (g : Grammar V) (f : V → List ℕ) → Prints g f → Prints g (λ v. codes " " ++ f v)
prints_blank g f pg v ts m s = let x = pg v ts m s in (x.0, x.1, blank_written goes_on x.0 (f v) x.2)

-- a keyword with a blank after it
pub keyword_written : (w : List ℕ) → TokenText (token.Word w) w → Writes no_byte (token.Word w ∷ []) (w ++ 32 ∷ [])
keyword_written w spelled = spaced (token.Word w ∷ []) w (word_written w spelled)

-- a keyword between blanks
pub inner_written : (w : List ℕ) → TokenText (token.Word w) w → Writes no_byte (token.Word w ∷ []) (32 ∷ (w ++ 32 ∷ []))
inner_written w spelled = blank_written no_byte (token.Word w ∷ []) (w ++ 32 ∷ []) (keyword_written w spelled)

-- a keyword and a blank, then a part
pub prints_keyword : {B : Type 0} (w : List ℕ) (b : Grammar B) (h : B → List ℕ) → TokenText (token.Word w) w → Prints b h → Prints (word w ▹ b) (λ v. (w ++ 32 ∷ []) ++ h v)
prints_keyword w b h spelled pb = prints_after (word w) b (token.Word w ∷ []) (w ++ 32 ∷ []) h refl (keyword_written w spelled) pb

-- a keyword between blanks, then a part
pub prints_inner : {B : Type 0} (w : List ℕ) (b : Grammar B) (h : B → List ℕ) → TokenText (token.Word w) w → Prints b h → Prints (word w ▹ b) (λ v. (32 ∷ (w ++ 32 ∷ [])) ++ h v)
prints_inner w b h spelled pb = prints_after (word w) b (token.Word w ∷ []) (32 ∷ (w ++ 32 ∷ [])) h refl (inner_written w spelled) pb

-- two keywords, with a blank before each
pub two_words_written : (v w : List ℕ) → TokenText (token.Word v) v → TokenText (token.Word w) w → Writes goes_on (token.Word v ∷ token.Word w ∷ []) ((32 ∷ (v ++ 32 ∷ [])) ++ w)
two_words_written v w first second = joined_written goes_on (token.Word v ∷ []) (token.Word w ∷ []) (32 ∷ (v ++ 32 ∷ [])) w (inner_written v first) (word_written w second)

-- a mark and a blank after it
pub mark_written : (m : Mark) (x : List ℕ) → Writes no_byte (token.Mark m ∷ []) x → Writes no_byte (token.Mark m ∷ []) (x ++ 32 ∷ [])
mark_written m x w = spaced (token.Mark m ∷ []) x (ended (token.Mark m ∷ []) x w)

-- a word right before a part
pub prints_word : {B : Type 0} (w : List ℕ) (b : Grammar B) (h : B → List ℕ) → TokenText (token.Word w) w → Prints b h → Quiet h → Prints (word w ▹ b) (λ v. w ++ h v)
prints_word w b h spelled pb quiet v ts m s =
    let y = pb v s.1 (rest_made ts s.0 s.1 s.4 m) s.3 in
    (token.Word w ∷ y.0, (token.Word w ∷ [], y.0, refl, y.1, refl), then_written goes_on goes_on (token.Word w ∷ []) y.0 w (h v) (word_written w spelled) y.2 (λ rest e. quiet v rest e))

-- a word alone
pub prints_word_alone : (w : List ℕ) → TokenText (token.Word w) w → Prints (word w) (λ x. w)
prints_word_alone w spelled v ts m s = (token.Word w ∷ [], refl, word_written w spelled)

-- ( part )
pub prints_brackets : {V : Type 0} (g : Grammar V) (f : V → List ℕ) → Prints g f → Prints (in_brackets g) (λ v. codes "(" ++ (f v ++ codes ")"))
prints_brackets g f pg = prints_after (mark marks.Open) (g ◃ mark marks.Close) (token.Mark marks.Open ∷ []) (codes "(") (λ v. f v ++ codes ")") refl open_written
    (prints_before g (mark marks.Close) (token.Mark marks.Close ∷ []) (codes ")") f refl (ended (token.Mark marks.Close ∷ []) (codes ")") close_written) (λ rest e. refl) pg)

-- part {, part}
pub prints_commas : {V : Type 0} (g : Grammar V) (f : V → List ℕ) → Prints g f → Prints (commas g) (separated_text (codes ", ") f)
prints_commas g f pg = prints_separated g (mark marks.Comma) (is_mark marks.Comma) (codes ", ") f pg
    (prints_after (mark marks.Comma) g (token.Mark marks.Comma ∷ []) (codes ", ") f refl (mark_written marks.Comma (codes ",") comma_written) pg)
    (λ v rest. refl)

-- what is printed before a choice is printed before each of its parts
pub prints_after_or : {V : Type 0} (k : Grammar (Unit {0})) (looks : List Token → Bool) (a b : Grammar V) (f : V → List ℕ) → Prints (k ▹ a) f → Prints (k ▹ b) f
    → Prints (k ▹ or_else looks a b) f
prints_after_or k looks a b f pa pb v ts m (xs, ys, front, inl s, e) = let x = pa v ts m (xs, ys, front, s, e) in (x.0, (x.1.0, x.1.1, x.1.2, inl x.1.3, x.1.4), x.2)
prints_after_or k looks a b f pa pb v ts m (xs, ys, front, inr s, e) = let x = pb v ts m (xs, ys, front, s, e) in (x.0, (x.1.0, x.1.1, x.1.2, inr x.1.3, x.1.4), x.2)

-- and before what is built of a part
pub prints_after_built : {A V : Type 0} (k : Grammar (Unit {0})) (to : A → V) (g : Grammar A) (f : A → List ℕ) (text : V → List ℕ) → ((a : A) → f a ≡ text (to a))
    → Prints (k ▹ g) f → Prints (k ▹ built to g) text
prints_after_built k to g f text same pg v ts m s =
    let x = pg s.3.0 ts m (s.0, s.1, s.2, s.3.1, s.4) in
    (x.0, (x.1.0, x.1.1, x.1.2, (s.3.0, x.1.3, s.3.2), x.1.4), subst (Writes goes_on x.0) (same s.3.0 ∙ ap text (some_is (to s.3.0) v s.3.2)) x.2)

-- and what stands after two stands after them in each
pub prints_after_two_or : {V : Type 0} (k l : Grammar (Unit {0})) (looks : List Token → Bool) (a b : Grammar V) (f : V → List ℕ) → Prints (k ▹ l ▹ a) f
    → Prints (k ▹ l ▹ b) f → Prints (k ▹ l ▹ or_else looks a b) f
prints_after_two_or k l looks a b f pa pb v ts m (xs, ys, front, (zs, ws, next, inl s, d), e) =
    let x = pa v ts m (xs, ys, front, (zs, ws, next, s, d), e) in
    let y = x.1.3 in
    (x.0, (x.1.0, x.1.1, x.1.2, (y.0, y.1, y.2, inl y.3, y.4), x.1.4), x.2)
prints_after_two_or k l looks a b f pa pb v ts m (xs, ys, front, (zs, ws, next, inr s, d), e) =
    let x = pb v ts m (xs, ys, front, (zs, ws, next, s, d), e) in
    let y = x.1.3 in
    (x.0, (x.1.0, x.1.1, x.1.2, (y.0, y.1, y.2, inr y.3, y.4), x.1.4), x.2)

-- and what is built, after two
pub prints_after_two_built : {A V : Type 0} (k l : Grammar (Unit {0})) (to : A → V) (g : Grammar A) (f : A → List ℕ) (text : V → List ℕ) → ((a : A) → f a ≡ text (to a))
    → Prints (k ▹ l ▹ g) f → Prints (k ▹ l ▹ built to g) text
prints_after_two_built k l to g f text same pg v ts m s =
    let c = s.3.3 in
    let x = pg c.0 ts m (s.0, s.1, s.2, (s.3.0, s.3.1, s.3.2, c.1, s.3.4), s.4) in
    let y = x.1.3 in
    (x.0, (x.1.0, x.1.1, x.1.2, (y.0, y.1, y.2, (c.0, y.3, c.2), y.4), x.1.4), subst (Writes goes_on x.0) (same c.0 ∙ ap text (some_is (to c.0) v c.2)) x.2)
