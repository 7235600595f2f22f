-- Grammars whose values are printed in at most seven bytes for each three of the tokens that spell them.
use Rattle.std.proofs.Common.{◌≡◌, ℕ, ◌+◌, ◌*◌, ◌≤◌, Bool, List, [], ◌∷◌, ◌++◌, length, Option, Some, None, sym, ap, subst, ◌∙◌, arith, inl, inr}
use Rattle.std.specs.Prelude.{codes}
use Rattle.std.proofs.lemmas.List.{length-append}
use Rattle.std.proofs.lemmas.List.Concat.{flat_map-cons}
use Rattle.token_grammar.specs.declared.mark.Mark.{Mark}
use Rattle.token_grammar.specs.declared.mark.Mark.TheVariants as marks
use Rattle.token_grammar.specs.declared.token.Token.{Token}
use Rattle.token_grammar.specs.Grammar.{Grammar, Each, is_mark, word, mark, meant, commas, ◌·◌, ◌▹◌, ◌◃◌, optional, separated, tested}
use Rattle.token_grammar.proofs.Options.{some_is}
use Rattle.sql_parse.specs.Parts.{or_else, built, in_brackets}
use Rattle.sql_print.specs.Printing.{each_text, separated_text}
use Rattle.stmt_size_laws.proofs.TokenLengths.{tokens_length, tokens_length-append, mark_long}

-- three times the printed text, and something to spare, are within seven times the tokens
abbrev pub Within : ℕ → List ℕ → List Token → Type 0
Within spare x ts = 3 * length x + spare ≤ 7 * tokens_length ts

-- whatever tokens spell a value, its printed text is within them
abbrev pub Fits : {V : Type 0} → ℕ → Grammar V → (V → List ℕ) → Type 0
Fits spare g text = (v : _) (ts : List Token) → g.Spells v ts → Within spare (text v) ts

-- its printed text is within them, but for something that another part has to spare
abbrev pub Owes : {V : Type 0} → ℕ → Grammar V → (V → List ℕ) → Type 0
Owes lack g text = (v : _) (ts : List Token) → g.Spells v ts → 3 * length (text v) ≤ 7 * tokens_length ts + lack

-- nothing is printed of it
abbrev pub no_text : {V : Type 0} → V → List ℕ
no_text v = []

-- ---- Tokens that say nothing.

pub fits_word : (w : List ℕ) → Fits (7 * length w) (word w) no_text
fits_word w v ts s = rw s (omega arith)

pub fits_mark : (m : Mark) → Fits 7 (mark m) no_text
fits_mark m v ts s = rw s (omega (arith, mark_long m))

-- where nothing is printed there is nothing to fit
pub fits_nothing : {V : Type 0} (g : Grammar V) → Fits 0 g no_text
fits_nothing g v ts s = omega arith

-- what is printed is short, whatever was read
pub fits_short : {V : Type 0} (much spare : ℕ) (g : Grammar V) (text : V → List ℕ) → Fits much g no_text → ((v : V) → 3 * length (text v) + spare ≤ much) → Fits spare g text
fits_short much spare g text fg short v ts s =
    let enough = fg v ts s in
    let few = short v in
    omega (arith, enough, few)

-- less may be spared
pub fits_less : {V : Type 0} (much spare : ℕ) (g : Grammar V) (text : V → List ℕ) → spare ≤ much → Fits much g text → Fits spare g text
fits_less much spare g text le fg v ts s = let k = fg v ts s in omega (arith, k, le)

-- ---- One part and then another.

pub joined : (x y : List ℕ) (ts us vs : List Token) (p q : ℕ) → ts ≡ us ++ vs → Within p x us → Within q y vs → Within (p + q) (x ++ y) ts
joined x y ts us vs p q e h k =
    let size = ap tokens_length e ∙ tokens_length-append us vs in
    let text = length-append x y in
    omega (arith, h, k, size, text)

pub fits_pair : {A B : Type 0} (p q : ℕ) (a : Grammar A) (b : Grammar B) (f : A → List ℕ) (h : B → List ℕ) → Fits p a f → Fits q b h → Fits (p + q) (a · b) (λ v. f v.0 ++ h v.1)
fits_pair p q a b f h fa fb v ts s = joined (f v.0) (h v.1) ts s.0 s.1 p q s.4 (fa v.0 s.0 s.2) (fb v.1 s.1 s.3)

-- what the first part lacks the second has to spare
pub fits_owed : {A B : Type 0} (lack : ℕ) (a : Grammar A) (b : Grammar B) (f : A → List ℕ) (h : B → List ℕ) → Owes lack a f → Fits lack b h → Fits 0 (a · b) (λ v. f v.0 ++ h v.1)
fits_owed lack a b f h oa fb v ts s =
    let size = ap tokens_length s.4 ∙ tokens_length-append s.0 s.1 in
    let text = length-append (f v.0) (h v.1) in
    let first = oa v.0 s.0 s.2 in
    let second = fb v.1 s.1 s.3 in
    omega (arith, size, text, first, second)

-- a part after something that is printed alike always
pub fits_after : {B : Type 0} (much more spare : ℕ) (k : Grammar (Unit {0})) (b : Grammar B) (x : List ℕ) (h : B → List ℕ) → 3 * length x + spare ≤ much + more
    → Fits much k no_text → Fits more b h → Fits spare (k ▹ b) (λ v. x ++ h v)
fits_after much more spare k b x h enough fk fb v ts s =
    let size = ap tokens_length s.4 ∙ tokens_length-append s.0 s.1 in
    let text = length-append x (h v) in
    let first = fk tt s.0 s.2 in
    let second = fb v s.1 s.3 in
    omega (arith, enough, size, text, first, second)

-- a word of which nothing is printed: it is to spare
pub fits_led : {B : Type 0} (w : List ℕ) (more spare : ℕ) (b : Grammar B) (h : B → List ℕ) → spare ≤ 7 * length w + more → Fits more b h → Fits spare (word w ▹ b) h
fits_led w more spare b h enough fb = fits_after (7 * length w) more spare (word w) b [] h (omega (arith, enough)) (fits_word w) fb

-- a part that lacks something, after something of which nothing is printed
pub owes_behind : {B : Type 0} (lack : ℕ) (k : Grammar (Unit {0})) (b : Grammar B) (h : B → List ℕ) → Owes lack b h → Owes lack (k ▹ b) h
owes_behind lack k b h ob v ts s =
    let size = ap tokens_length s.4 ∙ tokens_length-append s.0 s.1 in
    let second = ob v s.1 s.3 in
    omega (arith, size, second)

-- a part that lacks what is printed before it
pub owes_text : {B : Type 0} (lack : ℕ) (x : List ℕ) (b : Grammar B) (h : B → List ℕ) → 3 * length x ≤ lack → Fits 0 b h → Owes lack b (λ v. x ++ h v)
owes_text lack x b h enough fb v ts s =
    let text = length-append x (h v) in
    let one = fb v ts s in
    omega (arith, enough, text, one)

-- a word that has to spare what the part after it lacks
pub fits_paid : {B : Type 0} (w : List ℕ) (b : Grammar B) (h : B → List ℕ) → Owes (7 * length w) b h → Fits 0 (word w ▹ b) h
fits_paid w b h ob v ts s =
    let size = ap tokens_length s.4 ∙ tokens_length-append s.0 s.1 in
    let first = fits_word w tt s.0 s.2 in
    let second = ob v s.1 s.3 in
    omega (arith, size, first, second)

-- a part before something that is printed alike always
pub fits_before : {A : Type 0} (more much spare : ℕ) (a : Grammar A) (k : Grammar (Unit {0})) (x : List ℕ) (f : A → List ℕ) → 3 * length x + spare ≤ more + much
    → Fits more a f → Fits much k no_text → Fits spare (a ◃ k) (λ v. f v ++ x)
fits_before more much spare a k x f enough fa fk v ts s =
    let size = ap tokens_length s.4 ∙ tokens_length-append s.0 s.1 in
    let text = length-append (f v) x in
    let first = fa v s.0 s.2 in
    let second = fk tt s.1 s.3 in
    omega (arith, enough, size, text, first, second)

-- a part after something of which nothing is printed
pub fits_behind : {B : Type 0} (spare : ℕ) (k : Grammar (Unit {0})) (b : Grammar B) (h : B → List ℕ) → Fits spare b h → Fits spare (k ▹ b) h
fits_behind spare k b h fb v ts s =
    let size = ap tokens_length s.4 ∙ tokens_length-append s.0 s.1 in
    let second = fb v s.1 s.3 in
    omega (arith, size, second)

-- a pair whose first value is not printed
pub fits_second : {A B : Type 0} (spare : ℕ) (a : Grammar A) (b : Grammar B) (h : B → List ℕ) → Fits spare b h → Fits spare (a · b) (λ v. h v.1)
fits_second spare a b h fb v ts s =
    let size = ap tokens_length s.4 ∙ tokens_length-append s.0 s.1 in
    let second = fb v.1 s.1 s.3 in
    omega (arith, size, second)

-- ---- Values that are built, tested, optional or one of two.

pub fits_built : {A V : Type 0} (spare : ℕ) (to : A → V) (g : Grammar A) (f : A → List ℕ) (text : V → List ℕ) → ((a : A) → f a ≡ text (to a)) → Fits spare g f → Fits spare (built to g) text
fits_built spare to g f text same fg v ts s = subst (λ (x : List ℕ). Within spare x ts) (same s.0 ∙ ap text (some_is (to s.0) v s.2)) (fg s.0 ts s.1)

pub owes_built : {A V : Type 0} (lack : ℕ) (to : A → V) (g : Grammar A) (f : A → List ℕ) (text : V → List ℕ) → ((a : A) → f a ≡ text (to a)) → Owes lack g f → Owes lack (built to g) text
owes_built lack to g f text same og v ts s = subst (λ (x : List ℕ). 3 * length x ≤ 7 * tokens_length ts + lack) (same s.0 ∙ ap text (some_is (to s.0) v s.2)) (og s.0 ts s.1)

-- a value that is printed in no more bytes than what it is built of
pub fits_shorter : {A V : Type 0} (spare : ℕ) (to : A → V) (g : Grammar A) (f : A → List ℕ) (text : V → List ℕ) → ((a : A) → length (text (to a)) ≤ length (f a)) → Fits spare g f → Fits spare (built to g) text
fits_shorter spare to g f text short fg v ts s =
    let given = fg s.0 ts s.1 in
    let few = short s.0 in
    let within : Within spare (text (to s.0)) ts = omega (arith, given, few) in
    subst (λ x. Within spare (text x) ts) (some_is (to s.0) v s.2) within

pub fits_tested : {V : Type 0} (spare : ℕ) (test : V → Bool) (g : Grammar V) (f : V → List ℕ) → Fits spare g f → Fits spare (tested test g) f
fits_tested spare test g f fg v ts s = fg v ts s.0

pub fits_or_else : {V : Type 0} (spare : ℕ) (looks : List Token → Bool) (a b : Grammar V) (f : V → List ℕ) → Fits spare a f → Fits spare b f → Fits spare (or_else looks a b) f
fits_or_else spare looks a b f fa fb v ts (inl s) = fa v ts s
fits_or_else spare looks a b f fa fb v ts (inr s) = fb v ts s

-- an optional part; nothing is printed where it does not stand
pub fits_optional : {V : Type 0} (starts : Token → Bool) (g : Grammar V) (text : Option V → List ℕ) → text None ≡ [] → Fits 0 g (λ v. text (Some v)) → Fits 0 (optional starts g) text
fits_optional starts g text none fg None ts s = rw none (omega arith)
fits_optional starts g text none fg (Some v) ts s = fg v ts s

-- a value that one token means
pub fits_meant : {V : Type 0} (spare : ℕ) (meaning : Token → Option V) (text : V → List ℕ) → ((t : Token) (v : V) → meaning t ≡ Some v → Within spare (text v) (t ∷ [])) → Fits spare (meant meaning) text
fits_meant spare meaning text h v ts s = subst (λ (us : List Token). Within spare (text v) us) (sym s.1) (h s.0 v s.2)

-- ---- Lists and brackets.

-- any number of parts, each after a separator
pub fits_each : {V : Type 0} (g : Grammar V) (separator : List ℕ) (text : V → List ℕ) → Fits 0 g (λ v. separator ++ text v) → (vs : List V) (ts : List Token) → Each g.Spells vs ts → Within 0 (each_text separator text vs) ts
fits_each g separator text fg [] ts s = omega arith
fits_each g separator text fg (v ∷ vs) ts s =
    subst (λ (x : List ℕ). Within 0 x ts) (sym (flat_map-cons (λ w. separator ++ text w) v vs))
    (joined (separator ++ text v) (each_text separator text vs) ts s.0 s.1 0 0 s.4 (fg v s.0 s.2) (fits_each g separator text fg vs s.1 s.3))

-- one or more, with a separator between them
pub fits_separated : {V : Type 0} (starts : Token → Bool) (k : Grammar (Unit {0})) (g : Grammar V) (separator : List ℕ) (text : V → List ℕ) → Fits 0 g text → Fits 0 (k ▹ g) (λ v. separator ++ text v)
    → Fits 0 (separated starts k g) (separated_text separator text)
fits_separated starts k g separator text fg fk [] ts s = absurd s
fits_separated starts k g separator text fg fk (v ∷ vs) ts s = joined (text v) (each_text separator text vs) ts s.0 s.1 0 0 s.4 (fg v s.0 s.2) (fits_each (k ▹ g) separator text fk vs s.1 s.3)

-- part {, part}
pub fits_commas : {V : Type 0} (g : Grammar V) (text : V → List ℕ) → Fits 0 g text → Fits 0 (commas g) (separated_text (codes ", ") text)
fits_commas g text fg = fits_separated (is_mark marks.Comma) (mark marks.Comma) g (codes ", ") text fg (fits_after 7 0 0 (mark marks.Comma) g (codes ", ") text (omega arith) (fits_mark marks.Comma) fg)

-- ( part ), with a blank in front or without
pub fits_brackets : {V : Type 0} (g : Grammar V) (x : List ℕ) (f : V → List ℕ) → length x ≤ 2 → Fits 0 g f → Fits 0 (in_brackets g) (λ v. x ++ (f v ++ codes ")"))
fits_brackets g x f short fg =
    fits_after 7 0 0 (mark marks.Open) (g ◃ mark marks.Close) x (λ v. f v ++ codes ")") (omega (arith, short)) (fits_mark marks.Open)
    (fits_before 0 7 0 g (mark marks.Close) (codes ")") f (omega arith) fg (fits_mark marks.Close))
