-- What holds of each value that a grammar spells, from what holds of those of its parts.
use Rattle.std.proofs.Common.{◌≡◌, ◌<◌, ℕ, Bool, true, false, cond, List, [], ◌∷◌, length, map, Option, None, Some, subst, inl, inr, arith}
use Rattle.std.specs.Prelude.{nat_le, IfSome, IsTrue}
use Rattle.std.specs.Char.{to_ascii_uppercase}
use Rattle.std.specs.List.{All}
use Rattle.std.proofs.lemmas.List.Elements.{All-nil, All-cons}
use Rattle.dtx_values.specs.Name.{is_identifier, is_name, name_of}
use Rattle.dtx_values.proofs.NameLemmas.{name_of_upper}
use Rattle.token_grammar.proofs.Options.{test_some, some_is}
use Rattle.token_grammar.specs.declared.mark.Mark.TheVariants as marks
use Rattle.token_grammar.specs.declared.token.Token.{Token}
use Rattle.token_grammar.specs.declared.token.Token.TheVariants as token
use Rattle.token_grammar.specs.Grammar.{Grammar, Each, is_mark, mark, identifier, identifier_in, name, name_in, number_to, number_to_in, ◌·◌, ◌▹◌, optional, separated, commas, tested}
use Rattle.sql_parse.specs.Parts.{or_else, built, in_brackets}
use Rattle.sql_statement.specs.Whole.{IsName}

-- each value that the grammar spells is so
abbrev pub Spells : {V : Type 0} → Grammar V → (V → Type 0) → Type 0
Spells g P = (v : _) (ts : List Token) → g.Spells v ts → P v

-- ---- Parts.

-- one of two parts
pub spells_or_else : {V : Type 0} (looks : List Token → Bool) (a b : Grammar V) (P : V → Type 0) → Spells a P → Spells b P → Spells (or_else looks a b) P
spells_or_else looks a b P h k v ts (inl s) = h v ts s
spells_or_else looks a b P h k v ts (inr s) = k v ts s

-- a value that is built of another
pub spells_built : {A V : Type 0} (to : A → V) (g : Grammar A) (P : V → Type 0) → Spells g (λ a. P (to a)) → Spells (built to g) P
spells_built to g P h v ts s = subst P (some_is (to s.0) v s.2) (h s.0 ts s.1)

-- a value that passes a test
pub spells_tested : {V : Type 0} (test : V → Bool) (g : Grammar V) (P : V → Type 0) → Spells g P → Spells (tested test g) P
spells_tested test g P h v ts s = h v ts s.0

-- a value after something that says nothing
pub spells_after : {V : Type 0} (k : Grammar (Unit {0})) (g : Grammar V) (P : V → Type 0) → Spells g P → Spells (k ▹ g) P
spells_after k g P h v ts s = h v s.1 s.3

-- a pair
pub spells_pair : {A B : Type 0} (a : Grammar A) (b : Grammar B) (P : A → Type 0) (Q : B → Type 0) → Spells a P → Spells b Q → Spells (a · b) (λ v. P v.0 × Q v.1)
spells_pair a b P Q h k v ts s = (h v.0 s.0 s.2, k v.1 s.1 s.3)

-- an optional part
pub spells_optional : {V : Type 0} (starts : Token → Bool) (g : Grammar V) (P : V → Type 0) → Spells g P → Spells (optional starts g) (λ o. IfSome o P)
spells_optional starts g P h None ts s = tt
spells_optional starts g P h (Some v) ts s = h v ts s

-- a part in brackets
pub spells_brackets : {V : Type 0} (g : Grammar V) (P : V → Type 0) → Spells g P → Spells (in_brackets g) P
spells_brackets g P h v ts s = h v s.3.0 s.3.2

-- any number of parts
pub spells_each : {V : Type 0} (g : Grammar V) (P : V → Type 0) → Spells g P → (vs : List V) (ts : List Token) → Each g.Spells vs ts → All P vs
spells_each g P h [] ts s = All-nil P
spells_each g P h (v ∷ vs) ts s = All-cons P v vs (h v s.0 s.2) (spells_each g P h vs s.1 s.3)

-- one or more, with a separator between them
pub spells_separated : {V : Type 0} (starts : Token → Bool) (k : Grammar (Unit {0})) (g : Grammar V) (P : V → Type 0) → Spells g P → Spells (separated starts k g) (λ vs. (0 < length vs) × All P vs)
spells_separated starts k g P h [] ts s = absurd s
spells_separated starts k g P h (v ∷ vs) ts s = (omega arith, All-cons P v vs (h v s.0 s.2) (spells_each (k ▹ g) P (spells_after k g P h) vs s.1 s.3))

-- one or more, with commas between them
pub spells_commas : {V : Type 0} (g : Grammar V) (P : V → Type 0) → Spells g P → Spells (commas g) (λ vs. (0 < length vs) × All P vs)
spells_commas g P h = spells_separated (is_mark marks.Comma) (mark marks.Comma) g P h

-- ---- Names and numbers.

guarded : {A : Type 0} (b : Bool) (o : Option A) (v : A) → cond b o None ≡ Some v → o ≡ Some v
guarded true o v e = e
guarded false o v e = absurd cc

-- what a name spells is a name, in upper case
pub name_is : (bytes v : List ℕ) → name_of bytes ≡ Some v → IsName v
name_is bytes v e = let h = test_some (is_name bytes) (map to_ascii_uppercase bytes) v e in subst IsName h.1 (name_of_upper bytes h.0)

identifier_is : (t : Token) (v : List ℕ) → identifier_in t ≡ Some v → IsName v
identifier_is (token.Word w) v e = name_is w v (guarded (is_identifier w) (name_of w) v e)
identifier_is (token.Number n) v e = absurd cc
identifier_is (token.Quoted q) v e = absurd cc
identifier_is (token.Mark m) v e = absurd cc

-- an identifier is a name, in upper case
pub spells_identifier : Spells identifier IsName
spells_identifier v ts s = identifier_is s.0 v s.2

name_in_is : (t : Token) (v : List ℕ) → name_in t ≡ Some v → IsName v
name_in_is (token.Word w) v e = name_is w v e
name_in_is (token.Number n) v e = absurd cc
name_in_is (token.Quoted q) v e = absurd cc
name_in_is (token.Mark m) v e = absurd cc

-- a name is a name, in upper case
pub spells_name : Spells name IsName
spells_name v ts s = name_in_is s.0 v s.2

number_is : (most : ℕ) (t : Token) (n : ℕ) → number_to_in most t ≡ Some n → IsTrue (nat_le n most)
number_is most (token.Word w) n e = absurd cc
number_is most (token.Number m) n e = let h = test_some (nat_le m most) m n e in subst (λ (k : ℕ). IsTrue (nat_le k most)) h.1 h.0
number_is most (token.Quoted q) n e = absurd cc
number_is most (token.Mark m) n e = absurd cc

-- a number is at most the limit
pub spells_number : (most : ℕ) → Spells (number_to most) (λ n. IsTrue (nat_le n most))
spells_number most n ts s = number_is most s.0 n s.2
