-- Conditions are exact.
use Rattle.std.proofs.Common.{◌≡◌, ℕ, Bool, true, false, List, [], ◌∷◌, Option, Some, None, refl}
use Rattle.std.specs.Prelude.{codes, unwrap_or}
use Rattle.token_grammar.specs.declared.token.Token.{Token}
use Rattle.token_grammar.specs.declared.token.Token.TheVariants as token
use Rattle.token_grammar.specs.Grammar.{Grammar, is_word, nothing, anything, either, begins_two, word, identifier_in, ◌▹◌, ◌◃◌, optional, separated}
use Rattle.token_grammar.specs.Exact.{IsExact, Leads, Apart, Meets, Shows}
use Rattle.token_grammar.proofs.Beginnings.{begins-append, leads_word, leads_after, apart_words, apart_nothing, apart_either, optional_meets}
use Rattle.token_grammar.proofs.OneToken.{word_exact, meant_exact}
use Rattle.token_grammar.proofs.Parts.{after, before_led, seq, optional_exact, separated_exact}
use Rattle.token_grammar.proofs.Values.{mapped_exact}
use Rattle.sql_statement.specs.declared.condition.Sign.{Sign}
use Rattle.sql_statement.specs.declared.condition.Cond.{Cond}
use Rattle.sql_parse.specs.Parts.{stands}
use Rattle.sql_parse.specs.Conditions.{sign_in, compared, is_null, condition, some_conds, where_part, conditions}
use Rattle.sql_parse.proofs.PartLaws.{or_else_exact, built_exact, stands_exact}
use Rattle.sql_parse.proofs.LiteralLaws.{literal_exact}

-- ---- One condition.

compared_exact : IsExact compared nothing
compared_exact = built_exact _ _ _ (seq (meant_exact identifier_in) (seq (meant_exact sign_in) literal_exact))

-- IS [NOT] NULL
abbrev null_part : Grammar Bool
null_part = word (codes "IS") ▹ (stands (is_word (codes "NOT")) (word (codes "NOT")) ◃ word (codes "NULL"))

null_part_exact : IsExact null_part nothing
null_part_exact = after (word_exact _) (before_led (is_word (codes "NULL")) (stands_exact _ nothing (word (codes "NOT")) (word_exact _) (leads_word _)) (word_exact _) (leads_word _)
    (apart_either _ _ _ (apart_words (codes "NOT") (codes "NULL") refl) (apart_nothing _)))

is_null_exact : IsExact is_null nothing
is_null_exact = built_exact _ _ _ (seq (meant_exact identifier_in) null_part_exact)

-- a sign is no word
sign_is_no_word : (w : List ℕ) (t : Token) (s : Sign) → sign_in t ≡ Some s → is_word w t ≡ false
sign_is_no_word w (token.Word v) s e = absurd cc
sign_is_no_word w (token.Number n) s e = refl
sign_is_no_word w (token.Quoted q) s e = refl
sign_is_no_word w (token.Mark m) s e = refl

abbrev is_second : List Token → Bool
is_second = begins_two anything (is_word (codes "IS"))

null_shows : Shows is_null is_second nothing true
null_shows v ts rest s ends =
    rw (s.1.4, s.1.2.1) (begins-append (is_word (codes "IS")) s.1.1 rest (leads_after (word (codes "IS")) (stands (is_word (codes "NOT")) (word (codes "NOT")) ◃ word (codes "NULL")) _ (leads_word (codes "IS")) s.0.1 s.1.1 s.1.3))

compared_shows : Shows compared is_second nothing false
compared_shows v ts rest s ends =
    rw (s.1.4, s.1.2.1, s.1.3.4, s.1.3.2.1) (sign_is_no_word (codes "IS") s.1.3.2.0 s.0.1.0 s.1.3.2.2)

condition_exact : IsExact condition nothing
unfolding condition
condition_exact = or_else_exact is_second is_null compared nothing is_null_exact compared_exact null_shows compared_shows

-- ---- The conditions of a WHERE.

abbrev after_conds : Token → Bool
after_conds = either (is_word (codes "AND")) nothing

where_exact : IsExact where_part after_conds
where_exact = after (word_exact _) (separated_exact condition (word (codes "AND")) _ nothing condition_exact (word_exact _) (leads_word _) (apart_nothing _))

leads_where : Leads where_part (is_word (codes "WHERE"))
leads_where = leads_after (word (codes "WHERE")) (separated (is_word (codes "AND")) (word (codes "AND")) condition) _ (leads_word (codes "WHERE"))

-- at least one condition follows WHERE
conds_back : (o : Option (List Cond)) (ts : List Token) → (optional (is_word (codes "WHERE")) where_part).Spells o ts → some_conds (unwrap_or o []) ≡ o
conds_back None ts s = refl
conds_back (Some []) ts s = absurd s.3
conds_back (Some (c ∷ cs)) ts s = refl

conds_forth : (cs : List Cond) → unwrap_or (some_conds cs) [] ≡ cs
conds_forth [] = refl
conds_forth (c ∷ cs) = refl

-- after conditions: WHERE, where none stand, or AND
abbrev pub after_conditions : Token → Bool
after_conditions = either (is_word (codes "WHERE")) after_conds

-- the conditions of a WHERE are exact, where neither WHERE nor AND follows
pub conditions_exact : IsExact conditions after_conditions
unfolding conditions
conditions_exact = mapped_exact _ _ _ _ (optional_exact where_part _ _ where_exact leads_where) conds_back conds_forth

-- what goes on before WHERE is no WHERE
pub conditions_meet : (p : Token → Bool) → Apart p (is_word (codes "WHERE")) → Meets p conditions after_conditions (either p after_conditions)
unfolding conditions
conditions_meet p apart v = optional_meets p (is_word (codes "WHERE")) after_conds where_part leads_where apart (some_conds v)
