-- The grammar of the example is exact, by the lemmas of its parts alone.
use Rattle.std.proofs.Common.{◌≡◌, ℕ, Bool, List, Option, Some, None, refl, inl, inr}
use Rattle.std.specs.Prelude.{codes, ◌⊎◌}
use Rattle.token_grammar.specs.declared.mark.Mark.TheVariants as marks
use Rattle.token_grammar.specs.declared.token.Token.{Token}
use Rattle.token_grammar.specs.Grammar.{is_word, is_mark, nothing, anything, either, word, mark, name, name_in, number_to, number_to_in, ◌·◌, ◌▹◌}
use Rattle.token_grammar.specs.Exact.{IsExact}
use Rattle.sql_examples.specs.Query.{count, names, counts, names_of, either_of, what, limit, query}
use Rattle.token_grammar.proofs.Beginnings.{begins_nothing, either_right, leads_word, leads_mark, leads_after, apart_marks, apart_mark_word, apart_nothing, ends_all, apart_either}
use Rattle.token_grammar.proofs.OneToken.{word_exact, mark_exact, meant_exact}
use Rattle.token_grammar.proofs.Parts.{after, seq, seq_led, optional_exact, separated_exact}
use Rattle.token_grammar.proofs.Values.{mapped_exact, choice_exact, shows_two, list_shows_none}

-- behind the names: more of them, or `(`, by which COUNT would be no name
abbrev after_what : Token → Bool
after_what = either (is_mark marks.Open) (either (is_mark marks.Comma) nothing)

count_exact : IsExact count nothing
count_exact = after (word_exact _) (after (mark_exact _) (after (mark_exact _) (mark_exact _)))

names_exact : IsExact names (either (is_mark marks.Comma) nothing)
names_exact = separated_exact name (mark marks.Comma) _ nothing (meant_exact name_in) (mark_exact _) (leads_mark marks.Comma) (apart_nothing _)

back : (x : Unit {0} ⊎ List (List ℕ)) → either_of (names_of x) ≡ x
back (inl x) = refl
back (inr found) = refl

forth : (found : Option (List (List ℕ))) → names_of (either_of found) ≡ found
forth None = refl
forth (Some found) = refl

what_exact : IsExact what after_what
what_exact = mapped_exact names_of either_of _ _
    (choice_exact counts count names nothing _ after_what count_exact names_exact
    (shows_two (codes "COUNT") (mark marks.Open ▹ mark marks.Star ▹ mark marks.Close) _ after_what (leads_after (mark marks.Open) (mark marks.Star ▹ mark marks.Close) _ (leads_mark marks.Open)))
    (list_shows_none name_in (mark marks.Comma) _ _ _ (leads_mark marks.Comma) (apart_marks marks.Open marks.Comma refl))
    (λ ts h. begins_nothing ts) (λ ts h. either_right _ _ ts h))
    (λ x ts s. back x) forth

limit_exact : IsExact limit (either (is_word (codes "LIMIT")) nothing)
limit_exact = optional_exact (word (codes "LIMIT") ▹ number_to 4294967295) _ nothing (after (word_exact _) (meant_exact (number_to_in 4294967295)))
    (leads_after (word (codes "LIMIT")) (number_to 4294967295) _ (leads_word (codes "LIMIT")))

pub query_exact : IsExact query anything
query_exact = ends_all query _
    (after (word_exact _) (seq_led (is_word (codes "FROM")) what_exact (after (word_exact _) (seq (meant_exact name_in) limit_exact))
    (leads_after (word (codes "FROM")) (name · limit) _ (leads_word (codes "FROM")))
    (apart_either _ _ _ (apart_mark_word marks.Open (codes "FROM")) (apart_either _ _ _ (apart_mark_word marks.Comma (codes "FROM")) (apart_nothing _)))))
