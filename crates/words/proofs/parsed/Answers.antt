-- The command that is built is the one of the definitions, and so clap's clauses speak of it.
use Rattle.std.proofs.Common.{◌≡◌, ◌∙◌, zero, suc, ℕ, List, [], ◌∷◌, Some, true, arith, refl, sym, ap, ap₂, subst, map, codes}
use Rattle.std.specs.String.{string_bytes}
use Rattle.std.specs.List.{All}
use Rattle.std.specs.Prelude.{pos}
use Rattle.std.proofs.lemmas.Result.{IfOk-weaker}
use Rattle.clap.specs.Words.{App, FailsBy, Rule, app_of, fault_of, found_of, is_simple, matches_of, one_text, with_rule}
use Rattle.clap.specs.Words.{is_simple_and_free}
use Rattle.clap.specs.Built.{FitsChain, HasDistinctIds, IsParsedFrom}
use Rattle.clap.specs.declared.builder.arg.Arg.{Arg}
use Rattle.clap.specs.declared.builder.value_parser.ValueParser.TheVariants as vp
use Rattle.clap.proofs.OnLiterals.{clap_on_literals}
use Rattle.words.specs.Options.{HoldsNumber}
use Rattle.words.specs.CommandLine.{dtx}
use Rattle.words.proofs.ChainReads.{apart, fits_chain, reads_in_chain}
use Rattle.words.proofs.parsed.Goals as goal

dtx_simple : is_simple dtx ≡ true
unfolding clap_on_literals
dtx_simple = refl

dtx_free : is_simple_and_free dtx ≡ true
unfolding clap_on_literals
dtx_free = refl

two_fit : (a b : Arg) → FitsChain a → FitsChain b → All FitsChain (a ∷ b ∷ [])
two_fit a b fa fb zero d lt = fa
two_fit a b fa fb (suc zero) d lt = fb
two_fit a b fa fb (suc (suc k)) d lt = absurd (omega arith)

two_ids : (a b : Arg) → a.id.now ≡ codes "book" → b.id.now ≡ codes "make" → HasDistinctIds (a ∷ b ∷ [])
two_ids a b book make zero zero d e lj lk same = refl
two_ids a b book make zero (suc zero) d e lj lk same = absurd (apart book make refl same)
two_ids a b book make (suc zero) zero d e lj lk same = absurd (apart make book refl same)
two_ids a b book make (suc zero) (suc zero) d e lj lk same = refl
two_ids a b book make (suc (suc j)) k d e lj lk same = absurd (omega arith)
two_ids a b book make zero (suc (suc k)) d e lj lk same = absurd (omega arith)
two_ids a b book make (suc zero) (suc (suc k)) d e lj lk same = absurd (omega arith)

app_is : (c : goal.After-try_get_matches_from) → app_of c.in_ok-arg-2.field-0 ≡ dtx
app_is c = c.in_ok-arg-2.ensures.shape c.number-make.ensures.plain.1
    ∙ ap₂ with_rule (c.in_ok-arg.ensures.shape c.flag-book.ensures.plain.1 ∙ ap₂ with_rule c.bare.ensures.app c.flag-book.ensures.rule) c.number-make.ensures.rule

pub returns-clause-kinds : goal.returns-clause-kinds
returns-clause-kinds c =
    subst (λ (a : App). FailsBy (fault_of a (map string_bytes c.args.words.now)) c.try_get_matches_from.result) (app_is c)
    (c.try_get_matches_from.ensures.kinds (ap is_simple_and_free (app_is c) ∙ dtx_free))

pub returns-clause-matches : goal.returns-clause-matches
returns-clause-matches c = IfOk-weaker c.try_get_matches_from.result _ _
    (λ m h. (h (ap is_simple (app_is c) ∙ dtx_simple)).0 ∙ ap (λ (a : App). matches_of a (map string_bytes c.args.words.now)) (app_is c))
    c.try_get_matches_from.ensures.matches

pub returns-clause-number : goal.returns-clause-number
returns-clause-number c =
    let book = c.flag-book.result in
    let make = c.number-make.result in
    let book_id : book.id.now ≡ codes "book" = ap (λ (r : Rule). r.id) c.flag-book.ensures.rule in
    let make_id : make.id.now ≡ codes "make" = ap (λ (r : Rule). r.id) c.number-make.ensures.rule in
    let parser : make.value_parser ≡ Some (vp.Signed (pos 1) (pos 65535)) = ap (λ (r : Rule). r.parser) c.number-make.ensures.rule in
    IfOk-weaker c.try_get_matches_from.result (IsParsedFrom c.in_ok-arg-2.field-0) (HoldsNumber 65535 (codes "make"))
    (λ m p. λ t text. reads_in_chain c.bare.result c.in_ok-arg-2.field-0 (book ∷ make ∷ []) m
    (c.in_ok-arg.field-0, c.in_ok-arg.ensures, (c.in_ok-arg-2.field-0, c.in_ok-arg-2.ensures, refl))
    c.bare.ensures.empty.0 c.bare.ensures.empty.1 c.bare.ensures.local
    (two_fit book make (fits_chain book (codes "book") book_id refl c.flag-book.ensures.plain) (fits_chain make (codes "make") make_id refl c.number-make.ensures.plain))
    (two_ids book make book_id make_id) p
    1 make (omega arith) (vp.Signed (pos 1) (pos 65535)) parser t
    (subst (λ (w : List ℕ). one_text (found_of m) w ≡ Some t) (sym make_id) text))
    c.try_get_matches_from.ensures.parsed
