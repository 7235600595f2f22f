-- The command that is built is the one of the definitions, and so clap's clauses speak of it.
use Rattle.std.proofs.Common.{◌≡◌, ◌∙◌, ◌<◌, zero, suc, ℕ, List, [], ◌∷◌, Some, true, arith, refl, sym, ap, ap₂, subst, map, codes}
use Rattle.std.specs.String.{string_bytes}
use Rattle.std.specs.List.{All, slice_index_or}
use Rattle.std.specs.Prelude.{pos}
use Rattle.std.proofs.lemmas.Result.{IfOk-weaker}
use Rattle.clap.specs.Words.{App, FailsBy, Rule, Shape, app_of, fault_of, found_of, is_simple, matches_of, one_text, with_rule}
use Rattle.clap.specs.Words.{IsSignedIn, is_simple_and_free, without_minus}
use Rattle.clap.specs.Built.{FitsChain, HasDistinctIds, IsParsedFrom}
use Rattle.clap.specs.Simple.{app_of_fields, on_top}
use Rattle.clap.specs.declared.builder.arg.Arg.{Arg}
use Rattle.clap.specs.declared.builder.command.Command.{Command}
use Rattle.clap.specs.declared.builder.command.Command.TheOpen.{Command-F}
use Rattle.clap.specs.declared.parser.matches.ArgMatches.{ArgMatches}
use Rattle.clap.specs.declared.builder.value_parser.ValueParser.TheVariants as vp
use Rattle.clap.proofs.OnLiterals.{clap_on_literals}
use Rattle.words.specs.Options.{HoldsNumber}
use Rattle.words.proofs.ChainReads.{apart, fits_chain, reads_in_chain}
use Rattle.chart_words.specs.CommandLine.{dtx_chart, greatest, overridden}
use Rattle.chart_words.proofs.parsed.Goals as goal

chart_simple : is_simple dtx_chart ≡ true
unfolding clap_on_literals
chart_simple = refl

chart_free : is_simple_and_free dtx_chart ≡ true
unfolding clap_on_literals
chart_free = refl

three_fit : (a b c : Arg) → FitsChain a → FitsChain b → FitsChain c → All FitsChain (a ∷ b ∷ c ∷ [])
three_fit a b c fa fb fc zero d lt = fa
three_fit a b c fa fb fc (suc zero) d lt = fb
three_fit a b c fa fb fc (suc (suc zero)) d lt = fc
three_fit a b c fa fb fc (suc (suc (suc k))) d lt = absurd (omega arith)

three_ids : (a b c : Arg) → a.id.now ≡ codes "text" → b.id.now ≡ codes "from" → c.id.now ≡ codes "to" → HasDistinctIds (a ∷ b ∷ c ∷ [])
three_ids a b c text from to zero zero d e lj lk same = refl
three_ids a b c text from to zero (suc zero) d e lj lk same = absurd (apart text from refl same)
three_ids a b c text from to zero (suc (suc zero)) d e lj lk same = absurd (apart text to refl same)
three_ids a b c text from to (suc zero) zero d e lj lk same = absurd (apart from text refl same)
three_ids a b c text from to (suc zero) (suc zero) d e lj lk same = refl
three_ids a b c text from to (suc zero) (suc (suc zero)) d e lj lk same = absurd (apart from to refl same)
three_ids a b c text from to (suc (suc zero)) zero d e lj lk same = absurd (apart to text refl same)
three_ids a b c text from to (suc (suc zero)) (suc zero) d e lj lk same = absurd (apart to from refl same)
three_ids a b c text from to (suc (suc zero)) (suc (suc zero)) d e lj lk same = refl
three_ids a b c text from to (suc (suc (suc j))) k d e lj lk same = absurd (omega arith)
three_ids a b c text from to zero (suc (suc (suc k))) d e lj lk same = absurd (omega arith)
three_ids a b c text from to (suc zero) (suc (suc (suc k))) d e lj lk same = absurd (omega arith)
three_ids a b c text from to (suc (suc zero)) (suc (suc (suc k))) d e lj lk same = absurd (omega arith)

app_is : (c : goal.After-try_get_matches_from) → app_of c.in_ok-arg-3.field-0 ≡ dtx_chart
app_is c =
    let overridden_is : app_of c.args_override_self.result ≡ overridden = ap app_of_fields c.args_override_self.ensures
    ∙ ap (on_top (λ (s : Shape). record s { args_override_self = true })) c.bare.ensures.app in
    c.in_ok-arg-3.ensures.shape c.number-to.ensures.plain.1
    ∙ ap₂ with_rule (c.in_ok-arg-2.ensures.shape c.number-from.ensures.plain.1
    ∙ ap₂ with_rule (c.in_ok-arg.ensures.shape c.flag-text.ensures.plain.1 ∙ ap₂ with_rule overridden_is c.flag-text.ensures.rule) c.number-from.ensures.rule) c.number-to.ensures.rule

pub returns-clause-kinds : goal.returns-clause-kinds
returns-clause-kinds c =
    subst (λ (a : App). FailsBy (fault_of a (map string_bytes c.args.words.now)) c.try_get_matches_from.result) (app_is c)
    (c.try_get_matches_from.ensures.kinds (ap is_simple_and_free (app_is c) ∙ chart_free))

pub returns-clause-matches : goal.returns-clause-matches
returns-clause-matches c = IfOk-weaker c.try_get_matches_from.result _ _
    (λ m h. (h (ap is_simple (app_is c) ∙ chart_simple)).0 ∙ ap (λ (a : App). matches_of a (map string_bytes c.args.words.now)) (app_is c))
    c.try_get_matches_from.ensures.matches

-- a text that is read of an option in its place has passed the range
in_range : (c : goal.After-try_get_matches_from) (m : ArgMatches) → IsParsedFrom c.in_ok-arg-3.field-0 m
    → (k : ℕ) (d : Arg) → k < 3 → (slice_index_or (c.flag-text.result ∷ c.number-from.result ∷ c.number-to.result ∷ []) k d).value_parser ≡ Some (vp.Signed (pos 1) (pos greatest))
    → (t : List ℕ) → one_text (found_of m) (slice_index_or (c.flag-text.result ∷ c.number-from.result ∷ c.number-to.result ∷ []) k d).id.now ≡ Some t
    → (u : List ℕ) × (t ≡ without_minus u) × IsSignedIn (pos 1) (pos greatest) u
in_range c m p k d lt parser t text =
    let a = c.flag-text.result in
    let b = c.number-from.result in
    let e = c.number-to.result in
    let a_id : a.id.now ≡ codes "text" = ap (λ (r : Rule). r.id) c.flag-text.ensures.rule in
    let b_id : b.id.now ≡ codes "from" = ap (λ (r : Rule). r.id) c.number-from.ensures.rule in
    let e_id : e.id.now ≡ codes "to" = ap (λ (r : Rule). r.id) c.number-to.ensures.rule in
    let fields = c.args_override_self.ensures in
    reads_in_chain c.args_override_self.result c.in_ok-arg-3.field-0 (a ∷ b ∷ e ∷ []) m
    (c.in_ok-arg.field-0, c.in_ok-arg.ensures, (c.in_ok-arg-2.field-0, c.in_ok-arg-2.ensures, (c.in_ok-arg-3.field-0, c.in_ok-arg-3.ensures, refl)))
    (ap (λ (f : Command-F Command). f.args.items) fields ∙ c.bare.ensures.empty.0)
    (ap (λ (f : Command-F Command). f.groups.items) fields ∙ c.bare.ensures.empty.1)
    (ap (λ (f : Command-F Command). f.has_globals) fields ∙ c.bare.ensures.local)
    (three_fit a b e (fits_chain a (codes "text") a_id refl c.flag-text.ensures.plain) (fits_chain b (codes "from") b_id refl c.number-from.ensures.plain)
    (fits_chain e (codes "to") e_id refl c.number-to.ensures.plain))
    (three_ids a b e a_id b_id e_id) p k d lt (vp.Signed (pos 1) (pos greatest)) parser t text

pub returns-clause-from : goal.returns-clause-from
returns-clause-from c =
    let id : c.number-from.result.id.now ≡ codes "from" = ap (λ (r : Rule). r.id) c.number-from.ensures.rule in
    IfOk-weaker c.try_get_matches_from.result (IsParsedFrom c.in_ok-arg-3.field-0) (HoldsNumber greatest (codes "from"))
    (λ m p. λ t text. in_range c m p 1 c.number-from.result (omega arith) (ap (λ (r : Rule). r.parser) c.number-from.ensures.rule) t
    (subst (λ (w : List ℕ). one_text (found_of m) w ≡ Some t) (sym id) text))
    c.try_get_matches_from.ensures.parsed

pub returns-clause-to : goal.returns-clause-to
returns-clause-to c =
    let id : c.number-to.result.id.now ≡ codes "to" = ap (λ (r : Rule). r.id) c.number-to.ensures.rule in
    IfOk-weaker c.try_get_matches_from.result (IsParsedFrom c.in_ok-arg-3.field-0) (HoldsNumber greatest (codes "to"))
    (λ m p. λ t text. in_range c m p 2 c.number-to.result (omega arith) (ap (λ (r : Rule). r.parser) c.number-to.ensures.rule) t
    (subst (λ (w : List ℕ). one_text (found_of m) w ≡ Some t) (sym id) text))
    c.try_get_matches_from.ensures.parsed
