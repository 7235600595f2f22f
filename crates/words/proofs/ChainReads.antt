-- What a caller reads of an argument of a chain of `.arg(..)` calls, where it may be missing.
use Rattle.std.proofs.Common.{◌++◌, ◌||◌, zero, suc, ◌≡◌, ◌∙◌, ◌<◌, ap, ap₂, ℕ, Bool, true, false, List, [], ◌∷◌, length, is_some, Option, Some, refl, sym, subst, inl, inr, arith, append_assoc}
use Rattle.std.specs.List.{All, slice_index_or}
use Rattle.std.specs.Str.{bytes_eq}
use Rattle.std.specs.Prelude.{◌&&◌, codes, not, unwrap_or}
use Rattle.std.proofs.lemmas.List.{append-nil}
use Rattle.std.proofs.lemmas.List.Elements.{All-nil}
use Rattle.clap.specs.Built.{AddsArg, AddsInTurn, FitsChain, HasDistinctIds, IsParsedFrom, IsPlain, IsPlainArg, SameRules}
use Rattle.clap.specs.Facts.{args_of, groups_of}
use Rattle.clap.specs.Matches.{first_value, found_of, one_text}
use Rattle.clap.specs.Values.{Accepts, read_as, reading_of}
use Rattle.clap.specs.declared.builder.arg.Arg.{Arg}
use Rattle.clap.specs.declared.builder.command.Command.{Command}
use Rattle.clap.specs.declared.builder.command.Command.TheViews.{out-Command}
use Rattle.clap.specs.declared.builder.value_parser.ValueParser.{ValueParser}
use Rattle.clap.specs.declared.parser.matches.ArgMatches.{ArgMatches}
use Rattle.clap.proofs.CallerLemmas.{added_plain}
use Rattle.words.proofs.OptionalReads.{optional_reads, text_first}

-- the name is neither empty nor that of a flag which clap may add
abbrev pub is_own : List ℕ → Bool
is_own name = not (bytes_eq name []) && (not (bytes_eq name (codes "help")) && not (bytes_eq name (codes "version")))

-- an argument of such a name that excludes nothing
pub fits_chain : (a : Arg) (name : List ℕ) → a.id.now ≡ name → is_own name ≡ true → IsPlainArg a × (a.global ≡ false) → FitsChain a
fits_chain a name is own plain = (plain.0, plain.1, λ empty. not_own [] empty refl, λ auto. elim auto [ inl h ↦ not_own (codes "help") h refl | inr h ↦ not_own (codes "version") h refl ])
  where
    not_own : (other : List ℕ) → a.id.now ≡ other → is_own other ≡ false → ⊥
    not_own other at flag =
        let bad : false ≡ true = sym flag ∙ (ap is_own (sym at ∙ is) ∙ own) in
        cc

-- two names are apart
pub apart : {a b x y : List ℕ} → a ≡ x → b ≡ y → bytes_eq x y ≡ false → bytes_eq a b ≡ true → ⊥
apart a_is b_is differ same =
    let bad : false ≡ true = sym differ ∙ (ap₂ bytes_eq (sym a_is) (sym b_is) ∙ same) in
    cc

all_rest : (P : Arg → Type 0) (x : Arg) (xs : List Arg) → All P (x ∷ xs) → All P xs
all_rest P x xs h = λ k d lt. h (suc k) d (omega arith)

-- the arguments as the command keeps them, place by place
abbrev Keeps : List Arg → List Arg → Type 0
Keeps xs ys = (k : ℕ) (d e : Arg) → k < length xs → SameRules (slice_index_or xs k d) (slice_index_or ys k e)

keeps_more : (x y : Arg) (xs ys : List Arg) → SameRules x y → Keeps xs ys → Keeps (x ∷ xs) (y ∷ ys)
keeps_more x y xs ys r rest zero d e lt = r
keeps_more x y xs ys r rest (suc k) d e lt = rest k d e (omega arith)

-- what a chain leaves: the arguments that it adds, and a command that excludes nothing
chain_facts : (c d : Command) (xs : List Arg) → AddsInTurn AddsArg c xs d → All FitsChain xs → IsPlain c → (out-Command c).has_globals ≡ false
    → (ys : List Arg) × (args_of d ≡ args_of c ++ ys) × (length ys ≡ length xs) × Keeps xs ys × IsPlain d × ((out-Command d).has_globals ≡ false)
chain_facts c d [] h all plain globals = ([], rw h (sym (append-nil _)), refl, (λ k e f lt. absurd (omega arith)), rw (← h) plain, rw (← h) globals)
chain_facts c d (x ∷ xs) h all plain globals =
    let added = h.1 in
    let fit = all 0 x (omega arith) in
    let plain2 = added_plain c h.0 x added plain fit.0 in
    let globals2 = added.globals ∙ (ap (λ b. b || x.global) globals ∙ ap (λ b. false || b) fit.1) in
    let f = chain_facts h.0 d xs h.2 (all_rest FitsChain x xs all) plain2 globals2 in (
      added.arg ∷ f.0,
      f.1 ∙ (ap (λ l. l ++ f.0) added.args ∙ append_assoc (args_of c) (added.arg ∷ []) f.0),
      ap suc f.2,
      keeps_more x added.arg xs f.0 added.rules f.3,
      f.4,
      f.5,
    )

-- a text that is read of an argument of the chain has passed the argument's parser
pub reads_in_chain : (start cmd : Command) (xs : List Arg) (m : ArgMatches) → AddsInTurn AddsArg start xs cmd
    → args_of start ≡ [] → groups_of start ≡ [] → (out-Command start).has_globals ≡ false
    → All FitsChain xs → HasDistinctIds xs → IsParsedFrom cmd m
    → (k : ℕ) (d : Arg) → k < length xs → (q : ValueParser) → (slice_index_or xs k d).value_parser ≡ Some q
    → (t : List ℕ) → one_text (found_of m) (slice_index_or xs k d).id.now ≡ Some t
    → (u : List ℕ) × (t ≡ read_as (reading_of q) u) × Accepts (slice_index_or xs k d).ignore_case q u
reads_in_chain start cmd xs m chain args groups globals all distinct p k d lt q parser t text =
    let start-plain : IsPlain start = (subst (All IsPlainArg) (sym args) (All-nil IsPlainArg), groups) in
    let f = chain_facts start cmd xs chain all start-plain globals in
    let list : args_of cmd ≡ f.0 = f.1 ∙ ap (λ l. l ++ f.0) args in
    let a = slice_index_or xs k d in
    let b = slice_index_or (args_of cmd) k d in
    let elem : b ≡ slice_index_or f.0 k d = ap (λ l. slice_index_or l k d) list in
    let rules = f.3 k d d lt in
    let fit = all k d lt in
    let len : length (args_of cmd) ≡ length xs = ap length list ∙ f.2 in
    let in-cmd : k < length (args_of cmd) = omega arith in
    let same-now : b.id.now ≡ a.id.now = ap (λ x. x.id.now) elem ∙ ap (λ x. x.now) rules.id in
    let same-parser : b.value_parser ≡ Some q = ap (λ x. x.value_parser) elem ∙ rules.parser q parser in
    let same-case : b.ignore_case ≡ a.ignore_case = ap (λ x. x.ignore_case) elem ∙ rules.ignore_case in
    let only : (j : ℕ) (e : Arg) → j < length (args_of cmd) → bytes_eq (slice_index_or (args_of cmd) j e).id.now b.id.now ≡ true → j ≡ k =
    λ j e low same.
    let in-xs : j < length xs = omega arith in
    let there : (slice_index_or (args_of cmd) j e).id ≡ (slice_index_or xs j e).id =
    ap (λ x. x.id) (ap (λ l. slice_index_or l j e) list) ∙ (f.3 j e e in-xs).id in
    distinct j k d e in-xs lt (rw (← ap (λ x. x.now) there, ← same-now) same) in
    let got = optional_reads cmd m p f.4 f.5 k d in-cmd only
    (λ empty. fit.2 (sym same-now ∙ empty))
    (λ auto. fit.3 (elim auto [ inl h ↦ inl (sym same-now ∙ h) | inr h ↦ inr (sym same-now ∙ h) ]))
    q same-parser
    (subst (λ (w : List ℕ). is_some (first_value (found_of m) w) ≡ true) (sym same-now) (text_first (found_of m) a.id.now t text)) in
    let here : one_text (found_of m) a.id.now ≡ Some (read_as (reading_of q) got.0) =
    subst (λ (w : List ℕ). one_text (found_of m) w ≡ Some (read_as (reading_of q) got.0)) same-now got.1 in
    let both : Some t ≡ Some (read_as (reading_of q) got.0) = sym text ∙ here in
    (got.0, ap (λ (o : Option (List ℕ)). unwrap_or o []) both, subst (λ (c : Bool). Accepts c q got.0) same-case got.2)
