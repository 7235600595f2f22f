-- A script has few commands: each takes five bytes at least, its `;` among them.
use Rattle.std.proofs.Common.{◌≡◌, ◌⊎◌, inl, inr, ℕ, suc, ◌+◌, ◌*◌, ◌<◌, ◌≤◌, ◌^◌, Bool, true, false, if◌then◌else◌, List, [], ◌∷◌, ◌++◌, length, length-append, Option, Some, None, refl, ap, sym, subst, ◌∙◌, arith}
use Rattle.std.specs.Prelude.{◌&&◌, codes, position, take, drop}
use Rattle.std.specs.List.{AllByRecursion}
use Rattle.std.specs.Map.{lookup}
use Rattle.std.specs.Str.{bytes_eq}
use Rattle.std.proofs.lemmas.List.{length-map, length-take}
use Rattle.std.proofs.lemmas.Slice.Eq.{bytes_eq-Decides}
use Rattle.dtx_values.specs.Limits.{script_limit, session_limit}
use Rattle.token_grammar.specs.declared.token.Token.{Token}
use Rattle.token_grammar.specs.declared.token.Token.TheVariants as token
use Rattle.token_grammar.specs.Grammar.{Grammar, Joined, name, ◌·◌}
use Rattle.token_grammar.specs.Forms.{word_in}
use Rattle.token_grammar.specs.Text.{IsTextOf}
use Rattle.token_grammar.specs.Tokens.{TokenText, Tokens}
use Rattle.script_read.specs.declared.before.Before.{Before}
use Rattle.script_read.specs.declared.command.Command.{Command}
use Rattle.script_read.specs.declared.part.Part.{Part}
use Rattle.script_read.specs.declared.part.Part.TheVariants.{Plain, Quoted, Comment}
use Rattle.script_read.specs.declared.words.Verb.{Verb}
use Rattle.script_read.specs.declared.words.Verb.TheVariants as verbs
use Rattle.script_read.specs.Asked.{is_colon, with_command}
use Rattle.script_read.specs.Forms.{at_session, form, other_command, two_nodes}
use Rattle.script_read.specs.Parts.{is_comment, is_plain, is_semicolon, kept_before, outside_comments, part_behind, pieces_from, said, with_byte, with_end}
use Rattle.script_read.specs.Spelled.{AreCommands, IsCommand, IsGood, IsScript, SpelledAt}
use Rattle.script_read.specs.Words.{verb_of}

-- ---- tokens

token_long : (t : Token) (text : List ℕ) → TokenText t text → 1 ≤ length text
token_long (token.Word w) [] s = let clash : false ≡ true = s.0 in absurd cc
token_long (token.Number n) [] s = let clash : false ≡ true = s.0 in absurd cc
token_long (token.Quoted q) [] s = absurd cc
token_long (token.Mark m) [] s = absurd s
token_long t (b ∷ bs) s = omega arith

tokens_long : (ts : List Token) (text : List ℕ) → Tokens ts text → length ts ≤ length text
tokens_long [] text s = omega arith
tokens_long (t ∷ ts) text s =
    let whole : length text ≡ length (s.0 ++ (s.1 ++ s.2)) = ap length s.7 in
    omega (arith, whole, length-append s.0 (s.1 ++ s.2), length-append s.1 s.2, token_long t s.1 s.4, tokens_long ts s.2 s.6)

-- a word has as many bytes as its letters
word_long : (w : List ℕ) (ts : List Token) (text : List ℕ) → Tokens (token.Word w ∷ ts) text → length w + length ts ≤ length text
word_long w ts text s =
    let whole : length text ≡ length (s.0 ++ (s.1 ++ s.2)) = ap length s.7 in
    let letters : length w ≡ length s.1 = ap length s.4.2 ∙ length-map s.1 _ in
    omega (arith, whole, letters, length-append s.0 (s.1 ++ s.2), length-append s.1 s.2, tokens_long ts s.2 s.6)

pub some_is : {A : Type 0} (x y : A) → Some x ≡ Some y → x ≡ y
some_is x y e = cc

shorter : (i : ℕ) (text : List ℕ) → length (take i text) ≤ length text
shorter i text = grind (arith, length-take i text)

-- ---- first words

-- what holds of each word of a list with its meaning holds of the one that is found
found_is : {K : Type 0} (P : List ℕ → K → Type 0) (w : List ℕ) (k : K) (table : List (List ℕ × K)) → AllByRecursion (λ e. P e.0 e.1) table → lookup (λ word. bytes_eq word w) table ≡ Some k → P w k
found_is P w k [] all found = absurd cc
found_is P w k (e ∷ es) all found = by (bytes_eq e.0 w) refl (found_is P w k es all.1)
  where
    by : (b : Bool) → bytes_eq e.0 w ≡ b → (lookup (λ word. bytes_eq word w) es ≡ Some k → P w k) → P w k
    by true is rest = subst (λ v. P v k) ((bytes_eq-Decides e.0 w).0 is) (subst (λ j. P e.0 j) (some_is e.1 k (ap (λ (c : Bool). if c then Some e.1 else lookup (λ word. bytes_eq word w) es) (sym is) ∙ found)) all.0)
    by false is rest = rest (ap (λ (c : Bool). if c then Some e.1 else lookup (λ word. bytes_eq word w) es) (sym is) ∙ found)

-- four letters, or CUT
IsLong : List ℕ → Verb → Type 0
IsLong w k = (4 ≤ length w) ⊎ ((3 ≤ length w) × (k ≡ verbs.Cut))

four : (w : List ℕ) (k : Verb) → 4 ≤ length w → IsLong w k
unfolding IsLong
four w k long = inl long

three : (w : List ℕ) → 3 ≤ length w → IsLong w verbs.Cut
unfolding IsLong
three w long = inr (long, refl)

-- the words of commands with their meanings
abbrev table : List (List ℕ × Verb)
table =
    (codes "NODE", verbs.Node) ∷ (codes "CUT", verbs.Cut) ∷ (codes "JOIN", verbs.Join) ∷ (codes "LOSE", verbs.Lose) ∷ (codes "STOP", verbs.Stop)
    ∷ (codes "START", verbs.Start) ∷ (codes "CRASH", verbs.Crash) ∷ (codes "FAULT", verbs.Fault) ∷ (codes "HOLD", verbs.Hold) ∷ (codes "DELIVER", verbs.Deliver)
    ∷ (codes "AGAIN", verbs.Again) ∷ (codes "PUMP", verbs.Pump) ∷ (codes "GIVEUP", verbs.GiveUp) ∷ (codes "RECO", verbs.Reco) ∷ (codes "SHOW", verbs.Show) ∷ []

all_long : AllByRecursion (λ (e : List ℕ × Verb). IsLong e.0 e.1) table
all_long = (
  four _ _ (omega arith),
  (
    three _ (omega arith),
    (
      four _ _ (omega arith),
      (
        four _ _ (omega arith),
        (
          four _ _ (omega arith),
          (
            four _ _ (omega arith),
            (
              four _ _ (omega arith),
              (
                four _ _ (omega arith),
                (
                  four _ _ (omega arith),
                  (
                    four _ _ (omega arith),
                    (four _ _ (omega arith), (four _ _ (omega arith), (four _ _ (omega arith), (four _ _ (omega arith), (four _ _ (omega arith), tt))))),
                  ),
                ),
              ),
            ),
          ),
        ),
      ),
    ),
  ),
)

verb_long : (w : List ℕ) (k : Verb) → verb_of w ≡ Some k → IsLong w k
unfolding verb_of
verb_long w k found = found_is IsLong w k table all_long found

-- ---- commands

-- a name is one token
name_long : (v : List ℕ) (ts : List Token) → name.Spells v ts → 1 ≤ length ts
name_long v ts s = subst (λ (us : List Token). 1 ≤ length us) (sym s.1) (omega arith)

joined_long : {P Q : List Token → Type 0} (m n : ℕ) → ((ts : List Token) → P ts → m ≤ length ts) → ((ts : List Token) → Q ts → n ≤ length ts) → (ts : List Token) → Joined P Q ts → m + n ≤ length ts
joined_long m n first second ts s =
    let parts : length ts ≡ length (s.0 ++ s.1) = ap length s.4 in
    omega (arith, parts, length-append s.0 s.1, first s.0 s.2, second s.1 s.3)

-- behind CUT stand two names
cut_long : (names : List (List ℕ)) (k : Verb) (c : Command) (ts : List Token) → k ≡ verbs.Cut → (form names k).Spells c ts → 1 ≤ length ts
unfolding form
cut_long names verbs.Cut c ts is s = let both = joined_long 1 1 (name_long s.1.0.0) (name_long s.1.0.1) ts s.1.1.0 in omega (arith, both)
cut_long names _ c ts is s = absurd cc

first_long : (names : List (List ℕ)) (c : Command) (w : List ℕ) (k : Verb) (ts : List Token) (text : List ℕ) → verb_of w ≡ Some k → (form names k).Spells c ts → Tokens (token.Word w ∷ ts) text → 4 ≤ length text
unfolding IsLong
first_long names c w k ts text means s tokens = elim (verb_long w k means) [
  | inl long ↦ (let all = word_long w ts text tokens in omega (arith, long, all))
  | inr cut ↦ (let all = word_long w ts text tokens in let more = cut_long names k c ts cut.1 s in omega (arith, cut.0, all, more))
]

means_long : (names : List (List ℕ)) (c : Command) (t : Token) (k : Verb) (ts : List Token) (text : List ℕ) → word_in verb_of t ≡ Some k → (form names k).Spells c ts → Tokens (t ∷ ts) text → 4 ≤ length text
means_long names c (token.Word w) k ts text means s tokens = first_long names c w k ts text means s tokens
means_long names c (token.Number n) k ts text means s tokens = absurd cc
means_long names c (token.Quoted q) k ts text means s tokens = absurd cc
means_long names c (token.Mark m) k ts text means s tokens = absurd cc

other_long : (names : List (List ℕ)) (c : Command) (text : List ℕ) → IsTextOf (other_command names) c text → 4 ≤ length text
other_long names c text s = means_long names c s.2.0 s.2.1 s.2.2 text s.2.4 s.2.5 (subst (λ (ts : List Token). Tokens ts text) s.2.3 s.1)

-- AT name SESSION num: four tokens
one_token : {t : Token} (ts : List Token) → ts ≡ t ∷ [] → 1 ≤ length ts
one_token ts is = subst (λ (us : List Token). 1 ≤ length us) (sym is) (omega arith)

call_long : (names : List (List ℕ)) (at : ℕ × ℕ) (ts : List Token) → (at_session names).Spells at ts → 4 ≤ length ts
call_long names at ts s =
    joined_long 1 3 (λ us is. one_token us is)
    (joined_long 1 2 (λ us is. name_long is.0 us is.1) (joined_long 1 1 (λ us is. one_token us is) (λ us is. one_token us is.1))) ts s

spelled_long : (place : Option ℕ) (names : List (List ℕ)) (c : Command) (text : List ℕ) → SpelledAt place names c text → 4 ≤ length text
spelled_long None names c text s = other_long names c text s
spelled_long (Some i) names c text s =
    let head = tokens_long s.1.0 (take i text) s.1.1 in
    let call = call_long names s.0 s.1.0 s.1.2 in
    omega (arith, head, call, shorter i text)

-- ---- pieces

kept_short : (part : Part) (b : ℕ) (bs rest : List ℕ) → length bs ≤ length rest → length (kept_before part b bs) ≤ suc (length rest)
kept_short part b bs rest short = by (is_comment part)
  where
    by : (c : Bool) → length (if c then bs else b ∷ bs) ≤ suc (length rest)
    by true = omega (arith, short)
    by false = omega (arith, short)

outside_short : (part : Part) (piece : List ℕ) → length (outside_comments part piece) ≤ length piece
outside_short part [] = omega arith
outside_short part (b ∷ bs) = kept_short (part_behind part b bs) b (outside_comments (part_behind part b bs) bs) bs (outside_short (part_behind part b bs) bs)

good_long : (before : Before) (c : Command) (piece : List ℕ) → IsGood before c piece → 4 ≤ length piece
unfolding IsCommand
good_long before c piece good =
    let long = spelled_long (position is_colon (said piece)) before.names c (said piece) good.spelled in
    omega (arith, long, outside_short Plain piece)

-- the bytes of pieces, with a `;` behind each
spaced : List (List ℕ) → ℕ
spaced [] = 0
spaced (p ∷ ps) = length p + 1 + spaced ps

total : List (List ℕ) × List ℕ → ℕ
total x = spaced x.0 + length x.1

end_total : (x : List (List ℕ) × List ℕ) → total (with_end x) ≡ 1 + total x
unfolding total spaced
end_total x = omega arith

byte_total : (b : ℕ) (x : List (List ℕ) × List ℕ) → total (with_byte b x) ≡ 1 + total x
unfolding total spaced
byte_total b ([], rest) = omega arith
byte_total b (p ∷ ps, rest) = omega arith

pieces_total : (part : Part) (bytes : List ℕ) → total (pieces_from part bytes) ≡ length bytes
unfolding total spaced
pieces_total part [] = refl
pieces_total part (b ∷ bs) = by (is_plain part && is_semicolon b) (pieces_total Plain bs) (pieces_total (part_behind part b bs) bs)
  where
    by : (c : Bool) → total (pieces_from Plain bs) ≡ length bs → total (pieces_from (part_behind part b bs) bs) ≡ length bs
        → total (if c then with_end (pieces_from Plain bs) else with_byte b (pieces_from (part_behind part b bs) bs)) ≡ suc (length bs)
    by true ended on = end_total (pieces_from Plain bs) ∙ omega (arith, ended)
    by false ended on = byte_total b (pieces_from (part_behind part b bs) bs) ∙ omega (arith, on)

commands_long : (pieces : List (List ℕ)) (before : Before) (rest : List ℕ) (cs : List Command) → AreCommands before cs pieces rest → 5 * length cs ≤ spaced pieces
unfolding spaced
commands_long [] before rest [] s = omega arith
commands_long [] before rest (c ∷ cs) s = absurd s
commands_long (p ∷ ps) before rest [] s = absurd s
commands_long (p ∷ ps) before rest (c ∷ cs) s =
    let one = good_long before c p s.0 in
    let more = commands_long ps (with_command before c) rest cs s.1 in
    omega (arith, one, more)

pub few_commands : (bytes : List ℕ) (cs : List Command) → length bytes ≤ script_limit → IsScript cs bytes → length cs < 2 ^ 18
unfolding total
few_commands bytes cs short s =
    let all = pieces_total Plain bytes in
    let long = commands_long (pieces_from Plain bytes).0 _ _ cs s in
    omega (arith, short, all, long)
