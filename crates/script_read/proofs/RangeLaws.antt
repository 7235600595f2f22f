-- What a grammar spells is in its range: a law for each way to put grammars together, and then for each form.
use Rattle.std.proofs.Common.{◌≡◌, ℕ, ◌+◌, ◌<◌, ◌≤◌, Bool, true, false, eqb, List, [], ◌∷◌, length, Option, Some, None, arith, refl, sym, ap, subst, ◌∙◌}
use Rattle.std.specs.Prelude.{◌&&◌, nat_le, codes, position, IfSome, ⊤}
use Rattle.std.specs.List.{AllByRecursion}
use Rattle.std.specs.Option.{option_map_or}
use Rattle.std.specs.Str.{bytes_eq}
use Rattle.std.proofs.lemmas.Bool.Decides.{nat_tests}
use Rattle.std.proofs.lemmas.List.Quantifiers.{position-Some}
use Rattle.dtx_values.specs.Limits.{strength_limit, usual_links, link_limit, usual_extents, extents_limit, session_limit}
use Rattle.token_grammar.specs.declared.token.Token.{Token}
use Rattle.token_grammar.specs.declared.token.Token.TheVariants as token
use Rattle.token_grammar.specs.Grammar.{Grammar, word, meant, name, ◌·◌, ◌▹◌, optional, Each, many, tested}
use Rattle.token_grammar.specs.Forms.{given, forms, built, between_in, number_between, word_in}
use Rattle.token_grammar.proofs.Options.{test_some, some_is}
use Rattle.script_read.specs.declared.command.How.{How}
use Rattle.script_read.specs.declared.command.Command.{Command}
use Rattle.script_read.specs.declared.command.Command.TheVariants as commands
use Rattle.script_read.specs.declared.words.Verb.{Verb}
use Rattle.script_read.specs.declared.words.Verb.TheVariants as verbs
use Rattle.script_read.specs.declared.words.Lost.{Lost}
use Rattle.script_read.specs.declared.words.Lost.TheVariants as lost
use Rattle.script_read.specs.declared.words.View.{View}
use Rattle.script_read.specs.declared.words.View.TheVariants as views
use Rattle.script_read.specs.declared.words.Measure.{Measure}
use Rattle.script_read.specs.declared.words.Measure.TheVariants as measures
use Rattle.script_read.specs.declared.words.Setting.{Setting}
use Rattle.script_read.specs.declared.words.Setting.TheVariants as setting
use Rattle.script_read.specs.declared.words.Settings.{Settings}
use Rattle.script_read.specs.Words.{number_limit, verb_of, kind_of, lost_in, left_of, switch_of, view_of, measure_of}
use Rattle.script_read.specs.Forms.{number_of, node, differ, two_nodes, number, count, at_session, setting_form, setting_grammar, is_setting, are_once, settings, node_made, with_setting, with_settings, usual, node_form, left_form, crash_form, lost_form, view_form, is_number, form, other_command}
use Rattle.script_read.specs.Asked.{nodes_in}
use Rattle.script_read.specs.Sound.{IsBetween, IsInRange}

-- each value that is spelled is so
abbrev pub Each_is : {V : Type 0} → Grammar V → (V → Type 0) → Type 0
Each_is g P = (v : _) (ts : List Token) → g.Spells v ts → P v

anything_is : {V : Type 0} (g : Grammar V) → Each_is g (λ v. ⊤)
anything_is g v ts s = tt

built_is : {A V : Type 0} (to : A → V) (g : Grammar A) (P : A → Type 0) (Q : V → Type 0) → Each_is g P → ((a : A) → P a → Q (to a)) → Each_is (built to g) Q
built_is to g P Q each so v ts s = subst Q (some_is (to s.0) v s.2) (so s.0 (each s.0 ts s.1))

pair_is : {A B : Type 0} (a : Grammar A) (b : Grammar B) (P : A → Type 0) (Q : B → Type 0) → Each_is a P → Each_is b Q → Each_is (a · b) (λ x. P x.0 × Q x.1)
pair_is a b P Q x y v ts s = (x v.0 s.0 s.2, y v.1 s.1 s.3)

after_is : {B : Type 0} (a : Grammar (Unit {0})) (b : Grammar B) (Q : B → Type 0) → Each_is b Q → Each_is (a ▹ b) Q
after_is a b Q y v ts s = y v s.1 s.3

tested_is : {V : Type 0} (test : V → Bool) (g : Grammar V) (P : V → Type 0) → Each_is g P → Each_is (tested test g) P
tested_is test g P x v ts s = x v ts s.0

given_is : {V : Type 0} (c : V) (P : V → Type 0) → P c → Each_is (given c) P
given_is c P p v ts s = subst P (sym s.0) p

forms_is : {K V : Type 0} (meaning : Token → Option K) (f : K → Grammar V) (P : V → Type 0) → ((k : K) → Each_is (f k) P) → Each_is (forms meaning f) P
forms_is meaning f P each v ts s = each s.1 v s.2 s.5

many_is : {V : Type 0} (starts : Token → Bool) (g : Grammar V) (P : V → Type 0) → Each_is g P → Each_is (many starts g) (AllByRecursion P)
many_is starts g P x [] ts s = tt
many_is starts g P x (v ∷ vs) ts s = (x v s.0 s.2, many_is starts g P x vs s.1 s.3)

tested_between : (least most n : ℕ) → (nat_le least n && nat_le n most) ≡ true → IsBetween least most n
tested_between least most n h = grind (arith, nat_tests)

between_in_is : (least most : ℕ) (t : Token) (n : ℕ) → between_in least most t ≡ Some n → IsBetween least most n
between_in_is least most (token.Number k) n e = let u = test_some (nat_le least k && nat_le k most) k n e in subst (IsBetween least most) u.1 (tested_between least most k u.0)
between_in_is least most (token.Word w) n e = absurd cc
between_in_is least most (token.Quoted s) n e = absurd cc
between_in_is least most (token.Mark m) n e = absurd cc

between_is : (least most : ℕ) → Each_is (number_between least most) (IsBetween least most)
between_is least most v ts s = between_in_is least most s.0 v s.2

-- ---- Nodes and sessions.

-- no more than there are
abbrev pub IsAmong : List (List ℕ) → ℕ → Type 0
IsAmong names n = n ≤ length names

found_among : (names : List (List ℕ)) (wanted : List ℕ) (o : Option ℕ) → position (λ other. bytes_eq other wanted) names ≡ o → IsAmong names (option_map_or (λ place. place + 1) o 0)
found_among names wanted None e = omega arith
found_among names wanted (Some i) e =
    let u = position-Some (λ other. bytes_eq other wanted) names i [] e in
    let small : i < length names = u.0 in omega arith

number_among : (names : List (List ℕ)) (wanted : List ℕ) → IsAmong names (number_of names wanted)
number_among names wanted = found_among names wanted (position (λ other. bytes_eq other wanted) names) refl

node_is : (names : List (List ℕ)) → Each_is (node names) (IsAmong names)
node_is names = built_is (number_of names) name (λ x. ⊤) (IsAmong names) (anything_is name) (λ wanted h. number_among names wanted)

two_nodes_is : (names : List (List ℕ)) → Each_is (two_nodes names) (λ x. IsAmong names x.0 × IsAmong names x.1)
two_nodes_is names = built_is _ (tested differ (name · name)) (λ x. ⊤) (λ x. IsAmong names x.0 × IsAmong names x.1) (anything_is (tested differ (name · name)))
    (λ x h. (number_among names x.0, number_among names x.1))

pub at_session_is : (names : List (List ℕ)) → Each_is (at_session names) (λ x. IsAmong names x.0 × IsBetween 1 session_limit x.1)
at_session_is names = after_is (word (codes "AT")) (node names · (word (codes "SESSION") ▹ number_between 1 session_limit)) _
    (pair_is (node names) (word (codes "SESSION") ▹ number_between 1 session_limit) _ _ (node_is names) (after_is (word (codes "SESSION")) (number_between 1 session_limit) _ (between_is 1 session_limit)))

-- ---- Options of NODE.

-- an option in its range
abbrev IsSetting : Setting → Type 0
IsSetting (setting.Strength n) = n ≤ strength_limit
IsSetting (setting.Links n) = IsBetween 1 link_limit n
IsSetting (setting.Undo n) = IsBetween 1 extents_limit n

setting_form_is : (m : Measure) → Each_is (setting_form m) IsSetting
setting_form_is measures.Strength = built_is setting.Strength (number_between 0 strength_limit) (IsBetween 0 strength_limit) IsSetting (between_is 0 strength_limit) (λ n h. h.1)
setting_form_is measures.Links = built_is setting.Links (number_between 1 link_limit) (IsBetween 1 link_limit) IsSetting (between_is 1 link_limit) (λ n h. h)
setting_form_is measures.Undo = built_is setting.Undo (number_between 1 extents_limit) (IsBetween 1 extents_limit) IsSetting (between_is 1 extents_limit) (λ n h. h)

setting_is : Each_is setting_grammar IsSetting
unfolding setting_grammar
setting_is = forms_is (word_in measure_of) setting_form IsSetting setting_form_is

-- settings in their ranges
record AreSettings (s : Settings) : Type 0 where
  pub strength : s.strength ≤ strength_limit
  pub links : IsBetween 1 link_limit s.links
  pub undo : IsBetween 1 extents_limit s.undo

with_setting_is : (s : Settings) (x : Setting) → AreSettings s → IsSetting x → AreSettings (with_setting s x)
with_setting_is s (setting.Strength n) h k = record { strength = k; links = h.links; undo = h.undo }
with_setting_is s (setting.Links n) h k = record { strength = h.strength; links = k; undo = h.undo }
with_setting_is s (setting.Undo n) h k = record { strength = h.strength; links = h.links; undo = k }

with_settings_is : (s : Settings) (xs : List Setting) → AreSettings s → AllByRecursion IsSetting xs → AreSettings (with_settings s xs)
with_settings_is s [] h k = h
with_settings_is s (x ∷ xs) h k = with_settings_is (with_setting s x) xs (with_setting_is s x h k.0) k.1

usual_is : AreSettings usual
usual_is = record { strength = omega arith; links = (omega arith, omega arith); undo = (omega arith, omega arith) }

-- ---- Commands.

-- its nodes are among these, and its numbers in their ranges
abbrev pub Fits : List (List ℕ) → Command → Type 0
Fits names command = AllByRecursion (IsAmong names) (nodes_in command) × IsInRange command

node_form_is : (names : List (List ℕ)) → Each_is node_form (Fits names)
node_form_is names = built_is (λ x. node_made x.0 (with_settings usual x.1)) (name · settings) (λ x. ⊤ × AllByRecursion IsSetting x.1) (Fits names)
    (pair_is name settings (λ x. ⊤) (AllByRecursion IsSetting) (anything_is name) (tested_is are_once (many is_setting setting_grammar) _ (many_is is_setting setting_grammar IsSetting setting_is)))
    (λ x h. let u = with_settings_is usual x.1 usual_is h.1 in (tt, (u.strength, u.links, u.undo)))

of_node : (to : ℕ → Command) (names : List (List ℕ)) → ((n : ℕ) → IsAmong names n → Fits names (to n)) → Each_is (built to (node names)) (Fits names)
of_node to names so = built_is to (node names) (IsAmong names) (Fits names) (node_is names) so

free : {A : Type 0} (to : A → Command) (g : Grammar A) (names : List (List ℕ)) → ((a : A) → Fits names (to a)) → Each_is (built to g) (Fits names)
free to g names so = built_is to g (λ x. ⊤) (Fits names) (anything_is g) (λ a h. so a)

crash_form_is : (names : List (List ℕ)) → Each_is (crash_form names) (Fits names)
crash_form_is names = built_is _ (node names · (word (codes "WRITE") ▹ (count · forms (word_in left_of) left_form))) _ (Fits names)
    (pair_is (node names) (word (codes "WRITE") ▹ (count · forms (word_in left_of) left_form)) _ _ (node_is names)
    (after_is (word (codes "WRITE")) (count · forms (word_in left_of) left_form) _ (pair_is count (forms (word_in left_of) left_form) _ _ (between_is 1 number_limit) (anything_is (forms (word_in left_of) left_form)))))
    (λ x h. ((h.0, tt), h.1.0.0))

lost_form_is : (names : List (List ℕ)) (k : Lost) → Each_is (lost_form names k) (Fits names)
lost_form_is names (lost.Number k) = given_is (commands.Lose k) (Fits names) (tt, tt)
lost_form_is names lost.Next = built_is _ (meant (word_in kind_of) · (word (codes "FROM") ▹ (node names · (word (codes "TO") ▹ node names)))) _ (Fits names)
    (pair_is (meant (word_in kind_of)) (word (codes "FROM") ▹ (node names · (word (codes "TO") ▹ node names))) _ _ (anything_is (meant (word_in kind_of)))
    (after_is (word (codes "FROM")) (node names · (word (codes "TO") ▹ node names)) _ (pair_is (node names) (word (codes "TO") ▹ node names) _ _ (node_is names) (after_is (word (codes "TO")) (node names) _ (node_is names)))))
    (λ x h. ((h.1.0, (h.1.1, tt)), tt))

view_form_is : (names : List (List ℕ)) (k : View) → Each_is (view_form names k) (Fits names)
view_form_is names views.Pending = of_node commands.ShowPending names (λ n h. ((h, tt), tt))
view_form_is names views.Neighbors = of_node commands.ShowNeighbors names (λ n h. ((h, tt), tt))
view_form_is names views.Book = given_is commands.ShowBook (Fits names) (tt, tt)
view_form_is names views.Net = given_is commands.ShowNet (Fits names) (tt, tt)
view_form_is names views.Disk = of_node commands.ShowDisk names (λ n h. ((h, tt), tt))
view_form_is names views.Undo = of_node commands.ShowUndo names (λ n h. ((h, tt), tt))

form_is : (names : List (List ℕ)) (v : Verb) → Each_is (form names v) (Fits names)
unfolding form
form_is names verbs.Node = node_form_is names
form_is names verbs.Cut = built_is (λ x. commands.Cut x.0 x.1) (two_nodes names) _ (Fits names) (two_nodes_is names) (λ x h. ((h.0, (h.1, tt)), tt))
form_is names verbs.Join = built_is (λ x. commands.Join x.0 x.1) (two_nodes names) _ (Fits names) (two_nodes_is names) (λ x h. ((h.0, (h.1, tt)), tt))
form_is names verbs.Lose = forms_is lost_in (lost_form names) (Fits names) (lost_form_is names)
form_is names verbs.Stop = of_node commands.Stop names (λ n h. ((h, tt), tt))
form_is names verbs.Start = of_node commands.Start names (λ n h. ((h, tt), tt))
form_is names verbs.Crash = crash_form_is names
form_is names verbs.Fault = built_is (λ x. commands.Fault x.0 x.1) (node names · (word (codes "CALL") ▹ count)) _ (Fits names)
    (pair_is (node names) (word (codes "CALL") ▹ count) _ _ (node_is names) (after_is (word (codes "CALL")) count _ (between_is 1 number_limit)))
    (λ x h. ((h.0, tt), h.1.0))
form_is names verbs.Hold = free commands.Hold (meant (word_in switch_of)) names (λ on. (tt, tt))
form_is names verbs.Deliver = free commands.Deliver number names (λ k. (tt, tt))
form_is names verbs.Again = free commands.Again number names (λ k. (tt, tt))
form_is names verbs.Pump = free commands.Pump (optional is_number number) names (λ most. (tt, tt))
form_is names verbs.GiveUp = built_is (λ x. commands.GiveUp x.0 x.1) (at_session names) _ (Fits names) (at_session_is names) (λ x h. ((h.0, tt), h.1))
form_is names verbs.Reco = of_node commands.Reco names (λ n h. ((h, tt), tt))
form_is names verbs.Show = forms_is (word_in view_of) (view_form names) (Fits names) (view_form_is names)

pub other_is : (names : List (List ℕ)) → Each_is (other_command names) (Fits names)
other_is names = forms_is (word_in verb_of) (form names) (Fits names) (form_is names)
