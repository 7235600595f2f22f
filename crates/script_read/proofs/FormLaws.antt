-- The grammar of a command is exact: what is read is spelled so, and what is spelled so is read.
use Rattle.std.proofs.Common.{◌≡◌, ℕ, Bool, true, List, Option, Some, None, refl}
use Rattle.std.specs.Prelude.{codes}
use Rattle.dtx_values.specs.Limits.{strength_limit, link_limit, extents_limit, session_limit}
use Rattle.token_grammar.specs.declared.token.Token.{Token}
use Rattle.token_grammar.specs.declared.token.Token.TheVariants as token
use Rattle.token_grammar.specs.Grammar.{Grammar, nothing, anything, either, word, meant, name, name_in, ◌·◌, ◌▹◌, optional, many, tested}
use Rattle.token_grammar.specs.Forms.{given, forms, built, between_in, number_between, word_in}
use Rattle.token_grammar.specs.Exact.{IsExact, Leads}
use Rattle.token_grammar.proofs.Beginnings.{ends_all, apart_nothing}
use Rattle.token_grammar.proofs.OneToken.{word_exact, meant_exact}
use Rattle.token_grammar.proofs.Parts.{after, seq, optional_exact, many_exact}
use Rattle.token_grammar.proofs.Values.{tested_exact}
use Rattle.token_grammar.proofs.FormLaws.{given_exact, forms_exact, leads_forms, built_exact}
use Rattle.script_read.specs.declared.command.How.{How}
use Rattle.script_read.specs.declared.command.How.TheVariants as hows
use Rattle.script_read.specs.declared.command.Command.{Command}
use Rattle.script_read.specs.declared.command.Command.TheVariants as commands
use Rattle.script_read.specs.declared.words.Verb.{Verb}
use Rattle.script_read.specs.declared.words.Verb.TheVariants as verbs
use Rattle.script_read.specs.declared.words.Lost.{Lost}
use Rattle.script_read.specs.declared.words.Lost.TheVariants as lost
use Rattle.script_read.specs.declared.words.Left.{Left}
use Rattle.script_read.specs.declared.words.Left.TheVariants as left
use Rattle.script_read.specs.declared.words.View.{View}
use Rattle.script_read.specs.declared.words.View.TheVariants as views
use Rattle.script_read.specs.declared.words.Measure.{Measure}
use Rattle.script_read.specs.declared.words.Measure.TheVariants as measures
use Rattle.script_read.specs.declared.words.Setting.TheVariants as setting
use Rattle.script_read.specs.Words.{number_limit, verb_of, kind_of, lost_in, left_of, switch_of, view_of, measure_of}
use Rattle.script_read.specs.Forms.{number_of, node, differ, two_nodes, number, count, at_session, setting_form, setting_grammar, is_setting, are_once, settings, node_made, with_settings, usual, node_form, hex_in, left_form, crash_form, lost_form, view_form, is_number, form, other_command}

-- ---- Nodes, sessions and numbers.

between_exact : (least most : ℕ) → IsExact (number_between least most) nothing
between_exact least most = meant_exact (between_in least most)

node_exact : (names : List (List ℕ)) → IsExact (node names) nothing
node_exact names = built_exact (number_of names) name nothing (meant_exact name_in)

two_nodes_exact : (names : List (List ℕ)) → IsExact (two_nodes names) nothing
two_nodes_exact names = built_exact _ (tested differ (name · name)) nothing (tested_exact differ (name · name) nothing (seq (meant_exact name_in) (meant_exact name_in)))

session_exact : (names : List (List ℕ)) → IsExact (at_session names) nothing
session_exact names = after (word_exact (codes "AT")) (seq (node_exact names) (after (word_exact (codes "SESSION")) (between_exact 1 session_limit)))

pub at_session_exact : (names : List (List ℕ)) → IsExact (at_session names) anything
at_session_exact names = ends_all (at_session names) nothing (session_exact names)

-- ---- Options of NODE.

setting_form_exact : (m : Measure) → IsExact (setting_form m) nothing
setting_form_exact measures.Strength = built_exact setting.Strength (number_between 0 strength_limit) nothing (between_exact 0 strength_limit)
setting_form_exact measures.Links = built_exact setting.Links (number_between 1 link_limit) nothing (between_exact 1 link_limit)
setting_form_exact measures.Undo = built_exact setting.Undo (number_between 1 extents_limit) nothing (between_exact 1 extents_limit)

setting_exact : IsExact setting_grammar nothing
unfolding setting_grammar
setting_exact = forms_exact (word_in measure_of) setting_form nothing setting_form_exact

leads_setting : Leads setting_grammar is_setting
unfolding setting_grammar
leads_setting = leads_forms (word_in measure_of) setting_form

settings_exact : IsExact settings (either is_setting nothing)
settings_exact = tested_exact are_once (many is_setting setting_grammar) _ (many_exact setting_grammar is_setting nothing setting_exact leads_setting (apart_nothing _))

node_form_exact : IsExact node_form anything
node_form_exact = ends_all node_form _ (built_exact (λ x. node_made x.0 (with_settings usual x.1)) (name · settings) _ (seq (meant_exact name_in) settings_exact))

-- ---- What a crash leaves.

left_form_exact : (k : Left) → IsExact (left_form k) nothing
left_form_exact left.Keep = built_exact hows.Keep number nothing (between_exact 0 number_limit)
left_form_exact left.Leave = built_exact hows.Leave (meant hex_in) nothing (meant_exact hex_in)

crash_form_exact : (names : List (List ℕ)) → IsExact (crash_form names) nothing
crash_form_exact names = built_exact _ (node names · (word (codes "WRITE") ▹ (count · forms (word_in left_of) left_form))) nothing
    (seq (node_exact names) (after (word_exact (codes "WRITE")) (seq (between_exact 1 number_limit) (forms_exact (word_in left_of) left_form nothing left_form_exact))))

-- ---- Other forms of several.

lost_form_exact : (names : List (List ℕ)) (k : Lost) → IsExact (lost_form names k) nothing
lost_form_exact names (lost.Number k) = given_exact (commands.Lose k)
lost_form_exact names lost.Next = built_exact _ (meant (word_in kind_of) · (word (codes "FROM") ▹ (node names · (word (codes "TO") ▹ node names)))) nothing
    (seq (meant_exact (word_in kind_of)) (after (word_exact (codes "FROM")) (seq (node_exact names) (after (word_exact (codes "TO")) (node_exact names)))))

view_form_exact : (names : List (List ℕ)) (k : View) → IsExact (view_form names k) nothing
view_form_exact names views.Pending = built_exact commands.ShowPending (node names) nothing (node_exact names)
view_form_exact names views.Neighbors = built_exact commands.ShowNeighbors (node names) nothing (node_exact names)
view_form_exact names views.Book = given_exact commands.ShowBook
view_form_exact names views.Net = given_exact commands.ShowNet
view_form_exact names views.Disk = built_exact commands.ShowDisk (node names) nothing (node_exact names)
view_form_exact names views.Undo = built_exact commands.ShowUndo (node names) nothing (node_exact names)

between_is_number : (least most : ℕ) (t : Token) (n : ℕ) → between_in least most t ≡ Some n → is_number t ≡ true
between_is_number least most (token.Number k) n e = refl
between_is_number least most (token.Word w) n e = absurd cc
between_is_number least most (token.Quoted s) n e = absurd cc
between_is_number least most (token.Mark m) n e = absurd cc

leads_number : Leads number is_number
leads_number v ts s = rw s.1 (between_is_number 0 number_limit s.0 v s.2)

pump_exact : IsExact (optional is_number number) (either is_number nothing)
pump_exact = optional_exact number is_number nothing (between_exact 0 number_limit) leads_number

-- ---- All of them.

short_form : (g : Grammar Command) → IsExact g nothing → IsExact g anything
short_form g x = ends_all g nothing x

form_exact : (names : List (List ℕ)) (v : Verb) → IsExact (form names v) anything
unfolding form
form_exact names verbs.Node = node_form_exact
form_exact names verbs.Cut = short_form _ (built_exact (λ x. commands.Cut x.0 x.1) (two_nodes names) nothing (two_nodes_exact names))
form_exact names verbs.Join = short_form _ (built_exact (λ x. commands.Join x.0 x.1) (two_nodes names) nothing (two_nodes_exact names))
form_exact names verbs.Lose = short_form _ (forms_exact lost_in (lost_form names) nothing (lost_form_exact names))
form_exact names verbs.Stop = short_form _ (built_exact commands.Stop (node names) nothing (node_exact names))
form_exact names verbs.Start = short_form _ (built_exact commands.Start (node names) nothing (node_exact names))
form_exact names verbs.Crash = short_form _ (crash_form_exact names)
form_exact names verbs.Fault = short_form _ (built_exact (λ x. commands.Fault x.0 x.1) (node names · (word (codes "CALL") ▹ count)) nothing (seq (node_exact names) (after (word_exact (codes "CALL")) (between_exact 1 number_limit))))
form_exact names verbs.Hold = short_form _ (built_exact commands.Hold (meant (word_in switch_of)) nothing (meant_exact (word_in switch_of)))
form_exact names verbs.Deliver = short_form _ (built_exact commands.Deliver number nothing (between_exact 0 number_limit))
form_exact names verbs.Again = short_form _ (built_exact commands.Again number nothing (between_exact 0 number_limit))
form_exact names verbs.Pump = ends_all _ (either is_number nothing) (built_exact commands.Pump (optional is_number number) _ pump_exact)
form_exact names verbs.GiveUp = short_form _ (built_exact (λ x. commands.GiveUp x.0 x.1) (at_session names) nothing (session_exact names))
form_exact names verbs.Reco = short_form _ (built_exact commands.Reco (node names) nothing (node_exact names))
form_exact names verbs.Show = short_form _ (forms_exact (word_in view_of) (view_form names) nothing (view_form_exact names))

pub other_exact : (names : List (List ℕ)) → IsExact (other_command names) anything
other_exact names = forms_exact (word_in verb_of) (form names) anything (form_exact names)
