-- The grammar of a command: which tokens spell it. A node that there is not has the number 0.
use Rattle.std.specs.Prelude.{ℕ, ◌+◌, ◌-◌, ◌*◌, ◌==◌, ◌&&◌, nat_le, Bool, true, false, not, List, [], ◌∷◌, ◌++◌, length, count_by, position, Option, Some, None, is_some, codes, if◌then◌else◌}
use Rattle.std.specs.Option.{option_map_or}
use Rattle.std.specs.Str.{bytes_eq}
use Rattle.dtx_values.specs.Limits.{strength_limit, usual_links, link_limit, usual_extents, extents_limit, session_limit}
use Rattle.token_grammar.specs.declared.token.Token.{Token}
use Rattle.token_grammar.specs.declared.token.Token.TheVariants as token
use Rattle.token_grammar.specs.Bytes.{is_digit}
use Rattle.token_grammar.specs.Steps.{◌>>=◌}
use Rattle.token_grammar.specs.Grammar.{Grammar, word, meant, name, ◌·◌, ◌▹◌, optional, many, tested}
use Rattle.token_grammar.specs.Forms.{given, forms, built, number_between, word_in}
use Rattle.wire_msg.specs.declared.kind.KindName.{KindName}
use Rattle.script_read.specs.declared.command.How.{How}
use Rattle.script_read.specs.declared.command.How.TheVariants as hows
use Rattle.script_read.specs.declared.command.Command.{Command}
use Rattle.script_read.specs.declared.command.Command.TheVariants as commands
use Rattle.script_read.specs.declared.words.Verb.{Verb}
use Rattle.script_read.specs.declared.words.Verb.TheVariants as verbs
use Rattle.script_read.specs.declared.words.Lost.{Lost}
use Rattle.script_read.specs.declared.words.Lost.TheVariants as lost
use Rattle.script_read.specs.declared.words.Left.{Left}
use Rattle.script_read.specs.declared.words.Left.TheVariants as left
use Rattle.script_read.specs.declared.words.View.{View}
use Rattle.script_read.specs.declared.words.View.TheVariants as views
use Rattle.script_read.specs.declared.words.Measure.{Measure}
use Rattle.script_read.specs.declared.words.Measure.TheVariants as measures
use Rattle.script_read.specs.declared.words.Setting.{Setting}
use Rattle.script_read.specs.declared.words.Setting.TheVariants as setting
use Rattle.script_read.specs.declared.words.Settings.{Settings}
use Rattle.script_read.specs.Words.{number_limit, verb_of, kind_of, lost_in, left_of, switch_of, view_of, measure_of}

-- ---- Nodes, sessions and numbers.

-- the number of the node with this name, from 1 in the order of the names; 0 if there is none
abbrev pub number_of : List (List ℕ) → List ℕ → ℕ
number_of names wanted = option_map_or (λ place. place + 1) (position (λ other. bytes_eq other wanted) names) 0

-- name, of a node
abbrev pub node : List (List ℕ) → Grammar ℕ
node names = built (number_of names) name

-- two names that differ
abbrev pub differ : List ℕ × List ℕ → Bool
differ x = not (bytes_eq x.0 x.1)

-- name name, of two nodes
abbrev pub two_nodes : List (List ℕ) → Grammar (ℕ × ℕ)
two_nodes names = built (λ x. (number_of names x.0, number_of names x.1)) (tested differ (name · name))

-- num
abbrev pub number : Grammar ℕ
number = number_between 0 number_limit

-- num, from 1 on
abbrev pub count : Grammar ℕ
count = number_between 1 number_limit

-- AT name SESSION num
abbrev pub at_session : List (List ℕ) → Grammar (ℕ × ℕ)
at_session names = word (codes "AT") ▹ (node names · (word (codes "SESSION") ▹ number_between 1 session_limit))

-- ---- Options of NODE.

-- STRENGTH num | LINKS num | UNDO num
abbrev pub setting_form : Measure → Grammar Setting
setting_form measures.Strength = built setting.Strength (number_between 0 strength_limit)
setting_form measures.Links = built setting.Links (number_between 1 link_limit)
setting_form measures.Undo = built setting.Undo (number_between 1 extents_limit)

-- an option of NODE
unfoldable pub setting_grammar : Grammar Setting
setting_grammar = forms (word_in measure_of) setting_form

-- STRENGTH, LINKS or UNDO
abbrev pub is_setting : Token → Bool
is_setting t = is_some (word_in measure_of t)

-- whether an option sets the strength
abbrev pub is_strength : Setting → Bool
is_strength (setting.Strength n) = true
is_strength (setting.Links n) = false
is_strength (setting.Undo n) = false

-- whether an option sets the links
abbrev pub is_links : Setting → Bool
is_links (setting.Strength n) = false
is_links (setting.Links n) = true
is_links (setting.Undo n) = false

-- whether an option sets the undo extents
abbrev pub is_undo : Setting → Bool
is_undo (setting.Strength n) = false
is_undo (setting.Links n) = false
is_undo (setting.Undo n) = true

-- no option twice
abbrev pub are_once : List Setting → Bool
are_once xs = nat_le (count_by is_strength xs) 1 && (nat_le (count_by is_links xs) 1 && nat_le (count_by is_undo xs) 1)

-- the commit point strength of a node whose command names none
abbrev pub usual_strength : ℕ
usual_strength = 1

-- a node without options
abbrev pub usual : Settings
usual = record { strength = usual_strength; links = usual_links; undo = usual_extents }

-- an option in place of what is usual
abbrev pub with_setting : Settings → Setting → Settings
with_setting s (setting.Strength n) = record { strength = n; links = s.links; undo = s.undo }
with_setting s (setting.Links n) = record { strength = s.strength; links = n; undo = s.undo }
with_setting s (setting.Undo n) = record { strength = s.strength; links = s.links; undo = n }

-- the same of several options
abbrev pub with_settings : Settings → List Setting → Settings
with_settings s [] = s
with_settings s (x ∷ xs) = with_settings (with_setting s x) xs

-- {STRENGTH num | LINKS num | UNDO num}, each at most once
abbrev pub settings : Grammar (List Setting)
settings = tested are_once (many is_setting setting_grammar)

-- the node that is made
abbrev pub node_made : List ℕ → Settings → Command
node_made made s = commands.Node made s.strength s.links s.undo

-- name {STRENGTH num | LINKS num | UNDO num}
abbrev pub node_form : Grammar Command
node_form = built (λ x. node_made x.0 (with_settings usual x.1)) (name · settings)

-- ---- What a crash leaves.

-- the value of a hexadecimal digit
abbrev pub hex_digit : ℕ → Option ℕ
hex_digit b = if is_digit b then Some (b - 48)
    else (if nat_le 65 b && nat_le b 70 then Some (b - 55)
    else (if nat_le 97 b && nat_le b 102 then Some (b - 87) else None))

-- the byte that two hexadecimal digits write
abbrev pub hex_byte : ℕ → ℕ → Option ℕ
hex_byte a b = do
  x ← hex_digit a
  y ← hex_digit b
  Some (16 * x + y)

-- these bytes, and behind them those that hexadecimal digits write, two digits for each
abbrev pub hex_behind : List ℕ → List ℕ → Option (List ℕ)
hex_behind bytes [] = Some bytes
hex_behind bytes (a ∷ []) = None
hex_behind bytes (a ∷ b ∷ digits) = hex_byte a b >>= λ byte. hex_behind (bytes ++ byte ∷ []) digits

-- the bytes that hexadecimal digits write, at least one
abbrev pub hex_of : List ℕ → Option (List ℕ)
hex_of digits = if length digits == 0 then None else hex_behind [] digits

-- 'hex'
abbrev pub hex_in : Token → Option (List ℕ)
hex_in (token.Quoted digits) = hex_of digits
hex_in _ = None

-- KEEP num | LEAVE 'hex'
abbrev pub left_form : Left → Grammar How
left_form left.Keep = built hows.Keep number
left_form left.Leave = built hows.Leave (meant hex_in)

-- name WRITE num KEEP num | name WRITE num LEAVE 'hex'
abbrev pub crash_form : List (List ℕ) → Grammar Command
crash_form names = built (λ x. commands.Crash x.0 x.1.0 x.1.1)
    (node names · (word (codes "WRITE") ▹ (count · forms (word_in left_of) left_form)))

-- ---- The forms of a command.

-- num | NEXT kind FROM name TO name
abbrev pub lost_form : List (List ℕ) → Lost → Grammar Command
lost_form names (lost.Number k) = given (commands.Lose k)
lost_form names lost.Next = built (λ x. commands.LoseNext x.0 x.1.0 x.1.1)
    (meant (word_in kind_of) · (word (codes "FROM") ▹ (node names · (word (codes "TO") ▹ node names))))

-- PENDING name | NEIGHBORS name | BOOK | NET | DISK name | UNDO name
abbrev pub view_form : List (List ℕ) → View → Grammar Command
view_form names views.Pending = built commands.ShowPending (node names)
view_form names views.Neighbors = built commands.ShowNeighbors (node names)
view_form names views.Book = given commands.ShowBook
view_form names views.Net = given commands.ShowNet
view_form names views.Disk = built commands.ShowDisk (node names)
view_form names views.Undo = built commands.ShowUndo (node names)

-- a number
abbrev pub is_number : Token → Bool
is_number (token.Number n) = true
is_number _ = false

-- What stands behind the first word of a command, one line a form:
-- NODE name {STRENGTH num | LINKS num | UNDO num}
-- CUT name name
-- JOIN name name
-- LOSE num | LOSE NEXT kind FROM name TO name
-- STOP name
-- START name
-- CRASH name WRITE num KEEP num | CRASH name WRITE num LEAVE 'hex'
-- FAULT name CALL num
-- HOLD ON | HOLD OFF
-- DELIVER num
-- AGAIN num
-- PUMP [num]
-- GIVEUP AT name SESSION num
-- RECO name
-- SHOW PENDING name | SHOW NEIGHBORS name | SHOW BOOK | SHOW NET | SHOW DISK name | SHOW UNDO name
unfoldable pub form : List (List ℕ) → Verb → Grammar Command
form names verbs.Node = node_form
form names verbs.Cut = built (λ x. commands.Cut x.0 x.1) (two_nodes names)
form names verbs.Join = built (λ x. commands.Join x.0 x.1) (two_nodes names)
form names verbs.Lose = forms lost_in (lost_form names)
form names verbs.Stop = built commands.Stop (node names)
form names verbs.Start = built commands.Start (node names)
form names verbs.Crash = crash_form names
form names verbs.Fault = built (λ x. commands.Fault x.0 x.1) (node names · (word (codes "CALL") ▹ count))
form names verbs.Hold = built commands.Hold (meant (word_in switch_of))
form names verbs.Deliver = built commands.Deliver number
form names verbs.Again = built commands.Again number
form names verbs.Pump = built commands.Pump (optional is_number number)
form names verbs.GiveUp = built (λ x. commands.GiveUp x.0 x.1) (at_session names)
form names verbs.Reco = built commands.Reco (node names)
form names verbs.Show = forms (word_in view_of) (view_form names)

-- a command that is no call of a client
abbrev pub other_command : List (List ℕ) → Grammar Command
other_command names = forms (word_in verb_of) (form names)
