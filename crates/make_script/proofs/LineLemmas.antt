-- Each line of a made script is the command that stands beside it.
use Rattle.std.proofs.Common.{◌≡◌, ℕ, ◌<◌, ◌≤◌, ◌^◌, Bool, true, false, List, [], ◌∷◌, ◌++◌, length, Option, Some, None, refl, sym, ap, subst, ◌∙◌, arith}
use Rattle.std.specs.Prelude.{◌+◌, ◌&&◌, Ok, codes, cond, decimal, drop, nat_lt, position, take}
use Rattle.std.specs.List.{list_all}
use Rattle.std.proofs.lemmas.Bool.Decides.{nat_tests}
use Rattle.token_grammar.specs.FirstWord.{has_first_word}
use Rattle.token_grammar.specs.Lexing.{mark_at, number_at, quoted_at, quoted_from, token_at, tokens_in, word_at}
use Rattle.sql_statement.specs.declared.statement.Stmt.{Stmt}
use Rattle.sql_parse.specs.Literals.{literal, step, sum, table_ref, term}
use Rattle.sql_parse.specs.Conditions.{conditions}
use Rattle.sql_parse.specs.Catalog.{column, column_type, create, create_link, create_table, rule}
use Rattle.sql_parse.specs.Transactions.{commit}
use Rattle.sql_parse.specs.Changes.{delete, insert, picks, select, update}
use Rattle.sql_parse.specs.Statement.{statement_grammar, statement_of}
use Rattle.script_read.specs.declared.before.Before.{Before}
use Rattle.script_read.specs.declared.command.Command.{Command}
use Rattle.script_read.specs.declared.command.Command.TheVariants as commands
use Rattle.script_read.specs.declared.part.Part.TheVariants.{Plain}
use Rattle.script_read.specs.Asked.{call_of, command_of, is_colon, judged, nothing_before, trouble_of}
use Rattle.script_read.specs.Forms.{form, setting_grammar}
use Rattle.script_read.specs.Parts.{all_may_stand, is_clean, pieces_from, said}
use Rattle.script_read.specs.Words.{kind_of, lost_in, measure_of, verb_of}
use Rattle.make_script.specs.Script.{Line, call_line, commit_line, count_line, digit, link_line, loss_line, node_line, other_row, own_row, recovery_line, table_line, values_text}
use Rattle.make_script.proofs.CalmLemmas.{IsCalm, is_low, low_clean, calm_append, calm_clean, calm_cut, calm_said, decimal_calm}
use Rattle.make_script.proofs.RowLemmas.{four, other_read, own_read}

-- The line is cut off behind these bytes, and is its command where these have come before.
pub record IsLine (before : Before) (front : List ℕ) (l : Line) : Type 0 where
  pub cut : (rest : List ℕ) → pieces_from Plain (front ++ (l.text ++ 59 ∷ rest)) ≡ ((front ++ l.text) ∷ (pieces_from Plain rest).0, (pieces_from Plain rest).1)
  pub good : judged before (front ++ l.text) ≡ Ok l.command

-- the end of the line before
abbrev pub feed : List ℕ
feed = 10 ∷ []

-- a command that is clean, comes in time, is said and is sound
judged_by : (before : Before) (piece : List ℕ) (c : Command) → is_clean piece ≡ true → (before.others && has_first_word (codes "NODE") (said piece)) ≡ false
    → command_of before.names (said piece) ≡ Some c → trouble_of before.names c ≡ None → judged before piece ≡ Ok c
unfolding judged
judged_by before piece c clean early says sound = rw (clean, early, says, sound) refl

-- a line whose text has no quotes, dashes and semicolons
calm_line : (before : Before) (l : Line) → IsCalm (feed ++ l.text) → (before.others && has_first_word (codes "NODE") (feed ++ l.text)) ≡ false
    → command_of before.names (feed ++ l.text) ≡ Some l.command → trouble_of before.names l.command ≡ None → IsLine before feed l
calm_line before l calm early says sound =
    let same = sym (calm_said (feed ++ l.text) calm) in
    record {
      cut = λ rest. calm_cut (feed ++ l.text) rest calm;
      good = judged_by before (feed ++ l.text) l.command (calm_clean (feed ++ l.text) calm)
          (subst (λ (t : List ℕ). (before.others && has_first_word (codes "NODE") t) ≡ false) same early)
          (subst (λ (t : List ℕ). command_of before.names t ≡ Some l.command) same says) sound;
    }

-- a line that is written out
written_line : (before : Before) (front : List ℕ) (l : Line) → list_all is_low (front ++ l.text) ≡ true → all_may_stand Plain (front ++ l.text) ≡ true
    → (before.others && has_first_word (codes "NODE") (said (front ++ l.text))) ≡ false → command_of before.names (said (front ++ l.text)) ≡ Some l.command → trouble_of before.names l.command ≡ None
    → ((rest : List ℕ) → pieces_from Plain (front ++ (l.text ++ 59 ∷ rest)) ≡ ((front ++ l.text) ∷ (pieces_from Plain rest).0, (pieces_from Plain rest).1)) → IsLine before front l
written_line before front l low stand early says sound cut = record {
  cut = cut;
  good = judged_by before (front ++ l.text) l.command (low_clean (front ++ l.text) low stand) early says sound;
}

-- ---- what comes before

-- the names of the four nodes
abbrev pub names : List (List ℕ)
names = codes "N1" ∷ codes "N2" ∷ codes "N3" ∷ codes "N4" ∷ []

abbrev before_1 : Before
before_1 = record { names = codes "N1" ∷ []; others = false }

abbrev before_2 : Before
before_2 = record { names = codes "N1" ∷ codes "N2" ∷ []; others = false }

abbrev before_3 : Before
before_3 = record { names = codes "N1" ∷ codes "N2" ∷ codes "N3" ∷ []; others = false }

abbrev pub before_4 : Before
before_4 = record { names = names; others = false }

-- the nodes have come, and other commands
abbrev pub met : Before
met = record { names = names; others = true }

-- ---- the first lines

pub first_node : IsLine nothing_before [] (node_line 1)
unfolding command_of form setting_grammar verb_of measure_of tokens_in token_at word_at number_at mark_at quoted_at quoted_from
first_node = written_line nothing_before [] (node_line 1) refl refl refl refl refl (λ rest. refl)

pub other_nodes : IsLine before_1 feed (node_line 2) × IsLine before_2 feed (node_line 3) × IsLine before_3 feed (node_line 4)
unfolding command_of form setting_grammar verb_of measure_of tokens_in token_at word_at number_at mark_at quoted_at quoted_from
other_nodes = (calm_line before_1 (node_line 2) refl refl refl refl, calm_line before_2 (node_line 3) refl refl refl refl, calm_line before_3 (node_line 4) refl refl refl refl)

pub tables : IsLine before_4 feed (table_line 1) × IsLine met feed (table_line 2) × IsLine met feed (table_line 3) × IsLine met feed (table_line 4)
unfolding command_of call_of statement_of statement_grammar select insert update delete create create_table column column_type rule tokens_in token_at word_at number_at mark_at quoted_at quoted_from
tables = (calm_line before_4 (table_line 1) refl refl refl refl, calm_line met (table_line 2) refl refl refl refl, calm_line met (table_line 3) refl refl refl refl, calm_line met (table_line 4) refl refl refl refl)

-- a database link of a node, whose target stands in quotes
abbrev IsLink : ℕ → ℕ → Type 0
IsLink n other = IsLine met feed (link_line n other)

pub links_1 : IsLink 1 2 × IsLink 1 3 × IsLink 1 4 × IsLink 2 1 × IsLink 2 3 × IsLink 2 4
unfolding command_of call_of statement_of statement_grammar select insert update delete create create_table create_link column column_type rule tokens_in token_at word_at number_at mark_at quoted_at quoted_from
links_1 = (
  written_line met feed (link_line 1 2) refl refl refl refl refl (λ rest. refl),
  written_line met feed (link_line 1 3) refl refl refl refl refl (λ rest. refl),
  written_line met feed (link_line 1 4) refl refl refl refl refl (λ rest. refl),
  written_line met feed (link_line 2 1) refl refl refl refl refl (λ rest. refl),
  written_line met feed (link_line 2 3) refl refl refl refl refl (λ rest. refl),
  written_line met feed (link_line 2 4) refl refl refl refl refl (λ rest. refl),
)

pub links_2 : IsLink 3 1 × IsLink 3 2 × IsLink 3 4 × IsLink 4 1 × IsLink 4 2 × IsLink 4 3
unfolding command_of call_of statement_of statement_grammar select insert update delete create create_table create_link column column_type rule tokens_in token_at word_at number_at mark_at quoted_at quoted_from
links_2 = (
  written_line met feed (link_line 3 1) refl refl refl refl refl (λ rest. refl),
  written_line met feed (link_line 3 2) refl refl refl refl refl (λ rest. refl),
  written_line met feed (link_line 3 4) refl refl refl refl refl (λ rest. refl),
  written_line met feed (link_line 4 1) refl refl refl refl refl (λ rest. refl),
  written_line met feed (link_line 4 2) refl refl refl refl refl (λ rest. refl),
  written_line met feed (link_line 4 3) refl refl refl refl refl (λ rest. refl),
)

-- ---- lines of one node or two

abbrev IsCommitted : ℕ → Type 0
IsCommitted n = IsLine met feed (commit_line n)

pub commit_is : (n : ℕ) → 1 ≤ n → n ≤ 4 → IsLine met feed (commit_line n)
unfolding command_of call_of statement_of statement_grammar select insert update delete create commit tokens_in token_at word_at number_at mark_at quoted_at quoted_from
commit_is = four IsCommitted (calm_line met (commit_line 1) refl refl refl refl) (calm_line met (commit_line 2) refl refl refl refl) (calm_line met (commit_line 3) refl refl refl refl) (calm_line met (commit_line 4) refl refl refl refl)

abbrev IsRecovered : ℕ → Type 0
IsRecovered n = IsLine met feed (recovery_line n)

pub recovery_is : (n : ℕ) → 1 ≤ n → n ≤ 4 → IsLine met feed (recovery_line n)
unfolding command_of form verb_of tokens_in token_at word_at number_at mark_at quoted_at quoted_from
recovery_is = four IsRecovered (calm_line met (recovery_line 1) refl refl refl refl) (calm_line met (recovery_line 2) refl refl refl refl) (calm_line met (recovery_line 3) refl refl refl refl) (calm_line met (recovery_line 4) refl refl refl refl)

abbrev IsLost : ℕ → ℕ → Type 0
IsLost from to = IsLine met feed (loss_line from to)

pub loss_is : (from to : ℕ) → 1 ≤ from → from ≤ 4 → 1 ≤ to → to ≤ 4 → IsLine met feed (loss_line from to)
unfolding command_of form verb_of lost_in kind_of tokens_in token_at word_at number_at mark_at quoted_at quoted_from
loss_is from to low high least most =
    four (λ f. IsLost f to)
    (four (IsLost 1) (calm_line met (loss_line 1 1) refl refl refl refl) (calm_line met (loss_line 1 2) refl refl refl refl) (calm_line met (loss_line 1 3) refl refl refl refl) (calm_line met (loss_line 1 4) refl refl refl refl) to least most)
    (four (IsLost 2) (calm_line met (loss_line 2 1) refl refl refl refl) (calm_line met (loss_line 2 2) refl refl refl refl) (calm_line met (loss_line 2 3) refl refl refl refl) (calm_line met (loss_line 2 4) refl refl refl refl) to least most)
    (four (IsLost 3) (calm_line met (loss_line 3 1) refl refl refl refl) (calm_line met (loss_line 3 2) refl refl refl refl) (calm_line met (loss_line 3 3) refl refl refl refl) (calm_line met (loss_line 3 4) refl refl refl refl) to least most)
    (four (IsLost 4) (calm_line met (loss_line 4 1) refl refl refl refl) (calm_line met (loss_line 4 2) refl refl refl refl) (calm_line met (loss_line 4 3) refl refl refl refl) (calm_line met (loss_line 4 4) refl refl refl refl) to least most)
    from low high

pub counts : IsLine met feed (count_line 1) × IsLine met feed (count_line 2) × IsLine met feed (count_line 3) × IsLine met feed (count_line 4)
unfolding command_of call_of statement_of statement_grammar select picks conditions table_ref tokens_in token_at word_at number_at mark_at quoted_at quoted_from
counts = (calm_line met (count_line 1) refl refl refl refl, calm_line met (count_line 2) refl refl refl refl, calm_line met (count_line 3) refl refl refl refl, calm_line met (count_line 4) refl refl refl refl)

-- ---- lines with numbers

-- the begin of a call at each node, in front of any text
abbrev IsCalled : ℕ → List ℕ → Type 0
IsCalled n front = (text : List ℕ) → command_of names (front ++ text) ≡ Some (commands.At n 1 (statement_of (32 ∷ text)))

colon_1 : (text : List ℕ) → position is_colon (codes "\nAT N1 SESSION 1: " ++ text) ≡ Some 16
colon_1 text =
    let far : nat_lt 16 (length (codes "\nAT N1 SESSION 1: " ++ text)) ≡ true = grind (arith, nat_tests) in
    ap (λ (b : Bool). cond b (Some 16) None) far

colon_2 : (text : List ℕ) → position is_colon (codes "\nAT N2 SESSION 1: " ++ text) ≡ Some 16
colon_2 text =
    let far : nat_lt 16 (length (codes "\nAT N2 SESSION 1: " ++ text)) ≡ true = grind (arith, nat_tests) in
    ap (λ (b : Bool). cond b (Some 16) None) far

colon_3 : (text : List ℕ) → position is_colon (codes "\nAT N3 SESSION 1: " ++ text) ≡ Some 16
colon_3 text =
    let far : nat_lt 16 (length (codes "\nAT N3 SESSION 1: " ++ text)) ≡ true = grind (arith, nat_tests) in
    ap (λ (b : Bool). cond b (Some 16) None) far

colon_4 : (text : List ℕ) → position is_colon (codes "\nAT N4 SESSION 1: " ++ text) ≡ Some 16
colon_4 text =
    let far : nat_lt 16 (length (codes "\nAT N4 SESSION 1: " ++ text)) ≡ true = grind (arith, nat_tests) in
    ap (λ (b : Bool). cond b (Some 16) None) far

-- the command that is said, where its first colon stands here
at_colon : (place : ℕ) (text : List ℕ) (c : Option Command) → position is_colon text ≡ Some place → call_of names (take place text) (drop (place + 1) text) ≡ c → command_of names text ≡ c
unfolding command_of
at_colon place text c is said = rw is said

calls : (IsCalled 1 (codes "\nAT N1 SESSION 1: ")) × (IsCalled 2 (codes "\nAT N2 SESSION 1: ")) × (IsCalled 3 (codes "\nAT N3 SESSION 1: ")) × (IsCalled 4 (codes "\nAT N4 SESSION 1: "))
unfolding call_of tokens_in token_at word_at number_at mark_at quoted_at quoted_from
calls = (
  λ text. at_colon 16 (codes "\nAT N1 SESSION 1: " ++ text) _ (colon_1 text) refl,
  λ text. at_colon 16 (codes "\nAT N2 SESSION 1: " ++ text) _ (colon_2 text) refl,
  λ text. at_colon 16 (codes "\nAT N3 SESSION 1: " ++ text) _ (colon_3 text) refl,
  λ text. at_colon 16 (codes "\nAT N4 SESSION 1: " ++ text) _ (colon_4 text) refl,
)

-- a call whose text is read as its statement, behind a begin of a call
module _ (text : List ℕ) (s : Stmt) (n : ℕ) (front : List ℕ) (calm : IsCalm (front ++ text)) (read : statement_of (32 ∷ text) ≡ Some s) (called : IsCalled n front)
    (late : has_first_word (codes "NODE") (front ++ text) ≡ false) (sound : trouble_of names (commands.At n 1 (Some s)) ≡ None) where
  good_call : judged met (front ++ text) ≡ Ok (commands.At n 1 (Some s))
  unfolding judged
  good_call = rw (calm_clean (front ++ text) calm, calm_said (front ++ text) calm, late, called text, read, sound) refl

  cut_call : (rest : List ℕ) → pieces_from Plain ((front ++ text) ++ 59 ∷ rest) ≡ ((front ++ text) ∷ (pieces_from Plain rest).0, (pieces_from Plain rest).1)
  cut_call rest = calm_cut (front ++ text) rest calm

-- the line of a call at a node
abbrev IsCallLine : List ℕ → Stmt → ℕ → Type 0
IsCallLine text s n = IsLine met feed (call_line n text s)

pub call_is : (text : List ℕ) (s : Stmt) → IsCalm text → statement_of (32 ∷ text) ≡ Some s → (n : ℕ) → 1 ≤ n → n ≤ 4 → IsLine met feed (call_line n text s)
call_is text s calm read = four (IsCallLine text s)
    (record {
      cut = cut_call text s 1 (codes "\nAT N1 SESSION 1: ") calm read calls.0 refl refl;
      good = good_call text s 1 (codes "\nAT N1 SESSION 1: ") calm read calls.0 refl refl;
    })
    (record {
      cut = cut_call text s 2 (codes "\nAT N2 SESSION 1: ") calm read calls.1 refl refl;
      good = good_call text s 2 (codes "\nAT N2 SESSION 1: ") calm read calls.1 refl refl;
    })
    (record {
      cut = cut_call text s 3 (codes "\nAT N3 SESSION 1: ") calm read calls.2 refl refl;
      good = good_call text s 3 (codes "\nAT N3 SESSION 1: ") calm read calls.2 refl refl;
    })
    (record {
      cut = cut_call text s 4 (codes "\nAT N4 SESSION 1: ") calm read calls.3 refl refl;
      good = good_call text s 4 (codes "\nAT N4 SESSION 1: ") calm read calls.3 refl refl;
    })

values_calm : (number value : ℕ) → number < 2 ^ 63 → value < 2 ^ 63 → IsCalm (values_text number value)
values_calm number value p q =
    calm_append (decimal number) (codes ", " ++ (decimal value ++ codes ")")) (decimal_calm number (omega (arith, p))) (calm_append (decimal value) (codes ")") (decimal_calm value (omega (arith, q))) refl)

pub own_is : (root number value : ℕ) → 1 ≤ root → root ≤ 4 → number < 2 ^ 63 → value < 2 ^ 63 → IsLine met feed (own_row root number value)
own_is root number value low high p q = call_is (codes "INSERT INTO T" ++ values_text number value) _ (values_calm number value p q) (own_read number value p q) root low high

-- the digit of a node
abbrev IsCalmNode : ℕ → Type 0
IsCalmNode n = IsCalm (digit n)

node_calm : (n : ℕ) → 1 ≤ n → n ≤ 4 → IsCalm (digit n)
node_calm = four IsCalmNode refl refl refl refl

pub other_is : (root other number value : ℕ) → 1 ≤ root → root ≤ 4 → 1 ≤ other → other ≤ 4 → number < 2 ^ 63 → value < 2 ^ 63 → IsLine met feed (other_row root other number value)
other_is root other number value low high least most p q =
    call_is (codes "INSERT INTO T@L" ++ (digit other ++ values_text number value)) _
    (calm_append (digit other) (values_text number value) (node_calm other least most) (values_calm number value p q))
    (other_read other least most number value p q) root low high
