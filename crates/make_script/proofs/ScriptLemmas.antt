-- The lines of a made script are its commands, one after the other.
use Rattle.std.proofs.Common.{◌≡◌, ◌∙◌, ℕ, zero, suc, ◌+◌, ◌*◌, ◌%◌, ◌<◌, ◌≤◌, ◌^◌, Bool, true, false, List, [], ◌∷◌, ◌++◌, refl, sym, ap, subst, append_assoc, arith}
use Rattle.std.specs.Prelude.{Ok, cond, map, max, min, nat_lt, ◌==◌}
use Rattle.std.specs.List.{AllByRecursion, flat_map}
use Rattle.std.proofs.lemmas.Bool.Decides.{nat_tests}
use Rattle.script_read.specs.declared.before.Before.{Before}
use Rattle.script_read.specs.declared.part.Part.TheVariants.{Plain}
use Rattle.script_read.specs.declared.command.Command.{Command}
use Rattle.script_read.specs.Asked.{Asked, asked, asked_at_end, asked_from, judged, nothing_before, with_command}
use Rattle.script_read.specs.Parts.{line_ends, pieces_from}
use Rattle.make_script.specs.declared.transaction.Transaction.{Transaction}
use Rattle.make_script.specs.Draws.{drawn_after, last_draw, next_draw, other_node, transactions}
use Rattle.make_script.specs.Script.{Line, command_of, commands_of, end_lines, first_lines, last_lines, line_text, lines, lines_of, loses, script_of, text_of, transaction_count}
use Rattle.make_script.specs.Read.{IsRead}
use Rattle.make_script.proofs.CalmLemmas.{low_clean}
use Rattle.make_script.proofs.LineLemmas.{IsLine, commit_is, counts, feed, first_node, links_1, links_2, loss_is, met, other_is, other_nodes, own_is, recovery_is, tables}

-- ---- lines, one after the other

-- each line is its command, behind those before it
AreLines : Before → List ℕ → List Line → Type 0
AreLines before front [] = Unit {0}
AreLines before front (l ∷ ls) = IsLine before front l × AreLines (with_command before l.command) feed ls

-- the commands of a text from this line on, behind those that have come
abbrev asks : ℕ → Before → List ℕ → Asked
asks n before text = asked_from n before (pieces_from Plain text).0 (pieces_from Plain text).1

-- a good command in front of others
judged_first : (n : ℕ) (before : Before) (piece : List ℕ) (pieces : List (List ℕ)) (rest : List ℕ) (c : Command) (cs : List Command) → judged before piece ≡ Ok c
    → ((m : ℕ) → asked_from m (with_command before c) pieces rest ≡ Ok cs) → asked_from n before (piece ∷ pieces) rest ≡ Ok (c ∷ cs)
judged_first n before piece pieces rest c cs good more = rw (good, more (n + line_ends piece)) refl

-- a line in front of others
line_first : (n : ℕ) (before : Before) (front : List ℕ) (l : Line) (ls : List Line) → IsLine before front l
    → ((m : ℕ) → asks m (with_command before l.command) (feed ++ text_of ls) ≡ Ok (map command_of ls)) → asks n before (front ++ text_of (l ∷ ls)) ≡ Ok (l.command ∷ map command_of ls)
line_first n before front l ls is more =
    let text : l.text ++ (59 ∷ (feed ++ text_of ls)) ≡ text_of (l ∷ ls) = sym (append_assoc l.text (59 ∷ feed) (text_of ls)) in
    let cut = ap (λ (t : List ℕ). pieces_from Plain (front ++ t)) (sym text) ∙ is.cut (feed ++ text_of ls) in
    subst (λ (x : List (List ℕ) × List ℕ). asked_from n before x.0 x.1 ≡ Ok (l.command ∷ map command_of ls)) (sym cut)
    (judged_first n before (front ++ l.text) (pieces_from Plain (feed ++ text_of ls)).0 (pieces_from Plain (feed ++ text_of ls)).1 l.command (map command_of ls) is.good more)

-- nothing stands behind the last line
nothing_behind : (n : ℕ) (before : Before) → asks n before feed ≡ Ok []
unfolding asked_at_end
nothing_behind n before = rw (low_clean feed refl refl) refl

behind_feed : (ls : List Line) (n : ℕ) (before : Before) → AreLines before feed ls → asks n before (feed ++ text_of ls) ≡ Ok (map command_of ls)
unfolding AreLines
behind_feed [] n before h = nothing_behind n before
behind_feed (l ∷ ls) n before h = line_first n before feed l ls h.0 (λ m. behind_feed ls m (with_command before l.command) h.1)

-- ---- what is drawn

-- a transaction between two of the four nodes, with small numbers
pub record IsFit (t : Transaction) : Type 0 where
  pub root_least : 1 ≤ t.root
  pub root_most : t.root ≤ 4
  pub other_least : 1 ≤ t.other
  pub other_most : t.other ≤ 4
  pub number : t.number < 2 ^ 63
  pub value : t.value < 2 ^ 63

other_fits : (root place : ℕ) → 1 ≤ place → place ≤ 3 → (1 ≤ other_node root place) × (other_node root place ≤ 4)
other_fits root place low high = by (nat_lt place root)
  where
    by : (b : Bool) → (1 ≤ cond b place (place + 1)) × (cond b place (place + 1) ≤ 4)
    by true = (omega arith, omega arith)
    by false = (omega arith, omega arith)

drawn_fits : (count x : ℕ) → count < 500 → IsFit (drawn_after (count + 1) x)
drawn_fits count x few =
    let root : ℕ = 1 + next_draw x % 4 in
    let place : ℕ = 1 + next_draw (next_draw x) % 3 in
    let other = other_fits root place (omega arith) (omega arith) in
    record {
      root_least = omega arith;
      root_most = omega arith;
      other_least = other.0;
      other_most = other.1;
      number = omega arith;
      value = omega arith;
    }

all_snoc : (P : Transaction → Type 0) (ts : List Transaction) (t : Transaction) → AllByRecursion P ts → P t → AllByRecursion P (ts ++ (t ∷ []))
all_snoc P [] t all p = (p, tt)
all_snoc P (u ∷ ts) t all p = (all.0, all_snoc P ts t all.1 p)

pub all_fit : (number count : ℕ) → count ≤ 500 → AllByRecursion IsFit (transactions number count)
all_fit number zero few = tt
all_fit number (suc count) few = all_snoc IsFit (transactions number count) _ (all_fit number count (omega arith)) (drawn_fits count (last_draw number count) (omega arith))

-- ---- the transactions

max_fits : (a b : ℕ) → 1 ≤ a → a ≤ 4 → b ≤ 4 → (1 ≤ max a b) × (max a b ≤ 4)
max_fits a b low high most = (omega arith, omega arith)

min_fits : (a b : ℕ) → 1 ≤ a → a ≤ 4 → 1 ≤ b → (1 ≤ min a b) × (min a b ≤ 4)
min_fits a b low high least = (omega arith, omega arith)

ends_are : (b : Bool) (t : Transaction) → IsFit t → (more : List Line) → AreLines met feed more → AreLines met feed (end_lines b t ++ more)
unfolding AreLines
ends_are true t fit more h =
    let high = max_fits t.root t.other fit.root_least fit.root_most fit.other_most in
    let low = min_fits t.root t.other fit.root_least fit.root_most fit.other_least in
    (loss_is _ _ high.0 high.1 low.0 low.1, (commit_is t.root fit.root_least fit.root_most, (recovery_is _ low.0 low.1, h)))
ends_are false t fit more h = (commit_is t.root fit.root_least fit.root_most, h)

transaction_is : (t : Transaction) → IsFit t → (more : List Line) → AreLines met feed more → AreLines met feed (lines_of t ++ more)
unfolding AreLines
transaction_is t fit more h = (
  own_is t.root t.number t.value fit.root_least fit.root_most fit.number fit.value,
  (other_is t.root t.other t.number t.value fit.root_least fit.root_most fit.other_least fit.other_most fit.number fit.value, ends_are (loses t) t fit more h),
)

transactions_are : (ts : List Transaction) → AllByRecursion IsFit ts → (more : List Line) → AreLines met feed more → AreLines met feed (flat_map lines_of ts ++ more)
transactions_are [] all more h = h
transactions_are (t ∷ ts) all more h =
    subst (AreLines met feed) (sym (append_assoc (lines_of t) (flat_map lines_of ts) more))
    (transaction_is t all.0 (flat_map lines_of ts ++ more) (transactions_are ts all.1 more h))

-- ---- the script

last_are : AreLines met feed last_lines
unfolding AreLines
last_are = (counts.0, (counts.1, (counts.2, (counts.3, tt))))

-- the lines behind the first
abbrev others : ℕ → List Line
others number = flat_map lines_of (transactions number transaction_count) ++ last_lines

first_are : (more : List Line) → AreLines met feed more → AreLines nothing_before [] (first_lines ++ more)
unfolding AreLines
first_are more h = (
  first_node,
  (
    other_nodes.0,
    (
      other_nodes.1,
      (
        other_nodes.2,
        (
          tables.0,
          (
            tables.1,
            (
              tables.2,
              (
                tables.3,
                (
                  links_1.0,
                  (
                    links_1.1,
                    (
                      links_1.2,
                      (
                        links_1.3,
                        (
                          links_1.4,
                          (
                            links_1.5,
                            (links_2.0, (links_2.1, (links_2.2, (links_2.3, (links_2.4, (links_2.5, h)))))),
                          ),
                        ),
                      ),
                    ),
                  ),
                ),
              ),
            ),
          ),
        ),
      ),
    ),
  ),
)

-- a script whose lines are good
script_is : (l : Line) (ls : List Line) → AreLines nothing_before [] (l ∷ ls) → asked (text_of (l ∷ ls)) ≡ Ok (map command_of (l ∷ ls))
unfolding AreLines
script_is l ls h = line_first 1 nothing_before [] l ls h.0 (λ m. behind_feed ls m (with_command nothing_before l.command) h.1)

pub is_read : IsRead
unfolding lines
is_read number = script_is _ _ (first_are (others number) (transactions_are (transactions number transaction_count) (all_fit number transaction_count (omega arith)) last_lines last_are))
