-- A made script is within the limit of a script.
use Rattle.std.proofs.Common.{◌≡◌, ◌∙◌, ℕ, zero, suc, ◌+◌, ◌*◌, ◌<◌, ◌≤◌, ◌^◌, Bool, true, false, List, [], ◌∷◌, ◌++◌, length, refl, ap, arith}
use Rattle.std.specs.Prelude.{codes, decimal, max, min}
use Rattle.std.specs.List.{AllByRecursion, flat_map}
use Rattle.std.proofs.lemmas.Fmt.{length-decimal-le}
use Rattle.std.proofs.lemmas.List.{length-append}
use Rattle.std.proofs.lemmas.List.Concat.{flat_map-append}
use Rattle.dtx_values.specs.Limits.{script_limit}
use Rattle.make_script.specs.declared.transaction.Transaction.{Transaction}
use Rattle.make_script.specs.Draws.{drawn_after, last_draw, transactions}
use Rattle.make_script.specs.Script.{Line, commit_line, digit, end_lines, first_lines, last_lines, line_text, lines, lines_of, loses, loss_line, other_row, own_row, recovery_line, script_of, text_of, transaction_count, values_text}
use Rattle.make_script.specs.Read.{ScriptsAreWithin}
use Rattle.make_script.proofs.ScriptLemmas.{IsFit, all_fit}

decimal_short : (n : ℕ) → n < 2 ^ 64 → length (decimal n) ≤ 20
decimal_short n small = length-decimal-le 20 n (omega arith) (omega arith) small

-- a line of at most so many bytes
abbrev IsShort : ℕ → Line → Type 0
IsShort most l = length (line_text l) ≤ most

values_short : (n v : ℕ) → n < 2 ^ 64 → v < 2 ^ 64 → length (values_text n v) ≤ 60
values_short n v p q =
    omega (arith, length-append (decimal n) (codes ", " ++ (decimal v ++ codes ")")), length-append (decimal v) (codes ")"), decimal_short n p, decimal_short v q)

-- a call: its begin has at most 36 bytes
call_short : (n most : ℕ) (text : List ℕ) → n < 2 ^ 64 → length text ≤ most → length ((codes "AT N" ++ (digit n ++ (codes " SESSION 1: " ++ text))) ++ codes ";\n") ≤ most + 38
call_short n most text small short =
    omega (arith, short, length-append (codes "AT N" ++ (digit n ++ (codes " SESSION 1: " ++ text))) (codes ";\n"))

own_short : (root n v : ℕ) → root < 2 ^ 64 → n < 2 ^ 64 → v < 2 ^ 64 → IsShort 120 (own_row root n v)
own_short root n v small p q =
    let text : length (codes "INSERT INTO T" ++ values_text n v) ≤ 73 = omega (arith, values_short n v p q) in
    let all = call_short root 73 (codes "INSERT INTO T" ++ values_text n v) small text in
    omega (arith, all)

other_short : (root other n v : ℕ) → root < 2 ^ 64 → other < 2 ^ 64 → n < 2 ^ 64 → v < 2 ^ 64 → IsShort 140 (other_row root other n v)
other_short root other n v small little p q =
    let text : length (codes "INSERT INTO T@L" ++ (digit other ++ values_text n v)) ≤ 95 = omega (arith, values_short n v p q) in
    let all = call_short root 95 (codes "INSERT INTO T@L" ++ (digit other ++ values_text n v)) small text in
    omega (arith, all)

commit_short : (n : ℕ) → n < 2 ^ 64 → IsShort 50 (commit_line n)
commit_short n small = let all = call_short n 6 (codes "COMMIT") small (omega arith) in omega (arith, all)

loss_short : (from to : ℕ) → from < 2 ^ 64 → to < 2 ^ 64 → IsShort 80 (loss_line from to)
loss_short from to p q =
    omega (arith, length-append (codes "LOSE NEXT COMMITTED FROM N" ++ (digit from ++ (codes " TO N" ++ digit to))) (codes ";\n"))

recovery_short : (n : ℕ) → n < 2 ^ 64 → IsShort 30 (recovery_line n)
recovery_short n small = omega (arith, length-append (codes "RECO N" ++ digit n) (codes ";\n"))

two_long : (l : Line) (ls : List Line) → length (text_of (l ∷ ls)) ≡ length (line_text l) + length (text_of ls)
two_long l ls = length-append (line_text l) (text_of ls)

ends_short : (b : Bool) (t : Transaction) → IsFit t → length (text_of (end_lines b t)) ≤ 160
ends_short true t fit =
    let loss = loss_short (max t.root t.other) (min t.root t.other) (omega (arith, fit.root_most, fit.other_most)) (omega (arith, fit.root_most)) in
    let commit = commit_short t.root (omega (arith, fit.root_most)) in
    let recovery = recovery_short (min t.root t.other) (omega (arith, fit.root_most)) in
    omega (
      arith,
      loss,
      commit,
      recovery,
      two_long (loss_line (max t.root t.other) (min t.root t.other)) (commit_line t.root ∷ recovery_line (min t.root t.other) ∷ []),
      two_long (commit_line t.root) (recovery_line (min t.root t.other) ∷ []),
      two_long (recovery_line (min t.root t.other)) [],
    )
ends_short false t fit = let commit = commit_short t.root (omega (arith, fit.root_most)) in omega (arith, commit, two_long (commit_line t.root) [])

transaction_short : (t : Transaction) → IsFit t → length (text_of (lines_of t)) ≤ 420
transaction_short t fit =
    let own = own_short t.root t.number t.value (omega (arith, fit.root_most)) (omega (arith, fit.number)) (omega (arith, fit.value)) in
    let other = other_short t.root t.other t.number t.value (omega (arith, fit.root_most)) (omega (arith, fit.other_most)) (omega (arith, fit.number)) (omega (arith, fit.value)) in
    omega (
      arith,
      own,
      other,
      ends_short (loses t) t fit,
      two_long (own_row t.root t.number t.value) (other_row t.root t.other t.number t.value ∷ end_lines (loses t) t),
      two_long (other_row t.root t.other t.number t.value) (end_lines (loses t) t),
    )

lines_long : (xs ys : List Line) → length (text_of (xs ++ ys)) ≡ length (text_of xs) + length (text_of ys)
lines_long xs ys = ap length (flat_map-append line_text xs ys) ∙ length-append (text_of xs) (text_of ys)

all_short : (ts : List Transaction) → AllByRecursion IsFit ts → length (text_of (flat_map lines_of ts)) ≤ 420 * length ts
all_short [] all = omega arith
all_short (t ∷ ts) all =
    omega (arith, lines_long (lines_of t) (flat_map lines_of ts), transaction_short t all.0, all_short ts all.1)

counted : (number count : ℕ) → length (transactions number count) ≡ count
counted number zero = refl
counted number (suc count) =
    let more = length-append (transactions number count) (drawn_after (count + 1) (last_draw number count) ∷ []) in
    omega (arith, more, counted number count)

first_long : length (text_of first_lines) ≡ 984
first_long = refl

last_long : length (text_of last_lines) ≡ 164
last_long = refl

pub is_within : ScriptsAreWithin
unfolding lines
is_within number =
    let ts = transactions number transaction_count in
    omega (
      arith,
      lines_long first_lines (flat_map lines_of ts ++ last_lines),
      lines_long (flat_map lines_of ts) last_lines,
      first_long,
      last_long,
      all_short ts (all_fit number transaction_count (omega arith)),
      counted number transaction_count,
    )
