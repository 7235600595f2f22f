-- The lines of rows, one row more.
use Rattle.std.proofs.Common.{ℕ, ◌≡◌, ◌+◌, ◌-◌, ◌<◌, ◌++◌, List, suc, ap, sym, ◌∙◌, arith, append_assoc}
use Rattle.chart_text.specs.Data.{Marks}
use Rattle.chart_text.specs.declared.window.Window.{Window}
use Rattle.chart_text.specs.Plain.{row_lines, lines_from}

-- the lines from a row on begin with those of the row
lines_more : (w : Window) (m : Marks) (row b : ℕ) → row < b → lines_from w m row (b - row) ≡ row_lines w m row ++ lines_from w m (row + 1) (b - (row + 1))
lines_more w m row b lt =
    let count : b - row ≡ suc (b - (row + 1)) = omega arith in
    ap (λ n. lines_from w m row n) count

-- what was added, and what the rows to come add, is the same behind one more row
pub lines_step : (w : Window) (m : Marks) (row b : ℕ) (out more all : List ℕ) → row < b → more ≡ out ++ row_lines w m row
    → out ++ lines_from w m row (b - row) ≡ all → more ++ lines_from w m (row + 1) (b - (row + 1)) ≡ all
lines_step w m row b out more all lt added so_far =
    ap (λ (bs : List ℕ). bs ++ lines_from w m (row + 1) (b - (row + 1))) added
    ∙ (append_assoc out (row_lines w m row) (lines_from w m (row + 1) (b - (row + 1)))
    ∙ (ap (λ (bs : List ℕ). out ++ bs) (sym (lines_more w m row b lt)) ∙ so_far))
