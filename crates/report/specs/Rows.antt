-- How rows are printed. The layout is dtx's own; the line after the rows is that of SQL*Plus.
use Rattle.std.specs.Prelude.{ℕ, ◌==◌, if◌then◌else◌, List, [], ◌∷◌, ◌++◌, map, flat_map, length, codes}
use Rattle.dtx_values.specs.declared.row.Row.{Row}
use Rattle.dtx_values.specs.declared.answer.RowSet.{RowSet}
use Rattle.dtx_values.specs.Texts.{text_of_value}
use Rattle.tran_ids.specs.Numbers.{decimal}

-- cells, with a bar between each two
abbrev pub bars : List (List ℕ) → List ℕ
bars [] = []
bars (cell ∷ cells) = cell ++ flat_map (λ next. codes "|" ++ next) cells

-- a row, each cell as its value is written in a statement
abbrev pub row_text : Row → List ℕ
row_text row = bars (map text_of_value row.cells)

-- a number of rows, and what was done with them
abbrev pub counted : ℕ → List ℕ → List ℕ
counted n what = decimal n ++ (if n == 1 then codes " row " else codes " rows ") ++ what

-- the head, the rows and their number, or that there is none
abbrev pub view_lines : List ℕ → List (List ℕ) → List (List ℕ)
view_lines head rows =
    if length rows == 0 then codes "no rows selected" ∷ []
    else head ∷ rows ++ counted (length rows) (codes "selected.") ∷ []

-- what a query found
abbrev pub rows_text : RowSet → List (List ℕ)
rows_text found = view_lines (bars found.heads) (map row_text found.rows)
