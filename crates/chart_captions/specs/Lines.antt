-- How a text is broken into lines: between words, and inside a word only where no line can hold it.
use Rattle.std.specs.Prelude.{ℕ, Bool, ◌+◌, ◌==◌, ◌||◌, if◌then◌else◌, nat_le, List, [], ◌∷◌, ◌++◌, length}

-- the most bytes of a line
abbrev pub line_width : ℕ
line_width = 58

-- what ends a word: a blank, or the bar between cells
abbrev pub ends_word : ℕ → Bool
ends_word b = b == 32 || b == 124

-- a text that is broken so far: the lines that are full, the line that is begun, and the word that is begun
pub record Broken : Type 0 where
  pub lines : List (List ℕ)
  pub line : List ℕ
  pub word : List ℕ

-- nothing so far
abbrev pub nothing_broken : Broken
nothing_broken = record { lines = []; line = []; word = [] }

-- a word that no line can hold: it goes on where the line is, and is broken wherever a line is full
abbrev pub with_cut : List (List ℕ) → List ℕ → List ℕ → Broken
with_cut lines line [] = record { lines = lines; line = line; word = [] }
with_cut lines line (b ∷ word) =
    if length line == line_width then with_cut (lines ++ line ∷ []) (b ∷ []) word else with_cut lines (line ++ b ∷ []) word

-- a word: on the line where it fits, else on the next one, where a line can hold it
abbrev pub with_word : List (List ℕ) → List ℕ → List ℕ → Broken
with_word lines line word =
    if nat_le (length line + length word) line_width then record { lines = lines; line = line ++ word; word = [] }
    else (if nat_le (length word) line_width then record { lines = lines ++ line ∷ []; line = word; word = [] }
    else with_cut lines line word)

-- one byte more
abbrev pub with_byte : Broken → ℕ → Broken
with_byte t b =
    if ends_word b then with_word t.lines t.line (t.word ++ b ∷ []) else record { lines = t.lines; line = t.line; word = t.word ++ b ∷ [] }

-- the lines of a text whose last word is on its line
abbrev pub lines_of : Broken → List (List ℕ)
lines_of t = t.lines ++ t.line ∷ []

-- the lines of a text that goes on with these bytes
abbrev pub broken_on : Broken → List ℕ → List (List ℕ)
broken_on t [] = lines_of (with_word t.lines t.line t.word)
broken_on t (b ∷ bs) = broken_on (with_byte t b) bs

-- a text in lines
abbrev pub in_lines : List ℕ → List (List ℕ)
in_lines text = broken_on nothing_broken text
