-- Marks, told apart by a number each.
use Rattle.std.specs.Prelude.{ℕ, Bool, ◌==◌}
use Rattle.token_grammar.specs.declared.mark.Mark.{Mark}
use Rattle.token_grammar.specs.declared.mark.Mark.TheVariants as mark

-- a number for each mark
abbrev pub rank : Mark → ℕ
rank mark.Open = 0
rank mark.Close = 1
rank mark.Comma = 2
rank mark.Star = 3
rank mark.At = 4
rank mark.Plus = 5
rank mark.Minus = 6
rank mark.Equal = 7
rank mark.Unequal = 8
rank mark.Below = 9
rank mark.AtMost = 10
rank mark.Above = 11
rank mark.AtLeast = 12
rank mark.Colon = 13

-- whether two marks are one
abbrev pub is_same : Mark → Mark → Bool
is_same a b = rank a == rank b
