-- How a script is cut into commands, and what a command says outside its comments.
use Rattle.std.specs.Prelude.{ℕ, ◌+◌, ◌==◌, ◌&&◌, ◌||◌, nat_eq, nat_lt, Bool, true, false, not, List, [], ◌∷◌, codes, if◌then◌else◌, count_by, take_while, take, min}
use Rattle.std.specs.List.{starts_with, list_all, prefix_len}
use Rattle.std.specs.Str.{is_utf8}
use Rattle.std.specs.Str.Lossy.{utf8_valid_len}
use Rattle.token_grammar.specs.Bytes.{is_blank, is_quote}
use Rattle.script_read.specs.declared.part.Part.{Part}
use Rattle.script_read.specs.declared.part.Part.TheVariants.{Plain, Quoted, Comment}

-- ---- Quotes and comments.

-- the byte that ends a line
abbrev pub is_line_feed : ℕ → Bool
is_line_feed b = b == 10

-- the byte that ends a command
abbrev pub is_semicolon : ℕ → Bool
is_semicolon b = b == 59

-- two dashes, which begin a comment outside quotes
abbrev pub begins_comment : List ℕ → Bool
begins_comment bytes = starts_with nat_eq bytes (codes "--")

-- The part in which a text goes on behind a byte, which these bytes follow. A quote begins a quoted text and two dashes
-- a comment; the next quote ends the one, and the end of the line the other.
abbrev pub part_behind : Part → ℕ → List ℕ → Part
part_behind Plain b bs = if is_quote b then Quoted else (if begins_comment (b ∷ bs) then Comment else Plain)
part_behind Quoted b bs = if is_quote b then Plain else Quoted
part_behind Comment b bs = if is_line_feed b then Plain else Comment

-- a byte that may end a command that goes on in this part, or the part
abbrev pub may_end : Part → ℕ → Bool
may_end Plain b = is_quote b || b == 45 || is_semicolon b
may_end Quoted b = is_quote b
may_end Comment b = is_line_feed b

-- outside quotes and comments
abbrev pub is_plain : Part → Bool
is_plain Plain = true
is_plain Quoted = false
is_plain Comment = false

-- in a comment
abbrev pub is_comment : Part → Bool
is_comment Plain = false
is_comment Quoted = false
is_comment Comment = true

-- in quotes
abbrev pub is_quoted : Part → Bool
is_quoted Plain = false
is_quoted Quoted = true
is_quoted Comment = false

-- ---- Commands.

-- a byte in front of the first command, or of the rest where no command ends
abbrev pub with_byte : ℕ → List (List ℕ) × List ℕ → List (List ℕ) × List ℕ
with_byte b ([], rest) = ([], b ∷ rest)
with_byte b (piece ∷ pieces, rest) = ((b ∷ piece) ∷ pieces, rest)

-- an empty command in front of the others
abbrev pub with_end : List (List ℕ) × List ℕ → List (List ℕ) × List ℕ
with_end x = ([] ∷ x.0, x.1)

-- the bytes of each command up to its `;`, and what stands behind the last `;`, of a text that goes on in this part
abbrev pub pieces_from : Part → List ℕ → List (List ℕ) × List ℕ
pieces_from part [] = ([], [])
pieces_from part (b ∷ bs) =
    if is_plain part && is_semicolon b then with_end (pieces_from Plain bs)
    else with_byte b (pieces_from (part_behind part b bs) bs)

-- the commands of a script, and what stands behind the last
abbrev pub pieces_of : List ℕ → List (List ℕ) × List ℕ
pieces_of bytes = pieces_from Plain bytes

-- a byte in front of a text, unless the text goes on in a comment behind it
abbrev pub kept_before : Part → ℕ → List ℕ → List ℕ
kept_before part b bs = if is_comment part then bs else b ∷ bs

-- a text without its comments, each of which ends before its line feed
abbrev pub outside_comments : Part → List ℕ → List ℕ
outside_comments part [] = []
outside_comments part (b ∷ bs) = kept_before (part_behind part b bs) b (outside_comments (part_behind part b bs) bs)

-- what a command says: its bytes without its comments
abbrev pub said : List ℕ → List ℕ
said piece = outside_comments Plain piece

-- ---- Bytes that may not stand.

-- 00 to 1F and 7F
abbrev pub is_control : ℕ → Bool
is_control b = nat_lt b 32 || b == 127

-- tab, line feed and carriage return stand outside quotes, and no other control byte anywhere
abbrev pub may_stand : Part → ℕ → Bool
may_stand part b = not (is_control b) || (is_blank b && not (is_quoted part))

-- each byte may stand where it does
abbrev pub all_may_stand : Part → List ℕ → Bool
all_may_stand part [] = true
all_may_stand part (b ∷ bs) = may_stand part b && all_may_stand (part_behind part b bs) bs

-- UTF-8, with no control byte where it may not stand
abbrev pub is_clean : List ℕ → Bool
is_clean piece = is_utf8 piece && all_may_stand Plain piece

-- ---- Lines.

-- how many lines end in these bytes
abbrev pub line_ends : List ℕ → ℕ
line_ends bytes = count_by is_line_feed bytes

-- the line of the first byte that is no blank and no comment, of a command on this line and those after it; or that of its end
abbrev pub begins : ℕ → List ℕ → ℕ
begins line piece = line + line_ends (take_while is_blank (said piece))

-- there is nothing but blanks and comments
abbrev pub is_empty : List ℕ → Bool
is_empty piece = list_all is_blank (said piece)

-- how many bytes stand before the first that is not UTF-8, or a control byte that may not stand in a comment
abbrev pub good_len : List ℕ → ℕ
good_len bytes = min (utf8_valid_len bytes) (prefix_len (may_stand Comment) bytes)

-- the line of the first bad byte, among blanks and comments on this line and those after it
abbrev pub first_unclean : ℕ → List ℕ → ℕ
first_unclean line bytes = line + line_ends (take (good_len bytes) bytes)
