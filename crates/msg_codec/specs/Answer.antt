-- Answers as bytes.
--
--   answer  = 1, done, a number of four bytes; or 2, heads, rows; or 3, a code of two bytes, arguments
--   done    = 1 for rows that were created, 2 for updated, 3 for deleted; or 4 for a branch that went back, with the number 0
--   heads, rows, arguments = a count of four bytes, and so many; heads and arguments are texts of UTF-8
use Rattle.std.specs.Prelude.{ℕ, ◌==◌, Bool, true, List, Option, Some, None, ⊤}
use Rattle.dtx_values.specs.declared.answer.Done.{Done}
use Rattle.dtx_values.specs.declared.answer.Done.TheVariants as dones
use Rattle.dtx_values.specs.declared.answer.RowSet.{RowSet}
use Rattle.dtx_values.specs.declared.answer.Refusal.{Refusal}
use Rattle.dtx_values.specs.declared.answer.Answer.{Answer}
use Rattle.dtx_values.specs.declared.answer.Answer.TheVariants as answers
use Rattle.byte_format.specs.Format.{Format}
use Rattle.byte_format.specs.Number.{empty, number16, number32}
use Rattle.byte_format.specs.Part.{pair, mapped, tested}
use Rattle.byte_format.specs.Several.{counted}
use Rattle.byte_format.specs.Choice.{choice, kind, no_kind}
use Rattle.field_codec.specs.Text.{utf8_format}
use Rattle.field_codec.specs.Value.{row_format}

-- which byte names what was done; what only the client's own node does has no spelling
abbrev pub done_kind : Done → ℕ
done_kind dones.Created = 1
done_kind dones.Updated = 2
done_kind dones.Deleted = 3
done_kind dones.RolledBack = 4
done_kind _ = 0

-- whether rows were created
abbrev pub created_of : Done → Option ⊤
created_of dones.Created = Some tt
created_of _ = None

-- whether rows were updated
abbrev pub updated_of : Done → Option ⊤
updated_of dones.Updated = Some tt
updated_of _ = None

-- whether rows were deleted
abbrev pub deleted_of : Done → Option ⊤
deleted_of dones.Deleted = Some tt
deleted_of _ = None

-- whether a branch went back
abbrev pub went_back_of : Done → Option ⊤
went_back_of dones.RolledBack = Some tt
went_back_of _ = None

-- what was done: no field, whichever it is
abbrev pub done_kinds : ℕ → Format Done
done_kinds =
    kind 1 (λ u. dones.Created) created_of empty
    (kind 2 (λ u. dones.Updated) updated_of empty
    (kind 3 (λ u. dones.Deleted) deleted_of empty
    (kind 4 (λ u. dones.RolledBack) went_back_of empty no_kind)))

-- what was done to rows
abbrev pub done_format : Format Done
done_format = choice done_kind done_kinds

-- texts after their count
abbrev pub texts_format : Format (List (List ℕ))
texts_format = counted number32 utf8_format

-- going back counts no rows
abbrev pub counts_rows : Done × ℕ → Bool
counts_rows (dones.RolledBack, n) = n == 0
counts_rows _ = true

-- what was done, and to how many rows
abbrev pub did_format : Format (Done × ℕ)
did_format = tested counts_rows (pair done_format number32)

-- what a query found: its heads, and its rows
abbrev pub found_format : Format RowSet
found_format = mapped (λ x. record { heads = x.0; rows = x.1 }) (λ f. (f.heads, f.rows)) (pair texts_format (counted number32 row_format))

-- a refusal: its code, and the arguments of its text
abbrev pub refusal_format : Format Refusal
refusal_format = mapped (λ x. record { code = x.0; args = x.1 }) (λ r. (r.code, r.args)) (pair number16 texts_format)

-- which byte names the answer
abbrev pub answer_kind : Answer → ℕ
answer_kind (answers.Did done count) = 1
answer_kind (answers.Found found) = 2
answer_kind (answers.Refused refusal) = 3

-- what was done, where the answer says so
abbrev pub did_of : Answer → Option (Done × ℕ)
did_of (answers.Did done count) = Some (done, count)
did_of _ = None

-- what was found, where the answer is of a query
abbrev pub found_of : Answer → Option RowSet
found_of (answers.Found found) = Some found
found_of _ = None

-- the refusal, where the answer is one
abbrev pub refusal_of : Answer → Option Refusal
refusal_of (answers.Refused refusal) = Some refusal
refusal_of _ = None

-- the fields of each answer
abbrev pub answer_kinds : ℕ → Format Answer
answer_kinds =
    kind 1 (λ x. answers.Did x.0 x.1) did_of did_format
    (kind 2 answers.Found found_of found_format
    (kind 3 answers.Refused refusal_of refusal_format no_kind))

-- an answer, by its kind
abbrev pub answer_format : Format Answer
answer_format = choice answer_kind answer_kinds
