-- Wherever the sink fails, a front of the line is written.
use Rattle.std.proofs.Common.{ℕ, List, ◌++◌, Option, subst}
use Rattle.std.specs.Prelude.{codes}
use Rattle.std.specs.Io.KnownBytes.{Appends}
use Rattle.std.proofs.KnownBytes.{Appends-trans}
use Rattle.dtx_ports.specs.Whole.{AppendsPrefix}
use Rattle.tran_ids.specs.Numbers.{decimal}
use Rattle.script_read.specs.declared.why.Why.{Why}
use Rattle.script_run.specs.Ending.{refusal_line, why_text as text_of}
use Rattle.script_run.proofs.Pieces.{cut_in, cut_behind, on_err, err_as}
use Rattle.script_run.proofs.refusing.write_refusal.Goals as goal

-- the front of the line that ends with its number, and with the colon
abbrev to_number : ℕ → List ℕ
to_number line = codes "line " ++ decimal line

abbrev to_colon : ℕ → List ℕ
to_colon line = to_number line ++ codes ": "

-- what is written of either is written of the line
in_colon : (a b : Option (List ℕ)) (line : ℕ) (why : Why) → AppendsPrefix a b (to_colon line) → AppendsPrefix a b (refusal_line line why)
in_colon a b line why cut = cut_in a b (to_colon line ++ text_of why) (codes "\n") (cut_in a b (to_colon line) (text_of why) cut)

in_number : (a b : Option (List ℕ)) (line : ℕ) (why : Why) → AppendsPrefix a b (to_number line) → AppendsPrefix a b (refusal_line line why)
in_number a b line why cut = in_colon a b line why (cut_in a b (to_number line) (codes ": ") cut)

-- the number and the colon behind what stands before them
number_behind : (a b c : Option (List ℕ)) (line : ℕ) → Appends a b (codes "line ") → Appends b c (decimal line) → Appends a c (to_number line)
number_behind a b c line word number = Appends-trans a b c (codes "line ") (decimal line) word number

colon_behind : (a b c d : Option (List ℕ)) (line : ℕ) → Appends a b (codes "line ") → Appends b c (decimal line) → Appends c d (codes ": ") → Appends a d (to_colon line)
colon_behind a b c d line word number colon = Appends-trans a c d (to_number line) (codes ": ") (number_behind a b c line word number) colon

pub returns-in_err-write_whole-clause-err : goal.returns-in_err-write_whole-clause-err
returns-in_err-write_whole-clause-err g c =
    on_err c.from_residual.result (in_number _ _ c.args.line c.args.why (cut_in _ _ (codes "line ") (decimal c.args.line) c.in_err-write_whole.ensures.err))

pub returns-in_err-write_decimal-clause-err : goal.returns-in_err-write_decimal-clause-err
returns-in_err-write_decimal-clause-err g c =
    on_err c.from_residual-in_err-write_decimal.result
    (in_number _ _ c.args.line c.args.why (cut_behind _ _ _ (codes "line ") (decimal c.args.line) c.in_ok-write_whole.ensures.ok c.in_err-write_decimal.ensures.err))

pub returns-in_err-write_whole-2-clause-err : goal.returns-in_err-write_whole-2-clause-err
returns-in_err-write_whole-2-clause-err g c =
    let number = number_behind _ _ _ c.args.line c.in_ok-write_whole.ensures.ok c.in_ok-write_decimal.ensures.ok in
    on_err c.from_residual-in_err-write_whole-2.result
    (in_colon _ _ c.args.line c.args.why (cut_behind _ _ _ (to_number c.args.line) (codes ": ") number c.in_err-write_whole-2.ensures.err))

pub returns-in_err-write_whole-3-clause-err : goal.returns-in_err-write_whole-3-clause-err
returns-in_err-write_whole-3-clause-err g c =
    let line = c.args.line in
    let why = c.args.why in
    let colon = colon_behind _ _ _ _ line c.in_ok-write_whole.ensures.ok c.in_ok-write_decimal.ensures.ok c.in_ok-write_whole-2.ensures.ok in
    let reason : AppendsPrefix _ _ (text_of why) = subst (AppendsPrefix _ _) c.why_text.ensures c.in_err-write_whole-3.ensures.err in
    on_err c.from_residual-in_err-write_whole-3.result
    (cut_in _ _ (to_colon line ++ text_of why) (codes "\n") (cut_behind _ _ _ (to_colon line) (text_of why) colon reason))

pub returns-clause-err : goal.returns-clause-err
returns-clause-err g c =
    let line = c.args.line in
    let why = c.args.why in
    let colon = colon_behind _ _ _ _ line c.in_ok-write_whole.ensures.ok c.in_ok-write_decimal.ensures.ok c.in_ok-write_whole-2.ensures.ok in
    let reason : Appends _ _ (text_of why) = subst (Appends _ _) c.why_text.ensures c.in_ok-write_whole-3.ensures.ok in
    err_as c.write_whole-4.result c.write_whole-4.ensures.err
    (cut_behind _ _ _ (to_colon line ++ text_of why) (codes "\n") (Appends-trans _ _ _ (to_colon line) (text_of why) colon reason))
