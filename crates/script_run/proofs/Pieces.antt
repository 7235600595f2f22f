-- A text that is written piece by piece: where the sink fails, a front of the text is written.
use Rattle.std.proofs.Common.{ℕ, ◌+◌, List, ◌++◌, Option, length, Result, Ok, Err, sym, subst, arith, length-append}
use Rattle.std.specs.Prelude.{OnErr}
use Rattle.std.proofs.Math.Seq.{take-append-le, take-append-add}
use Rattle.std.specs.Io.KnownBytes.{Appends}
use Rattle.std.proofs.KnownBytes.{Appends-trans}
use Rattle.dtx_ports.specs.Whole.{AppendsPrefix}

-- a front of the first piece
pub cut_in : (a b : Option (List ℕ)) (p q : List ℕ) → AppendsPrefix a b p → AppendsPrefix a b (p ++ q)
cut_in a b p q cut = (cut.0, omega (arith, cut.1, length-append p q), subst (Appends a b) (sym (take-append-le cut.0 p q cut.1)) cut.2)

-- or that piece, and a front of the others
pub cut_behind : (a b c : Option (List ℕ)) (p q : List ℕ) → Appends a b p → AppendsPrefix b c q → AppendsPrefix a c (p ++ q)
cut_behind a b c p q whole cut =
    (length p + cut.0, omega (arith, cut.1, length-append p q), subst (Appends a c) (sym (take-append-add p q cut.0)) (Appends-trans a b c p _ whole cut.2))

-- at an error
pub on_err : {T E P : Type 0} (r : Result T E) → P → OnErr r P
on_err (Ok x) p = tt
on_err (Err e) p = p

pub err_as : {T E P Q : Type 0} (r : Result T E) → OnErr r P → (P → Q) → OnErr r Q
err_as (Ok x) p f = tt
err_as (Err e) p f = f p
