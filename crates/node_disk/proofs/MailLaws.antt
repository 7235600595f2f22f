-- Messages that are short enough for their counts.
use Rattle.std.proofs.Common.{◌≡◌, ◌<◌, ◌≤◌, ◌^◌, ℕ, true, false, List, [], ◌∷◌, ◌++◌, length, refl, sym, ◌∙◌, arith}
use Rattle.std.specs.Prelude.{nat_lt}
use Rattle.std.specs.List.{All, AllByRecursion, list_all}
use Rattle.std.proofs.lemmas.Bool.{and_parts}
use Rattle.std.proofs.lemmas.List.Elements.{All-nil, All-cons, All-head, All-tail}
use Rattle.std.proofs.lemmas.Bool.Decides.{nat_tests}
use Rattle.dtx_values.specs.declared.row.Row.{Row}
use Rattle.field_codec.specs.Fits.{HasCount}
use Rattle.field_codec.specs.Text.{utf8_format}
use Rattle.msg_codec.specs.Answer.{texts_format}
use Rattle.node_disk.specs.declared.effects.Mailed.{Mailed}
use Rattle.node_disk.specs.Effects.{IsMailed}
use Rattle.node_disk.specs.Spellable.{IsUtf8}

each_text : (texts : List (List ℕ)) → AllByRecursion IsUtf8 texts → list_all (λ text. nat_lt (length text) 65536) texts ≡ true → AllByRecursion utf8_format.Fits texts
each_text [] all short = tt
each_text (t ∷ ts) all short =
    let parts = and_parts (nat_lt (length t) 65536) (list_all (λ text. nat_lt (length text) 65536) ts) short in
    ((grind (arith, nat_tests, parts.0), all.0), each_text ts all.1 parts.1)

pub texts_so : (texts : List (List ℕ)) → AllByRecursion IsUtf8 texts → length texts ≤ 4294967295 → list_all (λ text. nat_lt (length text) 65536) texts ≡ true → texts_format.Fits texts
texts_so texts all few short = (omega (arith, few), each_text texts all short)

-- texts that fit are few and short
each_short : (texts : List (List ℕ)) → AllByRecursion utf8_format.Fits texts → list_all (λ text. nat_lt (length text) 65536) texts ≡ true
each_short [] all = refl
each_short (t ∷ ts) all = grind (arith, nat_tests, all.0.0, each_short ts all.1)

pub texts_many : (texts : List (List ℕ)) → 4294967295 < length texts → texts_format.Fits texts → ⊥
texts_many texts many fits = omega (arith, many, fits.0)

pub texts_long : (texts : List (List ℕ)) → list_all (λ text. nat_lt (length text) 65536) texts ≡ false → texts_format.Fits texts → ⊥
texts_long texts long fits = let both : true ≡ false = sym (each_short texts fits.1) ∙ long in absurd cc

pub rows_so : (rows : List Row) → list_all (λ row. nat_lt (length row.cells) 256) rows ≡ true → All HasCount rows
rows_so [] narrow = All-nil HasCount
rows_so (r ∷ rs) narrow =
    let parts = and_parts (nat_lt (length r.cells) 256) (list_all (λ row. nat_lt (length row.cells) 256) rs) narrow in
    All-cons HasCount r rs (grind (arith, nat_tests, parts.0)) (rows_so rs parts.1)

-- rows that fit are narrow
each_narrow : (rows : List Row) → All HasCount rows → list_all (λ row. nat_lt (length row.cells) 256) rows ≡ true
each_narrow [] all = refl
each_narrow (r ∷ rs) all = grind (arith, nat_tests, All-head HasCount r rs all, each_narrow rs (All-tail HasCount r rs all))

pub rows_wide : (rows : List Row) → list_all (λ row. nat_lt (length row.cells) 256) rows ≡ false → length rows < 2 ^ 32 → All HasCount rows → ⊥
rows_wide rows wide few narrow = let both : true ≡ false = sym (each_narrow rows narrow) ∙ wide in absurd cc

pub mailed_last : (sent : List Mailed) (mail : Mailed) → AllByRecursion IsMailed sent → IsMailed mail → AllByRecursion IsMailed (sent ++ mail ∷ [])
mailed_last [] mail all last = (last, tt)
mailed_last (m ∷ ms) mail all last = (all.0, mailed_last ms mail all.1 last)
