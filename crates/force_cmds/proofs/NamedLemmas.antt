-- One more branch that is named, or not.
use Rattle.std.proofs.Common.{◌≡◌, ℕ, Bool, true, false, if◌then◌else◌, List, [], ◌∷◌, ◌++◌, filter, refl, ap, ◌∙◌}
use Rattle.std.proofs.lemmas.List.Elements.{filter-append}
use Rattle.redo_record.specs.declared.durable.KeptRow.{KeptRow}
use Rattle.force_cmds.specs.Named.{is_named_by, named_among, one_more}

named_more : (ss : List KeptRow) (s : KeptRow) → named_among (ss ++ s ∷ []) ≡ one_more (named_among ss) s.me
named_more [] s = refl
named_more (a ∷ []) s = refl
named_more (a ∷ b ∷ ss) s = refl

named_if : (is : Bool) (ss : List KeptRow) (s : KeptRow) → named_among (ss ++ (if is then s ∷ [] else [])) ≡ (if is then one_more (named_among ss) s.me else named_among ss)
named_if true ss s = named_more ss s
named_if false [] s = refl
named_if false (a ∷ []) s = refl
named_if false (a ∷ b ∷ ss) s = refl

-- by whether the last one is named
pub named_next : (names : List (List ℕ)) (id : List ℕ) (ss : List KeptRow) (s : KeptRow)
    → named_among (filter (is_named_by names id) (ss ++ s ∷ [])) ≡ (if is_named_by names id s then one_more (named_among (filter (is_named_by names id) ss)) s.me else named_among (filter (is_named_by names id) ss))
named_next names id ss s =
    ap named_among (filter-append (is_named_by names id) ss (s ∷ [])) ∙ named_if (is_named_by names id s) (filter (is_named_by names id) ss) s
