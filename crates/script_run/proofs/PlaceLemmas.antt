-- One node more, and how many places a script asks for.
use Rattle.std.proofs.Common.{◌≡◌, ℕ, suc, ◌+◌, ◌<◌, ◌≤◌, List, [], ◌∷◌, ◌++◌, length, take, drop, slice_index_or, refl, sym, ap, ◌∙◌, arith, length-append, append_assoc}
use Rattle.std.proofs.lemmas.List.{take_more, take-append-drop}
use Rattle.redo_record.specs.declared.place.Place.{Place}
use Rattle.script_read.specs.declared.command.Command.{Command}
use Rattle.script_read.specs.declared.command.Command.TheVariants as commands
use Rattle.script_read.specs.Asked.{names_made}
use Rattle.script_read.specs.Sound.{names_in}
use Rattle.run_rules.specs.Scripts.{names_asked, places_from}

-- ---- the names

-- a command, and those after it
name_first : (c : Command) (cs : List Command) → names_asked (c ∷ cs) ≡ names_made c ++ names_asked cs
name_first (commands.Node made strength links undo) cs = refl
name_first _ cs = refl

-- the names are those that the reader counts
pub names_are : (cs : List Command) → names_asked cs ≡ names_in cs
names_are [] = refl
names_are (c ∷ cs) = name_first c cs ∙ ap (λ (ns : List (List ℕ)). names_made c ++ ns) (names_are cs)

names_append : (cs ds : List Command) → names_asked (cs ++ ds) ≡ names_asked cs ++ names_asked ds
names_append [] ds = refl
names_append (c ∷ cs) ds =
    name_first c (cs ++ ds) ∙ (ap (λ (ns : List (List ℕ)). names_made c ++ ns) (names_append cs ds) ∙ (sym (append_assoc (names_made c) (names_asked cs) (names_asked ds))
    ∙ ap (λ (ns : List (List ℕ)). ns ++ names_asked ds) (sym (name_first c cs))))

pub names_more : (cs : List Command) (i : ℕ) (c : Command) → i < length cs → slice_index_or cs i c ≡ c → names_asked (take (i + 1) cs) ≡ names_asked (take i cs) ++ names_asked (c ∷ [])
names_more cs i c low is = ap names_asked (take_more cs i c low ∙ ap (λ (x : Command). take i cs ++ x ∷ []) is) ∙ names_append (take i cs) (c ∷ [])

-- ---- the places

-- there are as many as names
pub as_many : (names : List (List ℕ)) (n : ℕ) (cs : List Command) → length (places_from names n cs) ≡ length (names_asked cs)
as_many names n [] = refl
as_many names n (commands.Node made strength links undo ∷ cs) = ap suc (as_many names (n + 1) cs)
as_many names n (_ ∷ cs) = as_many names n cs

places_append : (names : List (List ℕ)) (n : ℕ) (cs ds : List Command) → places_from names n (cs ++ ds) ≡ places_from names n cs ++ places_from names (length (places_from names n cs) + n) ds
places_append names n [] ds = ap (λ (m : ℕ). places_from names m ds) (omega arith)
places_append names n (commands.Node made strength links undo ∷ cs) ds =
    ap (λ (ps : List Place). (record { names = names; number = n; strength = strength; links = links; undo = undo }) ∷ ps)
    (places_append names (n + 1) cs ds ∙ ap (λ (m : ℕ). places_from names (n + 1) cs ++ places_from names m ds) (omega arith))
places_append names n (_ ∷ cs) ds = places_append names n cs ds

pub places_more : (names : List (List ℕ)) (cs : List Command) (i : ℕ) (c : Command) → i < length cs → slice_index_or cs i c ≡ c
    → places_from names 1 (take (i + 1) cs) ≡ places_from names 1 (take i cs) ++ places_from names (length (places_from names 1 (take i cs)) + 1) (c ∷ [])
places_more names cs i c low is = ap (places_from names 1) (take_more cs i c low ∙ ap (λ (x : Command). take i cs ++ x ∷ []) is) ∙ places_append names 1 (take i cs) (c ∷ [])

-- before the last command there are no more than in the end
pub fewer_before : (names : List (List ℕ)) (cs : List Command) (i : ℕ) → length (places_from names 1 (take i cs)) ≤ length (names_asked cs)
fewer_before names cs i =
    let both : names_asked cs ≡ names_asked (take i cs) ++ names_asked (drop i cs) = ap names_asked (sym (take-append-drop i cs)) ∙ names_append (take i cs) (drop i cs) in
    omega (arith, as_many names 1 (take i cs), ap length both, length-append (names_asked (take i cs)) (names_asked (drop i cs)))

pub ruleset place_steps = (places_more, fewer_before)
