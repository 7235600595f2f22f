-- What the reader gives is what the laws of runs ask of a script: its nodes have their places, and its commands are proper.
use Rattle.std.proofs.Common.{◌≡◌, ℕ, zero, suc, ◌+◌, ◌≤◌, List, [], ◌∷◌, length, Option, Some, None, ◌⊎◌, inl, inr, refl, sym, ap, subst, ◌∙◌, arith}
use Rattle.std.specs.List.{AllByRecursion}
use Rattle.dtx_values.specs.Limits.{node_limit}
use Rattle.tran_ids.specs.Listed.{numbered}
use Rattle.redo_record.specs.declared.place.Place.{Place}
use Rattle.script_read.specs.declared.command.Command.{Command}
use Rattle.script_read.specs.declared.command.Command.TheVariants as commands
use Rattle.script_read.specs.Sound.{IsInRange, IsOfAScript, names_in as names_read}
use Rattle.script_read.specs.Sound.{IsProper as IsProperRead}
use Rattle.run_rules.specs.Facts.{names_in}
use Rattle.run_rules.specs.Lawful.{IsPlace, IsCommandOver, AreOfAScript}
use Rattle.run_rules.specs.Scripts.{names_asked, places_from, places_of}
use Rattle.script_run.proofs.PlaceLemmas.{names_are, as_many}

-- a command
proper : (count : ℕ) (c : Command) → IsProperRead count c → IsCommandOver count c
proper count (commands.At node session statement) p = (p.0.0, p.1.0, p.1.1)
proper count (commands.Cut a b) p = (p.0.0, p.0.1.0)
proper count (commands.Join a b) p = (p.0.0, p.0.1.0)
proper count (commands.LoseNext kind from to) p = (p.0.0, p.0.1.0)
proper count (commands.Stop n) p = p.0.0
proper count (commands.Start n) p = p.0.0
proper count (commands.Crash n write how) p = p.0.0
proper count (commands.Fault n call) p = p.0.0
proper count (commands.GiveUp n session) p = (p.0.0, p.1)
proper count (commands.Reco n) p = p.0.0
proper count (commands.ShowPending n) p = p.0.0
proper count (commands.ShowNeighbors n) p = p.0.0
proper count (commands.ShowDisk n) p = p.0.0
proper count (commands.ShowUndo n) p = p.0.0
proper count _ p = tt

all_proper : (count : ℕ) (cs : List Command) → AllByRecursion (IsProperRead count) cs → AllByRecursion (IsCommandOver count) cs
all_proper count [] all = tt
all_proper count (c ∷ cs) all = (proper count c all.0, all_proper count cs all.1)

-- a place, counted from this number on
abbrev IsPlacedFrom : List (List ℕ) → ℕ → ℕ → Place → Type 0
IsPlacedFrom names from i p = (p.number ≡ from + i) × (p.names ≡ names) × (p.strength ≤ 255) × (1 ≤ p.links) × (p.links ≤ 64) × (1 ≤ p.undo) × (p.undo ≤ 1024)

one_later : (names : List (List ℕ)) (from i : ℕ) (p : Place) → IsPlacedFrom names (from + 1) i p → IsPlacedFrom names from (suc i) p
one_later names from i p is = (omega (arith, is.0), is.1, is.2, is.3, is.4, is.5, is.6)

some_is : {A : Type 0} (x y : A) → Some x ≡ Some y → x ≡ y
some_is x y e = cc

placed : (names : List (List ℕ)) (count from : ℕ) (cs : List Command) (i : ℕ) (p : Place) → AllByRecursion (IsProperRead count) cs → numbered (places_from names from cs) (suc i) ≡ Some p → IsPlacedFrom names from i p
placed names count from [] i p all is = absurd cc
placed names count from (commands.Node made strength links undo ∷ cs) zero p all is = subst (IsPlacedFrom names from 0) (some_is _ _ is) (omega arith, refl, all.0.1.0, all.0.1.1.0, all.0.1.1.1, all.0.1.2.0, all.0.1.2.1)
placed names count from (commands.Node made strength links undo ∷ cs) (suc i) p all is = one_later names from i p (placed names count (from + 1) cs i p all.1 is)
placed names count from (_ ∷ cs) i p all is = placed names count from cs i p all.1 is

-- the first place knows all the names, where there is one
named_first : (names : List (List ℕ)) (n : ℕ) (cs : List Command) → (names_in (places_from names n cs) ≡ names) ⊎ (places_from names n cs ≡ [])
named_first names n [] = inr refl
named_first names n (commands.Node made strength links undo ∷ cs) = inl refl
named_first names n (_ ∷ cs) = named_first names n cs

named : (cs : List Command) → length (names_in (places_of cs)) ≡ length (places_of cs)
named cs = elim (named_first (names_asked cs) 1 cs) [
  | inl is ↦ ap length is ∙ sym (as_many (names_asked cs) 1 cs)
  | inr none ↦ subst (λ (ps : List Place). length (names_in ps) ≡ length ps) (sym none) refl
]

none_there : (ps : List Place) (n : ℕ) (p : Place) → ps ≡ [] → numbered ps (suc n) ≡ Some p → ⊥
none_there [] n p none is = absurd cc
none_there (q ∷ qs) n p none is = absurd cc

there_named : (cs : List Command) (i : ℕ) (p : Place) → numbered (places_of cs) (suc i) ≡ Some p → names_in (places_of cs) ≡ names_asked cs
there_named cs i p is = elim (named_first (names_asked cs) 1 cs) [
  | inl named ↦ named
  | inr none ↦ absurd (none_there (places_of cs) i p none is)
]

each_placed : (cs : List Command) (n : ℕ) (p : Place) → IsOfAScript cs → numbered (places_of cs) n ≡ Some p → IsPlace (places_of cs) n p
each_placed cs zero p sound is = absurd cc
each_placed cs (suc i) p sound is =
    let at = placed (names_asked cs) (length (names_read cs)) 1 cs i p sound.proper is in
    record { number = omega (arith, at.0); names = at.1 ∙ sym (there_named cs i p is); strength = at.2; links = (at.3, at.4); undo = (at.5, at.6) }

-- as many places as nodes that the reader counts
counted : (cs : List Command) → length (places_of cs) ≡ length (names_read cs)
counted cs = as_many (names_asked cs) 1 cs ∙ ap length (names_are cs)

pub of_a_script : (cs : List Command) → IsOfAScript cs → AreOfAScript (places_of cs) cs
of_a_script cs sound = record {
  few = omega (arith, counted cs, sound.few);
  named = named cs;
  each = λ n p is. each_placed cs n p sound is;
  proper = subst (λ (count : ℕ). AllByRecursion (IsCommandOver count) cs) (sym (counted cs)) (all_proper (length (names_read cs)) cs sound.proper);
}

-- few enough to have places
pub few_names : (cs : List Command) → IsOfAScript cs → length (names_asked cs) ≤ node_limit
few_names cs sound = omega (arith, ap length (names_are cs), sound.few)

pub ruleset script_steps = (of_a_script, few_names)
