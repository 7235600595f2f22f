-- Plans are of roots that began.
use Rattle.std.proofs.Common.{◌≡◌, Bool, true, false, if◌then◌else◌, find, List, [], ◌∷◌, ◌++◌, map, Option, Some, None, refl, subst}
use Rattle.std.specs.List.{AllByRecursion}
use Rattle.node_rules.specs.Data.{Answer, Input}
use Rattle.node_rules.specs.Data.inputs
use Rattle.run_rules.specs.Branches.{Seen, is_root_of}
use Rattle.run_rules.specs.Data.{Turn, Happening}
use Rattle.run_rules.specs.Data.happenings
use Rattle.run_rules.specs.Facts.{outcome_at}
use Rattle.run_rules.specs.Lawful.{History, IsLawfulRun}
use Rattle.run_rules.specs.Runs.{answered_by}
use Rattle.run_rules.specs.Tree.{plan}
use Rattle.run_rules.specs.Trail.{commits, planned_by, called_root, trail_after}
use Rattle.run_rules.proofs.ListLemmas.{all_weaker, all_append}
use Rattle.tree_trail_laws.proofs.SeenLemmas.{turned}
use Rattle.tree_trail_laws.proofs.TopBirthLemmas.{IsBorn, born_more}
use Rattle.tree_laws.proofs.AtTurn.{at_turn}
use Rattle.tree_trail_laws.proofs.AtTrail.{at_trail}

-- what is so of all is so of one that is found
pub found_so : (P : Seen → Type 0) (q : Seen → Bool) (xs : List Seen) (s : Seen) → find q xs ≡ Some s → AllByRecursion P xs → P s
found_so P q [] s is all = absurd cc
found_so P q (x ∷ xs) s is all = by (q x) is (found_so P q xs s)
  where
    by : (here : Bool) → (if here then Some x else find q xs) ≡ Some s → (find q xs ≡ Some s → AllByRecursion P xs → P s) → P s
    by true is later = (let it : Some x ≡ Some s = is in let same_one : x ≡ s = cc in subst P same_one all.0)
    by false is later = later is all.1

unmapped : (P : Seen → Type 0) (g : Seen → Seen) (xs : List Seen) → AllByRecursion P (map g xs) → AllByRecursion (λ s. P (g s)) xs
unmapped P g [] all = tt
unmapped P g (x ∷ xs) all = (all.0, unmapped P g xs all.1)

module _ (t : History) (whole : IsLawfulRun t) (hs : List Happening) (u : Turn) (rest : List Happening) (is : hs ++ happenings.Turn u ∷ rest ≡ t.trace) where
  open at_turn t whole hs u rest is use {after as hs1, f as f0}
  open at_trail t hs u use {tr as tr0, tr_on as tr1, begun_tr as b0}

  module _ (born : AllByRecursion (λ s. IsBorn t whole hs1 s.me) tr1.seen) where
    begun_born : AllByRecursion (λ s. IsBorn t whole hs1 s.me) b0.seen
    unfolding trail_after
    begun_born = unmapped (λ s. IsBorn t whole hs1 s.me) (turned t.places f0 tr0 u) b0.seen born

    called_born : (input : Input) (s : Seen) → called_root b0 u.node input ≡ Some s → IsBorn t whole hs1 s.me
    called_born (inputs.Call session st) s root = found_so (λ s. IsBorn t whole hs1 s.me) (is_root_of u.node session) b0.seen s root begun_born
    called_born (inputs.Message m) s root = absurd cc
    called_born (inputs.GiveUp session) s root = absurd cc
    called_born inputs.Reco s root = absurd cc
    called_born inputs.Checkpoint s root = absurd cc

    new_plans : (a : Option Answer) (o : Option Seen) → ((s : Seen) → o ≡ Some s → IsBorn t whole hs1 s.me) → AllByRecursion (λ x. IsBorn t whole hs1 x.root) (planned_by t.places b0 u.node a u.input o)
    unfolding plan
    new_plans a None its = tt
    new_plans a (Some s) its = by (commits u.node a s u.input)
      where
        by : (q : Bool) → AllByRecursion (λ x. IsBorn t whole hs1 x.root) (if q then plan t.places b0 s.me ∷ [] else [])
        by true = (its s refl, tt)
        by false = tt

    pub plans_on : AllByRecursion (λ x. IsBorn t whole hs x.root) tr0.plans → AllByRecursion (λ x. IsBorn t whole hs1 x.root) tr1.plans
    unfolding trail_after
    plans_on plans =
        all_append (λ x. IsBorn t whole hs1 x.root) tr0.plans (planned_by t.places b0 u.node (answered_by (outcome_at t.places f0 u)) u.input (called_root b0 u.node u.input))
        (all_weaker (λ x. IsBorn t whole hs x.root) (λ x. IsBorn t whole hs1 x.root) (λ x its. born_more t whole hs (happenings.Turn u) rest is x.root its) tr0.plans plans)
        (new_plans (answered_by (outcome_at t.places f0 u)) (called_root b0 u.node u.input) (λ s root. called_born u.input s root))
