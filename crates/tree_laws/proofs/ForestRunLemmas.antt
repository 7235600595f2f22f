-- In every lawful run the Prepares make a forest of the branches that began.
use Rattle.std.proofs.Common.{◌≡◌, ◌&&◌, ◌||◌, Bool, true, false, List, [], ◌∷◌, map, refl, subst}
use Rattle.std.specs.List.{AllByRecursion}
use Rattle.tran_ids.proofs.BranchLemmas.{equal_from_same}
use Rattle.node_rules.specs.Data.{BranchId, Kind}
use Rattle.node_rules.specs.Data.kinds
use Rattle.node_rules.specs.Words.{same}
use Rattle.run_rules.specs.Data.{Packet}
use Rattle.run_rules.specs.Lawful.{History, IsLawfulRun, facts_at}
use Rattle.run_rules.specs.Births.{Born, births_of}
use Rattle.run_base_laws.specs.BirthLaws.{Began, IsChild, GoesSo}
use Rattle.run_rules.specs.Trail.{is_prepare}
use Rattle.run_base_laws.specs.InTurnLaws.{packet_post, said_in}
use Rattle.run_base_laws.specs.FreezeLaws.{was_asked}
use Rattle.run_base_laws.proofs.BirthRunLemmas.{births_are_trees, messages_are_of_neighbors}
use Rattle.run_branch_laws.proofs.FreezeRunLemmas.{walks_are_one}
use Rattle.tree_laws.specs.Forests.{RunsHaveForests}
use Rattle.tree_laws.proofs.AskRunLemmas.{askers_were_asked, walk_goes_on}
use Rattle.tree_laws.proofs.ForestLemmas.{Known, is_forest}

-- who was asked is a child of the one that asked
asked_child : (bs : List Born) (p c : BranchId) (xs : List Packet) → AllByRecursion (λ x. GoesSo (Began bs) x.msg.from x.msg.to x.msg.kind) xs → was_asked (map packet_post xs) p c ≡ true → IsChild (Began bs) c p
asked_child bs p c [] all is = absurd cc
asked_child bs p c (x ∷ xs) all is = by (same x.msg.from p) (same x.msg.to c) refl refl x.msg.kind all.0 is (λ later. asked_child bs p c xs all.1 later)
  where
    by : (q r : Bool) → same x.msg.from p ≡ q → same x.msg.to c ≡ r → (kind : Kind) → GoesSo (Began bs) x.msg.from x.msg.to kind → (((q && r) && is_prepare kind) || was_asked (map packet_post xs) p c) ≡ true
        → (was_asked (map packet_post xs) p c ≡ true → IsChild (Began bs) c p) → IsChild (Began bs) c p
    by true true from to (kinds.Prepare site_below comment) goes it rest =
        subst (λ b. IsChild (Began bs) b p) (equal_from_same x.msg.to c to) (subst (IsChild (Began bs) x.msg.to) (equal_from_same x.msg.from p from) goes)
    by true true from to _ goes it rest = rest it
    by true false from to kind goes it rest = rest it
    by false r from to kind goes it rest = rest it

pub run_known : (t : History) → IsLawfulRun t → Known (births_of t) (said_in (facts_at t))
run_known t lawful = record {
  trees = births_are_trees t lawful;
  child = λ p c is. asked_child (births_of t) p c (facts_at t).net.packets (messages_are_of_neighbors t lawful) is;
  asks = askers_were_asked t lawful;
  walk = walk_goes_on t lawful;
  one = walks_are_one t lawful;
}

pub runs_have_forests : RunsHaveForests
runs_have_forests t lawful = is_forest (births_of t) (said_in (facts_at t)) (run_known t lawful)
