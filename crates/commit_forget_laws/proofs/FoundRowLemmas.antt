-- In every lawful run each row of a node is found there by its branch, each live branch by its id, and each branch that began
-- by its id: none is there twice.
use Rattle.std.proofs.Common.{◌≡◌, ℕ, ◌+◌, ◌≤◌, Bool, true, false, if◌then◌else◌, List, [], ◌∷◌, Some, refl, ap, arith}
use Rattle.std.specs.List.{AllByRecursion}
use Rattle.tran_ids.proofs.BranchLemmas.{same_from_equal}
use Rattle.node_rules.specs.Data.{BranchId}
use Rattle.node_rules.specs.Words.{same, item_at}
use Rattle.node_rules.specs.NodeState.{NodeState, kept_row_id, live_id}
use Rattle.run_rules.specs.Births.{births_of, born_id}
use Rattle.run_base_laws.specs.BirthLaws.{Began}
use Rattle.run_rules.specs.Facts.{node_at}
use Rattle.run_rules.specs.Lawful.{History, IsLawfulRun, facts_at}
use Rattle.run_base_laws.specs.NodeLaws.{count_of}
use Rattle.run_base_laws.proofs.BirthRunLemmas.{no_id_begins_twice}
use Rattle.run_base_laws.proofs.FreshLemmas.{ids_are_fresh}
use Rattle.run_rules.proofs.ListLemmas.{all_weaker}
use Rattle.commit_forget_laws.proofs.RowStepLemmas.{Found}

module _ {A : Type 0} (id : A → BranchId) where
  -- one that is found counts
  found_counts : (xs : List A) (b : BranchId) (y : A) → item_at id xs b ≡ Some y → 1 ≤ count_of id b xs
  found_counts [] b y found = absurd cc
  found_counts (x ∷ xs) b y found = by (same (id x) b) found (found_counts xs b y)
    where
      by : (q : Bool) → (if q then Some x else item_at id xs b) ≡ Some y → (item_at id xs b ≡ Some y → 1 ≤ count_of id b xs) → 1 ≤ (if q then 1 + count_of id b xs else count_of id b xs)
      by true here rest = omega arith
      by false later rest = rest later

  module _ (x : A) (xs : List A) where
    fewer : (b : BranchId) → count_of id b (x ∷ xs) ≤ 1 → count_of id b xs ≤ 1
    fewer b one = by (same (id x) b) one
      where
        by : (q : Bool) → (if q then 1 + count_of id b xs else count_of id b xs) ≤ 1 → count_of id b xs ≤ 1
        by true low = omega (arith, low)
        by false low = low

    later_found : (b : BranchId) (y : A) → count_of id b (x ∷ xs) ≤ 1 → item_at id xs b ≡ Some y → item_at id (x ∷ xs) b ≡ Some y
    later_found b y one found = by (same (id x) b) one
      where
        by : (q : Bool) → (if q then 1 + count_of id b xs else count_of id b xs) ≤ 1 → (if q then Some x else item_at id xs b) ≡ Some y
        by true low = (let some : 1 ≤ count_of id b xs = found_counts xs b y found in absurd (omega (arith, low, some)))
        by false low = found

  -- where none counts twice, each is found
  each_found : (xs : List A) → ((b : BranchId) → count_of id b xs ≤ 1) → AllByRecursion (λ x. item_at id xs (id x) ≡ Some x) xs
  each_found [] one = tt
  each_found (x ∷ xs) one = (
    ap (λ q. if q then Some x else item_at id xs (id x)) (same_from_equal (id x) (id x) refl),
    all_weaker (λ y. item_at id xs (id y) ≡ Some y) (λ y. item_at id (x ∷ xs) (id y) ≡ Some y) (λ y found. later_found x xs (id y) y (one (id y)) found) xs (each_found xs (λ b. fewer x xs b (one b))),
  )

pub rows_found : (t : History) → IsLawfulRun t → (n : ℕ) (k : NodeState) → node_at (facts_at t) n ≡ Some k → Found k.stored.durable.kept
rows_found t lawful n k up =
    each_found kept_row_id k.stored.durable.kept (λ b. (let one : count_of kept_row_id b k.stored.durable.kept + count_of live_id b k.lives ≤ 1 = ids_are_fresh t lawful n k up b in omega (arith, one)))

pub lives_found : (t : History) → IsLawfulRun t → (n : ℕ) (k : NodeState) → node_at (facts_at t) n ≡ Some k → AllByRecursion (λ l. item_at live_id k.lives l.me ≡ Some l) k.lives
lives_found t lawful n k up =
    each_found live_id k.lives (λ b. (let one : count_of kept_row_id b k.stored.durable.kept + count_of live_id b k.lives ≤ 1 = ids_are_fresh t lawful n k up b in omega (arith, one)))

pub births_found : (t : History) → IsLawfulRun t → AllByRecursion (λ x. Began (births_of t) x) (births_of t)
births_found t lawful = each_found born_id (births_of t) (no_id_begins_twice t lawful)
