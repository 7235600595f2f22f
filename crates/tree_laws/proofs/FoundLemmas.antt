-- In every lawful run each live branch of a node is found there by its id: no id is live twice.
use Rattle.std.proofs.Common.{◌≡◌, ℕ, ◌+◌, ◌≤◌, Bool, true, false, if◌then◌else◌, List, [], ◌∷◌, Some, refl, ap, arith}
use Rattle.std.specs.List.{AllByRecursion}
use Rattle.tran_ids.proofs.BranchLemmas.{same_from_equal}
use Rattle.node_rules.specs.Data.{BranchId, Live}
use Rattle.node_rules.specs.Words.{same, item_at}
use Rattle.node_rules.specs.NodeState.{NodeState, live_id, kept_row_id}
use Rattle.run_rules.specs.Facts.{node_at}
use Rattle.run_rules.specs.Lawful.{History, IsLawfulRun, facts_at}
use Rattle.run_base_laws.specs.NodeLaws.{count_of}
use Rattle.run_base_laws.proofs.FreshLemmas.{ids_are_fresh}
use Rattle.run_rules.proofs.ListLemmas.{all_weaker}

-- one that is found counts
found_counts : (ls : List Live) (b : BranchId) (y : Live) → item_at live_id ls b ≡ Some y → 1 ≤ count_of live_id b ls
found_counts [] b y found = absurd cc
found_counts (x ∷ ls) b y found = by (same x.me b) found (found_counts ls b y)
  where
    by : (q : Bool) → (if q then Some x else item_at live_id ls b) ≡ Some y → (item_at live_id ls b ≡ Some y → 1 ≤ count_of live_id b ls) → 1 ≤ (if q then 1 + count_of live_id b ls else count_of live_id b ls)
    by true here rest = omega arith
    by false later rest = rest later

module _ (x : Live) (ls : List Live) where
  first_found : item_at live_id (x ∷ ls) x.me ≡ Some x
  first_found = ap (λ q. if q then Some x else item_at live_id ls x.me) (same_from_equal x.me x.me refl)

  fewer : (b : BranchId) → count_of live_id b (x ∷ ls) ≤ 1 → count_of live_id b ls ≤ 1
  fewer b one = by (same x.me b) one
    where
      by : (q : Bool) → (if q then 1 + count_of live_id b ls else count_of live_id b ls) ≤ 1 → count_of live_id b ls ≤ 1
      by true low = omega (arith, low)
      by false low = low

  -- another one of the list has another id
  later_found : (b : BranchId) (y : Live) → count_of live_id b (x ∷ ls) ≤ 1 → item_at live_id ls b ≡ Some y → item_at live_id (x ∷ ls) b ≡ Some y
  later_found b y one found = by (same x.me b) one
    where
      by : (q : Bool) → (if q then 1 + count_of live_id b ls else count_of live_id b ls) ≤ 1 → (if q then Some x else item_at live_id ls b) ≡ Some y
      by true low = (let some : 1 ≤ count_of live_id b ls = found_counts ls b y found in absurd (omega (arith, low, some)))
      by false low = found

each_found : (ls : List Live) → ((b : BranchId) → count_of live_id b ls ≤ 1) → AllByRecursion (λ l. item_at live_id ls l.me ≡ Some l) ls
each_found [] one = tt
each_found (x ∷ ls) one = (
  first_found x ls,
  all_weaker (λ l. item_at live_id ls l.me ≡ Some l) (λ l. item_at live_id (x ∷ ls) l.me ≡ Some l) (λ l found. later_found x ls l.me l (one l.me) found) ls (each_found ls (λ b. fewer x ls b (one b))),
)

pub lives_found : (t : History) → IsLawfulRun t → (n : ℕ) (k : NodeState) → node_at (facts_at t) n ≡ Some k → AllByRecursion (λ l. item_at live_id k.lives l.me ≡ Some l) k.lives
lives_found t lawful n k up = each_found k.lives (λ b. (let one : count_of kept_row_id b k.stored.durable.kept + count_of live_id b k.lives ≤ 1 = ids_are_fresh t lawful n k up b in omega (arith, one)))
