-- What a turn, a stop and a start leave at their node, and that they leave the others as they were.
use Rattle.std.proofs.Common.{◌≡◌, ◌≢◌, ℕ, zero, suc, ◌≤◌, List, [], ◌∷◌, ◌++◌, length, unwrap_or, Option, Some, None, refl, ap, ◌∙◌, arith}
use Rattle.std.specs.Option.{option_to_list}
use Rattle.tran_ids.proofs.NumberedLemmas.{set_found, set_leaves}
use Rattle.node_rules.specs.Data.{RedoRecord, Place}
use Rattle.node_rules.specs.Words.{numbered, set_numbered}
use Rattle.node_rules.specs.NodeState.{NodeState}
use Rattle.node_rules.specs.Turn.{turn_of, start_of}
use Rattle.run_rules.specs.Data.{Turn, Command}
use Rattle.run_rules.specs.Data.happenings
use Rattle.run_rules.specs.Facts.{Facts, place_at, flat, node_at, records_at, kept_after, served, with_boot, facts_after}

pub flat_some : {A : Type 0} (o : Option (Option A)) (a : A) → flat o ≡ Some a → o ≡ Some (Some a)
flat_some None a is = absurd cc
flat_some (Some x) a is = ap Some is

-- an item is there where the number is in range
pub item_there : {A : Type 0} (xs : List A) (n : ℕ) → 1 ≤ n → n ≤ length xs → (x : A) × (numbered xs n ≡ Some x)
item_there xs zero low high = absurd (omega arith)
item_there [] (suc i) low high = absurd (omega arith)
item_there (x ∷ xs) (suc zero) low high = (x, refl)
item_there (x ∷ xs) (suc (suc i)) low high = item_there xs (suc i) (omega arith) (omega (arith, high))

pub range_of : {A : Type 0} (xs : List A) (n : ℕ) (x : A) → numbered xs n ≡ Some x → (1 ≤ n) × (n ≤ length xs)
range_of xs zero x is = absurd cc
range_of [] (suc i) x is = absurd cc
range_of (y ∷ ys) (suc zero) x is = (omega arith, omega arith)
range_of (y ∷ ys) (suc (suc i)) x is = let rest = range_of ys (suc i) x is in (omega arith, omega (arith, rest.1))

-- so is the item of as long a list
pub there_too : {A B : Type 0} (xs : List A) (ys : List B) (n : ℕ) (x : A) → length xs ≡ length ys → numbered xs n ≡ Some x → (y : B) × (numbered ys n ≡ Some y)
there_too xs ys n x even is = let range = range_of xs n x is in item_there ys n range.0 (omega (arith, range.1, even))

module _ (places : List Place) (asked : List Command) (f : Facts) (even : length f.nodes ≡ length f.records) where
  -- another node
  module _ (m n : ℕ) (other : m ≢ n) where
    node_left : (o : Option NodeState) → flat (numbered (set_numbered f.nodes m o) n) ≡ node_at f n
    node_left o = ap flat (set_leaves f.nodes m n o other)

    records_left : (rs : List RedoRecord) → unwrap_or (numbered (set_numbered f.records m rs) n) [] ≡ records_at f n
    records_left rs = ap (λ o. unwrap_or o []) (set_leaves f.records m n rs other)

  pub turn_elsewhere : (u : Turn) (n : ℕ) → u.node ≢ n → (node_at (facts_after places asked f (happenings.Turn u)) n ≡ node_at f n) × (records_at (facts_after places asked f (happenings.Turn u)) n ≡ records_at f n)
  unfolding facts_after
  turn_elsewhere u n other = (node_left u.node n other _, records_left u.node n other _)

  pub stop_elsewhere : (m n : ℕ) → m ≢ n → (node_at (facts_after places asked f (happenings.Stopped m)) n ≡ node_at f n) × (records_at (facts_after places asked f (happenings.Stopped m)) n ≡ records_at f n)
  unfolding facts_after
  stop_elsewhere m n other = (node_left m n other _, refl)

  pub start_elsewhere : (m boot n : ℕ) → m ≢ n → (node_at (facts_after places asked f (happenings.Started m boot)) n ≡ node_at f n) × (records_at (facts_after places asked f (happenings.Started m boot)) n ≡ records_at f n)
  unfolding facts_after
  start_elsewhere m boot n other = (node_left m n other _, records_left m n other _)

  -- its own node, where it is up
  pub turn_here : (u : Turn) (k : NodeState) → node_at f u.node ≡ Some k
      → (node_at (facts_after places asked f (happenings.Turn u)) u.node ≡ kept_after u.cut (Some (turn_of (place_at places u.node) k u.input)))
      × (records_at (facts_after places asked f (happenings.Turn u)) u.node ≡ records_at f u.node ++ option_to_list u.wrote)
  unfolding facts_after
  turn_here u k up =
      let at : numbered f.nodes u.node ≡ Some (Some k) = flat_some (numbered f.nodes u.node) k up in
      let disk = there_too f.nodes f.records u.node (Some k) even at in (
        ap flat (set_found f.nodes u.node (Some k) _ at) ∙ ap (λ o. kept_after u.cut (served (place_at places u.node) u.input o)) up,
        ap (λ o. unwrap_or o []) (set_found f.records u.node disk.0 _ disk.1),
      )

  -- a stopped node keeps nothing
  pub stop_here : (m : ℕ) → 1 ≤ m → m ≤ length f.nodes → (node_at (facts_after places asked f (happenings.Stopped m)) m ≡ None) × (records_at (facts_after places asked f (happenings.Stopped m)) m ≡ records_at f m)
  unfolding facts_after
  stop_here m low high = let there = item_there f.nodes m low high in (ap flat (set_found f.nodes m there.0 None there.1), refl)

  pub start_here : (m boot : ℕ) → 1 ≤ m → m ≤ length f.nodes
      → (node_at (facts_after places asked f (happenings.Started m boot)) m ≡ Some (start_of (with_boot f m boot))) × (records_at (facts_after places asked f (happenings.Started m boot)) m ≡ with_boot f m boot)
  unfolding facts_after
  start_here m boot low high =
      let there = item_there f.nodes m low high in
      let disk = there_too f.nodes f.records m there.0 even there.1 in
      (ap flat (set_found f.nodes m there.0 _ there.1), ap (λ o. unwrap_or o []) (set_found f.records m disk.0 _ disk.1))
