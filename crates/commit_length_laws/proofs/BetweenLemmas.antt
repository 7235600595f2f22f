-- Each commit goes from a branch to a neighbour beyond it once, and its Ack comes back once. For two branches, what the one holds of
-- this and what of it is in flight between them is counted: CommitPoint that the neighbour may say or said, the commit that the branch
-- may tell or told, and the Ack that the neighbour may say, or said, or that is noted. It is never more than one.
use Rattle.std.proofs.Common.{◌≡◌, ℕ, ◌+◌, ◌≤◌, Bool, true, false, List, [], ◌∷◌, Option, Some, None, refl, ap, arith}
use Rattle.commit_forget.specs.Beyond.{beyond, all_acked}
use Rattle.node_rules.specs.Data.{BranchId, Edge, Kind, KeptRow, Live, Post}
use Rattle.node_rules.specs.Data.kinds
use Rattle.node_rules.specs.Words.{same}
use Rattle.node_rules.specs.NodeState.{to_each, to_one}
use Rattle.node_rules.specs.Prepare.{prepares}
use Rattle.commit_length_laws.proofs.FlightLemmas.{posts_weight}
use Rattle.commit_length_laws.specs.Worth.{total}
use Rattle.commit_length_laws.specs.Once.{when, on, message_between, edges_between, kept_between, live_between, row_between}

pub when_low : (q : Bool) (n m : ℕ) → n ≤ m → when q n ≤ when q m
when_low true n m low = low
when_low false n m low = omega arith

pub when_most : (q : Bool) (n : ℕ) → when q n ≤ n
when_most true n = omega arith
when_most false n = omega arith

pub when_both : (q : Bool) (n m : ℕ) → when q (n + m) ≡ when q n + when q m
when_both true n m = refl
when_both false n m = refl

-- which of the two comes first does not matter
pub turned : (p q : Bool) → when p (when q 1) ≡ when q (when p 1)
turned true true = refl
turned true false = refl
turned false true = refl
turned false false = refl

module _ (z w : BranchId) where
  abbrev pub says_between : List Post → ℕ
  says_between ms = posts_weight (message_between z w) ms

  -- a message of another kind is none of them
  pub each_none : (me : BranchId) (kind : Kind) (tos : List BranchId) → ((from to : BranchId) → message_between z w from to kind ≡ 0) → says_between (to_each me kind tos) ≡ 0
  each_none me kind [] none = refl
  each_none me kind (b ∷ bs) none = (let here = none me b in let rest = each_none me kind bs none in omega (arith, here, rest))

  pub one_none : (me : BranchId) (kind : Kind) (o : Option BranchId) → ((from to : BranchId) → message_between z w from to kind ≡ 0) → says_between (to_one me kind o) ≡ 0
  one_none me kind None none = refl
  one_none me kind (Some q) none = (let here = none me q in omega (arith, here))

  pub asks_none : (me : BranchId) (comment : List ℕ) (path : Option ℕ) (i : ℕ) (es : List Edge) → says_between (prepares me comment path i es) ≡ 0
  asks_none me comment path i [] = refl
  asks_none me comment path i (e ∷ es) = (let rest = asks_none me comment path (i + 1) es in omega (arith, rest))

  -- the commit to each of these
  pub each_told : (me : BranchId) (n : ℕ) (tos : List BranchId) → says_between (to_each me (kinds.Committed n) tos) ≡ when (same me z) (total (λ b. on b w) tos)
  each_told me n [] = by (same me z)
    where
      by : (q : Bool) → 0 ≡ when q 0
      by true = refl
      by false = refl
  each_told me n (b ∷ bs) = (let rest = each_told me n bs in let both = when_both (same me z) (on b w) (total (λ c. on c w) bs) in omega (arith, rest, both))

  module _ (g : BranchId) where
    pub live_between_is : (l : Live) → same l.root g ≡ true → live_between z w g l ≡ edges_between z w l.me l.edges
    live_between_is l of = ap (λ q. when q (edges_between z w l.me l.edges)) of

    pub row_between_is : (s : KeptRow) → same s.root g ≡ true → row_between z w g s ≡ kept_between z w s.me s.decision s.toward (beyond s) (all_acked s)
    row_between_is s of = ap (λ q. when q (kept_between z w s.me s.decision s.toward (beyond s) (all_acked s))) of

    pub row_between_low : (s : KeptRow) → row_between z w g s ≤ kept_between z w s.me s.decision s.toward (beyond s) (all_acked s)
    row_between_low s = when_most (same s.root g) (kept_between z w s.me s.decision s.toward (beyond s) (all_acked s))
