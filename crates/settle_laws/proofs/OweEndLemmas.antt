-- Where it is so of all nodes, and nothing flies any more, each row that knows a commit has forgotten.
use Rattle.std.proofs.Common.{◌≡◌, ◌≢◌, ℕ, zero, suc, ◌+◌, ◌<◌, ◌≤◌, ◌&&◌, Bool, true, false, if◌then◌else◌, List, [], ◌∷◌, Option, Some, None, inl, inr, refl, sym, subst, ◌∙◌, arith, append-nil}
use Rattle.std.specs.List.{list_all, AllByRecursion}
use Rattle.tran_ids.proofs.ListedLemmas.{item_is}
use Rattle.agreement.specs.Events.{Forest, Beyond}
use Rattle.commit_forget.specs.declared.next.Beyond.{Beyond as Neighbor}
use Rattle.commit_forget.specs.Beyond.{beyond, all_acked}
use Rattle.commit_forget.specs.Next.{knows_commit}
use Rattle.node_rules.specs.Data.{BranchId, Kind, KeptRow}
use Rattle.node_rules.specs.NodeState.{NodeState, kept_row_at, kept_row_id}
use Rattle.node_rules.specs.Words.{same}
use Rattle.run_rules.specs.Births.{Born, born_at, births_of}
use Rattle.run_rules.specs.Data.fates
use Rattle.run_rules.specs.Facts.{Facts, node_at}
use Rattle.run_rules.specs.Lawful.{History, IsLawfulRun, facts_at}
use Rattle.run_rules.proofs.ListLemmas.{all_weaker}
use Rattle.run_base_laws.specs.InTurnLaws.{said_in}
use Rattle.run_base_laws.specs.RunEvents.{events_of}
use Rattle.run_base_laws.proofs.OwnLemmas.{all_found}
use Rattle.tree_laws.specs.Forests.{deepest, depth_in, depth_at, site_from, root_in, parent_in, comes_to, far_by, forest_of}
use Rattle.tree_laws.proofs.FitRowLemmas.{RowFits, rows_fit}
use Rattle.tree_laws.proofs.ForestRunLemmas.{runs_have_forests}
use Rattle.tree_laws.proofs.TimeLemmas.{Part}
use Rattle.commit_laws.proofs.ListLemmas.{IsIn, in_all}
use Rattle.commit_laws.proofs.NetLemmas.{numbered_all}
use Rattle.commit_forget_laws.proofs.FoundRowLemmas.{rows_found}
use Rattle.settle_laws.specs.Interval.{Flies}
use Rattle.settle_laws.specs.RowLaws.{RowHolds}
use Rattle.settle_laws.specs.EndLaws.{NothingFlies}
use Rattle.settle_laws.specs.OweLaws.{IsToForget, RowIsToForget, Awaited, Is_sent, Is_acked, Waits_too, Reported, Acks, Is_released, Is_noted, AwaitsAll, ReportsSo, Owed, NothingToForget, OwedAreForgotten}
use Rattle.settle_laws.proofs.RowLemmas.{rows_hold}
use Rattle.settle_laws.proofs.BeyondNamedLemmas.{rows_beyond}

-- where not all Acks are there one is missing
missing_one : (ys : List Neighbor) → list_all (λ y. y.acked) ys ≡ false → (y : Neighbor) × IsIn y ys × (y.acked ≡ false)
missing_one [] is = absurd cc
missing_one (y ∷ ys) is = by y.acked refl is (missing_one ys)
  where
    by : (w : Bool) → y.acked ≡ w → (w && list_all (λ z. z.acked) ys) ≡ false → (list_all (λ z. z.acked) ys ≡ false → (z : Neighbor) × IsIn z ys × (z.acked ≡ false)) → (z : Neighbor) × IsIn z (y ∷ ys) × (z.acked ≡ false)
    by false missing some rest = (y, inl refl, missing)
    by true there some rest = (let more = rest some in (more.0, inr more.1, more.2))

-- ---- how far a branch can be

depth_low : (bs : List Born) (b : BranchId) → depth_at bs b ≤ deepest bs
depth_low [] b = omega arith
depth_low (x ∷ xs) b = by (same x.me b) (depth_low xs b)
  where
    by : (w : Bool) → depth_at xs b ≤ deepest xs → depth_in (if w then Some x else born_at xs b) ≤ deepest (x ∷ xs)
    by true low = omega arith
    by false low = omega (arith, low)

far_low_by : (on : Bool) (site depth most : ℕ) → site ≤ most → depth ≤ most → far_by on site depth ≤ most + most + 1
far_low_by true site depth most high deep = omega (arith, high)
far_low_by false site depth most high deep = omega (arith, high, deep)

module _ (t : History) (whole : IsLawfulRun t) (now : Owed (λ n. Unit {0}) (facts_at t)) (still : NothingFlies (facts_at t)) where
  abbrev f : Facts
  f = facts_at t

  abbrev p : Forest
  p = forest_of t

  abbrev bs : List Born
  bs = births_of t

  abbrev most : ℕ
  most = deepest bs

  part : Part t whole t.trace
  part = record { rest = []; is = append-nil t.trace }

  far_low : (b : BranchId) → p.far b ≤ most + most + 1
  far_low b =
      far_low_by (comes_to (said_in f) b (parent_in (born_at bs b))) (depth_at bs (site_from bs (said_in f) (root_in b (born_at bs b)))) (depth_at bs b) most
      (depth_low bs (site_from bs (said_in f) (root_in b (born_at bs b)))) (depth_low bs b)

  none_flies : (test : Kind → Bool) (a b : BranchId) → Flies test f a b → ⊥
  none_flies test a b fly = numbered_all (λ x. x.fate ≢ fates.InFlight) f.net.packets fly.0 fly.1 still fly.2.sent fly.2.flying

  its_row : (b : BranchId) (r : RowIsToForget f b) → kept_row_at r.node r.row.me ≡ Some r.row
  its_row b r = subst (λ c. kept_row_at r.node c ≡ Some r.row) (sym (item_is kept_row_id r.node.stored.durable.kept b r.row r.found)) r.found

  -- ---- outwards: whose Ack is missing misses one itself, and is farther

  one_acked : (n : ℕ) (k : NodeState) → node_at f n ≡ Some k → (s : KeptRow) → kept_row_at k s.me ≡ Some s → IsToForget s → all_acked s ≡ false
      → ((x : BranchId) (r : RowIsToForget f x) → all_acked r.row ≡ false → p.far s.me < p.far x → ⊥) → ⊥
  one_acked n k up s row waits some again =
      let missing = missing_one (beyond s) some in
      let is_beyond : Beyond p missing.0.branch s.me
      = in_all (λ (y : Neighbor). Beyond p y.branch s.me) (beyond s) missing.0
      (all_found (λ (z : KeptRow). AllByRecursion (λ (y : Neighbor). Beyond p y.branch z.me) (beyond z)) kept_row_id k.stored.durable.kept s.me s (rows_beyond t whole n k up) row) missing.1 in
      let far : p.far s.me < p.far missing.0.branch = subst (λ c. p.far c < p.far missing.0.branch) is_beyond.next ((runs_have_forests t whole).nearer missing.0.branch is_beyond.member is_beyond.not_site) in
      by missing.0.branch far
      (in_all (λ (y : Neighbor). y.acked ≡ false → Awaited f s.me y.branch) (beyond s) missing.0
      (all_found (AwaitsAll f) kept_row_id k.stored.durable.kept s.me s (now.waits n tt k up) row waits) missing.1 missing.2)
    where
      by : (x : BranchId) → p.far s.me < p.far x → Awaited f s.me x → ⊥
      by x far (Is_sent fly) = none_flies _ s.me x fly
      by x far (Is_acked fly) = none_flies _ x s.me fly
      by x far (Waits_too r misses) = again x r misses far

  unacked : (fuel : ℕ) (n : ℕ) (k : NodeState) → node_at f n ≡ Some k → (s : KeptRow) → kept_row_at k s.me ≡ Some s → IsToForget s → all_acked s ≡ false → most + most + 1 ≤ p.far s.me + fuel → ⊥
  unacked zero n k up s row waits some low = one_acked n k up s row waits some (λ x r misses far. (let high = far_low x in absurd (omega (arith, low, far, high))))
  unacked (suc w) n k up s row waits some low = one_acked n k up s row waits some (λ x r misses far.
      unacked w x.node r.node r.up r.row (its_row x r) r.waits misses (subst (λ c. most + most + 1 ≤ p.far c + w) (sym (item_is kept_row_id r.node.stored.durable.kept x r.row r.found)) (omega (arith, low, far))))

  acked : (n : ℕ) (k : NodeState) → node_at f n ≡ Some k → (s : KeptRow) → kept_row_at k s.me ≡ Some s → IsToForget s → all_acked s ≡ true
  acked n k up s row waits = by (all_acked s) refl
    where
      by : (w : Bool) → all_acked s ≡ w → all_acked s ≡ true
      by true is = is
      by false is = absurd (unacked (most + most + 1) n k up s row waits is (omega arith))

  -- ---- inwards: to the site, which forgets at once

  one_forgot : (n : ℕ) (k : NodeState) → node_at f n ≡ Some k → (s : KeptRow) → kept_row_at k s.me ≡ Some s → IsToForget s → ((d : BranchId) → RowIsToForget f d → p.far d < p.far s.me → ⊥) → ⊥
  one_forgot n k up s row waits again = by s.toward refl way
    where
      way : RowFits p s.me s.toward
      way = all_found (λ (y : KeptRow). RowFits p y.me y.toward) kept_row_id k.stored.durable.kept s.me s (rows_fit t whole t.trace part n k up) row

      all : all_acked s ≡ true
      all = acked n k up s row waits

      reported : (d : BranchId) → p.far d < p.far s.me → Reported f s.me d → ⊥
      reported d near (Acks fly) = none_flies _ s.me d fly
      reported d near (Is_released fly) = none_flies _ d s.me fly
      reported d near (Is_noted r holds) = again d r near

      by : (o : Option BranchId) → s.toward ≡ o → RowFits p s.me s.toward → ⊥
      by None none fits =
          let holds : RowHolds (events_of t) s = all_found (RowHolds (events_of t)) kept_row_id k.stored.durable.kept s.me s (rows_hold t whole n k up) row in
          let some : all_acked s ≡ false = holds.site none waits.0 waits.1 in
          absurd (cc (all, some))
      by (Some d) toward (inr site) = (let none = site.0 in absurd (cc (none, toward)))
      by (Some d) toward (inl on) =
          let both : Some (p.toward s.me) ≡ Some d = sym on.0 ∙ toward in
          let it : p.toward s.me ≡ d = cc in
          reported d (subst (λ b. p.far b < p.far s.me) it ((runs_have_forests t whole).nearer s.me on.1 on.2))
          (all_found (ReportsSo f) kept_row_id k.stored.durable.kept s.me s (now.reports n tt k up) row waits all d toward)

  forgot : (fuel : ℕ) (n : ℕ) (k : NodeState) → node_at f n ≡ Some k → (s : KeptRow) → kept_row_at k s.me ≡ Some s → IsToForget s → p.far s.me ≤ fuel → ⊥
  forgot zero n k up s row waits low = one_forgot n k up s row waits (λ d r near. absurd (omega (arith, near, low)))
  forgot (suc w) n k up s row waits low = one_forgot n k up s row waits (λ d r near.
      forgot w d.node r.node r.up r.row (its_row d r) r.waits (subst (λ b. p.far b ≤ w) (sym (item_is kept_row_id r.node.stored.durable.kept d r.row r.found)) (omega (arith, near, low))))

  nothing_to_forget : NothingToForget f
  nothing_to_forget n k up =
      all_weaker (λ s. kept_row_at k s.me ≡ Some s) (λ s. knows_commit s.decision ≡ true → s.forgot ≡ true) (λ s found knows. by s found knows s.forgot refl) k.stored.durable.kept (rows_found t whole n k up)
    where
      by : (s : KeptRow) → kept_row_at k s.me ≡ Some s → knows_commit s.decision ≡ true → (w : Bool) → s.forgot ≡ w → s.forgot ≡ true
      by s found knows true is = is
      by s found knows false is = absurd (forgot (p.far s.me) n k up s found (knows, is) (omega arith))

pub owed_are_forgotten : OwedAreForgotten
owed_are_forgotten t whole now still = nothing_to_forget t whole now still
