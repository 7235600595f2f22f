-- Whom a row names off toward is beyond, by the forest of the run.
use Rattle.std.proofs.Common.{◌≡◌, ◌≢◌, ℕ, List, [], Option, Some, None, inl, inr, ◌∙◌, append-nil}
use Rattle.std.specs.List.{AllByRecursion}
use Rattle.commit_forget.specs.declared.next.Beyond.{Beyond as Neighbor}
use Rattle.commit_forget.specs.Beyond.{beyond}
use Rattle.agreement.specs.Events.{Forest, Event, Exit, Sealed, Decided, Dropped, Beyond, exit}
use Rattle.agreement.proofs.Invariant.{Inv}
use Rattle.node_rules.specs.Data.{BranchId, Decision, KeptRow}
use Rattle.node_rules.specs.Data.decisions
use Rattle.node_rules.specs.NodeState.{NodeState}
use Rattle.run_base_laws.specs.BirthLaws.{Began, KeptIs}
use Rattle.run_base_laws.specs.EventRows.{RowIs, IsKnown}
use Rattle.run_rules.specs.Facts.{node_at}
use Rattle.run_rules.specs.Lawful.{History, IsLawfulRun, facts_at}
use Rattle.run_base_laws.proofs.BirthRunLemmas.{nodes_name_the_born}
use Rattle.run_base_laws.proofs.EventsStandLemmas.{nodes_are_as_events}
use Rattle.run_rules.proofs.ListLemmas.{all_weaker}
use Rattle.run_base_laws.proofs.TurnEventLemmas.{all_both}
use Rattle.tree_laws.specs.Forests.{forest_of}
use Rattle.tree_laws.proofs.TimeLemmas.{Part}
use Rattle.commit_forget_laws.specs.RowLaws.{IsSealed}
use Rattle.tree_laws.proofs.MoreLemmas.{inv_at}
use Rattle.tree_laws.proofs.FitRowLemmas.{RowFits, rows_fit}
use Rattle.commit_forget_laws.proofs.WayLemmas.{child_beyond, parent_beyond}
use Rattle.commit_forget_laws.proofs.NearLemmas.{IsOff, beyond_off}
use Rattle.settle_laws.specs.RowLaws.{RowHolds}
use Rattle.settle_laws.specs.OverLaws.{NamedOffAreBeyond}
use Rattle.settle_laws.proofs.RowLemmas.{rows_hold, neighbor_off}
use Rattle.tree_laws.proofs.AtPart.{at_end}

-- a row's branch was sealed or decided
pub row_left : (p : Forest) (e : List Event) → Inv p e → (s : KeptRow) → RowIs e s → (z : Exit) × (exit e s.me ≡ Some z) × (z ≢ Dropped)
row_left p e i s row = by s.decision row.known
  where
    by : (d : Option Decision) → IsKnown e s d → (z : Exit) × (exit e s.me ≡ Some z) × (z ≢ Dropped)
    by None is = (Sealed s.scn, is.0, λ no. absurd cc)
    by (Some (decisions.Commit m)) (inl decided) = (Decided m, decided, λ no. absurd cc)
    by (Some (decisions.Commit m)) (inr learnt) = (let sealed = i.learned_sealed s.me (decisions.Commit m) learnt in (Sealed sealed.0, sealed.1, λ no. absurd cc))
    by (Some decisions.Rollback) is = (let sealed = i.learned_sealed s.me decisions.Rollback is in (Sealed sealed.0, sealed.1, λ no. absurd cc))

module _ (t : History) (whole : IsLawfulRun t) where
  open at_end t use {e, forest as p, bs}

  part : Part t whole t.trace
  part = record { rest = []; is = append-nil t.trace }

  -- a neighbour that is off, and is sealed, is beyond
  off_beyond : (s : KeptRow) (born : KeptIs (Began bs) s) → RowIs e s → RowFits p s.me s.toward → (z : BranchId) → IsOff (Began bs) s born z → IsSealed e z → Beyond p z s.me
  off_beyond s born row way z off sealed =
      let left = row_left p e (inv_at t whole t.trace part) s row in
      elim off.1 [
        | inl above ↦ parent_beyond t whole s.me z s.toward way off.0 (born.born, born.began, born.is_me, born.is_parent ∙ above) left.0 left.1 left.2
        | inr below ↦ child_beyond t whole s.me z s.toward way off.0 below (Sealed sealed.0) sealed.1 (λ no. absurd cc)
      ]

  pub row_beyond : (s : KeptRow) → KeptIs (Began bs) s → RowIs e s → RowFits p s.me s.toward → RowHolds e s → AllByRecursion (λ (y : Neighbor). Beyond p y.branch s.me) (beyond s)
  row_beyond s born row way holds =
      all_weaker (λ (y : Neighbor). IsOff (Began bs) s born y.branch × IsSealed e y.branch) (λ (y : Neighbor). Beyond p y.branch s.me) (λ y so. off_beyond s born row way y.branch so.0 so.1) (beyond s)
      (all_both (λ (y : Neighbor). IsOff (Began bs) s born y.branch) (λ (y : Neighbor). IsSealed e y.branch) (beyond s) (beyond_off (Began bs) s born) holds.sealed)

  pub rows_beyond : (n : ℕ) (k : NodeState) → node_at (facts_at t) n ≡ Some k → AllByRecursion (λ s. AllByRecursion (λ (y : Neighbor). Beyond p y.branch s.me) (beyond s)) k.stored.durable.kept
  rows_beyond n k up =
      all_weaker (λ s. (KeptIs (Began bs) s × RowIs e s) × (RowFits p s.me s.toward × RowHolds e s)) _ (λ s so. row_beyond s so.0.0 so.0.1 so.1.0 so.1.1) k.stored.durable.kept
      (all_both _ _ k.stored.durable.kept (all_both _ _ k.stored.durable.kept (nodes_name_the_born t whole n k up).1 (nodes_are_as_events t whole n k up).1)
      (all_both _ _ k.stored.durable.kept (rows_fit t whole t.trace part n k up) (rows_hold t whole n k up)))

pub named_off_are_beyond : NamedOffAreBeyond
named_off_are_beyond t whole n k up =
    all_weaker _ _ (λ s all z is off. neighbor_off (λ b. Beyond (forest_of t) b s.me) z s off is all) k.stored.durable.kept (rows_beyond t whole n k up)
