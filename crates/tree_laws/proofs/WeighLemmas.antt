-- In every lawful run a live child of a live branch that waits for nothing rests, and weighs what the branch holds of it.
use Rattle.std.proofs.Common.{◌≡◌, ◌≢◌, ℕ, ◌≤◌, List, Some, None, inl, inr, sym, ap, subst, subst₂, ◌∙◌}
use Rattle.session_tree.specs.Live.{children_of}
use Rattle.node_rules.specs.Data.{BranchId, Edge, Post}
use Rattle.node_rules.specs.Words.{numbered}
use Rattle.node_rules.specs.NodeState.{NodeState, Branch, live_id, branch_at}
use Rattle.node_rules.proofs.StandLemmas.{live_so}
use Rattle.run_rules.specs.Births.{births_of}
use Rattle.run_base_laws.specs.BirthLaws.{Began, LiveIs}
use Rattle.run_rules.specs.Facts.{node_at}
use Rattle.run_rules.specs.Lawful.{History, IsLawfulRun, facts_at}
use Rattle.run_base_laws.specs.InTurnLaws.{said_in, newest_exec, call_at, NeedsNoRollback}
use Rattle.run_base_laws.proofs.BirthRunLemmas.{nodes_name_the_born}
use Rattle.run_base_laws.proofs.InTurnLemmas.{none_waits}
use Rattle.run_base_laws.proofs.InTurnRunLemmas.{branches_call_in_turn, edges_fit}
use Rattle.run_base_laws.proofs.KidLemmas.{child_of, parent_of, above_of}
use Rattle.run_base_laws.proofs.OwnLemmas.{all_found}
use Rattle.tree_laws.specs.WeightLaws.{ToldWeight}
use Rattle.tree_laws.proofs.VoterLemmas.{mapped_at}
use Rattle.tree_laws.proofs.WeightRunLemmas.{replies_tell_weights, edges_hold_weights}
use Rattle.tree_laws.specs.WeighLaws.{ChildRests, ChildrenWeigh}
use Rattle.tree_laws.proofs.CalledLemmas.{edges_were_called}

module _ (t : History) (lawful : IsLawfulRun t) where
  -- what a live branch says of its place is as it began
  pub placed_of : (n : ℕ) (k : NodeState) → node_at (facts_at t) n ≡ Some k → (x : Branch) → branch_at k x.live.me ≡ Some x → LiveIs (Began (births_of t)) x.live
  placed_of n k up x found = all_found (LiveIs (Began (births_of t))) live_id k.lives x.live.me x.live (nodes_name_the_born t lawful n k up).0 (live_so k x.live.me x found)

  -- a child of a live branch has it as its parent
  pub child_parent : (n : ℕ) (k : NodeState) → node_at (facts_at t) n ≡ Some k → (x : Branch) → branch_at k x.live.me ≡ Some x → (i : ℕ) (c : BranchId) → numbered (children_of x.live) i ≡ Some c
      → (m : ℕ) (j : NodeState) → node_at (facts_at t) m ≡ Some j → (y : Branch) → branch_at j y.live.me ≡ Some y → y.live.me ≡ c → y.live.parent ≡ Some x.live.me
  child_parent n k up x found i c at m j there y live me =
      above_of (births_of t) y.live (placed_of m j there y live) x.live.me (ap (parent_of (births_of t)) me ∙ child_of (births_of t) x.live (placed_of n k up x found) i c at)

  module _ (n : ℕ) (k : NodeState) (up : node_at (facts_at t) n ≡ Some k) (x : Branch) (found : branch_at k x.live.me ≡ Some x) (goes : NeedsNoRollback k x.live) (rests : x.work.going ≡ None) (i : ℕ) (e : Edge) (at : numbered x.live.edges i ≡ Some e)
      (m : ℕ) (j : NodeState) (there : node_at (facts_at t) m ≡ Some j) (y : Branch) (live : branch_at j y.live.me ≡ Some y) (me : y.live.me ≡ e.peer) where
    abbrev said : List Post
    said = said_in (facts_at t)

    peer_at : numbered (children_of x.live) i ≡ Some e.peer
    peer_at = mapped_at (λ (z : Edge). z.peer) x.live.edges i e at

    -- it took the last call, and waits for nothing
    fits : (y.work.came.last_call ≡ call_at x.work i) × (y.work.going ≡ None)
    fits = elim ((edges_fit t lawful n k up x found i e.peer peer_at m j there y live me).rests goes) [ inl waits ↦ absurd (none_waits i x.work.going rests waits) | inr so ↦ so ]

    told : ToldWeight said e.peer (call_at x.work i) e.weight
    told = elim ((edges_hold_weights t lawful n k up x found).held goes i e at) [ inl waits ↦ absurd (none_waits i x.work.going rests waits) | inr so ↦ so ]

    tells : ToldWeight said y.live.me y.work.came.last_call e.weight
    tells = subst₂ (λ b c. ToldWeight said b c e.weight) (sym me) (sym fits.0) told

    below : y.live.parent ≢ None
    below none = let above : y.live.parent ≡ Some x.live.me = child_parent n k up x found i e.peer peer_at m j there y live me in absurd (cc (above, none))

    pub child_rests : ChildRests t x e y
    child_rests = record {
      weighs = (replies_tell_weights t lawful m j there y live).told below (subst (λ c. 1 ≤ c) (sym fits.0) (edges_were_called t lawful n k up x found i e at)) fits.1 e.weight tells;
      waits = fits.1;
      last = ap (λ b. newest_exec said x.live.me b) me ∙ ((branches_call_in_turn t lawful n k up x found).1.made i e.peer peer_at ∙ sym fits.0);
    }

pub children_weigh : ChildrenWeigh
children_weigh t lawful n k up x found goes rests i e at m j there y live me = child_rests t lawful n k up x found goes rests i e at m j there y live me
