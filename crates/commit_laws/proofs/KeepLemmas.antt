-- A live branch that is not working, and waits for no answer of a child, stays so in each step of its node where it stays live.
use Rattle.std.proofs.Common.{◌≡◌, ◌≢◌, ℕ, Bool, false, List, [], ◌∷◌, map, Option, Some, None, refl, sym, ap, ◌∙◌}
use Rattle.std.specs.List.{AllByRecursion}
use Rattle.std.proofs.lemmas.Bool.{cond_both}
use Rattle.session_tree.specs.Live.{new_edge}
use Rattle.node_rules.specs.Data.{Live, BranchId, Edge, Kind, Vote, Place, Input}
use Rattle.node_rules.specs.Data.phases
use Rattle.node_rules.specs.Data.votes
use Rattle.node_rules.specs.Words.{numbered, set_numbered}
use Rattle.node_rules.specs.NodeState.{NodeState, TurnDraft, live_at}
use Rattle.node_rules.specs.Prepare.{voted, has_voted, answers_first, is_awaited}
use Rattle.node_rules.proofs.Steps as steps
use Rattle.node_rules.proofs.Steps.{Step, Collects, vote_kind}
use Rattle.run_rules.proofs.ListLemmas.{all_weaker, all_append, all_map}
use Rattle.run_base_laws.proofs.NeighborLemmas.{News, reply_is}
use Rattle.run_base_laws.proofs.NeighborStepLemmas.{news_lasts}
use Rattle.run_base_laws.proofs.LiveStepLemmas.{LiveCases, both_last, acting_by, left_by, lives_on}
use Rattle.commit_laws.proofs.CommitCallLemmas.{OfCommit, commit_lasts}
use Rattle.commit_laws.proofs.NetLemmas.{numbered_all, set_all}

-- no answer of a child is waited for, where one is named
abbrev pub Has : Option BranchId → Edge → Type 0
Has None e = Unit {0}
Has (Some c) e = e.peer ≡ c → is_awaited e.vote ≡ false

-- A branch is not working, and waits for no answer of this child, where one is named.
pub record Served (c : Option BranchId) (l : Live) : Type 0 where
  pub busy : l.phase ≢ phases.Working
  pub has : AllByRecursion (Has c) l.edges

-- an answer that comes leaves it so
came_edge : (c : Option BranchId) (from : BranchId) (v : Vote) (e : Edge) → is_awaited v ≡ false → Has c e → Has c (has_voted from v e)
came_edge None from v e done has = tt
came_edge (Some c) from v e done has = cond_both (answers_first from e) (record e { vote = v }) e (Has (Some c)) (λ first is. done) (λ other. has)

pub came_edges : (c : Option BranchId) (from : BranchId) (v : Vote) (es : List Edge) → is_awaited v ≡ false → AllByRecursion (Has c) es → AllByRecursion (Has c) (map (has_voted from v) es)
came_edges c from v es done all = all_map (Has c) (has_voted from v) es (all_weaker (Has c) _ (λ e has. came_edge c from v e done has) es all)

fresh_edge : (c : Option BranchId) (from : BranchId) (link : List ℕ) (strength : ℕ) → Has c (new_edge from link strength)
fresh_edge None from link strength = tt
fresh_edge (Some c) from link strength = λ peer. refl

same_edge : (c : Option BranchId) (e x : Edge) → x.peer ≡ e.peer → x.vote ≡ e.vote → Has c e → Has c x
same_edge None e x peer vote was = tt
same_edge (Some c) e x peer vote was = λ is. ap is_awaited vote ∙ was (sym peer ∙ is)

-- a vote is no wait
vote_done : (v : Vote) (kind : Kind) → vote_kind v ≡ Some kind → is_awaited v ≡ false
vote_done votes.Prepared kind is = refl
vote_done votes.ReadOnly kind is = refl
vote_done votes.Ready kind is = refl
vote_done votes.Abort kind is = refl
vote_done votes.Unasked kind is = absurd cc
vote_done votes.Asked kind is = absurd cc

-- an edge of which more is known
known_edges : (c : Option BranchId) (es : List Edge) (i : ℕ) (e x : Edge) → numbered es i ≡ Some e → x.peer ≡ e.peer → x.vote ≡ e.vote → AllByRecursion (Has c) es → AllByRecursion (Has c) (set_numbered es i x)
known_edges c es i e x at peer vote all =
    set_all (Has c) es i x all (same_edge c e x peer vote (numbered_all (Has c) es i e all at))

module _ (b : BranchId) (c : Option BranchId) (p : Place) (input : Input) where
  abbrev pub IfMe : Live → Type 0
  IfMe l = l.me ≡ b → Served c l

  abbrev pub AllServed : NodeState → Type 0
  AllServed k = AllByRecursion IfMe k.lives

  -- no COMMIT comes to the branch
  abbrev pub CallsOther : NodeState → Type 0
  CallsOther k = OfCommit (λ l. l.me ≢ b) p input k

  begins_not : (k : NodeState) (l : Live) {comment : List ℕ} {below : Bool} → CallsOther k → live_at k l.me ≡ Some l → Collects k input l comment below → IfMe l → l.me ≢ b
  begins_not k l other live (steps.By_commit n given call has code writer is) so = other n given l call has live
  begins_not k l other live (steps.By_prepare from _ came working) so = λ is. (so is).busy working

  voted_so : (l : Live) (from : BranchId) (v : Vote) {below : Bool} → steps.Answers input l from v below → IfMe l → IfMe (voted l from v)
  voted_so l from v answers so is = let old : Served c l = so is in record { busy = old.busy; has = came_edges c from v l.edges (vote_done v answers.kind answers.is_vote) old.has }

  abbrev Known : NodeState → Type 0
  Known k = News (λ y. y.me ≢ b) p input k × CallsOther k

  each : LiveCases p input Known (λ d. Unit {0}) IfMe
  each = record {
    lasts = both_last (news_lasts (λ y. y.me ≢ b) p input) (commit_lasts (λ l. l.me ≢ b) p input);
    root = λ k n s read_at call begins free known is. absurd (known.0.root n s read_at call begins free is);
    child = λ k to parent edge root depth read_at came new known is. absurd (known.0.child to parent edge root depth read_at came new is);
    advised = λ l advice so is. (let old : Served c l = so is in record { busy = old.busy; has = old.has });
    runs = λ k x s t so is. (let old : Served c x.live = so is in record { busy = old.busy; has = old.has });
    backs = λ l changed so is. (let old : Served c l = so is in record { busy = old.busy; has = old.has });
    opens = λ k x from strength g link opened known so is.
        (let old : Served c x.live = so is in record { busy = old.busy; has = all_append (Has c) x.live.edges (new_edge from link strength ∷ []) old.has (fresh_edge c from link strength, tt) });
    replies = λ k x weight count a i e answered so is.
        (let old : Served c x.live = so is in record { busy = old.busy; has = known_edges c x.live.edges i e _ (reply_is x answered.from answered.call i e answered.waits) refl refl old.has });
    acts = λ k l below a why known q all.
        left_by IfMe l a (λ says so is. (let old : Served c l = so is in record { busy = λ working. absurd cc; has = old.has }))
        (acting_by IfMe (λ x comment b live begins so is. absurd (begins_not k x known.1 live begins so is)) (λ x from v b answers so. voted_so x from v answers so) all why);
  }

  pub served_on : {k : NodeState} {d : TurnDraft} → Step p input k d → News (λ y. y.me ≢ b) p input k → CallsOther k → AllServed k → AllServed d.after
  served_on step news other now = lives_on each step (news, other) tt now
