-- A branch whose collect is over, at the turn in which it passes CommitPoint on or finds no changes: each of its children has
-- voted, is gone without changes, or said Ready and was told that the walk comes there.
use Rattle.std.proofs.Common.{◌≡◌, ◌≢◌, ℕ, ◌⊎◌, Bool, true, false, List, [], ◌∷◌, map, Some, inl, inr, refl, sym, ap, subst}
use Rattle.std.specs.List.{AllByRecursion, list_any}
use Rattle.std.proofs.lemmas.Bool.{cond_both, and_parts, not-true}
use Rattle.tran_ids.proofs.BranchLemmas.{equal_from_same}
use Rattle.agreement.specs.Events.{Event, Quiet, Send_vote, exit, Has}
use Rattle.node_rules.specs.Data.{BranchId, Edge, Kind, Live, Act, Phase, Post, Vote}
use Rattle.node_rules.specs.Data.acts
use Rattle.node_rules.specs.Data.kinds
use Rattle.node_rules.specs.Data.phases
use Rattle.node_rules.specs.Data.votes
use Rattle.node_rules.specs.Inputs.{Came}
use Rattle.node_rules.specs.NodeState.{NodeState, live_id, live_at}
use Rattle.node_rules.specs.Points.{is_ready}
use Rattle.node_rules.specs.Prepare.{with_prepare_sent, is_awaited, answers_first, has_voted, voted}
use Rattle.node_rules.specs.Turn.{heard}
use Rattle.node_rules.specs.Words.{same}
use Rattle.node_rules.proofs.Steps as steps
use Rattle.node_rules.proofs.Steps.{Acting, vote_kind}
use Rattle.run_rules.specs.Data.{Turn, Happening}
use Rattle.run_branch_laws.specs.HeardLaws.{AnswersAre, EdgeIs, QuietIs, VoteIs}
use Rattle.run_rules.specs.Lawful.{MayTurn, History, IsLawfulRun}
use Rattle.run_branch_laws.specs.PhaseLaws.{IsNoAbort, PhaseFits}
use Rattle.run_branch_laws.specs.WalkLaws.{is_below, was_sent}
use Rattle.run_base_laws.proofs.BirthsStandLemmas.{came_so}
use Rattle.run_base_laws.proofs.EventsStandLemmas.{run_stands}
use Rattle.run_branch_laws.proofs.HeardStandLemmas.{answers_are_true, quiets_are_gone}
use Rattle.run_base_laws.proofs.OwnLemmas.{all_found}
use Rattle.run_branch_laws.proofs.PhaseLemmas.{phases_fit}
use Rattle.run_base_laws.proofs.SaidLemmas.{came_said}
use Rattle.run_base_laws.proofs.TurnEventLemmas.{all_both}
use Rattle.tree_laws.specs.AnswerLaws.{EdgeTold, AnswersTold, ReadyIs}
use Rattle.tree_laws.proofs.AnswerRunLemmas.{answers_are_as_told}
use Rattle.tree_laws.proofs.AskRunLemmas.{sent_from}
use Rattle.tree_laws.proofs.BeyondLemmas.{none_awaited}
use Rattle.tree_laws.proofs.PrefixLemmas.{so_far, f_at}
use Rattle.tree_laws.proofs.SettleLemmas.{live_in}
use Rattle.tree_laws.proofs.WhyLemmas.{Near}
use Rattle.commit_point_laws.proofs.SaidReadyLemmas.{ready_were_said}
use Rattle.tree_laws.proofs.AtPart.{at_part}

-- an act of a branch whose collect is over, on the walk or at the root
pub data Over : Act → Type 0 where
  Passes_on : (i : ℕ) → Over (acts.SealAndPass i)
  Finishes : Over acts.Finish

module _ (e : List Event) (said : List Post) (me : BranchId) where
  -- The child has voted, is gone without changes, or said Ready and was told that the walk comes there.
  abbrev pub EdgeOver : Edge → Type 0
  EdgeOver x = ((j : ℕ) × Has (Send_vote x.peer j) e) ⊎ ((exit e x.peer ≡ Some Quiet) ⊎ ((was_sent is_ready said x.peer me ≡ true) × (was_sent is_below said me x.peer ≡ true)))

  -- what is known of an answer
  abbrev Heard : ℕ → Phase → Edge → Type 0
  Heard clock phase x = (EdgeIs e clock x × EdgeTold said me phase x) × ((x.vote ≡ votes.Ready → was_sent is_ready said x.peer me ≡ true) × IsNoAbort x)

  -- that is not waited for
  over_old : (clock : ℕ) (phase : Phase) → phase ≢ phases.Working → (x : Edge) → Heard clock phase x → is_awaited x.vote ≡ false → EdgeOver x
  over_old clock phase other x so done = by x.vote refl so.0.0
    where
      by : (v : Vote) → x.vote ≡ v → VoteIs e clock x.peer v → EdgeOver x
      by votes.Unasked at is = absurd (so.0.1.asked other at)
      by votes.Asked at is = (let waits : is_awaited x.vote ≡ true = ap is_awaited at in absurd (cc (waits, done)))
      by votes.Prepared at is = inl (is.0, is.1)
      by votes.ReadOnly at is = inr (inl is)
      by votes.Ready at is = inr (inr (so.1.0 at, so.0.1.ready at))
      by votes.Abort at is = absurd (so.1.1 at)

  -- with the answer that completes the collect
  module _ (clock : ℕ) (phase : Phase) (other : phase ≢ phases.Working) (from : BranchId) (v : Vote) (new : (x : Edge) → x.peer ≡ from → EdgeOver (record x { vote = v })) where
    voted_one : (x : Edge) → Heard clock phase x → is_awaited (has_voted from v x).vote ≡ false → EdgeOver (has_voted from v x)
    voted_one x so =
        cond_both (answers_first from x) (record x { vote = v }) x (λ y. is_awaited y.vote ≡ false → EdgeOver y)
        (λ first done. new x (equal_from_same x.peer from (and_parts (same x.peer from) (is_awaited x.vote) first).0)) (λ again done. over_old clock phase other x so done)

    voted_over : (xs : List Edge) → AllByRecursion (Heard clock phase) xs → AllByRecursion (λ x. is_awaited x.vote ≡ false) (map (has_voted from v) xs) → AllByRecursion EdgeOver (map (has_voted from v) xs)
    voted_over [] all done = tt
    voted_over (x ∷ xs) all done = (voted_one x all.0 done.0, voted_over xs all.1 done.1)

  all_over : (clock : ℕ) (phase : Phase) → phase ≢ phases.Working → (xs : List Edge) → AllByRecursion (Heard clock phase) xs → AllByRecursion (λ x. is_awaited x.vote ≡ false) xs → AllByRecursion EdgeOver xs
  all_over clock phase other [] all done = tt
  all_over clock phase other (x ∷ xs) all done = (over_old clock phase other x all.0 done.0, all_over clock phase other xs all.1 done.1)

module _ (t : History) (before : List Happening) (lawful : IsLawfulRun (so_far t before)) (u : Turn) (k : NodeState) (may : MayTurn t.places (f_at t before) u k) where
  open at_part t before use {s, f, e, said}

  abbrev k0 : NodeState
  k0 = heard k u.input

  fits : (l : Live) → live_at k l.me ≡ Some l → PhaseFits l.parent l.edges l.phase
  fits l live = all_found (λ (x : Live). PhaseFits x.parent x.edges x.phase) live_id k.lives l.me l (phases_fit s lawful u.node k may.up) live

  heard_all : (l : Live) → live_at k l.me ≡ Some l → AllByRecursion IsNoAbort l.edges → AllByRecursion (Heard e said l.me k.clock l.phase) l.edges
  heard_all l live no_abort =
      let true_so : AllByRecursion (EdgeIs e k.clock) l.edges = all_found (AnswersAre e k.clock) live_id k.lives l.me l (answers_are_true s lawful u.node k may.up) live in
      let told : AllByRecursion (EdgeTold said l.me l.phase) l.edges = all_found (AnswersTold said) live_id k.lives l.me l ((answers_are_as_told s lawful).0 u.node k may.up) live in
      all_both (λ (x : Edge). EdgeIs e k.clock x × EdgeTold said l.me l.phase x) (λ (x : Edge). (x.vote ≡ votes.Ready → was_sent is_ready said x.peer l.me ≡ true) × IsNoAbort x) l.edges (all_both (EdgeIs e k.clock) (EdgeTold said l.me l.phase) l.edges true_so told)
      (all_both (λ (x : Edge). x.vote ≡ votes.Ready → was_sent is_ready said x.peer l.me ≡ true) IsNoAbort l.edges (ready_were_said s lawful u.node k may.up l live) no_abort)

  -- an answer that came
  vote_over : (from me : BranchId) (v : Vote) (kind : Kind) → vote_kind v ≡ Some kind → v ≢ votes.Abort → Came u.input from me kind → (x : Edge) → x.peer ≡ from → EdgeOver e said me (record x { vote = v })
  vote_over from me votes.Prepared kinds.Prepared is other came x peer = inl (came.scn, subst (λ b. Has (Send_vote b came.scn) e) (sym peer) (came_said f e (run_stands s lawful).2 k u.node u.input u.took may.comes from me kinds.Prepared came))
  vote_over from me votes.Prepared _ is other came x peer = absurd cc
  vote_over from me votes.ReadOnly kinds.ReadOnly is other came x peer =
      inr (inl (subst (λ b. exit e b ≡ Some Quiet) (sym peer) (came_so (λ a b kind. QuietIs e a kind) f (quiets_are_gone s lawful) k u.node u.input u.took may.comes from me kinds.ReadOnly came)))
  vote_over from me votes.ReadOnly _ is other came x peer = absurd cc
  vote_over from me votes.Ready kinds.Ready is other came x peer =
      let ready : was_sent is_ready said from me ≡ true = came_so (λ a b kind. is_ready kind ≡ true → was_sent is_ready said a b ≡ true) f (sent_from is_ready f.net.packets) k u.node u.input u.took may.comes from me kinds.Ready came refl in
      let told : was_sent is_below said me from ≡ true = came_so (ReadyIs said) f (answers_are_as_told s lawful).1 k u.node u.input u.took may.comes from me kinds.Ready came in
      inr (inr (subst (λ b. was_sent is_ready said b me ≡ true) (sym peer) ready, subst (λ b. was_sent is_below said me b ≡ true) (sym peer) told))
  vote_over from me votes.Ready _ is other came x peer = absurd cc
  vote_over from me votes.Abort kind is other came x peer = absurd (other refl)
  vote_over from me votes.Unasked kind is other came x peer = absurd cc
  vote_over from me votes.Asked kind is other came x peer = absurd cc

  pub edges_over : (at : NodeState) → Near k0 at → {l : Live} {b : Bool} {a : Act} → Acting at u.input l b a → Over a → AllByRecursion (EdgeOver e said l.me) l.edges
  edges_over at near (steps.Asks_down l comment b y ys live begins has) over = elim over [ ]
  edges_over at near (steps.Has_no_children l comment b a live begins none collected) over = subst (λ (xs : List Edge). AllByRecursion (EdgeOver e said l.me) (map with_prepare_sent xs)) (sym none) tt
  edges_over at near (steps.Hears_abort l from b live answers) over = elim over [ ]
  edges_over at near (steps.Waits_on l from v b live answers other some) over = elim over [ ]
  edges_over at near (steps.Hears_last l from v b a live answers other all_so collected) over =
      let here : live_at k l.me ≡ Some l = live_in t before lawful u k may at near l live in
      let phase : l.phase ≡ phases.Collecting b = answers.collecting in
      let busy : l.phase ≢ phases.Working = (λ is. absurd (cc (phase, is))) in
      let no_abort : PhaseFits l.parent l.edges (phases.Collecting b) = subst (PhaseFits l.parent l.edges) phase (fits l here) in
      voted_over e said l.me k.clock l.phase busy from v (vote_over from l.me v answers.kind answers.is_vote other answers.came) l.edges (heard_all l here no_abort.0)
      (none_awaited (voted l from v).edges (not-true (list_any (λ y. is_awaited y.vote) (voted l from v).edges) all_so))
  edges_over at near (steps.At_point l from a live came is pointed) over =
      let here : live_at k l.me ≡ Some l = live_in t before lawful u k may at near l live in
      let busy : l.phase ≢ phases.Working = (λ working. absurd (cc (is, working))) in
      let fit : PhaseFits l.parent l.edges phases.Ready = subst (PhaseFits l.parent l.edges) is (fits l here) in
      all_over e said l.me k.clock l.phase busy l.edges (heard_all l here fit.0) (none_awaited l.edges fit.1)
