-- While a call is pending, what holds of its node after the turn that the call comes in, and stays so in each later turn of the
-- node, holds until the call ends: an induction over the happenings in between.
use Rattle.std.proofs.Common.{◌≡◌, ℕ, zero, suc, ◌+◌, ◌-◌, ◌<◌, ◌≤◌, Bool, true, false, length, slice_get, Option, Some, None, inl, inr, refl, sym, ap, subst, ◌∙◌, arith}
use Rattle.node_rules.specs.NodeState.{NodeState, TurnOutput}
use Rattle.node_rules.specs.Turn.{turn_of}
use Rattle.run_rules.specs.Data.{Happening, Turn}
use Rattle.run_rules.specs.Data.happenings
use Rattle.run_rules.specs.Facts.{Facts, node_at, place_at, kept_after, facts_after}
use Rattle.run_rules.specs.Scripts.{IsTheRunOf}
use Rattle.run_rules.specs.Lawful.{History, MayTurn}
use Rattle.run_claims.specs.Places.{past_upto}
use Rattle.run_rules.specs.RunReport.{Call, Past}
use Rattle.run_rules.proofs.AtNodeLemmas.{turn_elsewhere, stop_elsewhere, start_elsewhere, turn_here, stop_here}
use Rattle.run_rules.proofs.FactLemmas.{facts_next}
use Rattle.run_base_laws.proofs.TurnEventLemmas.{cases_nat}
use Rattle.run_ready_laws.proofs.PendingLemmas.{called_at, there_called}
use Rattle.answer_origin_laws.specs.CallTurns.{CameBefore}
use Rattle.answer_origin_laws.proofs.ComeLemmas.{below_or}
use Rattle.answer_origin_laws.proofs.UptoLemmas.{one_more, none_more, stand_at, may_at}

-- A turn of a node that is not cut off, and what the node keeps before and after it.
pub record WholeTurn (t : History) (n j : ℕ) (u : Turn) (k : NodeState) : Type 0 where
  pub there : slice_get t.trace j ≡ Some (happenings.Turn u)
  pub here : u.node ≡ n
  pub uncut : u.cut ≡ false
  pub may : MayTurn t.places (past_upto t j).facts u k
  pub after : node_at (past_upto t (j + 1)).facts n ≡ Some (turn_of (place_at t.places u.node) k u.input).after

module _ (t : History) (run : IsTheRunOf t) (bound n s : ℕ) (c : Call) (came : CameBefore t bound n s c) where
  -- what the node keeps when the call comes
  abbrev pub at_first : (k : NodeState) × MayTurn t.places (past_upto t came.moment).facts came.turn.turn k
  at_first = may_at t run came.moment (happenings.Turn came.turn.turn) came.turn.there

  module _ (P : NodeState → Type 0)
      (first : came.moment + 1 < bound → WholeTurn t n came.moment came.turn.turn at_first.0 → P (turn_of (place_at t.places came.turn.turn.node) at_first.0 came.turn.turn.input).after)
      (later : (j : ℕ) → came.moment < j → j + 1 < bound → (u : Turn) (k : NodeState) → WholeTurn t n j u k → P k → P (turn_of (place_at t.places u.node) k u.input).after) where
    abbrev Holds : ℕ → Type 0
    Holds j = (k : NodeState) → node_at (past_upto t j).facts n ≡ Some k → P k

    module _ (j : ℕ) (from : came.moment ≤ j) (below : j + 1 < bound) (now : came.moment < j → Holds j) where
      abbrev p : Past
      p = past_upto t j

      even : length p.facts.nodes ≡ length p.facts.records
      even = (stand_at t run j).born.0.0.even

      -- only its own turn is that of the moment
      later_than : (h : Happening) → slice_get t.trace j ≡ Some h → ((u : Turn) → h ≡ happenings.Turn u → u.node ≡ n → ⊥) → came.moment < j
      later_than h there none = elim (below_or came.moment j (omega (arith, from))) [
        | inl later ↦ later
        | inr same ↦ absurd (none came.turn.turn (let it : Some h ≡ Some (happenings.Turn came.turn.turn) = sym there ∙ (ap (slice_get t.trace) (sym same) ∙ came.turn.there) in let is : h ≡ happenings.Turn came.turn.turn = cc in is) came.turn.here)
      ]

      turn_does : (u : Turn) (k : NodeState) → WholeTurn t n j u k → P (turn_of (place_at t.places u.node) k u.input).after
      turn_does u k turn = elim (below_or came.moment j (omega (arith, from))) [
        | inl low ↦ later j low below u k turn (now low k (ap (node_at p.facts) (sym turn.here) ∙ turn.may.up))
        | inr moment ↦ (let it : Some (happenings.Turn came.turn.turn) ≡ Some (happenings.Turn u) = sym came.turn.there ∙ (ap (slice_get t.trace) moment ∙ turn.there) in
            let same : came.turn.turn ≡ u = cc in
            let up : node_at p.facts u.node ≡ Some at_first.0 = subst (λ i. node_at (past_upto t i).facts u.node ≡ Some at_first.0) moment (subst (λ (v : Turn). node_at (past_upto t came.moment).facts v.node ≡ Some at_first.0) same at_first.1.up) in
            let both : Some at_first.0 ≡ Some k = sym up ∙ turn.may.up in
            let kept : at_first.0 ≡ k = cc in
            let own : WholeTurn t n came.moment came.turn.turn at_first.0
            = subst (λ i. WholeTurn t n i came.turn.turn at_first.0) (sym moment) (subst (λ v. WholeTurn t n j v at_first.0) (sym same) (subst (WholeTurn t n j u) (sym kept) turn)) in
            subst (λ x. P (turn_of (place_at t.places u.node) x u.input).after) kept
            (subst (λ (v : Turn). P (turn_of (place_at t.places v.node) at_first.0 v.input).after) same (first (subst (λ i. i + 1 < bound) (sym moment) below) own)))
      ]

      turned : (u : Turn) → slice_get t.trace j ≡ Some (happenings.Turn u) → (k : NodeState) → node_at (facts_after t.places t.commands p.facts (happenings.Turn u)) n ≡ Some k → node_at (past_upto t (j + 1)).facts n ≡ Some k → P k
      turned u there k up next = elim (cases_nat u.node n) [
        | inr other ↦ (let same = (turn_elsewhere t.places t.commands p.facts even u n other).0 in
            now (later_than (happenings.Turn u) there (λ v is here. (let it : u ≡ v = cc in absurd (other (ap (λ (x : Turn). x.node) it ∙ here))))) k (sym same ∙ up))
        | inl here ↦ by_cut here u.cut refl
      ]
        where
          may : (k : NodeState) × MayTurn t.places p.facts u k
          may = may_at t run j (happenings.Turn u) there

          after : (here : u.node ≡ n) → kept_after u.cut (Some (turn_of (place_at t.places u.node) may.0 u.input)) ≡ Some k
          after here = sym (turn_here t.places t.commands p.facts even u may.0 may.1.up).0 ∙ (ap (node_at (facts_after t.places t.commands p.facts (happenings.Turn u))) here ∙ up)

          by_cut : u.node ≡ n → (q : Bool) → u.cut ≡ q → P k
          by_cut here true cut = absurd (let it : None ≡ Some k = sym (ap (λ q. kept_after q (Some (turn_of (place_at t.places u.node) may.0 u.input))) cut) ∙ after here in cc)
          by_cut here false uncut =
              let o : TurnOutput = turn_of (place_at t.places u.node) may.0 u.input in
              let it : Some o.after ≡ Some k = sym (ap (λ q. kept_after q (Some o)) uncut) ∙ after here in
              let kept : o.after ≡ k = cc in
              subst P kept (turn_does u may.0 (record { there = there; here = here; uncut = uncut; may = may.1; after = next ∙ ap Some (sym kept) }))

      others : (h : Happening) → slice_get t.trace j ≡ Some h → ((u : Turn) → h ≡ happenings.Turn u → ⊥) → (k : NodeState) → node_at p.facts n ≡ Some k → P k
      others h there none k up = now (later_than h there (λ u is here. none u is)) k up

      -- a start finds the node down, where no call is pending
      happens : (h : Happening) → slice_get t.trace j ≡ Some h → (k : NodeState) → node_at (facts_after t.places t.commands p.facts h) n ≡ Some k → node_at (past_upto t (j + 1)).facts n ≡ Some k → P k
      unfolding facts_after
      happens (happenings.Turn u) there k up next = turned u there k up next
      happens (happenings.Stopped m) there k up next = elim (cases_nat m n) [
        | inr other ↦ others (happenings.Stopped m) there (λ u is. absurd cc) k (sym (stop_elsewhere t.places t.commands p.facts even m n other).0 ∙ up)
        | inl here ↦ (let may = may_at t run j (happenings.Stopped m) there in
            let many = (stand_at t run j).so.many in
            let gone : node_at (facts_after t.places t.commands p.facts (happenings.Stopped m)) m ≡ None = (stop_here t.places t.commands p.facts even m may.0.0 (omega (arith, may.0.1, many))).0 in
            let none : node_at (facts_after t.places t.commands p.facts (happenings.Stopped m)) n ≡ None = subst (λ i. node_at (facts_after t.places t.commands p.facts (happenings.Stopped m)) i ≡ None) here gone in
            absurd (cc (none, up)))
      ]
      happens (happenings.Started m boot) there k up next = elim (cases_nat m n) [
        | inr other ↦ others (happenings.Started m boot) there (λ u is. absurd cc) k (sym (start_elsewhere t.places t.commands p.facts even m boot n other).0 ∙ up)
        | inl here ↦ (let may = may_at t run j (happenings.Started m boot) there in
            let down : node_at p.facts n ≡ None = subst (λ i. node_at p.facts i ≡ None) here may.down in
            let none : called_at p.run_report.calls n s ≡ false = (stand_at t run j).so.calls.down n down (λ stop. (let upright = may.settled.upright in absurd (cc (stop, upright)))) s in
            let some : called_at p.run_report.calls n s ≡ true = there_called n s p.run_report.calls c (came.stays j from (omega (arith, below))) in
            absurd (cc (none, some)))
      ]
      happens (happenings.Begun m) there k up next = others (happenings.Begun m) there (λ u is. absurd cc) k up
      happens (happenings.Cut a b) there k up next = others (happenings.Cut a b) there (λ u is. absurd cc) k up
      happens (happenings.Join a b) there k up next = others (happenings.Join a b) there (λ u is. absurd cc) k up
      happens (happenings.Lost x) there k up next = others (happenings.Lost x) there (λ u is. absurd cc) k up

      holds_next : Holds (j + 1)
      holds_next k up = by (slice_get t.trace j) refl
        where
          by : (o : Option Happening) → slice_get t.trace j ≡ o → P k
          by None none =
              let low : came.moment < j = elim (below_or came.moment j (omega (arith, from))) [ inl low ↦ low | inr moment ↦ (let there = ap (slice_get t.trace) (sym moment) ∙ came.turn.there in absurd (cc (none, there))) ] in
              now low k (ap (λ (q : Past). node_at q.facts n) (sym (none_more t j none)) ∙ up)
          by (Some h) there = happens h there k (ap (λ (f : Facts). node_at f n) (sym (ap (λ (q : Past). q.facts) (one_more t j h there) ∙ facts_next t.places t.commands (past_upto t j) h)) ∙ up) up

    holds_on : (d : ℕ) → came.moment + d < bound → came.moment < came.moment + d → Holds (came.moment + d)
    holds_on zero below low = absurd (omega (arith, low))
    holds_on (suc d) below low =
        let one : (came.moment + d) + 1 ≡ came.moment + suc d = omega arith in
        subst Holds one (holds_next (came.moment + d) (omega arith) (omega (arith, below)) (λ more. holds_on d (omega (arith, below)) more))

    pub holds_while_pending : (j : ℕ) → came.moment < j → j < bound → (k : NodeState) → node_at (past_upto t j).facts n ≡ Some k → P k
    holds_while_pending j low below =
        let sum : came.moment + (j - came.moment) ≡ j = omega (arith, low) in
        subst Holds sum (holds_on (j - came.moment) (subst (λ x. x < bound) (sym sum) below) (subst (λ x. came.moment < x) (sym sum) low))
