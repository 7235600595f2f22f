-- Through a calm stretch: where each delivery keeps what is so, it is so at its end of all nodes that recovered in it.
use Rattle.std.proofs.Common.{◌≡◌, ℕ, ◌⊎◌, List, [], ◌∷◌, ◌++◌, inl, inr, refl, sym, subst, ◌∙◌, append-nil}
use Rattle.std.proofs.lemmas.List.{append_assoc}
use Rattle.node_rules.specs.Data.{Msg}
use Rattle.node_rules.specs.Data.inputs
use Rattle.node_rules.specs.NodeState.{NodeState}
use Rattle.run_rules.specs.Data.{Happening, Turn}
use Rattle.run_rules.specs.Data.happenings
use Rattle.run_rules.specs.Facts.{Facts, facts_after}
use Rattle.run_rules.specs.Lawful.{MayTurn, MayHappen, History, IsLawfulRun, facts_at}
use Rattle.run_base_laws.specs.NodeLaws.{EachFactFrom}
use Rattle.run_base_laws.proofs.EventsStandLemmas.{run_stands}
use Rattle.tree_laws.proofs.PrefixLemmas.{so_far, f_at, one_on}
use Rattle.tree_laws.proofs.TimeLemmas.{part_of, part_lawful, may_of}
use Rattle.settle_laws.specs.Interval.{IsCalm, By_reco, By_message, CalmHere, CalmStretch, Recovered, Obliged}
use Rattle.settle_laws.proofs.RecoTurnLemmas.{first_obliged, reco_obliged}

-- of fewer nodes
pub obliged_less : (R Q : ℕ → Type 0) (f : Facts) → ((n : ℕ) → Q n → R n) → Obliged R f → Obliged Q f
obliged_less R Q f each now = record { rows = λ n q. now.rows n (each n q); lives = λ n q. now.lives n (each n q) }

-- what is left to be shown of each delivery in a calm turn
abbrev pub DeliveriesKeep : Type 1
DeliveriesKeep = (s : History) → IsLawfulRun s → (u : Turn) (k : NodeState) → MayTurn s.places (facts_at s) u k → IsCalm (facts_at s) u → (m : Msg) → u.input ≡ inputs.Message m → (R : ℕ → Type 0) → Obliged R (facts_at s)
    → Obliged R (facts_after s.places s.commands (facts_at s) (happenings.Turn u))

module _ (keep : DeliveriesKeep) (t : History) (whole : IsLawfulRun t) where
  one_more : (hs : List Happening) (h : Happening) (rest : List Happening) → hs ++ h ∷ rest ≡ t.trace → (R : ℕ → Type 0) → CalmHere (f_at t hs) h → Obliged R (f_at t hs) → Obliged (λ n. R n ⊎ Recovered (h ∷ []) n) (f_at t (hs ++ h ∷ []))
  one_more hs (happenings.Turn u) rest is R calm now = subst (Obliged (λ n. R n ⊎ Recovered (happenings.Turn u ∷ []) n)) (sym (one_on t hs (happenings.Turn u))) (by calm refl)
    where
      lawful : IsLawfulRun (so_far t hs)
      lawful = part_lawful t whole hs (part_of t whole hs (happenings.Turn u) rest is)

      may : MayHappen t.places t.commands (f_at t hs) (happenings.Turn u)
      may = may_of t whole hs (happenings.Turn u) rest is

      g : Facts
      g = facts_after t.places t.commands (f_at t hs) (happenings.Turn u)

      by : (c : IsCalm (f_at t hs) u) → c ≡ calm → Obliged (λ n. R n ⊎ Recovered (happenings.Turn u ∷ []) n) (facts_after t.places t.commands (f_at t hs) (happenings.Turn u))
      by (By_reco uncut none reco) same_calm =
          obliged_less (λ n. R n ⊎ (u.node ≡ n)) (λ n. R n ⊎ Recovered (happenings.Turn u ∷ []) n) _ (λ n r. elim r [ inl old ↦ inl old | inr (inl it) ↦ inr it.0 | inr (inr no_more) ↦ absurd no_more ])
          (reco_obliged t.places t.commands (f_at t hs) (run_stands (so_far t hs) lawful).0.even u may.0 may.1 uncut none reco R now)
      by (By_message m y uncut none it took first) same_calm =
          obliged_less R (λ n. R n ⊎ Recovered (happenings.Turn u ∷ []) n) _
          (λ n r. elim r [ inl old ↦ old | inr (inl reco) ↦ (let is_reco = reco.1 in absurd (cc (it, is_reco))) | inr (inr no_more) ↦ absurd no_more ])
          (keep (so_far t hs) lawful u may.0 may.1 calm m it R now)
  one_more hs h rest is R calm now = absurd calm

  recovered_first : (h : Happening) (mid : List Happening) (n : ℕ) → Recovered (h ∷ mid) n → Recovered (h ∷ []) n ⊎ Recovered mid n
  recovered_first (happenings.Turn u) mid n (inl it) = inl (inl it)
  recovered_first (happenings.Turn u) mid n (inr later) = inr later
  recovered_first (happenings.Begun c) mid n later = inr later
  recovered_first (happenings.Cut a b) mid n later = inr later
  recovered_first (happenings.Join a b) mid n later = inr later
  recovered_first (happenings.Lost c) mid n later = inr later
  recovered_first (happenings.Stopped c) mid n later = inr later
  recovered_first (happenings.Started c boot) mid n later = inr later

  on : (hs mid rest : List Happening) → hs ++ (mid ++ rest) ≡ t.trace → (R : ℕ → Type 0) → EachFactFrom CalmHere t.places t.commands (f_at t hs) mid → Obliged R (f_at t hs) → Obliged (λ n. R n ⊎ Recovered mid n) (f_at t (hs ++ mid))
  on hs [] rest is R calm now =
      subst (λ xs. Obliged (λ n. R n ⊎ ⊥) (f_at t xs)) (sym (append-nil hs)) (obliged_less R (λ n. R n ⊎ ⊥) (f_at t hs) (λ n r. elim r [ inl old ↦ old | inr none ↦ absurd none ]) now)
  on hs (h ∷ mid) rest is R calm now =
      let joined : (hs ++ h ∷ []) ++ mid ≡ hs ++ h ∷ mid = append_assoc hs (h ∷ []) mid in
      let whole_trace : (hs ++ h ∷ []) ++ (mid ++ rest) ≡ t.trace = append_assoc hs (h ∷ []) (mid ++ rest) ∙ is in
      let later : EachFactFrom CalmHere t.places t.commands (f_at t (hs ++ h ∷ [])) mid = subst (λ f. EachFactFrom CalmHere t.places t.commands f mid) (sym (one_on t hs h)) calm.1 in
      let first : Obliged (λ n. R n ⊎ Recovered (h ∷ []) n) (f_at t (hs ++ h ∷ [])) = one_more hs h (mid ++ rest) is R calm.0 now in
      subst (λ xs. Obliged (λ n. R n ⊎ Recovered (h ∷ mid) n) (f_at t xs)) joined
      (obliged_less (λ n. (R n ⊎ Recovered (h ∷ []) n) ⊎ Recovered mid n) (λ n. R n ⊎ Recovered (h ∷ mid) n) (f_at t ((hs ++ h ∷ []) ++ mid))
      (λ n r. elim r [ inl old ↦ inl (inl old) | inr new ↦ elim (recovered_first h mid n new) [ inl here ↦ inl (inr here) | inr more ↦ inr more ] ])
      (on (hs ++ h ∷ []) mid rest whole_trace (λ n. R n ⊎ Recovered (h ∷ []) n) later first))

  -- at the end of a calm stretch it is so of all nodes that recovered in it
  pub stretch_obliges : (hs mid : List Happening) → CalmStretch t hs mid → Obliged (Recovered mid) (f_at t (hs ++ mid))
  stretch_obliges hs mid calm =
      obliged_less (λ n. ⊥ ⊎ Recovered mid n) (Recovered mid) (f_at t (hs ++ mid)) (λ n r. inr r) (on hs mid calm.rest calm.is (λ n. ⊥) calm.calm (first_obliged (f_at t hs)))
