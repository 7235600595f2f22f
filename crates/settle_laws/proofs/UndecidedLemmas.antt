-- A row that has a live branch as toward does not know its decision; who is sealed was asked by its parent.
use Rattle.std.proofs.Common.{◌≡◌, ◌≢◌, ℕ, true, List, [], ◌∷◌, Option, Some, None, inl, inr, refl, sym, ap, subst, ◌∙◌, append-nil}
use Rattle.agreement.specs.Events.{Forest, Event, Sealed, Send_rollback, Learn, exit, learned, Has, Knows, Lawful, site_of}
use Rattle.agreement.proofs.EventLemmas.{learn_by, learned_new}
use Rattle.agreement.proofs.Invariant.{Inv, allowed_at}
use Rattle.node_rules.specs.Data.{BranchId, Decision, KeptRow}
use Rattle.node_rules.specs.Data.decisions
use Rattle.node_rules.specs.NodeState.{NodeState, kept_row_at, kept_row_id}
use Rattle.run_rules.specs.Births.{Born, born_at, births_of}
use Rattle.run_base_laws.specs.BirthLaws.{Began, KeptIs}
use Rattle.run_base_laws.specs.EventRows.{RowIs, IsKnown}
use Rattle.run_rules.specs.Facts.{node_at}
use Rattle.run_base_laws.specs.FreezeLaws.{was_asked}
use Rattle.run_base_laws.specs.InTurnLaws.{said_in}
use Rattle.run_rules.specs.Lawful.{History, IsLawfulRun}
use Rattle.run_base_laws.proofs.EventsStandLemmas.{nodes_are_as_events}
use Rattle.run_base_laws.proofs.OwnLemmas.{all_found}
use Rattle.tree_laws.proofs.HeardLemmas.{left_were_asked}
use Rattle.tree_laws.proofs.TimeLemmas.{Part}
use Rattle.tree_laws.proofs.MoreLemmas.{inv_at, lawful_at}
use Rattle.commit_forget_laws.proofs.EventLemmas.{learn_knows}
use Rattle.tree_laws.proofs.FitRowLemmas.{RowFits, rows_fit}
use Rattle.settle_laws.proofs.OverLemmas.{rollers_left}
use Rattle.tree_laws.proofs.AtPart.{at_end}

-- who learned a rollback was told it by the neighbour that is toward
pub learn_rolled : (p : Forest) (t : List Event) → Lawful p t → (b : BranchId) → learned t b ≡ Some decisions.Rollback → Has (Send_rollback (p.toward b) b) t
learn_rolled p [] lawful b is = absurd cc
learn_rolled p (s ∷ t) lawful b is = elim (learned_new s t b decisions.Rollback is) [
  | inl old ↦ inr (learn_rolled p t lawful.1 b old)
  | inr new ↦ (let by = learn_by s b decisions.Rollback new.1 in inr (allowed_at p s (Learn b decisions.Rollback by.0) t by.1 lawful.0).2)
]

module _ (t : History) (whole : IsLawfulRun t) where
  open at_end t use {f, e, forest as p}

  abbrev B : Born → Type 0
  B x = Began (births_of t) x

  part : Part t whole t.trace
  part = record { rest = []; is = append-nil t.trace }

  i : Inv p e
  i = inv_at t whole t.trace part

  same_born : (x z : Born) → B x → B z → x.me ≡ z.me → x ≡ z
  same_born x z one other me = (let both : Some x ≡ Some z = sym one ∙ (ap (born_at (births_of t)) me ∙ other) in cc)

  -- a row that names a live branch as toward does not know its decision
  pub undecided_row : (n : ℕ) (k : NodeState) (up : node_at f n ≡ Some k) (s : KeptRow) → kept_row_at k s.me ≡ Some s → (z : BranchId) → s.toward ≡ Some z → exit e z ≡ None → s.decision ≡ None
  undecided_row n k up s row z toward live = by s.decision refl (all_found (RowIs e) kept_row_id k.stored.durable.kept s.me s (nodes_are_as_events t whole n k up).1 row).known
    where
      way : RowFits p s.me s.toward
      way = all_found (λ (y : KeptRow). RowFits p y.me y.toward) kept_row_id k.stored.durable.kept s.me s (rows_fit t whole t.trace part n k up) row

      its : (p.toward s.me ≡ z) × (s.me ≢ site_of p s.me)
      its = elim way [
        | inl on ↦ (let both : Some (p.toward s.me) ≡ Some z = sym on.0 ∙ toward in let it : p.toward s.me ≡ z = cc in (it, on.2))
        | inr site ↦ (let none = site.0 in absurd (cc (none, toward)))
      ]

      knows_not : {m : ℕ} → Knows e z m → ⊥
      knows_not (inl decided) = absurd (cc (live, decided))
      knows_not {m = m} (inr learnt) = (let sealed = (i.learned_sealed z (decisions.Commit m) learnt).1 in absurd (cc (live, sealed)))

      by : (o : Option Decision) → s.decision ≡ o → IsKnown e s o → s.decision ≡ None
      by None is known = is
      by (Some (decisions.Commit m)) is (inl decided) = absurd (its.1 (i.decided_at s.me m decided))
      by (Some (decisions.Commit m)) is (inr learnt) = absurd (knows_not (subst (λ b. Knows e b m) its.0 (learn_knows p e (lawful_at t whole t.trace part) s.me m learnt)))
      by (Some decisions.Rollback) is known =
          let teller = rollers_left t whole (p.toward s.me) s.me (learn_rolled p e (lawful_at t whole t.trace part) s.me known) in
          let left : exit e z ≡ Some teller.0 = subst (λ b. exit e b ≡ Some teller.0) its.0 teller.1 in absurd (cc (live, left))

  -- its parent asked a branch that is sealed
  pub asked_above : (s : KeptRow) → KeptIs B s → (n : ℕ) → exit e s.me ≡ Some (Sealed n) → (q : BranchId) → s.parent ≡ Some q → was_asked (said_in f) q s.me ≡ true
  asked_above s its n sealed q parent =
      let heard = left_were_asked t whole s.me (Sealed n) sealed (λ no_drop. absurd cc) in
      let at : heard.0 ≡ its.born = same_born heard.0 its.born heard.1 its.began (heard.2 ∙ sym its.is_me) in
      heard.3 q (ap (λ (x : Born). x.parent) at ∙ (its.is_parent ∙ parent))
