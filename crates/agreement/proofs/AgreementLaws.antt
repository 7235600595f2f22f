-- What the invariant says of a whole list.
use Rattle.std.proofs.Common.{Bool, Option, ◌≡◌, ℕ, true, List, [], ◌∷◌, ◌++◌, Some, None, refl, sym, subst, ◌∙◌, inl, inr, arith}
use Rattle.agreement.specs.Data.{BranchId, Change}
use Rattle.agreement.specs.Data.decisions
use Rattle.agreement.specs.Events.{Forest, IsForest, Sealed, Decided, Event, Seal, Decide, Learn, first, exit, exit_by, Has, Allowed, Lawful, site_of}
use Rattle.agreement.specs.Laws.{RollbackMeansUndecided, CommitAsDecided, DecisionIsLater, DecisionIsCovered, CommitComesAfter, DoomedIsUndecided}
use Rattle.agreement.proofs.EventLemmas.{only_at_same, exit_new, exit_stays, decided_by}
use Rattle.agreement.proofs.Invariant.{Doomed}
use Rattle.agreement.proofs.WholeTree.{Reached, reached, not_doomed, site_root}
use Rattle.agreement.proofs.InvariantKept.{inv}

-- an event of the list was allowed where it was made
pub was_allowed : (p : Forest) (s : Event) (t : List Event) → Lawful p t → Has s t → (older : List Event) × Allowed p older s
was_allowed p s [] l h = absurd h
was_allowed p s (r ∷ t) l (inl e) = (t, subst (λ z. Allowed p t z) e l.0)
was_allowed p s (r ∷ t) l (inr h) = was_allowed p s t l.1 h

decided_now : (s : Event) (t : List Event) (b g : BranchId) (n : ℕ) (cs : List Change) → s ≡ Decide b g n cs → exit t b ≡ None → exit (s ∷ t) b ≡ Some (Decided n)
decided_now s t b g n cs e none = subst (λ z. exit (z ∷ t) b ≡ Some (Decided n)) (sym e)
    (subst (λ o. first o (exit_by (Decide b g n cs) b) ≡ Some (Decided n)) (sym none) (only_at_same b b (Decided n) refl))

pub exit_decided : (p : Forest) (t : List Event) (b g : BranchId) (n : ℕ) (cs : List Change) → Lawful p t → Has (Decide b g n cs) t → exit t b ≡ Some (Decided n)
exit_decided p [] b g n cs l h = absurd h
exit_decided p (s ∷ t) b g n cs l (inl e) = decided_now s t b g n cs e (subst (λ z. Allowed p t z) e l.0).0
exit_decided p (s ∷ t) b g n cs l (inr h) = exit_stays s t b (Decided n) (exit_decided p t b g n cs l.1 h)

sealed_now : (s : Event) (t : List Event) (b g : BranchId) (n : ℕ) (cs : List Change) → s ≡ Seal b g n cs → exit t b ≡ None → exit (s ∷ t) b ≡ Some (Sealed n)
sealed_now s t b g n cs e none = subst (λ z. exit (z ∷ t) b ≡ Some (Sealed n)) (sym e)
    (subst (λ o. first o (exit_by (Seal b g n cs) b) ≡ Some (Sealed n)) (sym none) (only_at_same b b (Sealed n) refl))

pub exit_sealed : (p : Forest) (t : List Event) (b g : BranchId) (n : ℕ) (cs : List Change) → Lawful p t → Has (Seal b g n cs) t → exit t b ≡ Some (Sealed n)
exit_sealed p [] b g n cs l h = absurd h
exit_sealed p (s ∷ t) b g n cs l (inl e) = sealed_now s t b g n cs e (subst (λ z. Allowed p t z) e l.0).0
exit_sealed p (s ∷ t) b g n cs l (inr h) = exit_stays s t b (Sealed n) (exit_sealed p t b g n cs l.1 h)

pub covered : (p : Forest) (t : List Event) (b : BranchId) (n : ℕ) → IsForest p → Lawful p t → exit t (site_of p b) ≡ Some (Decided n) → p.member b ≡ true → Reached p t n b
covered p t b n w l d m = reached p t n w (inv p t w l) (p.far b) b d (omega arith) m

pub later : DecisionIsLater
later p w t l b n m d x = let in_tree = (inv p t w l).sealed_in b m x in elim (covered p t b n w l d in_tree.0) [
  | inl e ↦ absurd (in_tree.1 e)
  | inr c ↦ elim c.2 [
    | inl s ↦ (let q : s.0 ≡ m = cc (x, s.1) in omega (arith, q, s.2, c.1))
    | inr q ↦ absurd (cc (x, q))
  ]
]

pub covers : DecisionIsCovered
covers p w t l b n d m ne = elim (covered p t b n w l d m) [
  | inl e ↦ absurd (ne e)
  | inr c ↦ elim c.2 [ inl s ↦ inl (s.0, s.1) | inr q ↦ inr q ]
]

pub as_decided : CommitAsDecided
as_decided p w t l b n h = (inv p t w l).learned_commit b n h

pub undecided_from_rollback : RollbackMeansUndecided
undecided_from_rollback p w t l b c n h one d = let i = inv p t w l in
    let at_site : exit t (site_of p c) ≡ Some (Decided n) = subst (λ z. exit t z ≡ Some (Decided n)) (i.decided_at c n d) d in
    not_doomed p t n (p.root b) w i (subst (λ g. exit t (p.site g) ≡ Some (Decided n)) one at_site) (i.learned_rollback b h)

pub doomed_undecided : DoomedIsUndecided
doomed_undecided p w t l b c n m x one =
    let i = inv p t w l in
    let lost : Doomed p t (p.root c) = (b, m, sym one, x) in (
      (λ d. not_doomed p t n (p.root c) w i (subst (λ z. exit t z ≡ Some (Decided n)) (i.decided_at c n d) d) lost),
      (λ h. not_doomed p t n (p.root c) w i (i.learned_commit c n h) lost),
    )

pub lawful_rest : (p : Forest) (newer t : List Event) → Lawful p (newer ++ t) → Lawful p t
lawful_rest p [] t l = l
lawful_rest p (s ∷ newer) t l = lawful_rest p newer t l.1

pub decide_stands : (t : List Event) (b : BranchId) (n : ℕ) → exit t b ≡ Some (Decided n) → (g : BranchId) × (cs : List Change) × Has (Decide b g n cs) t
decide_stands [] b n h = absurd cc
decide_stands (s ∷ t) b n h = elim (exit_new s t b (Decided n) h) [
  | inl old ↦ (let r = decide_stands t b n old in (r.0, r.1, inr r.2))
  | inr new ↦ (let r = decided_by s b n new.1 in (r.0, r.1, inl r.2))
]

-- the decision that a branch learns stands before it
pub decision_before : (p : Forest) (t : List Event) (b : BranchId) (n : ℕ) (mixed : Option Bool) → IsForest p → Lawful p (Learn b (decisions.Commit n) mixed ∷ t) → (cs : List Change) × Has (Decide (site_of p b) (p.root b) n cs) t
decision_before p t b n mixed w l =
    let i = inv p t w l.1 in
    let m = i.sealed_in b l.0.0.0 l.0.0.1 in
    let one : p.root (p.toward b) ≡ p.root b = w.of_one b m.0 m.1 in
    let d : exit t (site_of p b) ≡ Some (Decided n) = subst (λ g. exit t (p.site g) ≡ Some (Decided n)) one (i.commits (p.toward b) b n l.0.2) in
    let r = decide_stands t (site_of p b) n d in
    let a = was_allowed p (Decide (site_of p b) r.0 n r.1) t l.1 r.2 in
    let g : r.0 ≡ p.root b = sym a.1.3 ∙ site_root p w b m.0 in
    (r.1, subst (λ g. Has (Decide (site_of p b) g n r.1) t) g r.2)

pub comes_after : CommitComesAfter
comes_after p w newer older b n mixed l = decision_before p older b n mixed w (lawful_rest p newer (Learn b (decisions.Commit n) mixed ∷ older) l)
