-- Each field of the invariant after an event.
use Rattle.std.proofs.Common.{Bool, Option, ◌≡◌, ◌≢◌, ℕ, ◌<◌, ◌≤◌, ◌⊎◌, true, List, [], ◌∷◌, Some, None, refl, subst, inl, inr}
use Rattle.agreement.specs.Data.{BranchId, Decision}
use Rattle.agreement.specs.Data.decisions
use Rattle.agreement.specs.Events.{Forest, IsForest, Beyond, Sealed, Decided, Quiet, Event, Seal, Decide, Answer_read_only, Force, Learn, Forget, Send_vote, Send_commit, Send_rollback, Send_ack, Send_forgotten, exit, learned, forced, Has, Cleared, Knows, Gone, Allowed, Lawful, site_of}
use Rattle.agreement.proofs.EventLemmas.{exit_stays, exit_new, learned_new, forced_new, force_by, sealed_by, decided_by, quiet_by, learn_by}
use Rattle.agreement.proofs.Invariant.{inv_empty, Covered, Doomed, IsDone, IsAcked, Inv, covered_stays, doomed_stays, done_stays, cleared_stays, acked_stays, knows_stays, allowed_at, covered_by_heard}
use Rattle.agreement.proofs.WholeTree.{not_doomed}

module _ (p : Forest) (w : IsForest p) (s : Event) (t : List Event) (a : Allowed p t s) (i : Inv p t) where
  at : (r : Event) → s ≡ r → Allowed p t r
  at r e = allowed_at p s r t e a

  pub sealed_in' : (b : BranchId) (n : ℕ) → exit (s ∷ t) b ≡ Some (Sealed n) → (p.member b ≡ true) × (b ≢ site_of p b)
  sealed_in' b n h = elim (exit_new s t b (Sealed n) h) [
    | inl old ↦ i.sealed_in b n old
    | inr new ↦ (let k = sealed_by s b n new.1 in let al = at (Seal b k.0 n k.1) k.2 in (al.1, al.2))
  ]

  pub decided_at' : (b : BranchId) (n : ℕ) → exit (s ∷ t) b ≡ Some (Decided n) → b ≡ site_of p b
  decided_at' b n h = elim (exit_new s t b (Decided n) h) [
    | inl old ↦ i.decided_at b n old
    | inr new ↦ (let k = decided_by s b n new.1 in (at (Decide b k.0 n k.1) k.2).1)
  ]

  pub quiet_not_site' : (b : BranchId) → exit (s ∷ t) b ≡ Some Quiet → b ≢ site_of p b
  quiet_not_site' b h = elim (exit_new s t b Quiet h) [
    | inl old ↦ i.quiet_not_site b old
    | inr new ↦ (at (Answer_read_only b) (quiet_by s b new.1)).1
  ]

  pub seal_covers' : (x y : BranchId) (n : ℕ) → Beyond p x y → exit (s ∷ t) y ≡ Some (Sealed n) → Covered (s ∷ t) x n
  seal_covers' x y n edge h = covered_stays s t x n (elim (exit_new s t y (Sealed n) h) [
    | inl old ↦ i.seal_covers x y n edge old
    | inr new ↦ (let k = sealed_by s y n new.1 in covered_by_heard p t y n x i (at (Seal y k.0 n k.1) k.2).3 edge)
  ])

  pub decide_covers' : (x y : BranchId) (n : ℕ) → Beyond p x y → exit (s ∷ t) y ≡ Some (Decided n) → (k : ℕ) × (k < n) × Covered (s ∷ t) x k
  decide_covers' x y n edge h = elim (exit_new s t y (Decided n) h) [
    | inl old ↦ (let c = i.decide_covers x y n edge old in (c.0, c.1, covered_stays s t x c.0 c.2))
    | inr new ↦ (let k = decided_by s y n new.1 in let al = (at (Decide y k.0 n k.1) k.2).2 in
        (al.0, al.1, covered_stays s t x al.0 (covered_by_heard p t y al.0 x i al.2 edge)))
  ]

  pub quiet_covers' : (x y : BranchId) → Beyond p x y → exit (s ∷ t) y ≡ Some Quiet → exit (s ∷ t) x ≡ Some Quiet
  quiet_covers' x y edge h = exit_stays s t x Quiet (elim (exit_new s t y Quiet h) [
    | inl old ↦ i.quiet_covers x y edge old
    | inr new ↦ (at (Answer_read_only y) (quiet_by s y new.1)).2 x edge
  ])

  pub votes' : (x : BranchId) (k : ℕ) → Has (Send_vote x k) (s ∷ t) → (n : ℕ) × (exit (s ∷ t) x ≡ Some (Sealed n)) × (n ≤ k)
  votes' x k (inl e) = let al = at (Send_vote x k) e in (al.0, exit_stays s t x (Sealed al.0) al.1, al.2)
  votes' x k (inr h) = let v = i.votes x k h in (v.0, exit_stays s t x (Sealed v.0) v.1, v.2)

  outward : (b : BranchId) (n : ℕ) → exit t b ≡ Some (Sealed n) → Beyond p b (p.toward b)
  outward b n x = let m = i.sealed_in b n x in record { member = m.0; not_site = m.1; next = refl }

  -- two neighbours are of one transaction
  one_root : (x y : BranchId) → Beyond p x y → p.root y ≡ p.root x
  one_root x y edge = subst (λ z. p.root z ≡ p.root x) edge.next (w.of_one x edge.member edge.not_site)

  of_one : (x y : BranchId) (n : ℕ) → Beyond p x y → exit t (site_of p y) ≡ Some (Decided n) → exit t (site_of p x) ≡ Some (Decided n)
  of_one x y n edge d = subst (λ g. exit t (p.site g) ≡ Some (Decided n)) (one_root x y edge) d

  known : (b : BranchId) (n : ℕ) → Knows t b n → exit t (site_of p b) ≡ Some (Decided n)
  known b n (inl d) = subst (λ x. exit t x ≡ Some (Decided n)) (i.decided_at b n d) d
  known b n (inr l) = i.learned_commit b n l

  pub commits' : (e d : BranchId) (n : ℕ) → Has (Send_commit e d n) (s ∷ t) → exit (s ∷ t) (site_of p e) ≡ Some (Decided n)
  commits' e d n (inl q) = exit_stays s t (site_of p e) (Decided n) (known e n (at (Send_commit e d n) q))
  commits' e d n (inr h) = exit_stays s t (site_of p e) (Decided n) (i.commits e d n h)

  learned_sealed-new : (b : BranchId) (d : Decision) (m : Option Bool) → Allowed p t (Learn b d m) → (n : ℕ) × (exit t b ≡ Some (Sealed n))
  learned_sealed-new b (decisions.Commit n) m al = al.0
  learned_sealed-new b decisions.Rollback m al = al.0

  pub learned_sealed' : (b : BranchId) (d : Decision) → learned (s ∷ t) b ≡ Some d → (n : ℕ) × (exit (s ∷ t) b ≡ Some (Sealed n))
  learned_sealed' b d h = let o : (n : ℕ) × (exit t b ≡ Some (Sealed n)) = elim (learned_new s t b d h) [
    | inl old ↦ i.learned_sealed b d old
    | inr new ↦ (let k = learn_by s b d new.1 in learned_sealed-new b d k.0 (at (Learn b d k.0) k.1))
  ] in (o.0, exit_stays s t b (Sealed o.0) o.1)

  pub learned_commit' : (b : BranchId) (n : ℕ) → learned (s ∷ t) b ≡ Some (decisions.Commit n) → exit (s ∷ t) (site_of p b) ≡ Some (Decided n)
  learned_commit' b n h = exit_stays s t (site_of p b) (Decided n) (elim (learned_new s t b (decisions.Commit n) h) [
    | inl old ↦ i.learned_commit b n old
    | inr new ↦ (let k = learn_by s b (decisions.Commit n) new.1 in let al = at (Learn b (decisions.Commit n) k.0) k.1 in
        of_one b (p.toward b) n (outward b al.0.0 al.0.1) (i.commits (p.toward b) b n al.2))
  ])

  pub forced_sealed' : (b : BranchId) (k : Decision) → forced (s ∷ t) b ≡ Some k → (n : ℕ) × (exit (s ∷ t) b ≡ Some (Sealed n))
  forced_sealed' b k h = let o : (n : ℕ) × (exit t b ≡ Some (Sealed n)) = elim (forced_new s t b k h) [
    | inl old ↦ i.forced_sealed b k old
    | inr new ↦ (let al = at (Force b k) (force_by s b k new.1) in (al.0, al.1))
  ] in (o.0, exit_stays s t b (Sealed o.0) o.1)

  told : (b : BranchId) (n : ℕ) → exit t b ≡ Some (Sealed n) → learned t b ≡ None → Doomed p t (p.root b) ⊎ IsDone t b → Doomed p t (p.root b)
  told b n x l (inl d) = d
  told b n x l (inr (inl c)) = absurd (cc (l, c.1))
  told b n x l (inr (inr q)) = absurd (cc (x, q))

  pub learned_rollback' : (b : BranchId) → learned (s ∷ t) b ≡ Some decisions.Rollback → Doomed p (s ∷ t) (p.root b)
  learned_rollback' b h = doomed_stays p s t (p.root b) (elim (learned_new s t b decisions.Rollback h) [
    | inl old ↦ i.learned_rollback b old
    | inr new ↦ (let k = learn_by s b decisions.Rollback new.1 in let al = at (Learn b decisions.Rollback k.0) k.1 in
        told b al.0.0 al.0.1 al.1 (i.rollbacks (p.toward b) b al.2 (outward b al.0.0 al.0.1)))
  ])

  done_from_ack : (b : BranchId) → IsAcked p t b → IsDone t b
  done_from_ack b (inl c) = inl c.0
  done_from_ack b (inr q) = inr q

  rollback_sent : (e d : BranchId) → Beyond p d e → Gone t e ⊎ (exit t d ≡ Some Quiet) → Doomed p t (p.root d) ⊎ IsDone t d
  rollback_sent e d edge (inl (inl x)) = inl (e, subst (λ y. p.member y ≡ true) edge.next (w.inward d edge.member edge.not_site), one_root d e edge, x)
  rollback_sent e d edge (inl (inr (inl q))) = inr (inr (i.quiet_covers d e edge q))
  rollback_sent e d edge (inl (inr (inr (inl r)))) = inl (subst (λ g. Doomed p t g) (one_root d e edge) (i.learned_rollback e r))
  rollback_sent e d edge (inl (inr (inr (inr f)))) = elim ((i.forgets e f).1 d edge) [
    | inl ack ↦ inr (done_from_ack d (i.acks d e ack edge))
    | inr q ↦ inr (inr q)
  ]
  rollback_sent e d edge (inr q) = inr (inr q)

  rollbacks_old : (e d : BranchId) → Beyond p d e → Has (Send_rollback e d) (s ∷ t) → Doomed p t (p.root d) ⊎ IsDone t d
  rollbacks_old e d edge (inl q) = rollback_sent e d edge (at (Send_rollback e d) q edge)
  rollbacks_old e d edge (inr h) = i.rollbacks e d h edge

  pub rollbacks' : (e d : BranchId) → Has (Send_rollback e d) (s ∷ t) → Beyond p d e → Doomed p (s ∷ t) (p.root d) ⊎ IsDone (s ∷ t) d
  rollbacks' e d h edge = elim (rollbacks_old e d edge h) [ inl x ↦ inl (doomed_stays p s t (p.root d) x) | inr y ↦ inr (done_stays s t d y) ]

  forgot_acked : (b y : BranchId) → Beyond p b y → (n : ℕ) × Knows t b n → Cleared p t b → IsAcked p t b
  forgot_acked b y edge (n, inl d) c = absurd (edge.not_site (i.decided_at b n d))
  forgot_acked b y edge (n, inr l) c = inl ((n, l), c)

  gone_acked : (b y : BranchId) (n : ℕ) → Beyond p b y → exit t (site_of p b) ≡ Some (Decided n) → Gone t b → IsAcked p t b
  gone_acked b y n edge d (inl x) = absurd (not_doomed p t n (p.root b) w i d (b, edge.member, refl, x))
  gone_acked b y n edge d (inr (inl q)) = inr q
  gone_acked b y n edge d (inr (inr (inl r))) = absurd (not_doomed p t n (p.root b) w i d (i.learned_rollback b r))
  gone_acked b y n edge d (inr (inr (inr f))) = let k = i.forgets b f in forgot_acked b y edge k.0 k.1

  ack_sent : (b f : BranchId) → Beyond p b f → ((n : ℕ) × (learned t b ≡ Some (decisions.Commit n)) × Cleared p t b) ⊎ (Gone t b × ((n : ℕ) × Has (Send_commit f b n) t)) → IsAcked p t b
  ack_sent b f edge (inl c) = inl ((c.0, c.1), c.2)
  ack_sent b f edge (inr c) = gone_acked b f c.1.0 edge (of_one b f c.1.0 edge (i.commits f b c.1.0 c.1.1)) c.0

  pub acks' : (b f : BranchId) → Has (Send_ack b f) (s ∷ t) → Beyond p b f → IsAcked p (s ∷ t) b
  acks' b f (inl e) edge = acked_stays p s t b (ack_sent b f edge (at (Send_ack b f) e edge))
  acks' b f (inr h) edge = acked_stays p s t b (i.acks b f h edge)

  cleared_from_ack : (b : BranchId) (n : ℕ) → exit t b ≡ Some (Sealed n) → IsAcked p t b → Cleared p t b
  cleared_from_ack b n x (inl c) = c.1
  cleared_from_ack b n x (inr q) = absurd (cc (x, q))

  cleared_from : (b : BranchId) (n : ℕ) → exit t b ≡ Some (Sealed n) → Has (Send_ack b (p.toward b)) t ⊎ (exit t b ≡ Some Quiet) → Cleared p t b
  cleared_from b n x (inl h) = cleared_from_ack b n x (i.acks b (p.toward b) h (outward b n x))
  cleared_from b n x (inr q) = absurd (cc (x, q))

  forgotten_cleared : (b : BranchId) (n : ℕ) → b ≢ site_of p b → Knows t b n → Has (Send_forgotten (p.toward b) b) t → Cleared p t b
  forgotten_cleared b n ne (inl d) h = absurd (ne (i.decided_at b n d))
  forgotten_cleared b n ne (inr l) h = let x = i.learned_sealed b (decisions.Commit n) l in
      cleared_from b x.0 x.1 (i.forgottens (p.toward b) b h (outward b x.0 x.1))

  forget_cleared : (b : BranchId) (n : ℕ) → Knows t b n → Cleared p t b ⊎ ((b ≢ site_of p b) × Has (Send_forgotten (p.toward b) b) t) → Cleared p t b
  forget_cleared b n k (inl c) = c
  forget_cleared b n k (inr h) = forgotten_cleared b n h.0 k h.1

  pub forgets' : (b : BranchId) → Has (Forget b) (s ∷ t) → ((n : ℕ) × Knows (s ∷ t) b n) × Cleared p (s ∷ t) b
  forgets' b (inl e) = let al = at (Forget b) e in
      ((al.0, knows_stays s t b al.0 al.1), cleared_stays p s t b (forget_cleared b al.0 al.1 al.2))
  forgets' b (inr h) = let k = i.forgets b h in ((k.0.0, knows_stays s t b k.0.0 k.0.1), cleared_stays p s t b k.1)

  forgottens_old : (f e : BranchId) → Beyond p e f → Has (Send_forgotten f e) (s ∷ t) → Has (Send_ack e f) t ⊎ (exit t e ≡ Some Quiet)
  forgottens_old f e edge (inl q) = elim (at (Send_forgotten f e) q edge) [ inl h ↦ (i.forgets f h).1 e edge | inr h ↦ inl h ]
  forgottens_old f e edge (inr h) = i.forgottens f e h edge

  pub forgottens' : (f e : BranchId) → Has (Send_forgotten f e) (s ∷ t) → Beyond p e f → Has (Send_ack e f) (s ∷ t) ⊎ (exit (s ∷ t) e ≡ Some Quiet)
  forgottens' f e h edge = elim (forgottens_old f e edge h) [ inl x ↦ inl (inr x) | inr q ↦ inr (exit_stays s t e Quiet q) ]

  pub inv_next : Inv p (s ∷ t)
  inv_next = record {
    sealed_in = sealed_in';
    decided_at = decided_at';
    quiet_not_site = quiet_not_site';
    seal_covers = seal_covers';
    decide_covers = decide_covers';
    quiet_covers = quiet_covers';
    votes = votes';
    commits = commits';
    learned_sealed = learned_sealed';
    learned_commit = learned_commit';
    learned_rollback = learned_rollback';
    forced_sealed = forced_sealed';
    rollbacks = rollbacks';
    acks = acks';
    forgets = forgets';
    forgottens = forgottens';
  }

pub inv : (p : Forest) (t : List Event) → IsForest p → Lawful p t → Inv p t
inv p [] w l = inv_empty p
inv p (s ∷ t) w l = inv_next p w s t l.0 (inv p t w l.1)
