-- The invariant of agreement, and what of it grows.
use Rattle.std.proofs.Common.{◌≡◌, ◌≢◌, ℕ, ◌<◌, ◌≤◌, ◌⊎◌, true, List, [], ◌∷◌, Some, subst, inl, inr, arith}
use Rattle.agreement.specs.Data.{BranchId, Decision}
use Rattle.agreement.specs.Data.decisions
use Rattle.agreement.specs.Events.{Forest, Beyond, Sealed, Decided, Quiet, Dropped, Event, Forget, Send_vote, Send_commit, Send_rollback, Send_ack, Send_forgotten, exit, learned, forced, Has, Heard, Cleared, Knows, Allowed, site_of}
use Rattle.agreement.proofs.EventLemmas.{exit_stays, learned_stays}

-- x is sealed at most at n, or has no changes
abbrev pub Covered : List Event → BranchId → ℕ → Type 0
Covered t x n = ((k : ℕ) × (exit t x ≡ Some (Sealed k)) × (k ≤ n)) ⊎ (exit t x ≡ Some Quiet)

-- a branch of this transaction was dropped
abbrev pub Doomed : Forest → List Event → BranchId → Type 0
Doomed p t g = (b : BranchId) × (p.member b ≡ true) × (p.root b ≡ g) × (exit t b ≡ Some Dropped)

abbrev pub IsDone : List Event → BranchId → Type 0
IsDone t b = ((n : ℕ) × (learned t b ≡ Some (decisions.Commit n))) ⊎ (exit t b ≡ Some Quiet)

abbrev pub IsAcked : Forest → List Event → BranchId → Type 0
IsAcked p t b = (((n : ℕ) × (learned t b ≡ Some (decisions.Commit n))) × Cleared p t b) ⊎ (exit t b ≡ Some Quiet)

pub record Inv (p : Forest) (t : List Event) : Type 0 where
  pub sealed_in : (b : BranchId) (n : ℕ) → exit t b ≡ Some (Sealed n) → (p.member b ≡ true) × (b ≢ site_of p b)
  pub decided_at : (b : BranchId) (n : ℕ) → exit t b ≡ Some (Decided n) → b ≡ site_of p b
  pub quiet_not_site : (b : BranchId) → exit t b ≡ Some Quiet → b ≢ site_of p b
  pub seal_covers : (x y : BranchId) (n : ℕ) → Beyond p x y → exit t y ≡ Some (Sealed n) → Covered t x n
  pub decide_covers : (x y : BranchId) (n : ℕ) → Beyond p x y → exit t y ≡ Some (Decided n) → (k : ℕ) × (k < n) × Covered t x k
  pub quiet_covers : (x y : BranchId) → Beyond p x y → exit t y ≡ Some Quiet → exit t x ≡ Some Quiet
  pub votes : (x : BranchId) (k : ℕ) → Has (Send_vote x k) t → (n : ℕ) × (exit t x ≡ Some (Sealed n)) × (n ≤ k)
  pub commits : (e d : BranchId) (n : ℕ) → Has (Send_commit e d n) t → exit t (site_of p e) ≡ Some (Decided n)
  pub learned_sealed : (b : BranchId) (d : Decision) → learned t b ≡ Some d → (n : ℕ) × (exit t b ≡ Some (Sealed n))
  pub learned_commit : (b : BranchId) (n : ℕ) → learned t b ≡ Some (decisions.Commit n) → exit t (site_of p b) ≡ Some (Decided n)
  pub learned_rollback : (b : BranchId) → learned t b ≡ Some decisions.Rollback → Doomed p t (p.root b)
  pub forced_sealed : (b : BranchId) (k : Decision) → forced t b ≡ Some k → (n : ℕ) × (exit t b ≡ Some (Sealed n))
  pub rollbacks : (e d : BranchId) → Has (Send_rollback e d) t → Beyond p d e → Doomed p t (p.root d) ⊎ IsDone t d
  pub acks : (b f : BranchId) → Has (Send_ack b f) t → Beyond p b f → IsAcked p t b
  pub forgets : (b : BranchId) → Has (Forget b) t → ((n : ℕ) × Knows t b n) × Cleared p t b
  pub forgottens : (f e : BranchId) → Has (Send_forgotten f e) t → Beyond p e f → Has (Send_ack e f) t ⊎ (exit t e ≡ Some Quiet)

pub inv_empty : (p : Forest) → Inv p []
inv_empty p = record {
  sealed_in = λ b n h. absurd cc;
  decided_at = λ b n h. absurd cc;
  quiet_not_site = λ b h. absurd cc;
  seal_covers = λ x y n b h. absurd cc;
  decide_covers = λ x y n b h. absurd cc;
  quiet_covers = λ x y b h. absurd cc;
  votes = λ x k h. absurd h;
  commits = λ e d n h. absurd h;
  learned_sealed = λ b d h. absurd cc;
  learned_commit = λ b n h. absurd cc;
  learned_rollback = λ b h. absurd cc;
  forced_sealed = λ b k h. absurd cc;
  rollbacks = λ e d h b. absurd h;
  acks = λ b f h edge. absurd h;
  forgets = λ b h. absurd h;
  forgottens = λ f e h edge. absurd h;
}

-- what grows

pub covered_stays : (s : Event) (t : List Event) (x : BranchId) (n : ℕ) → Covered t x n → Covered (s ∷ t) x n
covered_stays s t x n (inl edge) = inl (edge.0, exit_stays s t x (Sealed edge.0) edge.1, edge.2)
covered_stays s t x n (inr q) = inr (exit_stays s t x Quiet q)

pub doomed_stays : (p : Forest) (s : Event) (t : List Event) (g : BranchId) → Doomed p t g → Doomed p (s ∷ t) g
doomed_stays p s t g d = (d.0, d.1, d.2, exit_stays s t d.0 Dropped d.3)

pub done_stays : (s : Event) (t : List Event) (b : BranchId) → IsDone t b → IsDone (s ∷ t) b
done_stays s t b (inl edge) = inl (edge.0, learned_stays s t b (decisions.Commit edge.0) edge.1)
done_stays s t b (inr q) = inr (exit_stays s t b Quiet q)

pub cleared_stays : (p : Forest) (s : Event) (t : List Event) (b : BranchId) → Cleared p t b → Cleared p (s ∷ t) b
cleared_stays p s t b c x edge = elim (c x edge) [ inl a ↦ inl (inr a) | inr q ↦ inr (exit_stays s t x Quiet q) ]

pub acked_stays : (p : Forest) (s : Event) (t : List Event) (b : BranchId) → IsAcked p t b → IsAcked p (s ∷ t) b
acked_stays p s t b (inl edge) = inl ((edge.0.0, learned_stays s t b (decisions.Commit edge.0.0) edge.0.1), cleared_stays p s t b edge.1)
acked_stays p s t b (inr q) = inr (exit_stays s t b Quiet q)

pub knows_stays : (s : Event) (t : List Event) (b : BranchId) (n : ℕ) → Knows t b n → Knows (s ∷ t) b n
knows_stays s t b n (inl edge) = inl (exit_stays s t b (Decided n) edge)
knows_stays s t b n (inr q) = inr (learned_stays s t b (decisions.Commit n) q)

-- what is allowed of an event that is known

pub allowed_at : (p : Forest) (s r : Event) (t : List Event) → s ≡ r → Allowed p t s → Allowed p t r
allowed_at p s r t e a = subst (λ z. Allowed p t z) e a

-- the whole tree is covered by a decision

pub covered_by_heard : (p : Forest) (t : List Event) (y : BranchId) (n : ℕ) (x : BranchId) → Inv p t → Heard p t y n → Beyond p x y → Covered t x n
covered_by_heard p t y n x i h edge = elim (h x edge) [
  | inl v ↦ (let o = i.votes x v.0 v.1 in inl (o.0, o.1, omega (arith, o.2, v.2)))
  | inr q ↦ inr q
]
