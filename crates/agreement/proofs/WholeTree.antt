-- A decision covers the whole tree, so no branch of it was dropped.
use Rattle.std.proofs.Common.{◌≡◌, ℕ, zero, suc, ◌<◌, ◌≤◌, ◌⊎◌, true, List, Some, refl, sym, subst, ap, ◌∙◌, inl, inr, arith}
use Rattle.agreement.specs.Data.{BranchId}
use Rattle.agreement.specs.Events.{Forest, IsForest, Beyond, Decided, Event, exit, site_of}
use Rattle.agreement.proofs.SameBranch.{cases_same}
use Rattle.agreement.proofs.Invariant.{Covered, Doomed, Inv}

abbrev pub Reached : Forest → List Event → ℕ → BranchId → Type 0
Reached p t n b = (b ≡ site_of p b) ⊎ ((k : ℕ) × (k < n) × Covered t b k)

-- one edge further from the site
pub reach_on : (p : Forest) (t : List Event) (n : ℕ) (b y : BranchId) → IsForest p → Inv p t → exit t (site_of p b) ≡ Some (Decided n) → Beyond p b y → p.root y ≡ p.root b → Reached p t n y → Reached p t n b
reach_on p t n b y w i d edge one (inl e) = inr (i.decide_covers b y n edge (subst (λ z. exit t z ≡ Some (Decided n)) (sym (e ∙ ap p.site one)) d))
reach_on p t n b y w i d edge one (inr c) = elim c.2 [
  | inl s ↦ inr (s.0, omega (arith, s.2, c.1), i.seal_covers b y s.0 edge s.1)
  | inr q ↦ inr (c.0, c.1, inr (i.quiet_covers b y edge q))
]

pub reached : (p : Forest) (t : List Event) (n : ℕ) → IsForest p → Inv p t
    → (fuel : ℕ) (b : BranchId) → exit t (site_of p b) ≡ Some (Decided n) → p.far b ≤ fuel → p.member b ≡ true → Reached p t n b
reached p t n w i zero b d le m = elim (cases_same b (site_of p b)) [
  | inl e ↦ inl e
  | inr ne ↦ absurd (omega (arith, w.nearer b m ne, le))
]
reached p t n w i (suc f) b d le m = elim (cases_same b (site_of p b)) [
  | inl e ↦ inl e
  | inr ne ↦ (let one = w.of_one b m ne in
      let same_site : site_of p (p.toward b) ≡ site_of p b = ap p.site one in
      reach_on p t n b (p.toward b) w i d (record { member = m; not_site = ne; next = refl }) one
      (reached p t n w i f (p.toward b) (subst (λ z. exit t z ≡ Some (Decided n)) (sym same_site) d) (omega (arith, w.nearer b m ne, le)) (w.inward b m ne)))
]

-- a decided transaction is not doomed
pub not_doomed : (p : Forest) (t : List Event) (n : ℕ) (g : BranchId) → IsForest p → Inv p t → exit t (p.site g) ≡ Some (Decided n) → Doomed p t g → ⊥
not_doomed p t n g w i d (b, m, r, x) = let d' : exit t (site_of p b) ≡ Some (Decided n) = subst (λ h. exit t (p.site h) ≡ Some (Decided n)) (sym r) d in
    elim (reached p t n w i (p.far b) b d' (omega arith) m) [
      | inl e ↦ (let y : exit t b ≡ Some (Decided n) = subst (λ z. exit t z ≡ Some (Decided n)) (sym e) d' in absurd (cc (y, x)))
      | inr c ↦ elim c.2 [ inl s ↦ absurd (cc (x, s.1)) | inr q ↦ absurd (cc (x, q)) ]
    ]

-- the site of a tree is of its transaction
site_near : (p : Forest) → IsForest p → (fuel : ℕ) (b : BranchId) → p.far b ≤ fuel → p.member b ≡ true → p.root (site_of p b) ≡ p.root b
site_near p w zero b le m = elim (cases_same b (site_of p b)) [
  | inl e ↦ ap p.root (sym e)
  | inr ne ↦ absurd (omega (arith, w.nearer b m ne, le))
]
site_near p w (suc f) b le m = elim (cases_same b (site_of p b)) [
  | inl e ↦ ap p.root (sym e)
  | inr ne ↦ subst (λ r. p.root (p.site r) ≡ r) (w.of_one b m ne)
      (site_near p w f (p.toward b) (omega (arith, w.nearer b m ne, le)) (w.inward b m ne))
]

pub site_root : (p : Forest) → IsForest p → (b : BranchId) → p.member b ≡ true → p.root (site_of p b) ≡ p.root b
site_root p w b m = site_near p w (p.far b) b (omega arith) m
