-- The book of every lawful list agrees, marks mixed outcomes, and its decisions exceed their seals.
use Rattle.std.proofs.Common.{Bool, ◌≡◌, ℕ, zero, suc, true, false, List, [], ◌∷◌, ◌++◌, Option, Some, None, refl, sym, ap, subst, ◌∙◌, ◌⊎◌, inl, inr, append-nil, append_assoc, arith}
use Rattle.agreement.specs.Data.{BranchId, Change, Decision, Entry}
use Rattle.agreement.specs.Data.decisions
use Rattle.agreement.specs.Data.entries
use Rattle.agreement.specs.Outcomes.{is_end_of, stands, is_decision_on, global_in, is_of, is_rollback_of, AsDecided, Follows, differ, EachAgainst, Marks, At}
use Rattle.agreement.specs.Events.{Forest, IsForest, Sealed, Decided, Event, Make, Seal, Decide, Force, Learn, mark, exit, learned, forced, Has, Allowed, Lawful, site_of}
use Rattle.agreement.specs.BookOf.{entry_by, with_entry, book_of}
use Rattle.agreement.specs.Laws.{BooksAgree, BooksAreMarked, DecisionsExceedSeals}
use Rattle.agreement.proofs.SameBranch.{same_reports}
use Rattle.agreement.proofs.EventLemmas.{exit_stays, learned_stays}
use Rattle.agreement.proofs.Invariant.{Inv, Doomed, doomed_stays}
use Rattle.agreement.proofs.WholeTree.{not_doomed}
use Rattle.agreement.proofs.InvariantKept.{inv}
use Rattle.agreement.proofs.AgreementLaws.{exit_decided, exit_sealed, was_allowed, decision_before, later}
use Rattle.agreement.proofs.BookTests.{shows, some_is, not_true, no_sealed, no_decided, no_end, no_met, has_sealed, has_forced, has_decision, forced_same, root_in_book}

-- ---- each entry against those before it, one entry more

each_more : (P : List Entry → Entry → Type 0) (older es : List Entry) (e : Entry) → EachAgainst P older es → P (older ++ es) e → EachAgainst P older (es ++ e ∷ [])
each_more P older [] e w h = (subst (λ z. P z e) (append-nil older) h, tt)
each_more P older (x ∷ xs) e w h = (w.0, each_more P (older ++ x ∷ []) xs e w.1 (subst (λ z. P z e) (sym (append_assoc older (x ∷ []) xs)) h))

abbrev Given : (List Entry → Entry → Type 0) → List Entry → Option Entry → Type 0
Given P es None = Unit {0}
Given P es (Some e) = P es e

each_with : (P : List Entry → Entry → Type 0) (es : List Entry) (o : Option Entry) → EachAgainst P [] es → Given P es o → EachAgainst P [] (with_entry es o)
each_with P es None w h = w
each_with P es (Some e) w h = each_more P [] es e w h

-- ---- decisions and rollbacks that stand in the book

decision_now : (p : Forest) (s : Event) (t : List Event) (g : BranchId) → Lawful p (s ∷ t) → shows (is_decision_on g) (entry_by s) ≡ true → (n : ℕ) × (exit (s ∷ t) (p.site g) ≡ Some (Decided n))
decision_now p (Decide b h n cs) t g l e =
    let one : p.root b ≡ g = l.0.3 ∙ (same_reports h g).0 e in
    let at_site : b ≡ p.site g = l.0.1 ∙ ap p.site one in
    (n, subst (λ z. exit (Decide b h n cs ∷ t) z ≡ Some (Decided n)) at_site (exit_decided p (Decide b h n cs ∷ t) b h n cs l (inl refl)))
decision_now p (Learn c d None) t g l e = absurd cc
decision_now p (Learn c d (Some m)) t g l e = absurd cc
decision_now p s t g l e = absurd cc

pub decision_is : (p : Forest) (t : List Event) (g : BranchId) → Lawful p t → stands (is_decision_on g) (book_of t) ≡ true → (n : ℕ) × (exit t (p.site g) ≡ Some (Decided n))
decision_is p [] g l h = absurd cc
decision_is p (s ∷ t) g l h = elim (some_is (is_decision_on g) s t h) [
  | inl old ↦ (let r = decision_is p t g l.1 old in (r.0, exit_stays s t (p.site g) (Decided r.0) r.1))
  | inr new ↦ decision_now p s t g l new
]

undecided : (p : Forest) (t : List Event) (g : BranchId) → Lawful p t → ((n : ℕ) → exit t (p.site g) ≡ Some (Decided n) → ⊥) → stands (is_decision_on g) (book_of t) ≡ false
undecided p t g l h = not_true (stands (is_decision_on g) (book_of t)) (λ e. let r = decision_is p t g l e in h r.0 r.1)

learned_now : (p : Forest) (t : List Event) (b : BranchId) (m : Option Bool) → Lawful p (Learn b decisions.Rollback m ∷ t) → learned (Learn b decisions.Rollback m ∷ t) b ≡ Some decisions.Rollback
learned_now p t b m l = let none : learned t b ≡ None = l.0.1 in grind (arith, same_reports)

abbrev RolledBack : Forest → List Event → BranchId → List Entry → Type 0
RolledBack p t g book = (b : BranchId) × (learned t b ≡ Some decisions.Rollback) × (is_of (global_in b book) g ≡ true)

rollback_now : (p : Forest) (s : Event) (t : List Event) (g : BranchId) (book : List Entry) → Lawful p (s ∷ t) → shows (is_rollback_of book g) (entry_by s) ≡ true → RolledBack p (s ∷ t) g book
rollback_now p (Learn b decisions.Rollback None) t g book l e = (b, learned_now p t b None l, e)
rollback_now p (Learn b decisions.Rollback (Some m)) t g book l e = (b, learned_now p t b (Some m) l, e)
rollback_now p (Learn b (decisions.Commit n) None) t g book l e = absurd cc
rollback_now p (Learn b (decisions.Commit n) (Some m)) t g book l e = absurd cc
rollback_now p s t g book l e = absurd cc

rollback_is : (p : Forest) (t : List Event) (g : BranchId) (book : List Entry) → Lawful p t → stands (is_rollback_of book g) (book_of t) ≡ true → RolledBack p t g book
rollback_is p [] g book l h = absurd cc
rollback_is p (s ∷ t) g book l h = elim (some_is (is_rollback_of book g) s t h) [
  | inl old ↦ (let r = rollback_is p t g book l.1 old in (r.0, learned_stays s t r.0 decisions.Rollback r.1, r.2))
  | inr new ↦ rollback_now p s t g book l new
]

is_of_same : (o : Option BranchId) (h g : BranchId) → o ≡ Some h → is_of o g ≡ true → h ≡ g
is_of_same None h g e i = absurd cc
is_of_same (Some x) h g e i = let q : x ≡ g = (same_reports x g).0 i in cc (e, q)

-- ---- each entry agrees

-- what a live branch has none of
live_end : (p : Forest) (t : List Event) (b : BranchId) → Inv p t → exit t b ≡ None → stands (is_end_of b) (book_of t) ≡ false
live_end p t b i e = no_end t b (go (learned t b) refl) (go' (forced t b) refl)
  where
    go : (o : Option Decision) → learned t b ≡ o → o ≡ None
    go None q = refl
    go (Some d) q = let x = i.learned_sealed b d q in absurd (cc (e, x.1))

    go' : (o : Option Decision) → forced t b ≡ o → o ≡ None
    go' None q = refl
    go' (Some d) q = let x = i.forced_sealed b d q in absurd (cc (e, x.1))

none_of : {A : Type 0} (o : Option A) → ((a : A) → o ≡ Some a → ⊥) → o ≡ None
none_of None h = refl
none_of (Some a) h = absurd (h a refl)

seal_follows : (p : Forest) (t : List Event) (b g : BranchId) (n : ℕ) (cs : List Change) → IsForest p → Lawful p (Seal b g n cs ∷ t) → Follows (book_of t) (entries.Sealed b g cs n)
seal_follows p t b g n cs w l = (no_sealed t b l.0.0, no_decided t b l.0.0, live_end p t b (inv p t w l.1) l.0.0)

decide_follows : (p : Forest) (t : List Event) (b g : BranchId) (n : ℕ) (cs : List Change) → IsForest p → Lawful p (Decide b g n cs ∷ t) → Follows (book_of t) (entries.Decided b g cs n)
decide_follows p t b g n cs w l =
    let i = inv p t w l.1 in
    let at_site : b ≡ p.site g = l.0.1 ∙ ap p.site l.0.3 in
    let none : exit t (p.site g) ≡ None = subst (λ z. exit t z ≡ None) at_site l.0.0 in
    let now : exit (Decide b g n cs ∷ t) (p.site g) ≡ Some (Decided n) = subst (λ z. exit (Decide b g n cs ∷ t) z ≡ Some (Decided n)) at_site (exit_decided p (Decide b g n cs ∷ t) b g n cs l (inl refl)) in (
      undecided p t g l.1 (λ k d. absurd (cc (d, none))),
      not_true (stands (is_rollback_of (book_of t) g) (book_of t)) (λ r.
          let q = rollback_is p t g (book_of t) l.1 r in
          let x = i.learned_sealed q.0 decisions.Rollback q.1 in
          let one : p.root q.0 ≡ g = is_of_same (global_in q.0 (book_of t)) (p.root q.0) g (root_in_book p t q.0 x.0 l.1 x.1) q.2 in
          let lost = subst (λ h. Doomed p t h) one (i.learned_rollback q.0 q.1) in
          not_doomed p (Decide b g n cs ∷ t) n g w (inv p (Decide b g n cs ∷ t) w l) now (doomed_stays p (Decide b g n cs) t g lost)),
      no_sealed t b l.0.0,
      live_end p t b i l.0.0,
    )

learned_before : (p : Forest) (t : List Event) (b : BranchId) (d : Decision) (m : Option Bool) → Allowed p t (Learn b d m) → ((n : ℕ) × (exit t b ≡ Some (Sealed n))) × (learned t b ≡ None) × (m ≡ mark (forced t b) d)
learned_before p t b (decisions.Commit n) m a = (a.0, a.1, a.3)
learned_before p t b decisions.Rollback m a = (a.0, a.1, a.3)

as_decided_at : (p : Forest) (t : List Event) (b : BranchId) (d : Decision) (m : Option Bool) → IsForest p → Lawful p (Learn b d m ∷ t) → AsDecided d (Some (p.root b)) (book_of t)
as_decided_at p t b (decisions.Commit n) m w l = let r = decision_before p t b n m w l in has_decision t (site_of p b) (p.root b) n r.0 r.1
as_decided_at p t b decisions.Rollback m w l =
    let i = inv p (Learn b decisions.Rollback m ∷ t) w l in
    let lost = i.learned_rollback b (learned_now p t b m l) in
    undecided p t (p.root b) l.1 (λ n d. not_doomed p (Learn b decisions.Rollback m ∷ t) n (p.root b) w i (exit_stays (Learn b decisions.Rollback m) t (p.site (p.root b)) (Decided n) d) lost)

settled : (p : Forest) (t : List Event) (b : BranchId) (d : Decision) (m : Option Bool) → IsForest p → Lawful p (Learn b d m ∷ t) → AsDecided d (global_in b (book_of t)) (book_of t)
settled p t b d m w l = let a = learned_before p t b d m l.0 in
    subst (λ o. AsDecided d o (book_of t)) (sym (root_in_book p t b a.0.0 l.1 a.0.1)) (as_decided_at p t b d m w l)

-- a decision without a mark is of a branch that was not forced, and one with a mark of one that was
unmarked : (o : Option Decision) (d : Decision) → None ≡ mark o d → o ≡ None
unmarked None d e = refl
unmarked (Some k) d e = absurd cc

marked : (o : Option Decision) (d : Decision) (m : Bool) → Some m ≡ mark o d → (k : Decision) × ((o ≡ Some k) × (m ≡ differ k d))
marked None d m e = absurd cc
marked (Some k) d m e = (k, (refl, cc e))

learn_follows : (p : Forest) (t : List Event) (b : BranchId) (d : Decision) (m : Option Bool) → IsForest p → Lawful p (Learn b d m ∷ t) → Given Follows (book_of t) (entry_by (Learn b d m))
learn_follows p t b d None w l = let a = learned_before p t b d None l.0 in
    (has_sealed t b a.0.0 a.0.1, no_end t b a.1 (unmarked (forced t b) d a.2), settled p t b d None w l)
learn_follows p t b d (Some m) w l = let a = learned_before p t b d (Some m) l.0 in let k = marked (forced t b) d m a.2 in
    (has_forced t b k.0 k.1.0, no_met t b a.1, settled p t b d (Some m) w l)

event_follows : (p : Forest) (s : Event) (t : List Event) → IsForest p → Lawful p (s ∷ t) → Given Follows (book_of t) (entry_by s)
event_follows p (Make n table) t w l = tt
event_follows p (Seal b g n cs) t w l = seal_follows p t b g n cs w l
event_follows p (Decide b g n cs) t w l = decide_follows p t b g n cs w l
event_follows p (Learn b d m) t w l = learn_follows p t b d m w l
event_follows p (Force b o) t w l = (has_sealed t b l.0.0 l.0.1, no_end t b l.0.2 l.0.3)
event_follows p s t w l = tt

pub books_agree : BooksAgree
books_agree p w [] l = tt
books_agree p w (s ∷ t) l = each_with Follows (book_of t) (entry_by s) (books_agree p w t l.1) (event_follows p s t w l)

-- ---- mixed outcomes are marked

event_marks : (p : Forest) (s : Event) (t : List Event) → Allowed p t s → Given Marks (book_of t) (entry_by s)
event_marks p (Learn b d (Some m)) t a = let k = marked (forced t b) d m (learned_before p t b d (Some m) a).2 in (k.0, (forced_same t b ∙ k.1.0, k.1.1))
event_marks p (Learn b d None) t a = tt
event_marks p s t a = tt

pub books_are_marked : BooksAreMarked
books_are_marked p w [] l = tt
books_are_marked p w (s ∷ t) l = each_with Marks (book_of t) (entry_by s) (books_are_marked p w t l.1) (event_marks p s t l.0)

-- ---- the entries of a book are those of events

at_end : (es : List Entry) (x e : Entry) (i : ℕ) → At (es ++ x ∷ []) i e → At es i e ⊎ (x ≡ e)
at_end [] x e zero h = inr cc
at_end [] x e (suc i) h = inl h
at_end (y ∷ es) x e zero h = inl h
at_end (y ∷ es) x e (suc i) h = at_end es x e i h

at_with : (es : List Entry) (o : Option Entry) (e : Entry) (i : ℕ) → At (with_entry es o) i e → At es i e ⊎ (o ≡ Some e)
at_with es None e i h = inl h
at_with es (Some x) e i h = elim (at_end es x e i h) [ inl old ↦ inl old | inr new ↦ inr (ap Some new) ]

decided_entry : (s : Event) (b g : BranchId) (cs : List Change) (n : ℕ) → entry_by s ≡ Some (entries.Decided b g cs n) → s ≡ Decide b g n cs
decided_entry (Decide c h m ds) b g cs n e = cc e
decided_entry (Learn c d None) b g cs n e = absurd cc
decided_entry (Learn c d (Some m)) b g cs n e = absurd cc
decided_entry s b g cs n e = absurd cc

sealed_entry : (s : Event) (b g : BranchId) (cs : List Change) (n : ℕ) → entry_by s ≡ Some (entries.Sealed b g cs n) → s ≡ Seal b g n cs
sealed_entry (Seal c h m ds) b g cs n e = cc e
sealed_entry (Learn c d None) b g cs n e = absurd cc
sealed_entry (Learn c d (Some m)) b g cs n e = absurd cc
sealed_entry s b g cs n e = absurd cc

decided_at : (t : List Event) (i : ℕ) (b g : BranchId) (cs : List Change) (n : ℕ) → At (book_of t) i (entries.Decided b g cs n) → Has (Decide b g n cs) t
decided_at [] i b g cs n h = absurd cc
decided_at (s ∷ t) i b g cs n h = elim (at_with (book_of t) (entry_by s) (entries.Decided b g cs n) i h) [
  | inl old ↦ inr (decided_at t i b g cs n old)
  | inr new ↦ inl (decided_entry s b g cs n new)
]

sealed_at : (t : List Event) (i : ℕ) (b g : BranchId) (cs : List Change) (n : ℕ) → At (book_of t) i (entries.Sealed b g cs n) → Has (Seal b g n cs) t
sealed_at [] i b g cs n h = absurd cc
sealed_at (s ∷ t) i b g cs n h = elim (at_with (book_of t) (entry_by s) (entries.Sealed b g cs n) i h) [
  | inl old ↦ inr (sealed_at t i b g cs n old)
  | inr new ↦ inl (sealed_entry s b g cs n new)
]

pub decisions_exceed_seals : DecisionsExceedSeals
decisions_exceed_seals p w t l i j b c g cs ds m n hi hj =
    let decide = decided_at t i b g cs m hi in
    let seal = sealed_at t j c g ds n hj in
    let a = was_allowed p (Decide b g m cs) t l decide in
    let z = was_allowed p (Seal c g n ds) t l seal in
    let at_site : b ≡ site_of p c = a.1.1 ∙ ap p.site (a.1.3 ∙ sym z.1.4) in
    later p w t l c m n (subst (λ y. exit t y ≡ Some (Decided m)) at_site (exit_decided p t b g m cs l decide)) (exit_sealed p t c g n ds l seal)
