-- A branch that seals has no exit before, so its transaction was not decided: a decision covers the whole tree.
use Rattle.std.proofs.Common.{◌≡◌, ℕ, false, List, [], ◌∷◌, ◌++◌, Some, None, inl, inr, sym, subst, append-nil, append_assoc}
use Rattle.agreement.specs.Outcomes.{stands, is_decision_on, EachAgainst}
use Rattle.agreement.specs.Events.{Forest, IsForest, Decided, Event, Make, Seal, Decide, Force, Learn, exit, Lawful, site_of}
use Rattle.agreement.specs.BookOf.{book_of}
use Rattle.agreement.proofs.AgreementLaws.{covered}
use Rattle.agreement.proofs.BookTests.{not_true}
use Rattle.agreement.proofs.BookLaws.{decision_is}
use Rattle.node_rules.specs.Data.{Change, BranchId}
use Rattle.run_rules.specs.Data.{Entry}
use Rattle.run_base_laws.specs.RunEvents.{events_of}
use Rattle.run_branch_laws.proofs.EventBookLemmas.{book_of_events}
use Rattle.run_branch_laws.proofs.JustLemmas.{just_runs_are_lawful}
use Rattle.run_branch_laws.proofs.TreeJustLemmas.{runs_by_trees_are_just}
use Rattle.run_rules.specs.Lawful.{History, IsLawfulRun}
use Rattle.tree_laws.specs.Forests.{forest_of}
use Rattle.tree_laws.proofs.ForestRunLemmas.{runs_have_forests}
use Rattle.tree_laws.proofs.AgreeLemmas.{runs_go_by_forest}
use Rattle.book_laws.specs.SealLaws.{ComesFirst, SealsComeFirst}

-- ---- one entry more

pub each_more : (P : List Entry → Entry → Type 0) (older es : List Entry) (e : Entry) → EachAgainst P older es → P (older ++ es) e → EachAgainst P older (es ++ e ∷ [])
each_more P older [] e all last = (subst (λ z. P z e) (append-nil older) last, tt)
each_more P older (x ∷ xs) e all last = (all.0, each_more P (older ++ x ∷ []) xs e all.1 (subst (λ z. P z e) (sym (append_assoc older (x ∷ []) xs)) last))

-- ---- a seal comes before the decision

module _ (p : Forest) (w : IsForest p) where
  undecided : (t : List Event) (b g : BranchId) (n : ℕ) (cs : List Change) → Lawful p (Seal b g n cs ∷ t) → stands (is_decision_on g) (book_of t) ≡ false
  undecided t b g n cs l = not_true (stands (is_decision_on g) (book_of t)) (λ stood.
      let d : (m : ℕ) × (exit t (p.site g) ≡ Some (Decided m)) = decision_is p t g l.1 stood in
      let at_site : exit t (site_of p b) ≡ Some (Decided d.0) = subst (λ h. exit t (p.site h) ≡ Some (Decided d.0)) (sym l.0.4) d.1 in
      elim (covered p t b d.0 w l.1 at_site l.0.1) [
        | inl is_site ↦ absurd (l.0.2 is_site)
        | inr c ↦ elim c.2 [ inl sealed ↦ absurd (cc (sealed.1, l.0.0)) | inr quiet ↦ absurd (cc (quiet, l.0.0)) ]
      ])

  firsts : (t : List Event) → Lawful p t → EachAgainst ComesFirst [] (book_of t)
  firsts [] l = tt
  firsts (Seal b g n cs ∷ t) l = each_more ComesFirst [] (book_of t) _ (firsts t l.1) (undecided t b g n cs l)
  firsts (Make n table ∷ t) l = each_more ComesFirst [] (book_of t) _ (firsts t l.1) tt
  firsts (Decide b g n cs ∷ t) l = each_more ComesFirst [] (book_of t) _ (firsts t l.1) tt
  firsts (Learn b d None ∷ t) l = each_more ComesFirst [] (book_of t) _ (firsts t l.1) tt
  firsts (Learn b d (Some mixed) ∷ t) l = each_more ComesFirst [] (book_of t) _ (firsts t l.1) tt
  firsts (Force b o ∷ t) l = each_more ComesFirst [] (book_of t) _ (firsts t l.1) tt
  firsts (_ ∷ t) l = firsts t l.1

-- ---- every run

-- the events of every lawful run are lawful by the forest of its Prepares
pub lawful_events : (t : History) → IsLawfulRun t → Lawful (forest_of t) (events_of t)
lawful_events t lawful = just_runs_are_lawful t (forest_of t) (runs_by_trees_are_just t lawful (forest_of t) (runs_go_by_forest t lawful))

pub seals_come_first : SealsComeFirst
seals_come_first t lawful = subst (EachAgainst ComesFirst []) (book_of_events t) (firsts (forest_of t) (runs_have_forests t lawful) (events_of t) (lawful_events t lawful))
