-- Whom a record names, and who of them is not toward: the children that answered Prepared, and the parent.
use Rattle.std.proofs.Common.{◌≡◌, ℕ, zero, suc, ◌+◌, ◌||◌, ◌⊎◌, not, Bool, true, false, if◌then◌else◌, List, [], ◌∷◌, map, filter, Option, Some, None, inl, inr, refl, ap, ◌∙◌, arith}
use Rattle.std.specs.List.{AllByRecursion}
use Rattle.std.proofs.lemmas.Bool.{cond_both}
use Rattle.std.proofs.lemmas.Bool.Decides.{nat_tests}
use Rattle.commit_forget.specs.declared.next.Beyond.{Beyond}
use Rattle.commit_forget.specs.Beyond.{parent_beyond, kid_beyond}
use Rattle.prepare_phase.specs.Records.{named_children, is_prepared, is_place, peer_record}
use Rattle.redo_record.specs.Rows.{kid_of}
use Rattle.session_tree.specs.Live.{is_branch}
use Rattle.node_rules.specs.Data.{BranchId, Edge, Peer, KeptRow}
use Rattle.node_rules.specs.Words.{numbered}

module _ (P Q : BranchId → Type 0) (path : Option ℕ) where
  place_is : (from : ℕ) → is_place from path ≡ true → path ≡ Some (from + 0)
  place_is from is = by path is
    where
      by : (o : Option ℕ) → is_place from o ≡ true → o ≡ Some (from + 0)
      by None at = absurd cc
      by (Some j) at = ap Some (grind (arith, nat_tests))

  -- each child that a record names answered Prepared, or is the one that the walk goes to
  pub named_so : (from : ℕ) (es : List Edge) → AllByRecursion (λ e. is_prepared e ≡ true → P e.peer) es → ((j : ℕ) (c : BranchId) → numbered (map (λ (e : Edge). e.peer) es) (suc j) ≡ Some c → path ≡ Some (from + j) → Q c)
      → AllByRecursion (λ (q : Peer). P q.branch ⊎ Q q.branch) (named_children path from es)
  named_so from [] all on = tt
  named_so from (e ∷ es) all on = by (is_prepared e) refl (is_place from path) refl (named_so (from + 1) es all.1 (λ j c at is. on (suc j) c at (is ∙ ap Some (omega arith))))
    where
      by : (q : Bool) → is_prepared e ≡ q → (r : Bool) → is_place from path ≡ r → AllByRecursion (λ (x : Peer). P x.branch ⊎ Q x.branch) (named_children path (from + 1) es)
          → AllByRecursion (λ (x : Peer). P x.branch ⊎ Q x.branch) (if q || r then peer_record e ∷ named_children path (from + 1) es else named_children path (from + 1) es)
      by true is r at rest = (inl (all.0 is), rest)
      by false is true at rest = (inr (on zero e.peer refl (place_is from at)), rest)
      by false is false at rest = rest

module _ (P : BranchId → Type 0) (toward : Option BranchId) where
  -- so those that are not toward did
  pub kids_so : (ps : List Peer) → AllByRecursion (λ (q : Peer). P q.branch ⊎ (is_branch q.branch toward ≡ true)) ps → AllByRecursion (λ (y : Beyond). P y.branch) (map kid_beyond (filter (λ c. not (is_branch c.branch toward)) (map kid_of ps)))
  kids_so [] all = tt
  kids_so (q ∷ ps) all = by (is_branch q.branch toward) refl (kids_so ps all.1)
    where
      by : (w : Bool) → is_branch q.branch toward ≡ w → AllByRecursion (λ (y : Beyond). P y.branch) (map kid_beyond (filter (λ c. not (is_branch c.branch toward)) (map kid_of ps)))
          → AllByRecursion (λ (y : Beyond). P y.branch) (map kid_beyond (if not w then kid_of q ∷ filter (λ c. not (is_branch c.branch toward)) (map kid_of ps) else filter (λ c. not (is_branch c.branch toward)) (map kid_of ps)))
      by true on rest = rest
      by false off rest = (elim all.0 [ inl so ↦ so | inr on ↦ absurd (cc (on, off)) ], rest)

pub parent_so : (P : BranchId → Type 0) (s : KeptRow) (o : Option BranchId) → ((q : BranchId) → o ≡ Some q → is_branch q s.toward ≡ false → P q) → AllByRecursion (λ (y : Beyond). P y.branch) (parent_beyond s o)
parent_so P s None each = tt
parent_so P s (Some q) each = cond_both (is_branch q s.toward) _ _ (AllByRecursion (λ (y : Beyond). P y.branch)) (λ on. tt) (λ off. (each q refl off, tt))
