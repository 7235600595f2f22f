-- The branches of the transaction of a COMMIT: the tree below its root. What is shown of them from happening to happening.
use Rattle.std.proofs.Common.{◌≡◌, ◌≢◌, false, List, Some, None, sym, ap, subst, ◌∙◌}
use Rattle.std.specs.List.{AllByRecursion}
use Rattle.agreement.specs.Events.{Dropped, exit}
use Rattle.node_rules.specs.Data.{BranchId, Kind}
use Rattle.run_rules.specs.Births.{Born, births_of, born_id}
use Rattle.run_base_laws.specs.BirthLaws.{Began, StandsBelow}
use Rattle.run_rules.specs.Data.{Packet, Happening}
use Rattle.run_rules.specs.Facts.{Facts}
use Rattle.run_rules.specs.Lawful.{History, IsLawfulRun}
use Rattle.run_rules.specs.Trail.{is_abort}
use Rattle.run_base_laws.proofs.BirthRunLemmas.{births_are_trees}
use Rattle.run_base_laws.proofs.OwnLemmas.{all_found}
use Rattle.tree_laws.proofs.PrefixLemmas.{f_at, e_at}
use Rattle.run_claims.specs.Undisturbed.{Commit}
use Rattle.commit_spread_laws.proofs.GotLemmas.{same_born}

module _ (t : History) (c : Commit t.places t.commands t.trace) where
  -- a branch of its transaction
  abbrev pub InTree : BranchId → Type 0
  InTree b = (x : Born) × Began (births_of t) x × (x.me ≡ b) × (x.root ≡ c.root)

  -- such a branch says no Abort
  abbrev pub NoneAborts : BranchId → Kind → Type 0
  NoneAborts from kind = (x : Born) → Began (births_of t) x → x.me ≡ from → x.root ≡ c.root → is_abort kind ≡ false

  abbrev pub NobodyAborts : Facts → Type 0
  NobodyAborts f = AllByRecursion (λ (y : Packet). NoneAborts y.msg.from y.msg.kind) f.net.packets

  -- none below the root was dropped
  abbrev pub DropsNone : List Happening → Type 0
  DropsNone hs = (x : Born) → Began (births_of t) x → x.root ≡ c.root → x.parent ≢ None → exit (e_at t hs) x.me ≢ Some Dropped

  abbrev pub Stays : List Happening → Type 0
  Stays hs = DropsNone hs × NobodyAborts (f_at t hs)

module _ (t : History) (whole : IsLawfulRun t) (c : Commit t.places t.commands t.trace) where
  abbrev bs : List Born
  bs = births_of t

  stands : (x : Born) → Began bs x → StandsBelow (Began bs) x x.parent
  stands x began = all_found (λ z. StandsBelow (Began bs) z z.parent) born_id bs x.me x (births_are_trees t whole) began

  -- the parent of a branch of the tree is in it
  pub parent_in : (x : Born) → Began bs x → x.root ≡ c.root → (q : BranchId) → x.parent ≡ Some q → InTree t c q
  parent_in x began of q above =
      let below : StandsBelow (Began bs) x (Some q) = subst (StandsBelow (Began bs) x) above (stands x began) in
      (below.0, below.1, below.2, (below.3 ∙ of))

  -- and so is a child
  pub child_in : (x y : Born) → Began bs x → x.root ≡ c.root → Began bs y → y.parent ≡ Some x.me → y.root ≡ c.root
  child_in x y began of young above =
      let below : StandsBelow (Began bs) y (Some x.me) = subst (StandsBelow (Began bs) y) above (stands y young) in
      let it : below.0 ≡ x = same_born t whole below.0 x below.1 began below.2 in
      sym below.3 ∙ (ap (λ (z : Born). z.root) it ∙ of)
