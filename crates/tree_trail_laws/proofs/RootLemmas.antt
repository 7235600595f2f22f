-- The walk from a root stays in its tree: by the births of the run each branch on it has that root.
use Rattle.std.proofs.Common.{◌≡◌, ℕ, List, [], ◌∷◌, ◌++◌, Option, Some, None, refl, sym, ap, subst, ◌∙◌}
use Rattle.std.specs.List.{AllByRecursion}
use Rattle.tran_ids.proofs.ListedLemmas.{item_is}
use Rattle.session_tree.specs.Live.{children_of}
use Rattle.node_rules.specs.Data.{BranchId, Live, Decided, RedoRecord}
use Rattle.node_rules.specs.Data.records
use Rattle.node_rules.specs.Words.{numbered}
use Rattle.node_rules.specs.NodeState.{NodeState, live_id, live_at}
use Rattle.node_rules.specs.Sessions.{session_at}
use Rattle.run_rules.specs.Facts.{Facts, node_at, records_at}
use Rattle.run_rules.specs.Lawful.{History, IsLawfulRun, facts_at}
use Rattle.run_rules.specs.Births.{Born, births_of}
use Rattle.run_base_laws.specs.BirthLaws.{Began, LiveIs, RecordNames}
use Rattle.run_base_laws.specs.InTurnLaws.{said_in}
use Rattle.run_base_laws.proofs.BirthRunLemmas.{nodes_name_the_born}
use Rattle.run_base_laws.proofs.KidLemmas.{child_of}
use Rattle.run_base_laws.proofs.OwnLemmas.{all_found}
use Rattle.run_base_laws.proofs.RootLemmas.{roots_are_of_sessions}
use Rattle.tree_laws.proofs.ForestLemmas as trees
use Rattle.tree_laws.proofs.SettleRunLemmas.{known}
use Rattle.tree_laws.specs.DecideLaws.{live_of, live_in, WalksTo, Ends_here, Goes_down}
use Rattle.tree_laws.proofs.MemberLemmas.{IsIn, born_below}

-- a live branch, and the node that keeps it
pub record IsLiveIn (f : Facts) (b : BranchId) (l : Live) : Type 0 where
  pub kept : NodeState
  pub up : node_at f b.node ≡ Some kept
  pub found : live_at kept b ≡ Some l

pub live_there : (f : Facts) (b : BranchId) (l : Live) → live_in f b ≡ Some l → IsLiveIn f b l
live_there f b l is = by (node_at f b.node) refl is
  where
    by : (o : Option NodeState) → node_at f b.node ≡ o → live_of o b ≡ Some l → IsLiveIn f b l
    by None none some = absurd cc
    by (Some k) up found = record { kept = k; up = up; found = found }

-- the last of a list
pub last_so : {A : Type 0} (P : A → Type 0) (xs : List A) (y : A) → AllByRecursion P (xs ++ y ∷ []) → P y
last_so P [] y all = all.0
last_so P (x ∷ xs) y all = last_so P xs y all.1

module _ (t : History) (whole : IsLawfulRun t) where
  -- the birth of a live branch
  pub placed : (b : BranchId) (l : Live) → IsLiveIn (facts_at t) b l → LiveIs (Began (births_of t)) l
  placed b l at = all_found (LiveIs (Began (births_of t))) live_id at.kept.lives b l (nodes_name_the_born t whole b.node at.kept at.up).0 at.found

  kid_in : (g b c : BranchId) (l : Live) (i : ℕ) → IsLiveIn (facts_at t) b l → numbered (children_of l) i ≡ Some c → IsIn (births_of t) g b → IsIn (births_of t) g c
  kid_in g b c l i at is inside =
      let its : LiveIs (Began (births_of t)) l = placed b l at in
      let me : l.me ≡ b = item_is live_id at.kept.lives b l at.found in
      let below = born_below (births_of t) c l.me (child_of (births_of t) l its i c is) in
      let up = trees.below_of (births_of t) (said_in (facts_at t)) (known t whole) below.born l.me below.began below.is_parent in
      let one : up.up ≡ inside.0 = trees.same_born (births_of t) (said_in (facts_at t)) (known t whole) up.up inside.0 up.began inside.1 (up.is_me ∙ (me ∙ sym inside.2)) in
      (below.born, below.began, below.is_me, sym up.is_root ∙ (ap (λ (x : Born). x.root) one ∙ inside.3))

  pub walk_in : (g b c : BranchId) → WalksTo (facts_at t) b c → IsIn (births_of t) g b → IsIn (births_of t) g c
  walk_in g _ _ (Ends_here l b live here) inside = inside
  walk_in g _ _ (Goes_down l i b c d live down at rest) inside = walk_in g c d rest (kid_in g b c l i (live_there (facts_at t) b l live) at inside)

  -- the transaction of a session is in its own tree
  pub root_in : (n session : ℕ) (k : NodeState) (b : BranchId) (l : Live) → node_at (facts_at t) n ≡ Some k → (session_at k.sessions session).root ≡ Some b → live_at k b ≡ Some l → IsIn (births_of t) b b
  root_in n session k b l up has found =
      let none : l.parent ≡ None = (roots_are_of_sessions t whole n k up session b has).1 l found in
      let its : LiveIs (Began (births_of t)) l = all_found (LiveIs (Began (births_of t))) live_id k.lives b l (nodes_name_the_born t whole n k up).0 found in
      let me : l.me ≡ b = item_is live_id k.lives b l found in
      let stands = trees.stands_so (births_of t) (said_in (facts_at t)) (known t whole) its.born None its.began (its.is_parent ∙ none) in
      (its.born, its.began, its.is_me ∙ me, stands.0 ∙ (its.is_me ∙ me))

  -- the root that a decision names is the one of its branch
  pub record_root : (n : ℕ) (rs : List RedoRecord) (r : Decided) (g : BranchId) → records_at (facts_at t) n ≡ rs ++ records.Decided r ∷ [] → AllByRecursion (RecordNames (Began (births_of t))) (records_at (facts_at t) n)
      → IsIn (births_of t) g r.me → g ≡ r.root
  record_root n rs r g disk names inside =
      let its : RecordNames (Began (births_of t)) (records.Decided r) = last_so (RecordNames (Began (births_of t))) rs (records.Decided r) (subst (AllByRecursion (RecordNames (Began (births_of t)))) disk names) in
      let one : inside.0 ≡ its.born = trees.same_born (births_of t) (said_in (facts_at t)) (known t whole) inside.0 its.born inside.1 its.began (inside.2 ∙ sym its.is_me) in
      sym inside.3 ∙ (ap (λ (x : Born). x.root) one ∙ its.is_root)
