-- With what is told of roots and of changes, all that is told of live branches is what their nodes keep.
use Rattle.std.proofs.Common.{◌≡◌, ℕ, List, ◌∷◌, ◌++◌, Option, Some, None, refl, sym, ap, ◌∙◌}
use Rattle.node_rules.specs.Data.{BranchId, Live}
use Rattle.node_rules.specs.Data.phases
use Rattle.node_rules.specs.NodeState.{NodeState, live_at}
use Rattle.node_rules.specs.Prepare.{own_changes}
use Rattle.run_rules.specs.Branches.{Seen, Trail, seen_at, own_of, plan_at}
use Rattle.run_rules.specs.Data.{Happening}
use Rattle.run_rules.specs.Each.{AtEach}
use Rattle.run_rules.specs.Facts.{Facts, node_at}
use Rattle.run_rules.specs.Lawful.{History, IsLawfulRun}
use Rattle.tree_laws.proofs.PrefixLemmas.{f_at}
use Rattle.tree_trail_laws.specs.LowerLaws.{IsTracedLive}
use Rattle.tree_trail_laws.specs.SeenLaws as left
use Rattle.tree_trail_laws.specs.SeenLaws.{SeesRoots}
use Rattle.tree_trail_laws.proofs.LowerRunLemmas.{lower_at}
use Rattle.tree_trail_laws.proofs.MomentLemmas.{tr_at, at_moment, by_moment}

-- What is told of a live branch, with its changes; no COMMIT was accepted of a root that is working.
pub record IsSeenSo (tr : Trail) (k : NodeState) (l : Live) (s : Seen) : Type 0 where
  pub told : IsTracedLive l s
  pub own : own_of (Some s) ≡ own_changes k l.me
  pub unplanned : l.parent ≡ None → l.phase ≡ phases.Working → plan_at tr l.me ≡ None

abbrev pub SeesLives : Facts → Trail → Type 0
SeesLives f tr = (n : ℕ) (k : NodeState) → node_at f n ≡ Some k → (l : Live) → live_at k l.me ≡ Some l → (s : Seen) × (seen_at tr l.me ≡ Some s) × IsSeenSo tr k l s

pub record Sees (f : Facts) (tr : Trail) : Type 0 where
  pub lives : SeesLives f tr
  pub roots : SeesRoots f tr

abbrev pub SeesAll : History → Type 0
SeesAll t = AtEach (λ places f tr h. Sees f tr) t

module _ (t : History) (whole : IsLawfulRun t) (sees : left.SeesAll t) where
  module _ (hs : List Happening) (h : Happening) (rest : List Happening) (is : hs ++ h ∷ rest ≡ t.trace) where
    saw : left.Sees (f_at t hs) (tr_at t hs)
    saw = at_moment t (λ places f tr h. left.Sees f tr) sees hs h rest is

    lives : SeesLives (f_at t hs) (tr_at t hs)
    lives n k up l live = by l.parent refl
      where
        its_own : (s : Seen) → seen_at (tr_at t hs) l.me ≡ Some s → own_of (Some s) ≡ own_changes k l.me
        its_own s at = sym (ap own_of at) ∙ saw.owns n k up l live

        by : (o : Option BranchId) → l.parent ≡ o → (s : Seen) × (seen_at (tr_at t hs) l.me ≡ Some s) × IsSeenSo (tr_at t hs) k l s
        by None root = (let it = saw.tops n k up l live root in (it.0, it.1, record { told = it.2; own = its_own it.0 it.1; unplanned = λ top working. it.3 working }))
        by (Some q) above =
            let it = lower_at t whole hs (record { rest = h ∷ rest; is = is }) n k up l live (λ none. absurd (cc (above, none))) in
            (it.0, it.1, record { told = it.2; own = its_own it.0 it.1; unplanned = λ top working. absurd (cc (above, top)) })

    full_at : Sees (f_at t hs) (tr_at t hs)
    full_at = record { lives = lives; roots = saw.roots }

  pub full : SeesAll t
  full = by_moment t (λ places f tr h. Sees f tr) (λ hs h rest is. full_at hs h rest is)
