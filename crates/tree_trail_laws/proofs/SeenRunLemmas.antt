-- In every lawful run the happenings tell of roots, and of the changes of live branches, what their nodes keep: of either, what is so up to a happening
-- makes the other so there. So all that they tell of live branches is so, and each answer of a run is meant.
use Rattle.std.proofs.Common.{◌≡◌, List, [], ◌∷◌, ◌++◌, append-nil}
use Rattle.node_rules.specs.Data.{Place}
use Rattle.run_rules.specs.Branches.{Trail, no_trail}
use Rattle.run_rules.specs.Data.{Happening, Command}
use Rattle.run_rules.specs.Each.{EachFrom, AtEach}
use Rattle.run_rules.specs.Facts.{Facts, first_facts, facts_after}
use Rattle.run_claims.specs.Headline.{EveryRunIsMeant, EverySiteDecides}
use Rattle.run_rules.specs.Lawful.{History, IsLawfulRun}
use Rattle.run_rules.specs.Trail.{trail_after}
use Rattle.tree_laws.proofs.PrefixLemmas.{so_far, f_at}
use Rattle.tree_laws.proofs.TimeLemmas.{Part, part_lawful, part_of, keep_on}
use Rattle.tree_trail_laws.specs.OwnLaws.{TracesRoots, AllIsSeen, DecisionsCover, LeavesAreDue}
use Rattle.tree_trail_laws.specs.SeenLaws.{TracesOwns}
use Rattle.tree_trail_laws.proofs.EnoughLemmas.{seen_is_enough}
use Rattle.tree_trail_laws.proofs.LeaveLemmas.{seen_is_enough_to_leave}
use Rattle.tree_trail_laws.proofs.MomentLemmas.{tr_at}
use Rattle.tree_trail_laws.proofs.OwnFollowLemmas.{owns_follow, meanings_follow, sees_follow}
use Rattle.tree_trail_laws.proofs.TopFollowLemmas.{each_last, tops_follow}

-- a law of each happening that follows from another
each_weaker : (places : List Place) (asked : List Command) (A B : Facts → Trail → Happening → Type 0) → ((f : Facts) (tr : Trail) (h : Happening) → A f tr h → B f tr h) → (f : Facts) (tr : Trail) (hs : List Happening)
    → EachFrom A places asked f tr hs → EachFrom B places asked f tr hs
each_weaker places asked A B weaker f tr [] each = tt
each_weaker places asked A B weaker f tr (h ∷ hs) each = (weaker f tr h each.0, each_weaker places asked A B weaker (facts_after places asked f h) (trail_after places f tr h) hs each.1)

-- Roots, and changes of live branches, are told as their nodes keep them.
pub record TellsBoth (places : List Place) (f : Facts) (tr : Trail) : Type 0 where
  pub roots : TracesRoots places f tr
  pub owns : TracesOwns f tr

abbrev pub EachTells : History → Type 0
EachTells t = AtEach (λ places f tr h. TellsBoth places f tr) t

module _ (s : History) (each : EachTells s) where
  roots_before : AtEach (λ places f tr h. TracesRoots places f tr) s
  roots_before = each_weaker s.places s.commands (λ f tr h. TellsBoth s.places f tr) (λ f tr h. TracesRoots s.places f tr) (λ f tr h both. both.roots) (first_facts s.places) no_trail s.trace each

  owns_before : AtEach (λ places f tr h. TracesOwns f tr) s
  owns_before = each_weaker s.places s.commands (λ f tr h. TellsBoth s.places f tr) (λ f tr h. TracesOwns f tr) (λ f tr h both. both.owns) (first_facts s.places) no_trail s.trace each

module _ (t : History) (whole : IsLawfulRun t) where
  both_at : (hs : List Happening) → Part t whole hs → EachTells (so_far t hs) → TellsBoth t.places (f_at t hs) (tr_at t hs)
  both_at hs part each =
      let it = tops_follow (so_far t hs) (part_lawful t whole hs part) (owns_before (so_far t hs) each) in
      record {
        roots = record { tops = it.0; roots = it.1; next = it.2 };
        owns = owns_follow (so_far t hs) (part_lawful t whole hs part) (roots_before (so_far t hs) each);
      }

  both_on : (hs : List Happening) (h : Happening) (more : List Happening) → hs ++ h ∷ more ≡ t.trace → EachTells (so_far t hs) → EachTells (so_far t (hs ++ h ∷ []))
  both_on hs h more is each = each_last t.places t.commands (λ f tr x. TellsBoth t.places f tr) (first_facts t.places) no_trail hs h each (both_at hs (part_of t whole hs h more is) each)

  each_tells : EachTells t
  each_tells = keep_on t whole (λ hs. EachTells (so_far t hs)) both_on [] t.trace (record { rest = []; is = append-nil t.trace }) tt

  all_told : AtEach (λ places f tr h. TracesRoots places f tr) t
  all_told = roots_before t each_tells

pub all_is_seen : AllIsSeen
all_is_seen t whole = sees_follow t whole (all_told t whole)

pub every_run_is_meant : EveryRunIsMeant
every_run_is_meant t whole = meanings_follow t whole (all_told t whole)

pub every_site_decides : EverySiteDecides
every_site_decides t whole = (seen_is_enough t whole (all_is_seen t whole)).0

pub decisions_cover : DecisionsCover
decisions_cover t whole = let all = seen_is_enough t whole (all_is_seen t whole) in (all.1, all.2)

pub leaves_are_due : LeavesAreDue
leaves_are_due t whole = seen_is_enough_to_leave t whole (all_is_seen t whole)
