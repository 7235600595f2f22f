-- In a lawful run in which the changes that are told of live branches are those that their nodes keep, before each happening, what is told of roots is so
-- at the end.
use Rattle.std.proofs.Common.{◌≡◌, List, [], ◌∷◌, ◌++◌, append-nil}
use Rattle.node_rules.specs.Data.{Place}
use Rattle.run_rules.specs.Branches.{Trail}
use Rattle.run_rules.specs.Data.{Happening, Command}
use Rattle.run_rules.specs.Data.happenings
use Rattle.run_rules.specs.Each.{EachFrom, AtEach}
use Rattle.run_rules.specs.Facts.{Facts, first_facts, facts_after, facts_of}
use Rattle.run_rules.specs.Lawful.{History, IsLawfulRun}
use Rattle.run_rules.specs.Branches.{no_trail}
use Rattle.run_rules.specs.Trail.{trail_after, trail_of}
use Rattle.tree_laws.proofs.PrefixLemmas.{so_far}
use Rattle.tree_laws.proofs.TimeLemmas.{Part, part_of, keep_on}
use Rattle.tree_trail_laws.specs.SeenLaws.{TracesTops, TracesOwns, SeesRoots, TracesStrengths}
use Rattle.tree_trail_laws.specs.TopLaws.{TopsFollow}
use Rattle.tree_trail_laws.proofs.TopFinishLemmas.{Earlier, ends_siteless_planned}
use Rattle.tree_trail_laws.proofs.TopTurnLemmas.{Tops, seen_roots, strong_tops}
use Rattle.tree_trail_laws.proofs.TopRunLemmas.{EndsSiteless, tops_go_on, first_tops}
use Rattle.tree_trail_laws.proofs.TopSeesLemmas.{names_next}

-- a law of each happening, with one more
module _ (places : List Place) (asked : List Command) (So : Facts → Trail → Happening → Type 0) where
  pub each_last : (f : Facts) (tr : Trail) (hs : List Happening) (h : Happening) → EachFrom So places asked f tr hs → So (facts_of places asked f hs) (trail_of places asked f tr hs) h → EachFrom So places asked f tr (hs ++ h ∷ [])
  unfolding facts_of trail_of
  each_last f tr [] h each so = (so, tt)
  each_last f tr (x ∷ hs) h each so = (each.0, each_last (facts_after places asked f x) (trail_after places f tr x) hs h each.1 so)

module _ (t : History) (whole : IsLawfulRun t) (owns : AtEach (λ places f tr h. TracesOwns f tr) t) where
  -- what is told of roots before each happening, and now
  abbrev Follows : List Happening → Type 0
  Follows hs = Earlier (so_far t hs) × Tops t whole hs

  siteless : (hs : List Happening) → Earlier (so_far t hs) → EndsSiteless t whole hs
  siteless hs earlier u rest is now = λ cut z z_live top writes finishes. ends_siteless_planned t whole owns hs u rest is now.tops (seen_roots t whole hs (part_of t whole hs (happenings.Turn u) rest is) now)
      (strong_tops t whole hs (part_of t whole hs (happenings.Turn u) rest is) now) earlier z z_live top writes finishes

  follows_on : (hs : List Happening) (h : Happening) (rest : List Happening) → hs ++ h ∷ rest ≡ t.trace → Follows hs → Follows (hs ++ h ∷ [])
  follows_on hs h rest is now = (
    each_last t.places t.commands (λ f tr h. TracesTops f tr × SeesRoots f tr × TracesStrengths t.places f tr) (first_facts t.places) no_trail hs h now.0
        (now.1.tops, seen_roots t whole hs (part_of t whole hs h rest is) now.1, strong_tops t whole hs (part_of t whole hs h rest is) now.1),
    tops_go_on t whole hs h rest is (siteless hs now.0) now.1,
  )

  pub tops_at : (hs : List Happening) → Part t whole hs → Follows hs
  tops_at hs part = keep_on t whole Follows follows_on [] hs part (tt, first_tops t whole)

pub tops_follow : TopsFollow
tops_follow t whole owns =
    let part : Part t whole t.trace = record { rest = []; is = append-nil t.trace } in
    let now : Tops t whole t.trace = (tops_at t whole owns t.trace part).1 in
    (now.tops, seen_roots t whole t.trace part now, names_next t whole t.trace part now.counts now.ordered)
