-- In every lawful run a root that ends without a site has a plan without one, for none of its session tree had changes.
use Rattle.std.proofs.Common.{◌≡◌, ℕ, true, List, ◌∷◌, ◌++◌, Option, Some, None, refl, sym, ap, subst, ◌∙◌}
use Rattle.node_rules.specs.Data.stmts
use Rattle.node_rules.specs.Data.{BranchId, Live, Input}
use Rattle.node_rules.specs.NodeState.{NodeState, live_at}
use Rattle.run_rules.specs.Branches.{CommitPlan, no_trail, plan_at}
use Rattle.run_rules.specs.Data.{Turn, Happening}
use Rattle.run_rules.specs.Data.happenings
use Rattle.run_rules.specs.Each.{AtEach}
use Rattle.run_rules.specs.Facts.{first_facts, node_at, facts_after}
use Rattle.run_rules.specs.Lawful.{History, IsLawfulRun}
use Rattle.run_rules.specs.Trail.{has_no_site, trail_after, trail_of}
use Rattle.tree_laws.proofs.PrefixLemmas.{so_far, f_at}
use Rattle.tree_laws.proofs.TimeLemmas.{part_of, part_lawful, may_of}
use Rattle.tree_trail_laws.specs.SeenLaws.{TracesOwns, Sees}
use Rattle.tree_trail_laws.proofs.MomentLemmas.{tr_at, trail_join, trail_keeps, at_moment, by_moment}
use Rattle.tree_trail_laws.proofs.PlanLemmas.{plan_stays}
use Rattle.tree_trail_laws.proofs.SeenRunLemmas.{all_is_seen}
use Rattle.tree_trail_laws.proofs.TopFollowLemmas.{tops_at}
use Rattle.tree_trail_laws.proofs.TopTurnLemmas.{Tops, strong_tops}
use Rattle.tree_trail_laws.proofs.TopFinishLemmas.{Earlier, same_plans, ends_siteless_planned}
use Rattle.tree_laws.proofs.TopStepLemmas.{Finishes}
use Rattle.tree_trail_laws.specs.NoSite.{HadNoSite}
use Rattle.node_rules.specs.Inputs.{IsCall}

-- a root whose client commits is not READ ONLY
abbrev pub Writes : Input → Live → Type 0
Writes input z = (n : ℕ) (given : Option (List ℕ)) → IsCall input n (stmts.Commit given) → z.read_at ≡ None

module _ (t : History) (whole : IsLawfulRun t) where
  owns : AtEach (λ places f tr h. TracesOwns f tr) t
  owns = by_moment t (λ places f tr h. TracesOwns f tr) (λ hs h rest is. (at_moment t (λ places f tr x. Sees f tr) (all_is_seen t whole) hs h rest is).owns)

  module _ (hs : List Happening) (u : Turn) (rest : List Happening) (is : hs ++ happenings.Turn u ∷ rest ≡ t.trace) where
    saw : Sees (f_at t hs) (tr_at t hs)
    saw = at_moment t (λ places f tr h. Sees f tr) (all_is_seen t whole) hs (happenings.Turn u) rest is

    lawful : IsLawfulRun (so_far t hs)
    lawful = part_lawful t whole hs (part_of t whole hs (happenings.Turn u) rest is)

    saw_earlier : (h1 : List Happening) (h : Happening) (r1 : List Happening) → h1 ++ h ∷ r1 ≡ hs → Sees (f_at t h1) (tr_at t h1)
    saw_earlier h1 h r1 at = at_moment (so_far t hs) (λ places f tr x. Sees f tr) (all_is_seen (so_far t hs) lawful) h1 h r1 at

    -- the live roots before the turn are told with their strengths, and so are those before each earlier happening
    follows : Earlier (so_far t hs) × Tops t whole hs
    follows = tops_at t whole owns hs (part_of t whole hs (happenings.Turn u) rest is)

    earlier : Earlier (so_far t hs)
    earlier = follows.0

    -- a plan stays to the end
    stays : (b : BranchId) (p : CommitPlan) → plan_at (trail_after t.places (f_at t hs) (tr_at t hs) (happenings.Turn u)) b ≡ Some p → plan_at (tr_at t t.trace) b ≡ Some p
    unfolding trail_of
    stays b p at =
        subst (λ xs. plan_at (tr_at t xs) b ≡ Some p) is
        (subst (λ tr. plan_at tr b ≡ Some p) (sym (trail_join t.places t.commands (first_facts t.places) no_trail hs (happenings.Turn u ∷ rest)))
        (trail_keeps t.places t.commands (λ tr. plan_at tr b ≡ Some p) (λ f tr h now. plan_stays t.places f tr h b p now) (facts_after t.places t.commands (f_at t hs) (happenings.Turn u))
        (trail_after t.places (f_at t hs) (tr_at t hs) (happenings.Turn u)) rest at))

    siteless : (b : BranchId) (o : Option CommitPlan) → plan_at (trail_after t.places (f_at t hs) (tr_at t hs) (happenings.Turn u)) b ≡ o → has_no_site o ≡ true → HadNoSite t b
    siteless b None at none = absurd cc
    siteless b (Some p) at none = ap has_no_site (stays b p at) ∙ none

    abbrev kept : NodeState
    kept = (may_of t whole hs (happenings.Turn u) rest is).0

    plan_none : (z : Live) → live_at kept z.me ≡ Some z → z.parent ≡ None → Writes u.input z → Finishes u.input z.me z kept.sessions → has_no_site (plan_at (trail_after t.places (f_at t hs) (tr_at t hs) (happenings.Turn u)) z.me) ≡ true
    plan_none z live top writes ends =
        ap has_no_site (sym (same_plans t whole owns hs u rest is saw.tops saw.roots (strong_tops t whole hs (part_of t whole hs (happenings.Turn u) rest is) follows.1) earlier z.me)) ∙ ends_siteless_planned t whole owns hs u rest is saw.tops saw.roots (strong_tops t whole hs (part_of t whole hs (happenings.Turn u) rest is) follows.1) earlier z live top writes ends

    module _ (k : NodeState) (up : node_at (f_at t hs) u.node ≡ Some k) (g : BranchId) (z : Live) (me : z.me ≡ g) (live : live_at k g ≡ Some z) (top : z.parent ≡ None) (ends : Finishes u.input g z k.sessions) (writes : Writes u.input z) where
      same : kept ≡ k
      same = (let both : Some kept ≡ Some k = sym (may_of t whole hs (happenings.Turn u) rest is).1.up ∙ up in cc)

      live_there : live_at kept z.me ≡ Some z
      live_there = subst (λ (j : NodeState). live_at j z.me ≡ Some z) (sym same) (subst (λ b. live_at k b ≡ Some z) (sym me) live)

      ends_there : Finishes u.input z.me z kept.sessions
      ends_there = subst (λ (j : NodeState). Finishes u.input z.me z j.sessions) (sym same) (subst (λ b. Finishes u.input b z k.sessions) (sym me) ends)

      -- the plan that stands after the turn has no site
      pub plan_there : has_no_site (plan_at (trail_after t.places (f_at t hs) (tr_at t hs) (happenings.Turn u)) g) ≡ true
      plan_there = subst (λ b. has_no_site (plan_at (trail_after t.places (f_at t hs) (tr_at t hs) (happenings.Turn u)) b) ≡ true) me (plan_none z live_there top writes ends_there)

      -- and so it is to the end
      pub had_no_site : HadNoSite t g
      had_no_site = siteless g (plan_at (trail_after t.places (f_at t hs) (tr_at t hs) (happenings.Turn u)) g) refl plan_there
