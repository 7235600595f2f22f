-- What a branch has told and asked when it leaves it has told and asked before. One that leaves without changes told no child
-- that the walk to the commit point site comes there.
use Rattle.std.proofs.Common.{◌≡◌, ◌≢◌, ℕ, Bool, true, false, List, [], ◌∷◌, ◌++◌, Option, Some, None, inl, inr, refl, sym, ap, subst, ◌∙◌, append-nil}
use Rattle.session_tree.specs.Tree.{best_child, weight_by, walk_by, weight, step}
use Rattle.session_tree.specs.declared.act.Walk.TheVariants as walks
use Rattle.agreement.specs.Events.{Quiet, Dropped, exit}
use Rattle.node_rules.specs.Data.{BranchId, Kind, Live}
use Rattle.run_rules.specs.Births.{births_of}
use Rattle.run_rules.specs.Data.{Turn, Happening}
use Rattle.run_rules.specs.Data.happenings
use Rattle.run_base_laws.specs.EventLaws.{EachEventFrom}
use Rattle.run_rules.specs.Facts.{first_facts}
use Rattle.run_base_laws.specs.FreezeLaws.{was_asked}
use Rattle.run_base_laws.specs.InTurnLaws.{said_in}
use Rattle.run_rules.specs.Lawful.{MayHappen, History, IsLawfulRun, facts_at}
use Rattle.run_base_laws.specs.RunEvents.{events_after}
use Rattle.run_rules.specs.Trail.{is_prepare}
use Rattle.run_branch_laws.specs.WalkLaws.{is_below, was_sent}
use Rattle.run_base_laws.proofs.BirthRunLemmas.{run_births}
use Rattle.run_branch_laws.proofs.FreezeRunLemmas.{run_freezes}
use Rattle.run_base_laws.proofs.InTurnRunLemmas.{run_calls}
use Rattle.run_base_laws.proofs.RestRunLemmas.{run_roots}
use Rattle.run_base_laws.proofs.SaidPostLemmas.{posts_of, said_after}
use Rattle.tree_laws.specs.AskLaws.{HasToldAll}
use Rattle.tree_laws.proofs.AskLemmas.{sent_split, below_asks}
use Rattle.tree_laws.proofs.AskRunLemmas.{run_asks}
use Rattle.tree_laws.proofs.LeftLemmas.{asks_live, left_have_told_all}
use Rattle.tree_laws.proofs.PrefixLemmas.{so_far, f_at, e_at, one_on, more_on}
use Rattle.tree_laws.specs.LeaveLaws.{LeftSo}
use Rattle.tree_laws.proofs.FateLemmas.{drops_alone}
use Rattle.tree_laws.proofs.FrozenLemmas.{path_down}
use Rattle.tree_laws.proofs.LeaveLemmas.{was_there}
use Rattle.tree_laws.proofs.TimeLemmas.{Part, part_of, part_lawful, may_of, each_at}
use Rattle.commit_point_laws.specs.PointLaws.{QuietTellNone}
use Rattle.commit_point_laws.proofs.MomentLemmas.{LeftThen, left_then, none_at_first}
use Rattle.commit_point_laws.proofs.PassLemmas.{told_kid}
use Rattle.tree_laws.proofs.AtTurn.{at_happening}

module _ (t : History) (whole : IsLawfulRun t) where
  -- what a branch that has left asked and told by the end of the run it has by then
  module _ (m : List Happening) (part : Part t whole m) (p c : BranchId) (left : exit (e_at t m) p ≢ None) where
    told_then : (kind : Kind → Bool) → was_sent kind (said_in (facts_at t)) p c ≡ true → ((h : Happening) → HasToldAll (said_in (facts_at t)) (f_at t m) (e_at t m) h → was_sent kind (said_in (f_at t m)) p c ≡ true)
        → was_sent kind (said_in (f_at t m)) p c ≡ true
    told_then kind told by_law = by part.rest part.is
      where
        by : (rest : List Happening) → m ++ rest ≡ t.trace → was_sent kind (said_in (f_at t m)) p c ≡ true
        by [] is = subst (λ xs. was_sent kind (said_in (f_at t xs)) p c ≡ true) (sym is ∙ append-nil m) told
        by (h ∷ rest) is =
            by_law h (each_at t.places t.commands (HasToldAll (said_in (facts_at t))) (first_facts t.places) m h rest []
            (subst (EachEventFrom (HasToldAll (said_in (facts_at t))) t.places t.commands (first_facts t.places) []) (sym is) (left_have_told_all t whole)))

  module _ (hs : List Happening) (h : Happening) (rest : List Happening) (is : hs ++ h ∷ rest ≡ t.trace) (b c : BranchId) (left : exit (e_at t (hs ++ h ∷ [])) b ≢ None) where
    open at_happening t whole hs h rest is use {lawful, part_after as part_z}

    -- and it did not do so in the happening in which it left
    before_leaving : (kind : Kind → Bool) → ((z : Kind) → kind z ≡ true → is_prepare z ≡ true) → was_sent kind (said_in (f_at t (hs ++ h ∷ []))) b c ≡ true → was_sent kind (said_in (f_at t hs)) b c ≡ true
    before_leaving kind asks sent =
        let says : said_in (f_at t (hs ++ h ∷ [])) ≡ said_in (f_at t hs) ++ posts_of h = ap said_in (one_on t hs h) ∙ said_after t.places t.commands (f_at t hs) h in
        elim (sent_split kind (said_in (f_at t hs)) (posts_of h) b c (subst (λ xs. was_sent kind xs b c ≡ true) says sent)) [
          | inl old ↦ old
          | inr new ↦ absurd (left (subst (λ e. exit e b ≡ None) (sym (more_on t hs h))
              (asks_live t.places t.commands t.of_a_script.each kind asks (f_at t hs) (e_at t hs) (births_of (so_far t hs)) (run_births (so_far t hs) lawful) (run_roots (so_far t hs) lawful)
              (run_calls (so_far t hs) lawful) (run_freezes (so_far t hs) lawful) (run_asks (so_far t hs) lawful) h (may_of t whole hs h rest is) b c new)))
        ]

    pub told_before_leaving : was_sent is_below (said_in (facts_at t)) b c ≡ true → was_sent is_below (said_in (f_at t hs)) b c ≡ true
    told_before_leaving told = before_leaving is_below below_asks (told_then (hs ++ h ∷ []) part_z b c left is_below told (λ x law. (law b c left).1 told))

    pub asked_before_leaving : was_asked (said_in (facts_at t)) b c ≡ true → was_asked (said_in (f_at t hs)) b c ≡ true
    asked_before_leaving asked = before_leaving is_prepare (λ z so. so) (told_then (hs ++ h ∷ []) part_z b c left is_prepare asked (λ x law. (law b c left).0 asked))

-- ---- branches without changes

-- a branch from which the walk goes down has a weight
down_by : (q : Bool) (n : ℕ) (o : Option (ℕ × ℕ)) (i : ℕ) → walk_by q n o ≡ walks.Down i → weight_by q n o ≢ None
down_by true n o i is none = absurd cc
down_by false n None i is none = absurd cc
down_by false n (Some b) i is none = absurd cc

down_weighs : (l : Live) (i : ℕ) → step l ≡ walks.Down i → weight l ≢ None
unfolding step weight
down_weighs l i is none = down_by l.changed l.strength (best_child l) i is none

module _ (t : History) (whole : IsLawfulRun t) (b c : BranchId) (told : was_sent is_below (said_in (facts_at t)) b c ≡ true) where
  turn_so : (hs : List Happening) (u : Turn) (rest : List Happening) → hs ++ happenings.Turn u ∷ rest ≡ t.trace → exit (e_at t hs) b ≡ None → exit (events_after t.places t.commands (f_at t hs) (happenings.Turn u) (e_at t hs)) b ≡ Some Quiet → ⊥
  turn_so hs u rest is none left =
      let lawful : IsLawfulRun (so_far t hs) = part_lawful t whole hs (part_of t whole hs (happenings.Turn u) rest is) in
      let may : MayHappen t.places t.commands (f_at t hs) (happenings.Turn u) = may_of t whole hs (happenings.Turn u) rest is in
      let so : LeftSo may.0 u.input (said_in (f_at t hs)) b Quiet = was_there t hs lawful u may.0 may.1 b none Quiet (λ no. absurd cc) left in
      let gone : exit (e_at t (hs ++ happenings.Turn u ∷ [])) b ≡ Some Quiet = subst (λ e. exit e b ≡ Some Quiet) (sym (more_on t hs (happenings.Turn u))) left in
      let before : was_sent is_below (said_in (f_at t hs)) b c ≡ true = told_before_leaving t whole hs (happenings.Turn u) rest is b c (λ still. absurd (cc (gone, still))) told in
      let kid = told_kid t hs lawful u may.0 may.1 so.live so.found c (subst (λ i. was_sent is_below (said_in (f_at t hs)) i c ≡ true) (sym so.is_me) before) in
      down_weighs so.live kid.1.0 (path_down so.live.phase (step so.live) kid.1.0 kid.1.1) so.leaves.ends

  by_happening : (hs : List Happening) (h : Happening) (rest : List Happening) → hs ++ h ∷ rest ≡ t.trace → exit (e_at t hs) b ≡ None → exit (events_after t.places t.commands (f_at t hs) h (e_at t hs)) b ≡ Some Quiet → ⊥
  by_happening hs (happenings.Turn u) rest is none left = turn_so hs u rest is none left
  by_happening hs (happenings.Stopped m) rest is none left = (let no : Quiet ≡ Dropped = drops_alone t hs (happenings.Stopped m) (λ u turn. absurd cc) b Quiet none left in absurd cc)
  by_happening hs (happenings.Started m boot) rest is none left = (let no : Quiet ≡ Dropped = drops_alone t hs (happenings.Started m boot) (λ u turn. absurd cc) b Quiet none left in absurd cc)
  by_happening hs (happenings.Begun m) rest is none left = (let no : Quiet ≡ Dropped = drops_alone t hs (happenings.Begun m) (λ u turn. absurd cc) b Quiet none left in absurd cc)
  by_happening hs (happenings.Cut x y) rest is none left = (let no : Quiet ≡ Dropped = drops_alone t hs (happenings.Cut x y) (λ u turn. absurd cc) b Quiet none left in absurd cc)
  by_happening hs (happenings.Join x y) rest is none left = (let no : Quiet ≡ Dropped = drops_alone t hs (happenings.Join x y) (λ u turn. absurd cc) b Quiet none left in absurd cc)
  by_happening hs (happenings.Lost m) rest is none left = (let no : Quiet ≡ Dropped = drops_alone t hs (happenings.Lost m) (λ u turn. absurd cc) b Quiet none left in absurd cc)

pub quiet_tell_none : QuietTellNone
quiet_tell_none t whole b quiet c told =
    let it : LeftThen t whole [] b Quiet = left_then t whole [] (record { rest = t.trace; is = refl }) b (none_at_first t b) Quiet quiet in
    by_happening t whole b c told it.since it.happening it.later it.is it.none it.left
