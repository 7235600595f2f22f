-- In every lawful run a live branch has the commit point strength that its node had as it began, and reads at the SCN of its
-- transaction: neither ever changes.
use Rattle.std.proofs.Common.{◌≡◌, ℕ, Bool, true, false, List, [], ◌∷◌, ◌++◌, Option, Some, None, inl, inr, refl, sym, ap, subst, subst₂, ◌∙◌, if◌then◌else◌}
use Rattle.std.specs.Prelude.{IfSome}
use Rattle.std.specs.List.{AllByRecursion}
use Rattle.tran_ids.proofs.NumberedLemmas.{set_or_before}
use Rattle.node_rules.specs.Data.{BranchId, Live, Place, Input, RedoRecord}
use Rattle.node_rules.specs.Data.inputs
use Rattle.node_rules.specs.Data.records
use Rattle.node_rules.specs.Words.{numbered, set_numbered}
use Rattle.node_rules.specs.NodeState.{NodeState, TurnDraft, live_id}
use Rattle.node_rules.specs.Turn.{heard, start_of, turn_of, draft_of}
use Rattle.node_rules.proofs.Steps.{Step}
use Rattle.node_rules.proofs.StandLemmas.{live_so}
use Rattle.run_rules.specs.Data.{Turn, Happening}
use Rattle.run_rules.specs.Data.happenings
use Rattle.run_rules.specs.Facts.{Facts, first_facts, place_at, flat, node_at, kept_after, with_boot, facts_after, facts_of}
use Rattle.run_rules.specs.Lawful.{History, IsLawfulRun, MayHappen, MayTurn, facts_at}
use Rattle.run_rules.specs.Births.{Born, births_by, births_at, births_after, births_from, births_of, born_at}
use Rattle.run_rules.proofs.ListLemmas.{all_weaker}
use Rattle.run_rules.proofs.AtNodeLemmas.{turn_elsewhere, turn_here}
use Rattle.run_base_laws.specs.BirthLaws.{Began}
use Rattle.run_base_laws.specs.RunEvents.{events_of}
use Rattle.run_base_laws.proofs.OwnLemmas.{all_found}
use Rattle.run_base_laws.proofs.LawfulLemmas.{serves}
use Rattle.run_base_laws.proofs.TurnEventLemmas.{cases_nat, number_is}
use Rattle.run_base_laws.proofs.EventsStandLemmas.{first_node, node_so, owned_so}
use Rattle.run_base_laws.proofs.NeighborLemmas.{News}
use Rattle.run_base_laws.proofs.NeighborStepLemmas.{news_lasts}
use Rattle.run_base_laws.proofs.LiveStepLemmas.{LiveCases, acting_by, left_by, lives_on}
use Rattle.run_base_laws.proofs.BirthLemmas.{Begins, None_begins, Root_begins, Child_begins, begins_so, news_of, began_more, began_last}
use Rattle.run_base_laws.proofs.BirthsStandLemmas.{all_unborn}
use Rattle.run_base_laws.proofs.BirthRunLemmas.{StandBorn, run_births}
use Rattle.tree_laws.specs.WeighLaws.{BeganWith, LivesHaveStrength}
use Rattle.tree_laws.proofs.PrefixLemmas.{births_join, so_far, f_at, one_on, keep_prefix}

-- two branches of one id began with the same strength
pub same_start : (bs : List Born) (b : BranchId) (m n : ℕ) (r s : Option ℕ) → BeganWith bs b m r → BeganWith bs b n s → m ≡ n
same_start bs b m n r s one two =
    let first : born_at bs b ≡ Some one.born = subst (λ c. born_at bs c ≡ Some one.born) one.is_me one.began in
    let second : born_at bs b ≡ Some two.born = subst (λ c. born_at bs c ≡ Some two.born) two.is_me two.began in
    let both : Some one.born ≡ Some two.born = sym first ∙ second in
    let it : one.born ≡ two.born = cc in
    sym one.is_strength ∙ (ap (λ (y : Born). y.strength) it ∙ two.is_strength)

-- more branches begin
pub began_with_more : (bs xs : List Born) (b : BranchId) (n : ℕ) (r : Option ℕ) → BeganWith bs b n r → BeganWith (bs ++ xs) b n r
began_with_more bs xs b n r is = record { born = is.born; began = began_more bs xs is.born is.began; is_me = is.is_me; is_strength = is.is_strength; is_read_at = is.is_read_at }

-- ---- a step

abbrev HasBegunSo : List Born → Live → Type 0
HasBegunSo bs l = BeganWith bs l.me l.strength l.read_at

module _ (bs : List Born) (p : Place) (input : Input) where
  each : LiveCases p input (News (Began bs) p input) (λ d. Unit {0}) (HasBegunSo bs)
  each = record {
    lasts = news_lasts (Began bs) p input;
    root = λ k n s read_at call begins free news. record { born = _; began = news.root n s read_at call begins free; is_me = refl; is_strength = refl; is_read_at = refl };
    child = λ k to parent edge root depth read_at came new news. record { born = _; began = news.child to parent edge root depth read_at came new; is_me = refl; is_strength = refl; is_read_at = refl };
    advised = λ l advice so. so;
    runs = λ k x s t so. so;
    backs = λ l changed so. so;
    opens = λ k x from strength g link opened c so. so;
    replies = λ k x weight count a i e answered so. so;
    acts = λ k l below a why c q all. left_by (HasBegunSo bs) l a (λ says so. so) (acting_by (HasBegunSo bs) (λ x comment b live begins so. so) (λ x from v b answers so. so) all why);
  }

  lives_have : {k : NodeState} {d : TurnDraft} → Step p input k d → News (Began bs) p input k → AllByRecursion (HasBegunSo bs) k.lives → AllByRecursion (HasBegunSo bs) d.after.lives
  lives_have step news now = lives_on each step news tt now

-- the branches of a turn begin
begun_all : (p : Place) (k : NodeState) (input : Input) (bs : List Born) {xs : List Born} → Begins p k input xs → AllByRecursion (λ y. born_at bs y.me ≡ None) xs → AllByRecursion (Began (bs ++ xs)) xs
begun_all p k input bs None_begins new = tt
begun_all p k input bs (Root_begins n s read_at call begins none) new = (began_last bs _ new.0, tt)
begun_all p k input bs (Child_begins to parent edge root depth read_at came none) new = (began_last bs _ new.0, tt)

heard_lives : (bs : List Born) (k : NodeState) (input : Input) → AllByRecursion (HasBegunSo bs) k.lives → AllByRecursion (HasBegunSo bs) (heard k input).lives
heard_lives bs k (inputs.Message m) now = now
heard_lives bs k _ now = now

-- ---- nodes

-- of each node that is up
abbrev EachSo : List Born → Facts → Type 0
EachSo bs f = (n : ℕ) → IfSome (node_at f n) (λ k. AllByRecursion (HasBegunSo bs) k.lives)

module _ (bs ys : List Born) (wide : (b : BranchId) (n : ℕ) (r : Option ℕ) → BeganWith bs b n r → BeganWith ys b n r) where
  node_wide : (o : Option NodeState) → IfSome o (λ k. AllByRecursion (HasBegunSo bs) k.lives) → IfSome o (λ k. AllByRecursion (HasBegunSo ys) k.lives)
  node_wide None now = tt
  node_wide (Some k) now = all_weaker (HasBegunSo bs) (HasBegunSo ys) (λ l is. wide l.me l.strength l.read_at is) k.lives now

-- a node that starts has no live branch
started : (bs : List Born) (rs : List RedoRecord) → AllByRecursion (HasBegunSo bs) (start_of rs).lives
unfolding start_of
started bs rs = tt

module _ (t : History) (before : List Happening) (lawful : IsLawfulRun (so_far t before)) where
  abbrev f : Facts
  f = f_at t before

  abbrev bs : List Born
  bs = births_of (so_far t before)

  stand : StandBorn t.places t.commands t.of_a_script.each f (events_of (so_far t before)) bs
  stand = run_births (so_far t before) lawful

  module _ (now : EachSo bs f) where
    -- a turn
    module _ (u : Turn) (k : NodeState) (may : MayTurn t.places f u k) where
      abbrev p : Place
      p = place_at t.places u.node

      abbrev xs : List Born
      xs = births_by p k u.input

      unborn : AllByRecursion (λ y. born_at bs y.me ≡ None) xs
      unborn =
          all_unborn t.places t.commands t.of_a_script.each f (events_of (so_far t before)) bs u k stand.0.1 stand.0.0.even
          (node_so t.places t.commands t.of_a_script.each f (events_of (so_far t before)) stand.0) (owned_so t.places t.commands t.of_a_script.each f (events_of (so_far t before)) stand.0)
          may (number_is t.places t.commands t.of_a_script.each f u.node k stand.0.1.many may.up) stand.1

      was : AllByRecursion (HasBegunSo (bs ++ xs)) k.lives
      was = subst (λ o. IfSome o (λ j. AllByRecursion (HasBegunSo (bs ++ xs)) j.lives)) may.up (node_wide bs (bs ++ xs) (began_with_more bs xs) (node_at f u.node) (now u.node))

      after : AllByRecursion (HasBegunSo (bs ++ xs)) (draft_of p k u.input).after.lives
      after =
          lives_have (bs ++ xs) p u.input (serves t.places f u k may).step (news_of (Began (bs ++ xs)) p k u.input (begun_all p k u.input bs (begins_so p k u.input) unborn))
          (heard_lives (bs ++ xs) k u.input was)

      -- the branches that began by the end of the turn
      abbrev Ends : Bool → List Born
      Ends cut = if cut then bs else bs ++ births_at p u.input (node_at f u.node)

      own : (cut : Bool) → IfSome (kept_after cut (Some (turn_of p k u.input))) (λ j. AllByRecursion (HasBegunSo (Ends cut)) j.lives)
      unfolding turn_of
      own true = tt
      own false = subst (λ o. AllByRecursion (HasBegunSo (bs ++ births_at p u.input o)) (draft_of p k u.input).after.lives) (sym may.up) after

      wide : (cut : Bool) (b : BranchId) (n : ℕ) (r : Option ℕ) → BeganWith bs b n r → BeganWith (Ends cut) b n r
      wide true b n r is = is
      wide false b n r is = began_with_more bs (births_at p u.input (node_at f u.node)) b n r is

      turn_has : EachSo (Ends u.cut) (facts_after t.places t.commands f (happenings.Turn u))
      turn_has m = elim (cases_nat m u.node) [
        | inl at ↦ subst (λ i. IfSome (node_at (facts_after t.places t.commands f (happenings.Turn u)) i) (λ j. AllByRecursion (HasBegunSo (Ends u.cut)) j.lives)) (sym at)
            (subst (λ o. IfSome o (λ j. AllByRecursion (HasBegunSo (Ends u.cut)) j.lives)) (sym ((turn_here t.places t.commands f stand.0.0.even u k may.up).0)) (own u.cut))
        | inr other ↦ subst (λ o. IfSome o (λ j. AllByRecursion (HasBegunSo (Ends u.cut)) j.lives)) (sym (turn_elsewhere t.places t.commands f stand.0.0.even u m (λ e. other (sym e))).0)
            (node_wide bs (Ends u.cut) (wide u.cut) (node_at f m) (now m))
      ]

    -- a node that is set
    set_node : (m i : ℕ) (o : Option NodeState) → IfSome o (λ k. AllByRecursion (HasBegunSo bs) k.lives) → IfSome (flat (numbered (set_numbered f.nodes m o) i)) (λ k. AllByRecursion (HasBegunSo bs) k.lives)
    set_node m i o new = elim (set_or_before f.nodes m i o) [
      | inl still ↦ subst (λ x. IfSome (flat x) (λ k. AllByRecursion (HasBegunSo bs) k.lives)) (sym still) (now i)
      | inr set ↦ subst (λ x. IfSome (flat x) (λ k. AllByRecursion (HasBegunSo bs) k.lives)) (sym set.1) new
    ]

    one_has : (h : Happening) → MayHappen t.places t.commands f h → EachSo (births_after t.places f h bs) (facts_after t.places t.commands f h)
    unfolding facts_after
    one_has (happenings.Turn u) may = turn_has u may.0 may.1
    one_has (happenings.Stopped m) may = λ i. set_node m i None tt
    one_has (happenings.Started m boot) may = λ i. set_node m i (Some (start_of (with_boot f m boot))) (started bs (with_boot f m boot))
    one_has (happenings.Begun c) may = now
    one_has (happenings.Cut a b) may = now
    one_has (happenings.Join a b) may = now
    one_has (happenings.Lost i) may = now

  births_one : (h : Happening) → births_of (so_far t (before ++ h ∷ [])) ≡ births_after t.places f h bs
  unfolding births_from
  births_one h = births_join t.places t.commands (first_facts t.places) before (h ∷ []) []

first_has : (places : List Place) → EachSo [] (first_facts places)
first_has places n = first_node (λ o. IfSome o (λ k. AllByRecursion (HasBegunSo []) k.lives)) tt (started [] (records.Boot 1 ∷ [])) places n

none_has : (t : History) → EachSo (births_of (so_far t [])) (f_at t [])
unfolding facts_of births_from
none_has t = first_has t.places

goes_on : (t : History) (before : List Happening) (h : Happening) → IsLawfulRun (so_far t before) → MayHappen t.places t.commands (f_at t before) h → EachSo (births_of (so_far t before)) (f_at t before)
    → EachSo (births_of (so_far t (before ++ h ∷ []))) (f_at t (before ++ h ∷ []))
goes_on t before h lawful may now = subst₂ (λ bs f. EachSo bs f) (sym (births_one t before lawful h)) (sym (one_on t before h)) (one_has t before lawful now h may)

run_has : (t : History) → IsLawfulRun t → EachSo (births_of t) (facts_at t)
run_has t lawful = keep_prefix t (λ hs. EachSo (births_of (so_far t hs)) (f_at t hs)) (goes_on t) lawful (none_has t)

pub lives_have_strength : LivesHaveStrength
lives_have_strength t lawful n k up x found =
    all_found (HasBegunSo (births_of t)) live_id k.lives x.live.me x.live (subst (λ o. IfSome o (λ j. AllByRecursion (HasBegunSo (births_of t)) j.lives)) up (run_has t lawful n)) (live_so k x.live.me x found)
