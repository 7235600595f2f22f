-- In every lawful run seals and decisions fit the forest that the Prepares of the whole run make.
use Rattle.std.proofs.Common.{◌≡◌, ◌≢◌, ℕ, zero, suc, Bool, true, false, if◌then◌else◌, List, [], ◌∷◌, ◌++◌, length, unwrap_or, Option, Some, None, inl, inr, refl, sym, ap, subst, subst₂, ◌∙◌, ◌⊎◌, arith, append-nil}
use Rattle.std.specs.Prelude.{IfSome}
use Rattle.std.specs.Option.{option_to_list}
use Rattle.std.specs.List.{AllByRecursion}
use Rattle.std.proofs.lemmas.Bool.{cond_both}
use Rattle.std.proofs.lemmas.List.{append_assoc}
use Rattle.tran_ids.proofs.BranchLemmas.{same_from_equal}
use Rattle.tran_ids.proofs.NumberedLemmas.{set_found}
use Rattle.node_rules.specs.Data.{BranchId, Place, Post, RedoRecord}
use Rattle.node_rules.specs.Data.{Sealed, Decided}
use Rattle.node_rules.specs.Data.records
use Rattle.node_rules.specs.Words.{numbered}
use Rattle.node_rules.specs.NodeState.{NodeState}
use Rattle.redo_record.specs.Rows.{sealed_as, decided_as}
use Rattle.agreement.specs.Events as exits
use Rattle.agreement.specs.Events.{Event, Exit, first, only_at, exit}
use Rattle.run_rules.specs.Data.{Turn, Happening, Command}
use Rattle.run_rules.specs.Data.happenings
use Rattle.run_rules.specs.Facts.{Facts, first_facts, node_at, records_at, facts_after, facts_of}
use Rattle.run_rules.specs.Lawful.{IsPlace, MayTurn, MayHappen, IsLawful, facts_at}
use Rattle.run_base_laws.specs.RunEvents.{wrote_event, with_event, with_record, with_happening, events_after}
use Rattle.run_base_laws.specs.NodeLaws.{EachFactFrom}
use Rattle.run_rules.specs.Births.{Born, births_after, births_from, births_of}
use Rattle.run_base_laws.specs.BirthLaws.{Began, KeptIs, RecordNames}
use Rattle.run_base_laws.specs.InTurnLaws.{said_in}
use Rattle.run_branch_laws.specs.WalkLaws.{is_below, is_above, was_sent}
use Rattle.run_base_laws.proofs.BirthLemmas.{began_more, turn_left}
use Rattle.run_base_laws.proofs.BirthRunLemmas.{StandBorn, stand_born_on, stand_born_first}
use Rattle.run_base_laws.proofs.RestRunLemmas.{RootsStand, roots_stand_on, first_rests}
use Rattle.run_base_laws.proofs.SaidPostLemmas.{posts_of, said_after}
use Rattle.run_base_laws.proofs.InTurnRunLemmas.{CallsStand, calls_stand_on, first_calls}
use Rattle.run_branch_laws.proofs.FreezeRunLemmas.{FreezeStand, freeze_on, first_freeze}
use Rattle.tree_laws.specs.Forests.{comes_to, forest_by}
use Rattle.tree_laws.specs.RecordLaws.{LeadsToward, RecordLeads}
use Rattle.tree_laws.specs.FitLaws.{FitsForest, WritesInForest, RecordsFitForest}
use Rattle.tree_laws.proofs.AskLemmas.{sent_more, sent_split, below_asks}
use Rattle.tree_laws.proofs.AskRunLemmas.{AskStand, ask_on, first_ask}
use Rattle.tree_laws.proofs.ForestLemmas as trees
use Rattle.tree_laws.proofs.ForestRunLemmas.{run_known}
use Rattle.tree_laws.proofs.LeadLemmas.{leads_so, ends_so}
use Rattle.tree_laws.proofs.LeftLemmas.{asks_live, told_before}
use Rattle.tree_laws.proofs.RecordRunLemmas.{writes}
use Rattle.run_rules.proofs.AtNodeLemmas.{flat_some}

-- ---- the record of a turn on its disk

there_too : {A B : Type 0} (xs : List A) (ys : List B) (n : ℕ) (x : A) → length xs ≡ length ys → numbered xs n ≡ Some x → (y : B) × (numbered ys n ≡ Some y)
there_too xs ys zero x even is = absurd cc
there_too [] ys (suc zero) x even is = absurd cc
there_too [] ys (suc (suc i)) x even is = absurd cc
there_too (z ∷ zs) [] (suc i) x even is = absurd (omega (arith, even))
there_too (z ∷ zs) (y ∷ ys) (suc zero) x even is = (y, refl)
there_too (z ∷ zs) (y ∷ ys) (suc (suc i)) x even is = there_too zs ys (suc i) x (omega (arith, even)) is

last_so : (P : RedoRecord → Type 0) (rs : List RedoRecord) (r : RedoRecord) → AllByRecursion P (rs ++ r ∷ []) → P r
last_so P [] r all = all.0
last_so P (x ∷ rs) r all = last_so P rs r all.1

module _ (places : List Place) (asked : List Command) (f : Facts) (even : length f.nodes ≡ length f.records) (u : Turn) (k : NodeState) (up : node_at f u.node ≡ Some k) where
  record_here : records_at (facts_after places asked f (happenings.Turn u)) u.node ≡ records_at f u.node ++ option_to_list u.wrote
  unfolding facts_after
  record_here = let disk = there_too f.nodes f.records u.node (Some k) even (flat_some (numbered f.nodes u.node) k up) in ap (λ o. unwrap_or o []) (set_found f.records u.node disk.0 _ disk.1)

-- ---- a branch that decided has left

pub decided_first : (b : BranchId) (x : Exit) (o : Option Exit) → first o (only_at b b x) ≢ None
decided_first b x (Some e) none = absurd cc
decided_first b x None none = let at : only_at b b x ≡ Some x = ap (λ q. if q then Some x else None) (same_from_equal b b refl) in absurd (cc (at, none))

-- by its record, whatever else its turn does
pub decided_left : (f g : Facts) (u : Turn) (t : List Event) (r : Decided) → u.wrote ≡ Some (records.Decided r) → exit (with_happening f g (happenings.Turn u) t) r.me ≢ None
decided_left f g u t r is =
    turn_left r.me f g (record u { wrote = None }) (with_record u t)
    (subst (λ o. exit (with_event (wrote_event u.node o) t) r.me ≢ None) (sym is) (decided_first r.me (exits.Decided r.scn) (exit t r.me)))

-- ---- what was told stays told

comes_more : (said says : List Post) (b : BranchId) (o : Option BranchId) → comes_to said b o ≡ true → comes_to (said ++ says) b o ≡ true
comes_more said says b None is = refl
comes_more said says b (Some q) is = sent_more is_below said says q b is

leads_more : (said says : List Post) (b : BranchId) (o : Option BranchId) (q : BranchId) → LeadsToward said b o (Some q) → LeadsToward (said ++ says) b o (Some q)
leads_more said says b o q (inl up) = inl (up.0, sent_more is_above said says q b up.1)
leads_more said says b o q (inr on) = inr (comes_more said says b o on.0, sent_more is_below said says b q on.1)

module _ (places : List Place) (asked : List Command) where
  -- each happening adds to the births and the messages
  wider : (f : Facts) (h : Happening) (bs : List Born) (x : Born) → Began bs x → Began (births_after places f h bs) x
  wider f (happenings.Turn u) bs x is = cond_both u.cut bs (bs ++ _) (λ xs. Began xs x) (λ cut. is) (λ whole. began_more bs _ x is)
  wider f (happenings.Stopped n) bs x is = is
  wider f (happenings.Started n boot) bs x is = is
  wider f (happenings.Begun c) bs x is = is
  wider f (happenings.Cut m n) bs x is = is
  wider f (happenings.Join m n) bs x is = is
  wider f (happenings.Lost k) bs x is = is

  pub began_all : (f : Facts) (hs : List Happening) (bs : List Born) (x : Born) → Began bs x → Began (births_from places asked f hs bs) x
  unfolding births_from
  began_all f [] bs x is = is
  began_all f (h ∷ hs) bs x is = began_all (facts_after places asked f h) hs (births_after places f h bs) x (wider f h bs x is)

  pub said_all : (f : Facts) (hs : List Happening) → (says : List Post) × (said_in (facts_of places asked f hs) ≡ said_in f ++ says)
  unfolding facts_of
  said_all f [] = ([], sym (append-nil (said_in f)))
  said_all f (h ∷ hs) =
      let rest = said_all (facts_after places asked f h) hs in
      (posts_of h ++ rest.0, rest.1 ∙ (ap (λ xs. xs ++ rest.0) (said_after places asked f h) ∙ append_assoc (said_in f) (posts_of h) rest.0))

module _ (places : List Place) (asked : List Command) (each : (n : ℕ) (p : Place) → numbered places n ≡ Some p → IsPlace places n p) where
  module _ (f : Facts) (t : List Event) (bs : List Born) (stand : StandBorn places asked each f t bs) (roots : RootsStand places asked each f) (turned : CallsStand f) (ice : FreezeStand f) (now : AskStand f bs) where
    module _ (u : Turn) (k : NodeState) (may : MayTurn places f u k) (hs : List Happening) (lawful : IsLawful places asked (facts_after places asked f (happenings.Turn u)) hs) where
      abbrev g : Facts
      g = facts_after places asked f (happenings.Turn u)

      abbrev after : List Event
      after = events_after places asked f (happenings.Turn u) t

      abbrev bs2 : List Born
      bs2 = births_after places f (happenings.Turn u) bs

      -- the births and the messages at the end
      abbrev ends : List Born
      ends = births_from places asked g hs bs2

      abbrev all : List Post
      all = said_in (facts_of places asked g hs)

      stand_after : StandBorn places asked each g after bs2
      stand_after = stand_born_on places asked each f t bs (happenings.Turn u) stand (k, may)

      names : (r : RedoRecord) → u.wrote ≡ Some r → RecordNames (Began bs2) r
      names r is =
          last_so (RecordNames (Began bs2)) (records_at f u.node) r
          (subst (λ rs. AllByRecursion (RecordNames (Began bs2)) rs) (record_here places asked f stand.0.0.even u k may.up ∙ ap (λ o. records_at f u.node ++ option_to_list o) is) (stand_after.1.disks u.node))

      leads_at : (r : RedoRecord) → u.wrote ≡ Some r → RecordLeads (said_in f) r
      leads_at r is = subst (λ o. IfSome o (RecordLeads (said_in f))) is (writes places asked each f t bs stand roots turned ice now (happenings.Turn u) (k, may))

      more : (says : List Post) × (all ≡ said_in f ++ says)
      more =
          let rest = said_all places asked g hs in
          (posts_of (happenings.Turn u) ++ rest.0, rest.1 ∙ (ap (λ xs. xs ++ rest.0) (said_after places asked f (happenings.Turn u)) ∙ append_assoc (said_in f) (posts_of (happenings.Turn u)) rest.0))

      began : (x : Born) → Began bs2 x → Began ends x
      began x is = began_all places asked g hs bs2 x is

      -- the site told nobody that the walk comes there, and never does
      none_told : (r : Decided) → u.wrote ≡ Some (records.Decided r) → ((c : BranchId) → was_sent is_below (said_in f) r.me c ≡ false) → (c : BranchId) → was_sent is_below all r.me c ≡ false
      none_told r is none c = by (was_sent is_below all r.me c) refl
        where
          left : exit after r.me ≢ None
          left = decided_left f g u t r is

          told_by : (was_sent is_below (said_in f) r.me c ≡ true) ⊎ (was_sent is_below (posts_of (happenings.Turn u)) r.me c ≡ true) → ⊥
          told_by (inl old) = let no : was_sent is_below (said_in f) r.me c ≡ false = none c in absurd (cc (old, no))
          told_by (inr new) = left (asks_live places asked each is_below below_asks f t bs stand roots turned ice now (happenings.Turn u) (k, may) r.me c new)

          by : (q : Bool) → was_sent is_below all r.me c ≡ q → q ≡ false
          by false at = refl
          by true at =
              let before : was_sent is_below (said_in g) r.me c ≡ true
              = told_before places asked each is_below below_asks g hs after bs2 stand_after (roots_stand_on places asked each f t bs stand roots (happenings.Turn u) (k, may))
              (calls_stand_on places asked each f t bs stand roots turned (happenings.Turn u) (k, may)) (freeze_on places asked each f t bs stand roots turned ice (happenings.Turn u) (k, may))
              (ask_on places asked each f t bs stand roots turned ice now (happenings.Turn u) (k, may)) lawful r.me c left at in
              absurd (told_by (sent_split is_below (said_in f) (posts_of (happenings.Turn u)) r.me c (subst (λ xs. was_sent is_below xs r.me c ≡ true) (said_after places asked f (happenings.Turn u)) before)))

      -- so the record names what is told in the whole run
      pub leads_all : (w : Option RedoRecord) → u.wrote ≡ w → IfSome w (RecordLeads all)
      leads_all None is = tt
      leads_all (Some (records.Sealed r)) is =
          let lead = leads_at (records.Sealed r) is in (lead.0, lead.1, subst (λ xs. LeadsToward xs r.me r.parent (Some lead.0)) (sym more.1) (leads_more (said_in f) more.0 r.me r.parent lead.0 lead.2))
      leads_all (Some (records.Decided r)) is =
          let lead : LeadsToward (said_in f) r.me r.parent None = leads_at (records.Decided r) is in (subst (λ xs. comes_to xs r.me r.parent ≡ true) (sym more.1) (comes_more (said_in f) more.0 r.me r.parent lead.0), none_told r is lead.1)
      leads_all (Some _) is = tt

      module _ (known : trees.Known ends all) where
        seal_fits : (r : Sealed) → u.wrote ≡ Some (records.Sealed r) → FitsForest (forest_by ends all) (records.Sealed r)
        seal_fits r is =
            let named : KeptIs (Began bs2) (sealed_as r) = names (records.Sealed r) is in
            let lead = leads_at (records.Sealed r) is in
            let x : Born = named.born in
            let told : LeadsToward all r.me x.parent (Some lead.0)
            = subst (λ o. LeadsToward all r.me o (Some lead.0)) (sym named.is_parent) (subst (λ xs. LeadsToward xs r.me r.parent (Some lead.0)) (sym more.1) (leads_more (said_in f) more.0 r.me r.parent lead.0 lead.2)) in
            let fits = leads_so ends all known x r.me lead.0 (began x named.began) named.is_me told in
            (fits.member, fits.not_site, trees.root_is ends all known x r.me (began x named.began) named.is_me ∙ named.is_root, lead.1 ∙ ap Some (sym fits.toward))

        decide_fits : (r : Decided) → u.wrote ≡ Some (records.Decided r) → FitsForest (forest_by ends all) (records.Decided r)
        decide_fits r is =
            let named : KeptIs (Began bs2) (decided_as r) = names (records.Decided r) is in
            let lead : LeadsToward (said_in f) r.me r.parent None = leads_at (records.Decided r) is in
            let x : Born = named.born in
            let comes : comes_to all r.me x.parent ≡ true
            = subst (λ o. comes_to all r.me o ≡ true) (sym named.is_parent) (subst (λ xs. comes_to xs r.me r.parent ≡ true) (sym more.1) (comes_more (said_in f) more.0 r.me r.parent lead.0)) in
            (ends_so ends all known x r.me (began x named.began) named.is_me (comes, none_told r is lead.1), trees.root_is ends all known x r.me (began x named.began) named.is_me ∙ named.is_root)

        record_fits : (w : Option RedoRecord) → u.wrote ≡ w → IfSome w (FitsForest (forest_by ends all))
        record_fits None is = tt
        record_fits (Some (records.Sealed r)) is = seal_fits r is
        record_fits (Some (records.Decided r)) is = decide_fits r is
        record_fits (Some _) is = tt

    fits : (h : Happening) → MayHappen places asked f h → (hs : List Happening) → IsLawful places asked (facts_after places asked f h) hs
        → trees.Known (births_from places asked (facts_after places asked f h) hs (births_after places f h bs)) (said_in (facts_of places asked (facts_after places asked f h) hs))
        → WritesInForest (forest_by (births_from places asked (facts_after places asked f h) hs (births_after places f h bs)) (said_in (facts_of places asked (facts_after places asked f h) hs))) places f h
    fits (happenings.Turn u) may hs lawful known = record_fits u may.0 may.1 hs lawful known u.wrote refl
    fits _ may hs lawful known = tt

  fits_each : (ends : List Born) (all : List Post) → trees.Known ends all → (f : Facts) (hs : List Happening) (t : List Event) (bs : List Born) → StandBorn places asked each f t bs → RootsStand places asked each f → CallsStand f → FreezeStand f
      → AskStand f bs → IsLawful places asked f hs → births_from places asked f hs bs ≡ ends → said_in (facts_of places asked f hs) ≡ all → EachFactFrom (WritesInForest (forest_by ends all) places) places asked f hs
  unfolding IsLawful births_from facts_of
  fits_each ends all known f [] t bs stand roots turned ice now lawful one two = tt
  fits_each ends all known f (h ∷ hs) t bs stand roots turned ice now lawful one two =
      let g : Facts = facts_after places asked f h in
      let here : WritesInForest (forest_by (births_from places asked g hs (births_after places f h bs)) (said_in (facts_of places asked g hs))) places f h
      = fits f t bs stand roots turned ice now h lawful.0 hs lawful.1 (subst₂ trees.Known (sym one) (sym two) known) in (
        subst₂ (λ xs ms. WritesInForest (forest_by xs ms) places f h) one two here,
        fits_each ends all known g hs (events_after places asked f h t) (births_after places f h bs) (stand_born_on places asked each f t bs h stand lawful.0)
            (roots_stand_on places asked each f t bs stand roots h lawful.0) (calls_stand_on places asked each f t bs stand roots turned h lawful.0) (freeze_on places asked each f t bs stand roots turned ice h lawful.0)
            (ask_on places asked each f t bs stand roots turned ice now h lawful.0) lawful.1 one two,
      )

pub records_fit_forest : RecordsFitForest
records_fit_forest t lawful =
    fits_each t.places t.commands t.of_a_script.each (births_of t) (said_in (facts_at t)) (run_known t lawful) (first_facts t.places) t.trace [] [] (stand_born_first t.places t.commands t.of_a_script.each)
    (first_rests t.places t.commands t.of_a_script.each) (first_calls t.places t.commands t.of_a_script.each) (first_freeze t.places t.commands t.of_a_script.each) (first_ask t.places t.commands t.of_a_script.each) lawful refl refl
