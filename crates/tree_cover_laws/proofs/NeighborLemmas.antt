-- Each seal is of a branch of the plan of the COMMIT, and names the parent and the neighbour on the way to the site that the plan has.
use Rattle.std.proofs.Common.{◌≡◌, ◌≢◌, ◌+◌, ◌-◌, ◌≤◌, true, false, List, [], ◌∷◌, ◌++◌, Option, Some, None, inl, inr, refl, sym, ap, subst, ◌∙◌, arith}
use Rattle.std.proofs.lemmas.List.{append_assoc}
use Rattle.std.specs.Prelude.{IfSome}
use Rattle.std.specs.List.{AllByRecursion}
use Rattle.std.specs.Option.{option_to_list}
use Rattle.dtx_values.specs.Limits.{depth_limit}
use Rattle.tran_ids.proofs.ListedLemmas.{item_is}
use Rattle.redo_record.specs.Rows.{toward_of, sealed_as}
use Rattle.agreement.specs.Events.{Dropped, exit}
use Rattle.node_rules.specs.Data.{BranchId, Live, RedoRecord, Sealed as SealedRecord}
use Rattle.node_rules.specs.Data.phases
use Rattle.node_rules.specs.Data.records
use Rattle.node_rules.specs.NodeState.{NodeState, Branch, live_id, live_at, work_at, with_work}
use Rattle.node_rules.proofs.StandLemmas.{live_so}
use Rattle.run_rules.specs.Births.{Born, births_of}
use Rattle.run_base_laws.specs.BirthLaws.{Began, KeptIs, LiveIs, RecordNames}
use Rattle.run_rules.specs.Branches.{Trail, PlannedBranch, seen_at, plan_at}
use Rattle.run_rules.specs.Data.{Turn, Happening}
use Rattle.run_rules.specs.Data.happenings
use Rattle.run_rules.specs.Each.{AtEach}
use Rattle.run_rules.specs.Facts.{first_facts, node_at, records_at}
use Rattle.run_base_laws.specs.FreezeLaws.{was_asked}
use Rattle.run_base_laws.specs.InTurnLaws.{said_in}
use Rattle.run_rules.specs.Lawful.{MayHappen, History, IsLawfulRun, facts_at}
use Rattle.run_base_laws.specs.EventLaws.{EachEventFrom, TellsAsEvents}
use Rattle.run_base_laws.specs.EventRows.{MayStand}
use Rattle.run_base_laws.specs.NodeLaws.{EachFactFrom}
use Rattle.run_claims.specs.Site.{NamesToward, RecordIsSo}
use Rattle.run_rules.specs.Trail.{is_prepare, trail_after}
use Rattle.run_rules.specs.Tree as seen
use Rattle.run_rules.specs.Tree.{parent_of, toward_by, tree_in, planned, plan}
use Rattle.run_branch_laws.specs.WalkLaws.{is_above, is_below, was_sent}
use Rattle.run_rules.proofs.AtNodeLemmas.{turn_here}
use Rattle.run_base_laws.proofs.BirthRunLemmas.{records_name_the_born}
use Rattle.run_base_laws.proofs.EventsStandLemmas.{run_stands, turns_tell_as_events}
use Rattle.tree_laws.specs.Forests.{comes_to, asked_by}
use Rattle.tree_laws.specs.RecordLaws.{LeadsToward, RecordLeads, WritesAsTold}
use Rattle.tree_laws.proofs.AskLemmas.{sent_wider, below_asks, tells_asks}
use Rattle.tree_laws.proofs.ForestLemmas as trees
use Rattle.tree_laws.proofs.ForestLemmas.{Known}
use Rattle.tree_laws.proofs.PrefixLemmas.{so_far, f_at, e_at, one_on}
use Rattle.tree_laws.proofs.RecordRunLemmas.{records_are_as_told}
use Rattle.tree_laws.proofs.SettleRunLemmas.{known}
use Rattle.tree_laws.specs.DecideLaws.{SeesTree}
use Rattle.tree_laws.proofs.FindLemmas.{WasFound}
use Rattle.tree_laws.proofs.TimeLemmas.{Part, part_lawful, may_of, fact_at, each_at, exit_end, born_end}
use Rattle.tree_laws.proofs.WeighLemmas.{placed_of}
use Rattle.tree_trail_laws.proofs.FullLemmas.{Sees, SeesAll, full}
use Rattle.tree_trail_laws.proofs.MomentLemmas.{tr_at, trail_one_on, at_moment, by_moment}
use Rattle.tree_trail_laws.proofs.RootLemmas.{last_so}
use Rattle.tree_trail_laws.proofs.SeenRunLemmas.{all_is_seen}
use Rattle.tree_trail_laws.proofs.SiteLemmas.{sees_tree}
use Rattle.tree_cover_laws.specs.NeighborLaws.{SealsNameToward}
use Rattle.tree_cover_laws.proofs.AboveLemmas.{Top, top_of, root_asked}
use Rattle.tree_cover_laws.proofs.CommitPlanLemmas.{planned_after}
use Rattle.tree_cover_laws.proofs.FoundLemmas.{commit_before}
use Rattle.tree_cover_laws.proofs.ListedLemmas.{IsListed, Reach, reach_up, reach_listed, listed_map}
use Rattle.tree_cover_laws.proofs.OnWalkLemmas.{InPlan, in_plan, as_born, not_deep, toward_told}
use Rattle.tree_cover_laws.proofs.RootPathLemmas.{same_commit, root_path}
use Rattle.tree_cover_laws.proofs.StepLemmas.{HasNext}
use Rattle.tree_cover_laws.proofs.StayLemmas.{OnPath}
use Rattle.tree_laws.proofs.AtTurn.{at_turn}
use Rattle.tree_trail_laws.proofs.AtTrail.{at_trail}

module _ (t : History) (whole : IsLawfulRun t) (sees : SeesAll t) (hs : List Happening) (u : Turn) (rest : List Happening) (is : hs ++ happenings.Turn u ∷ rest ≡ t.trace) (r : SealedRecord) (wrote : u.wrote ≡ Some (records.Sealed r)) where
  open at_turn t whole hs u rest is use {h, s, part_after as part1, bs}

  abbrev hs1 : List Happening
  hs1 = hs ++ h ∷ []

  abbrev part : Part t whole hs
  part = record { rest = h ∷ rest; is = is }

  lawful : IsLawfulRun s
  lawful = part_lawful t whole hs part

  abbrev s1 : History
  s1 = so_far t hs1

  lawful1 : IsLawfulRun s1
  lawful1 = part_lawful t whole hs1 part1

  knows : Known bs (said_in (f_at t hs))
  knows = known s lawful

  -- ---- the record

  -- it names its birth
  named : KeptIs (Began (births_of s1)) (sealed_as r)
  named =
      let may : MayHappen t.places t.commands (f_at t hs) h = may_of t whole hs h rest is in
      let disk : records_at (f_at t hs1) u.node ≡ records_at (f_at t hs) u.node ++ records.Sealed r ∷ []
      = ap (λ f. records_at f u.node) (one_on t hs h)
      ∙ ((turn_here t.places t.commands (f_at t hs) (run_stands s lawful).0.even u may.0 may.1.up).1 ∙ ap (λ w. records_at (f_at t hs) u.node ++ option_to_list w) wrote) in
      last_so (RecordNames (Began (births_of s1))) (records_at (f_at t hs) u.node) (records.Sealed r) (subst (AllByRecursion (RecordNames (Began (births_of s1)))) disk (records_name_the_born s1 lawful1 u.node))

  -- its toward is what Prepares told
  leads : (q : BranchId) × (toward_of r r.toward ≡ Some q) × LeadsToward (said_in (f_at t hs)) r.me r.parent (Some q)
  leads =
      let at : WritesAsTold t.places (f_at t hs) h
      = fact_at t.places t.commands (WritesAsTold t.places) (first_facts t.places) hs h rest (subst (EachFactFrom (WritesAsTold t.places) t.places t.commands (first_facts t.places)) (sym is) (records_are_as_told t whole)) in
      subst (λ w. IfSome w (RecordLeads (said_in (f_at t hs)))) wrote at

  abbrev q : BranchId
  q = leads.0

  asks_above : (p c : BranchId) → was_sent is_above (said_in (f_at t hs)) p c ≡ true → was_asked (said_in (f_at t hs)) p c ≡ true
  asks_above p c sent = sent_wider is_above is_prepare (tells_asks false) (said_in (f_at t hs)) p c sent

  asks_below : (p c : BranchId) → was_sent is_below (said_in (f_at t hs)) p c ≡ true → was_asked (said_in (f_at t hs)) p c ≡ true
  asks_below p c sent = sent_wider is_below is_prepare below_asks (said_in (f_at t hs)) p c sent

  -- The sealed branch, as it began; its root has asked somebody.
  record IsAsked : Type 0 where
    pub born : Born
    pub began : Began bs born
    pub is_me : born.me ≡ r.me
    pub is_root : born.root ≡ r.root
    pub is_parent : born.parent ≡ r.parent
    pub asked : asked_by (said_in (f_at t hs)) born.me born.parent ≡ true
    pub top : (c : BranchId) × (was_asked (said_in (f_at t hs)) r.root c ≡ true)

  same_one : (z : Born) → Began bs z → z.me ≡ r.me → z ≡ named.born
  same_one z began me =
      trees.same_born (births_of s1) (said_in (facts_at s1)) (known s1 lawful1) z named.born (born_end s1 lawful1 hs (record { rest = h ∷ []; is = refl }) z began) named.began (me ∙ sym named.is_me)

  root_so : (z : Born) → Began bs z → z.me ≡ r.me → z.root ≡ r.root
  root_so z began me = ap (λ (y : Born). y.root) (same_one z began me) ∙ named.is_root

  parent_so : (z : Born) → Began bs z → z.me ≡ r.me → z.parent ≡ r.parent
  parent_so z began me = ap (λ (y : Born). y.parent) (same_one z began me) ∙ named.is_parent

  -- below a parent that asked it
  below_one : (p : BranchId) → r.parent ≡ Some p → was_asked (said_in (f_at t hs)) p r.me ≡ true → IsAsked
  below_one p above sent =
      let kid = knows.child p r.me sent in
      let me_sent : was_asked (said_in (f_at t hs)) p kid.0.me ≡ true = subst (λ c. was_asked (said_in (f_at t hs)) p c ≡ true) (sym kid.2) sent in
      let it = root_asked bs (said_in (f_at t hs)) knows kid.0 p kid.1 kid.3 me_sent in
      record {
        born = kid.0;
        began = kid.1;
        is_me = kid.2;
        is_root = root_so kid.0 kid.1 kid.2;
        is_parent = parent_so kid.0 kid.1 kid.2;
        asked = subst (λ o. asked_by (said_in (f_at t hs)) kid.0.me o ≡ true) (sym kid.3) me_sent;
        top = (it.0, subst (λ b. was_asked (said_in (f_at t hs)) b it.0 ≡ true) (root_so kid.0 kid.1 kid.2) it.1);
      }

  -- a root that told a child that the walk comes there
  top_one : r.parent ≡ None → was_asked (said_in (f_at t hs)) r.me q ≡ true → IsAsked
  top_one none sent =
      let heard = knows.asks r.me q sent in
      let no_parent : heard.0.parent ≡ None = parent_so heard.0 heard.1 heard.2 ∙ none in
      let stands = trees.stands_so bs (said_in (f_at t hs)) knows heard.0 None heard.1 no_parent in
      record {
        born = heard.0;
        began = heard.1;
        is_me = heard.2;
        is_root = root_so heard.0 heard.1 heard.2;
        is_parent = parent_so heard.0 heard.1 heard.2;
        asked = subst (λ o. asked_by (said_in (f_at t hs)) heard.0.me o ≡ true) (sym no_parent) refl;
        top = (q, subst (λ b. was_asked (said_in (f_at t hs)) b q ≡ true) (sym heard.2 ∙ (sym stands.0 ∙ root_so heard.0 heard.1 heard.2)) sent);
      }

  it : IsAsked
  it = elim leads.2 [
    | inl off ↦ below_one q off.0 (asks_above q r.me off.1)
    | inr on ↦ by r.parent refl on.0 on.1
  ]
    where
      by : (o : Option BranchId) → r.parent ≡ o → comes_to (said_in (f_at t hs)) r.me o ≡ true → was_sent is_below (said_in (f_at t hs)) r.me q ≡ true → IsAsked
      by None none comes sent = top_one none (asks_below r.me q sent)
      by (Some p) above comes sent = below_one p above (asks_below p r.me comes)

  abbrev z : Born
  z = it.born

  top : Top bs (said_in (f_at t hs)) knows r.root
  top = subst (Top bs (said_in (f_at t hs)) knows) it.is_root (top_of bs (said_in (f_at t hs)) knows z it.began)

  -- ---- by the tree at the COMMIT

  module _ (found : WasFound s lawful r.root hs) where
    open found use {before as hs0}
    open at_trail t hs u use {tr_on as tr1}

    abbrev v : Happening
    v = happenings.Turn found.turn

    abbrev tr0 : Trail
    tr0 = tr_at t hs0

    commit_is : hs0 ++ v ∷ (found.later ++ h ∷ rest) ≡ t.trace
    commit_is = sym (append_assoc hs0 (v ∷ found.later) (h ∷ rest)) ∙ (ap (λ xs. xs ++ h ∷ rest) found.is ∙ is)

    abbrev found_whole : WasFound t whole r.root t.trace
    found_whole = record { before = hs0; turn = found.turn; later = found.later ++ h ∷ rest; is = commit_is; commit = same_commit s t lawful whole r.root hs0 found.turn (λ n. refl) found.commit }

    sees0 : SeesTree t.places (f_at t hs0) tr0 r.root
    sees0 = sees_tree t whole sees hs0 v (found.later ++ h ∷ rest) commit_is r.root

    -- the root is not working any more
    busy : (m mid : List Happening) → Part s lawful m → hs0 ++ v ∷ mid ≡ m → (k : NodeState) (l : Live) → node_at (f_at t m) r.root.node ≡ Some k → live_at k r.root ≡ Some l → l.phase ≢ phases.Working
    busy m mid part_m from k l up live working = by part_m.rest part_m.is
      where
        me : l.me ≡ r.root
        me = item_is live_id k.lives r.root l live

        its : live_at k l.me ≡ Some l
        its = subst (λ b. live_at k b ≡ Some l) (sym me) live

        no_parent : l.parent ≡ None
        no_parent =
            let y : Branch = record { live = l; work = work_at k l.me } in
            let placed : LiveIs (Began (births_of (so_far t m))) l = placed_of (so_far t m) (part_lawful s lawful m part_m) r.root.node k up y (ap (with_work k) its) in
            let one : placed.born ≡ top.0 = trees.same_born bs (said_in (f_at t hs)) knows placed.born top.0 (born_end s lawful m part_m placed.born placed.began) top.1 (placed.is_me ∙ (me ∙ sym top.2)) in
            sym placed.is_parent ∙ (ap (λ (b : Born). b.parent) one ∙ top.3)

        seen_so : (y : Happening) (ys : List Happening) → m ++ y ∷ ys ≡ t.trace → ⊥
        seen_so y ys next =
            let saw : Sees (f_at t m) (tr_at t m) = at_moment t (λ places f tr h. Sees f tr) sees m y ys next in
            let no : plan_at (tr_at t m) l.me ≡ None = (saw.lives r.root.node k up l its).2.unplanned no_parent working in
            let yes : plan_at (tr_at t m) r.root ≡ Some (plan t.places tr0 r.root) = subst (λ xs. plan_at (tr_at t xs) r.root ≡ Some (plan t.places tr0 r.root)) from (planned_after t whole sees r.root found_whole mid) in
            let here : plan_at (tr_at t m) r.root ≡ None = subst (λ b. plan_at (tr_at t m) b ≡ None) me no in
            absurd (cc (here, yes))

        by : (more : List Happening) → m ++ more ≡ hs → ⊥
        by [] ends = seen_so h rest (sym (append_assoc m [] (h ∷ rest)) ∙ (ap (λ xs. xs ++ h ∷ rest) ends ∙ is))
        by (y ∷ ys) ends = seen_so y (ys ++ h ∷ rest) (sym (append_assoc m (y ∷ ys) (h ∷ rest)) ∙ (ap (λ xs. xs ++ h ∷ rest) ends ∙ is))

    abbrev part0 : Part s lawful hs0
    part0 = record { rest = v ∷ found.later; is = found.is }

    next : HasNext s hs0
    next = (v, found.later, found.is)

    -- the sealed branch had not left
    kept_in : exit (e_at t hs0) z.me ≢ Some Dropped
    kept_in dropped =
        let tells : TellsAsEvents (f_at t hs) (e_at t hs) h
        = each_at t.places t.commands TellsAsEvents (first_facts t.places) hs h rest [] (subst (EachEventFrom TellsAsEvents t.places t.commands (first_facts t.places) []) (sym is) (turns_tell_as_events t whole)) in
        let still : exit (e_at t hs) r.me ≡ None = (subst (λ w. IfSome w (MayStand (e_at t hs))) wrote tells.0).0 in
        let mine : exit (e_at t hs) z.me ≡ None = subst (λ b. exit (e_at t hs) b ≡ None) (sym it.is_me) still in
        let later : exit (e_at t hs) z.me ≡ Some Dropped = exit_end s lawful hs0 part0 z.me Dropped dropped in
        cc (later, mine)

    root : OnPath s lawful hs0 part0 r.root r.root
    root = root_path s lawful r.root found top busy

    there : InPlan s lawful hs0 part0 r.root next root top sees0 z
    there = in_plan s lawful hs0 part0 r.root next root top sees0 z it.began it.is_root it.asked kept_in

    -- what is told of its parent
    parent_told : parent_of (seen_at tr0 z.me) ≡ z.parent
    parent_told =
        let b : Branch = there.path.branch in
        let its = there.path.stands.here in
        let saw : Sees (f_at t hs0) tr0 = at_moment t (λ places f tr h. Sees f tr) sees hs0 v (found.later ++ h ∷ rest) commit_is in
        let told = saw.lives b.live.me.node its.kept its.up b.live (live_so its.kept b.live.me b its.found) in
        subst (λ c. parent_of (seen_at tr0 c) ≡ z.parent) there.path.is_me (ap parent_of told.1 ∙ (told.2.told.parent ∙ (as_born s lawful hs0 part0 r.root next root top sees0 z it.began there.path).0))

    abbrev x : PlannedBranch
    x = planned t.places tr0 (seen.walk t.places tr0 r.root) z.me

    listed : IsListed (plan t.places tr0 r.root).tree x
    unfolding plan seen.tree
    listed =
        let low : z.depth ≤ depth_limit = not_deep s lawful hs0 part0 r.root next root top sees0 z it.began there.path in
        let levels : (depth_limit - z.depth) + z.depth ≡ depth_limit = omega (arith, low) in
        listed_map (planned t.places tr0 (seen.walk t.places tr0 r.root)) (tree_in depth_limit tr0 r.root) z.me
        (reach_listed tr0 depth_limit r.root z.me (subst (λ m. Reach tr0 m r.root z.me) levels (reach_up tr0 (depth_limit - z.depth) z.depth r.root z.me there.reach)))

    toward_so : x.toward ≡ Some q
    toward_so =
        let so : LeadsToward (said_in (f_at t hs)) z.me z.parent (Some q)
        = subst (λ c. LeadsToward (said_in (f_at t hs)) c z.parent (Some q)) (sym it.is_me) (subst (λ o. LeadsToward (said_in (f_at t hs)) r.me o (Some q)) (sym it.is_parent) leads.2) in
        ap (toward_by (seen.walk t.places tr0 r.root) z.me) parent_told ∙ toward_told s lawful hs0 part0 r.root next root top sees0 z it.began it.is_root it.asked kept_in q so

    planned_so : plan_at tr1 r.root ≡ Some (plan t.places tr0 r.root)
    planned_so =
        let ends : hs0 ++ v ∷ (found.later ++ h ∷ []) ≡ hs1 = sym (append_assoc hs0 (v ∷ found.later) (h ∷ [])) ∙ ap (λ xs. xs ++ h ∷ []) found.is in
        subst (λ tr. plan_at tr r.root ≡ Some (plan t.places tr0 r.root)) (trail_one_on t hs h)
        (subst (λ xs. plan_at (tr_at t xs) r.root ≡ Some (plan t.places tr0 r.root)) ends (planned_after t whole sees r.root found_whole (found.later ++ h ∷ [])))

    names : NamesToward tr1 (records.Sealed r)
    names = (x, record { plan = plan t.places tr0 r.root; planned = planned_so; place = listed.0; listed = listed.1 }, it.is_me, sym it.is_parent ∙ sym parent_told, leads.1 ∙ sym toward_so)

  pub names_so : NamesToward (trail_after t.places (f_at t hs) (tr_at t hs) h) (records.Sealed r)
  names_so = names (commit_before s lawful r.root top it.top.0 it.top.1)

module _ (t : History) (whole : IsLawfulRun t) (sees : SeesAll t) where
  record_names : (hs : List Happening) (u : Turn) (rest : List Happening) → hs ++ happenings.Turn u ∷ rest ≡ t.trace → (w : Option RedoRecord) → u.wrote ≡ w
      → IfSome w (NamesToward (trail_after t.places (f_at t hs) (tr_at t hs) (happenings.Turn u)))
  record_names hs u rest is None wrote = tt
  record_names hs u rest is (Some (records.Sealed r)) wrote = names_so t whole sees hs u rest is r wrote
  record_names hs u rest is (Some _) wrote = tt

  at_each : (hs : List Happening) (h : Happening) (rest : List Happening) → hs ++ h ∷ rest ≡ t.trace → RecordIsSo NamesToward t.places (f_at t hs) (tr_at t hs) h
  at_each hs (happenings.Turn u) rest is = record_names hs u rest is u.wrote refl
  at_each hs _ rest is = tt

  pub neighbors_named : AtEach (RecordIsSo NamesToward) t
  neighbors_named = by_moment t (RecordIsSo NamesToward) at_each

pub seals_name_toward : SealsNameToward
seals_name_toward t lawful = neighbors_named t lawful (full t lawful (all_is_seen t lawful))
