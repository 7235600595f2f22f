-- In every lawful run a branch that waits for a child is told to be asked the statement that goes on, and each Exec passes on what its sender was asked.
use Rattle.std.proofs.Common.{◌≡◌, ◌≢◌, ℕ, Bool, true, false, if◌then◌else◌, List, [], ◌∷◌, ◌++◌, map, Option, Some, None, inl, inr, refl, sym, ap, subst, ◌∙◌}
use Rattle.std.specs.Option.{option_to_list}
use Rattle.std.specs.List.{AllByRecursion}
use Rattle.std.proofs.lemmas.Bool.{cases_eq}
use Rattle.tran_ids.proofs.BranchLemmas.{equal_from_same}
use Rattle.tran_ids.proofs.ListedLemmas.{item_is}
use Rattle.tran_ids.proofs.NumberedLemmas.{set_or_before}
use Rattle.node_rules.specs.Data.{BranchId, Durable, Input, Live, Msg, RedoRecord}
use Rattle.node_rules.specs.declared.work.Waits.TheVariants as waiting
use Rattle.node_rules.specs.declared.work.Going.{Going}
use Rattle.node_rules.specs.Words.{same, item_at}
use Rattle.node_rules.specs.Names.{ref_of}
use Rattle.node_rules.specs.NodeState.{NodeState, live_id, live_at}
use Rattle.node_rules.specs.LiveBranches.{works_of}
use Rattle.node_rules.specs.Turn.{turn_of, start_of, heard, stamped}
use Rattle.run_rules.specs.Branches.{Dropped, Seen, Trail, seen_id, seen_at, is_live_at}
use Rattle.run_rules.specs.Data.{Turn, Happening}
use Rattle.run_rules.specs.Data.happenings
use Rattle.run_rules.specs.Each.{AtEach}
use Rattle.run_rules.specs.Facts.{Facts, flat, node_at, records_at, with_boot, kept_after, facts_after, facts_of}
use Rattle.run_claims.specs.Knowledge.{asked_of}
use Rattle.run_rules.specs.Lawful.{IsOwed, History, IsLawfulRun}
use Rattle.run_rules.specs.Runs.{Asking, asks}
use Rattle.run_rules.specs.Trail.{asked_after, stopped_by, trail_after}
use Rattle.run_rules.proofs.AtNodeLemmas.{turn_elsewhere}
use Rattle.run_base_laws.proofs.EventsStandLemmas.{run_stands, ids_name_their_node}
use Rattle.run_base_laws.proofs.LawfulLemmas.{of_sent, serves}
use Rattle.run_rules.proofs.ListLemmas.{all_weaker, all_map}
use Rattle.run_base_laws.proofs.OwnLemmas.{all_found}
use Rattle.tree_laws.proofs.PrefixLemmas.{so_far, f_at, one_on}
use Rattle.tree_laws.proofs.TimeLemmas.{Part, part_on, part_lawful, keep_on}
use Rattle.tree_trail_laws.specs.OwnLaws.{TracesRoots}
use Rattle.tree_trail_laws.specs.SeenLaws.{TracesOwns, Sees}
use Rattle.tree_trail_laws.proofs.ChildTurnLemmas as kids
use Rattle.tree_trail_laws.proofs.LowerRunLemmas.{stop_still}
use Rattle.tree_trail_laws.proofs.MomentLemmas.{tr_at, trail_one_on, at_moment, by_moment}
use Rattle.tree_trail_laws.proofs.OwnElseLemmas.{IsHere, asks_node, comes_here}
use Rattle.tree_trail_laws.proofs.OwnFollowLemmas.{owns_at, turn_owns}
use Rattle.tree_trail_laws.proofs.OwnKnowLemmas.{Knows}
use Rattle.tree_trail_laws.proofs.OwnTurnLemmas as own
use Rattle.tree_trail_laws.proofs.OwnTurnLemmas.{taken_of, Owns}
use Rattle.tree_trail_laws.proofs.SeenLemmas.{begun, seen_turned}
use Rattle.tree_trail_laws.proofs.SeenRunLemmas.{all_is_seen}
use Rattle.tree_trail_laws.proofs.StartLemmas.{started_none, none_made}
use Rattle.tree_trail_laws.proofs.TopFollowLemmas.{tops_follow}
use Rattle.answer_origin_laws.proofs.CatalogLemmas.{Extends, catalog, catalog_on}
use Rattle.run_cause_laws.specs.PassLaws.{MayExec, ExecsDuly, ExecsPassOn}
use Rattle.run_cause_laws.proofs.PassLemmas.{WaitsFor, EachWaits, waits_after, says_so}
use Rattle.run_cause_laws.proofs.PassStepLemmas.{Passing, passes_on}
use Rattle.tree_laws.proofs.AtTurn.{at_turn}
use Rattle.tree_trail_laws.proofs.AtTrail.{at_trail}
use Rattle.tree_trail_laws.proofs.LowerLivesLemmas.{bool_cases}

-- ---- what another turn asks, or a stop

module _ (tr : Trail) (n : ℕ) where
  -- a branch of another node is asked nothing
  unasked_elsewhere : (input : Input) → IsHere n input → (s : Seen) → s.me.node ≢ n → asked_after s (asks tr n input) ≡ s.asked
  unasked_elsewhere input here s other = by (asks tr n input) refl
    where
      by : (o : Option Asking) → asks tr n input ≡ o → asked_after s o ≡ s.asked
      by None none = refl
      by (Some a) some = bool_cases (same a.branch.me s.me) _
          (λ same_one. absurd (other (sym (ap (λ (c : BranchId). c.node) (equal_from_same a.branch.me s.me same_one)) ∙ asks_node tr n input here a some)))
          (λ apart. ap (λ q. if q then Some a.statement else s.asked) apart)

stopped_me : (n : ℕ) (s : Seen) → (stopped_by n s).me ≡ s.me
stopped_me n s = bool_cases (is_live_at n s) _ (λ live. ap (λ q. (if q then record s { exit = Some Dropped } else s).me) live) (λ not_so. ap (λ q. (if q then record s { exit = Some Dropped } else s).me) not_so)

stopped_keeps : (n : ℕ) (s : Seen) → ((stopped_by n s).asked ≡ s.asked) × ((stopped_by n s).taken ≡ s.taken)
stopped_keeps n s = by (is_live_at n s)
  where
    by : (q : Bool) → ((if q then record s { exit = Some Dropped } else s).asked ≡ s.asked) × ((if q then record s { exit = Some Dropped } else s).taken ≡ s.taken)
    by true = (refl, refl)
    by false = (refl, refl)

-- what a longer catalog leaves of a branch that waits
waits_grow : (D E : Durable) → Extends D E → (link : List ℕ) (o : Option Seen) (g : Going) → WaitsFor D link o g → WaitsFor E link o g
waits_grow D E grows link o g was = record { statement = was.statement; asked = was.asked; table = was.table; named = grows.names (ref_of was.statement) link was.table was.named; room = was.room; passes = was.passes }

waits_same : (D : Durable) (link : List ℕ) (o q : Option Seen) (g : Going) → asked_of q ≡ asked_of o → WaitsFor D link o g → WaitsFor D link q g
waits_same D link o q g asked was = record { statement = was.statement; asked = asked ∙ was.asked; table = was.table; named = was.named; room = was.room; passes = was.passes }

module _ (t : History) (whole : IsLawfulRun t) where
  -- ---- what is told of roots

  roots_at : (hs : List Happening) → Part t whole hs → TracesRoots t.places (f_at t hs) (tr_at t hs)
  roots_at hs part =
      let s0 : History = so_far t hs in
      let lawful0 : IsLawfulRun s0 = part_lawful t whole hs part in
      let it = tops_follow s0 lawful0 (by_moment s0 (λ places f tr h. TracesOwns f tr) (λ xs h more is. (at_moment s0 (λ places f tr h. Sees f tr) (all_is_seen s0 lawful0) xs h more is).owns)) in
      record { tops = it.0; roots = it.1; next = it.2 }

  part_here : (hs : List Happening) (h : Happening) (more : List Happening) → hs ++ h ∷ more ≡ t.trace → Part t whole hs
  part_here hs h more is = record { rest = h ∷ more; is = is }

  roots_each : AtEach (λ places f tr h. TracesRoots places f tr) t
  roots_each = by_moment t (λ places f tr h. TracesRoots places f tr) (λ hs h more is. roots_at hs (part_here hs h more is))

module _ (t : History) (whole : IsLawfulRun t) where
  -- What is known so far.
  record Known (hs : List Happening) : Type 0 where
    pub owns : Owns (f_at t hs) (tr_at t hs)
    pub waits : EachWaits (f_at t hs) (tr_at t hs)

  -- ---- a turn

  module _ (hs : List Happening) (u : Turn) (more : List Happening) (is : hs ++ happenings.Turn u ∷ more ≡ t.trace) (now : Known hs) where
    open at_turn t whole hs u more is use {after as hs1, f as f0, g as f1, may, k, p, d}
    open at_trail t hs u use {tr as tr0, tr_on as tr1}

    part0 : Part t whole hs
    part0 = part_here t whole hs (happenings.Turn u) more is

    roots0 : TracesRoots t.places f0 tr0
    roots0 = roots_at t whole hs part0

    passing : Passing p u.input (heard k u.input) d
    passing = passes_on p u.input (serves t.places f0 u k may.1).step

    told : u.cut ≡ false → (l : Live) → live_at d.after l.me ≡ Some l → Knows (heard k u.input) (begun t.places f0 tr0 u) l.me
    told uncut l live = own.knows_after t whole hs u more is roots0 now.owns uncut l live

    grows : (n : ℕ) → Extends (catalog t whole hs n) (catalog t whole hs1 n)
    grows n = catalog_on t whole n hs (happenings.Turn u ∷ []) (part_on t whole hs (happenings.Turn u) more is)

    -- as the records are after the turn
    abbrev After : ℕ → NodeState → Type 0
    After n j = (l : Live) → live_at j l.me ≡ Some l → (g : Going) (link : List ℕ) → (works_of j.works l.me).going ≡ Some g → g.waits ≡ waiting.ForOpened link → WaitsFor (catalog t whole hs1 n) link (seen_at tr1 l.me) g

    here_after : u.cut ≡ false → After u.node d.after
    here_after uncut l live g link going waits =
        waits_grow (catalog t whole hs u.node) (catalog t whole hs1 u.node) (grows u.node) link (seen_at tr1 l.me) g
        (waits_after t whole hs u more is roots0 now.owns now.waits uncut [] passing (told uncut) l live g link going waits)

    elsewhere : (n : ℕ) (j : NodeState) → u.node ≢ n → node_at f1 n ≡ Some j → After n j
    elsewhere n j other up l live g link going waits =
        let s0 : History = so_far t hs in
        let lawful0 : IsLawfulRun s0 = part_lawful t whole hs part0 in
        let before : node_at f0 n ≡ Some j = sym (turn_elsewhere t.places t.commands f0 (run_stands s0 lawful0).0.even u n other).0 ∙ up in
        let node : l.me.node ≡ n = all_found (λ (y : Live). y.me.node ≡ n) live_id j.lives l.me l (ids_name_their_node s0 lawful0 n j before).lives live in
        let it : Knows j tr0 l.me = own.known t whole hs u more is roots0 now.owns n j before l live in
        let me : it.seen.me ≡ l.me = item_is seen_id tr0.seen l.me it.seen it.at in
        let apart : it.seen.me.node ≢ u.node = (λ same. other (sym same ∙ (ap (λ (c : BranchId). c.node) me ∙ node))) in
        let asked : asked_of (seen_at tr1 l.me) ≡ asked_of (seen_at tr0 l.me)
        = ap asked_of (seen_turned t.places f0 tr0 u l.me it.seen it.at)
        ∙ (unasked_elsewhere (begun t.places f0 tr0 u) u.node u.input (comes_here f0 k u.node u.input u.took may.1.comes) it.seen apart ∙ sym (ap asked_of it.at)) in
        waits_grow (catalog t whole hs n) (catalog t whole hs1 n) (grows n) link (seen_at tr1 l.me) g
        (waits_same (catalog t whole hs n) link (seen_at tr0 l.me) (seen_at tr1 l.me) g asked (now.waits n j before l live g link going waits))

    all_after : (n : ℕ) (j : NodeState) → node_at f1 n ≡ Some j → After n j
    all_after n j up = elim (cases_eq u.node n) [
      | inl here ↦ subst (λ m. After m j) here (by u.cut refl (subst (λ m. node_at f1 m ≡ Some j) (sym here) up))
      | inr other ↦ elsewhere n j other up
    ]
      where
        by : (cut : Bool) → u.cut ≡ cut → node_at f1 u.node ≡ Some j → After u.node j
        by true cut there =
            let none : node_at f1 u.node ≡ None = kids.here_after t whole hs u more is (own.tells t whole hs u more is roots0 now.owns) ∙ ap (λ c. kept_after c (Some (turn_of p k u.input))) cut in
            absurd (cc (none, there))
        by false cut there =
            let both : Some d.after ≡ Some j = sym (kids.after_up t whole hs u more is (own.tells t whole hs u more is roots0 now.owns) cut) ∙ there in
            let one : d.after ≡ j = cc in
            subst (After u.node) one (here_after cut)

    turn_known : Known hs1
    turn_known = record {
      owns = turn_owns t whole (roots_each t whole) hs u more is now.owns;
      waits = λ n j up l live g link going waits.
          subst (λ (tr : Trail). WaitsFor (catalog t whole hs1 n) link (seen_at tr l.me) g) (sym (trail_one_on t hs (happenings.Turn u)))
          (all_after n j (subst (λ f. node_at f n ≡ Some j) (one_on t hs (happenings.Turn u)) up) l live g link going waits);
    }

    -- each Exec of the turn
    abbrev rs : List RedoRecord
    rs = records_at f0 u.node ++ option_to_list u.wrote

    turn_passes : ExecsDuly t.places f0 tr0 (happenings.Turn u)
    turn_passes = by u.cut refl
      where
        none_sent : u.sent ≡ [] → ExecsDuly t.places f0 tr0 (happenings.Turn u)
        none_sent none = subst (AllByRecursion (λ (m : Msg). MayExec p f0 tr0 tr1 rs u.input m.from m.to m.kind)) (sym none) tt

        by : (cut : Bool) → u.cut ≡ cut → ExecsDuly t.places f0 tr0 (happenings.Turn u)
        by true cut = none_sent (subst (λ c. IsOwed p k u.input u.wrote u.sent c) cut may.1.owed).1
        by false uncut =
            of_sent p k u (serves t.places f0 u k may.1) (λ w ms. AllByRecursion (λ (m : Msg). MayExec p f0 tr0 tr1 rs u.input m.from m.to m.kind) ms) tt
            (all_map (λ (m : Msg). MayExec p f0 tr0 tr1 rs u.input m.from m.to m.kind) (stamped d.after.clock) d.says
            (all_weaker _ _ (λ x so. so) d.says (says_so t whole hs u more is roots0 now.owns now.waits uncut rs passing (told uncut))))

  -- ---- other happenings

  module _ (hs : List Happening) (h : Happening) (more : List Happening) (is : hs ++ h ∷ more ≡ t.trace) (now : Known hs) where
    same_known : (g : Facts) (tr : Trail) → facts_after t.places t.commands (f_at t hs) h ≡ g → trail_after t.places (f_at t hs) (tr_at t hs) h ≡ tr
        → ((n : ℕ) (j : NodeState) → node_at g n ≡ Some j → (l : Live) → live_at j l.me ≡ Some l → node_at (f_at t hs) n ≡ Some j)
        → ((b : BranchId) → (asked_of (seen_at tr b) ≡ asked_of (seen_at (tr_at t hs) b)) × (taken_of (seen_at tr b) ≡ taken_of (seen_at (tr_at t hs) b)))
        → Known (hs ++ h ∷ [])
    same_known g tr facts trail still kept =
        let fact : f_at t (hs ++ h ∷ []) ≡ g = one_on t hs h ∙ facts in
        let told : tr_at t (hs ++ h ∷ []) ≡ tr = trail_one_on t hs h ∙ trail in
        record {
          owns = owns_at t whole (roots_each t whole) (hs ++ h ∷ []) part1;
          waits = λ n j up l live go link going waits. (let was_up : node_at g n ≡ Some j = subst (λ f. node_at f n ≡ Some j) fact up in
              subst (λ (x : Trail). WaitsFor (catalog t whole (hs ++ h ∷ []) n) link (seen_at x l.me) go) (sym told)
              (waits_grow (catalog t whole hs n) (catalog t whole (hs ++ h ∷ []) n) (catalog_on t whole n hs (h ∷ []) (part_on t whole hs h more is)) link (seen_at tr l.me) go
              (waits_same (catalog t whole hs n) link (seen_at (tr_at t hs) l.me) (seen_at tr l.me) go (kept l.me).0 (now.waits n j (still n j was_up l live) l live go link going waits))));
        }
      where
        part1 : Part t whole (hs ++ h ∷ [])
        part1 = part_on t whole hs h more is

  stop_keeps : (n : ℕ) (xs : List Seen) (b : BranchId) → (asked_of (item_at seen_id (map (stopped_by n) xs) b) ≡ asked_of (item_at seen_id xs b)) × (taken_of (item_at seen_id (map (stopped_by n) xs) b) ≡ taken_of (item_at seen_id xs b))
  stop_keeps n [] b = (refl, refl)
  stop_keeps n (s ∷ xs) b =
      subst (λ c. (asked_of (if same c b then Some (stopped_by n s) else item_at seen_id (map (stopped_by n) xs) b) ≡ asked_of (if same s.me b then Some s else item_at seen_id xs b))
      × (taken_of (if same c b then Some (stopped_by n s) else item_at seen_id (map (stopped_by n) xs) b) ≡ taken_of (if same s.me b then Some s else item_at seen_id xs b))) (sym (stopped_me n s)) (by (same s.me b) (stop_keeps n xs b))
    where
      by : (q : Bool) → (asked_of (item_at seen_id (map (stopped_by n) xs) b) ≡ asked_of (item_at seen_id xs b)) × (taken_of (item_at seen_id (map (stopped_by n) xs) b) ≡ taken_of (item_at seen_id xs b))
          → (asked_of (if q then Some (stopped_by n s) else item_at seen_id (map (stopped_by n) xs) b) ≡ asked_of (if q then Some s else item_at seen_id xs b))
          × (taken_of (if q then Some (stopped_by n s) else item_at seen_id (map (stopped_by n) xs) b) ≡ taken_of (if q then Some s else item_at seen_id xs b))
      by true later = stopped_keeps n s
      by false later = later

  known_on : (hs : List Happening) (h : Happening) (more : List Happening) → hs ++ h ∷ more ≡ t.trace → Known hs → Known (hs ++ h ∷ [])
  unfolding facts_after trail_after start_of
  known_on hs (happenings.Turn u) more is now = turn_known hs u more is now
  known_on hs (happenings.Stopped n) more is now =
      same_known hs (happenings.Stopped n) more is now _ _ refl refl (λ m j up l live. stop_still t whole (f_at t hs) n m j up) (λ b. stop_keeps n (tr_at t hs).seen b)
  known_on hs (happenings.Started n boot) more is now =
      same_known hs (happenings.Started n boot) more is now _ _ refl refl
      (λ m j up l live. elim (set_or_before (f_at t hs).nodes n m (Some (start_of (with_boot (f_at t hs) n boot)))) [
        | inl before ↦ sym (ap flat before) ∙ up
        | inr new ↦ absurd (started_none (f_at t hs) n boot m j l new.1 up live)
      ])
      (λ b. (refl, refl))
  known_on hs (happenings.Begun c) more is now = same_known hs (happenings.Begun c) more is now _ _ refl refl (λ m j up l live. up) (λ b. (refl, refl))
  known_on hs (happenings.Cut x y) more is now = same_known hs (happenings.Cut x y) more is now _ _ refl refl (λ m j up l live. up) (λ b. (refl, refl))
  known_on hs (happenings.Join x y) more is now = same_known hs (happenings.Join x y) more is now _ _ refl refl (λ m j up l live. up) (λ b. (refl, refl))
  known_on hs (happenings.Lost x) more is now = same_known hs (happenings.Lost x) more is now _ _ refl refl (λ m j up l live. up) (λ b. (refl, refl))

  -- a node that was made keeps no live branch
  first_known : Known []
  unfolding start_of facts_of
  first_known = record {
    owns = owns_at t whole (roots_each t whole) [] (record { rest = t.trace; is = refl });
    waits = λ n k up l live g link going waits. absurd (none_made t.places n k l up live);
  }

  known_at : (hs : List Happening) → Part t whole hs → Known hs
  known_at hs part = keep_on t whole Known known_on [] hs part first_known

pub execs_pass_on : ExecsPassOn
execs_pass_on t lawful = by_moment t ExecsDuly each
  where
    each : (hs : List Happening) (h : Happening) (rest : List Happening) → hs ++ h ∷ rest ≡ t.trace → ExecsDuly t.places (f_at t hs) (tr_at t hs) h
    each hs (happenings.Turn u) rest is = turn_passes t lawful hs u rest is (known_at t lawful hs (record { rest = happenings.Turn u ∷ rest; is = is }))
    each hs _ rest is = tt
