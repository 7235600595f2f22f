-- What a branch below the root of a savepoint noted of its calls up to the SAVEPOINT stays as it is, while the savepoint stands.
use Rattle.std.proofs.Common.{◌≡◌, ◌≤◌, ◌<◌, ℕ, Bool, true, false, List, [], ◌∷◌, ◌++◌, length, take, drop, Option, Some, None, inl, inr, refl, sym, ap, subst, ◌∙◌, arith, append-nil, ◌≢◌, if◌then◌else◌, ◌+◌}
use Rattle.std.specs.List.{AllByRecursion}
use Rattle.std.proofs.lemmas.Bool.{cases_eq}
use Rattle.tran_ids.proofs.ListedLemmas.{item_is}
use Rattle.tran_ids.proofs.NumberedLemmas.{set_or_before}
use Rattle.node_rules.specs.Data.{BranchId, Live, Place, Note, Input, Savepoint}
use Rattle.node_rules.specs.Data.kinds
use Rattle.node_rules.specs.Data.tasks
use Rattle.node_rules.specs.declared.work.Work.{Work}
use Rattle.node_rules.specs.Inputs.{Came}
use Rattle.node_rules.specs.LiveBranches.{EachLive}
use Rattle.node_rules.specs.NodeState.{NodeState, TurnDraft, live_id, live_at, with_work, work_at}
use Rattle.node_rules.specs.Turn.{draft_of, heard, turn_of, start_of}
use Rattle.node_rules.specs.Words.{numbered, set_numbered}
use Rattle.node_rules.proofs.LiveLemmas.{none_live}
use Rattle.node_rules.proofs.Steps.{Step}
use Rattle.run_rules.specs.Births.{Born, born_at, births_of, births_by}
use Rattle.run_rules.specs.Data.{Turn, Happening}
use Rattle.run_rules.specs.Data.happenings
use Rattle.run_rules.specs.Facts.{Facts, flat, node_at, place_at, facts_after, kept_after, with_boot}
use Rattle.run_rules.specs.Lawful.{MayHappen, History, IsLawfulRun, facts_at}
use Rattle.tree_trail_laws.proofs.MomentLemmas.{tr_at}
use Rattle.run_rules.proofs.AtNodeLemmas.{turn_here, turn_elsewhere}
use Rattle.run_rules.proofs.ListLemmas.{all_weaker}
use Rattle.run_base_laws.specs.InTurnLaws.{said_in}
use Rattle.run_base_laws.specs.RunEvents.{events_of}
use Rattle.run_base_laws.proofs.BirthLemmas.{news_of}
use Rattle.run_base_laws.proofs.BirthRunLemmas.{StandBorn, run_births}
use Rattle.run_base_laws.proofs.BirthsStandLemmas.{came_so, all_unborn}
use Rattle.run_base_laws.proofs.EventsStandLemmas.{node_so, owned_so, ids_name_their_node}
use Rattle.run_base_laws.proofs.InTurnRunLemmas.{heard_calls}
use Rattle.run_base_laws.proofs.LawfulLemmas.{serves}
use Rattle.run_base_laws.proofs.NeighborLemmas.{News}
use Rattle.run_base_laws.proofs.NodeLemmas.{kept_alone}
use Rattle.run_base_laws.proofs.OwnLemmas.{all_found}
use Rattle.run_base_laws.proofs.RootLemmas.{SessionsFit, sessions_keep}
use Rattle.run_base_laws.proofs.TurnEventLemmas.{number_is}
use Rattle.tree_laws.proofs.PrefixLemmas.{so_far, f_at, one_on}
use Rattle.tree_laws.proofs.TimeLemmas.{Part, part_of, part_lawful, may_of, keep_on}
use Rattle.tree_trail_laws.proofs.TopBirthLemmas.{born_more}
use Rattle.back_laws.specs.BackLaws.{StandsSince}
use Rattle.back_laws.specs.Floors.{parent_in, BackAbove, FloorsStand}
use Rattle.back_laws.proofs.NoteLemmas as notes
use Rattle.back_laws.proofs.StayLemmas.{length_last, take_length, take_parts}
use Rattle.back_laws.proofs.FixedLemmas as fixed
use Rattle.back_laws.proofs.HoldLemmas as hold
use Rattle.back_laws.proofs.FloorLemmas.{floors_hold, unmapped}
use Rattle.back_laws.specs.LiveTree.{floor_among, noted_by, noted_in, taken_of}
use Rattle.savepoints.specs.Marks.{notes_until}
use Rattle.tree_laws.specs.DecideLaws.{live_in, live_of}
use Rattle.run_rules.specs.Branches.{Seen, seen_at, is_among}
use Rattle.run_rules.specs.Each.{trail_upto}
use Rattle.node_rules.specs.Data.inputs

pub heard_fit : (k : NodeState) (input : Input) → SessionsFit k → SessionsFit (heard k input)
heard_fit k (inputs.Message m) now = record { roots = now.roots; above = now.above }
heard_fit k (inputs.Call n s) now = now
heard_fit k (inputs.GiveUp n) now = now
heard_fit k inputs.Reco now = now
heard_fit k inputs.Checkpoint now = now

module _ (t : History) (whole : IsLawfulRun t) (moment now : ℕ) (floor : BranchId → ℕ) (N : BranchId → List Note) (D : BranchId → Type 0)
    (said : (hs : List Happening) → Part t whole hs → moment ≤ length hs → length hs < now → AllByRecursion (λ m. BackAbove floor m.to m.kind) (said_in (f_at t hs))) where
  abbrev P : Live → Work → Type 0
  P = fixed.Fits floor N D

  abbrev Nodes : NodeState → Type 0
  Nodes k = EachLive P k.lives k.works

  -- What stands after some happenings.
  pub record Holds (hs : List Happening) (f : Facts) : Type 0 where
    pub nodes : (n : ℕ) (k : NodeState) → node_at f n ≡ Some k → Nodes k
    pub born : (b : BranchId) → D b → born_at (births_of (so_far t hs)) b ≡ None → ⊥

  born_on : (hs : List Happening) (h : Happening) (rest : List Happening) → hs ++ h ∷ rest ≡ t.trace → ((b : BranchId) → D b → born_at (births_of (so_far t hs)) b ≡ None → ⊥) → (b : BranchId) → D b → born_at (births_of (so_far t (hs ++ h ∷ []))) b ≡ None → ⊥
  born_on hs h rest is born b d none = by (born_at (births_of (so_far t hs)) b) refl
    where
      by : (o : Option Born) → born_at (births_of (so_far t hs)) b ≡ o → ⊥
      by None is_none = born b d is_none
      by (Some x) some =
          let me : x.me ≡ b = item_is (λ (y : Born). y.me) (births_of (so_far t hs)) b x some in
          let more = born_more t whole hs h rest is b (x, subst (λ c. born_at (births_of (so_far t hs)) c ≡ Some x) (sym me) some, me) in
          let at : born_at (births_of (so_far t (hs ++ h ∷ []))) b ≡ Some more.0 = subst (λ c. born_at (births_of (so_far t (hs ++ h ∷ []))) c ≡ Some more.0) more.2 more.1 in
          absurd (cc (at, none))

  -- ---- a turn

  module _ (hs : List Happening) (u : Turn) (rest : List Happening) (is : hs ++ happenings.Turn u ∷ rest ≡ t.trace) (late : moment ≤ length hs) (soon : length hs < now) (holds : Holds hs (f_at t hs)) where
    abbrev f : Facts
    f = f_at t hs

    abbrev s0 : History
    s0 = so_far t hs

    abbrev part : Part t whole hs
    part = part_of t whole hs (happenings.Turn u) rest is

    abbrev may : MayHappen t.places t.commands f (happenings.Turn u)
    may = may_of t whole hs (happenings.Turn u) rest is

    abbrev k : NodeState
    k = may.0

    abbrev p : Place
    p = place_at t.places u.node

    abbrev d : TurnDraft
    d = draft_of p may.0 u.input

    lawful0 : IsLawfulRun s0
    lawful0 = part_lawful t whole hs part

    stand : StandBorn t.places t.commands t.of_a_script.each f (events_of s0) (births_of s0)
    stand = run_births s0 lawful0

    step : Step p u.input (heard k u.input) d
    step = (serves t.places f u k may.1).step

    news : News (fixed.IsFresh floor N D) p u.input (heard k u.input)
    news =
        news_of (fixed.IsFresh floor N D) p k u.input
        (all_weaker (λ (y : Born). born_at (births_of s0) y.me ≡ None) (λ y. D y.me → ⊥) (λ y none has. holds.born y.me has none) (births_by p k u.input)
        (all_unborn t.places t.commands t.of_a_script.each f (events_of s0) (births_of s0) u k stand.0.1 stand.0.0.even (node_so t.places t.commands t.of_a_script.each f (events_of s0) stand.0)
        (owned_so t.places t.commands t.of_a_script.each f (events_of s0) stand.0) may.1 (number_is t.places t.commands t.of_a_script.each f u.node k stand.0.1.many may.1.up) stand.1))

    backs : (from to : BranchId) (call keep : ℕ) → Came u.input from to (kinds.Exec call (tasks.GoBack keep)) → floor to < call → floor to ≤ keep
    backs from to call keep came =
        came_so (λ a b kind. BackAbove floor b kind) f (unmapped (λ m. BackAbove floor m.to m.kind) f.net.packets (said hs part late soon)) k u.node u.input u.took may.1.comes from to (kinds.Exec call (tasks.GoBack keep)) came

    -- the node after it
    left : Nodes d.after
    left =
        fixed.notes_on floor N D p u.input backs step news (heard_fit k u.input (kept_alone SessionsFit sessions_keep s0 lawful0 u.node k may.1.up))
        (heard_calls P k u.input (holds.nodes u.node k may.1.up))

    turn_holds : Holds (hs ++ happenings.Turn u ∷ []) (facts_after t.places t.commands f (happenings.Turn u))
    unfolding turn_of
    turn_holds = record { nodes = nodes; born = born_on hs (happenings.Turn u) rest is holds.born }
      where
        here : node_at (facts_after t.places t.commands f (happenings.Turn u)) u.node ≡ kept_after u.cut (Some (turn_of p k u.input))
        here = (turn_here t.places t.commands f stand.0.0.even u k may.1.up).0

        own : (cut : Bool) → u.cut ≡ cut → (j : NodeState) → node_at (facts_after t.places t.commands f (happenings.Turn u)) u.node ≡ Some j → Nodes j
        own true cut j up = (let none : node_at (facts_after t.places t.commands f (happenings.Turn u)) u.node ≡ None = here ∙ ap (λ c. kept_after c (Some (turn_of p k u.input))) cut in absurd (cc (none, up)))
        own false cut j up =
            let after : node_at (facts_after t.places t.commands f (happenings.Turn u)) u.node ≡ Some d.after = here ∙ ap (λ c. kept_after c (Some (turn_of p k u.input))) cut in
            let both : Some d.after ≡ Some j = sym after ∙ up in
            let one : d.after ≡ j = cc in
            subst Nodes one left

        nodes : (n : ℕ) (j : NodeState) → node_at (facts_after t.places t.commands f (happenings.Turn u)) n ≡ Some j → Nodes j
        nodes n j up = elim (cases_eq u.node n) [
          | inl at ↦ own u.cut refl j (subst (λ m. node_at (facts_after t.places t.commands f (happenings.Turn u)) m ≡ Some j) (sym at) up)
          | inr other ↦ holds.nodes n j (sym (turn_elsewhere t.places t.commands f stand.0.0.even u n other).0 ∙ up)
        ]

  -- ---- other happenings

  set_node : (hs : List Happening) → Holds hs (f_at t hs) → (n m : ℕ) (o : Option NodeState) → ((j : NodeState) → o ≡ Some j → Nodes j) → (j : NodeState) → flat (numbered (set_numbered (f_at t hs).nodes n o) m) ≡ Some j → Nodes j
  set_node hs holds n m o new j up = elim (set_or_before (f_at t hs).nodes n m o) [
    | inl before ↦ holds.nodes m j (sym (ap flat before) ∙ up)
    | inr set ↦ new j (sym (ap flat set.1) ∙ up)
  ]

  happens : (hs : List Happening) (h : Happening) (rest : List Happening) → hs ++ h ∷ rest ≡ t.trace → moment ≤ length hs → length hs < now → Holds hs (f_at t hs) → Holds (hs ++ h ∷ []) (facts_after t.places t.commands (f_at t hs) h)
  unfolding facts_after start_of
  happens hs (happenings.Turn u) rest is late soon holds = turn_holds hs u rest is late soon holds
  happens hs (happenings.Stopped n) rest is late soon holds = record { nodes = λ m j up. set_node hs holds n m None (λ i none. absurd cc) j up; born = born_on hs (happenings.Stopped n) rest is holds.born }
  happens hs (happenings.Started n boot) rest is late soon holds = record {
    nodes = λ m j up. set_node hs holds n m (Some (start_of (with_boot (f_at t hs) n boot))) (λ i some. (let one : start_of (with_boot (f_at t hs) n boot) ≡ i = cc in subst Nodes one (none_live P))) j up;
    born = born_on hs (happenings.Started n boot) rest is holds.born;
  }
  happens hs (happenings.Begun c) rest is late soon holds = record { nodes = λ m j up. holds.nodes m j up; born = born_on hs (happenings.Begun c) rest is holds.born }
  happens hs (happenings.Cut x y) rest is late soon holds = record { nodes = λ m j up. holds.nodes m j up; born = born_on hs (happenings.Cut x y) rest is holds.born }
  happens hs (happenings.Join x y) rest is late soon holds = record { nodes = λ m j up. holds.nodes m j up; born = born_on hs (happenings.Join x y) rest is holds.born }
  happens hs (happenings.Lost x) rest is late soon holds = record { nodes = λ m j up. holds.nodes m j up; born = born_on hs (happenings.Lost x) rest is holds.born }

  abbrev HoldsFrom : List Happening → Type 0
  HoldsFrom hs = (moment ≤ length hs) × (length hs ≤ now → Holds hs (f_at t hs))

  holds_on : (hs : List Happening) (h : Happening) (rest : List Happening) → hs ++ h ∷ rest ≡ t.trace → HoldsFrom hs → HoldsFrom (hs ++ h ∷ [])
  holds_on hs h rest is from =
      let late = from.0 in
      let more = length_last hs h in
      (omega (arith, late, more), λ low. subst (Holds (hs ++ h ∷ [])) (sym (one_on t hs h)) (happens hs h rest is from.0 (omega (arith, low, more)) (from.1 (omega (arith, low, more)))))

  pub holds_at : (hs mid : List Happening) → Part t whole (hs ++ mid) → HoldsFrom hs → HoldsFrom (hs ++ mid)
  holds_at hs mid part from = keep_on t whole HoldsFrom holds_on hs mid part from

-- ---- the session tree of a savepoint

-- the first so many happenings are those before the rest
take_first : {A : Type 0} (xs ys : List A) → take (length xs) (xs ++ ys) ≡ xs
take_first [] ys = refl
take_first (x ∷ xs) ys = ap (λ zs. x ∷ zs) (take_first xs ys)

module _ (t : History) (whole : IsLawfulRun t) (s : Seen) (v : Savepoint) (since : StandsSince t s v) (b : BranchId) (is : is_among b (hold.tree t whole s v since) ≡ true) where
  abbrev hs1 : List Happening
  hs1 = hold.hs1 t whole s v since

  abbrev f1 : Facts
  f1 = f_at t hs1

  abbrev part1 : Part t whole hs1
  part1 = hold.here1 t whole s v since

  abbrev moment : ℕ
  moment = since.last.moment + 1

  abbrev tree : List BranchId
  tree = hold.tree t whole s v since

  abbrev floor : BranchId → ℕ
  floor c = floor_among tree (tr_at t hs1) c

  abbrev In_tree : BranchId → Type 0
  In_tree c = is_among c tree ≡ true

  abbrev N : BranchId → List Note
  N c = noted_in f1 c (floor c)

  low1 : moment ≤ length t.trace
  low1 = let low = since.last.before in omega (arith, low)

  long1 : length hs1 ≡ moment
  long1 = take_length moment t.trace low1

  -- no BACK goes below a floor
  said_above : (hs : List Happening) → Part t whole hs → moment ≤ length hs → length hs < length t.trace → AllByRecursion (λ m. BackAbove floor m.to m.kind) (said_in (f_at t hs))
  said_above hs part late soon =
      let first : take (length hs) t.trace ≡ hs = ap (take (length hs)) (sym part.is) ∙ take_first hs part.rest in
      let stands : FloorsStand t floor (f_at t (take (length hs) t.trace))
      = floors_hold t whole moment (length hs) late (omega (arith, soon)) floor (hold.unborn t whole s v since b is) (hold.stand t whole s v since b is)
      (λ c top i u from upto there k goes. hold.tops_above t whole s v since b is c top i u from (omega (arith, upto, soon)) there k goes) in
      subst (λ xs. AllByRecursion (λ m. BackAbove floor m.to m.kind) (said_in (f_at t xs))) first stands.said

  module _ (n : ℕ) (k : NodeState) (up : node_at f1 n ≡ Some k) (c : BranchId) (l : Live) (found : live_at k c ≡ Some l) where
    first_held : In_tree l.me → l.parent ≢ None → fixed.Held floor N In_tree l.me (work_at k c)
    first_held in_it below =
        let me : l.me ≡ c = item_is live_id k.lives c l found in
        let mine : live_at k l.me ≡ Some l = subst (λ d. live_at k d ≡ Some l) (sym me) found in
        let node : l.me.node ≡ n = all_found (λ (y : Live). y.me.node ≡ n) live_id k.lives l.me l (ids_name_their_node (so_far t hs1) (part_lawful t whole hs1 part1) n k up).lives mine in
        let there : node_at f1 l.me.node ≡ Some k = ap (node_at f1) node ∙ up in
        let live : live_in f1 l.me ≡ Some l = ap (λ o. live_of o l.me) there ∙ mine in
        let rests : (work_at k l.me).going ≡ None = (hold.all_rest t whole s v since l.me in_it l live k there).0 in
        let stands = (hold.stand t whole s v since b is).nodes n k up (record { live = l; work = work_at k l.me }) (ap (with_work k) mine) in
        let parent : parent_in t l.me ≡ l.parent = hold.parent_is t whole hs1 part1 l.me l live in
        let held : fixed.Held floor N In_tree l.me (work_at k l.me) = record {
          low = stands.low (λ none. below (sym parent ∙ none));
          notes = ap (λ o. noted_by o l.me (floor l.me)) (sym there);
          calm = λ high. rests;
          err = λ g going step errand. absurd (cc (going, rests));
        } in
        subst (λ d. fixed.Held floor N In_tree l.me (work_at k d)) me held

  first : Holds t whole moment (length t.trace) floor N In_tree said_above hs1 f1
  first = record {
    nodes = λ n k up. (let fits = kept_alone notes.Nodes notes.notes_keep (so_far t hs1) (part_lawful t whole hs1 part1) n k up in record { there = fits.there; each = λ c l found in_it below. first_held n k up c l found in_it below });
    born = λ c in_it none. (let at = hold.spots t whole s v since c in_it in hold.is_born t whole hs1 part1 c at.live at.at none);
  }

  -- and at the end
  last : Holds t whole moment (length t.trace) floor N In_tree said_above t.trace (f_at t t.trace)
  last =
      let all : hs1 ++ drop moment t.trace ≡ t.trace = take_parts moment t.trace in
      let part : Part t whole (hs1 ++ drop moment t.trace) = record { rest = []; is = append-nil (hs1 ++ drop moment t.trace) ∙ all } in
      let size : length (hs1 ++ drop moment t.trace) ≡ length t.trace = ap length all in
      let long = long1 in
      let after = holds_at t whole moment (length t.trace) floor N In_tree said_above hs1 (drop moment t.trace) part (omega (arith, long), λ early. first) in
      subst (λ xs. Holds t whole moment (length t.trace) floor N In_tree said_above xs (f_at t xs)) all (after.1 (omega (arith, size)))

  pub held_still : (old : Seen) → seen_at (trail_upto t moment) b ≡ Some old → (l : Live) → live_in (facts_at t) b ≡ Some l → l.parent ≢ None → noted_in (facts_at t) b old.taken ≡ noted_in f1 b old.taken
  held_still old its l live below =
      let here : Part t whole t.trace = record { rest = []; is = append-nil t.trace } in
      let u = hold.up_of t whole t.trace here b l live in
      let in_it : In_tree l.me = subst In_tree (sym u.me) is in
      let held = (last.nodes b.node u.k u.up).each b l u.at in_it below in
      let taken : floor b ≡ old.taken = ap (λ q. if q then taken_of (seen_at (tr_at t hs1) b) else 0) is ∙ ap taken_of its in
      let it : notes_until (work_at u.k b).marks (floor b) ≡ N b = subst (λ c. notes_until (work_at u.k b).marks (floor c) ≡ N c) u.me held.notes in
      ap (λ o. noted_by o b old.taken) u.up ∙ subst (λ j. notes_until (work_at u.k b).marks j ≡ noted_in f1 b j) taken it
