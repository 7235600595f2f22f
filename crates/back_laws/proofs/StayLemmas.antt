-- What the branch history keeps of each branch from happening to happening: its runs have steps up to that of its last call, and those up to
-- a step stay until it goes back to a lower one.
use Rattle.std.proofs.Common.{◌≡◌, ◌≤◌, ◌+◌, ◌&&◌, ℕ, zero, suc, Bool, true, false, if◌then◌else◌, is_none, List, [], ◌∷◌, ◌++◌, length, take, drop, Option, Some, None, refl, sym, ap, subst, ◌∙◌, arith, append-nil, ◌<◌, ◌-◌, ◌||◌}
use Rattle.std.specs.List.{AllByRecursion}
use Rattle.tran_ids.proofs.ListedLemmas.{item_is}
use Rattle.node_rules.specs.Data.{BranchId, Input, Kind, Msg}
use Rattle.node_rules.specs.Data.inputs
use Rattle.node_rules.specs.Data.kinds
use Rattle.node_rules.specs.Words.{is_item_of, item_at}
use Rattle.node_rules.specs.Client.{new_root}
use Rattle.run_rules.specs.Branches.{Dropped, Seen, Trail, newly_seen, seen_id, seen_at, root_at, is_live_at}
use Rattle.run_rules.specs.Data.{Turn, Happening}
use Rattle.run_rules.specs.Data.happenings
use Rattle.run_rules.specs.Each.{AtEach}
use Rattle.run_rules.specs.Facts.{Facts, place_at, outcome_at}
use Rattle.run_rules.specs.Lawful.{MayHappen, History, IsLawfulRun}
use Rattle.run_rules.specs.Runs.{answered_by, begins_transaction}
use Rattle.run_rules.specs.Trail.{roots_begun, children_begun, child_begun, begun_in_turn, root_seen, next_root, strength_at, with_begun, back_in, step_back, stopped_by, trail_after, trail_of, taken_after}
use Rattle.run_rules.proofs.ListLemmas.{all_weaker, all_append, all_map}
use Rattle.run_base_laws.proofs.TurnEventLemmas.{all_both}
use Rattle.run_base_laws.proofs.OwnLemmas.{all_found}
use Rattle.tree_laws.proofs.PrefixLemmas.{f_at}
use Rattle.tree_laws.proofs.TimeLemmas.{Part, part_of, may_of, keep_on}
use Rattle.tree_trail_laws.specs.SeenLaws.{Sees, TracesOwns}
use Rattle.tree_trail_laws.proofs.MomentLemmas.{tr_at, trail_one_on, at_moment, by_moment}
use Rattle.tree_trail_laws.proofs.OwnTurnLemmas.{taken_grows}
use Rattle.tree_trail_laws.proofs.PlanLemmas.{find_more}
use Rattle.tree_trail_laws.proofs.SeenLemmas.{begun, brings, turned, seen_turned, item_mapped, stopped_me}
use Rattle.tree_trail_laws.proofs.SeenRunLemmas.{all_is_seen}
use Rattle.tree_trail_laws.proofs.TopBirthLemmas.{TurnBegins, None_begins, Root_begins, Child_begins, view, none_cut}
use Rattle.tree_trail_laws.proofs.TopFollowLemmas.{tops_at}
use Rattle.tree_trail_laws.proofs.TopListLemmas.{Alone, alone_more}
use Rattle.tree_trail_laws.proofs.TopSeesLemmas.{names_next}
use Rattle.tree_trail_laws.proofs.TopTurnLemmas.{Tops, seen_roots}
use Rattle.answer_origin_laws.proofs.ReplyStandLemmas.{prefix, happens_at}
use Rattle.back_laws.specs.BackLaws.{runs_until, goes_back_to, StaysAbove, RunsStay}
use Rattle.back_laws.proofs.StepLemmas.{NotBelow, InSteps, run_rises, until_stays, in_steps_after, until_all}

-- ---- lists

pub length_last : {A : Type 0} (xs : List A) (y : A) → length (xs ++ y ∷ []) ≡ length xs + 1
length_last [] y = refl
length_last (x ∷ xs) y = (let rest = length_last xs y in omega (arith, rest))

pub not_left : (a c : Bool) → (a || c) ≡ false → a ≡ false
not_left true c is = absurd cc
not_left false c is = refl

-- ---- the branches that begin

-- one that has just begun has run nothing, and has no savepoint
abbrev pub IsNew : Seen → Type 0
IsNew s = (s.runs ≡ []) × (s.savepoints ≡ [])

module _ (f : Facts) (tr : Trail) where
  new_roots : (n : ℕ) (input : Input) → AllByRecursion IsNew (roots_begun f tr n input)
  new_roots n (inputs.Call session (Some s)) = by (begins_transaction s && is_none (root_at tr n session))
    where
      by : (q : Bool) → AllByRecursion IsNew (if q then root_seen f n s (next_root f tr n session) ∷ [] else [])
      by true = ((refl, refl), tt)
      by false = tt
  new_roots n _ = tt

  new_child : (came kind : Kind) (m : Msg) → AllByRecursion IsNew (child_begun f tr came kind m)
  new_child (kinds.Open edge root depth read_at) (kinds.Opened number strength) m = by (seen_at tr m.from)
    where
      by : (o : Option Seen) → AllByRecursion IsNew (if is_none o then newly_seen m.from root (Some m.to) (strength_at f m.from.node) read_at ∷ [] else [])
      by None = ((refl, refl), tt)
      by (Some s) = tt
  new_child (kinds.Open edge root depth read_at) _ m = tt
  new_child _ kind m = tt

  new_children : (input : Input) (ms : List Msg) → AllByRecursion IsNew (children_begun f tr input ms)
  new_children (inputs.Message came) (m ∷ ms) = new_child came.kind m.kind m
  new_children (inputs.Message came) [] = tt
  new_children _ ms = tt

  pub new_begun : (u : Turn) → AllByRecursion IsNew (begun_in_turn f tr u)
  new_begun u = by u.cut
    where
      by : (cut : Bool) → AllByRecursion IsNew (if cut then [] else roots_begun f tr u.node u.input ++ children_begun f tr u.input u.sent)
      by true = tt
      by false = all_append IsNew (roots_begun f tr u.node u.input) (children_begun f tr u.input u.sent) (new_roots u.node u.input) (new_children u.input u.sent)

-- a happening other than a turn
abbrev pub IsNoTurn : Happening → Type 0
IsNoTurn (happenings.Turn u) = ⊥
IsNoTurn _ = Unit {0}

module _ (t : History) (whole : IsLawfulRun t) where
  owns : AtEach (λ places f tr h. TracesOwns f tr) t
  owns = by_moment t (λ places f tr h. TracesOwns f tr) (λ hs h rest is. (at_moment t (λ places f tr x. Sees f tr) (all_is_seen t whole) hs h rest is).owns)

  pub tops : (hs : List Happening) → Part t whole hs → Tops t whole hs
  tops hs part = (tops_at t whole owns hs part).1

  -- each branch is told once in a turn too, with the one that begins
  module _ (hs : List Happening) (u : Turn) (rest : List Happening) (is : hs ++ happenings.Turn u ∷ rest ≡ t.trace) where
    abbrev part : Part t whole hs
    part = part_of t whole hs (happenings.Turn u) rest is

    abbrev now : Tops t whole hs
    now = tops hs (part_of t whole hs (happenings.Turn u) rest is)

    abbrev may : MayHappen t.places t.commands (f_at t hs) (happenings.Turn u)
    may = may_of t whole hs (happenings.Turn u) rest is

    abbrev Begins : List Seen → Type 0
    Begins ys = TurnBegins t whole hs u rest is (seen_roots t whole hs (part_of t whole hs (happenings.Turn u) rest is) now) now.counts now.born ys

    alone_with : (ys : List Seen) → Begins ys → Alone ((tr_at t hs).seen ++ ys)
    alone_with ys (None_begins nobody are) = subst Alone (sym (ap (λ zs. (tr_at t hs).seen ++ zs) are ∙ append-nil (tr_at t hs).seen)) now.alone
    alone_with ys (Root_begins n s call rows range none are) =
        subst (λ zs. Alone ((tr_at t hs).seen ++ zs)) (sym are)
        (alone_more (tr_at t hs).seen (root_seen (f_at t hs) u.node s (new_root (place_at t.places u.node) may.0 n)) now.alone (names_next t whole hs part now.counts now.ordered u.node may.0 may.1.up n range none).1)
    alone_with ys (Child_begins y nobody its below live new are) = subst (λ zs. Alone ((tr_at t hs).seen ++ zs)) (sym are) (alone_more (tr_at t hs).seen y now.alone new)

    pub alone_begun : Alone (begun t.places (f_at t hs) (tr_at t hs) u).seen
    alone_begun = by u.cut refl
      where
        by : (cut : Bool) → u.cut ≡ cut → Alone ((tr_at t hs).seen ++ begun_in_turn (f_at t hs) (tr_at t hs) u)
        by true cut =
            subst Alone (sym (ap (λ zs. (tr_at t hs).seen ++ zs) (none_cut t whole hs u rest is (seen_roots t whole hs part now) now.counts now.born cut) ∙ append-nil (tr_at t hs).seen)) now.alone
        by false cut = alone_with (begun_in_turn (f_at t hs) (tr_at t hs) u) (view t whole hs u rest is (seen_roots t whole hs part now) now.counts now.born cut)

  -- ---- what each happening keeps of each branch

  module _ (P : List Happening → Seen → Type 0) (starts : (hs : List Happening) (s : Seen) → IsNew s → P hs s)
      (turns : (hs : List Happening) (u : Turn) (rest : List Happening) → hs ++ happenings.Turn u ∷ rest ≡ t.trace → (s : Seen) → seen_at (begun t.places (f_at t hs) (tr_at t hs) u) s.me ≡ Some s → P hs s
      → P (hs ++ happenings.Turn u ∷ []) (turned t.places (f_at t hs) (tr_at t hs) u s))
      (stops : (hs : List Happening) (n : ℕ) (s : Seen) → P hs s → P (hs ++ happenings.Stopped n ∷ []) (stopped_by n s))
      (stays : (hs : List Happening) (h : Happening) → IsNoTurn h → (s : Seen) → P hs s → P (hs ++ h ∷ []) s) where
    abbrev AllSeen : List Happening → Type 0
    AllSeen hs = AllByRecursion (P hs) (tr_at t hs).seen

    after : (hs : List Happening) (h : Happening) → AllByRecursion (P (hs ++ h ∷ [])) (trail_after t.places (f_at t hs) (tr_at t hs) h).seen → AllSeen (hs ++ h ∷ [])
    after hs h all = subst (λ (tr : Trail). AllByRecursion (P (hs ++ h ∷ [])) tr.seen) (sym (trail_one_on t hs h)) all

    same_seen : (hs : List Happening) (h : Happening) → IsNoTurn h → AllSeen hs → AllByRecursion (P (hs ++ h ∷ [])) (tr_at t hs).seen
    same_seen hs h none now = all_weaker (P hs) (P (hs ++ h ∷ [])) (λ s so. stays hs h none s so) (tr_at t hs).seen now

    seen_on : (hs : List Happening) (h : Happening) (rest : List Happening) → hs ++ h ∷ rest ≡ t.trace → AllSeen hs → AllSeen (hs ++ h ∷ [])
    unfolding trail_after
    seen_on hs (happenings.Turn u) rest is now =
        let xs : List Seen = (begun t.places (f_at t hs) (tr_at t hs) u).seen in
        let old : AllByRecursion (P hs) xs
        = all_append (P hs) (tr_at t hs).seen (begun_in_turn (f_at t hs) (tr_at t hs) u) now (all_weaker IsNew (P hs) (λ s new. starts hs s new) (begun_in_turn (f_at t hs) (tr_at t hs) u) (new_begun (f_at t hs) (tr_at t hs) u)) in
        after hs (happenings.Turn u)
        (all_map (P (hs ++ happenings.Turn u ∷ [])) (turned t.places (f_at t hs) (tr_at t hs) u) xs
        (all_weaker (λ s. P hs s × (seen_at (begun t.places (f_at t hs) (tr_at t hs) u) s.me ≡ Some s)) (λ s. P (hs ++ happenings.Turn u ∷ []) (turned t.places (f_at t hs) (tr_at t hs) u s))
        (λ s both. turns hs u rest is s both.1 both.0) xs (all_both (P hs) (λ s. seen_at (begun t.places (f_at t hs) (tr_at t hs) u) s.me ≡ Some s) xs old (alone_begun hs u rest is))))
    seen_on hs (happenings.Stopped n) rest is now =
        after hs (happenings.Stopped n)
        (all_map (P (hs ++ happenings.Stopped n ∷ [])) (stopped_by n) (tr_at t hs).seen
        (all_weaker (P hs) (λ s. P (hs ++ happenings.Stopped n ∷ []) (stopped_by n s)) (λ s so. stops hs n s so) (tr_at t hs).seen now))
    seen_on hs (happenings.Started n boot) rest is now = after hs (happenings.Started n boot) (same_seen hs (happenings.Started n boot) tt now)
    seen_on hs (happenings.Begun c) rest is now = after hs (happenings.Begun c) (same_seen hs (happenings.Begun c) tt now)
    seen_on hs (happenings.Cut x y) rest is now = after hs (happenings.Cut x y) (same_seen hs (happenings.Cut x y) tt now)
    seen_on hs (happenings.Join x y) rest is now = after hs (happenings.Join x y) (same_seen hs (happenings.Join x y) tt now)
    seen_on hs (happenings.Lost k) rest is now = after hs (happenings.Lost k) (same_seen hs (happenings.Lost k) tt now)

    pub all_seen : (hs : List Happening) → Part t whole hs → AllByRecursion (P hs) (tr_at t hs).seen
    unfolding trail_of
    all_seen hs first = keep_on t whole AllSeen seen_on [] hs first tt

  -- ---- steps

  stopped_steps : (n : ℕ) (s : Seen) → InSteps s.taken s.runs → InSteps (stopped_by n s).taken (stopped_by n s).runs
  stopped_steps n s so = by (is_live_at n s)
    where
      by : (q : Bool) → InSteps (if q then record s { exit = Some Dropped } else s).taken (if q then record s { exit = Some Dropped } else s).runs
      by true = so
      by false = so

  pub in_steps : (hs : List Happening) → Part t whole hs → AllByRecursion (λ s. InSteps s.taken s.runs) (tr_at t hs).seen
  in_steps =
      all_seen (λ hs s. InSteps s.taken s.runs) (λ hs s new. subst (InSteps s.taken) (sym new.0) tt)
      (λ hs u rest is s at so.
      in_steps_after (f_at t hs).book s so _ (taken_after u.node s u.input) _ _ (taken_grows u.node s u.input)
      (run_rises (f_at t hs) (begun t.places (f_at t hs) (tr_at t hs) u) u (alone_begun hs u rest is) s at (answered_by (outcome_at t.places (f_at t hs) u))))
      (λ hs n s so. stopped_steps n s so) (λ hs h none s so. so)

  -- ---- the runs up to a step stay

  -- the step that a branch goes back to in a turn
  pub back_is : (hs : List Happening) (u : Turn) (rest : List Happening) → hs ++ happenings.Turn u ∷ rest ≡ t.trace → (b : BranchId) → goes_back_to t (length hs) u b ≡ step_back b (brings t.places (f_at t hs) (tr_at t hs) u).back
  back_is hs u rest is b = ap (λ xs. step_back b (back_in (with_begun (f_at t xs) (tr_at t xs) u) u (answered_by (outcome_at t.places (f_at t xs) u)))) (prefix t hs (happenings.Turn u) rest is)

  module _ (moment now : ℕ) (b : BranchId) (old : Seen) (above : StaysAbove t moment now b old.taken) where
    -- what is kept of the branch
    pub record Stays (tr : Trail) : Type 0 where
      pub seen : Seen
      pub at : seen_at tr b ≡ Some seen
      pub low : old.taken ≤ seen.taken
      pub runs : runs_until old.taken seen.runs ≡ old.runs
      pub collects : seen.collects ≡ false → old.collects ≡ false

    abbrev StaysFrom : List Happening → Type 0
    StaysFrom hs = (moment ≤ length hs) × (length hs ≤ now → Stays (tr_at t hs))

    not_below : (hs : List Happening) (u : Turn) (rest : List Happening) → hs ++ happenings.Turn u ∷ rest ≡ t.trace → moment ≤ length hs → length hs < now → (s : Seen) → s.me ≡ b
        → NotBelow old.taken (step_back s.me (brings t.places (f_at t hs) (tr_at t hs) u).back)
    not_below hs u rest is late soon s me = by (step_back s.me (brings t.places (f_at t hs) (tr_at t hs) u).back) refl
      where
        by : (o : Option ℕ) → step_back s.me (brings t.places (f_at t hs) (tr_at t hs) u).back ≡ o → NotBelow old.taken o
        by None none = tt
        by (Some k) goes = above (length hs) u late soon (happens_at t hs (happenings.Turn u) rest is) k (back_is hs u rest is b ∙ (ap (λ c. step_back c (brings t.places (f_at t hs) (tr_at t hs) u).back) (sym me) ∙ goes))

    turn_stays : (hs : List Happening) (u : Turn) (rest : List Happening) → hs ++ happenings.Turn u ∷ rest ≡ t.trace → moment ≤ length hs → length hs < now → Stays (tr_at t hs)
        → Stays (trail_after t.places (f_at t hs) (tr_at t hs) (happenings.Turn u))
    turn_stays hs u rest is late soon it =
        let s : Seen = it.seen in
        let me : s.me ≡ b = item_is seen_id (tr_at t hs).seen b s it.at in
        let there : seen_at (begun t.places (f_at t hs) (tr_at t hs) u) s.me ≡ Some s
        = subst (λ c. seen_at (begun t.places (f_at t hs) (tr_at t hs) u) c ≡ Some s) (sym me) (find_more (is_item_of seen_id b) (tr_at t hs).seen (begun_in_turn (f_at t hs) (tr_at t hs) u) s it.at) in
        let grows = taken_grows u.node s u.input in
        let low = it.low in
        record {
          seen = turned t.places (f_at t hs) (tr_at t hs) u s;
          at = seen_turned t.places (f_at t hs) (tr_at t hs) u b s it.at;
          low = omega (arith, grows, low);
          runs =
              until_stays (f_at t hs).book s old.taken it.low _ (taken_after u.node s u.input) _ _
              (run_rises (f_at t hs) (begun t.places (f_at t hs) (tr_at t hs) u) u (alone_begun hs u rest is) s there (answered_by (outcome_at t.places (f_at t hs) u))) (not_below hs u rest is late soon s me)
              ∙ it.runs;
          collects = λ q. it.collects (not_left s.collects _ q);
        }

    stop_stays : (hs : List Happening) (n : ℕ) (it : Stays (tr_at t hs)) → (tr : Trail) → seen_at tr b ≡ Some (stopped_by n it.seen) → Stays tr
    stop_stays hs n it tr at = by (is_live_at n it.seen) at
      where
        by : (q : Bool) → seen_at tr b ≡ Some (if q then record it.seen { exit = Some Dropped } else it.seen) → Stays tr
        by true at = record { seen = record it.seen { exit = Some Dropped }; at = at; low = it.low; runs = it.runs; collects = it.collects }
        by false at = record { seen = it.seen; at = at; low = it.low; runs = it.runs; collects = it.collects }

    same_stays : (hs : List Happening) → Stays (tr_at t hs) → (tr : Trail) → tr.seen ≡ (tr_at t hs).seen → Stays tr
    same_stays hs it tr same = record { seen = it.seen; at = ap (λ xs. item_at seen_id xs b) same ∙ it.at; low = it.low; runs = it.runs; collects = it.collects }

    happens_stays : (hs : List Happening) (h : Happening) (rest : List Happening) → hs ++ h ∷ rest ≡ t.trace → moment ≤ length hs → length hs < now → Stays (tr_at t hs) → Stays (trail_after t.places (f_at t hs) (tr_at t hs) h)
    unfolding trail_after
    happens_stays hs (happenings.Turn u) rest is late soon it = turn_stays hs u rest is late soon it
    happens_stays hs (happenings.Stopped n) rest is late soon it = stop_stays hs n it _ (item_mapped seen_id (stopped_by n) (stopped_me n) (tr_at t hs).seen b it.seen it.at)
    happens_stays hs (happenings.Started n boot) rest is late soon it = same_stays hs it _ refl
    happens_stays hs (happenings.Begun c) rest is late soon it = same_stays hs it _ refl
    happens_stays hs (happenings.Cut x y) rest is late soon it = same_stays hs it _ refl
    happens_stays hs (happenings.Join x y) rest is late soon it = same_stays hs it _ refl
    happens_stays hs (happenings.Lost k) rest is late soon it = same_stays hs it _ refl

    stays_on : (hs : List Happening) (h : Happening) (rest : List Happening) → hs ++ h ∷ rest ≡ t.trace → StaysFrom hs → StaysFrom (hs ++ h ∷ [])
    stays_on hs h rest is from =
        let late = from.0 in
        let more = length_last hs h in (
          omega (arith, late, more),
          λ low. subst Stays (sym (trail_one_on t hs h)) (happens_stays hs h rest is from.0 (omega (arith, low, more)) (from.1 (omega (arith, low, more)))),
        )

    pub stays_at : (hs mid : List Happening) → Part t whole (hs ++ mid) → StaysFrom hs → StaysFrom (hs ++ mid)
    stays_at hs mid part from = keep_on t whole StaysFrom stays_on hs mid part from

-- ---- the law

pub take_parts : {A : Type 0} (m : ℕ) (xs : List A) → take m xs ++ drop m xs ≡ xs
take_parts zero xs = refl
take_parts (suc m) [] = refl
take_parts (suc m) (x ∷ xs) = ap (λ zs. x ∷ zs) (take_parts m xs)

taken_none : {A : Type 0} (k : ℕ) → take {A = A} k [] ≡ []
taken_none zero = refl
taken_none (suc k) = refl

-- what comes between two moments
pub between : {A : Type 0} (m n : ℕ) (xs : List A) → m ≤ n → take m xs ++ take (n - m) (drop m xs) ≡ take n xs
between zero n xs low = ap (λ k. take k xs) (let same : n - zero ≡ n = omega arith in same)
between (suc m) zero xs low = absurd (omega (arith, low))
between (suc m) (suc n) [] low = taken_none (suc n - suc m)
between (suc m) (suc n) (x ∷ xs) low = let same : suc n - suc m ≡ n - m = omega arith in ap (λ k. x ∷ (take m xs ++ take k (drop m xs))) same ∙ ap (λ zs. x ∷ zs) (between m n xs (omega (arith, low)))

pub take_length : {A : Type 0} (m : ℕ) (xs : List A) → m ≤ length xs → length (take m xs) ≡ m
take_length zero xs low = refl
take_length (suc m) [] low = absurd (omega (arith, low))
take_length (suc m) (x ∷ xs) low = let rest = take_length m xs (omega (arith, low)) in omega (arith, rest)

pub stays_upto : (t : History) (whole : IsLawfulRun t) (moment now : ℕ) → moment ≤ now → now ≤ length t.trace → (b : BranchId) (old : Seen) → seen_at (tr_at t (take moment t.trace)) b ≡ Some old → (above : StaysAbove t moment now b old.taken)
    → Stays t whole moment now b old above (tr_at t (take now t.trace))
stays_upto t whole moment now low end b old at above =
    let hs : List Happening = take moment t.trace in
    let mid : List Happening = take (now - moment) (drop moment t.trace) in
    let all : hs ++ mid ≡ take now t.trace = between moment now t.trace low in
    let part : Part t whole (hs ++ mid) = record { rest = drop now t.trace; is = ap (λ xs. xs ++ drop now t.trace) all ∙ take_parts now t.trace } in
    let steps = all_found (λ (s : Seen). InSteps s.taken s.runs) seen_id (tr_at t hs).seen b old (in_steps t whole hs (record { rest = drop moment t.trace; is = take_parts moment t.trace })) at in
    let long : length hs ≡ moment = take_length moment t.trace (omega (arith, low, end)) in
    let size : length (hs ++ mid) ≡ now = ap length all ∙ take_length now t.trace end in
    let after = stays_at t whole moment now b old above hs mid part (omega (arith, long), (λ early. record { seen = old; at = at; low = omega arith; runs = until_all old.taken old.runs steps; collects = λ q. q })) in
    subst (λ xs. Stays t whole moment now b old above (tr_at t xs)) all (after.1 (omega (arith, size)))

pub runs_stay : RunsStay
runs_stay t whole moment now low end b old at above = let it = stays_upto t whole moment now low end b old at above in (it.seen, it.at, it.low, it.runs)
