-- Where floors hold no branch is taken back below its own.
use Rattle.std.proofs.Common.{◌≡◌, ◌≤◌, ◌<◌, ◌-◌, ◌⊎◌, ◌&&◌, ℕ, Bool, true, false, if◌then◌else◌, List, [], ◌∷◌, ◌++◌, nat_lt, take, drop, find, Option, Some, None, inl, inr, refl, sym, ap, subst, ◌∙◌, arith, append-nil}
use Rattle.std.specs.List.{AllByRecursion}
use Rattle.std.proofs.lemmas.Bool.{and_parts}
use Rattle.std.proofs.lemmas.Bool.Decides.{nat_tests}
use Rattle.tran_ids.proofs.BranchLemmas.{equal_from_same}
use Rattle.tran_ids.proofs.ListedLemmas.{item_is}
use Rattle.node_rules.specs.Data.{BranchId, Input, Kind, Live, Msg}
use Rattle.node_rules.specs.Data.inputs
use Rattle.node_rules.specs.Data.kinds
use Rattle.node_rules.specs.Data.stmts
use Rattle.node_rules.specs.Data.tasks
use Rattle.node_rules.specs.NodeState.{NodeState, live_id}
use Rattle.node_rules.specs.Sessions.{session_at}
use Rattle.node_rules.specs.Words.{is_item_of, same}
use Rattle.run_rules.specs.Births.{births_of, born_at}
use Rattle.run_rules.specs.Branches.{Dropped, Seen, Trail, seen_id, seen_at, root_at, is_root_of, is_live, is_live_at}
use Rattle.run_rules.specs.Data.{Turn, Happening}
use Rattle.run_rules.specs.Data.happenings
use Rattle.run_rules.specs.Each.{facts_upto}
use Rattle.run_rules.specs.Facts.{Facts, node_at, outcome_at}
use Rattle.run_rules.specs.Lawful.{History, IsLawfulRun}
use Rattle.run_rules.specs.Runs.{answered_by, back_branch, back_by, back_of, back_root, goes_back, is_refused, step_of_savepoint}
use Rattle.run_rules.specs.Trail.{back_in, begun_in_turn, children_begun, roots_begun, step_back, stopped_by, trail_after, with_begun}
use Rattle.run_base_laws.specs.BirthLaws.{Began, LiveIs}
use Rattle.run_base_laws.specs.InTurnLaws.{said_in}
use Rattle.run_base_laws.proofs.BirthRunLemmas.{nodes_name_the_born}
use Rattle.run_base_laws.proofs.BirthsStandLemmas.{came_so}
use Rattle.run_base_laws.proofs.OwnLemmas.{all_found}
use Rattle.run_base_laws.proofs.RootLemmas.{roots_are_of_sessions}
use Rattle.tree_laws.proofs.PrefixLemmas.{so_far, f_at}
use Rattle.tree_laws.proofs.TimeLemmas.{Part, part_of, part_lawful, may_of, keep_on, born_end}
use Rattle.tree_trail_laws.specs.SeenLaws.{IsSeenRoot}
use Rattle.tree_trail_laws.proofs.CallLemmas.{call_free}
use Rattle.tree_trail_laws.proofs.MomentLemmas.{tr_at, trail_one_on}
use Rattle.tree_trail_laws.proofs.OwnTurnLemmas.{taken_grows}
use Rattle.tree_trail_laws.proofs.PlanLemmas.{find_more}
use Rattle.tree_trail_laws.proofs.SeenLemmas.{item_mapped, seen_turned, stopped_me, turned}
use Rattle.tree_trail_laws.proofs.TopTurnLemmas.{seen_roots}
use Rattle.back_laws.specs.Floors.{parent_then, parent_in, BackAbove, FloorsStand, BranchesStayAbove}
use Rattle.back_laws.proofs.FloorLemmas.{floors_hold, unmapped}
use Rattle.back_laws.proofs.SavepointLemmas.{parted}
use Rattle.back_laws.proofs.StayLemmas.{between, take_parts, tops}

below : (a c : ℕ) → nat_lt a c ≡ true → a < c
below a c less = grind (arith, nat_tests, less)

module _ (t : History) (whole : IsLawfulRun t) where
  -- ---- the calls that a branch took only rise

  module _ (b : BranchId) (least : ℕ) where
    abbrev HasTaken : Trail → Type 0
    HasTaken tr = (s : Seen) × (seen_at tr b ≡ Some s) × (least ≤ s.taken)

    stopped_taken : (n : ℕ) (s : Seen) → least ≤ s.taken → least ≤ (stopped_by n s).taken
    stopped_taken n s low = by (is_live_at n s)
      where
        by : (q : Bool) → least ≤ (if q then record s { exit = Some Dropped } else s).taken
        by true = low
        by false = low

    taken_after_one : (hs : List Happening) (h : Happening) → HasTaken (tr_at t hs) → HasTaken (trail_after t.places (f_at t hs) (tr_at t hs) h)
    unfolding trail_after
    taken_after_one hs (happenings.Turn u) it = (let grows = taken_grows u.node it.0 u.input in let low = it.2 in (turned t.places (f_at t hs) (tr_at t hs) u it.0, seen_turned t.places (f_at t hs) (tr_at t hs) u b it.0 it.1, omega (arith, grows, low)))
    taken_after_one hs (happenings.Stopped n) it = (stopped_by n it.0, item_mapped seen_id (stopped_by n) (stopped_me n) (tr_at t hs).seen b it.0 it.1, stopped_taken n it.0 it.2)
    taken_after_one hs (happenings.Started n boot) it = it
    taken_after_one hs (happenings.Begun c) it = it
    taken_after_one hs (happenings.Cut x y) it = it
    taken_after_one hs (happenings.Join x y) it = it
    taken_after_one hs (happenings.Lost k) it = it

    taken_later : (hs mid : List Happening) → Part t whole (hs ++ mid) → HasTaken (tr_at t hs) → HasTaken (tr_at t (hs ++ mid))
    taken_later hs mid part it = keep_on t whole (λ xs. HasTaken (tr_at t xs)) (λ xs h rest is now. subst HasTaken (sym (trail_one_on t xs h)) (taken_after_one xs h now)) hs mid part it

  -- ---- a turn

  module _ (hs : List Happening) (u : Turn) (rest : List Happening) (is : hs ++ happenings.Turn u ∷ rest ≡ t.trace) (floor : BranchId → ℕ) (said : AllByRecursion (λ m. BackAbove floor m.to m.kind) (said_in (f_at t hs)))
      (b : BranchId) (taken : (floor b ≡ 0) ⊎ HasTaken b (floor b) (tr_at t hs)) where
    abbrev part : Part t whole hs
    part = part_of t whole hs (happenings.Turn u) rest is

    abbrev f : Facts
    f = f_at t hs

    abbrev trb : Trail
    trb = with_begun f (tr_at t hs) u

    -- a BACK that came does not go below
    by_message : (m : Msg) → u.input ≡ inputs.Message m → (k : ℕ) → step_back b (back_by trb m.to m.kind) ≡ Some k → floor b ≤ k
    by_message m came k goes = elim taken [
      | inl none ↦ subst (λ n. n ≤ k) (sym none) (omega arith)
      | inr has ↦ by m.kind refl has goes
    ]
      where
        seen_by : (call keep : ℕ) → m.kind ≡ kinds.Exec call (tasks.GoBack keep) → HasTaken b (floor b) (tr_at t hs) → (o : Option Seen) → seen_at trb m.to ≡ o → step_back b (back_branch call keep o) ≡ Some k → floor b ≤ k
        seen_by call keep kind has None at goes = absurd cc
        seen_by call keep kind has (Some s) at goes = new (is_live s && nat_lt s.taken call) refl goes
          where
            new : (q : Bool) → (is_live s && nat_lt s.taken call) ≡ q → step_back b (if q then back_of s.me (Some keep) else None) ≡ Some k → floor b ≤ k
            new false comes goes = absurd cc
            new true comes goes = mine (same s.me b) refl goes
              where
                mine : (q : Bool) → same s.me b ≡ q → (if q then Some keep else None) ≡ Some k → floor b ≤ k
                mine false other goes = absurd cc
                mine true is_me goes =
                    let it : Some keep ≡ Some k = goes in
                    let one : keep ≡ k = cc in
                    let me : s.me ≡ b = equal_from_same s.me b is_me in
                    let to : s.me ≡ m.to = item_is seen_id trb.seen m.to s at in
                    let begun_at : seen_at trb b ≡ Some has.0 = find_more (is_item_of seen_id b) (tr_at t hs).seen (begun_in_turn f (tr_at t hs) u) has.0 has.1 in
                    let both : Some s ≡ Some has.0 = sym at ∙ (ap (seen_at trb) (sym to ∙ me) ∙ begun_at) in
                    let same_one : s ≡ has.0 = cc in
                    let low : floor b ≤ s.taken = subst (λ (y : Seen). floor b ≤ y.taken) (sym same_one) has.2 in
                    let less : s.taken < call = below s.taken call (and_parts (is_live s) (nat_lt s.taken call) comes).1 in
                    let may = may_of t whole hs (happenings.Turn u) rest is in
                    let above : BackAbove floor m.to m.kind = came_so (λ x y kind. BackAbove floor y kind) f (unmapped (λ p. BackAbove floor p.to p.kind) f.net.packets said) may.0 u.node u.input u.took may.1.comes m.from m.to m.kind
                    (record { scn = m.scn; is = came }) in
                    let its : floor m.to < call → floor m.to ≤ keep = subst (BackAbove floor m.to) kind above in
                    let here : m.to ≡ b = sym to ∙ me in
                    subst (λ n. floor b ≤ n) one (subst (λ c. floor c < call → floor c ≤ keep) here its (omega (arith, low, less)))

        by : (kind : Kind) → m.kind ≡ kind → HasTaken b (floor b) (tr_at t hs) → step_back b (back_by trb m.to kind) ≡ Some k → floor b ≤ k
        by (kinds.Exec call (tasks.GoBack keep)) kind has goes = seen_by call keep kind has (seen_at trb m.to) refl goes
        by (kinds.Exec call (tasks.Run given advice s)) kind has goes = absurd cc
        by _ kind has goes = absurd cc

    -- a root that goes back is a root of the run
    by_root : (session : ℕ) (name : List ℕ) → u.input ≡ inputs.Call session (Some (stmts.RollbackTo name)) → (k : ℕ) → (q : Bool) → step_back b (if q then None else back_root name (root_at trb u.node session)) ≡ Some k → parent_in t b ≡ None
    by_root session name came k true goes = absurd cc
    by_root session name came k false goes = at (root_at (tr_at t hs) u.node session) refl (subst (λ o. step_back b (back_root name o) ≡ Some k) same_root goes)
      where
        nothing : (cut : Bool) → (if cut then [] else roots_begun f (tr_at t hs) u.node (inputs.Call session (Some (stmts.RollbackTo name))) ++ children_begun f (tr_at t hs) (inputs.Call session (Some (stmts.RollbackTo name))) u.sent) ≡ []
        nothing true = refl
        nothing false = refl

        none_begins : begun_in_turn f (tr_at t hs) u ≡ []
        none_begins = ap (λ i. if u.cut then [] else roots_begun f (tr_at t hs) u.node i ++ children_begun f (tr_at t hs) i u.sent) came ∙ nothing u.cut

        same_root : root_at trb u.node session ≡ root_at (tr_at t hs) u.node session
        same_root = ap (λ ys. find (is_root_of u.node session) ((tr_at t hs).seen ++ ys)) none_begins ∙ ap (find (is_root_of u.node session)) (append-nil (tr_at t hs).seen)

        by_sees : (j : NodeState) → node_at f u.node ≡ Some j → (s : Seen) (o : Option Seen) → o ≡ Some s → (r : Option BranchId) → (session_at j.sessions session).root ≡ r → IsSeenRoot (tr_at t hs) j o r → parent_in t s.me ≡ None
        by_sees j up s None is r has sees = absurd cc
        by_sees j up s (Some x) is None has sees = absurd sees
        by_sees j up s (Some x) is (Some c) has sees =
            let it : Some x ≡ Some s = is in
            let one : x ≡ s = cc in
            let l : Live = sees.1.0 in
            let me : x.me ≡ c = item_is seen_id (tr_at t hs).seen c x sees.0 in
            let l_me : l.me ≡ c = item_is live_id j.lives c l sees.1.1 in
            let top : l.parent ≡ None = (roots_are_of_sessions (so_far t hs) (part_lawful t whole hs part) u.node j up session c has).1 l sees.1.1 in
            let born : LiveIs (Began (births_of (so_far t hs))) l = all_found (LiveIs (Began (births_of (so_far t hs)))) live_id j.lives c l (nodes_name_the_born (so_far t hs) (part_lawful t whole hs part) u.node j up).0 sees.1.1 in
            let there : parent_in t c ≡ None = ap parent_then (subst (λ a. born_at (births_of t) a ≡ Some born.born) (born.is_me ∙ l_me) (born_end t whole hs part born.born born.began)) ∙ (born.is_parent ∙ top) in
            subst (λ a. parent_in t a ≡ None) (sym me ∙ ap (λ (y : Seen). y.me) one) there

        rootless : (s : Seen) → root_at (tr_at t hs) u.node session ≡ Some s → parent_in t s.me ≡ None
        rootless s is_root =
            let may = may_of t whole hs (happenings.Turn u) rest is in
            let free = call_free f may.0 u.node u.input u.took session (Some (stmts.RollbackTo name)) came may.1.comes in
            by_sees may.0 may.1.up s (root_at (tr_at t hs) u.node session) is_root (session_at may.0.sessions session).root refl (seen_roots t whole hs part (tops t whole hs part) u.node may.0 may.1.up session free.0 free.1)

        at : (o : Option Seen) → root_at (tr_at t hs) u.node session ≡ o → step_back b (back_root name o) ≡ Some k → parent_in t b ≡ None
        at None is_root goes = absurd cc
        at (Some s) is_root goes = its (step_of_savepoint name s.savepoints) goes
          where
            mine : (q : Bool) → same s.me b ≡ q → (j : ℕ) → (if q then Some j else None) ≡ Some k → parent_in t b ≡ None
            mine false other j goes = absurd cc
            mine true is_me j goes = subst (λ c. parent_in t c ≡ None) (equal_from_same s.me b is_me) (rootless s is_root)

            its : (o : Option ℕ) → step_back b (back_of s.me o) ≡ Some k → parent_in t b ≡ None
            its None goes = absurd cc
            its (Some j) goes = mine (same s.me b) refl j goes

    no_message : (input : Input) → u.input ≡ input → (k : ℕ) → step_back b (goes_back trb u.node (answered_by (outcome_at t.places f u)) input) ≡ Some k → (parent_in t b ≡ None) ⊎ (floor b ≤ k)
    no_message (inputs.Message m) came k goes = inr (by_message m came k goes)
    no_message (inputs.Call session (Some (stmts.RollbackTo name))) came k goes = inl (by_root session name came k (is_refused (answered_by (outcome_at t.places f u))) goes)
    no_message _ came k goes = absurd cc

    pub root_or_above : (k : ℕ) → step_back b (back_in trb u (answered_by (outcome_at t.places f u))) ≡ Some k → (parent_in t b ≡ None) ⊎ (floor b ≤ k)
    root_or_above k goes = by u.cut goes
      where
        by : (cut : Bool) → step_back b (if cut then None else goes_back trb u.node (answered_by (outcome_at t.places f u)) u.input) ≡ Some k → (parent_in t b ≡ None) ⊎ (floor b ≤ k)
        by true goes = absurd cc
        by false goes = no_message u.input refl k goes

pub branches_stay_above : BranchesStayAbove
branches_stay_above t whole moment now low end floor fresh stands taken above b i u late soon there k goes =
    let cut_there = parted t.trace i (happenings.Turn u) there in
    let hs : List Happening = take i t.trace in
    let before : FloorsStand t floor (facts_upto t i) = floors_hold t whole moment i late (omega (arith, soon, end)) floor fresh stands (λ c root j v from upto. above c root j v from (omega (arith, upto, soon))) in
    let all : take moment t.trace ++ take (i - moment) (drop moment t.trace) ≡ hs = between moment i t.trace late in
    let part : Part t whole (take moment t.trace ++ take (i - moment) (drop moment t.trace)) = record { rest = drop i t.trace; is = ap (λ xs. xs ++ drop i t.trace) all ∙ take_parts i t.trace } in
    let has : (floor b ≡ 0) ⊎ HasTaken t whole b (floor b) (tr_at t hs) = elim (taken b) [
      | inl none ↦ inl none
      | inr old ↦ inr (subst (λ xs. HasTaken t whole b (floor b) (tr_at t xs)) all (taken_later t whole b (floor b) (take moment t.trace) (take (i - moment) (drop moment t.trace)) part old))
    ] in
    elim (root_or_above t whole hs u cut_there.0 cut_there.1 floor before.said b has k goes) [
      | inl root ↦ above b root i u late soon there k goes
      | inr higher ↦ higher
    ]
