-- The branches that begin in a turn: what begins them, that they are live once it is over, and that it then writes no record.
-- A branch that was live and is no more has an exit.
use Rattle.std.proofs.Common.{◌≡◌, ◌≢◌, ℕ, ◌+◌, ◌≤◌, ◌&&◌, ◌||◌, not, Bool, true, false, true≢false, if◌then◌else◌, List, [], ◌∷◌, ◌++◌, map, find, is_none, Option, Some, None, inl, inr, refl, sym, ap, subst, ◌∙◌, ◌⊎◌, arith, is_some}
use Rattle.std.specs.List.{AllByRecursion, list_any}
use Rattle.std.proofs.lemmas.Bool.{cond_both, or_left, or_right}
use Rattle.tran_ids.proofs.BranchLemmas.{equal_from_same, same_from_equal}
use Rattle.agreement.specs.Events.{Exit, Quiet, Dropped, Event, Answer_read_only, Drop, first, only_at, exit_by, exit}
use Rattle.agreement.proofs.EventLemmas.{only_at_same}
use Rattle.node_rules.specs.Data.{Stmt, BranchId, Kind, Msg, Live, Opening, Place, Input}
use Rattle.node_rules.specs.Data.kinds
use Rattle.node_rules.specs.Data.stmts
use Rattle.node_rules.specs.Data.inputs
use Rattle.node_rules.specs.Words.{same, put_item}
use Rattle.node_rules.specs.Inputs.{Came, IsCall}
use Rattle.node_rules.specs.Names.{Way, Runs_here, Over, Through, Nowhere_to, way_of}
use Rattle.node_rules.specs.NodeState.{NodeState, Branch, TurnDraft, live_id}
use Rattle.node_rules.specs.Sessions.{session_at}
use Rattle.node_rules.specs.Calls.{is_opening, next_child, goes, open_by, strength_of}
use Rattle.node_rules.specs.Client.{new_root, fresh_root, begun_by, begun, root_at, statement_by, statement_call, call_turn, counted, is_write, savepoint_by, savepoint_call, read_only_by}
use Rattle.node_rules.specs.Turn.{draft_of, heard}
use Rattle.node_rules.proofs.Steps.{IsOfRows, BeginsBy, By_rows, By_savepoint, By_read_only}
use Rattle.run_rules.specs.Data.{Turn}
use Rattle.run_rules.specs.Data.happenings
use Rattle.run_rules.specs.Branches.{is_among}
use Rattle.run_rules.specs.Trail.{is_quiet}
use Rattle.run_rules.specs.Facts.{Facts, node_at}
use Rattle.run_base_laws.specs.RunEvents.{with_event, wrote_event, message_event, with_messages, lives_at, leave_event, has_left, with_leaver, with_leavers, with_record, with_happening}
use Rattle.run_base_laws.specs.NodeLaws.{count_of}
use Rattle.run_rules.specs.Births.{Born, root_born, child_born, roots_by, births_by_call, births_by_open, births_by_kind, births_by, born_id, born_at, read_at_by}
use Rattle.run_rules.specs.Runs.{begins_transaction}
use Rattle.run_base_laws.specs.BirthLaws.{Began}
use Rattle.run_base_laws.proofs.CountingLemmas.{count_last}
use Rattle.run_base_laws.proofs.NeighborLemmas.{News}
use Rattle.run_base_laws.proofs.BeginLemmas.{begins_are, begins_at, begins_so as begins_at_clock}

-- ---- what begins a branch

-- How branches begin with an input: none does, or a root, or a child.
pub data Begins (p : Place) (k : NodeState) (input : Input) : List Born → Type 0 where
  None_begins : Begins p k input []
  Root_begins : (n : ℕ) (s : Stmt) (read_at : Option ℕ) → IsCall input n s → BeginsBy k.clock s read_at → (session_at k.sessions n).root ≡ None
      → Begins p k input (root_born (new_root p k n) (strength_of p k) read_at ∷ [])
  Child_begins : (to parent : BranchId) (edge : ℕ) (root : BranchId) (depth : ℕ) (read_at : Option ℕ) → Came input parent to (kinds.Open edge root depth read_at)
      → find (is_opening parent edge) k.opens ≡ None → Begins p k input (child_born (next_child p k) parent edge root depth (strength_of p k) read_at ∷ [])

module _ (p : Place) (k : NodeState) where
  roots_begin : (n : ℕ) (s : Stmt) (read_at : Option ℕ) (o : Option BranchId) → BeginsBy k.clock s read_at → (session_at k.sessions n).root ≡ o → Begins p k (inputs.Call n (Some s)) (roots_by p k n read_at o)
  roots_begin n s read_at None begins is = Root_begins n s read_at refl begins is
  roots_begin n s read_at (Some b) begins is = None_begins

  call_begins : (n : ℕ) (s : Stmt) → Begins p k (inputs.Call n (Some s)) (births_by_call p k n s)
  call_begins n s =
      cond_both (begins_transaction s) (roots_by p k n (read_at_by k.clock s) (session_at k.sessions n).root) [] (Begins p k (inputs.Call n (Some s)))
      (λ is. roots_begin n s (read_at_by k.clock s) (session_at k.sessions n).root (begins_at_clock k.clock s is) refl) (λ other. None_begins)

  opens_begin : (from to : BranchId) (scn edge : ℕ) (root : BranchId) (depth : ℕ) (read_at : Option ℕ) (o : Option Opening) → find (is_opening from edge) k.opens ≡ o
      → Begins p k (inputs.Message (record { from = from; to = to; scn = scn; kind = kinds.Open edge root depth read_at })) (births_by_open p k from edge root depth read_at o)
  opens_begin from to scn edge root depth read_at None is = Child_begins to from edge root depth read_at (record { scn = scn; is = refl }) is
  opens_begin from to scn edge root depth read_at (Some o) is = None_begins

  kind_begins : (from to : BranchId) (scn : ℕ) (kind : Kind) → Begins p k (inputs.Message (record { from = from; to = to; scn = scn; kind = kind })) (births_by_kind p k from kind)
  kind_begins from to scn (kinds.Open edge root depth read_at) = opens_begin from to scn edge root depth read_at (find (is_opening from edge) k.opens) refl
  kind_begins from to scn _ = None_begins

  pub begins_so : (input : Input) → Begins p k input (births_by p k input)
  begins_so (inputs.Call n (Some s)) = call_begins n s
  begins_so (inputs.Call n None) = None_begins
  begins_so (inputs.Message m) = kind_begins m.from m.to m.scn m.kind
  begins_so (inputs.GiveUp n) = None_begins
  begins_so inputs.Reco = None_begins
  begins_so inputs.Checkpoint = None_begins

-- what is known of the branches that begin is news to the turn's step
module _ (B : Born → Type 0) (p : Place) (k : NodeState) where
  root_news : (input : Input) (n : ℕ) (s : Stmt) (read_at : Option ℕ) → AllByRecursion B (births_by p k input) → IsCall input n s → BeginsBy (heard k input).clock s read_at
      → (session_at (heard k input).sessions n).root ≡ None → B (root_born (new_root p (heard k input) n) (strength_of p (heard k input)) read_at)
  root_news input n s read_at all call begins none =
      subst (λ i. AllByRecursion B (births_by p k i) → BeginsBy (heard k i).clock s read_at → (session_at (heard k i).sessions n).root ≡ None
      → B (root_born (new_root p (heard k i) n) (strength_of p (heard k i)) read_at)) (sym call) here all begins none
    where
      here : AllByRecursion B (births_by_call p k n s) → BeginsBy k.clock s read_at → (session_at k.sessions n).root ≡ None → B (root_born (new_root p k n) (strength_of p k) read_at)
      here begun by_it no_root =
          let roots : AllByRecursion B (roots_by p k n (read_at_by k.clock s) (session_at k.sessions n).root)
          = subst (λ q. AllByRecursion B (if q then roots_by p k n (read_at_by k.clock s) (session_at k.sessions n).root else [])) (begins_are by_it) begun in
          let one : AllByRecursion B (roots_by p k n (read_at_by k.clock s) None) = subst (λ o. AllByRecursion B (roots_by p k n (read_at_by k.clock s) o)) no_root roots in
          subst (λ r. B (root_born (new_root p k n) (strength_of p k) r)) (sym (begins_at by_it)) one.0

  child_news : (input : Input) (to parent : BranchId) (edge : ℕ) (root : BranchId) (depth : ℕ) (read_at : Option ℕ) → AllByRecursion B (births_by p k input)
      → Came input parent to (kinds.Open edge root depth read_at) → find (is_opening parent edge) (heard k input).opens ≡ None
      → B (child_born (next_child p (heard k input)) parent edge root depth (strength_of p (heard k input)) read_at)
  child_news input to parent edge root depth read_at all came none =
      subst (λ i. AllByRecursion B (births_by p k i) → find (is_opening parent edge) (heard k i).opens ≡ None
      → B (child_born (next_child p (heard k i)) parent edge root depth (strength_of p (heard k i)) read_at)) (sym came.is) here all none
    where
      here : AllByRecursion B (births_by_open p k parent edge root depth read_at (find (is_opening parent edge) k.opens)) → find (is_opening parent edge) k.opens ≡ None
          → B (child_born (next_child p k) parent edge root depth (strength_of p k) read_at)
      here begun new =
          let one : AllByRecursion B (births_by_open p k parent edge root depth read_at None) = subst (λ o. AllByRecursion B (births_by_open p k parent edge root depth read_at o)) new begun in one.0

  pub news_of : (input : Input) → AllByRecursion B (births_by p k input) → News B p input (heard k input)
  news_of input all = record {
    root = λ n s read_at call begins none. root_news input n s read_at all call begins none;
    child = λ to parent edge root depth read_at came none. child_news input to parent edge root depth read_at all came none;
  }

-- ---- lists of live branches

or_map : (a c d : Bool) → (c ≡ true → d ≡ true) → (a || c) ≡ true → (a || d) ≡ true
or_map true c d f is = refl
or_map false c d f is = f is

pub among_last : (xs : List Live) (x : Live) → is_among x.me (map live_id (xs ++ x ∷ [])) ≡ true
among_last [] x = or_left (same x.me x.me) false (same_from_equal x.me x.me refl)
among_last (y ∷ ys) x = or_right (same y.me x.me) (is_among x.me (map live_id (ys ++ x ∷ []))) (among_last ys x)

module _ (b : BranchId) where
  put_among_if : (y x : Live) (ys : List Live) (here : Bool) → same y.me x.me ≡ here → (same y.me b || is_among b (map live_id ys)) ≡ true
      → (is_among b (map live_id ys) ≡ true → is_among b (map live_id (put_item live_id ys x)) ≡ true) → is_among b (map live_id (if here then x ∷ ys else y ∷ put_item live_id ys x)) ≡ true
  put_among_if y x ys true is among later = subst (λ m. (same m b || is_among b (map live_id ys)) ≡ true) (equal_from_same y.me x.me is) among
  put_among_if y x ys false is among later = or_map (same y.me b) (is_among b (map live_id ys)) (is_among b (map live_id (put_item live_id ys x))) later among

  -- a branch stays there where an item is put
  put_among : (xs : List Live) (x : Live) → is_among b (map live_id xs) ≡ true → is_among b (map live_id (put_item live_id xs x)) ≡ true
  put_among [] x is = absurd cc
  put_among (y ∷ ys) x is = put_among_if y x ys (same y.me x.me) refl is (put_among ys x)

-- ---- the draft of a turn that begins a branch

-- A draft without a record, after which these branches are live.
pub record Bears (d : TurnDraft) (b : BranchId) : Type 0 where
  pub unwritten : d.wrote ≡ None
  pub living : is_among b (map live_id d.after.lives) ≡ true

module _ (p : Place) (n : ℕ) (s : Stmt) (b : BranchId) where
  way_bears : (k : NodeState) (x : Branch) (w : Way) → is_among b (map live_id k.lives) ≡ true → Bears (goes p k x s 0 w) b
  way_bears k x (Runs_here t) is = record { unwritten = refl; living = put_among b k.lives _ is }
  way_bears k x (Nowhere_to r) is = record { unwritten = refl; living = put_among b k.lives x.live is }
  way_bears k x (Over i table) is = record { unwritten = refl; living = put_among b k.lives x.live is }
  way_bears k x (Through node link table) is = record { unwritten = refl; living = put_among b k.lives x.live is }

  statement_bears : (k : NodeState) (code : Option ℕ) (o : Option Branch) → is_among b (map live_id k.lives) ≡ true → Bears (statement_by p k n s code o) b
  statement_bears k code None is = record { unwritten = refl; living = is }
  statement_bears k (Some c) (Some x) is = record { unwritten = refl; living = is }
  statement_bears k None (Some x) is =
      cond_both (is_some x.live.read_at && is_write s) _ _ (λ d. Bears d b) (λ write. record { unwritten = refl; living = is }) (λ may. way_bears k x (way_of p k.stored.durable x.live 0 s) is)

savepoint_bears : (k : NodeState) (n : ℕ) (name : List ℕ) (b : BranchId) (code : Option ℕ) (o : Option Branch) → is_among b (map live_id k.lives) ≡ true → Bears (savepoint_by k n name code o) b
savepoint_bears k n name b code None is = record { unwritten = refl; living = is }
savepoint_bears k n name b (Some c) (Some x) is = record { unwritten = refl; living = is }
savepoint_bears k n name b None (Some x) is = record { unwritten = refl; living = put_among b k.lives x.live is }

-- a statement that has a table
rows_turn : (p : Place) (k : NodeState) (n : ℕ) (s : Stmt) → IsOfRows s → statement_call p (begun p k n) n s ≡ call_turn p k n s
rows_turn p k n (stmts.Insert table columns given) is = refl
rows_turn p k n (stmts.Update table sets cs) is = refl
rows_turn p k n (stmts.Delete table cs) is = refl
rows_turn p k n (stmts.Select list table cs for_update) is = refl
rows_turn p k n _ is = absurd is

-- a session that has no transaction begins one, and its call is counted
abbrev begun_there : Place → NodeState → ℕ → Option BranchId → NodeState
begun_there p k n o = counted (begun_by p k n None o) n

root_bears : (p : Place) (k : NodeState) (n : ℕ) {s : Stmt} {read_at : Option ℕ} → BeginsBy k.clock s read_at → (session_at k.sessions n).root ≡ None → Bears (call_turn p k n s) (new_root p k n)
root_bears p k n (By_rows s rows) none =
    let there : is_among (new_root p k n) (map live_id (begun_there p k n None).lives) ≡ true = among_last k.lives (fresh_root p k (new_root p k n) None) in
    let new : Bears (statement_call p (begun_there p k n None) n s) (new_root p k n) = statement_bears p n s (new_root p k n) (begun_there p k n None) _ (root_at (begun_there p k n None) n) there in
    subst (λ d. Bears d (new_root p k n)) (rows_turn p k n s rows) (subst (λ o. Bears (statement_call p (begun_there p k n o) n s) (new_root p k n)) (sym none) new)
root_bears p k n (By_savepoint name) none =
    let there : is_among (new_root p k n) (map live_id (begun_there p k n None).lives) ≡ true = among_last k.lives (fresh_root p k (new_root p k n) None) in
    subst (λ o. Bears (savepoint_call (begun_there p k n o) n name) (new_root p k n)) (sym none) (savepoint_bears (begun_there p k n None) n name (new_root p k n) _ (root_at (begun_there p k n None) n) there)
root_bears p k n By_read_only none =
    subst (λ o. Bears (read_only_by p k n o) (new_root p k n)) (sym none) (record { unwritten = refl; living = among_last k.lives (fresh_root p k (new_root p k n) (Some k.clock)) })

child_bears : (p : Place) (k : NodeState) (parent : BranchId) (edge : ℕ) (root : BranchId) (depth : ℕ) (read_at : Option ℕ) → find (is_opening parent edge) k.opens ≡ None
    → Bears (open_by p k parent edge root depth read_at (find (is_opening parent edge) k.opens)) (next_child p k)
child_bears p k parent edge root depth read_at none =
    subst (λ o. Bears (open_by p k parent edge root depth read_at o) (next_child p k)) (sym none) (record { unwritten = refl; living = among_last k.lives _ })

-- each branch that begins is live after the turn, which writes nothing
pub birth_bears : (p : Place) (k : NodeState) (input : Input) {xs : List Born} → Begins p k input xs → AllByRecursion (λ x. Bears (draft_of p k input) x.me) xs
birth_bears p k input None_begins = tt
birth_bears p k input (Root_begins n s read_at call begins none) = (subst (λ i. Bears (draft_of p k i) (new_root p k n)) (sym call) (root_bears p k n begins none), tt)
birth_bears p k input (Child_begins to parent edge root depth read_at came none) = (
  subst (λ i. Bears (draft_of p k i) (next_child p k)) (sym came.is)
      (child_bears p (heard k (inputs.Message (record { from = parent; to = to; scn = came.scn; kind = kinds.Open edge root depth read_at }))) parent edge root depth read_at none),
  tt,
)

-- ---- lists of those that began

find_more : {A : Type 0} (test : A → Bool) (xs ys : List A) (y : A) → find test xs ≡ Some y → find test (xs ++ ys) ≡ Some y
find_more test [] ys y is = absurd cc
find_more test (x ∷ xs) ys y is = by (test x) is (find_more test xs ys y)
  where
    by : (here : Bool) → (if here then Some x else find test xs) ≡ Some y → (find test xs ≡ Some y → find test (xs ++ ys) ≡ Some y) → (if here then Some x else find test (xs ++ ys)) ≡ Some y
    by true found later = found
    by false found later = later found

find_last : {A : Type 0} (test : A → Bool) (xs : List A) (y : A) → find test xs ≡ None → test y ≡ true → find test (xs ++ y ∷ []) ≡ Some y
find_last test [] y none is = ap (λ here. if here then Some y else None) is
find_last test (x ∷ xs) y none is = by (test x) none (λ rest. find_last test xs y rest is)
  where
    by : (here : Bool) → (if here then Some x else find test xs) ≡ None → (find test xs ≡ None → find test (xs ++ y ∷ []) ≡ Some y) → (if here then Some x else find test (xs ++ y ∷ [])) ≡ Some y
    by true found later = absurd cc
    by false found later = later found

-- what began stays so
pub began_more : (bs xs : List Born) (x : Born) → Began bs x → Began (bs ++ xs) x
began_more bs xs x is = find_more _ bs xs x is

-- and so does what begins
pub began_last : (bs : List Born) (x : Born) → born_at bs x.me ≡ None → Began (bs ++ x ∷ []) x
began_last bs x none = find_last _ bs x none (same_from_equal x.me x.me refl)

none_counted : (b : BranchId) (bs : List Born) → born_at bs b ≡ None → count_of born_id b bs ≡ 0
none_counted b [] none = refl
none_counted b (x ∷ bs) none = by (same x.me b) none (none_counted b bs)
  where
    by : (here : Bool) → (if here then Some x else born_at bs b) ≡ None → (born_at bs b ≡ None → count_of born_id b bs ≡ 0) → (if here then 1 + count_of born_id b bs else count_of born_id b bs) ≡ 0
    by true found later = absurd cc
    by false found later = later found

pub counted_last : (bs : List Born) (x : Born) → born_at bs x.me ≡ None → ((b : BranchId) → count_of born_id b bs ≤ 1) → (b : BranchId) → count_of born_id b (bs ++ x ∷ []) ≤ 1
counted_last bs x none once b = subst (λ m. m ≤ 1) (sym (count_last born_id b bs x)) (by (same x.me b) refl)
  where
    by : (here : Bool) → same x.me b ≡ here → (if here then 1 + count_of born_id b bs else count_of born_id b bs) ≤ 1
    by true is = let zero_yet : count_of born_id b bs ≡ 0 = none_counted b bs (subst (λ c. born_at bs c ≡ None) (equal_from_same x.me b is) none) in omega (arith, zero_yet)
    by false is = once b

-- one that is found last is old, or is the new one
pub found_last : (bs : List Born) (x : Born) (b : BranchId) → born_at (bs ++ x ∷ []) b ≢ None → (born_at bs b ≢ None) ⊎ (x.me ≡ b)
found_last [] x b some = by (same x.me b) refl some
  where
    by : (here : Bool) → same x.me b ≡ here → (if here then Some x else None) ≢ None → (born_at [] b ≢ None) ⊎ (x.me ≡ b)
    by true is found = inr (equal_from_same x.me b is)
    by false is found = absurd (found refl)
found_last (y ∷ bs) x b some = by (same y.me b) some (found_last bs x b)
  where
    by : (here : Bool) → (if here then Some y else born_at (bs ++ x ∷ []) b) ≢ None → (born_at (bs ++ x ∷ []) b ≢ None → (born_at bs b ≢ None) ⊎ (x.me ≡ b)) → ((if here then Some y else born_at bs b) ≢ None) ⊎ (x.me ≡ b)
    by true found later = inl (λ none. absurd cc)
    by false found later = later found

-- ---- exits

left_first : (o p : Option Exit) → o ≢ None → first o p ≢ None
left_first None p some none = some refl
left_first (Some e) p some none = absurd cc

module _ (b : BranchId) where
  left_event : (o : Option Event) (t : List Event) → exit t b ≢ None → exit (with_event o t) b ≢ None
  left_event None t left = left
  left_event (Some e) t left = left_first (exit t b) (exit_by e b) left

  left_messages : (ms : List Msg) (t : List Event) → exit t b ≢ None → exit (with_messages ms t) b ≢ None
  left_messages [] t left = left
  left_messages (m ∷ ms) t left = left_messages ms _ (left_event (message_event m.from m.to m.scn m.kind) t left)

  module _ (after : List BranchId) (sent : List Msg) where
    left_leaver : (c : BranchId) (t : List Event) → exit t b ≢ None → exit (with_leaver after sent c t) b ≢ None
    left_leaver c t left = cond_both (has_left after t c) (leave_event sent c ∷ t) t (λ (r : List Event). exit r b ≢ None) (λ gone. left_first (exit t b) (exit_by (leave_event sent c) b) left) (λ stays. left)

    left_leavers : (bs : List BranchId) (t : List Event) → exit t b ≢ None → exit (with_leavers after sent bs t) b ≢ None
    left_leavers [] t left = left
    left_leavers (c ∷ bs) t left = left_leavers bs _ (left_leaver c t left)

    leaves_by : (quiet : Bool) (o : Option Exit) → first o (exit_by (if quiet then Answer_read_only b else Drop b) b) ≢ None
    leaves_by quiet (Some e) none = absurd cc
    leaves_by true None none = let at : only_at b b Quiet ≡ Some Quiet = only_at_same b b Quiet refl in absurd (cc (at, none))
    leaves_by false None none = let at : only_at b b Dropped ≡ Some Dropped = only_at_same b b Dropped refl in absurd (cc (at, none))

    leaves : (t : List Event) → is_among b after ≡ false → exit (with_leaver after sent b t) b ≢ None
    leaves t gone =
        cond_both (has_left after t b) (leave_event sent b ∷ t) t (λ (r : List Event). exit r b ≢ None) (λ left. leaves_by (list_any (is_quiet b) sent) (exit t b))
        (λ stays none. (let left : has_left after t b ≡ true = ap (λ q. not q && is_none (exit t b)) gone ∙ ap is_none none in true≢false (sym left ∙ stays)))

    -- a branch that was live and is no more has an exit
    all_leave : (bs : List BranchId) (t : List Event) → is_among b bs ≡ true → is_among b after ≡ false → exit (with_leavers after sent bs t) b ≢ None
    all_leave [] t was gone = absurd cc
    all_leave (c ∷ bs) t was gone = by (same c b) refl was (λ found. all_leave bs (with_leaver after sent c t) found gone)
      where
        by : (here : Bool) → same c b ≡ here → (here || is_among b bs) ≡ true → (is_among b bs ≡ true → exit (with_leavers after sent bs (with_leaver after sent c t)) b ≢ None)
            → exit (with_leavers after sent bs (with_leaver after sent c t)) b ≢ None
        by true is found later = left_leavers bs _ (subst (λ x. exit (with_leaver after sent x t) b ≢ None) (sym (equal_from_same c b is)) (leaves t gone))
        by false is found later = later found

  -- an exit stays over a turn
  pub turn_left : (f g : Facts) (u : Turn) (t : List Event) → exit t b ≢ None → exit (with_happening f g (happenings.Turn u) t) b ≢ None
  turn_left f g u t left = left_messages u.sent _ (left_leavers (lives_at (node_at g u.node)) u.sent (lives_at (node_at f u.node)) _ (left_event (wrote_event u.node u.wrote) t left))

  -- and is made of a branch that the turn ends
  pub turn_leaves : (f g : Facts) (u : Turn) (t : List Event) → is_among b (lives_at (node_at f u.node)) ≡ true → is_among b (lives_at (node_at g u.node)) ≡ false
      → exit (with_happening f g (happenings.Turn u) t) b ≢ None
  turn_leaves f g u t was gone = left_messages u.sent _ (all_leave (lives_at (node_at g u.node)) u.sent (lives_at (node_at f u.node)) (with_record u t) was gone)

  pub stop_left : (f g : Facts) (n : ℕ) (t : List Event) → exit t b ≢ None → exit (with_happening f g (happenings.Stopped n) t) b ≢ None
  stop_left f g n t left = left_leavers [] [] (lives_at (node_at f n)) t left

  pub stop_leaves : (f g : Facts) (n : ℕ) (t : List Event) → is_among b (lives_at (node_at f n)) ≡ true → exit (with_happening f g (happenings.Stopped n) t) b ≢ None
  stop_leaves f g n t was = all_leave [] [] (lives_at (node_at f n)) t was refl
