-- So each savepoint of a live root stands since the last SAVEPOINT of its name, and a root that goes back to one has again what it had then.
use Rattle.std.proofs.Common.{◌≡◌, ◌≤◌, ◌<◌, ◌+◌, ◌&&◌, ◌||◌, ◌==◌, ℕ, zero, suc, Bool, true, false, if◌then◌else◌, is_none, List, [], ◌∷◌, ◌++◌, find, flat_map, fold, length, take, slice_get, option_map, Option, Some, None, refl, sym, ap, subst, ◌∙◌, arith, append-nil}
use Rattle.std.specs.List.{AllByRecursion}
use Rattle.std.specs.Cmp.Lexicographic.{bytes_decides}
use Rattle.std.proofs.lemmas.Bool.{and_parts}
use Rattle.std.proofs.lemmas.List.{append_assoc, length-append}
use Rattle.tran_ids.proofs.ListedLemmas.{item_is}
use Rattle.node_rules.specs.Data.{Answer, BranchId, Live, Savepoint}
use Rattle.node_rules.specs.Data.inputs
use Rattle.node_rules.specs.Data.stmts
use Rattle.node_rules.specs.declared.session.PendingCall.TheVariants as pending
use Rattle.node_rules.specs.NodeState.{NodeState, live_id, live_at, work_at, with_work}
use Rattle.node_rules.specs.Sessions.{session_at}
use Rattle.node_rules.specs.Words.{is_item_of, same, same_text}
use Rattle.run_rules.specs.Branches.{Ran, Seen, Trail, seen_id, seen_at, root_at, is_live, is_live_at, is_root_of, held_on, take_run}
use Rattle.run_rules.specs.Data.{Turn, Happening}
use Rattle.run_rules.specs.Data.happenings
use Rattle.run_rules.specs.Each.{trail_upto}
use Rattle.run_rules.specs.Facts.{Facts, node_at, outcome_at}
use Rattle.run_rules.specs.Lawful.{History, IsLawfulRun}
use Rattle.run_rules.specs.Runs.{run_in, answered_by, is_refused, goes_back, back_root, back_of, step_of_savepoint}
use Rattle.run_rules.specs.Trail.{with_begun, back_in, step_back, begun_in_turn, begins_collect, runs_back, runs_for, runs_with, taken_after}
use Rattle.run_base_laws.specs.CallLaws.{RootWaits}
use Rattle.run_base_laws.proofs.OwnLemmas.{all_found}
use Rattle.run_base_laws.proofs.RestRunLemmas.{roots_wait}
use Rattle.run_base_laws.proofs.RootLemmas.{roots_are_of_sessions}
use Rattle.tree_laws.proofs.PrefixLemmas.{so_far, f_at}
use Rattle.tree_laws.proofs.TimeLemmas.{Part, part_of, part_lawful, may_of}
use Rattle.tree_trail_laws.specs.SeenLaws.{IsSeenRoot}
use Rattle.tree_trail_laws.proofs.CallLemmas.{call_free}
use Rattle.tree_trail_laws.proofs.MomentLemmas.{tr_at, trail_one_on}
use Rattle.tree_trail_laws.proofs.PlanLemmas.{find_more, find_passes}
use Rattle.tree_trail_laws.proofs.SeenLemmas.{begun, turned, seen_turned}
use Rattle.tree_trail_laws.proofs.TopPlanLemmas.{found_so}
use Rattle.tree_trail_laws.proofs.TopTurnLemmas.{seen_roots}
use Rattle.answer_origin_laws.proofs.NumberLemmas.{all_slice, take_more}
use Rattle.answer_origin_laws.proofs.ReplyStandLemmas.{prefix, happens_at}
use Rattle.back_laws.specs.BackLaws.{runs_until, StaysAbove, SavepointsStand, RootsReturn}
use Rattle.back_laws.specs.Returns.{LastSavepoint, HasAgain}
use Rattle.back_laws.proofs.StepLemmas.{ran_stays, run_rises}
use Rattle.back_laws.proofs.StayLemmas.{tops, alone_begun}
use Rattle.back_laws.proofs.SinceLemmas.{Since, Stands, all_stand}

-- ---- moments

-- a happening of a run, with those before it and after it
pub parted : {A : Type 0} (xs : List A) (j : ℕ) (x : A) → slice_get xs j ≡ Some x → (rest : List A) × (take j xs ++ x ∷ rest ≡ xs) × (length (take j xs) ≡ j)
parted [] j x at = absurd cc
parted (y ∷ xs) zero x at = let it : Some y ≡ Some x = at in let same_one : y ≡ x = cc in (xs, ap (λ z. z ∷ xs) (sym same_one), refl)
parted (y ∷ xs) (suc j) x at = let more = parted xs j x at in let long = more.2 in (more.0, ap (λ zs. y ∷ zs) more.1, omega (arith, long))

-- what a savepoint of a run so far stands for is the last SAVEPOINT up to then
module _ (t : History) (whole : IsLawfulRun t) (hs later : List Happening) (is : hs ++ later ≡ t.trace) (s : Seen) (v : Savepoint) (x : Since t whole hs s.me s.parent s.taken s.runs s.collects v) where
  all : x.before ++ happenings.Turn x.turn ∷ (x.later ++ later) ≡ t.trace
  all = sym (append_assoc x.before (happenings.Turn x.turn ∷ x.later) later) ∙ (ap (λ xs. xs ++ later) x.is ∙ is)

  at_length : take (length x.before) t.trace ≡ x.before
  at_length = prefix t x.before (happenings.Turn x.turn) (x.later ++ later) all

  one_more : take (length x.before + 1) t.trace ≡ x.before ++ happenings.Turn x.turn ∷ []
  one_more = ap (take (length x.before + 1)) (sym all) ∙ take_more x.before (happenings.Turn x.turn) (x.later ++ later)

  long : length x.before < length hs
  long = (let sum : length (x.before ++ happenings.Turn x.turn ∷ x.later) ≡ length x.before + length (happenings.Turn x.turn ∷ x.later) = length-append x.before (happenings.Turn x.turn ∷ x.later) in
      let it : length (x.before ++ happenings.Turn x.turn ∷ x.later) ≡ length hs = ap length x.is in omega (arith, sum, it))

  -- one that stands in the whole run before the end of the first part stands in that part
  in_first : (mid : List Happening) (w : Happening) (rest : List Happening) → mid ++ w ∷ rest ≡ hs ++ later → length mid < length hs → (more : List Happening) × (mid ++ w ∷ more ≡ hs)
  in_first mid w rest same short = go mid hs same short
    where
      go : (mid hs : List Happening) → mid ++ w ∷ rest ≡ hs ++ later → length mid < length hs → (more : List Happening) × (mid ++ w ∷ more ≡ hs)
      go mid [] same short = absurd (omega (arith, short))
      go [] (h ∷ hs) same short = let it : w ∷ rest ≡ h ∷ (hs ++ later) = same in let one : w ≡ h = cc in (hs, ap (λ y. y ∷ hs) one)
      go (m ∷ mid) (h ∷ hs) same short =
          let it : m ∷ (mid ++ w ∷ rest) ≡ h ∷ (hs ++ later) = same in
          let one : m ≡ h = cc in
          let tails : mid ++ w ∷ rest ≡ hs ++ later = cc in
          let more = go mid hs tails (omega (arith, short)) in
          (more.0, ap (λ y. y ∷ (mid ++ w ∷ more.0)) one ∙ ap (λ ys. h ∷ ys) more.1)

  pub last_savepoint : LastSavepoint t s.me v.name (length hs)
  last_savepoint = record {
    moment = length x.before;
    set = record {
      turn = x.turn;
      there = happens_at t x.before (happenings.Turn x.turn) (x.later ++ later) all;
      here = x.sets.here;
      call = x.sets.call;
      done = subst (λ xs. is_refused (answered_by (outcome_at t.places (f_at t xs) x.turn)) ≡ false) (sym at_length) x.sets.done;
    };
    before = long;
    began = x.old;
    its = subst (λ xs. seen_at (tr_at t xs) s.me ≡ Some x.old) (sym one_more) x.at;
    last = λ j late low y. (let cut_there = parted t.trace j (happenings.Turn y.turn) y.there in
        let size = cut_there.2 in
        let there = in_first (take j t.trace) (happenings.Turn y.turn) cut_there.0 (cut_there.1 ∙ sym is) (omega (arith, size, low)) in
        x.last (take j t.trace) y.turn there.0 there.1 (omega (arith, size, late)) (record { here = y.here; call = y.call; done = y.done }));
  }

  -- since then its root did not go back below it
  pub stays_above : StaysAbove t (length x.before + 1) (length hs) s.me v.step
  stays_above i u late soon there k goes =
      let cut_there = parted t.trace i (happenings.Turn u) there in
      let size = cut_there.2 in
      let first = in_first (take i t.trace) (happenings.Turn u) cut_there.0 (cut_there.1 ∙ sym is) (omega (arith, size, soon)) in
      x.above (take i t.trace) u first.0 first.1 (omega (arith, size, late)) k goes

pub savepoints_stand : SavepointsStand
unfolding last_savepoint
savepoints_stand t whole b s at live i v there =
    let part : Part t whole t.trace = record { rest = []; is = append-nil t.trace } in
    let stands : Stands t whole t.trace s = all_found (Stands t whole t.trace) seen_id (tr_at t t.trace).seen b s (all_stand t whole t.trace part) at in
    let x : Since t whole t.trace s.me s.parent s.taken s.runs s.collects v = all_slice (λ (y : Savepoint). Since t whole t.trace s.me s.parent s.taken s.runs s.collects y) s.savepoints i v (stands live) there in
    record { last = last_savepoint t whole t.trace [] (append-nil t.trace) s v x; step = x.step; runs = x.same_runs; above = stays_above t whole t.trace [] (append-nil t.trace) s v x }

-- ---- ROLLBACK TO at a root

-- the savepoint whose step is gone back to
found_savepoint : (name : List ℕ) (vs : List Savepoint) (step : ℕ) → step_of_savepoint name vs ≡ Some step → (v : Savepoint) × (find (λ s. same_text s.name name) vs ≡ Some v) × (v.step ≡ step)
found_savepoint name vs step is = by (find (λ s. same_text s.name name) vs) refl is
  where
    by : (o : Option Savepoint) → find (λ s. same_text s.name name) vs ≡ o → option_map (λ (s : Savepoint). s.step) o ≡ Some step → (v : Savepoint) × (find (λ s. same_text s.name name) vs ≡ Some v) × (v.step ≡ step)
    by None found is = absurd cc
    by (Some v) found is = let it : Some v.step ≡ Some step = is in let same_one : v.step ≡ step = cc in (v, found, same_one)

found_all : {A : Type 0} (P : A → Type 0) (q : A → Bool) (xs : List A) (y : A) → AllByRecursion P xs → find q xs ≡ Some y → P y
found_all P q [] y all is = absurd cc
found_all P q (x ∷ xs) y all is = by (q x) is (found_all P q xs y all.1)
  where
    by : (here : Bool) → (if here then Some x else find q xs) ≡ Some y → (find q xs ≡ Some y → P y) → P y
    by true is later = let it : Some x ≡ Some y = is in let same_one : x ≡ y = cc in subst P same_one all.0
    by false is later = later is

none_there : {A : Type 0} (o : Option A) → is_none o ≡ true → o ≡ None
none_there None is = refl
none_there (Some a) is = absurd cc

module _ (t : History) (whole : IsLawfulRun t) (hs : List Happening) (u : Turn) (rest : List Happening) (is : hs ++ happenings.Turn u ∷ rest ≡ t.trace) (session : ℕ) (name : List ℕ)
    (came : u.input ≡ inputs.Call session (Some (stmts.RollbackTo name))) (root : Seen) (at : root_at (tr_at t hs) u.node session ≡ Some root) where
  abbrev part : Part t whole hs
  part = part_of t whole hs (happenings.Turn u) rest is

  abbrev f : Facts
  f = f_at t hs

  abbrev tr : Trail
  tr = tr_at t hs

  abbrev answer : Option Answer
  answer = answered_by (outcome_at t.places f u)

  parts : (is_live_at u.node root ≡ true) × ((is_none root.parent && (root.me.session == session)) ≡ true)
  parts = and_parts (is_live_at u.node root) (is_none root.parent && (root.me.session == session)) (find_passes (is_root_of u.node session) tr.seen root at)

  live : root.exit ≡ None
  live = none_there root.exit (and_parts (root.me.node == u.node) (is_live root) parts.0).1

  its_own : seen_at tr root.me ≡ Some root
  its_own = found_so (λ (y : Seen). seen_at tr y.me ≡ Some y) (is_root_of u.node session) tr.seen root at (tops t whole hs part).alone

  -- the savepoint that it goes back to
  savepoint : (step : ℕ) → step_back root.me (back_in (with_begun f tr u) u answer) ≡ Some step → step_of_savepoint name root.savepoints ≡ Some step
  savepoint step goes = by_cut u.cut goes
    where
      begun_root : root_at (with_begun f tr u) u.node session ≡ Some root
      begun_root = find_more (is_root_of u.node session) tr.seen (begun_in_turn f tr u) root at

      by_step : (o : Option ℕ) → step_back root.me (back_of root.me o) ≡ Some step → o ≡ Some step
      by_step None goes = absurd cc
      by_step (Some k) goes = mine (same root.me root.me) goes
        where
          mine : (q : Bool) → (if q then Some k else None) ≡ Some step → Some k ≡ Some step
          mine true goes = goes
          mine false goes = absurd cc

      by_answer : (q : Bool) → step_back root.me (if q then None else back_root name (root_at (with_begun f tr u) u.node session)) ≡ Some step → step_of_savepoint name root.savepoints ≡ Some step
      by_answer true goes = absurd cc
      by_answer false goes = by_step (step_of_savepoint name root.savepoints) (subst (λ o. step_back root.me (back_root name o) ≡ Some step) begun_root goes)

      by_cut : (cut : Bool) → step_back root.me (if cut then None else goes_back (with_begun f tr u) u.node answer u.input) ≡ Some step → step_of_savepoint name root.savepoints ≡ Some step
      by_cut true goes = absurd cc
      by_cut false goes = by_answer (is_refused answer) (subst (λ i. step_back root.me (goes_back (with_begun f tr u) u.node answer i) ≡ Some step) came goes)

  -- no COMMIT of it was accepted
  working : root.collects ≡ false
  working =
      let may = may_of t whole hs (happenings.Turn u) rest is in
      let free = call_free f may.0 u.node u.input u.took session (Some (stmts.RollbackTo name)) came may.1.comes in
      let sees = seen_roots t whole hs part (tops t whole hs part) u.node may.0 may.1.up session free.0 free.1 in
      by may.0 may.1.up free.1 (root_at tr u.node session) at (session_at may.0.sessions session).root refl sees
    where
      by : (k : NodeState) → node_at f u.node ≡ Some k → (session_at k.sessions session).call ≡ pending.NoCall → (o : Option Seen) → o ≡ Some root → (r : Option BranchId) → (session_at k.sessions session).root ≡ r → IsSeenRoot tr k o r → root.collects ≡ false
      by k up free None seen r has sees = absurd cc
      by k up free (Some s) seen None has sees = absurd sees
      by k up free (Some s) seen (Some b) has sees =
          let same_one : s ≡ root = cc in
          let l : Live = sees.1.0 in
          let me : l.me ≡ b = item_is live_id k.lives b l sees.1.1 in
          let l_live : live_at k l.me ≡ Some l = subst (λ c. live_at k c ≡ Some l) (sym me) sees.1.1 in
          let top : l.parent ≡ None = (roots_are_of_sessions (so_far t hs) (part_lawful t whole hs part) u.node k up session b has).1 l sees.1.1 in
          let its = roots_wait (so_far t hs) (part_lawful t whole hs part) u.node k up (record { live = l; work = work_at k l.me }) (ap (with_work k) l_live) top in
          let number : l.me.session ≡ session = ap (λ (c : BranchId). c.session) me ∙ (roots_are_of_sessions (so_far t hs) (part_lawful t whole hs part) u.node k up session b has).0 in
          let rests : RootWaits pending.NoCall l.phase (work_at k l.me).going = subst (λ c. RootWaits c l.phase (work_at k l.me).going) (ap (λ m. (session_at k.sessions m).call) number ∙ free) its.waits in
          let told = (tops t whole hs part).tops u.node k up l l_live top in
          let both : Some told.0 ≡ Some s = sym told.1 ∙ (ap (seen_at tr) me ∙ sees.0) in
          let one : told.0 ≡ s = cc in
          ap (λ (y : Seen). y.collects) (sym (one ∙ same_one)) ∙ (told.2.working rests.0).0

  abbrev new : Seen
  new = turned t.places f tr u root

  new_working : new.collects ≡ false
  new_working = subst (λ i. (root.collects || begins_collect u.node answer root i) ≡ false) (sym came) (ap (λ q. q || (is_none root.read_at && false)) working ∙ and_false (is_none root.read_at))
    where
      and_false : (q : Bool) → (q && false) ≡ false
      and_false true = refl
      and_false false = refl

  returns : (step : ℕ) → step_back root.me (back_in (with_begun f tr u) u answer) ≡ Some step
      → (x : LastSavepoint t root.me name (length hs)) × (s : Seen) × (seen_at (tr_at t (hs ++ happenings.Turn u ∷ [])) root.me ≡ Some s) × HasAgain s (Some x.began)
  unfolding last_savepoint
  returns step goes =
      let found = found_savepoint name root.savepoints step (savepoint step goes) in
      let v : Savepoint = found.0 in
      let stands : Stands t whole hs root = found_so (Stands t whole hs) (is_root_of u.node session) tr.seen root at (all_stand t whole hs part) in
      let x : Since t whole hs root.me root.parent root.taken root.runs root.collects v
      = found_all (λ (y : Savepoint). Since t whole hs root.me root.parent root.taken root.runs root.collects y) (λ s. same_text s.name name) root.savepoints v (stands live) found.1 in
      let named : v.name ≡ name = (bytes_decides v.name name).0 (find_passes (λ s. same_text s.name name) root.savepoints v found.1) in
      let there : seen_at (begun t.places f tr u) root.me ≡ Some root = find_more (is_item_of seen_id root.me) tr.seen (begun_in_turn f tr u) root its_own in
      let low : step ≤ root.taken = subst (λ k. k ≤ root.taken) found.2 x.low in
      let left : new.runs ≡ x.old.runs
      = ap (λ o. runs_back o (runs_with (runs_for root (run_in f (with_begun f tr u) u) answer) f.book (taken_after u.node root u.input) root (run_in f (with_begun f tr u) u))) goes
      ∙ (ran_stays f.book root step low (runs_for root (run_in f (with_begun f tr u) u) answer) (taken_after u.node root u.input) (run_in f (with_begun f tr u) u) (run_rises f (begun t.places f tr u) u (alone_begun t whole hs u rest is) root there answer)
      ∙ (ap (λ k. runs_until k root.runs) (sym found.2) ∙ x.same_runs)) in
      let old_me : x.old.me ≡ root.me = item_is seen_id (tr_at t (x.before ++ happenings.Turn x.turn ∷ [])).seen root.me x.old x.at in
      let was : x.old.collects ≡ false = x.collecting working in
      let turned_at : seen_at (tr_at t (hs ++ happenings.Turn u ∷ [])) root.me ≡ Some new = ap (λ (y : Trail). seen_at y root.me) (trail_one_on t hs (happenings.Turn u)) ∙ seen_turned t.places f tr u root.me root its_own in
      subst (λ n. (y : LastSavepoint t root.me n (length hs)) × (s : Seen) × (seen_at (tr_at t (hs ++ happenings.Turn u ∷ [])) root.me ≡ Some s) × HasAgain s (Some y.began)) named
      (last_savepoint t whole hs (happenings.Turn u ∷ rest) is root v x, new, turned_at, again x.old left old_me was)
    where
      again : (old : Seen) → new.runs ≡ old.runs → old.me ≡ root.me → old.collects ≡ false → HasAgain new (Some old)
      again old left me was = record {
        changes = ap (λ rs. flat_map (λ (r : Ran). r.changes) rs) left;
        keys =
            ap (λ q. held_on q root.me (fold (take_run root.me) [] new.runs)) (new_working ∙ sym was)
            ∙ (ap (λ rs. held_on old.collects root.me (fold (take_run root.me) [] rs)) left ∙ ap (λ b. held_on old.collects b (fold (take_run b) [] old.runs)) (sym me));
      }

pub roots_return : RootsReturn
roots_return t whole i u there session name came root at step goes =
    let cut_there = parted t.trace i (happenings.Turn u) there in
    let hs : List Happening = take i t.trace in
    let one : take (i + 1) t.trace ≡ hs ++ happenings.Turn u ∷ []
    = ap (λ n. take (n + 1) t.trace) (sym cut_there.2) ∙ (ap (take (length hs + 1)) (sym cut_there.1) ∙ take_more hs (happenings.Turn u) cut_there.0) in
    let it = returns t whole hs u cut_there.0 cut_there.1 session name came root at step goes in
    subst (λ n. (x : LastSavepoint t root.me name n) × (s : Seen) × (seen_at (trail_upto t (i + 1)) root.me ≡ Some s) × HasAgain s (Some x.began)) cut_there.2
    (it.0, it.1, ap (λ xs. seen_at (tr_at t xs) root.me) one ∙ it.2, it.3)
