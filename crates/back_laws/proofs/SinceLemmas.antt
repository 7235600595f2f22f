-- A savepoint of a live root is that of the last SAVEPOINT of its name, and the runs of the root up to its step are those that it had then: what
-- each happening keeps of that.
use Rattle.std.proofs.Common.{◌≡◌, ◌≤◌, ◌<◌, ◌+◌, ◌&&◌, ◌==◌, ◌⊎◌, ℕ, not, Bool, true, false, if◌then◌else◌, is_none, List, [], ◌∷◌, ◌++◌, filter, length, nat_le, Option, Some, None, inl, inr, refl, sym, ap, subst, ◌∙◌, arith}
use Rattle.std.specs.List.{AllByRecursion}
use Rattle.std.specs.Cmp.Lexicographic.{bytes_decides}
use Rattle.std.proofs.lemmas.Bool.{and_parts, and_from, eqb-true, eq-eqb}
use Rattle.std.proofs.lemmas.List.{append_assoc, length-append}
use Rattle.node_rules.specs.Data.{Answer, BranchId, Input, Savepoint, Stmt}
use Rattle.node_rules.specs.Data.inputs
use Rattle.node_rules.specs.Data.stmts
use Rattle.node_rules.specs.Words.{same_text}
use Rattle.run_rules.specs.Branches.{Exit, Dropped, Ran, Seen, Trail, seen_id, seen_at, is_live, is_live_at, is_root_of}
use Rattle.run_rules.specs.Data.{Turn, Happening}
use Rattle.run_rules.specs.Data.happenings
use Rattle.run_rules.specs.Facts.{outcome_at}
use Rattle.run_rules.specs.Lawful.{History, IsLawfulRun}
use Rattle.run_rules.specs.Runs.{answered_by, is_refused}
use Rattle.run_rules.specs.Trail.{exit_after, with_turn, stopped_by, taken_after, savepoints_set, savepoints_back, step_back, back_in, with_begun, begins_collect}
use Rattle.run_rules.proofs.ListLemmas.{all_weaker, all_append, all_filter}
use Rattle.run_base_laws.proofs.OwnLemmas.{all_found}
use Rattle.tree_laws.proofs.PrefixLemmas.{f_at}
use Rattle.tree_laws.proofs.TimeLemmas.{Part, part_on}
use Rattle.tree_trail_laws.proofs.MomentLemmas.{tr_at, trail_one_on}
use Rattle.tree_trail_laws.proofs.OwnTurnLemmas.{taken_grows}
use Rattle.tree_trail_laws.proofs.SeenLemmas.{begun, planned, brings, turned, seen_begun}
use Rattle.back_laws.specs.BackLaws.{runs_until}
use Rattle.back_laws.proofs.StepLemmas.{NotBelow, InSteps, run_rises, until_stays, until_is, until_all}
use Rattle.back_laws.proofs.StayLemmas.{IsNoTurn, not_left, all_seen, alone_begun, in_steps}

-- ---- lists and tests

not_empty : {A : Type 0} (mid : List A) (w : A) (rest : List A) → mid ++ w ∷ rest ≡ [] → ⊥
not_empty [] w rest is = absurd cc
not_empty (m ∷ mid) w rest is = absurd cc

-- a happening is the last one, or stands before it
split_last : {A : Type 0} (mid rest hs : List A) (w x : A) → mid ++ w ∷ rest ≡ hs ++ x ∷ [] → ((mid ≡ hs) × (w ≡ x)) ⊎ ((more : List A) × (mid ++ w ∷ more ≡ hs))
split_last [] rest [] w x is = let it : w ∷ rest ≡ x ∷ [] = is in inl (refl, (let same : w ≡ x = cc in same))
split_last [] rest (h ∷ hs) w x is = let it : w ∷ rest ≡ h ∷ (hs ++ x ∷ []) = is in let same : w ≡ h = cc in inr (hs, ap (λ y. y ∷ hs) same)
split_last (m ∷ mid) rest [] w x is = let it : m ∷ (mid ++ w ∷ rest) ≡ x ∷ [] = is in absurd (not_empty mid w rest (let tail : mid ++ w ∷ rest ≡ [] = cc in tail))
split_last (m ∷ mid) rest (h ∷ hs) w x is =
    let it : m ∷ (mid ++ w ∷ rest) ≡ h ∷ (hs ++ x ∷ []) = is in
    let same : m ≡ h = cc in
    let tails : mid ++ w ∷ rest ≡ hs ++ x ∷ [] = cc in
    elim (split_last mid rest hs w x tails) [
      | inl at ↦ inl (ap (λ y. y ∷ mid) same ∙ ap (λ ys. h ∷ ys) at.0, at.1)
      | inr before ↦ inr (before.0, ap (λ y. y ∷ (mid ++ w ∷ before.0)) same ∙ ap (λ ys. h ∷ ys) before.1)
    ]

earlier_shorter : {A : Type 0} (mid more hs : List A) (w : A) → mid ++ w ∷ more ≡ hs → length mid < length hs
earlier_shorter mid more hs w is = let all : length (mid ++ w ∷ more) ≡ length mid + length (w ∷ more) = length-append mid (w ∷ more) in let long : length (mid ++ w ∷ more) ≡ length hs = ap length is in omega (arith, all, long)

no_test : (q : Bool) → not q ≡ true → q ≡ false
no_test true is = absurd cc
no_test false is = refl

none_of : {A : Type 0} (o : Option A) → is_none o ≡ true → o ≡ None
none_of None is = refl
none_of (Some a) is = absurd cc

module _ (t : History) (whole : IsLawfulRun t) where
  -- SAVEPOINT of a name came from the session of a root in this turn, and was not refused
  pub record Sets (before : List Happening) (w : Turn) (me : BranchId) (name : List ℕ) : Type 0 where
    pub here : w.node ≡ me.node
    pub call : w.input ≡ inputs.Call me.session (Some (stmts.Savepoint name))
    pub done : is_refused (answered_by (outcome_at t.places (f_at t before) w)) ≡ false

  -- the step that a branch goes back to in a turn
  abbrev pub goes_in : List Happening → Turn → BranchId → Option ℕ
  goes_in hs w b = step_back b (back_in (with_begun (f_at t hs) (tr_at t hs) w) w (answered_by (outcome_at t.places (f_at t hs) w)))

  -- A savepoint of a root, by the turn that set it.
  pub record Since (hs : List Happening) (me : BranchId) (parent : Option BranchId) (taken : ℕ) (runs : List Ran) (collects : Bool) (v : Savepoint) : Type 0 where
    pub before : List Happening
    pub turn : Turn
    pub later : List Happening
    pub is : before ++ happenings.Turn turn ∷ later ≡ hs
    pub sets : Sets before turn me v.name
    pub old : Seen
    pub at : seen_at (tr_at t (before ++ happenings.Turn turn ∷ [])) me ≡ Some old
    pub step : old.taken ≡ v.step
    pub same_runs : runs_until v.step runs ≡ old.runs
    pub low : v.step ≤ taken
    pub top : parent ≡ None
    pub collecting : collects ≡ false → old.collects ≡ false
    pub above : (mid : List Happening) (w : Turn) (rest : List Happening) → mid ++ happenings.Turn w ∷ rest ≡ hs → length before < length mid → (k : ℕ) → goes_in mid w me ≡ Some k → v.step ≤ k
    pub last : (mid : List Happening) (w : Turn) (rest : List Happening) → mid ++ happenings.Turn w ∷ rest ≡ hs → length before < length mid → Sets mid w me v.name → ⊥

  -- the savepoints of a live branch are so
  abbrev pub Stands : List Happening → Seen → Type 0
  Stands hs s = s.exit ≡ None → AllByRecursion (λ v. Since hs s.me s.parent s.taken s.runs s.collects v) s.savepoints

  -- with one happening more
  since_on : (hs : List Happening) (me : BranchId) (parent : Option BranchId) (taken more_taken : ℕ) (runs more_runs : List Ran) (collects more_collects : Bool) (v : Savepoint) → Since hs me parent taken runs collects v → (h : Happening)
      → taken ≤ more_taken → runs_until v.step more_runs ≡ runs_until v.step runs → (more_collects ≡ false → collects ≡ false) → ((w : Turn) → happenings.Turn w ≡ h → Sets hs w me v.name → ⊥) → ((w : Turn) → happenings.Turn w ≡ h → (k : ℕ) → goes_in hs w me ≡ Some k → v.step ≤ k)
      → Since (hs ++ h ∷ []) me parent more_taken more_runs more_collects v
  since_on hs me parent taken more_taken runs more_runs collects more_collects v x h more stay collected none back = record {
    before = x.before;
    turn = x.turn;
    later = x.later ++ h ∷ [];
    is = sym (append_assoc x.before (happenings.Turn x.turn ∷ x.later) (h ∷ [])) ∙ ap (λ xs. xs ++ h ∷ []) x.is;
    sets = x.sets;
    old = x.old;
    at = x.at;
    step = x.step;
    same_runs = stay ∙ x.same_runs;
    low = (let low = x.low in omega (arith, low, more));
    top = x.top;
    collecting = λ q. x.collecting (collected q);
    above = λ mid w rest is late k goes. elim (split_last mid rest hs (happenings.Turn w) h is) [
      | inl at ↦ back w at.1 k (subst (λ xs. goes_in xs w me ≡ Some k) at.0 goes)
      | inr before ↦ x.above mid w before.0 before.1 late k goes
    ];
    last = λ mid w rest is late sets. elim (split_last mid rest hs (happenings.Turn w) h is) [
      | inl at ↦ none w at.1 (subst (λ xs. Sets xs w me v.name) at.0 sets)
      | inr before ↦ x.last mid w before.0 before.1 late sets
    ];
  }

  -- ---- a turn

  was_live : (tr : Trail) (u : Turn) (a : Option Answer) (old new : Seen) (e : Option Exit) → exit_after tr u a old new e ≡ None → e ≡ None
  was_live tr u a old new None is = refl
  was_live tr u a old new (Some e) is = absurd cc

  module _ (hs : List Happening) (u : Turn) (rest : List Happening) (is : hs ++ happenings.Turn u ∷ rest ≡ t.trace) (s : Seen) (at : seen_at (begun t.places (f_at t hs) (tr_at t hs) u) s.me ≡ Some s) (now : Stands hs s) where
    abbrev hs1 : List Happening
    hs1 = hs ++ happenings.Turn u ∷ []

    abbrev s1 : Seen
    s1 = turned t.places (f_at t hs) (tr_at t hs) u s

    abbrev answer : Option Answer
    answer = answered_by (outcome_at t.places (f_at t hs) u)

    abbrev step : ℕ
    step = taken_after u.node s u.input

    abbrev back : Option ℕ
    back = step_back s.me (brings t.places (f_at t hs) (tr_at t hs) u).back

    abbrev After : Savepoint → Type 0
    After v = Since hs1 s.me s.parent step s1.runs s1.collects v

    abbrev Old : Savepoint → Type 0
    Old v = Since hs s.me s.parent s.taken s.runs s.collects v

    -- one that was set before, and is not set again
    old_stands : (v : Savepoint) → Old v → NotBelow v.step back → (Sets hs u s.me v.name → ⊥) → After v
    old_stands v x above none =
        since_on hs s.me s.parent s.taken step s.runs s1.runs s.collects s1.collects v x (happenings.Turn u) (taken_grows u.node s u.input)
        (until_stays (f_at t hs).book s v.step x.low _ step _ back (run_rises (f_at t hs) (begun t.places (f_at t hs) (tr_at t hs) u) u (alone_begun t whole hs u rest is) s at answer) above)
        (λ q. not_left s.collects (begins_collect u.node answer s u.input) q)
        (λ w same sets. none (let it : w ≡ u = cc in subst (λ y. Sets hs y s.me v.name) it sets))
        (λ w same k goes. (let it : w ≡ u = cc in let its : back ≡ Some k = subst (λ y. goes_in hs y s.me ≡ Some k) it goes in subst (NotBelow v.step) its above))

    -- the one that is set now
    new_stands : (session : ℕ) (name : List ℕ) → u.input ≡ inputs.Call session (Some (stmts.Savepoint name)) → is_root_of u.node session s ≡ true → is_refused answer ≡ false → After (record { name = name; step = step })
    new_stands session name came root done =
        let parts = and_parts (is_live_at u.node s) (is_none s.parent && (s.me.session == session)) root in
        let here = and_parts (s.me.node == u.node) (is_live s) parts.0 in
        let top = and_parts (is_none s.parent) (s.me.session == session) parts.1 in
        let part1 : Part t whole hs1 = part_on t whole hs (happenings.Turn u) rest is in
        let there : seen_at (tr_at t hs1) s.me ≡ Some s1 = ap (λ (tr : Trail). seen_at tr s.me) (trail_one_on t hs (happenings.Turn u)) ∙ seen_begun t.places (f_at t hs) (tr_at t hs) u s.me s at in
        record {
          before = hs;
          turn = u;
          later = [];
          is = refl;
          sets = record {
            here = sym (eqb-true s.me.node u.node here.0);
            call = came ∙ ap (λ m. inputs.Call m (Some (stmts.Savepoint name))) (sym (eqb-true s.me.session session top.1));
            done = done;
          };
          old = s1;
          at = there;
          step = refl;
          same_runs = until_all step s1.runs (all_found (λ (x : Seen). InSteps x.taken x.runs) seen_id (tr_at t hs1).seen s.me s1 (in_steps t whole hs1 part1) there);
          low = omega arith;
          top = none_of s.parent top.0;
          collecting = λ q. q;
          above = λ mid w more all late k goes. elim (split_last mid more hs (happenings.Turn w) (happenings.Turn u) all) [
            | inl same ↦ (let long : length mid ≡ length hs = ap length same.0 in absurd (omega (arith, late, long)))
            | inr before ↦ (let short = earlier_shorter mid before.0 hs (happenings.Turn w) before.1 in absurd (omega (arith, late, short)))
          ];
          last = λ mid w more all late sets. elim (split_last mid more hs (happenings.Turn w) (happenings.Turn u) all) [
            | inl same ↦ (let long : length mid ≡ length hs = ap length same.0 in absurd (omega (arith, late, long)))
            | inr before ↦ (let short = earlier_shorter mid before.0 hs (happenings.Turn w) before.1 in absurd (omega (arith, late, short)))
          ];
        }

    abbrev Ok : Savepoint → Type 0
    Ok v = NotBelow v.step back → After v

    -- where none is set those that were stand
    unset : s.exit ≡ None → ((v : Savepoint) → Old v → Sets hs u s.me v.name → ⊥) → AllByRecursion Ok s.savepoints
    unset live none = all_weaker Old Ok (λ v x above. old_stands v x above (none v x)) s.savepoints (now live)

    set_now : s.exit ≡ None → (session : ℕ) (name : List ℕ) → u.input ≡ inputs.Call session (Some (stmts.Savepoint name)) → AllByRecursion Ok (savepoints_set u.node answer step s (inputs.Call session (Some (stmts.Savepoint name))))
    set_now live session name came = by (is_root_of u.node session s && not (is_refused answer)) refl
      where
        named : (v : Savepoint) → Sets hs u s.me v.name → v.name ≡ name
        named v sets = let it : inputs.Call s.me.session (Some (stmts.Savepoint v.name)) ≡ inputs.Call session (Some (stmts.Savepoint name)) = sym sets.call ∙ came in let same : v.name ≡ name = cc in same

        by : (q : Bool) → (is_root_of u.node session s && not (is_refused answer)) ≡ q
            → AllByRecursion Ok (if q then filter (λ x. not (same_text x.name name)) s.savepoints ++ (record { name = name; step = step }) ∷ [] else s.savepoints)
        by true set =
            let parts = and_parts (is_root_of u.node session s) (not (is_refused answer)) set in
            all_append Ok (filter (λ x. not (same_text x.name name)) s.savepoints) ((record { name = name; step = step }) ∷ [])
            (all_filter Old Ok (λ x. not (same_text x.name name))
            (λ v passes x above. old_stands v x above (λ sets. (let other = no_test (same_text v.name name) passes in let same = (bytes_decides v.name name).1 (named v sets) in absurd (cc (other, same))))) s.savepoints (now live))
            ((λ above. new_stands session name came parts.0 (no_test (is_refused answer) parts.1)), tt)
        by false unset_now = unset live (λ v x sets.
            (let it : inputs.Call s.me.session (Some (stmts.Savepoint v.name)) ≡ inputs.Call session (Some (stmts.Savepoint name)) = sym sets.call ∙ came in
            let one : s.me.session ≡ session = cc in
            let root = and_from (is_live_at u.node s) (is_none s.parent && (s.me.session == session)) (and_from (s.me.node == u.node) (is_live s) (eq-eqb s.me.node u.node (sym sets.here)) (ap is_none live))
            (and_from (is_none s.parent) (s.me.session == session) (ap is_none x.top) (eq-eqb s.me.session session one)) in
            let set = and_from (is_root_of u.node session s) (not (is_refused answer)) root (ap not sets.done) in
            absurd (cc (set, unset_now))))

    by_statement : s.exit ≡ None → (session : ℕ) (st : Stmt) → u.input ≡ inputs.Call session (Some st) → AllByRecursion Ok (savepoints_set u.node answer step s (inputs.Call session (Some st)))
    by_statement live session (stmts.Savepoint name) came = set_now live session name came
    by_statement live session _ came = unset live (λ v x sets. (let call = sets.call in absurd (cc (came, call))))

    saves : s.exit ≡ None → (input : Input) → u.input ≡ input → AllByRecursion Ok (savepoints_set u.node answer step s input)
    saves live (inputs.Call session (Some st)) came = by_statement live session st came
    saves live (inputs.Call session None) came = unset live (λ v x sets. (let call = sets.call in absurd (cc (came, call))))
    saves live (inputs.Message m) came = unset live (λ v x sets. (let call = sets.call in absurd (cc (came, call))))
    saves live (inputs.GiveUp session) came = unset live (λ v x sets. (let call = sets.call in absurd (cc (came, call))))
    saves live inputs.Reco came = unset live (λ v x sets. (let call = sets.call in absurd (cc (came, call))))
    saves live inputs.Checkpoint came = unset live (λ v x sets. (let call = sets.call in absurd (cc (came, call))))

    left : (o : Option ℕ) (vs : List Savepoint) → AllByRecursion (λ v. NotBelow v.step o → After v) vs → AllByRecursion After (savepoints_back o vs)
    left None vs all = all_weaker (λ (v : Savepoint). Unit {0} → After v) After (λ v so. so tt) vs all
    left (Some k) vs all = all_filter (λ (v : Savepoint). v.step ≤ k → After v) After (λ v. nat_le v.step k) (λ v passes so. so (until_is v.step k passes)) vs all

    pub turn_stands : Stands hs1 s1
    turn_stands live =
        let alive : s.exit ≡ None = was_live (planned t.places (f_at t hs) (tr_at t hs) u) u answer s (with_turn (f_at t hs).book u (outcome_at t.places (f_at t hs) u) (brings t.places (f_at t hs) (tr_at t hs) u) s) s.exit live in
        left back (savepoints_set u.node answer step s u.input) (saves alive u.input refl)

  -- ---- other happenings

  other_stands : (hs : List Happening) (h : Happening) (s : Seen) → ((w : Turn) → happenings.Turn w ≡ h → ⊥) → Stands hs s → Stands (hs ++ h ∷ []) s
  other_stands hs h s none now live =
      all_weaker (λ v. Since hs s.me s.parent s.taken s.runs s.collects v) (λ v. Since (hs ++ h ∷ []) s.me s.parent s.taken s.runs s.collects v)
      (λ v x. since_on hs s.me s.parent s.taken s.taken s.runs s.runs s.collects s.collects v x h (omega arith) refl (λ q. q) (λ w same sets. absurd (none w same)) (λ w same k goes. absurd (none w same))) s.savepoints (now live)

  stop_stands : (hs : List Happening) (n : ℕ) (s : Seen) → Stands hs s → Stands (hs ++ happenings.Stopped n ∷ []) (stopped_by n s)
  stop_stands hs n s now = by (is_live_at n s)
    where
      by : (q : Bool) → Stands (hs ++ happenings.Stopped n ∷ []) (if q then record s { exit = Some Dropped } else s)
      by true live = absurd (let it : Some Dropped ≡ None = live in cc)
      by false live = other_stands hs (happenings.Stopped n) s (λ w same. absurd cc) now live

  pub all_stand : (hs : List Happening) → Part t whole hs → AllByRecursion (Stands hs) (tr_at t hs).seen
  all_stand =
      all_seen t whole Stands (λ hs s new live. subst (AllByRecursion (λ v. Since hs s.me s.parent s.taken s.runs s.collects v)) (sym new.1) tt)
      (λ hs u rest is s at now. turn_stands hs u rest is s at now) (λ hs n s now. stop_stands hs n s now)
      (λ hs h none s now. other_stands hs h s (λ w same. subst IsNoTurn (sym same) none) now)
