-- In every lawful run each branch that is gone without changes is told so, and each ReadOnly is said where neither its sender nor a branch
-- below it has changes.
use Rattle.std.specs.Prelude.{nat_le}
use Rattle.std.proofs.Common.{flat_map, filter, ◌≡◌, ◌≢◌, ℕ, suc, ◌≤◌, ◌⊎◌, Bool, true, false, if◌then◌else◌, nat_lt, length, List, [], ◌∷◌, ◌++◌, Option, Some, None, inl, inr, refl, sym, ap, subst, subst₂, ◌∙◌, arith}
use Rattle.std.specs.List.{AllByRecursion}
use Rattle.std.proofs.lemmas.Bool.{lt-ltb}
use Rattle.tran_ids.proofs.ListedLemmas.{item_is}
use Rattle.agreement.specs.Events.{Event, Exit, Quiet, Dropped, exit}
use Rattle.session_tree.specs.Live.{children_of}
use Rattle.node_rules.specs.Data.{BranchId, Change, Kind, Live, Msg, Stmt}
use Rattle.node_rules.specs.Data.inputs
use Rattle.node_rules.specs.Data.kinds
use Rattle.node_rules.specs.Words.{is_item_of, item_at}
use Rattle.node_rules.specs.NodeState.{live_id, live_at}
use Rattle.node_rules.specs.Prepare.{own_changes}
use Rattle.node_rules.specs.Turn.{turn_of}
use Rattle.run_rules.specs.Births.{Born, births_of, born_id}
use Rattle.run_rules.specs.Branches.{Ran, Seen, Trail, seen_id, seen_at, is_live_at}
use Rattle.run_key_laws.specs.ChangedLaws.{has_changes}
use Rattle.run_rules.specs.Data.{Turn, Happening}
use Rattle.run_rules.specs.Data.happenings
use Rattle.run_base_laws.specs.EventLaws.{EachEventFrom}
use Rattle.run_rules.specs.Facts.{first_facts, node_at, kept_after}
use Rattle.run_rules.specs.Lawful.{IsOwed, History, IsLawfulRun}
use Rattle.run_base_laws.specs.RunEvents.{lives_at, events_after, events_of, events_from}
use Rattle.run_rules.specs.Runs.{run_in}
use Rattle.run_rules.specs.Trail.{runs_for, children_after, stopped_by, trail_after, runs_with, runs_back, step_back, taken_after}
use Rattle.run_rules.proofs.AtNodeLemmas.{turn_here}
use Rattle.run_key_laws.proofs.ChangedLemmas.{changes_are_of_live}
use Rattle.run_base_laws.proofs.EventsStandLemmas.{run_stands, nodes_are_as_events}
use Rattle.run_rules.proofs.ListLemmas.{all_weaker}
use Rattle.run_base_laws.proofs.OwnLemmas.{all_found}
use Rattle.tree_laws.specs.WeightLaws.{NodesWeigh}
use Rattle.tree_laws.proofs.PrefixLemmas.{f_at, e_at, one_on, more_on}
use Rattle.tree_laws.proofs.VoterRunLemmas.{voters_weigh}
use Rattle.tree_laws.proofs.LeaveLemmas.{all_quiet}
use Rattle.tree_laws.proofs.TimeLemmas.{Part, each_at, exit_on, keep_on}
use Rattle.tree_trail_laws.proofs.CallLemmas.{call_free}
use Rattle.tree_trail_laws.proofs.ChildRunLemmas.{tells_at}
use Rattle.tree_trail_laws.proofs.ChildStepLemmas.{stamped_calls}
use Rattle.tree_trail_laws.proofs.ChildTurnLemmas as kids
use Rattle.tree_trail_laws.proofs.FullLemmas.{Sees, SeesAll, full}
use Rattle.tree_trail_laws.proofs.MomentLemmas.{tr_at, trail_one_on, at_moment, by_moment}
use Rattle.tree_trail_laws.proofs.OwnKnowLemmas.{own_unrun}
use Rattle.tree_trail_laws.proofs.PlanLemmas.{find_more}
use Rattle.tree_trail_laws.proofs.SeenLemmas.{item_mapped, brings, turned, seen_turned}
use Rattle.tree_trail_laws.proofs.SeenRunLemmas.{all_is_seen}
use Rattle.tree_trail_laws.proofs.TopSeqLemmas.{births_high}
use Rattle.run_cause_laws.specs.QuietLaws.{MaySayReadOnly, SaysReadOnlyDuly, ReadOnlyIsDue}
use Rattle.tree_trail_laws.proofs.LeftLemmas.{IsToldLeft, left_are_told}
use Rattle.run_cause_laws.proofs.QuietAskLemmas.{run_none, own_of_left}
use Rattle.run_cause_laws.proofs.QuietStepLemmas.{Quits, QuitsBy, sent_quits, quits_so}
use Rattle.run_cause_laws.proofs.QuietTreeLemmas.{IsQuiet, all_numbered, no_changes}
use Rattle.tree_laws.proofs.AtTurn.{at_turn}
use Rattle.tree_trail_laws.proofs.AtTrail.{at_trail}

pub exit_or : (o : Option Exit) → (o ≡ None) ⊎ ((y : Exit) × (o ≡ Some y))
exit_or None = inl refl
exit_or (Some y) = inr (y, refl)

none_some : (cs : List Change) → nat_lt 0 (length cs) ≡ false → cs ≡ []
none_some [] none = refl
none_some (c ∷ cs) none = (let some : nat_lt 0 (suc (length cs)) ≡ true = lt-ltb 0 (suc (length cs)) (omega arith) in absurd (cc (some, none)))

-- ---- runs without changes

abbrev changes_of : List Ran → List Change
changes_of rs = flat_map (λ (r : Ran). r.changes) rs

both_empty : (xs ys : List Change) → xs ++ ys ≡ [] → (xs ≡ []) × (ys ≡ [])
both_empty [] ys none = (refl, none)
both_empty (x ∷ xs) ys none = absurd cc

-- fewer have none either
fewer_none : (p : Ran → Bool) (rs : List Ran) → changes_of rs ≡ [] → changes_of (filter p rs) ≡ []
fewer_none p [] none = refl
fewer_none p (r ∷ rs) none = let parts = both_empty r.changes (changes_of rs) none in by (p r) parts.0 (fewer_none p rs parts.1)
  where
    by : (q : Bool) → r.changes ≡ [] → changes_of (filter p rs) ≡ [] → changes_of (if q then r ∷ filter p rs else filter p rs) ≡ []
    by true first later = ap (λ xs. xs ++ changes_of (filter p rs)) first ∙ later
    by false first later = later

back_none : (o : Option ℕ) (rs : List Ran) → changes_of rs ≡ [] → changes_of (runs_back o rs) ≡ []
back_none None rs none = none
back_none (Some step) rs none = fewer_none (λ r. nat_le r.step step) rs none

-- a stop leaves the children and the runs of a branch
stopped_same : (n : ℕ) (s : Seen) → ((stopped_by n s).me ≡ s.me) × ((stopped_by n s).parent ≡ s.parent) × ((stopped_by n s).runs ≡ s.runs) × ((stopped_by n s).children ≡ s.children)
stopped_same n s = by (is_live_at n s)
  where
    by : (q : Bool) → ((if q then record s { exit = Some Dropped } else s).me ≡ s.me) × ((if q then record s { exit = Some Dropped } else s).parent ≡ s.parent) × ((if q then record s { exit = Some Dropped } else s).runs ≡ s.runs)
        × ((if q then record s { exit = Some Dropped } else s).children ≡ s.children)
    by true = (refl, refl, refl, refl)
    by false = (refl, refl, refl, refl)

-- later events leave it so
quiet_later : (e g : List Event) (tr : Trail) → ((c : BranchId) → exit e c ≡ Some Quiet → exit g c ≡ Some Quiet) → (b : BranchId) → IsQuiet e tr b → IsQuiet g tr b
quiet_later e g tr later b it = record {
  seen = it.seen;
  at = it.at;
  below = it.below;
  own = it.own;
  kids = all_weaker (λ c. exit e c ≡ Some Quiet) (λ c. exit g c ≡ Some Quiet) later it.seen.children it.kids;
}

module _ (t : History) (whole : IsLawfulRun t) where
  -- each branch that is gone without changes is told so
  abbrev pub QuietsAreTold : List Happening → Type 0
  QuietsAreTold hs = (b : BranchId) → exit (e_at t hs) b ≡ Some Quiet → IsQuiet (e_at t hs) (tr_at t hs) b

  sees : SeesAll t
  sees = full t whole (all_is_seen t whole)

  -- ---- a turn

  module _ (hs : List Happening) (u : Turn) (rest : List Happening) (is : hs ++ happenings.Turn u ∷ rest ≡ t.trace) where
    open at_turn t whole hs u rest is use {after as hs1, part as part0, s as s0, s_after as s1, lawful as lawful0, lawful_after as lawful1, f as f0, g as f1, e as e0, may, k, p, d}
    open at_trail t hs u use {tr as tr0, tr_on as tr1, begun_tr as trb}

    abbrev e1 : List Event
    e1 = events_after t.places t.commands f0 (happenings.Turn u) e0

    saw : Sees f0 tr0
    saw = at_moment t (λ places f tr h. Sees f tr) sees hs (happenings.Turn u) rest is

    weigh : NodesWeigh f0 e0 (happenings.Turn u)
    weigh = each_at t.places t.commands NodesWeigh (first_facts t.places) hs (happenings.Turn u) rest [] (subst (EachEventFrom NodesWeigh t.places t.commands (first_facts t.places) []) (sym is) (voters_weigh t whole))

    later : (b : BranchId) → exit e0 b ≡ Some Quiet → exit e1 b ≡ Some Quiet
    later b gone = exit_on t.places t.commands f0 (happenings.Turn u) e0 b Quiet gone

    abbrev QuitsNow : BranchId → Type 0
    QuitsNow b = Quits t hs lawful0 u k may.1 weigh b

    -- ---- one that says ReadOnly now

    quit_told : (b : BranchId) → QuitsNow b → IsQuiet e0 tr0 b
    quit_told b q =
        let z : Live = q.live in
        let it = saw.lives u.node k may.1.up z q.found in
        let s : Seen = it.0 in
        let marked : z.changed ≡ has_changes (own_changes k z.me) = (changes_are_of_live s0 lawful0 u.node k may.1.up).marked z.me z q.found in
        let none : own_changes k z.me ≡ [] = none_some (own_changes k z.me) (sym marked ∙ q.unchanged) in
        record {
          seen = s;
          at = subst (λ c. seen_at tr0 c ≡ Some s) q.is_me it.1;
          below = λ root. q.below (sym it.2.told.parent ∙ root);
          own = it.2.own ∙ none;
          kids = subst (AllByRecursion (λ c. exit e0 c ≡ Some Quiet)) (sym it.2.told.children) (all_numbered (λ c. exit e0 c ≡ Some Quiet) (children_of z) q.kids);
        }

    -- ---- one that is gone sends no Exec

    gone_after : (b : BranchId) → exit e1 b ≡ Some Quiet → u.cut ≡ false → live_at d.after b ≡ None
    unfolding turn_of
    gone_after b gone cut = by (live_at d.after b) refl
      where
        after_is : node_at f1 u.node ≡ Some d.after
        after_is = (turn_here t.places t.commands f0 (run_stands s0 lawful0).0.even u k may.1.up).0 ∙ ap (λ c. kept_after c (Some (turn_of p k u.input))) cut

        by : (o : Option Live) → live_at d.after b ≡ o → o ≡ None
        by None none = refl
        by (Some l) found =
            let me : l.me ≡ b = item_is live_id d.after.lives b l found in
            let none : exit (events_of s1) l.me ≡ None = all_found (λ (y : Live). exit (events_of s1) y.me ≡ None) live_id d.after.lives b l (nodes_are_as_events s1 lawful1 u.node d.after (ap (λ f. node_at f u.node) (one_on t hs (happenings.Turn u)) ∙ after_is)).0 found in
            let left : exit (events_of s1) b ≡ Some Quiet = subst (λ e. exit e b ≡ Some Quiet) (sym (more_on t hs (happenings.Turn u))) gone in
            let stays : exit (events_of s1) b ≡ None = subst (λ c. exit (events_of s1) c ≡ None) me none in
            absurd (cc (left, stays))

    children_stay : (b : BranchId) → exit e1 b ≡ Some Quiet → (cs : List BranchId) → children_after b cs u.sent ≡ cs
    unfolding turn_of
    children_stay b gone cs = by u.cut refl may.1.owed
      where
        by : (cut : Bool) → u.cut ≡ cut → IsOwed p k u.input u.wrote u.sent cut → children_after b cs u.sent ≡ cs
        by true is_cut owed = ap (children_after b cs) owed.1
        by false is_cut owed = ap (children_after b cs) owed.1 ∙ (stamped_calls b d.after.clock cs d.says ∙ (kids.grown t whole hs u rest is (tells_at t whole hs part0)).1 b cs (gone_after b gone is_cut))

    -- ---- what is told of it afterwards

    abbrev OwnStays : Seen → Type 0
    OwnStays s = runs_with (runs_for s (run_in f0 trb u) (brings t.places f0 tr0 u).answer) f0.book (taken_after u.node s u.input) s (run_in f0 trb u) ≡ s.runs

    told_after : (b : BranchId) → exit e1 b ≡ Some Quiet → (it : IsQuiet e0 tr0 b) → OwnStays it.seen → IsQuiet e1 tr1 b
    told_after b gone it own =
        let me : it.seen.me ≡ b = item_is seen_id tr0.seen b it.seen it.at in
        let same : children_after it.seen.me it.seen.children u.sent ≡ it.seen.children = ap (λ c. children_after c it.seen.children u.sent) me ∙ children_stay b gone it.seen.children in
        record {
          seen = turned t.places f0 tr0 u it.seen;
          at = seen_turned t.places f0 tr0 u b it.seen it.at;
          below = it.below;
          own = back_none (step_back it.seen.me (brings t.places f0 tr0 u).back)
              (runs_with (runs_for it.seen (run_in f0 trb u) (brings t.places f0 tr0 u).answer) f0.book (taken_after u.node it.seen u.input) it.seen (run_in f0 trb u)) (ap changes_of own ∙ it.own);
          kids = subst (AllByRecursion (λ c. exit e1 c ≡ Some Quiet)) (sym same) (all_weaker (λ c. exit e0 c ≡ Some Quiet) (λ c. exit e1 c ≡ Some Quiet) later it.seen.children it.kids);
        }

    new_quiet : (b : BranchId) → exit e0 b ≡ None → exit e1 b ≡ Some Quiet → IsQuiet e1 tr1 b
    new_quiet b none gone =
        let q : QuitsNow b = quits_so t hs lawful0 u k may.1 weigh b none gone in
        let it : IsQuiet e0 tr0 b = quit_told b q in
        told_after b gone it (own_unrun f0.book (taken_after u.node it.seen u.input) it.seen (run_in f0 trb u) (brings t.places f0 tr0 u).answer (run_none f0 trb u (q.unasked trb)))

    low : (m : ℕ) (o : Option Stmt) → u.input ≡ inputs.Call m o → m ≤ 64
    low m o call = (call_free f0 k u.node u.input u.took m o call may.1.comes).0.1

    old_quiet : (b : BranchId) → exit e0 b ≡ Some Quiet → IsQuiet e0 tr0 b → IsQuiet e1 tr1 b
    old_quiet b gone it = told_after b (later b gone) it own
      where
        s : Seen
        s = it.seen

        me : s.me ≡ b
        me = item_is seen_id tr0.seen b s it.at

        told : IsToldLeft (births_of s0) f0 tr0 b
        told = left_are_told t whole sees hs part0 b Quiet gone

        one : told.seen ≡ s
        one = (let both : Some told.seen ≡ Some s = sym told.at ∙ it.at in cc)

        below : told.born.parent ≢ None
        below root = it.below (ap (λ (x : Seen). x.parent) (sym one) ∙ (told.parent ∙ root))

        left : (y : Exit) × (s.exit ≡ Some y)
        left = elim (told.left below) [
          | inl some ↦ (some.0, ap (λ (x : Seen). x.exit) (sym one) ∙ some.1)
          | inr stops ↦ (let none = may.1.settled.upright in absurd (cc (none, stops)))
        ]

        high : 65 ≤ s.me.session
        high =
            let born_high : 65 ≤ told.born.me.session = all_found (λ (x : Born). x.parent ≢ None → 65 ≤ x.me.session) born_id (births_of s0) told.born.me told.born (births_high s0) told.began below in
            subst (λ (c : BranchId). 65 ≤ c.session) (told.is_me ∙ sym me) born_high

        at_begun : seen_at trb s.me ≡ Some s
        at_begun = subst (λ c. seen_at trb c ≡ Some s) (sym me) (find_more (is_item_of seen_id b) tr0.seen _ s it.at)

        own : OwnStays s
        own = own_of_left trb s at_begun left.0 left.1 high f0 u low f0.book (taken_after u.node s u.input) (brings t.places f0 tr0 u).answer

    turn_quiet : QuietsAreTold hs → (b : BranchId) → exit e1 b ≡ Some Quiet → IsQuiet e1 tr1 b
    turn_quiet now b gone = elim (exit_or (exit e0 b)) [
      | inl none ↦ new_quiet b none gone
      | inr old ↦ (let on : exit e1 b ≡ Some old.0 = exit_on t.places t.commands f0 (happenings.Turn u) e0 b old.0 old.1 in
          let both : Some old.0 ≡ Some Quiet = sym on ∙ gone in
          let one : old.0 ≡ Quiet = cc in
          let was : exit e0 b ≡ Some Quiet = old.1 ∙ ap Some one in
          old_quiet b was (now b was))
    ]

    -- ---- each ReadOnly of it

    said_so : QuietsAreTold hs → (from : BranchId) (kind : Kind) → QuitsBy t hs lawful0 u k may.1 weigh from kind → MaySayReadOnly tr0 from kind
    said_so now from kinds.ReadOnly quits = no_changes e0 tr0 now from (quit_told from (quits refl))
    said_so now from _ quits = tt

    pub turn_says : QuietsAreTold hs → SaysReadOnlyDuly t.places f0 tr0 (happenings.Turn u)
    turn_says now =
        all_weaker (λ (m : Msg). QuitsBy t hs lawful0 u k may.1 weigh m.from m.kind) (λ (m : Msg). MaySayReadOnly tr0 m.from m.kind) (λ m quits. said_so now m.from m.kind quits) u.sent
        (sent_quits t hs lawful0 u k may.1 weigh)

  -- ---- other happenings

  stop_quiet : (hs : List Happening) (n : ℕ) → QuietsAreTold hs → (b : BranchId) → exit (events_after t.places t.commands (f_at t hs) (happenings.Stopped n) (e_at t hs)) b ≡ Some Quiet
      → IsQuiet (events_after t.places t.commands (f_at t hs) (happenings.Stopped n) (e_at t hs)) (trail_after t.places (f_at t hs) (tr_at t hs) (happenings.Stopped n)) b
  unfolding trail_after
  stop_quiet hs n now b gone = elim (all_quiet [] [] (lives_at (node_at (f_at t hs) n)) b (e_at t hs) gone) [
    | inl was ↦ (let it : IsQuiet (e_at t hs) (tr_at t hs) b = now b was in
        let same = stopped_same n it.seen in
        record {
          seen = stopped_by n it.seen;
          at = item_mapped seen_id (stopped_by n) (λ s. (stopped_same n s).0) (tr_at t hs).seen b it.seen it.at;
          below = λ root. it.below (sym same.1 ∙ root);
          own = ap changes_of same.2 ∙ it.own;
          kids = subst (AllByRecursion (λ c. exit (events_after t.places t.commands (f_at t hs) (happenings.Stopped n) (e_at t hs)) c ≡ Some Quiet)) (sym same.3)
              (all_weaker (λ c. exit (e_at t hs) c ≡ Some Quiet) (λ c. exit (events_after t.places t.commands (f_at t hs) (happenings.Stopped n) (e_at t hs)) c ≡ Some Quiet)
              (λ c was. exit_on t.places t.commands (f_at t hs) (happenings.Stopped n) (e_at t hs) c Quiet was) it.seen.children it.kids);
        })
    | inr said ↦ absurd cc
  ]

  same_seen : (e : List Event) (tr r : Trail) → r.seen ≡ tr.seen → (b : BranchId) → IsQuiet e tr b → IsQuiet e r b
  same_seen e tr r seen b it = record { seen = it.seen; at = ap (λ xs. item_at seen_id xs b) seen ∙ it.at; below = it.below; own = it.own; kids = it.kids }

  quiet_after : (hs : List Happening) (h : Happening) (rest : List Happening) → hs ++ h ∷ rest ≡ t.trace → QuietsAreTold hs → (b : BranchId) → exit (events_after t.places t.commands (f_at t hs) h (e_at t hs)) b ≡ Some Quiet
      → IsQuiet (events_after t.places t.commands (f_at t hs) h (e_at t hs)) (trail_after t.places (f_at t hs) (tr_at t hs) h) b
  unfolding trail_after
  quiet_after hs (happenings.Turn u) rest is now b gone = turn_quiet hs u rest is now b gone
  quiet_after hs (happenings.Stopped n) rest is now b gone = stop_quiet hs n now b gone
  quiet_after hs (happenings.Started n boot) rest is now b gone = same_seen (e_at t hs) (tr_at t hs) _ refl b (now b gone)
  quiet_after hs (happenings.Begun c) rest is now b gone = same_seen (e_at t hs) (tr_at t hs) _ refl b (now b gone)
  quiet_after hs (happenings.Cut y z) rest is now b gone = same_seen (e_at t hs) (tr_at t hs) _ refl b (now b gone)
  quiet_after hs (happenings.Join y z) rest is now b gone = same_seen (e_at t hs) (tr_at t hs) _ refl b (now b gone)
  quiet_after hs (happenings.Lost k) rest is now b gone = same_seen (e_at t hs) (tr_at t hs) _ refl b (now b gone)

  quiet_on : (hs : List Happening) (h : Happening) (rest : List Happening) → hs ++ h ∷ rest ≡ t.trace → QuietsAreTold hs → QuietsAreTold (hs ++ h ∷ [])
  quiet_on hs h rest is now b gone =
      subst₂ (λ e tr. IsQuiet e tr b) (sym (more_on t hs h)) (sym (trail_one_on t hs h)) (quiet_after hs h rest is now b (subst (λ e. exit e b ≡ Some Quiet) (more_on t hs h) gone))

  quiet_first : QuietsAreTold []
  unfolding events_from
  quiet_first b gone = absurd cc

  pub quiets_are_told : (hs : List Happening) → Part t whole hs → QuietsAreTold hs
  quiets_are_told hs part = keep_on t whole QuietsAreTold quiet_on [] hs part quiet_first

  says_at : (hs : List Happening) (h : Happening) (rest : List Happening) → hs ++ h ∷ rest ≡ t.trace → SaysReadOnlyDuly t.places (f_at t hs) (tr_at t hs) h
  says_at hs (happenings.Turn u) rest is = turn_says hs u rest is (quiets_are_told hs (record { rest = happenings.Turn u ∷ rest; is = is }))
  says_at hs _ rest is = tt

pub read_only_is_due : ReadOnlyIsDue
read_only_is_due t whole = by_moment t SaysReadOnlyDuly (says_at t whole)
