-- In a lawful run where what is told of live branches is what their nodes keep, each branch below a root that has left is told to be live no more,
-- unless its node has just been cut off.
use Rattle.std.proofs.Common.{◌≡◌, ◌≢◌, ℕ, ◌||◌, ◌&&◌, ◌⊎◌, Bool, true, false, if◌then◌else◌, List, [], ◌∷◌, ◌++◌, map, Option, Some, None, inl, inr, refl, sym, ap, subst, subst₂, ◌∙◌}
use Rattle.std.specs.Prelude.{IfSome}
use Rattle.std.specs.List.{list_any}
use Rattle.std.proofs.lemmas.Bool.{or_left}
use Rattle.tran_ids.proofs.BranchLemmas.{same_from_equal}
use Rattle.tran_ids.proofs.ListedLemmas.{item_is}
use Rattle.agreement.specs.Events.{Exit, exit}
use Rattle.session_tree.specs.Live.{is_branch}
use Rattle.node_rules.specs.Data.{BranchId, Kind, Live}
use Rattle.node_rules.specs.Data.kinds
use Rattle.node_rules.specs.Inputs.{Came}
use Rattle.node_rules.specs.Words.{item_at}
use Rattle.node_rules.specs.NodeState.{NodeState, live_id, live_at}
use Rattle.node_rules.specs.Turn.{turn_of, stamped}
use Rattle.run_rules.specs.Births.{Born, births_of}
use Rattle.run_base_laws.specs.BirthLaws.{Began, LiveIs}
use Rattle.run_rules.specs.Branches.{Seen, Trail, seen_id, seen_at, is_among}
use Rattle.run_rules.specs.Data.{Turn, Happening}
use Rattle.run_rules.specs.Data.happenings
use Rattle.run_rules.specs.Facts.{Facts, first_facts, node_at, outcome_at, kept_after, facts_after}
use Rattle.run_rules.specs.Lawful.{MayHappen, MayStop, IsOwed, History, IsLawfulRun}
use Rattle.run_base_laws.specs.NodeLaws.{EachFactFrom}
use Rattle.run_base_laws.specs.RunEvents.{lives_at, events_after, events_from}
use Rattle.run_rules.specs.Trail.{is_quiet, input_drops, recorded_exit, ends_siteless, whole_exit, exit_by, exit_after, with_turn, stopped_by, trail_after}
use Rattle.run_rules.proofs.AtNodeLemmas.{turn_here}
use Rattle.run_base_laws.proofs.BirthRunLemmas.{nodes_name_the_born}
use Rattle.run_base_laws.proofs.EventsStandLemmas.{run_stands, ids_name_their_node}
use Rattle.run_base_laws.proofs.LaterLemmas.{exit_made, later_exit, turn_added, stop_added}
use Rattle.run_base_laws.proofs.LawfulLemmas.{serves}
use Rattle.run_base_laws.proofs.NodeLemmas.{kept_alone}
use Rattle.run_base_laws.proofs.OwnLemmas.{all_found}
use Rattle.run_base_laws.proofs.RootLemmas.{SessionsFit, sessions_keep}
use Rattle.tree_laws.proofs.PrefixLemmas.{so_far, f_at, e_at, one_on, more_on}
use Rattle.tree_laws.proofs.FateLemmas.{among_found}
use Rattle.book_laws.specs.LeaveLaws.{LeavesOn, LeavesDuly}
use Rattle.book_laws.proofs.LeaveLemmas.{branches_leave_duly}
use Rattle.tree_laws.proofs.TimeLemmas.{Part, part_on, part_lawful, may_of, fact_at, born_end, keep_on}
use Rattle.tree_trail_laws.specs.LowerLaws.{IsTracedLive}
use Rattle.tree_trail_laws.proofs.FullLemmas.{Sees, SeesAll}
use Rattle.tree_trail_laws.proofs.MomentLemmas.{tr_at, trail_one_on, at_moment}
use Rattle.tree_trail_laws.proofs.SeenLemmas.{item_mapped, planned, brings, turned, seen_turned}
use Rattle.tree_trail_laws.proofs.LeftExitLemmas.{whole_left, exit_or, stopped_me, stopped_left, stopped_there, none_among, kind_so, abort_so}
use Rattle.tree_trail_laws.proofs.LeftStepLemmas.{Why, By_record, By_quiet, By_abort, By_rollback, By_parent, By_ask, why_on}
use Rattle.tree_trail_laws.proofs.LeftRecordLemmas.{wrote_exit, exit_live}
use Rattle.tree_laws.proofs.AtTurn.{at_turn}
use Rattle.tree_trail_laws.proofs.AtTrail.{at_trail}
use Rattle.tree_trail_laws.proofs.HeardNodeLemmas.{heard_live, heard_fits}

-- What is told of a branch that has left: where it is no root, that it is live no more, or its node has to stop.
pub record IsToldLeft (bs : List Born) (f : Facts) (tr : Trail) (b : BranchId) : Type 0 where
  pub born : Born
  pub began : Began bs born
  pub is_me : born.me ≡ b
  pub seen : Seen
  pub at : seen_at tr b ≡ Some seen
  pub parent : seen.parent ≡ born.parent
  pub left : born.parent ≢ None → ((y : Exit) × (seen.exit ≡ Some y)) ⊎ (f.node_to_stop ≡ Some b.node)

-- ---- every run

module _ (t : History) (whole : IsLawfulRun t) (sees : SeesAll t) where
  -- each branch that has left is told so
  abbrev pub LeftAreTold : List Happening → Type 0
  LeftAreTold hs = (b : BranchId) (x : Exit) → exit (e_at t hs) b ≡ Some x → IsToldLeft (births_of (so_far t hs)) (f_at t hs) (tr_at t hs) b

  module _ (hs : List Happening) (h : Happening) (rest : List Happening) (is : hs ++ h ∷ rest ≡ t.trace) where
    saw : Sees (f_at t hs) (tr_at t hs)
    saw = at_moment t (λ places f tr h. Sees f tr) sees hs h rest is

    part_here : Part t whole hs
    part_here = record { rest = h ∷ rest; is = is }

    born_on : (x : Born) → Began (births_of (so_far t hs)) x → Began (births_of (so_far t (hs ++ h ∷ []))) x
    born_on x began = born_end (so_far t (hs ++ h ∷ [])) (part_lawful t whole (hs ++ h ∷ []) (part_on t whole hs h rest is)) hs (record { rest = h ∷ []; is = refl }) x began

    -- a live branch of a node, as it is told
    pub record LiveTold (n : ℕ) (k : NodeState) (b : BranchId) (z : Live) : Type 0 where
      pub born : Born
      pub began : Began (births_of (so_far t hs)) born
      pub is_me : born.me ≡ b
      pub seen : Seen
      pub at : seen_at (tr_at t hs) b ≡ Some seen
      pub told : IsTracedLive z seen
      pub parent : seen.parent ≡ born.parent
      pub its : z.parent ≡ born.parent
      pub me : seen.me ≡ b
      pub own : b.node ≡ n

    live_told : (n : ℕ) (k : NodeState) → node_at (f_at t hs) n ≡ Some k → (b : BranchId) (z : Live) → live_at k b ≡ Some z → LiveTold n k b z
    live_told n k up b z found =
        let me : z.me ≡ b = item_is live_id k.lives b z found in
        let it = saw.lives n k up z (subst (λ c. live_at k c ≡ Some z) (sym me) found) in
        let placed : LiveIs (Began (births_of (so_far t hs))) z = all_found (LiveIs (Began (births_of (so_far t hs)))) live_id k.lives b z (nodes_name_the_born (so_far t hs) (part_lawful t whole hs part_here) n k up).0 found in
        let at : seen_at (tr_at t hs) b ≡ Some it.0 = subst (λ c. seen_at (tr_at t hs) c ≡ Some it.0) me it.1 in
        let node : z.me.node ≡ n = all_found (λ (l : Live). l.me.node ≡ n) live_id k.lives b z (ids_name_their_node (so_far t hs) (part_lawful t whole hs part_here) n k up).lives found in
        record {
          born = placed.born;
          began = placed.began;
          is_me = placed.is_me ∙ me;
          seen = it.0;
          at = at;
          told = it.2.told;
          parent = it.2.told.parent ∙ sym placed.is_parent;
          its = sym placed.is_parent;
          me = item_is seen_id (tr_at t hs).seen b it.0 at;
          own = sym (ap (λ (c : BranchId). c.node) me) ∙ node;
        }

  -- ---- a turn

  module _ (hs : List Happening) (u : Turn) (rest : List Happening) (is : hs ++ happenings.Turn u ∷ rest ≡ t.trace) (now : LeftAreTold hs) where
    open at_turn t whole hs u rest is use {after as hs1, s as s0, f as f0, g as f1, may, k, p, d}
    open at_trail t hs u use {tr as tr0, tr_on as tr1}

    lawful0 : IsLawfulRun s0
    lawful0 = part_lawful t whole hs (part_here hs (happenings.Turn u) rest is)

    abbrev new : Seen → Seen
    new s = with_turn f0.book u (outcome_at t.places f0 u) (brings t.places f0 tr0 u) s

    abbrev pl : Trail
    pl = planned t.places f0 tr0 u

    abbrev t1 : Seen → Seen
    t1 s = turned t.places f0 tr0 u s

    abbrev IsOut : Seen → Type 0
    IsOut s = (y : Exit) × ((t1 s).exit ≡ Some y)

    abbrev Told : BranchId → Type 0
    Told b = IsToldLeft (births_of (so_far t hs1)) f1 tr1 b

    stays : (b : BranchId) → IsToldLeft (births_of s0) f0 tr0 b → Told b
    stays b it = record {
      born = it.born;
      began = born_on hs (happenings.Turn u) rest is it.born it.began;
      is_me = it.is_me;
      seen = t1 it.seen;
      at = seen_turned t.places f0 tr0 u b it.seen it.at;
      parent = it.parent;
      left = λ below. elim (it.left below) [
        | inl some ↦ inl (some.0, ap (exit_after pl u (brings t.places f0 tr0 u).answer it.seen (new it.seen)) some.1)
        | inr stops ↦ (let none = may.1.settled.upright in absurd (cc (none, stops)))
      ];
    }

    after_is : u.cut ≡ false → node_at f1 u.node ≡ Some d.after
    unfolding turn_of
    after_is cut = (turn_here t.places t.commands f0 (run_stands s0 lawful0).0.even u k may.1.up).0 ∙ ap (λ c. kept_after c (Some (turn_of p k u.input))) cut

    to_stop : u.cut ≡ true → f1.node_to_stop ≡ Some u.node
    unfolding facts_after
    to_stop cut = ap (λ c. if c then Some u.node else None) cut

    wrote_is : u.cut ≡ false → u.wrote ≡ d.wrote
    unfolding turn_of
    wrote_is cut = (subst (λ c. IsOwed p k u.input u.wrote u.sent c) cut may.1.owed).0

    sent_is : u.cut ≡ false → u.sent ≡ map (stamped d.after.clock) d.says
    unfolding turn_of
    sent_is cut = (subst (λ c. IsOwed p k u.input u.wrote u.sent c) cut may.1.owed).1

    fit : SessionsFit k
    fit = kept_alone SessionsFit sessions_keep s0 lawful0 u.node k may.1.up

    -- ---- one that was live as the turn began

    out_recorded : (s : Seen) → s.exit ≡ None → (x : Exit) → recorded_exit s.me u.wrote ≡ Some x → IsOut s
    out_recorded s alive x recorded = (x, ap (exit_after pl u (brings t.places f0 tr0 u).answer s (new s)) alive ∙ ap (exit_by pl u (brings t.places f0 tr0 u).answer s (new s)) recorded)

    out_whole : (s : Seen) → s.exit ≡ None → u.cut ≡ false → (list_any (is_quiet s.me) u.sent || input_drops u.node (brings t.places f0 tr0 u).answer s u.input) ≡ true → IsOut s
    out_whole s alive cut leaves = elim (exit_or (recorded_exit s.me u.wrote)) [
      | inr some ↦ out_recorded s alive some.0 some.1
      | inl none ↦ (let w = whole_left (list_any (is_quiet s.me) u.sent) (input_drops u.node (brings t.places f0 tr0 u).answer s u.input) (ends_siteless pl (new s)) leaves in
          (w.0, ap (exit_after pl u (brings t.places f0 tr0 u).answer s (new s)) alive ∙ (ap (exit_by pl u (brings t.places f0 tr0 u).answer s (new s)) none ∙ (ap (λ c. if c then None else whole_exit pl u (brings t.places f0 tr0 u).answer s (new s)) cut ∙ w.1))))
    ]

    module _ (b : BranchId) (z : Live) (found : live_at k b ≡ Some z) where
      it : LiveTold hs (happenings.Turn u) rest is u.node k b z
      it = live_told hs (happenings.Turn u) rest is u.node k may.1.up b z found

      abbrev s : Seen
      s = it.seen

      z_me : z.me ≡ b
      z_me = item_is live_id k.lives b z found

      s_me : s.me ≡ z.me
      s_me = it.me ∙ sym z_me

      at_z : {from : BranchId} {kind : Kind} → Came u.input from b kind → Came u.input from z.me kind
      at_z {from} {kind} came = subst (λ c. Came u.input from c kind) (sym z_me) came

      out_by : u.cut ≡ false → Why u.input b z d.wrote d.says → IsOut s
      out_by cut (By_record e is) = out_recorded s it.told.live e (subst₂ (λ c w. recorded_exit c w ≡ Some e) (sym it.me) (sym (wrote_is cut)) is)
      out_by cut (By_quiet q said) =
          out_whole s it.told.live cut (or_left (list_any (is_quiet s.me) u.sent) (input_drops u.node (brings t.places f0 tr0 u).answer s u.input)
          (ap (list_any (is_quiet s.me)) (sent_is cut ∙ ap (map (stamped d.after.clock)) said) ∙ ap (λ q. (q && true) || false) (same_from_equal b s.me (sym it.me))))
      out_by cut (By_abort from sb answers) = out_whole s it.told.live cut (abort_so u.node (brings t.places f0 tr0 u).answer u.input u.sent z s s_me it.told from sb answers)
      out_by cut (By_rollback from came) = (let at = at_z came in out_whole s it.told.live cut (kind_so u.node (brings t.places f0 tr0 u).answer u.input u.sent z s s_me it.told from at.scn kinds.Rollback at.is refl))
      out_by cut (By_parent from came above) =
          (let at = at_z came in out_whole s it.told.live cut (kind_so u.node (brings t.places f0 tr0 u).answer u.input u.sent z s s_me it.told from at.scn kinds.RolledBack at.is (ap (is_branch from) it.told.parent ∙ above)))
      out_by cut (By_ask from came above) =
          (let at = at_z came in out_whole s it.told.live cut (kind_so u.node (brings t.places f0 tr0 u).answer u.input u.sent z s s_me it.told from at.scn kinds.Ask at.is (ap (is_branch from) it.told.parent ∙ above)))

      -- it left by the record, or is not among those that are live
      out : z.parent ≢ None → ((x : Exit) × (recorded_exit b u.wrote ≡ Some x)) ⊎ (is_among b (lives_at (node_at f1 u.node)) ≡ false) → IsOut s ⊎ (f1.node_to_stop ≡ Some b.node)
      out below (inl recorded) = inl (out_recorded s it.told.live recorded.0 (subst (λ c. recorded_exit c u.wrote ≡ Some recorded.0) (sym it.me) recorded.1))
      out below (inr gone) = by u.cut refl
        where
          by : (cut : Bool) → u.cut ≡ cut → IsOut s ⊎ (f1.node_to_stop ≡ Some b.node)
          by true cut = inr (to_stop cut ∙ ap Some (sym it.own))
          by false cut =
              let none : live_at d.after b ≡ None = none_among d.after.lives b (subst (λ o. is_among b (lives_at o) ≡ false) (after_is cut) gone) in
              inl (out_by cut (why_on u.input b z p below (serves t.places f0 u k may.1).step (heard_fits k fit u.input) (heard_live k u.input b ∙ found) none))

      left_now : ((x : Exit) × (recorded_exit b u.wrote ≡ Some x)) ⊎ (is_among b (lives_at (node_at f1 u.node)) ≡ false) → Told b
      left_now how = record {
        born = it.born;
        began = born_on hs (happenings.Turn u) rest is it.born it.began;
        is_me = it.is_me;
        seen = t1 s;
        at = seen_turned t.places f0 tr0 u b s it.at;
        parent = it.parent;
        left = λ below. out (λ none. below (sym it.its ∙ none)) how;
      }

    leaves : IfSome u.wrote (LeavesOn k.lives u.input)
    leaves =
        let all : LeavesDuly f0 (happenings.Turn u) = fact_at t.places t.commands LeavesDuly (first_facts t.places) hs (happenings.Turn u) rest
        (subst (EachFactFrom LeavesDuly t.places t.commands (first_facts t.places)) (sym is) (branches_leave_duly t whole)) in
        all k may.1.up

    turn_left : (b : BranchId) (x : Exit) → exit (events_after t.places t.commands f0 (happenings.Turn u) (e_at t hs)) b ≡ Some x → Told b
    turn_left b x some = elim (exit_or (exit (e_at t hs) b)) [
      | inr old ↦ stays b (now b old.0 old.1)
      | inl none ↦ elim (exit_made b x (turn_added f0 f1 u (e_at t hs)) some) [
        | inl there ↦ (let recorded = wrote_exit u.node (e_at t hs) b u.wrote x none there in
            let l = exit_live k.lives u.input b u.wrote x recorded leaves in
            left_now b l.0 l.1 (inl (x, recorded)))
        | inr made ↦ (let so = later_exit b made.0 x made.1 made.2 in
            let l = among_found k.lives b (subst (λ o. is_among b (lives_at o) ≡ true) may.1.up so.0) in
            left_now b l.0 l.1 (inr so.1))
      ]
    ]

  -- ---- other happenings

  module _ (hs : List Happening) (h : Happening) (rest : List Happening) (is : hs ++ h ∷ rest ≡ t.trace) where
    keeps : (g : Facts) (tr : Trail) → g.node_to_stop ≡ (f_at t hs).node_to_stop → tr.seen ≡ (tr_at t hs).seen → (b : BranchId) → IsToldLeft (births_of (so_far t hs)) (f_at t hs) (tr_at t hs) b
        → IsToldLeft (births_of (so_far t (hs ++ h ∷ []))) g tr b
    keeps g tr stop seen b it = record {
      born = it.born;
      began = born_on hs h rest is it.born it.began;
      is_me = it.is_me;
      seen = it.seen;
      at = ap (λ xs. item_at seen_id xs b) seen ∙ it.at;
      parent = it.parent;
      left = λ below. elim (it.left below) [ inl some ↦ inl some | inr stops ↦ inr (stop ∙ stops) ];
    }

  module _ (hs : List Happening) (n : ℕ) (rest : List Happening) (is : hs ++ happenings.Stopped n ∷ rest ≡ t.trace) (now : LeftAreTold hs) where
    abbrev g1 : Facts
    g1 = facts_after t.places t.commands (f_at t hs) (happenings.Stopped n)

    abbrev r1 : Trail
    r1 = trail_after t.places (f_at t hs) (tr_at t hs) (happenings.Stopped n)

    may_stop : MayHappen t.places t.commands (f_at t hs) (happenings.Stopped n)
    may_stop = may_of t whole hs (happenings.Stopped n) rest is

    found_stopped : (b : BranchId) (s : Seen) → seen_at (tr_at t hs) b ≡ Some s → seen_at r1 b ≡ Some (stopped_by n s)
    unfolding trail_after
    found_stopped b s at = item_mapped seen_id (stopped_by n) (λ s. (stopped_me n s).0) (tr_at t hs).seen b s at

    told_stopped : (b : BranchId) (x : Born) (s : Seen) → Began (births_of (so_far t hs)) x → x.me ≡ b → seen_at (tr_at t hs) b ≡ Some s → s.parent ≡ x.parent → (x.parent ≢ None → (y : Exit) × ((stopped_by n s).exit ≡ Some y))
        → IsToldLeft (births_of (so_far t (hs ++ happenings.Stopped n ∷ []))) g1 r1 b
    told_stopped b x s began me at parent out = record {
      born = x;
      began = born_on hs (happenings.Stopped n) rest is x began;
      is_me = me;
      seen = stopped_by n s;
      at = found_stopped b s at;
      parent = (stopped_me n s).1 ∙ parent;
      left = λ below. inl (out below);
    }

    stop_left : (b : BranchId) (x : Exit) → exit (events_after t.places t.commands (f_at t hs) (happenings.Stopped n) (e_at t hs)) b ≡ Some x → IsToldLeft (births_of (so_far t (hs ++ happenings.Stopped n ∷ []))) g1 r1 b
    stop_left b x some = elim (exit_made b x (stop_added (f_at t hs) g1 n (e_at t hs)) some) [
      | inl old ↦ (let it = now b x old in told_stopped b it.born it.seen it.began it.is_me it.at it.parent
          (λ below. elim (it.left below) [
            | inl left ↦ stopped_left n it.seen left.0 left.1
            | inr stops ↦ (let here : b.node ≡ n = (subst (MayStop (f_at t hs) n) stops may_stop.1).1 in
                stopped_there n it.seen (ap (λ (c : BranchId). c.node) (item_is seen_id (tr_at t hs).seen b it.seen it.at) ∙ here))
          ]))
      | inr made ↦ by (node_at (f_at t hs) n) refl (later_exit b made.0 x made.1 made.2).0
    ]
      where
        by : (o : Option NodeState) → node_at (f_at t hs) n ≡ o → is_among b (lives_at (node_at (f_at t hs) n)) ≡ true → IsToldLeft (births_of (so_far t (hs ++ happenings.Stopped n ∷ []))) g1 r1 b
        by None down among = (let none : is_among b (lives_at (node_at (f_at t hs) n)) ≡ false = ap (λ o. is_among b (lives_at o)) down in absurd (cc (none, among)))
        by (Some k) up among =
            let l = among_found k.lives b (subst (λ o. is_among b (lives_at o) ≡ true) up among) in
            let it = live_told hs (happenings.Stopped n) rest is n k up b l.0 l.1 in
            told_stopped b it.born it.seen it.began it.is_me it.at it.parent (λ below. stopped_there n it.seen (ap (λ (c : BranchId). c.node) it.me ∙ it.own))

  left_after : (hs : List Happening) (h : Happening) (rest : List Happening) → hs ++ h ∷ rest ≡ t.trace → LeftAreTold hs → (b : BranchId) (x : Exit)
      → exit (events_after t.places t.commands (f_at t hs) h (e_at t hs)) b ≡ Some x → IsToldLeft (births_of (so_far t (hs ++ h ∷ []))) (facts_after t.places t.commands (f_at t hs) h) (trail_after t.places (f_at t hs) (tr_at t hs) h) b
  unfolding facts_after trail_after
  left_after hs (happenings.Turn u) rest is now b x some = turn_left hs u rest is now b x some
  left_after hs (happenings.Stopped n) rest is now b x some = stop_left hs n rest is now b x some
  left_after hs (happenings.Started n boot) rest is now b x some = keeps hs (happenings.Started n boot) rest is _ _ refl refl b (now b x some)
  left_after hs (happenings.Begun c) rest is now b x some = keeps hs (happenings.Begun c) rest is _ _ refl refl b (now b x some)
  left_after hs (happenings.Cut y z) rest is now b x some = keeps hs (happenings.Cut y z) rest is _ _ refl refl b (now b x some)
  left_after hs (happenings.Join y z) rest is now b x some = keeps hs (happenings.Join y z) rest is _ _ refl refl b (now b x some)
  left_after hs (happenings.Lost k) rest is now b x some = keeps hs (happenings.Lost k) rest is _ _ refl refl b (now b x some)

  left_on : (hs : List Happening) (h : Happening) (rest : List Happening) → hs ++ h ∷ rest ≡ t.trace → LeftAreTold hs → LeftAreTold (hs ++ h ∷ [])
  left_on hs h rest is now b x some =
      subst₂ (λ f tr. IsToldLeft (births_of (so_far t (hs ++ h ∷ []))) f tr b) (sym (one_on t hs h)) (sym (trail_one_on t hs h)) (left_after hs h rest is now b x (subst (λ e. exit e b ≡ Some x) (more_on t hs h) some))

  left_first : LeftAreTold []
  unfolding events_from
  left_first b x some = absurd cc

  pub left_are_told : (hs : List Happening) → Part t whole hs → LeftAreTold hs
  left_are_told hs part = keep_on t whole LeftAreTold left_on [] hs part left_first
