-- In every lawful run no branch of the transaction of an undisturbed COMMIT says Abort, and none below the root is dropped. So its collect
-- is over at the end, and its root is live no more.
use Rattle.std.proofs.Common.{◌≡◌, ◌≢◌, true, false, List, [], ◌∷◌, ◌++◌, Some, None, inl, inr, refl, sym, ap, subst, ◌∙◌, append-nil}
use Rattle.agreement.specs.Events.{Event, Dropped, exit}
use Rattle.node_rules.specs.Data.kinds
use Rattle.run_rules.specs.Births.{Born, births_of}
use Rattle.run_base_laws.specs.BirthLaws.{Began}
use Rattle.run_rules.specs.Data.{Packet, Happening}
use Rattle.run_rules.specs.Data.happenings
use Rattle.run_rules.specs.Facts.{node_at, facts_after, facts_of}
use Rattle.run_rules.specs.Lawful.{MayHappen, History, IsLawfulRun, facts_at}
use Rattle.run_base_laws.specs.RunEvents.{events_after, events_from}
use Rattle.run_rules.specs.Trail.{is_abort}
use Rattle.run_base_laws.proofs.LaterLemmas.{exit_made, later_exit, stop_added}
use Rattle.run_rules.proofs.ListLemmas.{all_weaker}
use Rattle.run_base_laws.proofs.NodesStandLemmas.{some_or_none}
use Rattle.run_base_laws.proofs.SaidLemmas.{sent_after}
use Rattle.tree_laws.proofs.PrefixLemmas.{f_at, one_on, more_on}
use Rattle.tree_laws.proofs.TimeLemmas.{exit_on, keep_on}
use Rattle.commit_laws.specs.StillLaws.{DroppedNone, AbortsNone}
use Rattle.run_claims.specs.Undisturbed.{Commit, Undisturbed}
use Rattle.commit_laws.specs.WaitLaws.{NodeHasStopped}
use Rattle.commit_laws.proofs.RootLemmas.{undisturbed_roots_leave}
use Rattle.commit_laws.proofs.StillLemmas.{never_stopped, undisturbed_collects_end}
use Rattle.commit_laws.proofs.StopLemmas.{stop_stops, stopped_end}
use Rattle.commit_spread_laws.specs.StayLaws.{UndisturbedDropsNone, UndisturbedAbortsNone, UndisturbedCollectsAreOver, UndisturbedRootsAreGone}
use Rattle.commit_spread_laws.proofs.TreeLemmas.{NoneAborts, NobodyAborts, DropsNone, Stays}
use Rattle.commit_spread_laws.proofs.TurnStayLemmas.{among_node, sends_none, turn_stops}
use Rattle.tree_laws.proofs.AtTurn.{at_happening}

module _ (t : History) (whole : IsLawfulRun t) (c : Commit t.places t.commands t.trace) (u : Undisturbed t.places t.commands t.trace c) where
  abbrev bs : List Born
  bs = births_of t

  module _ (hs : List Happening) (h : Happening) (rest : List Happening) (is : hs ++ h ∷ rest ≡ t.trace) (now : Stays t c hs) where
    open at_happening t whole hs h rest is use {f, e, after, part_after as part_z, may as may_h}

    -- a branch that one drops
    drop_stops : (y : Happening) → h ≡ y → MayHappen t.places t.commands f y → (x : Born) → Began bs x → x.root ≡ c.root → x.parent ≢ None → exit e x.me ≡ None → exit (events_after t.places t.commands f y e) x.me ≡ Some Dropped → NodeHasStopped (f_at t after) x.me
    drop_stops (happenings.Turn v) turn may x began of below none dropped = turn_stops t whole c u hs h rest is now v turn may.0 may.1 x began of below none dropped
    drop_stops (happenings.Stopped m) it may x began of below none dropped = elim (exit_made x.me Dropped (stop_added f (facts_after t.places t.commands f (happenings.Stopped m)) m e) dropped) [
      | inl old ↦ absurd (cc (old, none))
      | inr made ↦ (let so = later_exit x.me made.0 Dropped made.1 made.2 in
          let own : x.me.node ≡ m = among_node t whole c u hs h rest is now m x.me (node_at f m) refl so.0 in
          stop_stops t whole x.me hs h rest is m it (sym own))
    ]
    drop_stops (happenings.Started m boot) it may x began of below none dropped = absurd (cc (none, dropped))
    drop_stops (happenings.Begun m) it may x began of below none dropped = absurd (cc (none, dropped))
    drop_stops (happenings.Cut a b) it may x began of below none dropped = absurd (cc (none, dropped))
    drop_stops (happenings.Join a b) it may x began of below none dropped = absurd (cc (none, dropped))
    drop_stops (happenings.Lost m) it may x began of below none dropped = absurd (cc (none, dropped))

    drops_next : DropsNone t c after
    drops_next x began of below dropped = elim (some_or_none (exit e x.me)) [
      | inl old ↦ (let later : exit (events_after t.places t.commands f h e) x.me ≡ Some old.0 = exit_on t.places t.commands f h e x.me old.0 old.1 in
          let both : Some old.0 ≡ Some Dropped = sym later ∙ follows in
          let it : old.0 ≡ Dropped = cc in
          absurd (now.0 x began of below (subst (λ y. exit e x.me ≡ Some y) it old.1)))
      | inr none ↦ (let stops : NodeHasStopped (f_at t after) x.me = drop_stops h refl may_h x began of below none follows in
          never_stopped t whole c u x began of (stopped_end t whole x.me after part_z.rest part_z.is (λ gone. absurd (cc (gone, dropped))) stops))
    ]
      where
        follows : exit (events_after t.places t.commands f h e) x.me ≡ Some Dropped
        follows = subst (λ (y : List Event). exit y x.me ≡ Some Dropped) (more_on t hs h) dropped

    -- the messages that one sends
    aborts_by : (y : Happening) → h ≡ y → MayHappen t.places t.commands f y → NobodyAborts t c (facts_after t.places t.commands f y)
    aborts_by (happenings.Turn v) turn may = sent_after (λ m. NoneAborts t c m.from m.kind) t.places t.commands f (happenings.Turn v) (sends_none t whole c u hs h rest is now v turn may.0 may.1) now.1
    aborts_by (happenings.Stopped m) it may = sent_after (λ m. NoneAborts t c m.from m.kind) t.places t.commands f (happenings.Stopped m) tt now.1
    aborts_by (happenings.Started m boot) it may = sent_after (λ m. NoneAborts t c m.from m.kind) t.places t.commands f (happenings.Started m boot) tt now.1
    aborts_by (happenings.Begun m) it may = sent_after (λ m. NoneAborts t c m.from m.kind) t.places t.commands f (happenings.Begun m) tt now.1
    aborts_by (happenings.Cut a b) it may = sent_after (λ m. NoneAborts t c m.from m.kind) t.places t.commands f (happenings.Cut a b) tt now.1
    aborts_by (happenings.Join a b) it may = sent_after (λ m. NoneAborts t c m.from m.kind) t.places t.commands f (happenings.Join a b) tt now.1
    aborts_by (happenings.Lost m) it may = sent_after (λ m. NoneAborts t c m.from m.kind) t.places t.commands f (happenings.Lost m) tt now.1

    stays_next : Stays t c after
    stays_next = (drops_next, subst (NobodyAborts t c) (sym (one_on t hs h)) (aborts_by h refl may_h))

  first_stays : Stays t c []
  unfolding events_from facts_of
  first_stays = ((λ x began of below dropped. absurd cc), tt)

  stays_end : Stays t c t.trace
  stays_end = keep_on t whole (Stays t c) stays_next [] t.trace (record { rest = []; is = append-nil t.trace }) first_stays

  -- none below the root was dropped
  pub drops_none : DroppedNone t c.root
  drops_none x began of below dropped = stays_end.0 x began of below dropped

  -- and no Abort was said
  none_aborts : (y : Packet) → NoneAborts t c y.msg.from y.msg.kind → (x : Born) → Began bs x → x.me ≡ y.msg.from → x.root ≡ c.root → y.msg.kind ≢ kinds.Abort
  none_aborts y none x began me of is = (let no : is_abort y.msg.kind ≡ false = none x began me of in let yes : is_abort y.msg.kind ≡ true = ap is_abort is in absurd (cc (no, yes)))

  pub aborts_none : AbortsNone t c.root
  aborts_none = all_weaker (λ (y : Packet). NoneAborts t c y.msg.from y.msg.kind) _ none_aborts (facts_at t).net.packets stays_end.1

pub undisturbed_commits_drop_none : UndisturbedDropsNone
undisturbed_commits_drop_none t whole c u = drops_none t whole c u

pub undisturbed_commits_abort_none : UndisturbedAbortsNone
undisturbed_commits_abort_none t whole c u = aborts_none t whole c u

pub undisturbed_collects_are_over : UndisturbedCollectsAreOver
undisturbed_collects_are_over t whole c u n k up l live of down = undisturbed_collects_end t whole c u (drops_none t whole c u) n k up l live of down

pub undisturbed_roots_are_gone : UndisturbedRootsAreGone
undisturbed_roots_are_gone t whole c u k up = undisturbed_roots_leave t whole c u (drops_none t whole c u) k up
