-- A turn of a lawful run in which no branch of the transaction of an undisturbed COMMIT says Abort, and none below the root is dropped
-- unless its node stops: where it was so before it.
use Rattle.std.proofs.Common.{◌≡◌, ◌≢◌, ℕ, ◌&&◌, Bool, true, false, List, ◌∷◌, ◌++◌, length, Option, Some, None, inl, inr, refl, sym, ap, subst, ◌∙◌}
use Rattle.std.specs.List.{AllByRecursion, list_any}
use Rattle.tran_ids.proofs.ListedLemmas.{item_is}
use Rattle.agreement.specs.Events.{Exit, Sealed, Decided, Dropped, exit}
use Rattle.node_rules.specs.Data.{BranchId, Kind, Live, Msg, Place, Post}
use Rattle.node_rules.specs.Data.kinds
use Rattle.node_rules.specs.Inputs.{Came}
use Rattle.node_rules.specs.NodeState.{NodeState, TurnDraft, TurnOutput, live_id, live_at}
use Rattle.node_rules.specs.Turn.{Is_gone, status_of, turn_of, heard, draft_of, stamped}
use Rattle.run_rules.specs.Births.{Born, births_of, born_at}
use Rattle.run_base_laws.specs.BirthLaws.{Began, IsChild, GoesSo, LiveIs}
use Rattle.run_rules.specs.Branches.{is_among}
use Rattle.run_rules.specs.Data.{Turn, Happening}
use Rattle.run_rules.specs.Data.happenings
use Rattle.run_rules.specs.Facts.{Facts, first_facts, place_at, node_at, kept_after, facts_after}
use Rattle.run_rules.specs.Lawful.{IsOwed, MayTurn, History, IsLawfulRun}
use Rattle.run_base_laws.specs.NodeLaws.{EachFactFrom}
use Rattle.run_base_laws.specs.RunEvents.{with_record, with_exits, lives_at, events_after}
use Rattle.run_rules.specs.Trail.{is_abort, is_quiet}
use Rattle.run_rules.proofs.AtNodeLemmas.{turn_here}
use Rattle.run_base_laws.proofs.BirthRunLemmas.{nodes_name_the_born, messages_are_of_neighbors, born_are_live_or_left}
use Rattle.run_base_laws.proofs.BirthsStandLemmas.{came_so}
use Rattle.run_base_laws.proofs.EventsStandLemmas.{run_stands, ids_name_their_node}
use Rattle.run_base_laws.proofs.LaterLemmas.{exit_made, exit_later, later_exit, turn_added}
use Rattle.run_base_laws.proofs.LawfulLemmas.{of_sent, serves}
use Rattle.run_rules.proofs.ListLemmas.{all_weaker, all_map}
use Rattle.run_base_laws.proofs.NodesStandLemmas.{some_or_none}
use Rattle.run_base_laws.proofs.OwnLemmas.{all_found}
use Rattle.tree_laws.proofs.AnswerRunLemmas.{lives_heard}
use Rattle.tree_laws.proofs.PrefixLemmas.{f_at}
use Rattle.tree_laws.proofs.FateLemmas.{among_found}
use Rattle.tree_laws.proofs.LeaveLemmas.{messages_exit}
use Rattle.tree_laws.proofs.TimeLemmas.{fact_at, born_end}
use Rattle.run_branch_laws.proofs.AbortStepLemmas.{Was_gone, Hears_one, AbortSo, aborts_on}
use Rattle.commit_laws.specs.LeaveLaws.{Reason, Seals, Decides, Says_read_only, Gets_rollback, Is_rolled_back, Is_asked, Hears_abort, TurnsHaveReasons}
use Rattle.run_claims.specs.Undisturbed.{Commit, Undisturbed, branches_in, disturbs, is_disturbed, NoneComesIn}
use Rattle.commit_laws.specs.WaitLaws.{NodeHasStopped}
use Rattle.commit_laws.proofs.ReasonRunLemmas.{leavers_have_reasons}
use Rattle.commit_laws.proofs.StillLemmas.{among}
use Rattle.commit_laws.proofs.StopLemmas.{cut_stops}
use Rattle.commit_spread_laws.specs.GotLaws.{GotPrepare}
use Rattle.commit_spread_laws.proofs.ComesOnceLemmas.{mid_all, comes_once}
use Rattle.commit_spread_laws.proofs.DropLemmas.{all_dropped, wrote_dropped, seal_ends, decision_ends, none_found, both_not}
use Rattle.commit_spread_laws.proofs.GotLemmas.{came_here, same_born, leavers_got_prepare}
use Rattle.commit_spread_laws.proofs.TreeLemmas.{NoneAborts, Stays, parent_in, child_in}
use Rattle.tree_laws.proofs.AtTurn.{at_happening}
use Rattle.tree_laws.proofs.RollForestLemmas.{live_not_gone as gone_not_live}

module _ (t : History) (whole : IsLawfulRun t) (c : Commit t.places t.commands t.trace) (u : Undisturbed t.places t.commands t.trace c) where
  abbrev bs : List Born
  bs = births_of t

  module _ (hs : List Happening) (h : Happening) (rest : List Happening) (is : hs ++ h ∷ rest ≡ t.trace) (now : Stays t c hs) where
    open at_happening t whole hs h rest is use {f, e, s, after, part, lawful}

    even : length f.nodes ≡ length f.records
    even = (run_stands s lawful).0.even

    -- a live branch is of its node
    live_node : (n : ℕ) (k : NodeState) → node_at f n ≡ Some k → (b : BranchId) (l : Live) → live_at k b ≡ Some l → b.node ≡ n
    live_node n k up b l live =
        let me : l.me ≡ b = item_is live_id k.lives b l live in
        ap (λ (i : BranchId). i.node) (sym me) ∙ all_found (λ (y : Live). y.me.node ≡ n) live_id k.lives b l (ids_name_their_node s lawful n k up).lives live

    pub among_node : (n : ℕ) (b : BranchId) (o : Option NodeState) → node_at f n ≡ o → is_among b (lives_at o) ≡ true → b.node ≡ n
    among_node n b None up found = absurd cc
    among_node n b (Some k) up found = (let l = among_found k.lives b found in live_node n k up b l.0 l.1)

    -- ---- a turn

    module _ (v : Turn) (turn : h ≡ happenings.Turn v) (k : NodeState) (may : MayTurn t.places f v k) where
      abbrev p : Place
      p = place_at t.places v.node

      abbrev k0 : NodeState
      k0 = heard k v.input

      abbrev d : TurnDraft
      d = draft_of p k v.input

      abbrev o : TurnOutput
      o = turn_of p k v.input

      goes : (from to : BranchId) (kind : Kind) → Came v.input from to kind → GoesSo (Began (births_of s)) from to kind
      goes from to kind came = came_so (GoesSo (Began (births_of s))) f (messages_are_of_neighbors s lawful) k v.node v.input v.took may.comes from to kind came

      -- Prepare comes to no branch of the tree that is gone
      prepare_gone : (x : Born) → Began bs x → x.root ≡ c.root → (from : BranchId) (below : Bool) (comment : List ℕ) → Came v.input from x.me (kinds.Prepare below comment) → status_of k0 x.me ≡ Is_gone → ⊥
      prepare_gone x began of from below comment came gone =
          elim (born_are_live_or_left s lawful x.me born) [
            | inl left ↦ elim (some_or_none (exit e x.me)) [
              | inl z ↦ absurd (comes_once t whole c u hs h rest is v turn k may from x.me (kinds.Prepare below comment) came refl (parent_in t whole c x began of from above) (got z.0 z.1))
              | inr none ↦ absurd (left none)
            ]
            | inr found ↦ (let l = among_found k.lives x.me (subst (λ y. is_among x.me (lives_at y) ≡ true) up found) in
                absurd (gone_not_live k0 x.me l.0 (subst (λ (ls : List Live). live_at (record k { lives = ls }) x.me ≡ Some l.0) (sym (lives_heard k v.input)) l.1) gone))
          ]
        where
          kid : IsChild (Began (births_of s)) x.me from
          kid = goes from x.me (kinds.Prepare below comment) came

          it : kid.0 ≡ x
          it = same_born t whole kid.0 x (born_end t whole hs part kid.0 kid.1) began kid.2

          above : x.parent ≡ Some from
          above = subst (λ (y : Born). y.parent ≡ Some from) it kid.3

          born : born_at (births_of s) x.me ≢ None
          born none = (let at : born_at (births_of s) x.me ≡ Some kid.0 = subst (λ i. born_at (births_of s) i ≡ Some kid.0) kid.2 kid.1 in absurd (cc (at, none)))

          up : node_at f x.me.node ≡ Some k
          up = subst (λ i. node_at f i ≡ Some k) (came_here f k v.node v.input v.took may.comes from x.me (kinds.Prepare below comment) came) may.up

          got : (z : Exit) → exit e x.me ≡ Some z → GotPrepare hs from x.me
          got z left =
              subst (GotPrepare hs from) kid.2
              (leavers_got_prepare s lawful kid.0 kid.1 from kid.3 z (subst (λ i. exit e i ≡ Some z) (sym kid.2) left)
              (λ dropped. now.0 x began of (λ none. absurd (cc (above, none))) (subst (λ y. exit e x.me ≡ Some y) dropped left)))

      -- no Abort comes to one
      abort_comes : (x : Born) → Began bs x → x.root ≡ c.root → (from : BranchId) → Came v.input from x.me kinds.Abort → ⊥
      abort_comes x began of from came =
          let kid : IsChild (Began (births_of s)) from x.me = goes from x.me kinds.Abort came in
          let young : Began bs kid.0 = born_end t whole hs part kid.0 kid.1 in
          let none : is_abort kinds.Abort ≡ false = came_so (λ a b kind. NoneAborts t c a kind) f now.1 k v.node v.input v.took may.comes from x.me kinds.Abort came kid.0 young kid.2 (child_in t whole c x kid.0 began of young kid.3) in
          absurd cc

      -- none is said
      none_said : (from : BranchId) (kind : Kind) → AbortSo k0 v.input from kind → NoneAborts t c from kind
      none_said from kinds.Abort (Was_gone q below comment came gone) x began me of =
          absurd (prepare_gone x began of q below comment (subst (λ i. Came v.input q i (kinds.Prepare below comment)) (sym me) came) (subst (λ i. status_of k0 i ≡ Is_gone) (sym me) gone))
      none_said from kinds.Abort (Hears_one z q below live is_z answers) x began me of =
          let both : Some kinds.Abort ≡ Some answers.kind = answers.is_vote in
          let kind : answers.kind ≡ kinds.Abort = cc in
          let came : Came v.input q z.me kinds.Abort = subst (Came v.input q z.me) kind answers.came in
          absurd (abort_comes x began of q (subst (λ i. Came v.input q i kinds.Abort) (is_z ∙ sym me) came))
      none_said from _ so x began me of = refl

      pub sends_none : AllByRecursion (λ m. NoneAborts t c m.from m.kind) v.sent
      sends_none =
          of_sent p k v (serves t.places f v k may) (λ w ms. AllByRecursion (λ m. NoneAborts t c m.from m.kind) ms) tt
          (all_map (λ (m : Msg). NoneAborts t c m.from m.kind) (stamped d.after.clock) d.says
          (all_weaker _ _ (λ (y : Post) so. none_said y.from y.kind so) d.says (aborts_on p v.input (serves t.places f v k may).step)))

      -- ---- a branch that it drops

      module _ (x : Born) (began : Began bs x) (of : x.root ≡ c.root) (below : x.parent ≢ None) (none : exit e x.me ≡ None) (dropped : exit (events_after t.places t.commands f (happenings.Turn v) e) x.me ≡ Some Dropped) where
        abbrev g0 : Facts
        g0 = facts_after t.places t.commands f (happenings.Turn v)

        -- neither a rollback nor a question came to it
        undisturbed : (from : BranchId) (kind : Kind) → disturbs kind ≡ true → Came v.input from x.me kind → ⊥
        undisturbed from kind so came =
            let calm : NoneComesIn (branches_in bs c.root) h = mid_all (NoneComesIn (branches_in bs c.root)) hs h rest (subst (AllByRecursion (NoneComesIn (branches_in bs c.root))) (sym is) u.calm) in
            let calm_turn : is_disturbed (branches_in bs c.root) v.input ≡ false = subst (NoneComesIn (branches_in bs c.root)) turn calm in
            let calm_message : (is_among x.me (branches_in bs c.root) && disturbs kind) ≡ false = subst (λ i. is_disturbed (branches_in bs c.root) i ≡ false) came.is calm_turn in
            both_not (is_among x.me (branches_in bs c.root)) (disturbs kind) (among t whole c u x began of) so calm_message

        -- it ended in no other way
        ends_not : (z : Exit) → z ≢ Dropped → exit (with_record v e) x.me ≡ Some z → ⊥
        ends_not z other ends =
            let later : exit (events_after t.places t.commands f (happenings.Turn v) e) x.me ≡ Some z = exit_later x.me z (turn_added f g0 v e) ends in
            let both : Some z ≡ Some Dropped = sym later ∙ dropped in
            let it : z ≡ Dropped = cc in
            absurd (other it)

        not_quiet : list_any (is_quiet x.me) v.sent ≡ true → ⊥
        not_quiet quiet =
            let left : exit (with_exits f g0 v e) x.me ≡ Some Dropped = sym (messages_exit v.sent (with_exits f g0 v e) x.me) ∙ dropped in
            elim (all_dropped (lives_at (node_at g0 v.node)) v.sent (lives_at (node_at f v.node)) x.me (with_record v e) left) [
              | inl old ↦ (let older : exit e x.me ≡ Some Dropped = wrote_dropped v.node e v.wrote x.me old in absurd (cc (older, none)))
              | inr silent ↦ absurd (cc (quiet, silent))
            ]

        no_reason : (parent : Option BranchId) → v.wrote ≡ o.wrote → v.sent ≡ o.sent → Reason v.input x.me parent o.wrote o.sent → ⊥
        no_reason parent wrote sent (Seals r is_r me) = ends_not (Sealed r.scn) (λ no. absurd cc) (seal_ends v.node e v.wrote r x.me (wrote ∙ is_r) me none)
        no_reason parent wrote sent (Decides r is_r me) = ends_not (Decided r.scn) (λ no. absurd cc) (decision_ends v.node e v.wrote r x.me (wrote ∙ is_r) me none)
        no_reason parent wrote sent (Says_read_only quiet) = not_quiet (subst (λ ms. list_any (is_quiet x.me) ms ≡ true) (sym sent) quiet)
        no_reason parent wrote sent (Gets_rollback from came) = undisturbed from kinds.Rollback refl came
        no_reason parent wrote sent (Is_rolled_back from came above) = undisturbed from kinds.RolledBack refl came
        no_reason parent wrote sent (Is_asked from came above) = undisturbed from kinds.Ask refl came
        no_reason parent wrote sent (Hears_abort from came) = abort_comes x began of from came

        reasons : TurnsHaveReasons t.places f (happenings.Turn v)
        reasons =
            subst (TurnsHaveReasons t.places f) turn
            (fact_at t.places t.commands (TurnsHaveReasons t.places) (first_facts t.places) hs h rest (subst (EachFactFrom (TurnsHaveReasons t.places) t.places t.commands (first_facts t.places)) (sym is) (leavers_have_reasons t whole)))

        -- a live branch that a whole turn leaves no more
        whole_not : (l : Live) → live_at k x.me ≡ Some l → is_among x.me (lives_at (Some o.after)) ≡ false → v.wrote ≡ o.wrote → v.sent ≡ o.sent → ⊥
        whole_not l live gone wrote sent =
            let me : l.me ≡ x.me = item_is live_id k.lives x.me l live in
            let mine : live_at k l.me ≡ Some l = subst (λ i. live_at k i ≡ Some l) (sym me) live in
            let placed : LiveIs (Began (births_of s)) l = all_found (LiveIs (Began (births_of s))) live_id k.lives l.me l (nodes_name_the_born s lawful v.node k may.up).0 mine in
            let it : placed.born ≡ x = same_born t whole placed.born x (born_end t whole hs part placed.born placed.began) began (placed.is_me ∙ me) in
            let parent : l.parent ≡ x.parent = sym placed.is_parent ∙ ap (λ (y : Born). y.parent) it in
            no_reason l.parent wrote sent (reasons k may.up x.me l live (λ root. below (sym parent ∙ root)) (none_found o.after.lives x.me gone))

        left_so : (cut : Bool) → v.cut ≡ cut → IsOwed p k v.input v.wrote v.sent cut → is_among x.me (lives_at (node_at f v.node)) ≡ true → is_among x.me (lives_at (node_at g0 v.node)) ≡ false → NodeHasStopped (f_at t after) x.me
        left_so true cut owed was gone =
            let own : x.me.node ≡ v.node = among_node v.node x.me (node_at f v.node) refl was in
            cut_stops t whole x.me hs h rest is v turn k may.up (sym own) cut
        left_so false cut owed was gone =
            let here : node_at g0 v.node ≡ Some o.after = (turn_here t.places t.commands f even v k may.up).0 ∙ ap (λ y. kept_after y (Some o)) cut in
            let l = among_found k.lives x.me (subst (λ y. is_among x.me (lives_at y) ≡ true) may.up was) in
            absurd (whole_not l.0 l.1 (subst (λ y. is_among x.me (lives_at y) ≡ false) here gone) owed.0 owed.1)

        pub turn_stops : NodeHasStopped (f_at t after) x.me
        turn_stops = elim (exit_made x.me Dropped (turn_added f g0 v e) dropped) [
          | inl old ↦ (let older : exit e x.me ≡ Some Dropped = wrote_dropped v.node e v.wrote x.me old in absurd (cc (older, none)))
          | inr made ↦ (let so = later_exit x.me made.0 Dropped made.1 made.2 in left_so v.cut refl may.owed so.0 so.1)
        ]
