-- What a turn leaves of a live branch for its row: it keeps its root, has the advice of an Exec that it took, and from its collect on
-- the comment of its transaction.
use Rattle.std.proofs.Common.{◌≡◌, ◌≢◌, ℕ, Bool, true, false, if◌then◌else◌, List, [], ◌∷◌, ◌++◌, unwrap_or, Option, Some, None, inl, inr, refl, sym, ap, subst, ◌∙◌}
use Rattle.std.specs.Prelude.{nat_lt}
use Rattle.tran_ids.proofs.ListedLemmas.{item_is}
use Rattle.agreement.specs.Events.{Exit, exit}
use Rattle.node_rules.specs.Data.{Advice, BranchId, Kind, Live, Stmt}
use Rattle.node_rules.specs.Data.inputs
use Rattle.node_rules.specs.Data.kinds
use Rattle.node_rules.specs.declared.session.PendingCall.TheVariants as pending
use Rattle.node_rules.specs.Data.phases
use Rattle.node_rules.specs.Data.stmts
use Rattle.node_rules.specs.Data.tasks
use Rattle.node_rules.specs.Words.{is_item_of, item_at, same}
use Rattle.node_rules.specs.Calls.{on_exec}
use Rattle.node_rules.specs.Client.{new_root}
use Rattle.node_rules.specs.Inputs.{Came, IsCall}
use Rattle.node_rules.specs.NodeState.{Branch, NodeState, live_at, live_id, branch_at, with_work, work_at}
use Rattle.node_rules.specs.Sessions.{session_at}
use Rattle.node_rules.specs.Turn.{draft_of, heard, kind_turn, status_of}
use Rattle.node_rules.proofs.Steps.{HasRoot}
use Rattle.run_rules.specs.Births.{Born, born_at, born_id, births_of}
use Rattle.run_rules.specs.Branches.{CommitPlan, Seen, is_among, newly_seen, plan_at, seen_at, seen_id}
use Rattle.run_rules.specs.Data.{Happening, Turn}
use Rattle.run_rules.specs.Data.happenings
use Rattle.run_rules.specs.Facts.{node_at}
use Rattle.run_rules.specs.Lawful.{History, IsLawfulRun, facts_at}
use Rattle.run_rules.specs.Tree.{plan}
use Rattle.run_rules.specs.Trail.{begun_in_turn, root_seen, strength_at}
use Rattle.run_rules.proofs.AtNodeLemmas.{turn_elsewhere}
use Rattle.run_base_laws.specs.BirthLaws.{Began, GoesSo, IsChild, LiveIs, StandsBelow}
use Rattle.run_base_laws.specs.RunEvents.{events_of, lives_at}
use Rattle.run_base_laws.proofs.BirthRunLemmas.{births_are_trees, born_are_live_or_left, messages_are_of_neighbors, nodes_name_the_born}
use Rattle.run_base_laws.proofs.BirthsStandLemmas.{came_so}
use Rattle.run_base_laws.proofs.EventsStandLemmas.{ids_name_their_node, nodes_are_as_events, run_stands}
use Rattle.run_base_laws.proofs.InTurnRunLemmas.{came_here}
use Rattle.run_base_laws.proofs.LawfulLemmas.{serves}
use Rattle.run_base_laws.proofs.NodeLemmas.{kept_alone}
use Rattle.run_base_laws.proofs.OwnLemmas.{all_found}
use Rattle.run_base_laws.proofs.RestLemmas.{free_waits}
use Rattle.run_base_laws.proofs.RestRunLemmas.{roots_wait}
use Rattle.run_base_laws.proofs.RootLemmas.{SessionsFit, root_alone, sessions_keep}
use Rattle.tree_laws.proofs.AtTurn.{at_turn}
use Rattle.tree_laws.proofs.FateLemmas.{among_found}
use Rattle.tree_laws.proofs.PrefixLemmas.{one_on}
use Rattle.tree_laws.proofs.TimeLemmas.{born_end, exit_end}
use Rattle.tree_trail_laws.specs.OwnLaws.{TracesRoots}
use Rattle.tree_trail_laws.proofs.AtTrail.{at_trail}
use Rattle.tree_trail_laws.proofs.CallLemmas.{call_free, seen_root}
use Rattle.tree_trail_laws.proofs.ChildTurnLemmas as kids
use Rattle.tree_trail_laws.proofs.MomentLemmas.{at_moment}
use Rattle.tree_trail_laws.proofs.OwnCallLemmas.{found_calls}
use Rattle.tree_trail_laws.proofs.OwnFollowLemmas.{owns_at}
use Rattle.tree_trail_laws.proofs.OwnKnowLemmas.{Knows}
use Rattle.tree_trail_laws.proofs.OwnTurnLemmas as turns
use Rattle.tree_trail_laws.proofs.OwnTurnLemmas.{Owns}
use Rattle.tree_trail_laws.proofs.PlanLemmas.{find_more, plan_here}
use Rattle.tree_trail_laws.proofs.SeenLemmas.{seen_begun, seen_turned, turned}
use Rattle.tree_trail_laws.proofs.TopBirthLemmas.{IsBorn, TurnBegins, None_begins, Root_begins, Child_begins, view}
use Rattle.tree_trail_laws.proofs.TopFollowLemmas.{tops_at}
use Rattle.tree_trail_laws.proofs.TopTurnLemmas.{Tops}
use Rattle.view_laws.specs.GivenColumns.{Given, given_after}
use Rattle.view_laws.proofs.GivenLemmas.{g_at, exec_or_none, none_gives, exec_gives, plan_gives}
use Rattle.view_laws.proofs.GotLemmas.{ExecCame, Got, Keeps, Commits, Prepares, Begins, exec_kind, got_on}
use Rattle.view_laws.proofs.CollectLemmas.{IsPlanned, LiveGot, PrepareGot, GivesAt, exec_advice, stands_live, later_seen, only_one, some_not, planned_after, owns_of, roots_of}

module _ (t : History) (whole : IsLawfulRun t) where
  module _ (hs : List Happening) (u : Turn) (rest : List Happening) (is : hs ++ happenings.Turn u ∷ rest ≡ t.trace) (now : GivesAt t whole hs) where
    open at_turn t whole hs u rest is use {after as hs1, part as part0, s as s0, s_after as s1, lawful as lawful0, lawful_after as lawful1, f as f0, g as f1, may, k, heard_k as k1, p, d, bs as bs0}
    open at_trail t hs u use {tr as tr0, tr_on as tr1, begun_tr as trb}

    abbrev pub g0 : Given
    g0 = g_at t hs

    abbrev pub g1 : Given
    g1 = given_after t.places f0 tr0 (happenings.Turn u) g0

    abbrev pub bs1 : List Born
    bs1 = births_of s1

    roots0 : TracesRoots t.places f0 tr0
    roots0 = at_moment t (λ places f tr h. TracesRoots places f tr) (roots_of t whole) hs (happenings.Turn u) rest is

    pub owns0 : Owns f0 tr0
    owns0 = owns_at t whole (roots_of t whole) hs part0

    pub tells : kids.Tells t whole hs
    tells = turns.tells t whole hs u rest is roots0 owns0

    planned_on : (root : BranchId) (c : List ℕ) → IsPlanned tr0 g0 root c → IsPlanned tr1 g1 root c
    planned_on root c planned = planned_after t.places f0 tr0 g0 (happenings.Turn u) root c planned

    tops : Tops t whole hs
    tops = (tops_at t whole (owns_of t whole t whole) hs part0).1

    -- ---- another node

    pub else_got : (n : ℕ) (j : NodeState) → u.node ≢ n → node_at f1 n ≡ Some j → (l : Live) → live_at j l.me ≡ Some l → LiveGot tr1 g1 l
    else_got n j other up l live =
        let before : node_at f0 n ≡ Some j = sym (turn_elsewhere t.places t.commands f0 (run_stands s0 lawful0).0.even u n other).0 ∙ up in
        let was : LiveGot tr0 g0 l = now.lives n j before l live in
        let own : l.me.node ≡ n = all_found (λ (y : Live). y.me.node ≡ n) live_id j.lives l.me l (ids_name_their_node s0 lawful0 n j before).lives live in
        let not_here : ExecCame u.input l.me → ⊥ = (λ exec. other (sym (came_here f0 k u.node u.input u.took may.1.comes exec.0 l.me (kinds.Exec exec.1 (tasks.Run exec.2 exec.3 exec.4)) exec.5) ∙ own)) in
        record {
          told = (turned t.places f0 tr0 u was.told.0, seen_turned t.places f0 tr0 u l.me was.told.0 was.told.1, was.told.2, was.told.3);
          advice = was.advice ∙ sym (none_gives tr0 l.me (g0.advice l.me) u.input not_here);
          top = was.top;
          comment = λ busy. planned_on l.root l.comment (was.comment busy);
        }

    -- ---- its own node

    heard_lives : (input : _) → (heard k input).lives ≡ k.lives
    heard_lives (inputs.Message m) = refl
    heard_lives (inputs.Call n s) = refl
    heard_lives (inputs.GiveUp n) = refl
    heard_lives inputs.Reco = refl
    heard_lives inputs.Checkpoint = refl

    back : (b : BranchId) (o : Option Live) → live_at k1 b ≡ o → live_at k b ≡ o
    back b o live = ap (λ ls. item_at live_id ls b) (sym (heard_lives u.input)) ∙ live

    fits : SessionsFit k
    fits = kept_alone SessionsFit sessions_keep s0 lawful0 u.node k may.1.up

    goes_so : (from to : BranchId) (kind : Kind) → Came u.input from to kind → GoesSo (Began bs0) from to kind
    goes_so from to kind came = came_so (GoesSo (Began bs0)) f0 (messages_are_of_neighbors s0 lawful0) k u.node u.input u.took may.1.comes from to kind came

    module _ (cut : u.cut ≡ false) where
      up1 : node_at (facts_at s1) u.node ≡ Some d.after
      up1 = ap (λ f. node_at f u.node) (one_on t hs (happenings.Turn u)) ∙ kids.after_up t whole hs u rest is tells cut

      module _ (l : Live) (live : live_at d.after l.me ≡ Some l) where
        pub born1 : LiveIs (Began bs1) l
        born1 = all_found (LiveIs (Began bs1)) live_id d.after.lives l.me l (nodes_name_the_born s1 lawful1 u.node d.after up1).0 live

        at1 : born_at bs1 l.me ≡ Some born1.born
        at1 = subst (λ c. born_at bs1 c ≡ Some born1.born) born1.is_me born1.began

        -- a root is its own
        own_root : l.parent ≡ None → l.root ≡ l.me
        own_root top =
            let stands : StandsBelow (Began bs1) born1.born born1.born.parent = all_found (λ x. StandsBelow (Began bs1) x x.parent) born_id bs1 l.me born1.born (births_are_trees s1 lawful1) at1 in
            let its : StandsBelow (Began bs1) born1.born None = subst (StandsBelow (Began bs1) born1.born) (born1.is_parent ∙ top) stands in
            sym born1.is_root ∙ (its.0 ∙ born1.is_me)

        no_exit : exit (events_of s1) l.me ≡ None
        no_exit = all_found (λ (y : Live). exit (events_of s1) y.me ≡ None) live_id d.after.lives l.me l (nodes_are_as_events s1 lawful1 u.node d.after up1).0 live

        own_node : l.me.node ≡ u.node
        own_node = all_found (λ (y : Live). y.me.node ≡ u.node) live_id d.after.lives l.me l (ids_name_their_node s1 lawful1 u.node d.after up1).lives live

        -- ---- one that was live

        module _ (z : Live) (there : live_at k l.me ≡ Some z) where
          me : z.me ≡ l.me
          me = item_is live_id k.lives l.me z there

          born0 : LiveIs (Began bs0) z
          born0 = all_found (LiveIs (Began bs0)) live_id k.lives l.me z (nodes_name_the_born s0 lawful0 u.node k may.1.up).0 there

          at0 : born_at bs0 l.me ≡ Some born0.born
          at0 = subst (λ c. born_at bs0 c ≡ Some born0.born) (born0.is_me ∙ me) born0.began

          same_born : born0.born ≡ born1.born
          same_born =
              let later : Began bs1 born0.born = born_end s1 lawful1 hs (record { rest = happenings.Turn u ∷ []; is = refl }) born0.born born0.began in
              let at : born_at bs1 l.me ≡ Some born0.born = subst (λ c. born_at bs1 c ≡ Some born0.born) (born0.is_me ∙ me) later in
              let both : Some born0.born ≡ Some born1.born = sym at ∙ at1 in
              cc

          root_same : z.root ≡ l.root
          root_same = sym born0.is_root ∙ (ap (λ (x : Born). x.root) same_born ∙ born1.is_root)

          parent_same : z.parent ≡ l.parent
          parent_same = sym born0.is_parent ∙ (ap (λ (x : Born). x.parent) same_born ∙ born1.is_parent)

          was : LiveGot tr0 g0 z
          was = now.lives u.node k may.1.up z (subst (λ c. live_at k c ≡ Some z) (sym me) there)

          advice_was : z.advice ≡ g0.advice l.me
          advice_was = was.advice ∙ ap g0.advice me

          -- another branch of its id that began is the same
          root_by : (x : Born) → Began bs0 x → x.me ≡ l.me → x.root ≡ l.root
          root_by x began me_x =
              let at : born_at bs0 l.me ≡ Some x = subst (λ c. born_at bs0 c ≡ Some x) me_x began in
              let both : Some x ≡ Some born0.born = sym at ∙ at0 in
              let one : x ≡ born0.born = cc in
              ap (λ (y : Born). y.root) one ∙ (born0.is_root ∙ root_same)

          -- an Exec comes to none but a child
          exec_below : ExecCame u.input l.me → l.parent ≡ None → ⊥
          exec_below exec top =
              let child : IsChild (Began bs0) l.me exec.0 = goes_so exec.0 l.me (kinds.Exec exec.1 (tasks.Run exec.2 exec.3 exec.4)) exec.5 in
              let at : born_at bs0 l.me ≡ Some child.0 = subst (λ c. born_at bs0 c ≡ Some child.0) child.2 child.1 in
              let both : Some child.0 ≡ Some born0.born = sym at ∙ at0 in
              let one : child.0 ≡ born0.born = cc in
              let above : l.parent ≡ Some exec.0 = sym parent_same ∙ (sym born0.is_parent ∙ (ap (λ (y : Born). y.parent) (sym one) ∙ child.3)) in
              cc (above, top)

          -- the advice that an Exec brings
          exec_so : (from : BranchId) (call given : ℕ) (advice : Option Advice) (s : Stmt) → Came u.input from l.me (kinds.Exec call (tasks.Run given advice s)) → l.advice ≡ g1.advice l.me
          exec_so from call given advice s came =
              let k2 : NodeState = heard k (inputs.Message (record { from = from; to = l.me; scn = came.scn; kind = kinds.Exec call (tasks.Run given advice s) })) in
              let z_live : live_at k2 z.me ≡ Some z = subst (λ c. live_at k c ≡ Some z) (sym me) there in
              let x : Branch = record { live = z; work = work_at k2 z.me } in
              let found : branch_at k2 z.me ≡ Some x = ap (with_work k2) z_live in
              let after : live_at (draft_of p k (inputs.Message (record { from = from; to = l.me; scn = came.scn; kind = kinds.Exec call (tasks.Run given advice s) }))).after l.me ≡ Some l = subst (λ i. live_at (draft_of p k i).after l.me ≡ Some l) came.is live in
              let turned_at : live_at (kind_turn p k2 from z.me (kinds.Exec call (tasks.Run given advice s)) (status_of k2 z.me)).after z.me ≡ Some l
              = subst (λ c. live_at (kind_turn p k2 from c (kinds.Exec call (tasks.Run given advice s)) (status_of k2 c)).after c ≡ Some l) (sym me) after in
              let exec : live_at (on_exec p k2 x from call (tasks.Run given advice s)).after z.me ≡ Some l = subst (λ stand. live_at (kind_turn p k2 from z.me (kinds.Exec call (tasks.Run given advice s)) stand).after z.me ≡ Some l) (stands_live k2 x found) turned_at in
              let known : Knows k tr0 z.me = turns.known t whole hs u rest is roots0 owns0 u.node k may.1.up z (subst (λ c. live_at k c ≡ Some z) (sym me) there) in
              let seen_it : seen_at tr0 l.me ≡ Some known.seen = subst (λ c. seen_at tr0 c ≡ Some known.seen) me known.at in
              let same_one : known.seen ≡ was.told.0 = (let both : Some known.seen ≡ Some was.told.0 = sym known.at ∙ was.told.1 in cc) in
              let parent : known.seen.parent ≡ l.parent = ap (λ (y : Seen). y.parent) same_one ∙ (was.told.3 ∙ parent_same) in
              let below : known.seen.parent ≢ None = (λ top. exec_below (from, call, given, advice, s, came) (sym parent ∙ top)) in
              let last : x.work.came.last_call ≡ known.seen.taken = found_calls k2 x found ∙ sym (known.taken below) in
              exec_advice p k2 x found from call given advice s l exec
              ∙ (ap (λ n. if nat_lt n call then advice else z.advice) last
              ∙ (ap (λ a. if nat_lt known.seen.taken call then advice else a) advice_was ∙ sym (exec_gives tr0 l.me (g0.advice l.me) u.input from call given advice s came known.seen seen_it known.live)))

          -- ---- a COMMIT

          by_commit : (n : ℕ) (given : Option (List ℕ)) → IsCall u.input n (stmts.Commit given) → HasRoot k1 n l.me → (session_at k1.sessions n).code ≡ None → z.read_at ≡ None → l.comment ≡ unwrap_or given [] → IsPlanned tr1 g1 l.root l.comment
          by_commit n given call has1 code1 writer comment =
              let same_node : k1 ≡ k = ap (heard k) call in
              let has : HasRoot k n l.me = subst (λ j. HasRoot j n l.me) same_node has1 in
              let code : (session_at k.sessions n).code ≡ None = subst (λ (j : NodeState). (session_at j.sessions n).code ≡ None) same_node code1 in
              let free = call_free f0 k u.node u.input u.took n (Some (stmts.Commit given)) call may.1.comes in
              let it = seen_root tr0 k _ (session_at k.sessions n).root l.me has (roots0.roots u.node k may.1.up n free.0 free.1) in
              let z_top : z.parent ≡ None = root_alone k fits n l.me has z there in
              let z_live : live_at k z.me ≡ Some z = subst (λ c. live_at k c ≡ Some z) (sym me) there in
              let x : Branch = record { live = z; work = work_at k z.me } in
              let waits = (roots_wait s0 lawful0 u.node k may.1.up x (ap (with_work k) z_live) z_top).waits in
              let session : z.me.session ≡ n = ap (λ (c : BranchId). c.session) me ∙ fits.roots.each n l.me has in
              let no_call : (session_at k.sessions z.me.session).call ≡ pending.NoCall = subst (λ i. (session_at k.sessions i).call ≡ pending.NoCall) (sym session) free.1 in
              let working : z.phase ≡ phases.Working = (free_waits (session_at k.sessions z.me.session).call z.phase x.work.going waits no_call).0 in
              let told = roots0.tops u.node k may.1.up z z_live z_top in
              let told_at : seen_at tr0 l.me ≡ Some told.0 = subst (λ c. seen_at tr0 c ≡ Some told.0) me told.1 in
              let same_one : told.0 ≡ it.0 = (let both : Some told.0 ≡ Some it.0 = sym told_at ∙ it.4 in cc) in
              let writes : it.0.read_at ≡ None = ap (λ (s : Seen). s.read_at) (sym same_one) ∙ (told.2.read_at ∙ writer) in
              let unplanned : plan_at tr0 l.me ≡ None = subst (λ c. plan_at tr0 c ≡ None) me (told.3 working) in
              let its : CommitPlan = plan t.places tr0 it.0.me in
              let planned : plan_at tr1 it.0.me ≡ Some its = plan_here t.places f0 tr0 u k may.1.up n given call code it.0 it.1 writes (subst (λ c. plan_at tr0 c ≡ None) (sym it.2) unplanned) in
              let some : plan_at tr1 l.me ≡ Some its = subst (λ c. plan_at tr1 c ≡ Some its) it.2 planned in
              let mine : IsPlanned tr1 g1 l.me (unwrap_or given []) = (some_not (plan_at tr1 l.me) its some, plan_gives tr0 tr1 l.me (g0.comment l.me) u.input unplanned its some n given call) in
              subst (IsPlanned tr1 g1 l.root) (sym comment) (subst (λ r. IsPlanned tr1 g1 r (unwrap_or given [])) (sym (own_root (sym parent_same ∙ z_top))) mine)

          by_prepare : (from : BranchId) (site_below : Bool) → Came u.input from l.me (kinds.Prepare site_below l.comment) → IsPlanned tr1 g1 l.root l.comment
          by_prepare from site_below came =
              let got : PrepareGot bs0 tr0 g0 l.me (kinds.Prepare site_below l.comment) = came_so (λ from to kind. PrepareGot bs0 tr0 g0 to kind) f0 now.said k u.node u.input u.took may.1.comes from l.me (kinds.Prepare site_below l.comment) came in
              planned_on l.root l.comment (subst (λ r. IsPlanned tr0 g0 r l.comment) (root_by got.0 got.1 got.2) got.3)

        -- ---- each

        got : Got p u.input l.me k1 l
        got = got_on p u.input l.me (serves t.places f0 u k may.1).step l live

        -- one that begins was not told
        not_told : live_at k l.me ≡ None → seen_at tr0 l.me ≡ None
        not_told none = by (seen_at tr0 l.me) refl
          where
            by : (o : Option Seen) → seen_at tr0 l.me ≡ o → o ≡ None
            by None gone = refl
            by (Some s) some = absurd (elim (born_are_live_or_left s0 lawful0 l.me (some_not (born_at bs0 l.me) its.0 at)) [ inl left ↦ has_left (exit (events_of s0) l.me) refl left | inr among ↦ is_live among ])
              where
                its : IsBorn t whole hs s.me
                its = all_found (λ (y : Seen). IsBorn t whole hs y.me) seen_id tr0.seen l.me s tops.born some

                at : born_at bs0 l.me ≡ Some its.0
                at = subst (λ c. born_at bs0 c ≡ Some its.0) (its.2 ∙ item_is seen_id tr0.seen l.me s some) its.1

                has_left : (o : Option Exit) → exit (events_of s0) l.me ≡ o → (exit (events_of s0) l.me ≡ None → ⊥) → ⊥
                has_left None gone left = left gone
                has_left (Some e) out left = (let later : exit (events_of s1) l.me ≡ Some e = exit_end s1 lawful1 hs (record { rest = happenings.Turn u ∷ []; is = refl }) l.me e out in let none_now = no_exit in cc (later, none_now))

                is_live : is_among l.me (lives_at (node_at f0 l.me.node)) ≡ true → ⊥
                is_live among =
                    let here : is_among l.me (lives_at (Some k)) ≡ true = subst (λ o. is_among l.me (lives_at o) ≡ true) may.1.up (subst (λ i. is_among l.me (lives_at (node_at f0 i)) ≡ true) own_node among) in
                    let found = among_found k.lives l.me here in
                    let there = found.1 in
                    cc (there, none)

        advice_so : l.advice ≡ g1.advice l.me
        advice_so = elim (exec_or_none l.me u.input) [ inl none ↦ without none got | inr exec ↦ with_exec exec got ]
          where
            without : (ExecCame u.input l.me → ⊥) → Got p u.input l.me k1 l → l.advice ≡ g1.advice l.me
            without none it = by it ∙ sym (none_gives tr0 l.me (g0.advice l.me) u.input none)
              where
                by : Got p u.input l.me k1 l → l.advice ≡ g0.advice l.me
                by (Keeps z there (inl same) comment phase) = same ∙ advice_was z (back l.me (Some z) there)
                by (Keeps z there (inr exec) comment phase) = absurd (none exec)
                by (Commits z there same n given call has code writer comment) = same ∙ advice_was z (back l.me (Some z) there)
                by (Prepares z there same from q came) = same ∙ advice_was z (back l.me (Some z) there)
                by (Begins gone same phase not_exec) = same ∙ sym (now.unseen l.me (not_told (back l.me None gone)))

            with_exec : ExecCame u.input l.me → Got p u.input l.me k1 l → l.advice ≡ g1.advice l.me
            with_exec exec (Keeps z there same comment phase) = exec_so z (back l.me (Some z) there) exec.0 exec.1 exec.2 exec.3 exec.4 exec.5
            with_exec exec (Commits z there same n given call has code writer comment) = (let came = exec.5.is in absurd (cc (came, call)))
            with_exec exec (Prepares z there same from q came) = (let it : false ≡ true = exec_kind exec came in absurd cc)
            with_exec exec (Begins gone same phase not_exec) = absurd (not_exec exec)

        top_so : l.parent ≡ None → l.advice ≡ None
        top_so top = by got
          where
            by : Got p u.input l.me k1 l → l.advice ≡ None
            by (Keeps z there (inl same) comment phase) = same ∙ (was z (back l.me (Some z) there)).top (parent_same z (back l.me (Some z) there) ∙ top)
            by (Keeps z there (inr exec) comment phase) = absurd (exec_below z (back l.me (Some z) there) exec top)
            by (Commits z there same n given call has code writer comment) = same ∙ (was z (back l.me (Some z) there)).top (parent_same z (back l.me (Some z) there) ∙ top)
            by (Prepares z there same from q came) = same ∙ (was z (back l.me (Some z) there)).top (parent_same z (back l.me (Some z) there) ∙ top)
            by (Begins gone same phase not_exec) = same

        pub comment_so : l.phase ≢ phases.Working → IsPlanned tr1 g1 l.root l.comment
        comment_so busy = by got
          where
            by : Got p u.input l.me k1 l → IsPlanned tr1 g1 l.root l.comment
            by (Keeps z there advice same phase) =
                let at : live_at k l.me ≡ Some z = back l.me (Some z) there in
                planned_on l.root l.comment (subst (IsPlanned tr0 g0 l.root) (sym same) (subst (λ r. IsPlanned tr0 g0 r z.comment) (root_same z at) ((was z at).comment (λ working. busy (phase working)))))
            by (Commits z there advice n given call has code writer comment) = by_commit z (back l.me (Some z) there) n given call has code writer comment
            by (Prepares z there advice from q came) = by_prepare z (back l.me (Some z) there) from q came
            by (Begins gone advice phase not_exec) = absurd (busy phase)

        told_so : (s : Seen) × (seen_at tr1 l.me ≡ Some s) × (s.root ≡ l.root) × (s.parent ≡ l.parent)
        told_so = (turned t.places f0 tr0 u told.0, seen_begun t.places f0 tr0 u l.me told.0 told.1, told.2, told.3)
          where
            new_told : live_at k l.me ≡ None → (s : Seen) × (seen_at trb l.me ≡ Some s) × (s.root ≡ l.root) × (s.parent ≡ l.parent)
            new_told none = elim ((turns.opens_by t whole hs u rest is roots0 owns0 cut l live).new none) [
              | inl top ↦ by_root top (view t whole hs u rest is roots0.roots tops.counts tops.born cut)
              | inr opened ↦ (newly_seen l.me opened.root (Some opened.parent) (strength_at f0 l.me.node) opened.read_at, kids.opened_begun t whole hs u rest is tells cut l opened, sym opened.is_root, sym opened.is_parent)
            ]
              where
                known : Knows k1 trb l.me
                known = turns.knows_after t whole hs u rest is roots0 owns0 cut l live

                begun_one : item_at seen_id (begun_in_turn f0 tr0 u) l.me ≡ Some known.seen
                begun_one = sym (later_seen tr0.seen (begun_in_turn f0 tr0 u) l.me (not_told none)) ∙ known.at

                by_root : l.parent ≡ None → TurnBegins t whole hs u rest is roots0.roots tops.counts tops.born (begun_in_turn f0 tr0 u) → (s : Seen) × (seen_at trb l.me ≡ Some s) × (s.root ≡ l.root) × (s.parent ≡ l.parent)
                by_root top (None_begins nobody are) = (let nothing : item_at seen_id [] l.me ≡ Some known.seen = subst (λ ys. item_at seen_id ys l.me ≡ Some known.seen) are begun_one in absurd cc)
                by_root top (Root_begins n s call rows range no_root are) =
                    let one : root_seen f0 u.node s (new_root p k n) ≡ known.seen = only_one (root_seen f0 u.node s (new_root p k n)) l.me known.seen (subst (λ ys. item_at seen_id ys l.me ≡ Some known.seen) are begun_one) in
                    (known.seen, known.at, ap (λ (y : Seen). y.root) (sym one) ∙ (ap (λ (y : Seen). y.me) one ∙ (item_is seen_id trb.seen l.me known.seen known.at ∙ sym (own_root top))), ap (λ (y : Seen). y.parent) (sym one) ∙ sym top)
                by_root top (Child_begins y nobody its below alive untold are) =
                    let one : y ≡ known.seen = only_one y l.me known.seen (subst (λ ys. item_at seen_id ys l.me ≡ Some known.seen) are begun_one) in
                    let y_me : y.me ≡ l.me = ap (λ (z : Seen). z.me) one ∙ item_is seen_id trb.seen l.me known.seen known.at in
                    let at : born_at bs1 l.me ≡ Some its.0 = subst (λ c. born_at bs1 c ≡ Some its.0) (its.2 ∙ y_me) its.1 in
                    let both : Some its.0 ≡ Some born1.born = sym at ∙ at1 in
                    let same_one : its.0 ≡ born1.born = cc in
                    absurd (its.3 (ap (λ (x : Born). x.parent) same_one ∙ (born1.is_parent ∙ top)))

            by : (o : Option Live) → live_at k l.me ≡ o → (s : Seen) × (seen_at trb l.me ≡ Some s) × (s.root ≡ l.root) × (s.parent ≡ l.parent)
            by None none = new_told none
            by (Some z) there =
                let it = (was z there).told in
                (it.0, find_more (is_item_of seen_id l.me) tr0.seen _ it.0 (subst (λ c. seen_at tr0 c ≡ Some it.0) (me z there) it.1), it.2 ∙ root_same z there, it.3 ∙ parent_same z there)

            told : (s : Seen) × (seen_at trb l.me ≡ Some s) × (s.root ≡ l.root) × (s.parent ≡ l.parent)
            told = by (live_at k l.me) refl

        pub own_got : LiveGot tr1 g1 l
        own_got = record { told = told_so; advice = advice_so; top = top_so; comment = comment_so }
