-- A turn leaves what is told of a live root of its node as the node keeps it.
use Rattle.std.proofs.Common.{◌≡◌, ◌≢◌, ℕ, ◌==◌, ◌||◌, ◌&&◌, ◌⊎◌, not, Bool, true, false, if◌then◌else◌, is_none, find, List, [], ◌∷◌, ◌++◌, Option, Some, None, inl, inr, refl, sym, ap, subst, ◌∙◌, is_some}
use Rattle.std.specs.List.{AllByRecursion}
use Rattle.std.proofs.lemmas.Bool.{and_from, and_right, or_right, cases_eq, ne_eqb, eq-eqb, or_left}
use Rattle.tran_ids.proofs.BranchLemmas.{equal_from_same, same_from_equal}
use Rattle.tran_ids.proofs.ListedLemmas.{item_is}
use Rattle.agreement.specs.Events.{exit}
use Rattle.session_tree.specs.Live.{children_of}
use Rattle.node_rules.specs.Data.{BranchId, Live, Msg, Stmt, Input}
use Rattle.node_rules.specs.Data.inputs
use Rattle.node_rules.specs.Data.phases
use Rattle.node_rules.specs.Data.stmts
use Rattle.node_rules.specs.declared.session.PendingCall.{PendingCall}
use Rattle.node_rules.specs.declared.session.PendingCall.TheVariants as pending
use Rattle.node_rules.specs.Words.{same, is_item_of, item_at}
use Rattle.node_rules.specs.Inputs.{IsCall}
use Rattle.node_rules.specs.NodeState.{NodeState, Branch, TurnDraft, live_id, live_at, branch_at, work_at, with_work}
use Rattle.node_rules.specs.Sessions.{session_at}
use Rattle.node_rules.specs.Client.{new_root}
use Rattle.node_rules.specs.Turn.{turn_of, heard, draft_of, kind_turn, status_of}
use Rattle.run_rules.specs.Births.{Born, births_by, births_at, births_of, born_at, read_at_by}
use Rattle.run_base_laws.specs.BirthLaws.{Began, LiveIs}
use Rattle.run_rules.specs.Branches.{Seen, CommitPlan, is_among, is_live_at, is_root_of, is_plan_of, seen_id, seen_at, plan_at}
use Rattle.run_base_laws.specs.CallLaws.{IsRootOf, RootWaits}
use Rattle.run_rules.specs.Data.{Turn, Happening}
use Rattle.run_rules.specs.Data.happenings
use Rattle.run_rules.specs.Facts.{node_at, outcome_at, kept_after}
use Rattle.run_rules.specs.Lawful.{MayHappen, History, IsLawfulRun}
use Rattle.run_branch_laws.specs.PhaseLaws.{PhaseFits}
use Rattle.run_rules.specs.Runs.{is_of_rows, answered_by, begins_transaction, is_counted, is_refused}
use Rattle.run_base_laws.specs.RunEvents.{events_of, lives_at}
use Rattle.run_rules.specs.Trail.{root_seen, begins_collect, begun_in_turn, children_after, voted_after, input_drops, accepts_commit, clock_of}
use Rattle.run_rules.proofs.AtNodeLemmas.{turn_here}
use Rattle.run_base_laws.proofs.BirthRunLemmas.{born_are_live_or_left, nodes_name_the_born}
use Rattle.run_base_laws.proofs.EventsStandLemmas.{run_stands, ids_name_their_node}
use Rattle.run_branch_laws.proofs.FreezeRunLemmas.{asked_stand_still}
use Rattle.run_base_laws.proofs.LawfulLemmas.{serves}
use Rattle.run_base_laws.proofs.NodesStandLemmas.{some_or_none}
use Rattle.run_base_laws.proofs.OwnLemmas.{all_found}
use Rattle.run_branch_laws.proofs.PhaseLemmas.{phases_fit}
use Rattle.run_base_laws.proofs.RestRunLemmas.{roots_wait}
use Rattle.run_base_laws.proofs.RootLemmas.{SessionsFit}
use Rattle.tree_laws.proofs.FateLemmas.{among_found}
use Rattle.tree_laws.proofs.PrefixLemmas.{f_at, e_at}
use Rattle.tree_laws.proofs.TimeLemmas.{exit_end}
use Rattle.tree_trail_laws.specs.LowerLaws.{AreVoted, IsTracedLive}
use Rattle.tree_trail_laws.specs.SeenLaws.{TracesTops, SeesRoots}
use Rattle.tree_trail_laws.proofs.CallLemmas.{call_free}
use Rattle.tree_trail_laws.proofs.ChildStepLemmas.{Grows, called_by, stamped_calls, Grown}
use Rattle.tree_trail_laws.proofs.ChildTurnLemmas as kids
use Rattle.tree_trail_laws.proofs.HeardTrailLemmas.{Heard, heard_so}
use Rattle.tree_trail_laws.proofs.MomentLemmas.{tr_at}
use Rattle.tree_trail_laws.proofs.PlanLemmas.{find_last, accepted}
use Rattle.tree_trail_laws.proofs.SeenLemmas.{begun, brings, turned}
use Rattle.tree_trail_laws.proofs.TopBirthLemmas.{IsBorn, Counts, TurnBegins, None_begins, Root_begins, Child_begins, view, not_live, root_unborn, births_one}
use Rattle.tree_trail_laws.proofs.TopCallLemmas.{is_within, within_begins, within_drops, within_alike, commit_gone, commit_busy, commit_same, commit_refused, rollback_gone, given_up_so}
use Rattle.tree_trail_laws.proofs.TopFreshLemmas.{Fresh, fresh_so}
use Rattle.tree_trail_laws.proofs.TopTrailLemmas.{told_so, none_planned, or_not, phase_cases}
use Rattle.tree_trail_laws.proofs.UntouchedLemmas.{Concerns_root, Is_commit, stays_on}
use Rattle.tree_trail_laws.proofs.TopWhoLemmas.{Who, Message_to, Rows_of, Commits, Rolls_back, Is_given_up, Others, one_call, who, either, ByCall, by_call, Sets_savepoint, Goes_back_to}
use Rattle.tree_trail_laws.proofs.TopToldLemmas as turns
use Rattle.tree_laws.proofs.AtTurn.{at_turn}
use Rattle.tree_trail_laws.proofs.AtTrail.{at_trail}
use Rattle.tree_trail_laws.proofs.HeardNodeLemmas.{heard_live, heard_fits}

-- a statement with a table counts as a call
rows_count : (s : Stmt) → is_of_rows s ≡ true → is_counted s ≡ true
rows_count (stmts.Insert table columns given) rows = refl
rows_count (stmts.Update table sets cs) rows = refl
rows_count (stmts.Delete table cs) rows = refl
rows_count (stmts.Select list table cs for_update) rows = refl
rows_count _ rows = absurd cc

module _ (t : History) (whole : IsLawfulRun t) (hs : List Happening) (u : Turn) (rest : List Happening) (is : hs ++ happenings.Turn u ∷ rest ≡ t.trace)
    (tops : TracesTops (f_at t hs) (tr_at t hs)) (sees : SeesRoots (f_at t hs) (tr_at t hs)) (counts : Counts t whole (f_at t hs) (tr_at t hs)) (born : AllByRecursion (λ s. IsBorn t whole hs s.me) (tr_at t hs).seen)
    (plans : AllByRecursion (λ x. IsBorn t whole hs x.root) (tr_at t hs).plans) where
  open at_turn t whole hs u rest is use {after as hs1, part as part0, s as s0, s_after as s1, lawful as lawful0, lawful_after as lawful1, f as f0, g as f1, p}
  open at_trail t hs u use {tr as tr0, tr_on as tr1}

  abbrev may : MayHappen t.places t.commands f0 (happenings.Turn u)
  may = turns.may t whole hs u rest is tops sees counts born plans

  abbrev k : NodeState
  k = may.0

  abbrev d : TurnDraft
  d = draft_of p k u.input

  abbrev fit : SessionsFit k
  fit = turns.fit t whole hs u rest is tops sees counts born plans

  -- ---- its own node

  module _ (cut : u.cut ≡ false) (up : node_at f1 u.node ≡ Some d.after) (l : Live) (live : live_at d.after l.me ≡ Some l) (top : l.parent ≡ None) where
    own : l.me.node ≡ u.node
    own = all_found (λ (x : Live). x.me.node ≡ u.node) live_id d.after.lives l.me l (ids_name_their_node s1 lawful1 u.node d.after (turns.up1 t whole hs u rest is tops sees counts born plans u.node d.after up l live)).lives live

    abbrev Mine : Type 0
    Mine = turns.Told t whole hs u rest is tops sees counts born plans u.node d.after up l live top

    -- ---- one that was live

    module _ (z : Live) (me_z : z.me ≡ l.me) (z_live : live_at k z.me ≡ Some z) (z_top : z.parent ≡ None) (s : Seen) (me : s.me ≡ l.me) (at : seen_at tr0 l.me ≡ Some s) (was : IsTracedLive z s)
        (none : z.phase ≡ phases.Working → plan_at tr0 l.me ≡ None) (silent : children_after s.me s.children u.sent ≡ children_of l) (same_reads : l.read_at ≡ z.read_at) where
      abbrev x : Branch
      x = record { live = z; work = work_at k z.me }

      found : branch_at k z.me ≡ Some x
      found = ap (with_work k) z_live

      root_of : IsRootOf (session_at k.sessions z.me.session) z.me z.phase x.work.going
      root_of = roots_wait s0 lawful0 u.node k may.1.up x found z_top

      abbrev m : ℕ
      m = l.me.session

      session : z.me.session ≡ m
      session = ap (λ (b : BranchId). b.session) me_z

      has : (session_at k.sessions m).root ≡ Some z.me
      has = subst (λ i. (session_at k.sessions i).root ≡ Some z.me) session root_of.root

      is_root : is_root_of u.node m s ≡ true
      is_root =
          and_from (is_live_at u.node s) (is_none s.parent && (s.me.session == m)) (and_from (s.me.node == u.node) (is_none s.exit) (eq-eqb s.me.node u.node (ap (λ (b : BranchId). b.node) me ∙ own)) (ap is_none was.live))
          (and_from (is_none s.parent) (s.me.session == m) (ap is_none (was.parent ∙ z_top)) (eq-eqb s.me.session m (ap (λ (b : BranchId). b.session) me)))

      abbrev t1 : Seen
      t1 = turned t.places f0 tr0 u s

      after : (input : Input) → u.input ≡ input → live_at (draft_of p k input).after z.me ≡ Some l
      after input came = subst (λ i. live_at (draft_of p k i).after z.me ≡ Some l) came (subst (λ c. live_at d.after c ≡ Some l) (sym me_z) live)

      told : input_drops u.node (brings t.places f0 tr0 u).answer s u.input ≡ false → (l.phase ≡ phases.Working → (t1.collects ≡ false) × (t1.voted ≡ [])) → (l.phase ≢ phases.Working → (t1.collects ≡ true) × AreVoted t1.voted l.edges)
          → (s : Seen) × (seen_at tr1 l.me ≡ Some s) × IsTracedLive l s
      told drops working collects =
          told_so t.places f0 tr0 u l top (turns.fits t whole hs u rest is tops sees counts born plans u.node d.after up l live) (turns.unwritten t whole hs u rest is tops sees counts born plans u.node d.after up l live) (turns.unquiet t whole hs u rest is tops sees counts born plans u.node d.after up l live) s me (turns.old_begun t whole hs u rest is tops sees counts born plans u.node d.after up l live top s at) was.live (was.parent ∙ z_top) silent (was.read_at ∙ sym same_reads) drops working collects

      votes_by : (input : Input) → u.input ≡ input → t1.voted ≡ voted_after s input
      votes_by input came = ap (voted_after s) came

      begins_as : (input : Input) → u.input ≡ input → t1.collects ≡ (s.collects || begins_collect u.node (brings t.places f0 tr0 u).answer s input)
      begins_as input came = ap (λ i. s.collects || begins_collect u.node (brings t.places f0 tr0 u).answer s i) came

      -- where its session is free, or waits for a statement, it is working
      works : (c : PendingCall) → RootWaits c z.phase x.work.going → c ≢ pending.Commit → z.phase ≡ phases.Working
      works pending.NoCall waits other = waits.0
      works pending.Statement waits other = waits
      works pending.Commit waits other = absurd (other refl)

      at_call : (o : Option Stmt) → u.input ≡ inputs.Call m o → z.phase ≡ phases.Working
      at_call o call =
          works (session_at k.sessions z.me.session).call root_of.waits
          (λ commits. (let free : (session_at k.sessions z.me.session).call ≡ pending.NoCall = subst (λ i. (session_at k.sessions i).call ≡ pending.NoCall) (sym session) (call_free f0 k u.node u.input u.took m o call may.1.comes).1 in absurd (cc (free, commits))))

      -- nothing of a collect
      same_told : z.phase ≡ phases.Working → l.phase ≡ phases.Working → input_drops u.node (brings t.places f0 tr0 u).answer s u.input ≡ false → t1.collects ≡ s.collects → t1.voted ≡ s.voted → (s : Seen) × (seen_at tr1 l.me ≡ Some s) × IsTracedLive l s
      same_told z_works l_works drops begins votes =
          told drops (λ working. (begins ∙ (was.working z_works).0, votes ∙ (was.working z_works).1)) (λ busy. absurd (busy l_works))

      no_commit : (input : Input) → u.input ≡ input → ((n : ℕ) (given : Option (List ℕ)) → IsCall input n (stmts.Commit given) → ⊥) → plan_at tr0 l.me ≡ None → plan_at tr1 l.me ≡ None
      no_commit input came not = none_planned t.places f0 tr0 u l.me (λ n given call here same_one. absurd (not n given (sym came ∙ call)))

      by_within : (st : Stmt) → u.input ≡ inputs.Call m (Some st) → is_within st ≡ true → Mine
      by_within st call within =
          let z_works : z.phase ≡ phases.Working = at_call (Some st) call in
          let alike = within_alike p k m x found has st within l (after (inputs.Call m (Some st)) call) in
          turns.with_plan t whole hs u rest is tops sees counts born plans u.node d.after up l live top
          (same_told z_works (alike.phase ∙ z_works) (ap (input_drops u.node (brings t.places f0 tr0 u).answer s) call ∙ within_drops u.node m (brings t.places f0 tr0 u).answer s st within)
          (begins_as (inputs.Call m (Some st)) call ∙ (ap (λ q. s.collects || q) (within_begins u.node m (brings t.places f0 tr0 u).answer s st within) ∙ or_not s.collects)) (votes_by (inputs.Call m (Some st)) call))
          (λ working. no_commit (inputs.Call m (Some st)) call (λ n given other. commit_within st given (one_call m n (Some st) (Some (stmts.Commit given)) other).1 within) (none z_works))
        where
          commit_within : (st : Stmt) (given : Option (List ℕ)) → Some st ≡ Some (stmts.Commit given) → is_within st ≡ true → ⊥
          commit_within st given it within = (let here : st ≡ stmts.Commit given = cc in let nobody : is_within st ≡ false = ap is_within here in absurd (cc (nobody, within)))

      by_commit : (given : Option (List ℕ)) → u.input ≡ inputs.Call m (Some (stmts.Commit given)) → (code : Option ℕ) → (session_at k.sessions m).code ≡ code → Mine
      by_commit given call None code = reads z.read_at refl
        where
          reads : (o : Option ℕ) → z.read_at ≡ o → Mine
          reads (Some scn) reading = absurd (commit_gone p k m x found has given code scn reading l (after (inputs.Call m (Some (stmts.Commit given))) call))
          reads None writer =
              let input : Input = inputs.Call m (Some (stmts.Commit given)) in
              let busy = commit_busy p k m x found has given code writer l (after input call) in
              let took : is_refused (answered_by (outcome_at t.places f0 u)) ≡ false = accepted t.places f0 tr0 u k may.1.up m given call code in
              let begins : t1.collects ≡ true = begins_as input call
              ∙ or_right s.collects _ (and_from (is_none s.read_at) _ (ap is_none (was.read_at ∙ writer)) (and_from (is_root_of u.node m s) (not (is_refused (answered_by (outcome_at t.places f0 u)))) is_root (ap not took))) in
              let voted : t1.voted ≡ [] = votes_by input call ∙ (was.working (at_call (Some (stmts.Commit given)) call)).1 in
              turns.with_plan t whole hs u rest is tops sees counts born plans u.node d.after up l live top
              (told (ap (input_drops u.node (brings t.places f0 tr0 u).answer s) call ∙ ap (λ o. is_some o && accepts_commit u.node (brings t.places f0 tr0 u).answer s input) (was.read_at ∙ writer))
              (λ working. absurd (busy.0 working)) (λ other. (begins, subst (λ vs. AreVoted vs l.edges) (sym voted) busy.1)))
              (λ working. absurd (busy.0 working))
      by_commit given call (Some c) code =
          let input : Input = inputs.Call m (Some (stmts.Commit given)) in
          let z_works : z.phase ≡ phases.Working = at_call (Some (stmts.Commit given)) call in
          let same_one : l ≡ z = commit_same p k m x found has given c code l (after input call) in
          let refused : is_refused (answered_by (outcome_at t.places f0 u)) ≡ true = ap (λ o. is_refused (answered_by o)) (turns.outcome_is t whole hs u rest is tops sees counts born plans input call) ∙ commit_refused p k m x found has given c code in
          turns.with_plan t whole hs u rest is tops sees counts born plans u.node d.after up l live top
          (same_told z_works (ap (λ (y : Live). y.phase) same_one ∙ z_works)
          (ap (input_drops u.node (brings t.places f0 tr0 u).answer s) call ∙ and_right (is_some s.read_at) _ (and_right (is_root_of u.node m s) (not (is_refused (answered_by (outcome_at t.places f0 u)))) (ap not refused)))
          (begins_as input call ∙ (ap (λ q. s.collects || q) (and_right (is_none s.read_at) _ (and_right (is_root_of u.node m s) (not (is_refused (answered_by (outcome_at t.places f0 u)))) (ap not refused))) ∙ or_not s.collects)) (votes_by input call))
          (λ working. none_planned t.places f0 tr0 u l.me (λ n other its here same_session. refused) (none z_works))

      by_gives : u.input ≡ inputs.GiveUp m → Mine
      by_gives gives =
          let so = given_up_so p k m x found has l (after (inputs.GiveUp m) gives) in
          let z_works : z.phase ≡ phases.Working = works (session_at k.sessions z.me.session).call root_of.waits (λ commits. so.1 (subst (λ i. (session_at k.sessions i).call ≡ pending.Commit) session commits)) in
          turns.with_plan t whole hs u rest is tops sees counts born plans u.node d.after up l live top
          (same_told z_works (ap (λ (y : Live). y.phase) so.0 ∙ z_works) (ap (input_drops u.node (brings t.places f0 tr0 u).answer s) gives ∙ and_right (is_root_of u.node m s) s.collects (was.working z_works).0)
          (begins_as (inputs.GiveUp m) gives ∙ (ap (λ q. s.collects || q) (and_right (is_none s.read_at) false refl) ∙ or_not s.collects)) (votes_by (inputs.GiveUp m) gives))
          (λ working. no_commit (inputs.GiveUp m) gives (λ n given call. absurd cc) (none z_works))

      by_nobody : ((x : Msg) → u.input ≡ inputs.Message x → same x.to l.me ≡ false) → ((n : ℕ) → Concerns_root u.input n → n ≢ l.me.session) → Mine
      by_nobody not_to not_root =
          let stayed : live_at d.after z.me ≡ Some z
          = stays_on p u.input z.me (λ from kind came. (let no_match = not_to _ came.is in let here : same z.me l.me ≡ true = same_from_equal z.me l.me me_z in absurd (cc (no_match, here)))) z
          (λ j fits_j at_j n its root. not_root n its (sym (fits_j.roots.each n z.me root) ∙ session)) (serves t.places f0 u k may.1).step (heard_fits k fit u.input) (heard_live k u.input z.me ∙ z_live) in
          let both : Some z ≡ Some l = sym stayed ∙ subst (λ c. live_at d.after c ≡ Some l) (sym me_z) live in
          let same_one : l ≡ z = cc in
          turns.untouched t whole hs u rest is tops sees counts born plans u.node d.after up l live top s me at (subst (λ (y : Live). IsTracedLive y s) (sym same_one) was) (λ working. none (ap (λ (y : Live). y.phase) (sym same_one) ∙ working)) silent
          (λ y came. subst (λ b. same y.to b ≡ false) (sym me) (not_to y came))
          (λ n its. and_right (is_live_at u.node s) (is_none s.parent && (s.me.session == n)) (and_right (is_none s.parent) (s.me.session == n) (ne_eqb s.me.session n (λ same_session. not_root n its (sym same_session ∙ ap (λ (b : BranchId). b.session) me)))))
          (λ n given call here same_session. absurd (not_root n (Is_commit given call) (sym same_session)))

      by_message : (y : Msg) → u.input ≡ inputs.Message y → y.to ≡ l.me → Mine
      by_message y came to =
          let heard_it : Heard s y l = hears in
          turns.with_plan t whole hs u rest is tops sees counts born plans u.node d.after up l live top
          (told (ap (input_drops u.node (brings t.places f0 tr0 u).answer s) came ∙ heard_it.drops)
          (λ working. (let had = heard_it.working working in (begins_as (inputs.Message y) came ∙ had.0, votes_by (inputs.Message y) came ∙ had.1)))
          (λ busy. (let had = heard_it.collects busy in (begins_as (inputs.Message y) came ∙ had.0, subst (λ vs. AreVoted vs l.edges) (sym (votes_by (inputs.Message y) came)) had.1))))
          (λ working. no_commit (inputs.Message y) came (λ n given call. absurd cc) (none (z_works (phase_cases z.phase) _ (heard_it.working working).0)))
        where
          z_works : (z.phase ≡ phases.Working) ⊎ (z.phase ≢ phases.Working) → (q : Bool) → (s.collects || q) ≡ false → z.phase ≡ phases.Working
          z_works (inl working) q none_so = working
          z_works (inr busy) q none_so = (let yes_so : (s.collects || q) ≡ true = ap (λ r. r || q) (was.collects busy).0 in absurd (cc (yes_so, none_so)))

          hears : Heard s y l
          hears =
              let k1 : NodeState = heard k (inputs.Message y) in
              let x1 : Branch = record { live = z; work = work_at k1 z.me } in
              let found1 : branch_at k1 z.me ≡ Some x1 = ap (with_work k1) z_live in
              let rests : z.phase ≢ phases.Working → x1.work.going ≡ None = (λ busy. ((asked_stand_still s0 lawful0 u.node k may.1.up x found).1 busy).0) in
              let phase : PhaseFits z.parent z.edges z.phase = all_found (λ (e : Live). PhaseFits e.parent e.edges e.phase) live_id k.lives z.me z (phases_fit s0 lawful0 u.node k may.1.up) z_live in
              let to_z : y.to ≡ z.me = to ∙ sym me_z in
              let turned_at : live_at (kind_turn p k1 y.from z.me y.kind (status_of k1 z.me)).after z.me ≡ Some l = subst (λ b. live_at (kind_turn p k1 y.from b y.kind (status_of k1 b)).after z.me ≡ Some l) to_z (after (inputs.Message y) came) in
              subst (λ b. Heard s (record { from = y.from; to = b; scn = y.scn; kind = y.kind }) l) (sym to_z) (heard_so p k1 x1 found1 rests phase s (me ∙ sym me_z) was l y.from y.scn y.kind turned_at)

      pub old_told : Mine
      old_told = by (who u.input l.me)
        where
          by : Who u.input l.me → Mine
          by (Message_to y came to) = by_message y came to
          by (Rows_of st call rows) = by_within st call (or_right (begins_transaction st) (is_counted st) (rows_count st rows))
          by (Sets_savepoint name call) = by_within (stmts.Savepoint name) call refl
          by (Goes_back_to name call) = by_within (stmts.RollbackTo name) call refl
          by (Commits given call) = by_commit given call (session_at k.sessions m).code refl
          by (Rolls_back call) = absurd (rollback_gone p k m x found has l (after (inputs.Call m (Some stmts.Rollback)) call))
          by (Is_given_up gives) = by_gives gives
          by (Others not_to not_root) = by_nobody not_to not_root

    -- ---- one that begins

    births_now : births_of s1 ≡ births_of s0 ++ births_by p k u.input
    births_now = births_one t whole hs (happenings.Turn u) ∙ (ap (λ c. if c then births_of s0 else births_of s0 ++ births_at p u.input (node_at f0 u.node)) cut ∙ ap (λ o. births_of s0 ++ births_at p u.input o) may.1.up)

    fresh_call : item_at live_id k.lives l.me ≡ None → ByCall p k u.input l.me
    fresh_call new =
        let its : LiveIs (Began (births_of s1)) l = all_found (LiveIs (Began (births_of s1))) live_id d.after.lives l.me l (nodes_name_the_born s1 lawful1 u.node d.after (turns.up1 t whole hs u rest is tops sees counts born plans u.node d.after up l live)).0 live in
        let at : born_at (births_of s0 ++ births_by p k u.input) l.me ≡ Some its.born = subst (λ bs. born_at bs l.me ≡ Some its.born) births_now (subst (λ b. born_at (births_of s1) b ≡ Some its.born) its.is_me its.began) in
        elim (either (births_of s0) (births_by p k u.input) l.me its.born at) [
          | inr now ↦ by_call p k u.input l.me its.born now (its.is_parent ∙ top)
          | inl old ↦ absurd (not_old its.born old)
        ]
      where
        not_old : (y : Born) → born_at (births_of s0) l.me ≡ Some y → ⊥
        not_old y old = elim (born_are_live_or_left s0 lawful0 l.me (λ gone. absurd (cc (old, gone)))) [
          | inl left ↦ elim (some_or_none (exit (e_at t hs) l.me)) [
            | inl some ↦ (let later : exit (events_of s1) l.me ≡ Some some.0 = exit_end s1 lawful1 hs (record { rest = happenings.Turn u ∷ []; is = refl }) l.me some.0 some.1 in let gone = turns.no_exit t whole hs u rest is tops sees counts born plans u.node d.after up l live in absurd (cc (later, gone)))
            | inr gone ↦ absurd (left gone)
          ]
          | inr among ↦ (let here : is_among l.me (lives_at (Some k)) ≡ true = subst (λ o. is_among l.me (lives_at o) ≡ true) may.1.up (subst (λ i. is_among l.me (lives_at (node_at f0 i)) ≡ true) own among) in
              let found = among_found k.lives l.me here in let there = found.1 in absurd (cc (there, new)))
        ]

    pub new_told : item_at live_id k.lives l.me ≡ None → Mine
    new_told new =
        let c : ByCall p k u.input l.me = fresh_call new in
        let range = (call_free f0 k u.node u.input u.took c.session (Some c.statement) c.call may.1.comes).0 in
        let unborn : born_at (births_of s0) (new_root p k c.session) ≡ None = root_unborn t whole hs u rest is sees counts born c.session c.statement c.call c.begins c.none in
        let so : Fresh p k c.session d = subst (λ i. Fresh p k c.session (draft_of p k i)) (sym c.call)
        (fresh_so p k c.session (not_live t whole hs u rest is sees counts born (new_root p k c.session) unborn) fit range c.none c.statement c.begins) in
        let both : Some so.live ≡ Some l = sym so.found ∙ subst (λ b. live_at d.after b ≡ Some l) (sym c.is_me) live in
        let it : so.live ≡ l = cc in
        let s : Seen = root_seen f0 u.node c.statement l.me in
        let input : Input = inputs.Call c.session (Some c.statement) in
        let untold : seen_at tr0 l.me ≡ None = not_told l.me (subst (λ b. born_at (births_of s0) b ≡ None) c.is_me unborn) in
        let begins : begun_in_turn f0 tr0 u ≡ s ∷ [] = its_begin c (view t whole hs u rest is sees counts born cut) in
        let at : seen_at (begun t.places f0 tr0 u) l.me ≡ Some s = ap (λ xs. item_at seen_id (tr0.seen ++ xs) l.me) begins ∙ find_last (is_item_of seen_id l.me) tr0.seen s untold (same_from_equal l.me l.me refl) in
        let works : l.phase ≡ phases.Working = ap (λ (y : Live). y.phase) (sym it) ∙ so.working in
        let silent : children_after l.me [] u.sent ≡ children_of l = ap (children_after l.me []) (turns.sent_is t whole hs u rest is tops sees counts born plans cut) ∙ (stamped_calls l.me d.after.clock [] d.says ∙ (subst (λ b. called_by b [] d.says ≡ children_of so.live) c.is_me so.kids ∙ ap children_of it)) in
        turns.with_plan t whole hs u rest is tops sees counts born plans u.node d.after up l live top
        (told_so t.places f0 tr0 u l top (turns.fits t whole hs u rest is tops sees counts born plans u.node d.after up l live) (turns.unwritten t whole hs u rest is tops sees counts born plans u.node d.after up l live) (turns.unquiet t whole hs u rest is tops sees counts born plans u.node d.after up l live) s refl at refl refl silent (reads_so c (kids.grown t whole hs u rest is (turns.tells t whole hs u rest is tops sees counts born plans)))
        (ap (input_drops u.node (brings t.places f0 tr0 u).answer s) c.call ∙ within_drops u.node c.session (brings t.places f0 tr0 u).answer s c.statement (or_left (begins_transaction c.statement) (is_counted c.statement) c.begins))
        (λ working. (ap (λ i. false || begins_collect u.node (brings t.places f0 tr0 u).answer s i) c.call ∙ within_begins u.node c.session (brings t.places f0 tr0 u).answer s c.statement (or_left (begins_transaction c.statement) (is_counted c.statement) c.begins), ap (voted_after s) c.call))
        (λ busy. absurd (busy works)))
        (λ working. none_planned t.places f0 tr0 u l.me (λ n given call here same_one. absurd (commit_begins c.statement given (one_call c.session n (Some c.statement) (Some (stmts.Commit given)) (sym c.call ∙ call)).1 c.begins))
        (unplanned tr0.plans plans (subst (λ b. born_at (births_of s0) b ≡ None) c.is_me unborn)))
      where
        commit_begins : (st : Stmt) (given : Option (List ℕ)) → Some st ≡ Some (stmts.Commit given) → begins_transaction st ≡ true → ⊥
        commit_begins st given it begins = (let here : st ≡ stmts.Commit given = cc in let nobody : begins_transaction st ≡ false = ap begins_transaction here in absurd (cc (nobody, begins)))

        -- it reads where its node says that it does
        reads_so : (c : ByCall p k u.input l.me) → Grown k p u.input (λ b. born_at (births_of s0) b ≡ None) d → read_at_by (clock_of (node_at f0 u.node)) c.statement ≡ l.read_at
        reads_so c grown =
            let root = (grown.0.each l.me l live).begun new top in
            ap (λ o. read_at_by (clock_of o) c.statement) may.1.up ∙ sym (root.reads c.session c.statement c.call)

        not_told : (b : BranchId) → born_at (births_of s0) b ≡ None → seen_at tr0 b ≡ None
        not_told b unborn = by (seen_at tr0 b) refl
          where
            by : (o : Option Seen) → seen_at tr0 b ≡ o → o ≡ None
            by None none = refl
            by (Some s) some =
                let its : IsBorn t whole hs s.me = all_found (λ (s : Seen). IsBorn t whole hs s.me) seen_id tr0.seen b s born some in
                let at : born_at (births_of s0) b ≡ Some its.0 = subst (λ c. born_at (births_of s0) c ≡ Some its.0) (its.2 ∙ item_is seen_id tr0.seen b s some) its.1 in
                absurd (cc (at, unborn))

        its_begin : (c : ByCall p k u.input l.me) → TurnBegins t whole hs u rest is sees counts born (begun_in_turn f0 tr0 u) → begun_in_turn f0 tr0 u ≡ root_seen f0 u.node c.statement l.me ∷ []
        its_begin c (None_begins nobody are) = absurd (nobody c.session c.statement c.call c.begins c.none)
        its_begin c (Child_begins y nobody its below alive untold are) = absurd (nobody c.session c.statement c.call)
        its_begin c (Root_begins n st call rows range none are) =
            let same_one : c.session ≡ n = (one_call c.session n (Some c.statement) (Some st) (sym c.call ∙ call)).0 in
            let same_call : Some c.statement ≡ Some st = (one_call c.session n (Some c.statement) (Some st) (sym c.call ∙ call)).1 in
            let same_st : st ≡ c.statement = cc in
            are ∙ (ap (λ y. root_seen f0 u.node y (new_root p k n) ∷ []) same_st ∙ ap (λ b. root_seen f0 u.node c.statement b ∷ []) (ap (new_root p k) (sym same_one) ∙ c.is_me))

        unplanned : (ps : List CommitPlan) → AllByRecursion (λ x. IsBorn t whole hs x.root) ps → born_at (births_of s0) l.me ≡ None → find (is_plan_of l.me) ps ≡ None
        unplanned [] all unborn = refl
        unplanned (x ∷ ps) all unborn = by (same x.root l.me) refl (unplanned ps all.1 unborn)
          where
            by : (q : Bool) → same x.root l.me ≡ q → find (is_plan_of l.me) ps ≡ None → (if q then Some x else find (is_plan_of l.me) ps) ≡ None
            by true here rest = (let at : born_at (births_of s0) l.me ≡ Some all.0.0 = subst (λ c. born_at (births_of s0) c ≡ Some all.0.0) (all.0.2 ∙ equal_from_same x.root l.me here) all.0.1 in absurd (cc (at, unborn)))
            by false other rest = rest

    pub own_told : Mine
    own_told = by (item_at live_id k.lives l.me) refl
      where
        its : Grows k p u.input (λ b. born_at (births_of s0) b ≡ None) d.says l
        its = (kids.grown t whole hs u rest is (turns.tells t whole hs u rest is tops sees counts born plans)).0.each l.me l live

        by : (o : Option Live) → item_at live_id k.lives l.me ≡ o → Mine
        by None new = new_told new
        by (Some z) found =
            let had = its.old z found in
            let me_z : z.me ≡ l.me = item_is live_id k.lives l.me z found in
            let z_live : live_at k z.me ≡ Some z = subst (λ c. live_at k c ≡ Some z) (sym me_z) found in
            let z_top : z.parent ≡ None = sym had.1 ∙ top in
            let it = tops u.node k may.1.up z z_live z_top in
            let at : seen_at tr0 l.me ≡ Some it.0 = subst (λ c. seen_at tr0 c ≡ Some it.0) me_z it.1 in
            let me : it.0.me ≡ l.me = item_is seen_id tr0.seen l.me it.0 at in
            old_told z me_z z_live z_top it.0 me at it.2 (λ working. subst (λ b. plan_at tr0 b ≡ None) me_z (it.3 working))
            (ap (λ b. children_after b it.0.children u.sent) me ∙ (ap (λ cs. children_after l.me cs u.sent) it.2.children ∙ (ap (children_after l.me (children_of z)) (turns.sent_is t whole hs u rest is tops sees counts born plans cut) ∙ (stamped_calls l.me d.after.clock (children_of z) d.says ∙ sym had.0)))) had.2

  -- ---- every node

  after_is : u.cut ≡ false → node_at f1 u.node ≡ Some d.after
  unfolding turn_of
  after_is cut = (turn_here t.places t.commands f0 (run_stands s0 lawful0).0.even u k may.1.up).0 ∙ ap (λ c. kept_after c (Some (turn_of p k u.input))) cut

  after_cut : u.cut ≡ true → node_at f1 u.node ≡ None
  after_cut cut = (turn_here t.places t.commands f0 (run_stands s0 lawful0).0.even u k may.1.up).0 ∙ ap (λ c. kept_after c (Some (turn_of p k u.input))) cut

  pub tops_on : TracesTops f1 tr1
  tops_on n j up l live top = elim (cases_eq u.node n) [
    | inr other ↦ turns.elsewhere t whole hs u rest is tops sees counts born plans n j other up l live top
    | inl here ↦ here_told u.cut refl (subst (λ m. node_at f1 m ≡ Some j) (sym here) up)
  ]
    where
      here_told : (cut : Bool) → u.cut ≡ cut → node_at f1 u.node ≡ Some j → (s : Seen) × (seen_at tr1 l.me ≡ Some s) × IsTracedLive l s × (l.phase ≡ phases.Working → plan_at tr1 l.me ≡ None)
      here_told true cut there = (let none : node_at f1 u.node ≡ None = after_cut cut in absurd (cc (none, there)))
      here_told false cut there =
          let both : Some d.after ≡ Some j = sym (after_is cut) ∙ there in
          let it : d.after ≡ j = cc in
          own_told cut (after_is cut) l (subst (λ i. live_at i l.me ≡ Some l) (sym it) live) top
