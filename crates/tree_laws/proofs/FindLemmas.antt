-- Where a root leaves without a rollback, its COMMIT came before, to a root at rest, and was accepted.
use Rattle.std.proofs.Common.{◌≡◌, ◌≢◌, ℕ, ◌⊎◌, Bool, true, false, List, [], ◌∷◌, ◌++◌, unwrap_or, Option, Some, None, inl, inr, refl, sym, ap, subst, ◌∙◌, append-nil}
use Rattle.std.proofs.lemmas.List.{append_assoc}
use Rattle.std.specs.List.{AllByRecursion, list_any}
use Rattle.tran_ids.proofs.ListedLemmas.{item_is}
use Rattle.agreement.specs.Events.{Exit, Sealed, Decided, Quiet, Dropped, exit}
use Rattle.node_rules.specs.Data.{BranchId, Live, Input, RedoRecord, Msg}
use Rattle.node_rules.specs.Data.kinds
use Rattle.node_rules.specs.Data.phases
use Rattle.node_rules.specs.Data.stmts
use Rattle.node_rules.specs.NodeState.{NodeState, Branch, TurnDraft, live_id, live_at, branch_at, work_at, with_work}
use Rattle.node_rules.specs.Sessions.{session_at}
use Rattle.node_rules.specs.Turn.{turn_of, draft_of, start_of}
use Rattle.node_rules.specs.Data.records
use Rattle.node_rules.specs.Inputs.{Came, IsCall}
use Rattle.node_rules.proofs.Steps.{HasRoot}
use Rattle.run_rules.specs.Data.{Turn, Happening}
use Rattle.run_rules.specs.Data.happenings
use Rattle.run_rules.specs.Facts.{first_facts, place_at, node_at, kept_after, facts_after, facts_of}
use Rattle.run_rules.specs.Lawful.{MayHappen, MayTurn, IsOwed, History, IsLawfulRun, facts_at}
use Rattle.run_rules.specs.Births.{Born, births_of}
use Rattle.run_base_laws.specs.BirthLaws.{Began, GoesSo}
use Rattle.run_base_laws.specs.CallLaws.{ComesAtRest}
use Rattle.run_base_laws.specs.InTurnLaws.{said_in, NeedsNoRollback}
use Rattle.run_base_laws.specs.NodeLaws.{EachFactFrom}
use Rattle.run_base_laws.specs.RunEvents.{with_record, with_exits, lives_at, events_after, events_from, events_of}
use Rattle.run_rules.specs.Trail.{is_quiet}
use Rattle.run_rules.proofs.AtNodeLemmas.{turn_elsewhere, turn_here}
use Rattle.run_base_laws.proofs.BirthRunLemmas.{messages_are_of_neighbors}
use Rattle.run_base_laws.proofs.BirthsStandLemmas.{came_so}
use Rattle.run_base_laws.proofs.EventsStandLemmas.{first_node, run_stands, nodes_are_as_events, ids_name_their_node}
use Rattle.run_branch_laws.proofs.FreezeLemmas.{working_or}
use Rattle.run_base_laws.proofs.LaterLemmas.{exit_made, turn_added}
use Rattle.run_base_laws.proofs.LawfulLemmas.{serves}
use Rattle.run_base_laws.proofs.NodesStandLemmas.{some_or_none}
use Rattle.run_base_laws.proofs.OwnLemmas.{all_found}
use Rattle.run_base_laws.proofs.RestRunLemmas.{calls_come_at_rest}
use Rattle.run_base_laws.proofs.RootLemmas.{roots_are_of_sessions}
use Rattle.run_base_laws.proofs.TurnEventLemmas.{cases_nat}
use Rattle.tree_laws.proofs.AnswerRunLemmas.{lives_heard}
use Rattle.tree_laws.proofs.ForestLemmas as trees
use Rattle.tree_laws.proofs.FoundLemmas.{lives_found}
use Rattle.tree_laws.proofs.PrefixLemmas.{so_far, f_at, e_at, one_on, more_on}
use Rattle.run_branch_laws.proofs.KeptRowLemmas.{wrote_seal}
use Rattle.tree_laws.proofs.SealLemmas.{later_unsealed}
use Rattle.tree_laws.proofs.SettleRunLemmas.{known}
use Rattle.tree_laws.proofs.SiteLemmas.{wrote_decision, later_undecided}
use Rattle.tree_laws.specs.LeaveLaws.{Begins_by, LeftSo}
use Rattle.tree_laws.proofs.CommitLemmas.{Ends_record, Commits_root, CommitTurns, Is_other, Is_committed, Is_reader, commit_changes, commit_writes}
use Rattle.tree_laws.proofs.FateLemmas.{node_back, drops_alone}
use Rattle.tree_laws.proofs.LeaveLemmas.{messages_exit, all_quiet, wrote_quiet, was_there}
use Rattle.tree_laws.proofs.TimeLemmas.{may_of, fact_at, exit_end, born_end, keep_on}
use Rattle.tree_laws.proofs.WorkLemmas.{Works, first_works, works_on}
use Rattle.tree_laws.proofs.AtTurn.{at_happening}

module _ (t : History) (whole : IsLawfulRun t) (r : BranchId) where
  -- The COMMIT of the root comes to it at rest, and is accepted.
  pub record CommitAt (hs : List Happening) (u : Turn) : Type 0 where
    pub kept : NodeState
    pub up : node_at (f_at t hs) r.node ≡ Some kept
    pub branch : Branch
    pub found : branch_at kept branch.live.me ≡ Some branch
    pub is_me : branch.live.me ≡ r
    pub working : branch.live.phase ≡ phases.Working
    pub goes : NeedsNoRollback kept branch.live
    pub waits : branch.work.going ≡ None
    pub node : u.node ≡ r.node
    pub session : ℕ
    pub given : Option (List ℕ)
    pub call : IsCall u.input session (stmts.Commit given)
    pub root : HasRoot kept session r
    pub code : (session_at kept.sessions session).code ≡ None
    pub writes : branch.live.read_at ≡ None

  -- so it was before these happenings
  pub record WasFound (hs : List Happening) : Type 0 where
    pub before : List Happening
    pub turn : Turn
    pub later : List Happening
    pub is : before ++ happenings.Turn turn ∷ later ≡ hs
    pub commit : CommitAt before turn

  -- the root has not left, and is working where it is live
  abbrev Before : List Happening → Type 0
  Before hs = (exit (e_at t hs) r ≡ None) × ((k : NodeState) (l : Live) → node_at (f_at t hs) r.node ≡ Some k → live_at k r ≡ Some l → l.phase ≡ phases.Working)

  module _ (top : (x : Born) × Began (births_of t) x × (x.me ≡ r) × (x.parent ≡ None)) (good : (z : Exit) → exit (events_of t) r ≡ Some z → z ≢ Dropped)
      (hs : List Happening) (h : Happening) (rest : List Happening) (is : hs ++ h ∷ rest ≡ t.trace) (none : exit (e_at t hs) r ≡ None)
      (works : (k : NodeState) (l : Live) → node_at (f_at t hs) r.node ≡ Some k → live_at k r ≡ Some l → l.phase ≡ phases.Working) where
    open at_happening t whole hs h rest is use {f, g, e, after, part as first, s, lawful, part_after as later, lawful_after as lawful_z}

    module _ (u : Turn) (turn : h ≡ happenings.Turn u) (k : NodeState) (may : MayTurn t.places f u k) (node : u.node ≡ r.node) where
      abbrev d : TurnDraft
      d = draft_of (place_at t.places u.node) k u.input

      up : node_at f r.node ≡ Some k
      up = subst (λ i. node_at f i ≡ Some k) node may.up

      rest_at : ComesAtRest t.places f (happenings.Turn u)
      rest_at =
          subst (ComesAtRest t.places f) turn
          (fact_at t.places t.commands (ComesAtRest t.places) (first_facts t.places) hs h rest (subst (EachFactFrom (ComesAtRest t.places) t.places t.commands (first_facts t.places)) (sym is) (calls_come_at_rest t whole)))

      found : (n : ℕ) (given : Option (List ℕ)) → IsCall u.input n (stmts.Commit given) → Commits_root k n (unwrap_or given []) r → CommitAt hs u
      found n given call root =
          let x : Branch = root.0 in
          let at_rest = rest_at k may.up n (Some (stmts.Commit given)) call x root.3 root.1 in
          let session : x.live.me.session ≡ n = (roots_are_of_sessions s lawful u.node k may.up n x.live.me root.3).0 in
          record {
            kept = k;
            up = up;
            branch = x;
            found = root.1;
            is_me = root.2;
            working = at_rest.0;
            goes = λ no_parent. subst (λ i. (session_at k.sessions i).code ≡ None) (sym session) root.4;
            waits = at_rest.1;
            node = node;
            session = n;
            given = given;
            call = call;
            root = subst (HasRoot k n) root.2 root.3;
            code = root.4;
            writes = root.5;
          }

      -- no Prepare comes to a root
      no_prepare : (from : BranchId) (b : Bool) (comment : List ℕ) → Came u.input from r (kinds.Prepare b comment) → ⊥
      no_prepare from b comment came =
          let kid = came_so (GoesSo (Began (births_of s))) f (messages_are_of_neighbors s lawful) k u.node u.input u.took may.comes from r (kinds.Prepare b comment) came in
          let one : kid.0 ≡ top.0 = trees.same_born (births_of t) (said_in (facts_at t)) (known t whole) kid.0 top.0 (born_end t whole hs first kid.0 kid.1) top.1 (kid.2 ∙ sym top.2) in
          let above : top.0.parent ≡ Some from = subst (λ (x : Born). x.parent ≡ Some from) one kid.3 in
          let no_parent : top.0.parent ≡ None = top.3 in
          absurd (cc (above, no_parent))

      -- by the input of a turn whose draft changes it, or writes its record
      begun : Begins_by u.input r → ((n : ℕ) (given : Option (List ℕ)) → IsCall u.input n (stmts.Commit given) → Commits_root k n (unwrap_or given []) r) → CommitAt hs u
      begun (inl call) root = found call.0 call.1 call.2 (root call.0 call.1 call.2)
      begun (inr prepare) root = absurd (no_prepare prepare.0 prepare.1 prepare.2 prepare.3)

      -- what the node keeps after a turn that is whole
      whole_after : u.cut ≡ false → node_at (f_at t after) r.node ≡ Some d.after
      unfolding turn_of
      whole_after cut =
          let here : node_at (facts_after t.places t.commands f (happenings.Turn u)) u.node ≡ Some d.after
          = (turn_here t.places t.commands f (run_stands s lawful).0.even u k may.up).0 ∙ ap (λ q. kept_after q (Some (turn_of (place_at t.places u.node) k u.input))) cut in
          let there : node_at (facts_after t.places t.commands f (happenings.Turn u)) r.node ≡ Some d.after = subst (λ i. node_at (facts_after t.places t.commands f (happenings.Turn u)) i ≡ Some d.after) node here in
          let its : node_at g r.node ≡ Some d.after = subst (λ (y : Happening). node_at (facts_after t.places t.commands f y) r.node ≡ Some d.after) (sym turn) there in
          subst (λ x. node_at x r.node ≡ Some d.after) (sym (one_on t hs h)) its

      -- and nothing after one that is cut
      cut_after : u.cut ≡ true → node_at (f_at t after) r.node ≡ None
      cut_after cut =
          let here : node_at (facts_after t.places t.commands f (happenings.Turn u)) u.node ≡ None
          = (turn_here t.places t.commands f (run_stands s lawful).0.even u k may.up).0 ∙ ap (λ q. kept_after q (Some (turn_of (place_at t.places u.node) k u.input))) cut in
          let there : node_at (facts_after t.places t.commands f (happenings.Turn u)) r.node ≡ None = subst (λ i. node_at (facts_after t.places t.commands f (happenings.Turn u)) i ≡ None) node here in
          let its : node_at g r.node ≡ None = subst (λ (y : Happening). node_at (facts_after t.places t.commands f y) r.node ≡ None) (sym turn) there in
          subst (λ x. node_at x r.node ≡ None) (sym (one_on t hs h)) its

      changes : (n : ℕ) (given : Option (List ℕ)) → IsCall u.input n (stmts.Commit given) → CommitTurns k n (unwrap_or given []) r d
      changes n given call =
          subst (λ (i : Input). CommitTurns k n (unwrap_or given []) r (draft_of (place_at t.places u.node) k i)) (sym call) (commit_changes (place_at t.places u.node) k n given r)

      -- a live root that is not working afterwards
      busy_commits : (l : Live) → live_at d.after r ≡ Some l → l.phase ≢ phases.Working → CommitAt hs u
      busy_commits l live other =
          let all : AllByRecursion (Works k u.input) d.after.lives
          = works_on k u.input (place_at t.places u.node) (serves t.places f u k may).step (subst (λ (ls : List Live). AllByRecursion (Works k u.input) ls) (sym (lives_heard k u.input)) (first_works k u.input (lives_found s lawful u.node k may.up))) in
          let me : l.me ≡ r = item_is live_id d.after.lives r l live in
          let why : Works k u.input l = all_found (Works k u.input) live_id d.after.lives r l all live in
          elim (why (λ z at. works k z up (subst (λ b. live_at k b ≡ Some z) me at))) [
            | inl working ↦ absurd (other working)
            | inr begins ↦ begun (subst (Begins_by u.input) me begins) (λ n given call. elim (changes n given call) [
              | Is_committed root ↦ root
              | Is_other same ↦ absurd (other (works k l up (sym same ∙ live)))
              | Is_reader gone loud ↦ absurd (cc (gone, live))
            ])
          ]

      left_begins : {x : Exit} → LeftSo k u.input (said_in f) r x → Begins_by u.input r
      left_begins so = subst (Begins_by u.input) so.is_me (so.begins (works k so.live up (subst (λ b. live_at k b ≡ Some so.live) so.is_me so.found)))

      record_of : Ends_record r u.wrote → Ends_record r d.wrote
      record_of it = elim (serves t.places f u k may).wrote [
        | inl none_is ↦ absurd (elim (subst (Ends_record r) none_is it) [ inl never ↦ never | inr never ↦ never ])
        | inr same ↦ subst (Ends_record r) same it
      ]

      -- a root whose record was written
      wrote_commits : {x : Exit} → LeftSo k u.input (said_in f) r x → Ends_record r u.wrote → CommitAt hs u
      wrote_commits left it =
          begun (left_begins left)
          (λ n given call. subst (λ (i : Input). Ends_record r (draft_of (place_at t.places u.node) k i).wrote → Commits_root k n (unwrap_or given []) r) (sym call) (commit_writes (place_at t.places u.node) k n given r) (record_of it))

      -- one that answers without changes
      quiet_commits : (cut : Bool) → u.cut ≡ cut → IsOwed (place_at t.places u.node) k u.input u.wrote u.sent cut → list_any (is_quiet r) u.sent ≡ true → exit (e_at t after) r ≡ Some Quiet → LeftSo k u.input (said_in f) r Quiet → CommitAt hs u
      unfolding turn_of
      quiet_commits true cut owed quiet left so = (let no : list_any (is_quiet r) u.sent ≡ false = ap (λ (ms : List Msg). list_any (is_quiet r) ms) owed.1 in absurd (cc (quiet, no)))
      quiet_commits false cut owed quiet left so =
          begun (left_begins so) (λ n given call. elim (changes n given call) [
            | Is_committed root ↦ root
            | Is_reader gone loud ↦ (let no : list_any (is_quiet r) u.sent ≡ false = ap (λ (ms : List Msg). list_any (is_quiet r) ms) owed.1 ∙ loud d.after.clock in absurd (cc (quiet, no)))
            | Is_other same ↦ (let live : live_at d.after r ≡ Some so.live = same ∙ subst (λ b. live_at k b ≡ Some so.live) so.is_me so.found in
                let clean : exit (e_at t after) so.live.me ≡ None = all_found (λ (l : Live). exit (e_at t after) l.me ≡ None) live_id d.after.lives r so.live (nodes_are_as_events (so_far t after) lawful_z r.node d.after (whole_after cut)).0 live in
                let none_left : exit (e_at t after) r ≡ None = subst (λ b. exit (e_at t after) b ≡ None) so.is_me clean in
                absurd (cc (none_left, left)))
          ])

      left_commits : (x : Exit) → x ≢ Dropped → exit (events_after t.places t.commands f (happenings.Turn u) e) r ≡ Some x → exit (e_at t after) r ≡ Some x → LeftSo k u.input (said_in f) r x → CommitAt hs u
      left_commits (Sealed n) other is_now left so = elim (exit_made r (Sealed n) (turn_added f (facts_after t.places t.commands f (happenings.Turn u)) u e) is_now) [
        | inl old ↦ elim (wrote_seal u.node e u.wrote r n old) [ inl older ↦ absurd (cc (older, none)) | inr it ↦ wrote_commits so (inl it) ]
        | inr made ↦ absurd (later_unsealed r n made.0 made.1 made.2)
      ]
      left_commits (Decided n) other is_now left so = elim (exit_made r (Decided n) (turn_added f (facts_after t.places t.commands f (happenings.Turn u)) u e) is_now) [
        | inl old ↦ elim (wrote_decision u.node e u.wrote r n old) [ inl older ↦ absurd (cc (older, none)) | inr it ↦ wrote_commits so (inr it) ]
        | inr made ↦ absurd (later_undecided r n made.0 made.1 made.2)
      ]
      left_commits Quiet other is_now left so =
          let gone : exit (with_exits f (facts_after t.places t.commands f (happenings.Turn u)) u e) r ≡ Some Quiet = sym (messages_exit u.sent (with_exits f (facts_after t.places t.commands f (happenings.Turn u)) u e) r) ∙ is_now in
          elim (all_quiet (lives_at (node_at (facts_after t.places t.commands f (happenings.Turn u)) u.node)) u.sent (lives_at (node_at f u.node)) r (with_record u e) gone) [
            | inl old ↦ (let older : exit e r ≡ Some Quiet = wrote_quiet u.node e u.wrote r old in absurd (cc (older, none)))
            | inr new ↦ quiet_commits u.cut refl may.owed new left so
          ]
      left_commits Dropped other is_now left so = absurd (other refl)

    -- ---- one happening more

    -- what it leaves where it is live
    abbrev Next : Type 0
    Next = ((k : NodeState) (l : Live) → node_at (f_at t after) r.node ≡ Some k → live_at k r ≡ Some l → l.phase ≡ phases.Working) ⊎ ((u : Turn) × (h ≡ happenings.Turn u) × CommitAt hs u)

    same_works : (j : NodeState) → node_at f r.node ≡ Some j → (l : Live) → live_at j r ≡ Some l → l.phase ≡ phases.Working
    same_works j there l live = works j l there live

    turn_next : (u : Turn) → h ≡ happenings.Turn u → (k : NodeState) → MayTurn t.places f u k → (j : NodeState) (l : Live) → node_at (f_at t after) r.node ≡ Some j → live_at j r ≡ Some l → l.phase ≢ phases.Working → CommitAt hs u
    turn_next u turn k may j l there live other = elim (cases_nat u.node r.node) [
      | inr apart ↦ (let its : node_at (facts_after t.places t.commands f (happenings.Turn u)) r.node ≡ Some j = subst (λ (y : Happening). node_at (facts_after t.places t.commands f y) r.node ≡ Some j) turn (subst (λ x. node_at x r.node ≡ Some j) (one_on t hs h) there) in
          absurd (other (same_works j (sym (turn_elsewhere t.places t.commands f (run_stands s lawful).0.even u r.node apart).0 ∙ its) l live)))
      | inl node ↦ by node u.cut refl
    ]
      where
        by : u.node ≡ r.node → (cut : Bool) → u.cut ≡ cut → CommitAt hs u
        by node true cut = (let down : node_at (f_at t after) r.node ≡ None = cut_after u turn k may node cut in absurd (cc (down, there)))
        by node false cut =
            let both : Some (draft_of (place_at t.places u.node) k u.input).after ≡ Some j = sym (whole_after u turn k may node cut) ∙ there in
            let mine : (draft_of (place_at t.places u.node) k u.input).after ≡ j = cc in
            busy_commits u turn k may node l (subst (λ i. live_at i r ≡ Some l) (sym mine) live) other

    next_live : (j : NodeState) (l : Live) → node_at (f_at t after) r.node ≡ Some j → live_at j r ≡ Some l → l.phase ≢ phases.Working → (u : Turn) × (h ≡ happenings.Turn u) × CommitAt hs u
    next_live j l there live other = by h refl
      where
        apart : ((u : Turn) → h ≢ happenings.Turn u) → (u : Turn) × (h ≡ happenings.Turn u) × CommitAt hs u
        apart not =
            let me : l.me ≡ r = item_is live_id j.lives r l live in
            let w : Branch = record { live = l; work = work_at j l.me } in
            let found_w : branch_at j l.me ≡ Some w = ap (with_work j) (subst (λ b. live_at j b ≡ Some l) (sym me) live) in
            let before : node_at f r.node ≡ Some j = node_back t hs h not r.node j (subst (λ x. node_at x r.node ≡ Some j) (one_on t hs h) there) w found_w in
            absurd (other (same_works j before l live))

        by : (y : Happening) → h ≡ y → (u : Turn) × (h ≡ happenings.Turn u) × CommitAt hs u
        by (happenings.Turn u) turn = (let may : MayHappen t.places t.commands f (happenings.Turn u) = subst (MayHappen t.places t.commands f) turn (may_of t whole hs h rest is) in (u, turn, turn_next u turn may.0 may.1 j l there live other))
        by (happenings.Stopped m) it = apart (λ u turn. (let no : happenings.Turn u ≡ happenings.Stopped m = sym turn ∙ it in absurd cc))
        by (happenings.Started m boot) it = apart (λ u turn. (let no : happenings.Turn u ≡ happenings.Started m boot = sym turn ∙ it in absurd cc))
        by (happenings.Begun m) it = apart (λ u turn. (let no : happenings.Turn u ≡ happenings.Begun m = sym turn ∙ it in absurd cc))
        by (happenings.Cut a b) it = apart (λ u turn. (let no : happenings.Turn u ≡ happenings.Cut a b = sym turn ∙ it in absurd cc))
        by (happenings.Join a b) it = apart (λ u turn. (let no : happenings.Turn u ≡ happenings.Join a b = sym turn ∙ it in absurd cc))
        by (happenings.Lost m) it = apart (λ u turn. (let no : happenings.Turn u ≡ happenings.Lost m = sym turn ∙ it in absurd cc))

    -- who leaves does so in a turn
    next_left : (x : Exit) → x ≢ Dropped → exit (e_at t after) r ≡ Some x → (u : Turn) × (h ≡ happenings.Turn u) × CommitAt hs u
    next_left x other left = by h refl
      where
        now : exit (events_after t.places t.commands f h e) r ≡ Some x
        now = subst (λ y. exit y r ≡ Some x) (more_on t hs h) left

        apart : ((u : Turn) → h ≢ happenings.Turn u) → (u : Turn) × (h ≡ happenings.Turn u) × CommitAt hs u
        apart not = absurd (other (drops_alone t hs h not r x none now))

        turned : (u : Turn) → h ≡ happenings.Turn u → (k : NodeState) → MayTurn t.places f u k → CommitAt hs u
        turned u turn k may =
            let here : exit (events_after t.places t.commands f (happenings.Turn u) e) r ≡ Some x = subst (λ y. exit (events_after t.places t.commands f y e) r ≡ Some x) turn now in
            let so : LeftSo k u.input (said_in f) r x = was_there t hs lawful u k may r none x other here in
            let own : so.live.me.node ≡ u.node = all_found (λ (l : Live). l.me.node ≡ u.node) live_id k.lives so.live.me so.live (ids_name_their_node s lawful u.node k may.up).lives so.found in
            left_commits u turn k may (sym own ∙ ap (λ (b : BranchId). b.node) so.is_me) x other here left so

        by : (y : Happening) → h ≡ y → (u : Turn) × (h ≡ happenings.Turn u) × CommitAt hs u
        by (happenings.Turn u) turn = (let may : MayHappen t.places t.commands f (happenings.Turn u) = subst (MayHappen t.places t.commands f) turn (may_of t whole hs h rest is) in (u, turn, turned u turn may.0 may.1))
        by (happenings.Stopped m) it = apart (λ u turn. (let no : happenings.Turn u ≡ happenings.Stopped m = sym turn ∙ it in absurd cc))
        by (happenings.Started m boot) it = apart (λ u turn. (let no : happenings.Turn u ≡ happenings.Started m boot = sym turn ∙ it in absurd cc))
        by (happenings.Begun m) it = apart (λ u turn. (let no : happenings.Turn u ≡ happenings.Begun m = sym turn ∙ it in absurd cc))
        by (happenings.Cut a b) it = apart (λ u turn. (let no : happenings.Turn u ≡ happenings.Cut a b = sym turn ∙ it in absurd cc))
        by (happenings.Join a b) it = apart (λ u turn. (let no : happenings.Turn u ≡ happenings.Join a b = sym turn ∙ it in absurd cc))
        by (happenings.Lost m) it = apart (λ u turn. (let no : happenings.Turn u ≡ happenings.Lost m = sym turn ∙ it in absurd cc))

    commit_now : (u : Turn) × (h ≡ happenings.Turn u) × CommitAt hs u → WasFound after
    commit_now it = record { before = hs; turn = it.0; later = []; is = ap (λ y. hs ++ y ∷ []) (sym it.1); commit = it.2 }

    pub find_on : Before after ⊎ WasFound after
    find_on = elim (some_or_none (exit (e_at t after) r)) [
      | inl left ↦ inr (commit_now (next_left left.0 (good left.0 (exit_end t whole after later r left.0 left.1)) left.1))
      | inr clean ↦ by clean (node_at (f_at t after) r.node) refl
    ]
      where
        in_node : exit (e_at t after) r ≡ None → (j : NodeState) → node_at (f_at t after) r.node ≡ Some j → (o : Option Live) → live_at j r ≡ o → Before after ⊎ WasFound after
        in_node clean j there None at = inl (clean, (λ k l up live. absurd (let both : Some j ≡ Some k = sym there ∙ up in let it : j ≡ k = cc in let no : live_at k r ≡ None = subst (λ i. live_at i r ≡ None) it at in cc (no, live))))
        in_node clean j there (Some l) at = elim (working_or l.phase) [
          | inl working ↦ inl (
            clean,
            (λ k y up live. (let both : Some j ≡ Some k = sym there ∙ up in let it : j ≡ k = cc in
                let two : Some l ≡ Some y = sym (subst (λ i. live_at i r ≡ Some l) it at) ∙ live in let same : l ≡ y = cc in
                subst (λ (z : Live). z.phase ≡ phases.Working) same working)),
          )
          | inr other ↦ inr (commit_now (next_live j l there at other))
        ]

        by : exit (e_at t after) r ≡ None → (o : Option NodeState) → node_at (f_at t after) r.node ≡ o → Before after ⊎ WasFound after
        by clean None there = inl (clean, (λ k l up live. absurd (cc (there, up))))
        by clean (Some j) there = in_node clean j there (live_at j r) refl

  -- from the first happening on
  module _ (top : (x : Born) × Began (births_of t) x × (x.me ≡ r) × (x.parent ≡ None)) (good : (z : Exit) → exit (events_of t) r ≡ Some z → z ≢ Dropped) where
    more_found : (hs : List Happening) (h : Happening) → WasFound hs → WasFound (hs ++ h ∷ [])
    more_found hs h it =
        record { before = it.before; turn = it.turn; later = it.later ++ h ∷ []; is = sym (append_assoc it.before (happenings.Turn it.turn ∷ it.later) (h ∷ [])) ∙ ap (λ xs. xs ++ h ∷ []) it.is; commit = it.commit }

    abbrev Known_so : List Happening → Type 0
    Known_so hs = Before hs ⊎ WasFound hs

    known_on : (hs : List Happening) (h : Happening) (rest : List Happening) → hs ++ h ∷ rest ≡ t.trace → Known_so hs → Known_so (hs ++ h ∷ [])
    known_on hs h rest is (inl now) = find_on top good hs h rest is now.0 now.1
    known_on hs h rest is (inr it) = inr (more_found hs h it)

    start_dead : (zs : List RedoRecord) (l : Live) → live_at (start_of zs) r ≡ Some l → ⊥
    unfolding start_of
    start_dead zs l is = absurd cc

    none_live_first : (n : ℕ) (k : NodeState) (l : Live) → node_at (f_at t []) n ≡ Some k → live_at k r ≡ Some l → ⊥
    unfolding facts_of
    none_live_first n =
        first_node (λ o. (k : NodeState) (l : Live) → o ≡ Some k → live_at k r ≡ Some l → ⊥) (λ k l up live. absurd cc)
        (λ k l up live. start_dead (records.Boot 1 ∷ []) l (let it : start_of (records.Boot 1 ∷ []) ≡ k = cc in subst (λ i. live_at i r ≡ Some l) (sym it) live)) t.places n

    none_left_first : exit (e_at t []) r ≡ None
    unfolding events_from
    none_left_first = refl

    -- its COMMIT
    pub commit_found : (z : Exit) → exit (events_of t) r ≡ Some z → WasFound t.trace
    commit_found z left =
        elim (keep_on t whole Known_so known_on [] t.trace (record { rest = []; is = append-nil t.trace }) (inl (none_left_first, (λ k l up live. absurd (none_live_first r.node k l up live))))) [
          | inl before ↦ absurd (cc (before.0, left))
          | inr found ↦ found
        ]

    -- so it was where it is live and not working
    pub commit_came : (k : NodeState) (l : Live) → node_at (facts_at t) r.node ≡ Some k → live_at k r ≡ Some l → l.phase ≢ phases.Working → WasFound t.trace
    commit_came k l up live other =
        elim (keep_on t whole Known_so known_on [] t.trace (record { rest = []; is = append-nil t.trace }) (inl (none_left_first, (λ j y there at. absurd (none_live_first r.node j y there at))))) [
          | inl before ↦ absurd (other (before.1 k l up live))
          | inr found ↦ found
        ]
