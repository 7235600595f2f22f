-- In every lawful run the COMMIT of a root ends for a cause: each end of a step, by what the book and the branch history have.
use Rattle.std.proofs.Common.{◌≡◌, ℕ, Bool, true, false, List, [], ◌∷◌, ◌++◌, IfSome, Option, Some, None, inl, inr, refl, sym, ap, subst, ◌∙◌}
use Rattle.std.specs.Prelude.{◌⊎◌, option_to_list, map}
use Rattle.std.specs.List.{AllByRecursion, list_all}
use Rattle.tran_ids.proofs.ListedLemmas.{item_is}
use Rattle.agreement.specs.Events as exits
use Rattle.agreement.specs.Events.{Event, Knows, exit, learned, forced}
use Rattle.node_rules.specs.Data.{Answer, BranchId, Decided, Decision, Edge, Input, KeptRow, Kind, Live, Msg, Place, RedoRecord, Vote}
use Rattle.node_rules.specs.Data.decisions
use Rattle.node_rules.specs.Data.inputs
use Rattle.node_rules.specs.Data.kinds
use Rattle.node_rules.specs.Data.phases
use Rattle.node_rules.specs.Data.records
use Rattle.node_rules.specs.Data.states
use Rattle.node_rules.specs.Data.stmts
use Rattle.node_rules.specs.Data.votes
use Rattle.node_rules.specs.declared.session.PendingCall.TheVariants as pending
use Rattle.node_rules.specs.Commit.{knows_commit}
use Rattle.node_rules.specs.Inputs.{Came}
use Rattle.node_rules.specs.NodeState.{NodeState, TurnOutput, live_id, live_at, kept_row_id, kept_row_at}
use Rattle.node_rules.specs.Prepare.{all_answered, voted}
use Rattle.node_rules.specs.Sessions.{session_at, commit_complete}
use Rattle.node_rules.specs.Turn.{turn_of}
use Rattle.node_rules.proofs.Steps.{Answers, vote_kind}
use Rattle.run_rules.specs.BranchRecords.{decided_in}
use Rattle.run_rules.specs.Branches.{Seen, Trail, is_among, plan_at, root_at, seen_at, seen_id}
use Rattle.run_rules.specs.Data.{Turn, Happening}
use Rattle.run_rules.specs.Data.happenings
use Rattle.run_rules.specs.Facts.{Facts, node_at, place_at, records_at}
use Rattle.run_rules.specs.Lawful.{IsOwed, History, IsLawfulRun, MayTurn}
use Rattle.run_rules.specs.Trail.{is_vote, trail_after}
use Rattle.run_rules.proofs.AtNodeLemmas.{turn_here}
use Rattle.run_claims.specs.Knowledge.{IsForce, IsAbortTo, IsLastVote, KnowsEnough, IsCommitPoint, IsPrepareToLeaf, MayForget, MayWrite, TurnKnows, acks_of, neighbors_of}
use Rattle.run_base_laws.specs.EventRows.{IsForcedAs, IsKnown, MayStand, RowIs}
use Rattle.run_base_laws.proofs.EventsStandLemmas.{ids_name_their_node, nodes_are_as_events, run_stands}
use Rattle.run_base_laws.proofs.LawfulLemmas.{turn_of_node}
use Rattle.run_base_laws.proofs.OwnLemmas.{all_found}
use Rattle.run_base_laws.proofs.RestRunLemmas.{NodeRests, run_roots}
use Rattle.run_base_laws.proofs.RootLemmas.{root_alone}
use Rattle.run_branch_laws.specs.PhaseLaws.{PhaseFits}
use Rattle.run_branch_laws.proofs.PhaseLemmas.{phases_fit}
use Rattle.run_cause_laws.proofs.KnowLemmas.{every_turn_knows}
use Rattle.tree_trail_laws.proofs.LeftExitLemmas.{abort_came, abort_first}
use Rattle.run_cause_laws.proofs.OnceLemmas.{IsOnly, disks_only}
use Rattle.book_laws.specs.LeaveLaws.{IsLastAnswer}
use Rattle.tree_laws.proofs.PrefixLemmas.{so_far, f_at, e_at, one_on}
use Rattle.tree_laws.proofs.TimeLemmas.{Part, may_of, part_on, part_of, part_lawful}
use Rattle.tree_laws.proofs.TopStepLemmas.{Finishes, At_once, On_answer}
use Rattle.tree_trail_laws.specs.LowerLaws.{IsTracedLive}
use Rattle.tree_trail_laws.specs.SeenLaws.{Sees}
use Rattle.tree_trail_laws.proofs.CallLemmas.{call_free, seen_root}
use Rattle.tree_trail_laws.proofs.LeaveLemmas.{seals}
use Rattle.tree_trail_laws.proofs.MomentLemmas.{tr_at, at_moment}
use Rattle.tree_trail_laws.proofs.SeenRunLemmas.{all_is_seen}
use Rattle.commit_answer_laws.specs.CommitCauses as causes
use Rattle.commit_answer_laws.specs.CommitCauses.{AllAgree, CommitCause, IsInDoubt}
use Rattle.commit_answer_laws.specs.CommitEndLaws.{row_knows}
use Rattle.commit_answer_laws.proofs.CauseBookLemmas.{commit_in_book, none_in_book, doubt_in_book, decided_before}
use Rattle.commit_answer_laws.proofs.EndStepLemmas.{StepEnd, Has_decided, Has_no_site, Has_forgotten, Hears_abort, Is_given_up, Ends_back, Meets_back, Is_known, Is_in_doubt, Is_forced}
use Rattle.tree_trail_laws.proofs.NoSiteLemmas.{plan_there}
use Rattle.commit_answer_laws.proofs.RootHoldLemmas.{Holds}
use Rattle.commit_answer_laws.proofs.RootHoldRunLemmas.{roots_hold}
use Rattle.commit_answer_laws.proofs.RowHoldLemmas.{well_row}
use Rattle.commit_answer_laws.proofs.UndecidedLemmas.{EndsAs, owed as its_owed, may as its_turn, may_stand as its_may}

-- ---- answers to Prepare

vote_abort : (v : Vote) → vote_kind v ≡ Some kinds.Abort → v ≡ votes.Abort
vote_abort votes.Abort is = refl
vote_abort votes.Prepared is = absurd cc
vote_abort votes.ReadOnly is = absurd cc
vote_abort votes.Ready is = absurd cc
vote_abort _ is = absurd cc

vote_is : (v : Vote) (kind : Kind) → vote_kind v ≡ Some kind → is_vote kind ≡ true
vote_is votes.Prepared kind is = (let it : Some kinds.Prepared ≡ Some kind = is in let same : kinds.Prepared ≡ kind = cc in ap is_vote (sym same))
vote_is votes.ReadOnly kind is = (let it : Some kinds.ReadOnly ≡ Some kind = is in let same : kinds.ReadOnly ≡ kind = cc in ap is_vote (sym same))
vote_is votes.Ready kind is = (let it : Some kinds.Ready ≡ Some kind = is in let same : kinds.Ready ≡ kind = cc in ap is_vote (sym same))
vote_is votes.Abort kind is = (let it : Some kinds.Abort ≡ Some kind = is in let same : kinds.Abort ≡ kind = cc in ap is_vote (sym same))
vote_is _ kind is = absurd cc

-- the kind of the message that came
abbrev kind_in : Input → Option Kind
kind_in (inputs.Message m) = Some m.kind
kind_in _ = None

same_kind : {input : Input} {from to from1 to1 : BranchId} {kind kind1 : Kind} → Came input from to kind → Came input from1 to1 kind1 → kind ≡ kind1
same_kind {kind = kind} {kind1 = kind1} one two = let it : Some kind ≡ Some kind1 = sym (ap kind_in one.is) ∙ ap kind_in two.is in cc

all_last : {A : Type 0} (P : A → Type 0) (xs : List A) (x : A) → AllByRecursion P (xs ++ x ∷ []) → P x
all_last P [] x all = all.0
all_last P (y ∷ xs) x all = all_last P xs x all.1

-- a whole turn writes what it owes
pub owes_so : (t : History) (whole : IsLawfulRun t) (hs : List Happening) (u : Turn) (rest : List Happening) → hs ++ happenings.Turn u ∷ rest ≡ t.trace → u.cut ≡ false → (k : NodeState) → node_at (f_at t hs) u.node ≡ Some k
    → u.wrote ≡ (turn_of (place_at t.places u.node) k u.input).wrote
owes_so t whole hs u rest is uncut k up = by u.cut uncut (turn_of_node t.places (f_at t hs) u k t.commands (may_of t whole hs (happenings.Turn u) rest is) up).owed
  where
    by : (cut : Bool) → cut ≡ false → IsOwed (place_at t.places u.node) k u.input u.wrote u.sent cut → u.wrote ≡ (turn_of (place_at t.places u.node) k u.input).wrote
    by true uncut_so owed = absurd cc
    by false uncut_so owed = owed.0

-- a forced outcome is the record that its turn owes, and is that of a statement which names the branch
pub forces_so : (t : History) (whole : IsLawfulRun t) (hs : List Happening) (u : Turn) (rest : List Happening) → hs ++ happenings.Turn u ∷ rest ≡ t.trace → u.cut ≡ false → (k : NodeState) → node_at (f_at t hs) u.node ≡ Some k
    → (b : BranchId) (d : Decision) (given : Bool) → u.wrote ≡ Some (records.Forced b d given)
    → (u.wrote ≡ (turn_of (place_at t.places u.node) k u.input).wrote) × IsForce (place_at t.places u.node) (f_at t hs) k b d given u.input
forces_so t whole hs u rest is uncut k up b d given wrote = (owes_so t whole hs u rest is uncut k up, force)
  where
    knows : TurnKnows t.places (f_at t hs) (tr_at t hs) u k
    knows = at_moment t KnowsEnough (every_turn_knows t whole) hs (happenings.Turn u) rest is k up

    force : IsForce (place_at t.places u.node) (f_at t hs) k b d given u.input
    force = subst (λ w. IfSome w (MayWrite (place_at t.places u.node) (f_at t hs) (tr_at t hs) (trail_after t.places (f_at t hs) (tr_at t hs) (happenings.Turn u)) k u.node u.input)) wrote knows.writes

module _ (t : History) (whole : IsLawfulRun t) (g : BranchId) (a : Answer) (it : EndsAs t g a) where
  open it use {before as hs, turn as u, kept as k}

  abbrev s0 : History
  s0 = so_far t hs

  abbrev f : Facts
  f = f_at t hs

  abbrev e : List Event
  e = e_at t hs

  abbrev tr : Trail
  tr = tr_at t hs

  abbrev after : Trail
  after = trail_after t.places f tr (happenings.Turn u)

  abbrev place : Place
  place = place_at t.places u.node

  abbrev o : TurnOutput
  o = turn_of place k u.input

  abbrev Cause : Type 0
  Cause = CommitCause f tr after u g a

  part : Part t whole hs
  part = part_of t whole hs (happenings.Turn u) it.later it.is

  lawful : IsLawfulRun s0
  lawful = part_lawful t whole hs part

  up : node_at f u.node ≡ Some k
  up = it.up

  saw : Sees f tr
  saw = at_moment t (λ places x y h. Sees x y) (all_is_seen t whole) hs (happenings.Turn u) it.later it.is

  knows : TurnKnows t.places f tr u k
  knows = at_moment t KnowsEnough (every_turn_knows t whole) hs (happenings.Turn u) it.later it.is k up

  -- the record of the turn
  wrote : u.wrote ≡ o.wrote
  wrote = (its_owed t whole g a it).0

  may_write : (r : RedoRecord) → o.wrote ≡ Some r → MayWrite place f tr after k u.node u.input r
  may_write r is = subst (λ w. IfSome w (MayWrite place f tr after k u.node u.input)) (wrote ∙ is) knows.writes

  may_stand : (r : RedoRecord) → o.wrote ≡ Some r → MayStand e r
  may_stand r is = its_may t whole g a it r is

  -- ---- a live root

  module _ (z : Live) (live : live_at k g ≡ Some z) where
    me : z.me ≡ g
    me = item_is live_id k.lives g z live

    found : live_at k z.me ≡ Some z
    found = subst (λ c. live_at k c ≡ Some z) (sym me) live

    alive : exit e g ≡ None
    alive = subst (λ c. exit e c ≡ None) me (all_found (λ (x : Live). exit e x.me ≡ None) live_id k.lives g z (nodes_are_as_events s0 lawful u.node k up).0 live)

    here : g.node ≡ u.node
    here = sym (ap (λ (c : BranchId). c.node) me) ∙ all_found (λ (x : Live). x.me.node ≡ u.node) live_id k.lives g z (ids_name_their_node s0 lawful u.node k up).lives live

    top_of : z.parent ≡ None
    top_of = (let rests : NodeRests k = subst (λ q. IfSome q NodeRests) up (run_roots s0 lawful u.node) in root_alone k rests.0 g.session g it.root z live)

    module _ (top : z.parent ≡ None) where
      seen : (s : Seen) × (seen_at tr z.me ≡ Some s) × IsTracedLive z s × (z.phase ≡ phases.Working → plan_at tr z.me ≡ None)
      seen = saw.tops u.node k up z found top

      -- a child's Abort
      aborted : (from : BranchId) (sb : Bool) → Answers u.input z from votes.Abort sb → IsAbortTo tr g u.input
      aborted from sb answers =
          let s : Seen = seen.0 in
          let s_me : s.me ≡ z.me = item_is seen_id tr.seen z.me s seen.1 in
          let m : Msg = record { from = from; to = z.me; scn = answers.came.scn; kind = kinds.Abort } in (
            s,
            m,
            record {
              seen = subst (λ c. seen_at tr c ≡ Some s) me seen.1;
              came = abort_came u.node None u.input u.sent z s s_me seen.2 from sb answers;
              first = abort_first u.node None u.input u.sent z s s_me seen.2 from sb answers;
            },
            refl,
          )

      phase : PhaseFits z.parent z.edges z.phase
      phase = all_found (λ (l : Live). PhaseFits l.parent l.edges l.phase) live_id k.lives g z (phases_fit s0 lawful u.node k up) live

      -- the last answer of its children
      last_of : (from : BranchId) (v : Vote) (sb : Bool) → Answers u.input z from v sb → all_answered (voted z from v) ≡ true → IsLastVote tr z.me u.input
      last_of from v sb answers all =
          let last : IsLastAnswer z u.input = (from, answers.kind, v, answers.came, vote_is v answers.kind answers.is_vote, answers.first, all) in
          by (seals tr z seen.0 seen.1 seen.2 phase u.input (inl last))
        where
          no_vote : (kind : Kind) → is_vote kind ≡ false → answers.kind ≡ kind → ⊥
          no_vote kind none is = (let vote : is_vote answers.kind ≡ true = vote_is v answers.kind answers.is_vote in let off : is_vote answers.kind ≡ false = ap is_vote is ∙ none in absurd (cc (vote, off)))

          by : IsLastVote tr z.me u.input ⊎ (IsPrepareToLeaf tr z.me u.input ⊎ IsCommitPoint tr z.me u.input) → IsLastVote tr z.me u.input
          by (inl vote) = vote
          by (inr (inl prepare)) = absurd (no_vote (kinds.Prepare prepare.0.1 prepare.0.2) refl (same_kind answers.came prepare.0.3))
          by (inr (inr point)) = absurd (no_vote kinds.CommitPoint refl (same_kind answers.came point.1))

      agrees_by : Finishes u.input g z k.sessions → AllAgree tr u.node g u.input
      agrees_by (On_answer from v sb answers other all nowhere) = record {
        last = inl (subst (λ c. IsLastVote tr c u.input) me (last_of from v sb answers all));
        unaborted = λ abort. (let m : Msg = abort.1 in
            let came : Some answers.kind ≡ Some m.kind = sym (ap kind_in answers.came.is) ∙ ap kind_in abort.2.came in
            let kind : answers.kind ≡ m.kind = cc in
            other (vote_abort v (answers.is_vote ∙ ap Some (kind ∙ abort.3))));
      }
      agrees_by (At_once n given call root code none nowhere) =
          let may : MayTurn t.places f u k = its_turn t whole g a it in
          let free = call_free f k u.node u.input u.took n (Some (stmts.Commit given)) call may.comes in
          let at = seen_root tr k (root_at tr u.node n) (session_at k.sessions n).root g root (saw.roots u.node k up n free.0 free.1) in
          let both : Some at.0 ≡ Some seen.0 = sym at.4 ∙ subst (λ c. seen_at tr c ≡ Some seen.0) me seen.1 in
          let one : at.0 ≡ seen.0 = cc in
          record {
            last = inr (n, given, at.0, call, at.1, at.2, ap (λ (x : Seen). x.children) one ∙ (seen.2.children ∙ ap (map (λ (x : Edge). x.peer)) none));
            unaborted = λ abort. (let came : inputs.Call n (Some (stmts.Commit given)) ≡ inputs.Message abort.1 = sym call ∙ abort.2.came in absurd cc);
          }

  -- ---- a root that is kept

  row_of : (s : KeptRow) → kept_row_at k g ≡ Some s → RowIs e s
  row_of s is = all_found (RowIs e) kept_row_id k.stored.durable.kept g s (nodes_are_as_events s0 lawful u.node k up).1 is

  row_me : (s : KeptRow) → kept_row_at k g ≡ Some s → s.me ≡ g
  row_me s is = item_is kept_row_id k.stored.durable.kept g s is

  -- the root is sealed, learned nothing and was not forced
  in_doubt_by : (n : ℕ) → exit e g ≡ Some (exits.Sealed n) → learned e g ≡ None → forced e g ≡ None → IsInDoubt f.book g
  in_doubt_by n sealed unlearned unforced = doubt_in_book s0 lawful g n sealed unlearned unforced

  -- it knows the commit
  committed : (o : Option KeptRow) → kept_row_at k g ≡ o → row_knows o ≡ true → (n : ℕ) × Knows e g n
  committed None is none = absurd cc
  committed (Some s) is some = by s.decision (row_of s is).known some
    where
      by : (d : Option Decision) → IsKnown e s d → knows_commit d ≡ true → (n : ℕ) × Knows e g n
      by None known none = absurd cc
      by (Some decisions.Rollback) known none = absurd cc
      by (Some (decisions.Commit n)) known so = (n, subst (λ c. Knows e c n) (row_me s is) known)

  -- while its COMMIT is pending
  module _ (call : (session_at k.sessions g.session).call ≡ pending.Commit) where
    held : Holds k.lives k.stored.durable.kept g
    held = roots_hold s0 lawful u.node k up g.session g it.root call

    doubted : live_at k g ≡ None → row_knows (kept_row_at k g) ≡ false → IsInDoubt f.book g
    doubted gone unknown = by held
      where
        sealed_row : (s : KeptRow) → kept_row_at k g ≡ Some s → s.state ≡ states.Sealed → s.decision ≡ None → IsInDoubt f.book g
        sealed_row s is at none =
            let so = row_of s is in
            let known : IsKnown e s None = subst (IsKnown e s) none so.known in
            let force : IsForcedAs e s.me states.Sealed s.decision = subst (λ x. IsForcedAs e s.me x s.decision) at so.force in
            in_doubt_by s.scn (subst (λ c. exit e c ≡ Some (exits.Sealed s.scn)) (row_me s is) known.0) (subst (λ c. learned e c ≡ None) (row_me s is) known.1) (subst (λ c. forced e c ≡ None) (row_me s is) force.0)

        by : Holds k.lives k.stored.durable.kept g → IsInDoubt f.book g
        by (inl live) = (let there = live.1 in absurd (cc (there, gone)))
        by (inr kept) = well_row kept.0 kept.2 (λ at none fresh. sealed_row kept.0 kept.1 at none)
            (λ n at known fresh. (let yes : true ≡ false = sym (ap knows_commit known) ∙ (sym (ap row_knows kept.1) ∙ unknown) in absurd cc))

    -- a forced root has no COMMIT pending
    unforced : (m : ℕ) → exit e g ≡ Some (exits.Sealed m) → learned e g ≡ None → (d : Decision) → forced e g ≡ Some d → ⊥
    unforced m sealed unlearned d forced_so = by held
      where
        sealed_row : (s : KeptRow) → kept_row_at k g ≡ Some s → s.state ≡ states.Sealed → ⊥
        sealed_row s is at =
            let force : IsForcedAs e s.me states.Sealed s.decision = subst (λ y. IsForcedAs e s.me y s.decision) at (row_of s is).force in
            let mine : forced e g ≡ None = subst (λ c. forced e c ≡ None) (row_me s is) force.0 in
            absurd (cc (mine, forced_so))

        by_known : (n : ℕ) → Knows e g n → ⊥
        by_known n (inl decided) = absurd (cc (decided, sealed))
        by_known n (inr learnt) = absurd (cc (learnt, unlearned))

        by : Holds k.lives k.stored.durable.kept g → ⊥
        by (inl live) = (let none = alive live.0 live.1 in absurd (cc (none, sealed)))
        by (inr kept) = well_row kept.0 kept.2 (λ at none fresh. sealed_row kept.0 kept.1 at)
            (λ n at known fresh. by_known n (subst (λ c. Knows e c n) (row_me kept.0 kept.1) (subst (IsKnown e kept.0) known (row_of kept.0 kept.1).known)))

  -- ---- each end

  decided : (r : Decided) (z : Live) → live_at k g ≡ Some z → o.wrote ≡ Some (records.Decided r) → r.me ≡ g → neighbors_of r ≡ [] → a ≡ commit_complete → Cause
  decided r z live is its none complete =
      let written : u.wrote ≡ Some (records.Decided r) = wrote ∙ is in
      let all = (disks_only t whole (hs ++ happenings.Turn u ∷ []) (part_on t whole hs (happenings.Turn u) it.later it.is) u.node).1 in
      let disk : records_at (f_at t (hs ++ happenings.Turn u ∷ [])) u.node ≡ records_at f u.node ++ option_to_list u.wrote
      = ap (λ x. records_at x u.node) (one_on t hs (happenings.Turn u)) ∙ (turn_here t.places t.commands f (run_stands s0 lawful).0.even u k up).1 in
      let only : AllByRecursion (IsOnly (records_at f u.node ++ records.Decided r ∷ [])) (records_at f u.node ++ records.Decided r ∷ [])
      = subst (λ rs. AllByRecursion (IsOnly rs) rs) (disk ∙ ap (λ w. records_at f u.node ++ option_to_list w) written) all in
      let last : decided_in (records_at f u.node ++ records.Decided r ∷ []) r.me ≡ Some r = all_last (IsOnly (records_at f u.node ++ records.Decided r ∷ [])) (records_at f u.node) (records.Decided r) only in
      let there : decided_in (records_at f g.node ++ option_to_list u.wrote) g ≡ Some r
      = ap (λ i. decided_in (records_at f i ++ option_to_list u.wrote) g) (here z live) ∙ (ap (λ w. decided_in (records_at f u.node ++ option_to_list w) g) written ∙ subst (λ c. decided_in (records_at f u.node ++ records.Decided r ∷ []) c ≡ Some r) its last) in
      causes.All_acknowledged r there (ap (list_all (λ c. is_among c (acks_of (seen_at after g)))) none) complete

  forgotten : (s : KeptRow) → kept_row_at k g ≡ Some s → o.wrote ≡ Some (records.Forgot g) → a ≡ commit_complete → Cause
  forgotten s row is complete = by (decided_in (records_at f g.node) g) refl (may_write (records.Forgot g) is)
    where
      by : (d : Option Decided) → decided_in (records_at f g.node) g ≡ d → MayForget f after g u.input d → Cause
      by (Some r) there acked = causes.All_acknowledged r (decided_before (records_at f g.node) (option_to_list u.wrote) g r there) acked complete
      by None none heard = (let known = may_stand (records.Forgot g) is in causes.Site_side_forgot (commit_in_book s0 lawful g known.0 known.1) heard complete)

  ends_for : StepEnd k u.input o.after o.wrote o.sent g a → Cause
  ends_for (Has_decided r z live is its none complete) = decided r z live is its none complete
  ends_for (Has_no_site leaves top ends writes complete) =
      causes.None_had_changes (agrees_by leaves.live leaves.there top ends) (plan_there t whole hs u it.later it.is k up g leaves.live (me leaves.live leaves.there) leaves.there top ends writes) complete
  ends_for (Has_forgotten s row is complete) = forgotten s row is complete
  ends_for (Hears_abort from sb came leaves answers refused) = causes.A_child_aborted (aborted leaves.live leaves.there (top_of leaves.live leaves.there) from sb answers) refused
  ends_for (Is_given_up given leaves refused) = causes.Given_up_early (none_in_book s0 lawful g (alive leaves.live leaves.there)) given refused
  ends_for (Ends_back is refused) = (let stands = may_stand (records.Ended g decisions.Rollback) is in
      causes.Site_side_rolled_back (in_doubt_by stands.0.0 stands.0.1 stands.1 stands.2) (may_write (records.Ended g decisions.Rollback) is) refused)
  ends_for (Meets_back mixed call is refused) = (let stands = may_stand (records.Met g decisions.Rollback mixed) is in absurd (unforced call stands.0.0 stands.0.1 stands.1 stands.2.0 stands.2.1))
  ends_for (Is_known given gone knows_it refused) = (let known = committed (kept_row_at k g) refl knows_it in causes.Given_up_committed (commit_in_book s0 lawful g known.0 known.1) given refused)
  ends_for (Is_in_doubt given call gone unknown refused) = causes.Given_up_in_doubt (doubted call gone unknown) given refused
  ends_for (Is_forced d given is refused) = (let stands = may_stand (records.Forced g d given) is in
      causes.Forced_in_doubt (in_doubt_by stands.0.0 stands.0.1 stands.1 stands.2) d given (wrote ∙ is) refused)

  pub its_cause : Cause
  its_cause = ends_for it.end
