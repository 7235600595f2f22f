-- A call of a statement that has a record of its own is refused and writes nothing, or it writes that record and is done; and no other turn
-- writes such a record.
use Rattle.std.proofs.Common.{◌≡◌, ℕ, ◌+◌, ◌==◌, Bool, true, false, true≢false, if◌then◌else◌, List, [], ◌∷◌, ◌++◌, filter, find, IfSome, Option, Some, None, Result, Ok, Err, inl, inr, refl, sym, ap, subst, ◌∙◌}
use Rattle.std.specs.Prelude.{◌⊎◌, map}
use Rattle.std.specs.List.{list_any}
use Rattle.std.proofs.lemmas.Bool.{and_parts, cond_both, eqb-true, eq-eqb}
use Rattle.session_tree.specs.Live.{is_branch}
use Rattle.node_rules.specs.Data.{Stmt, Answer, Done, Refusal, BranchId, Decision, RedoRecord, KeptRow, Input, Place}
use Rattle.node_rules.specs.Data.answers
use Rattle.node_rules.specs.Data.decisions
use Rattle.node_rules.specs.Data.dones
use Rattle.node_rules.specs.Data.records
use Rattle.node_rules.specs.Data.stmts
use Rattle.node_rules.specs.Data.inputs
use Rattle.node_rules.specs.Data.acts
use Rattle.node_rules.specs.Data.nexts
use Rattle.node_rules.specs.Client.{call_turn, refuses, writes, is_used, is_link}
use Rattle.node_rules.specs.Force.{branch_to_force, force_commit, force_rollback, forces, hides, purge, may_purge}
use Rattle.node_rules.specs.Inputs.{IsCall}
use Rattle.node_rules.specs.NodeState.{NodeState, TurnDraft}
use Rattle.node_rules.specs.Sessions.{session_at, is_commit, commit_is_pending}
use Rattle.node_rules.specs.Turn.{turn_of, draft_of}
use Rattle.node_rules.proofs.Steps as steps
use Rattle.node_rules.proofs.Steps.{Step, Makes}
use Rattle.run_rules.specs.Data.{Session, Finished, Took, Turn, Happening, Command}
use Rattle.run_rules.specs.Data.pending
use Rattle.run_rules.specs.Data.happenings
use Rattle.run_rules.specs.Facts.{Facts, place_at, node_at, served}
use Rattle.run_rules.specs.Runs.{is_accepted}
use Rattle.run_rules.specs.Lawful.{MayHappen, MayTurn, Comes, IsOwed}
use Rattle.run_base_laws.proofs.LawfulLemmas.{serves, of_wrote, turn_of_node}
use Rattle.run_base_laws.proofs.NodeLemmas.{each_that_may}
use Rattle.answer_done_laws.specs.DoneLaws.{ended_by, ended_in, answers_to, is_done, Stands, WritesWhatIsDone, DoneIsWritten, AnswersAtOnce, EachIsAnswered, IsAsked, DoesWhatIsWritten, WrittenIsDone}
use Rattle.run_claims.specs.Recorded.{is_recorded, is_of_statement, Records, A_table, A_link, A_synonym, A_setting, A_strength, A_commit_at, A_commit, A_rollback, A_mixed_row, A_lost_row}

-- ---- the answers of one session

-- whether a call that ends is that of a session
abbrev is_of : ℕ → Finished → Bool
is_of n x = x.session == n

-- the answer to its own session is one of these, and first
own_answer : (n : ℕ) (a : Answer) (xs : List Finished) → answers_to n ((record { session = n; answer = a }) ∷ xs) ≡ a ∷ answers_to n xs
own_answer n a xs = ap (λ q. map (λ x. x.answer) (if q then (record { session = n; answer = a }) ∷ filter (is_of n) xs else filter (is_of n) xs)) (eq-eqb n n refl)

module _ (n : ℕ) (ss : List Session) (rests : (session_at ss n).call ≡ pending.NoCall) where
  -- the session whose COMMIT is pending is another one
  other_session : (b : BranchId) → commit_is_pending ss b ≡ true → (q : Bool) → (b.session == n) ≡ q → q ≡ false
  other_session b pends false is = refl
  other_session b pends true is =
      let commits : is_commit (session_at ss b.session).call ≡ true = (and_parts (is_branch b (session_at ss b.session).root) (is_commit (session_at ss b.session).call) pends).1 in
      let here : is_commit (session_at ss n).call ≡ true = subst (λ m. is_commit (session_at ss m).call ≡ true) (eqb-true b.session n is) commits in
      absurd (true≢false (sym here ∙ ap is_commit rests))

  -- so its answer is none of these
  past_commit : (b : BranchId) (a x : Answer) (q : Bool) → commit_is_pending ss b ≡ q
      → answers_to n ((if q then (record { session = b.session; answer = a }) ∷ [] else []) ++ (record { session = n; answer = x }) ∷ []) ≡ x ∷ []
  past_commit b a x false is = own_answer n x []
  past_commit b a x true is =
      ap (λ q. map (λ z. z.answer) (if q then (record { session = b.session; answer = a }) ∷ filter (is_of n) ((record { session = n; answer = x }) ∷ []) else filter (is_of n) ((record { session = n; answer = x }) ∷ [])))
      (other_session b is (b.session == n) refl) ∙ own_answer n x []

-- ---- a call of such a statement

module _ (p : Place) (k : NodeState) (n : ℕ) (rests : (session_at k.sessions n).call ≡ pending.NoCall) where
  -- it is refused and writes nothing, or it is done
  abbrev Comes_to : Stmt → TurnDraft → Type 0
  Comes_to s d = ((d.wrote ≡ None) × (r : Refusal) × (answers_to n d.ended ≡ answers.Refused r ∷ [])) ⊎ Stands p k n s d.wrote d.ended

  refused : (s : Stmt) (r : Refusal) → Comes_to s (refuses k n r)
  refused s r = inl (refl, r, own_answer n (answers.Refused r) [])

  written : {s : Stmt} {r : RedoRecord} {d : Done} → Records p k s r d → Comes_to s (writes k n r d)
  written {r = r} {d = d} of = inr (record { written = r; done = d; of = of; stands = refl; answered = own_answer n (answers.Did d 0) [] })

  forced : {s : Stmt} {d : Done} (b : BranchId) (x : Decision) (given : Bool) (clock : ℕ) → Records p k s (records.Forced b x given) d
      → Comes_to s (forces (record k { clock = clock }) n b x given (answers.Did d 0))
  forced {d = d} b x given clock of =
      inr (record { written = records.Forced b x given; done = d; of = of; stands = refl; answered = past_commit n k.sessions rests b _ (answers.Did d 0) (commit_is_pending k.sessions b) refl })

  -- a record where its name is free
  made : (s : Stmt) (r : RedoRecord) (d : Done) (e : Refusal) (used : Bool) → Records p k s r d → Comes_to s (if used then refuses k n e else writes k n r d)
  made s r d e used of = cond_both used (refuses k n e) (writes k n r d) (Comes_to s) (λ is. refused s e) (λ free. written of)

  commit_forced : (id : List ℕ) (scn : Option ℕ) (o : Result BranchId Refusal) → branch_to_force p.names k.stored.durable.kept id ≡ o → Comes_to (stmts.CommitForce id scn) (force_commit k n scn o)
  commit_forced id scn (Err r) is = refused (stmts.CommitForce id scn) r
  commit_forced id (Some m) (Ok b) is = forced b (decisions.Commit m) true k.clock (A_commit_at id m b is)
  commit_forced id None (Ok b) is = forced b (decisions.Commit (k.clock + 1)) false (k.clock + 1) (A_commit id b is)

  rollback_forced : (id : List ℕ) (o : Result BranchId Refusal) → branch_to_force p.names k.stored.durable.kept id ≡ o → Comes_to (stmts.RollbackForce id) (force_rollback k n o)
  rollback_forced id (Err r) is = refused (stmts.RollbackForce id) r
  rollback_forced id (Ok b) is = forced b decisions.Rollback false k.clock (A_rollback id b is)

  hidden : (s : Stmt) (id : List ℕ) (o : Option KeptRow) → ((x : KeptRow) → o ≡ Some x → Records p k s (records.Hidden x.me) dones.Purged) → Comes_to s (hides k n id o)
  hidden s id None of = refused s _
  hidden s id (Some x) of =
      inr (record { written = records.Hidden x.me; done = dones.Purged; of = of x refl; stands = refl; answered = own_answer n (answers.Did dones.Purged 0) [] })

  call_comes_to : (s : Stmt) → is_recorded s ≡ true → Comes_to s (call_turn p k n s)
  unfolding purge
  call_comes_to (stmts.CreateTable t) one = made (stmts.CreateTable t) _ _ _ (is_used k.stored.durable t.name) (A_table t)
  call_comes_to (stmts.CreateLink l) one = made (stmts.CreateLink l) _ _ _ (is_link k.stored.durable l.name) (A_link l)
  call_comes_to (stmts.CreateSynonym y) one = made (stmts.CreateSynonym y) _ _ _ (is_used k.stored.durable y.name) (A_synonym y)
  call_comes_to (stmts.Recovery on) one = written (A_setting on)
  call_comes_to (stmts.SetStrength strength) one = written (A_strength strength)
  call_comes_to (stmts.CommitForce id scn) one = commit_forced id scn (branch_to_force p.names k.stored.durable.kept id) refl
  call_comes_to (stmts.RollbackForce id) one = rollback_forced id (branch_to_force p.names k.stored.durable.kept id) refl
  call_comes_to (stmts.PurgeMixed id) one = hidden (stmts.PurgeMixed id) id (find (may_purge true id) k.stored.durable.kept) (A_mixed_row id)
  call_comes_to (stmts.PurgeLost id) one = hidden (stmts.PurgeLost id) id (find (may_purge false id) k.stored.durable.kept) (A_lost_row id)
  call_comes_to _ one = absurd (true≢false (sym one))

-- ---- any turn

module _ (p : Place) (input : Input) where
  -- a call of such a statement came
  abbrev Calls : Type 0
  Calls = (n : ℕ) × (s : Stmt) × IsCall input n s × (is_recorded s ≡ true)

  -- where the record is one of a statement
  abbrev Called : RedoRecord → Type 0
  Called r = is_of_statement r ≡ true → Calls

  made_called : {k : NodeState} {s : Stmt} {r : RedoRecord} {d : Done} (n : ℕ) → IsCall input n s → Makes k s r d → Called r
  made_called n call (steps.Makes_table t free) one = (n, stmts.CreateTable t, call, refl)
  made_called n call (steps.Makes_link l free) one = (n, stmts.CreateLink l, call, refl)
  made_called n call (steps.Makes_synonym y free) one = (n, stmts.CreateSynonym y, call, refl)
  made_called n call (steps.Sets_recovery on) one = (n, stmts.Recovery on, call, refl)
  made_called n call (steps.Sets_strength strength) one = (n, stmts.SetStrength strength, call, refl)

  purge_called : (n : ℕ) (mixed : Bool) (id : List ℕ) → IsCall input n (steps.purge_of mixed id) → Calls
  purge_called n true id call = (n, stmts.PurgeMixed id, call, refl)
  purge_called n false id call = (n, stmts.PurgeLost id, call, refl)

  called : {k : NodeState} {d : TurnDraft} → Step p input k d → IfSome d.wrote Called
  called (steps.Begins n s read_at call begins fit none step) = called step
  called (steps.Counts_call n s call counts step) = called step
  called (steps.Goes_back x step goes next) = called next
  called (steps.Pends n l given call has live code writer step) = called step
  called (steps.Lets_reads_go l comment site_below live begins step) = called step
  called (steps.Counts_ack s from kept came counts step) = called step
  called (steps.Acts l site_below acts.Seal why) = λ one. absurd (true≢false (sym one))
  called (steps.Acts l site_below (acts.SealAndPass i) why) = λ one. absurd (true≢false (sym one))
  called (steps.Acts l site_below acts.Decide why) = λ one. absurd (true≢false (sym one))
  called (steps.Does s from (nexts.End d) kept why) = λ one. absurd (true≢false (sym one))
  called (steps.Does s from (nexts.Meet d mixed) kept why) = λ one. absurd (true≢false (sym one))
  called (steps.Does s from nexts.Forget kept why) = λ one. absurd (true≢false (sym one))
  called (steps.Makes_record n s r d call makes) = made_called n call makes
  called (steps.Forces_given n id m b call named) = λ one. (n, stmts.CommitForce id (Some m), call, refl)
  called (steps.Forces_commit n id b call named) = λ one. (n, stmts.CommitForce id None, call, refl)
  called (steps.Forces_rollback n id b call named) = λ one. (n, stmts.RollbackForce id, call, refl)
  called (steps.Hides n mixed id s call found) = λ one. purge_called n mixed id call
  called (steps.Images checkpoint) = λ one. absurd (true≢false (sym one))
  called (steps.Gives_up_commit n b None gives has calls live) = tt
  called _ = tt

-- ---- turns of a run

-- a session whose call comes has none pending
call_rests : (f : Facts) (k : NodeState) (node n : ℕ) (s : Stmt) (took : Option Took) → Comes f k node (inputs.Call n (Some s)) took → (session_at k.sessions n).call ≡ pending.NoCall
call_rests f k node n s None comes = comes.1
call_rests f k node n s (Some t) comes = absurd comes

module _ (places : List Place) (f : Facts) (u : Turn) (k : NodeState) (may : MayTurn places f u k) where
  abbrev here : Place
  here = place_at places u.node

  -- what a turn ends, cut or not
  ended_so : (cut : Bool) → u.cut ≡ cut → ended_in places f u ≡ (if cut then [] else (draft_of here k u.input).ended)
  unfolding turn_of
  ended_so cut is = ap (λ c. if c then [] else ended_by (served here u.input (node_at f u.node))) is ∙ ap (λ o. if cut then [] else ended_by (served here u.input o)) may.up

  module _ (n : ℕ) (s : Stmt) (call : IsCall u.input n s) (one : is_recorded s ≡ true) where
    rests : (session_at k.sessions n).call ≡ pending.NoCall
    rests = call_rests f k u.node n s u.took (subst (λ i. Comes f k u.node i u.took) call may.comes)

    turn_comes_to : Comes_to here k n rests s (draft_of here k u.input)
    turn_comes_to = subst (λ i. Comes_to here k n rests s (draft_of here k i)) (sym call) (call_comes_to here k n rests s one)

    wrote_owed : IsOwed here k u.input u.wrote u.sent false → u.wrote ≡ (draft_of here k u.input).wrote
    unfolding turn_of
    wrote_owed owed = owed.0

    -- one that is answered as done is not cut, and is not the refused one
    stands_by : (cut : Bool) → u.cut ≡ cut → IsOwed here k u.input u.wrote u.sent cut → is_done n (ended_in places f u) ≡ true → Comes_to here k n rests s (draft_of here k u.input)
        → Stands here k n s u.wrote (ended_in places f u)
    stands_by true is owed done comes = absurd (true≢false (sym done ∙ ap (is_done n) (ended_so true is)))
    stands_by false is owed done (inl out) = absurd (true≢false (sym done ∙ (ap (is_done n) (ended_so false is) ∙ ap (list_any (λ a. is_accepted (Some a))) out.2)))
    stands_by false is owed done (inr x) =
        record { written = x.written; done = x.done; of = x.of; stands = wrote_owed owed ∙ x.stands; answered = ap (answers_to n) (ended_so false is) ∙ x.answered }

    answers_by : u.cut ≡ false → IsOwed here k u.input u.wrote u.sent false → Comes_to here k n rests s (draft_of here k u.input)
        → ((u.wrote ≡ None) × (r : Refusal) × (answers_to n (ended_in places f u) ≡ answers.Refused r ∷ [])) ⊎ Stands here k n s u.wrote (ended_in places f u)
    answers_by whole owed (inl out) = inl (wrote_owed owed ∙ out.0, out.1, ap (answers_to n) (ended_so false whole) ∙ out.2)
    answers_by whole owed (inr x) =
        inr (record { written = x.written; done = x.done; of = x.of; stands = wrote_owed owed ∙ x.stands; answered = ap (answers_to n) (ended_so false whole) ∙ x.answered })

    answered_at_once : u.cut ≡ false → ((u.wrote ≡ None) × (r : Refusal) × (answers_to n (ended_in places f u) ≡ answers.Refused r ∷ [])) ⊎ Stands here k n s u.wrote (ended_in places f u)
    answered_at_once whole = answers_by whole (subst (IsOwed here k u.input u.wrote u.sent) whole may.owed) turn_comes_to

    pub stands : is_done n (ended_in places f u) ≡ true → Stands here k n s u.wrote (ended_in places f u)
    stands done = stands_by u.cut refl may.owed done turn_comes_to

    -- a record that is written is that of the call
    asked_by : (r : RedoRecord) → (draft_of here k u.input).wrote ≡ Some r → Comes_to here k n rests s (draft_of here k u.input) → IsAsked places f u k r
    asked_by r wrote (inl out) = absurd (let both : None ≡ Some r = sym out.0 ∙ wrote in cc)
    asked_by r wrote (inr x) =
        let same : x.written ≡ r = (let both : Some x.written ≡ Some r = sym x.stands ∙ wrote in cc) in
        record {
          session = n;
          statement = s;
          done = x.done;
          call = call;
          of = subst (λ z. Records here k s z x.done) same x.of;
          answered = λ whole. ap (answers_to n) (ended_so false whole) ∙ x.answered;
        }

  -- the record of a statement was asked for
  abbrev pub Asked_so : Option RedoRecord → Type 0
  Asked_so w = IfSome w (λ r. is_of_statement r ≡ true → IsAsked places f u k r)

  -- so of the record of the turn's step
  asked_at : (w : Option RedoRecord) → (draft_of here k u.input).wrote ≡ w → IfSome w (Called here u.input) → Asked_so w
  asked_at None is calls = tt
  asked_at (Some r) is calls = λ one. (let c = calls one in asked_by c.0 c.1 c.2 c.3 r is (turn_comes_to c.0 c.1 c.2 c.3))

  -- and of the record that stands
  pub asked : Asked_so u.wrote
  asked = of_wrote here k u (serves places f u k may) Asked_so tt (asked_at (draft_of here k u.input).wrote refl (called here u.input (serves places f u k may).step))

-- ---- every run

done_written : (places : List Place) (asked : List Command) (f : Facts) (h : Happening) → MayHappen places asked f h → WritesWhatIsDone places f h
done_written places commands f (happenings.Turn u) may = λ k up n s call one done. stands places f u k (turn_of_node places f u k commands may up) n s call one done
done_written places commands f _ may = tt

pub done_is_written : DoneIsWritten
done_is_written = each_that_may WritesWhatIsDone done_written

written_done : (places : List Place) (asked : List Command) (f : Facts) (h : Happening) → MayHappen places asked f h → DoesWhatIsWritten places f h
written_done places commands f (happenings.Turn u) may = λ k up. asked places f u k (turn_of_node places f u k commands may up)
written_done places commands f _ may = tt

pub written_is_done : WrittenIsDone
written_is_done = each_that_may DoesWhatIsWritten written_done

at_once : (places : List Place) (asked : List Command) (f : Facts) (h : Happening) → MayHappen places asked f h → AnswersAtOnce places f h
at_once places commands f (happenings.Turn u) may = λ k up n s call one whole. answered_at_once places f u k (turn_of_node places f u k commands may up) n s call one whole
at_once places commands f _ may = tt

pub each_is_answered : EachIsAnswered
each_is_answered = each_that_may AnswersAtOnce at_once
