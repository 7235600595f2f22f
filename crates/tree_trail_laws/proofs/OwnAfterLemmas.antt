-- After a turn the changes that are told of each live branch of its node are those that the node keeps, and its answer to a run is meant.
use Rattle.std.proofs.Common.{◌≡◌, ℕ, ◌⊎◌, true, false, List, [], ◌∷◌, ◌++◌, slice_get, zero, suc, Some, None, inl, inr, refl, sym, ap, subst, ◌∙◌, true≢false, Option, Bool, if◌then◌else◌, not, ◌≤◌, is_none, ◌≢◌, ◌&&◌}
use Rattle.std.specs.List.{list_any, AllByRecursion}
use Rattle.tran_ids.proofs.ListedLemmas.{item_is, put_found}
use Rattle.sql_eval.specs.Meaning.{meant}
use Rattle.node_rules.specs.Data.{Value, Answer, BranchId, Live, Stmt, Input, Kind, Task, Marks}
use Rattle.node_rules.specs.Data.answers
use Rattle.node_rules.specs.Data.stmts
use Rattle.node_rules.specs.Data.kinds
use Rattle.node_rules.specs.Rows.{same_value}
use Rattle.node_rules.specs.Meaning.{examined}
use Rattle.node_rules.specs.Names.{ref_of}
use Rattle.node_rules.specs.Records.{nothing_stored, stored_by}
use Rattle.node_rules.specs.NodeState.{NodeState, TurnDraft, live_id, live_at, Branch, sets_at, work_at}
use Rattle.node_rules.specs.Prepare.{own_changes}
use Rattle.node_rules.specs.Statement.{StmtOutcome, Refuses, Reads, Writes, ran, after_run, answer_of_run, reads_at, read_by}
use Rattle.node_rules.specs.Turn.{turn_of, heard, draft_of, output_of}
use Rattle.node_rules.proofs.StandLemmas.{live_so}
use Rattle.run_rules.specs.Branches.{Run, Seen, seen_id, own_at, own_of, Trail, read_at_at, is_root_of}
use Rattle.run_rules.specs.Data.{Turn, Happening}
use Rattle.run_rules.specs.Data.happenings
use Rattle.run_rules.specs.Facts.{node_at, records_at, served, outcome_at}
use Rattle.run_rules.specs.Lawful.{MayHappen, History, IsLawfulRun, facts_at}
use Rattle.run_claims.specs.Meanings.{AnswerIsMeant}
use Rattle.run_base_laws.specs.NodeLaws.{unacked}
use Rattle.run_rules.specs.Runs.{asks, run_in, answered_by, is_accepted, view_by, meaning, keys_in_doubt, locked_at, goes_back, back_by, is_counted}
use Rattle.run_rules.specs.Trail.{runs_for, runs_with, back_in, taken_after, savepoints_set, step_back, runs_back, savepoints_back}
use Rattle.run_base_laws.proofs.EventsStandLemmas.{ids_name_their_node}
use Rattle.run_base_laws.proofs.OwnLemmas.{all_found}
use Rattle.run_key_laws.proofs.RanLemmas.{runs_at_table}
use Rattle.run_base_laws.proofs.StoredLemmas.{StoresOf, records_are_kept}
use Rattle.tree_laws.proofs.PrefixLemmas.{f_at, one_on}
use Rattle.tree_trail_laws.specs.OwnLaws.{TracesRoots}
use Rattle.tree_trail_laws.proofs.ChildTurnLemmas as kids
use Rattle.tree_trail_laws.proofs.MomentLemmas.{tr_at}
use Rattle.tree_trail_laws.proofs.OwnAskLemmas.{asking, none_asked, again_asked, asked_so, table_so, none_runs, one_runs, run_answered}
use Rattle.tree_trail_laws.proofs.OwnKnowLemmas.{Knows, known_own, from_runs, from_marks, from_owns, from_book, from_stored, from_calls, heard_book, own_unrun, own_refused, own_other}
use Rattle.tree_trail_laws.proofs.OwnRunLemmas.{IsOfBook, IsMeantBy, of_book, run_meant}
use Rattle.tree_trail_laws.proofs.OwnStepLemmas.{HasRun, Rests, AcceptsNone, turns_on, IsPlain, is_plain, Turns, is_way_back, From, Itself, Begun, Counted, counted_rows}
use Rattle.tree_trail_laws.proofs.SpecialWorkLemmas.{special_turn}
use Rattle.tree_trail_laws.proofs.OwnTurnLemmas as turns
use Rattle.tree_trail_laws.proofs.OwnTurnLemmas.{Owns, taken_same}
use Rattle.tree_laws.proofs.AtTurn.{at_turn}
use Rattle.tree_trail_laws.proofs.AtTrail.{at_trail}
use Rattle.node_rules.specs.Inputs.{Came, IsCall}
use Rattle.tree_trail_laws.specs.RunLaws.{IsTracedWork, RunsAre, steps_of_sets}
use Rattle.tree_trail_laws.proofs.SeenLemmas.{turned}
use Rattle.node_rules.proofs.Steps.{Asked}
use Rattle.node_rules.proofs.Steps.{By_call}
use Rattle.node_rules.proofs.Steps.{By_exec}
use Rattle.node_rules.specs.Data.tasks
use Rattle.node_rules.specs.Marks.{step_of}
use Rattle.tree_trail_laws.proofs.LowerLivesLemmas.{bool_cases}
use Rattle.node_rules.specs.Data.inputs
use Rattle.tree_trail_laws.proofs.OwnCallLemmas.{last_of}
use Rattle.tree_trail_laws.proofs.RunListLemmas.{noted_alike, runs_higher}
use Rattle.node_rules.specs.Sessions.{session_at}
use Rattle.std.proofs.lemmas.Bool.{and_right}
use Rattle.tree_trail_laws.proofs.OwnLiveLemmas.{IsOfThese, lives_on}
use Rattle.tree_trail_laws.proofs.RootCallLemmas.{answered_calls, begins_none, counts_none, same_on}
use Rattle.tree_trail_laws.proofs.RanCallLemmas.{called_root, uncalled_root}
use Rattle.tree_trail_laws.proofs.RanWorkLemmas.{asked_stays, asked_saves, asked_me, asked_marks, changes_so, Says, meant_says, other_sets, other_work, own_savepoints, own_step, own_runs}
use Rattle.tran_ids.proofs.BranchLemmas.{equal_from_same}
use Rattle.node_rules.specs.Words.{same}
use Rattle.node_rules.specs.declared.work.Work.{Work}
use Rattle.tree_trail_laws.proofs.TopCountLemmas.{may_so}

pub all_at : {A : Type 0} (P : A → Type 0) (xs : List A) (i : ℕ) (x : A) → AllByRecursion P xs → slice_get xs i ≡ Some x → P x
all_at P [] i x all is = absurd cc
all_at P (y ∷ ys) zero x all is = subst P (let it : Some y ≡ Some x = is in let here : y ≡ x = cc in here) all.0
all_at P (y ∷ ys) (suc i) x all is = all_at P ys i x all.1 is

-- a refusal is no accepted answer
refused : (a : Answer) → is_accepted (Some a) ≡ false → (why : _) × (a ≡ answers.Refused why)
refused (answers.Refused why) is = (why, refl)
refused _ is = absurd cc

-- a branch that runs a statement reads as it stands at the node
asked_reads : {k : NodeState} {input : Input} {x : Branch} {s : Stmt} {given : ℕ} → Asked k input x s given → reads_at k x.live.me ≡ x.live.read_at
asked_reads {k = k} (By_call n x s call rows has code live may) = ap read_by (live_so k x.live.me x live)
asked_reads {k = k} (By_exec x from call given advice s came live runs) = ap read_by (live_so k x.live.me x live)

-- a plain input takes no branch back, and sets no savepoint
plain_backs : (tr : Trail) (n : ℕ) (a : Option Answer) (input : Input) → IsPlain input → goes_back tr n a input ≡ None
plain_backs tr n a (inputs.Call m (Some (stmts.RollbackTo name))) plain = absurd cc
plain_backs tr n a (inputs.Message m) plain = by m.kind plain
  where
    by : (kind : Kind) → not (is_way_back kind) ≡ true → back_by tr m.to kind ≡ None
    by (kinds.Exec call (tasks.GoBack keep)) plain = absurd cc
    by _ plain = refl
plain_backs tr n a _ plain = refl

plain_stays : (tr : Trail) (u : Turn) (a : Option Answer) → IsPlain u.input → back_in tr u a ≡ None
plain_stays tr u a plain = by u.cut
  where
    by : (cut : Bool) → (if cut then None else goes_back tr u.node a u.input) ≡ None
    by true = refl
    by false = plain_backs tr u.node a u.input plain

plain_saves : (n : ℕ) (a : Option Answer) (step : ℕ) (s : Seen) (input : Input) → IsPlain input → savepoints_set n a step s input ≡ s.savepoints
plain_saves n a step s (inputs.Call m (Some (stmts.Savepoint name))) plain = absurd cc
plain_saves n a step s _ plain = refl

module _ (t : History) (whole : IsLawfulRun t) where
  module _ (hs : List Happening) (u : Turn) (more : List Happening) (is : hs ++ happenings.Turn u ∷ more ≡ t.trace) (roots : TracesRoots t.places (f_at t hs) (tr_at t hs)) (now : Owns (f_at t hs) (tr_at t hs)) (uncut : u.cut ≡ false) where
    open at_turn t whole hs u more is use {s as s0, s_after as s1, lawful_after as lawful1, f as f0, p}
    open at_trail t hs u use {tr as tr0, begun_tr as trb}

    lawful0 : IsLawfulRun s0
    lawful0 = turns.lawful0 t whole hs u more is roots now

    abbrev may : MayHappen t.places t.commands f0 (happenings.Turn u)
    may = turns.may t whole hs u more is roots now

    abbrev k : NodeState
    k = (turns.may t whole hs u more is roots now).0

    abbrev k1 : NodeState
    k1 = heard k u.input

    abbrev d : TurnDraft
    d = draft_of p k u.input

    abbrev pub knows_after : (l : Live) → live_at d.after l.me ≡ Some l → Knows k1 trb l.me
    knows_after l live = turns.knows_after t whole hs u more is roots now uncut l live

    -- a live branch after the turn is one of its node
    own_node : (l : Live) → live_at d.after l.me ≡ Some l → l.me.node ≡ u.node
    own_node l live =
        let up1 : node_at (facts_at s1) u.node ≡ Some d.after = ap (λ f. node_at f u.node) (one_on t hs (happenings.Turn u)) ∙ kids.after_up t whole hs u more is (turns.tells t whole hs u more is roots now) uncut in
        all_found (λ y. y.me.node ≡ u.node) live_id d.after.lives l.me l (ids_name_their_node s1 lawful1 u.node d.after up1).lives live

    outcome_is : outcome_at t.places f0 u ≡ Some (output_of d)
    unfolding turn_of
    outcome_is = ap (served p u.input) may.1.up

    -- ---- a run

    module _ (has : HasRun p u.input k1 d) where
      open has use {at as j, branch as x}

      abbrev b : BranchId
      b = x.live.me

      abbrev q : StmtOutcome
      q = ran p j b has.statement has.table

      abbrev y : Live
      y = after_run x.live q

      -- its branch is live after it
      runs_on : live_at d.after b ≡ Some y
      runs_on = ap (λ e. live_at e.after b) has.is ∙ put_found live_id j.lives y

      mine : Knows k1 trb b
      mine = knows_after y runs_on

      -- below a root the calls that are told are those that the node keeps
      own_taken : ((m : ℕ) (st : Stmt) → IsCall u.input m st → ⊥) → mine.seen.taken ≡ last_of j b
      own_taken no_call = mine.taken (turns.run_below t whole hs u more is roots now uncut has.from has.asked no_call mine) ∙ from_calls p u.input has.from b

      pub asked : (s : Seen) × (asks trb u.node u.input ≡ Some (asking s has.statement)) × (s.me ≡ b)
      asked = asked_so trb u.node u.input j has.asked (turns.roots_are t whole hs u more is roots now uncut j has.from)
          (mine.seen, mine.at, item_is seen_id trb.seen b mine.seen mine.at, mine.live, λ no_call. own_taken no_call)

      -- the run as it is told
      abbrev pub run : Run
      run = record { moment = trb.moment; branch = asked.0.me; statement = has.statement; table = has.table }

      stored : StoresOf (records_at f0 u.node) j
      stored = subst (λ s. unacked s ≡ stored_by nothing_stored (records_at f0 u.node)) ((sym (turns.heard_same t whole hs u more is roots now u.input).1) ∙ from_stored p u.input has.from) (records_are_kept s0 lawful0 u.node k may.1.up)

      pub runs : run_in f0 trb u ≡ Some run
      runs = one_runs f0 trb u uncut asked.0 has.statement has.table asked.1 (table_so f0 u.node j p x.live has.room has.statement has.table stored has.way)

      pub answers_it : answered_by (outcome_at t.places f0 u) ≡ Some (answer_of_run q)
      answers_it = ap answered_by outcome_is ∙ (ap (λ e. answered_by (Some (output_of e))) has.is ∙ run_answered p j x has.statement has.table)

      of_it : IsOfBook f0.book u.node j
      of_it = from_book p u.input has.from f0.book u.node (heard_book k u.input f0.book u.node (of_book s0 lawful0 u.node k may.1.up))

      meant_by : IsMeantBy f0.book u.node has.statement has.table (view_by f0.book b (reads_at j b) (own_changes j b) has.table.name) q
      meant_by = run_meant f0.book u.node j of_it p b (own_node y runs_on) has.statement has.table (ref_of has.statement).name (runs_at_table p j.stored.durable x.live has.room has.statement has.table has.way)

      -- what its answer says
      own_told : own_at tr0 run.branch ≡ own_changes j b
      own_told = ap (own_at tr0) asked.2 ∙ (turns.own_before t whole hs u more is roots now uncut y runs_on ∙ from_owns p u.input has.from b)

      -- and where it reads
      reads_told : read_at_at tr0 run.branch ≡ reads_at j b
      reads_told =
          ap (read_at_at tr0) asked.2
          ∙ (turns.reads_before t whole hs u more is roots now uncut has.from has.asked y runs_on refl ∙ (turns.reads_after t whole hs u more is roots now uncut y runs_on ∙ sym (asked_reads has.asked)))

      pub answer_meant : AnswerIsMeant f0 tr0 run (answer_of_run q)
      answer_meant = by q meant_by
        where
          meaning_is : meaning f0.book (read_at_at tr0 run.branch) (own_at tr0 run.branch) run ≡ meant has.statement has.table (view_by f0.book b (reads_at j b) (own_changes j b) has.table.name)
          meaning_is = ap (λ o. meaning f0.book o (own_at tr0 run.branch) run) reads_told
              ∙ (ap (λ own. meaning f0.book (reads_at j b) own run) own_told ∙ ap (λ c. meant has.statement has.table (view_by f0.book c (reads_at j b) (own_changes j b) has.table.name)) asked.2)

          node_is : run.branch.node ≡ u.node
          node_is = ap (λ (c : BranchId). c.node) asked.2 ∙ own_node y runs_on

          by : (r : StmtOutcome) → IsMeantBy f0.book u.node has.statement has.table (view_by f0.book b (reads_at j b) (own_changes j b) has.table.name) r → AnswerIsMeant f0 tr0 run (answer_of_run r)
          by (Refuses why) so = tt
          by (Reads rows keys) so = record {
            gives = meaning_is ∙ so.0;
            certain = λ i key at doubt. (
                let keys_are : view_by f0.book run.branch (read_at_at tr0 run.branch) (own_at tr0 run.branch) has.table.name ≡ view_by f0.book b (reads_at j b) (own_changes j b) has.table.name
                = ap (λ o. view_by f0.book run.branch o (own_at tr0 run.branch) has.table.name) reads_told
                ∙ (ap (λ own. view_by f0.book run.branch (reads_at j b) own has.table.name) own_told ∙ ap (λ c. view_by f0.book c (reads_at j b) (own_changes j b) has.table.name) asked.2) in
                let others : List Value = locked_at f0.book tr0 run.branch.node has.table.name in
                let here : slice_get (examined has.statement has.table (view_by f0.book b (reads_at j b) (own_changes j b) has.table.name) others) i ≡ Some key = ap (λ v. slice_get (examined has.statement has.table v others) i) (sym keys_are) ∙ at in
                let free : list_any (same_value key) (keys_in_doubt f0.book u.node has.table.name) ≡ false = all_at (λ c. list_any (same_value c) (keys_in_doubt f0.book u.node has.table.name) ≡ false) _ i key (so.1 others) here in
                let held : list_any (same_value key) (keys_in_doubt f0.book u.node has.table.name) ≡ true = subst (λ n. list_any (same_value key) (keys_in_doubt f0.book n has.table.name) ≡ true) node_is doubt in
                true≢false (sym held ∙ free)
                );
          }
          by (Writes done cs keys undo) so = (cs, meaning_is ∙ so)

      -- the runs that are told after it, of its branch and of the others
      pub work_ran_so : (l : Live) (live : live_at d.after l.me ≡ Some l) → IsTracedWork d.after (turned t.places f0 tr0 u (knows_after l live).seen) l
      work_ran_so l live = record {
        runs = runs_are (same b l.me) refl;
        savepoints = saved ∙ (it.savepoints ∙ (ap (λ (m : Marks). m.savepoints) (from_marks p u.input has.from l.me) ∙ sym (kept_savepoints (same b l.me) refl)));
        taken = step_by l.parent refl;
      }
        where
          it : Knows k1 trb l.me
          it = knows_after l live

          answer : Option Answer
          answer = answered_by (outcome_at t.places f0 u)

          step : ℕ
          step = taken_after u.node it.seen u.input

          its_answer : Answer
          its_answer = answer_of_run q

          work_me : x.work.branch ≡ x.live.me
          work_me = asked_me has.asked

          -- the branch goes back nowhere, and sets no savepoint
          stays : step_back it.seen.me (back_in trb u answer) ≡ None
          stays = ap (step_back it.seen.me) (by u.cut)
            where
              by : (cut : Bool) → (if cut then None else goes_back trb u.node answer u.input) ≡ None
              by true = refl
              by false = asked_stays trb u.node answer has.asked

          saved : (turned t.places f0 tr0 u it.seen).savepoints ≡ it.seen.savepoints
          saved = ap (λ o. savepoints_back o (savepoints_set u.node answer step it.seen u.input)) stays ∙ asked_saves u.node answer step it.seen has.asked

          -- ---- its step

          sessions_ran : (m : ℕ) → (session_at d.after.sessions m).calls ≡ (session_at j.sessions m).calls
          sessions_ran m = ap (λ (e : TurnDraft). (session_at e.after.sessions m).calls) has.is ∙ answered_calls j.sessions y x.live.parent m

          calls_ran : l.parent ≡ None → {z : Branch} {st : Stmt} {given : ℕ} → Asked j u.input z st given → step ≡ (session_at j.sessions l.me.session).calls
          calls_ran top (By_call n z st call rows code_of code found may_write) =
              called_root t whole hs u more is roots now uncut l live top (own_node l live) n st call (counted_rows st rows) ∙ sym (ap (λ (i : NodeState). (session_at i.sessions l.me.session).calls) (has.counts n st call))
          calls_ran top (By_exec z from call given advice st came found admitted) =
              uncalled_root t whole hs u more is roots now uncut l live top (own_node l live) no_call ∙ ap (λ (i : NodeState). (session_at i.sessions l.me.session).calls) (itself has.from)
            where
              no_call : (n : ℕ) (s : Stmt) → IsCall u.input n s → ⊥
              no_call n s other = (let one = came.is in absurd (cc (one, other)))

              itself : {i : NodeState} → From p u.input k1 i → k1 ≡ i
              itself (Itself i) = refl
              itself (Begun n s read_at other begins new from) = absurd (no_call n s other)
              itself (Counted n s other counts from) = absurd (no_call n s other)

          step_by : (o : Option BranchId) → l.parent ≡ o → step ≡ step_of d.after.sessions (record { live = l; work = work_at d.after l.me })
          step_by None top =
              (calls_ran top has.asked ∙ sym (sessions_ran l.me.session)) ∙ sym (ap (λ c. if c then (session_at d.after.sessions l.me.session).calls else last_of d.after l.me) (ap is_none top))
          step_by (Some above) parent =
              let below : it.seen.parent ≢ None = (λ none. (let top : l.parent ≡ None = sym (turns.parents_after t whole hs u more is roots now uncut l live) ∙ none in absurd (cc (parent, top)))) in
              turns.calls_below t whole hs u more is roots now uncut l live it.seen it.at it.live below (it.taken below)
              ∙ sym (ap (λ c. if c then (session_at d.after.sessions l.me.session).calls else last_of d.after l.me) (ap is_none parent))

          -- ---- its savepoints

          kept_savepoints : (here : Bool) → same b l.me ≡ here → (work_at d.after l.me).marks.savepoints ≡ (work_at j l.me).marks.savepoints
          kept_savepoints true here =
              let one : b ≡ l.me = equal_from_same b l.me here in
              subst (λ c. (work_at d.after c).marks.savepoints ≡ (work_at j c).marks.savepoints) one
              (ap (λ (e : TurnDraft). (work_at e.after b).marks.savepoints) has.is ∙ (own_savepoints j x has.table its_answer work_me q ∙ ap (λ (m : Marks). m.savepoints) (asked_marks has.asked)))
          kept_savepoints false other =
              ap (λ (e : TurnDraft). (work_at e.after l.me).marks.savepoints) has.is ∙ ap (λ (w : Work). w.marks.savepoints) (other_work j x has.table its_answer work_me q l.me other)

          -- ---- its runs

          -- the run that was told, where it was accepted
          runs_told : (turned t.places f0 tr0 u it.seen).runs ≡ runs_with (runs_for it.seen (Some run) (Some its_answer)) f0.book step it.seen (Some run)
          runs_told =
              ap (λ o. runs_back o (runs_with (runs_for it.seen (run_in f0 trb u) answer) f0.book step it.seen (run_in f0 trb u))) stays
              ∙ (ap (λ o. runs_with (runs_for it.seen o answer) f0.book step it.seen o) runs ∙ ap (λ a. runs_with (runs_for it.seen (Some run) a) f0.book step it.seen (Some run)) answers_it)

          run_is : run.branch ≡ b
          run_is = asked.2

          me : it.seen.me ≡ l.me
          me = item_is seen_id trb.seen l.me it.seen it.at

          later : it.seen.taken ≤ step
          later = turns.taken_grows u.node it.seen u.input

          before : RunsAre it.seen.runs it.seen.taken (sets_at j.owns l.me) (work_at j l.me).marks.notes
          before = from_runs p u.input has.from it.seen l.me it.runs

          -- the branch of the run is live as it leaves it
          is_ran : b ≡ l.me → l ≡ y
          is_ran one =
              let there : live_at d.after b ≡ Some l = subst (λ c. live_at d.after c ≡ Some l) (sym one) live in
              let ran_there : live_at d.after b ≡ Some y = runs_on in
              cc

          -- what is told of the run is what it did
          told_rows : b ≡ l.me → view_by f0.book run.branch it.seen.read_at (own_of (Some it.seen)) has.table.name ≡ view_by f0.book b (reads_at j b) (own_changes j b) has.table.name
          told_rows one =
              let l_is = is_ran one in
              let reads : it.seen.read_at ≡ reads_at j b = turns.reads_after t whole hs u more is roots now uncut l live ∙ (ap (λ (z : Live). z.read_at) l_is ∙ sym (asked_reads has.asked)) in
              let own : own_of (Some it.seen) ≡ own_changes j b = known_own k1 trb l.me it ∙ (from_owns p u.input has.from l.me ∙ ap (own_changes j) (sym one)) in
              ap (λ c. view_by f0.book c it.seen.read_at (own_of (Some it.seen)) has.table.name) run_is
              ∙ (ap (λ o. view_by f0.book b o (own_of (Some it.seen)) has.table.name) reads ∙ ap (λ own. view_by f0.book b (reads_at j b) own has.table.name) own)

          says : b ≡ l.me → Says has.statement has.table (view_by f0.book run.branch it.seen.read_at (own_of (Some it.seen)) has.table.name) q
          says one =
              subst (λ vs. Says has.statement has.table vs q) (sym (told_rows one))
              (meant_says f0.book u.node has.statement has.table (view_by f0.book b (reads_at j b) (own_changes j b) has.table.name) q meant_by (changes_so p j b has.statement has.table))

          step_is : b ≡ l.me → step ≡ step_of j.sessions x
          step_is one =
              step_by l.parent refl ∙ (ap (λ (z : Live). step_of d.after.sessions (record { live = z; work = work_at d.after z.me })) (is_ran one)
              ∙ (ap (λ (e : TurnDraft). step_of e.after.sessions (record { live = y; work = work_at e.after b })) has.is ∙ own_step j x has.table its_answer work_me q))

          own_ran : b ≡ l.me → RunsAre (runs_with (is_accepted (Some its_answer)) f0.book step it.seen (Some run)) step (sets_at d.after.owns l.me) (work_at d.after l.me).marks.notes
          own_ran one =
              subst (λ c. RunsAre (runs_with (is_accepted (Some its_answer)) f0.book step it.seen (Some run)) step (sets_at d.after.owns c) (work_at d.after c).marks.notes) one
              (subst (λ (e : TurnDraft). RunsAre (runs_with (is_accepted (Some its_answer)) f0.book step it.seen (Some run)) step (sets_at e.after.owns b) (work_at e.after b).marks.notes) (sym has.is)
              (own_runs j x has.table its_answer work_me f0.book it.seen run step later (step_is one) (asked_marks has.asked)
              (subst (λ c. RunsAre it.seen.runs it.seen.taken (sets_at j.owns c) (work_at j c).marks.notes) (sym one) before) q (says one)))

          other_ran : same b l.me ≡ false → RunsAre it.seen.runs step (sets_at d.after.owns l.me) (work_at d.after l.me).marks.notes
          other_ran other =
              noted_alike it.seen.runs step (sets_at j.owns l.me) (sets_at d.after.owns l.me) (work_at j l.me).marks.notes (work_at d.after l.me).marks.notes
              (ap (λ (e : TurnDraft). sets_at e.after.owns l.me) has.is ∙ other_sets j x has.table its_answer work_me q l.me other)
              (ap (λ (e : TurnDraft). steps_of_sets (work_at e.after l.me).marks.notes) has.is ∙ ap (λ (w : Work). steps_of_sets w.marks.notes) (other_work j x has.table its_answer work_me q l.me other))
              (runs_higher it.seen.runs it.seen.taken step (sets_at j.owns l.me) (work_at j l.me).marks.notes later before)

          runs_are : (here : Bool) → same b l.me ≡ here → RunsAre (turned t.places f0 tr0 u it.seen).runs step (sets_at d.after.owns l.me) (work_at d.after l.me).marks.notes
          runs_are true here =
              let it_is : same run.branch it.seen.me ≡ true = ap (λ c. same c it.seen.me) run_is ∙ (ap (same b) me ∙ here) in
              subst (λ rs. RunsAre rs step (sets_at d.after.owns l.me) (work_at d.after l.me).marks.notes)
              (sym (runs_told ∙ ap (λ c. runs_with (c && is_accepted (Some its_answer)) f0.book step it.seen (Some run)) it_is)) (own_ran (equal_from_same b l.me here))
          runs_are false other =
              let it_is_not : same run.branch it.seen.me ≡ false = ap (λ c. same c it.seen.me) run_is ∙ (ap (same b) me ∙ other) in
              subst (λ rs. RunsAre rs step (sets_at d.after.owns l.me) (work_at d.after l.me).marks.notes)
              (sym (runs_told ∙ own_other f0.book step it.seen run (Some its_answer) it_is_not)) (other_ran other)

    -- ---- a turn without a run

    module _ (plain : IsPlain u.input) (rests : Rests k1 u.input d) where
      -- no statement runs by what is told, or its answer is a refusal
      unrun : AcceptsNone k1 u.input d → (run_in f0 trb u ≡ None) ⊎ (is_accepted (answered_by (outcome_at t.places f0 u)) ≡ false)
      unrun (inl none) = inl (none_runs f0 trb u (none_asked trb u.node u.input none))
      unrun (inr (inl not_so)) = inr (ap (λ o. is_accepted (answered_by o)) outcome_is ∙ not_so)
      unrun (inr (inr again)) =
          let x : Branch = again.0 in
          let came = again.6 in
          let it = turns.old_known t whole hs u more is roots now x.live.me x.live (live_so k1 x.live.me x again.7) in
          inl (none_runs f0 trb u (again_asked trb u.node k1 u.input again it.seen it.at
          (it.taken (turns.exec_below t whole hs u more is roots now uncut again.1 x.live.me again.2 (tasks.Run again.3 again.4 again.5) came x.live (live_so k1 x.live.me x again.7) it))))

      runs_rest : (l : Live) (live : live_at d.after l.me ≡ Some l) → (turned t.places f0 tr0 u (knows_after l live).seen).runs ≡ (knows_after l live).seen.runs
      runs_rest l live =
          let s : Seen = (knows_after l live).seen in
          let answer : Option Answer = answered_by (outcome_at t.places f0 u) in
          let step : ℕ = taken_after u.node s u.input in
          let stays : step_back s.me (back_in trb u answer) ≡ None = ap (step_back s.me) (plain_stays trb u answer plain) in
          ap (λ o. runs_back o (runs_with (runs_for s (run_in f0 trb u) answer) f0.book step s (run_in f0 trb u))) stays
          ∙ elim (unrun rests.accepts) [ inl none ↦ own_unrun f0.book step s (run_in f0 trb u) answer none | inr not_so ↦ own_refused f0.book step s (run_in f0 trb u) answer not_so ]

      savepoints_rest : (l : Live) (live : live_at d.after l.me ≡ Some l) → (turned t.places f0 tr0 u (knows_after l live).seen).savepoints ≡ (knows_after l live).seen.savepoints
      savepoints_rest l live =
          let s : Seen = (knows_after l live).seen in
          let answer : Option Answer = answered_by (outcome_at t.places f0 u) in
          let step : ℕ = taken_after u.node s u.input in
          let stays : step_back s.me (back_in trb u answer) ≡ None = ap (step_back s.me) (plain_stays trb u answer plain) in
          ap (λ o. savepoints_back o (savepoints_set u.node answer step s u.input)) stays ∙ plain_saves u.node answer step s u.input plain

      -- the step of each branch that is live after it, and that it is no lower
      step_rest : (l : Live) (live : live_at d.after l.me ≡ Some l) → (taken_after u.node (knows_after l live).seen u.input ≡ step_of d.after.sessions (record { live = l; work = work_at d.after l.me }))
          × ((knows_after l live).seen.taken ≤ taken_after u.node (knows_after l live).seen u.input)
      step_rest l live = (by l.parent refl, turns.taken_grows u.node (knows_after l live).seen u.input)
        where
          it : Knows k1 trb l.me
          it = knows_after l live

          -- that of a root is the number of calls of its session, and no such call came
          root_rest : l.parent ≡ None → taken_after u.node it.seen u.input ≡ (session_at d.after.sessions l.me.session).calls
          root_rest top =
              let above : it.seen.parent ≡ None = turns.parents_after t whole hs u more is roots now uncut l live ∙ top in
              let was = was_live top (lives_on p u.input l.me (turns.step t whole hs u more is roots now) l live) in
              taken_same u.node it.seen u.input (not_to above was) (λ m st call. and_right (is_root_of u.node m it.seen) (is_counted st) (counts_none p u.input plain m st call))
              ∙ (it.counts above was.0 was.1 ∙ sym (same_on p u.input plain (turns.step t whole hs u more is roots now) l.me.session))
            where
              was_live : l.parent ≡ None → IsOfThese p u.input l.me k1 l → (z : Live) × (live_at k1 l.me ≡ Some z)
              was_live top (inl there) = there
              was_live top (inr (inl root)) = absurd (begins_none p u.input plain root.session root.statement root.call (may_so root.statement root.begins))
              was_live top (inr (inr below)) = absurd (below top)

              not_to : it.seen.parent ≡ None → ((z : Live) × (live_at k1 l.me ≡ Some z)) → (from : BranchId) (call : ℕ) (task : Task) → Came u.input from it.seen.me (kinds.Exec call task) → ⊥
              not_to above was from call task came =
                  let me : it.seen.me ≡ l.me = item_is seen_id trb.seen l.me it.seen it.at in
                  turns.exec_below t whole hs u more is roots now uncut from l.me call task (subst (λ c. Came u.input from c (kinds.Exec call task)) me came) was.0 was.1 it above

          below_rest : l.parent ≢ None → taken_after u.node it.seen u.input ≡ last_of d.after l.me
          below_rest below =
              let down : it.seen.parent ≢ None = (λ none. below (sym (turns.parents_after t whole hs u more is roots now uncut l live) ∙ none)) in
              turns.calls_below t whole hs u more is roots now uncut l live it.seen it.at it.live down (it.taken down)

          by : (o : Option BranchId) → l.parent ≡ o → taken_after u.node it.seen u.input ≡ step_of d.after.sessions (record { live = l; work = work_at d.after l.me })
          by None top = root_rest top ∙ sym (ap (λ q. if q then (session_at d.after.sessions l.me.session).calls else last_of d.after l.me) (ap is_none top))
          by (Some q) above = below_rest (λ none. absurd (cc (above, none))) ∙ sym (ap (λ q. if q then (session_at d.after.sessions l.me.session).calls else last_of d.after l.me) (ap is_none above))

      pub work_rest_so : (l : Live) (live : live_at d.after l.me ≡ Some l) → IsTracedWork d.after (turned t.places f0 tr0 u (knows_after l live).seen) l
      work_rest_so l live =
          let it : Knows k1 trb l.me = knows_after l live in
          let same = rests.own l.me l live in
          let step = step_rest l live in
          record {
            runs = subst (λ rs. RunsAre rs (taken_after u.node it.seen u.input) (sets_at d.after.owns l.me) (work_at d.after l.me).marks.notes) (sym (runs_rest l live))
                (noted_alike it.seen.runs (taken_after u.node it.seen u.input) (sets_at k1.owns l.me) (sets_at d.after.owns l.me) (work_at k1 l.me).marks.notes (work_at d.after l.me).marks.notes same.sets same.steps
                (runs_higher it.seen.runs it.seen.taken (taken_after u.node it.seen u.input) (sets_at k1.owns l.me) (work_at k1 l.me).marks.notes step.1 it.runs));
            savepoints = savepoints_rest l live ∙ (it.savepoints ∙ sym same.savepoints);
            taken = step.0;
          }

      pub answer_rests : (r : Run) (a : Answer) → run_in f0 trb u ≡ Some r → answered_by (outcome_at t.places f0 u) ≡ Some a → AnswerIsMeant f0 tr0 r a
      answer_rests r a some answer = elim (unrun rests.accepts) [
        | inl none ↦ absurd (cc (none, some))
        | inr not_so ↦ (let why = refused a (ap is_accepted (sym answer) ∙ not_so) in subst (AnswerIsMeant f0 tr0 r) (sym why.1) tt)
      ]

    -- an answer of a run is meant
    answer_ran : HasRun p u.input k1 d → (r : Run) (a : Answer) → run_in f0 trb u ≡ Some r → answered_by (outcome_at t.places f0 u) ≡ Some a → AnswerIsMeant f0 tr0 r a
    answer_ran has r a some answer =
        let runs_it : Some (run has) ≡ Some r = sym (runs has) ∙ some in
        let answers : Some (answer_of_run (q has)) ≡ Some a = sym (answers_it has) ∙ answer in
        let one : run has ≡ r = cc in
        let two : answer_of_run (q has) ≡ a = cc in
        subst (λ x. AnswerIsMeant f0 tr0 x a) one (subst (AnswerIsMeant f0 tr0 (run has)) two (answer_meant has))

    -- ---- a call within a transaction, and BACK

    module _ (special : is_plain u.input ≡ false) where
      pub work_special_so : (l : Live) (live : live_at d.after l.me ≡ Some l) → IsTracedWork d.after (turned t.places f0 tr0 u (knows_after l live).seen) l
      work_special_so l live = elim (special_turn t whole hs u more is roots now uncut special) [ inl has ↦ work_ran_so has l live | inr traces ↦ traces.0 l live ]

      pub answer_special : (r : Run) (a : Answer) → run_in f0 trb u ≡ Some r → answered_by (outcome_at t.places f0 u) ≡ Some a → AnswerIsMeant f0 tr0 r a
      answer_special r a some answer = elim (special_turn t whole hs u more is roots now uncut special) [
        | inl has ↦ answer_ran has r a some answer
        | inr traces ↦ elim traces.1 [
          | inl none ↦ absurd (cc (none, some))
          | inr not_so ↦ (let why = refused a (ap is_accepted (sym answer) ∙ not_so) in subst (AnswerIsMeant f0 tr0 r) (sym why.1) tt)
        ]
      ]

    -- ---- all

    pub work_after_turn : (l : Live) (live : live_at d.after l.me ≡ Some l) → IsTracedWork d.after (turned t.places f0 tr0 u (knows_after l live).seen) l
    work_after_turn l live = bool_cases (is_plain u.input) _ (λ plain. by_plain plain (turns_on p u.input (turns.step t whole hs u more is roots now) plain)) (λ special. work_special_so special l live)
      where
        by_plain : IsPlain u.input → Turns p u.input k1 d → IsTracedWork d.after (turned t.places f0 tr0 u (knows_after l live).seen) l
        by_plain plain (inl has) = work_ran_so has l live
        by_plain plain (inr rests) = work_rest_so plain rests l live

    pub meant_after_turn : (r : Run) (a : Answer) → run_in f0 trb u ≡ Some r → answered_by (outcome_at t.places f0 u) ≡ Some a → AnswerIsMeant f0 tr0 r a
    meant_after_turn r a some answer = bool_cases (is_plain u.input) _ (λ plain. by_plain plain (turns_on p u.input (turns.step t whole hs u more is roots now) plain)) (λ special. answer_special special r a some answer)
      where
        by_plain : IsPlain u.input → Turns p u.input k1 d → AnswerIsMeant f0 tr0 r a
        by_plain plain (inl has) = answer_ran has r a some answer
        by_plain plain (inr rests) = answer_rests plain rests r a some answer
