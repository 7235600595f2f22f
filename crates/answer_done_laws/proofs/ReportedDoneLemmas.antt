-- The report tells statements that write one record as they were written.
use Rattle.std.proofs.Common.{◌≡◌, ℕ, ◌+◌, ◌≤◌, ◌⊎◌, true, false, slice_get, IfSome, Option, Some, None, inl, inr, refl, sym, ap, subst, ◌∙◌}
use Rattle.node_rules.specs.Data.{Answer, RedoRecord, Refusal, Stmt}
use Rattle.node_rules.specs.Data.answers
use Rattle.node_rules.specs.Data.inputs
use Rattle.node_rules.specs.Data.stmts
use Rattle.node_rules.specs.Inputs.{IsCall}
use Rattle.run_rules.specs.Commands.{commits_first}
use Rattle.run_rules.specs.Data.{Turn}
use Rattle.run_rules.specs.Data.commands
use Rattle.run_rules.specs.Data.happenings
use Rattle.run_rules.specs.Each.{facts_upto}
use Rattle.run_rules.specs.Facts.{command_at, outcome_at, place_at, records_at}
use Rattle.run_rules.specs.Scripts.{IsTheRunOf}
use Rattle.run_rules.specs.Lawful.{History, facts_at}
use Rattle.run_rules.specs.Runs.{is_accepted}
use Rattle.run_rules.specs.RunReport.{Call}
use Rattle.answer_origin_laws.specs.CallTurns.{BringsText, What_is_asked, A_commit_first, Then_the_create, TurnOf, CameBefore}
use Rattle.answer_origin_laws.proofs.CallTurnLemmas.{turns_find_calls_come, what_comes_is_pending}
use Rattle.answer_origin_laws.specs.ToldLaws.{EndedBy}
use Rattle.answer_origin_laws.proofs.ToldTurnLemmas.{lines_come_from_turns}
use Rattle.answer_done_laws.specs.DoneLaws.{ended_in, answers_to, Stands, IsAsked, DoesWhatIsWritten}
use Rattle.run_claims.specs.Recorded.{is_recorded, is_of_statement}
use Rattle.answer_done_laws.specs.StandLaws.{StaysIn}
use Rattle.run_claims.specs.Recorded.{IsOneOf}
use Rattle.run_claims.specs.ReportedDone.{ComesIn, CameTo, StatementIsWritten, DoneHasItsRecord, StatementIsRefused, Writes_nothing, Has_no_commit, RefusedHasNone, RecordIsReported, RecordsAreReported, DoneIsReported}
use Rattle.answer_done_laws.proofs.AtOnceLemmas.{answer_among, one_answer, one_done, recorded, fact_at, lawful, up_there, ended_is, answers_so, gone_and_told, cut_told, brought, at_once, same_turn}
use Rattle.answer_done_laws.proofs.CommitEndLemmas.{commit_refused}
use Rattle.answer_done_laws.proofs.DoneLemmas.{written_is_done}
use Rattle.answer_done_laws.proofs.LineStayLemmas.{Has}
use Rattle.answer_done_laws.proofs.StandLemmas.{done_stays}

module _ (t : History) (run : IsTheRunOf t) where
  -- ---- a line with the answer of a node

  module _ (command : ℕ) (s : Stmt) (a : Answer) (one : is_recorded s ≡ true) (e : EndedBy t command a) (asks : e.text ≡ Some s) where
    came : CameBefore t (e.ended + 1) e.turn.node e.session e.call
    came = turns_find_calls_come t run e.ended e.turn e.there e.turn.node e.session e.call e.pending

    abbrev u : Turn
    u = came.turn.turn

    asked_is : came.turn.text ≡ Some s
    asked_is =
        let it : commands.At e.turn.node e.session came.turn.text ≡ commands.At e.turn.node e.session e.text = sym came.turn.asked ∙ (ap (command_at t.commands) e.its ∙ e.asked) in
        let same : came.turn.text ≡ e.text = cc in
        same ∙ asks

    -- the statement itself came
    module _ (own : e.call.statement ≡ Some s) (alone : e.call.follows ≡ None) (runs : ComesIn command s (facts_upto t came.moment).command) where
      call : IsCall u.input e.session s
      call = brought t run e.ended e.turn e.there e.session e.turn.node e.call came s own one alone

      abbrev came_to : CameTo t command u.node e.session s
      came_to = record { moment = came.moment; turn = u; there = came.turn.there; here = refl; call = call; running = runs }

      turn_is : u ≡ e.turn
      turn_is = same_turn t run e.ended e.turn e.there e.session e.turn.node e.call came s own one alone

      uncut : u.cut ≡ false
      uncut = ap (λ (x : Turn). x.cut) turn_is ∙ e.uncut

      among : Has (answers_to e.session (ended_in t.places (facts_upto t came.moment) u)) a
      among =
          let moment : came.moment ≡ e.ended = at_once t run e.ended e.turn e.there e.session e.turn.node e.call came s own one alone in
          let comes : outcome_at t.places (facts_upto t came.moment) u ≡ Some e.outcome = ap (λ m. outcome_at t.places (facts_upto t m) u) moment ∙ (ap (outcome_at t.places (facts_upto t e.ended)) turn_is ∙ e.comes) in
          subst (λ fs. Has (answers_to e.session fs) a) (sym (ended_is t run came.moment u came.turn.there e.outcome uncut comes)) (answer_among e.outcome.ended e.number e.session a e.answers)

      abbrev Answered : Type 0
      Answered = ((u.wrote ≡ None) × (r : Refusal) × (a ≡ answers.Refused r))
          ⊎ ((x : Stands (place_at t.places u.node) (up_there t run came.moment u came.turn.there).0 e.session s u.wrote (ended_in t.places (facts_upto t came.moment) u)) × (a ≡ answers.Did x.done 0))

      answered : Answered
      answered = elim (answers_so t run came.moment u came.turn.there uncut e.session s call one) [
        | inl out ↦ inl (out.0, out.1, sym (one_answer _ (answers.Refused out.1) a out.2 among))
        | inr x ↦ inr (x, sym (one_answer _ (answers.Did x.done 0) a x.answered among))
      ]

      written : is_accepted (Some a) ≡ true → StatementIsWritten t command u.node e.session s a
      written accepted = by answered
        where
          by : Answered → StatementIsWritten t command u.node e.session s a
          by (inl out) = absurd (let no : is_accepted (Some a) ≡ false = ap (λ x. is_accepted (Some x)) out.2 in cc (no, accepted))
          by (inr done) =
              let x = done.0 in
              let up = up_there t run came.moment u came.turn.there in
              let stays = fact_at t (StaysIn (records_at (facts_at t))) (done_stays t (lawful t run)) came.moment (happenings.Turn u) came.turn.there up.0 up.1 e.session s call one (one_done _ e.session x.done x.answered) in
              let both : Some x.written ≡ Some stays.0 = sym x.stands ∙ stays.1 in
              let same : stays.0 ≡ x.written = cc in
              record {
                came = came_to;
                uncut = uncut;
                kept = up.0;
                up = up.1;
                written = x.written;
                done = x.done;
                of = x.of;
                stands = x.stands;
                says = done.1;
                stays = subst (IsOneOf (records_at (facts_at t) u.node)) same stays.2;
              }

      refused : (r : Refusal) → a ≡ answers.Refused r → StatementIsRefused t command u.node e.session s
      refused r is = by answered
        where
          by : Answered → StatementIsRefused t command u.node e.session s
          by (inl out) = Writes_nothing came_to uncut out.0
          by (inr done) = absurd (let did = done.1 in cc (did, is))

    running_is : (facts_upto t came.moment).command ≡ e.call.command → (facts_upto t came.moment).command ≡ command
    running_is runs = runs ∙ e.its

    done_so : {text : Option Stmt} → BringsText e.call (facts_upto t came.moment).command text → text ≡ Some s → is_accepted (Some a) ≡ true → StatementIsWritten t command u.node e.session s a
    done_so (What_is_asked text own alone runs) is accepted = written (own ∙ is) alone (inl (running_is runs)) accepted
    done_so (Then_the_create st creates own alone low) is accepted =
        let it : Some st ≡ Some s = is in let same : st ≡ s = cc in
        written (own ∙ is) alone (inr (subst (λ x. commits_first x ≡ true) same creates, subst (λ c. c ≤ (facts_upto t came.moment).command) e.its low)) accepted
    done_so (A_commit_first st creates own follows runs) is accepted = absurd (commit_refused t run command a e came st own follows accepted)

    refused_so : (r : Refusal) → a ≡ answers.Refused r → {text : Option Stmt} → BringsText e.call (facts_upto t came.moment).command text → text ≡ Some s → StatementIsRefused t command u.node e.session s
    refused_so r refuses (What_is_asked text own alone runs) is = refused (own ∙ is) alone (inl (running_is runs)) r refuses
    refused_so r refuses (Then_the_create st creates own alone low) is =
        let it : Some st ≡ Some s = is in let same : st ≡ s = cc in
        refused (own ∙ is) alone (inr (subst (λ x. commits_first x ≡ true) same creates, subst (λ c. c ≤ (facts_upto t came.moment).command) e.its low)) r refuses
    refused_so r refuses (A_commit_first st creates own follows runs) is =
        let it : Some st ≡ Some s = is in let same : st ≡ s = cc in
        Has_no_commit (subst (λ x. commits_first x ≡ true) same creates)
        (record { moment = came.moment; turn = u; there = came.turn.there; here = refl; call = came.turn.came ∙ ap (inputs.Call e.session) own; running = inl (running_is runs) })

  module _ (command node session : ℕ) (s : Stmt) (a : Answer) (named : command_at t.commands command ≡ commands.At node session (Some s)) (e : EndedBy t command a) where
    same_call : commands.At e.turn.node e.session e.text ≡ commands.At node session (Some s)
    same_call = sym e.asked ∙ named

    same_text : e.text ≡ Some s
    same_text = let it = same_call in cc

    same_node : e.turn.node ≡ node
    same_node = let it = same_call in cc

    same_session : e.session ≡ session
    same_session = let it = same_call in cc

    module _ (P : ℕ → ℕ → Type 0) (one : is_recorded s ≡ true) where
      -- what is so of the call's turn is so of the command
      of_command : P (came command s a one e same_text).turn.turn.node e.session → P node session
      of_command is = subst (P node) same_session (subst (λ n. P n e.session) ((came command s a one e same_text).turn.here ∙ same_node) is)

  pub done_has_its_record : DoneHasItsRecord t
  done_has_its_record i command node session s a named one accepted line =
      let e : EndedBy t command a = lines_come_from_turns t i command a line in
      let text = same_text command node session s a named e in
      of_command command node session s a named e (λ n q. StatementIsWritten t command n q s a) one (done_so command s a one e text (came command s a one e text).turn.brings (asked_is command s a one e text) accepted)

  pub refused_has_none : RefusedHasNone t
  refused_has_none i command node session s r named one line =
      let a : Answer = answers.Refused r in
      let e : EndedBy t command a = lines_come_from_turns t i command a line in
      let text = same_text command node session s a named e in
      of_command command node session s a named e (λ n q. StatementIsRefused t command n q s) one (refused_so command s a one e text r refl (came command s a one e text).turn.brings (asked_is command s a one e text))

  -- ---- a record

  module _ (moment : ℕ) (u : Turn) (there : slice_get t.trace moment ≡ Some (happenings.Turn u)) (r : RedoRecord) (wrote : u.wrote ≡ Some r) (one : is_of_statement r ≡ true) where
    asks_it : IsAsked t.places (facts_upto t moment) u (up_there t run moment u there).0 r
    asks_it =
        let up = up_there t run moment u there in
        subst (λ w. IfSome w (λ x. is_of_statement x ≡ true → IsAsked t.places (facts_upto t moment) u up.0 x)) wrote (fact_at t DoesWhatIsWritten (written_is_done t (lawful t run)) moment (happenings.Turn u) there up.0 up.1) one

    abbrev it_asks : IsAsked t.places (facts_upto t moment) u (up_there t run moment u there).0 r
    it_asks = asks_it

    statement_is : (c : Call) → TurnOf t moment u.node it_asks.session c → c.statement ≡ Some it_asks.statement
    statement_is c x =
        let it : Some (happenings.Turn x.turn) ≡ Some (happenings.Turn u) = sym x.there ∙ there in
        let turn : x.turn ≡ u = cc in
        let both : inputs.Call it_asks.session c.statement ≡ inputs.Call it_asks.session (Some it_asks.statement) = sym x.came ∙ (ap (λ (v : Turn). v.input) turn ∙ it_asks.call) in
        cc

    told_so : (c : Call) → TurnOf t moment u.node it_asks.session c → command_at t.commands c.command ≡ commands.At u.node it_asks.session (Some it_asks.statement) → c.follows ≡ None
        → ComesIn c.command it_asks.statement (facts_upto t moment).command → RecordIsReported t moment u r
    told_so c x named alone runs =
        let up = up_there t run moment u there in record {
          command = c.command;
          session = it_asks.session;
          statement = it_asks.statement;
          asked = named;
          call = it_asks.call;
          running = runs;
          kept = up.0;
          up = up.1;
          done = it_asks.done;
          of = it_asks.of;
          told = λ uncut. (gone_and_told t run moment u there uncut it_asks.session c.command (Some it_asks.statement) named c x.pending refl alone (answers.Did it_asks.done 0) (it_asks.answered uncut)).0;
          down = λ cut h after. cut_told t run moment u there cut h after it_asks.session c.command (Some it_asks.statement) named c x.pending refl;
        }

    told_by : (c : Call) → TurnOf t moment u.node it_asks.session c → {text : Option Stmt} → BringsText c (facts_upto t moment).command text → command_at t.commands c.command ≡ commands.At u.node it_asks.session text → RecordIsReported t moment u r
    told_by c x (What_is_asked text own alone runs) named =
        told_so c x (subst (λ o. command_at t.commands c.command ≡ commands.At u.node it_asks.session o) (sym own ∙ statement_is c x) named) alone (inl runs)
    told_by c x (Then_the_create st creates own alone low) named =
        let it : Some st ≡ Some it_asks.statement = sym own ∙ statement_is c x in
        let same : st ≡ it_asks.statement = cc in
        told_so c x (subst (λ o. command_at t.commands c.command ≡ commands.At u.node it_asks.session o) it named) alone (inr (subst (λ z. commits_first z ≡ true) same creates, low))
    told_by c x (A_commit_first st creates own follows runs) named =
        let it : Some it_asks.statement ≡ Some (stmts.Commit None) = sym (statement_is c x) ∙ own in
        let commit : it_asks.statement ≡ stmts.Commit None = cc in
        let no : is_recorded it_asks.statement ≡ false = ap is_recorded commit in
        let yes : is_recorded it_asks.statement ≡ true = recorded it_asks.of in
        absurd (cc (no, yes))

    record_told : RecordIsReported t moment u r
    record_told =
        let c = what_comes_is_pending t run moment u there it_asks.session (Some it_asks.statement) it_asks.call in
        told_by c.0 c.1 c.1.brings c.1.asked

  pub records_are_told : RecordsAreReported t
  records_are_told moment u there r wrote one = record_told moment u there r wrote one

pub done_is_reported : DoneIsReported
done_is_reported t run = (done_has_its_record t run, refused_has_none t run, records_are_told t run)
