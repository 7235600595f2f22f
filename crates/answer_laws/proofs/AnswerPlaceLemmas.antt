-- In the run of a script each accepted answer of a statement with a table has its place: the call of its command, the run
-- that answered, and the way there.
use Rattle.std.proofs.Common.{inl, inr, ◌≡◌, ℕ, ◌+◌, ◌≤◌, List, [], ◌∷◌, ◌++◌, length, Option, Some, refl, sym, ap, subst, ◌∙◌, arith}
use Rattle.std.specs.Prelude.{slice_get, take, true, false}
use Rattle.std.proofs.lemmas.List.{append_assoc, length-append}
use Rattle.answer_origin_laws.specs.CallTurns.{BringsText, What_is_asked, A_commit_first, Then_the_create, CameBefore, TurnsFindCallsCome}
use Rattle.run_ready_laws.proofs.RunLawfulLemmas.{the_run_is_lawful}
use Rattle.node_rules.specs.Data.{Answer, BranchId, Stmt}
use Rattle.node_rules.specs.Data.inputs
use Rattle.node_rules.specs.Data.kinds
use Rattle.node_rules.specs.Data.stmts
use Rattle.run_rules.specs.Branches.{Run, Trail, root_at}
use Rattle.run_rules.specs.Commands.{commits_first}
use Rattle.run_rules.specs.Data.{Turn, Happening}
use Rattle.run_rules.specs.Data.commands
use Rattle.run_rules.specs.Data.happenings
use Rattle.run_rules.specs.Each.{facts_upto, trail_upto}
use Rattle.run_rules.specs.Facts.{Facts, first_facts, command_at, facts_after, facts_of, outcome_at}
use Rattle.run_claims.specs.Headline.{EveryAnswerHasItsPlace}
use Rattle.run_rules.specs.Scripts.{IsTheRunOf}
use Rattle.run_rules.specs.Lawful.{MayHappen, IsLawful, History, IsLawfulRun}
use Rattle.run_claims.specs.Places.{LeadsTo, PlaceOf}
use Rattle.run_rules.specs.Runs.{is_of_rows, is_accepted}
use Rattle.run_rules.specs.RunReport.{Call}
use Rattle.run_rules.specs.Trail.{trail_after}
use Rattle.tree_laws.proofs.PrefixLemmas.{f_at, facts_join}
use Rattle.tree_laws.proofs.TimeLemmas.{may_of, lawful_split}
use Rattle.tree_trail_laws.proofs.MomentLemmas.{tr_at, trail_one_on, at_moment}
use Rattle.answer_origin_laws.specs.LeadLaws.{IsRollbackTo, CallAnsweredBy, IsTracedFor, EndsAsReplied, EndsInItsTurn}
use Rattle.answer_origin_laws.specs.ToldLaws.{EndedBy}
use Rattle.answer_origin_laws.proofs.AtOnceLemmas.{calls_end_at_once}
use Rattle.answer_origin_laws.proofs.PartLemmas.{split_at, longer}
use Rattle.answer_origin_laws.proofs.ReplyRunLemmas.{taken_first, prefix, moment_at}
use Rattle.answer_origin_laws.proofs.RootAnswerLemmas.{calls_end_as_replied}
use Rattle.answer_origin_laws.proofs.SentLemmas.{came_sent}
use Rattle.answer_origin_laws.proofs.ToldTurnLemmas.{lines_come_from_turns}
use Rattle.answer_laws.proofs.EndingLemmas.{Ending, By_call, By_reply, By_commit, kept_there, turn_ends, commit_last}
use Rattle.answer_laws.specs.EndLaws.{LastCall}
use Rattle.answer_laws.proofs.LastCallLemmas.{one_moment, one_text}

-- a statement with a table commits nothing first
rows_first : (s : Stmt) → is_of_rows s ≡ true → commits_first s ≡ false
rows_first (stmts.Insert table columns given) rows = refl
rows_first (stmts.Update table sets cs) rows = refl
rows_first (stmts.Delete table cs) rows = refl
rows_first (stmts.Select list table cs for_update) rows = refl
rows_first _ rows = absurd cc

-- so its call brings it, while its command runs
rows_brought : (c : Call) (running : ℕ) (s : Stmt) → is_of_rows s ≡ true → BringsText c running (Some s) → (c.statement ≡ Some s) × (running ≡ c.command)
rows_brought c running s rows (What_is_asked text is none at) = (is, at)
rows_brought c running s rows (A_commit_first q first is follows at) = absurd (let none = rows_first q rows in cc (none, first))
rows_brought c running s rows (Then_the_create q first is none at) = absurd (let none = rows_first q rows in cc (none, first))

-- ---- commands come one after the other

module _ (t : History) (whole : IsLawfulRun t) where
  command_after : (f : Facts) (h : Happening) → MayHappen t.places t.commands f h → f.command ≤ (facts_after t.places t.commands f h).command
  unfolding facts_after
  command_after f (happenings.Begun c) may = omega (arith, may.1)
  command_after f (happenings.Turn u) may = omega arith
  command_after f (happenings.Cut a b) may = omega arith
  command_after f (happenings.Join a b) may = omega arith
  command_after f (happenings.Lost x) may = omega arith
  command_after f (happenings.Stopped n) may = omega arith
  command_after f (happenings.Started n boot) may = omega arith

  commands_after : (f : Facts) (hs : List Happening) → IsLawful t.places t.commands f hs → f.command ≤ (facts_of t.places t.commands f hs).command
  unfolding facts_of IsLawful
  commands_after f [] lawful = omega arith
  commands_after f (h ∷ hs) lawful = omega (arith, command_after f h lawful.0, commands_after (facts_after t.places t.commands f h) hs lawful.1)

  pub command_rises : (i j : ℕ) (g h : Happening) → slice_get t.trace i ≡ Some g → slice_get t.trace j ≡ Some h → i ≤ j → (facts_upto t i).command ≤ (facts_upto t j).command
  command_rises i j g h at_i at_j low =
      let one = split_at t.trace i g at_i in
      let two = split_at t.trace j h at_j in
      let first : take i t.trace ≡ one.0 = ap (λ m. take m t.trace) (sym one.3) ∙ prefix t one.0 g one.1 one.2 in
      let second : take j t.trace ≡ two.0 = ap (λ m. take m t.trace) (sym two.3) ∙ prefix t two.0 h two.1 two.2 in
      let between = longer one.0 two.0 (g ∷ one.1) (h ∷ two.1) (one.2 ∙ sym two.2) (omega (arith, one.3, two.3, low)) in
      let all : one.0 ++ (between.0 ++ h ∷ two.1) ≡ t.trace = sym (append_assoc one.0 between.0 (h ∷ two.1)) ∙ (ap (λ xs. xs ++ h ∷ two.1) (sym between.1) ∙ two.2) in
      let lawful : IsLawful t.places t.commands (f_at t one.0) (between.0 ++ h ∷ two.1) = (lawful_split t.places t.commands (first_facts t.places) one.0 (between.0 ++ h ∷ two.1) (subst (IsLawful t.places t.commands (first_facts t.places)) (sym all) whole)).1 in
      let rises = commands_after (f_at t one.0) between.0 (lawful_split t.places t.commands (f_at t one.0) between.0 (h ∷ two.1) lawful).0 in
      let from : (facts_upto t i).command ≡ (f_at t one.0).command = ap (λ xs. (f_at t xs).command) first in
      let upto : (facts_upto t j).command ≡ (facts_of t.places t.commands (f_at t one.0) between.0).command
      = ap (λ xs. (f_at t xs).command) (second ∙ between.1) ∙ ap (λ (f : Facts). f.command) (facts_join t.places t.commands (first_facts t.places) one.0 between.0) in
      omega (arith, rises, from, upto)

-- ---- the place of an answer

module _ (found : TurnsFindCallsCome) (t : History) (due : IsTheRunOf t) (command node session : ℕ) (s : Stmt) (a : Answer) (asked : command_at t.commands command ≡ commands.At node session (Some s)) (rows : is_of_rows s ≡ true)
    (good : is_accepted (Some a) ≡ true) (e : EndedBy t command a) where
  whole : IsLawfulRun t
  whole = the_run_is_lawful t due

  cut_there : (hs : List Happening) × (rest : List Happening) × (hs ++ happenings.Turn e.turn ∷ rest ≡ t.trace) × (length hs ≡ e.ended)
  cut_there = split_at t.trace e.ended (happenings.Turn e.turn) e.there

  abbrev hs : List Happening
  hs = cut_there.0

  abbrev u : Turn
  u = e.turn

  upto : take e.ended t.trace ≡ hs
  upto = ap (λ m. take m t.trace) (sym cut_there.3) ∙ prefix t hs (happenings.Turn u) cut_there.1 cut_there.2

  outcome : outcome_at t.places (f_at t hs) u ≡ Some e.outcome
  outcome = ap (λ xs. outcome_at t.places (f_at t xs) u) (sym upto) ∙ e.comes

  -- ---- the call

  text_is : e.text ≡ Some s
  text_is = let both : commands.At u.node e.session e.text ≡ commands.At node session (Some s) = sym e.asked ∙ asked in cc

  came : CameBefore t (e.ended + 1) u.node e.session e.call
  came = found t due e.ended u e.there u.node e.session e.call e.pending

  came_text : came.turn.text ≡ Some s
  came_text = let both : commands.At u.node e.session came.turn.text ≡ commands.At node session (Some s) = sym came.turn.asked ∙ (ap (command_at t.commands) e.its ∙ asked) in cc

  brings : (e.call.statement ≡ Some s) × ((facts_upto t came.moment).command ≡ e.call.command)
  brings = rows_brought e.call (facts_upto t came.moment).command s rows (subst (BringsText e.call (facts_upto t came.moment).command) came_text came.turn.brings)

  its_call : LastCall t u.node e.session e.ended
  its_call = record {
    moment = came.moment;
    turn = came.turn.turn;
    there = came.turn.there;
    here = came.turn.here;
    text = e.call.statement;
    came = came.turn.came;
    soon = omega (arith, came.before);
    last = λ j high low w there here q call. came.last j high (omega (arith, low)) w there here q call;
  }

  its_text : its_call.text ≡ Some s
  unfolding its_call
  its_text = brings.0

  its_moment : its_call.moment ≡ came.moment
  unfolding its_call
  its_moment = refl

  -- ---- the run that answered it

  -- What stands after the turn.
  record Answered : Type 0 where
    pub run : Run
    pub root : BranchId
    pub by_it : CallAnsweredBy t (tr_at t hs).moment u.node e.session root a run
    pub told : IsTracedFor t.places (f_at t hs) (tr_at t hs) u e.session root run

  abbrev Ends : Type 0
  Ends = Ending u.input (kept_there t whole hs u cut_there.1 cut_there.2).sessions e.outcome.ended e.session a

  ends : Ends
  ends = turn_ends t whole hs u cut_there.1 cut_there.2 e.outcome outcome e.session e.number a good e.answers

  its_end : Ends → Answered
  its_end (By_call text call only) =
      let here : LastCall t u.node e.session e.ended = record { moment = e.ended; turn = u; there = e.there; here = refl; text = text; came = call; soon = omega arith; last = λ j high low w there at q comes. absurd (omega (arith, high, low)) } in
      let same : text ≡ Some s = one_text t u.node e.session e.ended here its_call ∙ its_text in
      let is = at_moment t (EndsInItsTurn t) (calls_end_at_once t whole) hs (happenings.Turn u) cut_there.1 cut_there.2 e.uncut e.outcome outcome e.session s (call ∙ ap (inputs.Call e.session) same) rows e.session a [] (only s same rows) good in
      record { run = is.0; root = is.1; by_it = is.3; told = is.4 }
  its_end (By_reply from to call weight count said came_so only) =
      let may = may_of t whole hs (happenings.Turn u) cut_there.1 cut_there.2 in
      let took = came_sent (f_at t hs) may.0 u.node u.input u.took may.1.comes from to (kinds.Reply call weight count said) came_so in
      let is = at_moment t (EndsAsReplied t) (calls_end_as_replied t whole) hs (happenings.Turn u) cut_there.1 cut_there.2 e.outcome outcome took.0 took.1 from to call weight count said came_so e.session a [] only good in
      elim is [
        | inl ran ↦ record { run = ran.0; root = ran.1; by_it = ran.3; told = ran.4 e.uncut }
        | inr back ↦ absurd (not_back back.1)
      ]
    where
      -- its statement is no ROLLBACK TO
      not_back : IsRollbackTo t (tr_at t hs).moment u.node e.session → ⊥
      not_back back =
          let there : (tr_at t hs).moment ≡ e.ended = moment_at t hs ∙ cut_there.3 in
          let last : LastCall t u.node e.session e.ended = record {
            moment = back.moment;
            turn = back.turn;
            there = back.there;
            here = back.here;
            text = Some (stmts.RollbackTo back.name);
            came = back.came;
            soon = omega (arith, back.soon, there);
            last = λ j high low w at here q call. back.last j high (omega (arith, low, there)) w at here q call;
          } in
          let text : Some (stmts.RollbackTo back.name) ≡ Some s = one_text t u.node e.session e.ended last its_call ∙ its_text in
          let one : stmts.RollbackTo back.name ≡ s = cc in
          let none : is_of_rows s ≡ false = ap is_of_rows (sym one) in
          cc (none, rows)
  its_end (By_commit commits) =
      let last : (x : LastCall t u.node e.session e.ended) × (comment : Option (List ℕ)) × (x.text ≡ Some (stmts.Commit comment))
      = subst (λ m. (x : LastCall t u.node e.session m) × (comment : Option (List ℕ)) × (x.text ≡ Some (stmts.Commit comment))) cut_there.3 (commit_last t whole hs u cut_there.1 cut_there.2 e.session commits) in
      let same : Some (stmts.Commit last.1) ≡ Some s = sym last.2 ∙ (one_text t u.node e.session e.ended last.0 its_call ∙ its_text) in
      absurd (let one : stmts.Commit last.1 ≡ s = cc in let none : is_of_rows s ≡ false = ap is_of_rows (sym one) in cc (none, rows))

  answered : Answered
  answered = its_end ends

  abbrev ca : CallAnsweredBy t (tr_at t hs).moment u.node e.session answered.root a answered.run
  ca = answered.by_it

  -- its statement is the command's
  its_last : LastCall t u.node e.session e.ended
  its_last =
      let now : (tr_at t hs).moment ≡ e.ended = moment_at t hs ∙ cut_there.3 in record {
        moment = ca.moment;
        turn = ca.turn;
        there = ca.there;
        here = ca.here;
        text = Some ca.statement;
        came = ca.came;
        soon = omega (arith, ca.soon, now);
        last = λ j high low w there here q call. ca.last j high (omega (arith, low, now)) w there here q call;
      }

  last_text : its_last.text ≡ Some ca.statement
  unfolding its_last
  last_text = refl

  last_moment : its_last.moment ≡ ca.moment
  unfolding its_last
  last_moment = refl

  statement_is : ca.statement ≡ s
  statement_is = let both : Some ca.statement ≡ Some s = sym last_text ∙ (one_text t u.node e.session e.ended its_last its_call ∙ its_text) in cc

  not_before : command ≤ (facts_upto t answered.run.moment).command
  not_before =
      let same : ca.moment ≡ came.moment = sym last_moment ∙ (one_moment t u.node e.session e.ended its_last its_call ∙ its_moment) in
      let rises : (facts_upto t ca.moment).command ≤ (facts_upto t answered.run.moment).command = command_rises t whole ca.moment answered.run.moment (happenings.Turn ca.turn) (happenings.Turn ca.ran.turn) ca.there ca.ran.there ca.before in
      let running : (facts_upto t ca.moment).command ≡ command = ap (λ m. (facts_upto t m).command) same ∙ (brings.1 ∙ e.its) in
      omega (arith, rises, running)

  after : trail_upto t (e.ended + 1) ≡ trail_after t.places (f_at t hs) (tr_at t hs) (happenings.Turn u)
  after =
      let hs1 : List Happening = hs ++ happenings.Turn u ∷ [] in
      let long : length hs1 ≡ e.ended + 1 = (let it : length hs1 ≡ length hs + 1 = length-append hs (happenings.Turn u ∷ []) in omega (arith, it, cut_there.3)) in
      let all : hs1 ++ cut_there.1 ≡ t.trace = append_assoc hs (happenings.Turn u ∷ []) cut_there.1 ∙ cut_there.2 in
      let first : take (e.ended + 1) t.trace ≡ hs1 = ap (λ m. take m t.trace) (sym long) ∙ (ap (take (length hs1)) (sym all) ∙ taken_first hs1 cut_there.1) in
      ap (tr_at t) first ∙ trail_one_on t hs (happenings.Turn u)

  pub place_of : PlaceOf t command a
  place_of = record {
    node = u.node;
    session = e.session;
    statement = s;
    asked = e.asked ∙ ap (commands.At u.node e.session) text_is;
    ended = e.ended;
    call = e.call;
    pending = e.pending;
    its = e.its;
    over = e.over;
    root = answered.told.seen;
    transaction = ap (λ (tr : Trail). root_at tr u.node e.session) after ∙ answered.told.transaction;
    run = answered.run;
    origin = answered.told.origin;
    ran = ca.ran;
    leads = subst (λ b. LeadsTo t answered.run b s) (sym answered.told.is_me) (subst (LeadsTo t answered.run answered.root) statement_is ca.leads);
    not_before = not_before;
  }

pub every_answer_has_its_place : TurnsFindCallsCome → EveryAnswerHasItsPlace
every_answer_has_its_place found t due i command node session s a asked rows good line = place_of found t due command node session s a asked rows good (lines_come_from_turns t i command a line)
