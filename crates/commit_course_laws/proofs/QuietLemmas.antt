-- A quiet COMMIT is undisturbed, and complete when its command is done: at the first moment at which nothing is in flight it has
-- been answered, so no call is given up, and nothing comes but the next command.
use Rattle.std.proofs.Common.{◌≡◌, ℕ, ◌+◌, ◌<◌, true, false, List, [], ◌∷◌, ◌++◌, Some, None, inl, inr, refl, sym, ap, subst, ◌∙◌, arith}
use Rattle.std.specs.List.{AllByRecursion}
use Rattle.node_rules.specs.Data.{Place}
use Rattle.node_rules.specs.Data.stmts
use Rattle.net_bag.specs.Net.{first_flying}
use Rattle.run_rules.specs.Commands.{commits_first}
use Rattle.run_rules.specs.Data.{Command, Happening}
use Rattle.run_rules.specs.Data.commands
use Rattle.run_rules.specs.Data.happenings
use Rattle.run_rules.specs.Due.{due_of, IsTheRun}
use Rattle.run_rules.specs.Facts.{Facts}
use Rattle.run_rules.specs.Reported.{IsBetweenCommands}
use Rattle.run_rules.specs.Scripts.{IsTheRunOf}
use Rattle.run_rules.specs.Lawful.{History, IsLawfulRun}
use Rattle.run_rules.specs.Lines.{spent}
use Rattle.run_rules.specs.Past.{next, past}
use Rattle.run_rules.specs.RunReport.{Past, start}
use Rattle.run_rules.proofs.FactLemmas.{facts_are}
use Rattle.run_rules.proofs.ListLemmas.{all_weaker}
use Rattle.run_ready_laws.proofs.RunLawfulLemmas.{the_run_is_lawful}
use Rattle.tree_laws.proofs.PrefixLemmas.{so_far}
use Rattle.tree_laws.proofs.TimeLemmas.{part_lawful}
use Rattle.run_claims.specs.Undisturbed.{Commit, Undisturbed, CommitIsComplete, UndisturbedCommitsAreComplete, IsFirstDelivery, IsInCourse, is_create, facts_by}
use Rattle.commit_length_laws.specs.FewLaws.{DeliveriesStayBelow, deliveries_in}
use Rattle.run_claims.specs.CommitCourse.{GoesWell, CommitIsUnderWay, Of_commit, Of_create, IsUnderWay, QuietCommit, IsDone, QuietCommitsAreComplete}
use Rattle.commit_course_laws.proofs.FlowLemmas.{IsWholeTurn, IsNoCreate, Flows, Comes, Delivery, Give_up, comes_so, between_so, Further, further, Course}
use Rattle.commit_course_laws.proofs.CourseLemmas.{CommandGoes, plain, first, first_none, first_flows, first_run, past_is, end_is, facts_end, fresh, its_course, answered_so}
use Rattle.commit_course_laws.proofs.SoonerLemmas.{StaysCalm, complete_sooner, few_sooner, counted, not_spent, same_answers}
use Rattle.commit_course_laws.proofs.ToldLemmas.{answered_commits_are_reported}
use Rattle.commit_course_laws.proofs.CreateCourseLemmas.{create_ends}
use Rattle.commit_course_laws.proofs.EarlierLemmas.{all_front}

-- ---- deliveries alone

module _ (node session : ℕ) (places : List Place) (asked : List Command) where
  -- no call is pending at a moment at which nothing is in flight
  abbrev pub EndsInTime : Past → List Happening → Type 0
  EndsInTime p hs = (done rest : List Happening) → done ++ rest ≡ hs → AllByRecursion IsFirstDelivery done → first_flying (past places asked p done).facts.net ≡ None → (past places asked p done).run_report.calls ≡ []

  -- the messages are delivered until none is in flight
  abbrev pub DeliversAll : Past → List Happening → Type 0
  DeliversAll p hs = AllByRecursion IsFirstDelivery hs × (first_flying (past places asked p hs).facts.net ≡ None)

  -- fewer than 4,096 deliveries have been made
  abbrev pub StayFew : Past → List Happening → Type 0
  StayFew p hs = (done rest : List Happening) → done ++ rest ≡ hs → AllByRecursion IsFirstDelivery done → spent (past places asked p done).run_report.deliveries ≡ false

  -- what comes is a delivery, where a call that is pending has messages in flight
  one_delivery : (p : Past) (h : Happening) → Comes node session p h → (first_flying p.facts.net ≡ None → p.run_report.calls ≡ []) → spent p.run_report.deliveries ≡ false → IsFirstDelivery h
  one_delivery p _ (Delivery k u at few other whole took) ends yet = (whole, k, took)
  one_delivery p _ (Give_up u c cs calls (inl still) other whole) ends yet = (let none : p.run_report.calls ≡ [] = ends still in absurd cc)
  one_delivery p _ (Give_up u c cs calls (inr all) other whole) ends yet = absurd cc

  pub delivers_all : (p : Past) (hs later : List Happening) → Flows node session p → IsTheRun places asked p (hs ++ later) → AllByRecursion GoesWell hs → StayFew p hs → IsBetweenCommands (due_of asked (past places asked p hs)) → EndsInTime p hs → DeliversAll p hs
  unfolding past IsTheRun
  delivers_all p [] later flow run well few done ends = (
    tt,
    elim (between_so node session places asked p flow done).0 [
      | inl still ↦ still
      | inr all ↦ (let yet : spent p.run_report.deliveries ≡ false = few [] [] refl tt in absurd cc)
    ],
  )
  delivers_all p (h ∷ hs) later flow run well few done ends =
      let comes : Comes node session p h = (comes_so node session places asked p flow h well.0 run.0).1 in
      let on : Further node session places asked p h = further node session places asked p h flow comes in
      let here : IsFirstDelivery h = one_delivery p h comes (λ still. ends [] (h ∷ hs) refl tt still) (few [] (h ∷ hs) refl tt) in
      let rest = delivers_all (next places asked p h) hs later on.flow run.1 well.1 (λ first_ones others is all. few (h ∷ first_ones) others (ap (λ xs. h ∷ xs) is) (here, all)) done
      (λ first_ones others is all still. ends (h ∷ first_ones) others (ap (λ xs. h ∷ xs) is) (here, all) still) in
      ((here, rest.0), rest.1)

-- ---- a quiet COMMIT

module _ (complete : UndisturbedCommitsAreComplete) (law : DeliveriesStayBelow) (t : History) (run : IsTheRunOf t) (front later : List Happening) (c : Commit t.places t.commands front) (quiet : QuietCommit t front later c) where
  lawful : IsLawfulRun t
  lawful = the_run_is_lawful t run

  calm : StaysCalm t front c
  calm = record { goes_on = quiet.goes_on; still = quiet.still; lost = quiet.lost; stopped = quiet.stopped; calm = quiet.calm }

  -- ---- of a command COMMIT

  module _ (goes : CommitIsUnderWay t front later c) where
    abbrev g : CommandGoes t front later c
    g = plain t run front later c goes

    abbrev p : Past
    p = first t run front later c g

    way : Course c.call.node c.session t.places t.commands p c.during
    way = its_course t run front later c goes

    -- ---- an earlier moment

    module _ (done rest : List Happening) (is : done ++ rest ≡ c.during) where
      in_course : AllByRecursion IsFirstDelivery done → AllByRecursion IsInCourse done
      in_course delivers = all_weaker IsFirstDelivery IsInCourse (λ h delivery. inl delivery) done delivers

      facts_sooner : (past t.places t.commands p done).facts ≡ facts_by t.places t.commands (c.before ++ happenings.Turn c.call ∷ done)
      facts_sooner = ap (λ (q : Past). q.facts) (sym (past_is t run front later c g done)) ∙ facts_are t.places t.commands (start t.places) (c.before ++ happenings.Turn c.call ∷ done)

      -- it has been answered where nothing is in flight
      ends : AllByRecursion IsFirstDelivery done → first_flying (past t.places t.commands p done).facts.net ≡ None → (past t.places t.commands p done).run_report.calls ≡ []
      ends delivers still =
          answered_so t run front later c goes done (all_front IsWholeTurn done rest (subst (AllByRecursion IsWholeTurn) (sym is) way.whole))
          (sym (same_answers t.places t.commands (facts_by t.places t.commands c.before) c.call.node c.session (happenings.Turn c.call ∷ done) (ap is_create c.asks, all_front IsNoCreate done rest (subst (AllByRecursion IsNoCreate) (sym is) way.own)))
          ∙ (complete_sooner complete t lawful front later goes.within c goes.whole way.whole calm done rest is (in_course delivers) (ap (λ (f : Facts). first_flying f.net) (sym facts_sooner) ∙ still)).answered)

      -- and few have been delivered
      few_so : AllByRecursion IsFirstDelivery done → spent (past t.places t.commands p done).run_report.deliveries ≡ false
      few_so delivers =
          let below : deliveries_in done < 4096 = few_sooner complete t lawful front later goes.within c goes.whole way.whole calm done rest is law (in_course delivers) in
          let count : (past t.places t.commands p done).run_report.deliveries ≡ p.run_report.deliveries + deliveries_in done = counted t.places t.commands p done (all_front IsWholeTurn done rest (subst (AllByRecursion IsWholeTurn) (sym is) way.whole)) in
          let none : p.run_report.deliveries ≡ 0 = first_none t run front later c g (fresh t run front later c goes) in
          let is_so : (past t.places t.commands p done).run_report.deliveries ≡ deliveries_in done = omega (arith, count, none) in
          not_spent (past t.places t.commands p done).run_report.deliveries (deliveries_in done) is_so below

    -- ---- the end of the command

    all_delivered : DeliversAll c.call.node c.session t.places t.commands p c.during
    all_delivered =
        delivers_all c.call.node c.session t.places t.commands p c.during later (first_flows t run front later c goes) (first_run t run front later c g) goes.well few_so
        (subst (λ q. IsBetweenCommands (due_of t.commands q)) (end_is t run front later c g) quiet.done) ends

    undisturbed : Undisturbed t.places t.commands front c
    undisturbed = record {
      goes_on = quiet.goes_on;
      still = quiet.still;
      whole = goes.whole;
      course = all_weaker IsFirstDelivery IsInCourse (λ h delivery. inl delivery) c.during all_delivered.0;
      over = ap (λ (f : Facts). first_flying f.net) (facts_end t run front later c g) ∙ all_delivered.1;
      lost = quiet.lost;
      stopped = quiet.stopped;
      calm = quiet.calm;
    }

    commit_end : IsDone t front c
    commit_end =
        let end : CommitIsComplete t.places t.commands front c = complete (so_far t front) (part_lawful t lawful front (record { rest = later; is = goes.within })) c undisturbed in
        record {
          undisturbed = undisturbed;
          complete = end;
          told = λ own. answered_commits_are_reported t run front later c goes
              (sym (same_answers t.places t.commands (facts_by t.places t.commands c.before) c.call.node c.session (happenings.Turn c.call ∷ c.during) (ap is_create c.asks, way.own)) ∙ end.answered);
          created = λ s creates own. (let both : commands.At c.call.node c.session (Some (stmts.Commit c.comment)) ≡ commands.At c.call.node c.session (Some s) = sym goes.own ∙ own in
              let same : stmts.Commit c.comment ≡ s = cc in
              let commits : commits_first (stmts.Commit c.comment) ≡ true = ap commits_first same ∙ creates in
              absurd cc);
        }

  its_end : IsUnderWay t front later c → IsDone t front c
  its_end (Of_commit goes) = commit_end goes
  its_end (Of_create s goes) = create_ends complete law t run front later c s goes lawful calm quiet.done

pub quiet_commits_follow : UndisturbedCommitsAreComplete → DeliveriesStayBelow → QuietCommitsAreComplete
quiet_commits_follow complete law t run front later c quiet = its_end complete law t run front later c quiet quiet.goes
