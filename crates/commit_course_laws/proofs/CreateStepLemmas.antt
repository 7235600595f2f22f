-- What comes next in the command of a CREATE that commits first, while it goes well with HOLD off, and how far the command is
-- after each turn.
use Rattle.std.proofs.Common.{◌≡◌, ℕ, ◌==◌, ◌⊎◌, true, false, if◌then◌else◌, List, [], ◌∷◌, ◌++◌, filter, find, Option, Some, None, refl, sym, ap, subst, ◌∙◌}
use Rattle.std.specs.List.{AllByRecursion}
use Rattle.node_rules.specs.Data.{Answer, Input, Place, Stmt}
use Rattle.node_rules.specs.Data.inputs
use Rattle.node_rules.specs.declared.session.Finished.{Finished}
use Rattle.node_rules.specs.NodeState.{NodeState, TurnOutput}
use Rattle.node_rules.specs.Turn.{turn_of}
use Rattle.net_bag.specs.Net.{first_flying}
use Rattle.run_rules.specs.Calls.{is_call_at}
use Rattle.run_rules.specs.Cuts.{Cut_by, By_nothing, By_strike, By_point, turn_appends, cut_by}
use Rattle.run_rules.specs.Data.{Command, Happening, Took, Turn}
use Rattle.run_rules.specs.Data.happenings
use Rattle.run_rules.specs.Due.{Pends, follows_first, acts_once, due_of, turn_by, turn_comes, turn_at, happens, comes_next}
use Rattle.run_rules.specs.Facts.{node_at, outcome_at, place_at}
use Rattle.run_rules.specs.Lines.{spent}
use Rattle.run_rules.specs.Past.{delivered_more, is_call, without_following, ends_calls, report_turned, next}
use Rattle.run_rules.specs.Reported.{IsBetweenCommands}
use Rattle.run_rules.specs.RunReport.{Call, Past, RunReport}
use Rattle.run_claims.specs.CommitCourse.{GoesWell}
use Rattle.answer_origin_laws.proofs.WayLemmas.{turn_before, turn_way, turn_so}
use Rattle.answer_origin_laws.proofs.DueLemmas.{told_first, flow_due, follows_due}
use Rattle.commit_course_laws.proofs.FlowLemmas.{IsItsCall, HasOne, one_turn, one_after, Comes, delivery_comes, delivery_between}
use Rattle.commit_course_laws.proofs.AnsweredLemmas.{IsNoCall, HasNone, answered_end}
use Rattle.commit_course_laws.proofs.CreateFlowLemmas.{of_none, IsOf, Stage, Commits, Follows, Created, Refused, same_stage, said, commits_on}

-- ---- a turn

module _ (node session : ℕ) (s : Stmt) (running : ℕ) (k : Option NodeState) (t : RunReport) (u : Turn) (o : Option TurnOutput) where
  -- before the calls of the turn end
  abbrev v : RunReport
  v = without_following (delivered_more (turn_appends t u.node u.input k o) u.took) u.input

  -- After a whole turn the command is at a stage again, with the answers of its COMMIT that the turn gave.
  pub turn_stage : (came : Type 0) (told : List Answer) → u.cut ≡ false → t.next_call ≡ None → Stage node session s came told t → Stage node session s came (told ++ said node session s running u o) (report_turned running k t u o)
  turn_stage came told uncut alone (Commits c at follows all none unsaid) =
      let before = turn_before t u.node u.input k o u.took in
      let ends : Stage node session s came (said node session s running u o) (ends_calls running v u false o)
      = commits_on node session s running came v u o c (ap (find (is_call_at node session)) before.calls ∙ at) follows (subst (AllByRecursion (IsOf node session c.command)) (sym before.calls) all) (before.next_call none) in
      subst (λ xs. Stage node session s came (xs ++ said node session s running u o) (report_turned running k t u o)) (sym unsaid)
      (same_stage node session s came (said node session s running u o) (ends_calls running v u u.cut o) (report_turned running k t u o) refl refl (subst (λ q. Stage node session s came (said node session s running u o) (ends_calls running v u q o)) (sym uncut) ends))
  turn_stage came told uncut alone (Follows c is create all answered) = absurd (cc (alone, is))
  turn_stage came told uncut alone (Created it none still) =
      Created it (turn_so IsNoCall (λ c x so. so) running k t u o none) (one_turn node session running k t u o (record { calls = of_none (IsItsCall node session) t.calls none; alone = still })).alone
  turn_stage came told uncut alone (Refused a others is incomplete none still) =
      Refused a (others ++ said node session s running u o) (ap (λ xs. xs ++ said node session s running u o) is) incomplete (turn_so IsNoCall (λ c x so. so) running k t u o none)
      (one_turn node session running k t u o (record { calls = of_none (IsItsCall node session) t.calls none; alone = still })).alone

  -- the CREATE itself
  pub create_stage : (came : Type 0) (told : List Answer) → came → u.cut ≡ false → u.node ≡ node → is_call u.input ≡ true → AllByRecursion (IsItsCall node session) t.calls → (x : TurnOutput) → o ≡ Some x
      → (filter (λ (y : Finished). y.session == session) x.ended ≡ [] → ⊥) → Stage node session s came told (report_turned running k t u o)
  create_stage came told it uncut here call all x is some =
      let before = turn_before t u.node u.input k o u.took in
      let one : HasOne node session v = record {
        calls = subst (AllByRecursion (IsItsCall node session)) (sym before.calls) all;
        alone = ap (λ q. (if q then record (delivered_more (turn_appends t u.node u.input k o) u.took) { next_call = None } else delivered_more (turn_appends t u.node u.input k o) u.took).next_call) call;
      } in
      let none : HasNone (ends_calls running v u false (Some x)) = answered_end node session running v u x one here some in
      let alone : (ends_calls running v u false (Some x)).next_call ≡ None = (one_after node session running v u false (Some x) one).alone in
      let both : Stage node session s came told (ends_calls running v u false (Some x)) = Created it none alone in
      same_stage node session s came told (ends_calls running v u u.cut o) (report_turned running k t u o) refl refl
      (subst (λ q. Stage node session s came told (ends_calls running v u q o)) (sym uncut) (subst (λ y. Stage node session s came told (ends_calls running v u false y)) (sym is) both))

-- ---- what comes next

-- With HOLD off the command goes on.
pub record Runs (p : Past) : Type 0 where
  pub acted : p.run_report.acted ≡ true
  pub off : p.run_report.hold ≡ false
  pub stands : p.run_report.start_to_stop ≡ None
  pub upright : p.facts.node_to_stop ≡ None

module _ (node session : ℕ) where
  -- A delivery or a give-up comes; or the CREATE itself does.
  pub data ComesNext (p : Past) : Happening → Type 0 where
    Goes_on : (h : Happening) → p.run_report.next_call ≡ None → Comes node session p h → ComesNext p h
    Second : (u : Turn) (c : Call) → p.run_report.next_call ≡ Some c → u.node ≡ c.node → u.input ≡ inputs.Call c.session c.statement → (k : NodeState) → node_at p.facts c.node ≡ Some k → u.cut ≡ false → ComesNext p (happenings.Turn u)

  module _ (places : List Place) (asked : List Command) where
    pub runs_turn : (p : Past) (u : Turn) → p.run_report.hold ≡ false → p.run_report.start_to_stop ≡ None → u.cut ≡ false → Runs (next places asked p (happenings.Turn u))
    unfolding next
    runs_turn p u off stands whole =
        let way = turn_way p.facts.command (node_at p.facts u.node) p.run_report u (outcome_at places p.facts u) in
        record { acted = way.acted; off = way.hold ∙ off; stands = way.start ∙ stands; upright = ap (λ q. if q then Some u.node else None) whole }

    -- a turn that is due is of its node
    turn_node : (P : Happening → Type 0) (p : Past) (n : ℕ) (input : Input) (took : Option Took) (o : Option NodeState) (h : Happening) → ((u : Turn) → u.node ≡ n → u.input ≡ input → (k : NodeState) → o ≡ Some k → P (happenings.Turn u)) → turn_at places p.run_report n input took o ≡ Some h → P h
    turn_node P p n input took None h each is = absurd cc
    turn_node P p n input took (Some k) h each is =
        let o : TurnOutput = turn_of (place_at places n) k input in
        let it : Some (turn_comes p.run_report n input took k o) ≡ Some h = is in
        let same : turn_comes p.run_report n input took k o ≡ h = cc in
        subst P same (by o (cut_by p.run_report n k input o))
      where
        by : (o : TurnOutput) (c : Cut_by) → P (turn_by n input took o c)
        by o By_nothing = each _ refl refl k refl
        by o (By_strike stands) = each _ refl refl k refl
        by o (By_point root numbers stands) = each _ refl refl k refl

    module _ (p : Past) (runs : Runs p) where
      open p use {facts as f, run_report as t}

      second_due : f.losses_to_report ≡ [] → (c : Call) → t.next_call ≡ Some c → due_of asked p ≡ Pends c
      second_due told c at = follows_due places asked p told runs.upright runs.stands ∙ ap (follows_first (acts_once asked f t)) at

      pub what_comes : (h : Happening) → GoesWell h → comes_next places asked p ≡ Some h → ComesNext p h
      what_comes h well is = by f.losses_to_report refl
        where
          next_by : (o : Option Call) → t.next_call ≡ o → f.losses_to_report ≡ [] → ComesNext p h
          next_by None alone told =
              Goes_on h alone (delivery_comes node session places asked p (first_flying f.net) refl h well (ap (happens places p) (sym (flow_due places asked p told runs.upright runs.stands alone runs.acted runs.off)) ∙ is))
          next_by (Some c) at told =
              turn_node (λ g. GoesWell g → ComesNext p g) p c.node (inputs.Call c.session c.statement) None (node_at f c.node) h (λ u here input k up whole. Second u c at here input k up whole)
              (ap (happens places p) (sym (second_due told c at)) ∙ is) well

          by : (ks : List ℕ) → f.losses_to_report ≡ ks → ComesNext p h
          by [] told = next_by t.next_call refl told
          by (k ∷ ks) told =
              let it : Some (happenings.Lost k) ≡ Some h = ap (happens places p) (sym (told_first places asked p k ks told)) ∙ is in
              let same : happenings.Lost k ≡ h = cc in
              absurd (subst GoesWell (sym same) well)

      -- a command that is done
      pub what_is_over : IsBetweenCommands (due_of asked p) → (t.next_call ≡ None) × ((first_flying f.net ≡ None) ⊎ (spent t.deliveries ≡ true)) × (t.calls ≡ [])
      what_is_over is = by f.losses_to_report refl
        where
          next_by : (o : Option Call) → t.next_call ≡ o → f.losses_to_report ≡ [] → (t.next_call ≡ None) × ((first_flying f.net ≡ None) ⊎ (spent t.deliveries ≡ true)) × (t.calls ≡ [])
          next_by None alone told = (let it = delivery_between node session places asked p (first_flying f.net) refl (subst IsBetweenCommands (flow_due places asked p told runs.upright runs.stands alone runs.acted runs.off) is) in (alone, it.0, it.1))
          next_by (Some c) at told = absurd (subst IsBetweenCommands (second_due told c at) is)

          by : (ks : List ℕ) → f.losses_to_report ≡ ks → (t.next_call ≡ None) × ((first_flying f.net ≡ None) ⊎ (spent t.deliveries ≡ true)) × (t.calls ≡ [])
          by [] told = next_by t.next_call refl told
          by (k ∷ ks) told = absurd (subst IsBetweenCommands (told_first places asked p k ks told) is)
