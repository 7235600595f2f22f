-- The pages so far, through the calls that a turn ends, a call that waits, a stop, and a start.
use Rattle.std.proofs.Common.{◌≡◌, ℕ, ◌==◌, ◌&&◌, Bool, true, false, List, [], ◌∷◌, is_none, Option, Some, None, inr, refl, sym, ap, subst, ◌∙◌}
use Rattle.std.specs.List.{AllByRecursion}
use Rattle.std.proofs.lemmas.Bool.{cond_both, eqb-true}
use Rattle.node_rules.specs.Data.{Input, Place, Stmt}
use Rattle.node_rules.specs.Data.inputs
use Rattle.node_rules.specs.declared.session.Finished.{Finished}
use Rattle.run_rules.specs.Calls.{is_call_at, call_at, without_call, change_call, is_complete, second_of, call_follows, call_ends, ends_or_follows, finished_call, finished, stopped_calls, waits, waits_if_pending, after_input}
use Rattle.run_rules.specs.Data.{Command, Said}
use Rattle.run_rules.specs.Facts.{command_at}
use Rattle.run_rules.specs.Lines.{says_node, is_down, call_line, with_own, with_stop}
use Rattle.run_rules.specs.RunReport.{Call, RunReport}
use Rattle.run_rules.proofs.ListLemmas.{all_append, all_weaker}
use Rattle.answer_origin_laws.proofs.CallAtLemmas.{HasShape, AreShaped, named_so, found_at, one_command, changed_shapes}
use Rattle.answer_once_laws.specs.OnceLaws.{IsAnswer, By_node, Node_is_down, IsNotice, Node_stopped, At_once, waiting, said_of}
use Rattle.answer_once_laws.proofs.CallListLemmas.{pends, AreApart, all_both, found_pends, pending_one, apart_found, IsSame, AreSame, apart_map, pends_map, past_map}
use Rattle.answer_once_laws.proofs.PageLemmas.{IsStart, OwnIs, EarlierIs, PagesSo, ends_so, ends_left}

module _ (places : List Place) (asked : List Command) (r : ℕ) where
  abbrev So : RunReport → Type 0
  So = PagesSo places asked r

  -- a call that is found is found by its own session
  pub its_own : (t : RunReport) (n s : ℕ) (c : Call) → AreShaped asked t.calls → call_at t n s ≡ Some c → call_at t c.node c.session ≡ Some c
  its_own t n s c shapes at =
      let its = found_at asked t n s c shapes at in subst (λ i. call_at t i c.session ≡ Some c) (sym its.1) (subst (λ i. call_at t n i ≡ Some c) (sym its.2) at)

  -- ---- the second call of a CREATE

  module _ (t : RunReport) (is : So t) (c : Call) (its : HasShape asked c) (st : Stmt) (follows : c.follows ≡ Some st) where
    abbrev new : Call
    new = second_of c st

    all_same : (cs : List Call) → AreShaped asked cs → AreSame (change_call new) cs
    all_same [] shapes = tt
    all_same (d ∷ ds) shapes = (
      cond_both (d.command == c.command) new d (IsSame d)
          (λ own. (let same = one_command asked t is.shapes c its st follows d shapes.0 own in record { node = sym same.0; session = sym same.1; command = sym (eqb-true d.command c.command own) }))
          (λ other. record { node = refl; session = refl; command = refl }),
      all_same ds shapes.1,
    )

    pub follows_same : AreSame (change_call new) t.calls
    follows_same = all_same t.calls is.shapes

    pub follows_pages : So (call_follows t new)
    follows_pages = record {
      shapes = changed_shapes asked t is.shapes c its st follows t.calls is.shapes;
      apart = apart_map (change_call new) t.calls follows_same is.apart;
      past = past_map (change_call new) r t.calls follows_same is.past;
      lines_below = is.lines_below;
      others_below = is.others_below;
      sorted = is.sorted;
      stops = is.stops;
      each = λ d one less. subst (λ q. EarlierIs places asked r (command_at asked d) q (said_of d t.lines) (said_of d t.page.others)) (sym (pends_map (change_call new) d t.calls follows_same)) (is.each d one less);
      own = λ one. subst (λ q. OwnIs places asked r q t.page.own) (sym (pends_map (change_call new) r t.calls follows_same)) (is.own one);
    }

  -- ---- the calls that a turn ends

  pub call_pages : (t : RunReport) (f : Finished) (c : Call) → So t → call_at t c.node c.session ≡ Some c → (o : Option Stmt) → c.follows ≡ o → So (ends_or_follows r t c f o)
  call_pages t f c is at None none = ends_so places asked r t is c at (says_node f) (By_node f.answer)
  call_pages t f c is at (Some st) follows =
      cond_both (is_complete f.answer) (call_follows t (second_of c st)) (call_ends r t c f) So
      (λ complete. follows_pages t is c (found_at asked t c.node c.session c is.shapes at).0 st follows) (λ other. ends_so places asked r t is c at (says_node f) (By_node f.answer))

  pub one_pages : (t : RunReport) (f : Finished) (n : ℕ) → So t → (o : Option Call) → call_at t n f.session ≡ o → So (finished_call r t f o)
  one_pages t f n is None none = is
  one_pages t f n is (Some c) at = call_pages t f c is (its_own t n f.session c is.shapes at) c.follows refl

  pub finished_pages : (n : ℕ) (t : RunReport) (fs : List Finished) → So t → So (finished r t n fs)
  finished_pages n t [] is = is
  finished_pages n t (f ∷ fs) is = finished_pages n (finished_call r t f (call_at t n f.session)) fs (one_pages t f n is (call_at t n f.session) refl)

  -- ---- a call that waits

  with_waiting : (t : RunReport) → So t → pends r t.calls ≡ true → So (with_own t (waiting ∷ []))
  with_waiting t is pending = record {
    shapes = is.shapes;
    apart = is.apart;
    past = is.past;
    lines_below = is.lines_below;
    others_below = is.others_below;
    sorted = is.sorted;
    stops = is.stops;
    each = is.each;
    own = λ one. subst (λ q. OwnIs places asked r q (waiting ∷ [])) (sym pending) (inr refl);
  }

  waits_pages : (t : RunReport) (n s : ℕ) → So t → (o : Option Call) → call_at t n s ≡ o → So (waits_if_pending r t o)
  waits_pages t n s is None none = is
  waits_pages t n s is (Some c) at =
      cond_both (c.command == r) (waits t) t So
      (λ own. (let pending : pends r t.calls ≡ true = subst (λ m. pends m t.calls ≡ true) (eqb-true c.command r own) (found_pends (is_call_at n s) c t.calls at) in
      cond_both (t.hold && is_none t.next_call) (with_own t (waiting ∷ [])) t So (λ on. with_waiting t is pending) (λ off. is)))
      (λ other. is)

  pub input_pages : (t : RunReport) (n : ℕ) (input : Input) → So t → So (after_input r t n input)
  input_pages t n (inputs.Call session s) is = waits_pages t n session is (call_at t n session) refl
  input_pages t n (inputs.GiveUp session) is = is
  input_pages t n (inputs.Message m) is = is
  input_pages t n inputs.Reco is = is
  input_pages t n inputs.Checkpoint is = is

  -- ---- a node stops

  abbrev Found : RunReport → List Call → Type 0
  Found t cs = AllByRecursion (λ (c : Call). call_at t c.node c.session ≡ Some c) cs

  stopped_so : (n : ℕ) (t : RunReport) (cs : List Call) → AreApart cs → Found t cs → So t → So (stopped_calls places r t n cs)
  stopped_so n t [] apart found is = is
  stopped_so n t (c ∷ cs) apart found is =
      let u : RunReport = call_line r (without_call t c.node c.session) c.command (is_down places n) in
      cond_both (c.node == n) (stopped_calls places r u n cs) (stopped_calls places r t n cs) So
      (λ here. stopped_so n u cs apart.1
      (all_weaker (λ (d : Call). (is_call_at c.node c.session d ≡ false) × (call_at t d.node d.session ≡ Some d)) (λ (d : Call). call_at u d.node d.session ≡ Some d)
      (λ d so. ends_left places asked r t is c found.0 (is_down places n) (Node_is_down n) d so.1 so.0) cs
      (all_both (λ (d : Call). is_call_at c.node c.session d ≡ false) (λ (d : Call). call_at t d.node d.session ≡ Some d) cs apart.0 found.1))
      (ends_so places asked r t is c found.0 (is_down places n) (Node_is_down n)))
      (λ other. stopped_so n t cs apart.1 found.1 is)

  pub stopped_pages : (n : ℕ) (t : RunReport) (cs : List Call) → t.calls ≡ cs → So t → So (stopped_calls places r t n cs)
  stopped_pages n t cs same is = stopped_so n t cs (subst AreApart same is.apart) (subst (Found t) same (apart_found t.calls is.apart)) is

  pub stop_pages : (t : RunReport) (n : ℕ) → So t → So (with_stop places t n)
  stop_pages t n is = record {
    shapes = is.shapes;
    apart = is.apart;
    past = is.past;
    lines_below = is.lines_below;
    others_below = is.others_below;
    sorted = is.sorted;
    stops = all_append (IsNotice places) t.page.stops _ is.stops (Node_stopped n, tt);
    each = is.each;
    own = is.own;
  }

  -- ---- a START

  -- it has no call
  pub start_calls_nothing : (t : RunReport) → So t → IsStart (command_at asked r) → pends r t.calls ≡ false
  start_calls_nothing t is starts = by (pends r t.calls) refl
    where
      no_call : (c : Call) → HasShape asked c → c.command ≡ r → ⊥
      no_call c its own = let named = named_so asked c its in subst IsStart (ap (command_at asked) (sym own) ∙ named.1) starts

      by : (q : Bool) → pends r t.calls ≡ q → q ≡ false
      by false none = refl
      by true some = let one = pending_one (HasShape asked) r t.calls is.shapes some in absurd (no_call one.0 one.1 one.2)

  pub start_pages : (t : RunReport) (s : Said) → So t → IsStart (command_at asked r) → IsAnswer places (command_at asked r) s → So (with_own t (s ∷ []))
  start_pages t s is starts answer = record {
    shapes = is.shapes;
    apart = is.apart;
    past = is.past;
    lines_below = is.lines_below;
    others_below = is.others_below;
    sorted = is.sorted;
    stops = is.stops;
    each = is.each;
    own = λ one. subst (λ q. OwnIs places asked r q (s ∷ [])) (sym (start_calls_nothing t is starts)) (inr (At_once s [] answer tt));
  }
