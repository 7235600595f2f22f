-- There are as many lists of orders as nodes, whatever happens.
use Rattle.std.proofs.Common.{◌≡◌, ℕ, Bool, true, false, if◌then◌else◌, List, [], ◌∷◌, length, is_some, Option, Some, None, refl, ap, ◌∙◌}
use Rattle.std.proofs.lemmas.List.{length-map}
use Rattle.tran_ids.proofs.NumberedLemmas.{set_length}
use Rattle.node_rules.specs.Data.{Input, Place}
use Rattle.node_rules.specs.NodeState.{NodeState, TurnOutput}
use Rattle.node_rules.specs.Words.{one}
use Rattle.run_rules.specs.Commands.{orders_after}
use Rattle.run_rules.specs.Cuts.{Cut_by, By_nothing, By_point, By_strike, appends, appends_if, cut_appends, cut_by, turn_appends}
use Rattle.run_rules.specs.Data.{Command, Happening, Turn}
use Rattle.run_rules.specs.Data.commands
use Rattle.run_rules.specs.Data.happenings
use Rattle.run_rules.specs.Disks.{DiskOrders, after_append}
use Rattle.run_rules.specs.Facts.{Facts, command_at, node_at, outcome_at}
use Rattle.run_rules.specs.Lines.{is_down, with_own}
use Rattle.run_rules.specs.Past.{failed_start, next, past, start_refused, report_after, report_turned}
use Rattle.run_rules.specs.RunReport.{Past, RunReport, orders_at, start}
use Rattle.run_trace.specs.Recorded.{RunSoFar, past_of}
use Rattle.world_parts.proofs.ToStopLemmas.{arms_keep, rest_keeps, stop_orders}

module _ (places : List Place) (asked : List Command) where
  ordered_count : (t : RunReport) (command : Command) → length (orders_after t command) ≡ length t.orders
  ordered_count t (commands.Crash n write how) = set_length t.orders n _
  ordered_count t (commands.Fault n call) = set_length t.orders n _
  ordered_count t _ = refl

  appended_count : (t : RunReport) (n before : ℕ) → length (appends t n before).orders ≡ length t.orders
  appended_count t n before = set_length t.orders n (after_append before (orders_at t n))

  if_count : (t : RunReport) (n : ℕ) (writes : Bool) → length (appends_if t n writes).orders ≡ length t.orders
  if_count t n true = appended_count t n 0
  if_count t n false = refl

  cut_count : (t : RunReport) (n : ℕ) (writes : Bool) (by : Cut_by) → length (cut_appends t n writes by).orders ≡ length t.orders
  cut_count t n writes By_nothing = if_count t n writes
  cut_count t n writes (By_strike stands) = if_count t n writes
  cut_count t n writes (By_point root numbers stands) = if_count t n stands

  turn_count : (t : RunReport) (n : ℕ) (input : Input) (k : Option NodeState) (out : Option TurnOutput) → length (turn_appends t n input k out).orders ≡ length t.orders
  turn_count t n input (Some k) (Some out) =
      let u = cut_appends t n (is_some out.wrote) (cut_by t n k input out) in
      ap (λ (os : List DiskOrders). length os) (arms_keep u.start_to_stop u.orders u.lines u n k input (refl, refl, refl)).1 ∙ cut_count t n (is_some out.wrote) (cut_by t n k input out)
  turn_count t n input (Some k) None = refl
  turn_count t n input None out = refl

  turned_count : (running : ℕ) (k : Option NodeState) (t : RunReport) (u : Turn) (out : Option TurnOutput) → length (report_turned running k t u out).orders ≡ length t.orders
  turned_count running k t u out =
      let left = turn_appends t u.node u.input k out in
      ap (λ (os : List DiskOrders). length os) (rest_keeps left.start_to_stop left.orders left.lines running left u out (refl, refl, refl)).1 ∙ turn_count t u.node u.input k out

  refused_count : (f : Facts) (t : RunReport) (command : Command) (n : ℕ) → length (start_refused places f t command n).orders ≡ length t.orders
  refused_count f t command n = by (failed_start f command n)
    where
      by : (b : Bool) → length (if b then with_own (appends t n 3) (one (is_down places n)) else t).orders ≡ length t.orders
      by true = appended_count t n 3
      by false = refl

  told_count : (f : Facts) (t : RunReport) (h : Happening) → length (report_after places asked f t h).orders ≡ length t.orders
  told_count f t (happenings.Begun c) = ordered_count t (command_at asked c)
  told_count f t (happenings.Turn u) = turned_count f.command (node_at f u.node) t u (outcome_at places f u)
  told_count f t (happenings.Stopped n) =
      ap (λ (os : List DiskOrders). length os) (stop_orders places asked f t n) ∙ refused_count f t (command_at asked f.command) n
  told_count f t (happenings.Started n boot) = appended_count t n 3
  told_count f t _ = refl

  next_count : (p : Past) (h : Happening) → length (next places asked p h).run_report.orders ≡ length p.run_report.orders
  unfolding next
  next_count p (happenings.Turn u) = turned_count p.facts.command (node_at p.facts u.node) p.run_report u (outcome_at places p.facts u)
  next_count p (happenings.Begun c) = told_count p.facts p.run_report (happenings.Begun c)
  next_count p (happenings.Stopped n) = told_count p.facts p.run_report (happenings.Stopped n)
  next_count p (happenings.Started n boot) = told_count p.facts p.run_report (happenings.Started n boot)
  next_count p (happenings.Cut a b) = refl
  next_count p (happenings.Join a b) = refl
  next_count p (happenings.Lost k) = refl

  past_count : (p : Past) (hs : List Happening) → length (past places asked p hs).run_report.orders ≡ length p.run_report.orders
  unfolding past
  past_count p [] = refl
  past_count p (h ∷ hs) = past_count (next places asked p h) hs ∙ next_count p h

-- the orders of a run so far are as many as its places
pub orders_counted : (r : RunSoFar) → length (past_of r).run_report.orders ≡ length r.places
orders_counted r = past_count r.places r.asked (start r.places) r.happenings ∙ length-map r.places _
