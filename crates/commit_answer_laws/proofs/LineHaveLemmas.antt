-- What is so of each line as a happening adds some, and of the lines before, is so of all lines.
use Rattle.std.proofs.Common.{◌≡◌, ℕ, ◌==◌, ◌&&◌, true, List, [], ◌∷◌, ◌++◌, map, find, is_none, Option, Some, None, refl, sym, subst}
use Rattle.std.specs.Prelude.{nat_lt}
use Rattle.std.specs.List.{AllByRecursion}
use Rattle.std.proofs.lemmas.Bool.{cond_both, eqb-true}
use Rattle.node_rules.specs.Data.{Answer, Input, Place, Stmt}
use Rattle.node_rules.specs.Data.inputs
use Rattle.node_rules.specs.Ids.{decimal}
use Rattle.node_rules.specs.Points.{Point}
use Rattle.node_rules.specs.Refusals.{ora}
use Rattle.node_rules.specs.Words.{one}
use Rattle.node_rules.specs.declared.session.Finished.{Finished}
use Rattle.run_rules.specs.Calls.{after_input, call_at, call_ends, call_follows, ends_or_follows, finished, finished_call, is_complete, second_of, stopped_calls, waits, waits_if_pending, without_call}
use Rattle.run_rules.specs.Data.{AnswerLine, Said}
use Rattle.run_rules.specs.Data.notices
use Rattle.run_rules.specs.Data.said
use Rattle.run_rules.specs.Facts.{Facts}
use Rattle.run_rules.specs.Lines.{all_lines, call_line, call_line_of, is_down, is_reached, line, over_line, page_lines, put_line, reached_line, refuses_with, says_node}
use Rattle.run_rules.specs.RunReport.{Call, RunReport}
use Rattle.run_rules.proofs.ListLemmas.{all_append}

module _ (P : ℕ → Said → Type 0) where
  -- of a line
  abbrev pub LineHas : AnswerLine → Type 0
  LineHas l = P l.command l.said

  -- of all lines so far
  pub record LinesHave (running : ℕ) (t : RunReport) : Type 0 where
    pub lines : AllByRecursion LineHas t.lines
    pub own : AllByRecursion (P running) t.page.own
    pub others : AllByRecursion LineHas t.page.others
    pub stops : AllByRecursion (P running) t.page.stops

  mapped_have : (c : ℕ) (xs : List Said) → AllByRecursion (P c) xs → AllByRecursion LineHas (map (line c) xs)
  mapped_have c [] all = tt
  mapped_have c (x ∷ xs) all = (all.0, mapped_have c xs all.1)

  pub told_have : (f : Facts) (t : RunReport) → AllByRecursion (P f.command) (over_line f t) → LinesHave f.command t → AllByRecursion LineHas (all_lines f t)
  told_have f t over now =
      all_append LineHas t.lines (page_lines f t) now.lines
      (all_append LineHas (map (line f.command) t.page.own ++ t.page.others) (map (line f.command) (t.page.stops ++ over_line f t))
      (all_append LineHas (map (line f.command) t.page.own) t.page.others (mapped_have f.command t.page.own now.own) now.others)
      (mapped_have f.command (t.page.stops ++ over_line f t) (all_append (P f.command) t.page.stops (over_line f t) now.stops over)))

  pub same_have : (running : ℕ) (t u : RunReport) → u.page ≡ t.page → u.lines ≡ t.lines → LinesHave running t → LinesHave running u
  same_have running t u page lines now = record {
    lines = subst (AllByRecursion LineHas) (sym lines) now.lines;
    own = subst (λ g. AllByRecursion (P running) g.own) (sym page) now.own;
    others = subst (λ g. AllByRecursion LineHas g.others) (sym page) now.others;
    stops = subst (λ g. AllByRecursion (P running) g.stops) (sym page) now.stops;
  }

  put_have : (xs : List AnswerLine) (l : AnswerLine) → LineHas l → AllByRecursion LineHas xs → AllByRecursion LineHas (put_line xs l)
  put_have [] l is all = (is, tt)
  put_have (x ∷ xs) l is all = cond_both (nat_lt l.command x.command) (l ∷ x ∷ xs) (x ∷ put_line xs l) (AllByRecursion LineHas) (λ first. (is, all)) (λ later. (all.0, put_have xs l is all.1))

  pub own_have : (running : ℕ) (t : RunReport) (xs : List Said) → AllByRecursion (P running) xs → LinesHave running t → LinesHave running (record t { page = record t.page { own = xs } })
  own_have running t xs all now = record { lines = now.lines; own = all; others = now.others; stops = now.stops }

  module _ (running : ℕ) (reached : (c n : ℕ) → P c (refuses_with (ora 2059 (one (decimal n))))) where
    line_of_have : (t : RunReport) (command : ℕ) (s : Said) → P command s → LinesHave running t → LinesHave running (call_line_of running t command s)
    line_of_have t command s is now =
        cond_both (running == command) (record t { page = record t.page { own = t.page.own ++ s ∷ [] } }) (record t { page = record t.page { others = put_line t.page.others (line command s) } }) (LinesHave running)
        (λ own. record {
          lines = now.lines;
          own = all_append (P running) t.page.own (s ∷ []) now.own (subst (λ c. P c s) (sym (eqb-true running command own)) is, tt);
          others = now.others;
          stops = now.stops;
        })
        (λ other. record { lines = now.lines; own = now.own; others = put_have t.page.others (line command s) is now.others; stops = now.stops })

    reached_have : (t : RunReport) (command : ℕ) (o : Option Point) → LinesHave running t → LinesHave running (reached_line running t command o)
    reached_have t command None now = now
    reached_have t command (Some x) now = line_of_have t command (refuses_with (ora 2059 (one (decimal x.number)))) (reached command x.number) now

    pub line_have : (t : RunReport) (command : ℕ) (s : Said) → P command s → LinesHave running t → LinesHave running (call_line running t command s)
    line_have t command s is now = reached_have (call_line_of running t command s) command (find (is_reached command) t.points) (line_of_have t command s is now)

    -- ---- calls that end

    module _ (nodes : (c : ℕ) (a : Answer) → P c (said.Node a)) where
      ends_have : (t : RunReport) (c : Call) (f : Finished) → LinesHave running t → LinesHave running (call_ends running t c f)
      ends_have t c f now = line_have (without_call t c.node c.session) c.command (says_node f) (nodes c.command f.answer) (same_have running t (without_call t c.node c.session) refl refl now)

      follows_have : (t : RunReport) (c : Call) (f : Finished) (o : Option Stmt) → LinesHave running t → LinesHave running (ends_or_follows running t c f o)
      follows_have t c f None now = ends_have t c f now
      follows_have t c f (Some s) now =
          cond_both (is_complete f.answer) (call_follows t (second_of c s)) (call_ends running t c f) (LinesHave running) (λ complete. same_have running t (call_follows t (second_of c s)) refl refl now) (λ other. ends_have t c f now)

      call_have : (t : RunReport) (f : Finished) (o : Option Call) → LinesHave running t → LinesHave running (finished_call running t f o)
      call_have t f None now = now
      call_have t f (Some c) now = follows_have t c f c.follows now

      pub finished_have : (node : ℕ) (t : RunReport) (fs : List Finished) → LinesHave running t → LinesHave running (finished running t node fs)
      finished_have node t [] now = now
      finished_have node t (f ∷ fs) now = finished_have node (finished_call running t f (call_at t node f.session)) fs (call_have t f (call_at t node f.session) now)

    -- a node stops
    pub stopped_have : (places : List Place) (n : ℕ) (t : RunReport) (cs : List Call) → AllByRecursion (λ (c : Call). (c.node == n) ≡ true → P c.command (is_down places n)) cs → LinesHave running t → LinesHave running (stopped_calls places running t n cs)
    stopped_have places n t [] down now = now
    stopped_have places n t (c ∷ cs) down now =
        cond_both (c.node == n) (stopped_calls places running (call_line running (without_call t c.node c.session) c.command (is_down places n)) n cs) (stopped_calls places running t n cs) (LinesHave running)
        (λ here. stopped_have places n (call_line running (without_call t c.node c.session) c.command (is_down places n)) cs down.1
        (line_have (without_call t c.node c.session) c.command (is_down places n) (down.0 here) (same_have running t (without_call t c.node c.session) refl refl now)))
        (λ other. stopped_have places n t cs down.1 now)

  -- ---- what is said after a turn

  module _ (running : ℕ) (waiting : P running (said.World notices.Waiting)) (t : RunReport) (now : LinesHave running t) where
    waits_have : LinesHave running (waits t)
    waits_have = cond_both (t.hold && is_none t.next_call) (record t { page = record t.page { own = said.World notices.Waiting ∷ [] } }) t (LinesHave running) (λ on. own_have running t (said.World notices.Waiting ∷ []) (waiting, tt) now) (λ off. now)

    pending_have : (o : Option Call) → LinesHave running (waits_if_pending running t o)
    pending_have None = now
    pending_have (Some c) = cond_both (c.command == running) (waits t) t (LinesHave running) (λ own. waits_have) (λ other. now)

    pub input_have : (node : ℕ) (input : Input) → LinesHave running (after_input running t node input)
    input_have node (inputs.Call session s) = pending_have (call_at t node session)
    input_have node (inputs.GiveUp session) = now
    input_have node (inputs.Message m) = now
    input_have node inputs.Reco = now
    input_have node inputs.Checkpoint = now
