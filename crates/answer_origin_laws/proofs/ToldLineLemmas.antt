-- The lines that are all_lines as each happening comes: what is so of each answer of a node that a line has, and of each that a turn ends a call with, is so of
-- each answer that is all_lines.
use Rattle.std.proofs.Common.{◌≡◌, ℕ, zero, suc, ◌==◌, ◌&&◌, Bool, true, false, if◌then◌else◌, List, [], ◌∷◌, ◌++◌, map, find, slice_get, Option, Some, None, refl, sym, subst}
use Rattle.std.specs.Prelude.{nat_lt, is_some}
use Rattle.std.specs.List.{AllByRecursion}
use Rattle.std.proofs.lemmas.Bool.{cond_both, eqb-true}
use Rattle.net_bag.specs.Net.{first_flying, may_deliver, may_repeat}
use Rattle.node_rules.specs.Data.{Answer, Place, Stmt}
use Rattle.node_rules.specs.declared.session.Finished.{Finished}
use Rattle.node_rules.specs.Points.{Point}
use Rattle.run_rules.specs.Calls.{call_at, without_call, is_complete, second_of, call_follows, call_ends, ends_or_follows, finished_call, finished, stopped_calls}
use Rattle.run_rules.specs.Commands.{is_enabled, has_call, says_at_once, if_up, if_may}
use Rattle.run_rules.specs.Data.{AnswerLine, Command, Said}
use Rattle.run_rules.specs.Data.commands
use Rattle.run_rules.specs.Data.said
use Rattle.run_rules.specs.Disks.{Strike}
use Rattle.run_rules.specs.Facts.{Facts, is_up, node_at}
use Rattle.run_rules.specs.Lines.{is_reached, says_node, is_down, put_line, call_line_of, reached_line, call_line, line, spent, over_line, page_lines, all_lines}
use Rattle.run_rules.specs.Past.{started_says}
use Rattle.run_rules.specs.RunReport.{Call, RunReport}
use Rattle.run_rules.proofs.ListLemmas.{all_append}
use Rattle.answer_origin_laws.proofs.ToldCallLemmas.{AreNamed, Were, call_named, were_then, were_none, Left, gone_none, all_left, first_left}

-- ---- what no node says

abbrev pub IsWorld : Said → Type 0
IsWorld (said.World n) = Unit {0}
IsWorld (said.Node a) = ⊥

abbrev pub AllWorld : List Said → Type 0
AllWorld xs = AllByRecursion IsWorld xs

module _ (places : List Place) (f : Facts) (t : RunReport) where
  up_world : (n : ℕ) (xs : List Said) → AllWorld xs → AllWorld (if_up places f n xs)
  up_world n xs all = cond_both (is_up f n) xs _ AllWorld (λ up. all) (λ down. (tt, tt))

  may_world : (q : Bool) (k : ℕ) → AllWorld (if_may q k)
  may_world true k = (tt, tt)
  may_world false k = (tt, tt)

  pub says_world : (c : Command) → AllWorld (says_at_once places f t c)
  says_world (commands.At node session statement) = up_world node _ (cond_both (has_call t node session) _ [] AllWorld (λ has. (tt, tt)) (λ none. tt))
  says_world (commands.Lose k) = may_world (may_deliver f.net k) k
  says_world (commands.Stop n) = up_world n _ (tt, tt)
  says_world (commands.Start n) = cond_both (is_up f n) _ [] AllWorld (λ up. (tt, tt)) (λ down. tt)
  says_world (commands.Deliver k) = may_world (may_deliver f.net k) k
  says_world (commands.Again k) = may_world (may_repeat f.net k) k
  says_world (commands.GiveUp n session) = up_world n _ (cond_both (has_call t n session) _ _ AllWorld (λ has. (tt, tt)) (λ none. (tt, tt)))
  says_world (commands.Reco n) = up_world n _ (cond_both (is_enabled (node_at f n)) _ _ AllWorld (λ on. (tt, tt)) (λ off. (tt, tt)))
  says_world (commands.ShowPending n) = up_world n _ (tt, tt)
  says_world (commands.ShowNeighbors n) = up_world n _ (tt, tt)
  says_world commands.ShowBook = (tt, tt)
  says_world commands.ShowNet = (tt, tt)
  says_world (commands.ShowDisk n) = (tt, tt)
  says_world (commands.ShowUndo n) = up_world n _ (tt, tt)
  says_world _ = (tt, tt)

  over_world : AllWorld (over_line f t)
  over_world = cond_both (spent t.deliveries && is_some (first_flying f.net)) _ [] AllWorld (λ over. (tt, tt)) (λ none. tt)

pub started_world : (places : List Place) (n : ℕ) (o : Option Strike) → AllWorld (started_says places n o)
started_world places n None = (tt, tt)
started_world places n (Some s) = (tt, tt)

-- ---- what is so of each answer that is all_lines

module _ (P : ℕ → Answer → Type 0) where
  -- of what a command says
  abbrev pub From : ℕ → Said → Type 0
  From c (said.Node a) = P c a
  From c (said.World n) = Unit {0}

  abbrev pub LineFrom : AnswerLine → Type 0
  LineFrom l = From l.command l.said

  -- of the lines so far
  pub record LinesFrom (running : ℕ) (t : RunReport) : Type 0 where
    pub lines : AllByRecursion LineFrom t.lines
    pub own : AllByRecursion (From running) t.page.own
    pub others : AllByRecursion LineFrom t.page.others
    pub stops : AllByRecursion (From running) t.page.stops

  pub world_from : (c : ℕ) (xs : List Said) → AllWorld xs → AllByRecursion (From c) xs
  world_from c [] all = tt
  world_from c (said.World n ∷ xs) all = (tt, world_from c xs all.1)
  world_from c (said.Node a ∷ xs) all = absurd all.0

  mapped_from : (c : ℕ) (xs : List Said) → AllByRecursion (From c) xs → AllByRecursion LineFrom (map (line c) xs)
  mapped_from c [] all = tt
  mapped_from c (x ∷ xs) all = (all.0, mapped_from c xs all.1)

  pub told_from : (f : Facts) (t : RunReport) → LinesFrom f.command t → AllByRecursion LineFrom (all_lines f t)
  told_from f t now =
      all_append LineFrom t.lines (page_lines f t) now.lines
      (all_append LineFrom (map (line f.command) t.page.own ++ t.page.others) (map (line f.command) (t.page.stops ++ over_line f t))
      (all_append LineFrom (map (line f.command) t.page.own) t.page.others (mapped_from f.command t.page.own now.own) now.others)
      (mapped_from f.command (t.page.stops ++ over_line f t) (all_append (From f.command) t.page.stops (over_line f t) now.stops (world_from f.command (over_line f t) (over_world [] f t)))))

  pub same_from : (running : ℕ) (t u : RunReport) → u.page ≡ t.page → u.lines ≡ t.lines → LinesFrom running t → LinesFrom running u
  same_from running t u page lines now = record {
    lines = subst (AllByRecursion LineFrom) (sym lines) now.lines;
    own = subst (λ g. AllByRecursion (From running) g.own) (sym page) now.own;
    others = subst (λ g. AllByRecursion LineFrom g.others) (sym page) now.others;
    stops = subst (λ g. AllByRecursion (From running) g.stops) (sym page) now.stops;
  }

  put_from : (xs : List AnswerLine) (l : AnswerLine) → LineFrom l → AllByRecursion LineFrom xs → AllByRecursion LineFrom (put_line xs l)
  put_from [] l is all = (is, tt)
  put_from (x ∷ xs) l is all = cond_both (nat_lt l.command x.command) (l ∷ x ∷ xs) (x ∷ put_line xs l) (AllByRecursion LineFrom) (λ first. (is, all)) (λ later. (all.0, put_from xs l is all.1))

  module _ (running : ℕ) where
    line_of_from : (t : RunReport) (command : ℕ) (s : Said) → From command s → LinesFrom running t → LinesFrom running (call_line_of running t command s)
    line_of_from t command s is now =
        cond_both (running == command) _ _ (LinesFrom running)
        (λ own. record {
          lines = now.lines;
          own = all_append (From running) t.page.own (s ∷ []) now.own (subst (λ c. From c s) (sym (eqb-true running command own)) is, tt);
          others = now.others;
          stops = now.stops;
        })
        (λ other. record { lines = now.lines; own = now.own; others = put_from t.page.others (line command s) is now.others; stops = now.stops })

    reached_from : (t : RunReport) (command : ℕ) (o : Option Point) → LinesFrom running t → LinesFrom running (reached_line running t command o)
    reached_from t command None now = now
    reached_from t command (Some x) now = line_of_from t command _ tt now

    pub line_from : (t : RunReport) (command : ℕ) (s : Said) → From command s → LinesFrom running t → LinesFrom running (call_line running t command s)
    line_from t command s is now = reached_from (call_line_of running t command s) command (find (is_reached command) t.points) (line_of_from t command s is now)

    pub own_from : (t : RunReport) (xs : List Said) → AllWorld xs → LinesFrom running t → LinesFrom running (record t { page = record t.page { own = xs } })
    own_from t xs all now = record { lines = now.lines; own = world_from running xs all; others = now.others; stops = now.stops }

    -- ---- a turn's calls

    module _ (asked : List Command) (node : ℕ) (t0 : RunReport) where
      -- each call that the turn ends with an answer
      abbrev pub Ending : RunReport → RunReport → List Finished → Type 0
      Ending u last fs = (number : ℕ) (f : Finished) → slice_get fs number ≡ Some f → (d : Call) → call_at t0 node f.session ≡ Some d → call_at last node f.session ≡ None → P d.command f.answer

      pub finished_from : (u : RunReport) (fs : List Finished) → AreNamed asked u → Were asked node t0 u → LinesFrom running u → Ending u (finished running u node fs) fs → LinesFrom running (finished running u node fs)
      finished_from u [] named were now ends = now
      finished_from u (f ∷ fs) named were now ends =
          let v : RunReport = finished_call running u f (call_at u node f.session) in
          let one : Left asked node u v = first_left asked node running u f named in
          let rest : Left asked node v (finished running v node fs) = all_left asked node running v fs one.named in
          finished_from v fs one.named (were_then asked node t0 u v were one.were) (by_call (call_at u node f.session) refl (λ none. were_none asked node v (finished running v node fs) rest.were f.session none)) (λ number. ends (suc number))
        where
          gone_from : (c : Call) → call_at u node f.session ≡ Some c → (call_at (call_ends running u c f) node f.session ≡ None → call_at (finished running u node (f ∷ fs)) node f.session ≡ None) → LinesFrom running (call_ends running u c f)
          gone_from c at last =
              let was = were f.session c at in
              let its = call_named asked u node f.session c named at in
              let is : P was.0.command f.answer = ends zero f refl was.0 was.1 (last (gone_none asked running u node f.session c.command c (says_node f) (its.1, its.2))) in
              line_from (without_call u c.node c.session) c.command (says_node f) (subst (λ n. P n f.answer) was.2 is) (same_from running u (without_call u c.node c.session) refl refl now)

          by_follows : (c : Call) → call_at u node f.session ≡ Some c → (o : Option Stmt) → (call_at (ends_or_follows running u c f o) node f.session ≡ None → call_at (finished running u node (f ∷ fs)) node f.session ≡ None)
              → LinesFrom running (ends_or_follows running u c f o)
          by_follows c at None last = gone_from c at last
          by_follows c at (Some st) last = by (is_complete f.answer) last
            where
              by : (q : Bool) → (call_at (if q then call_follows u (second_of c st) else call_ends running u c f) node f.session ≡ None → call_at (finished running u node (f ∷ fs)) node f.session ≡ None)
                  → LinesFrom running (if q then call_follows u (second_of c st) else call_ends running u c f)
              by true so = same_from running u (call_follows u (second_of c st)) refl refl now
              by false so = gone_from c at so

          by_call : (o : Option Call) → call_at u node f.session ≡ o → (call_at (finished_call running u f o) node f.session ≡ None → call_at (finished running u node (f ∷ fs)) node f.session ≡ None) → LinesFrom running (finished_call running u f o)
          by_call None at last = now
          by_call (Some c) at last = by_follows c at c.follows last

    -- ---- a stop

    pub stopped_from : (places : List Place) (n : ℕ) (t : RunReport) (cs : List Call) → LinesFrom running t → LinesFrom running (stopped_calls places running t n cs)
    stopped_from places n t [] now = now
    stopped_from places n t (c ∷ cs) now =
        cond_both (c.node == n) (stopped_calls places running (call_line running (without_call t c.node c.session) c.command (is_down places n)) n cs) (stopped_calls places running t n cs) (LinesFrom running)
        (λ here. stopped_from places n (call_line running (without_call t c.node c.session) c.command (is_down places n)) cs
        (line_from (without_call t c.node c.session) c.command (is_down places n) tt (same_from running t (without_call t c.node c.session) refl refl now)))
        (λ other. stopped_from places n t cs now)
