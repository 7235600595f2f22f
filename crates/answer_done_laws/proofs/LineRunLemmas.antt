-- In the run of a script a line with the answer of a node is all_lines to the end.
use Rattle.std.proofs.Common.{◌≡◌, ℕ, zero, suc, ◌+◌, ◌≤◌, ◌⊎◌, Bool, true, false, List, [], ◌∷◌, ◌++◌, map, find, length, slice_get, Option, Some, None, inl, inr, refl, sym, ap, subst, ◌∙◌, arith}
use Rattle.std.specs.Prelude.{take}
use Rattle.std.proofs.lemmas.Bool.{cond_both}
use Rattle.node_rules.specs.Data.{Answer, Stmt}
use Rattle.node_rules.specs.NodeState.{TurnOutput}
use Rattle.run_rules.specs.Calls.{is_call_at, call_at, after_input, finished, stopped_calls}
use Rattle.run_rules.specs.Data.{AnswerLine, Command, Happening, Said, Turn}
use Rattle.run_rules.specs.Data.commands
use Rattle.run_rules.specs.Data.happenings
use Rattle.run_rules.specs.Data.said
use Rattle.run_rules.specs.Facts.{Facts, command_at, node_at, outcome_at, facts_turned, facts_after}
use Rattle.run_rules.specs.Scripts.{IsTheRunOf}
use Rattle.run_rules.specs.Lawful.{History}
use Rattle.run_rules.specs.Lines.{is_down, line, over_line, page_lines, all_lines}
use Rattle.run_rules.specs.Past.{ends_calls, acts, report_turned, failed_start, start_refused, is_stop_of, stop_line, next, past}
use Rattle.run_claims.specs.Places.{past_upto, reported_of}
use Rattle.run_rules.specs.RunReport.{Call, Past, RunReport, start}
use Rattle.answer_origin_laws.proofs.CallAtLemmas.{AreShaped, Fewer, Leads, found_at, named_so}
use Rattle.answer_origin_laws.proofs.CallTurnLemmas.{all_so, stop_fewer}
use Rattle.answer_origin_laws.proofs.ComeLemmas.{CallsSo, input_same, due_there, before_end, before_so, turn_leads}
use Rattle.answer_origin_laws.proofs.SameToldLemmas.{ToldBefore}
use Rattle.answer_origin_laws.proofs.UptoLemmas.{one_more, none_more}
use Rattle.answer_done_laws.specs.DoneLaws.{answers_to}
use Rattle.answer_done_laws.proofs.CallDoneLemmas.{all_shapes, none_stays, answered_put}
use Rattle.answer_done_laws.proofs.LineStayLemmas.{Has, IsPut, found_has, stopped_put, has_left, has_right, has_at, has_line, Grows, finished_grows, stopped_grows, Follows, input_follow}

take_all : {A : Type 0} (xs : List A) (k : ℕ) → length xs ≤ k → take k xs ≡ xs
take_all [] zero low = refl
take_all [] (suc k) low = refl
take_all (x ∷ xs) zero low = absurd (let no : 1 + length xs ≤ 0 = omega (arith, low) in omega (arith, no))
take_all (x ∷ xs) (suc k) low = ap (λ ys. x ∷ ys) (take_all xs k (omega (arith, low)))

none_if : (t : RunReport) (n s : ℕ) → ((e : Call) → call_at t n s ≡ Some e → ⊥) → call_at t n s ≡ None
none_if t n s never = by (call_at t n s) refl
  where
    by : (o : Option Call) → call_at t n s ≡ o → o ≡ None
    by None is = refl
    by (Some e) is = absurd (never e is)

module _ (t : History) (run : IsTheRunOf t) (command node session : ℕ) (text : Option Stmt) (named : command_at t.commands command ≡ commands.At node session text) (a : Said) where
  -- the line is all_lines: by a command before, for an earlier command, or by the command that runs
  abbrev pub LineIsTold : Past → Type 0
  LineIsTold p =
      Has p.run_report.lines (line command a)
      ⊎ (Has p.run_report.page.others (line command a) ⊎ ((p.facts.command ≡ command) × Has p.run_report.page.own a × (call_at p.run_report node session ≡ None)))

  told_has : (p : Past) → LineIsTold p → Has (all_lines p.facts p.run_report) (line command a)
  told_has p (inl before) = has_left p.run_report.lines (page_lines p.facts p.run_report) (line command a) before
  told_has p (inr (inl other)) =
      let own : List AnswerLine = map (line p.facts.command) p.run_report.page.own in
      has_right p.run_report.lines (page_lines p.facts p.run_report) (line command a)
      (has_left (own ++ p.run_report.page.others) (map (line p.facts.command) (p.run_report.page.stops ++ over_line p.facts p.run_report)) (line command a) (has_right own p.run_report.page.others (line command a) other))
  told_has p (inr (inr here)) =
      let own : List AnswerLine = map (line p.facts.command) p.run_report.page.own in
      has_right p.run_report.lines (page_lines p.facts p.run_report) (line command a)
      (has_left (own ++ p.run_report.page.others) (map (line p.facts.command) (p.run_report.page.stops ++ over_line p.facts p.run_report)) (line command a)
      (has_left own p.run_report.page.others (line command a) (subst (λ c. Has own (line c a)) here.0 (has_line p.facts.command p.run_report.page.own a here.1))))

  module _ (i : ℕ) where
    abbrev p : Past
    p = past_upto t i

    abbrev f : Facts
    f = p.facts

    abbrev so_told : RunReport
    so_told = p.run_report

    now : CallsSo t i p
    now = all_so t run i

    -- ---- a turn

    module _ (u : Turn) (there : slice_get t.trace i ≡ Some (happenings.Turn u)) where
      abbrev t1 : Option TurnOutput → RunReport
      t1 o = before_end t run i now u there o

      before : (o : Option TurnOutput) → ToldBefore so_told (t1 o)
      before o = before_so t run i now u there o

      -- a call of the command is of the session
      its_call : (w : RunReport) (s : ℕ) (c : Call) → AreShaped t.commands w.calls → call_at w u.node s ≡ Some c → c.command ≡ command → (u.node ≡ node) × (s ≡ session)
      its_call w s c shapes at its =
          let found = found_at t.commands w u.node s c shapes at in
          let name = named_so t.commands c found.0 in
          let it : commands.At c.node c.session name.0 ≡ commands.At node session text = sym name.1 ∙ (ap (command_at t.commands) its ∙ named) in
          (let one : c.node ≡ node = cc in sym found.1 ∙ one, let two : c.session ≡ session = cc in sym found.2 ∙ two)

      module _ (o : Option TurnOutput) (comes : outcome_at t.places f u ≡ o) where
        abbrev turned : RunReport
        turned = report_turned f.command (node_at f u.node) so_told u o

        none_yet : call_at so_told node session ≡ None → call_at turned node session ≡ None
        none_yet none =
            let leads : Leads t.commands so_told turned = turn_leads t run i now u there o comes in
            none_if turned node session (λ e at. elim (leads.was node session e at) [ inl was ↦ cc (was, none) | inr next ↦ (let was = next.2 in cc (was, none)) ])

      -- the calls of the turn end
      whole : (o : TurnOutput) → ((call_at so_told node session ≡ None → call_at (after_input f.command (finished f.command (t1 (Some o)) u.node o.ended) u.node u.input) node session ≡ None))
          → LineIsTold p → LineIsTold (record { facts = f; run_report = after_input f.command (finished f.command (t1 (Some o)) u.node o.ended) u.node u.input })
      whole o none is =
          let v : RunReport = t1 (Some o) in
          let w : RunReport = finished f.command v u.node o.ended in
          let z : RunReport = after_input f.command w u.node u.input in
          let same : ToldBefore so_told v = before (Some o) in
          let grows : Grows v w = finished_grows f.command u.node v o.ended in
          let follow : Follows f.command w z u.node = input_follow f.command w u.node u.input in
          let shapes : AreShaped t.commands v.calls = subst (AreShaped t.commands) (sym same.calls) now.shapes in
          elim is [
            | inl old ↦ inl (subst (λ xs. Has xs (line command a)) (sym (follow.lines ∙ (grows.lines ∙ same.lines))) old)
            | inr page ↦ elim page [
              | inl other ↦ inr (inl (subst (λ xs. Has xs (line command a)) (sym follow.others) (grows.others (line command a) (subst (λ g. Has g.others (line command a)) (sym same.page) other))))
              | inr here ↦ (let own : Has w.page.own a = grows.own a (subst (λ g. Has g.own a) (sym same.page) here.1) in
                  inr (inr (
                    here.0,
                    elim follow.own [
                      | inl kept ↦ subst (λ xs. Has xs a) (sym kept) own
                      | inr waits ↦ (let its = its_call w waits.0 waits.1 (all_shapes t.commands f.command u.node v o.ended shapes) waits.2 (waits.3 ∙ here.0) in
                          let none_v : call_at v u.node session ≡ None = subst (λ n. call_at v n session ≡ None) (sym its.0) (ap (find (is_call_at node session)) same.calls ∙ here.2) in
                          let none_w : call_at w u.node session ≡ None = none_stays t.commands f.command u.node v o.ended shapes session none_v in
                          let some_w : call_at w u.node session ≡ Some waits.1 = subst (λ s. call_at w u.node s ≡ Some waits.1) its.1 waits.2 in
                          absurd (cc (none_w, some_w)))
                    ],
                    none here.2,
                  )))
            ]
          ]

      -- it does not
      still : (o : Option TurnOutput) → LineIsTold p → LineIsTold (record { facts = f; run_report = t1 o })
      still o is =
          let same : ToldBefore so_told (t1 o) = before o in
          elim is [
            | inl old ↦ inl (subst (λ xs. Has xs (line command a)) (sym same.lines) old)
            | inr page ↦ elim page [
              | inl other ↦ inr (inl (subst (λ g. Has g.others (line command a)) (sym same.page) other))
              | inr here ↦ inr (inr (here.0, subst (λ g. Has g.own a) (sym same.page) here.1, ap (find (is_call_at node session)) same.calls ∙ here.2))
            ]
          ]

      turn_keeps : LineIsTold p → (o : Option TurnOutput) → outcome_at t.places f u ≡ o → (cut : Bool) → u.cut ≡ cut → LineIsTold (record { facts = f; run_report = ends_calls f.command (t1 o) u cut o })
      turn_keeps is o comes true cut = still o is
      turn_keeps is None comes false cut = still None is
      turn_keeps is (Some o) comes false cut =
          whole o (λ none. (let all : call_at (report_turned f.command (node_at f u.node) so_told u (Some o)) node session ≡ None = none_yet (Some o) comes none in
          sym (ap (λ q. call_at (ends_calls f.command (t1 (Some o)) u q (Some o)) node session) cut) ∙ all)) is

      turn_told : LineIsTold p → LineIsTold (next t.places t.commands p (happenings.Turn u))
      unfolding next
      turn_told is = turn_keeps is (outcome_at t.places f u) refl u.cut refl

      -- the call of the command is answered so
      ends_told : (o : TurnOutput) → u.cut ≡ false → outcome_at t.places f u ≡ Some o → u.node ≡ node → (c : Call) → call_at so_told u.node session ≡ Some c → c.command ≡ command → c.follows ≡ None → (b : Answer) → said.Node b ≡ a → answers_to session o.ended ≡ b ∷ []
          → LineIsTold (next t.places t.commands p (happenings.Turn u)) × (call_at (next t.places t.commands p (happenings.Turn u)).run_report u.node session ≡ None)
      unfolding next
      ends_told o uncut comes here c at its alone b says is =
          let v : RunReport = t1 (Some o) in
          let w : RunReport = finished f.command v u.node o.ended in
          let z : RunReport = after_input f.command w u.node u.input in
          let same : ToldBefore so_told v = before (Some o) in
          let shapes : AreShaped t.commands v.calls = subst (AreShaped t.commands) (sym same.calls) now.shapes in
          let ends = answered_put t.commands f.command u.node v o.ended shapes session c (ap (find (is_call_at u.node session)) same.calls ∙ at) alone b is in
          let follow : Follows f.command w z u.node = input_follow f.command w u.node u.input in
          let none_z : call_at z u.node session ≡ None = ap (find (is_call_at u.node session)) (input_same w f.command u.node u.input).0 ∙ ends.1 in
          let now_told : RunReport = report_turned f.command (node_at f u.node) so_told u (outcome_at t.places f u) in
          let is_z : acts (ends_calls f.command (t1 (Some o)) u false (Some o)) ≡ now_told
          = ap (λ q. acts (ends_calls f.command (t1 (Some o)) u q (Some o))) (sym uncut) ∙ ap (report_turned f.command (node_at f u.node) so_told u) (sym comes) in (
            subst (λ x. LineIsTold (record { facts = facts_turned f u (outcome_at t.places f u); run_report = x })) is_z (elim (subst (IsPut f.command w c.command) says ends.0) [
              | inl own ↦ inr (inr (
                own.0 ∙ its,
                elim follow.own [
                  | inl kept ↦ subst (λ xs. Has xs a) (sym kept) own.1
                  | inr waits ↦ (let other = its_call w waits.0 waits.1 (all_shapes t.commands f.command u.node v o.ended shapes) waits.2 (waits.3 ∙ (own.0 ∙ its)) in
                      let some_w : call_at w u.node session ≡ Some waits.1 = subst (λ s. call_at w u.node s ≡ Some waits.1) other.1 waits.2 in
                      let none_w = ends.1 in
                      absurd (cc (none_w, some_w)))
                ],
                subst (λ n. call_at z n session ≡ None) here none_z,
              ))
              | inr other ↦ inr (inl (subst (λ xs. Has xs (line command a)) (sym follow.others) (subst (λ n. Has w.page.others (line n a)) its other)))
            ]),
            subst (λ x. call_at x u.node session ≡ None) is_z none_z,
          )

    -- ---- what else happens

    stopped_told : (n : ℕ) → LineIsTold p → LineIsTold (next t.places t.commands p (happenings.Stopped n))
    unfolding next facts_after
    stopped_told n is =
        let c : Command = command_at t.commands f.command in
        let refused : RunReport = start_refused t.places f so_told c n in
        let falls : RunReport = record refused { start_to_stop = None } in
        let left : RunReport = stopped_calls t.places f.command falls n so_told.calls in
        let stop : RunReport = stop_line t.places left c n in
        let fewer : Fewer t.commands so_told (acts stop) = stop_fewer t run i now n in
        let grows : Grows falls left = stopped_grows f.command t.places n falls so_told.calls in
        let lines : refused.lines ≡ so_told.lines = cond_both (failed_start f c n) _ so_told (λ (x : RunReport). x.lines ≡ so_told.lines) (λ failed. refl) (λ other. refl) in
        let others : refused.page.others ≡ so_told.page.others = cond_both (failed_start f c n) _ so_told (λ (x : RunReport). x.page.others ≡ so_told.page.others) (λ failed. refl) (λ other. refl) in
        let same : (stop.lines ≡ left.lines) × (stop.page.own ≡ left.page.own) × (stop.page.others ≡ left.page.others)
        = cond_both (is_stop_of c n) left _ (λ (x : RunReport). (x.lines ≡ left.lines) × (x.page.own ≡ left.page.own) × (x.page.others ≡ left.page.others)) (λ own. (refl, refl, refl)) (λ other. (refl, refl, refl)) in
        elim is [
          | inl old ↦ inl (subst (λ xs. Has xs (line command a)) (sym (same.0 ∙ (grows.lines ∙ lines))) old)
          | inr page ↦ elim page [
            | inl other ↦ inr (inl (subst (λ xs. Has xs (line command a)) (sym same.2) (grows.others (line command a) (subst (λ xs. Has xs (line command a)) (sym others) other))))
            | inr here ↦ (let at : c ≡ commands.At node session text = ap (command_at t.commands) here.0 ∙ named in
                let own : Has refused.page.own a = subst (λ d. Has (start_refused t.places f so_told d n).page.own a) (sym at) here.1 in
                inr (inr (here.0, subst (λ xs. Has xs a) (sym same.1) (grows.own a own), none_if (acts stop) node session (λ e is. (let was = fewer.was node session e is in let none = here.2 in cc (was, none))))))
          ]
        ]

    -- the node of the command's call stops
    stop_puts : (n : ℕ) → n ≡ node → is_down t.places n ≡ a → (c : Call) → call_at so_told n session ≡ Some c → c.command ≡ command → call_at (next t.places t.commands p (happenings.Stopped n)).run_report n session ≡ None
        → LineIsTold (next t.places t.commands p (happenings.Stopped n))
    unfolding next facts_after
    stop_puts n here says c at its none =
        let d : Command = command_at t.commands f.command in
        let falls : RunReport = record (start_refused t.places f so_told d n) { start_to_stop = None } in
        let left : RunReport = stopped_calls t.places f.command falls n so_told.calls in
        let stop : RunReport = stop_line t.places left d n in
        let same : (stop.page.own ≡ left.page.own) × (stop.page.others ≡ left.page.others)
        = cond_both (is_stop_of d n) left _ (λ (x : RunReport). (x.page.own ≡ left.page.own) × (x.page.others ≡ left.page.others)) (λ own. (refl, refl)) (λ other. (refl, refl)) in
        let its_node : c.node ≡ n = (found_at t.commands so_told n session c now.shapes at).1 in
        let put : IsPut f.command left c.command a
        = subst (IsPut f.command left c.command) says (stopped_put f.command t.places n falls so_told.calls c (found_has (is_call_at n session) so_told.calls c at) its_node) in
        elim put [
          | inl own ↦ inr (inr (own.0 ∙ its, subst (λ xs. Has xs a) (sym same.0) own.1, subst (λ m. call_at (acts stop) m session ≡ None) here none))
          | inr other ↦ inr (inl (subst (λ xs. Has xs (line command a)) (sym same.1) (subst (λ m. Has left.page.others (line m a)) its other)))
        ]

    started_told : (n boot : ℕ) → slice_get t.trace i ≡ Some (happenings.Started n boot) → LineIsTold p → LineIsTold (next t.places t.commands p (happenings.Started n boot))
    unfolding next facts_after
    started_told n boot there (inl old) = inl old
    started_told n boot there (inr (inl other)) = inr (inl other)
    started_told n boot there (inr (inr here)) =
        let starts : command_at t.commands f.command ≡ commands.Start n = (due_there t run i now (happenings.Started n boot) there).2 in
        let at : command_at t.commands f.command ≡ commands.At node session text = ap (command_at t.commands) here.0 ∙ named in
        absurd (cc (starts, at))

    one_told : (h : Happening) → slice_get t.trace i ≡ Some h → LineIsTold p → LineIsTold (next t.places t.commands p h)
    unfolding next facts_after
    one_told (happenings.Turn u) there is = turn_told u there is
    one_told (happenings.Begun c) there is = inl (told_has p is)
    one_told (happenings.Stopped n) there is = stopped_told n is
    one_told (happenings.Started n boot) there is = started_told n boot there is
    one_told (happenings.Cut b c) there is = is
    one_told (happenings.Join b c) there is = is
    one_told (happenings.Lost k) there is = is

    further_told : (o : Option Happening) → slice_get t.trace i ≡ o → LineIsTold p → LineIsTold (past_upto t (i + 1))
    further_told None none is = subst LineIsTold (sym (none_more t i none)) is
    further_told (Some h) there is = subst LineIsTold (sym (one_more t i h there)) (one_told h there is)

  -- ---- to the end

  later_told : (n i : ℕ) → LineIsTold (past_upto t i) → LineIsTold (past_upto t (i + n))
  later_told zero i is = let none : i ≡ i + 0 = omega arith in subst (λ j. LineIsTold (past_upto t j)) none is
  later_told (suc n) i is =
      let one : (i + 1) + n ≡ i + suc n = omega arith in subst (λ j. LineIsTold (past_upto t j)) one (later_told n (i + 1) (further_told i (slice_get t.trace i) refl is))

  -- the answer of the command's call
  pub answer_told : (i : ℕ) (u : Turn) → slice_get t.trace i ≡ Some (happenings.Turn u) → u.cut ≡ false → (o : TurnOutput) → outcome_at t.places (past_upto t i).facts u ≡ Some o → u.node ≡ node → (c : Call)
      → call_at (past_upto t i).run_report u.node session ≡ Some c → c.command ≡ command → c.follows ≡ None → (b : Answer) → said.Node b ≡ a → answers_to session o.ended ≡ b ∷ [] → LineIsTold (past_upto t (i + 1)) × (call_at (past_upto t (i + 1)).run_report u.node session ≡ None)
  answer_told i u there uncut o comes here c at its alone b says is =
      subst (λ (q : Past). LineIsTold q × (call_at q.run_report u.node session ≡ None)) (sym (one_more t i (happenings.Turn u) there)) (ends_told i u there o uncut comes here c at its alone b says is)

  -- and where its node stops
  pub stop_told : (i n : ℕ) → slice_get t.trace i ≡ Some (happenings.Stopped n) → n ≡ node → is_down t.places n ≡ a → (c : Call) → call_at (past_upto t i).run_report n session ≡ Some c → c.command ≡ command
      → call_at (past_upto t (i + 1)).run_report n session ≡ None → LineIsTold (past_upto t (i + 1))
  stop_told i n there here says c at its none =
      subst LineIsTold (sym (one_more t i (happenings.Stopped n) there)) (stop_puts i n here says c at its (sym (ap (λ (q : Past). call_at q.run_report n session) (one_more t i (happenings.Stopped n) there)) ∙ none))

  pub told_at_last : (i : ℕ) → LineIsTold (past_upto t i) → (j : ℕ) × (slice_get (reported_of t) j ≡ Some (line command a))
  told_at_last i is =
      let all : take (i + length t.trace) t.trace ≡ t.trace = take_all t.trace (i + length t.trace) (omega arith) in
      let last : LineIsTold (past t.places t.commands (start t.places) t.trace) = subst (λ hs. LineIsTold (past t.places t.commands (start t.places) hs)) all (later_told (length t.trace) i is) in
      has_at (reported_of t) (line command a) (told_has (past t.places t.commands (start t.places) t.trace) last)
