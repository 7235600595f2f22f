-- As a command begins the one before was answered once, and the report has its lines; and a new command says what it is answered
-- at once, or has a pending call, or is a START.
use Rattle.std.proofs.Common.{◌≡◌, ℕ, ◌+◌, ◌<◌, ◌≤◌, ◌==◌, ◌&&◌, ◌||◌, not, Bool, true, false, if◌then◌else◌, List, [], ◌∷◌, ◌++◌, map, find, Option, Some, None, inl, inr, refl, sym, ap, subst, ◌∙◌, arith, append-nil}
use Rattle.std.specs.Prelude.{is_some}
use Rattle.std.specs.List.{AllByRecursion}
use Rattle.std.proofs.lemmas.Bool.{cond_both, and_parts, eqb-true, eq-eqb}
use Rattle.std.proofs.lemmas.Bool.Decides.{nat_tests}
use Rattle.node_rules.specs.Data.{Place, Stmt}
use Rattle.net_bag.specs.Net.{first_flying}
use Rattle.run_rules.specs.Calls.{is_call_at, call_at}
use Rattle.run_rules.specs.Commands.{has_call, has_transaction, call_of, calls_after, commits_first, begins}
use Rattle.run_rules.specs.Data.{AnswerLine, Command, Said}
use Rattle.run_rules.specs.Data.commands
use Rattle.run_rules.specs.Due.{Pends, Starts, act_of, if_due, call_due, due_of}
use Rattle.run_rules.specs.Facts.{Facts, command_at, is_up, node_at}
use Rattle.run_rules.specs.Lines.{line, spent, over_line, page_lines, all_lines}
use Rattle.run_rules.specs.Reported.{IsBetweenCommands}
use Rattle.run_rules.specs.RunReport.{Call, Past, RunReport}
use Rattle.run_rules.proofs.ListLemmas.{all_append, all_weaker}
use Rattle.answer_once_laws.specs.OnceLaws.{IsNotice, Messages_are_left, AreNotices, AnswersOnce, Waits, Ends_later, waiting, said_of}
use Rattle.answer_once_laws.proofs.BetweenLemmas.{IsSettled, between_so}
use Rattle.answer_once_laws.proofs.CallListLemmas.{pends, AreApart, pending_one, apart_found, more_apart, more_pends, all_both}
use Rattle.answer_once_laws.proofs.OnceStepLemmas.{IsUnsettled, Has_begun, Is_free, Follows_on, Falls_with, OnceSo}
use Rattle.answer_once_laws.proofs.PageLemmas.{OwnIs, EarlierIs, Still_waits, Ended_here, Was_answered, PagesSo}
use Rattle.answer_once_laws.proofs.SayLemmas.{SaysSo, says_so}
use Rattle.answer_once_laws.proofs.SaidLemmas.{said_append, said_lines, said_others, AreBelow, none_below, notices_more}
use Rattle.run_rules.specs.Lawful.{History}
use Rattle.answer_origin_laws.proofs.CallAtLemmas.{HasShape, AreShaped, named_so}

-- ---- what the report says of a command

module _ (places : List Place) (asked : List Command) (r : ℕ) (f : Facts) (running : f.command ≡ r) (t : RunReport) (pages : PagesSo places asked r t) where
  abbrev own_lines : List AnswerLine
  own_lines = map (line f.command) t.page.own

  abbrev notices : List Said
  notices = t.page.stops ++ over_line f t

  pub notices_are : AreNotices places notices
  notices_are = all_append (IsNotice places) t.page.stops (over_line f t) pages.stops (cond_both (spent t.deliveries && is_some (first_flying f.net)) _ [] (AreNotices places) (λ over. (Messages_are_left, tt)) (λ other. tt))

  said_all : (d : ℕ) → said_of d (all_lines f t) ≡ said_of d t.lines ++ ((said_of d own_lines ++ said_of d t.page.others) ++ said_of d (map (line f.command) notices))
  said_all d =
      said_append d t.lines (page_lines f t)
      ∙ ap (λ xs. said_of d t.lines ++ xs) (said_append d (own_lines ++ t.page.others) (map (line f.command) notices) ∙ ap (λ xs. xs ++ said_of d (map (line f.command) notices)) (said_append d own_lines t.page.others))

  -- of an earlier command
  pub said_earlier : (d : ℕ) → d < r → said_of d (all_lines f t) ≡ said_of d t.lines ++ said_of d t.page.others
  said_earlier d less =
      let other : (f.command == d) ≡ false = subst (λ n. (n == d) ≡ false) (sym running) (grind (arith, nat_tests, less)) in
      said_all d ∙ ap (λ xs. said_of d t.lines ++ xs) (ap (λ xs. (xs ++ said_of d t.page.others) ++ said_of d (map (line f.command) notices)) (said_others d f.command other t.page.own)
      ∙ (ap (λ xs. said_of d t.page.others ++ xs) (said_others d f.command other notices) ∙ append-nil (said_of d t.page.others)))

  -- in the lines of the command that runs
  pub said_page : (d : ℕ) → d < r → said_of d (page_lines f t) ≡ said_of d t.page.others
  said_page d less =
      let other : (f.command == d) ≡ false = subst (λ n. (n == d) ≡ false) (sym running) (grind (arith, nat_tests, less)) in
      said_append d (own_lines ++ t.page.others) (map (line f.command) notices) ∙ (ap (λ xs. xs ++ said_of d (map (line f.command) notices)) (said_append d own_lines t.page.others)
      ∙ (ap (λ xs. (xs ++ said_of d t.page.others) ++ said_of d (map (line f.command) notices)) (said_others d f.command other t.page.own)
      ∙ (ap (λ xs. said_of d t.page.others ++ xs) (said_others d f.command other notices) ∙ append-nil (said_of d t.page.others))))

  -- of the command that runs
  pub said_running : said_of r (all_lines f t) ≡ t.page.own ++ notices
  said_running =
      let mine : (xs : List Said) → said_of r (map (line f.command) xs) ≡ xs = λ xs. subst (λ n. said_of r (map (line n) xs) ≡ xs) (sym running) (said_lines r xs) in
      said_all r ∙ (ap (λ xs. xs ++ ((said_of r own_lines ++ said_of r t.page.others) ++ said_of r (map (line f.command) notices))) (none_below r r (omega arith) t.lines pages.lines_below)
      ∙ (ap (λ xs. (xs ++ said_of r t.page.others) ++ said_of r (map (line f.command) notices)) (mine t.page.own)
      ∙ (ap (λ xs. (t.page.own ++ xs) ++ said_of r (map (line f.command) notices)) (none_below r r (omega arith) t.page.others pages.others_below)
      ∙ (ap (λ xs. xs ++ said_of r (map (line f.command) notices)) (append-nil t.page.own) ∙ ap (λ xs. t.page.own ++ xs) (mine notices)))))

  -- an earlier command was answered once
  pub earlier_once : (command : Command) {b : Bool} {xs ys : List Said} → EarlierIs places asked r command b xs ys → AnswersOnce places command b (xs ++ ys)
  earlier_once command (Still_waits beside told) = subst (λ xs. AnswersOnce places command true (waiting ∷ xs)) (sym (append-nil beside)) (Waits beside told)
  earlier_once command (Ended_here beside a after told ends last) = Ends_later beside a after told ends last
  earlier_once command (Was_answered xs once) = subst (AnswersOnce places command false) (sym (append-nil xs)) once

  all_below : (n : ℕ) → r + 1 ≤ n → AreBelow n (all_lines f t)
  all_below n low =
      let mine : (xs : List Said) → AreBelow n (map (line f.command) xs) = λ xs. below xs in
      all_append (λ (l : AnswerLine). l.command < n) t.lines (page_lines f t) (all_weaker (λ (l : AnswerLine). l.command < r) (λ (l : AnswerLine). l.command < n) (λ l less. omega (arith, less, low)) t.lines pages.lines_below)
      (all_append (λ (l : AnswerLine). l.command < n) (own_lines ++ t.page.others) (map (line f.command) notices)
      (all_append (λ (l : AnswerLine). l.command < n) own_lines t.page.others (mine t.page.own) (all_weaker (λ (l : AnswerLine). l.command < r) (λ (l : AnswerLine). l.command < n) (λ l less. omega (arith, less, low)) t.page.others pages.others_below))
      (mine notices))
    where
      below : (xs : List Said) → AreBelow n (map (line f.command) xs)
      below [] = tt
      below (x ∷ xs) = (omega (arith, running, low), below xs)

-- ---- where nothing of a command is due

module _ (t : History) (p : Past) (now : OnceSo t p) (between : IsBetweenCommands (due_of t.commands p)) (one : 1 ≤ p.facts.command) where
  open p use {facts as f, run_report as told}

  settled : IsSettled t.commands f told
  settled = between_so t.commands p between

  -- no call of the command that runs is silent
  abbrev ItsCall : Type 0
  ItsCall = (x : Call) × (HasShape t.commands x × (call_at told x.node x.session ≡ Some x)) × (x.command ≡ f.command)

  its_call : pends f.command told.calls ≡ true → ItsCall
  its_call pending =
      pending_one (λ (x : Call). HasShape t.commands x × (call_at told x.node x.session ≡ Some x)) f.command told.calls
      (all_both (HasShape t.commands) (λ (x : Call). call_at told x.node x.session ≡ Some x) told.calls now.pages.shapes (apart_found told.calls now.pages.apart)) pending

  not_silent : pends f.command told.calls ≡ true → told.page.own ≡ [] → ⊥
  not_silent pending empty = by (now.silent pending empty)
    where
      c : ItsCall
      c = its_call pending

      act_is : act_of f told (command_at t.commands f.command) ≡ Some (Pends c.0)
      act_is =
          let named = named_so t.commands c.0 c.1.0 in
          ap (λ n. act_of f told (command_at t.commands n)) (sym c.2) ∙ (ap (act_of f told) named.1 ∙ (ap (call_due f.command) c.1.1 ∙ ap (λ q. if_due q (Pends c.0)) (eq-eqb c.0.command f.command c.2)))

      no_act : told.acted ≡ false → ⊥
      no_act fresh = elim (settled.act fresh) [
        | inl none ↦ (let some = act_is in cc (none, some))
        | inr some ↦ (let it : Some some.0 ≡ Some (Pends c.0) = sym some.1 ∙ act_is in let same : some.0 ≡ Pends c.0 = cc in subst IsBetweenCommands same some.2)
      ]

      none_left : told.calls ≡ [] → ⊥
      none_left empty_calls = let none : pends f.command told.calls ≡ false = ap (pends f.command) empty_calls in cc (none, pending)

      by : IsUnsettled p → ⊥
      by (Has_begun fresh) = no_act fresh
      by (Is_free off) = acted told.acted refl
        where
          acted : (q : Bool) → told.acted ≡ q → ⊥
          acted true is = none_left (settled.over off (inl is))
          acted false fresh = no_act fresh
      by (Follows_on d next own) = let none = settled.alone in cc (none, next)
      by (Falls_with x at own falls) = let none = settled.nothing.upright in cc (none, falls)

  not_starting : pends f.command told.calls ≡ false → told.page.own ≡ [] → ⊥
  not_starting none empty =
      let s = now.starts one none empty in
      let act_is : act_of f told (command_at t.commands f.command) ≡ Some (Starts s.node) = ap (act_of f told) s.starts ∙ ap (λ q. if_due (not q) (Starts s.node)) s.off in
      elim (settled.act s.fresh) [
        | inl none_due ↦ cc (none_due, act_is)
        | inr some ↦ (let it : Some some.0 ≡ Some (Starts s.node) = sym some.1 ∙ act_is in let same : some.0 ≡ Starts s.node = cc in subst IsBetweenCommands same some.2)
      ]

  -- so it was answered once
  pub running_once : AnswersOnce t.places (command_at t.commands f.command) (pends f.command told.calls) (told.page.own ++ notices t.places t.commands f.command f refl told now.pages)
  running_once = by (pends f.command told.calls) refl (now.pages.own one)
    where
      by : (b : Bool) → pends f.command told.calls ≡ b → OwnIs t.places t.commands f.command b told.page.own → AnswersOnce t.places (command_at t.commands f.command) b (told.page.own ++ notices t.places t.commands f.command f refl told now.pages)
      by true pending (inl empty) = absurd (not_silent pending empty)
      by true pending (inr waits) =
          subst (λ xs. AnswersOnce t.places (command_at t.commands f.command) true (xs ++ notices t.places t.commands f.command f refl told now.pages)) (sym waits) (Waits _ (notices_are t.places t.commands f.command f refl told now.pages))
      by false none (inl empty) = absurd (not_starting none empty.0)
      by false none (inr once) = notices_more t.places (command_at t.commands f.command) _ (notices_are t.places t.commands f.command f refl told now.pages) once

  -- and the report says so of each command
  pub each_once : (c : ℕ) → 1 ≤ c → c ≤ f.command → AnswersOnce t.places (command_at t.commands c) (pends c told.calls) (said_of c (all_lines f told))
  each_once c first low = by (c == f.command) refl
    where
      by : (q : Bool) → (c == f.command) ≡ q → AnswersOnce t.places (command_at t.commands c) (pends c told.calls) (said_of c (all_lines f told))
      by true same =
          subst (λ n. AnswersOnce t.places (command_at t.commands n) (pends n told.calls) (said_of n (all_lines f told))) (sym (eqb-true c f.command same))
          (subst (AnswersOnce t.places (command_at t.commands f.command) (pends f.command told.calls)) (sym (said_running t.places t.commands f.command f refl told now.pages)) running_once)
      by false other =
          let less : c < f.command = grind (arith, nat_tests, low, other) in
          subst (AnswersOnce t.places (command_at t.commands c) (pends c told.calls)) (sym (said_earlier t.places t.commands f.command f refl told now.pages c less)) (earlier_once t.places t.commands f.command f refl told now.pages (command_at t.commands c) (now.pages.each c first less))

-- ---- a command begins

module _ (t : History) (p : Past) (now : OnceSo t p) (between : IsBetweenCommands (due_of t.commands p)) (c : ℕ) (next : c ≡ p.facts.command + 1) where
  open p use {facts as f, run_report as told}

  abbrev command : Command
  command = command_at t.commands c

  abbrev cs : List Call
  cs = calls_after f told c command

  -- the calls: those before, and its own
  abbrev CallsSo : List Call → Type 0
  CallsSo xs = AreApart xs × AllByRecursion (λ (x : Call). x.command ≤ c) xs × ((d : ℕ) → (d == c) ≡ false → pends d xs ≡ pends d told.calls)

  calls_before : CallsSo told.calls
  calls_before = (now.pages.apart, all_weaker (λ (x : Call). x.command ≤ f.command) (λ (x : Call). x.command ≤ c) (λ x low. omega (arith, low, next)) told.calls now.pages.past, (λ d other. refl))

  abbrev new_call : ℕ → ℕ → Option Stmt → Call
  new_call node session text = call_of c node session text (has_transaction (node_at f node) session)

  calls_so : (x : Command) → CallsSo (calls_after f told c x)
  calls_so (commands.At node session text) = by (is_up f node && not (has_call told node session)) refl
    where
      made : (o : Option Stmt) (has : Bool) → let x : Call = call_of c node session o has in (x.command ≡ c) × (x.node ≡ node) × (x.session ≡ session)
      made None has = (refl, refl, refl)
      made (Some s) has = cond_both (commits_first s && has) _ _ (λ (d : Call). (d.command ≡ c) × (d.node ≡ node) × (d.session ≡ session)) (λ first. (refl, refl, refl)) (λ alone. (refl, refl, refl))

      free : (o : Option Call) → is_some o ≡ false → o ≡ None
      free None is = refl
      free (Some x) is = absurd cc

      by : (q : Bool) → (is_up f node && not (has_call told node session)) ≡ q → CallsSo (if is_up f node && not (has_call told node session) then told.calls ++ new_call node session text ∷ [] else told.calls)
      by false is = subst (λ q. CallsSo (if q then told.calls ++ new_call node session text ∷ [] else told.calls)) (sym is) calls_before
      by true is =
          let its = made text (has_transaction (node_at f node) session) in
          let none : call_at told node session ≡ None = free (call_at told node session) (not_true (has_call told node session) (and_parts (is_up f node) (not (has_call told node session)) is).1) in
          let alone : find (is_call_at (new_call node session text).node (new_call node session text).session) told.calls ≡ None = subst (λ n. find (is_call_at n (new_call node session text).session) told.calls ≡ None) (sym its.1) (subst (λ s. find (is_call_at node s) told.calls ≡ None) (sym its.2) none) in
          subst (λ q. CallsSo (if q then told.calls ++ new_call node session text ∷ [] else told.calls)) (sym is) (
            more_apart told.calls (new_call node session text) alone now.pages.apart,
            all_append (λ (x : Call). x.command ≤ c) told.calls (new_call node session text ∷ []) calls_before.1 (omega (arith, its.0), tt),
            λ d other. more_pends d told.calls (new_call node session text) ∙ (ap (λ q. pends d told.calls || q) (other_number (new_call node session text).command d (subst (λ n. (d == n) ≡ false) (sym its.0) other)) ∙ or_false (pends d told.calls)),
          )
        where
          not_true : (b : Bool) → not b ≡ true → b ≡ false
          not_true true is = absurd cc
          not_true false is = refl

          other_number : (n m : ℕ) → (m == n) ≡ false → (n == m) ≡ false
          other_number n m other = grind (arith, nat_tests, other)

          or_false : (b : Bool) → (b || false) ≡ b
          or_false true = refl
          or_false false = refl
  calls_so _ = calls_before

  pub calls_kept : (d : ℕ) → (d == c) ≡ false → pends d cs ≡ pends d told.calls
  calls_kept d other = (calls_so command).2 d other

  abbrev begun : RunReport
  begun = begins t.places f told c command

  says : SaysSo t f told f.command c now.pages.past next command
  says = says_so t f told f.command c now.pages.past next command refl

  pub begun_so : (shapes : AreShaped t.commands cs) → (g : Facts) → g.command ≡ c → ((n : ℕ) → is_up g n ≡ is_up f n) → OnceSo t (record { facts = g; run_report = begun })
  begun_so shapes g runs same_up = record {
    pages = subst (λ n. PagesSo t.places t.commands n begun) (sym runs) (record {
      shapes = shapes;
      apart = (calls_so command).0;
      past = (calls_so command).1;
      lines_below = all_below t.places t.commands f.command f refl told now.pages c (omega (arith, next));
      others_below = tt;
      sorted = tt;
      stops = tt;
      each = λ d one less.
          let low : d ≤ f.command = omega (arith, less, next) in
          let other : (d == c) ≡ false = grind (arith, nat_tests, less) in
          let once = each_once t p now between (omega (arith, one, low)) d one low in
          subst (λ q. EarlierIs t.places t.commands c (command_at t.commands d) q (said_of d (all_lines f told)) []) (sym ((calls_so command).2 d other)) (earlier (command_at t.commands d) (pends d told.calls) (said_of d (all_lines f told)) once);
      own = λ one. says.own;
    });
    silent = λ pending empty. Has_begun refl;
    starts = λ one none empty.
        let start = says.starts (subst (λ n. pends n cs ≡ false) runs none) empty in
        record { node = start.0; starts = ap (command_at t.commands) runs ∙ start.1; fresh = refl; off = same_up start.0 ∙ start.2 };
  }
    where
      earlier : (x : Command) (b : Bool) (xs : List Said) → AnswersOnce t.places x b xs → EarlierIs t.places t.commands c x b xs []
      earlier x false xs once = Was_answered xs once
      earlier x true xs (Waits beside told_beside) = Still_waits beside told_beside
