-- What a command says as it begins: its answer, or nothing where its call is pending or a START comes next.
use Rattle.std.proofs.Common.{◌≡◌, ◌≢◌, ℕ, ◌+◌, ◌≤◌, ◌&&◌, ◌||◌, not, Bool, true, false, if◌then◌else◌, List, [], ◌∷◌, ◌++◌, Option, Some, None, inl, inr, refl, sym, ap, subst, ◌∙◌, arith}
use Rattle.std.specs.List.{AllByRecursion}
use Rattle.std.proofs.lemmas.Bool.{cond_both, eq-eqb}
use Rattle.node_rules.specs.Data.{Stmt}
use Rattle.node_rules.specs.Ids.{decimal}
use Rattle.node_rules.specs.Refusals.{dtx}
use Rattle.node_rules.specs.Words.{one}
use Rattle.net_bag.specs.Net.{may_deliver, may_repeat}
use Rattle.run_rules.specs.Commands.{if_up, is_enabled, has_call, has_transaction, says_at_once, call_of, calls_after, commits_first}
use Rattle.run_rules.specs.Data.{Command, Said}
use Rattle.run_rules.specs.Data.commands
use Rattle.run_rules.specs.Data.notices
use Rattle.run_rules.specs.Data.said
use Rattle.run_rules.specs.Facts.{Facts, command_at, is_up, node_at}
use Rattle.run_rules.specs.Lawful.{History}
use Rattle.run_rules.specs.Lines.{is_down, refuses_with}
use Rattle.run_rules.specs.RunReport.{Call, RunReport, node_name}
use Rattle.answer_once_laws.specs.OnceLaws.{Node_is_down, IsAnswer, Ends_pending_call, Is_fine, Is_refused, Is_shown, At_once}
use Rattle.answer_once_laws.proofs.CallListLemmas.{pends, more_pends, past_pends}
use Rattle.answer_once_laws.proofs.PageLemmas.{IsStart, OwnIs}

module _ (t : History) (f : Facts) (told : RunReport) (r c : ℕ) (past : AllByRecursion (λ (x : Call). x.command ≤ r) told.calls) (next : c ≡ r + 1) where
  abbrev none_yet : Type 0
  none_yet = pends c told.calls ≡ false

  none_pends : none_yet
  none_pends = past_pends r c told.calls past (omega (arith, next))

  -- what it says, by whether its call is pending
  pub record SaysSo (command : Command) : Type 0 where
    pub own : OwnIs t.places t.commands c (pends c (calls_after f told c command)) (says_at_once t.places f told command)
    pub starts : pends c (calls_after f told c command) ≡ false → says_at_once t.places f told command ≡ [] → (n : ℕ) × (command ≡ commands.Start n) × (is_up f n ≡ false)

  module _ (command : Command) (named : command_at t.commands c ≡ command) where
    -- it is answered at once, and makes no call
    at_once : (a : Said) → calls_after f told c command ≡ told.calls → says_at_once t.places f told command ≡ a ∷ [] → IsAnswer t.places command a → SaysSo command
    at_once a calls says answer = record {
      own = subst (λ q. OwnIs t.places t.commands c q (says_at_once t.places f told command)) (sym (ap (pends c) calls ∙ none_pends))
          (subst (OwnIs t.places t.commands c false) (sym says) (inr (At_once a [] (subst (λ x. IsAnswer t.places x a) (sym named) answer) tt)));
      starts = λ none empty. absurd (cc (says, empty));
    }

    up_or : (n : ℕ) (a : Said) → calls_after f told c command ≡ told.calls → says_at_once t.places f told command ≡ if_up t.places f n (a ∷ []) → IsAnswer t.places command a → SaysSo command
    up_or n a calls says answer = by (is_up f n) refl
      where
        by : (q : Bool) → is_up f n ≡ q → SaysSo command
        by true up = at_once a calls (says ∙ ap (λ b. if b then a ∷ [] else is_down t.places n ∷ []) up) answer
        by false down = at_once (is_down t.places n) calls (says ∙ ap (λ b. if b then a ∷ [] else is_down t.places n ∷ []) down) (Ends_pending_call (is_down t.places n) (Node_is_down n))

  module _ (node session : ℕ) (text : Option Stmt) (named : command_at t.commands c ≡ commands.At node session text) where
    abbrev at : Command
    at = commands.At node session text

    abbrev pub new : Call
    new = call_of c node session text (has_transaction (node_at f node) session)

    pub made_command : (o : Option Stmt) (has : Bool) → (call_of c node session o has).command ≡ c
    made_command None has = refl
    made_command (Some s) has = cond_both (commits_first s && has) _ _ (λ (d : Call). d.command ≡ c) (λ first. refl) (λ alone. refl)

    abbrev refusal : Said
    refusal = refuses_with (dtx 4 [])

    says_call : SaysSo at
    says_call = by (is_up f node) (has_call told node session) refl refl
      where
        calls_by : (up has : Bool) → is_up f node ≡ up → has_call told node session ≡ has → calls_after f told c at ≡ (if up && not has then told.calls ++ new ∷ [] else told.calls)
        calls_by up has is_up_so has_so = ap (λ q. if q && not (has_call told node session) then told.calls ++ new ∷ [] else told.calls) is_up_so ∙ ap (λ q. if up && not q then told.calls ++ new ∷ [] else told.calls) has_so

        says_by : (up has : Bool) → is_up f node ≡ up → has_call told node session ≡ has → says_at_once t.places f told at ≡ (if up then (if has then refusal ∷ [] else []) else is_down t.places node ∷ [])
        says_by up has is_up_so has_so = ap (λ q. if q then (if has_call told node session then refusal ∷ [] else []) else is_down t.places node ∷ []) is_up_so ∙ ap (λ q. if up then (if q then refusal ∷ [] else []) else is_down t.places node ∷ []) has_so

        by : (up has : Bool) → is_up f node ≡ up → has_call told node session ≡ has → SaysSo at
        by true true is_up_so has_so =
            at_once at named refusal (calls_by true true is_up_so has_so) (says_by true true is_up_so has_so) (Is_refused 4 [] (λ is. cc))
        by true false is_up_so has_so =
            let pending : pends c (calls_after f told c at) ≡ true = ap (pends c) (calls_by true false is_up_so has_so) ∙ (more_pends c told.calls new ∙ or_true (pends c told.calls) (eq-eqb new.command c (made_command text (has_transaction (node_at f node) session)))) in
            let says : says_at_once t.places f told at ≡ [] = says_by true false is_up_so has_so in
            record {
              own = subst (λ q. OwnIs t.places t.commands c q (says_at_once t.places f told at)) (sym pending) (inl says);
              starts = λ none empty. absurd (cc (none, pending));
            }
          where
            or_true : (a : Bool) {b : Bool} → b ≡ true → (a || b) ≡ true
            or_true true is = refl
            or_true false is = is
        by false has is_up_so has_so = at_once at named (is_down t.places node) (calls_by false has is_up_so has_so) (says_by false has is_up_so has_so) (Ends_pending_call (is_down t.places node) (Node_is_down node))

  -- ok, or a refusal of the run
  abbrev ok : Said
  ok = said.World notices.Fine

  module _ (command : Command) (named : command_at t.commands c ≡ command) (calls : calls_after f told c command ≡ told.calls) (number : ℕ) (words : List (List ℕ)) (other : number ≢ 5) where
    ok_or : (q : Bool) → says_at_once t.places f told command ≡ (if q then ok ∷ [] else refuses_with (dtx number words) ∷ []) → SaysSo command
    ok_or true says = at_once command named ok calls says Is_fine
    ok_or false says = at_once command named (refuses_with (dtx number words)) calls says (Is_refused number words other)

    up_ok_or : (n : ℕ) (q : Bool) → says_at_once t.places f told command ≡ if_up t.places f n (if q then ok ∷ [] else refuses_with (dtx number words) ∷ []) → SaysSo command
    up_ok_or n true says = up_or command named n ok calls says Is_fine
    up_ok_or n false says = up_or command named n (refuses_with (dtx number words)) calls says (Is_refused number words other)

  abbrev up_already : ℕ → Said
  up_already n = refuses_with (dtx 13 (one (node_name t.places n)))

  say_start : (n : ℕ) → command_at t.commands c ≡ commands.Start n → SaysSo (commands.Start n)
  say_start n named = by (is_up f n) refl
    where
      by : (q : Bool) → is_up f n ≡ q → SaysSo (commands.Start n)
      by true up = at_once (commands.Start n) named (up_already n) refl (ap (λ b. if b then up_already n ∷ [] else []) up) (Is_refused 13 (one (node_name t.places n)) (λ is. cc))
      by false down =
          let says : says_at_once t.places f told (commands.Start n) ≡ [] = ap (λ b. if b then up_already n ∷ [] else []) down in
          record {
            own = subst (λ q. OwnIs t.places t.commands c q (says_at_once t.places f told (commands.Start n))) (sym none_pends) (inl (says, subst IsStart (sym named) tt));
            starts = λ none empty. (n, refl, down);
          }

  pub says_so : (command : Command) → command_at t.commands c ≡ command → SaysSo command
  says_so (commands.At node session text) named = says_call node session text named
  says_so (commands.Lose k) named = ok_or (commands.Lose k) named refl 11 (one (decimal k)) (λ is. cc) (may_deliver f.net k) refl
  says_so (commands.Stop n) named = up_or (commands.Stop n) named n ok refl refl Is_fine
  says_so (commands.Start n) named = say_start n named
  says_so (commands.Deliver k) named = ok_or (commands.Deliver k) named refl 11 (one (decimal k)) (λ is. cc) (may_deliver f.net k) refl
  says_so (commands.Again k) named = ok_or (commands.Again k) named refl 11 (one (decimal k)) (λ is. cc) (may_repeat f.net k) refl
  says_so (commands.GiveUp n session) named = up_ok_or (commands.GiveUp n session) named refl 14 [] (λ is. cc) n (has_call told n session) refl
  says_so (commands.Reco n) named = up_ok_or (commands.Reco n) named refl 12 [] (λ is. cc) n (is_enabled (node_at f n)) refl
  says_so (commands.ShowPending n) named = up_or (commands.ShowPending n) named n _ refl refl (Is_shown f refl)
  says_so (commands.ShowNeighbors n) named = up_or (commands.ShowNeighbors n) named n _ refl refl (Is_shown f refl)
  says_so commands.ShowBook named = at_once commands.ShowBook named _ refl refl (Is_shown f refl)
  says_so commands.ShowNet named = at_once commands.ShowNet named _ refl refl (Is_shown f refl)
  says_so (commands.ShowDisk n) named = at_once (commands.ShowDisk n) named _ refl refl (Is_shown f refl)
  says_so (commands.ShowUndo n) named = up_or (commands.ShowUndo n) named n _ refl refl (Is_shown f refl)
  says_so (commands.Node name strength links undo) named = at_once (commands.Node name strength links undo) named ok refl refl Is_fine
  says_so (commands.Cut a b) named = at_once (commands.Cut a b) named ok refl refl Is_fine
  says_so (commands.Join a b) named = at_once (commands.Join a b) named ok refl refl Is_fine
  says_so (commands.LoseNext kind from to) named = at_once (commands.LoseNext kind from to) named ok refl refl Is_fine
  says_so (commands.Crash n write how) named = at_once (commands.Crash n write how) named ok refl refl Is_fine
  says_so (commands.Fault n call) named = at_once (commands.Fault n call) named ok refl refl Is_fine
  says_so (commands.Hold on) named = at_once (commands.Hold on) named ok refl refl Is_fine
  says_so (commands.Pump most) named = at_once (commands.Pump most) named ok refl refl Is_fine
