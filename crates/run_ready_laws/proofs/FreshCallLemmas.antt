-- Which calls that are told were not made yet: the one that comes next, or that of the command that runs.
use Rattle.std.proofs.Common.{◌≡◌, ℕ, ◌==◌, ◌&&◌, ◌||◌, not, Bool, true, false, List, find, Option, Some, None, refl, sym, ap, subst, ◌∙◌, arith}
use Rattle.node_rules.specs.Data.{Stmt}
use Rattle.run_rules.specs.Data.{Command}
use Rattle.run_rules.specs.Data.commands
use Rattle.run_rules.specs.Facts.{Facts, command_at}
use Rattle.run_rules.specs.RunReport.{RunReport, Call}
use Rattle.run_rules.specs.Calls.{is_call_at, call_at}
use Rattle.run_rules.specs.Lawful.{NothingComesFirst}
use Rattle.run_ready_laws.proofs.CallEndLemmas.{same_number}
use Rattle.run_ready_laws.proofs.DueLemmas.{MakesNoCall}
use Rattle.run_ready_laws.proofs.PendingLemmas.{IsOf, follows_at, found_so, at_parts}
use Rattle.run_ready_laws.proofs.StandCallLemmas.{is_own, is_fresh, CallsStand}
use Rattle.run_ready_laws.proofs.OtherStandLemmas.{IsQuiet}

module _ (asked : List Command) (count : ℕ) (f : Facts) (t : RunReport) (stand : CallsStand asked count f t) where
  own_false : (n s : ℕ) (o : Option Call) → find (is_call_at n s) t.calls ≡ o → MakesNoCall f t (command_at asked f.command) → is_own f.command o ≡ false
  own_false n s None is none = refl
  own_false n s (Some d) is none = by (d.command == f.command) refl
    where
      found : IsOf asked f.command d × (is_call_at n s d ≡ true)
      found = found_so (IsOf asked f.command) (is_call_at n s) t.calls d stand.of is

      by : (q : Bool) → (d.command == f.command) ≡ q → q ≡ false
      by false other = refl
      by true mine =
          let parts = at_parts n s d found.1 in
          let command : command_at asked f.command ≡ commands.At d.node d.session found.0.text = ap (command_at asked) (sym (same_number d.command f.command mine)) ∙ found.0.command in
          let no : MakesNoCall f t (commands.At d.node d.session found.0.text) = subst (MakesNoCall f t) command none in
          let at : call_at t d.node d.session ≡ Some d = subst (λ i. find (is_call_at i d.session) t.calls ≡ Some d) (sym parts.0) (subst (λ i. find (is_call_at n i) t.calls ≡ Some d) (sym parts.1) is) in
          sym mine ∙ no d at

  -- none but the next one, where the command that runs makes none
  pub quiet_beside : t.next_call ≡ None → (t.acted ≡ false → MakesNoCall f t (command_at asked f.command)) → IsQuiet f t
  quiet_beside alone none n s = by t.acted refl
    where
      by : (q : Bool) → t.acted ≡ q → (follows_at t.next_call n s || (not q && is_own f.command (find (is_call_at n s) t.calls))) ≡ follows_at t.next_call n s
      by true acted = grind (arith, acted)
      by false acted = let own : is_own f.command (find (is_call_at n s) t.calls) ≡ false = own_false n s (find (is_call_at n s) t.calls) refl (none acted) in grind (arith, own)

  -- nor while something is to be told
  pub quiet_acted : t.acted ≡ true → IsQuiet f t
  quiet_acted acted n s = grind (arith, acted)

  pub acted_by : (q : Bool) → t.acted ≡ q → (NothingComesFirst f × (t.start_to_stop ≡ None) × (t.next_call ≡ None) → ⊥) → t.acted ≡ true
  acted_by true is busy = is
  acted_by false is busy = absurd (busy (stand.fresh is))

  -- the call that comes next is the one
  pub fresh_next : (c : Call) → t.next_call ≡ Some c → (n s : ℕ) → is_fresh f.command t n s ≡ ((c.node == n) && (c.session == s))
  fresh_next c is n s =
      let acted : t.acted ≡ true = acted_by t.acted refl (λ all. (let none = all.2 in absurd (cc (none, is)))) in quiet_acted acted n s ∙ ap (λ o. follows_at o n s) is

  -- so is the command's own
  pub fresh_own : (c : Call) (node session : ℕ) (s : Option Stmt) → t.next_call ≡ None → t.acted ≡ false → command_at asked f.command ≡ commands.At node session s → call_at t node session ≡ Some c
      → (c.command == f.command) ≡ true → (n q : ℕ) → is_fresh f.command t n q ≡ ((c.node == n) && (c.session == q))
  fresh_own c node session s alone fresh command at mine n q =
      let first : is_fresh f.command t n q ≡ is_own f.command (find (is_call_at n q) t.calls) = ap (λ o. follows_at o n q || (not t.acted && is_own f.command (find (is_call_at n q) t.calls))) alone ∙ ap (λ a. false || (not a && is_own f.command (find (is_call_at n q) t.calls))) fresh in
      first ∙ by ((c.node == n) && (c.session == q)) refl (find (is_call_at n q) t.calls) refl
    where
      its : (c.node ≡ node) × (c.session ≡ session)
      its = at_parts node session c (found_so (IsOf asked f.command) (is_call_at node session) t.calls c stand.of at).1

      by : (b : Bool) → is_call_at n q c ≡ b → (o : Option Call) → find (is_call_at n q) t.calls ≡ o → is_own f.command o ≡ b
      by true here o is =
          let parts = at_parts n q c here in
          let same : find (is_call_at n q) t.calls ≡ Some c = subst (λ i. find (is_call_at i q) t.calls ≡ Some c) (sym its.0 ∙ parts.0) (subst (λ i. find (is_call_at node i) t.calls ≡ Some c) (sym its.1 ∙ parts.1) at) in
          ap (is_own f.command) (sym is ∙ same) ∙ mine
      by false here None is = refl
      by false here (Some d) is = other (d.command == f.command) refl
        where
          found : IsOf asked f.command d × (is_call_at n q d ≡ true)
          found = found_so (IsOf asked f.command) (is_call_at n q) t.calls d stand.of is

          other : (b : Bool) → (d.command == f.command) ≡ b → b ≡ false
          other false is = refl
          other true own =
              let it : commands.At d.node d.session found.0.text ≡ commands.At node session s = sym found.0.command ∙ (ap (command_at asked) (same_number d.command f.command own) ∙ command) in
              let d_node : d.node ≡ node = cc in
              let d_session : d.session ≡ session = cc in
              let same : is_call_at n q c ≡ is_call_at n q d = ap (λ i. (i == n) && (c.session == q)) (its.0 ∙ sym d_node) ∙ ap (λ i. (d.node == n) && (i == q)) (its.1 ∙ sym d_session) in
              absurd (let yes = found.1 in cc (same, here, yes))
