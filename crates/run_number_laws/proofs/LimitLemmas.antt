-- In the run of a script, as far as it has few happenings, numbers are below the limits of a turn, and each node starts seldom.
use Rattle.std.proofs.Common.{◌≡◌, ℕ, ◌+◌, ◌-◌, ◌^◌, ◌<◌, ◌≤◌, length, max, Some, sym, subst, arith}
use Rattle.std.specs.List.{AllByRecursion}
use Rattle.node_rules.specs.NodeState.{NodeState}
use Rattle.node_rules.specs.Turn.{kind_scn}
use Rattle.node_core.specs.Able.{given_limit}
use Rattle.node_ready_laws.specs.Ready.{IsWithin}
use Rattle.run_rules.specs.Facts.{node_at, records_at}
use Rattle.run_rules.specs.RunReport.{start}
use Rattle.run_rules.specs.Lawful.{boots, History, facts_at}
use Rattle.run_rules.specs.Reported.{past_of}
use Rattle.run_rules.specs.Scripts.{TheRunIsLawful}
use Rattle.run_rules.proofs.FactLemmas.{facts_are}
use Rattle.run_rules.proofs.ListLemmas.{all_weaker}
use Rattle.run_trace.specs.Recorded.{happening_limit}
use Rattle.run_number_laws.specs.Numbers.{IsToldWithin, NumbersAreWithin, MessagesAreWithin, DisksAreWithin, StartsAreCounted, IsBelowLimits, NumbersAreBelowLimits, MessagesAreBelowLimits, StartsSeldom, EachStartsSeldom}

-- numbers within few are below the limits
below : (n : ℕ) (k : NodeState) → n ≤ happening_limit → IsWithin n k → IsBelowLimits k
below n k few is = record {
  opens = omega (arith, few, is.opens);
  seqs = all_weaker (λ s. s.seq ≤ n) (λ s. s.seq ≤ given_limit) (λ s le. omega (arith, few, le)) k.sessions is.seqs;
  calls = all_weaker (λ w. AllByRecursion (λ c. c ≤ n) w.calls) (λ w. AllByRecursion (λ c. c ≤ given_limit) w.calls)
      (λ w all. all_weaker (λ c. c ≤ n) (λ c. c ≤ given_limit) (λ c le. omega (arith, few, le)) w.calls all) k.works is.calls;
  clock = omega (arith, few, is.clock);
}

-- the facts of a run are those of its happenings
pub same_facts : (t : History) → (past_of t).facts ≡ facts_at t
same_facts t = facts_are t.places t.commands (start t.places) t.trace

module _ (lawful : TheRunIsLawful) where
  pub numbers_are_below : NumbersAreWithin → NumbersAreBelowLimits
  numbers_are_below within t few run n k up = below (length t.trace) k few (within t (lawful t run) n k (subst (λ f. node_at f n ≡ Some k) (same_facts t) up))

  pub messages_are_below : MessagesAreWithin → MessagesAreBelowLimits
  messages_are_below within t few run =
      subst (λ f. AllByRecursion (λ x. max x.msg.scn (kind_scn x.msg.kind) < 2 ^ 48 - 1) f.net.packets) (sym (same_facts t))
      (all_weaker (λ x. IsToldWithin (length t.trace) x.msg) (λ x. max x.msg.scn (kind_scn x.msg.kind) < 2 ^ 48 - 1) (λ x le. omega (arith, few, le)) (facts_at t).net.packets (within t (lawful t run)))

  pub each_starts_seldom : StartsAreCounted → DisksAreWithin → EachStartsSeldom
  each_starts_seldom counted within t few run n =
      let starts : boots (records_at (facts_at t) n) ≤ length t.trace + 1 = (within t (lawful t run) n).starts in
      subst (λ f. StartsSeldom (records_at f n)) (sym (same_facts t)) (record { counted = counted t (lawful t run) n; few = omega (arith, few, starts) })
