-- The world after a start.
use Rattle.std.proofs.Common.{◌≡◌, ◌+◌, ℕ, true, false, List, Some, None, refl}
use Rattle.node_rules.specs.Data.{Place}
use Rattle.node_rules.specs.Words.{set_numbered}
use Rattle.node_rules.specs.Turn.{start_of}
use Rattle.run_rules.specs.Data.{Command}
use Rattle.run_rules.specs.Data.happenings
use Rattle.net_bag.specs.Net.{started}
use Rattle.run_rules.specs.Disks.{Strike, struck}
use Rattle.run_rules.specs.Facts.{facts_after, records_at, with_boot}
use Rattle.run_rules.specs.Lawful.{boots}
use Rattle.run_rules.specs.RunReport.{Past, orders_at}
use Rattle.run_rules.specs.Past.{acts, next, report_started}
use Rattle.run_rules.specs.Due.{Starts, comes_next, due_of}

module _ (places : List Place) (commands : List Command) where
  pub next_started : (p : Past) (n boot : ℕ) → next places commands p (happenings.Started n boot)
      ≡ record {
        facts = record p.facts { nodes = set_numbered p.facts.nodes n (Some (start_of (with_boot p.facts n boot))); records = set_numbered p.facts.records n (with_boot p.facts n boot); net = started p.facts.net n };
        run_report = acts (report_started places p.run_report n (struck 3 (orders_at p.run_report n)));
      }
  unfolding next facts_after
  next_started p n boot = refl

  -- a start that is due comes next where no order strikes it before its record stands
  pub starts_next : (p : Past) (n : ℕ) → due_of commands p ≡ Starts n → struck 3 (orders_at p.run_report n) ≡ None → comes_next places commands p ≡ Some (happenings.Started n (boots (records_at p.facts n) + 1))
  starts_next p n due none = rw (due, none) refl

  pub struck_starts_next : (p : Past) (n : ℕ) (s : Strike) → due_of commands p ≡ Starts n → struck 3 (orders_at p.run_report n) ≡ Some s → s.stands ≡ true
      → comes_next places commands p ≡ Some (happenings.Started n (boots (records_at p.facts n) + 1))
  struck_starts_next p n s due strike stands = rw (due, strike, stands) refl

  -- and else its node stays down
  pub failed_starts_next : (p : Past) (n : ℕ) (s : Strike) → due_of commands p ≡ Starts n → struck 3 (orders_at p.run_report n) ≡ Some s → s.stands ≡ false → comes_next places commands p ≡ Some (happenings.Stopped n)
  failed_starts_next p n s due strike stands = rw (due, strike, stands) refl

pub ruleset start_steps = (next_started, starts_next, struck_starts_next, failed_starts_next)
