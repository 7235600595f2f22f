-- The laws of rows and of the forget phase, tried on the run of two nodes: before B's Ack comes to A, the site, before A's
-- Forgotten comes to B, and at the end.
use Rattle.std.specs.Prelude.{◌≡◌, ℕ, true, false, List, [], ◌∷◌, map, flat_map, take, Option, Some, None}
use Rattle.commit_forget.specs.Beyond.{beyond}
use Rattle.node_rules.specs.Data.{KeptRow}
use Rattle.node_rules.specs.NodeState.{NodeState}
use Rattle.run_rules.specs.Facts.{Facts, first_facts, node_at, facts_of}
use Rattle.run_base_laws.specs.InTurnLaws.{said_in}
use Rattle.run_branch_laws.specs.TriedRun as tried
use Rattle.run_branch_laws.specs.WalkLaws.{was_sent}
use Rattle.commit_forget_laws.specs.RowLaws.{is_ack}
use Rattle.commit_forget_laws.specs.ForgetLaws.{is_forgotten}

-- what the first happenings of that run leave
abbrev pub facts_by : ℕ → Facts
facts_by count = facts_of tried.places [] (first_facts tried.places) (take count tried.trace)

-- the rows of a node that is up
abbrev pub rows_in : Option NodeState → List KeptRow
rows_in None = []
rows_in (Some k) = k.stored.durable.kept

-- the rows that they leave at a node
abbrev pub rows_by : ℕ → ℕ → List KeptRow
rows_by count node = rows_in (node_at (facts_by count) node)

-- B has nobody beyond, and said Ack as it learned the commit. A waits for it, has no row once it came, and told B Forgotten.
-- B has its row until that comes.
pub record TheTriedForget : Type 0 where
  pub beyond_a : flat_map beyond (rows_by 13 1) ≡ (record { branch = tried.b; acked = false; is_parent = false }) ∷ []
  pub beyond_b : flat_map beyond (rows_by 13 2) ≡ []
  pub acked : was_sent is_ack (said_in (facts_by 13)) tried.b tried.a ≡ true
  pub forgot : rows_by 14 1 ≡ []
  pub told : was_sent is_forgotten (said_in (facts_by 14)) tried.a tried.b ≡ true
  pub waits : map (λ s. s.me) (rows_by 14 2) ≡ tried.b ∷ []
  pub gone : rows_by 15 2 ≡ []
