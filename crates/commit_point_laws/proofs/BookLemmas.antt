-- In every lawful run a branch that decided has its decision in the book.
use Rattle.std.proofs.Common.{◌≡◌, ℕ, List, Some, sym, subst}
use Rattle.agreement.specs.Events.{Decided, exit}
use Rattle.node_rules.specs.Data.{BranchId, Change}
use Rattle.run_rules.specs.Book.{At}
use Rattle.run_rules.specs.Data.entries
use Rattle.run_rules.specs.Lawful.{History, IsLawfulRun, facts_at}
use Rattle.run_base_laws.specs.RunEvents.{events_of}
use Rattle.tree_laws.specs.Forests.{forest_of}
use Rattle.tree_laws.proofs.MoreLemmas.{events_lawful}
use Rattle.commit_point_laws.proofs.BookEndLemmas.{decided_in, run_book}

pub decided_stands : (t : History) (whole : IsLawfulRun t) (b : BranchId) (n : ℕ) → exit (events_of t) b ≡ Some (Decided n)
    → (ds : List Change) × (j : ℕ) × At (facts_at t).book j (entries.Decided b ((forest_of t).root b) ds n)
decided_stands t whole b n is =
    let it = decided_in (forest_of t) (events_of t) (events_lawful t whole) b n is in
    (it.0, it.1, subst (λ es. At es it.1 (entries.Decided b ((forest_of t).root b) it.0 n)) (sym (run_book t)) it.2)
