-- At each key that is not in doubt a node of a lawful run has the row of the book.
use Rattle.std.proofs.Common.{◌≡◌, false, List, sym, ap, subst, ◌∙◌}
use Rattle.std.specs.List.{list_any}
use Rattle.node_rules.specs.Rows.{same_value, get}
use Rattle.run_rules.specs.Data.{Entry}
use Rattle.run_rules.specs.Book.{rows_of}
use Rattle.run_rules.specs.Entries.{book_of}
use Rattle.run_rules.specs.Facts.{first_facts}
use Rattle.run_rules.specs.Lawful.{History, facts_at}
use Rattle.run_rules.specs.Runs.{keys_in_doubt}
use Rattle.run_key_laws.proofs.BookRunLemmas.{rows_are_told}
use Rattle.run_rules.proofs.FactLemmas.{book_is}
use Rattle.book_laws.specs.RowLaws.{OrdersAgree, RowsAgree}
use Rattle.book_laws.proofs.FreeLemmas.{entries_come}
use Rattle.book_laws.proofs.StandLemmas.{rows_same}

-- the book of a run is that of its trace
pub run_book : (t : History) → (facts_at t).book ≡ book_of t.trace
run_book t = book_is t.places t.commands (first_facts t.places) t.trace

pub orders_agree : OrdersAgree
orders_agree t lawful n table key none = rows_same n table key (book_of t.trace) none (entries_come t lawful n table key)

pub rows_agree : RowsAgree
rows_agree t lawful n k up table key none =
    let doubtless : list_any (same_value key) (keys_in_doubt (book_of t.trace) n table) ≡ false = subst (λ (book : List Entry). list_any (same_value key) (keys_in_doubt book n table) ≡ false) (run_book t) none in
    ap (λ rows. get rows key) (rows_are_told t lawful n k up table)
    ∙ (orders_agree t lawful n table key doubtless ∙ ap (λ book. get (rows_of book n table) key) (sym (run_book t)))
