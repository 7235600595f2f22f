use Rattle.std.proofs.Common.{List, ℕ, ap, sym, ◌∙◌, ⊎_elim}
use Rattle.redo_log.specs.Cells.{held}
use Rattle.checkpoint.specs.Active.{second_leads}
use Rattle.checkpoint.proofs.Taken.{side_taken, none_first, none_second, none_empty}
use Rattle.checkpoint.proofs.laws.the_active_log_is_loaded.Goals as goal

pub returns-clause-taken : goal.returns-clause-taken
returns-clause-taken g c = λ first second logs list is one two.
    side_taken _ _ list logs.second_is_active is.loaded is.some
    (ap (λ (a : List ℕ). second_leads (held a) (held (g.D.Disk.content second))) (sym one.content)
    ∙ ap (λ (b : List ℕ). second_leads (held (g.D.Disk.content logs.first.disk)) (held b)) (sym two.content)
    ∙ is.paired.leads)

pub returns-clause-refused : goal.returns-clause-refused
returns-clause-refused g c = λ first second first_now second_now fails.
    ⊎_elim (λ one. none_first _ _ one.0.0) (λ others. ⊎_elim (λ two. none_second _ _ two.1.0) (λ empty. none_empty _ _ empty.first_empty empty.second_empty) others) fails
