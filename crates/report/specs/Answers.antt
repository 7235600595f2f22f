-- The lines of answers, those of nodes and those of the run. What was done is reported in the words of SQL*Plus
-- (SQL*Plus User's Guide and Reference).
use Rattle.std.specs.Prelude.{ℕ, List, [], ◌∷◌, codes}
use Rattle.dtx_values.specs.declared.answer.Done.{Done}
use Rattle.dtx_values.specs.declared.answer.Done.TheVariants as dones
use Rattle.dtx_values.specs.declared.answer.Answer.{Answer}
use Rattle.dtx_values.specs.declared.answer.Answer.TheVariants as answers
use Rattle.dtx_values.specs.declared.answer.Notice.{Notice}
use Rattle.dtx_values.specs.declared.answer.Notice.TheVariants as notices
use Rattle.report.specs.Rows.{counted, rows_text}
use Rattle.report.specs.Refusals.{refusal_text}

-- what was done
abbrev pub done_text : Done → ℕ → List ℕ
done_text dones.Created n = counted n (codes "created.")
done_text dones.Updated n = counted n (codes "updated.")
done_text dones.Deleted n = counted n (codes "deleted.")
done_text dones.Committed n = codes "Commit complete."
done_text dones.RolledBack n = codes "Rollback complete."
done_text dones.TableMade n = codes "Table created."
done_text dones.LinkMade n = codes "Database link created."
done_text dones.SynonymMade n = codes "Synonym created."
done_text dones.SessionAltered n = codes "Session altered."
done_text dones.SystemAltered n = codes "System altered."
done_text dones.Purged n = codes "PL/SQL procedure successfully completed."
done_text dones.TransactionSet n = codes "Transaction set."
done_text dones.SavepointMade n = codes "Savepoint created."

-- the lines of a node's answer
abbrev pub answer_text : Answer → List (List ℕ)
answer_text (answers.Did d n) = done_text d n ∷ []
answer_text (answers.Found found) = rows_text found
answer_text (answers.Refused r) = refusal_text r ∷ []

-- the lines of an answer that the run gives in a node's place
abbrev pub notice_text : Notice → List (List ℕ)
notice_text notices.Fine = codes "ok" ∷ []
notice_text notices.Waiting = codes "waiting" ∷ []
notice_text (notices.Refused r) = refusal_text r ∷ []
notice_text (notices.Shown lines) = lines
