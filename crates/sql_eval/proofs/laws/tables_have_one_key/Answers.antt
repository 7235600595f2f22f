use Rattle.sql_eval.proofs.TableLaws.{tables_have_one_key}
use Rattle.sql_eval.proofs.laws.tables_have_one_key.Goals as goal

pub returns : goal.returns
returns c = tables_have_one_key
