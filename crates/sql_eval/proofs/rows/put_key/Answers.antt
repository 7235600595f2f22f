use Rattle.std.proofs.Common.{◌∙◌}
use Rattle.sql_eval.proofs.PutLemmas.{key_is_put}
use Rattle.sql_eval.proofs.rows.put_key.Goals as goal

pub returns : goal.returns
returns c = c.in_ok-insert.ensures.keys ∙ key_is_put c.args.keys.now.keys c.args.key
