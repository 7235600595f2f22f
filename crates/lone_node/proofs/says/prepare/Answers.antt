use Rattle.lone_node.proofs.SaidLemmas.{prepare_said}
use Rattle.lone_node.proofs.says.prepare.Goals as goal

-- src/says.rt:141:1
pub returns : goal.returns
returns c = prepare_said c.args.site_below c.new-comment.result c.new-comment.ensures
