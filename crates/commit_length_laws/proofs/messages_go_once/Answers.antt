use Rattle.commit_length_laws.proofs.FewLemmas.{messages_go_once}
use Rattle.commit_length_laws.proofs.messages_go_once.Goals as goal

pub returns : goal.returns
returns c = messages_go_once
