use Rattle.commit_laws.proofs.StillLemmas.{undisturbed_messages_come}
use Rattle.commit_laws.proofs.undisturbed_messages_come.Goals as goal

pub returns : goal.returns
returns c = undisturbed_messages_come
