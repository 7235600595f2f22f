use Rattle.msg_codec.proofs.MessageLaws.{read_message_fits}
use Rattle.msg_codec.proofs.laws.read_messages_fit.Goals as goal

pub returns : goal.returns
returns c = read_message_fits
