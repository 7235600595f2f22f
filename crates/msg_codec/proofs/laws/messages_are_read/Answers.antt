use Rattle.msg_codec.proofs.MessageLaws.{message_is_written, message_again, message_is_found, message_is_spelled, one_message, written_once}
use Rattle.msg_codec.proofs.laws.messages_are_read.Goals as goal

pub returns : goal.returns
returns c = record {
  written = message_is_written;
  again = message_again;
  found = message_is_found;
  spelled = message_is_spelled;
  one = one_message;
  differ = written_once;
}
