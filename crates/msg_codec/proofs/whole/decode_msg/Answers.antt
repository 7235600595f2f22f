use Rattle.std.proofs.Common.{◌≡◌, ℕ, List, None, arith}
use Rattle.wire_msg.specs.declared.msg.Msg.{Msg}
use Rattle.msg_codec.specs.declared.wire_err.WireErr.TheVariants as wires
use Rattle.msg_codec.specs.Message.{IsMessage, message_of}
use Rattle.msg_codec.proofs.MessageLaws.{message_is_found, message_is_spelled}
use Rattle.msg_codec.proofs.whole.decode_msg.Goals as goal

pub returns-in-Ok-clause-found : goal.returns-in-Ok-clause-found
returns-in-Ok-clause-found c = message_is_spelled c.args.bytes.now c.in-Ok.msg (λ i. omega (arith, c.type_inv.bytes i)) c.in-Ok.ensures

-- bytes that spell a message are read as it
none_is_spelled : (bytes : List ℕ) → message_of bytes ≡ None → (m : Msg) → IsMessage m bytes → ⊥
none_is_spelled bytes none m h =
    let found = message_is_found bytes m h in
    absurd cc

pub returns-in-Err-clause-refused : goal.returns-in-Err-clause-refused
returns-in-Err-clause-refused c = λ h.
    let one : c.wire_err.result ≡ wires.NotAMessage = cc in
    none_is_spelled c.args.bytes.now (rw (c.wire_err.ensures.none one) at c.in-Err.ensures)
