use Rattle.disk_examples.proofs.messages.read_message_fits.Goals as goal

pub returns : goal.returns
returns c = c.read_messages_fit.ensures c.args.read.now c.args.msg.now c.requires.read c.requires.short
