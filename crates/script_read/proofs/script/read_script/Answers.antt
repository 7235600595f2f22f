use Rattle.script_read.proofs.SoundLaws.{sound_of, spelled_of, bad_of}
use Rattle.script_read.proofs.script.read_script.Goals as goal

pub returns-clause-spelled : goal.returns-clause-spelled
returns-clause-spelled c = spelled_of c.args.bytes.now c.commands_in.result c.commands_in.ensures

pub returns-clause-bad : goal.returns-clause-bad
returns-clause-bad c = bad_of c.args.bytes.now c.commands_in.result c.commands_in.ensures

pub returns-clause-sound : goal.returns-clause-sound
returns-clause-sound c = sound_of c.args.bytes.now c.commands_in.result c.commands_in.ensures
