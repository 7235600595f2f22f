use Rattle.std.proofs.Common.{take}
use Rattle.std.specs.List.{All}
use Rattle.redo_codec.specs.Decision.{peer_format}
use Rattle.node_spell_laws.proofs.record.peers_fit.Given as goal

-- those so far have spellings
abbrev pub invariant-loop-peer : goal.invariant-loop-peer
invariant-loop-peer l = All peer_format.Fits (take l.peer-index l.peers)
