use Rattle.std.proofs.Common.{take, sym, subst}
use Rattle.std.proofs.lemmas.List.{take_all}
use Rattle.std.proofs.lemmas.List.Elements.{All-more, All-same, recursion_from_All}
use Rattle.redo_codec.specs.Decision.{peer_format}
use Rattle.node_spell_laws.proofs.record.peers_fit.Goals as goal

pub loop-peer-preserved : goal.loop-peer-preserved
loop-peer-preserved c =
    All-more peer_format.Fits c.args.peers.now c.loop-peer.peer-index c.peer-item.result c.loop-peer-test.true c.loop-peer.invariant (subst peer_format.Fits c.peer-item.is c.peer_fits.ensures)

pub returns : goal.returns
returns c =
    recursion_from_All peer_format.Fits c.args.peers.now (All-same peer_format.Fits c.args.peers.now (take c.loop-peer.peer-index c.args.peers.now) (sym (take_all c.loop-peer.peer-index c.args.peers.now c.loop-peer-test.false)) c.loop-peer.invariant)
