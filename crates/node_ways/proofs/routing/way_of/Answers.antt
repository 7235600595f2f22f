-- The way by the catalog is the way by whatever else the records leave.
use Rattle.std.proofs.Common.{◌∙◌}
use Rattle.node_ways.proofs.CatalogLemmas.{way_of_listed}
use Rattle.node_ways.proofs.routing.way_of.Goals as goal

pub returns : goal.returns
returns c = λ d is. c.way_in.ensures ∙ way_of_listed c.args.place.now d c.args.catalog.now c.args.live.now c.args.given c.args.statement.now is
