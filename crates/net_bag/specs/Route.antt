-- What a cut and a stop lose: the messages over a pair, and those to a node.
use Rattle.std.specs.Prelude.{Bool, if◌then◌else◌}
use Rattle.net_bag.specs.declared.packet.Fate.TheVariants as fates
use Rattle.net_bag.specs.declared.packet.Packet.{Packet}
use Rattle.net_bag.specs.declared.route.Route.{Route}
use Rattle.net_bag.specs.declared.route.Route.TheVariants as routes
use Rattle.net_bag.specs.Net.{fated, goes_over, goes_to}

-- whether a message takes this route
abbrev pub takes : Route → Packet → Bool
takes (routes.Over a b) = goes_over a b
takes (routes.To n) = goes_to n

-- a message that takes this route is lost, if it is in flight
abbrev pub lost_along : Route → Packet → Packet
lost_along route x = if takes route x then fated fates.Lost x else x
