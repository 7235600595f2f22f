use Rattle.std.proofs.Common.{◌≡◌, fold, take}
use Rattle.net_bag.specs.declared.packet.Fate.TheVariants as fates
use Rattle.net_bag.specs.Numbered.{met_at}
use Rattle.net_bag.proofs.flights.Flights.lose.Given as goal

abbrev pub invariant-loop-number : goal.invariant-loop-number
invariant-loop-number l = l.self ≡ fold (met_at fates.Lost) l.initial.self (take l.number-index l.numbers)
