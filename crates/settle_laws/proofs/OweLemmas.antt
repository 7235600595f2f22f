-- In a calm stretch what is so of the rows that know a commit, of nodes that have recovered, begins with each node's turn of RECO.
use Rattle.std.proofs.Common.{◌≡◌, true}
use Rattle.run_rules.specs.Lawful.{facts_at}
use Rattle.run_base_laws.proofs.EventsStandLemmas.{run_stands}
use Rattle.settle_laws.specs.Interval.{By_reco, By_message}
use Rattle.settle_laws.specs.OweLaws.{NoneIsOwed, RecoOwes, OthersOwe, ReleasesOwe}
use Rattle.settle_laws.proofs.OweRecoLemmas.{first_owed, reco_owed}
use Rattle.settle_laws.proofs.OweTurnLemmas.{others_owed}
use Rattle.settle_laws.proofs.OweForgottenLemmas.{forgotten_owed}

pub none_is_owed : NoneIsOwed
none_is_owed t whole = first_owed (facts_at t)

pub reco_owes : RecoOwes
reco_owes t whole u k may (By_reco uncut none reco) is R now = reco_owed t.places t.commands (facts_at t) (run_stands t whole).0.even u k may uncut none reco (λ n. R n ≡ true) now
reco_owes t whole u k may (By_message m y uncut none it took first) is R now = absurd (cc (it, is))

pub others_owe : OthersOwe
others_owe t whole u k may (By_reco uncut none reco) m it no_commit no_ack no_forgotten R now = absurd (cc (it, reco))
others_owe t whole u k may (By_message c y uncut none is took first) m it no_commit no_ack no_forgotten R now =
    others_owed t whole u k may uncut none m it y took no_commit no_ack no_forgotten (λ n. R n ≡ true) now

pub releases_owe : ReleasesOwe
releases_owe t whole u k may (By_reco uncut none reco) m it kind R now = absurd (cc (it, reco))
releases_owe t whole u k may (By_message c y uncut none is took first) m it kind R now = forgotten_owed t whole u k may uncut none m it kind y took (λ n. R n ≡ true) now
