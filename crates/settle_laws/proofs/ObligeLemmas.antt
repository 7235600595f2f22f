-- In a calm stretch what is so of the branches of nodes that have recovered begins with each node's turn of RECO, and stays.
use Rattle.std.proofs.Common.{◌≡◌, true}
use Rattle.run_rules.specs.Lawful.{facts_at}
use Rattle.run_base_laws.proofs.EventsStandLemmas.{run_stands}
use Rattle.settle_laws.specs.Interval.{By_reco, By_message}
use Rattle.settle_laws.specs.ObligeLaws.{NoneIsObliged, RecoObliges, QuestionsKeep, RollbacksKeep, CommitsKeep, OthersKeep, AbortsKeep}
use Rattle.settle_laws.proofs.RecoTurnLemmas.{first_obliged, reco_obliged}
use Rattle.settle_laws.proofs.AskTurnLemmas.{ask_obliged}
use Rattle.settle_laws.proofs.RollTurnLemmas.{roll_obliged}
use Rattle.settle_laws.proofs.CommitTurnLemmas.{commit_obliged}
use Rattle.settle_laws.proofs.BesideTurnLemmas.{beside_obliged}
use Rattle.settle_laws.proofs.AbortTurnLemmas.{abort_obliged}

pub none_is_obliged : NoneIsObliged
none_is_obliged t whole = first_obliged (facts_at t)

pub reco_obliges : RecoObliges
reco_obliges t whole u k may (By_reco uncut none reco) is R now = reco_obliged t.places t.commands (facts_at t) (run_stands t whole).0.even u k may uncut none reco (λ n. R n ≡ true) now
reco_obliges t whole u k may (By_message m y uncut none it took first) is R now = absurd (cc (it, is))

pub questions_keep : QuestionsKeep
questions_keep t whole u k may (By_reco uncut none reco) m it kind R now = absurd (cc (it, reco))
questions_keep t whole u k may (By_message c y uncut none is took first) m it kind R now = ask_obliged t whole u k may uncut none m it kind y took (λ n. R n ≡ true) now

pub rollbacks_keep : RollbacksKeep
rollbacks_keep t whole u k may (By_reco uncut none reco) m it kind R now = absurd (cc (it, reco))
rollbacks_keep t whole u k may (By_message c y uncut none is took first) m it kind R now = roll_obliged t whole u k may uncut none m it kind y took (λ n. R n ≡ true) now

pub commits_keep : CommitsKeep
commits_keep t whole u k may (By_reco uncut none reco) m it n kind R now = absurd (cc (it, reco))
commits_keep t whole u k may (By_message c y uncut none is took first) m it n kind R now = commit_obliged t whole u k may uncut none m it n kind y took (λ i. R i ≡ true) now

pub others_keep : OthersKeep
others_keep t whole u k may (By_reco uncut none reco) m it kind R now = absurd (cc (it, reco))
others_keep t whole u k may (By_message c y uncut none is took first) m it kind R now = beside_obliged t whole u k may uncut none m it y took kind (λ n. R n ≡ true) now

pub aborts_keep : AbortsKeep
aborts_keep t whole u k may (By_reco uncut none reco) m it kind R now = absurd (cc (it, reco))
aborts_keep t whole u k may (By_message c y uncut none is took first) m it kind R now = abort_obliged t whole u k may uncut none m it y took kind (λ n. R n ≡ true) now
