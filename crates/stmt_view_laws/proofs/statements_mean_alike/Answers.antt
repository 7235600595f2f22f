use Rattle.stmt_view_laws.proofs.MeantLemmas.{means_alike, meant_alike, writes_alike, examines_alike, avoids_alike, either_sees_alike}
use Rattle.stmt_view_laws.proofs.statements_mean_alike.Goals as goal

pub returns-clause-means : goal.returns-clause-means
returns-clause-means c = means_alike

pub returns-clause-meant : goal.returns-clause-meant
returns-clause-meant c = meant_alike

pub returns-clause-writes : goal.returns-clause-writes
returns-clause-writes c = writes_alike

pub returns-clause-examines : goal.returns-clause-examines
returns-clause-examines c = examines_alike

pub returns-clause-avoids : goal.returns-clause-avoids
returns-clause-avoids c = avoids_alike

pub returns-clause-either : goal.returns-clause-either
returns-clause-either c = either_sees_alike
