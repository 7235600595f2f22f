use Rattle.node_spell_laws.proofs.WrittenLemmas.{changes_fit, comments_fit}
use Rattle.node_spell_laws.proofs.WayToLemmas.{ways_lead}
use Rattle.node_spell_laws.proofs.RecordLemmas.{numbers_fit, records_have_bytes}
use Rattle.node_spell_laws.proofs.records_fit.Goals as goal

pub returns-clause-changes : goal.returns-clause-changes
returns-clause-changes c = changes_fit

pub returns-clause-comments : goal.returns-clause-comments
returns-clause-comments c = comments_fit

pub returns-clause-ways : goal.returns-clause-ways
returns-clause-ways c = ways_lead

pub returns-clause-numbers : goal.returns-clause-numbers
returns-clause-numbers c = numbers_fit

pub returns-clause-records : goal.returns-clause-records
returns-clause-records c = records_have_bytes
