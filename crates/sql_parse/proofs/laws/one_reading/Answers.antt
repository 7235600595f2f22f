use Rattle.sql_parse.proofs.ParseLaws.{one_reading}
use Rattle.sql_parse.proofs.laws.one_reading.Goals as goal

pub returns : goal.returns
returns c = one_reading
