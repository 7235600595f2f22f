use Rattle.std.proofs.Common.{sym}
use Rattle.dtx_values.proofs.NameLemmas.{name_of_upper}
use Rattle.dtx_values.proofs.name.Name.from_bytes.Goals as goal

pub invariant_of-result : goal.invariant_of-result
invariant_of-result c = rw (c.of.ensures, c.in_ok-to_ascii_uppercase.ensures.ok) (name_of_upper c.args.bytes.now (sym c.if-not-is_name.ensures))
