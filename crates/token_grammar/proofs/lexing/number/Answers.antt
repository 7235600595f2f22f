use Rattle.std.proofs.lemmas.List.Sums.{prefix_len-le-length}
use Rattle.token_grammar.specs.Bytes.{is_digit}
use Rattle.token_grammar.proofs.lexing.number.Goals as goal

pub split_at-requires : goal.split_at-requires
split_at-requires c = rw c.digits_len.ensures (prefix_len-le-length is_digit c.args.bytes.now)
