use Rattle.std.proofs.Common.{◌≡◌, drop}
use Rattle.std.specs.Map.{lookup}
use Rattle.std.specs.Str.{bytes_eq}
use Rattle.script_read.proofs.meanings.meaning.Given as goal

abbrev pub invariant-loop-text : goal.invariant-loop-text
invariant-loop-text g l = lookup (λ text. bytes_eq text.now l.word) l.words ≡ lookup (λ text. bytes_eq text.now l.word) (drop l.text-index l.words)
