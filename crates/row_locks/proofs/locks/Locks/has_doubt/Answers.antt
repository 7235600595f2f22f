use Rattle.std.proofs.Common.{◌≡◌, ℕ, List, [], ◌∷◌, ◌&&◌, ◌||◌, refl, ap, ◌∙◌}
use Rattle.std.specs.List.{list_any}
use Rattle.std.specs.Str.{bytes_eq}
use Rattle.row_locks.specs.Locks.{Lock}
use Rattle.row_locks.specs.Numbered.{Numbered, locks_in}
use Rattle.row_locks.proofs.locks.Locks.has_doubt.Goals as goal

doubt_in : (table : List ℕ) (es : List Numbered) → list_any (λ e. e.1.in_doubt && bytes_eq e.1.table table) es ≡ list_any (λ l. l.in_doubt && bytes_eq l.table table) (locks_in es)
doubt_in table [] = refl
doubt_in table (e ∷ es) = ap (λ rest. (e.1.in_doubt && bytes_eq e.1.table table) || rest) (doubt_in table es)

pub returns : goal.returns
returns c =
    let table = c.args.table.now in
    c.has_doubt.ensures ∙ doubt_in table c.self.inside.locks ∙ ap (λ (ls : List Lock). list_any (λ l. l.in_doubt && bytes_eq l.table table) ls) c.self.view_is
