use Rattle.std.proofs.Common.{◌≡◌, ◌+◌, length, sym, subst, ap, ◌∙◌}
use Rattle.undo_pool.specs.Pool.{PoolState, bytes_of}
use Rattle.undo_book.specs.Undo.{AreBytesOf, undo_text, undo_of, undo_extents, whole_in}
use Rattle.undo_book.proofs.UndoLaws.{cut_to, is_within}
use Rattle.undo_book.proofs.Books.{hold, undo_is, free_too}
use Rattle.undo_book.proofs.undo_book.UndoBook.cut.Goals as goal

pub cut-requires : goal.cut-requires
cut-requires c =
    let p = c.self.inside.pool in
    let o = c.args.owner in
    let keep = c.args.keep in
    let whole : length (undo_text (whole_in keep (undo_of p o))) ≡ keep = ap (λ (q : PoolState). length (undo_text (whole_in keep (undo_of q o)))) c.self.view_is ∙ c.requires in
    is_within keep (undo_of p o) (bytes_of p o) (c.self.invariant o) whole

pub invariant_of-self : goal.invariant_of-self
invariant_of-self c =
    let p = c.self.inside.pool in
    let o = c.args.owner in
    let keep = c.args.keep in
    let whole : length (undo_text (whole_in keep (undo_of p o))) ≡ keep = ap (λ (q : PoolState). length (undo_text (whole_in keep (undo_of q o)))) c.self.view_is ∙ c.requires in
    let are = subst (AreBytesOf (whole_in keep (undo_of p o))) (sym c.cut.ensures.bytes) (cut_to keep (undo_of p o) (bytes_of p o) (c.self.invariant o) whole) in
    hold p c.cut.new.self o c.self.invariant (whole_in keep (undo_of p o)) are c.cut.ensures.others

pub returns-clause-undo : goal.returns-clause-undo
returns-clause-undo c =
    let p = c.self.inside.pool in
    let o = c.args.owner in
    let keep = c.args.keep in
    let whole : length (undo_text (whole_in keep (undo_of p o))) ≡ keep = ap (λ (q : PoolState). length (undo_text (whole_in keep (undo_of q o)))) c.self.view_is ∙ c.requires in
    let are = subst (AreBytesOf (whole_in keep (undo_of p o))) (sym c.cut.ensures.bytes) (cut_to keep (undo_of p o) (bytes_of p o) (c.self.invariant o) whole) in
    undo_is p c.cut.new.self o c.self.invariant (whole_in keep (undo_of p o)) are c.cut.ensures.others ∙ ap (λ (q : PoolState). whole_in keep (undo_of q o)) c.self.view_is

pub returns-clause-free : goal.returns-clause-free
returns-clause-free c =
    let p = c.self.inside.pool in
    let o = c.args.owner in
    let keep = c.args.keep in
    let whole : length (undo_text (whole_in keep (undo_of p o))) ≡ keep = ap (λ (q : PoolState). length (undo_text (whole_in keep (undo_of q o)))) c.self.view_is ∙ c.requires in
    let are = subst (AreBytesOf (whole_in keep (undo_of p o))) (sym c.cut.ensures.bytes) (cut_to keep (undo_of p o) (bytes_of p o) (c.self.invariant o) whole) in
    free_too p c.cut.new.self o c.self.invariant (whole_in keep (undo_of p o)) are c.cut.ensures.others c.cut.ensures.free ∙ ap (λ (q : PoolState). q.free + undo_extents (undo_of q o)) c.self.view_is
