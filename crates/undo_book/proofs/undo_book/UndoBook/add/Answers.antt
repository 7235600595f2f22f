use Rattle.std.proofs.Common.{◌+◌, ◌++◌, List, sym, subst, ap, ◌∙◌}
use Rattle.dtx_values.specs.declared.row.Change.{Change}
use Rattle.undo_pool.specs.Pool.{PoolState, bytes_of}
use Rattle.undo_book.specs.Undo.{AreBytesOf, undo_of, undo_extents, HoldUndo}
use Rattle.undo_book.proofs.UndoLaws.{joined}
use Rattle.undo_book.proofs.Books.{hold, undo_is, free_too}
use Rattle.undo_book.proofs.undo_book.UndoBook.add.Goals as goal

pub invariant_of-self : goal.invariant_of-self
invariant_of-self c = subst HoldUndo (sym c.in_err-put.ensures.err) c.self.invariant

pub invariant_of-self-2 : goal.invariant_of-self-2
invariant_of-self-2 c =
    let p = c.self.inside.pool in
    let q = c.put.new.self in
    let o = c.args.owner in
    let more = c.args.set.now in
    let set : AreBytesOf more c.bytes.result.now = subst (λ (cs : List Change). AreBytesOf cs c.bytes.result.now) c.bytes.ensures.changes c.bytes.ensures.undo in
    let are : AreBytesOf (undo_of p o ++ more) (bytes_of q o) = subst (AreBytesOf (undo_of p o ++ more)) (sym c.in_ok-put.ensures.ok) (joined (bytes_of p o) c.bytes.result.now (undo_of p o) more (c.self.invariant o) set) in
    hold p q o c.self.invariant (undo_of p o ++ more) are c.in_ok-put.ensures.others

pub returns-clause-ok : goal.returns-clause-ok
returns-clause-ok c =
    let p = c.self.inside.pool in
    let q = c.put.new.self in
    let o = c.args.owner in
    let more = c.args.set.now in
    let set : AreBytesOf more c.bytes.result.now = subst (λ (cs : List Change). AreBytesOf cs c.bytes.result.now) c.bytes.ensures.changes c.bytes.ensures.undo in
    let are : AreBytesOf (undo_of p o ++ more) (bytes_of q o) = subst (AreBytesOf (undo_of p o ++ more)) (sym c.in_ok-put.ensures.ok) (joined (bytes_of p o) c.bytes.result.now (undo_of p o) more (c.self.invariant o) set) in
    undo_is p q o c.self.invariant (undo_of p o ++ more) are c.in_ok-put.ensures.others ∙ ap (λ (r : PoolState). undo_of r o ++ more) c.self.view_is

pub returns-clause-free : goal.returns-clause-free
returns-clause-free c =
    let p = c.self.inside.pool in
    let q = c.put.new.self in
    let o = c.args.owner in
    let more = c.args.set.now in
    let set : AreBytesOf more c.bytes.result.now = subst (λ (cs : List Change). AreBytesOf cs c.bytes.result.now) c.bytes.ensures.changes c.bytes.ensures.undo in
    let are : AreBytesOf (undo_of p o ++ more) (bytes_of q o) = subst (AreBytesOf (undo_of p o ++ more)) (sym c.in_ok-put.ensures.ok) (joined (bytes_of p o) c.bytes.result.now (undo_of p o) more (c.self.invariant o) set) in
    free_too p q o c.self.invariant (undo_of p o ++ more) are c.in_ok-put.ensures.others c.in_ok-put.ensures.free ∙ ap (λ (r : PoolState). r.free + undo_extents (undo_of r o)) c.self.view_is
