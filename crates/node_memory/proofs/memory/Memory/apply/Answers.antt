use Rattle.node_memory.specs.Parts.{kept_in}
use Rattle.node_memory.proofs.PartLaws.{applied_taken}
use Rattle.node_memory.proofs.memory.Memory.apply.Goals as goal

pub returns-clause-kept : goal.returns-clause-kept
returns-clause-kept c =
    applied_taken (kept_in c.args.self.now) c.args.redo.now c.args.self.now.store.extents c.change_boot.new.boot c.change_strength.new.strength c.change_catalog.new.catalog c.change_store.new.store
    c.change_scn.new.scn c.change_top.new.top c.change_generation.new.generation c.apply.new.self c.change_boot.ensures c.change_strength.ensures c.in_ok-change_catalog.ensures.ok
    c.in_ok-change_store.ensures.ok c.change_scn.ensures c.change_top.ensures c.change_generation.ensures c.in_ok-apply.ensures.ok
