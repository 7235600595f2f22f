use Rattle.tree_cover_laws.proofs.every_decision_covers.Goals as goal

pub returns : goal.returns
returns c t lawful =
    let both = c.decisions_cover.ensures t lawful in
    record { covered = both.0; own = both.1; neighbors = c.seals_name_toward.ensures t lawful }
