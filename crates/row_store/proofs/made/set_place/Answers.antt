use Rattle.std.proofs.Common.{cond, Some, None, get_or, is_some, true≢false, refl, sym, ap, subst, ◌∙◌}
use Rattle.std.specs.Prelude.{IfSome}
use Rattle.std.specs.declared.borrow.Cow.TheVariants.{Owned}
use Rattle.indexmap.specs.IndexMap.{Updates}
use Rattle.indexmap.proofs.CallerLemmas.{updates-with_value_at}
use Rattle.row_store.specs.declared.changed_key.ChangedKey.{ChangedKey}
use Rattle.row_store.specs.contracts.changed_key.ChangedKeyEq.TheImpl.Laws.{laws-law}
use Rattle.row_store.specs.Kept.{place_at}
use Rattle.row_store.specs.Own.{is_change_of}
use Rattle.row_store.proofs.Places.{found_as, lookup_is, place_set, found_at}
use Rattle.row_store.proofs.MadeLaws.{first_entry}
use Rattle.row_store.proofs.made.set_place.Goals as goal

pub returns-in_default : goal.returns-in_default
returns-in_default c =
    let asked : ChangedKey = record { table = Owned c.args.change.now.table; key = Owned c.args.change.now.key } in
    λ table key. absurd (true≢false (sym c.requires ∙ ap is_some (sym (lookup_is asked c.args.places.now.entries)) ∙ sym c.in_default.ensures.found))

pub returns-in-None : goal.returns-in-None
returns-in-None c =
    let change = c.args.change.now in
    let es = c.args.places.now.entries in
    let asked : ChangedKey = record { table = Owned change.table; key = Owned change.key } in
    let first = first_entry (found_as asked) es c.in-Some.last (asked, 0) (sym c.in-Some.ensures.index) in
    let k = (get_or es c.in-Some.last (asked, 0)).0 in
    let at = found_at asked k change refl refl first.1 in
    let removed = subst (λ r. IfSome r (λ p. Updates found_as c.args.places.now c.swap_remove_index.new.self p.0 None)) (c.swap_remove_index.ensures.entry ∙ first.0) c.swap_remove_index.ensures.updates in
    λ table key.
    place_set k change at.0 at.1 es c.swap_remove_index.new.self.entries None removed.0 table key
    ∙ ap (λ o. cond (is_change_of table key change) o (place_at es table key)) (sym c.in-None.is)

pub returns : goal.returns
returns c =
    let change = c.args.change.now in
    let es = c.args.places.now.entries in
    let asked : ChangedKey = record { table = Owned change.table; key = Owned change.key } in
    let first = first_entry (found_as asked) es c.in-Some.last (asked, 0) (sym c.in-Some.ensures.index) in
    let e = get_or es c.in-Some.last (asked, 0) in
    let at = found_at asked e.0 change refl refl first.1 in
    let put = updates-with_value_at c.args.places.now c.in-Some.last c.in-Some-place.place laws-law c.get_index_of.ensures.unique e.0 e.1 first.0 in
    λ table key.
    place_set e.0 change at.0 at.1 es _ (Some c.in-Some-place.place) put.0 table key
    ∙ ap (λ o. cond (is_change_of table key change) o (place_at es table key)) (sym c.in-Some-place.is)
