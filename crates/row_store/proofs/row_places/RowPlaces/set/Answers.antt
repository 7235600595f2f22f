use Rattle.std.proofs.Common.{refl, ap, sym, ◌∙◌}
use Rattle.std.specs.Option.{option_copied_mut}
use Rattle.sql_eval.specs.Rows.{set_to}
use Rattle.row_store.specs.Places.{rows_at, has_place}
use Rattle.row_store.proofs.PlaceLaws.{rising_is, put_by_map, some_by_map, missed, rows_set, places_put, places_stay}
use Rattle.row_store.proofs.row_places.RowPlaces.set.Goals as goal
use Rattle.row_store.proofs.row_places.RowPlaces.set.Goals.{in-Some, in_default}

pub returns-clause-rows : goal.returns-clause-rows
returns-clause-rows c =
    let places = c.self.inside.rows.entries in
    let key = c.args.key.now in
    let has = ap (λ ps. has_place ps key) c.self.view_is ∙ c.requires.place in
    elim c.match-get_mut.branch [
      | in-Some w ↦
          let after = w.replace.new.dest in
          let now = (c.get_mut.follows.lender after).entries in
          let holds = c.get_mut.follows.holds after in
          ap (λ s. rows_at s.rows.entries) w.self-inside-is
          ∙ rows_set places now key after c.self.invariant (rising_is now holds.4) (put_by_map places now key key after refl (holds.3 (some_by_map places key has)).0)
          ∙ (λ i. set_to (rows_at (c.self.view_is i)) key (w.replace.ensures.after i))
      | in_default w ↦ missed places key has (ap option_copied_mut (sym w.in_default.is) ∙ c.get_mut.ensures.value)
    ]

pub returns-clause-places : goal.returns-clause-places
returns-clause-places c =
    let places = c.self.inside.rows.entries in
    let key = c.args.key.now in
    let has = ap (λ ps. has_place ps key) c.self.view_is ∙ c.requires.place in
    λ q. elim c.match-get_mut.branch [
      | in-Some w ↦
          let after = w.replace.new.dest in
          let now = (c.get_mut.follows.lender after).entries in
          let holds = c.get_mut.follows.holds after in
          ap (λ s. has_place s.rows.entries q) w.self-inside-is
          ∙ places_put places now key after (put_by_map places now key key after refl (holds.3 (some_by_map places key has)).0) q
          ∙ places_stay places key q has ∙ ap (λ ps. has_place ps q) c.self.view_is
      | in_default w ↦ missed places key has (ap option_copied_mut (sym w.in_default.is) ∙ c.get_mut.ensures.value)
    ]
