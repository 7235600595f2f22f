-- Each change that is kept has a place for its row.
use Rattle.std.specs.Prelude.{◌≡◌, true, List}
use Rattle.std.specs.List.{AllByRecursion}
use Rattle.dtx_values.specs.declared.row.Change.{Change}
use Rattle.row_store.specs.declared.pending.Owned.{Owned}
use Rattle.row_store.specs.declared.pending.Doubt.{Doubt}
use Rattle.row_store.specs.Pending.{changes_of}
use Rattle.row_store.specs.TablePlaces.{Shelf, has_place_in}

-- these changes have places
abbrev pub ArePlaced : List Shelf → List Change → Type 0
ArePlaced shelves cs = AllByRecursion (λ c. has_place_in shelves c.table c.key ≡ true) cs

-- and so have all changes of live branches
abbrev pub AllPlaced : List Shelf → List Owned → Type 0
AllPlaced shelves owns = AllByRecursion (λ o. ArePlaced shelves (changes_of o.sets)) owns

-- and of branches in doubt
abbrev pub AllHeld : List Shelf → List Doubt → Type 0
AllHeld shelves doubts = AllByRecursion (λ d. ArePlaced shelves d.changes) doubts

-- all that is not committed has places
pub record HavePlaces (shelves : List Shelf) (owns : List Owned) (doubts : List Doubt) : Type 0 where
  pub own : AllPlaced shelves owns
  pub held : AllHeld shelves doubts
