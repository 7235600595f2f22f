-- The room in the last extents of owners.
use Rattle.std.proofs.Common.{◌≡◌, ◌==◌, ◌+◌, ◌-◌, Bool, true, false, if◌then◌else◌, ℕ, List, [], ◌∷◌, ◌++◌, length, refl, ap, ◌∙◌, arith}
use Rattle.std.proofs.lemmas.Bool.{eq-eqb}
use Rattle.undo_pool.specs.Extents.{Held, extent_size, count_of, room_of}
use Rattle.undo_pool.proofs.Streams.{other_owner, between_own, between_other}

-- an extent before the owner's last does not count
room_before : (b : Bool) (n room more : ℕ) → (if b then (if n + 1 == 0 then more else room) else room) ≡ room
room_before true n room more = ap (λ (q : Bool). if q then more else room) (other_owner (n + 1) 0 (omega arith))
room_before false n room more = refl

-- who has no extent has no room
pub room_none : (xs : List Held) (o : ℕ) → count_of xs o ≡ 0 → room_of xs o ≡ 0
room_none [] o none = refl
room_none (x ∷ xs) o none = go (x.owner == o) (count_of xs o) (room_of xs o) (extent_size - length x.bytes) (room_none xs o) none where
  go : (b : Bool) (n room more : ℕ) → (n ≡ 0 → room ≡ 0) → (if b then 1 + n else n) ≡ 0 → (if b then (if n == 0 then more else room) else room) ≡ 0
  go true n room more rest some = absurd (omega (arith, some))
  go false n room more rest nothing = rest nothing

-- the room is that of the owner's last extent
pub room_at : (front : List Held) (x : Held) (back : List Held) (o : ℕ) → x.owner ≡ o → count_of back o ≡ 0 → room_of (front ++ x ∷ back) o ≡ extent_size - length x.bytes
room_at [] x back o is last =
    ap (λ (b : Bool). if b then (if count_of back o == 0 then extent_size - length x.bytes else room_of back o) else room_of back o) (eq-eqb x.owner o is)
    ∙ ap (λ (b : Bool). if b then extent_size - length x.bytes else room_of back o) (eq-eqb (count_of back o) 0 last)
room_at (y ∷ front) x back o is last =
    let some : count_of (front ++ x ∷ back) o ≡ count_of (front ++ back) o + 1 = (between_own front x back o is last).1 in
    ap (λ (n : ℕ). if y.owner == o then (if n == 0 then extent_size - length y.bytes else room_of (front ++ x ∷ back) o) else room_of (front ++ x ∷ back) o) some
    ∙ room_before (y.owner == o) (count_of (front ++ back) o) (room_of (front ++ x ∷ back) o) (extent_size - length y.bytes) ∙ room_at front x back o is last

-- and another's extent leaves it
pub room_other : (front : List Held) (x : Held) (back : List Held) (o : ℕ) → (x.owner ≡ o → ⊥) → room_of (front ++ x ∷ back) o ≡ room_of (front ++ back) o
room_other [] x back o is_not =
    ap (λ (b : Bool). if b then (if count_of back o == 0 then extent_size - length x.bytes else room_of back o) else room_of back o) (other_owner x.owner o is_not)
room_other (y ∷ front) x back o is_not =
    ap (λ (n : ℕ). if y.owner == o then (if n == 0 then extent_size - length y.bytes else room_of (front ++ x ∷ back) o) else room_of (front ++ x ∷ back) o) (between_other front x back o is_not).1
    ∙ ap (λ (r : ℕ). if y.owner == o then (if count_of (front ++ back) o == 0 then extent_size - length y.bytes else r) else r) (room_other front x back o is_not)
