-- What owners have after an extent is taken, let go of, or holds other bytes.
use Rattle.std.proofs.Common.{◌≡◌, ◌+◌, ◌-◌, ℕ, suc, List, [], ◌∷◌, ◌++◌, length, take, drop, remove, refl, sym, ap, ◌∙◌, arith, take-append-drop, append_assoc, length-append, slice_set, slice_index_or, subst, ◌<◌, ◌≤◌}
use Rattle.std.proofs.lemmas.List.{append-nil, drop_more, set_split, length-set}
use lib.ListN.{get_or, set}
use Rattle.undo_pool.specs.Extents.{Held, extent_size, stream_of, count_of, room_of, IsLast, IsLastOf, OthersKeep}
use Rattle.undo_pool.proofs.Streams.{between_own, between_other}
use Rattle.undo_pool.proofs.Rooms.{room_at, room_other}

pub keep_on : (xs ys zs : List Held) (o : ℕ) → OthersKeep xs ys o → OthersKeep ys zs o → OthersKeep xs zs o
keep_on xs ys zs o first next other is_other =
    let a = first other is_other in
    let b = next other is_other in
    (b.0 ∙ a.0, b.1 ∙ a.1, b.2 ∙ a.2)

-- a list is what stands before a place, the element there and what stands behind it
pub splits : (xs : List Held) (i : ℕ) (x : Held) → i < length xs → x ≡ get_or xs i x → xs ≡ take i xs ++ x ∷ drop (suc i) xs
splits xs i x within is =
    let next : i + 1 ≡ suc i = omega arith in
    sym (take-append-drop i xs) ∙ ap (λ (l : List Held). take i xs ++ l) (drop_more xs i x within ∙ ap (λ (y : Held). y ∷ drop (i + 1) xs) (sym is) ∙ ap (λ (n : ℕ). x ∷ drop n xs) next)

-- other owners, of lists that differ in one extent of an owner
one_apart : (front : List Held) (x : Held) (back : List Held) (o other : ℕ) → x.owner ≡ o → (other ≡ o → ⊥)
    → (stream_of (front ++ x ∷ back) other ≡ stream_of (front ++ back) other) × (count_of (front ++ x ∷ back) other ≡ count_of (front ++ back) other) × (room_of (front ++ x ∷ back) other ≡ room_of (front ++ back) other)
one_apart front x back o other is is_other =
    let differs : x.owner ≡ other → ⊥ = λ same. is_other (sym same ∙ is) in
    let stays = between_other front x back other differs in
    (stays.0, stays.1, room_other front x back other differs)

-- without an owner's last extent
pub without_last : (xs : List Held) (place : ℕ) (last : IsLast xs place)
    → (stream_of xs last.it.owner ≡ stream_of (remove xs place) last.it.owner ++ last.it.bytes)
    × (count_of xs last.it.owner ≡ count_of (remove xs place) last.it.owner + 1)
    × (room_of xs last.it.owner ≡ extent_size - length last.it.bytes)
    × OthersKeep xs (remove xs place) last.it.owner
without_last xs place last =
    let front = take place xs in
    let back = drop (suc place) xs in
    let o = last.it.owner in
    let own = between_own front last.it back o refl last.last in (
      ap (λ (l : List Held). stream_of l o) last.stands ∙ own.0,
      ap (λ (l : List Held). count_of l o) last.stands ∙ own.1,
      ap (λ (l : List Held). room_of l o) last.stands ∙ room_at front last.it back o refl last.last,
      λ other is_other. let stays = one_apart front last.it back o other refl is_other in
          (sym (ap (λ (l : List Held). stream_of l other) last.stands ∙ stays.0), sym (ap (λ (l : List Held). count_of l other) last.stands ∙ stays.1), sym (ap (λ (l : List Held). room_of l other) last.stands ∙ stays.2)),
    )

-- with other bytes in an owner's last extent
pub with_last : (xs zs : List Held) (place : ℕ) (last : IsLast xs place) (bytes : List ℕ) → zs ≡ set xs place (record last.it { bytes = bytes })
    → (stream_of zs last.it.owner ≡ stream_of (remove xs place) last.it.owner ++ bytes)
    × (count_of zs last.it.owner ≡ count_of xs last.it.owner)
    × (room_of zs last.it.owner ≡ extent_size - length bytes)
    × OthersKeep xs zs last.it.owner
with_last xs zs place last bytes is =
    let front = take place xs in
    let back = drop (suc place) xs in
    let o = last.it.owner in
    let y : Held = record last.it { bytes = bytes } in
    let split : zs ≡ front ++ y ∷ back = is ∙ set_split xs place y last.within in
    let own = between_own front y back o refl last.last in
    let gone = without_last xs place last in (
      ap (λ (l : List Held). stream_of l o) split ∙ own.0,
      ap (λ (l : List Held). count_of l o) split ∙ own.1 ∙ sym gone.1,
      ap (λ (l : List Held). room_of l o) split ∙ room_at front y back o refl last.last,
      λ other is_other. let stays = one_apart front y back o other refl is_other in
          let were = gone.3 other is_other in
          (ap (λ (l : List Held). stream_of l other) split ∙ stays.0 ∙ were.0, ap (λ (l : List Held). count_of l other) split ∙ stays.1 ∙ were.1, ap (λ (l : List Held). room_of l other) split ∙ stays.2 ∙ were.2),
    )

-- with one more extent of an owner
pub with_more : (xs zs : List Held) (o : ℕ) (bytes : List ℕ) → zs ≡ xs ++ (record { owner = o; bytes = bytes }) ∷ []
    → (stream_of zs o ≡ stream_of xs o ++ bytes) × (count_of zs o ≡ count_of xs o + 1) × (room_of zs o ≡ extent_size - length bytes) × OthersKeep xs zs o
with_more xs zs o bytes is =
    let y : Held = record { owner = o; bytes = bytes } in
    let own = between_own xs y [] o refl refl in
    let same : xs ++ [] ≡ xs = append-nil xs in (
      ap (λ (l : List Held). stream_of l o) is ∙ own.0 ∙ ap (λ (l : List Held). stream_of l o ++ bytes) same,
      ap (λ (l : List Held). count_of l o) is ∙ own.1 ∙ ap (λ (l : List Held). count_of l o + 1) same,
      ap (λ (l : List Held). room_of l o) is ∙ room_at xs y [] o refl refl,
      λ other is_other. let stays = one_apart xs y [] o other refl is_other in
          (ap (λ (l : List Held). stream_of l other) is ∙ stays.0 ∙ ap (λ (l : List Held). stream_of l other) same, ap (λ (l : List Held). count_of l other) is ∙ stays.1 ∙ ap (λ (l : List Held). count_of l other) same, ap (λ (l : List Held). room_of l other) is ∙ stays.2 ∙ ap (λ (l : List Held). room_of l other) same),
    )

-- the same, of the owner that is asked for
pub without_last_of : (xs : List Held) (o place : ℕ) (last : IsLastOf xs o place)
    → (stream_of xs o ≡ stream_of (remove xs place) o ++ last.here.it.bytes)
    × (count_of xs o ≡ count_of (remove xs place) o + 1)
    × (room_of xs o ≡ extent_size - length last.here.it.bytes)
    × OthersKeep xs (remove xs place) o
without_last_of xs o place last =
    subst (λ (n : ℕ). (stream_of xs n ≡ stream_of (remove xs place) n ++ last.here.it.bytes) × (count_of xs n ≡ count_of (remove xs place) n + 1) × (room_of xs n ≡ extent_size - length last.here.it.bytes) × OthersKeep xs (remove xs place) n)
    last.owned (without_last xs place last.here)

pub with_last_of : (xs zs : List Held) (o place : ℕ) (last : IsLastOf xs o place) (bytes : List ℕ) → zs ≡ set xs place (record last.here.it { bytes = bytes })
    → (stream_of zs o ≡ stream_of (remove xs place) o ++ bytes)
    × (count_of zs o ≡ count_of xs o)
    × (room_of zs o ≡ extent_size - length bytes)
    × OthersKeep xs zs o
with_last_of xs zs o place last bytes is =
    subst (λ (n : ℕ). (stream_of zs n ≡ stream_of (remove xs place) n ++ bytes) × (count_of zs n ≡ count_of xs n) × (room_of zs n ≡ extent_size - length bytes) × OthersKeep xs zs n)
    last.owned (with_last xs zs place last.here bytes is)

-- what stands at the place, by an index
pub set_there : (xs zs : List Held) (o place : ℕ) (last : IsLastOf xs o place) (f : List ℕ → List ℕ)
    → ((x : Held) → zs ≡ slice_set xs place (record (slice_index_or xs place x) { bytes = f (slice_index_or xs place x).bytes })) → zs ≡ set xs place (record last.here.it { bytes = f last.here.it.bytes })
set_there xs zs o place last f is = is last.here.it ∙ ap (λ (it : Held). slice_set xs place (record it { bytes = f it.bytes })) (last.here.at last.here.it)

-- more bytes in the last extent
pub filled : (xs zs : List Held) (o place : ℕ) (last : IsLastOf xs o place) (more : List ℕ) → length more ≤ room_of xs o → 0 < length more
    → ((x : Held) → zs ≡ slice_set xs place (record (slice_index_or xs place x) { bytes = (slice_index_or xs place x).bytes ++ more }))
    → (stream_of zs o ≡ stream_of xs o ++ more) × (count_of zs o ≡ count_of xs o) × (room_of zs o + length more ≡ room_of xs o) × OthersKeep xs zs o × (length zs ≡ length xs)
filled xs zs o place last more fits some is =
    let it = last.here.it in
    let there = set_there xs zs o place last (λ b. b ++ more) is in
    let with = with_last_of xs zs o place last (it.bytes ++ more) there in
    let gone = without_last_of xs o place last in (
      with.0 ∙ sym (append_assoc (stream_of (remove xs place) o) it.bytes more) ∙ ap (λ (l : List ℕ). l ++ more) (sym gone.0),
      with.1,
      omega (arith, with.2, gone.2, length-append it.bytes more, fits, some),
      with.3,
      ap length there ∙ length-set xs place _,
    )
