-- Each owner's extents are full but for the last: so an owner has its bytes over the size of an extent, rounded up.
use Rattle.std.proofs.Common.{◌≡◌, ◌==◌, ◌+◌, ◌-◌, ◌*◌, ◌<◌, ◌≤◌, Bool, true, false, if◌then◌else◌, ℕ, suc, List, [], ◌∷◌, ◌++◌, length, take, drop, remove, refl, sym, ap, subst, arith, length-append}
use Rattle.std.proofs.lemmas.Bool.{eq-eqb, eqb-true}
use Rattle.std.proofs.lemmas.List.Elements.{All-head, All-tail, All-append, All-take, All-drop, All-set, All-push}
use Rattle.std.proofs.lemmas.Grind.{div_ceil_times}
use lib.ListN.{set}
use Rattle.undo_pool.specs.Extents.{Held, extent_size, stream_of, count_of, room_of, AllFit, ArePacked, IsLast, OthersKeep}
use Rattle.undo_pool.specs.Pool.{extents}
use Rattle.undo_pool.proofs.Edits.{without_last, with_last, with_more}

-- a number that bounds a quotient on both sides is it
pub rounded_up : (bytes n room : ℕ) → bytes + room ≡ extent_size * n → room < extent_size → n ≡ extents bytes
rounded_up bytes n room is few = let near = div_ceil_times bytes extent_size (omega arith) in omega (arith, near, is, few)

module _ (used : List Held) (packed : ArePacked used) where
  -- an owner has as many extents as its bytes take
  pub counted : (o : ℕ) → count_of used o ≡ extents (length (stream_of used o))
  counted o = rounded_up (length (stream_of used o)) (count_of used o) (room_of used o) (packed o).0 (packed o).1

  -- more bytes need the extents that they take behind the room of the last
  pub more_needed : (o more : ℕ) → extents (more - room_of used o) ≡ extents (length (stream_of used o) + more) - extents (length (stream_of used o))
  more_needed o more =
      let here = packed o in
      let now = counted o in
      let near = div_ceil_times (more - room_of used o) extent_size (omega arith) in
      let all = div_ceil_times (length (stream_of used o) + more) extent_size (omega arith) in
      omega (arith, near, all, now, here)

-- an owner's bytes and the room in its last extent are no more than its extents take
one_at_most : (b q : Bool) (x s : List ℕ) (count room : ℕ) → (count == 0) ≡ q → length x ≤ extent_size → length s + room ≤ extent_size * count
    → length (if b then x ++ s else s) + (if b then (if q then extent_size - length x else room) else room) ≤ extent_size * (if b then 1 + count else count)
one_at_most true true x s count room none fits rest = let is : count ≡ 0 = eqb-true count 0 none in omega (arith, is, fits, rest, length-append x s)
one_at_most true false x s count room some fits rest = omega (arith, fits, rest, length-append x s)
one_at_most false q x s count room is fits rest = rest

pub at_most : (xs : List Held) (o : ℕ) → AllFit xs → length (stream_of xs o) + room_of xs o ≤ extent_size * count_of xs o
at_most [] o fit = omega arith
at_most (x ∷ xs) o fit =
    one_at_most (x.owner == o) (count_of xs o == 0) x.bytes (stream_of xs o) (count_of xs o) (room_of xs o) refl
    (All-head (λ (y : Held). length y.bytes ≤ extent_size) x xs fit) (at_most xs o (All-tail (λ (y : Held). length y.bytes ≤ extent_size) x xs fit))

-- an owner's extents are full but for the last
abbrev IsPacked : List Held → ℕ → Type 0
IsPacked used o = (length (stream_of used o) + room_of used o ≡ extent_size * count_of used o) × (room_of used o < extent_size)

-- those of all owners are, where those of one are and the others keep theirs
packed_with : (xs ys : List Held) (o : ℕ) → ArePacked xs → OthersKeep xs ys o → IsPacked ys o → ArePacked ys
packed_with xs ys o packed others own other = go (other == o) refl where
  go : (b : Bool) → (other == o) ≡ b → IsPacked ys other
  go true same = subst (λ (n : ℕ). IsPacked ys n) (sym (eqb-true other o same)) own
  go false differs =
      let is_other : other ≡ o → ⊥ = λ same. absurd (cc (eq-eqb other o same, differs)) in
      let stays = others other is_other in
      let were = packed other in
      (omega (arith, ap length stays.0, stays.1, stays.2, were.0), omega (arith, stays.2, were.1))

-- the last extent of an owner fits
pub last_fits : (xs : List Held) (place : ℕ) (last : IsLast xs place) → AllFit xs → length last.it.bytes ≤ extent_size
last_fits xs place last fit = subst (λ (x : Held). length x.bytes ≤ extent_size) (last.at last.it) (fit place last.it last.within)

-- with one more extent behind a full one
pub packed_more : (xs zs : List Held) (o : ℕ) (bytes : List ℕ) → ArePacked xs → room_of xs o ≡ 0 → 0 < length bytes → length bytes ≤ extent_size
    → zs ≡ xs ++ (record { owner = o; bytes = bytes }) ∷ [] → ArePacked zs
packed_more xs zs o bytes packed full some fits is =
    let more = with_more xs zs o bytes is in
    let long = length-append (stream_of xs o) bytes in
    packed_with xs zs o packed more.3 (omega (arith, ap length more.0, long, more.1, more.2, full, fits, (packed o).0), omega (arith, more.2, some))

pub fit_more : (xs zs : List Held) (o : ℕ) (bytes : List ℕ) → AllFit xs → length bytes ≤ extent_size → zs ≡ xs ++ (record { owner = o; bytes = bytes }) ∷ [] → AllFit zs
fit_more xs zs o bytes fit fits is = subst AllFit (sym is) (All-push (λ (y : Held). length y.bytes ≤ extent_size) xs (record { owner = o; bytes = bytes }) fit fits)

-- with other bytes in the last
pub packed_last : (xs zs : List Held) (place : ℕ) (last : IsLast xs place) (bytes : List ℕ) → ArePacked xs → AllFit xs → 0 < length bytes → length bytes ≤ extent_size
    → zs ≡ set xs place (record last.it { bytes = bytes }) → ArePacked zs
packed_last xs zs place last bytes packed fit some fits is =
    let o = last.it.owner in
    let with = with_last xs zs place last bytes is in
    let gone = without_last xs place last in
    let fitted = last_fits xs place last fit in
    let rest = stream_of (remove xs place) o in
    let before = length-append rest last.it.bytes in
    let after = length-append rest bytes in
    packed_with xs zs o packed with.3
    (omega (arith, ap length with.0, ap length gone.0, before, after, with.1, with.2, gone.2, fits, fitted, (packed o).0), omega (arith, with.2, some))

pub fit_last : (xs zs : List Held) (place : ℕ) (it : Held) → AllFit xs → length it.bytes ≤ extent_size → zs ≡ set xs place it → AllFit zs
fit_last xs zs place it fit fits is = subst AllFit (sym is) (All-set (λ (y : Held). length y.bytes ≤ extent_size) xs place it fits fit)

-- without the last
pub fit_less : (xs : List Held) (place : ℕ) → AllFit xs → AllFit (remove xs place)
fit_less xs place fit =
    All-append (λ (y : Held). length y.bytes ≤ extent_size) (take place xs) (drop (suc place) xs)
    (All-take (λ (y : Held). length y.bytes ≤ extent_size) place xs fit) (All-drop (λ (y : Held). length y.bytes ≤ extent_size) (suc place) xs fit)

pub packed_less : (xs : List Held) (place : ℕ) (last : IsLast xs place) → ArePacked xs → AllFit xs → ArePacked (remove xs place)
packed_less xs place last packed fit =
    let o = last.it.owner in
    let left = remove xs place in
    let gone = without_last xs place last in
    let fitted = last_fits xs place last fit in
    let long = length-append (stream_of left o) last.it.bytes in
    let most = at_most left o (fit_less xs place fit) in
    let full : length (stream_of left o) ≡ extent_size * count_of left o = omega (arith, ap length gone.0, long, gone.1, gone.2, fitted, (packed o).0) in
    packed_with xs left o packed gone.3 (omega (arith, full, most), omega (arith, full, most))
