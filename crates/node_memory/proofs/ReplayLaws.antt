-- Records that become part of what is stored, one after the other.
use Rattle.std.proofs.Common.{◌≡◌, ℕ, zero, suc, ◌+◌, ◌<◌, List, [], ◌∷◌, ◌++◌, length, take, drop, slice_index_or, refl, ap, subst, ◌∙◌, arith}
use Rattle.std.proofs.lemmas.List.{take_more}
use Rattle.node_rules.specs.Data.{RedoRecord}
use Rattle.node_rules.specs.NodeState.{Stored}
use Rattle.read_only_tx.specs.Versions.{Versions}
use Rattle.node_rules.specs.Records.{applied, stored_by, versions_read, versions_in}
use Rattle.node_ready_laws.specs.Following.{MayFollow, MayAllFollow}
use Rattle.node_rules.specs.Data.records
use Rattle.node_memory.specs.Versions.{versions_read_over}
use Rattle.node_memory.specs.Room.{HasRoomFor, at_start, AllHaveRoom}

pub stored_none : (s : Stored) → stored_by s [] ≡ s
unfolding stored_by
stored_none s = refl

stored_push : (s : Stored) (rs : List RedoRecord) (r : RedoRecord) → stored_by s (rs ++ r ∷ []) ≡ applied (stored_by s rs) r
unfolding stored_by
stored_push s [] r = refl
stored_push s (x ∷ rs) r = stored_push (applied s x) rs r

pub stored_more : (s : Stored) (rs : List RedoRecord) (i : ℕ) (r : RedoRecord) → i < length rs → slice_index_or rs i r ≡ r → stored_by s (take (i + 1) rs) ≡ applied (stored_by s (take i rs)) r
stored_more s rs i r low is = ap (stored_by s) (take_more rs i r low ∙ ap (λ (x : RedoRecord). take i rs ++ x ∷ []) is) ∙ stored_push s (take i rs) r

-- ---- the commits that are kept

-- the rules' step is the one over the rows and the branches in doubt
pub versions_read_is : (s : Stored) (vs : Versions) (r : RedoRecord) → versions_read_over s.rows s.doubts vs r ≡ versions_read s vs r
versions_read_is s vs (records.Image i) = refl
versions_read_is s vs _ = refl

pub versions_none : (s : Stored) (vs : Versions) → versions_in s vs [] ≡ vs
versions_none s vs = refl

versions_push : (s : Stored) (vs : Versions) (rs : List RedoRecord) (r : RedoRecord) → versions_in s vs (rs ++ r ∷ []) ≡ versions_read (stored_by s rs) (versions_in s vs rs) r
unfolding stored_by
versions_push s vs [] r = refl
versions_push s vs (x ∷ rs) r = versions_push (applied s x) (versions_read s vs x) rs r

pub versions_more : (s : Stored) (vs : Versions) (rs : List RedoRecord) (i : ℕ) (r : RedoRecord) → i < length rs → slice_index_or rs i r ≡ r
    → versions_in s vs (take (i + 1) rs) ≡ versions_read (stored_by s (take i rs)) (versions_in s vs (take i rs)) r
versions_more s vs rs i r low is = ap (versions_in s vs) (take_more rs i r low ∙ ap (λ (x : RedoRecord). take i rs ++ x ∷ []) is) ∙ versions_push s vs (take i rs) r

-- ---- each record may follow

first_follows : (s : Stored) (rs : List RedoRecord) (i : ℕ) (r : RedoRecord) → i < length rs → slice_index_or rs i r ≡ r → MayAllFollow s (drop i rs) → MayFollow s r × MayAllFollow (applied s r) (drop (suc i) rs)
unfolding MayAllFollow
first_follows s [] i r low is follow = absurd (omega (arith, low))
first_follows s (x ∷ rs) zero r low is follow = subst (λ y. MayFollow s y × MayAllFollow (applied s y) rs) is follow
first_follows s (x ∷ rs) (suc i) r low is follow = first_follows s rs i r (omega (arith, low)) is follow

pub follows_now : (s : Stored) (rs : List RedoRecord) (i : ℕ) (r : RedoRecord) → i < length rs → slice_index_or rs i r ≡ r → MayAllFollow s (drop i rs) → MayFollow s r
follows_now s rs i r low is follow = (first_follows s rs i r low is follow).0

pub follow_then : (s : Stored) (rs : List RedoRecord) (i : ℕ) (r : RedoRecord) → i < length rs → slice_index_or rs i r ≡ r → MayAllFollow s (drop i rs) → MayAllFollow (applied s r) (drop (i + 1) rs)
follow_then s rs i r low is follow =
    let next : suc i ≡ i + 1 = omega arith in
    subst (λ (n : ℕ). MayAllFollow (applied s r) (drop n rs)) next (first_follows s rs i r low is follow).1

-- ---- and each has room

first_has_room : (undo : ℕ) (s : Stored) (rs : List RedoRecord) (i : ℕ) (r : RedoRecord) → i < length rs → slice_index_or rs i r ≡ r → AllHaveRoom undo s (drop i rs)
    → HasRoomFor (at_start undo s) r × AllHaveRoom undo (applied s r) (drop (suc i) rs)
unfolding AllHaveRoom
first_has_room undo s [] i r low is room = absurd (omega (arith, low))
first_has_room undo s (x ∷ rs) zero r low is room = subst (λ y. HasRoomFor (at_start undo s) y × AllHaveRoom undo (applied s y) rs) is room
first_has_room undo s (x ∷ rs) (suc i) r low is room = first_has_room undo s rs i r (omega (arith, low)) is room

pub room_now : (undo : ℕ) (s : Stored) (rs : List RedoRecord) (i : ℕ) (r : RedoRecord) → i < length rs → slice_index_or rs i r ≡ r → AllHaveRoom undo s (drop i rs) → HasRoomFor (at_start undo s) r
room_now undo s rs i r low is room = (first_has_room undo s rs i r low is room).0

pub room_then : (undo : ℕ) (s : Stored) (rs : List RedoRecord) (i : ℕ) (r : RedoRecord) → i < length rs → slice_index_or rs i r ≡ r → AllHaveRoom undo s (drop i rs)
    → AllHaveRoom undo (applied s r) (drop (i + 1) rs)
room_then undo s rs i r low is room =
    let next : suc i ≡ i + 1 = omega arith in
    subst (λ (n : ℕ). AllHaveRoom undo (applied s r) (drop n rs)) next (first_has_room undo s rs i r low is room).1

pub ruleset replays = (stored_none, versions_none)
