-- Which calls and Replies were sent: their numbers, the room that a call gave and the branches that a Reply told of.
use Rattle.std.proofs.Common.{◌≡◌, ℕ, ◌+◌, ◌≤◌, ◌&&◌, ◌⊎◌, Bool, true, false, if◌then◌else◌, List, [], ◌∷◌, ◌++◌, max, inl, inr, ap, subst, ◌∙◌, arith}
use Rattle.std.specs.List.{AllByRecursion}
use Rattle.dtx_values.specs.Limits.{branch_limit}
use Rattle.tran_ids.proofs.BranchLemmas.{same_from_equal}
use Rattle.node_rules.specs.Data.{BranchId, Kind, Task, Post}
use Rattle.node_rules.specs.Data.kinds
use Rattle.node_rules.specs.Data.tasks
use Rattle.node_rules.specs.Words.{same}
use Rattle.run_base_laws.specs.InTurnLaws.{exec_number, reply_number, newest_exec, newest_reply}

-- ---- messages

-- a branch sent another a message of which this is so
abbrev pub Sent : (Kind → Type 0) → List Post → BranchId → BranchId → Type 0
Sent P [] a b = ⊥
Sent P (m ∷ ms) a b = ((m.from ≡ a) × (m.to ≡ b) × P m.kind) ⊎ Sent P ms a b

module _ (P : Kind → Type 0) where
  pub sent_split : (ms ns : List Post) (a b : BranchId) → Sent P (ms ++ ns) a b → Sent P ms a b ⊎ Sent P ns a b
  sent_split [] ns a b is = inr is
  sent_split (m ∷ ms) ns a b (inl here) = inl (inl here)
  sent_split (m ∷ ms) ns a b (inr later) = elim (sent_split ms ns a b later) [ inl old ↦ inl (inr old) | inr new ↦ inr new ]

  pub sent_more : (ms ns : List Post) (a b : BranchId) → Sent P ms a b → Sent P (ms ++ ns) a b
  sent_more [] ns a b is = absurd is
  sent_more (m ∷ ms) ns a b (inl here) = inl here
  sent_more (m ∷ ms) ns a b (inr later) = inr (sent_more ms ns a b later)

-- the room that a call gives; one that goes back gives none
abbrev pub room_of : Task → ℕ
room_of (tasks.Run given advice s) = given
room_of (tasks.GoBack keep) = 0

-- a call of this number with this room
abbrev pub GivesRoom : ℕ → ℕ → Kind → Type 0
GivesRoom n r (kinds.Exec call task) = (call ≡ n) × (room_of task ≡ r)
GivesRoom n r _ = ⊥

-- a Reply of this number that tells of so many branches
abbrev pub TellsCount : ℕ → ℕ → Kind → Type 0
TellsCount n c (kinds.Reply call weight count a) = (call ≡ n) × (count ≡ c)
TellsCount n c _ = ⊥

-- a branch gave another such room
abbrev pub Gave : List Post → BranchId → BranchId → ℕ → ℕ → Type 0
Gave said a b n r = Sent (GivesRoom n r) said a b

-- a branch told another of so many branches
abbrev pub Told : List Post → BranchId → BranchId → ℕ → ℕ → Type 0
Told said b a n c = Sent (TellsCount n c) said b a

-- ---- numbers

low_first : (q : Bool) (call n rest : ℕ) → q ≡ true → call ≡ n → n ≤ (if q then max call rest else rest)
low_first true call n rest is at = omega (arith, at)
low_first false call n rest is at = absurd cc

low_later : (q : Bool) (call n rest : ℕ) → n ≤ rest → n ≤ (if q then max call rest else rest)
low_later true call n rest low = omega (arith, low)
low_later false call n rest low = low

both_same : (a b c d : BranchId) → a ≡ c → b ≡ d → (same a c && same b d) ≡ true
both_same a b c d one two = let first : same a c ≡ true = same_from_equal a c one in let second : same b d ≡ true = same_from_equal b d two in ap (λ q. q && same b d) first ∙ second

-- a call has no number above the newest
pub gave_low : (ms : List Post) (a b : BranchId) (n r : ℕ) → Gave ms a b n r → n ≤ newest_exec ms a b
gave_low [] a b n r is = absurd is
gave_low (m ∷ ms) a b n r (inl here) = by m.kind here.2
  where
    by : (kind : Kind) → GivesRoom n r kind → n ≤ (if same m.from a && same m.to b then max (exec_number kind) (newest_exec ms a b) else newest_exec ms a b)
    by (kinds.Exec call task) is = low_first (same m.from a && same m.to b) call n (newest_exec ms a b) (both_same m.from m.to a b here.0 here.1) is.0
    by _ is = absurd is
gave_low (m ∷ ms) a b n r (inr later) = low_later (same m.from a && same m.to b) (exec_number m.kind) n (newest_exec ms a b) (gave_low ms a b n r later)

-- nor has a Reply
pub told_low : (ms : List Post) (b a : BranchId) (n c : ℕ) → Told ms b a n c → n ≤ newest_reply ms b
told_low [] b a n c is = absurd is
told_low (m ∷ ms) b a n c (inl here) = by m.kind here.2
  where
    by : (kind : Kind) → TellsCount n c kind → n ≤ (if same m.from b then max (reply_number kind) (newest_reply ms b) else newest_reply ms b)
    by (kinds.Reply call weight count result) is = low_first (same m.from b) call n (newest_reply ms b) (same_from_equal m.from b here.0) is.0
    by _ is = absurd is
told_low (m ∷ ms) b a n c (inr later) = low_later (same m.from b) (reply_number m.kind) n (newest_reply ms b) (told_low ms b a n c later)

-- ---- what a parent knows before a call

-- Before its first call a child is one branch. Before another it has the branches that a Reply to the last one told of.
abbrev pub Base : List Post → BranchId → BranchId → ℕ → ℕ → Type 0
Base said c a k v = ((k ≡ 1) × (v ≡ 1)) ⊎ ((j : ℕ) × (k ≡ j + 1) × (1 ≤ j) × Told said c a j v)

module _ (said says : List Post) where
  pub base_more : (c a : BranchId) (k v : ℕ) → Base said c a k v → Base (said ++ says) c a k v
  base_more c a k v (inl first) = inl first
  base_more c a k v (inr later) = inr (later.0, later.1, later.2, sent_more (TellsCount later.0 v) said says c a later.3)

  -- where no message is such a Reply
  pub base_old : (c a : BranchId) (k v : ℕ) → ((j : ℕ) → k ≡ j + 1 → 1 ≤ j → Told says c a j v → ⊥) → Base (said ++ says) c a k v → Base said c a k v
  base_old c a k v none (inl first) = inl first
  base_old c a k v none (inr later) = elim (sent_split (TellsCount later.0 v) said says c a later.3) [
    | inl old ↦ inr (later.0, later.1, later.2, old)
    | inr new ↦ absurd (none later.0 later.1 later.2 new)
  ]

-- ---- what is so of each message

-- A call has room for no more branches than a tree may have beside those that are known. A Reply tells of one branch at least, and of no more than
-- a tree may have, and answers a call.
abbrev pub FitsSo : List Post → BranchId → BranchId → Kind → Type 0
FitsSo said from to (kinds.Exec call task) = (v : ℕ) × Base said to from call v × (v + room_of task ≤ branch_limit)
FitsSo said from to (kinds.Reply call weight count a) = (1 ≤ count) × (count ≤ branch_limit) × ((r : ℕ) × Gave said to from call r)
FitsSo said from to _ = Unit {0}

-- of a message
abbrev pub PostFits : List Post → Post → Type 0
PostFits said m = FitsSo said m.from m.to m.kind

abbrev pub AllFit : List Post → List Post → Type 0
AllFit said ms = AllByRecursion (PostFits said) ms

-- And a new Reply tells of no more than were known before its call and that had room for.
abbrev pub NewSo : List Post → BranchId → BranchId → Kind → Type 0
NewSo said from to (kinds.Exec call task) = (v : ℕ) × Base said to from call v × (v + room_of task ≤ branch_limit)
NewSo said from to (kinds.Reply call weight count a) = (1 ≤ count) × (count ≤ branch_limit) × ((r : ℕ) × Gave said to from call r × ((v : ℕ) → Base said from to call v → count ≤ v + r))
NewSo said from to _ = Unit {0}

abbrev pub AllNew : List Post → List Post → Type 0
AllNew said ms = AllByRecursion (λ m. NewSo said m.from m.to m.kind) ms

-- a Reply that fits answers a call
pub told_gave : (said ms : List Post) → AllFit said ms → (c a : BranchId) (n v : ℕ) → Told ms c a n v → (1 ≤ v) × ((r : ℕ) × Gave said a c n r)
told_gave said [] all c a n v is = absurd is
told_gave said (m ∷ ms) all c a n v (inl here) = by m.kind all.0 here.2
  where
    by : (kind : Kind) → FitsSo said m.from m.to kind → TellsCount n v kind → (1 ≤ v) × ((r : ℕ) × Gave said a c n r)
    by (kinds.Reply call weight count result) fits is = (
      omega (arith, fits.0, is.1),
      (fits.2.0, subst (λ x. Gave said x c n fits.2.0) here.1 (subst (λ x. Gave said m.to x n fits.2.0) here.0 (subst (λ x. Gave said m.to m.from x fits.2.0) is.0 fits.2.1))),
    )
    by _ fits is = absurd is
told_gave said (m ∷ ms) all c a n v (inr later) = told_gave said ms all.1 c a n v later

-- so does a new one, with room for what it tells of
pub told_new : (said ms : List Post) → AllNew said ms → (c a : BranchId) (n x : ℕ) → Told ms c a n x → (r : ℕ) × Gave said a c n r × ((v : ℕ) → Base said c a n v → x ≤ v + r)
told_new said [] all c a n x is = absurd is
told_new said (m ∷ ms) all c a n x (inl here) = by m.kind all.0 here.2
  where
    by : (kind : Kind) → NewSo said m.from m.to kind → TellsCount n x kind → (r : ℕ) × Gave said a c n r × ((v : ℕ) → Base said c a n v → x ≤ v + r)
    by (kinds.Reply call weight count result) new is =
        subst (λ y. (r : ℕ) × Gave said a c n r × ((v : ℕ) → Base said c a n v → y ≤ v + r)) is.1
        (subst (λ y. (r : ℕ) × Gave said a c y r × ((v : ℕ) → Base said c a y v → count ≤ v + r)) is.0
        (subst (λ y. (r : ℕ) × Gave said y c call r × ((v : ℕ) → Base said c y call v → count ≤ v + r)) here.1
        (subst (λ y. (r : ℕ) × Gave said m.to y call r × ((v : ℕ) → Base said y m.to call v → count ≤ v + r)) here.0 new.2)))
    by _ new is = absurd is
told_new said (m ∷ ms) all c a n x (inr later) = told_new said ms all.1 c a n x later

module _ (said says : List Post) where
  fits_more : (from to : BranchId) (kind : Kind) → FitsSo said from to kind → FitsSo (said ++ says) from to kind
  fits_more from to (kinds.Exec call task) fits = (fits.0, base_more said says to from call fits.0 fits.1, fits.2)
  fits_more from to (kinds.Reply call weight count a) fits = (fits.0, fits.1, (fits.2.0, sent_more (GivesRoom call fits.2.0) said says to from fits.2.1))
  fits_more from to _ fits = tt

  new_fits : (from to : BranchId) (kind : Kind) → NewSo said from to kind → FitsSo (said ++ says) from to kind
  new_fits from to (kinds.Exec call task) new = (new.0, base_more said says to from call new.0 new.1, new.2)
  new_fits from to (kinds.Reply call weight count a) new = (new.0, new.1, (new.2.0, sent_more (GivesRoom call new.2.0) said says to from new.2.1))
  new_fits from to _ new = tt

  news_fit : (ms : List Post) → AllNew said ms → AllFit (said ++ says) ms
  news_fit [] all = tt
  news_fit (m ∷ ms) all = (new_fits m.from m.to m.kind all.0, news_fit ms all.1)

  olds_fit : (ms ns : List Post) → AllFit said ms → AllFit (said ++ says) ns → AllFit (said ++ says) (ms ++ ns)
  olds_fit [] ns all new = new
  olds_fit (m ∷ ms) ns all new = (fits_more m.from m.to m.kind all.0, olds_fit ms ns all.1 new)

  -- each message fits once more are sent
  pub all_fit : AllFit said said → AllNew said says → AllFit (said ++ says) (said ++ says)
  all_fit old new = olds_fit said says old (news_fit says new)
