-- Agreement of many transactions in one list of events: what each event leaves for ever, and what it needs.
use Rattle.std.specs.Prelude.{option_map, ◌≡◌, ◌≢◌, ℕ, ◌<◌, ◌≤◌, ◌⊎◌, Bool, true, List, [], ◌∷◌, Option, Some, None, if◌then◌else◌}
use Rattle.agreement.specs.Data.{BranchId, Change, Table, Decision}
use Rattle.agreement.specs.Data.decisions
use Rattle.tran_ids.specs.Branch.{same}
use Rattle.agreement.specs.Outcomes.{differ}

-- The branches of all transactions as trees, each of them turned round at its commit point site.
pub record Forest : Type 0 where
  -- the root of a branch's transaction, which names the transaction
  pub root : BranchId → BranchId
  -- the commit point site of the transaction that a root names
  pub site : BranchId → BranchId
  -- it is in the tree of its root
  pub member : BranchId → Bool
  -- the neighbour on the way to the site
  pub toward : BranchId → BranchId
  -- how many edges lie between
  pub far : BranchId → ℕ

-- the site of a branch's transaction
abbrev pub site_of : Forest → BranchId → BranchId
site_of p b = p.site (p.root b)

-- every branch of a tree but its site has a neighbour of the same tree that is nearer to the site
pub record IsForest (p : Forest) : Type 0 where
  pub inward : (b : BranchId) → p.member b ≡ true → b ≢ site_of p b → p.member (p.toward b) ≡ true
  pub of_one : (b : BranchId) → p.member b ≡ true → b ≢ site_of p b → p.root (p.toward b) ≡ p.root b
  pub nearer : (b : BranchId) → p.member b ≡ true → b ≢ site_of p b → p.far (p.toward b) < p.far b

-- x is a neighbour of y from which y is the next on the way to the site
pub record Beyond (p : Forest) (x y : BranchId) : Type 0 where
  pub member : p.member x ≡ true
  pub not_site : x ≢ site_of p x
  pub next : p.toward x ≡ y

-- how a branch stopped to be live; it does so once
pub data Exit : Type 0 where
  Sealed : (scn : ℕ) → Exit
  Decided : (scn : ℕ) → Exit
  Quiet : Exit
  Dropped : Exit

-- One record, or one message, or one loss of a live branch. The newest stands first.
pub data Event : Type 0 where
  Make : (node : ℕ) (table : Table) → Event
  Seal : (branch global : BranchId) (scn : ℕ) (changes : List Change) → Event
  Decide : (branch global : BranchId) (scn : ℕ) (changes : List Change) → Event
  Answer_read_only : (branch : BranchId) → Event
  Drop : (branch : BranchId) → Event
  Force : (branch : BranchId) (outcome : Decision) → Event
  -- the decision reached a branch that was not forced, or one that was, with the mark
  Learn : (branch : BranchId) (decision : Decision) (mixed : Option Bool) → Event
  Forget : (branch : BranchId) → Event
  Send_vote : (branch : BranchId) (clock : ℕ) → Event
  Send_commit : (from to : BranchId) (scn : ℕ) → Event
  Send_rollback : (from to : BranchId) → Event
  Send_ack : (from to : BranchId) → Event
  Send_forgotten : (from to : BranchId) → Event

-- the first of two answers
abbrev pub first : {A : Type 0} → Option A → Option A → Option A
first (Some a) other = Some a
first None other = other

-- an answer for one branch alone
abbrev pub only_at : {A : Type 0} → BranchId → BranchId → A → Option A
only_at c b a = if same c b then Some a else None

-- the exit of a branch that an event is
abbrev pub exit_by : Event → BranchId → Option Exit
exit_by (Seal c g n cs) b = only_at c b (Sealed n)
exit_by (Decide c g n cs) b = only_at c b (Decided n)
exit_by (Answer_read_only c) b = only_at c b Quiet
exit_by (Drop c) b = only_at c b Dropped
exit_by _ b = None

-- the exit of a branch, where it is live no more
abbrev pub exit : List Event → BranchId → Option Exit
exit [] b = None
exit (s ∷ t) b = first (exit t b) (exit_by s b)

-- what a branch learns by an event
abbrev pub learned_by : Event → BranchId → Option Decision
learned_by (Learn c d m) b = only_at c b d
learned_by _ b = None

-- what a branch learned of its transaction
abbrev pub learned : List Event → BranchId → Option Decision
learned [] b = None
learned (s ∷ t) b = first (learned t b) (learned_by s b)

-- the outcome that an event forces on a branch
abbrev pub forced_by : Event → BranchId → Option Decision
forced_by (Force c o) b = only_at c b o
forced_by _ b = None

-- the forced outcome of a branch
abbrev pub forced : List Event → BranchId → Option Decision
forced [] b = None
forced (s ∷ t) b = first (forced t b) (forced_by s b)

-- the event stands in the list
abbrev pub Has : Event → List Event → Type 0
Has x [] = ⊥
Has x (s ∷ t) = (s ≡ x) ⊎ Has x t

-- y heard of each neighbour beyond it: its vote, with a clock of at most n, or that it and all beyond it have no changes
abbrev pub Heard : Forest → List Event → BranchId → ℕ → Type 0
Heard p t y n = (x : BranchId) → Beyond p x y → ((k : ℕ) × Has (Send_vote x k) t × (k ≤ n)) ⊎ (exit t x ≡ Some Quiet)

-- each neighbour beyond y acknowledged, or has no changes on it or beyond it
abbrev pub Cleared : Forest → List Event → BranchId → Type 0
Cleared p t y = (x : BranchId) → Beyond p x y → Has (Send_ack x y) t ⊎ (exit t x ≡ Some Quiet)

-- it decided, or learned, a commit at this SCN
abbrev pub Knows : List Event → BranchId → ℕ → Type 0
Knows t b n = (exit t b ≡ Some (Decided n)) ⊎ (learned t b ≡ Some (decisions.Commit n))

-- nothing of the branch is kept
abbrev pub Gone : List Event → BranchId → Type 0
Gone t b = (exit t b ≡ Some Dropped) ⊎ ((exit t b ≡ Some Quiet) ⊎ ((learned t b ≡ Some decisions.Rollback) ⊎ Has (Forget b) t))

-- the mark of the decision at a forced branch
abbrev pub mark : Option Decision → Decision → Option Bool
mark forced d = option_map (λ o. differ o d) forced

-- What an event needs of what stands before it.
abbrev pub Allowed : Forest → List Event → Event → Type 0
Allowed p t (Make n table) = Unit {0}
Allowed p t (Seal b g n cs) = (exit t b ≡ None) × (p.member b ≡ true) × (b ≢ site_of p b) × Heard p t b n × (p.root b ≡ g)
Allowed p t (Decide b g n cs) = (exit t b ≡ None) × (b ≡ site_of p b) × ((k : ℕ) × (k < n) × Heard p t b k) × (p.root b ≡ g)
Allowed p t (Answer_read_only b) = (exit t b ≡ None) × (b ≢ site_of p b) × ((x : BranchId) → Beyond p x b → exit t x ≡ Some Quiet)
Allowed p t (Drop b) = exit t b ≡ None
Allowed p t (Force b o) = (n : ℕ) × (exit t b ≡ Some (Sealed n)) × (learned t b ≡ None) × (forced t b ≡ None)
Allowed p t (Learn b (decisions.Commit n) mixed) = ((m : ℕ) × (exit t b ≡ Some (Sealed m))) × (learned t b ≡ None) × Has (Send_commit (p.toward b) b n) t
    × (mixed ≡ mark (forced t b) (decisions.Commit n))
Allowed p t (Learn b decisions.Rollback mixed) = ((m : ℕ) × (exit t b ≡ Some (Sealed m))) × (learned t b ≡ None) × Has (Send_rollback (p.toward b) b) t
    × (mixed ≡ mark (forced t b) decisions.Rollback)
Allowed p t (Forget b) = (n : ℕ) × Knows t b n × (Cleared p t b ⊎ ((b ≢ site_of p b) × Has (Send_forgotten (p.toward b) b) t))
Allowed p t (Send_vote b k) = (n : ℕ) × (exit t b ≡ Some (Sealed n)) × (n ≤ k)
Allowed p t (Send_commit e d n) = Knows t e n
Allowed p t (Send_rollback e d) = Beyond p d e → Gone t e ⊎ (exit t d ≡ Some Quiet)
Allowed p t (Send_ack b f) = Beyond p b f → ((n : ℕ) × (learned t b ≡ Some (decisions.Commit n)) × Cleared p t b) ⊎ (Gone t b × ((n : ℕ) × Has (Send_commit f b n) t))
Allowed p t (Send_forgotten f e) = Beyond p e f → Has (Forget f) t ⊎ Has (Send_ack e f) t

-- each event was allowed where it was made
abbrev pub Lawful : Forest → List Event → Type 0
Lawful p [] = Unit {0}
Lawful p (s ∷ t) = Allowed p t s × Lawful p t
