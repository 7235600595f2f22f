-- The laws of agreement, over lists of events and their books.
use Rattle.std.specs.Prelude.{Bool, Option, ◌≡◌, ◌≢◌, ℕ, ◌<◌, ◌⊎◌, true, List, ◌∷◌, ◌++◌, Some}
use Rattle.agreement.specs.Data.{BranchId, Change}
use Rattle.agreement.specs.Data.decisions
use Rattle.agreement.specs.Outcomes.{Agreement, MixedIsMarked, AboveSeals}
use Rattle.agreement.specs.Events.{Forest, IsForest, Event, Sealed, Decided, Quiet, Dropped, Decide, Learn, exit, learned, Has, Lawful, site_of}
use Rattle.agreement.specs.BookOf.{book_of}

-- Where a branch learned a rollback, no branch of its transaction decides.
abbrev pub RollbackMeansUndecided : Type 0
RollbackMeansUndecided = (p : Forest) → IsForest p → (t : List Event) → Lawful p t → (b c : BranchId) (n : ℕ)
    → learned t b ≡ Some decisions.Rollback → p.root c ≡ p.root b → exit t c ≢ Some (Decided n)

-- Where a branch learned a commit, the site of its transaction decided it, with the same SCN.
abbrev pub CommitAsDecided : Type 0
CommitAsDecided = (p : Forest) → IsForest p → (t : List Event) → Lawful p t → (b : BranchId) (n : ℕ)
    → learned t b ≡ Some (decisions.Commit n) → exit t (site_of p b) ≡ Some (Decided n)

-- The decision's SCN is greater than that of each sealed branch of its transaction.
abbrev pub DecisionIsLater : Type 0
DecisionIsLater = (p : Forest) → IsForest p → (t : List Event) → Lawful p t → (b : BranchId) (n m : ℕ)
    → exit t (site_of p b) ≡ Some (Decided n) → exit t b ≡ Some (Sealed m) → m < n

-- Where a decision stands, each other branch of the tree is sealed, or was read-only with all beyond it.
abbrev pub DecisionIsCovered : Type 0
DecisionIsCovered = (p : Forest) → IsForest p → (t : List Event) → Lawful p t → (b : BranchId) (n : ℕ)
    → exit t (site_of p b) ≡ Some (Decided n) → p.member b ≡ true → b ≢ site_of p b
    → ((m : ℕ) × (exit t b ≡ Some (Sealed m))) ⊎ (exit t b ≡ Some Quiet)

-- Where a commit was learned, the decision stands before it in the list, with the same SCN.
abbrev pub CommitComesAfter : Type 0
CommitComesAfter = (p : Forest) → IsForest p → (newer older : List Event) (b : BranchId) (n : ℕ) (mixed : Option Bool) → Lawful p (newer ++ Learn b (decisions.Commit n) mixed ∷ older)
    → (cs : List Change) × Has (Decide (site_of p b) (p.root b) n cs) older

-- Where a branch of a tree was dropped, no branch of its transaction decides, and no other branch learns a commit.
abbrev pub DoomedIsUndecided : Type 0
DoomedIsUndecided = (p : Forest) → IsForest p → (t : List Event) → Lawful p t → (b c : BranchId) (n : ℕ)
    → p.member b ≡ true → exit t b ≡ Some Dropped → p.root c ≡ p.root b → (exit t c ≢ Some (Decided n)) × (learned t c ≢ Some (decisions.Commit n))

-- Each entry of the book agrees with those before it.
abbrev pub BooksAgree : Type 0
BooksAgree = (p : Forest) → IsForest p → (t : List Event) → Lawful p t → Agreement (book_of t)

-- Every Met of the book is marked as mixed exactly where it is.
abbrev pub BooksAreMarked : Type 0
BooksAreMarked = (p : Forest) → IsForest p → (t : List Event) → Lawful p t → MixedIsMarked (book_of t)

-- A decision's SCN exceeds every seal's of its transaction.
abbrev pub DecisionsExceedSeals : Type 0
DecisionsExceedSeals = (p : Forest) → IsForest p → (t : List Event) → Lawful p t → AboveSeals (book_of t)
