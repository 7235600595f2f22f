-- The laws of every run, each proved in a crate above: answers are meant and have their places, branches end as their site
-- decided, forced branches that met another decision are marked, and commit SCNs exceed the seals'. (Database
-- Administrator's Guide, "Distributed Transactions Concepts".)
use Rattle.run_rules.specs.Entries.{book_of}
use Rattle.run_rules.specs.Lawful.{History, IsLawfulRun}
use Rattle.run_rules.specs.Scripts.{IsTheRunOf}
use Rattle.run_claims.specs.Knowledge.{Knowledge}
use Rattle.run_rules.specs.Book.{Agreement, MixedIsMarked, ScnLaw}
use Rattle.run_claims.specs.Site.{SiteDecides, Coverage}
use Rattle.run_claims.specs.Meanings.{RunsAreMeant}
use Rattle.run_claims.specs.Places.{AnswersHavePlaces}

-- of every lawful run the book agrees
abbrev pub EveryBookAgrees : Type 0
EveryBookAgrees = (t : History) → IsLawfulRun t → Agreement (book_of t.trace)

-- mixed outcomes are marked
abbrev pub EveryMixedIsMarked : Type 0
EveryMixedIsMarked = (t : History) → IsLawfulRun t → MixedIsMarked (book_of t.trace)

-- the law of commit SCNs holds
abbrev pub EveryScnIsLater : Type 0
EveryScnIsLater = (t : History) → IsLawfulRun t → ScnLaw (book_of t.trace)

-- the commit point site decides
abbrev pub EverySiteDecides : Type 0
EverySiteDecides = (t : History) → IsLawfulRun t → SiteDecides t

-- every other branch with changes is sealed before
abbrev pub EveryDecisionCovers : Type 0
EveryDecisionCovers = (t : History) → IsLawfulRun t → Coverage t

-- each answer of a run is meant
abbrev pub EveryRunIsMeant : Type 0
EveryRunIsMeant = (t : History) → IsLawfulRun t → RunsAreMeant t

-- each answer of a run of a script comes from the turn that ran the statement
abbrev pub EveryAnswerHasItsPlace : Type 0
EveryAnswerHasItsPlace = (t : History) → IsTheRunOf t → AnswersHavePlaces t

-- each record and each message of a turn has its cause in what came and what happened before
abbrev pub EveryTurnKnows : Type 0
EveryTurnKnows = (t : History) → IsLawfulRun t → Knowledge t
