-- A run without its purges. Take them out of a lawful run: all that is left may come as it came, each turn with the record and the
-- messages that it had, the book is the same, and the same calls end with the same answers. Only the images that checkpoints write
-- say of other rows that they are hidden. (PL/SQL Packages and Types Reference: DBMS_TRANSACTION, PURGE_MIXED, PURGE_LOST_DB_ENTRY.)
use Rattle.std.specs.Prelude.{◌≡◌, not, ◌||◌, Bool, true, false, if◌then◌else◌, List, [], ◌∷◌, ◌++◌, filter, map, Option, Some, None}
use Rattle.std.specs.List.{list_any}
use Rattle.node_rules.specs.Data.{Place, RedoRecord}
use Rattle.node_rules.specs.Data.records
use Rattle.node_rules.specs.declared.session.Finished.{Finished}
use Rattle.run_rules.specs.Data.{Command, Happening}
use Rattle.run_rules.specs.Data.happenings
use Rattle.run_rules.specs.Facts.{Facts, first_facts, facts_after, outcome_at}
use Rattle.run_rules.specs.Lawful.{History, IsLawfulRun, facts_at}
use Rattle.run_rules.specs.Trail.{ended_by}
use Rattle.node_purge_laws.specs.PurgeLaws.{written, is_purge}
use Rattle.node_purge_laws.specs.PurgeRunLaws.{PurgesGoUnseen}

-- whether a happening is a purge
abbrev pub is_purge_turn : Happening → Bool
is_purge_turn (happenings.Turn u) = is_purge u.input
is_purge_turn _ = false

-- the happenings that are no purges
abbrev pub but_purges : List Happening → List Happening
but_purges hs = filter (λ h. not (is_purge_turn h)) hs

-- a happening without what an image says of hidden rows
abbrev pub happened : Happening → Happening
happened (happenings.Turn u) = happenings.Turn (record u { wrote = written u.wrote })
happened h = h

-- whether a record is an image
abbrev pub is_image : RedoRecord → Bool
is_image (records.Image i) = true
is_image _ = false

-- whether an image is written
abbrev pub has_image : Option RedoRecord → Bool
has_image None = false
has_image (Some r) = is_image r

-- whether a happening is a turn that writes an image
abbrev pub writes_image : Happening → Bool
writes_image (happenings.Turn u) = has_image u.wrote
writes_image _ = false

-- a run with other happenings
abbrev pub with_trace : History → List Happening → History
with_trace t hs = record t { trace = hs }

-- the calls that a turn ends, with their answers, but for those of a purge
abbrev pub calls_ended : List Place → Facts → Happening → List Finished
calls_ended places f (happenings.Turn u) = if is_purge u.input || u.cut then [] else ended_by (outcome_at places f u)
calls_ended places f _ = []

-- the calls that these happenings end, in order
abbrev pub all_ended : List Place → List Command → Facts → List Happening → List Finished
all_ended places asked f [] = []
all_ended places asked f (h ∷ hs) = calls_ended places f h ++ all_ended places asked (facts_after places asked f h) hs

-- all calls that end in a run but for purges, with their answers
abbrev pub answers_of : History → List Finished
answers_of t = all_ended t.places t.commands (first_facts t.places) t.trace

-- A run is the same without its purges: its other happenings are a run, but for the hidden rows of the images in it.
pub record IsSameWithoutPurges (t : History) : Type 0 where
  pub rest : List Happening
  pub same : map happened rest ≡ map happened (but_purges t.trace)
  -- word for word, where no image is written
  pub exact : list_any writes_image t.trace ≡ false → rest ≡ but_purges t.trace
  pub lawful : IsLawfulRun (with_trace t rest)
  pub booked : (facts_at (with_trace t rest)).book ≡ (facts_at t).book
  pub answered : answers_of (with_trace t rest) ≡ answers_of t

-- A purge hides a row, and nothing else of a run hangs on it.
pub record PurgesChangeNothing (t : History) : Type 0 where
  pub unseen : PurgesGoUnseen t
  pub left_out : IsSameWithoutPurges t

-- It is so of every lawful run.
abbrev pub EveryPurgeChangesNothing : Type 0
EveryPurgeChangesNothing = (t : History) → IsLawfulRun t → PurgesChangeNothing t
