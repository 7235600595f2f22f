-- What stands after a part of a run, and at its end. A proof opens the parts that it speaks of.
use Rattle.std.proofs.Common.{List}
use Rattle.agreement.specs.Events.{Event, Forest}
use Rattle.node_rules.specs.Data.{Post}
use Rattle.run_rules.specs.Births.{Born, births_of}
use Rattle.run_rules.specs.Data.{Happening}
use Rattle.run_rules.specs.Facts.{Facts}
use Rattle.run_rules.specs.Lawful.{History, facts_at}
use Rattle.run_base_laws.specs.InTurnLaws.{said_in}
use Rattle.run_base_laws.specs.RunEvents.{events_of}
use Rattle.tree_laws.specs.Forests.{forest_of}
use Rattle.tree_laws.proofs.PrefixLemmas.{so_far, f_at, e_at}

-- the run until then, its facts and events, who was born and what was said
pub record AtPart : Type 0 where
  pub s : History
  pub f : Facts
  pub e : List Event
  pub bs : List Born
  pub said : List Post

abbrev pub at_part : History → List Happening → AtPart
at_part t hs = record { s = so_far t hs; f = f_at t hs; e = e_at t hs; bs = births_of (so_far t hs); said = said_in (f_at t hs) }

-- the same of the whole run, with its forest
pub record AtEnd : Type 0 where
  pub f : Facts
  pub e : List Event
  pub bs : List Born
  pub said : List Post
  pub forest : Forest

abbrev pub at_end : History → AtEnd
at_end t = record { f = facts_at t; e = events_of t; bs = births_of t; said = said_in (facts_at t); forest = forest_of t }
