-- What a node keeps, by the parts of its memory.
use Rattle.std.specs.Prelude.{◌≡◌}
use Rattle.node_rules.specs.NodeState.{Stored, NodeState}
use Rattle.node_memory.specs.declared.memory.Memory.{Memory}
use Rattle.node_memory.specs.Versions.{versions_as}

-- what its records give
abbrev pub stored_in : Memory → Stored
stored_in m = record {
  durable = record {
    boot = m.boot;
    recovery = m.catalog.recovery;
    tables = m.catalog.tables;
    links = m.catalog.links;
    synonyms = m.catalog.synonyms;
    kept = m.kept;
    strength = m.strength;
  };
  rows = m.store.rows;
  doubts = m.store.doubts;
  scn = m.scn;
  top = m.top;
  generation = m.generation;
}

-- and what a stop loses
abbrev pub kept_in : Memory → NodeState
kept_in m = record {
  stored = stored_in m;
  owns = m.store.owns;
  lives = m.lives;
  works = m.works;
  locks = m.locks;
  clock = m.clock;
  versions = versions_as m.versions;
  opens = m.opens;
  sessions = m.sessions;
}

-- the store has the undo extents of the node's place: true of every Memory
abbrev pub HasOwnUndo : Memory → Type 0
HasOwnUndo m = m.store.extents ≡ m.place.undo
