-- One happening of a lawful run, with what stands as it comes and after it. A proof opens the parts that it speaks of.
use Rattle.std.proofs.Common.{◌≡◌, List, [], ◌∷◌, ◌++◌}
use Rattle.node_rules.specs.Data.{Place, Post}
use Rattle.node_rules.specs.NodeState.{NodeState, TurnDraft}
use Rattle.node_rules.specs.Turn.{heard, draft_of}
use Rattle.agreement.specs.Events.{Event}
use Rattle.run_rules.specs.Births.{Born, births_of}
use Rattle.run_rules.specs.Data.{Happening, Turn}
use Rattle.run_rules.specs.Data.happenings
use Rattle.run_rules.specs.Facts.{Facts, place_at, facts_after}
use Rattle.run_rules.specs.Lawful.{MayHappen, History, IsLawfulRun}
use Rattle.run_base_laws.specs.InTurnLaws.{said_in}
use Rattle.tree_laws.proofs.PrefixLemmas.{so_far, f_at, e_at}
use Rattle.tree_laws.proofs.TimeLemmas.{Part, part_on, part_lawful, may_of}

module _ (t : History) (whole : IsLawfulRun t) (hs : List Happening) where
  pub record AtHappening (h : Happening) : Type 0 where
    -- the run until then, its facts and events, who was born and what was said
    pub s : History
    pub f : Facts
    pub e : List Event
    pub bs : List Born
    pub said : List Post
    pub part : Part t whole hs
    pub lawful : IsLawfulRun (so_far t hs)
    pub may : MayHappen t.places t.commands (f_at t hs) h
    -- the run with it, and the facts after it
    pub after : List Happening
    pub s_after : History
    pub g : Facts
    pub part_after : Part t whole (hs ++ h ∷ [])
    pub lawful_after : IsLawfulRun (so_far t (hs ++ h ∷ []))

  -- a turn, with its node: what it keeps, with what came heard, its place, and what it does
  pub record AtTurn (u : Turn) : Type 0 where
    pub h : Happening
    pub s : History
    pub f : Facts
    pub e : List Event
    pub bs : List Born
    pub said : List Post
    pub part : Part t whole hs
    pub lawful : IsLawfulRun (so_far t hs)
    pub may : MayHappen t.places t.commands (f_at t hs) (happenings.Turn u)
    pub k : NodeState
    pub heard_k : NodeState
    pub p : Place
    pub d : TurnDraft
    pub after : List Happening
    pub s_after : History
    pub g : Facts
    pub part_after : Part t whole (hs ++ happenings.Turn u ∷ [])
    pub lawful_after : IsLawfulRun (so_far t (hs ++ happenings.Turn u ∷ []))

  abbrev pub at_happening : (h : Happening) (rest : List Happening) → hs ++ h ∷ rest ≡ t.trace → AtHappening h
  at_happening h rest is = record {
    s = so_far t hs;
    f = f_at t hs;
    e = e_at t hs;
    bs = births_of (so_far t hs);
    said = said_in (f_at t hs);
    part = record { rest = h ∷ rest; is = is };
    lawful = part_lawful t whole hs (record { rest = h ∷ rest; is = is });
    may = may_of t whole hs h rest is;
    after = hs ++ h ∷ [];
    s_after = so_far t (hs ++ h ∷ []);
    g = facts_after t.places t.commands (f_at t hs) h;
    part_after = part_on t whole hs h rest is;
    lawful_after = part_lawful t whole (hs ++ h ∷ []) (part_on t whole hs h rest is);
  }

  abbrev pub at_turn : (u : Turn) (rest : List Happening) → hs ++ happenings.Turn u ∷ rest ≡ t.trace → AtTurn u
  at_turn u rest is = record {
    h = happenings.Turn u;
    s = so_far t hs;
    f = f_at t hs;
    e = e_at t hs;
    bs = births_of (so_far t hs);
    said = said_in (f_at t hs);
    part = record { rest = happenings.Turn u ∷ rest; is = is };
    lawful = part_lawful t whole hs (record { rest = happenings.Turn u ∷ rest; is = is });
    may = may_of t whole hs (happenings.Turn u) rest is;
    k = (may_of t whole hs (happenings.Turn u) rest is).0;
    heard_k = heard (may_of t whole hs (happenings.Turn u) rest is).0 u.input;
    p = place_at t.places u.node;
    d = draft_of (place_at t.places u.node) (may_of t whole hs (happenings.Turn u) rest is).0 u.input;
    after = hs ++ happenings.Turn u ∷ [];
    s_after = so_far t (hs ++ happenings.Turn u ∷ []);
    g = facts_after t.places t.commands (f_at t hs) (happenings.Turn u);
    part_after = part_on t whole hs (happenings.Turn u) rest is;
    lawful_after = part_lawful t whole (hs ++ happenings.Turn u ∷ []) (part_on t whole hs (happenings.Turn u) rest is);
  }
