-- After a turn that leaves no call of a session, the session's transaction is told to be the one that its node keeps.
use Rattle.std.proofs.Common.{◌≡◌, ℕ, ◌&&◌, false, List, [], ◌∷◌, ◌++◌, is_none, unwrap_or, Option, Some, None, refl, sym, ap, subst, subst₂, ◌∙◌, arith}
use Rattle.std.proofs.lemmas.Bool.{cond_both}
use Rattle.node_rules.specs.Data.{Answer, BranchId, Live, Place}
use Rattle.node_rules.specs.declared.session.PendingCall.TheVariants as pending
use Rattle.node_rules.specs.declared.session.Session.{Session}
use Rattle.node_rules.specs.Inputs.{IsSession}
use Rattle.node_rules.specs.NodeState.{NodeState}
use Rattle.node_rules.specs.Words.{numbered}
use Rattle.node_rules.specs.Refusals.{dtx}
use Rattle.node_rules.specs.Sessions.{fresh_session, session_at, with_call, needs_rollback}
use Rattle.node_rules.specs.Calls.{heard_sessions, is_gone}
use Rattle.node_rules.specs.Turn.{turn_of, draft_of}
use Rattle.run_rules.specs.Branches.{Seen, Trail, no_trail, root_at}
use Rattle.run_rules.specs.Data.{Turn, Happening, Command}
use Rattle.run_rules.specs.Data.happenings
use Rattle.run_rules.specs.Each.{EachFrom}
use Rattle.run_rules.specs.Facts.{Facts, node_at, kept_after, first_facts, facts_after}
use Rattle.run_rules.specs.Lawful.{History, IsLawfulRun}
use Rattle.run_rules.specs.Trail.{trail_after}
use Rattle.run_rules.proofs.AtNodeLemmas.{range_of, turn_here}
use Rattle.run_base_laws.proofs.EventsStandLemmas.{run_stands}
use Rattle.run_base_laws.proofs.RootLemmas.{RootsFit}
use Rattle.tree_laws.proofs.PrefixLemmas.{so_far, f_at, one_on}
use Rattle.tree_laws.proofs.TimeLemmas.{Part, part_lawful, part_on}
use Rattle.tree_trail_laws.specs.SeenLaws.{TracesOwns, SeesRoots, Sees}
use Rattle.tree_trail_laws.specs.TopLaws.{NamesNext}
use Rattle.tree_trail_laws.proofs.CallLemmas.{seen_root}
use Rattle.tree_trail_laws.proofs.MomentLemmas.{tr_at, trail_one_on}
use Rattle.tree_trail_laws.proofs.SeenRunLemmas.{all_is_seen}
use Rattle.tree_trail_laws.proofs.TopFollowLemmas.{tops_follow}
use Rattle.tree_trail_laws.proofs.TopNodeLemmas.{session_put}
use Rattle.tree_laws.proofs.AtTurn.{at_turn}
use Rattle.tree_trail_laws.proofs.AtTrail.{at_trail}

-- ---- sessions

-- A session has this transaction, and waits for no answer.
pub record Freed (ss : List Session) (n : ℕ) (me : BranchId) : Type 0 where
  pub root : (session_at ss n).root ≡ Some me
  pub free : (session_at ss n).call ≡ pending.NoCall

module _ (ss : List Session) (n : ℕ) (me : BranchId) (has : (session_at ss n).root ≡ Some me) where
  -- its call ends
  pub call_freed : Freed (with_call ss n pending.NoCall) n me
  call_freed =
      let set : session_at (with_call ss n pending.NoCall) n ≡ record (session_at ss n) { call = pending.NoCall } = session_put ss n me (record (session_at ss n) { call = pending.NoCall }) has in
      record { root = ap (λ s. s.root) set ∙ has; free = ap (λ s. s.call) set }

  -- a Reply is heard
  pub heard_root : (l : Live) (a : Answer) → l.me.session ≡ n → (session_at (heard_sessions ss l a) n).root ≡ Some me
  heard_root l a its =
      cond_both (is_none l.parent && is_gone a) (needs_rollback ss l.me.session (dtx 8 []).code) ss (λ ts. (session_at ts n).root ≡ Some me)
      (λ gone. subst (λ m. (session_at (needs_rollback ss m (dtx 8 []).code) n).root ≡ Some me) (sym its) (ap (λ s. s.root) (session_put ss n me (record (session_at ss n) { code = Some (dtx 8 []).code }) has) ∙ has))
      (λ other. has)

  -- it is one of the 64
  pub root_range : RootsFit ss → IsSession n
  root_range fits = by (numbered ss n) refl has
    where
      by : (o : Option Session) → numbered ss n ≡ o → (unwrap_or o fresh_session).root ≡ Some me → IsSession n
      by None at none = absurd cc
      by (Some s) at some = let range = range_of ss n s at in (range.0, omega (arith, range.1, fits.many))

-- ---- what is told

owns_seen : (places : List Place) (asked : List Command) (f : Facts) (tr : Trail) (hs : List Happening) → EachFrom (λ g r h. Sees g r) places asked f tr hs → EachFrom (λ g r h. TracesOwns g r) places asked f tr hs
owns_seen places asked f tr [] each = tt
owns_seen places asked f tr (h ∷ hs) each = (each.0.owns, owns_seen places asked (facts_after places asked f h) (trail_after places f tr h) hs each.1)

module _ (t : History) (whole : IsLawfulRun t) where
  -- roots are told as their nodes keep them
  tops_told : (hs : List Happening) → Part t whole hs → SeesRoots (f_at t hs) (tr_at t hs) × NamesNext t.places (f_at t hs) (tr_at t hs)
  tops_told hs part =
      let lawful : IsLawfulRun (so_far t hs) = part_lawful t whole hs part in
      let all = tops_follow (so_far t hs) lawful (owns_seen t.places t.commands (first_facts t.places) no_trail hs (all_is_seen (so_far t hs) lawful)) in
      (all.1, all.2)

  pub roots_told : (hs : List Happening) → Part t whole hs → SeesRoots (f_at t hs) (tr_at t hs)
  roots_told hs part = (tops_told hs part).0

  pub next_told : (hs : List Happening) → Part t whole hs → NamesNext t.places (f_at t hs) (tr_at t hs)
  next_told hs part = (tops_told hs part).1

  module _ (hs : List Happening) (u : Turn) (rest : List Happening) (is : hs ++ happenings.Turn u ∷ rest ≡ t.trace) (uncut : u.cut ≡ false) where
    open at_turn t whole hs u rest is use {after as hs1, lawful as lawful0, may, k, p, g as f1}
    open at_trail t hs u use {tr_on as tr1}

    here_after : node_at f1 u.node ≡ Some (turn_of p k u.input).after
    here_after = (turn_here t.places t.commands (f_at t hs) (run_stands (so_far t hs) lawful0).0.even u k may.1.up).0 ∙ ap (λ cut. kept_after cut (Some (turn_of p k u.input))) uncut

    roots_after : SeesRoots f1 tr1
    roots_after = subst₂ SeesRoots (one_on t hs (happenings.Turn u)) (trail_one_on t hs (happenings.Turn u)) (roots_told hs1 (part_on t whole hs (happenings.Turn u) rest is))

    -- the session's transaction after the turn
    pub root_after : (session : ℕ) → IsSession session → (me : BranchId) → Freed (draft_of p k u.input).after.sessions session me → (s : Seen) × (root_at tr1 u.node session ≡ Some s) × (s.me ≡ me)
    unfolding turn_of
    root_after session range me freed =
        let j : NodeState = (draft_of p k u.input).after in
        let found = seen_root tr1 j (root_at tr1 u.node session) (session_at j.sessions session).root me freed.root (roots_after u.node j here_after session range freed.free) in
        (found.0, found.1, found.2)
