-- What a turn tells of a live branch below a root: that it lives on where no record, no ReadOnly and no message ends it, and that it is as it was where
-- nothing comes to it.
use Rattle.std.proofs.Common.{◌≡◌, ◌≢◌, ℕ, ◌==◌, ◌||◌, ◌&&◌, not, Bool, true, false, if◌then◌else◌, is_none, List, [], ◌∷◌, ◌++◌, map, Option, Some, None, inl, inr, refl, ap, subst, ◌∙◌, is_some}
use Rattle.std.specs.List.{AllByRecursion, list_any}
use Rattle.std.proofs.lemmas.Bool.{and_parts, and_left, and_right, or_cases}
use Rattle.tran_ids.proofs.BranchLemmas.{equal_from_same}
use Rattle.agreement.specs.Events.{Event, Exit, Sealed, Decided, Quiet, Dropped, first, exit}
use Rattle.reco.specs.declared.post.Post.{Post}
use Rattle.node_rules.specs.Data.{Answer, BranchId, Kind, Msg, RedoRecord, Input, Place}
use Rattle.node_rules.specs.Data.inputs
use Rattle.node_rules.specs.Data.kinds
use Rattle.node_rules.specs.Data.records
use Rattle.node_rules.specs.Data.stmts
use Rattle.node_rules.specs.Words.{same}
use Rattle.run_rules.specs.Branches.{Seen, Trail, is_among, is_live, is_live_at, is_root_of, all_voted, plan_at}
use Rattle.run_rules.specs.Data.{Turn}
use Rattle.run_rules.specs.Facts.{Facts, outcome_at}
use Rattle.run_branch_laws.specs.HeardLaws.{QuietIs}
use Rattle.run_base_laws.specs.InTurnLaws.{post_of}
use Rattle.run_base_laws.specs.RunEvents.{wrote_event, with_event}
use Rattle.run_rules.specs.Trail.{is_vote, is_abort, is_first_vote, voted_after, begins_collect, recorded_exit, is_quiet, is_read_only, kind_drops, input_drops, has_no_site, ends_siteless, whole_exit, exit_by, exit_after, with_turn}
use Rattle.tree_trail_laws.proofs.SeenLemmas.{planned, brings, turned}

pub some_there : {A : Type 0} (o : Option A) → o ≢ None → is_none o ≡ false
some_there None some = absurd (some refl)
some_there (Some a) some = refl

-- ---- a branch that lives on

module _ (places : List Place) (f : Facts) (tr : Trail) (u : Turn) (s : Seen) (below : s.parent ≢ None) where
  pub turned_live : s.exit ≡ None → recorded_exit s.me u.wrote ≡ None → list_any (is_quiet s.me) u.sent ≡ false → input_drops u.node (brings places f tr u).answer s u.input ≡ false → (turned places f tr u s).exit ≡ None
  turned_live live recorded quiet drops =
      let pl : Trail = planned places f tr u in
      let new : Seen = with_turn f.book u (outcome_at places f u) (brings places f tr u) s in
      let siteless : ends_siteless pl new ≡ false = and_left (is_none s.parent) (new.collects && (all_voted new && has_no_site (plan_at pl s.me))) (some_there s.parent below) in
      let whole : whole_exit pl u (brings places f tr u).answer s new ≡ None = ap (λ q. if q then Some Quiet else (if input_drops u.node (brings places f tr u).answer s u.input || ends_siteless pl new then Some Dropped else None)) quiet
      ∙ (ap (λ q. if q || ends_siteless pl new then Some Dropped else None) drops ∙ ap (λ q. if q then Some Dropped else None) siteless) in
      ap (exit_after pl u (brings places f tr u).answer s new) live ∙ (ap (exit_by pl u (brings places f tr u).answer s new) recorded ∙ by u.cut (whole_exit pl u (brings places f tr u).answer s new) whole)
    where
      by : (cut : Bool) (w : Option Exit) → w ≡ None → (if cut then None else w) ≡ None
      by true w is = refl
      by false w is = is

  -- ---- one to which nothing comes

  root_not : (n session : ℕ) → is_root_of n session s ≡ false
  root_not n session = and_right (is_live_at n s) (is_none s.parent && (s.me.session == session)) (and_left (is_none s.parent) (s.me.session == session) (some_there s.parent below))

  first_not : (m : Msg) → same m.to s.me ≡ false → is_first_vote s m ≡ false
  first_not m other = and_left (same m.to s.me && is_vote m.kind) ((is_live s && s.collects) && (is_among m.from s.children && not (is_among m.from s.voted))) (and_left (same m.to s.me) (is_vote m.kind) other)

  pub untold_voted : (input : Input) → ((m : Msg) → input ≡ inputs.Message m → same m.to s.me ≡ false) → voted_after s input ≡ s.voted
  untold_voted (inputs.Message m) other = ap (λ q. if q then s.voted ++ m.from ∷ [] else s.voted) (first_not m (other m refl))
  untold_voted _ other = refl

  pub untold_begins : (n : ℕ) (a : Option Answer) (input : Input) → ((m : Msg) → input ≡ inputs.Message m → same m.to s.me ≡ false) → begins_collect n a s input ≡ false
  untold_begins n a (inputs.Message m) other = and_left (same m.to s.me) _ (other m refl)
  untold_begins n a (inputs.Call session (Some (stmts.Commit comment))) other = and_right (is_none s.read_at) _ (and_left (is_root_of n session s) _ (root_not n session))
  untold_begins n a (inputs.Call session (Some _)) other = and_right (is_none s.read_at) false refl
  untold_begins n a (inputs.Call session None) other = and_right (is_none s.read_at) false refl
  untold_begins n a _ other = and_right (is_none s.read_at) false refl

  pub untold_drops : (n : ℕ) (a : Option Answer) (input : Input) → ((m : Msg) → input ≡ inputs.Message m → same m.to s.me ≡ false) → input_drops n a s input ≡ false
  untold_drops n a (inputs.Message m) other =
      ap (λ q. q || (is_first_vote s m && is_abort m.kind)) (and_left (same m.to s.me) (kind_drops s m.from m.kind) (other m refl)) ∙ and_left (is_first_vote s m) (is_abort m.kind) (first_not m (other m refl))
  untold_drops n a (inputs.Call session (Some stmts.Rollback)) other = root_not n session
  untold_drops n a (inputs.Call session (Some (stmts.Commit comment))) other = and_right (is_some s.read_at) _ (and_left (is_root_of n session s) _ (root_not n session))
  untold_drops n a (inputs.Call session (Some _)) other = refl
  untold_drops n a (inputs.Call session None) other = refl
  untold_drops n a (inputs.GiveUp session) other = and_left (is_root_of n session s) s.collects (root_not n session)
  untold_drops n a inputs.Reco other = refl
  untold_drops n a inputs.Checkpoint other = refl

-- ---- by the events of the run

first_there : {A : Type 0} (o : Option A) (a : A) → first o (Some a) ≢ None
first_there None a none = absurd cc
first_there (Some b) a none = absurd cc

-- no record ends one that has no exit then
pub unrecorded : (n : ℕ) (e : List Event) (b : BranchId) (w : Option RedoRecord) → exit (with_event (wrote_event n w) e) b ≡ None → recorded_exit b w ≡ None
unrecorded n e b (Some (records.Sealed r)) none = by (same r.me b) none
  where
    by : (q : Bool) → first (exit e b) (if q then Some (Sealed r.scn) else None) ≡ None → (if q then Some (Sealed r.scn) else None) ≡ None
    by true none = absurd (first_there (exit e b) (Sealed r.scn) none)
    by false none = refl
unrecorded n e b (Some (records.Decided r)) none = by (same r.me b) none
  where
    by : (q : Bool) → first (exit e b) (if q then Some (Decided r.scn) else None) ≡ None → (if q then Some (Decided r.scn) else None) ≡ None
    by true none = absurd (first_there (exit e b) (Decided r.scn) none)
    by false none = refl
unrecorded n e b (Some _) none = refl
unrecorded n e b None none = refl

-- one that says ReadOnly is gone without changes
pub quiet_gone : (e : List Event) (b : BranchId) (ms : List Msg) → AllByRecursion (λ (x : Post). QuietIs e x.from x.kind) (map post_of ms) → list_any (is_quiet b) ms ≡ true → exit e b ≡ Some Quiet
quiet_gone e b [] all some = absurd cc
quiet_gone e b (m ∷ ms) all some = elim (or_cases (is_quiet b m) (list_any (is_quiet b) ms) some) [
  | inl here ↦ (let parts = and_parts (same m.from b) (is_read_only m.kind) here in subst (λ c. exit e c ≡ Some Quiet) (equal_from_same m.from b parts.0) (by m.kind parts.1 all.0))
  | inr later ↦ quiet_gone e b ms all.1 later
]
  where
    by : (kind : Kind) → is_read_only kind ≡ true → QuietIs e m.from kind → exit e m.from ≡ Some Quiet
    by kinds.ReadOnly read is = is
    by _ read is = absurd cc
