-- The root of such a tree, from its COMMIT on.
use Rattle.std.proofs.Common.{◌≡◌, ◌≢◌, ℕ, ◌≤◌, true, List, [], ◌∷◌, ◌++◌, Option, Some, None, refl, sym, ap, subst, ◌∙◌, append-nil, arith}
use Rattle.std.specs.Prelude.{IfSome}
use Rattle.std.proofs.lemmas.List.{append_assoc}
use Rattle.dtx_values.specs.Limits.{depth_limit}
use Rattle.session_tree.specs.Live.{children_of}
use Rattle.agreement.specs.Events.{exit}
use Rattle.node_rules.specs.Data.{BranchId, Live}
use Rattle.node_rules.specs.Data.phases
use Rattle.node_rules.specs.Words.{numbered}
use Rattle.node_rules.specs.NodeState.{NodeState, Branch, live_at, branch_at}
use Rattle.node_rules.specs.LiveBranches.{EachLive}
use Rattle.node_rules.proofs.LiveLemmas.{branch_parts}
use Rattle.node_rules.proofs.StandLemmas.{live_so}
use Rattle.run_rules.specs.Births.{Born, births_of}
use Rattle.run_base_laws.specs.BirthLaws.{Began, LiveIs}
use Rattle.run_rules.specs.Data.{Turn, Happening}
use Rattle.run_rules.specs.Data.happenings
use Rattle.run_rules.specs.Facts.{node_at}
use Rattle.run_base_laws.specs.FreezeLaws.{was_asked}
use Rattle.run_base_laws.specs.InTurnLaws.{said_in, NeedsNoRollback}
use Rattle.run_rules.specs.Lawful.{History, IsLawfulRun, facts_at}
use Rattle.run_base_laws.proofs.CallTurnLemmas.{InTurn}
use Rattle.run_base_laws.proofs.InTurnRunLemmas.{run_calls}
use Rattle.tree_laws.proofs.AskRunLemmas.{edges_asked}
use Rattle.tree_laws.proofs.ForestLemmas as trees
use Rattle.tree_laws.proofs.PrefixLemmas.{so_far, f_at, e_at}
use Rattle.tree_laws.proofs.SettleRunLemmas.{known}
use Rattle.tree_laws.specs.DecideLaws.{InTree, Is_root}
use Rattle.tree_laws.proofs.DecideLemmas.{IsTop, root_member}
use Rattle.tree_laws.proofs.FindLemmas.{CommitAt, WasFound}
use Rattle.tree_laws.proofs.FrozenLemmas.{State, Here, Left, Since}
use Rattle.tree_laws.proofs.TimeLemmas.{Part, part_lawful, born_end}
use Rattle.tree_laws.proofs.WeighLemmas.{placed_of}
use Rattle.tree_cover_laws.proofs.StandLemmas.{Stands}
use Rattle.tree_cover_laws.proofs.StayLemmas.{StillThere, OnPath}
use Rattle.tree_laws.proofs.DecideLemmas.{cancel}

first_is : {A : Type 0} (x y : A) (xs ys : List A) → x ∷ xs ≡ y ∷ ys → x ≡ y
first_is x y xs ys is = cc

-- a COMMIT of a part of a run is one of the run, and of each longer part
abbrev pub same_commit : (t z : History) (whole : IsLawfulRun t) (its : IsLawfulRun z) (r : BranchId) (hs : List Happening) (u : Turn) → ((n : ℕ) → node_at (f_at t hs) n ≡ node_at (f_at z hs) n) → CommitAt t whole r hs u → CommitAt z its r hs u
same_commit t z whole its r hs u same at = record {
  kept = at.kept;
  up = sym (same r.node) ∙ at.up;
  branch = at.branch;
  found = at.found;
  is_me = at.is_me;
  working = at.working;
  goes = at.goes;
  waits = at.waits;
  node = at.node;
  session = at.session;
  given = at.given;
  call = at.call;
  root = at.root;
  code = at.code;
  writes = at.writes;
}

module _ (t : History) (whole : IsLawfulRun t) (r : BranchId) (found : WasFound t whole r t.trace) (top : IsTop t whole r)
    (busy : (m mid : List Happening) → Part t whole m → found.before ++ happenings.Turn found.turn ∷ mid ≡ m → (k : NodeState) (l : Live) → node_at (f_at t m) r.node ≡ Some k → live_at k r ≡ Some l → l.phase ≢ phases.Working) where
  abbrev hs0 : List Happening
  hs0 = found.before

  abbrev pub part0 : Part t whole hs0
  part0 = record { rest = happenings.Turn found.turn ∷ found.later; is = found.is }

  abbrev x : Branch
  x = found.commit.branch

  up : node_at (f_at t hs0) x.live.me.node ≡ Some found.commit.kept
  up = subst (λ b. node_at (f_at t hs0) b.node ≡ Some found.commit.kept) (sym found.commit.is_me) found.commit.up

  -- it is as it began
  placed : LiveIs (Began (births_of (so_far t hs0))) x.live
  placed = placed_of (so_far t hs0) (part_lawful t whole hs0 part0) x.live.me.node found.commit.kept up x found.commit.found

  born : placed.born ≡ top.0
  born = trees.same_born (births_of t) (said_in (facts_at t)) (known t whole) placed.born top.0 (born_end t whole hs0 part0 placed.born placed.began) top.1 (placed.is_me ∙ (found.commit.is_me ∙ sym top.2))

  -- it keeps no reply
  alone : x.live.parent ≡ None → x.work.came.reply ≡ None
  alone no_parent =
      let parts = branch_parts found.commit.kept x.live.me x found.commit.found in
      let calls = subst (λ (o : Option NodeState). IfSome o (λ k. EachLive (λ l w. InTurn (NeedsNoRollback k l) (said_in (f_at t hs0)) l.me l.parent (children_of l) w) k.lives k.works)) up ((run_calls (so_far t hs0) (part_lawful t whole hs0 part0)).nodes x.live.me.node) in
      ap (λ w. w.came.reply) parts.1 ∙ (calls.each x.live.me x.live parts.0).alone no_parent

  pub top_stands : Stands t whole hs0 part0 r x
  top_stands = record {
    here = record { kept = found.commit.kept; up = up; found = found.commit.found };
    working = found.commit.working;
    goes = found.commit.goes;
    waits = found.commit.waits;
    root = sym placed.is_root ∙ (ap (λ (y : Born). y.root) born ∙ top.4);
    tree = subst (InTree (f_at t hs0) r) (sym found.commit.is_me) Is_root;
    low = (let stands = trees.stands_so (births_of t) (said_in (facts_at t)) (known t whole) top.0 None top.1 top.3 in
        let one : x.live.depth ≡ 1 = sym placed.is_depth ∙ (ap (λ (y : Born). y.depth) born ∙ stands.1) in
        let few : 1 ≤ depth_limit = omega arith in
        subst (λ d. d ≤ depth_limit) (sym one) few);
    fine = λ gone. (let no_parent : x.live.parent ≡ None = sym placed.is_parent ∙ (ap (λ (y : Born). y.parent) born ∙ top.3) in
        let no : x.work.came.reply ≡ None = alone no_parent in
        let some : x.work.came.reply ≡ Some gone.0 = gone.1 in
        cc (no, some));
  }

  -- ---- later on

  module _ (m mid : List Happening) (part : Part t whole m) (is : hs0 ++ happenings.Turn found.turn ∷ mid ≡ m) (live : exit (e_at t m) r ≡ None) where
    abbrev z : History
    z = so_far t m

    lawful : IsLawfulRun z
    lawful = part_lawful t whole m part

    abbrev first_part : Part z lawful hs0
    first_part = record { rest = happenings.Turn found.turn ∷ mid; is = is }

    abbrev found_z : WasFound z lawful r m
    found_z = record { before = hs0; turn = found.turn; later = mid; is = is; commit = same_commit t z whole lawful r hs0 found.turn (λ n. refl) found.commit }

    top_z : IsTop z lawful r
    top_z = (
      placed.born,
      born_end z lawful hs0 first_part placed.born placed.began,
      placed.is_me ∙ found.commit.is_me,
      ap (λ (y : Born). y.parent) born ∙ top.3,
      ap (λ (y : Born). y.root) born ∙ top.4,
    )

    -- it is not working any more
    out : (k : NodeState) (y : Branch) → node_at (f_at t m) x.live.me.node ≡ Some k → branch_at k y.live.me ≡ Some y → y.live.me ≡ x.live.me → y.live.phase ≢ phases.Working
    out k y up_y found_y me =
        busy m mid part is k y.live (subst (λ b. node_at (f_at t m) b.node ≡ Some k) found.commit.is_me up_y) (subst (λ b. live_at k b ≡ Some y.live) (me ∙ found.commit.is_me) (live_so k y.live.me y found_y))

    -- it has asked its children
    asks : State z lawful x m → (i : ℕ) (c : BranchId) → numbered (children_of x.live) i ≡ Some c → was_asked (said_in (facts_at z)) x.live.me c ≡ true
    asks (Left w left kids ends told) i c at = kids i c at
    asks (Here k y up_y found_y me same) i c at =
        subst (λ b. was_asked (said_in (facts_at z)) b c ≡ true) me ((edges_asked z lawful x.live.me.node k up_y y.live (live_so k y.live.me y found_y) (out k y up_y found_y me)).0 i c (subst (λ bs. numbered bs i ≡ Some c) (sym same.peers) at))

    still : State z lawful x m → StillThere t whole hs0 part0 r x m
    still (Left w left kids ends told) = (let gone : exit (e_at t m) r ≡ Some w = subst (λ b. exit (e_at t m) b ≡ Some w) found.commit.is_me left in absurd (cc (gone, live)))
    still (Here k y up_y found_y me same) = record { kept = k; now = y; up = up_y; found = found_y; is_me = me; same = same; calm = λ working. absurd (out k y up_y found_y me working) }

    pub still_there : StillThere t whole hs0 part0 r x m
    still_there =
        still ((root_member z lawful r found_z (λ w left. (let gone : exit (e_at t m) r ≡ Some w = left in absurd (cc (gone, live)))) asks top_z).state m (happenings.Turn found.turn ∷ mid, is) (record { rest = []; is = append-nil m }))

  root_stays : (m : List Happening) → Part t whole m → Since t whole hs0 part0 m → exit (e_at t m) r ≡ None → StillThere t whole hs0 part0 r x m
  root_stays m part since live = by since.0 since.1
    where
      by : (mid : List Happening) → hs0 ++ mid ≡ m → StillThere t whole hs0 part0 r x m
      by [] is = subst (StillThere t whole hs0 part0 r x) (sym (append-nil hs0) ∙ is) (record {
        kept = found.commit.kept;
        now = x;
        up = up;
        found = found.commit.found;
        is_me = refl;
        same = record { peers = refl; weights = refl; changed = refl };
        calm = λ working. (found.commit.goes, found.commit.waits);
      })
      by (y ∷ mid) is =
          let all : hs0 ++ (y ∷ (mid ++ part.rest)) ≡ hs0 ++ (happenings.Turn found.turn ∷ found.later) = sym (append_assoc hs0 (y ∷ mid) part.rest) ∙ (ap (λ xs. xs ++ part.rest) is ∙ (part.is ∙ sym found.is)) in
          let it : y ≡ happenings.Turn found.turn = first_is y (happenings.Turn found.turn) (mid ++ part.rest) found.later (cancel hs0 (y ∷ (mid ++ part.rest)) (happenings.Turn found.turn ∷ found.later) all) in
          still_there m mid part (ap (λ h. hs0 ++ h ∷ mid) (sym it) ∙ is) live

  pub root_path : OnPath t whole hs0 part0 r r
  root_path = record { branch = x; is_me = found.commit.is_me; stands = top_stands; stays = root_stays }
