-- A lawful run without its purges is lawful, has the same book, and ends the same calls with the same answers.
use Rattle.std.proofs.Common.{◌≡◌, ℕ, ◌+◌, ◌||◌, not, Bool, true, false, true≢false, if◌then◌else◌, List, [], ◌∷◌, ◌++◌, map, unwrap_or, Option, Some, None, inl, inr, refl, sym, ap, subst, subst₂, ◌∙◌, append-nil}
use Rattle.std.specs.Prelude.{◌⊎◌, find}
use Rattle.std.specs.List.{list_any}
use Rattle.std.specs.Option.{option_to_list}
use Rattle.node_rules.specs.Data.{BranchId, Input, KeptRow, Place, RedoRecord}
use Rattle.node_rules.specs.Data.inputs
use Rattle.node_rules.specs.Data.records
use Rattle.node_rules.specs.Data.stmts
use Rattle.node_rules.specs.Force.{may_purge, hides, purge}
use Rattle.node_rules.specs.NodeState.{NodeState}
use Rattle.node_rules.specs.Sessions.{session_at}
use Rattle.node_rules.specs.Turn.{turn_of}
use Rattle.node_rules.specs.Words.{set_numbered}
use Rattle.net_bag.specs.Net.{Net, sent_on, lost_at_once}
use Rattle.run_rules.specs.Branches.{no_trail}
use Rattle.run_rules.specs.Data.{Command, Entry, Happening, Took, Turn}
use Rattle.run_rules.specs.Data.happenings
use Rattle.run_rules.specs.Data.pending
use Rattle.run_rules.specs.Entries.{entries_of}
use Rattle.run_rules.specs.Facts.{Facts, first_facts, place_at, flat, node_at, records_at, served, outcome_at, kept_after, taken, facts_after, facts_of}
use Rattle.run_rules.specs.Lawful.{IsPending, Comes, IsOwed, MayHappen, MayStop, MayBeLost, IsLawful, History, IsLawfulRun}
use Rattle.run_rules.specs.Trail.{ended_by}
use Rattle.node_purge_laws.specs.PurgeLaws.{IsLike, but_hidden, written, is_purge}
use Rattle.node_purge_laws.specs.PurgeRunLaws.{HidesAlone, DoesAlike}
use Rattle.node_purge_laws.specs.LeftOutLaws.{is_purge_turn, but_purges, happened, is_image, has_image, writes_image, calls_ended, all_ended, IsSameWithoutPurges, EveryPurgeChangesNothing}
use Rattle.node_purge_laws.proofs.HideLemmas.{rows_same}
use Rattle.node_purge_laws.proofs.PurgeRunLemmas.{sees_none, purges_go_unseen}
use Rattle.node_purge_laws.proofs.StartLikeLemmas.{like_turned, like_on, NodeLike, Fewer, fewer_same, fewer_with, fewer_hidden, fewer_boots, start_like, Pairwise, pairs_same, pairs_set, pairs_left, set_twice, node_there, disk_there}

-- ---- what a purge writes

-- nothing, or that a row is hidden
abbrev HidesOrNot : Option RedoRecord → Type 0
HidesOrNot w = (w ≡ None) ⊎ ((b : BranchId) × (w ≡ Some (records.Hidden b)))

hides_writes : (k : NodeState) (n : ℕ) (id : List ℕ) (o : Option KeptRow) → HidesOrNot (hides k n id o).wrote
hides_writes k n id None = inl refl
hides_writes k n id (Some s) = inr (s.me, refl)

purge_writes : (k : NodeState) (n : ℕ) (mixed : Bool) (id : List ℕ) → HidesOrNot (purge k n mixed id).wrote
unfolding purge
purge_writes k n mixed id = hides_writes k n id (find (may_purge mixed id) k.stored.durable.kept)

turn_writes : (p : Place) (k : NodeState) (input : Input) → is_purge input ≡ true → HidesOrNot (turn_of p k input).wrote
unfolding turn_of
turn_writes p k (inputs.Call n (Some (stmts.PurgeMixed id))) is = purge_writes k n true id
turn_writes p k (inputs.Call n (Some (stmts.PurgeLost id))) is = purge_writes k n false id
turn_writes p k _ is = absurd cc

owed_writes : (p : Place) (u : Turn) (k : NodeState) (cut : Bool) → HidesOrNot (turn_of p k u.input).wrote → IsOwed p k u.input u.wrote u.sent cut → HidesOrNot u.wrote
owed_writes p u k false writes owed = subst HidesOrNot (sym owed.0) writes
owed_writes p u k true writes owed = elim owed.0 [ inl none ↦ inl none | inr is ↦ subst HidesOrNot (sym is) writes ]

-- it is a call of a client
takes_nothing : (f : Facts) (k : NodeState) (n : ℕ) (input : Input) (took : Option Took) → is_purge input ≡ true → Comes f k n input took → took ≡ None
takes_nothing f k n (inputs.Call m (Some (stmts.PurgeMixed id))) None is comes = refl
takes_nothing f k n (inputs.Call m (Some (stmts.PurgeMixed id))) (Some t) is comes = absurd comes
takes_nothing f k n (inputs.Call m (Some (stmts.PurgeLost id))) None is comes = refl
takes_nothing f k n (inputs.Call m (Some (stmts.PurgeLost id))) (Some t) is comes = absurd comes
takes_nothing f k n _ took is comes = absurd cc

no_entry : (n : ℕ) (book : List Entry) (w : Option RedoRecord) → HidesOrNot w → book ++ entries_of n w ≡ book
no_entry n book w (inl none) = ap (λ x. book ++ entries_of n x) none ∙ append-nil book
no_entry n book w (inr hidden) = ap (λ x. book ++ entries_of n x) hidden.1 ∙ append-nil book

fewer_written : {rs more : List RedoRecord} (w : Option RedoRecord) → HidesOrNot w → Fewer rs more → Fewer (rs ++ option_to_list w) more
fewer_written {rs} {more} w (inl none) few = subst (λ x. Fewer (rs ++ option_to_list x) more) (sym none) (subst (λ xs. Fewer xs more) (sym (append-nil rs)) few)
fewer_written {rs} {more} w (inr hidden) few = subst (λ x. Fewer (rs ++ option_to_list x) more) (sym hidden.1) (fewer_hidden few hidden.0)

-- an image has no entry
entry_same : (n : ℕ) (r : RedoRecord) → entries_of n (Some (but_hidden r)) ≡ entries_of n (Some r)
entry_same n (records.Boot m) = refl
entry_same n (records.Table t) = refl
entry_same n (records.Link l) = refl
entry_same n (records.Synonym y) = refl
entry_same n (records.Param q) = refl
entry_same n (records.Sealed r) = refl
entry_same n (records.Decided r) = refl
entry_same n (records.Ended b d) = refl
entry_same n (records.Forced b d given) = refl
entry_same n (records.Met b d mixed) = refl
entry_same n (records.Forgot b) = refl
entry_same n (records.Hidden b) = refl
entry_same n (records.Image i) = refl

written_entries : (n : ℕ) (w : Option RedoRecord) → entries_of n (written w) ≡ entries_of n w
written_entries n None = refl
written_entries n (Some r) = entry_same n r

entries_alike : (n : ℕ) (w v : Option RedoRecord) → written v ≡ written w → entries_of n v ≡ entries_of n w
entries_alike n w v same = sym (written_entries n v) ∙ (ap (entries_of n) same ∙ written_entries n w)

-- ---- records that are no images

image_same : (r : RedoRecord) → is_image (but_hidden r) ≡ is_image r
image_same (records.Boot m) = refl
image_same (records.Table t) = refl
image_same (records.Link l) = refl
image_same (records.Synonym y) = refl
image_same (records.Param q) = refl
image_same (records.Sealed r) = refl
image_same (records.Decided r) = refl
image_same (records.Ended b d) = refl
image_same (records.Forced b d given) = refl
image_same (records.Met b d mixed) = refl
image_same (records.Forgot b) = refl
image_same (records.Hidden b) = refl
image_same (records.Image i) = refl

plain_record : (r : RedoRecord) → is_image r ≡ false → but_hidden r ≡ r
plain_record (records.Boot m) none = refl
plain_record (records.Table t) none = refl
plain_record (records.Link l) none = refl
plain_record (records.Synonym y) none = refl
plain_record (records.Param q) none = refl
plain_record (records.Sealed r) none = refl
plain_record (records.Decided r) none = refl
plain_record (records.Ended b d) none = refl
plain_record (records.Forced b d given) none = refl
plain_record (records.Met b d mixed) none = refl
plain_record (records.Forgot b) none = refl
plain_record (records.Hidden b) none = refl
plain_record (records.Image i) none = absurd (true≢false none)

record_exact : (q r : RedoRecord) → is_image r ≡ false → but_hidden q ≡ but_hidden r → q ≡ r
record_exact q r none same =
    let other : is_image q ≡ false = sym (image_same q) ∙ (ap is_image same ∙ (image_same r ∙ none)) in
    sym (plain_record q other) ∙ (same ∙ plain_record r none)

written_exact : (v w : Option RedoRecord) → has_image w ≡ false → written v ≡ written w → v ≡ w
written_exact None None none same = refl
written_exact None (Some r) none same = absurd cc
written_exact (Some q) None none same = absurd cc
written_exact (Some q) (Some r) none same = (let is : but_hidden q ≡ but_hidden r = cc in ap Some (record_exact q r none is))

neither_left : (a b : Bool) → (a || b) ≡ false → a ≡ false
neither_left true b none = absurd (true≢false none)
neither_left false b none = refl

neither_right : (a b : Bool) → (a || b) ≡ false → b ≡ false
neither_right true b none = absurd (true≢false none)
neither_right false b none = none

-- ---- facts that differ in purges alone

-- the same facts with other nodes and disks
abbrev other : Facts → List (Option NodeState) → List (List RedoRecord) → Facts
other f ns ds = record f { nodes = ns; records = ds }

-- Nodes and disks that differ in purges alone.
record AreAlike (f : Facts) (ns : List (Option NodeState)) (ds : List (List RedoRecord)) : Type 0 where
  nodes : Pairwise NodeLike f.nodes ns
  disks : Pairwise Fewer f.records ds

up_there : (x y : Option NodeState) (k : NodeState) → NodeLike x y → x ≡ Some k → (o : NodeState) × (y ≡ Some o) × IsLike k o
up_there None y k like is = absurd cc
up_there (Some x) None k like is = absurd like
up_there (Some x) (Some y) k like is = (let same : x ≡ k = cc in (y, refl, subst (λ z. IsLike z y) same like))

down_there : (x y : Option NodeState) → NodeLike x y → x ≡ None → y ≡ None
down_there None None like is = refl
down_there None (Some y) like is = absurd like
down_there (Some x) y like is = absurd cc

sessions_are : {k o : NodeState} → IsLike k o → k.sessions ≡ o.sessions
sessions_are like = sym (ap (λ (z : NodeState). z.sessions) like.same)

module _ (places : List Place) (asked : List Command) (f : Facts) (ns : List (Option NodeState)) (ds : List (List RedoRecord)) (now : AreAlike f ns ds) where
  abbrev g : Facts
  g = other f ns ds

  node_like : (n : ℕ) → NodeLike (node_at f n) (node_at g n)
  node_like n = node_there f.nodes ns n now.nodes

  disk_fewer : (n : ℕ) → Fewer (records_at f n) (records_at g n)
  disk_fewer n = disk_there f.records ds n now.disks

  -- ---- a turn that is no purge

  comes_too : (k o : NodeState) → IsLike k o → (n : ℕ) (input : Input) (took : Option Took) → Comes f k n input took → Comes g o n input took
  comes_too k o like n (inputs.Message m) (Some t) comes = (comes.0, record { sent = comes.1.sent; same = comes.1.same; here = comes.1.here; passes = comes.1.passes; once = comes.1.once })
  comes_too k o like n (inputs.Message m) None comes = absurd comes
  comes_too k o like n (inputs.Call s statement) None comes = (comes.0, subst (λ ss. (session_at ss s).call ≡ pending.NoCall) (sessions_are like) comes.1, comes.2)
  comes_too k o like n (inputs.Call s statement) (Some t) comes = absurd comes
  comes_too k o like n (inputs.GiveUp s) None comes = (comes.0, subst (λ ss. IsPending (session_at ss s).call) (sessions_are like) comes.1)
  comes_too k o like n (inputs.GiveUp s) (Some t) comes = absurd comes
  comes_too k o like n inputs.Reco None comes = tt
  comes_too k o like n inputs.Checkpoint None comes = tt
  comes_too k o like n inputs.Reco (Some t) comes = absurd comes
  comes_too k o like n inputs.Checkpoint (Some t) comes = absurd comes

  served_like : (p : Place) (input : Input) (cut : Bool) (x y : Option NodeState) (k o : NodeState) → x ≡ Some k → y ≡ Some o → IsLike (turn_of p k input).after (turn_of p o input).after
      → NodeLike (kept_after cut (served p input x)) (kept_after cut (served p input y))
  served_like p input true x y k o up there after = tt
  served_like p input false x y k o up there after = subst₂ (λ v w. NodeLike (kept_after false (served p input v)) (kept_after false (served p input w))) (sym up) (sym there) after

  ended_like : (p : Place) (input : Input) (q : Bool) (x y : Option NodeState) (k o : NodeState) → x ≡ Some k → y ≡ Some o → (turn_of p k input).ended ≡ (turn_of p o input).ended
      → (if q then [] else ended_by (served p input y)) ≡ (if q then [] else ended_by (served p input x))
  ended_like p input true x y k o up there ended = refl
  ended_like p input false x y k o up there ended = ap (λ w. ended_by (served p input w)) there ∙ (sym ended ∙ sym (ap (λ w. ended_by (served p input w)) up))

  module _ (u : Turn) (plain : is_purge u.input ≡ false) (may : MayHappen places asked f (happenings.Turn u)) where
    abbrev p : Place
    p = place_at places u.node

    it : (o : NodeState) × (node_at g u.node ≡ Some o) × IsLike may.0 o
    it = up_there (node_at f u.node) (node_at g u.node) may.0 (node_like u.node) may.1.up

    alike : DoesAlike p u may.0 it.0
    alike = (sees_none places asked f no_trail (happenings.Turn u) may may.0 may.1.up).1 plain it.0 it.2

    -- the turn with what the other node writes
    abbrev there : Turn
    there = record u { wrote = alike.wrote }

    turn_may : MayHappen places asked g (happenings.Turn there)
    turn_may = (
      it.0,
      record {
        settled = record { told = may.1.settled.told; upright = may.1.settled.upright };
        up = it.1;
        comes = comes_too may.0 it.0 it.2 u.node u.input u.took may.1.comes;
        owed = alike.owed;
      },
    )

    turn_alike : AreAlike (facts_after places asked f (happenings.Turn u)) (facts_after places asked g (happenings.Turn there)).nodes (facts_after places asked g (happenings.Turn there)).records
    unfolding facts_after
    turn_alike = record {
      nodes = pairs_set NodeLike f.nodes ns u.node _ _ now.nodes (served_like p u.input u.cut (node_at f u.node) (node_at g u.node) may.0 it.0 may.1.up it.1 alike.after);
      disks = pairs_set Fewer f.records ds u.node _ _ now.disks (fewer_with (disk_fewer u.node) u.wrote alike.wrote alike.alike);
    }

    turn_after : facts_after places asked g (happenings.Turn there) ≡ other (facts_after places asked f (happenings.Turn u)) (facts_after places asked g (happenings.Turn there)).nodes (facts_after places asked g (happenings.Turn there)).records
    unfolding facts_after
    turn_after =
        let ns1 = (facts_after places asked g (happenings.Turn there)).nodes in
        let ds1 = (facts_after places asked g (happenings.Turn there)).records in
        ap (λ es. record (facts_after places asked f (happenings.Turn u)) { nodes = ns1; records = ds1; book = f.book ++ es }) (entries_alike u.node u.wrote alike.wrote alike.alike)

    turn_ends : calls_ended places g (happenings.Turn there) ≡ calls_ended places f (happenings.Turn u)
    turn_ends = ended_like p u.input (is_purge u.input || u.cut) (node_at f u.node) (node_at g u.node) may.0 it.0 may.1.up it.1 alike.ended

  -- ---- any happening but a purge

  lost_by : (k : ℕ) (js : List ℕ) → MayBeLost f k js → MayBeLost g k js
  lost_by k [] lost = (lost.0, lost.1, record { sent = lost.2.sent; flying = lost.2.flying })
  lost_by k (j ∷ js) lost = lost

  stop_by : (n : ℕ) (m : Option ℕ) → MayStop f n m → MayStop g n m
  stop_by n None stop = stop
  stop_by n (Some m) stop = stop

  -- what happens instead, and the facts after it
  record Instead (h : Happening) : Type 0 where
    there : Happening
    same : happened there ≡ happened h
    exact : writes_image h ≡ false → there ≡ h
    may : MayHappen places asked g there
    alike : AreAlike (facts_after places asked f h) (facts_after places asked g there).nodes (facts_after places asked g there).records
    after : facts_after places asked g there ≡ other (facts_after places asked f h) (facts_after places asked g there).nodes (facts_after places asked g there).records
    ends : calls_ended places g there ≡ calls_ended places f h

  instead_of : (h : Happening) → is_purge_turn h ≡ false → MayHappen places asked f h → Instead h
  unfolding facts_after
  instead_of (happenings.Turn u) plain may = record {
    there = happenings.Turn (there u plain may);
    same = ap (λ w. happenings.Turn (record u { wrote = w })) (alike u plain may).alike;
    exact = λ none. ap (λ w. happenings.Turn (record u { wrote = w })) (written_exact (alike u plain may).wrote u.wrote none (alike u plain may).alike);
    may = turn_may u plain may;
    alike = turn_alike u plain may;
    after = turn_after u plain may;
    ends = turn_ends u plain may;
  }
  instead_of (happenings.Begun c) plain may = record {
    there = happenings.Begun c;
    same = refl;
    exact = λ none. refl;
    may = (record { told = may.0.told; upright = may.0.upright }, may.1, may.2);
    alike = record { nodes = now.nodes; disks = now.disks };
    after = refl;
    ends = refl;
  }
  instead_of (happenings.Cut a b) plain may = record {
    there = happenings.Cut a b;
    same = refl;
    exact = λ none. refl;
    may = (record { told = may.0.told; upright = may.0.upright }, may.1, may.2);
    alike = record { nodes = now.nodes; disks = now.disks };
    after = refl;
    ends = refl;
  }
  instead_of (happenings.Join a b) plain may = record {
    there = happenings.Join a b;
    same = refl;
    exact = λ none. refl;
    may = (record { told = may.0.told; upright = may.0.upright }, may.1, may.2);
    alike = record { nodes = now.nodes; disks = now.disks };
    after = refl;
    ends = refl;
  }
  instead_of (happenings.Lost k) plain may = record {
    there = happenings.Lost k;
    same = refl;
    exact = λ none. refl;
    may = lost_by k f.losses_to_report may;
    alike = record { nodes = now.nodes; disks = now.disks };
    after = refl;
    ends = refl;
  }
  instead_of (happenings.Stopped n) plain may = record {
    there = happenings.Stopped n;
    same = refl;
    exact = λ none. refl;
    may = (may.0, stop_by n f.node_to_stop may.1);
    alike = record { nodes = pairs_set NodeLike f.nodes ns n None None now.nodes tt; disks = now.disks };
    after = refl;
    ends = refl;
  }
  instead_of (happenings.Started n boot) plain may =
      let few = fewer_with (disk_fewer n) (Some (records.Boot boot)) (Some (records.Boot boot)) refl in
      record {
        there = happenings.Started n boot;
        same = refl;
        exact = λ none. refl;
        may = record {
          settled = record { told = may.settled.told; upright = may.settled.upright };
          there = may.there;
          down = down_there (node_at f n) (node_at g n) (node_like n) may.down;
          next = may.next ∙ ap (λ m. m + 1) (sym (fewer_boots (disk_fewer n)));
        };
        alike = record { nodes = pairs_set NodeLike f.nodes ns n _ _ now.nodes (start_like few); disks = pairs_set Fewer f.records ds n _ _ now.disks few };
        after = refl;
        ends = refl;
      }

  -- ---- a purge

  left_like : (p : Place) (input : Input) (cut : Bool) → cut ≡ false → (x y : Option NodeState) (k : NodeState) → x ≡ Some k → NodeLike x y → IsLike k (turn_of p k input).after → NodeLike (kept_after cut (served p input x)) y
  left_like p input true uncut x y k up like hid = absurd (true≢false uncut)
  left_like p input false uncut None y k up like hid = absurd cc
  left_like p input false uncut (Some x) None k up like hid = absurd like
  left_like p input false uncut (Some x) (Some o) k up like hid =
      let same : x ≡ k = cc in
      let after : IsLike x (turn_of p x input).after = subst (λ z. IsLike z (turn_of p z input).after) (sym same) hid in
      like_on (like_turned after) like

  module _ (u : Turn) (purges : is_purge u.input ≡ true) (may : MayHappen places asked f (happenings.Turn u)) where
    abbrev next : Facts
    next = facts_after places asked f (happenings.Turn u)

    hiding : HidesAlone (place_at places u.node) u may.0
    hiding = (sees_none places asked f no_trail (happenings.Turn u) may may.0 may.1.up).0 purges

    writes : HidesOrNot u.wrote
    writes = owed_writes (place_at places u.node) u may.0 u.cut (turn_writes (place_at places u.node) may.0 u.input purges) may.1.owed

    no_packet : sent_on (taken f.net u.took) u.sent ≡ f.net
    unfolding sent_on
    no_packet = ap (λ t. sent_on (taken f.net t) u.sent) (takes_nothing f may.0 u.node u.input u.took purges may.1.comes) ∙ ap (λ ms. sent_on f.net ms) hiding.sent

    no_loss : lost_at_once (taken f.net u.took) u.sent ≡ []
    no_loss = ap (λ ms. lost_at_once (taken f.net u.took) ms) hiding.sent

    abbrev facts_with : Net → List ℕ → Option ℕ → List Entry → Facts
    facts_with net losses stop book = record f { nodes = ns; records = ds; net = net; losses_to_report = losses; node_to_stop = stop; book = book }

    -- without it the facts are those after it, but for its node and its disk
    skipped : (stop : Option ℕ) → stop ≡ None → g ≡ record next { nodes = ns; records = ds; node_to_stop = stop }
    unfolding facts_after
    skipped stop none =
        ap (λ x. facts_with x f.losses_to_report f.node_to_stop f.book) (sym no_packet)
        ∙ (ap (λ x. facts_with (sent_on (taken f.net u.took) u.sent) x f.node_to_stop f.book) (may.1.settled.told ∙ sym no_loss)
        ∙ (ap (λ x. facts_with (sent_on (taken f.net u.took) u.sent) (lost_at_once (taken f.net u.took) u.sent) x f.book) (may.1.settled.upright ∙ sym none)
        ∙ ap (λ x. facts_with (sent_on (taken f.net u.took) u.sent) (lost_at_once (taken f.net u.took) u.sent) stop x) (sym (no_entry u.node f.book u.wrote writes))))

    skipped_disks : Pairwise Fewer next.records ds
    unfolding facts_after
    skipped_disks =
        pairs_left Fewer f.records ds u.node (records_at f u.node ++ option_to_list u.wrote) now.disks
        (λ y at. fewer_written u.wrote writes (subst (λ es. Fewer (records_at f u.node) es) (ap (λ o. unwrap_or o []) at) (disk_fewer u.node)))

    skipped_alike : u.cut ≡ false → AreAlike next ns ds
    unfolding facts_after
    skipped_alike uncut = record {
      nodes =
          pairs_left NodeLike f.nodes ns u.node (kept_after u.cut (outcome_at places f u)) now.nodes
          (λ y at. left_like (place_at places u.node) u.input u.cut uncut (node_at f u.node) y may.0 may.1.up (subst (λ o. NodeLike (node_at f u.node) o) (ap flat at) (node_like u.node)) hiding.after);
      disks = skipped_disks;
    }

-- A purge was cut, and its node stops next.
record IsToStop (f : Facts) (ns : List (Option NodeState)) (ds : List (List RedoRecord)) (n : ℕ) : Type 0 where
  stop : f.node_to_stop ≡ Some n
  told : f.losses_to_report ≡ []
  nodes : Pairwise NodeLike (set_numbered f.nodes n None) (set_numbered ns n None)
  disks : Pairwise Fewer f.records ds

-- without the purge it need not
abbrev unstopped : Facts → List (Option NodeState) → List (List RedoRecord) → Facts
unstopped f ns ds = record f { nodes = ns; records = ds; node_to_stop = None }

-- ---- happening by happening

module _ (places : List Place) (asked : List Command) where
  -- The second run goes on as the first does, without purges.
  record GoOnAlike (f g : Facts) (hs : List Happening) : Type 0 where
    rest : List Happening
    same : map happened rest ≡ map happened (but_purges hs)
    exact : list_any writes_image hs ≡ false → rest ≡ but_purges hs
    lawful : IsLawful places asked g rest
    booked : (facts_of places asked g rest).book ≡ (facts_of places asked f hs).book
    ended : all_ended places asked g rest ≡ all_ended places asked f hs

  abbrev Goes : List Happening → Type 0
  Goes hs = (f : Facts) (ns : List (Option NodeState)) (ds : List (List RedoRecord)) → AreAlike f ns ds → IsLawful places asked f hs → GoOnAlike f (other f ns ds) hs

  abbrev Stops : List Happening → Type 0
  Stops hs = (f : Facts) (ns : List (Option NodeState)) (ds : List (List RedoRecord)) (n : ℕ) → IsToStop f ns ds n → IsLawful places asked f hs → GoOnAlike f (unstopped f ns ds) hs

  one_more : (f g : Facts) (h j : Happening) (hs : List Happening) → is_purge_turn h ≡ false → happened j ≡ happened h → (writes_image h ≡ false → j ≡ h) → MayHappen places asked g j → calls_ended places g j ≡ calls_ended places f h
      → GoOnAlike (facts_after places asked f h) (facts_after places asked g j) hs → GoOnAlike f g (h ∷ hs)
  unfolding IsLawful facts_of
  one_more f g h j hs plain is exact may ends more = record {
    rest = j ∷ more.rest;
    same =
        ap (λ x. x ∷ map happened more.rest) is
        ∙ (ap (λ xs. happened h ∷ xs) more.same ∙ ap (λ q. map happened (if not q then h ∷ but_purges hs else but_purges hs)) (sym plain));
    exact = λ none.
        ap (λ x. x ∷ more.rest) (exact (neither_left (writes_image h) (list_any writes_image hs) none))
        ∙ (ap (λ xs. h ∷ xs) (more.exact (neither_right (writes_image h) (list_any writes_image hs) none)) ∙ ap (λ q. if not q then h ∷ but_purges hs else but_purges hs) (sym plain));
    lawful = (may, more.lawful);
    booked = more.booked;
    ended = ap (λ xs. xs ++ all_ended places asked (facts_after places asked g j) more.rest) ends ∙ ap (λ xs. calls_ended places f h ++ xs) more.ended;
  }

  -- a purge is left out
  one_less : (f g : Facts) (u : Turn) (hs : List Happening) → is_purge u.input ≡ true → GoOnAlike (facts_after places asked f (happenings.Turn u)) g hs → GoOnAlike f g (happenings.Turn u ∷ hs)
  unfolding facts_of
  one_less f g u hs purges more = record {
    rest = more.rest;
    same = more.same ∙ ap (λ q. map happened (if not q then happenings.Turn u ∷ but_purges hs else but_purges hs)) (sym purges);
    exact = λ none.
        more.exact (neither_right (writes_image (happenings.Turn u)) (list_any writes_image hs) none)
        ∙ ap (λ q. if not q then happenings.Turn u ∷ but_purges hs else but_purges hs) (sym purges);
    lawful = more.lawful;
    booked = more.booked;
    ended = more.ended ∙ ap (λ q. (if q || u.cut then [] else ended_by (outcome_at places f u)) ++ all_ended places asked (facts_after places asked f (happenings.Turn u)) hs) (sym purges);
  }

  module _ (hs : List Happening) (goes : Goes hs) (stops : Stops hs) (f : Facts) (ns : List (Option NodeState)) (ds : List (List RedoRecord)) (now : AreAlike f ns ds) where
    purge_less : (u : Turn) → is_purge u.input ≡ true → MayHappen places asked f (happenings.Turn u) → IsLawful places asked (facts_after places asked f (happenings.Turn u)) hs
        → GoOnAlike f (other f ns ds) (happenings.Turn u ∷ hs)
    unfolding facts_after
    purge_less u purges may lawful = one_less f (other f ns ds) u hs purges (by u.cut refl)
      where
        by : (q : Bool) → u.cut ≡ q → GoOnAlike (facts_after places asked f (happenings.Turn u)) (other f ns ds) hs
        by false uncut =
            subst (λ x. GoOnAlike (facts_after places asked f (happenings.Turn u)) x hs)
            (sym (skipped places asked f ns ds now u purges may (if u.cut then Some u.node else None) (ap (λ q. if q then Some u.node else None) uncut)))
            (goes (facts_after places asked f (happenings.Turn u)) ns ds (skipped_alike places asked f ns ds now u purges may uncut) lawful)
        by true cut =
            subst (λ x. GoOnAlike (facts_after places asked f (happenings.Turn u)) x hs) (sym (skipped places asked f ns ds now u purges may None refl))
            (stops (facts_after places asked f (happenings.Turn u)) ns ds u.node
            (record {
              stop = ap (λ q. if q then Some u.node else None) cut;
              told = no_loss places asked f ns ds now u purges may;
              nodes = subst (λ xs. Pairwise NodeLike xs (set_numbered ns u.node None)) (sym (set_twice f.nodes u.node _ None)) (pairs_set NodeLike f.nodes ns u.node None None now.nodes tt);
              disks = skipped_disks places asked f ns ds now u purges may;
            })
            lawful)

    left_out : (h : Happening) → is_purge_turn h ≡ true → MayHappen places asked f h → IsLawful places asked (facts_after places asked f h) hs → GoOnAlike f (other f ns ds) (h ∷ hs)
    left_out (happenings.Turn u) purges may lawful = purge_less u purges may lawful
    left_out _ purges may lawful = absurd cc

    goes_by : (h : Happening) (q : Bool) → is_purge_turn h ≡ q → MayHappen places asked f h → IsLawful places asked (facts_after places asked f h) hs → GoOnAlike f (other f ns ds) (h ∷ hs)
    goes_by h true purges may lawful = left_out h purges may lawful
    goes_by h false plain may lawful =
        let g : Facts = other f ns ds in
        let one : Instead places asked f ns ds now h = instead_of places asked f ns ds now h plain may in
        let after : Facts = facts_after places asked g one.there in
        one_more f g h one.there hs plain one.same one.exact one.may one.ends
        (subst (λ x. GoOnAlike (facts_after places asked f h) x hs) (sym one.after) (goes (facts_after places asked f h) after.nodes after.records one.alike lawful))

  goes_more : (h : Happening) (hs : List Happening) → Goes hs → Stops hs → Goes (h ∷ hs)
  unfolding IsLawful
  goes_more h hs goes stops f ns ds now lawful = goes_by hs goes stops f ns ds now h (is_purge_turn h) refl lawful.0 lawful.1

  stops_more : (h : Happening) (hs : List Happening) → Goes hs → Stops (h ∷ hs)
  unfolding IsLawful facts_after
  stops_more (happenings.Stopped m) hs goes f ns ds n now lawful =
      let at : n ≡ m = (subst (MayStop f m) now.stop lawful.0.1).1 in
      one_more f (unstopped f ns ds) (happenings.Stopped m) (happenings.Stopped m) hs refl refl (λ none. refl) (lawful.0.0, now.told) refl
      (goes (facts_after places asked f (happenings.Stopped m)) (set_numbered ns m None) ds
      (record { nodes = subst (λ i. Pairwise NodeLike (set_numbered f.nodes i None) (set_numbered ns i None)) at now.nodes; disks = now.disks }) lawful.1)
  stops_more (happenings.Begun c) hs goes f ns ds n now lawful = (let none = lawful.0.0.upright in let some = now.stop in absurd (cc (none, some)))
  stops_more (happenings.Turn u) hs goes f ns ds n now lawful = (let none = lawful.0.1.settled.upright in let some = now.stop in absurd (cc (none, some)))
  stops_more (happenings.Cut a b) hs goes f ns ds n now lawful = (let none = lawful.0.0.upright in let some = now.stop in absurd (cc (none, some)))
  stops_more (happenings.Join a b) hs goes f ns ds n now lawful = (let none = lawful.0.0.upright in let some = now.stop in absurd (cc (none, some)))
  stops_more (happenings.Lost k) hs goes f ns ds n now lawful = (let none = (subst (MayBeLost f k) now.told lawful.0).0 in let some = now.stop in absurd (cc (none, some)))
  stops_more (happenings.Started m boot) hs goes f ns ds n now lawful = (let none = lawful.0.settled.upright in let some = now.stop in absurd (cc (none, some)))

  all_go : (hs : List Happening) → Goes hs × Stops hs
  unfolding IsLawful facts_of
  all_go [] = (λ f ns ds now lawful. record { rest = []; same = refl; exact = λ none. refl; lawful = tt; booked = refl; ended = refl }, λ f ns ds n now lawful. record { rest = []; same = refl; exact = λ none. refl; lawful = tt; booked = refl; ended = refl })
  all_go (h ∷ hs) = (goes_more h hs (all_go hs).0 (all_go hs).1, stops_more h hs (all_go hs).0)

-- ---- every run

node_same : (x : Option NodeState) → NodeLike x x
node_same None = tt
node_same (Some k) = record { same = refl; rows = rows_same k.stored.durable.kept }

first_alike : (f : Facts) → AreAlike f f.nodes f.records
first_alike f = record { nodes = pairs_same NodeLike node_same f.nodes; disks = pairs_same Fewer fewer_same f.records }

same_without : (t : History) → IsLawfulRun t → IsSameWithoutPurges t
same_without t whole =
    let f : Facts = first_facts t.places in
    let same = (all_go t.places t.commands t.trace).0 f f.nodes f.records (first_alike f) whole in
    record { rest = same.rest; same = same.same; exact = same.exact; lawful = same.lawful; booked = same.booked; answered = same.ended }

pub every_purge_changes_nothing : EveryPurgeChangesNothing
every_purge_changes_nothing t whole = record { unseen = purges_go_unseen t whole; left_out = same_without t whole }
