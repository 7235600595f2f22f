-- The runs that are told of Replies and of answers stand in turns that came before.
use Rattle.std.proofs.Common.{◌≡◌, ℕ, ◌+◌, ◌≤◌, ◌==◌, ◌&&◌, Bool, true, false, if◌then◌else◌, find, is_none, List, [], ◌∷◌, ◌++◌, length, Option, Some, None, refl, sym, ap, subst, arith}
use Rattle.std.specs.List.{AllByRecursion}
use Rattle.node_rules.specs.Data.{Table, BranchId, Kind, Msg, Place, Input}
use Rattle.node_rules.specs.Data.inputs
use Rattle.node_rules.specs.Data.kinds
use Rattle.run_rules.specs.Branches.{Run, Seen, Trail, Origin, no_trail, is_live, newly_seen, seen_id, seen_at, root_at, origin_of, origin_at}
use Rattle.run_rules.specs.Data.{Took, Turn, Happening}
use Rattle.run_rules.specs.Data.happenings
use Rattle.run_rules.specs.Facts.{Facts, first_facts, outcome_at}
use Rattle.run_rules.specs.Lawful.{History}
use Rattle.run_rules.specs.Runs.{Asking, GoneBack, asks, bare_name, table_by, run_at_table, run_by, run_in, answered_by, begins_transaction}
use Rattle.node_rules.specs.Names.{ref_of}
use Rattle.run_rules.specs.Trail.{strength_at, is_reply, next_root, root_seen, roots_begun, child_begun, children_begun, begun_in_turn, last_answer, handed_on, brought, origin_by, answers, origins_of, with_begun, with_plan, after_turn, brought_by, stopped_by, trail_after}
use Rattle.run_rules.specs.Branches.{is_live_at, Dropped}
use Rattle.run_rules.proofs.ListLemmas.{all_append, all_map, all_weaker}
use Rattle.run_base_laws.proofs.OwnLemmas.{all_found}
use Rattle.tree_trail_laws.proofs.MomentLemmas.{trail_keeps, tr_at}

-- a run came before so many happenings
abbrev pub IsBefore : ℕ → Option Run → Type 0
IsBefore m None = Unit {0}
IsBefore m (Some r) = r.moment + 1 ≤ m

more_before : (m n : ℕ) → m ≤ n → (o : Option Run) → IsBefore m o → IsBefore n o
more_before m n low None is = tt
more_before m n low (Some r) is = omega (arith, low, is)

-- All runs that are told did.
pub record AllBefore (tr : Trail) : Type 0 where
  pub origins : AllByRecursion (λ (o : Origin). o.run.moment + 1 ≤ tr.moment) tr.origins
  pub answers : AllByRecursion (λ (s : Seen). IsBefore tr.moment s.answer) tr.seen

-- ---- the run of a turn

module _ (f : Facts) (tr : Trail) (u : Turn) where
  run_at : (a : Asking) (o : Option Table) (r : Run) → run_at_table tr.moment a o ≡ Some r → r.moment ≡ tr.moment
  run_at a None r is = absurd cc
  run_at a (Some t) r is = let it : Some (record { moment = tr.moment; branch = a.branch.me; statement = a.statement; table = t }) ≡ Some r = is in let one : record { moment = tr.moment; branch = a.branch.me; statement = a.statement; table = t } ≡ r = cc in ap (λ (x : Run). x.moment) (sym one)

  run_asked : (o : Option Asking) (r : Run) → run_by f tr u.node o ≡ Some r → r.moment ≡ tr.moment
  run_asked None r is = absurd cc
  run_asked (Some a) r is = run_at a (table_by f u.node (bare_name (ref_of a.statement))) r is

  run_now : (r : Run) → run_in f tr u ≡ Some r → r.moment ≡ tr.moment
  unfolding run_in
  run_now r is = by u.cut is
    where
      by : (cut : Bool) → (if cut then None else run_by f tr u.node (asks tr u.node u.input)) ≡ Some r → r.moment ≡ tr.moment
      by true at = absurd cc
      by false at = run_asked (asks tr u.node u.input) r at

  module _ (now : AllBefore tr) where
    found_before : (p : Origin → Bool) (xs : List Origin) → AllByRecursion (λ (o : Origin). o.run.moment + 1 ≤ tr.moment) xs → IsBefore tr.moment (origin_of (find p xs))
    found_before p [] all = tt
    found_before p (x ∷ xs) all = by (p x) (found_before p xs all.1)
      where
        by : (q : Bool) → IsBefore tr.moment (origin_of (find p xs)) → IsBefore tr.moment (origin_of (if q then Some x else find p xs))
        by true rest = all.0
        by false rest = rest

    last_before : (o : Option Seen) (b : BranchId) → seen_at tr b ≡ o → IsBefore tr.moment (last_answer o)
    last_before None b is = tt
    last_before (Some s) b is = by (is_live s)
      where
        by : (q : Bool) → IsBefore tr.moment (if q then s.answer else None)
        by true = all_found (λ (x : Seen). IsBefore tr.moment x.answer) seen_id tr.seen b s now.answers is
        by false = tt

    handed_before : (n : ℕ) (to : BranchId) (kind : Kind) → IsBefore tr.moment (handed_on tr n to kind)
    handed_before n to (kinds.Reply call weight count a) = found_before (λ (o : Origin). o.message == n) tr.origins now.origins
    handed_before n to (kinds.Exec call task) = last_before (seen_at tr to) to refl
    handed_before n to _ = tt

    brought_before : (took : Option Took) (input : Input) → IsBefore tr.moment (brought tr took input)
    brought_before (Some t) (inputs.Message m) = handed_before t.number m.to m.kind
    brought_before (Some t) (inputs.Call n s) = tt
    brought_before (Some t) (inputs.GiveUp n) = tt
    brought_before (Some t) inputs.Reco = tt
    brought_before (Some t) inputs.Checkpoint = tt
    brought_before None input = tt

    pub origin_before : (a : Option Asking) (back : Option GoneBack) (o : Option Run) → run_in f tr u ≡ o → IsBefore (tr.moment + 1) (origin_by tr u a back o)
    origin_before a back (Some r) is = omega (arith, run_now r is)
    origin_before (Some a) back None is = tt
    origin_before None (Some g) None is = tt
    origin_before None None None is = more_before tr.moment (tr.moment + 1) (omega arith) (brought tr u.took u.input) (brought_before u.took u.input)

origins_before : (m k : ℕ) (o : Option Run) → IsBefore m o → (ms : List Msg) → AllByRecursion (λ (x : Origin). x.run.moment + 1 ≤ m) (origins_of k o ms)
origins_before m k None is ms = tt
origins_before m k (Some r) is [] = tt
origins_before m k (Some r) is (x ∷ ms) = by (is_reply x.kind) (origins_before m (k + 1) (Some r) is ms)
  where
    by : (q : Bool) → AllByRecursion (λ (y : Origin). y.run.moment + 1 ≤ m) (origins_of (k + 1) (Some r) ms) → AllByRecursion (λ (y : Origin). y.run.moment + 1 ≤ m) (if q then (record { message = k; run = r }) ∷ origins_of (k + 1) (Some r) ms else origins_of (k + 1) (Some r) ms)
    by true rest = (is, rest)
    by false rest = rest

-- ---- branches that begin have no answer

module _ (m : ℕ) where
  abbrev HasBefore : Seen → Type 0
  HasBefore s = IsBefore m s.answer

  root_new : (f : Facts) (tr : Trail) (n : ℕ) (input : Input) → AllByRecursion HasBefore (roots_begun f tr n input)
  root_new f tr n (inputs.Call session (Some s)) = by (begins_transaction s && is_none (root_at tr n session))
    where
      by : (q : Bool) → AllByRecursion HasBefore (if q then root_seen f n s (next_root f tr n session) ∷ [] else [])
      by true = (tt, tt)
      by false = tt
  root_new f tr n (inputs.Call session None) = tt
  root_new f tr n (inputs.Message x) = tt
  root_new f tr n (inputs.GiveUp session) = tt
  root_new f tr n inputs.Reco = tt
  root_new f tr n inputs.Checkpoint = tt

  child_new : (f : Facts) (tr : Trail) (came kind : Kind) (x : Msg) → AllByRecursion HasBefore (child_begun f tr came kind x)
  child_new f tr (kinds.Open edge root depth read_at) (kinds.Opened number strength) x = by (is_none (seen_at tr x.from))
    where
      by : (q : Bool) → AllByRecursion HasBefore (if q then newly_seen x.from root (Some x.to) (strength_at f x.from.node) read_at ∷ [] else [])
      by true = (tt, tt)
      by false = tt
  child_new f tr (kinds.Open edge root depth read_at) _ x = tt
  child_new f tr _ kind x = tt

  children_new : (f : Facts) (tr : Trail) (input : Input) (ms : List Msg) → AllByRecursion HasBefore (children_begun f tr input ms)
  children_new f tr (inputs.Message came) (x ∷ ms) = child_new f tr came.kind x.kind x
  children_new f tr (inputs.Message came) [] = tt
  children_new f tr (inputs.Call session s) ms = tt
  children_new f tr (inputs.GiveUp session) ms = tt
  children_new f tr inputs.Reco ms = tt
  children_new f tr inputs.Checkpoint ms = tt

  begun_new : (f : Facts) (tr : Trail) (u : Turn) → AllByRecursion HasBefore (begun_in_turn f tr u)
  begun_new f tr u = by u.cut
    where
      by : (cut : Bool) → AllByRecursion HasBefore (if cut then [] else roots_begun f tr u.node u.input ++ children_begun f tr u.input u.sent)
      by true = tt
      by false = all_append HasBefore (roots_begun f tr u.node u.input) (children_begun f tr u.input u.sent) (root_new f tr u.node u.input) (children_new f tr u.input u.sent)

-- ---- each happening

module _ (places : List Place) where
  begun_before : (f : Facts) (tr : Trail) (u : Turn) → AllBefore tr → AllBefore (with_begun f tr u)
  begun_before f tr u now = record { origins = now.origins; answers = all_append (λ (s : Seen). IsBefore tr.moment s.answer) tr.seen (begun_in_turn f tr u) now.answers (begun_new tr.moment f tr u) }

  later : (m : ℕ) (tr : Trail) → m ≡ tr.moment + 1 → AllBefore tr → AllByRecursion (λ (o : Origin). o.run.moment + 1 ≤ m) tr.origins × AllByRecursion (λ (s : Seen). IsBefore m s.answer) tr.seen
  later m tr is now = (
    all_weaker (λ (o : Origin). o.run.moment + 1 ≤ tr.moment) (λ (o : Origin). o.run.moment + 1 ≤ m) (λ o low. omega (arith, low, is)) tr.origins now.origins,
    all_weaker (λ (s : Seen). IsBefore tr.moment s.answer) (λ (s : Seen). IsBefore m s.answer) (λ s low. more_before tr.moment m (omega (arith, is)) s.answer low) tr.seen now.answers,
  )

  before_on : (f : Facts) (tr : Trail) (h : Happening) → AllBefore tr → AllBefore (trail_after places f tr h)
  unfolding trail_after
  before_on f tr (happenings.Turn u) now =
      let tr1 : Trail = with_begun f tr u in
      let o = outcome_at places f u in
      let old = later (tr.moment + 1) tr1 refl (begun_before f tr u now) in
      let brings = brought_by f tr1 u o in
      let new : IsBefore (tr.moment + 1) brings.origin = origin_before f tr1 u (begun_before f tr u now) (asks tr1 u.node u.input) brings.back (run_in f tr1 u) refl in
      record {
        origins = all_append (λ (x : Origin). x.run.moment + 1 ≤ tr.moment + 1) tr.origins (origins_of (length f.net.packets + 1) brings.origin u.sent) old.0 (origins_before (tr.moment + 1) (length f.net.packets + 1) brings.origin new u.sent);
        answers = all_map (λ (s : Seen). IsBefore (tr.moment + 1) s.answer) (after_turn f.book (with_plan places tr1 u (answered_by o)) u o brings) tr1.seen
            (all_weaker (λ (s : Seen). IsBefore (tr.moment + 1) s.answer) _ (λ s was. by (answers u o s) brings.origin s.answer new was) tr1.seen old.1);
      }
    where
      by : (q : Bool) (a b : Option Run) → IsBefore (tr.moment + 1) a → IsBefore (tr.moment + 1) b → IsBefore (tr.moment + 1) (if q then a else b)
      by true a b one two = one
      by false a b one two = two
  before_on f tr (happenings.Stopped n) now =
      let old = later (tr.moment + 1) tr refl now in
      record { origins = old.0; answers = all_map (λ (s : Seen). IsBefore (tr.moment + 1) s.answer) (stopped_by n) tr.seen (all_weaker (λ (s : Seen). IsBefore (tr.moment + 1) s.answer) _ (λ s was. by (is_live_at n s) s was) tr.seen old.1) }
    where
      by : (q : Bool) (s : Seen) → IsBefore (tr.moment + 1) s.answer → IsBefore (tr.moment + 1) (if q then record s { exit = Some Dropped } else s).answer
      by true s was = was
      by false s was = was
  before_on f tr _ now = let old = later (tr.moment + 1) tr refl now in record { origins = old.0; answers = old.1 }

pub all_before : (t : History) (hs : List Happening) → AllBefore (tr_at t hs)
all_before t hs = trail_keeps t.places t.commands AllBefore (before_on t.places) (first_facts t.places) no_trail hs (record { origins = tt; answers = tt })

-- the run of a Reply came before
pub reply_before : (tr : Trail) → AllBefore tr → (n : ℕ) (r : Run) → origin_at tr n ≡ Some r → r.moment + 1 ≤ tr.moment
reply_before tr now n r is = subst (IsBefore tr.moment) is (found tr.origins now.origins)
  where
    found : (xs : List Origin) → AllByRecursion (λ (o : Origin). o.run.moment + 1 ≤ tr.moment) xs → IsBefore tr.moment (origin_of (find (λ (o : Origin). o.message == n) xs))
    found [] all = tt
    found (x ∷ xs) all = by (x.message == n) (found xs all.1)
      where
        by : (q : Bool) → IsBefore tr.moment (origin_of (find (λ (o : Origin). o.message == n) xs)) → IsBefore tr.moment (origin_of (if q then Some x else find (λ (o : Origin). o.message == n) xs))
        by true rest = all.0
        by false rest = rest
