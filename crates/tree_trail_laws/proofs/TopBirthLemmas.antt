-- What a turn tells of the branches that begin: the root that its node begins, or a child that says so. Each id is told once, of a branch that began,
-- and a session has begun as many roots as its last number says.
use Rattle.std.proofs.Common.{◌≡◌, ◌≢◌, ℕ, ◌+◌, ◌≤◌, ◌&&◌, Bool, true, false, if◌then◌else◌, is_none, List, [], ◌∷◌, ◌++◌, map, Option, Some, None, refl, sym, ap, subst, ◌∙◌, append-nil, unwrap_or}
use Rattle.std.specs.List.{AllByRecursion}
use Rattle.tran_ids.proofs.BranchLemmas.{same_from_equal}
use Rattle.tran_ids.proofs.ListedLemmas.{item_is}
use Rattle.reco.specs.declared.post.Post.{Post}
use Rattle.node_rules.specs.Data.{BranchId, Kind, Live, Msg, Stmt, Input}
use Rattle.node_rules.specs.Data.inputs
use Rattle.node_rules.specs.Data.kinds
use Rattle.node_rules.specs.Words.{is_item_of}
use Rattle.node_rules.specs.Inputs.{IsCall, IsSession}
use Rattle.node_rules.specs.NodeState.{NodeState, live_id, live_at}
use Rattle.node_rules.specs.Sessions.{session_at}
use Rattle.node_rules.specs.Client.{new_root}
use Rattle.run_rules.specs.Births.{Born, root_born, roots_by, births_by, births_at, births_after, births_from, births_of, born_id, born_at, read_at_by}
use Rattle.run_base_laws.specs.BirthLaws.{Began, IsChildAt, LiveIs, GoesSo}
use Rattle.run_rules.specs.Branches.{Seen, Trail, seen_id, seen_at, root_at, newly_seen}
use Rattle.run_rules.specs.Data.{Turn, Happening}
use Rattle.run_rules.specs.Data.happenings
use Rattle.run_rules.specs.Facts.{Facts, node_at, records_at, place_at}
use Rattle.run_base_laws.specs.InTurnLaws.{post_of, packet_post, said_in}
use Rattle.run_rules.specs.Lawful.{MayHappen, boots, History, IsLawfulRun, facts_at}
use Rattle.run_rules.specs.Runs.{begins_transaction}
use Rattle.run_base_laws.specs.RunEvents.{events_of}
use Rattle.run_rules.specs.Trail.{begun_in, next_root, root_seen, begun_in_turn, roots_begun, children_begun, child_begun, trail_after, strength_at, clock_of}
use Rattle.run_base_laws.proofs.BirthRunLemmas.{StandBorn, run_births, messages_are_of_neighbors, nodes_name_the_born}
use Rattle.run_base_laws.proofs.BirthsStandLemmas.{all_unborn}
use Rattle.run_base_laws.proofs.EventsStandLemmas.{node_so, owned_so}
use Rattle.run_base_laws.proofs.FreshLemmas.{Node}
use Rattle.run_base_laws.proofs.LawfulLemmas.{Serves, serves}
use Rattle.run_rules.proofs.ListLemmas.{all_weaker, all_append, all_map}
use Rattle.run_base_laws.proofs.NodeLemmas.{kept_alone}
use Rattle.run_base_laws.proofs.OwnLemmas.{all_found}
use Rattle.run_base_laws.proofs.RootLemmas.{SessionsFit, sessions_keep}
use Rattle.run_base_laws.proofs.SaidPostLemmas.{said_after}
use Rattle.run_base_laws.proofs.TurnEventLemmas.{number_is}
use Rattle.tree_laws.proofs.PrefixLemmas.{so_far, f_at, one_on, births_join}
use Rattle.tree_laws.proofs.TimeLemmas.{part_on, part_lawful, may_of, born_end}
use Rattle.tree_trail_laws.specs.SeenLaws.{IsSeenRoot, SeesRoots}
use Rattle.tree_trail_laws.proofs.CallLemmas.{call_free}
use Rattle.tree_trail_laws.proofs.ChildTurnLemmas.{all_behind}
use Rattle.tree_trail_laws.proofs.MomentLemmas.{tr_at}
use Rattle.tree_trail_laws.proofs.PlanLemmas.{find_last}
use Rattle.tree_trail_laws.proofs.SeenLemmas.{begun, turned}
use Rattle.tree_trail_laws.proofs.TopListLemmas.{Alone, alone_map, alone_more}
use Rattle.tree_laws.proofs.AtTurn.{at_turn}
use Rattle.tree_trail_laws.proofs.AtTrail.{at_trail}
use Rattle.node_rules.specs.Calls.{strength_of}
use Rattle.tree_trail_laws.proofs.DurableLemmas.{strength_stored}

module _ (t : History) (whole : IsLawfulRun t) where
  -- a branch began
  abbrev pub IsBorn : List Happening → BranchId → Type 0
  IsBorn hs b = (x : Born) × Began (births_of (so_far t hs)) x × (x.me ≡ b)

  -- each session has begun as many roots as its last number says
  abbrev pub Counts : Facts → Trail → Type 0
  Counts f tr = (n : ℕ) (k : NodeState) → node_at f n ≡ Some k → (session : ℕ) → IsSession session → begun_in tr n (boots (records_at f n)) session ≡ (session_at k.sessions session).seq

  -- a root began in a start so far
  abbrev pub Booted : Facts → Seen → Type 0
  Booted f s = s.me.session ≤ 64 → s.me.boot ≤ boots (records_at f s.me.node)

  -- the births of one happening more
  pub births_one : (hs : List Happening) (h : Happening) → births_of (so_far t (hs ++ h ∷ [])) ≡ births_after t.places (f_at t hs) h (births_of (so_far t hs))
  unfolding births_from
  births_one hs h = births_join t.places t.commands _ hs (h ∷ []) []

  pub born_more : (hs : List Happening) (h : Happening) (rest : List Happening) → hs ++ h ∷ rest ≡ t.trace → (b : BranchId) → IsBorn hs b → IsBorn (hs ++ h ∷ []) b
  born_more hs h rest is b born = (born.0, born_end (so_far t (hs ++ h ∷ [])) (part_lawful t whole (hs ++ h ∷ []) (part_on t whole hs h rest is)) hs (record { rest = h ∷ []; is = refl }) born.0 born.1, born.2)

  -- a root is told with the strength with which it began, and the SCN at which it reads
  abbrev pub IsStarted : List Happening → Seen → Type 0
  IsStarted hs s = s.parent ≡ None
      → (x : Born) × Began (births_of (so_far t hs)) x × (x.me ≡ s.me) × (unwrap_or s.strength (place_at t.places s.me.node).strength ≡ x.strength) × (s.read_at ≡ x.read_at)

  pub started_more : (hs : List Happening) (h : Happening) (rest : List Happening) → hs ++ h ∷ rest ≡ t.trace → (s : Seen) → IsStarted hs s → IsStarted (hs ++ h ∷ []) s
  started_more hs h rest is s its top = (let so = its top in
      (so.0, born_end (so_far t (hs ++ h ∷ [])) (part_lawful t whole (hs ++ h ∷ []) (part_on t whole hs h rest is)) hs (record { rest = h ∷ []; is = refl }) so.0 so.1, so.2, so.3, so.4))

  module _ (hs : List Happening) (u : Turn) (rest : List Happening) (is : hs ++ happenings.Turn u ∷ rest ≡ t.trace)
      (sees : SeesRoots (f_at t hs) (tr_at t hs)) (counts : Counts (f_at t hs) (tr_at t hs)) (born : AllByRecursion (λ s. IsBorn hs s.me) (tr_at t hs).seen) where
    open at_turn t whole hs u rest is use {after as hs1, part as part0, s as s0, s_after as s1, lawful as lawful0, lawful_after as lawful1, f as f0, g as f1, k, p, d, bs as bs0}
    open at_trail t hs u use {tr as tr0, tr_on as tr1}

    abbrev pub may : MayHappen t.places t.commands f0 (happenings.Turn u)
    may = may_of t whole hs (happenings.Turn u) rest is

    pub stand : StandBorn t.places t.commands t.of_a_script.each f0 (events_of s0) bs0
    stand = run_births s0 lawful0

    pub number : p.number ≡ u.node
    number = number_is t.places t.commands t.of_a_script.each f0 u.node k stand.0.1.many may.1.up

    pub node : Node (records_at f0 u.node) k
    node = node_so t.places t.commands t.of_a_script.each f0 (events_of s0) stand.0 u.node k may.1.up

    pub boot : k.stored.durable.boot ≡ boots (records_at f0 u.node)
    boot = ap (λ s. s.durable.boot) node.stored ∙ node.boot

    pub serving : Serves p k u
    serving = serves t.places f0 u k may.1

    pub fit : SessionsFit k
    fit = kept_alone SessionsFit sessions_keep s0 lawful0 u.node k may.1.up

    -- an id that has not begun is not told
    untold : (b : BranchId) → born_at bs0 b ≡ None → seen_at tr0 b ≡ None
    untold b unborn = by (seen_at tr0 b) refl
      where
        by : (o : Option Seen) → seen_at tr0 b ≡ o → o ≡ None
        by None none = refl
        by (Some s) some =
            let its : IsBorn hs s.me = all_found (λ (s : Seen). IsBorn hs s.me) seen_id tr0.seen b s born some in
            let at : born_at bs0 b ≡ Some its.0 = subst (λ c. born_at bs0 c ≡ Some its.0) (its.2 ∙ item_is seen_id tr0.seen b s some) its.1 in
            absurd (cc (at, unborn))

    -- nor is it live
    pub not_live : (b : BranchId) → born_at bs0 b ≡ None → live_at k b ≡ None
    not_live b unborn = by (live_at k b) refl
      where
        by : (o : Option Live) → live_at k b ≡ o → o ≡ None
        by None none = refl
        by (Some l) some =
            let its : LiveIs (Began bs0) l = all_found (LiveIs (Began bs0)) live_id k.lives b l (nodes_name_the_born s0 lawful0 u.node k may.1.up).0 some in
            let at : born_at bs0 b ≡ Some its.born = subst (λ c. born_at bs0 c ≡ Some its.born) (its.is_me ∙ item_is live_id k.lives b l some) its.began in
            absurd (cc (at, unborn))

    new_births : AllByRecursion (λ y. born_at bs0 y.me ≡ None) (births_by p k u.input)
    new_births =
        all_unborn t.places t.commands t.of_a_script.each f0 (events_of s0) bs0 u k stand.0.1 stand.0.0.even (node_so t.places t.commands t.of_a_script.each f0 (events_of s0) stand.0)
        (owned_so t.places t.commands t.of_a_script.each f0 (events_of s0) stand.0) may.1 number stand.1

    -- the next root of a session is the one that its node gives
    pub next_is : (n : ℕ) → IsSession n → next_root f0 tr0 u.node n ≡ new_root p k n
    next_is n range =
        ap (λ m. record { node = m; boot = boots (records_at f0 u.node); session = n; seq = begun_in tr0 u.node (boots (records_at f0 u.node)) n + 1 }) (sym number) ∙
        (ap (λ m. record { node = p.number; boot = m; session = n; seq = begun_in tr0 u.node (boots (records_at f0 u.node)) n + 1 }) (sym boot) ∙
        ap (λ m. record { node = p.number; boot = k.stored.durable.boot; session = n; seq = m + 1 }) (counts u.node k may.1.up n range))

    -- ---- the branches that begin

    -- Who begins in a turn that is whole: the root of a session that has none, a child that says Opened and was not told before, or nobody.
    pub data TurnBegins (ys : List Seen) : Type 0 where
      None_begins : ((n : ℕ) (s : Stmt) → IsCall u.input n s → begins_transaction s ≡ true → (session_at k.sessions n).root ≡ None → ⊥) → ys ≡ [] → TurnBegins ys
      Root_begins : (n : ℕ) (s : Stmt) → u.input ≡ inputs.Call n (Some s) → begins_transaction s ≡ true → IsSession n → (session_at k.sessions n).root ≡ None → ys ≡ root_seen f0 u.node s (new_root p k n) ∷ [] → TurnBegins ys
      Child_begins : (y : Seen) → ((n : ℕ) (s : Stmt) → IsCall u.input n s → ⊥) → ((x : Born) × Began (births_of s1) x × (x.me ≡ y.me) × (x.parent ≢ None)) → y.parent ≢ None → y.exit ≡ None → seen_at tr0 y.me ≡ None → ys ≡ y ∷ [] → TurnBegins ys

    -- one that says Opened began below another
    opened_born : (m : Msg) (ms : List Msg) → u.sent ≡ m ∷ ms → (edge strength : ℕ) → m.kind ≡ kinds.Opened edge strength → (x : Born) × Began (births_of s1) x × (x.me ≡ m.from) × (x.parent ≢ None)
    opened_born m ms sent edge strength kind =
        let all : AllByRecursion (λ (x : Post). GoesSo (Began (births_of s1)) x.from x.to x.kind) (said_in (facts_at s1)) = all_map (λ (x : Post). GoesSo (Began (births_of s1)) x.from x.to x.kind) packet_post (facts_at s1).net.packets (messages_are_of_neighbors s1 lawful1) in
        let says : said_in (facts_at s1) ≡ said_in f0 ++ map post_of u.sent = ap said_in (one_on t hs (happenings.Turn u)) ∙ said_after t.places t.commands f0 (happenings.Turn u) in
        let mine : AllByRecursion (λ (x : Post). GoesSo (Began (births_of s1)) x.from x.to x.kind) (map post_of u.sent)
        = all_behind (λ (x : Post). GoesSo (Began (births_of s1)) x.from x.to x.kind) (said_in f0) (map post_of u.sent) (subst (AllByRecursion (λ (x : Post). GoesSo (Began (births_of s1)) x.from x.to x.kind)) says all) in
        let first : GoesSo (Began (births_of s1)) m.from m.to m.kind = (subst (λ xs. AllByRecursion (λ (x : Post). GoesSo (Began (births_of s1)) x.from x.to x.kind) (map post_of xs)) sent mine).0 in
        let child : IsChildAt (Began (births_of s1)) m.from m.to edge = subst (GoesSo (Began (births_of s1)) m.from m.to) kind first in
        (child.0, child.1, child.2, (λ none. (let above = child.3 in absurd (cc (above, none)))))

    child_view : ((n : ℕ) (s : Stmt) → IsCall u.input n s → ⊥) → (came kind : Kind) (m : Msg)
        → ((edge strength : ℕ) → kind ≡ kinds.Opened edge strength → (x : Born) × Began (births_of s1) x × (x.me ≡ m.from) × (x.parent ≢ None)) → TurnBegins (child_begun f0 tr0 came kind m)
    child_view nobody (kinds.Open edge root depth read_at) (kinds.Opened number strength) m its = by (seen_at tr0 m.from) refl
      where
        by : (o : Option Seen) → seen_at tr0 m.from ≡ o → TurnBegins (if is_none o then newly_seen m.from root (Some m.to) (strength_at f0 m.from.node) read_at ∷ [] else [])
        by None none = Child_begins (newly_seen m.from root (Some m.to) (strength_at f0 m.from.node) read_at) nobody (its number strength refl) (λ none. absurd cc) refl none refl
        by (Some s) some = None_begins (λ n s call. absurd (nobody n s call)) refl
    child_view nobody (kinds.Open edge root depth read_at) _ m its = None_begins (λ n s call. absurd (nobody n s call)) refl
    child_view nobody _ kind m its = None_begins (λ n s call. absurd (nobody n s call)) refl

    children_view : ((n : ℕ) (s : Stmt) → IsCall u.input n s → ⊥) → (came : Msg) (ms : List Msg) → u.sent ≡ ms → TurnBegins (children_begun f0 tr0 (inputs.Message came) ms)
    children_view nobody came [] sent = None_begins (λ n s call. absurd (nobody n s call)) refl
    children_view nobody came (m ∷ ms) sent = child_view nobody came.kind m.kind m (λ edge strength kind. opened_born m ms sent edge strength kind)

    root_view : (n : ℕ) (s : Stmt) → u.input ≡ inputs.Call n (Some s) → IsSession n → (o : Option Seen) (r : Option BranchId) → (session_at k.sessions n).root ≡ r → IsSeenRoot tr0 k o r
        → TurnBegins (if begins_transaction s && is_none o then root_seen f0 u.node s (next_root f0 tr0 u.node n) ∷ [] else [])
    root_view n s call range o r has seen = by (begins_transaction s) refl o r has seen
      where
        by : (q : Bool) → begins_transaction s ≡ q → (o : Option Seen) (r : Option BranchId) → (session_at k.sessions n).root ≡ r → IsSeenRoot tr0 k o r → TurnBegins (if q && is_none o then root_seen f0 u.node s (next_root f0 tr0 u.node n) ∷ [] else [])
        by false not o r has seen =
            None_begins (λ m x other rows none. (let it : inputs.Call n (Some s) ≡ inputs.Call m (Some x) = sym call ∙ other in let here : s ≡ x = cc in
            let nobody : begins_transaction x ≡ false = subst (λ y. begins_transaction y ≡ false) here not in absurd (cc (rows, nobody)))) refl
        by true rows None None none seen = Root_begins n s call rows range none (ap (λ b. root_seen f0 u.node s b ∷ []) (next_is n range))
        by true rows (Some y) (Some b) has seen =
            None_begins (λ m x other more none. (let it : inputs.Call n (Some s) ≡ inputs.Call m (Some x) = sym call ∙ other in let here : n ≡ m = cc in
            let nobody : (session_at k.sessions n).root ≡ None = subst (λ i. (session_at k.sessions i).root ≡ None) (sym here) none in absurd (cc (has, nobody)))) refl
        by true rows None (Some b) has seen = absurd seen
        by true rows (Some y) None has seen = absurd seen

    parts : (input : Input) → u.input ≡ input → TurnBegins (roots_begun f0 tr0 u.node input ++ children_begun f0 tr0 input u.sent)
    parts (inputs.Message m) came = children_view (λ n s call. absurd (cc (came, call))) m u.sent refl
    parts (inputs.Call n (Some s)) came =
        let free = call_free f0 k u.node u.input u.took n (Some s) came may.1.comes in
        subst TurnBegins (sym (append-nil (roots_begun f0 tr0 u.node (inputs.Call n (Some s)))))
        (root_view n s came free.0 (root_at tr0 u.node n) (session_at k.sessions n).root refl (sees u.node k may.1.up n free.0 free.1))
    parts (inputs.Call n None) came = None_begins (λ m s call rows none. absurd (cc (came, call))) refl
    parts (inputs.GiveUp n) came = None_begins (λ m s call rows none. absurd (cc (came, call))) refl
    parts inputs.Reco came = None_begins (λ m s call rows none. absurd (cc (came, call))) refl
    parts inputs.Checkpoint came = None_begins (λ m s call rows none. absurd (cc (came, call))) refl

    pub view : u.cut ≡ false → TurnBegins (begun_in_turn f0 tr0 u)
    view cut = subst TurnBegins (sym (ap (λ c. if c then [] else roots_begun f0 tr0 u.node u.input ++ children_begun f0 tr0 u.input u.sent) cut)) (parts u.input refl)

    pub none_cut : u.cut ≡ true → begun_in_turn f0 tr0 u ≡ []
    none_cut cut = ap (λ c. if c then [] else roots_begun f0 tr0 u.node u.input ++ children_begun f0 tr0 u.input u.sent) cut

    -- a root that begins was not told, nor live, and began
    root_new : (n : ℕ) (s : Stmt) → u.input ≡ inputs.Call n (Some s) → begins_transaction s ≡ true → (session_at k.sessions n).root ≡ None → births_by p k u.input ≡ root_born (new_root p k n) (strength_of p k) (read_at_by k.clock s) ∷ []
    root_new n s call rows none = ap (births_by p k) call ∙ (ap (λ q. if q then roots_by p k n (read_at_by k.clock s) (session_at k.sessions n).root else []) rows ∙ ap (roots_by p k n (read_at_by k.clock s)) none)

    pub root_unborn : (n : ℕ) (s : Stmt) → u.input ≡ inputs.Call n (Some s) → begins_transaction s ≡ true → (session_at k.sessions n).root ≡ None → born_at bs0 (new_root p k n) ≡ None
    root_unborn n s call rows none = (subst (AllByRecursion (λ y. born_at bs0 y.me ≡ None)) (root_new n s call rows none) new_births).0

    root_began : (n : ℕ) (s : Stmt) → u.cut ≡ false → u.input ≡ inputs.Call n (Some s) → begins_transaction s ≡ true → (session_at k.sessions n).root ≡ None → Began (births_of s1) (root_born (new_root p k n) (strength_of p k) (read_at_by k.clock s))
    root_began n s cut call rows none =
        let all : births_of s1 ≡ bs0 ++ root_born (new_root p k n) (strength_of p k) (read_at_by k.clock s) ∷ []
        = births_one hs (happenings.Turn u) ∙ (ap (λ c. if c then bs0 else bs0 ++ births_at p u.input (node_at f0 u.node)) cut ∙ (ap (λ o. bs0 ++ births_at p u.input o) may.1.up ∙ ap (λ ys. bs0 ++ ys) (root_new n s call rows none))) in
        subst (λ bs. born_at bs (new_root p k n) ≡ Some (root_born (new_root p k n) (strength_of p k) (read_at_by k.clock s))) (sym all)
        (find_last (is_item_of born_id (new_root p k n)) bs0 (root_born (new_root p k n) (strength_of p k) (read_at_by k.clock s)) (root_unborn n s call rows none) (same_from_equal (new_root p k n) (new_root p k n) refl))

    -- what is so of each that begins
    each_begun : (P : Seen → Type 0) (ys : List Seen) → TurnBegins ys → ((n : ℕ) (s : Stmt) → u.input ≡ inputs.Call n (Some s) → begins_transaction s ≡ true → IsSession n → (session_at k.sessions n).root ≡ None → P (root_seen f0 u.node s (new_root p k n)))
        → ((y : Seen) → ((x : Born) × Began (births_of s1) x × (x.me ≡ y.me) × (x.parent ≢ None)) → y.parent ≢ None → P y) → AllByRecursion P ys
    each_begun P ys (None_begins nobody are) root child = subst (AllByRecursion P) (sym are) tt
    each_begun P ys (Root_begins n s call rows range none are) root child = subst (AllByRecursion P) (sym are) (root n s call rows range none, tt)
    each_begun P ys (Child_begins y nobody its below live new are) root child = subst (AllByRecursion P) (sym are) (child y its below, tt)

    pub begun_all : (P : Seen → Type 0) → ((n : ℕ) (s : Stmt) → u.cut ≡ false → u.input ≡ inputs.Call n (Some s) → begins_transaction s ≡ true → IsSession n → (session_at k.sessions n).root ≡ None → P (root_seen f0 u.node s (new_root p k n)))
        → ((y : Seen) → ((x : Born) × Began (births_of s1) x × (x.me ≡ y.me) × (x.parent ≢ None)) → y.parent ≢ None → P y) → AllByRecursion P (begun_in_turn f0 tr0 u)
    begun_all P root child = by u.cut refl
      where
        by : (cut : Bool) → u.cut ≡ cut → AllByRecursion P (begun_in_turn f0 tr0 u)
        by true cut = subst (AllByRecursion P) (sym (none_cut cut)) tt
        by false cut = each_begun P (begun_in_turn f0 tr0 u) (view cut) (λ n s. root n s cut) child

    -- and of all
    pub seen_all : (P : Seen → Type 0) → ((s : Seen) → P s → P (turned t.places f0 tr0 u s)) → AllByRecursion P tr0.seen → AllByRecursion P (begun_in_turn f0 tr0 u) → AllByRecursion P tr1.seen
    unfolding trail_after
    seen_all P keeps old new =
        all_map P (turned t.places f0 tr0 u) (begun t.places f0 tr0 u).seen
        (all_weaker P (λ s. P (turned t.places f0 tr0 u s)) keeps (begun t.places f0 tr0 u).seen (all_append P tr0.seen (begun_in_turn f0 tr0 u) old new))

    -- ---- what is kept

    pub born_on : AllByRecursion (λ s. IsBorn hs1 s.me) tr1.seen
    born_on =
        seen_all (λ s. IsBorn hs1 s.me) (λ s its. its)
        (all_weaker (λ s. IsBorn hs s.me) (λ s. IsBorn hs1 s.me) (λ s its. born_more hs (happenings.Turn u) rest is s.me its) tr0.seen born)
        (begun_all (λ s. IsBorn hs1 s.me) (λ n s cut call rows range none. (root_born (new_root p k n) (strength_of p k) (read_at_by k.clock s), root_began n s cut call rows none, refl)) (λ y its below. (its.0, its.1, its.2)))

    -- by the records and the clock of its node
    root_strong : unwrap_or (strength_at f0 u.node) (place_at t.places p.number).strength ≡ strength_of p k
    root_strong =
        ap (λ m. unwrap_or (strength_at f0 u.node) (place_at t.places m).strength) number ∙ ap (λ o. unwrap_or o p.strength) (sym (strength_stored (records_at f0 u.node) k node.stored))

    root_reads : (s : Stmt) → read_at_by (clock_of (node_at f0 u.node)) s ≡ read_at_by k.clock s
    root_reads s = ap (λ o. read_at_by (clock_of o) s) may.1.up

    pub started_on : AllByRecursion (IsStarted hs) tr0.seen → AllByRecursion (IsStarted hs1) tr1.seen
    started_on started =
        seen_all (IsStarted hs1) (λ s its. its) (all_weaker (IsStarted hs) (IsStarted hs1) (λ s its. started_more hs (happenings.Turn u) rest is s its) tr0.seen started)
        (begun_all (IsStarted hs1)
        (λ n s cut call rows range none top. (root_born (new_root p k n) (strength_of p k) (read_at_by k.clock s), root_began n s cut call rows none, refl, root_strong, root_reads s)) (λ y its below top. absurd (below top)))

    pub alone_on : Alone tr0.seen → Alone tr1.seen
    unfolding trail_after
    alone_on alone = alone_map (turned t.places f0 tr0 u) (λ s. refl) (begun t.places f0 tr0 u).seen (by u.cut refl)
      where
        all : (ys : List Seen) → TurnBegins ys → Alone (tr0.seen ++ ys)
        all ys (None_begins nobody are) = subst Alone (sym (ap (λ zs. tr0.seen ++ zs) are ∙ append-nil tr0.seen)) alone
        all ys (Root_begins n s call rows range none are) = subst (λ zs. Alone (tr0.seen ++ zs)) (sym are) (alone_more tr0.seen (root_seen f0 u.node s (new_root p k n)) alone (untold (new_root p k n) (root_unborn n s call rows none)))
        all ys (Child_begins y nobody its below live new are) = subst (λ zs. Alone (tr0.seen ++ zs)) (sym are) (alone_more tr0.seen y alone new)

        by : (cut : Bool) → u.cut ≡ cut → Alone (tr0.seen ++ begun_in_turn f0 tr0 u)
        by true cut = subst Alone (sym (ap (λ zs. tr0.seen ++ zs) (none_cut cut) ∙ append-nil tr0.seen)) alone
        by false cut = all (begun_in_turn f0 tr0 u) (view cut)
