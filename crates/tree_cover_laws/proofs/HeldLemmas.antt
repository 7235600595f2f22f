-- What the last answer of a branch told of its weight is what the happenings tell of the branch, whether it is live or has left since.
use Rattle.std.proofs.Common.{◌≡◌, ◌≢◌, ℕ, zero, suc, ◌+◌, ◌≤◌, true, is_some, slice_get, List, [], ◌∷◌, ◌++◌, map, flat_map, max, length, unwrap_or, Option, Some, None, inl, inr, refl, sym, ap, subst, ◌∙◌, arith}
use Rattle.std.specs.List.{AllByRecursion}
use Rattle.dtx_values.specs.Limits.{depth_limit}
use Rattle.tran_ids.proofs.ListedLemmas.{item_is}
use Rattle.session_tree.specs.Live.{children_of}
use Rattle.session_tree.specs.Tree.{place_of_greatest, weight_by, weight}
use Rattle.agreement.specs.Events.{Exit, exit}
use Rattle.node_rules.specs.Data.{BranchId, Edge, Kind, Live, Task}
use Rattle.node_rules.specs.Data.kinds
use Rattle.node_rules.specs.Inputs.{Came}
use Rattle.node_rules.specs.Words.{numbered}
use Rattle.node_rules.specs.NodeState.{NodeState, Branch, live_id, live_at, branch_at, work_at, with_work}
use Rattle.node_rules.proofs.LiveLemmas.{branch_parts}
use Rattle.run_rules.specs.Births.{Born, births_from, births_of, born_at}
use Rattle.run_base_laws.specs.BirthLaws.{Began, IsChild, GoesSo, LiveIs}
use Rattle.run_rules.specs.Branches as told
use Rattle.run_rules.specs.Branches.{Ran, Seen, seen_at, own_of, strength_set, children_at, is_among}
use Rattle.run_rules.specs.Data.{Packet, Turn, Happening}
use Rattle.run_rules.specs.Data.happenings
use Rattle.run_rules.specs.Facts.{place_at, node_at}
use Rattle.run_base_laws.specs.InTurnLaws.{packet_post, said_in, exec_number, newest_exec, call_at, NeedsNoRollback, TakesInTurn}
use Rattle.run_rules.specs.Lawful.{History, IsLawfulRun}
use Rattle.run_base_laws.specs.RunEvents.{lives_at}
use Rattle.run_rules.specs.Tree as of_tree
use Rattle.run_rules.specs.Tree.{has_changes, strength_of, weight_in}
use Rattle.run_rules.proofs.AtNodeLemmas.{range_of}
use Rattle.run_base_laws.proofs.BirthRunLemmas.{run_births, messages_are_of_neighbors, born_are_live_or_left}
use Rattle.run_base_laws.proofs.BirthsStandLemmas.{came_so}
use Rattle.run_base_laws.proofs.CallTurnLemmas.{exec_more}
use Rattle.run_base_laws.proofs.InTurnLemmas.{none_waits, length_peers}
use Rattle.run_base_laws.proofs.InTurnRunLemmas.{run_calls, branches_call_in_turn}
use Rattle.run_base_laws.proofs.KidLemmas.{parent_in, child_of, above_of}
use Rattle.run_base_laws.proofs.OwnLemmas.{all_found}
use Rattle.run_base_laws.proofs.NodeLemmas.{kept_alone}
use Rattle.run_base_laws.proofs.RestRunLemmas.{run_roots}
use Rattle.run_base_laws.proofs.RootLemmas.{SessionsFit, sessions_keep}
use Rattle.run_base_laws.proofs.SaidPostLemmas.{posts_of, said_after, execs_are_low}
use Rattle.tree_laws.proofs.ForestLemmas as trees
use Rattle.tree_laws.proofs.PrefixLemmas.{so_far, f_at, e_at, one_on, more_on}
use Rattle.tree_laws.proofs.SettleRunLemmas.{known}
use Rattle.tree_laws.proofs.VoterLemmas.{mapped_at, all_numbered}
use Rattle.tree_laws.proofs.WeightRunLemmas.{replies_tell_weights}
use Rattle.tree_cover_laws.specs.GoneLaws.{TellsWell, ToldWell, HasGone}
use Rattle.tree_cover_laws.proofs.WellLemmas.{well_split, well_more, well_weight, well_low}
use Rattle.tree_cover_laws.proofs.WellRunLemmas.{tells_live, run_well, branches_hold_well}
use Rattle.tree_laws.specs.DecideLaws.{live_of, live_in, Is_root, SeesTree}
use Rattle.tree_laws.proofs.CalledLemmas.{edges_were_called}
use Rattle.tree_laws.proofs.FateLemmas.{among_found}
use Rattle.tree_laws.proofs.MemberLemmas.{BornBelow, born_below}
use Rattle.tree_laws.proofs.ShallowLemmas.{parents_are_shallow}
use Rattle.tree_laws.proofs.TimeLemmas.{Part, part_lawful, part_on, part_of, may_of, born_end, keep_on}
use Rattle.tree_laws.proofs.WeighLemmas.{placed_of}
use Rattle.tree_trail_laws.proofs.FullLemmas.{SeesAll, full}
use Rattle.tree_trail_laws.proofs.MomentLemmas.{tr_at}
use Rattle.tree_trail_laws.proofs.SeenRunLemmas.{all_is_seen}
use Rattle.tree_trail_laws.proofs.SiteLemmas.{sees_tree}
use Rattle.answer_origin_laws.specs.ReplyLaws.{CallsAreTraced}
use Rattle.answer_origin_laws.proofs.ReplyRunLemmas.{lower_calls_are_told}
use Rattle.tree_cover_laws.specs.ToldLaws.{ToldLast, AnswersTellWeights}
use Rattle.tree_cover_laws.proofs.LeftTrailLemmas.{calls_none, ToldStill, told_still}
use Rattle.tree_laws.proofs.AtTurn.{at_happening}

pub map_all : (f : BranchId → Option ℕ) (es : List Edge) → AllByRecursion (λ e. f e.peer ≡ e.weight) es → map f (map (λ (e : Edge). e.peer) es) ≡ map (λ (e : Edge). e.weight) es
map_all f [] all = refl
map_all f (e ∷ es) all = ap (λ w. w ∷ map f (map (λ (z : Edge). z.peer) es)) all.0 ∙ ap (λ ws. e.weight ∷ ws) (map_all f es all.1)

-- who answers began below another
teller_born : (B : Born → Type 0) (xs : List Packet) → AllByRecursion (λ x. GoesSo B x.msg.from x.msg.to x.msg.kind) xs → (b : BranchId) (n : ℕ) (v : Option ℕ) → ToldWell (map packet_post xs) b n v → (q : BranchId) × IsChild B b q
teller_born B [] all b n v told = absurd told
teller_born B (x ∷ xs) all b n v (inl here) = (x.msg.to, subst (λ c. IsChild B c x.msg.to) here.0 (by x.msg.kind all.0 here.1))
  where
    by : (kind : Kind) → GoesSo B x.msg.from x.msg.to kind → TellsWell n v kind → IsChild B x.msg.from x.msg.to
    by (kinds.Reply call weight count a) goes tells = goes
    by _ goes tells = absurd tells
teller_born B (x ∷ xs) all b n v (inr later) = teller_born B xs all.1 b n v later

module _ (t : History) (whole : IsLawfulRun t) where
  -- What is told of a branch is what the branch was when it answered so.
  pub record WasSo (hs : List Happening) (c : BranchId) (n : ℕ) (v : Option ℕ) : Type 0 where
    pub seen : Seen
    pub at : seen_at (tr_at t hs) c ≡ Some seen
    pub taken : n ≤ seen.taken
    pub last : Live
    pub weighs : v ≡ weight last
    pub strong : strength_of t.places (tr_at t hs) c ≡ last.strength
    pub kids : children_at (tr_at t hs) c ≡ children_of last
    pub marked : has_changes (tr_at t hs) c ≡ last.changed
    pub each : (i : ℕ) (e : Edge) → numbered last.edges i ≡ Some e → ToldLast (said_in (f_at t hs)) c e.peer e.weight × BornBelow (births_of (so_far t hs)) e.peer c
    pub shallow : 1 ≤ length last.edges → last.depth + 1 ≤ depth_limit
    pub born : Born
    pub began : Began (births_of (so_far t hs)) born
    pub is_me : born.me ≡ c
    pub is_depth : born.depth ≡ last.depth
    pub high : 65 ≤ c.session

  -- So it is of each that did.
  abbrev pub AllWere : List Happening → Type 0
  AllWere hs = (p c : BranchId) → BornBelow (births_of (so_far t hs)) c p → (v : Option ℕ) (it : ToldLast (said_in (f_at t hs)) p c v) → WasSo hs c it.number v

  -- ---- a live branch that rests

  module _ (hs : List Happening) (part : Part t whole hs) (x : Branch) (k : NodeState) (up : node_at (f_at t hs) x.live.me.node ≡ Some k) (found : branch_at k x.live.me ≡ Some x) (goes : NeedsNoRollback k x.live) (waits : x.work.going ≡ None)
      (fine : HasGone x.work → ⊥) where
    abbrev s : History
    s = so_far t hs

    lawful : IsLawfulRun s
    lawful = part_lawful t whole hs part

    -- each of its children answered the last call, with the weight that it holds
    pub edges_told : (i : ℕ) (e : Edge) → numbered x.live.edges i ≡ Some e → ToldLast (said_in (f_at t hs)) x.live.me e.peer e.weight × BornBelow (births_of s) e.peer x.live.me
    edges_told i e at =
        let peer_at : numbered (children_of x.live) i ≡ Some e.peer = mapped_at (λ (z : Edge). z.peer) x.live.edges i e at in
        let made : newest_exec (said_in (f_at t hs)) x.live.me e.peer ≡ call_at x.work i = (branches_call_in_turn s lawful x.live.me.node k up x found).1.made i e.peer peer_at in
        let some : 1 ≤ call_at x.work i = edges_were_called s lawful x.live.me.node k up x found i e at in (
          record { number = call_at x.work i; some = some; newest = omega (arith, made); told = well i e at },
          born_below (births_of s) e.peer x.live.me (child_of (births_of s) x.live (placed_of s lawful x.live.me.node k up x found) i e.peer peer_at),
        )
      where
        well : (i : ℕ) (e : Edge) → numbered x.live.edges i ≡ Some e → ToldWell (said_in (f_at t hs)) e.peer (call_at x.work i) e.weight
        well i e at = elim ((branches_hold_well s lawful x.live.me.node k up x found).held goes i e at) [
          | inl waiting ↦ absurd (none_waits i x.work.going waits waiting)
          | inr other ↦ elim other [ inl is ↦ is | inr gone ↦ absurd (fine gone) ]
        ]

  module _ (sees : SeesAll t) where
    -- ---- a live branch

    module _ (hs : List Happening) (h : Happening) (rest : List Happening) (is : hs ++ h ∷ rest ≡ t.trace) (x : Branch) (k : NodeState) (up : node_at (f_at t hs) x.live.me.node ≡ Some k) (found : branch_at k x.live.me ≡ Some x) (p : BranchId)
        (below : BornBelow (births_of (so_far t hs)) x.live.me p) (v : Option ℕ) (it : ToldLast (said_in (f_at t hs)) p x.live.me v) where
      open at_happening t whole hs h rest is use {s as s1, part as part1, lawful as lawful1}

      abbrev me : BranchId
      me = x.live.me

      placed1 : LiveIs (Began (births_of s1)) x.live
      placed1 = placed_of s1 lawful1 me.node k up x found

      parent1 : x.live.parent ≡ Some p
      parent1 = above_of (births_of s1) x.live placed1 p (ap parent_in (subst (λ b. born_at (births_of s1) b ≡ Some below.born) below.is_me below.began) ∙ below.is_parent)

      not_root : x.live.parent ≢ None
      not_root none = let above : x.live.parent ≡ Some p = parent1 in absurd (cc (above, none))

      takes : TakesInTurn (said_in (f_at t hs)) me x.live.parent x.work
      takes = (branches_call_in_turn s1 lawful1 me.node k up x found).0

      last_is : it.number ≡ x.work.came.last_call
      last_is = omega (arith, well_low (said_in (f_at t hs)) me it.number v it.told, takes.told, takes.taken p parent1, it.newest)

      rests1 : x.work.going ≡ None
      rests1 = takes.rests not_root (omega (arith, well_low (said_in (f_at t hs)) me it.number v it.told, takes.told, last_is))

      told1 : ToldWell (said_in (f_at t hs)) me x.work.came.last_call v
      told1 = subst (λ n. ToldWell (said_in (f_at t hs)) me n v) last_is it.told

      fine1 : HasGone x.work → ⊥
      fine1 gone = (branches_hold_well s1 lawful1 me.node k up x found).kept gone v told1

      parts : (live_at k me ≡ Some x.live) × (x.work ≡ work_at k me)
      parts = branch_parts k me x found

      reported_of : (z : Seen) × (seen_at (tr_at t hs) me ≡ Some z) × CallsAreTraced s1 (work_at k me) z
      reported_of = lower_calls_are_told s1 lawful1 me.node k up x.live parts.0 not_root

      its_tree : SeesTree t.places (f_at t hs) (tr_at t hs) me
      its_tree = sees_tree t whole sees hs h rest is me

      live1 : live_in (f_at t hs) me ≡ Some x.live
      live1 = ap (λ o. live_of o me) up ∙ parts.0

      pub live_was : WasSo hs me it.number v
      live_was = record {
        seen = reported_of.0;
        at = reported_of.1;
        taken = omega (arith, last_is, ap (λ w. w.came.last_call) parts.1, reported_of.2.taken);
        last = x.live;
        weighs = (replies_tell_weights s1 lawful1 me.node k up x found).told not_root (omega (arith, last_is, it.some)) rests1 v (well_weight (said_in (f_at t hs)) me x.work.came.last_call v told1);
        strong = its_tree.strength me x.live Is_root live1;
        kids = its_tree.children me x.live Is_root live1;
        marked = its_tree.changed me x.live Is_root live1;
        each = edges_told hs part1 x k up found (λ none. absurd (not_root none)) rests1 fine1;
        shallow = parents_are_shallow s1 lawful1 me.node k up x found;
        born = placed1.born;
        began = placed1.began;
        is_me = placed1.is_me;
        is_depth = placed1.is_depth;
        high = all_found (λ (l : Live). l.parent ≢ None → 65 ≤ l.me.session) live_id k.lives me x.live (kept_alone SessionsFit sessions_keep s1 lawful1 me.node k up).above parts.0 not_root;
      }

    -- ---- a branch that has left

    module _ (hs : List Happening) (h : Happening) (rest : List Happening) (is : hs ++ h ∷ rest ≡ t.trace) (before : AllWere hs) (p c : BranchId) (below : BornBelow (births_of (so_far t (hs ++ h ∷ []))) c p) (v : Option ℕ)
        (it : ToldLast (said_in (f_at t (hs ++ h ∷ []))) p c v) (left : exit (e_at t (hs ++ h ∷ [])) c ≢ None) where
      open at_happening t whole hs h rest is use {s as s0, f as f0, lawful as lawful0, lawful_after as lawful_on}

      more : said_in (f_at t (hs ++ h ∷ [])) ≡ said_in f0 ++ posts_of h
      more = ap said_in (one_on t hs h) ∙ said_after t.places t.commands f0 h

      wider : (b : Born) → Began (births_of s0) b → Began (births_of (so_far t (hs ++ h ∷ []))) b
      wider b began = born_end (so_far t (hs ++ h ∷ [])) lawful_on hs (record { rest = h ∷ []; is = refl }) b began

      same_born : (b d : Born) → Began (births_of (so_far t (hs ++ h ∷ []))) b → Began (births_of (so_far t (hs ++ h ∷ []))) d → b.me ≡ d.me → b ≡ d
      same_born = trees.same_born (births_of (so_far t (hs ++ h ∷ []))) (said_in (f_at t (hs ++ h ∷ []))) (known (so_far t (hs ++ h ∷ [])) lawful_on)

      told0 : ToldWell (said_in f0) c it.number v
      told0 = elim (well_split (said_in f0) (posts_of h) c it.number v (subst (λ xs. ToldWell xs c it.number v) more it.told)) [
        | inl old ↦ old
        | inr new ↦ absurd (left (subst (λ e. exit e c ≡ None) (sym (more_on t hs h))
            (tells_live t.places t.commands t.of_a_script.each f0 (e_at t hs) (births_of s0) (run_births s0 lawful0) (run_roots s0 lawful0) (run_calls s0 lawful0) (run_well s0 lawful0) h (may_of t whole hs h rest is) c it.number v new)))
      ]

      below0 : BornBelow (births_of s0) c p
      below0 =
          let is_child = teller_born (Began (births_of s0)) f0.net.packets (messages_are_of_neighbors s0 lawful0) c it.number v told0 in
          let one : is_child.1.0 ≡ below.born = same_born is_child.1.0 below.born (wider is_child.1.0 is_child.1.1) below.began (is_child.1.2 ∙ sym below.is_me) in
          record { born = is_child.1.0; began = is_child.1.1; is_me = is_child.1.2; is_parent = ap (λ (b : Born). b.parent) one ∙ below.is_parent }

      newest_on : (a b : BranchId) → newest_exec (said_in (f_at t (hs ++ h ∷ []))) a b ≡ max (newest_exec (said_in f0) a b) (newest_exec (posts_of h) a b)
      newest_on a b = ap (λ xs. newest_exec xs a b) more ∙ exec_more (said_in f0) (posts_of h) a b

      was : WasSo hs c it.number v
      was = before p c below0 v (record { number = it.number; some = it.some; newest = omega (arith, it.newest, newest_on p c); told = told0 })

      low : (u : Turn) (from : BranchId) (call : ℕ) (task : Task) → h ≡ happenings.Turn u → Came u.input from c (kinds.Exec call task) → call ≤ was.seen.taken
      low u from call task one came =
          let may = may_of t whole hs (happenings.Turn u) rest (subst (λ y. hs ++ y ∷ rest ≡ t.trace) one is) in
          let sent : call ≤ newest_exec (said_in f0) from c
          = came_so (λ a b kind. exec_number kind ≤ newest_exec (said_in f0) a b) f0 (execs_are_low f0) may.0 u.node u.input u.took may.1.comes from c (kinds.Exec call task) came in
          let child : IsChild (Began (births_of s0)) c from
          = came_so (GoesSo (Began (births_of s0))) f0 (messages_are_of_neighbors s0 lawful0) may.0 u.node u.input u.took may.1.comes from c (kinds.Exec call task) came in
          let same : child.0 ≡ below.born = same_born child.0 below.born (wider child.0 child.1) below.began (child.2 ∙ sym below.is_me) in
          let parent : Some from ≡ Some p = sym child.3 ∙ (ap (λ (b : Born). b.parent) same ∙ below.is_parent) in
          let here : from ≡ p = cc in
          let here_sent : call ≤ newest_exec (said_in f0) p c = subst (λ a. call ≤ newest_exec (said_in f0) a c) here sent in
          omega (arith, here_sent, it.newest, newest_on p c, was.taken)

      still : ToldStill was.seen (tr_at t (hs ++ h ∷ [])) c
      still = told_still t whole hs c was.high h rest is left was.seen was.at low

      kid_on : (i : ℕ) (e : Edge) → numbered was.last.edges i ≡ Some e → ToldLast (said_in (f_at t (hs ++ h ∷ []))) c e.peer e.weight × BornBelow (births_of (so_far t (hs ++ h ∷ []))) e.peer c
      kid_on i e at =
          let old = was.each i e at in (
            record {
              number = old.0.number;
              some = old.0.some;
              newest = omega (arith, old.0.newest, newest_on c e.peer, calls_none t whole hs c was.high h rest is left e.peer);
              told = subst (λ xs. ToldWell xs e.peer old.0.number e.weight) (sym more) (well_more (said_in f0) (posts_of h) e.peer old.0.number e.weight old.0.told);
            },
            record { born = old.1.born; began = wider old.1.born old.1.began; is_me = old.1.is_me; is_parent = old.1.is_parent },
          )

      pub left_was : WasSo (hs ++ h ∷ []) c it.number v
      left_was = record {
        seen = still.seen;
        at = still.at;
        taken = omega (arith, was.taken, still.taken);
        last = was.last;
        weighs = was.weighs;
        strong = ap (λ (o : Option Seen). unwrap_or (strength_set o) (place_at t.places c.node).strength) still.at
            ∙ (ap (λ o. unwrap_or o (place_at t.places c.node).strength) still.strength
            ∙ (sym (ap (λ (o : Option Seen). unwrap_or (strength_set o) (place_at t.places c.node).strength) was.at) ∙ was.strong));
        kids = ap told.children_of still.at ∙ (still.children ∙ (sym (ap told.children_of was.at) ∙ was.kids));
        marked = ap (λ (o : Option Seen). is_some (slice_get (own_of o) 0)) still.at ∙ (ap (λ (rs : List Ran). is_some (slice_get (flat_map (λ (r : Ran). r.changes) rs) 0)) still.runs
            ∙ (sym (ap (λ (o : Option Seen). is_some (slice_get (own_of o) 0)) was.at) ∙ was.marked));
        each = kid_on;
        shallow = was.shallow;
        born = was.born;
        began = wider was.born was.began;
        is_me = was.is_me;
        is_depth = was.is_depth;
        high = was.high;
      }

    -- ---- each moment before a happening

    abbrev Holds : List Happening → Type 0
    Holds hs = (h : Happening) (rest : List Happening) → hs ++ h ∷ rest ≡ t.trace → AllWere hs

    holds_on : (hs : List Happening) (h : Happening) (rest : List Happening) → hs ++ h ∷ rest ≡ t.trace → Holds hs → Holds (hs ++ h ∷ [])
    holds_on hs h rest is now g more next p c below v it = by (exit (e_at t (hs ++ h ∷ [])) c) refl
      where
        lawful2 : IsLawfulRun (so_far t (hs ++ h ∷ []))
        lawful2 = part_lawful t whole (hs ++ h ∷ []) (part_on t whole hs h rest is)

        live : (o : Option NodeState) → node_at (f_at t (hs ++ h ∷ [])) c.node ≡ o → is_among c (lives_at o) ≡ true → WasSo (hs ++ h ∷ []) c it.number v
        live None up among = absurd cc
        live (Some k) up among =
            let l = among_found k.lives c among in
            let is_me : l.0.me ≡ c = item_is live_id k.lives c l.0 l.1 in
            let found = ap (with_work k) (subst (λ b. live_at k b ≡ Some l.0) (sym is_me) l.1) in
            subst (λ b. (below : BornBelow (births_of (so_far t (hs ++ h ∷ []))) b p) (v : Option ℕ) (it : ToldLast (said_in (f_at t (hs ++ h ∷ []))) p b v) → WasSo (hs ++ h ∷ []) b it.number v) is_me
            (λ below v it. live_was (hs ++ h ∷ []) g more next (record { live = l.0; work = work_at k l.0.me }) k (subst (λ b. node_at (f_at t (hs ++ h ∷ [])) b.node ≡ Some k) (sym is_me) up) found p below v it) below v it

        by : (o : Option Exit) → exit (e_at t (hs ++ h ∷ [])) c ≡ o → WasSo (hs ++ h ∷ []) c it.number v
        by (Some z) gone = left_was hs h rest is (now h rest is) p c below v it (λ none. absurd (cc (gone, none)))
        by None clean = elim (born_are_live_or_left (so_far t (hs ++ h ∷ [])) lawful2 c (λ no. (let at_c : born_at (births_of (so_far t (hs ++ h ∷ []))) c ≡ Some below.born = subst (λ b. born_at (births_of (so_far t (hs ++ h ∷ []))) b ≡ Some below.born) below.is_me below.began in absurd (cc (no, at_c))))) [
          | inl gone ↦ absurd (gone clean)
          | inr among ↦ live (node_at (f_at t (hs ++ h ∷ [])) c.node) refl among
        ]

    first_holds : Holds []
    unfolding births_from
    first_holds h rest is p c below v it = (let none : None ≡ Some below.born = below.began in absurd (cc (none)))

    pub holds_at : (hs : List Happening) (h : Happening) (rest : List Happening) → hs ++ h ∷ rest ≡ t.trace → AllWere hs
    holds_at hs h rest is = keep_on t whole Holds holds_on [] hs (part_of t whole hs h rest is) first_holds h rest is

    -- ---- weights

    module _ (hs : List Happening) (h : Happening) (rest : List Happening) (is : hs ++ h ∷ rest ≡ t.trace) where
      lawful3 : IsLawfulRun (so_far t hs)
      lawful3 = part_lawful t whole hs (part_of t whole hs h rest is)

      -- what it told is what the happenings tell of its weight
      pub weighs_told : (m : ℕ) (p c : BranchId) (below : BornBelow (births_of (so_far t hs)) c p) (v : Option ℕ) → ToldLast (said_in (f_at t hs)) p c v → below.born.depth ≤ depth_limit → depth_limit + 1 ≤ below.born.depth + m
          → weight_in m t.places (tr_at t hs) c ≡ v
      unfolding weight
      weighs_told zero p c below v it low deep = absurd (omega (arith, low, deep))
      weighs_told (suc m) p c below v it low deep =
          ap (λ q. weight_by q (strength_of t.places (tr_at t hs) c) (place_of_greatest 1 (map (weight_in m t.places (tr_at t hs)) (children_at (tr_at t hs) c)) None)) was.marked
          ∙ (ap (λ g. weight_by was.last.changed g (place_of_greatest 1 (map (weight_in m t.places (tr_at t hs)) (children_at (tr_at t hs) c)) None)) was.strong
          ∙ (ap (λ ws. weight_by was.last.changed was.last.strength (place_of_greatest 1 ws None)) (kids (λ d its w say less more. weighs_told m c d its w say less more)) ∙ sym was.weighs))
        where
          was : WasSo hs c it.number v
          was = holds_at hs h rest is p c below v it

          mine : was.born ≡ below.born
          mine = trees.same_born (births_of (so_far t hs)) (said_in (f_at t hs)) (known (so_far t hs) lawful3) was.born below.born was.began below.began (was.is_me ∙ sym below.is_me)

          each : ((d : BranchId) (its : BornBelow (births_of (so_far t hs)) d c) (w : Option ℕ) → ToldLast (said_in (f_at t hs)) c d w → its.born.depth ≤ depth_limit → depth_limit + 1 ≤ its.born.depth + m → weight_in m t.places (tr_at t hs) d ≡ w) → (i : ℕ) (e : Edge) → numbered was.last.edges i ≡ Some e → weight_in m t.places (tr_at t hs) e.peer ≡ e.weight
          each again i e at =
              let kid = was.each i e at in
              let up = trees.below_of (births_of (so_far t hs)) (said_in (f_at t hs)) (known (so_far t hs) lawful3) kid.1.born c kid.1.began kid.1.is_parent in
              let one : up.up ≡ was.born = trees.same_born (births_of (so_far t hs)) (said_in (f_at t hs)) (known (so_far t hs) lawful3) up.up was.born up.began was.began (up.is_me ∙ sym was.is_me) in
              let level : up.up.depth ≡ was.last.depth = ap (λ (b : Born). b.depth) one ∙ was.is_depth in
              let same : was.last.depth ≡ below.born.depth = sym was.is_depth ∙ ap (λ (b : Born). b.depth) mine in
              let peer_at : numbered (children_of was.last) i ≡ Some e.peer = mapped_at (λ (z : Edge). z.peer) was.last.edges i e at in
              let range = range_of (children_of was.last) i e.peer peer_at in
              let some : 1 ≤ length (children_of was.last) = omega (arith, range.0, range.1) in
              let shallow : was.last.depth + 1 ≤ depth_limit = was.shallow (subst (λ n. 1 ≤ n) (length_peers was.last.edges) some) in
              again e.peer kid.1 e.weight kid.0 (omega (arith, shallow, level, up.deeper)) (omega (arith, deep, level, up.deeper, same))

          kids : ((d : BranchId) (its : BornBelow (births_of (so_far t hs)) d c) (w : Option ℕ) → ToldLast (said_in (f_at t hs)) c d w → its.born.depth ≤ depth_limit → depth_limit + 1 ≤ its.born.depth + m → weight_in m t.places (tr_at t hs) d ≡ w) → map (weight_in m t.places (tr_at t hs)) (children_at (tr_at t hs) c) ≡ map (λ (e : Edge). e.weight) was.last.edges
          kids again = ap (map (weight_in m t.places (tr_at t hs))) was.kids ∙ map_all (weight_in m t.places (tr_at t hs)) was.last.edges (all_numbered (λ e. weight_in m t.places (tr_at t hs) e.peer ≡ e.weight) was.last.edges (each again))

pub answers_tell_weights : AnswersTellWeights
unfolding of_tree.weight
answers_tell_weights t lawful hs h rest is p c began parent low v it =
    let before : IsLawfulRun (so_far t hs) = part_lawful t lawful hs (part_of t lawful hs h rest is) in
    let up = trees.below_of (births_of (so_far t hs)) (said_in (f_at t hs)) (known (so_far t hs) before) c p began parent in
    weighs_told t lawful (full t lawful (all_is_seen t lawful)) hs h rest is depth_limit p c.me (record { born = c; began = began; is_me = refl; is_parent = parent }) v it low (omega (arith, up.deeper))
