-- Each delivery of a COMMIT that flows lessens what is in flight and kept, and a CREATE adds nothing: all that is in flight is of
-- its course.
use Rattle.std.proofs.Common.{◌≡◌, ℕ, ◌+◌, ◌-◌, ◌*◌, ◌≤◌, ◌&&◌, Bool, true, false, if◌then◌else◌, List, [], ◌∷◌, ◌++◌, map, length, Some, None, inl, inr, refl, sym, ap, subst, ◌∙◌, arith, append-nil}
use Rattle.std.specs.Prelude.{is_some}
use Rattle.std.specs.List.{AllByRecursion}
use Rattle.std.proofs.lemmas.List.{append_assoc}
use Rattle.tran_ids.proofs.BranchLemmas.{same_from_equal}
use Rattle.tran_ids.proofs.ListedLemmas.{item_is}
use Rattle.session_tree.specs.Tree.{count}
use Rattle.node_rules.specs.Data.{BranchId, Input, Kind, KeptRow, Live, Msg, Place, Post}
use Rattle.node_rules.specs.Data.phases
use Rattle.node_rules.specs.NodeState.{NodeState, Branch, TurnDraft, live_id, live_at, kept_row_id, kept_row_at, branch_at, work_at, with_work}
use Rattle.node_rules.specs.Turn.{clock_raised_by, draft_of, stamped, turn_of}
use Rattle.node_rules.specs.Words.{item_at, numbered, same}
use Rattle.net_bag.specs.Net.{flies, is_flying}
use Rattle.run_rules.specs.Births.{Born, births_of, born_at}
use Rattle.run_base_laws.specs.BirthLaws.{Began, GoesSo}
use Rattle.run_rules.specs.Branches.{is_among}
use Rattle.run_rules.specs.Data.{Packet, Turn, Happening}
use Rattle.run_rules.specs.Data.happenings
use Rattle.run_rules.specs.Facts.{Facts, place_at, node_at, taken, facts_after}
use Rattle.run_base_laws.specs.FreezeLaws.{was_asked}
use Rattle.run_base_laws.specs.InTurnLaws.{said_in}
use Rattle.run_rules.specs.Lawful.{IsOwed, MayHappen, MayTurn, History, IsLawfulRun}
use Rattle.run_rules.specs.Trail.{is_prepare}
use Rattle.run_base_laws.proofs.BirthRunLemmas.{messages_are_of_neighbors}
use Rattle.run_base_laws.proofs.EventsStandLemmas.{run_stands}
use Rattle.run_branch_laws.proofs.FreezeRunLemmas.{prepare_finds_rest}
use Rattle.run_base_laws.proofs.SaidPostLemmas.{prepares_are_said}
use Rattle.tree_laws.proofs.PrefixLemmas.{f_at, one_on}
use Rattle.tree_laws.proofs.TimeLemmas.{may_of}
use Rattle.run_claims.specs.Undisturbed.{Commit, NoneComesIn, IsInCourse, is_create, branches_in, branches_by, disturbs, is_disturbed}
use Rattle.commit_laws.proofs.CreateLemmas.{LeavesBranches, create_leaves, create_takes_none}
use Rattle.commit_laws.proofs.NetLemmas.{numbered_all}
use Rattle.commit_length_laws.specs.FewLaws.{delivery_of, deliveries_in}
use Rattle.commit_length_laws.proofs.TotalLemmas.{drop_total, set_total}
use Rattle.commit_length_laws.proofs.WorthLemmas.{says_worth, asked_worth}
use Rattle.commit_length_laws.proofs.SayLemmas.{SaidSo}
use Rattle.commit_length_laws.proofs.TurnLemmas.{Fits, Known, turn_fits}
use Rattle.commit_length_laws.proofs.FullLemmas.{ask_two, asks_low}
use Rattle.commit_length_laws.proofs.FlightLemmas.{AllFly, taken_less, net_now, nodes_now, turn_fly}
use Rattle.commit_length_laws.proofs.AllLemmas.{turned_low}
use Rattle.commit_length_laws.proofs.BetweenLemmas.{says_between}
use Rattle.commit_length_laws.proofs.BetweenRowLemmas.{noted_all}
use Rattle.commit_length_laws.proofs.BetweenTurnLemmas.{Keeps, Told, turn_keeps}
use Rattle.run_base_laws.specs.NodeLaws.{count_of}
use Rattle.run_base_laws.proofs.FreshLemmas.{ids_are_fresh}
use Rattle.run_rules.proofs.AtNodeLemmas.{flat_some}
use Rattle.node_rules.specs.Data.kinds
use Rattle.node_rules.specs.Commit.{all_acked, is_beyond}
use Rattle.commit_length_laws.proofs.TreeLemmas as tree
use Rattle.commit_length_laws.proofs.TreeLemmas.{mid_all, second_false, Taken, take_it}
use Rattle.commit_laws.proofs.AmongLemmas.{is_in}
use Rattle.tree_laws.proofs.AtTurn.{at_happening}
use Rattle.commit_length_laws.specs.Worth.{total, net_weight, kept_weight, live_worth, row_worth, node_worth, full_by, full, live_in, ask_in, worth, net_worth, all_worth}
use Rattle.commit_length_laws.specs.Once.{when, on, message_between, live_between, row_between, node_between, all_between}

module _ (t : History) (whole : IsLawfulRun t) (c : Commit t.places t.commands t.trace) where
  abbrev bs : List Born
  bs = births_of t

  abbrev g : BranchId
  g = c.root

  abbrev InTree : BranchId → Type 0
  InTree b = tree.InTree t whole c b

  abbrev Course : Msg → Type 0
  Course m = tree.Course t whole c m

  -- between two branches there is one of each message at most
  abbrev pub OnceBetween : Facts → Type 0
  OnceBetween f = (z w : BranchId) → all_between z w g f ≤ 1

  module _ (hs : List Happening) (h : Happening) (rest : List Happening) (is : hs ++ h ∷ rest ≡ t.trace) where
    open at_happening t whole hs h rest is use {f, s, lawful}

    -- ---- a delivery

    module _ (calm : AllByRecursion (NoneComesIn (branches_by t.places t.commands t.trace c.root)) t.trace) (v : Turn) (turn : h ≡ happenings.Turn v) (uncut : v.cut ≡ false) (number : ℕ) (took : v.took ≡ Some (record { number = number; again = false })) (k : NodeState)
        (may : MayTurn t.places f v k) (now : AllFly Course f.net) (once : OnceBetween f) where
      abbrev p : Place
      p = place_at t.places v.node

      abbrev ask : BranchId → ℕ
      ask b = ask_in f b

      takes : Taken f v.node number v.input
      takes = take_it f k v.node number v.input v.took may.comes took

      abbrev m : Msg
      m = takes.message

      abbrev k0 : NodeState
      k0 = clock_raised_by k m

      flew : flies takes.packet ≡ true
      flew = ap is_flying takes.flying

      course : Course m
      course = subst Course takes.same_message (numbered_all (λ (x : Packet). flies x ≡ true → Course x.msg) f.net.packets number takes.packet now takes.sent flew)

      goes : GoesSo (Began (births_of s)) m.from m.to m.kind
      goes = subst (λ (x : Msg). GoesSo (Began (births_of s)) x.from x.to x.kind) takes.same_message
          (numbered_all (λ (x : Packet). GoesSo (Began (births_of s)) x.msg.from x.msg.to x.msg.kind) f.net.packets number takes.packet (messages_are_of_neighbors s lawful) takes.sent)

      mine : InTree m.to
      mine = tree.to_in t whole c hs h rest is m.from m.to m.kind course.0 goes course.1

      is_calm : disturbs m.kind ≡ false
      is_calm =
          let all : NoneComesIn (branches_by t.places t.commands t.trace c.root) h = mid_all (NoneComesIn (branches_by t.places t.commands t.trace c.root)) hs h rest (subst (AllByRecursion (NoneComesIn (branches_by t.places t.commands t.trace c.root))) (sym is) calm) in
          let calm_turn : is_disturbed (branches_in bs c.root) v.input ≡ false = subst (NoneComesIn (branches_in bs c.root)) turn all in
          let message : (is_among m.to (branches_in bs c.root) && disturbs m.kind) ≡ false = subst (λ i. is_disturbed (branches_in bs c.root) i ≡ false) takes.input_is calm_turn in
          let began : born_at bs m.to ≡ Some mine.0 = subst (λ b. born_at bs b ≡ Some mine.0) mine.2 mine.1 in
          second_false (is_among m.to (branches_in bs c.root)) (disturbs m.kind) message (is_in bs c.root m.to mine.0 began mine.3)

      here : v.node ≡ m.to.node
      here = sym takes.here

      works : (l : Live) → live_at k m.to ≡ Some l → l.phase ≡ phases.Working → is_prepare m.kind ≡ true → 7 + asked_worth ask l.edges + 4 * length l.edges ≤ ask m.to
      works l live working prepare =
          let me : l.me ≡ m.to = item_is live_id k.lives m.to l live in
          let found : live_at k l.me ≡ Some l = subst (λ b. live_at k b ≡ Some l) (sym me) live in
          let x : Branch = record { live = l; work = work_at k l.me } in
          let there : branch_at k l.me ≡ Some x = ap (with_work k) found in
          let said_so : is_prepare takes.packet.msg.kind ≡ true → was_asked (said_in f) takes.packet.msg.from takes.packet.msg.to ≡ true
          = numbered_all (λ (y : Packet). is_prepare y.msg.kind ≡ true → was_asked (said_in f) y.msg.from y.msg.to ≡ true) f.net.packets number takes.packet (prepares_are_said f) takes.sent in
          let asked : was_asked (said_in f) m.from m.to ≡ true = subst (λ (y : Msg). is_prepare y.kind ≡ true → was_asked (said_in f) y.from y.to ≡ true) takes.same_message said_so prepare in
          let rest_so = prepare_finds_rest s lawful m.from v.node k may.up x there (subst (λ b. was_asked (said_in f) m.from b ≡ true) (sym me) asked) in
          let parent : l.parent ≡ Some m.from = rest_so.0 in
          let low : (asked_worth ask l.edges + 4 * length l.edges) + 11 ≤ 11 * count l = asks_low s lawful v.node k may.up l found (λ none. absurd (cc (parent, none))) rest_so.1 in
          let value : ask m.to ≡ 11 * count l - 4
          = ap (λ n. full (live_in (node_at f n) m.to)) (sym here) ∙ (ap (λ o. full (live_in o m.to)) may.up ∙ (ap full live ∙ ap (λ q. full_by q (count l)) working)) in
          omega (arith, low, value)

      of_root : (l : Live) → live_at k m.to ≡ Some l → same l.root c.root ≡ true
      of_root l live = same_from_equal l.root c.root (tree.live_of t whole c hs h rest is v.node k may.up m.to mine l live)

      rows : (r : KeptRow) → kept_row_at k m.to ≡ Some r → same r.root c.root ≡ true
      rows r found = same_from_equal r.root c.root (tree.row_of t whole c hs h rest is v.node k may.up m.to mine r found)

      -- an Ack that comes was not noted before
      fresh : (r : KeptRow) → kept_row_at k m.to ≡ Some r → m.kind ≡ kinds.Ack → is_beyond r m.from ≡ true → all_acked r ≡ false
      fresh r found ack beyond = by (all_acked r) refl
        where
          by : (q : Bool) → all_acked r ≡ q → q ≡ false
          by false all = refl
          by true all =
              let at_most : all_between m.to m.from g f ≤ 1 = once m.to m.from in
              let taken_one = taken_less (message_between m.to m.from) f.net v.took number takes.packet took takes.sent takes.flying in
              let message : message_between m.to m.from takes.packet.msg.from takes.packet.msg.to takes.packet.msg.kind ≡ 1
              = ap (λ (y : Msg). message_between m.to m.from y.from y.to y.kind) takes.same_message ∙ (ap (message_between m.to m.from m.from m.to) ack ∙ (ap (λ p. when p (on m.to m.to)) (same_from_equal m.from m.from refl) ∙ ap (λ p. when p 1) (same_from_equal m.to m.to refl))) in
              let row = noted_all m.to m.from g r (rows r found) (item_is kept_row_id k.stored.durable.kept m.to r found) beyond all in
              let kept = drop_total (row_between m.to m.from g) kept_row_id m.to k.stored.durable.kept r found in
              let nodes = set_total (kept_weight (node_between m.to m.from g)) f.nodes v.node (Some k) None (flat_some (numbered f.nodes v.node) k may.up) in
              absurd (omega (arith, at_most, taken_one, message, row, kept, nodes))

      told : (z w : BranchId) → Told z w g p k0 m.from m.to m.kind
      told z w = record {
        mine = of_root;
        up = λ l live point. tree.parent_of t whole c hs h rest is v.node k may.up m.to l live m.from (subst (λ (x : Kind). GoesSo (Began (births_of s)) m.from m.to x) point goes);
        rows = rows;
        once = (let fits_one : count_of kept_row_id m.to k.stored.durable.kept + count_of live_id m.to k.lives ≤ 1 = ids_are_fresh s lawful v.node k may.up m.to in omega (arith, fits_one));
        fresh = fresh;
      }

      receiver : Known g ask p k0 m.from m.to m.kind
      receiver = record {
        asks = ask_two f m.to;
        mine = of_root;
        works = works;
        rows = rows;
        fresh = fresh;
      }

      abbrev d : TurnDraft
      d = draft_of p k v.input

      fits : Fits g ask k0 m.to (worth ask m.to m.kind) d
      fits = subst (λ (i : Input). Fits g ask k0 m.to (worth ask m.to m.kind) (draft_of p k i)) (sym takes.input_is) (turn_fits g ask p k0 m.from m.to m.kind receiver course.0 is_calm)

      even : length f.nodes ≡ length f.records
      even = (run_stands s lawful).0.even

      owed : IsOwed p k v.input v.wrote v.sent false
      owed = subst (IsOwed p k v.input v.wrote v.sent) uncut may.owed

      abbrev after : Facts
      after = facts_after t.places t.commands f (happenings.Turn v)

      pub less : 1 + all_worth g after ≤ all_worth g f
      less =
          let one = turned_low g t.places t.commands f even v k may.up uncut owed.1 fits.works in
          let two = nodes_now t.places t.commands f v k may.up uncut owed.1 (node_worth g) in
          let three = taken_less (λ from to kind. worth ask to kind) f.net v.took number takes.packet took takes.sent takes.flying in
          let four : 1 + says_worth ask d.says + node_worth g d.after ≤ worth ask m.to m.kind + node_worth g k = fits.less in
          let five : worth ask takes.packet.msg.to takes.packet.msg.kind ≡ worth ask m.to m.kind = ap (λ (y : Msg). worth ask y.to y.kind) takes.same_message in
          omega (arith, one, two, three, four, five)

      keeps : (z w : BranchId) → Keeps z w g k0 (message_between z w m.from m.to m.kind) d
      keeps z w = subst (λ (i : Input). Keeps z w g k0 (message_between z w m.from m.to m.kind) (draft_of p k i)) (sym takes.input_is) (turn_keeps z w g p k0 m.from m.to m.kind (told z w) course.0 is_calm)

      pub once_on : OnceBetween after
      once_on z w =
          let one = net_now t.places t.commands f v k may.up uncut owed.1 (message_between z w) in
          let two = nodes_now t.places t.commands f v k may.up uncut owed.1 (node_between z w g) in
          let three = taken_less (message_between z w) f.net v.took number takes.packet took takes.sent takes.flying in
          let four : says_between z w d.says + node_between z w g d.after ≤ message_between z w m.from m.to m.kind + node_between z w g k = keeps z w in
          let five : message_between z w takes.packet.msg.from takes.packet.msg.to takes.packet.msg.kind ≡ message_between z w m.from m.to m.kind = ap (λ (y : Msg). message_between z w y.from y.to y.kind) takes.same_message in
          let now_one : all_between z w g f ≤ 1 = once z w in
          omega (arith, one, two, three, four, five, now_one)

      stamped_so : (clock : ℕ) (ms : List Post) → AllByRecursion (SaidSo m.to) ms → AllByRecursion Course (map (stamped clock) ms)
      stamped_so clock [] all = tt
      stamped_so clock (y ∷ ys) all = ((all.0.1, subst InTree (sym all.0.0) mine), stamped_so clock ys all.1)

      pub flies_on : AllFly Course after.net
      unfolding turn_of
      flies_on = turn_fly Course t.places t.commands f v now (subst (AllByRecursion Course) (sym owed.1) (stamped_so d.after.clock d.says fits.said))

    -- ---- a CREATE

    module _ (v : Turn) (uncut : v.cut ≡ false) (create : is_create v.input ≡ true) (k : NodeState) (may : MayTurn t.places f v k) (now : AllFly Course f.net) (once : OnceBetween f) where
      abbrev d_create : TurnDraft
      d_create = draft_of (place_at t.places v.node) k v.input

      leaves : LeavesBranches k d_create
      leaves = create_leaves (place_at t.places v.node) k v.input create

      untaken : v.took ≡ None
      untaken = create_takes_none f k v.node v.input v.took create may.comes

      even_create : length f.nodes ≡ length f.records
      even_create = (run_stands s lawful).0.even

      owed_create : IsOwed (place_at t.places v.node) k v.input v.wrote v.sent false
      owed_create = subst (IsOwed (place_at t.places v.node) k v.input v.wrote v.sent) uncut may.owed

      abbrev after_create : Facts
      after_create = facts_after t.places t.commands f (happenings.Turn v)

      pub create_less : delivery_of (happenings.Turn v) + all_worth g after_create ≤ all_worth g f
      create_less =
          let one = turned_low g t.places t.commands f even_create v k may.up uncut owed_create.1 (λ b y at works. ap (λ ls. item_at live_id ls b) (sym leaves.lives) ∙ at) in
          let two = nodes_now t.places t.commands f v k may.up uncut owed_create.1 (node_worth g) in
          let says : says_worth (ask_in f) d_create.says ≡ 0 = ap (says_worth (ask_in f)) leaves.silent in
          let lives : total (live_worth g) d_create.after.lives ≡ total (live_worth g) k.lives = ap (total (live_worth g)) leaves.lives in
          let rows : total (row_worth g) d_create.after.stored.durable.kept ≡ total (row_worth g) k.stored.durable.kept = ap (total (row_worth g)) leaves.kept in
          let net : net_worth (ask_in f) (taken f.net v.took) ≡ net_worth (ask_in f) f.net = ap (λ o. net_worth (ask_in f) (taken f.net o)) untaken in
          let none : delivery_of (happenings.Turn v) ≡ 0 = ap (λ o. if is_some o then 1 else 0) untaken in
          omega (arith, one, two, says, lives, rows, net, none)

      pub create_once : OnceBetween after_create
      create_once z w =
          let one = net_now t.places t.commands f v k may.up uncut owed_create.1 (message_between z w) in
          let two = nodes_now t.places t.commands f v k may.up uncut owed_create.1 (node_between z w g) in
          let says : says_between z w d_create.says ≡ 0 = ap (says_between z w) leaves.silent in
          let lives : total (live_between z w g) d_create.after.lives ≡ total (live_between z w g) k.lives = ap (total (live_between z w g)) leaves.lives in
          let rows : total (row_between z w g) d_create.after.stored.durable.kept ≡ total (row_between z w g) k.stored.durable.kept = ap (total (row_between z w g)) leaves.kept in
          let net : net_weight (message_between z w) (taken f.net v.took) ≡ net_weight (message_between z w) f.net = ap (λ o. net_weight (message_between z w) (taken f.net o)) untaken in
          let now_one : all_between z w g f ≤ 1 = once z w in
          omega (arith, one, two, says, lives, rows, net, now_one)

      pub create_flies : AllFly Course after_create.net
      unfolding turn_of
      create_flies = turn_fly Course t.places t.commands f v now (subst (AllByRecursion Course) (sym owed_create.1) (subst (λ ms. AllByRecursion Course (map (stamped d_create.after.clock) ms)) (sym leaves.silent) tt))

  -- ---- all of them

  module _ (calm : AllByRecursion (NoneComesIn (branches_by t.places t.commands t.trace c.root)) t.trace) where
    pub one_more : (hs : List Happening) (h : Happening) (rest : List Happening) → hs ++ h ∷ rest ≡ t.trace → (y : Happening) → h ≡ y → IsInCourse y → AllFly Course (f_at t hs).net → OnceBetween (f_at t hs)
        → (delivery_of y + all_worth g (f_at t (hs ++ h ∷ [])) ≤ all_worth g (f_at t hs)) × AllFly Course (f_at t (hs ++ h ∷ [])).net × OnceBetween (f_at t (hs ++ h ∷ []))
    one_more hs h rest is (happenings.Turn v) turn it now once =
        let may = subst (MayHappen t.places t.commands (f_at t hs)) turn (may_of t whole hs h rest is) in
        let on : f_at t (hs ++ h ∷ []) ≡ facts_after t.places t.commands (f_at t hs) (happenings.Turn v) = one_on t hs h ∙ ap (facts_after t.places t.commands (f_at t hs)) turn in
        subst (λ (x : Facts). (delivery_of (happenings.Turn v) + all_worth g x ≤ all_worth g (f_at t hs)) × AllFly Course x.net × OnceBetween x) (sym on) (elim it [
          | inl delivery ↦ (
            subst (λ o. (if is_some o then 1 else 0) + all_worth g (facts_after t.places t.commands (f_at t hs) (happenings.Turn v)) ≤ all_worth g (f_at t hs)) (sym delivery.2) (less hs h rest is calm v turn delivery.0 delivery.1 delivery.2 may.0 may.1 now once),
            flies_on hs h rest is calm v turn delivery.0 delivery.1 delivery.2 may.0 may.1 now once,
            once_on hs h rest is calm v turn delivery.0 delivery.1 delivery.2 may.0 may.1 now once,
          )
          | inr create ↦ (create_less hs h rest is v create.0 create.1 may.0 may.1 now once, create_flies hs h rest is v create.0 create.1 may.0 may.1 now once, create_once hs h rest is v create.0 create.1 may.0 may.1 now once)
        ])
    one_more hs h rest is (happenings.Begun n) turn it now once = absurd (elim it [ inl never ↦ never | inr never ↦ never ])
    one_more hs h rest is (happenings.Cut a b) turn it now once = absurd (elim it [ inl never ↦ never | inr never ↦ never ])
    one_more hs h rest is (happenings.Join a b) turn it now once = absurd (elim it [ inl never ↦ never | inr never ↦ never ])
    one_more hs h rest is (happenings.Lost n) turn it now once = absurd (elim it [ inl never ↦ never | inr never ↦ never ])
    one_more hs h rest is (happenings.Stopped n) turn it now once = absurd (elim it [ inl never ↦ never | inr never ↦ never ])
    one_more hs h rest is (happenings.Started n boot) turn it now once = absurd (elim it [ inl never ↦ never | inr never ↦ never ])

    -- at each moment
    pub now_at : (hs mid rest : List Happening) → hs ++ (mid ++ rest) ≡ t.trace → AllByRecursion IsInCourse mid → AllFly Course (f_at t hs).net → OnceBetween (f_at t hs) → AllFly Course (f_at t (hs ++ mid)).net × OnceBetween (f_at t (hs ++ mid))
    now_at hs [] rest is all now once = subst (λ xs. AllFly Course (f_at t xs).net × OnceBetween (f_at t xs)) (sym (append-nil hs)) (now, once)
    now_at hs (h ∷ mid) rest is all now once =
        let next = one_more hs h (mid ++ rest) is h refl all.0 now once in
        subst (λ xs. AllFly Course (f_at t xs).net × OnceBetween (f_at t xs)) (append_assoc hs (h ∷ []) mid) (now_at (hs ++ h ∷ []) mid rest (append_assoc hs (h ∷ []) (mid ++ rest) ∙ is) all.1 next.1 next.2)

    -- so they are few
    pub few_more : (hs mid : List Happening) → hs ++ mid ≡ t.trace → AllByRecursion IsInCourse mid → AllFly Course (f_at t hs).net → OnceBetween (f_at t hs) → deliveries_in mid ≤ all_worth g (f_at t hs)
    few_more hs [] is all now once = omega arith
    few_more hs (h ∷ mid) is all now once =
        let next = one_more hs h mid is h refl all.0 now once in
        let low = next.0 in
        let rest = few_more (hs ++ h ∷ []) mid (append_assoc hs (h ∷ []) mid ∙ is) all.1 next.1 next.2 in
        omega (arith, low, rest)
