-- A COMMIT that flows has few messages delivered: its call leaves no more than 45 for each branch of its tree.
use Rattle.std.proofs.Common.{◌≡◌, ℕ, ◌+◌, ◌*◌, ◌≤◌, ◌<◌, true, false, List, [], ◌∷◌, ◌++◌, length, map, unwrap_or, Option, Some, None, refl, sym, ap, subst, ◌∙◌, arith}
use Rattle.std.specs.List.{AllByRecursion}
use Rattle.std.proofs.lemmas.List.{append_assoc}
use Rattle.tran_ids.proofs.ListedLemmas.{item_is}
use Rattle.session_tree.specs.Tree.{count}
use Rattle.node_rules.specs.Data.{BranchId, Live, Place, Post, Input}
use Rattle.node_rules.specs.Data.inputs
use Rattle.node_rules.specs.declared.session.PendingCall.TheVariants as pending
use Rattle.node_rules.specs.Data.stmts
use Rattle.node_rules.specs.NodeState.{NodeState, Branch, TurnDraft, live_id, live_at, branch_at, work_at, with_work}
use Rattle.node_rules.specs.Prepare.{collecting, with_comment, without_read_keys, first_act, act_turn, collects, with_prepare_sent}
use Rattle.node_rules.specs.Sessions.{session_at, with_call}
use Rattle.node_rules.specs.Client.{commit_by, root_by, root_at, commit_at}
use Rattle.node_rules.specs.Turn.{draft_of, stamped, turn_of}
use Rattle.run_rules.specs.Births.{Born, births_of}
use Rattle.run_base_laws.specs.BirthLaws.{Began, LiveIs}
use Rattle.run_rules.specs.Data.{Took, Happening}
use Rattle.run_rules.specs.Data.happenings
use Rattle.run_rules.specs.Facts.{Facts, place_at, taken, facts_after}
use Rattle.run_base_laws.specs.InTurnLaws.{NeedsNoRollback}
use Rattle.run_rules.specs.Lawful.{Comes, IsOwed, MayTurn, History, IsLawfulRun}
use Rattle.run_base_laws.proofs.BirthRunLemmas.{nodes_name_the_born}
use Rattle.run_base_laws.proofs.EventsStandLemmas.{run_stands}
use Rattle.run_base_laws.proofs.OwnLemmas.{all_found}
use Rattle.run_base_laws.proofs.RootLemmas.{roots_are_of_sessions}
use Rattle.tree_laws.proofs.ForestLemmas as trees
use Rattle.tree_laws.proofs.ForestRunLemmas.{run_known}
use Rattle.tree_laws.proofs.PrefixLemmas.{f_at, one_on}
use Rattle.tree_laws.proofs.TimeLemmas.{Part, part_of, part_lawful, may_of, born_end}
use Rattle.run_claims.specs.Undisturbed.{Commit, IsInCourse}
use Rattle.commit_length_laws.specs.FewLaws.{Flows, delivery_of, deliveries_in, MessagesGoOnce, DeliveriesLessen, DeliveriesAreFew, DeliveriesStayBelow}
use Rattle.commit_length_laws.proofs.WorthLemmas.{says_worth, asked_worth, sent_worth, map_length}
use Rattle.commit_length_laws.proofs.ActLemmas.{act_cost, act_low}
use Rattle.commit_length_laws.proofs.SayLemmas.{SaidSo, WorksOn, act_said, act_works}
use Rattle.commit_length_laws.proofs.TurnLemmas.{first_cost}
use Rattle.commit_length_laws.proofs.FullLemmas.{count_is, few, asks_low}
use Rattle.commit_length_laws.proofs.FlightLemmas.{AllFly, net_now, nodes_now, turn_fly}
use Rattle.commit_length_laws.proofs.AllLemmas.{turned_low}
use Rattle.commit_length_laws.proofs.BetweenTurnLemmas.{Keeps, collect_keeps}
use Rattle.commit_length_laws.proofs.BetweenFirstLemmas.{first_between}
use Rattle.tran_ids.proofs.BranchLemmas.{same_from_equal}
use Rattle.commit_length_laws.proofs.TreeLemmas.{mid_all, Course}
use Rattle.commit_length_laws.proofs.CourseLemmas.{OnceBetween, now_at, one_more, few_more}
use Rattle.commit_length_laws.proofs.BeforeLemmas as before
use Rattle.tree_laws.proofs.AtPart.{at_part}
use Rattle.commit_length_laws.specs.Worth.{net_weight, live_worth, node_worth, ask_in, worth, net_worth, all_worth}
use Rattle.commit_length_laws.specs.Once.{message_between, node_between, all_between}

-- what is so of each item is so of those in front
all_front : {A : Type 0} (P : A → Type 0) (xs ys : List A) → AllByRecursion P (xs ++ ys) → AllByRecursion P xs
all_front P [] ys all = tt
all_front P (x ∷ xs) ys all = (all.0, all_front P xs ys all.1)

module _ (t : History) (whole : IsLawfulRun t) (c : Commit t.places t.commands t.trace) (flows : Flows t.places t.commands t.trace c) where
  open c use {before as hs, kept as k, call as v}
  open at_part t hs use {s, f, said, bs}

  part : Part t whole hs
  part = part_of t whole hs (happenings.Turn c.call) c.during c.is

  lawful : IsLawfulRun s
  lawful = part_lawful t whole hs part

  me : c.live.me ≡ c.root
  me = item_is live_id k.lives c.root c.live c.there

  found : live_at k c.live.me ≡ Some c.live
  found = subst (λ i. live_at k i ≡ Some c.live) (sym me) c.there

  abbrev x : Branch
  x = record { live = c.live; work = work_at k c.live.me }

  there : branch_at k c.live.me ≡ Some x
  there = ap (with_work k) found

  free : (work_at k c.live.me).going ≡ None
  free = (before.rests t whole c flows).1

  -- ---- the call

  abbrev p : Place
  p = place_at t.places v.node

  abbrev ask : BranchId → ℕ
  ask b = ask_in f b

  of_root : c.live.root ≡ c.root
  of_root =
      let it : LiveIs (Began bs) c.live = all_found (LiveIs (Began bs)) live_id k.lives c.root c.live (nodes_name_the_born s lawful v.node k c.up).0 c.there in
      let top : c.live.parent ≡ None = (roots_are_of_sessions s lawful v.node k c.up c.session c.root c.of).1 c.live c.there in
      let own : it.born.root ≡ it.born.me = (trees.stands_so bs said (run_known s lawful) it.born None it.began (it.is_parent ∙ top)).0 in
      sym it.is_root ∙ (own ∙ (it.is_me ∙ me))

  -- What the call leaves: it sends and keeps no more than its tree may lead to.
  record Called (d : TurnDraft) : Type 0 where
    pub low : (says_worth ask d.says + node_worth c.root d.after) + 5 ≤ 11 * count c.live + node_worth c.root k
    pub said_so : AllByRecursion (SaidSo c.root) d.says
    pub works : WorksOn k d.after
    pub keeps : (z w : BranchId) → Keeps z w c.root k 0 d

  goes : (session_at k.sessions c.session).code ≡ None → NeedsNoRollback k c.live
  goes none top =
      let its = (roots_are_of_sessions s lawful v.node k c.up c.session c.root c.of).0 in
      let number : c.live.me.session ≡ c.session = ap (λ (i : BranchId). i.session) me ∙ its in
      subst (λ n. (session_at k.sessions n).code ≡ None) (sym number) none

  collects_low : (comment : List ℕ) → (session_at k.sessions c.session).code ≡ None → Called (collects (record k { sessions = with_call k.sessions c.session pending.Commit }) (with_comment c.live comment) true)
  collects_low comment none =
      let j : NodeState = without_read_keys (record k { sessions = with_call k.sessions c.session pending.Commit }) c.live.me in
      let y : Live = collecting (with_comment c.live comment) true in
      let cost : act_cost c.root ask y (first_act y true) ≤ (6 + 4 * length y.edges) + asked_worth ask y.edges = first_cost c.root ask y true y.edges refl in
      let many : length (map with_prepare_sent c.live.edges) ≡ length c.live.edges = map_length with_prepare_sent c.live.edges in
      let alike : asked_worth ask (map with_prepare_sent c.live.edges) ≡ asked_worth ask c.live.edges = sent_worth ask c.live.edges in
      let all : says_worth ask (act_turn j y true (first_act y true)).says + node_worth c.root (act_turn j y true (first_act y true)).after + live_worth c.root c.live ≤ act_cost c.root ask y (first_act y true) + node_worth c.root k
      = act_low c.root ask j c.live y found true (first_act y true) in
      let room : (asked_worth ask c.live.edges + 4 * length c.live.edges) + 11 ≤ 11 * count c.live = asks_low s lawful v.node k c.up c.live found (goes none) free in
      record {
        low = omega (arith, cost, many, alike, all, room);
        said_so = subst (λ b. AllByRecursion (SaidSo b) (act_turn j y true (first_act y true)).says) me (act_said j y true (first_act y true));
        works = act_works j y (λ same. absurd cc) true (first_act y true);
        keeps = λ z w. collect_keeps z w c.root (record k { sessions = with_call k.sessions c.session pending.Commit }) c.live found (same_from_equal c.live.root c.root of_root) true comment;
      }

  commit_low : (comment : List ℕ) (o : Option ℕ) → (session_at k.sessions c.session).code ≡ o → Called (commit_by k c.session comment o (Some x))
  commit_low comment None is = subst (λ o. Called (commit_at k c.session comment x o)) (sym c.writer) (collects_low comment is)
  commit_low comment (Some n) is = record { low = (let some = count_is c.live in omega (arith, some)); said_so = tt; works = λ b y at works. at; keeps = λ z w. omega arith }

  rooted : root_at k c.session ≡ Some x
  rooted = ap (root_by k) c.of ∙ (ap (branch_at k) (sym me) ∙ there)

  call_low : Called (draft_of p k v.input)
  call_low =
      subst (λ (i : Input). Called (draft_of p k i)) (sym c.asks)
      (subst (λ o. Called (commit_by k c.session (unwrap_or c.comment []) (session_at k.sessions c.session).code o)) (sym rooted) (commit_low (unwrap_or c.comment []) (session_at k.sessions c.session).code refl))

  may : MayTurn t.places f v k
  may = (let it = may_of t whole hs (happenings.Turn v) c.during c.is in
      let both : Some it.0 ≡ Some k = sym it.1.up ∙ c.up in
      let same_node : it.0 ≡ k = cc in
      subst (MayTurn t.places f v) same_node it.1)

  owed : IsOwed p k v.input v.wrote v.sent false
  owed = subst (IsOwed p k v.input v.wrote v.sent) flows.whole may.owed

  untaken : v.took ≡ None
  untaken = by v.took refl (subst (λ i. Comes f k v.node i v.took) c.asks may.comes)
    where
      by : (o : Option Took) → v.took ≡ o → Comes f k v.node (inputs.Call c.session (Some (stmts.Commit c.comment))) v.took → v.took ≡ None
      by None is comes = is
      by (Some i) is comes = absurd (subst (Comes f k v.node (inputs.Call c.session (Some (stmts.Commit c.comment)))) is comes)

  abbrev after : Facts
  after = facts_after t.places t.commands f (happenings.Turn v)

  called_low : all_worth c.root after + 5 ≤ 11 * count c.live
  called_low =
      let even : length f.nodes ≡ length f.records = (run_stands s lawful).0.even in
      let one = turned_low c.root t.places t.commands f even v k c.up flows.whole owed.1 call_low.works in
      let two = nodes_now t.places t.commands f v k c.up flows.whole owed.1 (node_worth c.root) in
      let none : net_worth ask (taken f.net v.took) ≡ 0 = ap (λ o. net_worth ask (taken f.net o)) untaken ∙ before.net_none t whole c flows (λ from to kind. worth ask to kind) in
      let nodes = before.nodes_none t whole c flows in
      let cost = call_low.low in
      omega (arith, one, two, none, nodes, cost)

  called_once : OnceBetween t whole c after
  called_once z w =
      let one = net_now t.places t.commands f v k c.up flows.whole owed.1 (message_between z w) in
      let two = nodes_now t.places t.commands f v k c.up flows.whole owed.1 (node_between z w c.root) in
      let none : net_weight (message_between z w) (taken f.net v.took) ≡ 0 = ap (λ o. net_weight (message_between z w) (taken f.net o)) untaken ∙ before.net_none t whole c flows (message_between z w) in
      let nodes = first_between t whole c flows z w in
      let cost = call_low.keeps z w in
      omega (arith, one, two, none, nodes, cost)

  root_in : (x : Born) × Began (births_of t) x × (x.me ≡ c.root) × (x.root ≡ c.root)
  root_in =
      let it : LiveIs (Began bs) c.live = all_found (LiveIs (Began bs)) live_id k.lives c.root c.live (nodes_name_the_born s lawful v.node k c.up).0 c.there in
      let top : c.live.parent ≡ None = (roots_are_of_sessions s lawful v.node k c.up c.session c.root c.of).1 c.live c.there in
      let own : it.born.root ≡ it.born.me = (trees.stands_so bs said (run_known s lawful) it.born None it.began (it.is_parent ∙ top)).0 in
      (it.born, born_end t whole hs part it.born it.began, (it.is_me ∙ me), (own ∙ (it.is_me ∙ me)))

  stamped_so : (clock : ℕ) (ms : List Post) → AllByRecursion (SaidSo c.root) ms → AllByRecursion (Course t whole c) (map (stamped clock) ms)
  stamped_so clock [] all = tt
  stamped_so clock (y ∷ ys) all = ((all.0.1, (root_in.0, root_in.1, (root_in.2 ∙ sym all.0.0), root_in.3)), stamped_so clock ys all.1)

  called_fly : AllFly (Course t whole c) after.net
  unfolding turn_of
  called_fly = turn_fly (Course t whole c) t.places t.commands f v (before.none_fly t whole c flows) (subst (AllByRecursion (Course t whole c)) (sym owed.1) (stamped_so (draft_of p k v.input).after.clock (draft_of p k v.input).says call_low.said_so))

  -- ---- from the call on

  abbrev called : List Happening
  called = hs ++ happenings.Turn v ∷ []

  on : f_at t called ≡ after
  on = one_on t hs (happenings.Turn v)

  start_fly : AllFly (Course t whole c) (f_at t called).net
  start_fly = subst (λ (g : Facts). AllFly (Course t whole c) g.net) (sym on) called_fly

  start_once : OnceBetween t whole c (f_at t called)
  start_once = subst (OnceBetween t whole c) (sym on) called_once

  module _ (mid rest : List Happening) (is : mid ++ rest ≡ c.during) where
    all_is : called ++ (mid ++ rest) ≡ t.trace
    all_is = append_assoc hs (happenings.Turn v ∷ []) (mid ++ rest) ∙ (ap (λ xs. hs ++ happenings.Turn v ∷ xs) is ∙ c.is)

    course : AllByRecursion IsInCourse (mid ++ rest)
    course = subst (AllByRecursion IsInCourse) (sym is) flows.course

    now : AllFly (Course t whole c) (f_at t (called ++ mid)).net × OnceBetween t whole c (f_at t (called ++ mid))
    now = now_at t whole c flows.calm called mid rest all_is (all_front IsInCourse mid rest course) start_fly start_once

    -- between two branches there is one of each message at most
    pub once_at : (z w : BranchId) → all_between z w c.root (f_at t (hs ++ happenings.Turn v ∷ mid)) ≤ 1
    once_at = subst (λ xs. OnceBetween t whole c (f_at t xs)) (append_assoc hs (happenings.Turn v ∷ []) mid) now.1

  -- and a delivery is worth more than it leads to
  pub lessens_at : (mid : List Happening) (h : Happening) (rest : List Happening) → mid ++ h ∷ rest ≡ c.during
      → delivery_of h + all_worth c.root (f_at t (hs ++ happenings.Turn v ∷ (mid ++ h ∷ []))) ≤ all_worth c.root (f_at t (hs ++ happenings.Turn v ∷ mid))
  lessens_at mid h rest is =
      let before = now mid (h ∷ rest) is in
      let on_at : (called ++ mid) ++ h ∷ rest ≡ t.trace = append_assoc called mid (h ∷ rest) ∙ all_is mid (h ∷ rest) is in
      let less = (one_more t whole c flows.calm (called ++ mid) h rest on_at h refl (mid_all IsInCourse mid h rest (course mid (h ∷ rest) is)) before.0 before.1).0 in
      let one : called ++ mid ≡ hs ++ happenings.Turn v ∷ mid = append_assoc hs (happenings.Turn v ∷ []) mid in
      let two : (called ++ mid) ++ h ∷ [] ≡ hs ++ happenings.Turn v ∷ (mid ++ h ∷ []) = append_assoc called mid (h ∷ []) ∙ append_assoc hs (happenings.Turn v ∷ []) (mid ++ h ∷ []) in
      let left : all_worth c.root (f_at t ((called ++ mid) ++ h ∷ [])) ≡ all_worth c.root (f_at t (hs ++ happenings.Turn v ∷ (mid ++ h ∷ []))) = ap (λ xs. all_worth c.root (f_at t xs)) two in
      let right : all_worth c.root (f_at t (called ++ mid)) ≡ all_worth c.root (f_at t (hs ++ happenings.Turn v ∷ mid)) = ap (λ xs. all_worth c.root (f_at t xs)) one in
      omega (arith, less, left, right)

  -- so few are delivered
  pub few_deliveries : deliveries_in c.during + 5 ≤ 11 * count c.live
  few_deliveries =
      let is : called ++ c.during ≡ t.trace = append_assoc hs (happenings.Turn v ∷ []) c.during ∙ c.is in
      let more : deliveries_in c.during ≤ all_worth c.root (f_at t called) = few_more t whole c flows.calm called c.during is flows.course start_fly start_once in
      let same_worth : all_worth c.root (f_at t called) ≡ all_worth c.root after = ap (λ (g : Facts). all_worth c.root g) on in
      let low = called_low in
      omega (arith, more, same_worth, low)

  -- fewer than a command may have
  pub few_below : deliveries_in c.during < 4096
  few_below =
      let all = few_deliveries in
      let branches : count c.live ≤ 256 = few s lawful v.node k c.up c.root c.live c.there in
      omega (arith, all, branches)

pub messages_go_once : MessagesGoOnce
messages_go_once t whole c flows mid rest is = once_at t whole c flows mid rest is

pub deliveries_lessen : DeliveriesLessen
deliveries_lessen t whole c flows mid h rest is = lessens_at t whole c flows mid h rest is

pub deliveries_are_few : DeliveriesAreFew
deliveries_are_few t whole c flows = few_deliveries t whole c flows

pub deliveries_stay_below : DeliveriesStayBelow
deliveries_stay_below t whole c flows = (let low = few_below t whole c flows in let is : deliveries_in c.during < 4096 = omega (arith, low) in is)
