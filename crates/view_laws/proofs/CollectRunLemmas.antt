-- In every lawful run a live branch has the root that is told of it, the advice of the last Exec that it took, and from its collect
-- on the comment of the COMMIT of its transaction.
use Rattle.std.proofs.Common.{◌≡◌, ℕ, Bool, true, false, if◌then◌else◌, List, [], ◌∷◌, ◌++◌, map, Option, Some, None, inl, inr, refl, sym, ap, subst, ◌∙◌}
use Rattle.std.specs.List.{AllByRecursion}
use Rattle.std.proofs.lemmas.Bool.{cases_eq}
use Rattle.tran_ids.proofs.ListedLemmas.{item_is}
use Rattle.tran_ids.proofs.NumberedLemmas.{set_or_before}
use Rattle.node_rules.specs.Data.{BranchId, Kind, Live, Msg, Post}
use Rattle.node_rules.specs.Data.kinds
use Rattle.node_rules.specs.Calls.{goes}
use Rattle.node_rules.specs.NodeState.{NodeState, live_at, live_id}
use Rattle.node_rules.specs.Turn.{stamped, start_of, turn_of}
use Rattle.run_rules.specs.Births.{Born, born_at, born_id, births_of}
use Rattle.run_rules.specs.Branches.{Dropped, Seen, Trail, is_live_at, seen_at, seen_id}
use Rattle.run_rules.specs.Data.{Happening, Turn}
use Rattle.run_rules.specs.Data.happenings
use Rattle.run_rules.specs.Facts.{Facts, facts_after, facts_of, flat, kept_after, node_at, with_boot}
use Rattle.run_rules.specs.Lawful.{History, IsLawfulRun, IsOwed, facts_at}
use Rattle.run_rules.specs.Trail.{stopped_by, trail_after, trail_of}
use Rattle.run_rules.proofs.ListLemmas.{all_map, all_weaker}
use Rattle.run_base_laws.specs.BirthLaws.{Began, GoesSo, LiveIs, StandsBelow}
use Rattle.run_base_laws.specs.InTurnLaws.{packet_post, post_of, said_in}
use Rattle.run_base_laws.proofs.BirthRunLemmas.{births_are_trees, messages_are_of_neighbors}
use Rattle.run_base_laws.proofs.LawfulLemmas.{serves}
use Rattle.run_base_laws.proofs.OwnLemmas.{all_found}
use Rattle.run_base_laws.proofs.SaidLemmas.{sent_after}
use Rattle.run_base_laws.proofs.SaidPostLemmas.{said_after}
use Rattle.tree_laws.proofs.AtTurn.{at_turn}
use Rattle.tree_laws.proofs.PrefixLemmas.{f_at, one_on, so_far}
use Rattle.tree_laws.proofs.TimeLemmas.{Part, keep_on}
use Rattle.tree_trail_laws.proofs.AtTrail.{at_trail}
use Rattle.tree_trail_laws.proofs.ChildTurnLemmas as kids
use Rattle.tree_trail_laws.proofs.ChildTurnLemmas.{all_behind}
use Rattle.tree_trail_laws.proofs.LowerRunLemmas.{stop_still}
use Rattle.tree_trail_laws.proofs.MomentLemmas.{tr_at}
use Rattle.tree_trail_laws.proofs.SeenLemmas.{item_mapped, seen_turned, stopped_me}
use Rattle.tree_trail_laws.proofs.StartLemmas.{none_made, started_none}
use Rattle.view_laws.specs.GivenColumns.{Given, given_after}
use Rattle.view_laws.proofs.CarryLemmas.{CarriesSo, CarrySo, carry_on}
use Rattle.view_laws.proofs.GivenLemmas.{g_at, unseen_gives}
use Rattle.view_laws.proofs.CollectLemmas.{IsPlanned, LiveGot, PrepareGot, Gives, GivesAt, gives_at, prepare_on, planned_after}
use Rattle.view_laws.proofs.CollectBranchLemmas as branches

module _ (t : History) (whole : IsLawfulRun t) where
  module _ (hs : List Happening) (u : Turn) (rest : List Happening) (is : hs ++ happenings.Turn u ∷ rest ≡ t.trace) (now : GivesAt t whole hs) where
    open at_turn t whole hs u rest is use {after as hs1, part as part0, s as s0, s_after as s1, lawful as lawful0, lawful_after as lawful1, f as f0, g as f1, may, k, heard_k as k1, p, d, bs as bs0}
    open at_trail t hs u use {tr as tr0, tr_on as tr1, begun_tr as trb}

    abbrev g1 : Given
    g1 = branches.g1 t whole hs u rest is now

    abbrev bs1 : List Born
    bs1 = births_of s1

    module _ (cut : u.cut ≡ false) where
      trees1 : (x : Born) (from : BranchId) → Began bs1 x → x.parent ≡ Some from → (y : Born) × Began bs1 y × (y.me ≡ from) × (y.root ≡ x.root)
      trees1 x from began parent =
          let stands : StandsBelow (Began bs1) x x.parent = all_found (λ x. StandsBelow (Began bs1) x x.parent) born_id bs1 x.me x (births_are_trees s1 lawful1) began in
          let its : StandsBelow (Began bs1) x (Some from) = subst (StandsBelow (Began bs1) x) parent stands in
          (its.0, its.1, its.2, its.3)

      one_sent : (from to : BranchId) (kind : Kind) → CarriesSo d.after from kind → GoesSo (Began bs1) from to kind → PrepareGot bs1 tr1 g1 to kind
      one_sent from to (kinds.Prepare site_below c) carries goes =
          let l : Live = carries.live in
          let l_me : l.me ≡ from = item_is live_id d.after.lives from l carries.at in
          let live : live_at d.after l.me ≡ Some l = subst (λ b. live_at d.after b ≡ Some l) (sym l_me) carries.at in
          let planned : IsPlanned tr1 g1 l.root l.comment = branches.comment_so t whole hs u rest is now cut l live carries.busy in
          let above = trees1 goes.0 from goes.1 goes.3 in
          let born : LiveIs (Began bs1) l = branches.born1 t whole hs u rest is now cut l live in
          let one : born_at bs1 from ≡ Some born.born = subst (λ b. born_at bs1 b ≡ Some born.born) (born.is_me ∙ l_me) born.began in
          let two : born_at bs1 from ≡ Some above.0 = subst (λ b. born_at bs1 b ≡ Some above.0) above.2 above.1 in
          let same_one : born.born ≡ above.0 = (let both : Some born.born ≡ Some above.0 = sym one ∙ two in cc) in
          let root : l.root ≡ goes.0.root = sym born.is_root ∙ (ap (λ (y : Born). y.root) same_one ∙ above.3) in
          (goes.0, goes.1, goes.2, subst (IsPlanned tr1 g1 goes.0.root) carries.same (subst (λ r. IsPlanned tr1 g1 r l.comment) root planned))
      one_sent from to _ carries goes = tt

      all_sent : (posts : List Post) → AllByRecursion (λ x. CarriesSo d.after x.from x.kind) posts → AllByRecursion (λ (x : Post). GoesSo (Began bs1) x.from x.to x.kind) (map post_of (map (stamped d.after.clock) posts))
          → AllByRecursion (λ m. PrepareGot bs1 tr1 g1 m.to m.kind) (map (stamped d.after.clock) posts)
      all_sent [] carry go = tt
      all_sent (x ∷ posts) carry go = (one_sent x.from x.to x.kind carry.0 go.0, all_sent posts carry.1 go.1)

    -- ---- the turn

    goes1 : AllByRecursion (λ (x : Post). GoesSo (Began bs1) x.from x.to x.kind) (map post_of u.sent)
    goes1 =
        let all : AllByRecursion (λ (x : Post). GoesSo (Began bs1) x.from x.to x.kind) (said_in (facts_at s1)) = all_map (λ (x : Post). GoesSo (Began bs1) x.from x.to x.kind) packet_post (facts_at s1).net.packets (messages_are_of_neighbors s1 lawful1) in
        let says : said_in (facts_at s1) ≡ said_in f0 ++ map post_of u.sent = ap said_in (one_on t hs (happenings.Turn u)) ∙ said_after t.places t.commands f0 (happenings.Turn u) in
        all_behind (λ (x : Post). GoesSo (Began bs1) x.from x.to x.kind) (said_in f0) (map post_of u.sent) (subst (AllByRecursion (λ (x : Post). GoesSo (Began bs1) x.from x.to x.kind)) says all)

    sent_got : AllByRecursion (λ m. PrepareGot bs1 tr1 g1 m.to m.kind) u.sent
    unfolding turn_of
    sent_got = by u.cut refl
      where
        by : (cut : Bool) → u.cut ≡ cut → AllByRecursion (λ m. PrepareGot bs1 tr1 g1 m.to m.kind) u.sent
        by true cut = subst (AllByRecursion (λ m. PrepareGot bs1 tr1 g1 m.to m.kind)) (sym (subst (λ c. IsOwed p k u.input u.wrote u.sent c) cut may.1.owed).1) tt
        by false cut =
            let sent : u.sent ≡ map (stamped d.after.clock) d.says = (subst (λ c. IsOwed p k u.input u.wrote u.sent c) cut may.1.owed).1 in
            let carry : CarrySo d = carry_on p u.input (serves t.places f0 u k may.1).step in
            subst (AllByRecursion (λ m. PrepareGot bs1 tr1 g1 m.to m.kind)) (sym sent)
            (all_sent cut d.says carry (subst (λ ms. AllByRecursion (λ (x : Post). GoesSo (Began bs1) x.from x.to x.kind) (map post_of ms)) sent goes1))

    unseen_so : (b : BranchId) → seen_at tr1 b ≡ None → g1.advice b ≡ None
    unseen_so b none = unseen_gives tr0 b ((g_at t hs).advice b) u.input before ∙ now.unseen b before
      where
        before : seen_at tr0 b ≡ None
        before = by (seen_at tr0 b) refl
          where
            by : (o : Option Seen) → seen_at tr0 b ≡ o → o ≡ None
            by None gone = refl
            by (Some s) some = (let later = seen_turned t.places f0 tr0 u b s some in absurd (cc (later, none)))

    turn_gives : GivesAt t whole hs1
    turn_gives = gives_at t whole hs (happenings.Turn u) (record {
      lives = λ n j up l live. elim (cases_eq u.node n) [
        | inl here ↦ own u.cut refl j (subst (λ m. node_at f1 m ≡ Some j) (sym here) up) l live
        | inr other ↦ branches.else_got t whole hs u rest is now n j other up l live
      ];
      said = sent_after (λ m. PrepareGot bs1 tr1 g1 m.to m.kind) t.places t.commands f0 (happenings.Turn u) sent_got
          (all_weaker _ _ (λ x got. prepare_on t whole hs (happenings.Turn u) rest is x.msg.to x.msg.kind got) f0.net.packets now.said);
      unseen = unseen_so;
    })
      where
        own : (cut : Bool) → u.cut ≡ cut → (j : NodeState) → node_at f1 u.node ≡ Some j → (l : Live) → live_at j l.me ≡ Some l → LiveGot tr1 g1 l
        own true cut j there l live =
            let none : node_at f1 u.node ≡ None = kids.here_after t whole hs u rest is (branches.tells t whole hs u rest is now) ∙ ap (λ c. kept_after c (Some (turn_of p k u.input))) cut in absurd (cc (none, there))
        own false cut j there l live =
            let both : Some d.after ≡ Some j = sym (kids.after_up t whole hs u rest is (branches.tells t whole hs u rest is now) cut) ∙ there in
            let it : d.after ≡ j = cc in
            branches.own_got t whole hs u rest is now cut l (subst (λ i. live_at i l.me ≡ Some l) (sym it) live)

  -- ---- other happenings

  module _ (hs : List Happening) (h : Happening) (rest : List Happening) (is : hs ++ h ∷ rest ≡ t.trace) (now : GivesAt t whole hs) where
    -- the nodes that are up were so, and what is told of their branches is so
    same_gives : (g : Facts) (tr : Trail) (v : Given) → facts_after t.places t.commands (f_at t hs) h ≡ g → trail_after t.places (f_at t hs) (tr_at t hs) h ≡ tr → given_after t.places (f_at t hs) (tr_at t hs) h (g_at t hs) ≡ v
        → ((n : ℕ) (j : NodeState) → node_at g n ≡ Some j → (l : Live) → live_at j l.me ≡ Some l → node_at (f_at t hs) n ≡ Some j)
        → AllByRecursion (λ x. PrepareGot (births_of (so_far t (hs ++ h ∷ []))) (trail_after t.places (f_at t hs) (tr_at t hs) h) (given_after t.places (f_at t hs) (tr_at t hs) h (g_at t hs)) x.msg.to x.msg.kind) (facts_after t.places t.commands (f_at t hs) h).net.packets
        → ((b : BranchId) (s : Seen) → seen_at (tr_at t hs) b ≡ Some s → (y : Seen) × (seen_at tr b ≡ Some y) × (y.root ≡ s.root) × (y.parent ≡ s.parent)) → ((b : BranchId) → v.advice b ≡ (g_at t hs).advice b) → GivesAt t whole (hs ++ h ∷ [])
    same_gives g tr v facts trail given still said told advice =
        gives_at t whole hs h
        (subst (λ f. Gives (births_of (so_far t (hs ++ h ∷ []))) f (trail_after t.places (f_at t hs) (tr_at t hs) h) (given_after t.places (f_at t hs) (tr_at t hs) h (g_at t hs))) refl (record {
          lives = λ n j up l live. one n j (still n j (subst (λ f. node_at f n ≡ Some j) facts up) l live) l live;
          said = said;
          unseen = λ b none. ap (λ (w : Given). w.advice b) given ∙ (advice b ∙ now.unseen b (before b (subst (λ x. seen_at x b ≡ None) trail none)));
        }))
      where
        told_so : (b : BranchId) (s : Seen) → seen_at (tr_at t hs) b ≡ Some s → (y : Seen) × (seen_at (trail_after t.places (f_at t hs) (tr_at t hs) h) b ≡ Some y) × (y.root ≡ s.root) × (y.parent ≡ s.parent)
        told_so b s at = let it = told b s at in (it.0, subst (λ x. seen_at x b ≡ Some it.0) (sym trail) it.1, it.2, it.3)

        one : (n : ℕ) (j : NodeState) → node_at (f_at t hs) n ≡ Some j → (l : Live) → live_at j l.me ≡ Some l → LiveGot (trail_after t.places (f_at t hs) (tr_at t hs) h) (given_after t.places (f_at t hs) (tr_at t hs) h (g_at t hs)) l
        one n j up l live =
            let was : LiveGot (tr_at t hs) (g_at t hs) l = now.lives n j up l live in
            let it = told_so l.me was.told.0 was.told.1 in
            record {
              told = (it.0, it.1, it.2 ∙ was.told.2, it.3 ∙ was.told.3);
              advice = was.advice ∙ sym (ap (λ (w : Given). w.advice l.me) given ∙ advice l.me);
              top = was.top;
              comment = λ busy. planned_after t.places (f_at t hs) (tr_at t hs) (g_at t hs) h l.root l.comment (was.comment busy);
            }

        before : (b : BranchId) → seen_at tr b ≡ None → seen_at (tr_at t hs) b ≡ None
        before b none = by (seen_at (tr_at t hs) b) refl
          where
            by : (o : Option Seen) → seen_at (tr_at t hs) b ≡ o → o ≡ None
            by None gone = refl
            by (Some s) some = (let later = (told b s some).1 in absurd (cc (later, none)))

    old_said : AllByRecursion (λ x. PrepareGot (births_of (so_far t (hs ++ h ∷ []))) (trail_after t.places (f_at t hs) (tr_at t hs) h) (given_after t.places (f_at t hs) (tr_at t hs) h (g_at t hs)) x.msg.to x.msg.kind) (f_at t hs).net.packets
    old_said = all_weaker _ _ (λ x got. prepare_on t whole hs h rest is x.msg.to x.msg.kind got) (f_at t hs).net.packets now.said

  stopped_told : (n : ℕ) (s : Seen) → ((stopped_by n s).root ≡ s.root) × ((stopped_by n s).parent ≡ s.parent)
  stopped_told n s = by (is_live_at n s)
    where
      by : (q : Bool) → ((if q then record s { exit = Some Dropped } else s).root ≡ s.root) × ((if q then record s { exit = Some Dropped } else s).parent ≡ s.parent)
      by true = (refl, refl)
      by false = (refl, refl)

  abbrev PreparesSo : List Happening → Happening → Msg → Type 0
  PreparesSo hs h m = PrepareGot (births_of (so_far t (hs ++ h ∷ []))) (trail_after t.places (f_at t hs) (tr_at t hs) h) (given_after t.places (f_at t hs) (tr_at t hs) h (g_at t hs)) m.to m.kind

  gives_on : (hs : List Happening) (h : Happening) (rest : List Happening) → hs ++ h ∷ rest ≡ t.trace → GivesAt t whole hs → GivesAt t whole (hs ++ h ∷ [])
  unfolding facts_after trail_after start_of
  gives_on hs (happenings.Turn u) rest is now = turn_gives hs u rest is now
  gives_on hs (happenings.Stopped n) rest is now =
      same_gives hs (happenings.Stopped n) rest is now _ _ _ refl refl refl (λ m j up l live. stop_still t whole (f_at t hs) n m j up)
      (sent_after (PreparesSo hs (happenings.Stopped n)) t.places t.commands (f_at t hs) (happenings.Stopped n) tt (old_said hs (happenings.Stopped n) rest is now))
      (λ b s at. (let it = stopped_told n s in (stopped_by n s, item_mapped seen_id (stopped_by n) (stopped_me n) (tr_at t hs).seen b s at, it.0, it.1))) (λ b. refl)
  gives_on hs (happenings.Started n boot) rest is now =
      same_gives hs (happenings.Started n boot) rest is now _ _ _ refl refl refl
      (λ m j up l live. elim (set_or_before (f_at t hs).nodes n m (Some (start_of (with_boot (f_at t hs) n boot)))) [
        | inl before ↦ sym (ap flat before) ∙ up
        | inr new ↦ absurd (started_none (f_at t hs) n boot m j l new.1 up live)
      ])
      (sent_after (PreparesSo hs (happenings.Started n boot)) t.places t.commands (f_at t hs) (happenings.Started n boot) tt (old_said hs (happenings.Started n boot) rest is now))
      (λ b s at. (s, at, refl, refl)) (λ b. refl)
  gives_on hs (happenings.Begun c) rest is now =
      same_gives hs (happenings.Begun c) rest is now _ _ _ refl refl refl (λ m j up l live. up)
      (sent_after (PreparesSo hs (happenings.Begun c)) t.places t.commands (f_at t hs) (happenings.Begun c) tt (old_said hs (happenings.Begun c) rest is now)) (λ b s at. (s, at, refl, refl)) (λ b. refl)
  gives_on hs (happenings.Cut x y) rest is now =
      same_gives hs (happenings.Cut x y) rest is now _ _ _ refl refl refl (λ m j up l live. up)
      (sent_after (PreparesSo hs (happenings.Cut x y)) t.places t.commands (f_at t hs) (happenings.Cut x y) tt (old_said hs (happenings.Cut x y) rest is now)) (λ b s at. (s, at, refl, refl)) (λ b. refl)
  gives_on hs (happenings.Join x y) rest is now =
      same_gives hs (happenings.Join x y) rest is now _ _ _ refl refl refl (λ m j up l live. up)
      (sent_after (PreparesSo hs (happenings.Join x y)) t.places t.commands (f_at t hs) (happenings.Join x y) tt (old_said hs (happenings.Join x y) rest is now)) (λ b s at. (s, at, refl, refl)) (λ b. refl)
  gives_on hs (happenings.Lost x) rest is now =
      same_gives hs (happenings.Lost x) rest is now _ _ _ refl refl refl (λ m j up l live. up)
      (sent_after (PreparesSo hs (happenings.Lost x)) t.places t.commands (f_at t hs) (happenings.Lost x) tt (old_said hs (happenings.Lost x) rest is now)) (λ b s at. (s, at, refl, refl)) (λ b. refl)

  first_gives : GivesAt t whole []
  unfolding facts_of trail_of start_of
  first_gives = record { lives = λ n k up l live. absurd (none_made t.places n k l up live); said = tt; unseen = λ b none. refl }

  pub all_given : (hs : List Happening) → Part t whole hs → GivesAt t whole hs
  all_given hs part = keep_on t whole (GivesAt t whole) gives_on [] hs part first_gives
