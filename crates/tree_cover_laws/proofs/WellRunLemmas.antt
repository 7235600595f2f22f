-- In every lawful run refusals of gone branches go up to the root.
use Rattle.std.proofs.Common.{◌≡◌, ◌≢◌, ℕ, ◌≤◌, Bool, true, false, List, [], ◌∷◌, ◌++◌, map, Option, Some, None, inl, inr, refl, sym, ap, subst, ◌∙◌, arith}
use Rattle.std.specs.Prelude.{IfSome}
use Rattle.std.specs.List.{AllByRecursion}
use Rattle.tran_ids.proofs.ListedLemmas.{item_is}
use Rattle.node_rules.specs.Data.{Answer, BranchId, Kind, Live, Msg, Post, Place, RedoRecord}
use Rattle.node_rules.specs.Data.kinds
use Rattle.node_rules.specs.declared.work.Work.{Work}
use Rattle.node_rules.specs.Words.{numbered, item_at}
use Rattle.node_rules.specs.Inputs.{Came}
use Rattle.node_rules.specs.NodeState.{NodeState, live_id, live_at}
use Rattle.node_rules.specs.Calls.{is_gone}
use Rattle.node_rules.specs.Sessions.{session_at}
use Rattle.node_rules.specs.Turn.{turn_of, start_of, heard}
use Rattle.node_rules.specs.LiveBranches.{EachLive}
use Rattle.node_rules.proofs.LiveLemmas.{each_same, none_live, branch_parts}
use Rattle.agreement.specs.Events.{Event, exit}
use Rattle.run_rules.specs.Births.{Born, births_after}
use Rattle.run_rules.specs.Data.{Packet, Turn, Happening, Command}
use Rattle.run_rules.specs.Data.happenings
use Rattle.run_rules.specs.Facts.{Facts, first_facts, node_at, kept_after, facts_after, facts_of}
use Rattle.run_base_laws.specs.InTurnLaws.{post_of, packet_post, said_in, newest_reply, NeedsNoRollback}
use Rattle.run_rules.specs.Lawful.{IsPlace, MayTurn, MayHappen, IsOwed, IsLawful, History, IsLawfulRun, facts_at}
use Rattle.run_base_laws.specs.RunEvents.{events_after}
use Rattle.run_base_laws.proofs.BirthRunLemmas.{StandBorn, stand_born_on, stand_born_first}
use Rattle.run_base_laws.proofs.BirthsStandLemmas.{came_so}
use Rattle.run_base_laws.proofs.InTurnRunLemmas as calls
use Rattle.run_base_laws.proofs.InTurnRunLemmas.{CallsStand, heard_calls, calls_stand_on, first_calls}
use Rattle.run_rules.proofs.ListLemmas.{all_weaker}
use Rattle.run_base_laws.proofs.OwnLemmas.{all_found}
use Rattle.run_base_laws.proofs.RestLemmas.{live_root}
use Rattle.run_base_laws.proofs.RestRunLemmas.{NodeRests, heard_rests, RootsStand, roots_stand_on, first_rests}
use Rattle.run_base_laws.proofs.SaidPostLemmas.{posts_back, posts_of}
use Rattle.run_base_laws.proofs.OneTurn.{one_turn}
use Rattle.tree_laws.proofs.EachNodeLemmas.{EachNode, turn_says, turn_nodes, says_on, nodes_on, nodes_first}
use Rattle.node_rules.proofs.HeardLemmas.{sessions_heard}
use Rattle.tree_laws.proofs.GoOnLemmas.{goes_before}
use Rattle.tree_cover_laws.specs.GoneLaws.{ToldWell, HoldsWell, CallsWell, BranchesHoldWell, CallsFollowAnswers}
use Rattle.tree_cover_laws.proofs.WellLemmas.{QuietOf, well_low, well_split, held_more}
use Rattle.tree_cover_laws.proofs.WellStepLemmas.{wells_on}
use Rattle.tree_laws.proofs.AnswerRunLemmas.{lives_heard as heard_lives}

-- ---- messages that came

-- a Reply that is no refusal of a gone branch was told
abbrev ReplyTold : List Post → BranchId → Kind → Type 0
ReplyTold said from (kinds.Reply call wt count a) = is_gone a ≡ false → ToldWell said from call wt
ReplyTold said from _ = Unit {0}

told_first : (ms : List Post) (from to : BranchId) (kind : Kind) → ReplyTold (record { from = from; to = to; kind = kind } ∷ ms) from kind
told_first ms from to (kinds.Reply call wt count a) = λ well. inl (refl, (refl, refl, well))
told_first ms from to _ = tt

told_later : (m : Post) (ms : List Post) (from : BranchId) (kind : Kind) → ReplyTold ms from kind → ReplyTold (m ∷ ms) from kind
told_later m ms from (kinds.Reply call wt count a) is = λ well. inr (is well)
told_later m ms from _ is = tt

-- each that was sent
replies_told : (xs : List Packet) → AllByRecursion (λ x. ReplyTold (map packet_post xs) x.msg.from x.msg.kind) xs
replies_told [] = tt
replies_told (x ∷ xs) = (told_first (map packet_post xs) x.msg.from x.msg.to x.msg.kind, all_weaker _ _ (λ y old. told_later (packet_post x) (map packet_post xs) y.msg.from y.msg.kind old) xs (replies_told xs))

-- ---- what stands

abbrev pub WellOf : List Post → NodeState → Live → Work → Type 0
WellOf said k l w = HoldsWell said (NeedsNoRollback k l) l.me l.edges w

-- of a node's live branches
abbrev pub NodeWell : List Post → NodeState → Type 0
NodeWell said k = EachLive (WellOf said k) k.lives k.works

-- So it is everywhere.
pub record WellStand (f : Facts) : Type 0 where
  pub calls : CallsWell (said_in f)
  pub nodes : EachNode NodeWell f

-- messages without a Reply of a branch leave it so
silent_well : (said says : List Post) (G : Type 0) (l : Live) (w : Work) → newest_reply says l.me ≡ 0 → HoldsWell said G l.me l.edges w → HoldsWell (said ++ says) G l.me l.edges w
silent_well said says G l w none is = record {
  held = held_more said says G l.me l.edges w is;
  kept = λ gone v tells. elim (well_split said says l.me w.came.last_call v tells) [
    | inl old ↦ is.kept gone v old
    | inr new ↦ (let low : w.came.last_call ≤ newest_reply says l.me = well_low says l.me w.came.last_call v new in
        let last : w.came.last_call ≡ 0 = omega (arith, low, none) in
        let unanswered = is.first last in
        let some = gone.1 in
        absurd (cc (some, unanswered)))
  ];
  first = is.first;
}

start_well : (ms : List Post) (zs : List RedoRecord) → NodeWell ms (start_of zs)
unfolding start_of
start_well ms zs = none_live _

module _ (places : List Place) (asked : List Command) (each : (n : ℕ) (p : Place) → numbered places n ≡ Some p → IsPlace places n p) where
  module _ (f : Facts) (t : List Event) (bs : List Born) (stand : StandBorn places asked each f t bs) (roots : RootsStand places asked each f) (turns : CallsStand f) (now : WellStand f) where
    module _ (u : Turn) (k : NodeState) (may : MayTurn places f u k) where
      open one_turn places asked f u k use {n, p, d, said}

      abbrev more : List Post
      more = said ++ d.says

      abbrev May : BranchId → Type 0
      May = calls.May places asked each f t bs stand roots turns u k may

      rests : NodeRests k
      rests = calls.rests places asked each f t bs stand roots turns u k may

      -- live roots are the transactions of their sessions
      rooted : (from to : BranchId) (kind : Kind) → Came u.input from to kind → (l : Live) → live_at (heard k u.input) l.me ≡ Some l → l.parent ≡ None → (session_at (heard k u.input).sessions l.me.session).root ≡ Some l.me
      rooted from to kind came l live none =
          let its : live_at k l.me ≡ Some l = subst (λ ls. item_at live_id ls l.me ≡ Some l) (heard_lives k u.input) live in
          subst (λ ss. (session_at ss l.me.session).root ≡ Some l.me) (sym (sessions_heard k u.input)) (live_root k rests.1 l.me l its none).root

      olds : NodeWell said k
      olds = subst (λ o. IfSome o (NodeWell said)) may.up (now.nodes n)

      welled : (from to : BranchId) (call : ℕ) (wt : Option ℕ) (count : ℕ) (a : Answer) → Came u.input from to (kinds.Reply call wt count a) → is_gone a ≡ false → ToldWell said from call wt
      welled from to call wt count a came = came_so (λ x y kind. ReplyTold said x kind) f (replies_told f.net.packets) k u.node u.input u.took may.comes from to (kinds.Reply call wt count a) came

      before : EachLive (λ l w. HoldsWell said (l.parent ≡ None → May l.me) l.me l.edges w) k.lives k.works
      before = each_same (WellOf said k) _ k.lives k.works olds (λ y v live any is. record { held = λ goes. is.held (goes_before places asked each f t bs stand roots turns u k may y.me y live goes); kept = is.kept; first = is.first })

      done : EachLive (λ l w. HoldsWell more (l.parent ≡ None → May l.me) l.me l.edges w) d.after.lives d.after.works × CallsWell more × ((b : BranchId) → item_at live_id d.after.lives b ≡ None → QuietOf d.says b)
      done =
          wells_on _ _ May (calls.Here places asked each f t bs stand roots turns u k may) u.input said (calls.received places asked each f t bs stand roots turns u k may) welled p (λ b is. is)
          (calls.step places asked each f t bs stand roots turns u k may) (calls.granted places asked each f t bs stand roots turns u k may) (heard_rests k u.input rests).0 (calls.news places asked each f t bs stand roots turns u k may)
          rooted (calls.begun places asked each f t bs stand roots turns u k may) now.calls (heard_calls _ k u.input before)

      after : NodeWell more d.after
      after = each_same _ (WellOf more d.after) d.after.lives d.after.works done.0 (λ y v live any is. record { held = λ goes. is.held (λ none. (y, live, none, goes none)); kept = is.kept; first = is.first })

      others : (m : ℕ) → m ≢ n → (j : NodeState) → node_at f m ≡ Some j → NodeWell said j → NodeWell more j
      others m other j up old =
          each_same (WellOf said j) (WellOf more j) j.lives j.works old
          (λ y v live any is. silent_well said d.says (NeedsNoRollback j y) y v ((calls.left places asked each f t bs stand roots turns u k may).1.1 y.me (λ here. other (calls.elsewhere_is places asked each f t bs stand roots turns u k may m j up y.me y live here))).replies is)

      -- who answers so in it is live after it
      turn_tells : (cut : Bool) → u.cut ≡ cut → IsOwed p k u.input u.wrote u.sent cut → (b : BranchId) (number : ℕ) (v : Option ℕ) → ToldWell (map post_of u.sent) b number v → exit (events_after places asked f (happenings.Turn u) t) b ≡ None
      unfolding turn_of
      turn_tells true cut owed b number v tells = absurd (subst (λ (ms : List Msg). ToldWell (map post_of ms) b number v) owed.1 tells)
      turn_tells false cut owed b number v tells = by (item_at live_id d.after.lives b) refl
        where
          new : ToldWell d.says b number v
          new = subst (λ xs. ToldWell xs b number v) (ap (λ xs. map post_of xs) owed.1 ∙ posts_back d.after.clock d.says) tells

          all : AllByRecursion (λ l. exit (events_after places asked f (happenings.Turn u) t) l.me ≡ None) d.after.lives
          all =
              subst (λ o. IfSome o (λ x. AllByRecursion (λ l. exit (events_after places asked f (happenings.Turn u) t) l.me ≡ None) x.lives)) (calls.here_after places asked each f t bs stand roots turns u k may ∙ ap (λ c. kept_after c (Some (turn_of p k u.input))) cut)
              ((stand_born_on places asked each f t bs (happenings.Turn u) stand (k, may)).0.1.lives u.node)

          by : (o : Option Live) → item_at live_id d.after.lives b ≡ o → exit (events_after places asked f (happenings.Turn u) t) b ≡ None
          by None none = absurd (done.2 b none number v new)
          by (Some l) at =
              subst (λ c. exit (events_after places asked f (happenings.Turn u) t) c ≡ None) (item_is live_id d.after.lives b l at)
              (all_found (λ (y : Live). exit (events_after places asked f (happenings.Turn u) t) y.me ≡ None) live_id d.after.lives b l all at)

    -- ---- every happening

    pub tells_live : (h : Happening) → MayHappen places asked f h → (b : BranchId) (number : ℕ) (v : Option ℕ) → ToldWell (posts_of h) b number v → exit (events_after places asked f h t) b ≡ None
    tells_live (happenings.Turn u) may b number v tells = turn_tells u may.0 may.1 u.cut refl may.1.owed b number v tells
    tells_live (happenings.Stopped m) may b number v tells = absurd tells
    tells_live (happenings.Started m boot) may b number v tells = absurd tells
    tells_live (happenings.Begun c) may b number v tells = absurd tells
    tells_live (happenings.Cut x y) may b number v tells = absurd tells
    tells_live (happenings.Join x y) may b number v tells = absurd tells
    tells_live (happenings.Lost m) may b number v tells = absurd tells

    pub well_on : (h : Happening) → MayHappen places asked f h → WellStand (facts_after places asked f h)
    well_on h may = record {
      calls = says_on places asked f CallsWell now.calls (λ u k may. turn_says places asked f stand.0.0.even u k may CallsWell (λ down. now.calls) (λ up. (done u k may).1)) h may;
      nodes = nodes_on places asked f NodeWell start_well now.nodes (λ u k may. turn_nodes places asked f stand.0.0.even u k may NodeWell now.nodes (after u k may) (others u k may)) h may;
    }

  -- ---- every run

  first_well : WellStand (first_facts places)
  first_well = record { calls = λ p c n some low. absurd (omega (arith, some, low)); nodes = nodes_first NodeWell start_well places }

  well_keep : (f : Facts) (hs : List Happening) (t : List Event) (bs : List Born) → StandBorn places asked each f t bs → RootsStand places asked each f → CallsStand f → WellStand f → IsLawful places asked f hs → WellStand (facts_of places asked f hs)
  unfolding facts_of IsLawful
  well_keep f [] t bs stand roots turns now lawful = now
  well_keep f (h ∷ hs) t bs stand roots turns now lawful =
      well_keep (facts_after places asked f h) hs (events_after places asked f h t) (births_after places f h bs) (stand_born_on places asked each f t bs h stand lawful.0)
      (roots_stand_on places asked each f t bs stand roots h lawful.0) (calls_stand_on places asked each f t bs stand roots turns h lawful.0) (well_on f t bs stand roots turns now h lawful.0) lawful.1

-- at the end of every run
pub run_well : (t : History) → IsLawfulRun t → WellStand (facts_at t)
run_well t lawful =
    well_keep t.places t.commands t.of_a_script.each (first_facts t.places) t.trace [] [] (stand_born_first t.places t.commands t.of_a_script.each)
    (first_rests t.places t.commands t.of_a_script.each) (first_calls t.places t.commands t.of_a_script.each) (first_well t.places t.commands t.of_a_script.each) lawful

pub calls_follow_answers : CallsFollowAnswers
calls_follow_answers t lawful = (run_well t lawful).calls

pub branches_hold_well : BranchesHoldWell
branches_hold_well t lawful n k up x found =
    let parts = branch_parts k x.live.me x found in
    let now : NodeWell (said_in (facts_at t)) k = subst (λ o. IfSome o (NodeWell (said_in (facts_at t)))) up ((run_well t lawful).nodes n) in
    subst (WellOf (said_in (facts_at t)) k x.live) (sym parts.1) (now.each x.live.me x.live parts.0)
