-- A turn leaves what is told of live branches below roots as their nodes keep them.
use Rattle.std.proofs.Common.{◌≡◌, ◌≢◌, ℕ, ◌||◌, ◌&&◌, ◌⊎◌, not, Bool, true, false, if◌then◌else◌, List, [], ◌∷◌, ◌++◌, map, Option, Some, None, inl, inr, refl, sym, ap, subst, ◌∙◌}
use Rattle.std.specs.List.{AllByRecursion, list_any}
use Rattle.std.proofs.lemmas.Bool.{cases_eq}
use Rattle.tran_ids.proofs.BranchLemmas.{equal_from_same, same_from_equal}
use Rattle.tran_ids.proofs.ListedLemmas.{item_is}
use Rattle.reco.specs.declared.post.Post.{Post}
use Rattle.agreement.specs.Events.{Exit, Quiet, exit}
use Rattle.node_rules.specs.Data.{BranchId, Kind, Live, Msg, Input}
use Rattle.node_rules.specs.Data.inputs
use Rattle.node_rules.specs.Data.kinds
use Rattle.node_rules.specs.Data.phases
use Rattle.node_rules.specs.Words.{same, item_at}
use Rattle.node_rules.specs.Inputs.{Came}
use Rattle.node_rules.specs.NodeState.{NodeState, Branch, live_id, live_at, branch_at, work_at, with_work}
use Rattle.node_rules.specs.Turn.{turn_of, heard, draft_of, kind_turn, status_of}
use Rattle.run_rules.specs.Births.{births_of, born_at}
use Rattle.run_rules.specs.Branches.{Seen, Trail, is_among, seen_id, seen_at, newly_seen}
use Rattle.run_rules.specs.Data.{Took, Turn, Happening}
use Rattle.run_rules.specs.Data.happenings
use Rattle.run_rules.specs.Facts.{Facts, node_at, kept_after}
use Rattle.run_branch_laws.specs.HeardLaws.{QuietIs}
use Rattle.run_base_laws.specs.InTurnLaws.{post_of, packet_post, said_in}
use Rattle.run_rules.specs.Lawful.{MayHappen, Comes, History, IsLawfulRun, facts_at}
use Rattle.run_branch_laws.specs.PhaseLaws.{PhaseFits}
use Rattle.run_base_laws.specs.RunEvents.{with_record, events_of}
use Rattle.run_rules.specs.Trail.{voted_after, begins_collect, input_drops, recorded_exit, is_quiet, strength_at}
use Rattle.run_rules.proofs.AtNodeLemmas.{turn_elsewhere}
use Rattle.run_base_laws.proofs.EventsStandLemmas.{run_stands, nodes_are_as_events, ids_name_their_node}
use Rattle.run_branch_laws.proofs.FreezeRunLemmas.{asked_stand_still}
use Rattle.run_branch_laws.proofs.HeardStandLemmas.{quiets_are_gone}
use Rattle.run_base_laws.proofs.LaterLemmas.{turn_added, exit_later}
use Rattle.run_rules.proofs.ListLemmas.{all_map}
use Rattle.run_base_laws.proofs.LawfulLemmas.{serves}
use Rattle.run_base_laws.proofs.NodeLemmas.{kept_alone}
use Rattle.run_base_laws.proofs.OwnLemmas.{all_found}
use Rattle.run_branch_laws.proofs.PhaseLemmas.{phases_fit}
use Rattle.run_base_laws.proofs.RootLemmas.{SessionsFit, root_alone, sessions_keep}
use Rattle.run_base_laws.proofs.SaidPostLemmas.{said_after}
use Rattle.tree_laws.proofs.PrefixLemmas.{f_at, e_at, one_on, more_on}
use Rattle.tree_laws.proofs.TimeLemmas.{may_of}
use Rattle.tree_trail_laws.specs.ChildLaws.{IsTracedOf}
use Rattle.tree_trail_laws.specs.LowerLaws.{AreVoted, IsTracedLive}
use Rattle.tree_trail_laws.proofs.ChildTurnLemmas as kids
use Rattle.tree_trail_laws.proofs.ChildStepLemmas.{Grows, IsOpened}
use Rattle.tree_trail_laws.proofs.HeardTrailLemmas.{Heard, heard_so}
use Rattle.tree_trail_laws.proofs.LowerTurnLemmas.{turned_live, untold_voted, untold_begins, untold_drops, unrecorded, quiet_gone}
use Rattle.tree_trail_laws.proofs.MomentLemmas.{tr_at, trail_one_on}
use Rattle.tree_trail_laws.proofs.SeenLemmas.{begun, brings, turned, seen_begun, seen_turned}
use Rattle.tree_trail_laws.proofs.UntouchedLemmas.{stays_on}
use Rattle.tree_trail_laws.proofs.ChildRunLemmas.{tells_at}
use Rattle.tree_trail_laws.proofs.ChildTurnLemmas.{all_behind, Tells}
use Rattle.tree_laws.proofs.AtTurn.{at_turn}
use Rattle.tree_trail_laws.proofs.AtTrail.{at_trail}
use Rattle.tree_trail_laws.proofs.HeardNodeLemmas.{heard_live, heard_fits}

pub bool_cases : (q : Bool) → (P : Type 0) → (q ≡ true → P) → (q ≡ false → P) → P
bool_cases true P at_true at_false = at_true refl
bool_cases false P at_true at_false = at_false refl

-- a message came to it, or none did
to_it : (b : BranchId) (input : Input) → ((m : Msg) × (input ≡ inputs.Message m) × (m.to ≡ b)) ⊎ ((m : Msg) → input ≡ inputs.Message m → same m.to b ≡ false)
to_it b (inputs.Message m) =
    bool_cases (same m.to b) _ (λ here. inl (m, refl, equal_from_same m.to b here))
    (λ other. inr (λ x is. (let it : inputs.Message m ≡ inputs.Message x = is in let one : m ≡ x = cc in subst (λ (y : Msg). same y.to b ≡ false) one other)))
to_it b (inputs.Call n s) = inr (λ m is. absurd cc)
to_it b (inputs.GiveUp n) = inr (λ m is. absurd cc)
to_it b inputs.Reco = inr (λ m is. absurd cc)
to_it b inputs.Checkpoint = inr (λ m is. absurd cc)

module _ (t : History) (whole : IsLawfulRun t) where
  -- the live branches below roots are told
  abbrev pub TellsLives : Facts → Trail → Type 0
  TellsLives f tr = (n : ℕ) (k : NodeState) → node_at f n ≡ Some k → (l : Live) → live_at k l.me ≡ Some l → l.parent ≢ None → (s : Seen) × (seen_at tr l.me ≡ Some s) × IsTracedLive l s

  abbrev pub Lower : List Happening → Type 0
  Lower hs = TellsLives (f_at t hs) (tr_at t hs)

  module _ (hs : List Happening) (u : Turn) (rest : List Happening) (is : hs ++ happenings.Turn u ∷ rest ≡ t.trace) (now : Lower hs) where
    open at_turn t whole hs u rest is use {after as hs1, part as part0, s as s0, s_after as s1, lawful as lawful0, lawful_after as lawful1, f as f0, g as f1, k, p, d}
    open at_trail t hs u use {tr as tr0, tr_on as tr1}

    tells : Tells t whole hs
    tells = tells_at t whole hs part0

    abbrev pub may : MayHappen t.places t.commands f0 (happenings.Turn u)
    may = may_of t whole hs (happenings.Turn u) rest is

    -- ---- one that is live after the turn

    module _ (n : ℕ) (j : NodeState) (up : node_at f1 n ≡ Some j) (l : Live) (live : live_at j l.me ≡ Some l) (below : l.parent ≢ None) where
      no_exit : exit (events_of s1) l.me ≡ None
      no_exit = all_found (λ (y : Live). exit (events_of s1) y.me ≡ None) live_id j.lives l.me l (nodes_are_as_events s1 lawful1 n j (ap (λ f. node_at f n) (one_on t hs (happenings.Turn u)) ∙ up)).0 live

      exit_not : (o : Option Exit) → exit (with_record u (e_at t hs)) l.me ≡ o → o ≡ None
      exit_not None at = refl
      exit_not (Some x) at =
          let later : exit (events_of s1) l.me ≡ Some x = subst (λ e. exit e l.me ≡ Some x) (sym (more_on t hs (happenings.Turn u))) (exit_later l.me x (turn_added f0 f1 u (e_at t hs)) at) in
          let none = no_exit in
          absurd (cc (later, none))

      unwritten : recorded_exit l.me u.wrote ≡ None
      unwritten = unrecorded u.node (e_at t hs) l.me u.wrote (exit_not (exit (with_record u (e_at t hs)) l.me) refl)

      said_true : AllByRecursion (λ (x : Post). QuietIs (events_of s1) x.from x.kind) (map post_of u.sent)
      said_true =
          let all : AllByRecursion (λ (x : Post). QuietIs (events_of s1) x.from x.kind) (said_in (facts_at s1)) = all_map (λ (x : Post). QuietIs (events_of s1) x.from x.kind) packet_post (facts_at s1).net.packets (quiets_are_gone s1 lawful1) in
          let says : said_in (facts_at s1) ≡ said_in f0 ++ map post_of u.sent = ap said_in (one_on t hs (happenings.Turn u)) ∙ said_after t.places t.commands f0 (happenings.Turn u) in
          all_behind (λ (x : Post). QuietIs (events_of s1) x.from x.kind) (said_in f0) (map post_of u.sent) (subst (AllByRecursion (λ (x : Post). QuietIs (events_of s1) x.from x.kind)) says all)

      unquiet : list_any (is_quiet l.me) u.sent ≡ false
      unquiet = by (list_any (is_quiet l.me) u.sent) refl
        where
          by : (q : Bool) → list_any (is_quiet l.me) u.sent ≡ q → q ≡ false
          by true quiet = (let gone : exit (events_of s1) l.me ≡ Some Quiet = quiet_gone (events_of s1) l.me u.sent said_true quiet in let none = no_exit in absurd (cc (gone, none)))
          by false loud = refl

      told : IsTracedOf t.places tr1 l
      told = kids.told_at t whole hs u rest is tells n j up l live below

      -- what is told of it after the turn
      told_so : (s : Seen) → seen_at tr1 l.me ≡ Some s → s.exit ≡ None → (l.phase ≡ phases.Working → (s.collects ≡ false) × (s.voted ≡ [])) → (l.phase ≢ phases.Working → (s.collects ≡ true) × AreVoted s.voted l.edges)
          → (s : Seen) × (seen_at tr1 l.me ≡ Some s) × IsTracedLive l s
      told_so s at alive working collects =
          let both : Some told.0 ≡ Some s = sym told.1 ∙ at in
          let one : s ≡ told.0 = cc in
          (s, at, record { live = alive; parent = ap (λ (y : Seen). y.parent) one ∙ told.2; children = ap (λ (y : Seen). y.children) one ∙ told.3; read_at = ap (λ (y : Seen). y.read_at) one ∙ told.4; working = working; collects = collects })

      -- ---- one that was live before

      module _ (z : Live) (s : Seen) (me : s.me ≡ l.me) (at : seen_at tr0 l.me ≡ Some s) (was : IsTracedLive z s) (z_below : z.parent ≢ None) where
        abbrev t1 : Seen
        t1 = turned t.places f0 tr0 u s

        s_below : s.parent ≢ None
        s_below none = z_below (sym was.parent ∙ none)

        lives_on : input_drops u.node (brings t.places f0 tr0 u).answer s u.input ≡ false → t1.exit ≡ None
        lives_on drops =
            turned_live t.places f0 tr0 u s s_below was.live (subst (λ b. recorded_exit b u.wrote ≡ None) (sym me) unwritten) (subst (λ b. list_any (is_quiet b) u.sent ≡ false) (sym me) unquiet) drops

        -- nothing comes to it
        untouched : ((m : Msg) → u.input ≡ inputs.Message m → same m.to s.me ≡ false) → l ≡ z → (s : Seen) × (seen_at tr1 l.me ≡ Some s) × IsTracedLive l s
        untouched other same_one =
            let begins : t1.collects ≡ s.collects = ap (λ q. s.collects || q) (untold_begins t.places f0 tr0 u s s_below u.node (brings t.places f0 tr0 u).answer u.input other) ∙ or_not s.collects in
            let votes : t1.voted ≡ s.voted = untold_voted t.places f0 tr0 u s s_below u.input other in
            told_so t1 (seen_turned t.places f0 tr0 u l.me s at) (lives_on (untold_drops t.places f0 tr0 u s s_below u.node (brings t.places f0 tr0 u).answer u.input other))
            (λ working. (let had = was.working (sym (ap (λ (y : Live). y.phase) same_one) ∙ working) in (begins ∙ had.0, votes ∙ had.1)))
            (λ busy. (let had = was.collects (λ working. busy (ap (λ (y : Live). y.phase) same_one ∙ working)) in (begins ∙ had.0, subst (λ vs. AreVoted vs l.edges) (sym votes) (subst (λ (y : Live). AreVoted s.voted y.edges) (sym same_one) had.1))))
          where
            or_not : (q : Bool) → (q || false) ≡ q
            or_not true = refl
            or_not false = refl

        -- a message comes to it
        touched : (m : Msg) → u.input ≡ inputs.Message m → Heard s m l → (s : Seen) × (seen_at tr1 l.me ≡ Some s) × IsTracedLive l s
        touched m came heard_it =
            let drops : input_drops u.node (brings t.places f0 tr0 u).answer s u.input ≡ false = ap (input_drops u.node (brings t.places f0 tr0 u).answer s) came ∙ heard_it.drops in
            let begins : t1.collects ≡ (s.collects || begins_collect u.node (brings t.places f0 tr0 u).answer s (inputs.Message m)) = ap (λ i. s.collects || begins_collect u.node (brings t.places f0 tr0 u).answer s i) came in
            let votes : t1.voted ≡ voted_after s (inputs.Message m) = ap (voted_after s) came in
            told_so t1 (seen_turned t.places f0 tr0 u l.me s at) (lives_on drops)
            (λ working. (let had = heard_it.working working in (begins ∙ had.0, votes ∙ had.1)))
            (λ busy. (let had = heard_it.collects busy in (begins ∙ had.0, subst (λ vs. AreVoted vs l.edges) (sym votes) had.1)))

    -- ---- another node

    elsewhere : (n : ℕ) (j : NodeState) → u.node ≢ n → node_at f1 n ≡ Some j → (l : Live) → live_at j l.me ≡ Some l → l.parent ≢ None → (s : Seen) × (seen_at tr1 l.me ≡ Some s) × IsTracedLive l s
    elsewhere n j other up l live below =
        let before : node_at f0 n ≡ Some j = sym (turn_elsewhere t.places t.commands f0 (run_stands s0 lawful0).0.even u n other).0 ∙ up in
        let own : l.me.node ≡ n = all_found (λ l. l.me.node ≡ n) live_id j.lives l.me l (ids_name_their_node s0 lawful0 n j before).lives live in
        let it = now n j before l live below in
        let me : it.0.me ≡ l.me = item_is seen_id tr0.seen l.me it.0 it.1 in
        untouched n j up l live below l it.0 me it.1 it.2 below (λ m came. not_here m came it.0 (ap (λ (b : BranchId). b.node) me ∙ own) other) refl
      where
        came_here : (m : Msg) (took : Option Took) → Comes f0 k u.node (inputs.Message m) took → m.to.node ≡ u.node
        came_here m None comes = absurd comes
        came_here m (Some x) comes = comes.1.here

        not_here : (m : Msg) → u.input ≡ inputs.Message m → (s : Seen) → s.me.node ≡ n → u.node ≢ n → same m.to s.me ≡ false
        not_here m came s own other = by (same m.to s.me) refl
          where
            by : (q : Bool) → same m.to s.me ≡ q → q ≡ false
            by true here =
                let to : m.to.node ≡ s.me.node = ap (λ (b : BranchId). b.node) (equal_from_same m.to s.me here) in
                absurd (other (sym (came_here m u.took (subst (λ i. Comes f0 k u.node i u.took) came may.1.comes)) ∙ (to ∙ own)))
            by false apart = refl

    -- ---- its own node

    own_node : u.cut ≡ false → (l : Live) → live_at d.after l.me ≡ Some l → l.parent ≢ None → (s : Seen) × (seen_at tr1 l.me ≡ Some s) × IsTracedLive l s
    own_node cut l live below = by (item_at live_id k.lives l.me) refl
      where
        up : node_at f1 u.node ≡ Some d.after
        up = kids.after_up t whole hs u rest is tells cut

        its : Grows k p u.input (λ b. born_at (births_of s0) b ≡ None) d.says l
        its = (kids.grown t whole hs u rest is tells).0.each l.me l live

        by : (o : Option Live) → item_at live_id k.lives l.me ≡ o → (s : Seen) × (seen_at tr1 l.me ≡ Some s) × IsTracedLive l s
        by None none = elim (its.new none) [ inl root ↦ absurd (below root) | inr opened ↦ begins opened ]
          where
            begins : IsOpened k p u.input (λ b. born_at (births_of s0) b ≡ None) d.says l → (s : Seen) × (seen_at tr1 l.me ≡ Some s) × IsTracedLive l s
            begins opened =
                let m : Msg = record { from = opened.parent; to = opened.to; scn = opened.came.scn; kind = kinds.Open opened.edge opened.root opened.depth opened.read_at } in
                let s : Seen = newly_seen l.me opened.root (Some opened.parent) (strength_at f0 l.me.node) opened.read_at in
                let at : seen_at (begun t.places f0 tr0 u) l.me ≡ Some s = kids.opened_begun t whole hs u rest is tells cut l opened in
                let some : s.parent ≢ None = (λ none. absurd cc) in
                told_so u.node d.after up l live below (turned t.places f0 tr0 u s) (seen_begun t.places f0 tr0 u l.me s at)
                (turned_live t.places f0 tr0 u s some refl (unwritten u.node d.after up l live below) (unquiet u.node d.after up l live below) (ap (input_drops u.node (brings t.places f0 tr0 u).answer s) opened.came.is ∙ plain_drops (same m.to s.me) ((true && false) && (is_among opened.parent [] && not (is_among opened.parent [])))))
                (λ working. (ap (λ i. false || begins_collect u.node (brings t.places f0 tr0 u).answer s i) opened.came.is ∙ plain_begins (same m.to s.me), ap (voted_after s) opened.came.is ∙ plain_votes (same m.to s.me)))
                (λ busy. absurd (busy opened.working))
              where
                plain_begins : (q : Bool) → (false || (q && (true && false))) ≡ false
                plain_begins true = refl
                plain_begins false = refl

                plain_votes : (q : Bool) → (if (q && false) && ((true && false) && (is_among opened.parent [] && not (is_among opened.parent []))) then [] ++ opened.parent ∷ [] else []) ≡ []
                plain_votes true = refl
                plain_votes false = refl

                plain_drops : (q r : Bool) → ((q && false) || (((q && false) && r) && false)) ≡ false
                plain_drops true r = refl
                plain_drops false r = refl
        by (Some z) found =
            let had = its.old z found in
            let me_z : z.me ≡ l.me = item_is live_id k.lives l.me z found in
            let z_below : z.parent ≢ None = (λ none. below (had.1 ∙ none)) in
            let z_live : live_at k z.me ≡ Some z = subst (λ c. live_at k c ≡ Some z) (sym me_z) found in
            let it = now u.node k may.1.up z z_live z_below in
            let at : seen_at tr0 l.me ≡ Some it.0 = subst (λ c. seen_at tr0 c ≡ Some it.0) me_z it.1 in
            let me : it.0.me ≡ l.me = item_is seen_id tr0.seen l.me it.0 at in
            elim (to_it l.me u.input) [
              | inl to ↦ touched u.node d.after up l live below z it.0 me at it.2 z_below to.0 to.1 (hears z z_live me_z it.0 me it.2 to.0 to.1 to.2)
              | inr other ↦ untouched u.node d.after up l live below z it.0 me at it.2 z_below (λ m came. subst (λ b. same m.to b ≡ false) (sym me) (other m came)) (stays z z_live me_z z_below other)
            ]
          where
            fits : SessionsFit k
            fits = kept_alone SessionsFit sessions_keep s0 lawful0 u.node k may.1.up

            -- nothing comes to it
            stays : (z : Live) → live_at k z.me ≡ Some z → z.me ≡ l.me → z.parent ≢ None → ((m : Msg) → u.input ≡ inputs.Message m → same m.to l.me ≡ false) → l ≡ z
            stays z z_live me z_below other =
                let not_to : (from : BranchId) (kind : Kind) → Came u.input from z.me kind → ⊥ = (λ from kind came. (let no_match = other _ came.is in let here : same z.me l.me ≡ true = same_from_equal z.me l.me me in absurd (cc (no_match, here)))) in
                let after : live_at d.after z.me ≡ Some z = stays_on p u.input z.me not_to z (λ j fit at n concerns has. z_below (root_alone j fit n z.me has z at)) (serves t.places f0 u k may.1).step (heard_fits k fits u.input) (heard_live k u.input z.me ∙ z_live) in
                let both : Some z ≡ Some l = sym after ∙ subst (λ c. live_at d.after c ≡ Some l) (sym me) live in
                let it : l ≡ z = cc in
                it

            -- a message comes to it
            hears : (z : Live) → live_at k z.me ≡ Some z → z.me ≡ l.me → (s : Seen) → s.me ≡ l.me → IsTracedLive z s → (m : Msg) → u.input ≡ inputs.Message m → m.to ≡ l.me → Heard s m l
            hears z z_live me s me_s was m came to =
                let k1 : NodeState = heard k (inputs.Message m) in
                let x : Branch = record { live = z; work = work_at k1 z.me } in
                let found : branch_at k1 z.me ≡ Some x = ap (with_work k1) z_live in
                let found0 : branch_at k z.me ≡ Some (record { live = z; work = work_at k z.me }) = ap (with_work k) z_live in
                let rests : z.phase ≢ phases.Working → x.work.going ≡ None = (λ busy. ((asked_stand_still s0 lawful0 u.node k may.1.up (record { live = z; work = work_at k z.me }) found0).1 busy).0) in
                let phase : PhaseFits z.parent z.edges z.phase = all_found (λ l. PhaseFits l.parent l.edges l.phase) live_id k.lives z.me z (phases_fit s0 lawful0 u.node k may.1.up) z_live in
                let to_z : m.to ≡ z.me = to ∙ sym me in
                let after : live_at (draft_of p k (inputs.Message m)).after z.me ≡ Some l = subst (λ i. live_at (draft_of p k i).after z.me ≡ Some l) came (subst (λ c. live_at d.after c ≡ Some l) (sym me) live) in
                let turned_at : live_at (kind_turn p k1 m.from z.me m.kind (status_of k1 z.me)).after z.me ≡ Some l = subst (λ b. live_at (kind_turn p k1 m.from b m.kind (status_of k1 b)).after z.me ≡ Some l) to_z after in
                subst (λ b. Heard s (record { from = m.from; to = b; scn = m.scn; kind = m.kind }) l) (sym to_z) (heard_so p k1 x found rests phase s (me_s ∙ sym me) was l m.from m.scn m.kind turned_at)

    lives_at : TellsLives f1 tr1
    lives_at n j up l live below = elim (cases_eq u.node n) [
      | inl here ↦ own u.cut refl (subst (λ m. node_at f1 m ≡ Some j) (sym here) up)
      | inr other ↦ elsewhere n j other up l live below
    ]
      where
        own : (cut : Bool) → u.cut ≡ cut → node_at f1 u.node ≡ Some j → (s : Seen) × (seen_at tr1 l.me ≡ Some s) × IsTracedLive l s
        own true cut there =
            let none : node_at f1 u.node ≡ None = kids.here_after t whole hs u rest is tells ∙ ap (λ c. kept_after c (Some (turn_of p k u.input))) cut in absurd (cc (none, there))
        own false cut there =
            let both : Some d.after ≡ Some j = sym (kids.after_up t whole hs u rest is tells cut) ∙ there in
            let it : d.after ≡ j = cc in
            own_node cut l (subst (λ i. live_at i l.me ≡ Some l) (sym it) live) below

    pub turn_lower : Lower hs1
    turn_lower = subst (λ f. TellsLives f (tr_at t hs1)) (sym (one_on t hs (happenings.Turn u))) (subst (TellsLives f1) (sym (trail_one_on t hs (happenings.Turn u))) lives_at)
