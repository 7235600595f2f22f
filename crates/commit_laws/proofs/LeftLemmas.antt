-- In every lawful run a branch below another that has left, and was not dropped, has answered it, or its node has stopped since.
use Rattle.std.proofs.Common.{◌≡◌, ◌≢◌, Bool, true, false, List, [], ◌∷◌, ◌++◌, map, length, Option, Some, None, inl, inr, refl, sym, ap, subst, ◌∙◌, append-nil}
use Rattle.std.specs.Prelude.{◌⊎◌, IfSome}
use Rattle.std.specs.Option.{option_to_list}
use Rattle.std.specs.List.{AllByRecursion, list_any}
use Rattle.std.proofs.lemmas.Bool.{or_right}
use Rattle.std.proofs.lemmas.List.Folds.{list_any-append}
use Rattle.tran_ids.proofs.ListedLemmas.{item_is}
use Rattle.agreement.specs.Events.{Exit, Sealed, Decided, Quiet, Dropped, exit}
use Rattle.node_rules.specs.Data.{BranchId, Live, Place, RedoRecord}
use Rattle.node_rules.specs.Data.records
use Rattle.node_rules.specs.NodeState.{NodeState, TurnDraft, live_id, live_at}
use Rattle.node_rules.specs.Turn.{turn_of, heard, draft_of}
use Rattle.run_rules.specs.Births.{Born, births_of, born_at}
use Rattle.run_base_laws.specs.BirthLaws.{Began, IsChild, RecordNames}
use Rattle.run_rules.specs.Data.{Turn, Happening}
use Rattle.run_rules.specs.Data.happenings
use Rattle.run_rules.specs.Facts.{place_at, node_at, records_at, facts_after}
use Rattle.run_base_laws.specs.InTurnLaws.{post_of, said_in}
use Rattle.run_rules.specs.Lawful.{IsOwed, MayHappen, MayTurn, History, IsLawfulRun, facts_at}
use Rattle.run_base_laws.specs.RunEvents.{with_record, with_exits, lives_at, events_after, events_from, events_of}
use Rattle.run_rules.specs.Trail.{is_quiet}
use Rattle.run_branch_laws.specs.WalkLaws.{was_sent}
use Rattle.run_rules.proofs.AtNodeLemmas.{turn_here}
use Rattle.run_base_laws.proofs.BirthRunLemmas.{messages_are_of_neighbors, records_name_the_born}
use Rattle.run_base_laws.proofs.EventsStandLemmas.{run_stands, ids_name_their_node}
use Rattle.run_base_laws.proofs.LaterLemmas.{exit_made, turn_added}
use Rattle.run_base_laws.proofs.LawfulLemmas.{serves}
use Rattle.run_base_laws.proofs.NodesStandLemmas.{some_or_none}
use Rattle.run_base_laws.proofs.OwnLemmas.{all_found}
use Rattle.run_base_laws.proofs.SaidPostLemmas.{posts_back, posts_of, said_after}
use Rattle.tree_laws.proofs.AnswerRunLemmas.{lives_heard}
use Rattle.tree_laws.proofs.AskLemmas.{sent_more, sent_new}
use Rattle.tree_laws.proofs.PrefixLemmas.{so_far, f_at, e_at, one_on, more_on}
use Rattle.run_branch_laws.proofs.KeptRowLemmas.{IsSealOf, wrote_seal}
use Rattle.tree_laws.proofs.SealLemmas.{later_unsealed}
use Rattle.tree_laws.proofs.SiteLemmas.{IsDecisionOf, wrote_decision, later_undecided}
use Rattle.tree_laws.proofs.WhyLemmas.{WroteWhy, why_on}
use Rattle.tree_laws.specs.LeaveLaws.{LeftSo}
use Rattle.tree_laws.proofs.FateLemmas.{drops_alone}
use Rattle.tree_laws.proofs.LeaveLemmas.{messages_exit, all_quiet, wrote_quiet, was_there}
use Rattle.tree_laws.proofs.TimeLemmas.{Part, exit_on, born_end, keep_on}
use Rattle.commit_laws.specs.DeliveryLaws.{is_answer}
use Rattle.commit_laws.specs.WaitLaws.{NodeHasStopped, LeftHaveAnswered}
use Rattle.commit_laws.proofs.ListLemmas.{all_at}
use Rattle.commit_laws.proofs.ReadyLemmas.{ready_have_answered}
use Rattle.commit_laws.proofs.ReasonLemmas.{is_quiet_post}
use Rattle.commit_laws.proofs.SealSayLemmas.{SaysSeal, seal_says, WasReady, decides_ready, seals_answer}
use Rattle.commit_laws.proofs.StopLemmas.{stopped_on, cut_stops}
use Rattle.commit_laws.proofs.UnlessStoppedLemmas.{left_on}
use Rattle.commit_laws.proofs.AnswerGoesLemmas.{any_posts, quiet_sent}
use Rattle.tree_laws.proofs.AtTurn.{at_happening}

module _ (t : History) (whole : IsLawfulRun t) (x : Born) (began : Began (births_of t) x) (q : BranchId) (above : x.parent ≡ Some q) where
  abbrev c : BranchId
  c = x.me

  -- it was dropped, has answered its parent, or its node has stopped
  abbrev IsSettled : List Happening → Type 0
  IsSettled hs = (exit (e_at t hs) c ≡ Some Dropped) ⊎ ((was_sent is_answer (said_in (f_at t hs)) c q ≡ true) ⊎ ((exit (e_at t hs) c ≢ None) × NodeHasStopped (f_at t hs) c))

  abbrev IsKnown : List Happening → Type 0
  IsKnown hs = (exit (e_at t hs) c ≡ None) ⊎ IsSettled hs

  -- it began in one way
  same_born : (hs : List Happening) → Part t whole hs → (y : Born) → Began (births_of (so_far t hs)) y → y.me ≡ c → y ≡ x
  same_born hs part y begun me =
      let one : born_at (births_of t) c ≡ Some y = subst (λ i. born_at (births_of t) i ≡ Some y) me (born_end t whole hs part y begun) in
      let both : Some y ≡ Some x = sym one ∙ began in
      cc

  one_parent : (hs : List Happening) → Part t whole hs → (p : BranchId) → IsChild (Began (births_of (so_far t hs))) c p → p ≡ q
  one_parent hs part p child =
      let it : child.0 ≡ x = same_born hs part child.0 child.1 child.2 in
      let at : x.parent ≡ Some p = subst (λ (y : Born). y.parent ≡ Some p) it child.3 in
      let both : Some p ≡ Some q = sym at ∙ above in
      cc

  module _ (hs : List Happening) (h : Happening) (rest : List Happening) (is : hs ++ h ∷ rest ≡ t.trace) where
    open at_happening t whole hs h rest is use {f, g, e, s, after, part_after as part_z, lawful, lawful_after as lawful_z, may}

    said_is : said_in (f_at t after) ≡ said_in f ++ posts_of h
    said_is = ap said_in (one_on t hs h) ∙ said_after t.places t.commands f h

    sent_stays : was_sent is_answer (said_in f) c q ≡ true → was_sent is_answer (said_in (f_at t after)) c q ≡ true
    sent_stays sent = subst (λ xs. was_sent is_answer xs c q ≡ true) (sym said_is) (sent_more is_answer (said_in f) (posts_of h) c q sent)

    exit_stays : (z : Exit) → exit e c ≡ Some z → exit (e_at t after) c ≡ Some z
    exit_stays z left = subst (λ y. exit y c ≡ Some z) (sym (more_on t hs h)) (exit_on t.places t.commands f h e c z left)

    even : length f.nodes ≡ length f.records
    even = (run_stands s lawful).0.even

    settled_stays : IsSettled hs → IsSettled after
    settled_stays (inl dropped) = inl (exit_stays Dropped dropped)
    settled_stays (inr (inl sent)) = inr (inl (sent_stays sent))
    settled_stays (inr (inr stopped)) = inr (inr (left_on t c hs h stopped.0, stopped_on t whole c hs h rest is stopped.0 stopped.1))

    -- ---- a turn in which it leaves

    module _ (u : Turn) (turn : h ≡ happenings.Turn u) (k : NodeState) (may_u : MayTurn t.places f u k) (none : exit e c ≡ None) (node : u.node ≡ c.node) where
      abbrev p : Place
      p = place_at t.places u.node

      abbrev d : TurnDraft
      d = draft_of p k u.input

      left_cut : u.cut ≡ true → (z : Exit) → exit (e_at t after) c ≡ Some z → IsSettled after
      left_cut cut z now = inr (inr ((λ no. absurd (cc (no, now))), cut_stops t whole c hs h rest is u turn k may_u.up node cut))

      posts_are : IsOwed p k u.input u.wrote u.sent false → posts_of h ≡ d.says
      unfolding turn_of
      posts_are owed = ap posts_of turn ∙ (ap (λ xs. map post_of xs) owed.1 ∙ posts_back d.after.clock d.says)

      said_so : IsOwed p k u.input u.wrote u.sent false → was_sent is_answer d.says c q ≡ true → IsSettled after
      said_so owed sent =
          inr (inl (subst (λ xs. was_sent is_answer xs c q ≡ true) (sym said_is) (sent_new is_answer (said_in f) (posts_of h) c q (subst (λ xs. was_sent is_answer xs c q ≡ true) (sym (posts_are owed)) sent))))

      -- one that was Ready
      was_ready : WasReady (heard k u.input) c (Some q) → IsSettled after
      was_ready it =
          let live : live_at k c ≡ Some it.0 = subst (λ ls. live_at (record k { lives = ls }) c ≡ Some it.0) (lives_heard k u.input) it.1 in
          let me : it.0.me ≡ c = item_is live_id k.lives c it.0 live in
          let sent : was_sent is_answer (said_in f) it.0.me q ≡ true = ready_have_answered s lawful u.node k may_u.up it.0 (subst (λ i. live_at k i ≡ Some it.0) (sym me) live) it.2 q it.3 in
          inr (inl (sent_stays (subst (λ i. was_sent is_answer (said_in f) i q ≡ true) me sent)))

      wrote_is : IsOwed p k u.input u.wrote u.sent false → u.wrote ≡ d.wrote
      unfolding turn_of
      wrote_is owed = owed.0

      why : IfSome d.wrote (WroteWhy (heard k u.input) u.input d.says)
      why = (why_on (heard k u.input) u.input p (serves t.places f u k may_u).step (λ no. record { lives = refl; clock = refl })).0

      tells : IfSome d.wrote (SaysSeal d.says)
      tells = seal_says p u.input (serves t.places f u k may_u).step

      -- a record names the parent
      record_so : (r : RedoRecord) → u.wrote ≡ Some r → RecordNames (Began (births_of (so_far t after))) r
      record_so r wrote =
          let all : AllByRecursion (RecordNames (Began (births_of (so_far t after)))) (records_at (f_at t after) u.node) = records_name_the_born (so_far t after) lawful_z u.node in
          let here : records_at (facts_after t.places t.commands f (happenings.Turn u)) u.node ≡ records_at f u.node ++ option_to_list u.wrote = (turn_here t.places t.commands f even u k may_u.up).1 in
          let its : records_at g u.node ≡ records_at f u.node ++ option_to_list u.wrote
          = subst (λ (y : Happening). records_at (facts_after t.places t.commands f y) u.node ≡ records_at f u.node ++ option_to_list u.wrote) (sym turn) here in
          let mine : records_at (f_at t after) u.node ≡ records_at f u.node ++ r ∷ []
          = subst (λ y. records_at y u.node ≡ records_at f u.node ++ option_to_list u.wrote) (sym (one_on t hs h)) its ∙ ap (λ o. records_at f u.node ++ option_to_list o) wrote in
          all_at (RecordNames (Began (births_of (so_far t after)))) (records_at f u.node) r [] (subst (λ xs. AllByRecursion (RecordNames (Began (births_of (so_far t after)))) xs) mine all)

      sealed_so : IsOwed p k u.input u.wrote u.sent false → (w : Option RedoRecord) → u.wrote ≡ w → IsSealOf c w → IsSettled after
      sealed_so owed (Some (records.Sealed r)) wrote me =
          let names = record_so (records.Sealed r) wrote in
          let it : names.born ≡ x = same_born after part_z names.born names.began (names.is_me ∙ me) in
          let parent : r.parent ≡ Some q = sym names.is_parent ∙ subst (λ (y : Born). y.parent ≡ Some q) (sym it) above in
          let written : Some (records.Sealed r) ≡ d.wrote = sym wrote ∙ wrote_is owed in
          elim (seals_answer (heard k u.input) u.input d.says r (subst (λ o. IfSome o (WroteWhy (heard k u.input) u.input d.says)) (sym written) why) (subst (λ o. IfSome o (SaysSeal d.says)) (sym written) tells) q parent) [
            | inl sent ↦ said_so owed (subst (λ i. was_sent is_answer d.says i q ≡ true) me sent)
            | inr ready ↦ was_ready (subst (λ i. WasReady (heard k u.input) i (Some q)) me ready)
          ]
      sealed_so owed _ wrote never = absurd never

      decided_so : IsOwed p k u.input u.wrote u.sent false → (w : Option RedoRecord) → u.wrote ≡ w → IsDecisionOf c w → IsSettled after
      decided_so owed (Some (records.Decided r)) wrote me =
          let names = record_so (records.Decided r) wrote in
          let it : names.born ≡ x = same_born after part_z names.born names.began (names.is_me ∙ me) in
          let parent : r.parent ≡ Some q = sym names.is_parent ∙ subst (λ (y : Born). y.parent ≡ Some q) (sym it) above in
          let written : Some (records.Decided r) ≡ d.wrote = sym wrote ∙ wrote_is owed in
          was_ready (subst (λ i. WasReady (heard k u.input) i (Some q)) me (decides_ready (heard k u.input) u.input d.says r (subst (λ o. IfSome o (WroteWhy (heard k u.input) u.input d.says)) (sym written) why) q parent))
      decided_so owed _ wrote never = absurd never

      quiet_so : list_any (is_quiet c) u.sent ≡ true → IsSettled after
      quiet_so quiet =
          let posts : list_any (is_quiet_post c) (posts_of h) ≡ true = ap (λ (y : Happening). list_any (is_quiet_post c) (posts_of y)) turn ∙ (sym (any_posts c u.sent) ∙ quiet) in
          let found : list_any (is_quiet_post c) (said_in (f_at t after)) ≡ true
          = ap (list_any (is_quiet_post c)) said_is ∙ (list_any-append (is_quiet_post c) (said_in f) (posts_of h) ∙ or_right (list_any (is_quiet_post c) (said_in f)) (list_any (is_quiet_post c) (posts_of h)) posts) in
          inr (inl (quiet_sent (births_of (so_far t after)) c q (one_parent after part_z) (f_at t after).net.packets (messages_are_of_neighbors (so_far t after) lawful_z) found))

      left_whole : u.cut ≡ false → IsOwed p k u.input u.wrote u.sent false → (z : Exit) → exit (e_at t after) c ≡ Some z → exit (events_after t.places t.commands f (happenings.Turn u) e) c ≡ Some z → IsSettled after
      left_whole cut owed (Sealed n) now is_now = elim (exit_made c (Sealed n) (turn_added f (facts_after t.places t.commands f (happenings.Turn u)) u e) is_now) [
        | inl old ↦ elim (wrote_seal u.node e u.wrote c n old) [ inl older ↦ absurd (cc (older, none)) | inr it ↦ sealed_so owed u.wrote refl it ]
        | inr made ↦ absurd (later_unsealed c n made.0 made.1 made.2)
      ]
      left_whole cut owed (Decided n) now is_now = elim (exit_made c (Decided n) (turn_added f (facts_after t.places t.commands f (happenings.Turn u)) u e) is_now) [
        | inl old ↦ elim (wrote_decision u.node e u.wrote c n old) [ inl older ↦ absurd (cc (older, none)) | inr it ↦ decided_so owed u.wrote refl it ]
        | inr made ↦ absurd (later_undecided c n made.0 made.1 made.2)
      ]
      left_whole cut owed Quiet now is_now =
          let gone : exit (with_exits f (facts_after t.places t.commands f (happenings.Turn u)) u e) c ≡ Some Quiet = sym (messages_exit u.sent (with_exits f (facts_after t.places t.commands f (happenings.Turn u)) u e) c) ∙ is_now in
          elim (all_quiet (lives_at (node_at (facts_after t.places t.commands f (happenings.Turn u)) u.node)) u.sent (lives_at (node_at f u.node)) c (with_record u e) gone) [
            | inl old ↦ (let older : exit e c ≡ Some Quiet = wrote_quiet u.node e u.wrote c old in absurd (cc (older, none)))
            | inr new ↦ quiet_so new
          ]
      left_whole cut owed Dropped now is_now = inl now

      left_by : (cut : Bool) → u.cut ≡ cut → IsOwed p k u.input u.wrote u.sent cut → (z : Exit) → exit (e_at t after) c ≡ Some z → exit (events_after t.places t.commands f (happenings.Turn u) e) c ≡ Some z → IsSettled after
      left_by true cut owed z now is_now = left_cut cut z now
      left_by false cut owed z now is_now = left_whole cut owed z now is_now

    left_turn : (u : Turn) → h ≡ happenings.Turn u → (k : NodeState) → MayTurn t.places f u k → exit e c ≡ None → (z : Exit) → z ≢ Dropped → exit (e_at t after) c ≡ Some z → IsSettled after
    left_turn u turn k may_u none z other now =
        let is_now : exit (events_after t.places t.commands f (happenings.Turn u) e) c ≡ Some z
        = subst (λ (y : Happening). exit (events_after t.places t.commands f y e) c ≡ Some z) turn (subst (λ y. exit y c ≡ Some z) (more_on t hs h) now) in
        let so : LeftSo k u.input (said_in f) c z = was_there t hs lawful u k may_u c none z other is_now in
        let own : so.live.me.node ≡ u.node = all_found (λ (l : Live). l.me.node ≡ u.node) live_id k.lives so.live.me so.live (ids_name_their_node s lawful u.node k may_u.up).lives so.found in
        left_by u turn k may_u none (sym own ∙ ap (λ (b : BranchId). b.node) so.is_me) u.cut refl may_u.owed z now is_now

    left_any : exit e c ≡ None → (z : Exit) → z ≢ Dropped → exit (e_at t after) c ≡ Some z → IsSettled after
    left_any none z other now = by h refl
      where
        apart : ((u : Turn) → h ≢ happenings.Turn u) → IsSettled after
        apart not = absurd (other (drops_alone t hs h not c z none (subst (λ y. exit y c ≡ Some z) (more_on t hs h) now)))

        by : (y : Happening) → h ≡ y → IsSettled after
        by (happenings.Turn u) turn = (let may_u : MayHappen t.places t.commands f (happenings.Turn u) = subst (MayHappen t.places t.commands f) turn may in left_turn u turn may_u.0 may_u.1 none z other now)
        by (happenings.Stopped m) it = apart (λ u turn. (let no : happenings.Turn u ≡ happenings.Stopped m = sym turn ∙ it in absurd cc))
        by (happenings.Started m boot) it = apart (λ u turn. (let no : happenings.Turn u ≡ happenings.Started m boot = sym turn ∙ it in absurd cc))
        by (happenings.Begun m) it = apart (λ u turn. (let no : happenings.Turn u ≡ happenings.Begun m = sym turn ∙ it in absurd cc))
        by (happenings.Cut a b) it = apart (λ u turn. (let no : happenings.Turn u ≡ happenings.Cut a b = sym turn ∙ it in absurd cc))
        by (happenings.Join a b) it = apart (λ u turn. (let no : happenings.Turn u ≡ happenings.Join a b = sym turn ∙ it in absurd cc))
        by (happenings.Lost m) it = apart (λ u turn. (let no : happenings.Turn u ≡ happenings.Lost m = sym turn ∙ it in absurd cc))

    left_exit : exit e c ≡ None → (z : Exit) → exit (e_at t after) c ≡ Some z → IsKnown after
    left_exit none Dropped now = inr (inl now)
    left_exit none (Sealed n) now = inr (left_any none (Sealed n) (λ no. absurd cc) now)
    left_exit none (Decided n) now = inr (left_any none (Decided n) (λ no. absurd cc) now)
    left_exit none Quiet now = inr (left_any none Quiet (λ no. absurd cc) now)

    known_on : IsKnown hs → IsKnown after
    known_on (inr settled) = inr (settled_stays settled)
    known_on (inl none) = elim (some_or_none (exit (e_at t after) c)) [
      | inl left ↦ left_exit none left.0 left.1
      | inr still ↦ inl still
    ]

  first_known : IsKnown []
  unfolding events_from
  first_known = inl refl

  pub left_answered : (z : Exit) → exit (events_of t) c ≡ Some z → z ≢ Dropped → (was_sent is_answer (said_in (facts_at t)) c q ≡ true) ⊎ NodeHasStopped (facts_at t) c
  left_answered z left other = elim (keep_on t whole IsKnown known_on [] t.trace (record { rest = []; is = append-nil t.trace }) first_known) [
    | inl none ↦ absurd (cc (none, left))
    | inr (inl dropped) ↦ (let both : Some z ≡ Some Dropped = sym left ∙ dropped in let it : z ≡ Dropped = cc in absurd (other it))
    | inr (inr (inl sent)) ↦ inl sent
    | inr (inr (inr stopped)) ↦ inr stopped.1
  ]

pub left_have_answered : LeftHaveAnswered
left_have_answered t whole x began q above z left other = left_answered t whole x began q above z left other
