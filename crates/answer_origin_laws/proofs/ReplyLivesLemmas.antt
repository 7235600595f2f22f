-- After a turn what is told of the calls of live branches is what nodes keep, and each Reply comes from a run that answered it.
use Rattle.std.proofs.Common.{◌≡◌, ◌≢◌, ℕ, ◌+◌, ◌≤◌, ◌==◌, ◌&&◌, ◌||◌, ◌⊎◌, Bool, true, false, if◌then◌else◌, find, List, [], ◌∷◌, ◌++◌, map, length, Option, Some, None, inl, inr, refl, sym, ap, subst, ◌∙◌, arith}
use Rattle.std.specs.List.{AllByRecursion, list_any}
use Rattle.std.proofs.lemmas.Bool.{cases_eq}
use Rattle.std.proofs.lemmas.List.{length-map, length-append}
use Rattle.tran_ids.proofs.ListedLemmas.{item_is}
use Rattle.node_rules.specs.Data.{Answer, BranchId, Calls, Kind, Live, Msg, Post}
use Rattle.node_rules.specs.Data.kinds
use Rattle.node_rules.specs.Words.{same, numbered, item_at, is_item_of}
use Rattle.node_rules.specs.Inputs.{Came}
use Rattle.node_rules.specs.NodeState.{NodeState, live_id, work_or, live_at, post}
use Rattle.node_rules.specs.LiveBranches.{works_of}
use Rattle.node_rules.specs.Turn.{turn_of, stamped}
use Rattle.link_session.specs.Calls.{no_calls}
use Rattle.run_rules.specs.Births.{births_of, born_at}
use Rattle.run_rules.specs.Branches.{Run, Seen, Trail, Origin, seen_id, seen_at, newly_seen, origin_of, origin_at}
use Rattle.run_rules.specs.Data.{Turn, Happening}
use Rattle.run_rules.specs.Data.happenings
use Rattle.run_rules.specs.Facts.{Facts, node_at, outcome_at, kept_after}
use Rattle.run_base_laws.specs.InTurnLaws.{post_of, packet_post, said_in}
use Rattle.run_rules.specs.Lawful.{IsOwed, History, IsLawfulRun}
use Rattle.run_rules.specs.Runs.{is_accepted}
use Rattle.run_rules.specs.Trail.{strength_at, is_reply, answers, ended_by, origins_of, trail_after}
use Rattle.run_rules.proofs.AtNodeLemmas.{turn_elsewhere}
use Rattle.run_base_laws.proofs.EventsStandLemmas.{run_stands, ids_name_their_node}
use Rattle.run_base_laws.proofs.InTurnRunLemmas.{came_here}
use Rattle.run_rules.proofs.ListLemmas.{all_weaker, all_append}
use Rattle.run_base_laws.proofs.OwnLemmas.{all_found}
use Rattle.run_base_laws.proofs.SaidPostLemmas.{posts_back, said_after}
use Rattle.tree_laws.proofs.PrefixLemmas.{one_on}
use Rattle.tree_trail_laws.specs.LowerLaws.{IsTracedLive}
use Rattle.tree_trail_laws.proofs.ChildRunLemmas.{tells_at}
use Rattle.tree_trail_laws.proofs.ChildStepLemmas.{Grows, IsOpened}
use Rattle.tree_trail_laws.proofs.ChildTurnLemmas as kids
use Rattle.tree_trail_laws.proofs.LowerRunLemmas.{lower_at}
use Rattle.tree_trail_laws.proofs.MomentLemmas.{tr_at, trail_one_on}
use Rattle.tree_trail_laws.proofs.PlanLemmas.{find_more}
use Rattle.tree_trail_laws.proofs.SeenLemmas.{brings, turned, seen_begun, seen_turned}
use Rattle.answer_origin_laws.proofs.BroughtLemmas.{taken_still, said_on, ends_none, origins_low, origin_last}
use Rattle.answer_origin_laws.proofs.NumberLemmas.{numbered_append, all_numbered, alone, no_reply_there, unspoken}
use Rattle.answer_origin_laws.proofs.TaleLemmas.{is_good_reply, NoReply, Tale, calls0, IsGood}
use Rattle.answer_origin_laws.proofs.TurnTaleLemmas as tales
use Rattle.answer_origin_laws.proofs.ReplyTurnLemmas as told
use Rattle.answer_origin_laws.proofs.SentLemmas.{more_found, none_at}
use Rattle.tree_laws.proofs.AtTurn.{at_turn}
use Rattle.tree_trail_laws.proofs.AtTrail.{at_trail}

module _ (t : History) (whole : IsLawfulRun t) (Ans : BranchId → ℕ → Answer → Run → Type 0) where
  abbrev AreTold : ℕ → Calls → BranchId → Seen → Type 0
  AreTold = told.AreTold t whole Ans

  abbrev CallsOf : Facts → Trail → Type 0
  CallsOf = told.CallsOf t whole Ans

  abbrev RepliesOf : List Post → Trail → Type 0
  RepliesOf = told.RepliesOf t whole Ans

  module _ (runs_so : told.RunsSo t whole Ans) (passes_so : told.PassesSo t whole Ans) (backs_so : told.BacksSo t whole Ans) (hs : List Happening) (u : Turn) (rest : List Happening) (is : hs ++ happenings.Turn u ∷ rest ≡ t.trace) (now : told.Holds t whole Ans hs) where
    open at_turn t whole hs u rest is use {after as hs1, part as part0, s as s0, lawful as lawful0, f as f0, g as f1, may, k, heard_k as kk, p, d, said as said0}
    open at_trail t hs u use {tr as tr0, tr_on as tr1, begun_tr as tr_begun}

    abbrev origin : Option Run
    origin = (brings t.places f0 tr0 u).origin

    abbrev made : Seen → Seen
    made s = turned t.places f0 tr0 u s

    -- an answer of this turn, and one that stays told
    abbrev AnswerSo : Option Run → ℕ → BranchId → ℕ → Answer → Type 0
    AnswerSo = told.AnswerSo t whole Ans

    later : (o p : Option Run) → ((r : Run) → o ≡ Some r → p ≡ Some r) → (b : BranchId) (call : ℕ) (a : Answer) → AnswerSo o tr0.moment b call a → AnswerSo p (tr0.moment + 1) b call a
    later o p still b call a is = told.answer_later t whole Ans o p tr0.moment (tr0.moment + 1) (omega arith) still b call a is

    -- ---- live branches after the turn

    tells : kids.Tells t whole hs
    tells = tells_at t whole hs part0

    old_begun : (b : BranchId) (s : Seen) → seen_at tr0 b ≡ Some s → seen_at tr_begun b ≡ Some s
    old_begun b s at = find_more (is_item_of seen_id b) tr0.seen _ s at

    seen_before : (n : ℕ) (j : NodeState) → node_at f0 n ≡ Some j → (l : Live) → live_at j l.me ≡ Some l → l.parent ≢ None → (s : Seen) × (seen_at tr0 l.me ≡ Some s) × IsTracedLive l s
    seen_before n j up l live below = lower_at t whole hs part0 n j up l live below

    module _ (uncut : u.cut ≡ false) (l : Live) (live : live_at d.after l.me ≡ Some l) (below : l.parent ≢ None) where
      -- What is known of a branch as the turn begins.
      pub record Ready : Type 0 where
        pub seen : Seen
        pub at : seen_at tr_begun l.me ≡ Some seen
        pub alive : seen.exit ≡ None
        pub lower : seen.parent ≢ None
        pub told : AreTold tr0.moment (calls0 kk u.input l.me) l.me seen

      ready : Ready
      ready = by (item_at live_id k.lives l.me) refl
        where
          its : Grows k p u.input (λ b. born_at (births_of s0) b ≡ None) d.says l
          its = (kids.grown t whole hs u rest is tells).0.each l.me l live

          calls_are : (c : Calls) → (works_of k.works l.me).came ≡ c → calls0 kk u.input l.me ≡ c
          calls_are c at = ap (λ ws. (works_of ws l.me).came) (tales.heard_works t whole hs u rest is u.input) ∙ at

          new : IsOpened k p u.input (λ b. born_at (births_of s0) b ≡ None) d.says l → item_at live_id k.lives l.me ≡ None → Ready
          new opened none =
              let calls : calls0 kk u.input l.me ≡ no_calls = calls_are no_calls (ap (λ o. (work_or l.me o).came) (tales.there t whole hs u rest is l.me none)) in
              record {
                seen = newly_seen l.me opened.root (Some opened.parent) (strength_at f0 l.me.node) opened.read_at;
                at = kids.opened_begun t whole hs u rest is tells uncut l opened;
                alive = refl;
                lower = λ no. absurd cc;
                told = subst (λ c. AreTold tr0.moment c l.me (newly_seen l.me opened.root (Some opened.parent) (strength_at f0 l.me.node) opened.read_at)) (sym calls) (record { taken = refl; kept = λ rf some good. absurd cc });
              }

          by : (o : Option Live) → item_at live_id k.lives l.me ≡ o → Ready
          by None none = elim (its.new none) [ inl root ↦ absurd (below root) | inr opened ↦ new opened none ]
          by (Some z) found =
              let was = its.old z found in
              let me : z.me ≡ l.me = item_is live_id k.lives l.me z found in
              let z_live : live_at k z.me ≡ Some z = subst (λ c. live_at k c ≡ Some z) (sym me) found in
              let z_below : z.parent ≢ None = (λ none. below (was.1 ∙ none)) in
              let before = seen_before u.node k may.1.up z z_live z_below in
              let at : seen_at tr0 l.me ≡ Some before.0 = subst (λ c. seen_at tr0 c ≡ Some before.0) me before.1 in
              let told : AreTold tr0.moment (works_of k.works z.me).came z.me before.0 = now.calls u.node k may.1.up z z_live z_below before.0 before.1 in
              record {
                seen = before.0;
                at = old_begun l.me before.0 at;
                alive = before.2.live;
                lower = λ none. z_below (sym before.2.parent ∙ none);
                told = subst (λ c. AreTold tr0.moment c l.me before.0) (sym (calls_are (works_of k.works l.me).came refl)) (subst (λ b. AreTold tr0.moment (works_of k.works b).came b before.0) me told);
              }

      its_tale : Tale kk u.input d.says d.ended l.me (calls0 kk u.input l.me) (works_of d.after.works l.me).came
      its_tale = (tales.turn_tales t whole hs u rest is).0.each l.me l live below

      after : AreTold (tr0.moment + 1) (works_of d.after.works l.me).came l.me (made ready.seen) × told.Speaks t whole Ans runs_so passes_so backs_so hs u rest is now uncut l ready.seen ready.at ready.alive ready.lower ready.told
      after = told.told_by t whole Ans runs_so passes_so backs_so hs u rest is now uncut l ready.seen ready.at ready.alive ready.lower ready.told (works_of d.after.works l.me).came its_tale

      pub calls_after : (s : Seen) → seen_at tr1 l.me ≡ Some s → AreTold (tr0.moment + 1) (works_of d.after.works l.me).came l.me s
      calls_after s at =
          let it : Some (made ready.seen) ≡ Some s = sym (seen_begun t.places f0 tr0 u l.me ready.seen ready.at) ∙ at in
          let one : made ready.seen ≡ s = cc in
          subst (λ x. AreTold (tr0.moment + 1) (works_of d.after.works l.me).came l.me x) one after.0

      pub speaks_after : NoReply l.me d.says
          ⊎ ((to : BranchId) × (call : ℕ) × (weight : Option ℕ) × (count : ℕ) × (a : Answer) × (d.says ≡ post l.me to (kinds.Reply call weight count a)) × (is_accepted (Some a) ≡ true → AnswerSo origin (tr0.moment + 1) l.me call a))
      speaks_after = after.1

    -- ---- other nodes

    unsaid : (b : BranchId) → b.node ≢ u.node → list_any (λ (m : Msg). same m.from b && is_reply m.kind) u.sent ≡ false
    unsaid b other = by u.cut refl
      where
        none_came : (b : BranchId) → b.node ≢ u.node → (from : BranchId) (kind : Kind) → Came u.input from b kind → ⊥
        none_came b other from kind came = other (came_here f0 k u.node u.input u.took may.1.comes from b kind came)

        good : (xs : List Post) → AllByRecursion (IsGood kk u.input d.after.lives) xs → AllByRecursion (λ (x : Post). is_reply x.kind ≡ true → (from : BranchId) × (kind : Kind) × Came u.input from x.from kind) xs
        good [] all = tt
        good (x ∷ xs) all = (all.0.came, good xs all.1)

        by : (cut : Bool) → u.cut ≡ cut → list_any (λ (m : Msg). same m.from b && is_reply m.kind) u.sent ≡ false
        by true cut = ap (list_any (λ (m : Msg). same m.from b && is_reply m.kind)) (subst (λ c. IsOwed p k u.input u.wrote u.sent c) cut may.1.owed).1
        by false uncut = ap (list_any (λ (m : Msg). same m.from b && is_reply m.kind)) (told.sent_is t whole Ans runs_so passes_so backs_so hs u rest is now uncut) ∙ (said_on b d.after.clock d.says
            ∙ unspoken (λ c. (from : BranchId) × (kind : Kind) × Came u.input from c kind) b (λ c. none_came b other c.0 c.1 c.2) d.says (good d.says (tales.turn_tales t whole hs u rest is).1))

    elsewhere : (n : ℕ) (j : NodeState) → u.node ≢ n → node_at f1 n ≡ Some j → (l : Live) → live_at j l.me ≡ Some l → l.parent ≢ None → (s : Seen) → seen_at tr1 l.me ≡ Some s → AreTold (tr0.moment + 1) (works_of j.works l.me).came l.me s
    elsewhere n j other up l live below s at =
        let before : node_at f0 n ≡ Some j = sym (turn_elsewhere t.places t.commands f0 (run_stands s0 lawful0).0.even u n other).0 ∙ up in
        let own : l.me.node ≡ n = all_found (λ l. l.me.node ≡ n) live_id j.lives l.me l (ids_name_their_node s0 lawful0 n j before).lives live in
        let was = seen_before n j before l live below in
        let told : AreTold tr0.moment (works_of j.works l.me).came l.me was.0 = now.calls n j before l live below was.0 was.1 in
        let me : was.0.me ≡ l.me = item_is seen_id tr0.seen l.me was.0 was.1 in
        let far : was.0.me.node ≢ u.node = (λ same. other (sym (sym own ∙ (sym (ap (λ (b : BranchId). b.node) me) ∙ same)))) in
        let lower : was.0.parent ≢ None = (λ none. below (sym was.2.parent ∙ none)) in
        let it : Some (made was.0) ≡ Some s = sym (seen_turned t.places f0 tr0 u l.me was.0 was.1) ∙ at in
        let one : made was.0 ≡ s = cc in
        let quiet : answers u (outcome_at t.places f0 u) was.0 ≡ false = ap (λ q. list_any (λ (m : Msg). same m.from was.0.me && is_reply m.kind) u.sent || q) (ends_none u.node was.0 lower (ended_by (outcome_at t.places f0 u))) ∙ ap (λ q. q || false) (unsaid was.0.me far) in
        let answer : (made was.0).answer ≡ was.0.answer = ap (λ q. if q then origin else was.0.answer) quiet in
        let taken : (made was.0).taken ≡ was.0.taken = taken_still u.node was.0 lower u.input (λ from call task came. absurd (far (came_here f0 k u.node u.input u.took may.1.comes from was.0.me (kinds.Exec call task) came))) in
        subst (λ x. AreTold (tr0.moment + 1) (works_of j.works l.me).came l.me x) one
        (record { taken = taken ∙ told.taken; kept = λ rf some good. later was.0.answer (made was.0).answer (λ r had. answer ∙ had) l.me (works_of j.works l.me).came.last_call rf.result (told.kept rf some good) })

    moment_is : tr1.moment ≡ tr0.moment + 1
    unfolding trail_after
    moment_is = refl

    calls_then : CallsOf f1 tr1
    calls_then n j up l live below s at = subst (λ m. AreTold m (works_of j.works l.me).came l.me s) (sym moment_is) (elim (cases_eq u.node n) [
      | inl here ↦ own u.cut refl (subst (λ m. node_at f1 m ≡ Some j) (sym here) up)
      | inr other ↦ elsewhere n j other up l live below s at
    ])
      where
        own : (cut : Bool) → u.cut ≡ cut → node_at f1 u.node ≡ Some j → AreTold (tr0.moment + 1) (works_of j.works l.me).came l.me s
        own true cut there =
            let none : node_at f1 u.node ≡ None = kids.here_after t whole hs u rest is tells ∙ ap (λ c. kept_after c (Some (turn_of p k u.input))) cut in absurd (cc (none, there))
        own false cut there =
            let both : Some d.after ≡ Some j = sym (kids.after_up t whole hs u rest is tells cut) ∙ there in
            let it : d.after ≡ j = cc in
            subst (λ i. AreTold (tr0.moment + 1) (works_of i.works l.me).came l.me s) it (calls_after cut l (subst (λ i. live_at i l.me ≡ Some l) (sym it) live) below s at)

    -- ---- Replies

    how_many : length f0.net.packets ≡ length said0
    how_many = sym (length-map f0.net.packets packet_post)

    origins_are : tr1.origins ≡ tr0.origins ++ origins_of (length f0.net.packets + 1) origin u.sent
    unfolding trail_after
    origins_are = refl

    says_are : said_in f1 ≡ said0 ++ map post_of u.sent
    says_are = said_after t.places t.commands f0 (happenings.Turn u)

    low_then : AllByRecursion (λ (o : Origin). o.message ≤ length (said_in f1)) tr1.origins
    low_then =
        let long : length (said_in f1) ≡ length said0 + length u.sent = ap length says_are ∙ (length-append said0 (map post_of u.sent) ∙ ap (λ n. length said0 + n) (length-map u.sent post_of)) in
        subst (AllByRecursion (λ (o : Origin). o.message ≤ length (said_in f1))) (sym origins_are)
        (all_append (λ (o : Origin). o.message ≤ length (said_in f1)) tr0.origins (origins_of (length f0.net.packets + 1) origin u.sent)
        (all_weaker (λ (o : Origin). o.message ≤ length said0) (λ (o : Origin). o.message ≤ length (said_in f1)) (λ o small. omega (arith, small, long)) tr0.origins now.low)
        (all_weaker _ (λ (o : Origin). o.message ≤ length (said_in f1)) (λ o both. omega (arith, both.1, long, how_many)) (origins_of (length f0.net.packets + 1) origin u.sent) (origins_low (length f0.net.packets + 1) origin u.sent)))

    at_then : (n : ℕ) (r : Run) → origin_of (find (λ (o : Origin). o.message == n) (tr0.origins ++ origins_of (length f0.net.packets + 1) origin u.sent)) ≡ Some r → origin_at tr1 n ≡ Some r
    at_then n r at = ap (λ xs. origin_of (find (λ (o : Origin). o.message == n) xs)) origins_are ∙ at

    good_kind : (kind : Kind) (call : ℕ) (weight : Option ℕ) (count : ℕ) (a : Answer) → kind ≡ kinds.Reply call weight count a → is_accepted (Some a) ≡ true → (is_good_reply kind ≡ true) × (is_reply kind ≡ true)
    good_kind kind call weight count a at good = (ap is_good_reply at ∙ good, ap is_reply at)

    new_reply : (uncut : u.cut ≡ false) (n j : ℕ) (x : Post) → n ≡ length said0 + j → numbered d.says j ≡ Some x → (call : ℕ) (weight : Option ℕ) (count : ℕ) (a : Answer) → x.kind ≡ kinds.Reply call weight count a → is_accepted (Some a) ≡ true
        → AnswerSo (origin_at tr1 n) (tr0.moment + 1) x.from call a
    new_reply uncut n j x number at call weight count a reply good =
        let kind = good_kind x.kind call weight count a reply good in
        let its : IsGood kk u.input d.after.lives x = all_numbered (IsGood kk u.input d.after.lives) d.says j x (tales.turn_tales t whole hs u rest is).1 at in
        let from = its.live kind.0 in
        let l : Live = from.0 in
        let me : l.me ≡ x.from = item_is live_id d.after.lives x.from l from.1 in
        let live : live_at d.after l.me ≡ Some l = subst (λ b. live_at d.after b ≡ Some l) (sym me) from.1 in
        elim (speaks_after uncut l live from.2) [
          | inl none ↦ absurd (no_reply_there l.me d.says j x none at (sym me) kind.1)
          | inr said ↦ (
              let one = alone (record { from = l.me; to = said.0; kind = kinds.Reply said.1 said.2 said.3 said.4 }) j x (subst (λ xs. numbered xs j ≡ Some x) said.5 at) in
              let both : kinds.Reply said.1 said.2 said.3 said.4 ≡ kinds.Reply call weight count a = ap (λ (y : Post). y.kind) one.1 ∙ reply in
              let same_number : said.1 ≡ call = cc in
              let same_answer : said.4 ≡ a = cc in
              let found : AnswerSo origin (tr0.moment + 1) l.me said.1 said.4 = said.6 (ap (λ y. is_accepted (Some y)) same_answer ∙ good) in
              let m : Msg = record { from = l.me; to = said.0; scn = d.after.clock; kind = kinds.Reply said.1 said.2 said.3 said.4 } in
              let sent : u.sent ≡ m ∷ [] = told.sent_is t whole Ans runs_so passes_so backs_so hs u rest is now uncut ∙ ap (map (stamped d.after.clock)) said.5 in
              let last : n ≡ length said0 + 1 = omega (arith, number, one.0) in
              subst (λ b. AnswerSo (origin_at tr1 n) (tr0.moment + 1) b call a) me (subst (λ i. AnswerSo (origin_at tr1 n) (tr0.moment + 1) l.me i a) same_number (subst (λ y. AnswerSo (origin_at tr1 n) (tr0.moment + 1) l.me said.1 y) same_answer
              (told.answer_later t whole Ans origin (origin_at tr1 n) (tr0.moment + 1) (tr0.moment + 1) (omega arith) (λ r told_so. at_then n r
              (ap (λ i. origin_of (find (λ (o : Origin). o.message == i) (tr0.origins ++ origins_of (length f0.net.packets + 1) origin u.sent))) last
              ∙ (ap (λ i. origin_of (find (λ (o : Origin). o.message == (length said0 + 1)) (tr0.origins ++ origins_of (i + 1) origin u.sent))) how_many
              ∙ (ap (λ o. origin_of (find (λ (o : Origin). o.message == (length said0 + 1)) (tr0.origins ++ origins_of (length said0 + 1) o u.sent))) told_so
              ∙ (ap (λ ms. origin_of (find (λ (o : Origin). o.message == (length said0 + 1)) (tr0.origins ++ origins_of (length said0 + 1) (Some r) ms))) sent ∙ origin_last tr0.origins (length said0) r m refl now.low))))) l.me said.1 said.4 found))))
        ]

    replies_then : RepliesOf (said_in f1) tr1
    replies_then n x at call weight count a reply good = subst (λ m. AnswerSo (origin_at tr1 n) m x.from call a) (sym moment_is) (elim (numbered_append said0 (map post_of u.sent) n x (subst (λ xs. numbered xs n ≡ Some x) says_are at)) [
      | inl old ↦ later (origin_at tr0 n) (origin_at tr1 n) (λ r was. at_then n r (more_found (λ (o : Origin). o.message == n) tr0.origins _ r was)) x.from call a (now.replies n x old call weight count a reply good)
      | inr new ↦ by u.cut refl new.0 new.1 new.2
    ])
      where
        by : (cut : Bool) → u.cut ≡ cut → (j : ℕ) → n ≡ length said0 + j → numbered (map post_of u.sent) j ≡ Some x → AnswerSo (origin_at tr1 n) (tr0.moment + 1) x.from call a
        by true cut j number there = absurd (none_at j (subst (λ ms. numbered (map post_of ms) j ≡ Some x) (subst (λ c. IsOwed p k u.input u.wrote u.sent c) cut may.1.owed).1 there))
        by false uncut j number there = new_reply uncut n j x number (subst (λ xs. numbered xs j ≡ Some x) (ap (map post_of) (told.sent_is t whole Ans runs_so passes_so backs_so hs u rest is now uncut) ∙ posts_back d.after.clock d.says) there) call weight count a reply good

    pub turn_holds : told.Holds t whole Ans hs1
    turn_holds = record {
      replies = subst (λ f. RepliesOf (said_in f) (tr_at t hs1)) (sym (one_on t hs (happenings.Turn u))) (subst (RepliesOf (said_in f1)) (sym (trail_one_on t hs (happenings.Turn u))) replies_then);
      low = subst (λ f. AllByRecursion (λ (o : Origin). o.message ≤ length (said_in f)) (tr_at t hs1).origins) (sym (one_on t hs (happenings.Turn u)))
          (subst (λ tr. AllByRecursion (λ (o : Origin). o.message ≤ length (said_in f1)) tr.origins) (sym (trail_one_on t hs (happenings.Turn u))) low_then);
      calls = subst (λ f. CallsOf f (tr_at t hs1)) (sym (one_on t hs (happenings.Turn u))) (subst (CallsOf f1) (sym (trail_one_on t hs (happenings.Turn u))) calls_then);
    }
