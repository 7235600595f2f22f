-- In every lawful run a call that ends on a Reply, and not with a refusal, ends with the answer of the run that the Reply came from, to which the call led.
use Rattle.std.specs.Prelude.{IfSome}
use Rattle.std.proofs.Common.{◌≡◌, ℕ, ◌&&◌, Bool, true, false, if◌then◌else◌, is_none, List, [], ◌∷◌, ◌++◌, length, Option, Some, None, refl, sym, ap, subst, ◌∙◌, ◌⊎◌, inl, inr, ◌+◌}
use Rattle.node_rules.specs.Data.{Answer, BranchId, Edge, Live, Msg, Place, Post}
use Rattle.node_rules.specs.declared.work.Going.{Going}
use Rattle.node_rules.specs.declared.work.Errand.{Errand}
use Rattle.node_rules.specs.declared.work.Errand.TheVariants as errands
use Rattle.node_rules.specs.Data.answers
use Rattle.node_rules.specs.Data.inputs
use Rattle.node_rules.specs.Data.kinds
use Rattle.node_rules.specs.declared.session.Finished.{Finished}
use Rattle.node_rules.specs.declared.session.PendingCall.TheVariants as pending
use Rattle.node_rules.specs.declared.session.Session.{Session}
use Rattle.node_rules.specs.Inputs.{Came, IsSession}
use Rattle.node_rules.specs.NodeState.{NodeState, Branch, TurnDraft, TurnOutput, live_id, branch_at}
use Rattle.node_rules.specs.Marks.{next_back}
use Rattle.node_rules.specs.Calls.{answered_sessions, answer_ends, backs_to, back_heard, errand_heard, going_heard, reply_of, reply_by, hears_reply, heard_answer, heard_sessions, is_gone}
use Rattle.node_rules.specs.Sessions.{session_at, with_call}
use Rattle.node_rules.specs.Refusals.{dtx}
use Rattle.node_rules.specs.Turn.{BranchStatus, Is_live, Is_kept, Is_gone, status_of, reply_turn, turn_of, heard, draft_of}
use Rattle.node_rules.specs.Words.{one, numbered}
use Rattle.node_rules.proofs.StandLemmas.{StandsSo, stands_so, live_so}
use Rattle.node_rules.proofs.Steps.{Is_answered}
use Rattle.run_rules.specs.Branches.{Run, origin_at}
use Rattle.run_rules.specs.Data.{Took, Turn, Happening}
use Rattle.run_rules.specs.Data.happenings
use Rattle.run_rules.specs.Facts.{place_at, served, outcome_at}
use Rattle.run_rules.specs.Lawful.{History, IsLawfulRun}
use Rattle.run_rules.specs.Runs.{answered_by, is_accepted}
use Rattle.run_base_laws.specs.InTurnLaws.{said_in}
use Rattle.run_base_laws.proofs.EventsStandLemmas.{ids_name_their_node}
use Rattle.run_base_laws.proofs.RestLemmas.{branch_root}
use Rattle.run_base_laws.proofs.RestRunLemmas.{NodeRests, heard_rests, run_roots}
use Rattle.run_base_laws.proofs.OwnLemmas.{all_found}
use Rattle.tree_laws.proofs.PrefixLemmas.{so_far, f_at}
use Rattle.tree_trail_laws.proofs.MomentLemmas.{tr_at, by_moment}
use Rattle.answer_origin_laws.specs.LeadLaws.{AnsweredBy, CallAnsweredBy, IsRollbackTo, RolledBackTo, IsTracedFor, EndsAsReplied, CallsEndAsReplied}
use Rattle.answer_origin_laws.specs.ReplyLaws.{went_back}
use Rattle.tree_trail_laws.proofs.SeenLemmas.{begun}
use Rattle.answer_origin_laws.proofs.BroughtLemmas.{reply_brings}
use Rattle.answer_origin_laws.proofs.EndedRootLemmas.{Freed, call_freed, heard_root, root_range, root_after}
use Rattle.answer_origin_laws.proofs.RootToldLemmas.{root_brought}
use Rattle.answer_origin_laws.proofs.LeadLemmas.{Ans, answers_at, called_on, root_back, root_heard}
use Rattle.answer_origin_laws.proofs.ReplyTurnLemmas.{Backed, Holds}
use Rattle.answer_origin_laws.proofs.TaleLemmas.{IsOfStatement, IsOfBack}
use Rattle.answer_origin_laws.proofs.ReplyStandLemmas.{moment_at}
use Rattle.answer_origin_laws.proofs.SentLemmas.{came_sent}
use Rattle.tree_laws.proofs.AtTurn.{at_turn}

-- an accepted answer is what the Reply said
heard_same : (l : Live) (link : List ℕ) (said a : Answer) → heard_answer l link said ≡ a → is_accepted (Some a) ≡ true → said ≡ a
heard_same l link said a is good = by (is_none l.parent && is_gone said) is
  where
    by : (q : Bool) → (if q then answers.Refused (dtx 8 (one link)) else said) ≡ a → said ≡ a
    by true at = absurd (let none : is_accepted (Some a) ≡ false = ap (λ x. is_accepted (Some x)) (sym at) in cc (none, good))
    by false at = at

module _ (t : History) (whole : IsLawfulRun t) (hs : List Happening) (u : Turn) (rest : List Happening) (is : hs ++ happenings.Turn u ∷ rest ≡ t.trace)
    (took : Took) (took_is : u.took ≡ Some took) (from to : BranchId) (call : ℕ) (weight : Option ℕ) (count : ℕ) (said : Answer) (came : Came u.input from to (kinds.Reply call weight count said))
    (session : ℕ) (a : Answer) (good : is_accepted (Some a) ≡ true) where
  open at_turn t whole hs u rest is use {part as part0, lawful as lawful0, may, k}

  abbrev m : Msg
  m = record { from = from; to = to; scn = came.scn; kind = kinds.Reply call weight count said }

  abbrev kk : NodeState
  kk = heard k (inputs.Message m)

  -- the run, and the root, which after the turn is the session's transaction and waits for no answer
  abbrev Result : List Session → Type 0
  Result ss = (r : Run) × (root : BranchId) × (origin_at (tr_at t hs) took.number ≡ Some r) × CallAnsweredBy t (tr_at t hs).moment u.node session root a r × IsSession session × Freed ss session root

  -- or the session's transaction went back
  abbrev Out : List Session → Type 0
  Out ss = Result ss ⊎ RolledBackTo t (tr_at t hs).moment u.node session a

  rests : NodeRests kk
  rests = heard_rests k (inputs.Message m) (subst (λ o. IfSome o NodeRests) may.1.up (run_roots (so_far t hs) lawful0 u.node))

  module _ (x : Branch) (me : x.live.me ≡ to) (found : branch_at kk x.live.me ≡ Some x) (i : ℕ) (e : Edge) (waits : reply_of x from call ≡ Some (i, e)) where
    h : Is_answered (heard k u.input) u.input x weight count said i e
    h = record {
      from = from;
      call = call;
      came = subst (λ b. Came u.input from b (kinds.Reply call weight count said)) (sym me) came;
      live = subst (λ input. branch_at (heard k input) x.live.me ≡ Some x) (sym came.is) found;
      waits = waits;
    }

    -- a Reply to a statement comes from a run
    from_run : Holds t whole (Ans t whole) hs → (n : ℕ) (y : Post) → numbered (said_in (f_at t hs)) n ≡ Some y → y.from ≡ from → y.kind ≡ kinds.Reply call weight count said → is_accepted (Some said) ≡ true
        → (g : Going) → x.work.going ≡ Some g → IsOfStatement g.errand → (r : Run) × (origin_at (tr_at t hs) n ≡ Some r) × AnsweredBy t y.from call said r
    unfolding h
    from_run holds n y at is_from kind accepted g going statement = elim (holds.replies n y at call weight count said kind accepted) [
      | inl ran ↦ ran
      | inr back ↦ absurd (called_on t whole hs u rest is k may.1.up x weight count said i e h g going statement (subst (λ b. Backed t whole (Ans t whole) (tr_at t hs).moment b call) is_from back.1))
    ]

    its_node : x.live.me.node ≡ u.node
    its_node = all_found (λ l. l.me.node ≡ u.node) live_id k.lives x.live.me x.live (ids_name_their_node (so_far t hs) lawful0 u.node k may.1.up).lives (live_so kk x.live.me x found)

    -- a root of the session that answers so, to a statement
    module _ (top : x.live.parent ≡ None) (its_session : x.live.me.session ≡ session) (answer : heard_answer (hears_reply x i weight count e).live e.link said ≡ a) where
      same_answer : said ≡ a
      same_answer = heard_same (hears_reply x i weight count e).live e.link said a answer good

      -- its session has it, before and after
      has : (session_at kk.sessions session).root ≡ Some x.live.me
      has = subst (λ n. (session_at kk.sessions n).root ≡ Some x.live.me) its_session (branch_root kk rests.1 x found top).root

      abbrev heard_by : List Session
      heard_by = heard_sessions kk.sessions (hears_reply x i weight count e).live said

      freed : Freed (answered_sessions heard_by (hears_reply x i weight count e).live x.live.parent) session x.live.me
      freed =
          let still : (session_at heard_by session).root ≡ Some x.live.me = heard_root kk.sessions session x.live.me has (hears_reply x i weight count e).live said its_session in
          let now : Freed (with_call heard_by x.live.me.session pending.NoCall) session x.live.me = subst (λ n. Freed (with_call heard_by n pending.NoCall) session x.live.me) (sym its_session) (call_freed heard_by session x.live.me still) in
          subst (λ o. Freed (answered_sessions heard_by (hears_reply x i weight count e).live o) session x.live.me) (sym top) now

      root_result : (g : Going) → x.work.going ≡ Some g → IsOfStatement g.errand → Result (answered_sessions heard_by (hears_reply x i weight count e).live x.live.parent)
      unfolding h
      root_result g going statement =
          let sent = came_sent (f_at t hs) k u.node u.input u.took may.1.comes from to (kinds.Reply call weight count said) came in
          let both : Some took ≡ Some sent.0 = sym took_is ∙ sent.1 in
          let one_took : sent.0 ≡ took = cc in
          let was = from_run (answers_at t whole hs part0) sent.0.number sent.2 sent.3 sent.4 sent.5 (ap (λ y. is_accepted (Some y)) same_answer ∙ good) g going statement in
          let ans : AnsweredBy t from call said was.0 = subst (λ b. AnsweredBy t b call said was.0) sent.4 was.2 in
          let heard_it : CallAnsweredBy t (length hs) x.live.me.node x.live.me.session x.live.me said was.0 = root_heard t whole hs u rest is k may.1.up x weight count said i e h was.0 sent.0.number was.1 ans top in (
            was.0,
            x.live.me,
            subst (λ (y : Took). origin_at (tr_at t hs) y.number ≡ Some was.0) one_took was.1,
            subst (λ m. CallAnsweredBy t m u.node session x.live.me a was.0) (sym (moment_at t hs))
                (subst (λ n. CallAnsweredBy t (length hs) n session x.live.me a was.0) its_node (subst (λ s. CallAnsweredBy t (length hs) x.live.me.node s x.live.me a was.0) its_session (subst (λ y. CallAnsweredBy t (length hs) x.live.me.node x.live.me.session x.live.me y was.0) same_answer heard_it))),
            root_range kk.sessions session x.live.me has rests.0.roots,
            freed,
          )

    -- a root that is back says so
    module _ (top : x.live.parent ≡ None) (its_session : x.live.me.session ≡ session) (g : Going) (going : x.work.going ≡ Some g) (back : IsOfBack g.errand) where
      back_result : went_back ≡ a → RolledBackTo t (tr_at t hs).moment u.node session a
      back_result answer =
          let to_it : IsRollbackTo t (length hs) x.live.me.node x.live.me.session = root_back t whole hs u rest is k may.1.up x weight count said i e h g going back top in (
            sym answer,
            subst (λ m. IsRollbackTo t m u.node session) (sym (moment_at t hs)) (subst (λ n. IsRollbackTo t (length hs) n session) its_node (subst (λ s. IsRollbackTo t (length hs) x.live.me.node s) its_session to_it)),
          )

  -- a branch that answers so ends its session's call
  ended_by : (l : Live) (b : Answer) (o : Option BranchId) (more : List Finished) → answer_ends l b o ≡ (record { session = session; answer = a }) ∷ more → (o ≡ None) × (l.me.session ≡ session) × (b ≡ a)
  ended_by l b None more ended =
      let it : (record { session = l.me.session; answer = b }) ∷ [] ≡ (record { session = session; answer = a }) ∷ more = ended in
      let one : record { session = l.me.session; answer = b } ≡ record { session = session; answer = a } = cc in
      (refl, ap (λ (y : Finished). y.session) one, ap (λ (y : Finished). y.answer) one)
  ended_by l b (Some up) more ended = absurd cc

  module _ (x : Branch) (me : x.live.me ≡ to) (found : branch_at kk x.live.me ≡ Some x) (i : ℕ) (e : Edge) (waits : reply_of x from call ≡ Some (i, e)) (more : List Finished) where
    abbrev z : Branch
    z = hears_reply x i weight count e

    abbrev Ends : TurnDraft → Type 0
    Ends d = d.ended ≡ (record { session = session; answer = a }) ∷ more

    by_next : (g : Going) → x.work.going ≡ Some g → IsOfBack g.errand → (step : ℕ) (o : Option ℕ) → Ends (backs_to kk z step o) → Out (backs_to kk z step o).after.sessions
    by_next g going back step None ended = let first = ended_by z.live went_back x.live.parent more ended in inr (back_result x me found i e waits first.0 first.1 g going back first.2)
    by_next g going back step (Some j) ended = absurd cc

    by_back : (g : Going) → x.work.going ≡ Some g → IsOfBack g.errand → (step : ℕ) (c : Answer) → Ends (back_heard kk z step i e.link c) → Out (back_heard kk z step i e.link c).after.sessions
    by_back g going back step (answers.Refused r) ended =
        let first = ended_by z.live (heard_answer z.live e.link (answers.Refused r)) x.live.parent more ended in
        let same : answers.Refused r ≡ a = heard_same z.live e.link (answers.Refused r) a first.2 good in
        absurd (let none : is_accepted (Some a) ≡ false = ap (λ y. is_accepted (Some y)) (sym same) in cc (none, good))
    by_back g going back step (answers.Did d n) ended = by_next g going back step (next_back z.work step (i + 1)) ended
    by_back g going back step (answers.Found rows) ended = by_next g going back step (next_back z.work step (i + 1)) ended

    by_errand : (g : Going) → x.work.going ≡ Some g → (r : Errand) → g.errand ≡ r → Ends (errand_heard kk z i e.link said r) → Out (errand_heard kk z i e.link said r).after.sessions
    by_errand g going (errands.Statement s given) is ended =
        let first = ended_by z.live (heard_answer z.live e.link said) x.live.parent more ended in inl (root_result x me found i e waits first.0 first.1 first.2 g going (subst IsOfStatement (sym is) tt))
    by_errand g going (errands.GoBack step) is ended = by_back g going (subst IsOfBack (sym is) tt) step said ended

    by_going : (o : Option Going) → x.work.going ≡ o → Ends (going_heard kk z i e.link said o) → Out (going_heard kk z i e.link said o).after.sessions
    by_going None going ended = absurd cc
    by_going (Some g) going ended = by_errand g going g.errand refl ended

  by_reply : (x : Branch) → x.live.me ≡ to → branch_at kk x.live.me ≡ Some x → (o : Option (ℕ × Edge)) → reply_of x from call ≡ o → (more : List Finished) → (reply_by kk x weight count said o).ended ≡ (record { session = session; answer = a }) ∷ more → Out (reply_by kk x weight count said o).after.sessions
  by_reply x me found None waits more ended = absurd cc
  by_reply x me found (Some ie) waits more ended = by_going x me found ie.0 ie.1 waits more x.work.going refl ended

  by_stand : (st : BranchStatus) → StandsSo kk to st → (more : List Finished) → (reply_turn kk from call weight count said st).ended ≡ (record { session = session; answer = a }) ∷ more → Out (reply_turn kk from call weight count said st).after.sessions
  by_stand (Is_live x) so more ended = by_reply x so.0 so.1 (reply_of x from call) refl more ended
  by_stand (Is_kept s) so more ended = absurd cc
  by_stand Is_gone so more ended = absurd cc

  pub ends_there : (more : List Finished) (o : TurnOutput) → outcome_at t.places (f_at t hs) u ≡ Some o → o.ended ≡ (record { session = session; answer = a }) ∷ more
      → ((r : Run) × (root : BranchId) × (origin_at (tr_at t hs) took.number ≡ Some r) × CallAnsweredBy t (tr_at t hs).moment u.node session root a r × (u.cut ≡ false → IsTracedFor t.places (f_at t hs) (tr_at t hs) u session root r))
      ⊎ RolledBackTo t (tr_at t hs).moment u.node session a
  unfolding turn_of
  ends_there more o outcome ended =
      let p : Place = place_at t.places u.node in
      let both : Some (turn_of p k u.input) ≡ Some o = sym (ap (served p u.input) may.1.up) ∙ outcome in
      let one_outcome : turn_of p k u.input ≡ o = cc in
      let its : (draft_of p k u.input).ended ≡ (record { session = session; answer = a }) ∷ more = ap (λ (y : TurnOutput). y.ended) one_outcome ∙ ended in
      elim (by_stand (status_of kk to) (stands_so kk to) more (ap (λ input. (draft_of p k input).ended) (sym came.is) ∙ its)) [
        | inl found ↦ inl (
          found.0,
          found.1,
          found.2,
          found.3,
          (λ uncut. (let after : Freed (draft_of p k u.input).after.sessions session found.1 = subst (λ input. Freed (draft_of p k input).after.sessions session found.1) (sym came.is) found.5 in
              let seen = root_after t whole hs u rest is uncut session found.4 found.1 after in record {
                seen = seen.0;
                transaction = seen.1;
                is_me = seen.2;
                origin = root_brought t.places (f_at t hs) (tr_at t hs) u o outcome session a more ended seen.0 seen.1
                    ∙ (reply_brings (f_at t hs) (begun t.places (f_at t hs) (tr_at t hs) u) u (answered_by (outcome_at t.places (f_at t hs) u)) uncut from to call weight count said came took took_is ∙ found.2);
              })),
        )
        | inr back ↦ inr back
      ]

pub calls_end_as_replied : CallsEndAsReplied
calls_end_as_replied t lawful = by_moment t (EndsAsReplied t) each
  where
    each : (hs : List Happening) (h : Happening) (rest : List Happening) → hs ++ h ∷ rest ≡ t.trace → EndsAsReplied t t.places (f_at t hs) (tr_at t hs) h
    each hs (happenings.Turn u) rest is = λ o outcome took took_is from to call weight count said came session a more ended good. ends_there t lawful hs u rest is took took_is from to call weight count said came session a good more o outcome ended
    each hs _ rest is = tt
