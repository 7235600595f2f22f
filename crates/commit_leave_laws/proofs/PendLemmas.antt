-- What comes to the root of an undisturbed COMMIT that is pending upsets it not: after each message its session waits on, with no
-- answer, or has its answer.
use Rattle.std.proofs.Common.{◌≡◌, ◌≢◌, ℕ, ◌&&◌, ◌||◌, Bool, true, false, List, [], ◌∷◌, ◌++◌, map, Option, Some, None, inl, inr, refl, sym, ap, subst, ◌∙◌}
use Rattle.std.specs.List.{AllByRecursion}
use Rattle.std.proofs.lemmas.Bool.{and_parts}
use Rattle.std.proofs.lemmas.List.{append_assoc}
use Rattle.tran_ids.proofs.BranchLemmas.{equal_from_same}
use Rattle.tran_ids.proofs.ListedLemmas.{item_is}
use Rattle.node_rules.specs.Data.{Answer, BranchId, Input, Kind, Live, Msg, Task}
use Rattle.node_rules.specs.Data.inputs
use Rattle.node_rules.specs.Data.kinds
use Rattle.node_rules.specs.declared.session.PendingCall.TheVariants as pending
use Rattle.node_rules.specs.declared.session.Session.{Session}
use Rattle.node_rules.specs.Inputs.{Came}
use Rattle.node_rules.specs.NodeState.{NodeState, Branch, TurnDraft, live_id, live_at, branch_at, work_at, with_work}
use Rattle.node_rules.specs.Sessions.{session_at, commit_complete}
use Rattle.node_rules.specs.Turn.{draft_of, heard}
use Rattle.node_rules.specs.Words.{same}
use Rattle.node_rules.proofs.HeardLemmas.{sessions_heard}
use Rattle.run_rules.specs.Births.{Born, births_of, born_id, born_at}
use Rattle.run_base_laws.specs.BirthLaws.{Began, GoesSo, IsChild, LiveIs, StandsBelow}
use Rattle.run_rules.specs.Branches.{is_among}
use Rattle.run_base_laws.specs.CallLaws.{IsRootOf, RootWaits}
use Rattle.run_rules.specs.Data.{Happening, Packet, Took, Turn}
use Rattle.run_rules.specs.Data.happenings
use Rattle.run_rules.specs.Facts.{Facts, place_at}
use Rattle.run_base_laws.specs.InTurnLaws.{packet_post, said_in}
use Rattle.run_rules.specs.Lawful.{Comes, History, IsLawfulRun, MayTurn, facts_at}
use Rattle.run_branch_laws.specs.WalkLaws.{was_sent}
use Rattle.run_base_laws.proofs.BirthRunLemmas.{births_are_trees, messages_are_of_neighbors, nodes_name_the_born}
use Rattle.run_base_laws.proofs.BirthsStandLemmas.{came_so}
use Rattle.run_base_laws.proofs.LawfulLemmas.{serves}
use Rattle.run_base_laws.proofs.OwnLemmas.{all_found}
use Rattle.run_base_laws.proofs.RestRunLemmas.{asked_parent, roots_wait}
use Rattle.tree_laws.specs.AskLaws.{way_of}
use Rattle.tree_laws.proofs.AskRunLemmas.{live_told, sent_from}
use Rattle.tree_laws.proofs.PrefixLemmas.{f_at}
use Rattle.tree_laws.proofs.TimeLemmas.{Part, born_end, sent_end}
use Rattle.commit_laws.specs.StillLaws.{AbortsNone}
use Rattle.run_claims.specs.Undisturbed.{Commit, Undisturbed, NoneComesIn, branches_in, disturbs, is_disturbed}
use Rattle.commit_laws.proofs.AmongLemmas.{is_in}
use Rattle.commit_laws.proofs.ListLemmas.{all_at}
use Rattle.commit_leave_laws.proofs.EffectLemmas.{effect_on}
use Rattle.commit_leave_laws.proofs.RootActLemmas.{Known, Effect, upsets}
use Rattle.commit_leave_laws.proofs.LastLemmas.{Lasts}
use Rattle.commit_leave_laws.proofs.SessionLemmas.{answers_of}
use Rattle.commit_leave_laws.proofs.CallLemmas as call
use Rattle.tree_laws.proofs.AtTurn.{at_turn}

-- ---- messages

abbrev is_abort : Kind → Bool
is_abort kinds.Abort = true
is_abort _ = false

abort_is : (kind : Kind) → is_abort kind ≡ true → kind ≡ kinds.Abort
abort_is kinds.Abort is = refl
abort_is _ is = absurd cc

-- whoever sent a message that nobody sends did not
none_sent : (P : BranchId → Type 0) (xs : List Packet) → AllByRecursion (λ x. P x.msg.from → x.msg.kind ≢ kinds.Abort) xs → (from to : BranchId) → P from → was_sent is_abort (map packet_post xs) from to ≡ true → ⊥
none_sent P [] all from to so is = absurd cc
none_sent P (x ∷ xs) all from to so is = by ((same x.msg.from from && same x.msg.to to) && is_abort x.msg.kind) refl is (none_sent P xs all.1 from to so)
  where
    by : (q : Bool) → ((same x.msg.from from && same x.msg.to to) && is_abort x.msg.kind) ≡ q → (q || was_sent is_abort (map packet_post xs) from to) ≡ true → (was_sent is_abort (map packet_post xs) from to ≡ true → ⊥) → ⊥
    by true here found rest =
        let parts = and_parts (same x.msg.from from && same x.msg.to to) (is_abort x.msg.kind) here in
        let me : x.msg.from ≡ from = equal_from_same x.msg.from from (and_parts (same x.msg.from from) (same x.msg.to to) parts.0).0 in
        all.0 (subst P (sym me) so) (abort_is x.msg.kind parts.1)
    by false here found rest = rest found

-- a delivery brings a message
pub delivered : (f : Facts) (k : NodeState) (node : ℕ) (input : Input) (took : Took) → Comes f k node input (Some took) → (x : Msg) × (input ≡ inputs.Message x)
delivered f k node (inputs.Message x) took comes = (x, refl)
delivered f k node (inputs.Call n s) took comes = absurd comes
delivered f k node (inputs.GiveUp n) took comes = absurd comes
delivered f k node inputs.Reco took comes = absurd comes
delivered f k node inputs.Checkpoint took comes = absurd comes

module _ (t : History) (whole : IsLawfulRun t) (c : Commit t.places t.commands t.trace) (u : Undisturbed t.places t.commands t.trace c) (quiet : AbortsNone t c.root) where
  open c use {session as m, root as r}

  abbrev first : Happening
  first = happenings.Turn c.call

  abbrev after : List Happening
  after = c.before ++ first ∷ []

  abbrev own : r.session ≡ m
  own = call.own t whole c

  abbrev top : Born
  top = (call.placed t whole c).born

  -- ---- the session from the turn of the call on

  -- The COMMIT is pending, with no answer yet, or it has its answer.
  pub data State (k : NodeState) (told : List Answer) : Type 0 where
    Waits : (session_at k.sessions m).root ≡ Some r → (session_at k.sessions m).call ≡ pending.Commit → Lasts r k → told ≡ [] → State k told
    Done : (session_at k.sessions m).root ≡ None → told ≡ commit_complete ∷ [] → State k told

  -- what is known of the root's node as a message comes
  module _ (k : NodeState) (input : Input) (zs : List Happening) (h : Turn) (rest : List Happening) (is : zs ++ happenings.Turn h ∷ rest ≡ t.trace) (mid : List Happening) (at : after ++ mid ≡ zs) (may : MayTurn t.places (f_at t zs) h k) (here : h.node ≡ r.node) where
    open at_turn t whole zs h rest is use {s as z, part, lawful as lawful_z}

    since : Part z lawful_z c.before
    since = record { rest = first ∷ mid; is = sym (append_assoc c.before (first ∷ []) mid) ∙ at }

    goes : (from to : BranchId) (kind : Kind) → Came h.input from to kind → GoesSo (Began (births_of z)) from to kind
    goes from to kind came = came_so (GoesSo (Began (births_of z))) (f_at t zs) (messages_are_of_neighbors z lawful_z) k h.node h.input h.took may.comes from to kind came

    -- nothing comes that upsets the COMMIT
    undisturbed : (from : BranchId) (kind : Kind) → Came h.input from r kind → disturbs kind ≡ false
    undisturbed from kind came =
        let all : NoneComesIn (branches_in (births_of t) r) (happenings.Turn h) = all_at (NoneComesIn (branches_in (births_of t) r)) zs (happenings.Turn h) rest (subst (AllByRecursion (NoneComesIn (branches_in (births_of t) r))) (sym is) u.calm) in
        let end : born_at (births_of t) r ≡ Some top = subst (λ b. born_at (births_of t) b ≡ Some top) (call.top_me t whole c) (born_end t whole c.before (call.part0 t whole c) top (call.placed t whole c).began) in
        let its : StandsBelow (Began (births_of t)) top top.parent = all_found (λ x. StandsBelow (Began (births_of t)) x x.parent) born_id (births_of t) r top (births_are_trees t whole) end in
        let up : StandsBelow (Began (births_of t)) top None = subst (StandsBelow (Began (births_of t)) top) (call.top_parent t whole c) its in
        let among : is_among r (branches_in (births_of t) r) ≡ true = is_in (births_of t) r r top end (up.0 ∙ call.top_me t whole c) in
        let calm : (is_among r (branches_in (births_of t) r) && disturbs kind) ≡ false = sym (ap (is_disturbed (branches_in (births_of t) r)) came.is) ∙ all in
        sym (ap (λ q. q && disturbs kind) among) ∙ calm

    unaborted : (from : BranchId) → Came h.input from r kinds.Abort → ⊥
    unaborted from came =
        let child : IsChild (Began (births_of z)) from r = goes from r kinds.Abort came in
        let sent : was_sent is_abort (said_in (f_at t zs)) from r ≡ true
        = came_so (λ a b kind. is_abort kind ≡ true → was_sent is_abort (said_in (f_at t zs)) a b ≡ true) (f_at t zs) (sent_from is_abort (f_at t zs).net.packets) k h.node h.input h.took may.comes from r kinds.Abort came refl in
        let end : was_sent is_abort (said_in (facts_at t)) from r ≡ true = sent_end t whole zs part is_abort from r sent in
        none_sent (λ a. (b : Born) × Began (births_of t) b × (b.me ≡ a) × (b.root ≡ r)) (facts_at t).net.packets (silent (facts_at t).net.packets quiet) from r
        (child.0, born_end t whole zs part child.0 child.1, child.2, call.child_root t whole c zs part since child.0 child.1 child.3) end
      where
        silent : (xs : List Packet) → AllByRecursion (λ x. (b : Born) → Began (births_of t) b → b.me ≡ x.msg.from → b.root ≡ r → x.msg.kind ≢ kinds.Abort) xs
            → AllByRecursion (λ x. ((b : Born) × Began (births_of t) b × (b.me ≡ x.msg.from) × (b.root ≡ r)) → x.msg.kind ≢ kinds.Abort) xs
        silent [] all = tt
        silent (x ∷ xs) all = ((λ b. all.0 b.0 b.1 b.2 b.3), silent xs all.1)

    pub calm_so : (from : BranchId) (kind : Kind) → Came h.input from r kind → upsets kind ≡ false
    calm_so from (kinds.Prepare site_below comment) came = absurd (call.no_child t whole c zs part since from (goes from r (kinds.Prepare site_below comment) came))
    calm_so from kinds.Abort came = absurd (unaborted from came)
    calm_so from kinds.Rollback came = undisturbed from kinds.Rollback came
    calm_so from kinds.RolledBack came = undisturbed from kinds.RolledBack came
    calm_so from kinds.Ask came = undisturbed from kinds.Ask came
    calm_so from _ came = refl

    below_so : (from to : BranchId) (call : ℕ) (task : Task) → Came h.input from to (kinds.Exec call task) → (l : Live) → live_at k to ≡ Some l → l.parent ≢ None
    below_so from to call task came l live = asked_parent (births_of z) k (nodes_name_the_born z lawful_z h.node k may.up) from to (goes from to (kinds.Exec call task) came) l live

    module _ (told : List Answer) (state : State k told) where
      only : (b : BranchId) → (session_at k.sessions m).root ≡ Some b → b ≡ r
      only b root = by state
        where
          by : State k told → b ≡ r
          by (Waits has call lasts none) = (let both : Some r ≡ Some b = sym has ∙ root in let it : r ≡ b = cc in sym it)
          by (Done free all) = (let both : None ≡ Some b = sym free ∙ root in absurd cc)

      commits : (session_at k.sessions m).root ≡ Some r → (session_at k.sessions m).call ≡ pending.Commit
      commits root = by state
        where
          by : State k told → (session_at k.sessions m).call ≡ pending.Commit
          by (Waits has call lasts none) = call
          by (Done free all) = (let both : None ≡ Some r = sym free ∙ root in absurd cc)

      branch_of : (l : Live) → live_at k l.me ≡ Some l → branch_at k l.me ≡ Some (record { live = l; work = work_at k l.me })
      branch_of l live = ap (with_work k) live

      root_of : (x : Branch) → branch_at k x.live.me ≡ Some x → x.live.parent ≡ None → IsRootOf (session_at k.sessions x.live.me.session) x.live.me x.live.phase x.work.going
      root_of x live none = roots_wait z lawful_z h.node k may.up x live none

      rests : (x : Branch) → branch_at k x.live.me ≡ Some x → x.live.parent ≡ None → x.live.me.session ≡ m → x.work.going ≡ None
      rests x live none mine =
          let fit = root_of x live none in
          let root : (session_at k.sessions m).root ≡ Some x.live.me = subst (λ n. (session_at k.sessions n).root ≡ Some x.live.me) mine fit.root in
          let its : x.live.me ≡ r = only x.live.me root in
          let call : (session_at k.sessions m).call ≡ pending.Commit = commits (root ∙ ap Some its) in
          subst (λ a. RootWaits a x.live.phase x.work.going) (ap (λ n. (session_at k.sessions n).call) mine ∙ call) fit.waits

      top_of : (l : Live) → live_at k r ≡ Some l → (l.parent ≡ None) × (way_of l.phase ≢ Some false)
      top_of l live =
          let its_me : l.me ≡ r = item_is live_id k.lives r l live in
          let mine : live_at k l.me ≡ Some l = subst (λ b. live_at k b ≡ Some l) (sym its_me) live in
          let its : LiveIs (Began (births_of z)) l = all_found (LiveIs (Began (births_of z))) live_id k.lives l.me l (nodes_name_the_born z lawful_z h.node k may.up).0 mine in
          let one : born_at (births_of z) r ≡ Some its.born = subst (λ b. born_at (births_of z) b ≡ Some its.born) (its.is_me ∙ its_me) its.began in
          let both : Some its.born ≡ Some top = sym one ∙ call.began t whole c zs part since in
          let same_born : its.born ≡ top = cc in
          let parent : l.parent ≡ None = sym its.is_parent ∙ (ap (λ (x : Born). x.parent) same_born ∙ call.top_parent t whole c) in
          (parent, (live_told z lawful_z h.node k may.up l mine).root parent)

      known : Known m r own h.input k
      known = record {
        only = only;
        commits = commits;
        roots = λ l live none. (root_of (record { live = l; work = work_at k l.me }) (branch_of l live) none).root;
        rests = rests;
        below = below_so;
        top = top_of;
        calm = calm_so;
      }

      known_heard : (x : Msg) → h.input ≡ inputs.Message x → Known m r own h.input (heard k h.input)
      known_heard x message =
          let now = known in
          subst (λ i. Known m r own h.input (heard k i)) (sym message) (record { only = now.only; commits = now.commits; roots = now.roots; rests = now.rests; below = now.below; top = now.top; calm = now.calm })

      -- ---- its turn

      abbrev d : TurnDraft
      d = draft_of (place_at t.places h.node) k h.input

      abbrev k1 : NodeState
      k1 = heard k h.input

      next_lasts : (x : Msg) → h.input ≡ inputs.Message x → Lasts r k → Lasts r k1
      next_lasts x message lasts = subst (λ i. Lasts r (heard k i)) (sym message) lasts

      effect : (x : Msg) → h.input ≡ inputs.Message x → Effect m r own h.input k1 d
      effect x message =
          effect_on m r own h.input (place_at t.places h.node) (record { calls = λ n s call. (let it : inputs.Message x ≡ inputs.Call n s = sym message ∙ call in absurd cc); gives_up = λ n gives. (let it : inputs.Message x ≡ inputs.GiveUp n = sym message ∙ gives in absurd cc) })
          (serves t.places (f_at t zs) h k may).step (known_heard x message)

      pub state_next : (x : Msg) → h.input ≡ inputs.Message x → State d.after (told ++ answers_of m d.ended)
      state_next x message = by (effect x message) state
        where
          sessions : k1.sessions ≡ k.sessions
          sessions = sessions_heard k h.input

          root_is : (o : Option BranchId) → (session_at k.sessions m).root ≡ o → (session_at k1.sessions m).root ≡ o
          root_is o root = ap (λ (ss : List Session). (session_at ss m).root) sessions ∙ root

          by : Effect m r own h.input k1 d → State k told → State d.after (told ++ answers_of m d.ended)
          by (inl goes_on) (Waits root call lasts none) =
              let same_session : session_at d.after.sessions m ≡ session_at k.sessions m = goes_on.0.same ∙ ap (λ (ss : List Session). session_at ss m) sessions in
              Waits (ap (λ (s : Session). s.root) same_session ∙ root) (ap (λ (s : Session). s.call) same_session ∙ call) (goes_on.1 (root_is (Some r) root) (next_lasts x message lasts))
              (ap (λ xs. xs ++ answers_of m d.ended) none ∙ goes_on.0.quiet)
          by (inl goes_on) (Done free all) =
              let same_session : session_at d.after.sessions m ≡ session_at k.sessions m = goes_on.0.same ∙ ap (λ (ss : List Session). session_at ss m) sessions in
              Done (ap (λ (s : Session). s.root) same_session ∙ free) (ap (λ xs. xs ++ answers_of m d.ended) all ∙ ap (λ xs. commit_complete ∷ xs) goes_on.0.quiet)
          by (inr done) (Waits root call lasts none) = Done done.2 (ap (λ xs. xs ++ answers_of m d.ended) none ∙ done.1)
          by (inr done) (Done free all) = (let both : None ≡ Some r = sym (root_is None free) ∙ done.0 in absurd cc)
