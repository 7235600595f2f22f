-- Each turn of a lawful run leaves the calls of branches below roots as its tales say.
use Rattle.std.proofs.Common.{◌≡◌, ℕ, List, ◌∷◌, ◌++◌, Option, Some, None, refl, sym, ap, subst, ◌∙◌}
use Rattle.std.specs.Prelude.{IfSome}
use Rattle.tran_ids.proofs.ListedLemmas.{item_is}
use Rattle.node_rules.specs.Data.{Answer, Task, BranchId, Kind, Live, Msg, Input}
use Rattle.node_rules.specs.Data.inputs
use Rattle.node_rules.specs.Data.kinds
use Rattle.node_rules.specs.Words.{item_at}
use Rattle.node_rules.specs.Inputs.{Came}
use Rattle.node_rules.specs.NodeState.{TurnDraft, live_id, work_id, live_at}
use Rattle.node_rules.specs.LiveBranches.{works_of, EachLive}
use Rattle.node_rules.specs.Turn.{heard, draft_of, kind_turn, status_of}
use Rattle.node_rules.proofs.LiveLemmas.{each_same}
use Rattle.run_rules.specs.Births.{Born, born_at}
use Rattle.run_base_laws.specs.BirthLaws.{Began, IsChild, LiveIs, GoesSo}
use Rattle.run_rules.specs.Data.{Turn, Happening}
use Rattle.run_rules.specs.Data.happenings
use Rattle.run_base_laws.specs.InTurnLaws.{said_in}
use Rattle.run_rules.specs.Lawful.{History, IsLawfulRun}
use Rattle.run_base_laws.specs.RunEvents.{events_of}
use Rattle.run_base_laws.proofs.BirthLemmas.{news_of}
use Rattle.run_base_laws.proofs.BirthRunLemmas.{StandBorn, run_births, messages_are_of_neighbors, nodes_name_the_born}
use Rattle.run_base_laws.proofs.BirthsStandLemmas.{all_unborn, came_so}
use Rattle.run_base_laws.proofs.EventsStandLemmas.{node_so, owned_so}
use Rattle.run_base_laws.proofs.InTurnRunLemmas.{NodeCalls, run_calls}
use Rattle.run_base_laws.proofs.KidLemmas.{above_of, child_parent}
use Rattle.run_base_laws.proofs.LawfulLemmas.{serves}
use Rattle.run_rules.proofs.ListLemmas.{all_weaker}
use Rattle.run_base_laws.proofs.NeighborLemmas.{News}
use Rattle.run_base_laws.proofs.NodeLemmas.{kept_alone}
use Rattle.run_base_laws.proofs.OwnLemmas.{all_found}
use Rattle.run_base_laws.proofs.RootLemmas.{SessionsFit, sessions_keep}
use Rattle.run_base_laws.proofs.TurnEventLemmas.{number_is}
use Rattle.answer_origin_laws.proofs.ExecLemmas.{exec_tales, reply_tales}
use Rattle.answer_origin_laws.proofs.PlainLemmas.{Was, HadNone, plain_on}
use Rattle.answer_origin_laws.proofs.TaleLemmas.{Stays, Told, Tales, mute_good, mute_replies, came_one}
use Rattle.tree_laws.proofs.AtTurn.{at_turn}

module _ (t : History) (whole : IsLawfulRun t) (hs : List Happening) (u : Turn) (rest : List Happening) (is : hs ++ happenings.Turn u ∷ rest ≡ t.trace) where
  open at_turn t whole hs u rest is use {s as s0, lawful as lawful0, f as f0, may, k, heard_k as kk, p, bs as bs0}

  stand : StandBorn t.places t.commands t.of_a_script.each f0 (events_of s0) bs0
  stand = run_births s0 lawful0

  pub number : p.number ≡ u.node
  number = number_is t.places t.commands t.of_a_script.each f0 u.node k stand.0.1.many may.1.up

  -- ---- what the node keeps as the turn begins

  node_calls : NodeCalls (said_in f0) k
  node_calls = subst (λ o. IfSome o (NodeCalls (said_in f0))) may.1.up ((run_calls s0 lawful0).nodes u.node)

  heard_lives : (input : Input) → (heard k input).lives ≡ k.lives
  heard_lives (inputs.Message m) = refl
  heard_lives (inputs.Call n s) = refl
  heard_lives (inputs.GiveUp n) = refl
  heard_lives inputs.Reco = refl
  heard_lives inputs.Checkpoint = refl

  pub heard_works : (input : Input) → (heard k input).works ≡ k.works
  heard_works (inputs.Message m) = refl
  heard_works (inputs.Call n s) = refl
  heard_works (inputs.GiveUp n) = refl
  heard_works inputs.Reco = refl
  heard_works inputs.Checkpoint = refl

  pub heard_stored : (input : Input) → (heard k input).stored ≡ k.stored
  heard_stored (inputs.Message m) = refl
  heard_stored (inputs.Call n s) = refl
  heard_stored (inputs.GiveUp n) = refl
  heard_stored inputs.Reco = refl
  heard_stored inputs.Checkpoint = refl

  pub there : (b : BranchId) → item_at live_id k.lives b ≡ None → item_at work_id k.works b ≡ None
  there = node_calls.there

  pub heard_there : (b : BranchId) → item_at live_id kk.lives b ≡ None → item_at work_id kk.works b ≡ None
  heard_there b none = subst (λ ws. item_at work_id ws b ≡ None) (sym (heard_works u.input)) (there b (subst (λ ls. item_at live_id ls b ≡ None) (heard_lives u.input) none))

  fit : SessionsFit k
  fit = kept_alone SessionsFit sessions_keep s0 lawful0 u.node k may.1.up

  heard_fit : (input : Input) → SessionsFit (heard k input)
  heard_fit (inputs.Message m) = record { roots = fit.roots; above = fit.above }
  heard_fit (inputs.Call n s) = fit
  heard_fit (inputs.GiveUp n) = fit
  heard_fit inputs.Reco = fit
  heard_fit inputs.Checkpoint = fit

  not_live : (b : BranchId) → born_at bs0 b ≡ None → (o : Option Live) → item_at live_id k.lives b ≡ o → o ≡ None
  not_live b unborn None none = refl
  not_live b unborn (Some l) some =
      let born : LiveIs (Began bs0) l = all_found (LiveIs (Began bs0)) live_id k.lives b l (nodes_name_the_born s0 lawful0 u.node k may.1.up).0 some in
      let at : born_at bs0 b ≡ Some born.born = subst (λ c. born_at bs0 c ≡ Some born.born) (born.is_me ∙ item_is live_id k.lives b l some) born.began in
      absurd (cc (at, unborn))

  news : (none : (from to : BranchId) (call : ℕ) (task : Task) → Came u.input from to (kinds.Exec call task) → ⊥)
      → (never : (from to : BranchId) (call : ℕ) (weight : Option ℕ) (count : ℕ) (a : Answer) → Came u.input from to (kinds.Reply call weight count a) → ⊥) → News (HadNone kk p u.input none never) p u.input kk
  news none never =
      news_of _ p k u.input
      (all_weaker (λ (y : Born). born_at bs0 y.me ≡ None) _ (λ y unborn. subst (λ ws. item_at work_id ws y.me ≡ None) (sym (heard_works u.input)) (there y.me (not_live y.me unborn (item_at live_id k.lives y.me) refl))) _
      (all_unborn t.places t.commands t.of_a_script.each f0 (events_of s0) bs0 u k stand.0.1 stand.0.0.even (node_so t.places t.commands t.of_a_script.each f0 (events_of s0) stand.0)
      (owned_so t.places t.commands t.of_a_script.each f0 (events_of s0) stand.0) may.1 number stand.1))

  -- ---- the tales

  plain : ((from to : BranchId) (call : ℕ) (task : Task) → Came u.input from to (kinds.Exec call task) → ⊥)
      → ((from to : BranchId) (call : ℕ) (weight : Option ℕ) (count : ℕ) (a : Answer) → Came u.input from to (kinds.Reply call weight count a) → ⊥) → Tales kk u.input (draft_of p k u.input)
  plain none never =
      let now : EachLive (Was kk p u.input none never) kk.lives kk.works = record { there = heard_there; each = λ b l found below. ap (λ c. (works_of kk.works c).came) (sym (item_is live_id kk.lives b l found)) } in
      let left = plain_on kk p u.input none never (serves t.places f0 u k may.1).step (heard_fit u.input) (news none never) now in
      let d : TurnDraft = draft_of p k u.input in (
        each_same (Was kk p u.input none never) (Told kk u.input d.says d.ended) d.after.lives d.after.works left.0
            (λ y v live any was below. Stays (was below) (mute_replies y.me d.says left.1) (λ from call task came. absurd (none from y.me call task came))),
        mute_good kk u.input d.after.lives d.says left.1,
      )

  -- the parent of a branch calls it
  above : (m : Msg) → u.input ≡ inputs.Message m → (call : ℕ) (task : Task) → m.kind ≡ kinds.Exec call task → (l : Live) → live_at kk m.to ≡ Some l → l.parent ≡ Some m.from
  above m input call task kind l live =
      let came : Came u.input m.from m.to (kinds.Exec call task) = record { scn = m.scn; is = input ∙ ap (λ x. inputs.Message (record { from = m.from; to = m.to; scn = m.scn; kind = x })) kind } in
      let child : IsChild (Began bs0) m.to m.from = came_so (GoesSo (Began bs0)) f0 (messages_are_of_neighbors s0 lawful0) k u.node u.input u.took may.1.comes m.from m.to (kinds.Exec call task) came in
      let found : item_at live_id k.lives m.to ≡ Some l = subst (λ ls. item_at live_id ls m.to ≡ Some l) (heard_lives u.input) live in
      let lives : LiveIs (Began bs0) l = all_found (LiveIs (Began bs0)) live_id k.lives m.to l (nodes_name_the_born s0 lawful0 u.node k may.1.up).0 found in
      above_of bs0 l lives m.from (child_parent bs0 l.me m.from (subst (λ b. IsChild (Began bs0) b m.from) (sym (item_is live_id k.lives m.to l found)) child))

  abbrev HasTales : Input → Type 0
  HasTales input = Tales (heard k input) input (draft_of p k input)

  message : (m : Msg) → u.input ≡ inputs.Message m → (kind : Kind) → m.kind ≡ kind → HasTales (inputs.Message m)
  message m input (kinds.Exec call task) kind =
      subst (λ x. Tales (heard k (inputs.Message m)) (inputs.Message m) (kind_turn p (heard k (inputs.Message m)) m.from m.to x (status_of (heard k (inputs.Message m)) m.to))) (sym kind)
      (exec_tales (heard k (inputs.Message m)) m (subst (λ i. (b : BranchId) → item_at live_id (heard k i).lives b ≡ None → item_at work_id (heard k i).works b ≡ None) input heard_there) p call task kind
      (subst (λ i. (l : Live) → live_at (heard k i) m.to ≡ Some l → l.parent ≡ Some m.from) input (above m input call task kind)))
  message m input (kinds.Reply call weight count a) kind =
      subst (λ x. Tales (heard k (inputs.Message m)) (inputs.Message m) (kind_turn p (heard k (inputs.Message m)) m.from m.to x (status_of (heard k (inputs.Message m)) m.to))) (sym kind)
      (reply_tales (heard k (inputs.Message m)) m (subst (λ i. (b : BranchId) → item_at live_id (heard k i).lives b ≡ None → item_at work_id (heard k i).works b ≡ None) input heard_there) call weight count a kind)
  message m input kind is =
      subst HasTales input (plain
      (λ from to call task came. (let both = (came_one (subst (λ i. Came i from to (kinds.Exec call task)) input came)).2 in let it : kind ≡ kinds.Exec call task = sym is ∙ both in absurd cc))
      (λ from to call weight count a came. (let both = (came_one (subst (λ i. Came i from to (kinds.Reply call weight count a)) input came)).2 in let it : kind ≡ kinds.Reply call weight count a = sym is ∙ both in absurd cc)))

  other_input : (input : Input) → u.input ≡ input → ((m : Msg) → input ≡ inputs.Message m → ⊥) → HasTales u.input
  other_input input at never = plain (λ from to call task came. absurd (never _ (sym at ∙ came.is))) (λ from to call weight count a came. absurd (never _ (sym at ∙ came.is)))

  by_input : (input : Input) → u.input ≡ input → HasTales u.input
  by_input (inputs.Message m) at = subst HasTales (sym at) (message m at m.kind refl)
  by_input (inputs.Call n s) at = other_input _ at (λ m it. absurd cc)
  by_input (inputs.GiveUp n) at = other_input _ at (λ m it. absurd cc)
  by_input inputs.Reco at = other_input _ at (λ m it. absurd cc)
  by_input inputs.Checkpoint at = other_input _ at (λ m it. absurd cc)

  pub turn_tales : Tales kk u.input (draft_of p k u.input)
  turn_tales = by_input u.input refl
