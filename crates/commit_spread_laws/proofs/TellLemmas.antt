-- In every lawful run a branch that knows a commit has told it to each neighbour beyond, or its node has stopped since.
use Rattle.std.proofs.Common.{◌≡◌, ◌≢◌, ℕ, Bool, true, false, List, [], ◌∷◌, ◌++◌, map, Option, Some, None, inl, inr, refl, sym, ap, subst, ◌∙◌, append-nil}
use Rattle.std.specs.Prelude.{◌⊎◌, IfSome}
use Rattle.std.specs.Option.{option_to_list}
use Rattle.std.specs.List.{AllByRecursion}
use Rattle.tran_ids.proofs.ListedLemmas.{item_is}
use Rattle.session_tree.specs.Live.{is_branch}
use Rattle.agreement.specs.Events.{Forest, Event, Sealed, Decided, Quiet, Beyond, first, only_at, exit, learned, Knows}
use Rattle.agreement.proofs.EventLemmas.{first_is, only_at_is}
use Rattle.node_rules.specs.Data.{BranchId, Place, RedoRecord, KeptRow}
use Rattle.node_rules.specs.Data.decisions
use Rattle.node_rules.specs.Data.records
use Rattle.node_rules.specs.Words.{item_at}
use Rattle.node_rules.specs.NodeState.{NodeState, TurnDraft, kept_row_id}
use Rattle.node_rules.specs.Turn.{turn_of, heard, draft_of}
use Rattle.run_rules.specs.Data.{Turn, Happening}
use Rattle.run_rules.specs.Data.happenings
use Rattle.run_base_laws.specs.EventLaws.{EachEventFrom}
use Rattle.run_rules.specs.Facts.{first_facts, place_at, records_at, facts_after}
use Rattle.run_base_laws.specs.IdLaws.{IsRecordOf}
use Rattle.run_base_laws.specs.InTurnLaws.{post_of, said_in}
use Rattle.run_rules.specs.Lawful.{IsOwed, MayHappen, MayTurn, History, IsLawfulRun}
use Rattle.run_base_laws.specs.RunEvents.{with_event, wrote_event, events_after, events_from, events_of}
use Rattle.run_branch_laws.specs.WalkLaws.{was_sent}
use Rattle.run_rules.proofs.AtNodeLemmas.{turn_here}
use Rattle.run_base_laws.proofs.EventsStandLemmas.{run_stands}
use Rattle.run_base_laws.proofs.LaterLemmas.{Added, Later, learned_same, exit_made, later_learned, turn_added, stop_added}
use Rattle.run_base_laws.proofs.LawfulLemmas.{serves}
use Rattle.run_base_laws.proofs.OwnLemmas.{all_found}
use Rattle.run_base_laws.proofs.SaidPostLemmas.{posts_back, posts_of, said_after}
use Rattle.run_branch_laws.proofs.TowardLemmas.{heard_rows}
use Rattle.tree_laws.specs.BeyondLaws.{RecordHeard, WritesHeard}
use Rattle.tree_laws.specs.Forests.{forest_of}
use Rattle.tree_laws.specs.NameLaws.{RowNames, NodesName}
use Rattle.tree_laws.proofs.AskLemmas.{sent_more, sent_new}
use Rattle.tree_laws.proofs.ClearLemmas.{not_back}
use Rattle.tree_laws.proofs.NameLemmas.{rows_name_beyond}
use Rattle.tree_laws.proofs.PrefixLemmas.{so_far, f_at, e_at, one_on, more_on}
use Rattle.tree_laws.proofs.SettleRunLemmas.{records_heard}
use Rattle.tree_laws.proofs.SiteLemmas.{later_undecided}
use Rattle.tree_laws.proofs.TimeLemmas.{may_of, each_at, exit_end, keep_on}
use Rattle.commit_laws.specs.WaitLaws.{NodeHasStopped}
use Rattle.commit_laws.proofs.StopLemmas.{stopped_on, cut_stops}
use Rattle.commit_spread_laws.specs.TellLaws.{is_commit_at, CommitsAreTold}
use Rattle.tree_laws.proofs.FitRowLemmas.{RowFits, rows_fit}
use Rattle.tree_laws.proofs.MoreLemmas.{forest, inv_at}
use Rattle.commit_spread_laws.proofs.TellStepLemmas.{TellsByRow, TellsCommit, tells_on, named_beyond}
use Rattle.tree_laws.proofs.AtTurn.{at_happening}

-- ---- what teaches a branch a commit

-- a record says that a branch knows the commit of this SCN
abbrev Teaches : BranchId → ℕ → Option RedoRecord → Type 0
Teaches b n (Some (records.Decided r)) = (r.me ≡ b) × (r.scn ≡ n)
Teaches b n (Some (records.Ended c (decisions.Commit m))) = (c ≡ b) × (m ≡ n)
Teaches b n (Some (records.Met c (decisions.Commit m) mixed)) = (c ≡ b) × (m ≡ n)
Teaches b n _ = ⊥

no_more : {A : Type 0} (o : Option A) (a : A) → first o None ≡ Some a → o ≡ Some a
no_more None a is = absurd cc
no_more (Some x) a is = is

knew : (t : List Event) (b : BranchId) (n : ℕ) → (first (exit t b) None ≡ Some (Decided n)) ⊎ (first (learned t b) None ≡ Some (decisions.Commit n)) → Knows t b n
knew t b n (inl is) = inl (no_more (exit t b) (Decided n) is)
knew t b n (inr is) = inr (no_more (learned t b) (decisions.Commit n) is)

wrote_known : (node : ℕ) (t : List Event) (w : Option RedoRecord) (b : BranchId) (n : ℕ) → Knows (with_event (wrote_event node w) t) b n → Knows t b n ⊎ Teaches b n w
wrote_known node t None b n is = inl is
wrote_known node t (Some (records.Sealed r)) b n (inl is) = elim (first_is (exit t b) (only_at r.me b (Sealed r.scn)) (Decided n) is) [
  | inl old ↦ inl (inl old)
  | inr new ↦ (let at = only_at_is r.me b (Sealed r.scn) (Decided n) new.1 in absurd (cc (at.1)))
]
wrote_known node t (Some (records.Sealed r)) b n (inr is) = inl (inr (no_more (learned t b) (decisions.Commit n) is))
wrote_known node t (Some (records.Decided r)) b n (inl is) = elim (first_is (exit t b) (only_at r.me b (Decided r.scn)) (Decided n) is) [
  | inl old ↦ inl (inl old)
  | inr new ↦ (let at = only_at_is r.me b (Decided r.scn) (Decided n) new.1 in inr (at.0, cc (at.1)))
]
wrote_known node t (Some (records.Decided r)) b n (inr is) = inl (inr (no_more (learned t b) (decisions.Commit n) is))
wrote_known node t (Some (records.Ended c d)) b n (inl is) = inl (inl (no_more (exit t b) (Decided n) is))
wrote_known node t (Some (records.Ended c (decisions.Commit m))) b n (inr is) = elim (first_is (learned t b) (only_at c b (decisions.Commit m)) (decisions.Commit n) is) [
  | inl old ↦ inl (inr old)
  | inr new ↦ (let at = only_at_is c b (decisions.Commit m) (decisions.Commit n) new.1 in inr (at.0, cc (at.1)))
]
wrote_known node t (Some (records.Ended c decisions.Rollback)) b n (inr is) = elim (first_is (learned t b) (only_at c b decisions.Rollback) (decisions.Commit n) is) [
  | inl old ↦ inl (inr old)
  | inr new ↦ (let at = only_at_is c b decisions.Rollback (decisions.Commit n) new.1 in absurd (cc (at.1)))
]
wrote_known node t (Some (records.Met c d mixed)) b n (inl is) = inl (inl (no_more (exit t b) (Decided n) is))
wrote_known node t (Some (records.Met c (decisions.Commit m) mixed)) b n (inr is) = elim (first_is (learned t b) (only_at c b (decisions.Commit m)) (decisions.Commit n) is) [
  | inl old ↦ inl (inr old)
  | inr new ↦ (let at = only_at_is c b (decisions.Commit m) (decisions.Commit n) new.1 in inr (at.0, cc (at.1)))
]
wrote_known node t (Some (records.Met c decisions.Rollback mixed)) b n (inr is) = elim (first_is (learned t b) (only_at c b decisions.Rollback) (decisions.Commit n) is) [
  | inl old ↦ inl (inr old)
  | inr new ↦ (let at = only_at_is c b decisions.Rollback (decisions.Commit n) new.1 in absurd (cc (at.1)))
]
wrote_known node t (Some (records.Forced c d given)) b n is = inl (knew t b n is)
wrote_known node t (Some (records.Forgot c)) b n is = inl (knew t b n is)
wrote_known node t (Some (records.Table table)) b n is = inl (knew t b n is)
wrote_known node t (Some _) b n is = inl is

-- messages and exits teach nobody
later_known : {before after : List BranchId} {t s : List Event} (b : BranchId) (n : ℕ) → Added (Later before after) t s → Knows s b n → Knows t b n
later_known b n more (inl is) = elim (exit_made b (Decided n) more is) [
  | inl old ↦ inl old
  | inr made ↦ absurd (later_undecided b n made.0 made.1 made.2)
]
later_known b n more (inr is) = inr (sym (learned_same b (λ e later. later_learned b e later) more) ∙ is)

-- the last item, where there is one
last_if : {A : Type 0} (P : A → Type 0) (xs : List A) (o : Option A) → AllByRecursion P (xs ++ option_to_list o) → IfSome o P
last_if P xs None all = tt
last_if P [] (Some a) all = all.0
last_if P (x ∷ xs) (Some a) all = last_if P xs (Some a) all.1

teaches_at : (b : BranchId) (n i : ℕ) (w : Option RedoRecord) → IfSome w (IsRecordOf (λ c. c.node ≡ i)) → Teaches b n w → i ≡ b.node
teaches_at b n i (Some (records.Decided r)) own is = sym own ∙ ap (λ (c : BranchId). c.node) is.0
teaches_at b n i (Some (records.Ended c (decisions.Commit m))) own is = sym own ∙ ap (λ (x : BranchId). x.node) is.0
teaches_at b n i (Some (records.Met c (decisions.Commit m) mixed)) own is = sym own ∙ ap (λ (x : BranchId). x.node) is.0
teaches_at b n i _ own is = absurd is

-- ---- every run

module _ (t : History) (whole : IsLawfulRun t) (b x : BranchId) (edge : Beyond (forest_of t) x b) (loud : exit (events_of t) x ≢ Some Quiet) where
  abbrev p : Forest
  p = forest_of t

  -- it told the commit, or its node has stopped
  abbrev Told : ℕ → List Happening → Type 0
  Told n hs = (was_sent (is_commit_at n) (said_in (f_at t hs)) b x ≡ true) ⊎ NodeHasStopped (f_at t hs) b

  abbrev ReportsAll : List Happening → Type 0
  ReportsAll hs = (n : ℕ) → Knows (e_at t hs) b n → Told n hs

  module _ (hs : List Happening) (h : Happening) (rest : List Happening) (is : hs ++ h ∷ rest ≡ t.trace) where
    open at_happening t whole hs h rest is use {f, e, after, part, lawful, lawful_after as lawful_z}

    said_is : said_in (f_at t after) ≡ said_in f ++ posts_of h
    said_is = ap said_in (one_on t hs h) ∙ said_after t.places t.commands f h

    left_of : (n : ℕ) → Knows e b n → exit e b ≢ None
    left_of n (inl decided) none = absurd (cc (decided, none))
    left_of n (inr learnt) none = (let sealed = (inv_at t whole hs part).learned_sealed b (decisions.Commit n) learnt in absurd (cc (sealed.1, none)))

    told_stays : (n : ℕ) → Knows e b n → Told n hs → Told n after
    told_stays n knows (inl sent) = inl (subst (λ xs. was_sent (is_commit_at n) xs b x ≡ true) (sym said_is) (sent_more (is_commit_at n) (said_in f) (posts_of h) b x sent))
    told_stays n knows (inr stopped) = inr (stopped_on t whole b hs h rest is (left_of n knows) stopped)

    -- ---- a turn in which it learns of it

    module _ (u : Turn) (turn : h ≡ happenings.Turn u) (k : NodeState) (may : MayTurn t.places f u k) (n : ℕ) (teaches : Teaches b n u.wrote) where
      abbrev place : Place
      place = place_at t.places u.node

      abbrev d : TurnDraft
      d = draft_of place k u.input

      abbrev k0 : NodeState
      k0 = heard k u.input

      node : u.node ≡ b.node
      node =
          let here : records_at (facts_after t.places t.commands f (happenings.Turn u)) u.node ≡ records_at f u.node ++ option_to_list u.wrote = (turn_here t.places t.commands f (run_stands (so_far t hs) lawful).0.even u k may.up).1 in
          let its : records_at (facts_after t.places t.commands f h) u.node ≡ records_at f u.node ++ option_to_list u.wrote
          = subst (λ (y : Happening). records_at (facts_after t.places t.commands f y) u.node ≡ records_at f u.node ++ option_to_list u.wrote) (sym turn) here in
          let mine : records_at (f_at t after) u.node ≡ records_at f u.node ++ option_to_list u.wrote = subst (λ g. records_at g u.node ≡ records_at f u.node ++ option_to_list u.wrote) (sym (one_on t hs h)) its in
          let own : AllByRecursion (IsRecordOf (λ c. c.node ≡ u.node)) (records_at f u.node ++ option_to_list u.wrote)
          = subst (λ rs. AllByRecursion (IsRecordOf (λ c. c.node ≡ u.node)) rs) mine ((run_stands (so_far t after) lawful_z).1.own u.node) in
          teaches_at b n u.node u.wrote (last_if (IsRecordOf (λ c. c.node ≡ u.node)) (records_at f u.node) u.wrote own) teaches

      -- a neighbour beyond is named, since it is not gone without changes
      quiet_not : exit e x ≡ Some Quiet → ⊥
      quiet_not quiet = loud (exit_end t whole hs part x Quiet quiet)

      names : AllByRecursion (RowNames p e) k.stored.durable.kept
      names =
          each_at t.places t.commands (NodesName p) (first_facts t.places) hs h rest [] (subst (λ xs. EachEventFrom (NodesName p) t.places t.commands (first_facts t.places) [] xs) (sym is) (rows_name_beyond t whole))
          u.node k may.up

      record_heard : IfSome u.wrote (RecordHeard p e)
      record_heard =
          let at : WritesHeard p f e h = each_at t.places t.commands (WritesHeard p) (first_facts t.places) hs h rest [] (subst (λ xs. EachEventFrom (WritesHeard p) t.places t.commands (first_facts t.places) [] xs) (sym is) (records_heard t whole)) in
          subst (WritesHeard p f e) turn at

      -- by its row
      row_told : (c : BranchId) (m : ℕ) → c ≡ b → TellsByRow k0 u.input d.says c m → was_sent (is_commit_at m) d.says c x ≡ true
      row_told c m me tells =
          let s : KeptRow = tells.0 in
          let there : item_at kept_row_id k.stored.durable.kept c ≡ Some s = subst (λ ks. item_at kept_row_id ks c ≡ Some s) (heard_rows k u.input) tells.1 in
          let mine : s.me ≡ b = item_is kept_row_id k.stored.durable.kept c s there ∙ me in
          let edge_s : Beyond p x s.me = subst (Beyond p x) (sym mine) edge in
          let fits : RowFits p s.me s.toward = all_found (λ (y : KeptRow). RowFits p y.me y.toward) kept_row_id k.stored.durable.kept c s (rows_fit t whole hs part u.node k may.up) there in
          let named : RowNames p e s = all_found (RowNames p e) kept_row_id k.stored.durable.kept c s names there in
          elim (named x edge_s) [
            | inl here ↦ tells.2 x (named_beyond s x (apart s edge_s fits) here)
            | inr quiet ↦ absurd (quiet_not quiet)
          ]
        where
          apart : (s : KeptRow) → Beyond p x s.me → RowFits p s.me s.toward → is_branch x s.toward ≡ false
          apart s edge_s (inl way) = ap (is_branch x) way.0 ∙ not_back p (forest t whole) x s.me (p.toward s.me) edge_s way.1 way.2 refl
          apart s edge_s (inr none) = ap (is_branch x) none.0

      sent_as : (c : BranchId) (m : ℕ) → c ≡ b → m ≡ n → was_sent (is_commit_at m) d.says c x ≡ true → was_sent (is_commit_at n) d.says b x ≡ true
      sent_as c m me scn sent = subst (λ j. was_sent (is_commit_at j) d.says b x ≡ true) scn (subst (λ i. was_sent (is_commit_at m) d.says i x ≡ true) me sent)

      by_record : (w : Option RedoRecord) → Teaches b n w → IfSome w (TellsCommit k0 u.input d.says) → IfSome w (RecordHeard p e) → was_sent (is_commit_at n) d.says b x ≡ true
      by_record (Some (records.Decided r)) is_it tells of_it = elim (of_it.2 x (subst (Beyond p x) (sym is_it.0) edge)) [
        | inl here ↦ sent_as r.me r.scn is_it.0 is_it.1 (tells x here.0)
        | inr quiet ↦ absurd (quiet_not quiet)
      ]
      by_record (Some (records.Ended c (decisions.Commit m))) is_it tells of_it = sent_as c m is_it.0 is_it.1 (row_told c m is_it.0 tells)
      by_record (Some (records.Met c (decisions.Commit m) mixed)) is_it tells of_it = sent_as c m is_it.0 is_it.1 (row_told c m is_it.0 tells)
      by_record _ is_it tells of_it = absurd is_it

      tells_whole : IfSome d.wrote (TellsCommit k0 u.input d.says)
      tells_whole = tells_on k0 u.input place (serves t.places f u k may).step (λ no. refl)

      whole_turn : IsOwed place k u.input u.wrote u.sent false → Told n after
      unfolding turn_of
      whole_turn owed =
          let tells : IfSome u.wrote (TellsCommit k0 u.input d.says) = subst (λ w. IfSome w (TellsCommit k0 u.input d.says)) (sym owed.0) tells_whole in
          let posts : posts_of h ≡ d.says = ap posts_of turn ∙ (ap (λ xs. map post_of xs) owed.1 ∙ posts_back d.after.clock d.says) in
          let sent : was_sent (is_commit_at n) (posts_of h) b x ≡ true = subst (λ xs. was_sent (is_commit_at n) xs b x ≡ true) (sym posts) (by_record u.wrote teaches tells record_heard) in
          inl (subst (λ xs. was_sent (is_commit_at n) xs b x ≡ true) (sym said_is) (sent_new (is_commit_at n) (said_in f) (posts_of h) b x sent))

      by_cut : (cut : Bool) → u.cut ≡ cut → IsOwed place k u.input u.wrote u.sent cut → Told n after
      by_cut true cut owed = inr (cut_stops t whole b hs h rest is u turn k may.up node cut)
      by_cut false cut owed = whole_turn owed

      told_now : Told n after
      told_now = by_cut u.cut refl may.owed

    -- ---- each happening

    new_or_old : (y : Happening) → h ≡ y → MayHappen t.places t.commands f y → (n : ℕ) → Knows (events_after t.places t.commands f y e) b n → Knows e b n ⊎ Told n after
    new_or_old (happenings.Turn u) turn may n knows = elim (wrote_known u.node e u.wrote b n (later_known b n (turn_added f (facts_after t.places t.commands f (happenings.Turn u)) u e) knows)) [
      | inl old ↦ inl old
      | inr teaches ↦ inr (told_now u turn may.0 may.1 n teaches)
    ]
    new_or_old (happenings.Stopped m) it may n knows = inl (later_known b n (stop_added f (facts_after t.places t.commands f (happenings.Stopped m)) m e) knows)
    new_or_old (happenings.Started m boot) it may n knows = inl knows
    new_or_old (happenings.Begun c) it may n knows = inl knows
    new_or_old (happenings.Cut a c) it may n knows = inl knows
    new_or_old (happenings.Join a c) it may n knows = inl knows
    new_or_old (happenings.Lost m) it may n knows = inl knows

    tells_next : ReportsAll hs → ReportsAll after
    tells_next now n knows = elim (new_or_old h refl (may_of t whole hs h rest is) n (subst (λ y. Knows y b n) (more_on t hs h) knows)) [
      | inl old ↦ told_stays n old (now n old)
      | inr new ↦ new
    ]

  first_tells : ReportsAll []
  unfolding events_from
  first_tells n (inl none) = absurd cc
  first_tells n (inr none) = absurd cc

  pub told_all : ReportsAll t.trace
  told_all = keep_on t whole ReportsAll tells_next [] t.trace (record { rest = []; is = append-nil t.trace }) first_tells

pub commits_are_told : CommitsAreTold
commits_are_told t whole b x n knows edge loud = told_all t whole b x edge loud n knows
