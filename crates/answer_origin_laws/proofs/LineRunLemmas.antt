-- In every lawful run each live branch that waits leads where its statement was sent: the name of its table is behind a link, which leads to the
-- node of the child that it calls, and was so before that call came to the child.
pub use Rattle.answer_origin_laws.proofs.GivenLemmas.{GivenBy, CalledAt}
use Rattle.std.proofs.Common.{◌≡◌, ◌≢◌, ℕ, ◌⊎◌, Bool, true, false, List, [], ◌∷◌, ◌++◌, map, length, Option, Some, None, inl, inr, refl, sym, ap, subst, ◌∙◌, append-nil}
use Rattle.std.specs.Prelude.{IfSome}
use Rattle.std.specs.List.{AllByRecursion}
use Rattle.std.proofs.lemmas.Bool.{cases_eq}
use Rattle.tran_ids.proofs.NumberedLemmas.{set_or_before}
use Rattle.node_rules.specs.Data.{BranchId, Durable, Live, Post, RedoRecord}
use Rattle.node_rules.specs.Words.{numbered, set_numbered}
use Rattle.node_rules.specs.NodeState.{NodeState, live_id, live_at}
use Rattle.node_rules.specs.LiveBranches.{EachLive}
use Rattle.node_rules.specs.Turn.{turn_of, start_of, made}
use Rattle.node_rules.proofs.LiveLemmas.{each_same, none_live}
use Rattle.run_rules.specs.Data.{Turn, Happening}
use Rattle.run_rules.specs.Data.happenings
use Rattle.run_rules.specs.Facts.{Facts, place_at, flat, node_at, kept_after, with_boot, facts_after, facts_of}
use Rattle.run_base_laws.specs.InTurnLaws.{post_of, said_in, NeedsNoRollback}
use Rattle.run_rules.specs.Lawful.{IsOwed, History, IsLawfulRun}
use Rattle.run_rules.proofs.AtNodeLemmas.{turn_here, turn_elsewhere}
use Rattle.run_base_laws.proofs.EventsStandLemmas.{first_node, run_stands, ids_name_their_node}
use Rattle.run_rules.proofs.ListLemmas.{all_weaker}
use Rattle.run_base_laws.proofs.OwnLemmas.{all_found}
use Rattle.run_base_laws.proofs.SaidPostLemmas.{posts_back, said_after}
use Rattle.tree_laws.proofs.PrefixLemmas.{f_at, one_on}
use Rattle.tree_laws.proofs.TimeLemmas.{Part, part_on, keep_on}
use Rattle.answer_origin_laws.proofs.CatalogLemmas.{Extends, extends_same, catalog, catalog_on}
use Rattle.answer_origin_laws.proofs.GivenLemmas.{GivenLast, CalledLast, last_soon, still_known}
use Rattle.answer_origin_laws.proofs.LineGrowLemmas.{not_true, line_grows}
use Rattle.answer_origin_laws.proofs.LineLemmas.{is_calling, Line, Quiet, line_more}
use Rattle.answer_origin_laws.proofs.LineTurnLemmas as turn
use Rattle.answer_origin_laws.proofs.NoCallLemmas.{IsNoCall}
use Rattle.answer_origin_laws.proofs.TurnTaleLemmas as tales
use Rattle.tree_laws.proofs.AtTurn.{at_turn}

module _ (t : History) (whole : IsLawfulRun t) where
  abbrev pub LinesOf : List Happening → ℕ → Durable → List Post → NodeState → Type 0
  LinesOf = turn.LinesOf t whole

  abbrev pub LinesAt : List Happening → Facts → Type 0
  LinesAt = turn.LinesAt t whole

  abbrev pub BranchStatus : List Happening → Type 0
  BranchStatus = turn.BranchStatus t whole

  -- ---- a turn

  module _ (hs : List Happening) (u : Turn) (rest : List Happening) (is : hs ++ happenings.Turn u ∷ rest ≡ t.trace) (now : BranchStatus hs) where
    open at_turn t whole hs u rest is use {after as hs1, s as s0, lawful as lawful0, f as f0, g as f1, may, k, p, d, said}

    even : length f0.nodes ≡ length f0.records
    even = (run_stands s0 lawful0).0.even

    catalog_is : (n : ℕ) → Extends (catalog t whole hs n) (catalog t whole hs1 n)
    catalog_is n = catalog_on t whole n hs (happenings.Turn u ∷ []) (part_on t whole hs (happenings.Turn u) rest is)

    says1 : said_in f1 ≡ said ++ map post_of u.sent
    says1 = said_after t.places t.commands f0 (happenings.Turn u)

    sent_says : u.cut ≡ false → map post_of u.sent ≡ d.says
    unfolding turn_of
    sent_says uncut = ap (map post_of) (subst (λ c. IsOwed p k u.input u.wrote u.sent c) uncut may.1.owed).1 ∙ posts_back d.after.clock d.says

    own : u.cut ≡ false → (j : NodeState) → node_at f1 u.node ≡ Some j → LinesOf hs1 u.node (catalog t whole hs1 u.node) (said_in f1) j
    unfolding turn_of
    own uncut j up =
        let says : said_in f1 ≡ said ++ d.says = says1 ∙ ap (λ xs. said ++ xs) (sent_says uncut) in
        let after_up : node_at f1 u.node ≡ Some d.after = (turn_here t.places t.commands f0 even u k may.1.up).0 ∙ ap (λ c. kept_after c (Some (turn_of p k u.input))) uncut in
        let both : Some d.after ≡ Some j = sym after_up ∙ up in
        let one : d.after ≡ j = cc in
        subst (LinesOf hs1 u.node (catalog t whole hs1 u.node) (said_in f1)) one
        (subst (λ xs. LinesOf hs1 u.node (catalog t whole hs1 u.node) xs d.after) (sym says) (turn.lines_after t whole hs u rest is now))

    other : (n : ℕ) (j : NodeState) → u.node ≢ n → node_at f1 n ≡ Some j → LinesOf hs1 n (catalog t whole hs1 n) (said_in f1) j
    other n j apart up =
        let before : node_at f0 n ≡ Some j = sym (turn_elsewhere t.places t.commands f0 even u n apart).0 ∙ up in
        subst (λ xs. LinesOf hs1 n (catalog t whole hs1 n) xs j) (sym says1)
        (each_same (λ l w. Line (place_at t.places n) (catalog t whole hs n) (GivenLast t whole hs) (CalledLast t whole hs) said (NeedsNoRollback j l) l.me l.edges w) _ j.lives j.works (now n j before)
        (λ y v live any was. line_more (place_at t.places n) (catalog t whole hs1 n) (GivenLast t whole hs1) (CalledLast t whole hs1) said (map post_of u.sent) y.me (NeedsNoRollback j y) y.edges v (far y.me (λ same. apart (sym same ∙ own_node n j before y live)))
        (line_grows (place_at t.places n) (catalog t whole hs n) (catalog t whole hs1 n) (catalog_is n) (GivenLast t whole hs) (GivenLast t whole hs1) (CalledLast t whole hs) (CalledLast t whole hs1) said (NeedsNoRollback j y) (NeedsNoRollback j y) (λ goes. goes) y.me y.edges v
        (λ g going. still_known t whole hs (happenings.Turn u) y.me (λ here s call. apart (here ∙ own_node n j before y live))) was)))
      where
        own_node : (n : ℕ) (j : NodeState) → node_at f0 n ≡ Some j → (y : Live) → live_at j y.me ≡ Some y → y.me.node ≡ n
        own_node n j before y live = all_found (λ l. l.me.node ≡ n) live_id j.lives y.me y (ids_name_their_node s0 lawful0 n j before).lives live

        -- a branch of another node says nothing in the turn
        far : (b : BranchId) → b.node ≢ u.node → Quiet b (map post_of u.sent)
        far b elsewhere = by u.cut refl
          where
            here_quiet : (xs : List Post) → AllByRecursion (λ (x : Post). is_calling x.kind ≡ true → x.from.node ≡ p.number) xs → Quiet b xs
            here_quiet xs all = all_weaker (λ (x : Post). is_calling x.kind ≡ true → x.from.node ≡ p.number) (λ (x : Post). x.from ≡ b → is_calling x.kind ≡ false)
                (λ x here from. not_true (is_calling x.kind) (λ calls. elsewhere (sym (ap (λ (c : BranchId). c.node) from) ∙ (here calls ∙ tales.number t whole hs u rest is)))) xs all

            by : (cut : Bool) → u.cut ≡ cut → Quiet b (map post_of u.sent)
            by true cut = subst (λ ms. Quiet b (map post_of ms)) (sym (subst (λ c. IsOwed p k u.input u.wrote u.sent c) cut may.1.owed).1) tt
            by false uncut = subst (Quiet b) (sym (sent_says uncut)) (here_quiet d.says (turn.calls_here t whole hs u rest is now))

    lines_then : LinesAt hs1 f1
    lines_then n j up = elim (cases_eq u.node n) [
      | inl here ↦ subst (λ m. LinesOf hs1 m (catalog t whole hs1 m) (said_in f1) j) here (by u.cut refl (subst (λ m. node_at f1 m ≡ Some j) (sym here) up))
      | inr apart ↦ other n j apart up
    ]
      where
        by : (cut : Bool) → u.cut ≡ cut → node_at f1 u.node ≡ Some j → LinesOf hs1 u.node (catalog t whole hs1 u.node) (said_in f1) j
        by false uncut there = own uncut j there
        by true cut there =
            let none : node_at f1 u.node ≡ None = (turn_here t.places t.commands f0 even u k may.1.up).0 ∙ ap (λ c. kept_after c (Some (turn_of p k u.input))) cut in absurd (cc (none, there))

    pub turn_stands : BranchStatus hs1
    turn_stands = subst (LinesAt hs1) (sym (one_on t hs (happenings.Turn u))) lines_then

  -- ---- other happenings

  start_lines : (hs : List Happening) (n : ℕ) (D : Durable) (xs : List Post) (rs : List RedoRecord) → LinesOf hs n D xs (start_of rs)
  unfolding start_of
  start_lines hs n D xs rs = none_live _

  module _ (hs : List Happening) (h : Happening) (rest : List Happening) (is : hs ++ h ∷ rest ≡ t.trace) (now : BranchStatus hs) where
    -- nothing is sent, and the nodes that are up were so or have just started
    same_stands : ((node session : ℕ) → IsNoCall node session h) → (g : Facts) → facts_after t.places t.commands (f_at t hs) h ≡ g → said_in g ≡ said_in (f_at t hs) ++ [] → ((n : ℕ) (j : NodeState) → node_at g n ≡ Some j → (node_at (f_at t hs) n ≡ Some j) ⊎ ((D : Durable) (xs : List Post) → LinesOf (hs ++ h ∷ []) n D xs j)) → BranchStatus (hs ++ h ∷ [])
    same_stands no_call g facts says still n j up =
        let fact : f_at t (hs ++ h ∷ []) ≡ g = one_on t hs h ∙ facts in
        let said : said_in (f_at t (hs ++ h ∷ [])) ≡ said_in (f_at t hs) = ap said_in fact ∙ (says ∙ append-nil (said_in (f_at t hs))) in
        let grows : Extends (catalog t whole hs n) (catalog t whole (hs ++ h ∷ []) n) = catalog_on t whole n hs (h ∷ []) (part_on t whole hs h rest is) in
        elim (still n j (subst (λ f. node_at f n ≡ Some j) fact up)) [
          | inl was ↦ subst (λ xs. LinesOf (hs ++ h ∷ []) n (catalog t whole (hs ++ h ∷ []) n) xs j) (sym said)
              (each_same (λ l w. Line (place_at t.places n) (catalog t whole hs n) (GivenLast t whole hs) (CalledLast t whole hs) (said_in (f_at t hs)) (NeedsNoRollback j l) l.me l.edges w) _ j.lives j.works (now n j was)
              (λ y v live any it. line_grows (place_at t.places n) (catalog t whole hs n) (catalog t whole (hs ++ h ∷ []) n) grows (GivenLast t whole hs) (GivenLast t whole (hs ++ h ∷ [])) (CalledLast t whole hs) (CalledLast t whole (hs ++ h ∷ [])) (said_in (f_at t hs)) (NeedsNoRollback j y) (NeedsNoRollback j y)
              (λ goes. goes) y.me y.edges v (λ g going. still_known t whole hs h y.me (no_call y.me.node y.me.session)) it))
          | inr new ↦ new (catalog t whole (hs ++ h ∷ []) n) (said_in (f_at t (hs ++ h ∷ [])))
        ]

  set_still : (f : Facts) (m n : ℕ) (o : Option NodeState) (j : NodeState) → flat (numbered (set_numbered f.nodes m o) n) ≡ Some j → (node_at f n ≡ Some j) ⊎ (o ≡ Some j)
  set_still f m n o j up = elim (set_or_before f.nodes m n o) [
    | inl before ↦ inl (sym (ap flat before) ∙ up)
    | inr new ↦ inr (sym (ap flat new.1) ∙ up)
  ]

  stand_on : (hs : List Happening) (h : Happening) (rest : List Happening) → hs ++ h ∷ rest ≡ t.trace → BranchStatus hs → BranchStatus (hs ++ h ∷ [])
  unfolding facts_after
  stand_on hs (happenings.Turn u) rest is now = turn_stands hs u rest is now
  stand_on hs (happenings.Stopped m) rest is now =
      same_stands hs (happenings.Stopped m) rest is now (λ node session. tt) _ refl (said_after t.places t.commands (f_at t hs) (happenings.Stopped m))
      (λ n j up. elim (set_still (f_at t hs) m n None j up) [ inl was ↦ inl was | inr new ↦ absurd cc ])
  stand_on hs (happenings.Started m boot) rest is now =
      same_stands hs (happenings.Started m boot) rest is now (λ node session. tt) _ refl (said_after t.places t.commands (f_at t hs) (happenings.Started m boot))
      (λ n j up. elim (set_still (f_at t hs) m n (Some (start_of (with_boot (f_at t hs) m boot))) j up) [
        | inl was ↦ inl was
        | inr new ↦ inr (λ D xs. (let it : Some (start_of (with_boot (f_at t hs) m boot)) ≡ Some j = new in let one : start_of (with_boot (f_at t hs) m boot) ≡ j = cc in subst (LinesOf (hs ++ happenings.Started m boot ∷ []) n D xs) one (start_lines (hs ++ happenings.Started m boot ∷ []) n D xs (with_boot (f_at t hs) m boot))))
      ])
  stand_on hs (happenings.Begun c) rest is now = same_stands hs (happenings.Begun c) rest is now (λ node session. tt) _ refl (said_after t.places t.commands (f_at t hs) (happenings.Begun c)) (λ n j up. inl up)
  stand_on hs (happenings.Cut a b) rest is now = same_stands hs (happenings.Cut a b) rest is now (λ node session. tt) _ refl (said_after t.places t.commands (f_at t hs) (happenings.Cut a b)) (λ n j up. inl up)
  stand_on hs (happenings.Join a b) rest is now = same_stands hs (happenings.Join a b) rest is now (λ node session. tt) _ refl (said_after t.places t.commands (f_at t hs) (happenings.Join a b)) (λ n j up. inl up)
  stand_on hs (happenings.Lost x) rest is now = same_stands hs (happenings.Lost x) rest is now (λ node session. tt) _ refl (said_after t.places t.commands (f_at t hs) (happenings.Lost x)) (λ n j up. inl up)

  made_lines : (n : ℕ) (D : Durable) (xs : List Post) → LinesOf [] n D xs made
  unfolding start_of
  made_lines n D xs = none_live _

  first_stand : BranchStatus []
  unfolding facts_of
  first_stand n k up =
      subst (λ o. IfSome o (LinesOf [] n (catalog t whole [] n) (said_in (f_at t [])))) up
      (first_node (λ o. IfSome o (LinesOf [] n (catalog t whole [] n) (said_in (f_at t [])))) tt (made_lines n (catalog t whole [] n) (said_in (f_at t []))) t.places n)

  pub stand_last : (hs : List Happening) → Part t whole hs → BranchStatus hs
  stand_last hs part = keep_on t whole BranchStatus stand_on [] hs part first_stand

  -- the same without what comes last
  pub stand_at : (hs : List Happening) → Part t whole hs → (n : ℕ) (k : NodeState) → node_at (f_at t hs) n ≡ Some k
      → EachLive (λ l w. Line (place_at t.places n) (catalog t whole hs n) (GivenBy t whole hs) (CalledAt t whole) (said_in (f_at t hs)) (NeedsNoRollback k l) l.me l.edges w) k.lives k.works
  stand_at hs part n k up =
      each_same (λ l w. Line (place_at t.places n) (catalog t whole hs n) (GivenLast t whole hs) (CalledLast t whole hs) (said_in (f_at t hs)) (NeedsNoRollback k l) l.me l.edges w) _ k.lives k.works (stand_last hs part n k up)
      (λ y v live any was. line_grows (place_at t.places n) (catalog t whole hs n) (catalog t whole hs n) (extends_same _) (GivenLast t whole hs) (GivenBy t whole hs) (CalledLast t whole hs) (CalledAt t whole) (said_in (f_at t hs)) (NeedsNoRollback k y) (NeedsNoRollback k y)
      (λ goes. goes) y.me y.edges v (λ g going. record { given = λ call o is. record { given = is.0; soon = last_soon t whole hs y.me call o is.0 is.1 }; called = λ c number call s goes is. is.0 }) was)
