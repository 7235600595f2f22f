-- The turn of a lawful run in which a message was sent, and the happening in which a branch left.
use Rattle.std.proofs.Common.{◌≡◌, ◌&&◌, ◌||◌, Bool, true, false, List, [], ◌∷◌, ◌++◌, map, Some, None, inl, inr, refl, sym, ap, subst, subst₂, ◌∙◌, append-nil}
use Rattle.std.specs.Prelude.{◌⊎◌}
use Rattle.std.specs.List.{AllByRecursion}
use Rattle.std.proofs.lemmas.Bool.{and_parts}
use Rattle.std.proofs.lemmas.List.{append_assoc}
use Rattle.tran_ids.proofs.BranchLemmas.{equal_from_same}
use Rattle.agreement.specs.Events.{Exit, exit}
use Rattle.node_rules.specs.Data.{BranchId, Kind, Place, Post}
use Rattle.node_rules.specs.Words.{same}
use Rattle.node_rules.specs.NodeState.{NodeState}
use Rattle.node_rules.specs.Turn.{turn_of, draft_of}
use Rattle.run_rules.specs.Data.{Turn, Happening}
use Rattle.run_rules.specs.Data.happenings
use Rattle.run_rules.specs.Facts.{place_at, facts_of}
use Rattle.run_base_laws.specs.InTurnLaws.{post_of, said_in}
use Rattle.run_rules.specs.Lawful.{IsOwed, MayTurn, History, IsLawfulRun, facts_at}
use Rattle.run_base_laws.specs.RunEvents.{events_after, events_from, events_of}
use Rattle.run_branch_laws.specs.WalkLaws.{was_sent}
use Rattle.run_base_laws.proofs.NodesStandLemmas.{some_or_none}
use Rattle.run_base_laws.proofs.SaidPostLemmas.{posts_back, posts_of, said_after}
use Rattle.tree_laws.proofs.AskLemmas.{sent_split, sent_new}
use Rattle.tree_laws.proofs.PrefixLemmas.{f_at, e_at, one_on, more_on}
use Rattle.tree_laws.proofs.TimeLemmas.{Part, part_on, exit_end, keep_on}

-- what is so of each of these messages is so of one that was sent
module _ (kind : Kind → Bool) (P : BranchId → BranchId → Kind → Type 0) (a b : BranchId) where
  abbrev Found : Type 0
  Found = (z : Kind) × (kind z ≡ true) × P a b z

  pub found_in : (xs : List Post) → AllByRecursion (λ x. P x.from x.to x.kind) xs → was_sent kind xs a b ≡ true → Found
  found_in [] all is = absurd cc
  found_in (x ∷ xs) all is = by ((same x.from a && same x.to b) && kind x.kind) refl is (found_in xs all.1)
    where
      by : (q : Bool) → ((same x.from a && same x.to b) && kind x.kind) ≡ q → (q || was_sent kind xs a b) ≡ true → (was_sent kind xs a b ≡ true → Found) → Found
      by true here found rest =
          let parts = and_parts (same x.from a && same x.to b) (kind x.kind) here in
          let ends = and_parts (same x.from a) (same x.to b) parts.0 in
          (x.kind, parts.1, subst₂ (λ f t. P f t x.kind) (equal_from_same x.from a ends.0) (equal_from_same x.to b ends.1) all.0)
      by false here found rest = rest found

-- what a turn that is whole sends is what its draft says, and a cut one sends nothing
owed_says : (kind : Kind → Bool) (place : Place) (k : NodeState) (u : Turn) (cut : Bool) → IsOwed place k u.input u.wrote u.sent cut → (p c : BranchId) → was_sent kind (map post_of u.sent) p c ≡ true
    → (cut ≡ false) × (was_sent kind (draft_of place k u.input).says p c ≡ true)
unfolding turn_of
owed_says kind place k u true owed p c is = let none : was_sent kind (map post_of u.sent) p c ≡ false = ap (λ ms. was_sent kind (map post_of ms) p c) owed.1 in absurd (cc (is, none))
owed_says kind place k u false owed p c is =
    let says : map post_of u.sent ≡ (draft_of place k u.input).says = ap (λ ms. map post_of ms) owed.1 ∙ posts_back (draft_of place k u.input).after.clock (draft_of place k u.input).says in
    (refl, subst (λ xs. was_sent kind xs p c ≡ true) says is)

module _ (t : History) where
  pub turn_says : (hs : List Happening) (u : Turn) (k : NodeState) → MayTurn t.places (f_at t hs) u k → (kind : Kind → Bool) (p c : BranchId) → was_sent kind (map post_of u.sent) p c ≡ true
      → (u.cut ≡ false) × (was_sent kind (draft_of (place_at t.places u.node) k u.input).says p c ≡ true)
  turn_says hs u k may kind p c is = owed_says kind (place_at t.places u.node) k u u.cut may.owed p c is

module _ (t : History) (whole : IsLawfulRun t) where
  -- ---- messages

  -- The turn in which a branch sent such a message to another.
  pub record SentIn (kind : Kind → Bool) (p c : BranchId) : Type 0 where
    pub before : List Happening
    pub turn : Turn
    pub later : List Happening
    pub is : before ++ happenings.Turn turn ∷ later ≡ t.trace
    pub says : was_sent kind (map post_of turn.sent) p c ≡ true

  module _ (kind : Kind → Bool) (p c : BranchId) where
    abbrev Known : List Happening → Type 0
    Known hs = (was_sent kind (said_in (f_at t hs)) p c ≡ false) ⊎ SentIn kind p c

    new_in : (hs : List Happening) (h : Happening) (rest : List Happening) → hs ++ h ∷ rest ≡ t.trace → was_sent kind (posts_of h) p c ≡ true → SentIn kind p c
    new_in hs (happenings.Turn u) rest is says = record { before = hs; turn = u; later = rest; is = is; says = says }
    new_in hs (happenings.Stopped n) rest is says = absurd cc
    new_in hs (happenings.Started n boot) rest is says = absurd cc
    new_in hs (happenings.Begun n) rest is says = absurd cc
    new_in hs (happenings.Cut a b) rest is says = absurd cc
    new_in hs (happenings.Join a b) rest is says = absurd cc
    new_in hs (happenings.Lost n) rest is says = absurd cc

    known_on : (hs : List Happening) (h : Happening) (rest : List Happening) → hs ++ h ∷ rest ≡ t.trace → Known hs → Known (hs ++ h ∷ [])
    known_on hs h rest is (inr it) = inr it
    known_on hs h rest is (inl not) = by (was_sent kind (said_in (f_at t (hs ++ h ∷ []))) p c) refl
      where
        says : said_in (f_at t (hs ++ h ∷ [])) ≡ said_in (f_at t hs) ++ posts_of h
        says = ap said_in (one_on t hs h) ∙ said_after t.places t.commands (f_at t hs) h

        by : (q : Bool) → was_sent kind (said_in (f_at t (hs ++ h ∷ []))) p c ≡ q → Known (hs ++ h ∷ [])
        by false sent = inl sent
        by true sent = elim (sent_split kind (said_in (f_at t hs)) (posts_of h) p c (subst (λ xs. was_sent kind xs p c ≡ true) says sent)) [
          | inl old ↦ absurd (cc (old, not))
          | inr new ↦ inr (new_in hs h rest is new)
        ]

    first_known : Known []
    unfolding facts_of
    first_known = inl refl

    pub sent_in : was_sent kind (said_in (facts_at t)) p c ≡ true → SentIn kind p c
    sent_in sent = elim (keep_on t whole Known known_on [] t.trace (record { rest = []; is = append-nil t.trace }) first_known) [
      | inl not ↦ absurd (cc (sent, not))
      | inr it ↦ it
    ]

  -- it is among the messages from then on
  pub sent_there : (kind : Kind → Bool) (p c : BranchId) (it : SentIn kind p c) → was_sent kind (said_in (f_at t (it.before ++ happenings.Turn it.turn ∷ []))) p c ≡ true
  sent_there kind p c it =
      subst (λ xs. was_sent kind xs p c ≡ true) (sym (ap said_in (one_on t it.before (happenings.Turn it.turn)) ∙ said_after t.places t.commands (f_at t it.before) (happenings.Turn it.turn)))
      (sent_new kind (said_in (f_at t it.before)) (posts_of (happenings.Turn it.turn)) p c it.says)

  -- ---- branches that leave

  -- The happening, after a moment at which it had not, in which a branch left.
  pub record LeftThen (hs0 : List Happening) (b : BranchId) (z : Exit) : Type 0 where
    pub since : List Happening
    pub happening : Happening
    pub later : List Happening
    pub is : (hs0 ++ since) ++ happening ∷ later ≡ t.trace
    pub none : exit (e_at t (hs0 ++ since)) b ≡ None
    pub left : exit (events_after t.places t.commands (f_at t (hs0 ++ since)) happening (e_at t (hs0 ++ since))) b ≡ Some z

  module _ (hs0 : List Happening) (part0 : Part t whole hs0) (b : BranchId) where
    abbrev Fated : List Happening → Type 0
    Fated hs = (mid : List Happening) × (hs0 ++ mid ≡ hs) × ((exit (e_at t hs) b ≡ None) ⊎ ((z : Exit) × LeftThen hs0 b z))

    left_in : (hs : List Happening) (h : Happening) (rest : List Happening) → hs ++ h ∷ rest ≡ t.trace → (mid : List Happening) → hs0 ++ mid ≡ hs → exit (e_at t hs) b ≡ None → (z : Exit) → exit (e_at t (hs ++ h ∷ [])) b ≡ Some z → LeftThen hs0 b z
    left_in hs h rest is mid at none z left = record {
      since = mid;
      happening = h;
      later = rest;
      is = ap (λ xs. xs ++ h ∷ rest) at ∙ is;
      none = subst (λ xs. exit (e_at t xs) b ≡ None) (sym at) none;
      left = subst (λ xs. exit (events_after t.places t.commands (f_at t xs) h (e_at t xs)) b ≡ Some z) (sym at) (subst (λ e. exit e b ≡ Some z) (more_on t hs h) left);
    }

    fated_on : (hs : List Happening) (h : Happening) (rest : List Happening) → hs ++ h ∷ rest ≡ t.trace → Fated hs → Fated (hs ++ h ∷ [])
    fated_on hs h rest is now = (
      now.0 ++ h ∷ [],
      sym (append_assoc hs0 now.0 (h ∷ [])) ∙ ap (λ xs. xs ++ h ∷ []) now.1,
      elim now.2 [
        | inr it ↦ inr it
        | inl none ↦ elim (some_or_none (exit (e_at t (hs ++ h ∷ [])) b)) [
          | inl left ↦ inr (left.0, left_in hs h rest is now.0 now.1 none left.0 left.1)
          | inr still ↦ inl still
        ]
      ],
    )

    at_end : (z y : Exit) → exit (events_of t) b ≡ Some z → LeftThen hs0 b y → LeftThen hs0 b z
    at_end z y left it =
        let after : List Happening = (hs0 ++ it.since) ++ it.happening ∷ [] in
        let at : exit (e_at t after) b ≡ Some y = subst (λ e. exit e b ≡ Some y) (sym (more_on t (hs0 ++ it.since) it.happening)) it.left in
        let end : exit (events_of t) b ≡ Some y = exit_end t whole after (part_on t whole (hs0 ++ it.since) it.happening it.later it.is) b y at in
        let both : Some y ≡ Some z = sym end ∙ left in
        let same_exit : y ≡ z = cc in
        subst (LeftThen hs0 b) same_exit it

    pub left_then : exit (e_at t hs0) b ≡ None → (z : Exit) → exit (events_of t) b ≡ Some z → LeftThen hs0 b z
    left_then none z left =
        let all : Fated (hs0 ++ part0.rest) = keep_on t whole Fated fated_on hs0 part0.rest (record { rest = []; is = append-nil (hs0 ++ part0.rest) ∙ part0.is }) ([], append-nil hs0, inl none) in
        elim all.2 [
          | inl still ↦ (let end : exit (events_of t) b ≡ None = subst (λ xs. exit (e_at t xs) b ≡ None) part0.is still in absurd (cc (end, left)))
          | inr it ↦ at_end z it.0 left it.1
        ]

-- nobody has left at first
pub none_at_first : (t : History) (b : BranchId) → exit (e_at t []) b ≡ None
unfolding events_from
none_at_first t b = refl
