-- A turn leaves nodes, disks, messages and events fitting the branches that began.
use Rattle.std.proofs.Common.{◌≡◌, ◌≢◌, ℕ, ◌≤◌, Bool, true, false, if◌then◌else◌, List, [], ◌∷◌, ◌++◌, length, Option, Some, None, inl, inr, refl, sym, ap, subst, subst₂, ◌∙◌, ◌⊎◌, append-nil}
use Rattle.std.specs.Prelude.{IfSome}
use Rattle.std.specs.Option.{option_to_list}
use Rattle.std.specs.List.{AllByRecursion}
use Rattle.agreement.specs.Events.{Event, exit}
use Rattle.node_rules.specs.Data.{BranchId, Kind, Msg, RedoRecord, Place, Input}
use Rattle.node_rules.specs.Data.kinds
use Rattle.node_rules.specs.Data.inputs
use Rattle.node_rules.specs.Words.{numbered}
use Rattle.node_rules.specs.Inputs.{Came, IsFit}
use Rattle.node_rules.specs.NodeState.{NodeState}
use Rattle.node_rules.specs.Calls.{next_child}
use Rattle.node_rules.specs.Client.{new_root}
use Rattle.node_rules.specs.Turn.{turn_of, heard, stamped}
use Rattle.run_rules.specs.Data.{Took, Turn, Command}
use Rattle.run_rules.specs.Data.happenings
use Rattle.run_rules.specs.Branches.{is_among}
use Rattle.run_rules.specs.Facts.{Facts, place_at, node_at, records_at, kept_after}
use Rattle.run_rules.specs.Lawful.{IsPlace, MayTurn, IsOwed, Comes, boots}
use Rattle.run_base_laws.specs.RunEvents.{lives_at, with_happening}
use Rattle.run_base_laws.specs.NodeLaws.{count_of}
use Rattle.run_rules.specs.Births.{Born, births_by, births_at, births_after, born_id, born_at}
use Rattle.run_base_laws.specs.BirthLaws.{Began, StandsBelow, NamesAre, RecordNames, GoesSo}
use Rattle.run_rules.proofs.ListLemmas.{all_weaker, all_append, all_map}
use Rattle.run_base_laws.proofs.LawfulLemmas.{comes_fit}
use Rattle.node_rules.proofs.SessionLemmas.{seqs}
use Rattle.run_base_laws.proofs.IdLemmas.{Given}
use Rattle.run_base_laws.proofs.FreshLemmas.{Node}
use Rattle.run_base_laws.proofs.OwnLemmas.{OwnAt}
use Rattle.run_base_laws.proofs.MayStandLemmas.{unused_root, unused_child}
use Rattle.run_base_laws.proofs.SaidLemmas.{numbered_so, sent_after}
use Rattle.run_rules.proofs.AtNodeLemmas.{turn_elsewhere, turn_here}
use Rattle.run_base_laws.proofs.NodesStandLemmas.{NodesStand, some_or_none}
use Rattle.run_base_laws.proofs.TurnEventLemmas.{cases_nat, told, serving}
use Rattle.run_base_laws.proofs.NeighborStepLemmas.{NamesSo, names_on}
use Rattle.run_base_laws.proofs.BirthLemmas.{Begins, None_begins, Root_begins, Child_begins, begins_so, news_of, Bears, birth_bears, began_more, began_last, counted_last, found_last, turn_left, turn_leaves}
use Rattle.run_base_laws.proofs.WiderLemmas.{below_wider, record_wider, names_wider, node_wider, goes_wider}
use Rattle.run_base_laws.proofs.OneTurn.{one_turn}

-- ---- what stands

-- Nodes, disks, messages and events fit the branches that began.
pub record BirthsStand (f : Facts) (t : List Event) (bs : List Born) : Type 0 where
  pub once : (b : BranchId) → count_of born_id b bs ≤ 1
  pub trees : AllByRecursion (λ x. StandsBelow (Began bs) x x.parent) bs
  pub lives : (n : ℕ) → IfSome (node_at f n) (NamesAre (Began bs))
  pub disks : (n : ℕ) → AllByRecursion (RecordNames (Began bs)) (records_at f n)
  pub said : AllByRecursion (λ x. GoesSo (Began bs) x.msg.from x.msg.to x.msg.kind) f.net.packets
  pub there : (b : BranchId) → born_at bs b ≢ None → (exit t b ≢ None) ⊎ (is_among b (lives_at (node_at f b.node)) ≡ true)

-- a message that comes is as all that were sent
module _ (P : BranchId → BranchId → Kind → Type 0) (f : Facts) (said : AllByRecursion (λ x. P x.msg.from x.msg.to x.msg.kind) f.net.packets) where
  message_so : (m : Msg) (from to : BranchId) (scn : ℕ) (kind : Kind) → P m.from m.to m.kind → inputs.Message m ≡ inputs.Message (record { from = from; to = to; scn = scn; kind = kind }) → P from to kind
  message_so m from to scn kind is same_input =
      let it : inputs.Message m ≡ inputs.Message (record { from = from; to = to; scn = scn; kind = kind }) = same_input in
      let here : m ≡ record { from = from; to = to; scn = scn; kind = kind } = cc in
      subst (λ (x : Msg). P x.from x.to x.kind) here is

  pub came_so : (k : NodeState) (node : ℕ) (input : Input) (took : Option Took) → Comes f k node input took → (from to : BranchId) (kind : Kind) → Came input from to kind → P from to kind
  came_so k node (inputs.Message m) (Some x) comes from to kind came =
      message_so m from to came.scn kind
      (subst (λ (y : Msg). P y.from y.to y.kind) comes.1.same (numbered_so (λ y. P y.from y.to y.kind) f.net.packets x.number comes.0 said comes.1.sent)) came.is
  came_so k node (inputs.Message m) None comes from to kind came = absurd comes
  came_so k node (inputs.Call session statement) took comes from to kind came = absurd (cc (came.is))
  came_so k node (inputs.GiveUp session) took comes from to kind came = absurd (cc (came.is))
  came_so k node inputs.Reco took comes from to kind came = absurd (cc (came.is))
  came_so k node inputs.Checkpoint took comes from to kind came = absurd (cc (came.is))

-- a node that hears names the same
heard_names : (B : Born → Type 0) (k : NodeState) (input : Input) → NamesAre B k → NamesAre B (heard k input)
heard_names B k (inputs.Message m) names = names
heard_names B k _ names = names

-- ---- a turn

module _ (places : List Place) (asked : List Command) (each : (n : ℕ) (p : Place) → numbered places n ≡ Some p → IsPlace places n p) where
  module _ (f : Facts) (t : List Event) (bs : List Born) (u : Turn) (k : NodeState) (now : NodesStand places f t) (even : length f.nodes ≡ length f.records)
      (node : (m : ℕ) (x : NodeState) → node_at f m ≡ Some x → Node (records_at f m) x) (owns : (m : ℕ) (x : NodeState) → node_at f m ≡ Some x → OwnAt (place_at places m) (records_at f m) x)
      (may : MayTurn places f u k) (number : (place_at places u.node).number ≡ u.node) (born : BirthsStand f t bs) where
    open one_turn places asked f u k use {n, p, rs, d, g}

    abbrev r : List Event
    r = with_happening f g (happenings.Turn u) t

    -- those that begin
    abbrev xs : List Born
    xs = births_by p k u.input

    started : k.stored.durable.boot ≡ boots rs
    started = ap (λ s. s.durable.boot) (node n k may.up).stored ∙ (node n k may.up).boot

    -- an id that was not given out has not begun
    unborn : (b : BranchId) → b.node ≡ n → (Given (boots rs) (seqs k.sessions) (length k.opens) b → ⊥) → born_at bs b ≡ None
    unborn b here new = elim (some_or_none (born_at bs b)) [
      | inr none ↦ none
      | inl some ↦ elim (born.there b (λ none. (let is : born_at bs b ≡ Some some.0 = some.1 in absurd (cc (is, none))))) [
        | inl left ↦ absurd (new (subst (λ o. IfSome o (λ x. Given (boots rs) (seqs x.sessions) (length x.opens) b)) may.up
            (subst (λ m. IfSome (node_at f m) (λ x. Given (boots (records_at f m)) (seqs x.sessions) (length x.opens) b)) here (now.given b left).1)))
        | inr living ↦ absurd (new (told places asked each f t u k now even node owns may b
            (subst (λ o. is_among b (lives_at o) ≡ true) may.up (subst (λ m. is_among b (lives_at (node_at f m)) ≡ true) here living))).1)
      ]
    ]

    fit : IsFit u.input
    fit = comes_fit f k u.node u.input u.took may.comes

    unborn_all : {ys : List Born} → Begins p k u.input ys → AllByRecursion (λ y. born_at bs y.me ≡ None) ys
    unborn_all None_begins = tt
    unborn_all (Root_begins m s read_at call begins none) =
        (unborn (new_root p k m) number (unused_root t n (boots rs) now.untaught p k m started (let session : IsFit (inputs.Call m (Some s)) = subst IsFit call fit in session.1)), tt)
    unborn_all (Child_begins to parent edge root depth read_at came none) = (unborn (next_child p k) number (unused_child t n (boots rs) now.untaught p k started), tt)

    -- they begin, and once
    begun_all : {ys : List Born} → Begins p k u.input ys → AllByRecursion (λ y. born_at bs y.me ≡ None) ys → AllByRecursion (Began (bs ++ ys)) ys
    begun_all None_begins new = tt
    begun_all (Root_begins m s read_at call begins none) new = (began_last bs _ new.0, tt)
    begun_all (Child_begins to parent edge root depth read_at came none) new = (began_last bs _ new.0, tt)

    once_all : {ys : List Born} → Begins p k u.input ys → AllByRecursion (λ y. born_at bs y.me ≡ None) ys → (b : BranchId) → count_of born_id b (bs ++ ys) ≤ 1
    once_all None_begins new b = subst (λ (zs : List Born). count_of born_id b zs ≤ 1) (sym (append-nil bs)) (born.once b)
    once_all (Root_begins m s read_at call begins none) new b = counted_last bs _ new.0 born.once b
    once_all (Child_begins to parent edge root depth read_at came none) new b = counted_last bs _ new.0 born.once b

    came : (from to : BranchId) (kind : Kind) → Came u.input from to kind → GoesSo (Began bs) from to kind
    came from to kind is = came_so (GoesSo (Began bs)) f born.said k u.node u.input u.took may.comes from to kind is

    new_trees : {ys : List Born} → Begins p k u.input ys → AllByRecursion (λ x. StandsBelow (Began bs) x x.parent) ys
    new_trees None_begins = tt
    new_trees (Root_begins m s read_at call begins none) = ((refl, refl), tt)
    new_trees (Child_begins to parent edge root depth read_at is none) = (came parent to (kinds.Open edge root depth read_at) is, tt)

    abbrev ys : List Born
    ys = bs ++ xs

    abbrev B : Born → Type 0
    B = Began ys

    view : Begins p k u.input xs
    view = begins_so p k u.input

    wide : (x : Born) → Began bs x → B x
    wide x is = began_more bs xs x is

    names : NamesAre (Began bs) k
    names = subst (λ o. IfSome o (NamesAre (Began bs))) may.up (born.lives n)

    -- what the step keeps, writes and says
    so : NamesSo B d
    so =
        names_on B p u.input (λ from to kind is. goes_wider (Began bs) B wide from to kind (came from to kind is)) (serving places asked each f t u k now even node owns may).step
        (heard_names B k u.input (names_wider (Began bs) B wide k names)) (news_of B p k u.input (begun_all view (unborn_all view)))

    bears : AllByRecursion (λ x. Bears d x.me) xs
    bears = birth_bears p k u.input view

    -- a record names those that began before the turn
    narrow_record : (w : Option RedoRecord) → IfSome w (RecordNames (Began (bs ++ []))) → IfSome w (RecordNames (Began bs))
    narrow_record None is = tt
    narrow_record (Some x) is = record_wider (Began (bs ++ [])) (Began bs) (λ y began. subst (λ (zs : List Born). Began zs y) (append-nil bs) began) x is

    unwritten : (w : Option RedoRecord) → w ≡ None → IfSome w (RecordNames (Began bs))
    unwritten w is = subst (λ o. IfSome o (RecordNames (Began bs))) (sym is) tt

    old_record : {zs : List Born} → Begins p k u.input zs → AllByRecursion (λ x. Bears d x.me) zs → IfSome d.wrote (RecordNames (Began (bs ++ zs))) → IfSome d.wrote (RecordNames (Began bs))
    old_record None_begins all is = narrow_record d.wrote is
    old_record (Root_begins m s read_at call begins none) all is = unwritten d.wrote all.0.unwritten
    old_record (Child_begins to parent edge root depth read_at by none) all is = unwritten d.wrote all.0.unwritten

    recorded : (C : Born → Type 0) (rs : List RedoRecord) (w : Option RedoRecord) → AllByRecursion (RecordNames C) rs → IfSome w (RecordNames C) → AllByRecursion (RecordNames C) (rs ++ option_to_list w)
    recorded C rs None all is = all_append (RecordNames C) rs [] all tt
    recorded C rs (Some x) all is = all_append (RecordNames C) rs (x ∷ []) all (is, tt)

    here : (node_at g n ≡ kept_after u.cut (Some (turn_of p k u.input))) × (records_at g n ≡ rs ++ option_to_list u.wrote)
    here = turn_here places asked f even u k may.up

    -- each node and its disk, by the node of the turn and the others
    at_each : (P : Option NodeState → List RedoRecord → Type 0) → P (node_at g n) (records_at g n) → ((m : ℕ) → P (node_at f m) (records_at f m)) → (m : ℕ) → P (node_at g m) (records_at g m)
    at_each P new old m = elim (cases_nat m n) [
      | inl at ↦ subst (λ i. P (node_at g i) (records_at g i)) (sym at) new
      | inr other ↦ (let same_there = turn_elsewhere places asked f even u m (λ e. other (sym e)) in subst₂ P (sym same_there.0) (sym same_there.1) (old m))
    ]

    -- a branch that began is live after the turn or has an exit
    old_there : (b : BranchId) → born_at bs b ≢ None → (exit r b ≢ None) ⊎ (is_among b (lives_at (node_at g b.node)) ≡ true)
    old_there b some = elim (born.there b some) [
      | inl left ↦ inl (turn_left b f g u t left)
      | inr living ↦ elim (cases_nat b.node n) [
        | inr other ↦ inr (subst (λ o. is_among b (lives_at o) ≡ true) (sym (turn_elsewhere places asked f even u b.node (λ e. other (sym e))).0) living)
        | inl at ↦ at_node (subst (λ m. is_among b (lives_at (node_at f m)) ≡ true) at living) at (is_among b (lives_at (node_at g n))) refl
      ]
    ]
      where
        at_node : is_among b (lives_at (node_at f n)) ≡ true → b.node ≡ n → (q : Bool) → is_among b (lives_at (node_at g n)) ≡ q → (exit r b ≢ None) ⊎ (is_among b (lives_at (node_at g b.node)) ≡ true)
        at_node was at true is = inr (subst (λ m. is_among b (lives_at (node_at g m)) ≡ true) (sym at) is)
        at_node was at false is = inl (turn_leaves b f g u t was is)

    -- so is one that begins in it
    new_there : node_at g n ≡ Some d.after → {zs : List Born} → Begins p k u.input zs → AllByRecursion (λ x. Bears d x.me) zs → (b : BranchId) → born_at (bs ++ zs) b ≢ None
        → (exit r b ≢ None) ⊎ (is_among b (lives_at (node_at g b.node)) ≡ true)
    new_there up None_begins all b some = old_there b (λ none. some (subst (λ (zs : List Born). born_at zs b ≡ None) (sym (append-nil bs)) none))
    new_there up (Root_begins m s read_at call begins none) all b some = elim (found_last bs _ b some) [
      | inl old ↦ old_there b old
      | inr is ↦ inr (subst (λ c. is_among c (lives_at (node_at g c.node)) ≡ true) is
          (subst (λ i. is_among (new_root p k m) (lives_at (node_at g i)) ≡ true) (sym number) (subst (λ o. is_among (new_root p k m) (lives_at o) ≡ true) (sym up) all.0.living)))
    ]
    new_there up (Child_begins to parent edge root depth read_at by none) all b some = elim (found_last bs _ b some) [
      | inl old ↦ old_there b old
      | inr is ↦ inr (subst (λ c. is_among c (lives_at (node_at g c.node)) ≡ true) is
          (subst (λ i. is_among (next_child p k) (lives_at (node_at g i)) ≡ true) (sym number) (subst (λ o. is_among (next_child p k) (lives_at o) ≡ true) (sym up) all.0.living)))
    ]

    -- none of them had begun
    pub all_unborn : AllByRecursion (λ y. born_at bs y.me ≡ None) xs
    all_unborn = unborn_all view

    abbrev Sent : (Born → Type 0) → Msg → Type 0
    Sent C m = GoesSo C m.from m.to m.kind

    -- a turn that is kept to its end
    whole_stands : u.cut ≡ false → IsOwed p k u.input u.wrote u.sent false → BirthsStand g r ys
    unfolding turn_of
    whole_stands cut owed =
        let up : node_at g n ≡ Some d.after = here.0 ∙ ap (λ c. kept_after c (Some (turn_of p k u.input))) cut in
        let disk : AllByRecursion (RecordNames B) (records_at g n)
        = subst (λ (zs : List RedoRecord). AllByRecursion (RecordNames B) zs) (sym here.1)
        (recorded B rs u.wrote (all_weaker (RecordNames (Began bs)) (RecordNames B) (record_wider (Began bs) B wide) rs (born.disks n)) (subst (λ w. IfSome w (RecordNames B)) (sym owed.0) so.1)) in
        record {
          once = once_all view (unborn_all view);
          trees = all_append (λ x. StandsBelow B x x.parent) bs xs (all_weaker (λ x. StandsBelow (Began bs) x x.parent) _ (λ x is. below_wider (Began bs) B wide x x.parent is) bs born.trees)
              (all_weaker (λ x. StandsBelow (Began bs) x x.parent) _ (λ x is. below_wider (Began bs) B wide x x.parent is) xs (new_trees view));
          lives = at_each (λ o zs. IfSome o (NamesAre B)) (subst (λ o. IfSome o (NamesAre B)) (sym up) so.0) (λ m. node_wider (Began bs) B wide (node_at f m) (born.lives m));
          disks = at_each (λ o (zs : List RedoRecord). AllByRecursion (RecordNames B) zs) disk
              (λ m. all_weaker (RecordNames (Began bs)) (RecordNames B) (record_wider (Began bs) B wide) (records_at f m) (born.disks m));
          said = sent_after (Sent B) places asked f (happenings.Turn u) (subst (λ (ms : List Msg). AllByRecursion (Sent B) ms) (sym owed.1) (all_map (Sent B) (stamped d.after.clock) d.says so.2))
              (all_weaker _ _ (λ x is. goes_wider (Began bs) B wide x.msg.from x.msg.to x.msg.kind is) f.net.packets born.said);
          there = new_there up view bears;
        }

    -- and one that is cut
    cut_stands : u.cut ≡ true → IsOwed p k u.input u.wrote u.sent true → BirthsStand g r bs
    unfolding turn_of
    cut_stands cut owed =
        let down : node_at g n ≡ None = here.0 ∙ ap (λ c. kept_after c (Some (turn_of p k u.input))) cut in
        let old : IfSome d.wrote (RecordNames (Began bs)) = old_record view bears so.1 in
        let written : IfSome u.wrote (RecordNames (Began bs)) = elim owed.0 [ inl none ↦ unwritten u.wrote none | inr is ↦ subst (λ w. IfSome w (RecordNames (Began bs))) (sym is) old ] in
        record {
          once = born.once;
          trees = born.trees;
          lives = at_each (λ o zs. IfSome o (NamesAre (Began bs))) (subst (λ o. IfSome o (NamesAre (Began bs))) (sym down) tt) born.lives;
          disks = at_each (λ o (zs : List RedoRecord). AllByRecursion (RecordNames (Began bs)) zs)
              (subst (λ (zs : List RedoRecord). AllByRecursion (RecordNames (Began bs)) zs) (sym here.1) (recorded (Began bs) rs u.wrote (born.disks n) written)) born.disks;
          said = sent_after (Sent (Began bs)) places asked f (happenings.Turn u) (subst (λ (ms : List Msg). AllByRecursion (Sent (Began bs)) ms) (sym owed.1) tt) born.said;
          there = old_there;
        }

    turn_births : (cut : Bool) → u.cut ≡ cut → IsOwed p k u.input u.wrote u.sent cut → BirthsStand g r (births_after places f (happenings.Turn u) bs)
    turn_births true cut owed = subst (λ q. BirthsStand g r (if q then bs else bs ++ births_at p u.input (node_at f n))) (sym cut) (cut_stands cut owed)
    turn_births false cut owed =
        subst (λ q. BirthsStand g r (if q then bs else bs ++ births_at p u.input (node_at f n))) (sym cut)
        (subst (λ o. BirthsStand g r (bs ++ births_at p u.input o)) (sym may.up) (whole_stands cut owed))

    pub turn_born : BirthsStand g r (births_after places f (happenings.Turn u) bs)
    turn_born = turn_births u.cut refl may.owed
