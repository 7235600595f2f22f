-- Names keep their meaning: what a name of a table means at a node, where it is behind a link, and where that link leads, it means from then on.
use Rattle.std.proofs.Common.{◌≡◌, ℕ, ◌||◌, Bool, true, false, if◌then◌else◌, find, List, [], ◌∷◌, ◌++◌, Option, Some, None, inl, inr, refl, sym, ap, subst, ◌∙◌, append-nil}
use Rattle.std.specs.Prelude.{option_to_list}
use Rattle.std.specs.List.{list_any}
use Rattle.commit_forget.specs.declared.next.Next.TheVariants as nexts
use Rattle.redo_record.specs.Durable.{durable, durable_after}
use Rattle.node_rules.specs.Data.{Table, TableRef, Link, Synonym, RedoRecord, KeptRow, Durable, Place, Input}
use Rattle.node_rules.specs.Data.acts
use Rattle.node_rules.specs.Data.records
use Rattle.node_rules.specs.Data.params
use Rattle.node_rules.specs.Commit.{acked_by}
use Rattle.node_rules.specs.NodeState.{NodeState, TurnDraft, kept_row_id}
use Rattle.node_rules.specs.Names.{Behind, synonym_named, table_named, table_of, ref_named, named_by, node_named, target_of}
use Rattle.node_rules.specs.Client.{is_used, is_link}
use Rattle.node_rules.specs.Words.{same_text, put_item}
use Rattle.node_rules.proofs.Steps as steps
use Rattle.node_rules.proofs.Steps.{Step}
use Rattle.std.specs.Prelude.{unwrap_or}
use Rattle.std.proofs.lemmas.List.Sums.{fold-append}
use Rattle.std.specs.Cmp.Lexicographic.{bytes_decides}
use Rattle.tran_ids.proofs.NumberedLemmas.{set_or_before}
use Rattle.redo_record.specs.Durable.{no_durable}
use Rattle.node_rules.specs.Data.inputs
use Rattle.node_rules.specs.NodeState.{Stored}
use Rattle.node_rules.specs.Turn.{heard, draft_of}
use Rattle.node_rules.specs.Words.{numbered, set_numbered}
use Rattle.run_rules.specs.Data.{Happening}
use Rattle.run_rules.specs.Data.happenings
use Rattle.run_rules.specs.Facts.{Facts, place_at, records_at, with_boot, facts_after}
use Rattle.run_rules.specs.Lawful.{History, IsLawfulRun}
use Rattle.run_base_laws.proofs.LawfulLemmas.{serves, of_wrote}
use Rattle.run_base_laws.proofs.StoredLemmas.{records_are_kept}
use Rattle.tree_laws.proofs.PrefixLemmas.{so_far, f_at, one_on}
use Rattle.tree_laws.proofs.TimeLemmas.{Part, part_lawful, may_of, keep_on}
use Rattle.tree_trail_laws.proofs.PlanLemmas.{find_more}
use Rattle.answer_origin_laws.proofs.NameLemmas.{OneCatalog, catalog_kept, same_names}

-- a record of the catalog has a new name
abbrev pub IsNewName : Durable → RedoRecord → Type 0
IsNewName d (records.Table t) = is_used d t.name ≡ false
IsNewName d (records.Link l) = is_link d l.name ≡ false
IsNewName d (records.Synonym y) = is_used d y.name ≡ false
IsNewName d _ = Unit {0}

-- so does the record of a turn, where there is one
abbrev pub HasNewName : Durable → Option RedoRecord → Type 0
HasNewName d None = Unit {0}
HasNewName d (Some r) = IsNewName d r

has_kept : (d : Durable) (ks : List KeptRow) (o : Option RedoRecord) → HasNewName (record d { kept = ks }) o → HasNewName d o
has_kept d ks None is = tt
has_kept d ks (Some (records.Table t)) is = is
has_kept d ks (Some (records.Link l)) is = is
has_kept d ks (Some (records.Synonym y)) is = is
has_kept d ks (Some _) is = tt

module _ (p : Place) (input : Input) where
  -- each step writes records with new names
  pub new_names : {k : NodeState} {d : TurnDraft} → Step p input k d → HasNewName k.stored.durable d.wrote
  new_names (steps.Begins n s read_at call begins fit none step) = new_names step
  new_names (steps.Counts_call n s call counts step) = new_names step
  new_names (steps.Goes_back x step goes next) = new_names next
  new_names (steps.Pends n l given call has live code writer step) = new_names step
  new_names (steps.Lets_reads_go l comment site_below live begins step) = new_names step
  new_names (steps.Counts_ack {k = k} {d = d} s from kept came counts step) = has_kept k.stored.durable (put_item kept_row_id k.stored.durable.kept (acked_by s from)) d.wrote (new_names step)
  new_names (steps.Makes_record n s r d call (steps.Makes_table t free)) = free
  new_names (steps.Makes_record n s r d call (steps.Makes_link l free)) = free
  new_names (steps.Makes_record n s r d call (steps.Makes_synonym y free)) = free
  new_names (steps.Makes_record n s r d call (steps.Sets_recovery on)) = tt
  new_names (steps.Acts l site_below acts.Rest why) = tt
  new_names (steps.Does s from nexts.Rest kept why) = tt
  new_names (steps.Gives_up_commit n b None gives has pending is) = tt
  new_names _ = tt

-- What is behind a link stays so.
pub record Extends (d e : Durable) : Type 0 where
  pub names : (ref : TableRef) (link table : List ℕ) → named_by d ref ≡ Behind link table → named_by e ref ≡ Behind link table
  pub leads : (p : Place) (link : List ℕ) (n : ℕ) → target_of p d link ≡ Some n → target_of p e link ≡ Some n

pub extends_same : (d : Durable) → Extends d d
extends_same d = record { names = λ ref link table is. is; leads = λ p link n is. is }

pub extends_on : (d e g : Durable) → Extends d e → Extends e g → Extends d g
extends_on d e g one two = record { names = λ ref link table is. two.names ref link table (one.names ref link table is); leads = λ p link n is. two.leads p link n (one.leads p link n is) }

-- ---- one record more

-- none passes where none is found
module _ {A : Type 0} where
  pub none_passes : (p : A → Bool) (xs : List A) → find p xs ≡ None → list_any p xs ≡ false
  none_passes p [] none = refl
  none_passes p (x ∷ xs) none = by (p x) none (none_passes p xs)
    where
      by : (q : Bool) → (if q then Some x else find p xs) ≡ None → (find p xs ≡ None → list_any p xs ≡ false) → (q || list_any p xs) ≡ false
      by true is rest = absurd cc
      by false is rest = rest is

  pub passes_once : (p : A → Bool) (xs : List A) (x : A) → find p xs ≡ Some x → list_any p xs ≡ true
  passes_once p [] x is = absurd cc
  passes_once p (y ∷ ys) x is = by (p y) is (passes_once p ys x)
    where
      by : (q : Bool) → (if q then Some y else find p ys) ≡ Some x → (find p ys ≡ Some x → list_any p ys ≡ true) → (q || list_any p ys) ≡ true
      by true at rest = refl
      by false at rest = rest at

  pub none_behind : (p : A → Bool) (xs : List A) (y : A) → find p xs ≡ None → p y ≡ false → find p (xs ++ y ∷ []) ≡ None
  none_behind p [] y none fails = ap (λ q. if q then Some y else None) fails
  none_behind p (x ∷ xs) y none fails = by (p x) none (λ rest. none_behind p xs y rest fails)
    where
      by : (q : Bool) → (if q then Some x else find p xs) ≡ None → (find p xs ≡ None → find p (xs ++ y ∷ []) ≡ None) → (if q then Some x else find p (xs ++ y ∷ [])) ≡ None
      by true is rest = absurd cc
      by false is rest = rest is

-- a name that has a table is no synonym's
synonym_behind : (o : Option Synonym) (link table : List ℕ) → synonym_named o ≡ Behind link table → (y : Synonym) × (o ≡ Some y)
synonym_behind None link table is = absurd cc
synonym_behind (Some y) link table is = (y, refl)

table_behind : (d : Durable) (name : List ℕ) (o : Option Table) (link table : List ℕ) → table_named d name o ≡ Behind link table → (o ≡ None) × (synonym_named (find (λ (y : Synonym). same_text y.name name) d.synonyms) ≡ Behind link table)
table_behind d name None link table is = (refl, is)
table_behind d name (Some t) link table is = absurd cc

or_parts : (a b : Bool) → (a || b) ≡ false → (a ≡ false) × (b ≡ false)
or_parts true b is = absurd cc
or_parts false b is = (refl, is)

one_text : (a b : List ℕ) → same_text a b ≡ true → a ≡ b
one_text a b is = (bytes_decides a b).0 is

module _ (d : Durable) (t : Table) (free : is_used d t.name ≡ false) where
  abbrev with_table : Durable
  with_table = record d { tables = d.tables ++ t ∷ [] }

  new_table : (name : List ℕ) (link table : List ℕ) (o : Option Table) → table_of d name ≡ o → table_named d name o ≡ Behind link table → table_named with_table name (table_of with_table name) ≡ Behind link table
  new_table name link table (Some x) at is = absurd cc
  new_table name link table None at is =
      let y = synonym_behind (find (λ (z : Synonym). same_text z.name name) d.synonyms) link table is in
      let none : table_of with_table name ≡ None = none_behind (λ (z : Table). same_text z.name name) d.tables t at (by (same_text t.name name) refl y.0 y.1) in
      ap (table_named with_table name) none ∙ is
    where
      by : (q : Bool) → same_text t.name name ≡ q → (y : Synonym) → find (λ (z : Synonym). same_text z.name name) d.synonyms ≡ Some y → q ≡ false
      by false is y found = refl
      by true is y found =
          let here : t.name ≡ name = one_text t.name name is in
          let any : list_any (λ (z : Synonym). same_text z.name t.name) d.synonyms ≡ true = subst (λ n. list_any (λ (z : Synonym). same_text z.name n) d.synonyms ≡ true) (sym here) (passes_once (λ (z : Synonym). same_text z.name name) d.synonyms y found) in
          let none : list_any (λ (z : Synonym). same_text z.name t.name) d.synonyms ≡ false = (or_parts (list_any (λ (z : Table). same_text z.name t.name) d.tables) (list_any (λ (z : Synonym). same_text z.name t.name) d.synonyms) free).1 in
          absurd (cc (any, none))

  table_names : (ref : TableRef) (o : Option (List ℕ)) (link table : List ℕ) → ref_named d ref o ≡ Behind link table → ref_named with_table ref o ≡ Behind link table
  table_names ref (Some l) link table is = is
  table_names ref None link table is = new_table ref.name link table (table_of d ref.name) refl is

module _ (d : Durable) (y : Synonym) where
  abbrev with_synonym : Durable
  with_synonym = record d { synonyms = d.synonyms ++ y ∷ [] }

  more_synonyms : (name : List ℕ) (o : Option Synonym) (link table : List ℕ) → find (λ (z : Synonym). same_text z.name name) d.synonyms ≡ o → synonym_named o ≡ Behind link table → synonym_named (find (λ (z : Synonym). same_text z.name name) (d.synonyms ++ y ∷ [])) ≡ Behind link table
  more_synonyms name None link table at is = absurd cc
  more_synonyms name (Some z) link table at is = ap synonym_named (find_more (λ (x : Synonym). same_text x.name name) d.synonyms (y ∷ []) z at) ∙ is

  by_table : (name : List ℕ) (o : Option Table) (link table : List ℕ) → table_named d name o ≡ Behind link table → table_named with_synonym name o ≡ Behind link table
  by_table name (Some t) link table is = absurd cc
  by_table name None link table is = more_synonyms name (find (λ (z : Synonym). same_text z.name name) d.synonyms) link table refl is

  synonym_names : (ref : TableRef) (o : Option (List ℕ)) (link table : List ℕ) → ref_named d ref o ≡ Behind link table → ref_named with_synonym ref o ≡ Behind link table
  synonym_names ref (Some l) link table is = is
  synonym_names ref None link table is = by_table ref.name (table_of d ref.name) link table is

more_links : (p : Place) (d : Durable) (l : Link) (link : List ℕ) (n : ℕ) (o : Option Link) → find (λ (x : Link). same_text x.name link) d.links ≡ o → node_named p.names o ≡ Some n → node_named p.names (find (λ (x : Link). same_text x.name link) (d.links ++ l ∷ [])) ≡ Some n
more_links p d l link n None at is = absurd cc
more_links p d l link n (Some x) at is = ap (node_named p.names) (find_more (λ (y : Link). same_text y.name link) d.links (l ∷ []) x at) ∙ is

-- the same tables, links and synonyms
pub extends_catalog : (d e : Durable) → OneCatalog d e → Extends d e
extends_catalog d e one = record {
  names = λ ref link table is. sym (same_names d e one ref) ∙ is;
  leads = λ p link n is. ap (λ ls. node_named p.names (find (λ (l : Link). same_text l.name link) ls)) (sym one.links) ∙ is;
}

pub extends_more : (d : Durable) (r : RedoRecord) → IsNewName d r → Extends d (durable_after d r)
unfolding durable_after
extends_more d (records.Boot n) new = extends_catalog d (record d { boot = n }) (record { tables = refl; links = refl; synonyms = refl })
extends_more d (records.Table t) new = record { names = λ ref link table is. table_names d t new ref ref.link link table is; leads = λ p link n is. is }
extends_more d (records.Link l) new = record {
  names = λ ref link table is. link_names ref ref.link link table is;
  leads = λ p link n is. more_links p d l link n (find (λ (x : Link). same_text x.name link) d.links) refl is;
}
  where
    by_table_of : (name : List ℕ) (o : Option Table) (link table : List ℕ) → table_named d name o ≡ Behind link table → table_named (record d { links = d.links ++ l ∷ [] }) name o ≡ Behind link table
    by_table_of name None link table is = is
    by_table_of name (Some t) link table is = absurd cc

    link_names : (ref : TableRef) (o : Option (List ℕ)) (link table : List ℕ) → ref_named d ref o ≡ Behind link table → ref_named (record d { links = d.links ++ l ∷ [] }) ref o ≡ Behind link table
    link_names ref (Some x) link table is = is
    link_names ref None link table is = by_table_of ref.name (table_of d ref.name) link table is
extends_more d (records.Synonym y) new = record { names = λ ref link table is. synonym_names d y ref ref.link link table is; leads = λ p link n is. is }
extends_more d (records.Param (params.Recovery on)) new = extends_catalog d (record d { recovery = on }) (record { tables = refl; links = refl; synonyms = refl })
extends_more d (records.Param (params.Strength n)) new = extends_catalog d (record d { strength = Some n }) (record { tables = refl; links = refl; synonyms = refl })
extends_more d _ new = extends_catalog d _ (record { tables = refl; links = refl; synonyms = refl })

-- the catalog of one record more
pub durable_last : (rs : List RedoRecord) (r : RedoRecord) → durable (rs ++ r ∷ []) ≡ durable_after (durable rs) r
durable_last rs r = fold-append durable_after no_durable rs (r ∷ [])

-- a new name is one by the records too
pub new_by_records : (d e : Durable) → OneCatalog d e → (r : RedoRecord) → IsNewName d r → IsNewName e r
new_by_records d e one (records.Table t) is = sym (used_same d e one t.name) ∙ is
  where
    used_same : (d e : Durable) → OneCatalog d e → (name : List ℕ) → is_used d name ≡ is_used e name
    used_same d e one name = ap (λ ts. list_any (λ (t : Table). same_text t.name name) ts || list_any (λ (y : Synonym). same_text y.name name) d.synonyms) one.tables ∙ ap (λ ys. list_any (λ (t : Table). same_text t.name name) e.tables || list_any (λ (y : Synonym). same_text y.name name) ys) one.synonyms
new_by_records d e one (records.Link l) is = sym (ap (λ ls. list_any (λ (x : Link). same_text x.name l.name) ls) one.links) ∙ is
new_by_records d e one (records.Synonym y) is = sym (ap (λ ts. list_any (λ (t : Table). same_text t.name y.name) ts || list_any (λ (z : Synonym). same_text z.name y.name) d.synonyms) one.tables ∙ ap (λ ys. list_any (λ (t : Table). same_text t.name y.name) e.tables || list_any (λ (z : Synonym). same_text z.name y.name) ys) one.synonyms) ∙ is
new_by_records d e one _ is = tt

-- ---- the happenings of a run

module _ (t : History) (whole : IsLawfulRun t) where
  -- the catalog of a node by the records so far
  abbrev pub catalog : List Happening → ℕ → Durable
  catalog hs n = durable (records_at (f_at t hs) n)

  with_records : (f : Facts) (n m : ℕ) (rs more : List RedoRecord) → rs ≡ records_at f n ++ more → Extends (durable (records_at f n)) (durable rs) → Extends (durable (records_at f m)) (durable (unwrap_or (numbered (set_numbered f.records n rs) m) []))
  with_records f n m rs more is grows = elim (set_or_before f.records n m rs) [
    | inl before ↦ subst (λ o. Extends (durable (records_at f m)) (durable (unwrap_or o []))) (sym before) (extends_same (durable (records_at f m)))
    | inr new ↦ subst (λ o. Extends (durable (records_at f m)) (durable (unwrap_or o []))) (sym new.1) (subst (λ i. Extends (durable (records_at f i)) (durable rs)) new.0 grows)
  ]

  one_more : (rs : List RedoRecord) (o : Option RedoRecord) → HasNewName (durable rs) o → Extends (durable rs) (durable (rs ++ option_to_list o))
  one_more rs None new = subst (λ xs. Extends (durable rs) (durable xs)) (sym (append-nil rs)) (extends_same (durable rs))
  one_more rs (Some r) new = subst (Extends (durable rs)) (sym (durable_last rs r)) (extends_more (durable rs) r new)

  catalog_after : (hs : List Happening) (h : Happening) (rest : List Happening) → hs ++ h ∷ rest ≡ t.trace → (n : ℕ) → Extends (catalog hs n) (durable (records_at (facts_after t.places t.commands (f_at t hs) h) n))
  unfolding facts_after
  catalog_after hs (happenings.Turn u) rest is n =
      let s0 : History = so_far t hs in
      let lawful0 : IsLawfulRun s0 = part_lawful t whole hs (record { rest = happenings.Turn u ∷ rest; is = is }) in
      let may = may_of t whole hs (happenings.Turn u) rest is in
      let k : NodeState = may.0 in
      let p : Place = place_at t.places u.node in
      let serving = serves t.places (f_at t hs) u k may.1 in
      let one : OneCatalog k.stored.durable (catalog hs u.node) = catalog_kept k (records_at (f_at t hs) u.node) (records_are_kept s0 lawful0 u.node k may.1.up) in
      let new : HasNewName k.stored.durable (draft_of p k u.input).wrote = subst (λ (s : Stored). HasNewName s.durable (draft_of p k u.input).wrote) (heard_stored k u.input) (new_names p u.input serving.step) in
      let wrote : HasNewName (catalog hs u.node) u.wrote = of_wrote p k u serving (HasNewName (catalog hs u.node)) tt (has_by one (draft_of p k u.input).wrote new) in
      with_records (f_at t hs) u.node n (records_at (f_at t hs) u.node ++ option_to_list u.wrote) (option_to_list u.wrote) refl (one_more (records_at (f_at t hs) u.node) u.wrote wrote)
    where
      heard_stored : (k : NodeState) (input : Input) → (heard k input).stored ≡ k.stored
      heard_stored k (inputs.Message m) = refl
      heard_stored k (inputs.Call n s) = refl
      heard_stored k (inputs.GiveUp n) = refl
      heard_stored k inputs.Reco = refl
      heard_stored k inputs.Checkpoint = refl

      has_by : {d e : Durable} → OneCatalog d e → (o : Option RedoRecord) → HasNewName d o → HasNewName e o
      has_by one None is = tt
      has_by {d = d} {e = e} one (Some r) is = new_by_records d e one r is
  catalog_after hs (happenings.Started m boot) rest is n =
      with_records (f_at t hs) m n (with_boot (f_at t hs) m boot) (records.Boot boot ∷ []) refl (one_more (records_at (f_at t hs) m) (Some (records.Boot boot)) tt)
  catalog_after hs _ rest is n = extends_same (catalog hs n)

  -- from some moment on
  pub catalog_on : (n : ℕ) (hs mid : List Happening) → Part t whole (hs ++ mid) → Extends (catalog hs n) (catalog (hs ++ mid) n)
  catalog_on n hs mid part =
      keep_on t whole (λ xs. Extends (catalog hs n) (catalog xs n))
      (λ xs h rest is now. extends_on (catalog hs n) (catalog xs n) (catalog (xs ++ h ∷ []) n) now (subst (λ f. Extends (catalog xs n) (durable (records_at f n))) (sym (one_on t xs h)) (catalog_after xs h rest is n)))
      hs mid part (extends_same (catalog hs n))
