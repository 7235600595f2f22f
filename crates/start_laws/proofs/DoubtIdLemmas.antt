-- The branches in doubt of a disk are those in doubt by its entries, each put at the place of its id when it was sealed.
use Rattle.std.proofs.Common.{◌≡◌, ℕ, ◌&&◌, not, Bool, true, false, if◌then◌else◌, List, [], ◌∷◌, ◌++◌, filter, flat_map, map, refl, sym, ap, subst, ◌∙◌, append-nil, append_assoc}
use Rattle.std.proofs.lemmas.Bool.{eq-eqb}
use Rattle.node_rules.specs.Data.{Change, BranchId, RedoRecord, Doubt}
use Rattle.node_rules.specs.Data.records
use Rattle.node_rules.specs.NodeState.{Stored, doubt_id}
use Rattle.node_rules.specs.Records.{applied, nothing_stored, stored_by, doubt_over}
use Rattle.node_rules.specs.Words.{same, drop_item, put_by_branch}
use Rattle.run_rules.specs.Data.{Entry}
use Rattle.run_rules.specs.Data.entries
use Rattle.run_rules.specs.Book.{is_end_of, stands, EachAgainst, doubt_in, in_doubt}
use Rattle.run_rules.specs.Entries.{entry_of}
use Rattle.book_laws.proofs.FlatLemmas.{any_same}
use Rattle.book_laws.proofs.NodeBookLemmas.{ComesHere}
use Rattle.book_laws.proofs.NodeDoubtLemmas.{RecordComes, doubts_more, doubts_less}
use Rattle.start_laws.specs.StartLaws.{by_id, doubters}
use Rattle.start_laws.proofs.IdOrderLemmas.{put, by_id_filter, by_id_last, ids_put}

-- ---- one entry more

-- that ends nobody, and seals nobody
doubts_same : (n : ℕ) (es : List Entry) (e : Entry) → ((b : BranchId) → is_end_of b e ≡ false) → doubt_in (es ++ e ∷ []) n e ≡ [] → in_doubt (es ++ e ∷ []) n ≡ in_doubt es n
doubts_same n es e endless none = doubts_more n es e endless ∙ (ap (λ bs. in_doubt es n ++ bs) none ∙ append-nil (in_doubt es n))

-- ---- one record more

-- the ids of the branches that are left
ids_left : (c : BranchId) (ds : List Doubt) → map doubt_id (drop_item doubt_id ds c) ≡ filter (λ b. not (same b c)) (map doubt_id ds)
ids_left c [] = refl
ids_left c (d ∷ ds) = by (not (same d.branch c)) (ids_left c ds)
  where
    by : (q : Bool) → map doubt_id (drop_item doubt_id ds c) ≡ filter (λ b. not (same b c)) (map doubt_id ds)
        → map doubt_id (if q then d ∷ drop_item doubt_id ds c else drop_item doubt_id ds c) ≡ (if q then d.branch ∷ filter (λ b. not (same b c)) (map doubt_id ds) else filter (λ b. not (same b c)) (map doubt_id ds))
    by true rest = ap (λ bs. d.branch ∷ bs) rest
    by false rest = rest

module _ (n : ℕ) where
  -- they are in doubt by these entries
  abbrev Are : List Entry → List Doubt → Type 0
  Are es ds = map doubt_id ds ≡ doubters es n

  are_on : (es : List Entry) (e : Entry) (ds : List Doubt) → ((b : BranchId) → is_end_of b e ≡ false) → doubt_in (es ++ e ∷ []) n e ≡ [] → Are es ds → Are (es ++ e ∷ []) ds
  are_on es e ds endless none now = now ∙ ap by_id (sym (doubts_same n es e endless none))

  are_less : (es : List Entry) (e : Entry) (ds : List Doubt) (c : BranchId) → ((b : BranchId) → is_end_of b e ≡ same c b) → doubt_in (es ++ e ∷ []) n e ≡ [] → Are es ds → Are (es ++ e ∷ []) (drop_item doubt_id ds c)
  are_less es e ds c ends none now =
      ids_left c ds ∙ (ap (filter (λ b. not (same b c))) now ∙ (by_id_filter (λ b. not (same b c)) (in_doubt es n) ∙ ap by_id (sym (doubts_less n es e c ends none))))

  are_sealed : (es : List Entry) (b g : BranchId) (cs : List Change) (scn : ℕ) (ds : List Doubt) (d : Doubt) → b.node ≡ n → stands (is_end_of b) es ≡ false → d.branch ≡ b → Are es ds → Are (es ++ entries.Sealed b g cs scn ∷ []) (put_by_branch doubt_id ds d)
  are_sealed es b g cs scn ds d here open_yet me now =
      ids_put ds d ∙ (ap (λ bs. put bs d.branch) now ∙ (ap (put (doubters es n)) me ∙ (sym (by_id_last (in_doubt es n) b) ∙ ap by_id (ap (λ bs. in_doubt es n ++ bs) (sym own) ∙ sym (doubts_more n es e (λ z. refl))))))
    where
      e : Entry
      e = entries.Sealed b g cs scn

      own : doubt_in (es ++ entries.Sealed b g cs scn ∷ []) n (entries.Sealed b g cs scn) ≡ b ∷ []
      own =
          ap (λ q. if q && not (stands (is_end_of b) (es ++ entries.Sealed b g cs scn ∷ [])) then b ∷ [] else []) (eq-eqb b.node n here)
          ∙ ap (λ q. if not q then b ∷ [] else []) (any_same (is_end_of b) es (entries.Sealed b g cs scn) refl ∙ open_yet)

  are_same : (es : List Entry) (ds : List Doubt) → Are es ds → Are (es ++ []) ds
  are_same es ds now = subst (λ xs. Are xs ds) (sym (append-nil es)) now

  record_are : (es : List Entry) (s : Stored) (r : RedoRecord) → RecordComes n es r → Are es s.doubts → Are (es ++ entry_of n r) (applied s r).doubts
  unfolding applied
  record_are es s (records.Table t) comes now = are_on es (entries.Made n t) s.doubts (λ b. refl) refl now
  record_are es s (records.Sealed r) comes now = are_sealed es r.me r.root r.changes r.scn s.doubts (doubt_over s.rows r) comes.1 comes.0.2 refl now
  record_are es s (records.Decided r) comes now = are_on es (entries.Decided r.me r.root r.changes r.scn) s.doubts (λ b. refl) refl now
  record_are es s (records.Ended c d) comes now = are_less es (entries.Ended c d) s.doubts c (λ b. refl) refl now
  record_are es s (records.Forced c d given) comes now = are_less es (entries.Forced c d) s.doubts c (λ b. refl) refl now
  record_are es s (records.Met c d mixed) comes now = are_on es (entries.Met c d mixed) s.doubts (λ b. refl) refl now
  record_are es s _ comes now = are_same es s.doubts now

  -- ---- all records

  abbrev told : List RedoRecord → List Entry
  told rs = flat_map (entry_of n) rs

  one_comes : (es : List Entry) (r : RedoRecord) (rs : List RedoRecord) → EachAgainst (ComesHere n) es (entry_of n r ++ told rs) → RecordComes n es r
  one_comes es (records.Sealed r) rs all = all.0
  one_comes es (records.Decided r) rs all = all.0
  one_comes es _ rs all = tt

  rest_comes : (es : List Entry) (r : RedoRecord) (rs : List RedoRecord) → EachAgainst (ComesHere n) es (entry_of n r ++ told rs) → EachAgainst (ComesHere n) (es ++ entry_of n r) (told rs)
  rest_comes es (records.Table t) rs all = all.1
  rest_comes es (records.Sealed r) rs all = all.1
  rest_comes es (records.Decided r) rs all = all.1
  rest_comes es (records.Ended b d) rs all = all.1
  rest_comes es (records.Forced b d given) rs all = all.1
  rest_comes es (records.Met b d mixed) rs all = all.1
  rest_comes es _ rs all = subst (λ xs. EachAgainst (ComesHere n) xs (told rs)) (sym (append-nil es)) all

  are_by : (es : List Entry) (s : Stored) (rs : List RedoRecord) → EachAgainst (ComesHere n) es (told rs) → Are es s.doubts → Are (es ++ told rs) (stored_by s rs).doubts
  unfolding stored_by
  are_by es s [] all now = are_same es s.doubts now
  are_by es s (r ∷ rs) all now =
      subst (λ xs. Are xs (stored_by (applied s r) rs).doubts) (append_assoc es (entry_of n r) (told rs))
      (are_by (es ++ entry_of n r) (applied s r) rs (rest_comes es r rs all) (record_are es s r (one_comes es r rs all) now))

  none_are : Are [] []
  unfolding in_doubt
  none_are = refl

  pub disk_are : (rs : List RedoRecord) → EachAgainst (ComesHere n) [] (told rs) → map doubt_id (stored_by nothing_stored rs).doubts ≡ doubters (told rs) n
  disk_are rs all = are_by [] nothing_stored rs all none_are
