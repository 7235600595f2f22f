-- A Prepare that was sent after a moment: its sender was live when it had sent it.
use Rattle.std.proofs.Common.{◌≡◌, ◌⊎◌, Bool, true, false, List, [], ◌∷◌, ◌++◌, None, inl, inr, refl, sym, ap, subst, ◌∙◌, append-nil}
use Rattle.std.proofs.lemmas.List.{append_assoc}
use Rattle.agreement.specs.Events.{exit}
use Rattle.node_rules.specs.Data.{BranchId, Kind}
use Rattle.run_rules.specs.Births.{births_of}
use Rattle.run_rules.specs.Data.{Happening}
use Rattle.run_base_laws.specs.InTurnLaws.{said_in}
use Rattle.run_rules.specs.Lawful.{History, IsLawfulRun, facts_at}
use Rattle.run_rules.specs.Trail.{is_prepare}
use Rattle.run_branch_laws.specs.WalkLaws.{was_sent}
use Rattle.run_base_laws.proofs.BirthRunLemmas.{run_births}
use Rattle.run_branch_laws.proofs.FreezeRunLemmas.{run_freezes}
use Rattle.run_base_laws.proofs.InTurnRunLemmas.{run_calls}
use Rattle.run_base_laws.proofs.RestRunLemmas.{run_roots}
use Rattle.run_base_laws.proofs.SaidPostLemmas.{posts_of, said_after}
use Rattle.tree_laws.proofs.AskLemmas.{sent_split}
use Rattle.tree_laws.proofs.AskRunLemmas.{run_asks}
use Rattle.tree_laws.proofs.LeftLemmas.{asks_live}
use Rattle.tree_laws.proofs.PrefixLemmas.{so_far, f_at, e_at, one_on, more_on}
use Rattle.tree_laws.proofs.FrozenLemmas.{Since}
use Rattle.tree_laws.proofs.TimeLemmas.{Part, part_lawful, part_on, part_of, may_of, keep_on}

module _ (t : History) (whole : IsLawfulRun t) (hs0 : List Happening) (part0 : Part t whole hs0) where
  -- one happening later
  pub since_on : (m : List Happening) (h : Happening) → Since t whole hs0 part0 m → Since t whole hs0 part0 (m ++ h ∷ [])
  since_on m h since = (since.0 ++ h ∷ [], sym (append_assoc hs0 since.0 (h ∷ [])) ∙ ap (λ xs. xs ++ h ∷ []) since.1)

  -- The sender was live when it had sent it.
  pub record SentThen (kind : Kind → Bool) (q c : BranchId) : Type 0 where
    pub moment : List Happening
    pub part : Part t whole moment
    pub since : Since t whole hs0 part0 moment
    pub live : exit (e_at t moment) q ≡ None
    pub sent : was_sent kind (said_in (f_at t moment)) q c ≡ true

  module _ (kind : Kind → Bool) (asks : (z : Kind) → kind z ≡ true → is_prepare z ≡ true) (q c : BranchId) (unsent : was_sent kind (said_in (f_at t hs0)) q c ≡ false) where
    abbrev KnownSo : List Happening → Type 0
    KnownSo m = Since t whole hs0 part0 m × ((was_sent kind (said_in (f_at t m)) q c ≡ false) ⊎ SentThen kind q c)

    so_on : (m : List Happening) (h : Happening) (rest : List Happening) → m ++ h ∷ rest ≡ t.trace → KnownSo m → KnownSo (m ++ h ∷ [])
    so_on m h rest is now = (since_on m h now.0, elim now.1 [ inr it ↦ inr it | inl not ↦ by not (was_sent kind (said_in (f_at t (m ++ h ∷ []))) q c) refl ])
      where
        live_then : was_sent kind (said_in (f_at t m)) q c ≡ false → was_sent kind (said_in (f_at t (m ++ h ∷ []))) q c ≡ true → exit (e_at t (m ++ h ∷ [])) q ≡ None
        live_then not sent =
            let s : History = so_far t m in
            let lawful : IsLawfulRun s = part_lawful t whole m (part_of t whole m h rest is) in
            let says : said_in (f_at t (m ++ h ∷ [])) ≡ said_in (f_at t m) ++ posts_of h = ap said_in (one_on t m h) ∙ said_after t.places t.commands (f_at t m) h in
            elim (sent_split kind (said_in (f_at t m)) (posts_of h) q c (subst (λ xs. was_sent kind xs q c ≡ true) says sent)) [
              | inl old ↦ absurd (cc (old, not))
              | inr new ↦ subst (λ e. exit e q ≡ None) (sym (more_on t m h))
                  (asks_live t.places t.commands t.of_a_script.each kind asks (f_at t m) (e_at t m) (births_of s) (run_births s lawful) (run_roots s lawful) (run_calls s lawful) (run_freezes s lawful) (run_asks s lawful) h (may_of t whole m h rest is) q c new)
            ]

        by : was_sent kind (said_in (f_at t m)) q c ≡ false → (w : Bool) → was_sent kind (said_in (f_at t (m ++ h ∷ []))) q c ≡ w → (was_sent kind (said_in (f_at t (m ++ h ∷ []))) q c ≡ false) ⊎ SentThen kind q c
        by not false sent = inl sent
        by not true sent = inr (record { moment = m ++ h ∷ []; part = part_on t whole m h rest is; since = since_on m h now.0; live = live_then not sent; sent = sent })

    pub sent_then : was_sent kind (said_in (facts_at t)) q c ≡ true → SentThen kind q c
    sent_then sent =
        elim (subst KnownSo part0.is (keep_on t whole KnownSo so_on hs0 part0.rest (record { rest = []; is = append-nil (hs0 ++ part0.rest) ∙ part0.is }) (([], append-nil hs0), inl unsent))).1 [
          | inl not ↦ absurd (cc (sent, not))
          | inr it ↦ it
        ]
