-- The facts of a run: a fold of its happenings alone, which adds the entries of each to the book.
use Rattle.std.proofs.Common.{◌≡◌, List, [], ◌∷◌, ◌++◌, refl, sym, ◌∙◌, ap, append-nil, append_assoc}
use Rattle.node_rules.specs.Data.{Place}
use Rattle.run_rules.specs.Data.{Entry, Happening, Command}
use Rattle.run_rules.specs.Data.happenings
use Rattle.run_rules.specs.Entries.{book_of, entries_in}
use Rattle.run_rules.specs.Facts.{Facts, facts_after, facts_of}
use Rattle.run_rules.specs.RunReport.{Past}
use Rattle.run_rules.specs.Past.{next, past}

module _ (places : List Place) (asked : List Command) where
  -- a happening adds its entries
  pub book_next : (f : Facts) (h : Happening) → (facts_after places asked f h).book ≡ f.book ++ entries_in h
  unfolding facts_after
  book_next f (happenings.Turn t) = refl
  book_next f (happenings.Begun c) = sym (append-nil f.book)
  book_next f (happenings.Cut a b) = sym (append-nil f.book)
  book_next f (happenings.Join a b) = sym (append-nil f.book)
  book_next f (happenings.Lost k) = sym (append-nil f.book)
  book_next f (happenings.Stopped n) = sym (append-nil f.book)
  book_next f (happenings.Started n boot) = sym (append-nil f.book)

  pub book_is : (f : Facts) (hs : List Happening) → (facts_of places asked f hs).book ≡ f.book ++ book_of hs
  unfolding facts_of
  book_is f [] = sym (append-nil f.book)
  book_is f (h ∷ hs) =
      book_is (facts_after places asked f h) hs ∙ (ap (λ (es : List Entry). es ++ book_of hs) (book_next f h) ∙ append_assoc f.book (entries_in h) (book_of hs))

  -- what is told changes no fact
  pub facts_next : (p : Past) (h : Happening) → (next places asked p h).facts ≡ facts_after places asked p.facts h
  unfolding next facts_after
  facts_next p (happenings.Turn t) = refl
  facts_next p (happenings.Begun c) = refl
  facts_next p (happenings.Cut a b) = refl
  facts_next p (happenings.Join a b) = refl
  facts_next p (happenings.Lost k) = refl
  facts_next p (happenings.Stopped n) = refl
  facts_next p (happenings.Started n boot) = refl

  pub facts_are : (p : Past) (hs : List Happening) → (past places asked p hs).facts ≡ facts_of places asked p.facts hs
  unfolding past facts_of
  facts_are p [] = refl
  facts_are p (h ∷ hs) = facts_are (next places asked p h) hs ∙ ap (λ (f : Facts). facts_of places asked f hs) (facts_next p h)
