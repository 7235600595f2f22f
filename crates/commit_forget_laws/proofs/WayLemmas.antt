-- A neighbour that a row names, and that is not toward, is beyond. Two rows are not toward each other.
use Rattle.std.proofs.Common.{◌≡◌, ◌≢◌, Bool, true, false, Option, Some, None, inl, inr, refl, sym, ap, subst, ◌∙◌, ◌<◌, arith}
use Rattle.tran_ids.proofs.BranchLemmas.{same_from_equal}
use Rattle.session_tree.specs.Live.{is_branch}
use Rattle.agreement.specs.Events.{Exit, Dropped, Beyond, exit, site_of}
use Rattle.node_rules.specs.Data.{BranchId}
use Rattle.run_rules.specs.Births.{Born}
use Rattle.run_base_laws.specs.BirthLaws.{Began, IsChild}
use Rattle.run_base_laws.specs.FreezeLaws.{was_asked}
use Rattle.run_rules.specs.Lawful.{History, IsLawfulRun}
use Rattle.run_base_laws.specs.RunEvents.{events_of}
use Rattle.run_branch_laws.specs.WalkLaws.{is_below, was_sent}
use Rattle.tree_laws.specs.Forests.{comes_to}
use Rattle.tree_laws.proofs.FitRowLemmas.{RowFits}
use Rattle.tree_laws.proofs.ForestRunLemmas.{runs_have_forests}
use Rattle.tree_laws.proofs.ForestLemmas as trees
use Rattle.tree_laws.proofs.ForestRunLemmas.{run_known}
use Rattle.tree_laws.proofs.LeadLemmas.{Leads, leads_so}
use Rattle.tree_laws.proofs.WeightLemmas.{asked_way}
use Rattle.tree_laws.proofs.HeardLemmas.{left_were_asked}
use Rattle.tree_laws.proofs.AtPart.{at_end}

module _ (t : History) (whole : IsLawfulRun t) where
  open at_end t use {forest as p, said, bs}

  -- ---- neighbours

  known : trees.Known bs said
  known = run_known t whole

  -- who tells a child that the walk comes there is on it
  tells_on : (x : Born) → Began bs x → (c : BranchId) → was_sent is_below said x.me c ≡ true → comes_to said x.me x.parent ≡ true
  tells_on x began c told = by x.parent refl
    where
      by : (o : Option BranchId) → x.parent ≡ o → comes_to said x.me o ≡ true
      by None is = refl
      by (Some q) is =
          let above = known.walk x.me c told in
          let it : above.0 ≡ x = trees.same_born bs said known above.0 x above.1 began above.2 in
          above.3 q (ap (λ (y : Born). y.parent) it ∙ is)

  leads_down : (x : Born) → Began bs x → (c : BranchId) → was_sent is_below said x.me c ≡ true → Leads bs said known x.me c
  leads_down x began c told = leads_so bs said known x x.me c began refl (inr (tells_on x began c told, told))

  leads_up : (x : Born) → Began bs x → (q : BranchId) → x.parent ≡ Some q → was_asked said q x.me ≡ true → was_sent is_below said q x.me ≡ false → Leads bs said known x.me q
  leads_up x began q above asked off = leads_so bs said known x x.me q began refl (inl (above, asked_way said q x.me asked off))

  -- a branch that has left was asked
  asked_by_parent : (x : Born) → Began bs x → (q : BranchId) → x.parent ≡ Some q → (z : Exit) → exit (events_of t) x.me ≡ Some z → z ≢ Dropped → was_asked said q x.me ≡ true
  asked_by_parent x began q above z left other =
      let heard = left_were_asked t whole x.me z left other in
      let it : heard.0 ≡ x = trees.same_born bs said known heard.0 x heard.1 began heard.2 in
      heard.3 q (ap (λ (y : Born). y.parent) it ∙ above)

  -- the two ways contradict
  not_way : (b x : BranchId) (toward : Option BranchId) → RowFits p b toward → is_branch x toward ≡ false → p.toward b ≡ x → b ≢ site_of p b → ⊥
  not_way b x toward (inl on) off next other = (let yes : is_branch x toward ≡ true = ap (is_branch x) on.0 ∙ same_from_equal (p.toward b) x next in absurd (cc (yes, off)))
  not_way b x toward (inr site) off next other = absurd (other site.1)

  -- a child that is not toward, or a parent that is not, is beyond
  pub child_beyond : (b x : BranchId) (toward : Option BranchId) → RowFits p b toward → is_branch x toward ≡ false → IsChild (Began bs) x b → (z : Exit) → exit (events_of t) x ≡ Some z → z ≢ Dropped → Beyond p x b
  child_beyond b x toward way off child z left other = by (was_sent is_below said b child.0.me) refl
    where
      parent : Born
      parent = (trees.below_of bs said known child.0 b child.1 child.3).up

      by : (q : Bool) → was_sent is_below said b child.0.me ≡ q → Beyond p x b
      by true told =
          let up = trees.below_of bs said known child.0 b child.1 child.3 in
          let lead : Leads bs said known up.up.me child.0.me = leads_down up.up up.began child.0.me (subst (λ c. was_sent is_below said c child.0.me ≡ true) (sym up.is_me) told) in
          let its : Leads bs said known b x = subst (λ c. Leads bs said known c x) up.is_me (subst (Leads bs said known up.up.me) child.2 lead) in
          absurd (not_way b x toward way off its.toward its.not_site)
      by false none =
          let asked : was_asked said b child.0.me ≡ true = asked_by_parent child.0 child.1 b child.3 z (subst (λ c. exit (events_of t) c ≡ Some z) (sym child.2) left) other in
          let lead : Leads bs said known x b = subst (λ c. Leads bs said known c b) child.2 (leads_up child.0 child.1 b child.3 asked none) in
          record { member = lead.member; not_site = lead.not_site; next = lead.toward }

  pub parent_beyond : (b x : BranchId) (toward : Option BranchId) → RowFits p b toward → is_branch x toward ≡ false → IsChild (Began bs) b x → (z : Exit) → exit (events_of t) b ≡ Some z → z ≢ Dropped → Beyond p x b
  parent_beyond b x toward way off child z left other = by (was_sent is_below said x child.0.me) refl
    where
      by : (q : Bool) → was_sent is_below said x child.0.me ≡ q → Beyond p x b
      by true told =
          let up = trees.below_of bs said known child.0 x child.1 child.3 in
          let lead : Leads bs said known up.up.me child.0.me = leads_down up.up up.began child.0.me (subst (λ c. was_sent is_below said c child.0.me ≡ true) (sym up.is_me) told) in
          let its : Leads bs said known x b = subst (λ c. Leads bs said known c b) up.is_me (subst (Leads bs said known up.up.me) child.2 lead) in
          record { member = its.member; not_site = its.not_site; next = its.toward }
      by false none =
          let asked : was_asked said x child.0.me ≡ true = asked_by_parent child.0 child.1 x child.3 z (subst (λ c. exit (events_of t) c ≡ Some z) (sym child.2) left) other in
          let lead : Leads bs said known b x = subst (λ c. Leads bs said known c x) child.2 (leads_up child.0 child.1 x child.3 asked none) in
          absurd (not_way b x toward way off lead.toward lead.not_site)

  -- two rows are not toward each other
  pub not_each_other : (a b : BranchId) (o q : Option BranchId) → RowFits p a o → RowFits p b q → o ≡ Some b → q ≡ Some a → ⊥
  not_each_other a b o q (inr site) way is that = (let none_at = site.0 in absurd (cc (none_at, is)))
  not_each_other a b o q (inl on) (inr site) is that = (let none_at = site.0 in absurd (cc (none_at, that)))
  not_each_other a b o q (inl on) (inl off) is that =
      let up : Some (p.toward a) ≡ Some b = sym on.0 ∙ is in let up_is : p.toward a ≡ b = cc in
      let down : Some (p.toward b) ≡ Some a = sym off.0 ∙ that in let down_is : p.toward b ≡ a = cc in
      let near : p.far b < p.far a = subst (λ c. p.far c < p.far a) up_is ((runs_have_forests t whole).nearer a on.1 on.2) in
      let far : p.far a < p.far b = subst (λ c. p.far c < p.far b) down_is ((runs_have_forests t whole).nearer b off.1 off.2) in
      absurd (omega (arith, near, far))
