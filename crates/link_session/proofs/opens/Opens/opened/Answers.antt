use Rattle.std.proofs.Common.{ap, ◌∙◌}
use Rattle.std.specs.Map.{lookup}
use Rattle.link_session.specs.Opens.{opening_of}
use Rattle.link_session.specs.Keyed.{told_by}
use Rattle.link_session.proofs.Entries.{found_as, opened_is}
use Rattle.link_session.proofs.opens.Opens.opened.Goals as goal

pub returns-clause-found : goal.returns-clause-found
returns-clause-found c =
    let parent = c.args.parent.now in
    let edge = c.args.edge in
    ap (told_by parent edge) (c.copied.ensures ∙ c.get.ensures.value)
    ∙ ap (λ k. told_by parent edge (lookup (found_as k) c.self.inside.opened.entries)) c.of.ensures
    ∙ opened_is parent edge c.self.inside.opened.entries
    ∙ ap (λ os. opening_of os parent edge) c.self.view_is
