use Rattle.std.proofs.Common.{◌≡◌, ◌↔◌, List, IsTrue, subst, ◌∙◌}
use Rattle.scope_names.specs.declared.names.NameRow.{NameRow}
use Rattle.scope_names.specs.Scopes.{Repeats}
use Rattle.scope_names.proofs.names.Names.repeats.Goals as goal

pub returns : goal.returns
returns g c =
    let view : c.self.inside.rows.items ≡ c.args.self.now = c.self.view_is in
    subst (λ (rows : List (NameRow g.row.W.Denot)). IsTrue c.is_repeated.result ↔ Repeats rows c.args.at) (c.deref.ensures.value ∙ view) c.is_repeated.ensures
