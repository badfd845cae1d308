use Rattle.std.proofs.Common.{rules, ◌≡◌, ◌∷◌, [], ℕ, List, take, arith, subst}
use Rattle.std.proofs.lemmas.Grind.{common_steps}
use Rattle.st_tree.specs.declared.node.Site.{Site}
use Rattle.project_declarations.specs.declared.scopes.TheConstants as scope
use Rattle.project_declarations.specs.declared.rows.What.TheVariants as what
use Rattle.project_declarations.specs.Named.{named}
use Rattle.project_declarations.specs.Rows.{Adds}
use Rattle.project_declarations.proofs.Adding.{adds_value}
use Rattle.project_declarations.proofs.collected.Collected.values.Goals as goal

pub loop-place-preserved : goal.loop-place-preserved
loop-place-preserved c =
    let k = c.loop-place.place in
    let x = c.index-list-place.result in
    adds_value c.args.file c.args.node (take k c.args.list.now) _ x k
    (grind (arith, common_steps)) (grind (arith, common_steps)) c.loop-place.invariant
    (subst (λ (s : Site). Adds c.loop-place.self c.name.new.self [] []
    (named c.args.file scope.VALUES x (what.Value s k) ∷ []))
    c.site_of-site.ensures c.in_ok-name.ensures)
