use Rattle.std.proofs.Common.{◌≡◌, ◌∙◌, ap, sym, arith}
use Rattle.type_parts.specs.Places.{place_in}
use Rattle.type_parts.specs.Tables.{list_at}
use Rattle.type_parts.proofs.Finding.{place_nowhere, place_first}
use Rattle.type_parts.proofs.places.place_of.Goals as goal

pub returns-in-None : goal.returns-in-None
returns-in-None c lists t =
    let same : c.in-Ok.scope ≡ c.args.list = omega (arith, c.in-Ok.ensures) in
    sym (place_nowhere c.args.names.now lists t c.in-Ok.scope c.args.name.now c.in-None.ensures.first)
    ∙ ap (λ n. place_in (list_at lists n) c.args.name.now) same

pub returns-in-Some : goal.returns-in-Some
returns-in-Some c lists t =
    let same : c.in-Ok.scope ≡ c.args.list = omega (arith, c.in-Ok.ensures) in
    sym (place_first c.args.names.now lists t c.in-Ok.scope c.args.name.now c.in-Some.row.now
    c.in-Some.ensures.first)
    ∙ ap (λ n. place_in (list_at lists n) c.args.name.now) same
