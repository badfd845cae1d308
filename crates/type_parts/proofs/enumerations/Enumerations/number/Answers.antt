use Rattle.std.proofs.Common.{◌≡◌, ◌<◌, length, sym, subst, rules}
use Rattle.std.specs.Prelude.{IfSome}
use Rattle.type_parts.specs.Places.{is_listed_at, number_of_site}
use Rattle.type_parts.proofs.Numbering.{position_within}
use Rattle.type_parts.proofs.enumerations.Enumerations.number.Goals as goal

pub returns-clause-number : goal.returns-clause-number
returns-clause-number c = search rules

pub returns-clause-within : goal.returns-clause-within
returns-clause-within c =
    let is : c.copied.result ≡ number_of_site c.args.self.now c.args.site = returns-clause-number c in
    subst (λ found. IfSome found (λ n. n < length c.args.self.now)) (sym is)
    (position_within (is_listed_at c.args.site) c.args.self.now)
