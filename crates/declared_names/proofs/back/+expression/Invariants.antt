use Rattle.std.proofs.Common.{◌≡◌, map, drop}
use Rattle.declared_names.specs.Meaning as spec
use Rattle.declared_names.specs.Tables.{known_at, here_of}
use Rattle.declared_names.proofs.back.+expression.Given as goal

abbrev pub invariant-some_expr-loop-e : goal.invariant-some_expr-loop-e
invariant-some_expr-loop-e l =
    let leads = spec.expr_leads_back (known_at l.at).project (here_of l.at) in
    spec.some_lead (map leads l.list) ≡ spec.some_lead (map leads (drop l.e-index l.list))

abbrev pub invariant-some_argument-loop-argument : goal.invariant-some_argument-loop-argument
invariant-some_argument-loop-argument l =
    let leads = spec.argument_leads_back (known_at l.at).project (here_of l.at) in
    spec.some_lead (map leads l.arguments)
    ≡ spec.some_lead (map leads (drop l.argument-index l.arguments))

abbrev pub invariant-some_part-loop-part : goal.invariant-some_part-loop-part
invariant-some_part-loop-part l =
    let leads = spec.part_leads_back (known_at l.at).project (here_of l.at) in
    spec.some_lead (map leads l.parts) ≡ spec.some_lead (map leads (drop l.part-index l.parts))
