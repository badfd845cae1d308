use Rattle.std.proofs.Common.{◌≡◌, arith, rules, refl, ap, ◌∙◌, get_or, slice_set, ℤ, FitsSigned}
use Rattle.std.proofs.lemmas.Int.{to_z-of_z}
use Rattle.std.proofs.lemmas.List.{length-replicate}
use mir.Syntax.{w128}
use Rattle.interval_domain.specs.Interval.{Interval, hull}
use Rattle.least_table.specs.System.{at}
use Rattle.table_bench.specs.Net.{Arc, no_arc, all_numbers, net, moved, start, read}
use Rattle.table_bench.proofs.Joined.{joined_one}
use Rattle.table_bench.proofs.net.NetSystem.raise.Goals as goal

pub returns-then-to-self-clause-joined : goal.returns-then-to-self-clause-joined
returns-then-to-self-clause-joined g c =
    let arc : Arc = get_or c.args.self.now.arcs.now c.args.unit no_arc in
    let fits : FitsSigned w128 arc.3 = search rules in
    let given : c.moved.result ≡ moved (hull (start arc.1) (read arc.0 c.args.table.now)) arc.3 =
    c.moved.ensures
    ∙ ap (λ (z : ℤ). moved c.join.result z) (to_z-of_z w128 arc.3 fits)
    ∙ ap (λ (i : Interval). moved i arc.3)
    (c.join.ensures
    ∙ ap (λ (i : Interval). hull i c.read.result) c.start.ensures
    ∙ ap (λ (i : Interval). hull (start arc.1) i) c.read.ensures) in
    joined_one ((net c.args.self.now.nodes c.args.self.now.arcs.now).gives c.args.unit c.args.table.now)
    c.args.into.now c.join_at.new.self arc.2
    (moved (hull (start arc.1) (read arc.0 c.args.table.now)) arc.3)
    (omega (arith, length-replicate c.args.self.now.nodes all_numbers)) (λ entry. refl)
    (c.join_at.ensures ∙ ap (λ (i : Interval). slice_set c.args.into.now arc.2
    (hull (at c.args.into.now arc.2) i)) given)
