use Rattle.std.proofs.Common.{map, drop}
use Rattle.expression_types.specs.Meanings.{meant}
use Rattle.expression_types.specs.Reads.{indices_in, arguments_in, walk}
use Rattle.expression_types.specs.Judge.{read, read_part, read_argument}
use Rattle.expression_types.specs.Calls.{all_given}
use Rattle.expression_types.specs.StandardCalls.{all_beside}
use Rattle.expression_types.proofs.Loops.{LeftOf, LeftTo}
use Rattle.expression_types.proofs.expressions.+expression.Given as goal

abbrev pub invariant-are_integers-loop-i : goal.invariant-are_integers-loop-i
invariant-are_integers-loop-i g l =
    let m = meant (g.M.Names.names l.meaning) (g.M.Meaning.parts l.meaning) in
    LeftOf (indices_in m l.standing (map (read m l.standing) l.indices))
    (indices_in m l.standing (map (read m l.standing) (drop l.i l.indices)))
    l.initial.faults l.faults l.all

abbrev pub invariant-are_values-loop-i : goal.invariant-are_values-loop-i
invariant-are_values-loop-i g l =
    let m = meant (g.M.Names.names l.meaning) (g.M.Meaning.parts l.meaning) in
    LeftOf (arguments_in m l.standing (map (read_argument m l.standing) l.arguments))
    (arguments_in m l.standing (map (read_argument m l.standing) (drop l.i l.arguments)))
    l.initial.faults l.faults l.all

abbrev pub invariant-walk-loop-i : goal.invariant-walk-loop-i
invariant-walk-loop-i g l =
    let m = meant (g.M.Names.names l.meaning) (g.M.Meaning.parts l.meaning) in
    LeftTo (walk l.node (map (read_part m l.standing) l.parts) l.initial.ty)
    (walk l.node (map (read_part m l.standing) (drop l.i l.parts)) l.ty)
    l.initial.faults l.faults

abbrev pub invariant-are_all_given-loop-i : goal.invariant-are_all_given-loop-i
invariant-are_all_given-loop-i g l =
    let m = meant (g.M.Names.names l.meaning) (g.M.Meaning.parts l.meaning) in
    let f = (g.M.Meaning.parts l.meaning).function l.function in
    LeftOf (all_given m l.standing f 0 (map (read_argument m l.standing) l.arguments))
    (all_given m l.standing f l.i (map (read_argument m l.standing) (drop l.i l.arguments)))
    l.initial.faults l.faults l.all

abbrev pub invariant-are_good_beside-loop-i : goal.invariant-are_good_beside-loop-i
invariant-are_good_beside-loop-i g l =
    let m = meant (g.M.Names.names l.meaning) (g.M.Meaning.parts l.meaning) in
    LeftOf (all_beside m l.standing l.fits (map (read_argument m l.standing) l.arguments))
    (all_beside m l.standing l.fits (map (read_argument m l.standing) (drop l.i l.arguments)))
    l.initial.faults l.faults l.all
