use Rattle.std.proofs.Common.{◌≡◌, ◌+◌, ◌*◌, ◌/◌, length, refl, arith}
use Rattle.std.proofs.lemmas.Option.{slice_get_read}
use Rattle.reference_graph.proofs.Settling.{settled, settled_already}
use Rattle.reference_graph.proofs.numbering.settle.Goals as goal

pub returns-then-group-eq0 : goal.returns-then-group-eq0
returns-then-group-eq0 c =
    let v = c.index-group.result.now in
    let even : c.index-group.result.now ≡ 2 * (c.index-group.result.now / 2) = omega (arith, c.if-group-eq0.true) in
    settled_already c.args.graph.now c.args.node c.args.count v c.args.groups.now.items c.requires.groups
    (slice_get_read c.args.groups.now.items (length c.args.groups.now.items) c.args.node v refl (omega (arith, c.requires.groups.nodes)) c.index-group.ensures)
    (v / 2) even

pub split-requires-clause-root : goal.split-requires-clause-root
split-requires-clause-root c =
    slice_get_read c.args.groups.now.items (length c.args.groups.now.items) c.args.node c.index-group.result.now refl (omega (arith, c.requires.groups.nodes))
    c.index-group.ensures

pub split-requires-clause-apart : goal.split-requires-clause-apart
split-requires-clause-apart c e =
    omega (
      arith,
      (c.requires.groups.small c.args.node c.index-group.result.now
          (slice_get_read c.args.groups.now.items (length c.args.groups.now.items) c.args.node c.index-group.result.now refl (omega (arith, c.requires.groups.nodes))
          c.index-group.ensures)).1,
    )

pub returns : goal.returns
returns c =
    let v = c.index-group.result.now in
    let odd : c.index-group.result.now ≡ 2 * (c.index-group.result.now / 2) + 1 = omega (arith, c.if-group-eq0.false) in
    settled c.args.graph.now c.args.turned.now c.args.node c.args.count v (v / 2) c.args.groups.now.items c.split.new.groups.items c.split-2.new.groups.items
    c.requires.turned c.requires.groups
    (slice_get_read c.args.groups.now.items (length c.args.groups.now.items) c.args.node v refl (omega (arith, c.requires.groups.nodes)) c.index-group.ensures)
    odd c.in_ok-split.ensures c.in_ok-split-2.ensures
