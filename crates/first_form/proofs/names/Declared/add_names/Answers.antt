use Rattle.std.proofs.Common.{◌≡◌, ◌+◌, [], ◌∷◌, ◌++◌, drop, sym, ap, ◌∙◌}
use Rattle.first_form.specs.Names.{names_of}
use Rattle.first_form.specs.steps.Known.{known_in}
use Rattle.first_form.proofs.Known.{adding_more, adding_told, adding_known}
use Rattle.first_form.proofs.Made.{at_item, at_end}
use Rattle.first_form.proofs.names.Declared.add_names.Goals as goal

pub loop-identifier-preserved : goal.loop-identifier-preserved
loop-identifier-preserved c =
    let names = c.args.names.now in
    let i = c.loop-identifier.identifier-index in
    let here : names_of (drop i names) ≡ (c.bytes.result.now ∷ []) ++ names_of (drop (i + 1) names)
    =
    ap names_of (at_item names i c.identifier-item.result c.loop-identifier-test.true
    c.identifier-item.is) ∙ ap (λ name. name ∷ names_of (drop (i + 1) names))
    (sym c.bytes.ensures) in
    adding_more (known_in c.args.self.now) (known_in c.loop-identifier.self)
    (known_in c.add.new.self) (names_of names) (names_of (drop i names))
    (c.bytes.result.now ∷ []) (names_of (drop (i + 1) names))
    c.loop-identifier.invariant here c.in_ok-add.ensures.0 c.in_ok-add.ensures.1

pub returns : goal.returns
returns c =
    let names = c.args.names.now in
    let none : names_of (drop c.loop-identifier.identifier-index names) ≡ [] =
    ap names_of (at_end names c.loop-identifier.identifier-index
    c.loop-identifier-test.false) in (
      adding_told (known_in c.args.self.now) (known_in c.loop-identifier.self) (names_of names)
          (names_of (drop c.loop-identifier.identifier-index names)) c.loop-identifier.invariant
          none,
      adding_known (known_in c.args.self.now) (known_in c.loop-identifier.self) (names_of names)
          (names_of (drop c.loop-identifier.identifier-index names)) c.loop-identifier.invariant
          none,
    )
