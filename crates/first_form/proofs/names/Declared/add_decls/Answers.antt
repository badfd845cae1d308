use Rattle.std.proofs.Common.{◌≡◌, ◌+◌, [], ◌++◌, drop, Err, sym, ap, ◌∙◌, rules, arith}
use Rattle.std.proofs.lemmas.Grind.{common_steps}
use Rattle.first_form.specs.Names.{names_of, declared}
use Rattle.first_form.specs.steps.Known.{known_in, Adds}
use Rattle.first_form.proofs.Known.{adding_more, adding_told, adding_known, adds_refused}
use Rattle.first_form.proofs.Made.{at_item, at_end}
use Rattle.first_form.proofs.names.Declared.add_decls.Goals as goal

pub returns-in_err-add_names : goal.returns-in_err-add_names
returns-in_err-add_names c =
    let decls = c.args.decls.now in
    let i = c.loop-decl.decl-index in
    let here : declared (drop i decls) ≡ names_of c.as_slice.result.now ++ declared
    (drop (i + 1) decls) =
    ap declared (at_item decls i c.decl-item.result c.loop-decl-test.true c.decl-item.is)
    ∙ ap (λ names. names_of names ++ declared (drop (i + 1) decls)) (sym c.as_slice.ensures) in
    let e : Adds (known_in c.args.self.now) (declared decls) (known_in c.add_names.new.self)
    (Err c.in_err-add_names.field-0.0) =
    adds_refused (known_in c.args.self.now) (known_in c.loop-decl.self)
    (known_in c.add_names.new.self) (known_in c.add_names.new.self) (declared decls)
    (declared (drop i decls))
    (names_of c.as_slice.result.now) (declared (drop (i + 1) decls)) c.in_err-add_names.field-0.0
    c.loop-decl.invariant here c.in_err-add_names.ensures in
    first_of (search rules, grind (arith, common_steps))

pub loop-decl-preserved : goal.loop-decl-preserved
loop-decl-preserved c =
    let decls = c.args.decls.now in
    let i = c.loop-decl.decl-index in
    let here : declared (drop i decls) ≡ names_of c.as_slice.result.now ++ declared
    (drop (i + 1) decls) =
    ap declared (at_item decls i c.decl-item.result c.loop-decl-test.true c.decl-item.is)
    ∙ ap (λ names. names_of names ++ declared (drop (i + 1) decls)) (sym c.as_slice.ensures) in
    adding_more (known_in c.args.self.now) (known_in c.loop-decl.self)
    (known_in c.add_names.new.self) (declared decls) (declared (drop i decls))
    (names_of c.as_slice.result.now) (declared (drop (i + 1) decls))
    c.loop-decl.invariant here c.in_ok-add_names.ensures.0 c.in_ok-add_names.ensures.1

pub returns : goal.returns
returns c =
    let decls = c.args.decls.now in
    let none : declared (drop c.loop-decl.decl-index decls) ≡ [] =
    ap declared (at_end decls c.loop-decl.decl-index c.loop-decl-test.false) in (
      adding_told (known_in c.args.self.now) (known_in c.loop-decl.self) (declared decls)
          (declared (drop c.loop-decl.decl-index decls)) c.loop-decl.invariant none,
      adding_known (known_in c.args.self.now) (known_in c.loop-decl.self) (declared decls)
          (declared (drop c.loop-decl.decl-index decls)) c.loop-decl.invariant none,
    )
