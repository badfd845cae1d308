use Rattle.std.proofs.Common.{◌≡◌, None, rules}
use Rattle.std.specs.List.{slice_get}
use Rattle.iec_tables.specs.declared.elem.Elem.TheVariants.{Bool}
use Rattle.iec_tables.specs.Types.{name_of}
use Rattle.iec_tables.specs.Words.{raised_all}
use Rattle.standard_names.specs.declared.types.TheConstants.{ELEMS}
use Rattle.standard_names.proofs.Rows.{exact, found, missed}
use Rattle.standard_names.proofs.Names.{AnyElem, all_any, elems-alike, elem-among}
use Rattle.standard_names.proofs.types.elem_named.Goals as goal

pub returns-in-Some : goal.returns-in-Some
returns-in-Some c t =
    let s = raised_all c.args.name.now in
    let got : c.copied.result ≡ slice_get ELEMS c.in-Some.number = search rules in
    let is = found name_of AnyElem ELEMS c.type_names.result c.type_names.ensures.texts Bool (all_any ELEMS) c.type_names.ensures.numbers s c.in-Some.number c.in-Some.ensures
    c.copied.result got in
    let all = exact name_of AnyElem elems-alike c.copied.result s is t in
    (λ e. (all.0 e).1, λ e. all.1 (tt, e))

pub returns-in-None : goal.returns-in-None
returns-in-None c t =
    let no = missed name_of AnyElem ELEMS c.type_names.result c.type_names.ensures.texts elem-among (raised_all c.args.name.now) c.in-None.ensures in
    let all = exact name_of AnyElem elems-alike None (raised_all c.args.name.now) no t in
    (λ e. (all.0 e).1, λ e. all.1 (tt, e))
