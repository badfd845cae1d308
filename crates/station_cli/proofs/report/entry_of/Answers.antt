use Rattle.std.proofs.Common.{◌∙◌, List, zero, refl, sym, subst, arith}
use Rattle.std.specs.List.{Contains}
use Rattle.first_form.specs.declared.tree.Unit.{Unit as SourceUnit}
use Rattle.station_cli.proofs.Statements.{in_tree}
use Rattle.station_cli.proofs.Holders.{reported_within}
use Rattle.station_cli.proofs.report.entry_of.Goals as goal

pub returns : goal.returns
returns c = λ text is in_body.
    let tree = c.args.tree.now in
    let number = c.args.hit.site.node in
    let there : Contains tree.units is.unit = subst (λ (units : List SourceUnit). Contains units is.unit) (sym is.units) (zero, omega arith, refl) in
    let reported = c.place-span.ensures.reported is.numbered (in_tree tree is.unit number is.units in_body) in
    record {
      alarm = c.in_ok-alarm_of.ensures.alarm;
      under = c.in_ok-alarm_of.ensures.under is.numbered is.unit there in_body;
      at = c.place-span.result.start;
      reported = reported;
      position = c.place-span.ensures.position text is.feeds is.short (reported_within tree number c.place-span.result.start _ reported is.within);
      file = c.in_ok-name_of.ensures ∙ c.as_bytes.ensures.value;
    }
