use Rattle.std.proofs.Common.{ℕ, List, Ok, Err, IfOk, length, inl, ap, subst}
use Rattle.std.specs.Prelude.{Result}
use Rattle.station_ports.specs.declared.outside.NoMemory.{NoMemory}
use Rattle.first_form.specs.declared.tree.SourceTree.{SourceTree}
use Rattle.finding_spans.specs.declared.report.Report.{Report}
use Rattle.station_cli.specs.declared.report.Parsed.TheVariants.{Tree}
use Rattle.station_cli.specs.Report.{IsReport, IsReportOf}
use Rattle.station_cli.specs.steps.Parsing.{IsAnalysable, IsParsed}
use Rattle.station_cli.proofs.report.report_on.Goals as goal

-- the report on a tree of the text is the report on the text
on_tree : (name text : List ℕ) (tree : SourceTree) (r : Result Report NoMemory) → IsParsed text (Tree tree) → IfOk r (λ report. (t : List ℕ) → IsAnalysable t tree → IsReportOf name t tree report) → IfOk r (λ report. IsReport name text report)
on_tree name text tree (Ok report) h k = inl (record { tree = tree; spelled = h.0; report = k text h.1 })
on_tree name text tree (Err e) h k = tt

pub analysed-requires : goal.analysed-requires
analysed-requires g c =
    let h = subst (IsParsed c.args.text.now) c.in-Tree.is c.in_ok-tree.ensures in
    ap length h.1.units

pub returns-in-Tree : goal.returns-in-Tree
returns-in-Tree g c = on_tree c.args.name.now c.args.text.now c.in-Tree.tree c.analysed.result (subst (IsParsed c.args.text.now) c.in-Tree.is c.in_ok-tree.ensures) c.analysed.ensures
