-- The faults of statements, by what is around them: each statement is a function from the loops around it.
-- Source: IEC 61131-3, statements of the ST language; which faults stand is this profile's.
use Rattle.std.specs.Prelude.{List, [], ◌∷◌, ◌++◌, map, Option, Some, None}
use Rattle.iec_tables.specs.declared.elem.Elem.TheVariants as elem
use Rattle.st_tree.specs.declared.node.Node.{Node}
use Rattle.st_tree.specs.declared.expression.Expr.{Expr}
use Rattle.st_tree.specs.declared.statement.Stmt.{Stmt, fold-Stmt}
use Rattle.st_tree.specs.declared.statement.Stmt.TheOpen.{Stmt-F, Branch-F, Case-F}
use Rattle.st_tree.specs.declared.statement.Branch.{Branch, fold-Branch}
use Rattle.st_tree.specs.declared.statement.Case.{Case, fold-Case}
use Rattle.st_tree.specs.declared.statement.Counter.{Counter}
use Rattle.st_tree.specs.declared.statement.Label.{Label}
use Rattle.link_faults.specs.Checked.{faults, answer}
use Rattle.link_faults.specs.declared.code.LinkCode.TheVariants as code
use Rattle.link_faults.specs.declared.fault.LinkFault.{LinkFault}
use Rattle.expression_types.specs.declared.judged.Place.TheVariants as place
use Rattle.body_rules.specs.Loops.{Loop, Plain, Counting, is_in_loop}
use Rattle.body_rules.specs.Surroundings.{Here}
use Rattle.body_rules.specs.Told.{fault_unless, expression}
use Rattle.body_rules.specs.Targets.{assignment}
use Rattle.body_rules.specs.Labels.{selected, known_selector, labels}
use Rattle.body_rules.specs.Counters.{counter}
use Rattle.body_rules.specs.Calls.{call}
use Rattle.body_rules.specs.declared.labels.Selector.{Selector}

-- what is told of a statement or a branch under the loops around it, and of a branch of a CASE by its
-- selector
abbrev pub Told : Type 0
Told = List Loop → List LinkFault

abbrev pub ToldCase : Type 0
ToldCase = Selector → List Loop → List LinkFault

abbrev pub each : List Told → List Loop → List LinkFault
each [] loops = []
each (s ∷ rest) loops = s loops ++ each rest loops

abbrev pub each_case : List ToldCase → Selector → List Loop → List LinkFault
each_case [] s loops = []
each_case (b ∷ rest) s loops = b s loops ++ each_case rest s loops

-- a condition is BOOL
abbrev pub condition : Here → Expr → List LinkFault
condition h e = expression h (place.Elem elem.Bool) e

-- EXIT and CONTINUE stand in a loop
abbrev pub in_loop : Here → Node → List Loop → List LinkFault
in_loop h node loops = fault_unless h (is_in_loop loops) node code.WrongCall

-- a condition and what stands under it
abbrev pub conditioned : Here → Expr → List Told → List Loop → List LinkFault
conditioned h e body loops = condition h e ++ each body loops

-- the branches of an IF and what follows ELSE
abbrev pub branches_and_last : List Told → List Told → List Loop → List LinkFault
branches_and_last branches last loops = each branches loops ++ each last loops

abbrev pub repeated : Here → List Told → Expr → List Loop → List LinkFault
repeated h body e loops = each body loops ++ condition h e

abbrev pub counting : Here → Counter → List Told → List Loop → List LinkFault
counting h c body loops = counter h loops c ++ each body (Counting c.variable.name ∷ loops)

-- the branches of a CASE by the answer of its selector, and what follows ELSE
abbrev pub known_cases : List ToldCase → List Loop → Option Selector → List LinkFault
known_cases cases loops s = each_case cases (known_selector s) loops

abbrev pub selection : Here → Expr → List ToldCase → List Loop → List LinkFault
selection h e cases loops =
    faults (selected h e) ++ known_cases cases loops (answer (selected h e))

abbrev pub selection_and_last : Here → Expr → List ToldCase → List Told → List Loop
    → List LinkFault
selection_and_last h e cases last loops = selection h e cases loops ++ each last loops

abbrev pub stmt_in : Here → Stmt-F Told Told ToldCase → Told
stmt_in h (Stmt-F.Assign node path e) loops = assignment h loops node path e
stmt_in h (Stmt-F.Call node name arguments) loops = call h loops node name arguments
stmt_in h (Stmt-F.Return node) loops = []
stmt_in h (Stmt-F.Exit node) loops = in_loop h node loops
stmt_in h (Stmt-F.Continue node) loops = in_loop h node loops
stmt_in h (Stmt-F.If node branches None) loops = each branches loops
stmt_in h (Stmt-F.If node branches (Some last)) loops = branches_and_last branches last loops
stmt_in h (Stmt-F.Case node e cases None) loops = selection h e cases loops
stmt_in h (Stmt-F.Case node e cases (Some last)) loops = selection_and_last h e cases last loops
stmt_in h (Stmt-F.For node c body) loops = counting h c body loops
stmt_in h (Stmt-F.While node e body) loops = conditioned h e body (Plain ∷ loops)
stmt_in h (Stmt-F.Repeat node body e) loops = repeated h body e (Plain ∷ loops)

abbrev pub branch_in : Here → Branch-F Told Told ToldCase → Told
branch_in h b loops = conditioned h b.condition b.body loops

abbrev pub labelled : Here → Selector → List Label → List Told → List Loop → List LinkFault
labelled h s ls body loops = labels h s ls ++ each body loops

abbrev pub case_in : Here → Case-F Told Told ToldCase → ToldCase
case_in h b s loops = labelled h s b.labels b.body loops

unfoldable pub stmt : Here → Stmt → Told
stmt h = fold-Stmt Told Told ToldCase (stmt_in h) (branch_in h) (case_in h)

unfoldable pub branch : Here → Branch → Told
branch h = fold-Branch Told Told ToldCase (stmt_in h) (branch_in h) (case_in h)

unfoldable pub case : Here → Case → ToldCase
case h = fold-Case Told Told ToldCase (stmt_in h) (branch_in h) (case_in h)

abbrev pub statements : Here → List Stmt → List Loop → List LinkFault
statements h list loops = each (map (stmt h) list) loops
