-- What is told of statements with ELSE, by what is told of their parts.
use denote.Hole.Carrier
use Rattle.std.proofs.Common.{◌≡◌, List, Option, Some, map, sym, ap, ◌∙◌}
use Rattle.st_tree.specs.declared.node.Node.{Node}
use Rattle.st_tree.specs.declared.expression.Expr.{Expr}
use Rattle.st_tree.specs.declared.statement.Stmt.{Stmt, roll-Stmt, fold-roll-Stmt}
use Rattle.st_tree.specs.declared.statement.Stmt.TheVariants as statement
use Rattle.st_tree.specs.declared.statement.Stmt.TheOpen.{Stmt-F}
use Rattle.st_tree.specs.declared.statement.Branch.{Branch}
use Rattle.st_tree.specs.declared.statement.Case.{Case}
use Rattle.link_faults.specs.First.{after}
use Rattle.link_faults.specs.declared.fault.Faults.{Faults}
use Rattle.body_rules.specs.Loops.{Loop}
use Rattle.body_rules.specs.Surroundings.{Here}
use Rattle.body_rules.specs.Statements.{Told, ToldCase, each, branches_and_last, selection, selection_and_last, stmt_in, branch_in, case_in, stmt, branch, case}
use Rattle.body_rules.proofs.Told.{noted_both}

told_of_if : (h : Here) (node : Node) (bs : List Branch) (last : List Stmt)
    → stmt h (statement.If node bs (Some last))
    ≡ branches_and_last (map (branch h) bs) (map (stmt h) last)
unfolding stmt branch roll-Stmt Carrier.roll
told_of_if h node bs last =
    fold-roll-Stmt Told Told ToldCase (stmt_in h) (branch_in h) (case_in h)
    (Stmt-F.If node bs (Some last))

told_of_case : (h : Here) (node : Node) (e : Expr) (bs : List Case) (last : List Stmt)
    → stmt h (statement.Case node e bs (Some last))
    ≡ selection_and_last h e (map (case h) bs) (map (stmt h) last)
unfolding stmt case roll-Stmt Carrier.roll
told_of_case h node e bs last =
    fold-roll-Stmt Told Told ToldCase (stmt_in h) (branch_in h) (case_in h)
    (Stmt-F.Case node e bs (Some last))

pub if_told : (h : Here) (s : Stmt) (node : Node) (bs bs' : List Branch) (o : Option (List Stmt))
    (last last' : List Stmt) (loops : List Loop) (old mid new : Faults)
    → s ≡ statement.If node bs o → o ≡ Some last → bs' ≡ bs → last' ≡ last
    → mid ≡ after old (each (map (branch h) bs') loops)
    → new ≡ after mid (each (map (stmt h) last') loops) → new ≡ after old (stmt h s loops)
if_told h s node bs bs' o last last' loops old mid new is some same same' k l =
    let first : mid ≡ after old (each (map (branch h) bs) loops) =
    k ∙ ap (λ xs. after old (each (map (branch h) xs) loops)) same in
    let second : new ≡ after mid (each (map (stmt h) last) loops) =
    l ∙ ap (λ xs. after mid (each (map (stmt h) xs) loops)) same' in
    noted_both (each (map (branch h) bs) loops) (each (map (stmt h) last) loops) old mid new first
    second
    ∙ ap (λ (f : Told). after old (f loops)) (sym (told_of_if h node bs last))
    ∙ ap (λ (x : Option (List Stmt)). after old (stmt h (statement.If node bs x) loops)) (sym some)
    ∙ ap (λ (x : Stmt). after old (stmt h x loops)) (sym is)

pub case_told : (h : Here) (s : Stmt) (node : Node) (e e' : Expr) (bs bs' : List Case)
    (o : Option (List Stmt)) (last last' : List Stmt) (loops : List Loop) (old mid new : Faults)
    → s ≡ statement.Case node e bs o → o ≡ Some last → e' ≡ e → bs' ≡ bs → last' ≡ last
    → mid ≡ after old (selection h e' (map (case h) bs') loops)
    → new ≡ after mid (each (map (stmt h) last') loops) → new ≡ after old (stmt h s loops)
case_told h s node e e' bs bs' o last last' loops old mid new is some same_e same same' k l =
    let first : mid ≡ after old (selection h e (map (case h) bs) loops) =
    k ∙ ap (λ (x : Expr). after old (selection h x (map (case h) bs') loops)) same_e
    ∙ ap (λ xs. after old (selection h e (map (case h) xs) loops)) same in
    let second : new ≡ after mid (each (map (stmt h) last) loops) =
    l ∙ ap (λ xs. after mid (each (map (stmt h) xs) loops)) same' in
    noted_both (selection h e (map (case h) bs) loops) (each (map (stmt h) last) loops) old mid new
    first second
    ∙ ap (λ (f : Told). after old (f loops)) (sym (told_of_case h node e bs last))
    ∙ ap (λ (x : Option (List Stmt)). after old (stmt h (statement.Case node e bs x) loops)) (sym some)
    ∙ ap (λ (x : Stmt). after old (stmt h x loops)) (sym is)
