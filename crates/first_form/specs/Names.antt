-- The names that a unit declares, and whether its body names those alone. Source: this profile, in
-- which a variable is declared before it is
-- used and a number of the code lies within 128 bits. The code looks names up in a sorted table.
use Rattle.std.specs.Prelude.{◌≡◌, ℕ, ◌<◌, ◌^◌, Bool, true, bytes_eq, List, [], ◌∷◌, map, flat_map}
use Rattle.std.specs.List.{list_any}
use Rattle.first_form.specs.declared.tree.Identifier.{Identifier}
use Rattle.first_form.specs.declared.tree.Expr.{Expr, more_of-Expr, end_of-Expr}
use Rattle.first_form.specs.declared.tree.Expr.TheVariants as expr
use Rattle.first_form.specs.declared.tree.Stmt.{Stmt}
use Rattle.first_form.specs.declared.tree.Stmt.TheVariants.{Assign}
use Rattle.first_form.specs.declared.tree.Decl.{Decl}
use Rattle.first_form.specs.declared.tree.Section.{Section}
use Rattle.first_form.specs.declared.tree.Unit.{Unit as SourceUnit}

-- names with their letters raised
abbrev pub Names : Type 0
Names = List (List ℕ)

abbrev pub has : Names → List ℕ → Bool
has names name = list_any (bytes_eq name) names

-- ---- the names of declarations, in their order

abbrev pub names_of : List Identifier → Names
names_of identifiers = map (λ identifier. identifier.name) identifiers

abbrev pub declared : List Decl → Names
declared decls = flat_map (λ decl. names_of decl.names) decls

abbrev pub declared_in : List Section → Names
declared_in sections = flat_map (λ section. declared section.decls) sections

abbrev pub unit_names : SourceUnit → Names
unit_names unit = declared_in unit.sections

-- ---- a body names these alone, and its numerals are numbers of the code

abbrev pub ExprUses : Names → Expr → Type 0
ExprUses names (expr.Number node numeral) = numeral.size < 2 ^ 127
ExprUses names (expr.Variable path) = has names path.root.name ≡ true
ExprUses names (expr.Binary' node operator l (more_of-Expr left end_of-Expr) r
    (more_of-Expr right end_of-Expr)) = ExprUses names left × ExprUses names right

abbrev pub StmtUses : Names → Stmt → Type 0
StmtUses names (Assign node target value) =
    (has names target.root.name ≡ true) × ExprUses names value

abbrev pub BodyUses : Names → List Stmt → Type 0
BodyUses names [] = Unit {0}
BodyUses names (stmt ∷ body) = StmtUses names stmt × BodyUses names body

-- The body of the unit names the variables of the unit alone.
abbrev pub UsesDeclared : SourceUnit → Type 0
UsesDeclared unit = BodyUses (unit_names unit) unit.body
