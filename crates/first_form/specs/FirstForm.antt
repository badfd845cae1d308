-- The first form: files of one program of INT variables with assignments of sums. Source: this
-- profile. Of the trees of the textual grammar it has those with these parts:
--
--     file         one PROGRAM, and no types, globals or configurations
--     program      one section at most, and statements
--     section      VAR, without CONSTANT, RETAIN or NON_RETAIN
--     declaration  names of the type INT, without an address, a range or an initial value; no name
--                  is declared twice
--     statement    an assignment of a sum to a declared name
--     sum          operands joined by + and -, grouped to the left
--     operand      a declared name, or decimal digits of a value up to 32767, a minus directly
--                  before them taken in
--
-- A sum in parentheses is another form. Names are kept with their ASCII letters raised, places as
-- they are. The code numbers the nodes as it goes from part to part, and goes down a sum by a loop.
use Rattle.std.specs.Prelude.{◌≡◌, ℕ, ◌-◌, ◌*◌, ◌+◌, ◌&&◌, Bool, true, false, not, nat_le, is_none, if◌then◌else◌, List, [], ◌∷◌, map, Option, Some, None, option_and_then}
use Rattle.std.specs.List.{fold, list_all}
use Rattle.iec_tables.specs.Letters.{raised}
use Rattle.iec_tables.specs.declared.elem.Elem.TheVariants as elem
use Rattle.st_tree.specs.declared.code.Operator.{Operator}
use Rattle.st_tree.specs.declared.code.Operator.TheVariants.{Add, Subtract}
use Rattle.st_tree.specs.declared.declaration.TypeName.{TypeName}
use Rattle.st_tree.specs.declared.declaration.TypeName.TheVariants.{Elementary}
use Rattle.st_tree.specs.declared.declaration.Spec as typed
use Rattle.st_tree.specs.declared.declaration.Spec.TheVariants as type
use Rattle.st_tree.specs.declared.declaration.Decl as written_decl
use Rattle.st_tree.specs.declared.declaration.SectionKind.{SectionKind}
use Rattle.st_tree.specs.declared.declaration.SectionKind.TheVariants.{Var}
use Rattle.st_tree.specs.declared.declaration.Keep.{Keep}
use Rattle.st_tree.specs.declared.declaration.Section as written_section
use Rattle.st_tree.specs.declared.expression.Identifier as written_identifier
use Rattle.st_tree.specs.declared.expression.Root.{Root}
use Rattle.st_tree.specs.declared.expression.Root.TheVariants as root
use Rattle.st_tree.specs.declared.expression.BinaryOperator.{BinaryOperator}
use Rattle.st_tree.specs.declared.expression.BinaryOperator.TheVariants as operators
use Rattle.st_tree.specs.declared.expression.Path as written_path
use Rattle.st_tree.specs.declared.expression.Expr as written
use Rattle.st_tree.specs.declared.expression.Expr.TheVariants as source
use Rattle.st_tree.specs.declared.expression.Expr.TheOpen.{Expr-F}
use Rattle.st_tree.specs.declared.node.Node.{Node}
use Rattle.st_tree.specs.declared.statement.Stmt as written_stmt
use Rattle.st_tree.specs.declared.statement.Stmt.TheVariants as statement
use Rattle.st_tree.specs.declared.file.Body.{Body}
use Rattle.st_tree.specs.declared.file.Body.TheVariants.{Statements}
use Rattle.st_tree.specs.declared.file.UnitKind.{UnitKind}
use Rattle.st_tree.specs.declared.file.UnitKind.TheVariants.{Program}
use Rattle.st_tree.specs.declared.file.Unit as written_unit
use Rattle.st_tree.specs.declared.file.SourceTree as written_file
use Rattle.first_form.specs.declared.tree.Identifier.{Identifier}
use Rattle.first_form.specs.declared.tree.Path.{Path}
use Rattle.first_form.specs.declared.tree.Expr.{Expr}
use Rattle.first_form.specs.declared.tree.Expr.TheVariants as expr
use Rattle.first_form.specs.declared.tree.Stmt.{Stmt}
use Rattle.first_form.specs.declared.tree.Stmt.TheVariants.{Assign}
use Rattle.first_form.specs.declared.tree.Spec.{Spec}
use Rattle.first_form.specs.declared.tree.Decl.{Decl}
use Rattle.first_form.specs.declared.tree.Section.{Section}
use Rattle.first_form.specs.declared.tree.Unit.{Unit as SourceUnit}
use Rattle.first_form.specs.declared.tree.SourceTree.{SourceTree}
use Rattle.first_form.specs.Nodes.{IsNumbered}
use Rattle.first_form.specs.Bare.{bare_node, bare_unit}
use Rattle.first_form.specs.Names.{Names, has, declared_in}

-- Which names are declared.
abbrev pub Known : Type 0
Known = List ℕ → Bool

infixl 10 ◌>>=◌
abbrev pub ◌>>=◌ : {X Y : Type 0} → Option X → (X → Option Y) → Option Y
o >>= f = option_and_then f o

-- a value, where the test holds
abbrev pub when : {X : Type 0} → Bool → X → Option X
when test x = if test then Some x else None

-- what each of them is, where each is something
abbrev pub each : {X Y : Type 0} → (X → Option Y) → List X → Option (List Y)
each f [] = Some []
each f (x ∷ xs) = do
  y ← f x
  ys ← each f xs
  Some (y ∷ ys)

abbrev pub is_empty : {X : Type 0} → List X → Bool
is_empty [] = true
is_empty (x ∷ xs) = false

-- ---- names and numbers

unfoldable pub identifier : written_identifier.Identifier → Identifier
identifier i = record { node = bare_node i.node; name = map raised i.name }

abbrev pub named : Root → Option Identifier
named (root.Name i) = Some (identifier i)
named (root.Address a) = None

-- a declared name without parts
unfoldable pub path : Known → written_path.Path → Option Path
path known p = do
  i ← named p.root
  when (is_empty p.parts && known i.name) (record { node = bare_node p.node; root = i })

abbrev pub is_decimal : ℕ → Bool
is_decimal byte = nat_le 48 byte && nat_le byte 57

-- the value of decimal digits
abbrev pub number_of : List ℕ → ℕ
number_of digits = fold (λ value digit. value * 10 + (digit - 48)) 0 digits

-- decimal digits alone, of a value up to 32767
abbrev pub is_short : List ℕ → Bool
is_short digits = list_all is_decimal digits && nat_le (number_of digits) 32767

-- ---- sums

abbrev pub number : Node → Bool → List ℕ → Option Expr
number node negative digits =
    when (is_short digits)
    (expr.Number (bare_node node) (record { negative = negative; size = number_of digits }))

-- a number, or a declared name
unfoldable pub operand : Known → written.Expr → Option Expr
operand known x = elim (written.out-Expr x) [
  | Expr-F.Number node negative digits ↦ number node negative digits
  | Expr-F.Path p ↦ path known p >>= λ q. Some (expr.Variable q)
  | _ ↦ None
]

abbrev pub operator : BinaryOperator → Option Operator
operator operators.Add = Some Add
operator operators.Subtract = Some Subtract
operator other = None

-- operands joined by + and -, grouped to the left
unfoldable pub sum : Known → written.Expr → Option Expr
sum known (source.Binary' node o l (written.more_of-Expr left written.end_of-Expr)
    r (written.more_of-Expr right written.end_of-Expr)) = do
      op ← operator o
      x ← sum known left
      y ← operand known right
      Some (expr.Binary (bare_node node) op x y)
sum known other = operand known other

-- ---- statements

unfoldable pub stmt : Known → written_stmt.Stmt → Option Stmt
stmt known (statement.Assign node target value) = do
  p ← path known target
  x ← sum known value
  Some (Assign (bare_node node) p x)
stmt known other = None

abbrev pub body : Known → Body → Option (List Stmt)
body known (Statements stmts) = each (stmt known) stmts
body known chart = None

-- ---- declarations

abbrev pub is_int : TypeName → Bool
is_int (Elementary node elem.Int) = true
is_int other = false

-- INT
unfoldable pub spec : typed.Spec → Option Spec
spec (type.«Type» node name None) =
    when (is_int name) (record { node = bare_node node; elem = elem.Int })
spec other = None

-- names and their type alone
unfoldable pub decl : written_decl.Decl → Option Decl
decl d = do
  s ← spec d.spec
  when (is_none d.address && is_none d.init)
      (record { node = bare_node d.node; names = map identifier d.names; spec = s })

-- VAR, without a word behind it
abbrev pub is_plain : SectionKind → Option Keep → Bool
is_plain Var None = true
is_plain kind keep = false

unfoldable pub section : written_section.Section → Option Section
section s = do
  ds ← each decl s.decls
  when (is_plain s.kind s.keep) (record { node = bare_node s.node; decls = ds })

-- one section, or none
unfoldable pub sections : List written_section.Section → Option (List Section)
sections [] = Some []
sections (s ∷ []) = section s >>= λ one. Some (one ∷ [])
sections (s ∷ t ∷ more) = None

-- no name stands twice
abbrev pub are_apart : Names → Bool
are_apart [] = true
are_apart (name ∷ names) = not (has names name) && are_apart names

-- ---- the file

abbrev pub is_program : UnitKind → Bool
is_program Program = true
is_program other = false

-- the program with these sections, whose statements use the names that they declare
abbrev pub of_sections : written_unit.Unit → List Section → Option SourceUnit
of_sections u ss = do
  stmts ← body (has (declared_in ss)) u.body
  Some (record { node = bare_node u.node; name = identifier u.name; sections = ss; body = stmts })

-- a program that declares each name once and uses none but these
unfoldable pub unit_of : written_unit.Unit → Option SourceUnit
unit_of u = do
  ss ← sections u.sections
  if is_program u.kind && are_apart (declared_in ss) then of_sections u ss else None

abbrev pub one_of : {X : Type 0} → List X → Option X
one_of (x ∷ []) = Some x
one_of other = None

-- the one unit of a file without further parts
unfoldable pub only_unit : written_file.SourceTree → Option written_unit.Unit
only_unit file =
    if is_empty file.types && is_empty file.globals && is_empty file.config
    then one_of file.units
    else None

-- The file is of the first form, and this is its tree: that of its one program, the nodes numbered
-- anew, with the places of the file's line feeds. (What is made of the parts has no numbers.)
pub record IsFirstForm (file : written_file.SourceTree) (tree : SourceTree) : Type 0 where
  pub unit : SourceUnit
  pub units : tree.units ≡ unit ∷ []
  pub feeds : tree.feeds ≡ file.feeds
  pub form : (only_unit file >>= unit_of) ≡ Some (bare_unit unit)
  pub numbered : IsNumbered tree
