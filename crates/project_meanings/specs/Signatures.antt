-- What calls see of the units of a project. Source: IEC 61131-3, declarations of functions and function
-- blocks: inputs stand in VAR_INPUT sections, and the result of a function is a variable of its name.
use Rattle.std.specs.Prelude.{ℕ, Bool, true, false, if◌then◌else◌, List, [], map, flat_map, slice_get, Option, Some, None}
use Rattle.st_tree.specs.declared.node.Node.{Node}
use Rattle.st_tree.specs.declared.expression.Identifier.{Identifier}
use Rattle.st_tree.specs.declared.declaration.Decl.{Decl}
use Rattle.st_tree.specs.declared.declaration.Section.{Section}
use Rattle.st_tree.specs.declared.declaration.SectionKind.{SectionKind}
use Rattle.st_tree.specs.declared.declaration.SectionKind.TheVariants as section
use Rattle.st_tree.specs.declared.file.UnitKind.{UnitKind}
use Rattle.project_declarations.specs.Scopes as scopes
use Rattle.project_declarations.specs.Named.{site_of, node_of_type_name, each_from}
use Rattle.project_declarations.specs.Declarations.{Placed}
use Rattle.declared_names.specs.Project.{Project, number_there}

-- an input: its name as it is written, and the number of its declaration
pub record DeclaredInput : Type 0 where
  pub name : List ℕ
  pub number : Option ℕ

pub record Signature : Type 0 where
  -- the scope of the unit's variables
  pub scope : ℕ
  -- in the order of the text
  pub inputs : List DeclaredInput
  -- the number of the declaration of a function's result
  pub result : Option ℕ

-- the number of the declaration that stands at a node
abbrev pub declared_number : Project → ℕ → Node → Option ℕ
declared_number p file node = number_there p (Some (site_of file node))

-- ---- inputs

abbrev pub is_input : SectionKind → Bool
is_input section.Input = true
is_input section.Var = false
is_input section.Output = false
is_input section.InOut = false
is_input section.External = false
is_input section.Temp = false

abbrev pub input_named : Option ℕ → Identifier → DeclaredInput
input_named number x = record { name = x.name; number = number }

abbrev pub decl_inputs : Project → ℕ → Decl → List DeclaredInput
decl_inputs p file x = map (input_named (declared_number p file x.node)) x.names

abbrev pub section_inputs : Project → ℕ → Section → List DeclaredInput
section_inputs p file x =
    if is_input x.kind then flat_map (decl_inputs p file) x.decls else []

-- ---- results

abbrev pub result_of : Project → ℕ → UnitKind → Option ℕ
result_of p file (UnitKind.Function name) = declared_number p file (node_of_type_name name)
result_of p file UnitKind.Block = None
result_of p file UnitKind.Program = None

-- ---- units

-- of the unit of that number
abbrev pub signature_of : Project → ℕ → Placed → Signature
signature_of p n x =
    record {
      scope = scopes.locals n;
      inputs = flat_map (section_inputs p x.file) x.unit.sections;
      result = result_of p x.file x.unit.kind;
    }

abbrev pub signatures_from : Project → ℕ → List Placed → List Signature
signatures_from p = each_from (signature_of p)

abbrev pub signatures_of : Project → List Signature
signatures_of p = signatures_from p 0 p.units

abbrev pub signature_at : Project → ℕ → Option Signature
signature_at p n = slice_get (signatures_of p) n
