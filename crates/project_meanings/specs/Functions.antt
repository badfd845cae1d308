-- The functions of a project as calls see them. Source: IEC 61131-3, calls of functions, as this profile
-- narrows them: no array, structure or instance is an argument; names are compared with letters raised.
use Rattle.std.specs.Prelude.{ℕ, nat_eq, Bool, List, [], map, Option, Some, None}
use Rattle.std.specs.List.{filter}
use Rattle.std.specs.Option.{option_map}
use Rattle.iec_tables.specs.Words.{raised_all}
use Rattle.scope_names.specs.declared.names.NameRow.{NameRow}
use Rattle.project_declarations.specs.declared.rows.What.{What}
use Rattle.expression_types.specs.Meanings.{Input, Function}
use Rattle.expression_types.specs.declared.meaning.FunctionNo.{FunctionNo}
use Rattle.expression_types.specs.declared.meaning.Taken.{Taken}
use Rattle.expression_types.specs.declared.meaning.Taken.TheVariants as taken
use Rattle.expression_types.specs.declared.meaning.ValueType.{ValueType}
use Rattle.declared_types.specs.declared.given.Given.{Given}
use Rattle.declared_types.specs.declared.given.DeclType.{DeclType}
use Rattle.declared_types.specs.declared.given.DeclType.TheVariants as ty
use Rattle.declared_names.specs.Project.{Project, Known}
use Rattle.declared_names.specs.Seen.{given_there}
use Rattle.declared_names.specs.Shapes.{value_type}
use Rattle.project_meanings.specs.Signatures.{DeclaredInput, Signature, signature_at}

-- ---- inputs

abbrev pub taken_of_type : DeclType → Taken
taken_of_type (ty.Scalar b) = taken.Elem b.elem
taken_of_type (ty.Enumeration s) = taken.Shape s
taken_of_type (ty.Array s) = taken.Nothing
taken_of_type (ty.Structure s) = taken.Nothing
taken_of_type (ty.Instance s) = taken.Nothing

-- where the declaration holds a fault, any value will do
abbrev pub taken_of : Option Given → Taken
taken_of None = taken.Anything
taken_of (Some g) = taken_of_type g.ty

abbrev pub input_of : Known → DeclaredInput → Input
input_of k x = record { name = raised_all x.name; taken = taken_of (given_there k x.number) }

-- ---- names

abbrev pub is_in_scope : ℕ → NameRow What → Bool
is_in_scope scope row = nat_eq row.scope scope

abbrev pub raised_name : NameRow What → List ℕ
raised_name row = raised_all row.name.now

-- the names that a scope declares, with letters raised
abbrev pub names_of_scope : Project → ℕ → List (List ℕ)
names_of_scope p scope = map raised_name (filter (is_in_scope scope) p.names)

-- ---- functions

abbrev pub result_type : Option Given → Option ValueType
result_type g = option_map (λ (x : Given). value_type x.ty) g

abbrev pub function_of : Known → Option Signature → Function
function_of k None = record { inputs = []; declared = []; result = None }
function_of k (Some s) =
    record {
      inputs = map (input_of k) s.inputs;
      declared = names_of_scope k.project s.scope;
      result = result_type (given_there k s.result);
    }

-- a function has the number of its unit
abbrev pub function_there : Known → FunctionNo → Function
function_there k f = function_of k (signature_at k.project f.0)
