-- What a declaration of a project gives. Source: IEC 61131-3, declarations of variables, of data types, of
-- functions and of VAR_EXTERNAL; which faults stand, and where, is this profile's.
use Rattle.std.specs.Prelude.{ℕ, false, not, if◌then◌else◌, List, map, ◌++◌, Option, Some, None}
use Rattle.st_tree.specs.declared.node.Node.{Node}
use Rattle.st_tree.specs.declared.expression.Identifier.{Identifier}
use Rattle.st_tree.specs.declared.declaration.Decl.{Decl}
use Rattle.st_tree.specs.declared.declaration.TypeName.{TypeName}
use Rattle.link_faults.specs.declared.code.LinkCode.TheVariants as code
use Rattle.link_faults.specs.Checked.{Checked, answer, unusable, provided}
use Rattle.expression_types.specs.Lists.{with_all}
use Rattle.project_declarations.specs.Declarations.{Declaration, Written, written_type, written_variables, written_result}
use Rattle.project_declarations.specs.declared.rows.Owner.{Owner}
use Rattle.project_declarations.specs.declared.rows.Owner.TheVariants as owner
use Rattle.project_declarations.specs.declared.rows.Local.{Local}
use Rattle.declared_types.specs.Ranges.{site_of, wrong_at}
use Rattle.declared_types.specs.BareForms.{BareForm}
use Rattle.declared_types.specs.declared.given.Given.{Given}
use Rattle.declaration_rules.specs.Declarations as gives
use Rattle.declaration_rules.specs.Declarations.{Surroundings, Made, bare}
use Rattle.declared_names.specs.Project.{Known, global_number, given_at, is_external_kind, is_own_variable, is_constant_keep}
use Rattle.declared_project.specs.SameTypes.{same_types}

-- ---- names of globals

-- a global has the type that is written beside its name
abbrev pub same_type : Surroundings → List BareForm → Identifier → Given → Given → Checked Given
same_type s forms x written g =
    provided (same_types forms written.ty g.ty) g (site_of s.around x.node) code.WrongType

abbrev pub with_written : Surroundings → List BareForm → Identifier → Option Given → Given → Checked Given
with_written s forms x None g = unusable
with_written s forms x (Some written) g = same_type s forms x written g

abbrev pub with_global : Surroundings → List BareForm → Option Given → Identifier → Option Given → Checked Given
with_global s forms written x None = unusable
with_global s forms written x (Some g) = with_written s forms x written g

abbrev pub of_number : Known → Surroundings → List BareForm → Option Given → Identifier → Option ℕ → Checked Given
of_number k s forms written x None = wrong_at s.around x.node code.Unknown
of_number k s forms written x (Some n) = with_global s forms written x (given_at k n)

-- a name of a VAR_EXTERNAL, where that type is written beside it
abbrev pub external_name : Known → Surroundings → List BareForm → Option Given → Identifier → Checked Given
external_name k s forms written x =
    of_number k s forms written x (global_number k.project x.name)

abbrev pub with_names : Known → Surroundings → List BareForm → Decl → Made → Made
with_names k s forms d m =
    record {
      told = with_all m.told (map (external_name k s (forms ++ m.forms) (answer m.told)) d.names);
      forms = m.forms;
      rows = m.rows;
    }

-- neither an instance nor an address may stand there
abbrev pub external : Known → Surroundings → List BareForm → ℕ → Decl → Made
external k s forms before d = with_names k s forms d (gives.variables s false false forms before d)

-- ---- declarations

-- An instance, and an address, may stand in a VAR section of a program or a block, of which no variable
-- is constant.
abbrev pub local_variables : Known → Surroundings → Local → List BareForm → ℕ → Decl → Made
local_variables k s l forms before d =
    if is_external_kind l.kind then external k s forms before d
    else gives.variables s (is_own_variable k.project l) (is_own_variable k.project l) forms before d

-- No global is an instance; one may stand at an address, where it isn't constant.
abbrev pub variables : Known → Surroundings → Owner → List BareForm → ℕ → Decl → Made
variables k s (owner.Global keep) forms before d =
    gives.variables s false (not (is_constant_keep keep)) forms before d
variables k s (owner.Local local) forms before d = local_variables k s local forms before d
variables k s owner.«Type» forms before d = bare unusable
variables k s (owner.Result unit) forms before d = bare unusable

abbrev pub name_node : TypeName → Node
name_node (TypeName.Elementary node elem) = node
name_node (TypeName.Named x) = x.node

abbrev pub of_source : Known → Surroundings → Owner → List BareForm → ℕ → Written → Made
of_source k s o forms before (written_type x) = gives.data_type s forms before x
of_source k s o forms before (written_variables x) = variables k s o forms before x
of_source k s o forms before (written_result name) = bare (gives.result s (name_node name) name)

-- what a declaration gives, where there are these forms and so many rows before
abbrev pub declare : Known → Surroundings → List BareForm → ℕ → Declaration → Made
declare k s forms before d = of_source k s d.owner forms before d.source
