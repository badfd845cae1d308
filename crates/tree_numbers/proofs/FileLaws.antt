-- What numbering does to parts of files.
use Rattle.std.proofs.Common.{refl}
use Rattle.st_tree.specs.declared.declaration.Spec.{Spec}
use Rattle.st_tree.specs.declared.file.Body.{Body}
use Rattle.st_tree.specs.declared.file.Body.TheVariants as body
use Rattle.st_tree.specs.declared.file.UnitKind.{UnitKind}
use Rattle.st_tree.specs.declared.file.UnitKind.TheVariants as unit_kind
use Rattle.st_tree.specs.declared.file.Unit.{Unit}
use Rattle.st_tree.specs.declared.file.Fields.{Fields}
use Rattle.st_tree.specs.declared.file.Shape.{Shape}
use Rattle.st_tree.specs.declared.file.Shape.TheVariants as shape
use Rattle.st_tree.specs.declared.file.TypeDecl.{TypeDecl}
use Rattle.st_tree.specs.declared.file.Types.{Types}
use Rattle.st_tree.specs.declared.file.Globals.{Globals}
use Rattle.st_tree.specs.declared.file.Parameter.{Parameter}
use Rattle.st_tree.specs.declared.file.Task.{Task}
use Rattle.st_tree.specs.declared.file.ProgramLine.{ProgramLine}
use Rattle.st_tree.specs.declared.file.Tasks.{Tasks}
use Rattle.st_tree.specs.declared.file.Resource.{Resource}
use Rattle.st_tree.specs.declared.file.Config.{Config}
use Rattle.st_tree.specs.declared.file.FilePart.{FilePart}
use Rattle.st_tree.specs.declared.file.FilePart.TheVariants as file_part
use Rattle.tree_numbers.specs.NodeLists.{nodes_of_body, nodes_of_unit_kind, nodes_of_unit, nodes_of_fields, nodes_of_shape, nodes_of_type_decl, nodes_of_types, nodes_of_globals, nodes_of_parameter, nodes_of_task, nodes_of_program_line, nodes_of_tasks, nodes_of_resource, nodes_of_config, nodes_of_file_part}
use Rattle.tree_numbers.specs.Bare.{bare_body, bare_unit_kind, bare_unit, bare_fields, bare_shape, bare_type_decl, bare_types, bare_globals, bare_parameter, bare_task, bare_program_line, bare_tasks, bare_resource, bare_config, bare_file_part}
use Rattle.tree_numbers.specs.steps.Counted.{counted_body, counted_unit_kind, counted_unit, counted_fields, counted_shape, counted_type_decl, counted_types, counted_globals, counted_parameter, counted_task, counted_program_line, counted_tasks, counted_resource, counted_config, counted_file_part}
use Rattle.tree_numbers.proofs.Numbering.{Way, IsCounted, node_is, at0, at1, at2, at3, at4, at5, each_is, option_is}
use Rattle.tree_numbers.proofs.ExpressionLaws.{identifier_way, identifier_is, expr_is}
use Rattle.tree_numbers.proofs.StatementLaws.{stmt_way, stmt_is}
use Rattle.tree_numbers.proofs.DeclarationLaws.{type_name_is, spec_is, init_way, init_is, decl_way, decl_is, section_way, section_is}
use Rattle.tree_numbers.proofs.ChartLaws.{sfc_is}

abbrev pub body_way : Way Body
body_way = record { counts = counted_body; nodes = nodes_of_body; bare = bare_body }

pub body_is : (x : Body) → IsCounted body_way x
body_is (Body.Statements statements) =
    at1 body_way body.Statements
    (λ statements c. refl) (λ statements. refl) (λ statements. refl)
    (each_is stmt_way stmt_is statements)
body_is (Body.Chart chart) =
    at1 body_way body.Chart
    (λ chart c. refl) (λ chart. refl) (λ chart. refl)
    (sfc_is chart)

abbrev pub unit_kind_way : Way UnitKind
unit_kind_way =
    record { counts = counted_unit_kind; nodes = nodes_of_unit_kind; bare = bare_unit_kind }

pub unit_kind_is : (x : UnitKind) → IsCounted unit_kind_way x
unit_kind_is (UnitKind.Function name) =
    at1 unit_kind_way unit_kind.Function
    (λ name c. refl) (λ name. refl) (λ name. refl)
    (type_name_is name)
unit_kind_is UnitKind.Block = at0 unit_kind_way unit_kind.Block (λ c. refl) refl
unit_kind_is UnitKind.Program = at0 unit_kind_way unit_kind.Program (λ c. refl) refl

abbrev pub unit_way : Way Unit
unit_way = record { counts = counted_unit; nodes = nodes_of_unit; bare = bare_unit }

pub unit_is : (x : Unit) → IsCounted unit_way x
unit_is x =
    at5 unit_way
    (λ node name kind sections body. record
    { node = node; name = name; kind = kind; sections = sections; body = body })
    (λ node name kind sections body c. refl) (λ node name kind sections body. refl)
    (λ node name kind sections body. refl)
    (node_is x.node) (identifier_is x.name) (unit_kind_is x.kind)
    (each_is section_way section_is x.sections) (body_is x.body)

abbrev pub fields_way : Way Fields
fields_way = record { counts = counted_fields; nodes = nodes_of_fields; bare = bare_fields }

pub fields_is : (x : Fields) → IsCounted fields_way x
fields_is x =
    at4 fields_way
    (λ node names spec init. record { node = node; names = names; spec = spec; init = init })
    (λ node names spec init c. refl) (λ node names spec init. refl) (λ node names spec init. refl)
    (node_is x.node) (each_is identifier_way identifier_is x.names) (spec_is x.spec)
    (option_is init_way init_is x.init)

abbrev pub shape_way : Way Shape
shape_way = record { counts = counted_shape; nodes = nodes_of_shape; bare = bare_shape }

pub shape_is : (x : Shape) → IsCounted shape_way x
shape_is (Shape.Spec kind) =
    at1 shape_way shape.Spec
    (λ kind c. refl) (λ kind. refl) (λ kind. refl)
    (spec_is kind)
shape_is (Shape.Structure node members) =
    at2 shape_way shape.Structure
    (λ node members c. refl) (λ node members. refl) (λ node members. refl)
    (node_is node) (each_is fields_way fields_is members)

abbrev pub type_decl_way : Way TypeDecl
type_decl_way =
    record { counts = counted_type_decl; nodes = nodes_of_type_decl; bare = bare_type_decl }

pub type_decl_is : (x : TypeDecl) → IsCounted type_decl_way x
type_decl_is x =
    at4 type_decl_way
    (λ node name shape init. record { node = node; name = name; shape = shape; init = init })
    (λ node name shape init c. refl) (λ node name shape init. refl) (λ node name shape init. refl)
    (node_is x.node) (identifier_is x.name) (shape_is x.shape) (option_is init_way init_is x.init)

abbrev pub types_way : Way Types
types_way = record { counts = counted_types; nodes = nodes_of_types; bare = bare_types }

pub types_is : (x : Types) → IsCounted types_way x
types_is x =
    at2 types_way (λ node decls. record { node = node; decls = decls })
    (λ node decls c. refl) (λ node decls. refl) (λ node decls. refl)
    (node_is x.node) (each_is type_decl_way type_decl_is x.decls)

abbrev pub globals_way : Way Globals
globals_way = record { counts = counted_globals; nodes = nodes_of_globals; bare = bare_globals }

pub globals_is : (x : Globals) → IsCounted globals_way x
globals_is x =
    at2 globals_way (λ node decls. record { node = node; keep = x.keep; decls = decls })
    (λ node decls c. refl) (λ node decls. refl) (λ node decls. refl)
    (node_is x.node) (each_is decl_way decl_is x.decls)

abbrev pub parameter_way : Way Parameter
parameter_way =
    record { counts = counted_parameter; nodes = nodes_of_parameter; bare = bare_parameter }

pub parameter_is : (x : Parameter) → IsCounted parameter_way x
parameter_is x =
    at3 parameter_way (λ node name value. record { node = node; name = name; value = value })
    (λ node name value c. refl) (λ node name value. refl) (λ node name value. refl)
    (node_is x.node) (identifier_is x.name) (expr_is x.value)

abbrev pub task_way : Way Task
task_way = record { counts = counted_task; nodes = nodes_of_task; bare = bare_task }

pub task_is : (x : Task) → IsCounted task_way x
task_is x =
    at3 task_way
    (λ node name parameters. record { node = node; name = name; parameters = parameters })
    (λ node name parameters c. refl) (λ node name parameters. refl) (λ node name parameters. refl)
    (node_is x.node) (identifier_is x.name) (each_is parameter_way parameter_is x.parameters)

abbrev pub program_line_way : Way ProgramLine
program_line_way =
    record
    { counts = counted_program_line; nodes = nodes_of_program_line; bare = bare_program_line }

pub program_line_is : (x : ProgramLine) → IsCounted program_line_way x
program_line_is x =
    at4 program_line_way
    (λ node name task program. record
    { node = node; name = name; task = task; program = program })
    (λ node name task program c. refl) (λ node name task program. refl)
    (λ node name task program. refl)
    (node_is x.node) (identifier_is x.name) (option_is identifier_way identifier_is x.task)
    (identifier_is x.program)

abbrev pub tasks_way : Way Tasks
tasks_way = record { counts = counted_tasks; nodes = nodes_of_tasks; bare = bare_tasks }

pub tasks_is : (x : Tasks) → IsCounted tasks_way x
tasks_is x =
    at2 tasks_way (λ tasks lines. record { tasks = tasks; lines = lines })
    (λ tasks lines c. refl) (λ tasks lines. refl) (λ tasks lines. refl)
    (each_is task_way task_is x.tasks) (each_is program_line_way program_line_is x.lines)

abbrev pub resource_way : Way Resource
resource_way = record { counts = counted_resource; nodes = nodes_of_resource; bare = bare_resource }

pub resource_is : (x : Resource) → IsCounted resource_way x
resource_is x =
    at5 resource_way
    (λ node name kind globals tasks. record
    { node = node; name = name; kind = kind; globals = globals; tasks = tasks })
    (λ node name kind globals tasks c. refl) (λ node name kind globals tasks. refl)
    (λ node name kind globals tasks. refl)
    (node_is x.node) (identifier_is x.name) (identifier_is x.kind)
    (each_is globals_way globals_is x.globals) (tasks_is x.tasks)

abbrev pub config_way : Way Config
config_way = record { counts = counted_config; nodes = nodes_of_config; bare = bare_config }

pub config_is : (x : Config) → IsCounted config_way x
config_is x =
    at5 config_way
    (λ node name globals resources tasks. record
    { node = node; name = name; globals = globals; resources = resources; tasks = tasks })
    (λ node name globals resources tasks c. refl) (λ node name globals resources tasks. refl)
    (λ node name globals resources tasks. refl)
    (node_is x.node) (identifier_is x.name) (each_is globals_way globals_is x.globals)
    (each_is resource_way resource_is x.resources) (tasks_is x.tasks)

abbrev pub file_part_way : Way FilePart
file_part_way =
    record { counts = counted_file_part; nodes = nodes_of_file_part; bare = bare_file_part }

pub file_part_is : (x : FilePart) → IsCounted file_part_way x
file_part_is (FilePart.Unit unit) =
    at1 file_part_way file_part.Unit
    (λ unit c. refl) (λ unit. refl) (λ unit. refl)
    (unit_is unit)
file_part_is (FilePart.Types types) =
    at1 file_part_way file_part.Types
    (λ types c. refl) (λ types. refl) (λ types. refl)
    (types_is types)
file_part_is (FilePart.Globals globals) =
    at1 file_part_way file_part.Globals
    (λ globals c. refl) (λ globals. refl) (λ globals. refl)
    (globals_is globals)
file_part_is (FilePart.Config config) =
    at1 file_part_way file_part.Config
    (λ config c. refl) (λ config. refl) (λ config. refl)
    (config_is config)
