-- Calls of instances. Inputs are given by name, each once at most; each VAR_IN_OUT is given a variable of
-- exactly its type, without an index; outputs are taken by `=>`. Source: IEC 61131-3, function block
-- invocation; which faults stand is this profile's.
use Rattle.std.specs.Prelude.{◌≡◌, ℕ, ◌&&◌, ◌||◌, Bool, true, false, not, if◌then◌else◌, List, [], ◌∷◌, ◌++◌, flat_map, codes, Option, Some, None}
use Rattle.std.specs.List.{list_any, list_all}
use Rattle.std.specs.Ordering.{int_eq}
use Rattle.iec_tables.specs.Conversions.{converts_to}
use Rattle.iec_tables.specs.declared.elem.Elem.{Elem}
use Rattle.st_tree.specs.declared.node.Node.{Node}
use Rattle.st_tree.specs.declared.expression.Identifier.{Identifier}
use Rattle.st_tree.specs.declared.expression.Expr.{Expr, out-Expr}
use Rattle.st_tree.specs.declared.expression.Expr.TheOpen.{Expr-F, Part-F}
use Rattle.st_tree.specs.declared.expression.Part.{Part, out-Part}
use Rattle.st_tree.specs.declared.expression.Argument.{Argument}
use Rattle.st_tree.specs.declared.expression.Path.{Path}
use Rattle.st_tree.specs.declared.statement.StmtArgument.{StmtArgument}
use Rattle.st_tree.specs.declared.statement.StmtArgument.TheVariants as argument
use Rattle.link_faults.specs.First.{after}
use Rattle.link_faults.specs.Checked.{faults, answer}
use Rattle.link_faults.specs.declared.fault.Faults.{Faults}
use Rattle.link_faults.specs.declared.code.LinkCode.{LinkCode}
use Rattle.link_faults.specs.declared.code.LinkCode.TheVariants as code
use Rattle.link_faults.specs.declared.fault.LinkFault.{LinkFault}
use Rattle.expression_types.specs.Judge.{placed}
use Rattle.expression_types.specs.declared.judged.ExprType.{ExprType}
use Rattle.expression_types.specs.declared.judged.ExprType.TheVariants as ty
use Rattle.expression_types.specs.declared.judged.Judged.{Judged}
use Rattle.expression_types.specs.declared.judged.Place.TheVariants as place
use Rattle.expression_types.specs.declared.meaning.ShapeNo.{ShapeNo}
use Rattle.body_rules.specs.Loops.{Loop, is_same_name}
use Rattle.body_rules.specs.Surroundings.{Here}
use Rattle.body_rules.specs.Told.{anywhere, fault, fault_where, fault_unless, followed, expression, node_of}
use Rattle.body_rules.specs.Targets.{target, path_type}
use Rattle.body_rules.specs.declared.outside.Scalar.{Scalar}
use Rattle.body_rules.specs.declared.outside.ExactType.{ExactType}
use Rattle.body_rules.specs.declared.outside.ExactType.TheVariants as exact
use Rattle.body_rules.specs.declared.outside.Called.{Called}
use Rattle.body_rules.specs.declared.outside.Called.TheVariants as called
use Rattle.body_rules.specs.declared.outside.BlockPart.{BlockPart}
use Rattle.body_rules.specs.declared.outside.BlockPart.TheVariants as part

-- ---- names of arguments

abbrev pub name_of : StmtArgument → Identifier
name_of (argument.Input node name e) = name
name_of (argument.Output node name path) = name

abbrev pub has_name : List ℕ → StmtArgument → Bool
has_name name a = is_same_name (name_of a).name name

-- an argument has this name
abbrev pub is_given : List StmtArgument → List ℕ → Bool
is_given arguments name = list_any (has_name name) arguments

-- two arguments have one name
abbrev pub is_given_twice : List StmtArgument → Bool
is_given_twice [] = false
is_given_twice (a ∷ later) = is_given later (name_of a).name || is_given_twice later

abbrev pub is_missing : List StmtArgument → List ℕ → Bool
is_missing arguments name = not (is_given arguments name)

-- a VAR_IN_OUT of the block is given by no argument
abbrev pub lacks_in_out : Here → ShapeNo → List StmtArgument → Bool
lacks_in_out h shape arguments = list_any (is_missing arguments) (h.around.in_outs shape)

abbrev pub is_enabling : List ℕ → Bool
is_enabling name = is_same_name (codes "EN") name || is_same_name (codes "ENO") name

-- ---- arguments

-- what is told where the block plays no part
abbrev pub alone : Here → List Loop → StmtArgument → List LinkFault
alone h loops (argument.Input node name e) = expression h place.Any e
alone h loops (argument.Output node name path) = faults (target h loops path)

-- A whole array, structure or instance is out of profile as an argument; no other value fits its input.
abbrev pub whole_shape : Here → Node → Expr → ShapeNo → List LinkFault
whole_shape h node e shape =
    if h.meanings.parts.is_enumeration shape then fault h (node_of h e) code.WrongType
    else fault h node code.OutOfProfile

abbrev pub whole_value : Here → Node → Expr → ExprType → List LinkFault
whole_value h node e (ty.Other shape) = whole_shape h node e shape
whole_value h node e (ty.Elem t) = fault h (node_of h e) code.WrongType
whole_value h node e ty.Loose = fault h (node_of h e) code.WrongType

abbrev pub whole_judged : Here → Node → Expr → Judged → List LinkFault
whole_judged h node e j = whole_value h node e j.ty

abbrev pub whole_input : Here → Node → Expr → List LinkFault
whole_input h node e =
    followed (placed h.meanings (anywhere h.file) place.Any e) (whole_judged h node e) []

abbrev pub input_shape : Here → Node → Expr → ShapeNo → List LinkFault
input_shape h node e shape =
    if h.meanings.parts.is_enumeration shape then expression h (place.Shape shape) e
    else whole_input h node e

-- a value for an input of a type
abbrev pub input : Here → Node → Expr → ExactType → List LinkFault
input h node e (exact.Scalar s) = expression h (place.Elem s.elem) e
input h node e (exact.Other shape) = input_shape h node e shape

abbrev pub scalar_output : Here → Path → Scalar → ExprType → List LinkFault
scalar_output h path s (ty.Elem t) = fault_unless h (converts_to s.elem t) path.node code.WrongType
scalar_output h path s (ty.Other shape) = fault h path.node code.WrongType
scalar_output h path s ty.Loose = fault h path.node code.WrongType

abbrev pub shape_output : Here → Node → Path → ShapeNo → ShapeNo → List LinkFault
shape_output h node path from to =
    if h.meanings.parts.is_enumeration from then
    fault_unless h (h.meanings.names.is_same from to) path.node code.WrongType
    else fault h node code.OutOfProfile

abbrev pub other_output : Here → Node → Path → ShapeNo → ExprType → List LinkFault
other_output h node path shape (ty.Other to) = shape_output h node path shape to
other_output h node path shape (ty.Elem t) = fault h path.node code.WrongType
other_output h node path shape ty.Loose = fault h path.node code.WrongType

abbrev pub output_to : Here → Node → Path → ExactType → ExprType → List LinkFault
output_to h node path (exact.Scalar s) t = scalar_output h path s t
output_to h node path (exact.Other shape) t = other_output h node path shape t

-- an output of a type to a target
abbrev pub output : Here → List Loop → Node → Path → ExactType → List LinkFault
output h loops node path t = followed (target h loops path) (output_to h node path t) []

-- ---- exactly one type

abbrev pub is_same_elem : Elem → Elem → Bool
is_same_elem a b = converts_to a b && converts_to b a

abbrev pub is_same_scalar : Scalar → Scalar → Bool
is_same_scalar a b = is_same_elem a.elem b.elem && (int_eq a.low b.low && int_eq a.high b.high)

abbrev pub is_same_type : Here → ExactType → ExactType → Bool
is_same_type h (exact.Scalar a) (exact.Scalar b) = is_same_scalar a b
is_same_type h (exact.Scalar a) (exact.Other shape) = false
is_same_type h (exact.Other shape) (exact.Scalar b) = false
is_same_type h (exact.Other a) (exact.Other b) = h.meanings.names.is_same a b

abbrev pub is_exactly : Here → Option ExactType → ExactType → Bool
is_exactly h None wanted = false
is_exactly h (Some t) wanted = is_same_type h t wanted

-- ---- arguments for what a block has under their names: their faults, and whether the call's list of
-- arguments fits the block so far

pub record Argued : Type 0 where
  pub faults : List LinkFault
  pub fits : Bool

-- What a call tells of an argument: the first fault after it, and whether it fits.
pub record Argues (x : Argued) (old new : Faults) (result : Bool) : Type 0 where
  pub first : new ≡ after old x.faults
  pub fits : result ≡ x.fits

abbrev pub fitting : List LinkFault → Argued
fitting fs = record { faults = fs; fits = true }

abbrev pub unfit : List LinkFault → Argued
unfit fs = record { faults = fs; fits = false }

abbrev pub is_index_in : Part-F Expr Part Argument Path → Bool
is_index_in (Part-F.Index node indices) = true
is_index_in (Part-F.Field name) = false

abbrev pub is_index : Part → Bool
is_index p = is_index_in (out-Part p)

abbrev pub has_index : Path → Bool
has_index path = list_any is_index path.parts

abbrev pub is_wanted : Here → Path → Option ExactType → Bool
is_wanted h path None = true
is_wanted h path (Some t) = is_exactly h (path_type h path) t

-- what holds a fault breaks no rule outside itself
abbrev pub is_taken : Here → Path → Option ExactType → Option ExprType → Bool
is_taken h path wanted None = true
is_taken h path wanted (Some t) = has_index path || is_wanted h path wanted

abbrev pub indexed : Here → Path → List LinkFault
indexed h path = fault_where h (has_index path) path.node code.OutOfProfile

abbrev pub in_out_path : Here → List Loop → Path → Option ExactType → Argued
in_out_path h loops path wanted =
    record {
      faults = indexed h path ++ faults (target h loops path);
      fits = is_taken h path wanted (answer (target h loops path));
    }

abbrev pub in_out_in : Here → List Loop → Expr → Option ExactType
    → Expr-F Expr Part Argument Path → Argued
in_out_in h loops e wanted (Expr-F.Path path) = in_out_path h loops path wanted
in_out_in h loops e wanted _ = unfit (expression h place.Any e)

-- a VAR_IN_OUT is given a path, and nothing else
abbrev pub in_out : Here → List Loop → Expr → Option ExactType → Argued
in_out h loops e wanted = in_out_in h loops e wanted (out-Expr e)

-- `name := value`
abbrev pub value_given : Here → List Loop → Node → Expr → BlockPart → Argued
value_given h loops node e (part.Input (Some t)) = fitting (input h node e t)
value_given h loops node e (part.Input None) = fitting (expression h place.Any e)
value_given h loops node e (part.InOut wanted) = in_out h loops e wanted
value_given h loops node e (part.Output t) = unfit (expression h place.Any e)
value_given h loops node e part.Hidden = unfit (expression h place.Any e)
value_given h loops node e part.Unknown = unfit (expression h place.Any e)

-- `name => target`
abbrev pub target_given : Here → List Loop → Node → Path → BlockPart → Argued
target_given h loops node path (part.Output (Some t)) = fitting (output h loops node path t)
target_given h loops node path (part.Output None) = fitting (faults (target h loops path))
target_given h loops node path (part.Input t) = unfit (faults (target h loops path))
target_given h loops node path (part.InOut t) = unfit (faults (target h loops path))
target_given h loops node path part.Hidden = unfit (faults (target h loops path))
target_given h loops node path part.Unknown = unfit (faults (target h loops path))

abbrev pub given : Here → List Loop → StmtArgument → BlockPart → Argued
given h loops (argument.Input node name e) p = value_given h loops node e p
given h loops (argument.Output node name path) p = target_given h loops node path p

-- EN and ENO, where the block declares no variable of that name, are out of profile
abbrev pub is_enable : Identifier → BlockPart → Bool
is_enable name part.Unknown = is_enabling name.name
is_enable name part.Hidden = false
is_enable name (part.Input t) = false
is_enable name (part.Output t) = false
is_enable name (part.InOut t) = false

abbrev pub enable : Here → List Loop → StmtArgument → Argued
enable h loops a = fitting (fault h (name_of a).node code.OutOfProfile ++ alone h loops a)

abbrev pub argued_part : Here → List Loop → StmtArgument → BlockPart → Argued
argued_part h loops a p =
    if is_enable (name_of a) p then enable h loops a else given h loops a p

abbrev pub argued : Here → List Loop → ShapeNo → StmtArgument → Argued
argued h loops shape a = argued_part h loops a (h.around.block_part shape (name_of a).name)

abbrev pub argued_faults : Here → List Loop → ShapeNo → List StmtArgument → List LinkFault
argued_faults h loops shape arguments = flat_map (λ a. (argued h loops shape a).faults) arguments

abbrev pub all_fit : Here → List Loop → ShapeNo → List StmtArgument → Bool
all_fit h loops shape arguments = list_all (λ a. (argued h loops shape a).fits) arguments

-- ---- calls

abbrev pub fits_names : Here → ShapeNo → List StmtArgument → Bool
fits_names h shape arguments = not (is_given_twice arguments || lacks_in_out h shape arguments)

abbrev pub fits_block : Here → List Loop → ShapeNo → List StmtArgument → Bool
fits_block h loops shape arguments =
    all_fit h loops shape arguments && fits_names h shape arguments

abbrev pub call_fault : Here → Bool → Node → List LinkFault
call_fault h fits node = fault_unless h fits node code.WrongCall

abbrev pub instance_called : Here → List Loop → Node → ShapeNo → List StmtArgument → List LinkFault
instance_called h loops node shape arguments =
    argued_faults h loops shape arguments
    ++ call_fault h (fits_block h loops shape arguments) node

abbrev pub all_alone : Here → List Loop → List StmtArgument → List LinkFault
all_alone h loops arguments = flat_map (alone h loops) arguments

-- where nothing can be called so, the arguments are judged all the same
abbrev pub uncalled : Here → List Loop → Node → LinkCode → List StmtArgument → List LinkFault
uncalled h loops node code arguments = fault h node code ++ all_alone h loops arguments

abbrev pub call_of : Here → List Loop → Node → List StmtArgument → Called → List LinkFault
call_of h loops node arguments called.NoInstance =
    uncalled h loops node code.WrongCall arguments
call_of h loops node arguments called.Function =
    uncalled h loops node code.OutOfProfile arguments
call_of h loops node arguments called.Faulty = all_alone h loops arguments
call_of h loops node arguments (called.Instance shape) =
    instance_called h loops node shape arguments

abbrev pub call : Here → List Loop → Node → Identifier → List StmtArgument → List LinkFault
call h loops node name arguments = call_of h loops node arguments (h.around.called name.name)
