-- What is written to, and what it is assigned. Source: IEC 61131-3, assignments and access to variables;
-- what may be written to, and which faults stand, is this profile's.
use Rattle.std.specs.Prelude.{ℕ, Bool, true, false, ◌||◌, if◌then◌else◌, List, [], ◌∷◌, ◌++◌, Option, Some, None}
use Rattle.std.specs.List.{list_any}
use Rattle.st_tree.specs.declared.node.Node.{Node}
use Rattle.st_tree.specs.declared.expression.Identifier.{Identifier}
use Rattle.st_tree.specs.declared.expression.Root.{Root}
use Rattle.st_tree.specs.declared.expression.Root.TheVariants as root
use Rattle.st_tree.specs.declared.expression.Expr.{Expr}
use Rattle.st_tree.specs.declared.expression.Expr.TheOpen.{Part-F}
use Rattle.st_tree.specs.declared.expression.Part.{Part, out-Part}
use Rattle.st_tree.specs.declared.expression.Argument.{Argument}
use Rattle.st_tree.specs.declared.expression.Path.{Path}
use Rattle.link_faults.specs.Checked.{Checked, provided, bind}
use Rattle.link_faults.specs.declared.code.LinkCode.TheVariants as code
use Rattle.link_faults.specs.declared.fault.LinkFault.{LinkFault}
use Rattle.expression_types.specs.Rules.{site_of}
use Rattle.expression_types.specs.Judge.{read_path}
use Rattle.expression_types.specs.declared.judged.ExprType.{ExprType}
use Rattle.expression_types.specs.declared.judged.ExprType.TheVariants as ty
use Rattle.expression_types.specs.declared.judged.Judged.{Judged}
use Rattle.expression_types.specs.declared.judged.Place.TheVariants as place
use Rattle.expression_types.specs.declared.meaning.ShapeNo.{ShapeNo}
use Rattle.body_rules.specs.Loops.{Loop, Plain, Counting, counts}
use Rattle.body_rules.specs.Surroundings.{Here}
use Rattle.body_rules.specs.Told.{anywhere, fault, fault_where, followed, expression}
use Rattle.body_rules.specs.declared.outside.ExactType.{ExactType}
use Rattle.body_rules.specs.declared.outside.ExactType.TheVariants as exact
use Rattle.body_rules.specs.declared.outside.BlockPart.{BlockPart}
use Rattle.body_rules.specs.declared.outside.BlockPart.TheVariants as part

-- ---- the type of a path, with its bounds

abbrev pub root_type : Here → Root → Option ExactType
root_type h (root.Name i) = h.around.variable_type i.name
root_type h (root.Address a) = h.around.address_type a.name

abbrev pub field_type : Here → Identifier → ExactType → Option ExactType
field_type h name (exact.Scalar s) = None
field_type h name (exact.Other shape) = h.around.field_type shape name.name

abbrev pub element_type : Here → ExactType → Option ExactType
element_type h (exact.Scalar s) = None
element_type h (exact.Other shape) = h.around.element_type shape

abbrev pub type_in : Here → ExactType → Part-F Expr Part Argument Path → Option ExactType
type_in h t (Part-F.Field name) = field_type h name t
type_in h t (Part-F.Index node indices) = element_type h t

-- the type of a part, by that of what stands before it
abbrev pub part_type : Here → Part → Option ExactType → Option ExactType
part_type h p None = None
part_type h p (Some t) = type_in h t (out-Part p)

abbrev pub parts_type : Here → List Part → Option ExactType → Option ExactType
parts_type h [] t = t
parts_type h (p ∷ ps) t = parts_type h ps (part_type h p t)

abbrev pub path_type : Here → Path → Option ExactType
path_type h path = parts_type h path.parts (root_type h path.root)

-- an array or a structure
abbrev pub is_whole_shape : Here → ShapeNo → Bool
is_whole_shape h shape =
    if h.meanings.parts.is_enumeration shape then false
    else if h.around.is_instance shape then false else true

abbrev pub is_whole : Here → Option ExactType → Bool
is_whole h None = false
is_whole h (Some (exact.Scalar s)) = false
is_whole h (Some (exact.Other shape)) = is_whole_shape h shape

-- ---- what may be written to: neither a variable that isn't assignable, nor one that a loop around
-- counts, nor an output of an instance

abbrev pub is_output : BlockPart → Bool
is_output (part.Output t) = true
is_output part.Unknown = false
is_output part.Hidden = false
is_output (part.Input t) = false
is_output (part.InOut t) = false

abbrev pub is_output_field : Here → Identifier → ExactType → Bool
is_output_field h name (exact.Scalar s) = false
is_output_field h name (exact.Other shape) = is_output (h.around.block_part shape name.name)

abbrev pub is_output_in : Here → ExactType → Part-F Expr Part Argument Path → Bool
is_output_in h t (Part-F.Field name) = is_output_field h name t
is_output_in h t (Part-F.Index node indices) = false

abbrev pub is_output_part : Here → Part → Option ExactType → Bool
is_output_part h p None = false
is_output_part h p (Some t) = is_output_in h t (out-Part p)

abbrev pub has_output : Here → List Part → Option ExactType → Bool
has_output h [] t = false
has_output h (p ∷ ps) t = is_output_part h p t || has_output h ps (part_type h p t)

abbrev pub is_counting_at : Here → List ℕ → Loop → Bool
is_counting_at h address Plain = false
is_counting_at h address (Counting variable) = h.around.is_declared_at variable address

-- a loop around counts the variable at this address
abbrev pub counts_at : Here → List Loop → List ℕ → Bool
counts_at h loops address = list_any (is_counting_at h address) loops

abbrev pub is_root_written : Here → List Loop → Root → Bool
is_root_written h loops (root.Name i) =
    if counts loops i.name then false else h.around.is_assignable i.name
is_root_written h loops (root.Address a) =
    if counts_at h loops a.name then false else h.around.is_assignable_at a.name

abbrev pub may_be_written : Here → List Loop → Path → Bool
may_be_written h loops path =
    if has_output h path.parts (root_type h path.root) then false
    else is_root_written h loops path.root

abbrev pub writable : Here → List Loop → Path → Judged → Checked ExprType
writable h loops path j =
    provided (may_be_written h loops path) j.ty (site_of (anywhere h.file) path.node)
    code.NotAssignable

-- what a path is that is written to
abbrev pub target : Here → List Loop → Path → Checked ExprType
target h loops path =
    bind (read_path h.meanings (anywhere h.file) path).judged (writable h loops path)

-- ---- assignments: a variable is assigned as a whole only where it is elementary or an enumeration

abbrev pub whole_fault : Here → Node → Path → ShapeNo → List LinkFault
whole_fault h node path shape =
    if h.around.is_instance shape then fault h path.node code.WrongType
    else fault h node code.OutOfProfile

abbrev pub assigned_shape : Here → Node → Path → Expr → ShapeNo → List LinkFault
assigned_shape h node path e shape =
    if h.meanings.parts.is_enumeration shape then expression h (place.Shape shape) e
    else whole_fault h node path shape ++ expression h place.Any e

-- what is assigned to a target of a type; no variable is without one
abbrev pub assigned : Here → Node → Path → Expr → ExprType → List LinkFault
assigned h node path e (ty.Elem t) = expression h (place.Elem t) e
assigned h node path e (ty.Other shape) = assigned_shape h node path e shape
assigned h node path e ty.Loose = expression h place.Any e

-- a whole array or structure is out of profile, also where it may not be written to
abbrev pub whole_target : Here → Node → Path → List LinkFault
whole_target h node path = fault_where h (is_whole h (path_type h path)) node code.OutOfProfile

abbrev pub unassigned : Here → Node → Path → Expr → List LinkFault
unassigned h node path e = whole_target h node path ++ expression h place.Any e

abbrev pub assignment : Here → List Loop → Node → Path → Expr → List LinkFault
assignment h loops node path e =
    followed (target h loops path) (assigned h node path e) (unassigned h node path e)
