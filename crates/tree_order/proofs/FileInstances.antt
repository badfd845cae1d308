-- The lists of the nodes of declarations, charts, units and files as what is gathered from their
-- words.
use Rattle.std.proofs.Common.{◌≡◌, ◌∷◌, ◌++◌, refl, sym, ap, subst}
use Rattle.std.proofs.Common.{◌∙◌}
use Rattle.std.specs.Prelude.{flat_map}
use Rattle.st_tree.specs.declared.declaration.TypeName.{TypeName}
use Rattle.st_tree.specs.declared.declaration.TypeName.TheVariants as type
use Rattle.st_tree.specs.declared.declaration.Range.{Range}
use Rattle.st_tree.specs.declared.declaration.Decl.{Decl}
use Rattle.st_tree.specs.declared.declaration.Section.{Section}
use Rattle.st_tree.specs.declared.chart.Association.{Association}
use Rattle.st_tree.specs.declared.chart.Step.{Step}
use Rattle.st_tree.specs.declared.chart.StepNames.{StepNames}
use Rattle.st_tree.specs.declared.chart.StepNames.TheVariants as steps
use Rattle.st_tree.specs.declared.chart.Transition.{Transition}
use Rattle.st_tree.specs.declared.chart.SfcPart.{SfcPart}
use Rattle.st_tree.specs.declared.chart.SfcPart.TheVariants as chart
use Rattle.st_tree.specs.declared.chart.Sfc.{Sfc}
use Rattle.st_tree.specs.declared.file.Body.{Body}
use Rattle.st_tree.specs.declared.file.Body.TheVariants as bodies
use Rattle.st_tree.specs.declared.file.Unit.{Unit as UnitTree}
use Rattle.st_tree.specs.declared.file.UnitKind.{UnitKind}
use Rattle.st_tree.specs.declared.file.UnitKind.TheVariants as kinds
use Rattle.st_tree.specs.declared.file.Types.{Types}
use Rattle.st_tree.specs.declared.file.TypeDecl.{TypeDecl}
use Rattle.st_tree.specs.declared.file.Shape.{Shape}
use Rattle.st_tree.specs.declared.file.Shape.TheVariants as shapes
use Rattle.st_tree.specs.declared.file.Fields.{Fields}
use Rattle.st_tree.specs.declared.file.Globals.{Globals}
use Rattle.st_tree.specs.declared.file.Config.{Config}
use Rattle.st_tree.specs.declared.file.Resource.{Resource}
use Rattle.st_tree.specs.declared.file.Tasks.{Tasks}
use Rattle.st_tree.specs.declared.file.ProgramLine.{ProgramLine}
use Rattle.st_tree.specs.declared.file.FilePart.{FilePart}
use Rattle.st_tree.specs.declared.file.FilePart.TheVariants as part
use Rattle.st_units.specs.Grammar.{file}
use Rattle.tree_numbers.specs.NodeLists.{nodes_of_identifier, nodes_of_address, nodes_of_type_name}
use Rattle.tree_numbers.specs.NodeLists.{nodes_of_range, nodes_of_spec, nodes_of_init}
use Rattle.tree_numbers.specs.NodeLists.{nodes_of_item, nodes_of_field, nodes_of_decl}
use Rattle.tree_numbers.specs.NodeLists.{nodes_of_section, nodes_of_association, nodes_of_step}
use Rattle.tree_numbers.specs.NodeLists.{nodes_of_step_names, nodes_of_transition}
use Rattle.tree_numbers.specs.NodeLists.{nodes_of_sfc_part, nodes_of_sfc, nodes_of_body}
use Rattle.tree_numbers.specs.NodeLists.{nodes_of_unit_kind, nodes_of_unit, nodes_of_fields}
use Rattle.tree_numbers.specs.NodeLists.{nodes_of_shape, nodes_of_type_decl, nodes_of_types}
use Rattle.tree_numbers.specs.NodeLists.{nodes_of_globals, nodes_of_task}
use Rattle.tree_numbers.specs.NodeLists.{nodes_of_program_line, nodes_of_tasks, nodes_of_resource}
use Rattle.tree_numbers.specs.NodeLists.{nodes_of_config, nodes_of_file_part, nodes_of_parts}
use Rattle.tree_numbers.proofs.NodeEquations as n
use Rattle.tree_order.proofs.Gathering.{Lists}
use Rattle.tree_order.proofs.NodesOfWords.{StandInOrder, node_gathering}
use Rattle.tree_order.proofs.NodeInstances.{same_flat, same_if, expr_nodes, stmt_nodes}
use Rattle.tree_order.proofs.DeclarationLists.{DeclLists, of_type_name, of_range, of_decl}
use Rattle.tree_order.proofs.DeclarationLists.{of_section, of_globals, of_fields, of_shape}
use Rattle.tree_order.proofs.DeclarationLists.{of_type_decl, of_types}
use Rattle.tree_order.proofs.DeclarationLists.{of_program_line, of_tasks, of_resource, of_config}
use Rattle.tree_order.proofs.ChartLists.{of_association, of_step, of_step_names, of_transition}
use Rattle.tree_order.proofs.ChartLists.{of_sfc_part, of_sfc}
use Rattle.tree_order.proofs.UnitLists.{of_unit_kind, of_body, of_unit, of_file_part}
use Rattle.tree_order.proofs.UnitLists as units

-- ---- types and initial values

pub same_type_name : (x : TypeName) → nodes_of_type_name x ≡ of_type_name node_gathering x
same_type_name (type.Elementary node elem) = refl
same_type_name (type.Named name) = refl

pub same_range : (x : Range) → nodes_of_range x ≡ of_range expr_nodes x
same_range x = refl

abbrev pub decl_nodes : DeclLists expr_nodes
decl_nodes = record {
  of_spec = nodes_of_spec;
  of_init = nodes_of_init;
  of_item = nodes_of_item;
  of_field = nodes_of_field;
  type_ =
      λ node name limits. n.of_type node name limits ∙ ap (λ ns. node ∷ ns)
      (rw (same_type_name name, same_if nodes_of_range (of_range expr_nodes) same_range limits)
      refl);
  enumeration = n.of_enumeration;
  array = n.of_array;
  value = n.of_plain_value;
  elements = n.of_elements;
  structure = n.of_structure;
  one = n.of_one;
  repeated = n.of_repeated;
  field = n.of_field;
}

-- ---- declarations

same_decl : (x : Decl) → nodes_of_decl x ≡ of_decl decl_nodes x
same_decl x =
    rw (
      same_if nodes_of_address nodes_of_address (λ a. refl) x.address,
      same_if nodes_of_init
          nodes_of_init (λ i. refl) x.init,
    ) refl

same_section : (x : Section) → nodes_of_section x ≡ of_section decl_nodes x
same_section x =
    ap (λ ns. x.node ∷ ns) (same_flat nodes_of_decl (of_decl decl_nodes) same_decl x.decls)

pub same_globals : (x : Globals) → nodes_of_globals x ≡ of_globals decl_nodes x
same_globals x =
    ap (λ ns. x.node ∷ ns) (same_flat nodes_of_decl (of_decl decl_nodes) same_decl x.decls)

same_fields : (x : Fields) → nodes_of_fields x ≡ of_fields decl_nodes x
same_fields x = rw (same_if nodes_of_init nodes_of_init (λ i. refl) x.init) refl

same_shape : (x : Shape) → nodes_of_shape x ≡ of_shape decl_nodes x
same_shape (shapes.Spec s) = refl
same_shape (shapes.Structure node members) =
    ap (λ ns. node ∷ ns) (same_flat nodes_of_fields (of_fields decl_nodes) same_fields members)

same_type_decl : (x : TypeDecl) → nodes_of_type_decl x ≡ of_type_decl decl_nodes x
same_type_decl x =
    rw (same_shape x.shape, same_if nodes_of_init nodes_of_init (λ i. refl) x.init) refl

pub same_types : (x : Types) → nodes_of_types x ≡ of_types decl_nodes x
same_types x =
    ap (λ ns. x.node ∷ ns) (same_flat nodes_of_type_decl (of_type_decl decl_nodes) same_type_decl
    x.decls)

-- ---- configurations

same_line : (x : ProgramLine) → nodes_of_program_line x ≡ of_program_line node_gathering x
same_line x = rw (same_if nodes_of_identifier nodes_of_identifier (λ i. refl) x.task) refl

same_tasks : (x : Tasks) → nodes_of_tasks x ≡ of_tasks decl_nodes x
same_tasks x =
    ap (λ ns. flat_map nodes_of_task x.tasks ++ ns)
    (same_flat nodes_of_program_line (of_program_line node_gathering) same_line x.lines)

same_resource : (x : Resource) → nodes_of_resource x ≡ of_resource decl_nodes x
same_resource x =
    rw (
      same_flat nodes_of_globals (of_globals decl_nodes) same_globals x.globals,
      same_tasks x.tasks,
    ) refl

pub same_config : (x : Config) → nodes_of_config x ≡ of_config decl_nodes x
same_config x =
    rw (
      same_flat nodes_of_globals (of_globals decl_nodes) same_globals x.globals,
      same_flat nodes_of_resource (of_resource decl_nodes) same_resource x.resources,
      same_tasks x.tasks,
    ) refl

-- ---- charts

same_association : (x : Association) → nodes_of_association x ≡ of_association node_gathering x
same_association x =
    rw (same_if nodes_of_identifier nodes_of_identifier (λ i. refl) x.qualifier) refl

same_step : (x : Step) → nodes_of_step x ≡ of_step node_gathering x
same_step x =
    ap (λ ns. x.node ∷ (x.name.node ∷ ns))
    (same_flat nodes_of_association (of_association node_gathering) same_association x.associations)

same_step_names : (x : StepNames) → nodes_of_step_names x ≡ of_step_names node_gathering x
same_step_names (steps.One name) = refl
same_step_names (steps.Several node names) = refl

same_transition : (x : Transition) → nodes_of_transition x ≡ of_transition stmt_nodes x
same_transition x =
    rw (
      same_if nodes_of_identifier nodes_of_identifier (λ i. refl) x.name,
      same_step_names x.from,
      same_step_names x.to,
    ) refl

same_sfc_part : (x : SfcPart) → nodes_of_sfc_part x ≡ of_sfc_part stmt_nodes x
same_sfc_part (chart.Step x) = same_step x
same_sfc_part (chart.Transition x) = same_transition x
same_sfc_part (chart.Action x) = refl

same_sfc : (x : Sfc) → nodes_of_sfc x ≡ of_sfc stmt_nodes x
same_sfc x =
    ap (λ ns. x.node ∷ (ns ++ flat_map nodes_of_sfc_part x.parts)) (same_step x.initial)
    ∙ ap (λ ns. x.node ∷ (of_step node_gathering x.initial ++ ns))
    (same_flat nodes_of_sfc_part (of_sfc_part stmt_nodes) same_sfc_part x.parts)

-- ---- units and files

same_body : (x : Body) → nodes_of_body x ≡ of_body stmt_nodes x
same_body (bodies.Statements found) = refl
same_body (bodies.Chart c) = same_sfc c

same_unit_kind : (x : UnitKind) → nodes_of_unit_kind x ≡ of_unit_kind node_gathering x
same_unit_kind (kinds.Function name) = same_type_name name
same_unit_kind kinds.Block = refl
same_unit_kind kinds.Program = refl

pub same_unit : (x : UnitTree) → nodes_of_unit x ≡ of_unit stmt_nodes decl_nodes x
same_unit x =
    rw (
      same_unit_kind x.kind,
      same_flat nodes_of_section (of_section decl_nodes) same_section
          x.sections,
      same_body x.body,
    ) refl

same_file_part : (x : FilePart) → nodes_of_file_part x ≡ of_file_part stmt_nodes decl_nodes x
same_file_part (part.Unit x) = same_unit x
same_file_part (part.Types x) = same_types x
same_file_part (part.Globals x) = same_globals x
same_file_part (part.Config x) = same_config x

-- the nodes of the parts of a file stand within its word, in the order of the text
pub file_nodes : Lists StandInOrder nodes_of_parts file
file_nodes = record {
  holds = λ d w parts e l.
      subst (λ ns. StandInOrder w ns)
      (sym (same_flat nodes_of_file_part (of_file_part stmt_nodes decl_nodes) same_file_part
      parts)) ((units.file stmt_nodes decl_nodes).holds d w parts e l);
}
