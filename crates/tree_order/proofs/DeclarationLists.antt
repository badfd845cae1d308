-- What is gathered from the words of declarations, types of the user and configurations.
use Rattle.std.proofs.Common.{◌≡◌, ℕ, zero, suc, List, [], ◌++◌, Option}
use Rattle.std.proofs.Common.{refl, sym}
use Rattle.std.specs.Prelude.{flat_map}
use Rattle.std.proofs.lemmas.List.{append-nil}
use Rattle.token_grammar.specs.declared.token.TokenKind.{TokenKind}
use Rattle.token_grammar.specs.declared.token.TokenKind.TheVariants as k
use Rattle.token_grammar.specs.Grammar.{Word, Rule, node}
use Rattle.iec_tables.specs.declared.elem.Elem.{Elem}
use Rattle.st_tree.specs.Places.{node_at}
use Rattle.st_tree.specs.declared.node.Node.{Node}
use Rattle.st_tree.specs.declared.expression.Identifier.{Identifier}
use Rattle.st_tree.specs.declared.expression.Address.{Address}
use Rattle.st_tree.specs.declared.expression.Expr.{Expr}
use Rattle.st_tree.specs.declared.declaration.TypeName.{TypeName}
use Rattle.st_tree.specs.declared.declaration.TypeName.TheVariants as type
use Rattle.st_tree.specs.declared.declaration.Range.{Range}
use Rattle.st_tree.specs.declared.declaration.Spec.{Spec}
use Rattle.st_tree.specs.declared.declaration.Spec.TheVariants as specs
use Rattle.st_tree.specs.declared.declaration.Init.{Init}
use Rattle.st_tree.specs.declared.declaration.Init.TheVariants as inits
use Rattle.st_tree.specs.declared.declaration.Item.{Item}
use Rattle.st_tree.specs.declared.declaration.Item.TheVariants as items
use Rattle.st_tree.specs.declared.declaration.FieldInit.{FieldInit}
use Rattle.st_tree.specs.declared.declaration.Decl.{Decl}
use Rattle.st_tree.specs.declared.declaration.SectionKind.{SectionKind}
use Rattle.st_tree.specs.declared.declaration.Keep.{Keep}
use Rattle.st_tree.specs.declared.declaration.Section.{Section}
use Rattle.st_tree.specs.declared.file.Types.{Types}
use Rattle.st_tree.specs.declared.file.TypeDecl.{TypeDecl}
use Rattle.st_tree.specs.declared.file.Shape.{Shape}
use Rattle.st_tree.specs.declared.file.Shape.TheVariants as shapes
use Rattle.st_tree.specs.declared.file.Fields.{Fields}
use Rattle.st_tree.specs.declared.file.Globals.{Globals}
use Rattle.st_tree.specs.declared.file.Config.{Config}
use Rattle.st_tree.specs.declared.file.Resource.{Resource}
use Rattle.st_tree.specs.declared.file.Tasks.{Tasks}
use Rattle.st_tree.specs.declared.file.Task.{Task}
use Rattle.st_tree.specs.declared.file.Parameter.{Parameter}
use Rattle.st_tree.specs.declared.file.ProgramLine.{ProgramLine}
use Rattle.st_expr.specs.Trees.{Text}
use Rattle.st_declarations.specs.Trees.{make_elementary, make_range, make_type, make_enumeration}
use Rattle.st_declarations.specs.Trees.{make_array, make_elements, make_structure, make_repeated}
use Rattle.st_declarations.specs.Trees.{make_field_init, make_decl, make_section, make_globals}
use Rattle.st_declarations.specs.Trees.{make_fields, make_struct, make_type_decl, make_types}
use Rattle.st_declarations.specs.Trees.{make_parameter, make_task, make_line, make_resource}
use Rattle.st_declarations.specs.Trees.{make_config}
use Rattle.st_declarations.specs.Grammar as g
use Rattle.tree_order.proofs.Gathering.{Gathering, Filled, Lists, filled_token}
use Rattle.tree_order.proofs.Gathering.{filled_first, filled_or, filled_scoped, filled_node}
use Rattle.tree_order.proofs.Gathering.{gathers_give, gathers_then, gathers_behind, gathers_scoped}
use Rattle.tree_order.proofs.Gathering.{lists_or, lists_scoped, lists, lists_word}
use Rattle.tree_order.proofs.Gathering.{lists_enclosed, lists_node, gathers_another, gathers_more}
use Rattle.tree_order.proofs.Gathering.{lists_many, lists_some}
use Rattle.tree_order.proofs.ExpressionLists.{ExprLists, of_identifier, of_address, list_if}
use Rattle.tree_order.proofs.ExpressionLists.{filled_word, filled_identifier, filled_names}
use Rattle.tree_order.proofs.ExpressionLists.{filled_expression}
use Rattle.tree_order.proofs.ExpressionLists as exprs

abbrev pub of_type_name : {M : Type 0} {P : Word → List M → Type 0} → Gathering P → TypeName →
    List M
of_type_name G (type.Elementary node elem) = G.own node ++ []
of_type_name G (type.Named name) = of_identifier G name

abbrev pub of_range : {M : Type 0} {P : Word → List M → Type 0} {G : Gathering P} → ExprLists G →
    Range → List M
of_range {G} E x = G.own x.node ++ (E.of_expr x.lower ++ E.of_expr x.upper)

-- What is gathered of types and initial values: of each form its node, the texts of its tokens, and
-- its parts.
pub record DeclLists {M : Type 0} {P : Word → List M → Type 0} {G : Gathering P} (E : ExprLists G) :
    Type 0 where
  pub of_spec : Spec → List M
  pub of_init : Init → List M
  pub of_item : Item → List M
  pub of_field : FieldInit → List M
  pub type_ : (node : Node) (name : TypeName) (limits : Option Range) →
      of_spec (specs.Type node name limits) ≡ G.own node
      ++ (of_type_name G name ++ list_if (of_range E) limits)
  pub enumeration : (node : Node) (values : List Identifier) →
      of_spec (specs.Enumeration node values) ≡ G.own node ++ flat_map (of_identifier G) values
  pub array : (node : Node) (ranges : List Range) (element : Spec) →
      of_spec (specs.Array node ranges element) ≡ G.own node
      ++ (flat_map (of_range E) ranges ++ of_spec element)
  pub value : (v : Expr) → of_init (inits.Value v) ≡ E.of_expr v
  pub elements : (node : Node) (xs : List Item) → of_init (inits.Array node xs) ≡ G.own node
      ++ flat_map of_item xs
  pub structure : (node : Node) (xs : List FieldInit) → of_init (inits.Structure node xs)
      ≡ G.own node ++ flat_map of_field xs
  pub one : (v : Init) → of_item (items.One v) ≡ of_init v
  pub repeated : (node : Node) (count : Text) (v : Init) → of_item (items.Repeated node count v)
      ≡ G.own node ++ (G.spelled k.Number count ++ of_init v)
  pub field : (node : Node) (name : Identifier) (v : Init) →
      of_field (record { node = node; name = name; value = v }) ≡ G.own node
      ++ (of_identifier G name ++ of_init v)

-- ---- what is gathered of each part of a declaration

module _ {M : Type 0} {P : Word → List M → Type 0} {G : Gathering P} {E : ExprLists G}
    (D : DeclLists E) where
  abbrev pub of_decl : Decl → List M
  of_decl x =
      G.own x.node ++ (flat_map (of_identifier G) x.names ++ (list_if (of_address G) x.address
      ++ (D.of_spec x.spec ++ list_if D.of_init x.init)))

  abbrev pub of_section : Section → List M
  of_section x = G.own x.node ++ flat_map of_decl x.decls

  abbrev pub of_globals : Globals → List M
  of_globals x = G.own x.node ++ flat_map of_decl x.decls

  abbrev pub of_fields : Fields → List M
  of_fields x =
      G.own x.node ++ (flat_map (of_identifier G) x.names
      ++ (D.of_spec x.spec ++ list_if D.of_init x.init))

  abbrev pub of_shape : Shape → List M
  of_shape (shapes.Spec s) = D.of_spec s
  of_shape (shapes.Structure node members) = G.own node ++ flat_map of_fields members

  abbrev pub of_type_decl : TypeDecl → List M
  of_type_decl x =
      G.own x.node ++ (of_identifier G x.name ++ (of_shape x.shape ++ list_if D.of_init x.init))

  abbrev pub of_types : Types → List M
  of_types x = G.own x.node ++ flat_map of_type_decl x.decls

-- ---- what is gathered of each part of a configuration

module _ {M : Type 0} {P : Word → List M → Type 0} {G : Gathering P} (E : ExprLists G) where
  abbrev pub of_parameter : Parameter → List M
  of_parameter x = G.own x.node ++ (of_identifier G x.name ++ E.of_expr x.value)

  abbrev pub of_task : Task → List M
  of_task x = G.own x.node ++ (of_identifier G x.name ++ flat_map of_parameter x.parameters)

abbrev pub of_program_line : {M : Type 0} {P : Word → List M → Type 0} → Gathering P → ProgramLine →
    List M
of_program_line G x =
    G.own x.node ++ (of_identifier G x.name ++ (list_if (of_identifier G) x.task
    ++ of_identifier G x.program))

module _ {M : Type 0} {P : Word → List M → Type 0} {G : Gathering P} {E : ExprLists G}
    (D : DeclLists E) where
  abbrev pub of_tasks : Tasks → List M
  of_tasks x = flat_map (of_task E) x.tasks ++ flat_map (of_program_line G) x.lines

  abbrev pub of_resource : Resource → List M
  of_resource x =
      G.own x.node ++ (of_identifier G x.name
      ++ (of_identifier G x.kind ++ (flat_map (of_globals D) x.globals ++ of_tasks x.tasks)))

  abbrev pub of_config : Config → List M
  of_config x =
      G.own x.node ++ (of_identifier G x.name ++ (flat_map (of_globals D) x.globals
      ++ (flat_map of_resource x.resources ++ of_tasks x.tasks)))

-- ---- words with a lexeme

filled_elem : (kind : TokenKind) (x : Elem) → Filled (g.elem_as kind x)
filled_elem kind x = filled_node make_elementary (filled_first (filled_token 0 0))

filled_elementary : Filled g.elementary
filled_elementary =
    filled_or (filled_elem k.Bool _)
    (filled_or (filled_elem k.Byte _)
    (filled_or (filled_elem k.Word _) (filled_or (filled_elem k.Dword _)
    (filled_or (filled_elem k.Lword _)
    (filled_or (filled_elem k.Sint _)
    (filled_or (filled_elem k.Int _)
    (filled_or (filled_elem k.Dint _) (filled_or (filled_elem k.Lint _)
    (filled_or (filled_elem k.Usint _)
    (filled_or (filled_elem k.Uint _) (filled_or (filled_elem k.Udint _)
    (filled_or (filled_elem k.Ulint _) (filled_elem k.Time _)))))))))))))

filled_typename : Filled g.typename
filled_typename = filled_or (filled_first filled_identifier) filled_elementary

filled_section_word : Filled g.section_word
filled_section_word =
    filled_or (filled_kind k.Var _) (filled_or (filled_kind k.VarInput _)
    (filled_or (filled_kind k.VarOutput _)
    (filled_or (filled_kind k.VarInOut _) (filled_or (filled_kind k.VarExternal _)
    (filled_kind k.VarTemp _)))))
  where
    filled_kind : (kind : TokenKind) (x : SectionKind) → Filled (g.section_as kind x)
    filled_kind kind x = filled_first (filled_token 0 0)

module _ {M : Type 0} {P : Word → List M → Type 0} {G : Gathering P} (E : ExprLists G) where
  -- ---- types

  elem_as : (kind : TokenKind) (x : Elem) → Lists P (of_type_name G) (g.elem_as kind x)
  elem_as kind x =
      lists_node G (λ (x : Elem). []) (of_type_name G) make_elementary
      (filled_first (filled_token 0 0)) (λ start end x. refl)
      (lists G (gathers_behind G 0 0 (λ t. gathers_give G refl)))

  elementary : Lists P (of_type_name G) g.elementary
  elementary =
      lists_or G (elem_as k.Bool _)
      (lists_or G (elem_as k.Byte _)
      (lists_or G (elem_as k.Word _)
      (lists_or G (elem_as k.Dword _) (lists_or G (elem_as k.Lword _)
      (lists_or G (elem_as k.Sint _)
      (lists_or G (elem_as k.Int _)
      (lists_or G (elem_as k.Dint _) (lists_or G (elem_as k.Lint _)
      (lists_or G (elem_as k.Usint _)
      (lists_or G (elem_as k.Uint _)
      (lists_or G (elem_as k.Udint _)
      (lists_or G (elem_as k.Ulint _) (elem_as k.Time _)))))))))))))

  pub typename : Lists P (of_type_name G) g.typename
  typename =
      lists_or G (lists G (gathers_then G (exprs.identifier G)
      (λ i. gathers_give G (sym (append-nil (of_identifier G i)))))) elementary

  range : Lists P (of_range E) g.range
  range =
      lists_node G (λ (p : Expr × Expr). E.of_expr p.0 ++ E.of_expr p.1) (of_range E) make_range
      (filled_first filled_expression) (λ start end p. refl)
      (lists G (gathers_then G (exprs.expression E)
      (λ a. gathers_behind G 0 0 (λ t. gathers_then G (exprs.expression E)
      (λ b. gathers_give G (rw append-nil refl))))))

  optional_bounds : Lists P (list_if (of_range E)) g.optional_bounds
  optional_bounds = lists_or G
      (lists_scoped G (lists G
      (gathers_behind G 1 1
      (λ t. gathers_then G range
      (λ r. gathers_behind G 0 0 (λ c. gathers_give G (sym (append-nil (of_range E r)))))))))
      (lists G (gathers_give G refl))

  ranges : Lists P (flat_map (of_range E)) g.ranges
  ranges = lists_scoped G (lists_enclosed G 1 1 0 0 (lists_some G range (gathers_more G 0 0 range)))

  -- ---- configurations

  parameter : Lists P (of_parameter E) g.parameter
  parameter =
      lists_node G (λ (p : Identifier × Expr). of_identifier G p.0 ++ E.of_expr p.1)
      (of_parameter E) make_parameter (filled_first filled_identifier) (λ start end p. refl)
      (lists G (gathers_then G (exprs.identifier G)
      (λ i. gathers_behind G 0 0 (λ t. gathers_then G (exprs.expression E)
      (λ x. gathers_give G (rw append-nil refl))))))

  parameters : Lists P (flat_map (of_parameter E)) g.parameters
  parameters =
      lists_scoped G (lists_enclosed G 1 1 0 0
      (lists_some G parameter (gathers_more G 0 0 parameter)))

  task : Lists P (of_task E) g.task
  task =
      lists_node G (λ (p : Identifier × List Parameter). of_identifier G p.0
      ++ flat_map (of_parameter E) p.1) (of_task E) make_task (filled_first (filled_token 0 0))
      (λ start end p. refl)
      (lists G (gathers_behind G 0 0 (λ t. gathers_then G (exprs.identifier G)
      (λ i. gathers_then G parameters
      (λ found. gathers_behind G 0 0 (λ s. gathers_give G (rw append-nil refl)))))))

module _ {M : Type 0} {P : Word → List M → Type 0} (G : Gathering P) where
  optional_task : Lists P (list_if (of_identifier G)) g.optional_task
  optional_task =
      lists_or G (lists G (gathers_behind G 0 0 (λ t. gathers_then G (exprs.identifier G)
      (λ i. gathers_give G (sym (append-nil (of_identifier G i)))))))
      (lists G (gathers_give G refl))

  program_line : Lists P (of_program_line G) g.program_line
  program_line =
      lists_node G (λ (p : Identifier × Option Identifier × Identifier). of_identifier G p.0
      ++ (list_if (of_identifier G) p.1 ++ of_identifier G p.2)) (of_program_line G) make_line
      (filled_first (filled_token 0 0)) (λ start end p. refl)
      (lists G (gathers_behind G 0 0 (λ t. gathers_then G (exprs.identifier G)
      (λ i. gathers_then G optional_task
      (λ o. gathers_behind G 0 0 (λ c. gathers_then G (exprs.identifier G)
      (λ program. gathers_behind G 0 0 (λ s.
      gathers_give G (rw append-nil refl)))))))))

  keep : Lists P (λ (kept : Option Keep). []) g.keep
  keep =
      lists_or G (keep_as k.Constant _)
      (lists_or G (keep_as k.Retain _) (lists_or G (keep_as k.NonRetain _)
      (lists G (gathers_give G refl))))
    where
      keep_as : (kind : TokenKind) (x : Keep) →
          Lists P (λ (kept : Option Keep). []) (g.keep_as kind x)
      keep_as kind x = lists G (gathers_behind G 0 0 (λ t. gathers_give G refl))

  section_word : Lists P (λ (kind : SectionKind). []) g.section_word
  section_word =
      lists_or G (section_as k.Var _) (lists_or G (section_as k.VarInput _)
      (lists_or G (section_as k.VarOutput _) (lists_or G (section_as k.VarInOut _)
      (lists_or G (section_as k.VarExternal _) (section_as k.VarTemp _)))))
    where
      section_as : (kind : TokenKind) (x : SectionKind) →
          Lists P (λ (kind : SectionKind). []) (g.section_as kind x)
      section_as kind x = lists G (gathers_behind G 0 0 (λ t. gathers_give G refl))

module _ {M : Type 0} {P : Word → List M → Type 0} {G : Gathering P} {E : ExprLists G}
    (D : DeclLists E) where
  -- ---- types, initial values

  plain_spec : Lists P D.of_spec g.plain_spec
  plain_spec =
      lists_node G (λ (p : TypeName × Option Range). of_type_name G p.0 ++ list_if (of_range E) p.1)
      D.of_spec make_type (filled_first filled_typename) (λ start end p. D.type_ (node_at start end)
      p.0 p.1)
      (lists G (gathers_then G (typename E) (λ t. gathers_then G (optional_bounds E)
      (λ r. gathers_give G (rw append-nil refl)))))

  enumeration : Lists P D.of_spec g.enumeration
  enumeration =
      lists_node G (flat_map (of_identifier G)) D.of_spec make_enumeration
      (filled_scoped (filled_first (filled_token 1 1)))
      (λ start end names. D.enumeration (node_at start end) names)
      (lists_scoped G (lists_enclosed G 1 1 0 0 (exprs.names G)))

  array : (inner : Rule Spec) → Lists P D.of_spec inner → Lists P D.of_spec (g.array inner)
  array inner h =
      lists_node G (λ (p : List Range × Spec). flat_map (of_range E) p.0 ++ D.of_spec p.1) D.of_spec
      make_array (filled_scoped (filled_first (filled_token 1 1)))
      (λ start end p. D.array (node_at start end) p.0 p.1)
      (lists_scoped G (lists G
      (gathers_behind G 1 1
      (λ t. gathers_then G (ranges E)
      (λ rs. gathers_behind G 0 0
      (λ o. gathers_then G h (λ s. gathers_give G (rw append-nil refl))))))))

  spec_within : (n : ℕ) → Lists P D.of_spec (g.spec_within n)
  unfolding g.spec_within
  spec_within zero = record { holds = λ d w x e l. absurd l }
  spec_within (suc n) =
      lists_or G (array (g.spec_within n) (spec_within n)) (lists_or G enumeration plain_spec)

  pub spec : Lists P D.of_spec g.spec
  spec = record { holds = λ d w x e (n, l). (spec_within n).holds d w x e l }

  module _ (inner : Rule Init) (h : Lists P D.of_init inner) where
    repeated_item : Lists P D.of_item (g.repeated_item inner)
    repeated_item =
        lists_node G (λ (p : Text × Init). G.spelled k.Number p.0 ++ D.of_init p.1) D.of_item
        make_repeated (filled_first (filled_word k.Number))
        (λ start end p. D.repeated (node_at start end) p.0 p.1)
        (lists G (gathers_then G (lists_word G k.Number)
        (λ text. gathers_scoped G
        (gathers_behind G 1 1
        (λ t. gathers_then G h
        (λ x. gathers_behind G 0 0 (λ c. gathers_give G (rw append-nil refl))))))))

    one_item : Lists P D.of_item (g.one_item inner)
    one_item =
        lists_or G repeated_item
        (lists G (gathers_then G h (λ x. gathers_give G (rw append-nil (D.one x)))))

    elements : Lists P D.of_init (g.elements inner)
    elements =
        lists_node G (flat_map D.of_item) D.of_init make_elements
        (filled_scoped (filled_first (filled_token 1 1)))
        (λ start end xs. D.elements (node_at start end) xs)
        (lists_scoped G (lists_enclosed G 1 1 0 0
        (lists_some G one_item (gathers_more G 0 0 one_item))))

    field_init : Lists P D.of_field (g.field_init inner)
    field_init =
        lists_node G (λ (p : Identifier × Init). of_identifier G p.0 ++ D.of_init p.1) D.of_field
        make_field_init (filled_first filled_identifier) (λ start end p. D.field (node_at start end)
        p.0 p.1)
        (lists G (gathers_then G (exprs.identifier G)
        (λ i. gathers_behind G 0 0
        (λ t. gathers_then G h (λ x. gathers_give G (rw append-nil refl))))))

    structure : Lists P D.of_init (g.structure inner)
    structure =
        lists_node G (flat_map D.of_field) D.of_init make_structure
        (filled_scoped (filled_first (filled_token 1 1)))
        (λ start end xs. D.structure (node_at start end) xs)
        (lists_scoped G (lists_enclosed G 1 1 0 0
        (lists_some G field_init (gathers_more G 0 0 field_init))))

    any_init : Lists P D.of_init (g.any_init inner)
    any_init =
        lists_or G elements (lists_or G structure
        (lists G (gathers_then G (exprs.expression E)
        (λ x. gathers_give G (rw append-nil (D.value x))))))

  init_within : (n : ℕ) → Lists P D.of_init (g.init_within n)
  unfolding g.init_within
  init_within zero = record { holds = λ d w x e l. absurd l }
  init_within (suc n) = any_init (g.init_within n) (init_within n)

  initial : Lists P D.of_init g.initial
  initial = record { holds = λ d w x e (n, l). (init_within n).holds d w x e l }

  optional_init : Lists P (list_if D.of_init) g.optional_init
  optional_init =
      lists_or G (lists G (gathers_behind G 0 0
      (λ t. gathers_then G initial (λ x. gathers_give G (sym (append-nil (D.of_init x)))))))
      (lists G (gathers_give G refl))

  optional_address : Lists P (list_if (of_address G)) g.optional_address
  optional_address =
      lists_or G (lists G (gathers_behind G 0 0 (λ t. gathers_then G (exprs.address G)
      (λ x. gathers_give G (sym (append-nil (of_address G x))))))) (lists G (gathers_give G refl))

  -- ---- declarations

  decl : Lists P (of_decl D) g.decl
  decl =
      lists_node G (λ (p : List Identifier × Option Address × Spec × Option Init). flat_map
      (of_identifier G) p.0
      ++ (list_if (of_address G) p.1 ++ (D.of_spec p.2 ++ list_if D.of_init p.3))) (of_decl D)
      make_decl
      (filled_first filled_names) (λ start end p. refl)
      (lists G (gathers_then G (exprs.names G) (λ ns. gathers_then G optional_address
      (λ a. gathers_behind G 0 0
      (λ c. gathers_then G spec (λ s. gathers_then G optional_init
      (λ i. gathers_behind G 0 0 (λ t.
      gathers_give G (rw append-nil refl)))))))))

  decls : Lists P (flat_map (of_decl D)) (g.each g.decl)
  decls = lists_many G (of_decl D) (gathers_another G decl)

  section : Lists P (of_section D) g.section
  section =
      lists_node G (λ (p : SectionKind × Option Keep × List Decl). flat_map (of_decl D) p.2)
      (of_section D) make_section (filled_first filled_section_word) (λ start end p. refl)
      (lists G (gathers_then G (section_word G)
      (λ kind. gathers_then G (keep G)
      (λ kept. gathers_then G decls
      (λ ds. gathers_behind G 0 0
      (λ t. gathers_give G (sym (append-nil (flat_map (of_decl D) ds)))))))))

  pub sections : Lists P (flat_map (of_section D)) g.sections
  sections = lists_many G (of_section D) (gathers_another G section)

  pub globals : Lists P (of_globals D) g.globals
  globals =
      lists_node G (λ (p : Option Keep × List Decl). flat_map (of_decl D) p.1) (of_globals D)
      make_globals (filled_first (filled_token 0 0)) (λ start end p. refl)
      (lists G (gathers_behind G 0 0
      (λ t. gathers_then G (keep G)
      (λ kept. gathers_then G decls
      (λ ds. gathers_behind G 0 0
      (λ t. gathers_give G (sym (append-nil (flat_map (of_decl D) ds)))))))))

  globals_list : Lists P (flat_map (of_globals D)) (g.each g.globals)
  globals_list = lists_many G (of_globals D) (gathers_another G globals)

  -- ---- types of the user

  fields : Lists P (of_fields D) g.fields
  fields =
      lists_node G (λ (p : List Identifier × Spec × Option Init). flat_map (of_identifier G) p.0
      ++ (D.of_spec p.1 ++ list_if D.of_init p.2)) (of_fields D) make_fields
      (filled_first filled_names) (λ start end p. refl)
      (lists G (gathers_then G (exprs.names G)
      (λ ns. gathers_behind G 0 0
      (λ c. gathers_then G spec (λ s. gathers_then G optional_init
      (λ i. gathers_behind G 0 0 (λ t.
      gathers_give G (rw append-nil refl))))))))

  struct_shape : Lists P (of_shape D) g.struct_shape
  struct_shape =
      lists_node G (flat_map (of_fields D)) (of_shape D) make_struct
      (filled_first (filled_token 0 0)) (λ start end p. refl)
      (lists_enclosed G 0 0 0 0 (lists_many G (of_fields D) (gathers_another G fields)))

  shape : Lists P (of_shape D) g.shape
  shape =
      lists_or G struct_shape
      (lists G (gathers_then G spec (λ s. gathers_give G (sym (append-nil (D.of_spec s))))))

  type_decl : Lists P (of_type_decl D) g.type_decl
  type_decl =
      lists_node G (λ (p : Identifier × Shape × Option Init). of_identifier G p.0
      ++ (of_shape D p.1 ++ list_if D.of_init p.2)) (of_type_decl D) make_type_decl
      (filled_first filled_identifier) (λ start end p. refl)
      (lists G (gathers_then G (exprs.identifier G)
      (λ name. gathers_behind G 0 0
      (λ c. gathers_then G shape (λ s. gathers_then G optional_init
      (λ i. gathers_behind G 0 0 (λ t.
      gathers_give G (rw append-nil refl))))))))

  pub types : Lists P (of_types D) g.types
  types =
      lists_node G (flat_map (of_type_decl D)) (of_types D) make_types
      (filled_first (filled_token 0 0)) (λ start end p. refl)
      (lists_enclosed G 0 0 0 0 (lists_many G (of_type_decl D) (gathers_another G type_decl)))

  -- ---- configurations

  tasks : Lists P (of_tasks D) g.tasks
  tasks =
      lists G (gathers_then G (lists_many G (of_task E) (gathers_another G (task E)))
      (λ found. gathers_then G
      (lists_many G (of_program_line G) (gathers_another G (program_line G)))
      (λ lines. gathers_give G (rw append-nil refl))))

  resource : Lists P (of_resource D) g.resource
  resource =
      lists_node G (λ (p : Identifier × Identifier × List Globals × Tasks). of_identifier G p.0
      ++ (of_identifier G p.1 ++ (flat_map (of_globals D) p.2 ++ of_tasks D p.3))) (of_resource D)
      make_resource
      (filled_first (filled_token 0 0)) (λ start end p. refl)
      (lists G (gathers_behind G 0 0 (λ t. gathers_then G (exprs.identifier G)
      (λ name. gathers_behind G 0 0 (λ o. gathers_then G (exprs.identifier G)
      (λ kind. gathers_then G globals_list (λ gs. gathers_then G tasks (λ ts.
      gathers_behind G 0 0 (λ c. gathers_give G (rw append-nil refl))))))))))

  pub config : Lists P (of_config D) g.config
  config =
      lists_node G (λ (p : Identifier × List Globals × List Resource × Tasks). of_identifier G p.0
      ++ (flat_map (of_globals D) p.1 ++ (flat_map (of_resource D) p.2 ++ of_tasks D p.3)))
      (of_config D) make_config
      (filled_first (filled_token 0 0)) (λ start end p. refl)
      (lists G (gathers_behind G 0 0 (λ t. gathers_then G (exprs.identifier G)
      (λ name. gathers_then G globals_list
      (λ gs. gathers_then G (lists_many G (of_resource D) (gathers_another G resource))
      (λ rs. gathers_then G tasks (λ ts.
      gathers_behind G 0 0 (λ c. gathers_give G (rw append-nil refl)))))))))
